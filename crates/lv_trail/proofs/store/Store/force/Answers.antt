use Rattle.std.proofs.Common.{sym, ◌∙◌}
use Rattle.lv_trail.proofs.Pushing.{free-unit}
use Rattle.lv_trail.proofs.store.Store.force.Goals as goal

pub push-requires-clause-free : goal.push-requires-clause-free
push-requires-clause-free c = free-unit c.args.self.now c.requires.sound c.args.lit c.args.id (c.requires.reason (sym c.is_true.ensures ∙ c.if-is_true.false))
