use Rattle.std.proofs.Common.{sym, ◌∙◌, ap, length}
use Rattle.lv_circuits.proofs.More.{gives_below}
use Rattle.lv_circuits.proofs.rows.below.Goals as goal

pub carry-requires-clause-same : goal.carry-requires-clause-same
carry-requires-clause-same c = c.requires.same ∙ (sym c.in_ok-turned.ensures.count ∙ ap length (sym c.as_slice.ensures))

pub returns : goal.returns
returns c = gives_below c.args.and.now c.carry.new.and c.args.a.now c.args.b.now c.in_ok-turned.turned c.as_slice.result.now c.not-one.result c.zero.result c.in_ok-over.over c.not.result c.zero.ensures.is c.not-one.ensures c.as_slice.ensures c.not.ensures c.requires.same c.in_ok-turned.ensures.bits c.in_ok-over.ensures
