use Rattle.std.proofs.Common.{rules}
use Rattle.lv_paths.proofs.Masks.{taken-holds}
use Rattle.lv_paths.proofs.done.take_span.Goals as goal

pub returns : goal.returns
returns c = λ q i.
    taken-holds c.args.done.now.entries c.insert.new.self.entries c.args.span.signal c.args.span.element c.args.span.mask _ (search rules) c.in_ok-insert.ensures.updates.0 q i
