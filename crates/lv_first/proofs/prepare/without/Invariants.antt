use Rattle.std.proofs.Common.{◌≡◌, take}
use Rattle.std.specs.Prelude.{filter, not, bytes_eq}
use Rattle.lv_first.proofs.prepare.without.Given as goal

abbrev pub invariant-loop-other : goal.invariant-loop-other
invariant-loop-other l = l.texts ≡ filter (λ x. not (bytes_eq x l.name)) (take l.other-index l.names)
