use Rattle.std.proofs.Common.{◌≡◌, map, take}
use Rattle.lv_clauses.specs.Literals.{negated}
use Rattle.lv_session.proofs.block.negations.Given as goal

abbrev pub invariant-loop-lit : goal.invariant-loop-lit
invariant-loop-lit l = l.all.items ≡ map negated (take l.lit-index l.lits)
