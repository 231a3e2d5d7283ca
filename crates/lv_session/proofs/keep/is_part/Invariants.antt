use Rattle.std.proofs.Common.{take}
use Rattle.lv_clauses.specs.Derivations.{IsPart}
use Rattle.lv_session.proofs.keep.is_part.Given as goal

abbrev pub invariant-loop-lit : goal.invariant-loop-lit
invariant-loop-lit l = IsPart (take l.lit-index l.lits) l.others
