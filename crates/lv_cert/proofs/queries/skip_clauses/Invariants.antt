use Rattle.std.proofs.Common.{◌-◌, List, ◌++◌}
use Rattle.lv_clauses.specs.Literals.{Lit}
use Rattle.lv_cert.specs.Parts.{turns}
use Rattle.lv_cert.specs.Sections.{clauses, clause_part, same}
use Rattle.lv_cert.proofs.Leading.{Leads}
use Rattle.lv_cert.proofs.queries.skip_clauses.Given as goal

abbrev pub invariant-loop-i : goal.invariant-loop-i
invariant-loop-i l = (done : List (List Lit)) × Leads (clauses l.vars l.count) (turns (clause_part l.vars) same (l.count - l.i) 0) (λ xs. done ++ xs) l.fn.input l.input
