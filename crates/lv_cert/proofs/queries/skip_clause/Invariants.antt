use Rattle.std.proofs.Common.{List, ◌++◌, length, true}
use Rattle.lv_clauses.specs.Literals.{Lit}
use Rattle.lv_cert.specs.Sections.{literals}
use Rattle.lv_cert.proofs.Leading.{Leads}
use Rattle.lv_cert.proofs.queries.skip_clause.Given as goal

abbrev pub invariant-loop-lit : goal.invariant-loop-lit
invariant-loop-lit l = (done : List Lit) × Leads (literals l.vars true 0) (literals l.vars true l.low) (λ xs. done ++ xs) l.fn.input l.input

abbrev pub decreases-loop-lit : goal.decreases-loop-lit
decreases-loop-lit l = length l.input.words
