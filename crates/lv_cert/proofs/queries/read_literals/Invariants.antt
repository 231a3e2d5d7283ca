use Rattle.std.proofs.Common.{◌++◌, length}
use Rattle.lv_cert.specs.Sections.{literals}
use Rattle.lv_cert.proofs.Leading.{Leads}
use Rattle.lv_cert.proofs.queries.read_literals.Given as goal

abbrev pub invariant-loop-lits : goal.invariant-loop-lits
invariant-loop-lits l = Leads (literals l.vars l.last 0) (literals l.vars l.last l.low) (λ xs. l.lits.items ++ xs) l.fn.input l.input

abbrev pub decreases-loop-lits : goal.decreases-loop-lits
decreases-loop-lits l = length l.input.words
