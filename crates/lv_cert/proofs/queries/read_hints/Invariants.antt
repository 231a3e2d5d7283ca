use Rattle.std.proofs.Common.{◌++◌, length}
use Rattle.lv_cert.specs.Sections.{hints}
use Rattle.lv_cert.proofs.Leading.{Leads}
use Rattle.lv_cert.proofs.queries.read_hints.Given as goal

abbrev pub invariant-loop-hints : goal.invariant-loop-hints
invariant-loop-hints l = Leads (hints l.id) (hints l.id) (λ xs. l.hints.items ++ xs) l.fn.input l.input

abbrev pub decreases-loop-hints : goal.decreases-loop-hints
decreases-loop-hints l = length l.input.words
