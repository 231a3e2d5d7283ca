use Rattle.std.proofs.Common.{◌+◌, ◌-◌, ◌≤◌, ◌++◌}
use Rattle.lv_cert.specs.Parts.{turns}
use Rattle.lv_cert.specs.Sections.{keeps, keep_part, above}
use Rattle.lv_cert.proofs.Leading.{Leads}
use Rattle.lv_cert.proofs.read.read_keeps.Given as goal

abbrev pub invariant-loop-i : goal.invariant-loop-i
invariant-loop-i l = Leads (keeps l.count l.total) (turns (keep_part l.count) above (l.total - l.i) l.low) (λ xs. l.kept.items ++ xs) l.fn.input l.input × (l.low + (l.total - l.i) ≤ l.count)
