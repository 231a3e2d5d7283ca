use Rattle.std.proofs.Common.{◌-◌, ◌++◌}
use Rattle.lv_cert.specs.Parts.{turns}
use Rattle.lv_cert.specs.Sections.{inputs, input_part, same}
use Rattle.lv_cert.proofs.Leading.{Leads}
use Rattle.lv_cert.proofs.read.read_values.Given as goal

abbrev pub invariant-loop-i : goal.invariant-loop-i
invariant-loop-i l = Leads (inputs l.count) (turns input_part same (l.count - l.i) 0) (λ xs. l.values.items ++ xs) l.fn.input l.input
