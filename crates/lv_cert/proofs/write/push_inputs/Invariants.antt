use Rattle.std.proofs.Common.{◌≡◌, ◌++◌, drop, map}
use Rattle.lv_cert.specs.Words.{text_of}
use Rattle.lv_cert.specs.Lines.{input_line}
use Rattle.lv_cert.proofs.write.push_inputs.Given as goal

abbrev pub invariant-loop-value : goal.invariant-loop-value
invariant-loop-value l = l.out.items ++ text_of (map input_line (drop l.value-index l.input)) ≡ l.fn.out.items ++ text_of (map input_line l.input)
