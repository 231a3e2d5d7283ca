use Rattle.std.proofs.Common.{◌≡◌, ◌+◌, ◌++◌, drop}
use Rattle.lv_cert.specs.Words.{text_of}
use Rattle.lv_cert.specs.Lines.{step_lines}
use Rattle.lv_cert.proofs.write.push_steps.Given as goal

abbrev pub invariant-loop-k : goal.invariant-loop-k
invariant-loop-k l = l.out.items ++ text_of (step_lines (l.count + 1 + l.k) (drop l.k l.lines)) ≡ l.fn.out.items ++ text_of (step_lines (l.count + 1) l.lines)
