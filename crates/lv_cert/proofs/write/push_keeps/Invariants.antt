use Rattle.std.proofs.Common.{◌≡◌, ◌++◌, drop, map}
use Rattle.lv_cert.specs.Words.{text_of}
use Rattle.lv_cert.specs.Lines.{keep_line}
use Rattle.lv_cert.proofs.write.push_keeps.Given as goal

abbrev pub invariant-loop-number : goal.invariant-loop-number
invariant-loop-number l = l.out.items ++ text_of (map keep_line (drop l.number-index l.kept)) ≡ l.fn.out.items ++ text_of (map keep_line l.kept)
