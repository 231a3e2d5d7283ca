use Rattle.std.proofs.Common.{◌≡◌, ◌++◌, drop}
use Rattle.lv_cert.specs.Words.{text_of}
use Rattle.lv_cert.specs.Lines.{pair_lines}
use Rattle.lv_cert.proofs.write.push_pairs.Given as goal

abbrev pub invariant-loop-i : goal.invariant-loop-i
invariant-loop-i l = l.out.items ++ text_of (pair_lines (drop l.i l.left) (drop l.i l.right)) ≡ l.fn.out.items ++ text_of (pair_lines l.left l.right)
