use Rattle.lv_cert.specs.Inputs.{IsAt}
use Rattle.lv_cert.proofs.words.end_of_word.Given as goal

abbrev pub invariant-loop-i : goal.invariant-loop-i
invariant-loop-i l = IsAt l.bytes l.i
