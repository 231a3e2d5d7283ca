use Rattle.std.proofs.Common.{◌<◌, ◌^◌, drop}
use Rattle.lv_cert.proofs.Numbers.{Continues}
use Rattle.lv_cert.proofs.number.digits_of.Given as goal

abbrev pub invariant-loop-letter : goal.invariant-loop-letter
invariant-loop-letter l = Continues l.letters l.number (drop l.letter-index l.letters) × (l.number < 2 ^ 128)
