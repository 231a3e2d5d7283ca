use Rattle.std.proofs.Common.{◌≡◌, ◌+◌, ◌-◌}
use Rattle.lv_clauses.specs.Values.{values_of}
use Rattle.lv_bits.specs.Digits.{number}
use Rattle.lv_bits.specs.Digits.{bits_from}
use Rattle.lv_blast.proofs.encoded.word_of.Given as goal

abbrev pub invariant-loop-k : goal.invariant-loop-k
invariant-loop-k l = l.value ≡ number (bits_from (values_of l.found) (l.from + (l.width - l.k)) l.k)
