use Rattle.lv_stands.proofs.Standing.{few_bits, below_enough}
use Rattle.lv_stands.proofs.free_bits_are_enough.Goals as goal

pub returns : goal.returns
returns c = record { bits = few_bits; budget = below_enough }
