use Rattle.lv_blast.specs.Encoding.{input_widths}
use Rattle.lv_blast.proofs.Words.{words_fit, words_are, values_there}
use Rattle.lv_blast.proofs.blast.inputs_are_bits.Goals as goal

pub returns : goal.returns
returns c = record { fit = λ net v. (words_fit net v, words_are v 1 (input_widths net)); each = values_there }
