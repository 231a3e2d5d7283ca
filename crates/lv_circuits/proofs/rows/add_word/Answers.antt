use Rattle.lv_aig.specs.Edges.{edge_bit}
use Rattle.lv_bits.specs.Values.{binary_of}
use Rattle.lv_bits.specs.declared.op.Op.TheVariants.{Add}
use Rattle.lv_circuits.specs.Words.{edge_bits, word_of, sum_bits}
use Rattle.lv_circuits.proofs.RowLaws.{as_word, sum_length, add_value, zero_bit}
use Rattle.lv_circuits.proofs.rows.add_word.Goals as goal

pub returns : goal.returns
returns c signed =
    as_word c.args.and.now c.add.new.and c.in_ok-sum.sum.bits (λ v. sum_bits (edge_bit v c.zero-zero.result) (edge_bits v c.args.a.now) (edge_bits v c.args.b.now)) (λ v. binary_of Add signed (word_of v c.args.a.now) (word_of v c.args.b.now)) c.in_ok-sum.ensures.bits
    (λ v h. sum_length (edge_bit v c.zero-zero.result) v c.args.a.now c.args.b.now c.requires.same)
    (λ v h. add_value (edge_bit v c.zero-zero.result) v c.args.a.now c.args.b.now (zero_bit c.add.new.and v c.zero-zero.result c.zero-zero.ensures.is h) c.requires.same)
