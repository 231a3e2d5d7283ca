use Rattle.std.proofs.Common.{length, map, not, sym, ◌∙◌, ap}
use Rattle.lv_aig.specs.Edges.{edge_bit}
use Rattle.lv_bits.specs.Values.{binary_of}
use Rattle.lv_bits.specs.declared.op.Op.TheVariants.{Sub}
use Rattle.lv_circuits.specs.Words.{edge_bits, word_of, sum_bits}
use Rattle.lv_circuits.proofs.RowLaws.{as_word, bits_after, sub_length, sub_value, one_bit}
use Rattle.lv_circuits.proofs.rows.sub_word.Goals as goal

pub add-requires-clause-same : goal.add-requires-clause-same
add-requires-clause-same c = c.requires.same ∙ (sym c.in_ok-turned.ensures.count ∙ ap length (sym c.as_slice.ensures))

pub returns : goal.returns
returns c signed =
    as_word c.args.and.now c.add.new.and c.in_ok-sum.sum.bits (λ v. sum_bits (edge_bit v c.not-one.result) (edge_bits v c.args.a.now) (map not (edge_bits v c.args.b.now))) (λ v. binary_of Sub signed (word_of v c.args.a.now) (word_of v c.args.b.now))
    (bits_after c.args.and.now c.args.and.now c.add.new.and c.in_ok-turned.turned c.as_slice.result.now c.in_ok-sum.sum.bits (λ v. map not (edge_bits v c.args.b.now)) (λ v bs. sum_bits (edge_bit v c.not-one.result) (edge_bits v c.args.a.now) bs) c.as_slice.ensures c.in_ok-turned.ensures.bits c.in_ok-sum.ensures.bits)
    (λ v h. sub_length (edge_bit v c.not-one.result) v c.args.a.now c.args.b.now c.requires.same)
    (λ v h. sub_value (edge_bit v c.not-one.result) v c.args.a.now c.args.b.now (one_bit c.add.new.and v c.not-one.result c.zero.result c.zero.ensures.is c.not-one.ensures h) c.requires.same)
