use Rattle.std.proofs.Common.{map, not}
use Rattle.lv_bits.specs.Values.{binary_of}
use Rattle.lv_bits.specs.declared.op.Op.TheVariants.{Xnor}
use Rattle.lv_circuits.specs.Words.{edge_bits, word_of, zip_bits, kind_bit}
use Rattle.lv_circuits.specs.declared.gates.Kind.TheVariants.{Differ}
use Rattle.lv_circuits.proofs.RowLaws.{as_word, bits_after, xnor_length, xnor_value}
use Rattle.lv_circuits.proofs.rows.xnor_word.Goals as goal

pub returns : goal.returns
returns c signed = as_word c.args.and.now c.zip.new.and c.in_ok-es.es (λ v. map not (zip_bits (kind_bit Differ) (edge_bits v c.args.a.now) (edge_bits v c.args.b.now))) (λ v. binary_of Xnor signed (word_of v c.args.a.now) (word_of v c.args.b.now))
    (bits_after c.args.and.now c.zip.new.and c.zip.new.and c.in_ok-differ.differ c.as_slice.result.now c.in_ok-es.es (λ v. zip_bits (kind_bit Differ) (edge_bits v c.args.a.now) (edge_bits v c.args.b.now)) (λ v bs. map not bs) c.as_slice.ensures c.in_ok-differ.ensures.bits c.in_ok-es.ensures.bits)
    (λ v h. xnor_length v c.args.a.now c.args.b.now c.requires.same) (λ v h. xnor_value v c.args.a.now c.args.b.now c.requires.same)
