use Rattle.lv_bits.specs.Values.{binary_of}
use Rattle.lv_bits.specs.declared.op.Op.TheVariants.{Or}
use Rattle.lv_circuits.specs.Words.{edge_bits, word_of, zip_bits, kind_bit}
use Rattle.lv_circuits.specs.declared.gates.Kind.TheVariants.{Either}
use Rattle.lv_circuits.proofs.RowLaws.{as_word, zip_length, or_value}
use Rattle.lv_circuits.proofs.rows.or_word.Goals as goal

pub returns : goal.returns
returns c signed = as_word c.args.and.now c.zip.new.and c.in_ok-es.es (λ v. zip_bits (kind_bit Either) (edge_bits v c.args.a.now) (edge_bits v c.args.b.now)) (λ v. binary_of Or signed (word_of v c.args.a.now) (word_of v c.args.b.now)) c.in_ok-es.ensures.bits (λ v h. zip_length (kind_bit Either) v c.args.a.now c.args.b.now c.requires.same) (λ v h. or_value v c.args.a.now c.args.b.now c.requires.same)
