use Rattle.lv_bits.specs.Values.{binary_of}
use Rattle.lv_bits.specs.declared.op.Op.TheVariants.{Xor}
use Rattle.lv_circuits.specs.Words.{edge_bits, word_of, zip_bits, kind_bit}
use Rattle.lv_circuits.specs.declared.gates.Kind.TheVariants.{Differ}
use Rattle.lv_circuits.proofs.RowLaws.{as_word, zip_length, xor_value}
use Rattle.lv_circuits.proofs.rows.xor_word.Goals as goal

pub returns : goal.returns
returns c signed = as_word c.args.and.now c.zip.new.and c.in_ok-es.es (λ v. zip_bits (kind_bit Differ) (edge_bits v c.args.a.now) (edge_bits v c.args.b.now)) (λ v. binary_of Xor signed (word_of v c.args.a.now) (word_of v c.args.b.now)) c.in_ok-es.ensures.bits (λ v h. zip_length (kind_bit Differ) v c.args.a.now c.args.b.now c.requires.same) (λ v h. xor_value v c.args.a.now c.args.b.now c.requires.same)
