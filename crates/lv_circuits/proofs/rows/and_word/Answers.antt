use Rattle.lv_bits.specs.Values.{binary_of}
use Rattle.lv_bits.specs.declared.op.Op.TheVariants.{And}
use Rattle.lv_circuits.specs.Words.{edge_bits, word_of, zip_bits, kind_bit}
use Rattle.lv_circuits.specs.declared.gates.Kind.TheVariants.{Both}
use Rattle.lv_circuits.proofs.RowLaws.{as_word, zip_length, and_value}
use Rattle.lv_circuits.proofs.rows.and_word.Goals as goal

pub returns : goal.returns
returns c signed = as_word c.args.and.now c.zip.new.and c.in_ok-es.es (λ v. zip_bits (kind_bit Both) (edge_bits v c.args.a.now) (edge_bits v c.args.b.now)) (λ v. binary_of And signed (word_of v c.args.a.now) (word_of v c.args.b.now)) c.in_ok-es.ensures.bits (λ v h. zip_length (kind_bit Both) v c.args.a.now c.args.b.now c.requires.same) (λ v h. and_value v c.args.a.now c.args.b.now c.requires.same)
