use Rattle.std.proofs.Common.{length, refl}
use Rattle.lv_bits.specs.Values.{binary_of, is_less}
use Rattle.lv_bits.specs.declared.op.Op.TheVariants.{Lt}
use Rattle.lv_bits.specs.Digits.{number}
use Rattle.lv_circuits.specs.Words.{edge_bits, word_of}
use Rattle.lv_circuits.proofs.RowLaws.{as_single}
use Rattle.lv_circuits.proofs.rows.is_below.Goals as goal

pub returns : goal.returns
returns c = as_single c.args.and.now c.less.new.and c.in_ok-es.es c.in_ok-less.less (λ v. is_less c.args.signed (length c.args.a.now) (number (edge_bits v c.args.a.now)) (number (edge_bits v c.args.b.now))) (λ v. binary_of Lt c.args.signed (word_of v c.args.a.now) (word_of v c.args.b.now)) c.in_ok-es.ensures c.in_ok-less.ensures (λ v. refl) (λ v h. refl)
