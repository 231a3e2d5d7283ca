use Rattle.std.proofs.Common.{ℕ, length, refl, sym, ap}
use Rattle.lv_bits.specs.Values.{bit, binary_of, is_less}
use Rattle.lv_bits.specs.declared.op.Op.TheVariants.{Gt}
use Rattle.lv_bits.specs.Digits.{number}
use Rattle.lv_circuits.specs.Words.{edge_bits, word_of}
use Rattle.lv_circuits.proofs.RowLaws.{as_single}
use Rattle.lv_circuits.proofs.rows.is_above.Goals as goal

pub returns : goal.returns
returns c = as_single c.args.and.now c.less.new.and c.in_ok-es.es c.in_ok-less.less (λ v. is_less c.args.signed (length c.args.b.now) (number (edge_bits v c.args.b.now)) (number (edge_bits v c.args.a.now))) (λ v. binary_of Gt c.args.signed (word_of v c.args.a.now) (word_of v c.args.b.now)) c.in_ok-es.ensures c.in_ok-less.ensures (λ v. refl) (λ v h. ap (λ (n : ℕ). bit (is_less c.args.signed n (number (edge_bits v c.args.b.now)) (number (edge_bits v c.args.a.now)))) (sym c.requires.same))
