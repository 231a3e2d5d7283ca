use Rattle.std.proofs.Common.{length, not, refl}
use Rattle.lv_bits.specs.Values.{binary_of, is_less}
use Rattle.lv_bits.specs.declared.op.Op.TheVariants.{Ge}
use Rattle.lv_bits.specs.Digits.{number}
use Rattle.lv_circuits.specs.Words.{edge_bits, word_of}
use Rattle.lv_circuits.proofs.RowLaws.{as_single, gives_turn}
use Rattle.lv_circuits.proofs.rows.at_least.Goals as goal

pub returns : goal.returns
returns c = as_single c.args.and.now c.less.new.and c.in_ok-es.es c.not-e.result (λ v. not (is_less c.args.signed (length c.args.a.now) (number (edge_bits v c.args.a.now)) (number (edge_bits v c.args.b.now)))) (λ v. binary_of Ge c.args.signed (word_of v c.args.a.now) (word_of v c.args.b.now)) c.in_ok-es.ensures (gives_turn c.args.and.now c.less.new.and c.in_ok-less.less c.not-e.result (λ v. is_less c.args.signed (length c.args.a.now) (number (edge_bits v c.args.a.now)) (number (edge_bits v c.args.b.now))) c.not-e.ensures c.in_ok-less.ensures) (λ v. refl) (λ v h. refl)
