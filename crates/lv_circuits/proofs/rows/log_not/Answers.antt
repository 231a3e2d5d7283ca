use Rattle.std.proofs.Common.{not, false, refl}
use Rattle.lv_bits.specs.Values.{unary_of}
use Rattle.lv_bits.specs.declared.op.Op.TheVariants.{LogNot}
use Rattle.lv_circuits.specs.Words.{edge_bits, word_of, fold_bits, kind_bit}
use Rattle.lv_circuits.specs.declared.gates.Kind.TheVariants.{Either}
use Rattle.lv_circuits.proofs.RowLaws.{as_single, gives_turn, no_bit}
use Rattle.lv_circuits.proofs.rows.log_not.Goals as goal

pub returns : goal.returns
returns c = as_single c.args.and.now c.fold.new.and c.in_ok-es.es c.not-e.result (λ v. not (fold_bits (kind_bit Either) false (edge_bits v c.args.a.now))) (λ v. unary_of LogNot (word_of v c.args.a.now)) c.in_ok-es.ensures (gives_turn c.args.and.now c.fold.new.and c.in_ok-any.any c.not-e.result (λ v. fold_bits (kind_bit Either) false (edge_bits v c.args.a.now)) c.not-e.ensures c.in_ok-any.ensures) (λ v. refl) (λ v h. no_bit (edge_bits v c.args.a.now))
