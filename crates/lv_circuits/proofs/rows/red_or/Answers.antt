use Rattle.std.proofs.Common.{false, refl}
use Rattle.lv_bits.specs.Values.{unary_of}
use Rattle.lv_bits.specs.declared.op.Op.TheVariants.{RedOr}
use Rattle.lv_circuits.specs.Words.{edge_bits, word_of, fold_bits, kind_bit}
use Rattle.lv_circuits.specs.declared.gates.Kind.TheVariants.{Either}
use Rattle.lv_circuits.proofs.RowLaws.{as_single, some_bit}
use Rattle.lv_circuits.proofs.rows.red_or.Goals as goal

pub returns : goal.returns
returns c = as_single c.args.and.now c.fold.new.and c.in_ok-es.es c.in_ok-e.e (λ v. fold_bits (kind_bit Either) false (edge_bits v c.args.a.now)) (λ v. unary_of RedOr (word_of v c.args.a.now)) c.in_ok-es.ensures c.in_ok-e.ensures (λ v. refl) (λ v h. some_bit (edge_bits v c.args.a.now))
