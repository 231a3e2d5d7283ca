use Rattle.std.proofs.Common.{false, refl}
use Rattle.lv_bits.specs.Values.{unary_of}
use Rattle.lv_bits.specs.declared.op.Op.TheVariants.{RedXor}
use Rattle.lv_circuits.specs.Words.{edge_bits, word_of, fold_bits, kind_bit}
use Rattle.lv_circuits.specs.declared.gates.Kind.TheVariants.{Differ}
use Rattle.lv_circuits.proofs.RowLaws.{as_single, odd_bits}
use Rattle.lv_circuits.proofs.rows.red_xor.Goals as goal

pub returns : goal.returns
returns c = as_single c.args.and.now c.fold.new.and c.in_ok-es.es c.in_ok-e.e (λ v. fold_bits (kind_bit Differ) false (edge_bits v c.args.a.now)) (λ v. unary_of RedXor (word_of v c.args.a.now)) c.in_ok-es.ensures c.in_ok-e.ensures (λ v. refl) (λ v h. odd_bits (edge_bits v c.args.a.now))
