use Rattle.std.proofs.Common.{Bool, List, map, not, false, refl}
use Rattle.lv_bits.specs.Values.{unary_of}
use Rattle.lv_bits.specs.declared.op.Op.TheVariants.{RedAnd}
use Rattle.lv_circuits.specs.Words.{edge_bits, word_of, fold_bits, kind_bit}
use Rattle.lv_circuits.specs.declared.gates.Kind.TheVariants.{Either}
use Rattle.lv_circuits.proofs.RowLaws.{as_single, gives_turn, gives_after, all_bits}
use Rattle.lv_circuits.proofs.rows.red_and.Goals as goal

pub returns : goal.returns
returns c =
    let any : List Bool → Bool = fold_bits (kind_bit Either) false in
    as_single c.args.and.now c.fold.new.and c.in_ok-es.es c.not-e.result (λ v. not (any (map not (edge_bits v c.args.a.now)))) (λ v. unary_of RedAnd (word_of v c.args.a.now)) c.in_ok-es.ensures
    (gives_turn c.args.and.now c.fold.new.and c.in_ok-any.any c.not-e.result (λ v. any (map not (edge_bits v c.args.a.now))) c.not-e.ensures
    (gives_after c.args.and.now c.args.and.now c.fold.new.and c.in_ok-turned.turned c.as_slice.result.now (λ v. map not (edge_bits v c.args.a.now)) c.in_ok-any.any any c.as_slice.ensures c.in_ok-turned.ensures.bits c.in_ok-any.ensures))
    (λ v. refl) (λ v h. all_bits v c.args.a.now)
