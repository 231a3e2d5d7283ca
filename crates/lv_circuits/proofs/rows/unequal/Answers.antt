use Rattle.std.proofs.Common.{Bool, List, false, refl}
use Rattle.lv_bits.specs.Values.{binary_of}
use Rattle.lv_bits.specs.declared.op.Op.TheVariants.{Ne}
use Rattle.lv_circuits.specs.Words.{edge_bits, word_of, zip_bits, fold_bits, kind_bit}
use Rattle.lv_circuits.specs.declared.gates.Kind.TheVariants.{Either, Differ}
use Rattle.lv_circuits.proofs.RowLaws.{as_single, gives_after, other_bits}
use Rattle.lv_circuits.proofs.rows.unequal.Goals as goal

pub returns : goal.returns
returns c signed =
    let any : List Bool → Bool = fold_bits (kind_bit Either) false in
    as_single c.args.and.now c.fold.new.and c.in_ok-es.es c.in_ok-e.e (λ v. any (zip_bits (kind_bit Differ) (edge_bits v c.args.a.now) (edge_bits v c.args.b.now))) (λ v. binary_of Ne signed (word_of v c.args.a.now) (word_of v c.args.b.now)) c.in_ok-es.ensures
    (gives_after c.args.and.now c.zip.new.and c.fold.new.and c.in_ok-differ.differ c.as_slice.result.now (λ v. zip_bits (kind_bit Differ) (edge_bits v c.args.a.now) (edge_bits v c.args.b.now)) c.in_ok-e.e any c.as_slice.ensures c.in_ok-differ.ensures.bits c.in_ok-e.ensures)
    (λ v. refl) (λ v h. other_bits v c.args.a.now c.args.b.now c.requires.same)
