use Rattle.std.proofs.Common.{◌<◌, ◌+◌, ◌∷◌, [], Bool, ℕ, List, length, drop, if◌then◌else◌, arith, sym, subst, ap, length-append}
use Rattle.lv_aig.specs.declared.edge.Edge.{Edge}
use Rattle.lv_aig.specs.Edges.{edge_bit}
use Rattle.lv_circuits.specs.Words.{edge_bits, zip_bits}
use Rattle.lv_circuits.proofs.Steps.{Partly, partly_step, zip_step}
use Rattle.lv_circuits.proofs.words.choose.Goals as goal

pub loop-i-preserved : goal.loop-i-preserved
loop-i-preserved c =
    let f : (ℕ → Bool) → Bool → Bool → Bool = λ v x y. if edge_bit v c.args.c then x else y in
    let rest : ℕ → (ℕ → Bool) → List Bool = λ i v. zip_bits (f v) (drop i (edge_bits v c.args.a.now)) (drop i (edge_bits v c.args.b.now)) in
    let whole : (ℕ → Bool) → List Bool = λ v. zip_bits (f v) (edge_bits v c.args.a.now) (edge_bits v c.args.b.now) in
    let ha : c.loop-i.i < length c.args.a.now = omega arith in
    let hb : c.loop-i.i < length c.args.b.now = omega arith in
    record {
      made = subst (λ (out : List Edge). Partly c.args.and.now c.mux.new.and out (rest (c.loop-i.i + 1)) whole) (sym c.in_ok-push.ensures.ok)
          (partly_step c.args.and.now c.loop-i.and c.mux.new.and c.loop-i.out c.in_ok-e.e (rest c.loop-i.i) whole (rest (c.loop-i.i + 1)) (λ v. f v (edge_bit v c.edge-x.result) (edge_bit v c.edge-y.result)) c.loop-i.invariant.made c.in_ok-e.ensures
          (λ v h. zip_step (f v) v c.args.a.now c.args.b.now c.loop-i.i c.edge-x.result c.edge-y.result ha hb c.edge-x.ensures c.edge-y.ensures));
      count = omega (arith, ap length c.in_ok-push.ensures.ok, length-append c.loop-i.out (c.in_ok-e.e ∷ []), c.loop-i.invariant.count);
    }
