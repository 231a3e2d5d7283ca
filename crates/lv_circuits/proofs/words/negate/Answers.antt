use Rattle.std.proofs.Common.{◌<◌, ◌+◌, ◌∷◌, [], Bool, not, map, ℕ, List, length, drop, arith, sym, subst, ◌∙◌, ap, length-append}
use Rattle.lv_aig.specs.declared.edge.Edge.{Edge}
use Rattle.lv_aig.specs.Edges.{Gives, edge_bit}
use Rattle.lv_circuits.specs.Words.{edge_bits}
use Rattle.lv_aig.proofs.Graphs.{grows_refl}
use Rattle.lv_circuits.proofs.Steps.{Partly, partly_step, map_step}
use Rattle.lv_circuits.proofs.Joins.{turn_bit}
use Rattle.lv_circuits.proofs.words.negate.Goals as goal

pub loop-i-preserved : goal.loop-i-preserved
loop-i-preserved c =
    let rest : ℕ → (ℕ → Bool) → List Bool = λ i v. map not (drop i (edge_bits v c.args.a.now)) in
    let whole : (ℕ → Bool) → List Bool = λ v. map not (edge_bits v c.args.a.now) in
    let ha : c.loop-i.i < length c.args.a.now = omega arith in
    let below : c.edge-x.result.node < length c.args.and.now = subst (λ (x : Edge). x.node < length c.args.and.now) (sym c.edge-x.ensures) (c.requires c.loop-i.i ha) in
    let g : Gives c.args.and.now c.args.and.now c.not-e.result (λ v. not (edge_bit v c.edge-x.result)) = record {
      grows = grows_refl c.args.and.now;
      edge = subst (λ (x : Edge). x.node < length c.args.and.now) (sym c.not-e.ensures) below;
      is = λ v h. ap (edge_bit v) c.not-e.ensures ∙ turn_bit v c.edge-x.result;
    } in
    record {
      made = subst (λ (out : List Edge). Partly c.args.and.now c.args.and.now out (rest (c.loop-i.i + 1)) whole) (sym c.in_ok-push.ensures.ok)
          (partly_step c.args.and.now c.args.and.now c.args.and.now c.loop-i.out c.not-e.result (rest c.loop-i.i) whole (rest (c.loop-i.i + 1)) (λ v. not (edge_bit v c.edge-x.result)) c.loop-i.invariant.made g
          (λ v h. map_step not v c.args.a.now c.loop-i.i c.edge-x.result ha c.edge-x.ensures));
      count = omega (arith, ap length c.in_ok-push.ensures.ok, length-append c.loop-i.out (c.not-e.result ∷ []), c.loop-i.invariant.count);
    }
