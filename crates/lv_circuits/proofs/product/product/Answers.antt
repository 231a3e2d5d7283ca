use Rattle.std.proofs.Common.{◌<◌, ◌-◌, ◌∷◌, [], length, arith, ap, sym, ◌∙◌, refl, length-append}
use Rattle.std.proofs.lemmas.List.{length-replicate, length-take-le}
use Rattle.lv_aig.specs.declared.edge.Edge.{Edge}
use Rattle.lv_aig.proofs.Graphs.{grows_refl, grows_trans, valuation_back}
use Rattle.lv_circuits.proofs.Steps.{below_more, below_end}
use Rattle.lv_circuits.proofs.Moves.{below_replicate, below_take, below_same}
use Rattle.lv_circuits.proofs.Products.{product_first, product_more, product_last}
use Rattle.lv_circuits.proofs.product.product.Goals as goal

pub loop-i-init : goal.loop-i-init
loop-i-init c = record {
  grows = grows_refl c.args.and.now;
  low = below_same (length c.args.and.now) [] c.new-low.result c.new-low.ensures (λ i lt. absurd (omega arith));
  high = let z : c.zero-zero.result.node < length c.args.and.now = omega (arith, ap (λ (e : Edge). e.node) c.zero-zero.ensures.is, c.zero-zero.ensures.some) in
      below_same (length c.args.and.now) _ c.in_ok-high.high c.in_ok-high.ensures (below_replicate (length c.args.and.now) (length c.args.a.now) c.zero-zero.result z);
  low_count = ap length c.new-low.ensures;
  high_count = ap length c.in_ok-high.ensures ∙ (length-replicate (length c.args.a.now) c.zero-zero.result ∙ omega arith);
  is = λ v val. product_first c.args.and.now v c.args.a.now c.args.b.now c.new-low.result c.in_ok-high.high c.zero-zero.result c.new-low.ensures c.in_ok-high.ensures c.zero-zero.ensures.is val;
}

pub row-requires-clause-high : goal.row-requires-clause-high
row-requires-clause-high c = below_same (length c.loop-i.and) c.loop-i.high c.as_slice.result.now c.as_slice.ensures c.loop-i.invariant.high

pub row-requires-clause-a : goal.row-requires-clause-a
row-requires-clause-a c =
    below_take (length c.loop-i.and) (length c.args.a.now - c.loop-i.i) c.args.a.now (omega arith)
    (below_more (length c.args.and.now) (length c.loop-i.and) c.args.a.now c.loop-i.invariant.grows.more c.requires.a)

pub row-requires-clause-c : goal.row-requires-clause-c
row-requires-clause-c c =
    omega (arith, ap (λ (e : Edge). e.node) c.edge-c.ensures, c.requires.b c.loop-i.i (let h : c.loop-i.i < length c.args.b.now = omega arith in h), c.loop-i.invariant.grows.more)

pub row-requires-clause-same : goal.row-requires-clause-same
row-requires-clause-same c =
    ap length c.as_slice.ensures ∙ (c.loop-i.invariant.high_count ∙ sym (length-take-le (length c.args.a.now - c.loop-i.i) c.args.a.now (omega arith)))

pub row-requires-clause-some : goal.row-requires-clause-some
row-requires-clause-some c = omega (arith, ap length c.as_slice.ensures, c.loop-i.invariant.high_count, c.requires.same)

pub loop-i-preserved : goal.loop-i-preserved
loop-i-preserved c =
    let ha : c.loop-i.i < length c.args.a.now = omega (arith, c.requires.same) in
    let hb : c.loop-i.i < length c.args.b.now = omega arith in
    let r = c.in_ok-sum.ensures in
    record {
      grows = grows_trans c.args.and.now c.loop-i.and c.row.new.and c.loop-i.invariant.grows r.grows;
      low = below_same (length c.row.new.and) _ c.push.new.self c.in_ok-push.ensures.ok
          (below_end (length c.row.new.and) c.loop-i.low c.in_ok-sum.sum.low (below_more (length c.loop-i.and) (length c.row.new.and) c.loop-i.low r.grows.more c.loop-i.invariant.low) r.low);
      high = r.high;
      low_count = omega (arith, ap length c.in_ok-push.ensures.ok, length-append c.loop-i.low (c.in_ok-sum.sum.low ∷ []), c.loop-i.invariant.low_count);
      high_count = omega (arith, r.count, ap length c.as_slice.ensures, c.loop-i.invariant.high_count);
      is = λ v val. product_more c.row.new.and v c.args.a.now c.args.b.now c.loop-i.low c.loop-i.high c.as_slice.result.now _ c.push.new.self c.in_ok-sum.sum.high c.edge-c.result c.in_ok-sum.sum.low c.loop-i.i val ha hb c.loop-i.invariant.low_count c.as_slice.ensures refl c.edge-c.ensures c.in_ok-push.ensures.ok
          (c.loop-i.invariant.is v (valuation_back c.loop-i.and c.row.new.and v r.grows val)) (r.is v val);
    }

pub returns-clause-is : goal.returns-clause-is
returns-clause-is c = λ v val.
    product_last v c.args.a.now c.args.b.now c.loop-i.low c.loop-i.high c.loop-i.i (omega arith) c.requires.same c.loop-i.invariant.low_count (omega (arith, c.loop-i.invariant.high_count, c.requires.same)) (c.loop-i.invariant.is v val)
