use Rattle.std.proofs.Common.{◌≡◌, ◌∙◌, ◌++◌, ◌∷◌, [], ℕ, Bool, List, length, refl, ap, subst, arith}
use Rattle.lv_product.specs.Marks.{AreMarks}
use Rattle.lv_product.proofs.Marking.{marks_none, marks_step}
use Rattle.lv_product.proofs.marks.pure_nodes.Goals as goal

pub loop-k-init : goal.loop-k-init
loop-k-init c = marks_none c.args.state c.args.graph.now c.new-marks.result.items c.new-marks.ensures.items

pub loop-k-preserved : goal.loop-k-preserved
loop-k-preserved c =
    marks_step c.args.state c.args.graph.now c.loop-k.k c.is_pure-pure.result c.loop-k.marks.items c.as_slice.result.now c.push_reserved.new.self.items
    c.node-node.result c.node-node.result (omega arith) c.node-node.ensures.typed c.node-node.ensures.is c.as_slice.ensures.value refl c.is_pure-pure.ensures
    (c.push_reserved.ensures.items ∙ ap (λ (xs : List Bool). xs ++ c.is_pure-pure.result ∷ []) c.reserve.ensures.items) c.loop-k.invariant

pub returns : goal.returns
returns c =
    let e : c.loop-k.k ≡ length c.args.graph.now.nodes = omega arith in
    subst (λ (n : ℕ). AreMarks c.args.state c.args.graph.now n c.loop-k.marks.items) e c.loop-k.invariant
