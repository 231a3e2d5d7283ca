use Rattle.std.proofs.Common.{◌∙◌, ◌++◌, ◌∷◌, [], List, ℕ, ap, arith}
use Rattle.lv_netlist.specs.declared.node.Register.{Register}
use Rattle.lv_product.proofs.Opened.{widths_more}
use Rattle.lv_product.proofs.inputs.register_widths.Goals as goal

pub loop-k-preserved : goal.loop-k-preserved
loop-k-preserved c =
    widths_more (λ (r : List ℕ × Register). r.1.width) c.args.graph.now.registers _ c.loop-k.k c.register_width-width.result c.loop-k.widths.items
    c.push_reserved.new.self.items
    (omega arith) c.register_width-width.ensures.is (c.push_reserved.ensures.items ∙
    ap (λ (xs : List ℕ). xs ++ c.register_width-width.result ∷ []) c.reserve.ensures.items) c.loop-k.invariant
