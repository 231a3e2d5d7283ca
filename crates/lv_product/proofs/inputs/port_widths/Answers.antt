use Rattle.std.proofs.Common.{◌∙◌, ◌++◌, ◌∷◌, [], List, ℕ, ap, arith}
use Rattle.lv_product.proofs.Opened.{widths_more}
use Rattle.lv_product.proofs.inputs.port_widths.Goals as goal

pub loop-k-preserved : goal.loop-k-preserved
loop-k-preserved c =
    widths_more (λ (p : List ℕ × ℕ). p.1) c.args.graph.now.inputs _ c.loop-k.k c.input_width-width.result c.loop-k.widths.items
    c.push_reserved.new.self.items
    (omega arith) c.input_width-width.ensures.is (c.push_reserved.ensures.items ∙
    ap (λ (xs : List ℕ). xs ++ c.input_width-width.result ∷ []) c.reserve.ensures.items) c.loop-k.invariant
