use Rattle.std.proofs.Common.{◌∙◌, ◌++◌, ◌∷◌, [], List, ℕ, ap, arith}
use Rattle.lv_netlist.specs.Queries.{register_widths, port_widths}
use Rattle.lv_product.proofs.Opened.{widths_start, repeated_step, all_widths, widths_right}
use Rattle.lv_product.proofs.inputs.product_widths.Goals as goal

pub loop-k-init : goal.loop-k-init
loop-k-init c =
    widths_start c.args.graph.now c.as_slice-r.result.now c.in_ok-first.first.items c.in_ok-all.all.items
    (c.as_slice-r.ensures.value ∙ c.in_ok-registers.ensures) c.in_ok-first.ensures.items c.in_ok-all.ensures

pub loop-k-preserved : goal.loop-k-preserved
loop-k-preserved c =
    repeated_step c.loop-k._k (register_widths c.args.graph.now ++ register_widths c.args.graph.now) (port_widths c.args.graph.now) c.loop-k.all.items
    c.in_ok-all-2.all.items
    (c.in_ok-all-2.ensures ∙ ap (λ (l : List ℕ). c.loop-k.all.items ++ l) (c.as_slice-p.ensures.value ∙ c.in_ok-ports.ensures)) c.loop-k.invariant

pub returns-clause-is : goal.returns-clause-is
returns-clause-is c =
    all_widths c.args.graph.now c.args.cycles c.loop-k._k c.loop-k.all.items c.push_reserved.new.self.items
    (omega arith) c.loop-k.invariant (c.push_reserved.ensures.items ∙ ap (λ (xs : List ℕ). xs ++ 1 ∷ []) c.reserve.ensures.items)

pub returns-clause-widths : goal.returns-clause-widths
returns-clause-widths c =
    widths_right c.args.graph.now c.args.cycles c.push_reserved.new.self.items c.len.ensures.net
    (all_widths c.args.graph.now c.args.cycles c.loop-k._k c.loop-k.all.items c.push_reserved.new.self.items
    (omega arith) c.loop-k.invariant (c.push_reserved.ensures.items ∙ ap (λ (xs : List ℕ). xs ++ 1 ∷ []) c.reserve.ensures.items))
