use Rattle.std.proofs.Common.{◌∙◌, ◌++◌, ◌∷◌, [], List, ℕ, ap, arith}
use Rattle.lv_product.proofs.Opened.{ports_right}
use Rattle.lv_product.proofs.Trimmed.{trimmed_none, trimmed_step, trimmed_goal}
use Rattle.lv_product.proofs.trim.copies.Goals as goal

pub open-requires : goal.open-requires
open-requires c = ports_right c.args.whole.now c.as_slice.result.now c.len.ensures.net (c.as_slice.ensures.value ∙ c.in_ok-widths.ensures)

pub loop-k-init : goal.loop-k-init
loop-k-init c =
    trimmed_none c.args.whole.now c.in_ok-b.b c.in_ok-widths.widths.items c.as_slice.result.now c.new-table.result.items
    c.in_ok-widths.ensures c.as_slice.ensures.value c.in_ok-b.ensures c.new-table.ensures.items

pub loop-k-preserved : goal.loop-k-preserved
loop-k-preserved c =
    trimmed_step c.args.whole.now c.loop-k.b c.copied.new.b c.loop-k.k c.in_ok-at.at c.loop-k.table.items c.push_reserved.new.self.items
    (c.push_reserved.ensures.items ∙ ap (λ (xs : List ℕ). xs ++ c.in_ok-at.at ∷ []) c.reserve.ensures.items) c.loop-k.invariant c.in_ok-at.ensures

pub returns : goal.returns
returns c =
    trimmed_goal c.args.whole.now c.loop-k.b c.loop-k.k c.args.goal c.at-last.result c.loop-k.table.items c.as_slice-2.result.now
    (omega arith) c.as_slice-2.ensures.value c.at-last.ensures c.loop-k.invariant
