use Rattle.std.proofs.Common.{◌≡◌, ◌+◌, ◌-◌, ◌<◌, ◌≤◌, length, take, drop, refl, sym, ◌∙◌, ap, arith, rules}
use Rattle.std.specs.Prelude.{Some, slice_get}
use Rattle.std.proofs.lemmas.List.{length-map}
use Rattle.std.proofs.lemmas.Option.{slice_get_read}
use Rattle.lv_trail.specs.Arena.{part}
use Rattle.lv_trail.proofs.Spans.{span-within, part-at}
use Rattle.lv_trail.proofs.arena.Arena.lits.Goals as goal

at : (c : goal.After-span-1) → slice_get c.self.inside.spans.items c.args.k ≡ Some c.index-span.result.now
at c =
    let ss = c.self.inside.spans.items in
    let below : c.args.k < length ss = omega (arith, c.requires, ap length c.self.view_is, length-map ss (part c.self.inside.lits.items)) in
    slice_get_read ss (length ss) c.args.k c.index-span.result.now refl below c.index-span.ensures

within : (c : goal.After-span-1) → c.index-span.result.now.start + c.index-span.result.now.len ≤ length c.as_slice-lits.result.now
within c = omega (arith, span-within (length c.self.inside.lits.items) c.self.inside.spans.items c.args.k c.index-span.result.now c.self.invariant (at c), ap length c.as_slice-lits.ensures.value)

pub overflow_add-end : goal.overflow_add-end
overflow_add-end c = omega (arith, within c, c.as_slice-lits.type_inv.0)

pub offset_bounds-lits-start : goal.offset_bounds-lits-start
offset_bounds-lits-start c = omega (arith, within c, c.as_slice-lits.type_inv.1)

pub slice_bounds-result-end : goal.slice_bounds-result-end
slice_bounds-result-end c = let h = within c in search rules

pub returns : goal.returns
returns c =
    let ss = c.self.inside.spans.items in
    let s = c.index-span.result.now in
    let below : c.args.k < length ss = omega (arith, c.requires, ap length c.self.view_is, length-map ss (part c.self.inside.lits.items)) in
    let is : slice_get ss c.args.k ≡ Some s = slice_get_read ss (length ss) c.args.k s refl below c.index-span.ensures in
    let len : s.start + s.len - s.start ≡ s.len = omega arith in
    ap (λ z. slice_get z c.args.k) (sym c.self.view_is) ∙ (part-at c.self.inside.lits.items ss c.args.k s is ∙ (ap (λ z. Some (part z s)) (sym c.as_slice-lits.ensures.value) ∙ ap (λ z. Some (take z (drop s.start c.as_slice-lits.result.now))) (sym len)))
