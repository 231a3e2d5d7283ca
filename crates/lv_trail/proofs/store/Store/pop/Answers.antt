use Rattle.std.proofs.Common.{ℕ, ◌-◌, ◌<◌, set, length, refl, sym, ◌∙◌, ap, arith}
use Rattle.lv_trail.specs.Trail.{no_entry}
use Rattle.lv_trail.proofs.Placing.{get-any}
use Rattle.lv_trail.proofs.Popping.{popped}
use Rattle.lv_trail.proofs.store.Store.pop.Goals as goal
use Rattle.lv_trail.proofs.store.Store.pop.Goals.{then-last-eq0, else-last-eq0}

pub returns : goal.returns
returns c =
    let t = c.args.self.now in
    let s = c.requires.sound in
    let last : ℕ = t.len - 1 in
    let below : last < length t.slots.items = omega (arith, c.requires.some, s.slots, s.free) in
    let e = get-any t.slots.items last no_entry c.index.result.now below ∙ sym c.index.ensures in
    popped t _ s last (omega (arith, c.requires.some)) refl refl refl refl (ap (λ z. set t.places.items (z - 1) 0) (c.var-var.ensures.is ∙ ap (λ z. z.lit.var) (sym e)))
    (elim c.if-last-eq0.branch [
      | then-last-eq0 w ↦ (λ z. w.self-is, λ z. absurd (omega (arith, w.if-last-eq0.true)))
      | else-last-eq0 w ↦ (
        λ z. absurd (omega (arith, w.if-last-eq0.false)),
        λ z.
            w.self-is ∙ ap (λ y. y.level) (w.index-else-last-eq0.ensures ∙ get-any t.slots.items (last - 1) w.index-else-last-eq0.result.now no_entry (omega arith)),
      )
    ])
