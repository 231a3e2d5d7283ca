use Rattle.std.proofs.Common.{◌≡◌, ℕ, ◌-◌, ◌<◌, get_or, length, sym, ◌∙◌, ap, arith}
use Rattle.lv_trail.specs.Trail.{no_entry}
use Rattle.lv_trail.proofs.Placing.{get-any, level-of, var-placed}
use Rattle.lv_trail.proofs.store.Store.level.Goals as goal

pub returns-then-place-eq0 : goal.returns-then-place-eq0
returns-then-place-eq0 c =
    let t = c.args.self.now in
    let s = c.requires.sound in
    let at : c.args.var - 1 < length t.places.items = omega (arith, c.requires.within, s.places) in
    let is : get_or t.places.items (c.args.var - 1) 0 ≡ 0 = get-any t.places.items (c.args.var - 1) 0 c.index-place.result.now at ∙ (sym c.index-place.ensures ∙ c.if-place-eq0.true) in
    level-of t s c.args.var 0 (λ k h e. absurd (omega (arith, var-placed t s c.args.var 0 k is h e)))

pub returns : goal.returns
returns c =
    let t = c.args.self.now in
    let s = c.requires.sound in
    let p : ℕ = c.index-place.result.now in
    let at : c.args.var - 1 < length t.places.items = omega (arith, c.requires.within, s.places) in
    let is : get_or t.places.items (c.args.var - 1) 0 ≡ p = get-any t.places.items (c.args.var - 1) 0 p at ∙ sym c.index-place.ensures in
    level-of t s c.args.var c.index.result.now.level (λ k h e.
    let back : p - 1 ≡ k = omega (arith, var-placed t s c.args.var p k is h e) in
    let below : k < length t.slots.items = omega (arith, s.slots, s.free) in
    ap (λ z. z.level) (get-any t.slots.items k no_entry c.index.result.now below ∙ (ap (λ z. get_or t.slots.items z c.index.result.now) (sym back) ∙ sym c.index.ensures)))
