use Rattle.std.proofs.Common.{◌≡◌, ℕ, ◌-◌, ◌<◌, ◌≤◌, length, get_or, sym, ◌∙◌, ap, arith}
use Rattle.lv_trail.specs.Trail.{no_entry}
use Rattle.lv_trail.proofs.Placing.{get-any, no-place-of, found-at, var-placed}
use Rattle.lv_trail.proofs.store.Store.place.Goals as goal

pub returns-then-place-eq0 : goal.returns-then-place-eq0
returns-then-place-eq0 c =
    let t = c.args.self.now in
    let s = c.requires.sound in
    let at : c.args.var - 1 < length t.places.items = omega (arith, c.requires.within, s.places) in
    let is : get_or t.places.items (c.args.var - 1) 0 ≡ 0 = get-any t.places.items (c.args.var - 1) 0 c.index-place.result.now at ∙ (sym c.index-place.ensures ∙ c.if-place-eq0.true) in
    no-place-of t s c.args.var (λ k h e. omega (arith, var-placed t s c.args.var 0 k is h e))

pub returns : goal.returns
returns c =
    let t = c.args.self.now in
    let v : ℕ = c.args.var in
    let s = c.requires.sound in
    let p : ℕ = c.index-place.result.now in
    let at : v - 1 < length t.places.items = omega (arith, c.requires.within, s.places) in
    let is : get_or t.places.items (v - 1) 0 ≡ p = get-any t.places.items (v - 1) 0 p at ∙ sym c.index-place.ensures in
    let one : 1 ≤ p = omega (arith, c.if-place-eq0.false) in
    let f = s.found (v - 1) (omega (arith, c.requires.within)) (omega (arith, is)) in
    let here : p - 1 < t.len = omega (arith, f.0, is) in
    let var : (get_or t.slots.items (p - 1) no_entry).lit.var ≡ v = ap (λ z. (get_or t.slots.items (z - 1) no_entry).lit.var) (sym is) ∙ (f.1 ∙ omega (arith, c.requires.within)) in
    found-at t s v (p - 1) here var
