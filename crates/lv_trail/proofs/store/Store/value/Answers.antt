use Rattle.std.proofs.Common.{◌≡◌, ℕ, ◌-◌, ◌<◌, ◌≤◌, not, length, get_or, sym, ◌∙◌, ap, arith}
use Rattle.std.specs.Prelude.{Some}
use Rattle.lv_trail.specs.Trail.{no_entry}
use Rattle.lv_trail.proofs.Placing.{get-any, no-value, some-value}
use Rattle.lv_trail.proofs.store.Store.value.Goals as goal

pub returns-then-place-eq0 : goal.returns-then-place-eq0
returns-then-place-eq0 c =
    let t = c.args.self.now in
    let at : c.args.var - 1 < length t.places.items = omega (arith, c.requires.within, c.requires.sound.places) in
    no-value t c.requires.sound c.args.var (get-any t.places.items (c.args.var - 1) 0 c.index-place.result.now at ∙ (sym c.index-place.ensures ∙ c.if-place-eq0.true))

pub returns : goal.returns
returns c =
    let t = c.args.self.now in
    let v : ℕ = c.args.var in
    let s = c.requires.sound in
    let p : ℕ = c.index-place.result.now in
    let at : v - 1 < length t.places.items = omega (arith, c.requires.within, s.places) in
    let is : get_or t.places.items (v - 1) 0 ≡ p = get-any t.places.items (v - 1) 0 p at ∙ sym c.index-place.ensures in
    let one : 1 ≤ p = omega (arith, c.if-place-eq0.false) in
    let f = s.found (v - 1) (omega (arith, c.requires.within)) (omega (arith, is)) in
    let below : p - 1 < length t.slots.items = omega (arith, f.0, is, s.slots, s.free) in
    let e = get-any t.slots.items (p - 1) no_entry c.index.result.now below ∙ sym c.index.ensures in
    rw c.neg.ensures (ap (λ z. Some (not z.lit.neg)) (sym e) ∙ some-value t s v p c.requires.within.0 c.requires.within.1 is one)
