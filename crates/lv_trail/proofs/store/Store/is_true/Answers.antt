use Rattle.std.proofs.Common.{◌≡◌, ℕ, ◌-◌, ◌<◌, ◌≤◌, length, get_or, sym, ◌∙◌, ap, arith}
use Rattle.std.proofs.Math.Bool.{beq}
use Rattle.lv_trail.specs.Trail.{no_entry}
use Rattle.lv_trail.proofs.Placing.{none-placed, sign-placed, get-any}
use Rattle.lv_trail.proofs.store.Store.is_true.Goals as goal

pub returns-then-place-eq0 : goal.returns-then-place-eq0
returns-then-place-eq0 c =
    let t = c.args.self.now in
    let l = c.args.lit in
    let d : ℕ = c.index-place.result.now in
    let at : l.var - 1 < length t.places.items = omega (arith, c.requires.within, c.requires.sound.places) in
    let is : d ≡ get_or t.places.items (l.var - 1) d = c.index-place.ensures ∙ ap (λ z. get_or t.places.items (z - 1) d) c.var.ensures.is in
    none-placed t c.requires.sound l (get-any t.places.items (l.var - 1) 0 d at ∙ (sym is ∙ c.if-place-eq0.true))

pub returns : goal.returns
returns c =
    let t = c.args.self.now in
    let l = c.args.lit in
    let s = c.requires.sound in
    let p : ℕ = c.index-place.result.now in
    let at : l.var - 1 < length t.places.items = omega (arith, c.requires.within, s.places) in
    let is' : p ≡ get_or t.places.items (l.var - 1) p = c.index-place.ensures ∙ ap (λ z. get_or t.places.items (z - 1) p) c.var.ensures.is in
    let is : get_or t.places.items (l.var - 1) 0 ≡ p = get-any t.places.items (l.var - 1) 0 p at ∙ sym is' in
    let one : 1 ≤ p = omega (arith, c.if-place-eq0.false) in
    let f = s.found (l.var - 1) (omega (arith, c.requires.within)) (omega (arith, is)) in
    let below : p - 1 < length t.slots.items = omega (arith, f.0, is, s.slots, s.free) in
    let e = get-any t.slots.items (p - 1) no_entry c.index.result.now below ∙ sym c.index.ensures in
    rw (c.neg.ensures, c.neg-2.ensures) (ap (λ z. beq z.lit.neg l.neg) (sym e) ∙ sign-placed t s l c.requires.within.0 c.requires.within.1 p is one)
