use Rattle.std.proofs.Common.{ℕ, ◌≡◌, ◌+◌, ◌-◌, ◌*◌, ◌%◌, ◌^◌, refl, sym, ap, arith, ◌∙◌, pos}
use Rattle.std.specs.Prelude.{◌-ℤ◌}
use Rattle.std.proofs.lemmas.Nat.{pow_pos}
use Rattle.lv_values.specs.Worlds.{World, width_of, number}
use Rattle.lv_values.specs.Picked.{code_number, item_value, AreOutside}
use Rattle.lv_values.proofs.Growth.{gives-is}
use Rattle.lv_values.proofs.Chosen.{choices-later}
use Rattle.lv_values.proofs.Picking.{level, without, bits-later, half_is, twice, bound}
use Rattle.lv_values.proofs.index.+tree.Goals as goal

pub overflow_add-last : goal.overflow_add-last
overflow_add-last t c =
    let h = half_is c.args.k (omega (arith, c.requires.levels, c.requires.most)) in
    let p = twice c.args.k (omega arith) in
    let q = bound (width_of c.args.index.now) c.requires.most in
    omega (arith, h, p, q, c.requires.below)

pub overflow_add-last-2 : goal.overflow_add-last-2
overflow_add-last-2 t c =
    let h = half_is c.args.k (omega (arith, c.requires.levels, c.requires.most)) in
    let p = twice c.args.k (omega arith) in
    let q = bound (width_of c.args.index.now) c.requires.most in
    omega (arith, h, p, q, c.requires.below)

pub is_outside-requires-clause-fits : goal.is_outside-requires-clause-fits
is_outside-requires-clause-fits t c =
    let h = half_is c.args.k (omega (arith, c.requires.levels, c.requires.most)) in
    let p = twice c.args.k (omega arith) in
    let e : 2 ^ c.width-width.result ≡ 2 ^ width_of c.args.index.now = ap (λ n. 2 ^ n) c.width-width.ensures in
    omega (arith, h, p, e, pow_pos (c.args.k - 1), c.requires.below)

pub returns-then-is_outside : goal.returns-then-is_outside
returns-then-is_outside t c =
    let h = half_is c.args.k (omega (arith, c.requires.levels, c.requires.most)) in
    let p = twice c.args.k (omega arith) in
    let half : ℕ = 1 * 2 ^ (c.args.k - 1) % 340282366920938463463374607431768211456 in
    let last : ℕ = c.args.base + (half - 1) + half in
    let a : AreOutside c.args.nodes.now c.args.choices.now c.args.signed c.width-width.result c.args.down c.args.base last = c.is_outside.ensures c.if-is_outside.true in
    without c.args.index.now (λ (w : World) (i : ℕ). item_value w c.args.nodes.now c.args.choices.now (code_number c.args.signed (width_of c.args.index.now) i -ℤ pos c.args.down)) c.args.base c.args.k last
    (omega (arith, h, p, pow_pos (c.args.k - 1))) c.other.ensures
    (λ w i f g. sym (ap (λ n. item_value w c.args.nodes.now c.args.choices.now (code_number c.args.signed n i -ℤ pos c.args.down)) c.width-width.ensures) ∙ a.are w i f g)

pub tree-requires : goal.tree-requires
tree-requires t c =
    let p = twice c.args.k (omega arith) in
    (omega arith, (c.requires.choices, (c.requires.elements, (c.requires.bits, (c.requires.some, (c.requires.most, (c.requires.near, (omega (arith, p, c.requires.below), omega (arith, c.requires.levels)))))))))

pub overflow_add-base : goal.overflow_add-base
overflow_add-base t c =
    let h = half_is c.args.k (omega (arith, c.requires.levels, c.requires.most)) in
    let p = twice c.args.k (omega arith) in
    let q = bound (width_of c.args.index.now) c.requires.most in
    omega (arith, h, p, q, c.requires.below)

pub tree-requires-2 : goal.tree-requires-2
tree-requires-2 t c =
    let h = half_is c.args.k (omega (arith, c.requires.levels, c.requires.most)) in
    let p = twice c.args.k (omega arith) in
    let g = c.in_ok-x.ensures.grows in
    (omega arith, (choices-later c.args.b.now c.tree.new.b c.args.nodes.now c.args.choices.now g c.requires.choices, (c.requires.elements, (bits-later g c.requires.bits, (c.requires.some, (c.requires.most, (c.requires.near, (omega (arith, h, p, c.requires.below), omega (arith, c.requires.levels)))))))))

pub returns : goal.returns
returns t c =
    let h = half_is c.args.k (omega (arith, c.requires.levels, c.requires.most)) in
    let j : ℕ = c.args.k - 1 in
    let half : ℕ = 1 * 2 ^ (c.args.k - 1) % 340282366920938463463374607431768211456 in
    let s = gives-is c.in_ok-r-2.ensures.is c.in_ok-y.ensures.width (λ w o. refl) in
    level c.index-bits-k.result c.args.index.now (λ (w : World) (i : ℕ). item_value w c.args.nodes.now c.args.choices.now (code_number c.args.signed (width_of c.args.index.now) i -ℤ pos c.args.down)) c.args.base c.args.k j half
    (omega arith) h c.in_ok-x.ensures c.in_ok-y.ensures s
    (λ w o. ap (number w) c.index-bits-k.is ∙ c.requires.bits.is w o j c.index-bits-k.result (omega (arith, c.requires.bits.count, c.requires.levels)))
