use Rattle.std.proofs.Common.{rules, ◌≡◌, ℕ, ◌*◌, ◌%◌, ◌^◌, ◌<◌, ◌≤◌, ◌==◌, Bool, true, List, map, take, drop, max, Some, None, sym, ◌∙◌, ap, subst, arith, refl, pos}
use Rattle.std.specs.Prelude.{if◌then◌else◌}
use Rattle.std.specs.List.{list_all}
use Rattle.std.proofs.lemmas.List.{length-map}
use Rattle.lv_bits.specs.Values.{unary_value, binary_value, extended}
use Rattle.lv_source.specs.Names as names
use Rattle.lv_source.specs.Names.{Declared, size, Valuation, is_signal_sort}
use Rattle.lv_source.specs.Values.{Meaning, size_of, number_of, joined, widths, repeated, quotient, remainder}
use Rattle.lv_source.specs.Places.{bit_selects}
use Rattle.lv_source.specs.Meaning.{Reading}
use Rattle.lv_flat.specs.declared.expr.FlatExpr.{FlatExpr}
use Rattle.lv_flat.specs.declared.expr.FlatExpr.TheViews.{the_lemmas}
use Rattle.lv_flat.specs.declared.expr.FlatSelect.{FlatSelect}
use Rattle.lv_flat.specs.Cells.{all_cells}
use Rattle.lv_flat.specs.Signals.{declared, declared_all, signal_at, bounds_of}
use Rattle.lv_flat.specs.Judged.{is_good, meaning, reading}
use Rattle.lv_values.specs.declared.value.Value.TheVariants.{Known}
use Rattle.lv_values.specs.Worlds.{width_of}
use Rattle.lv_values.proofs.Growth.{grows-refl}
use Rattle.lv_lower_exprs.specs.Tables.{Means}
use Rattle.lv_lower_exprs.specs.Reached.{Reach, reached, reached_by_one, at_width}
use Rattle.lv_lower_exprs.specs.Named.{bounds_by, chosen_by, name_width, are_good_selects, are_constant, bits_read, name_word, HasElement}
use Rattle.lv_lower_exprs.proofs.Parts.{lit-means, good-width, un-good, bin-good, cond-good, cast-good, div-good, rem-good, cat-good, rep-good, const-good, signal-good, cond-means, cast-means, div-means, rem-means, cat-means, rep-means, const-means, signal-means, un-constant, bin-constant, cond-constant, cast-constant, cat-constant, rep-constant, const-constant, signal-constant}
use Rattle.lv_lower_exprs.proofs.Owns.{own_pair, two-own, const-own, signal-own, own-signal-wide}
use Rattle.lv_lower_exprs.proofs.Values.{un-fits, un-close, bin-fits, bin-close, cond-close, cast-close}
use Rattle.lv_lower_exprs.proofs.Meant.{means-given, table-later, means-same, means-one, means-two, means-three}
use Rattle.lv_lower_exprs.proofs.Naming.{count-Down, lowest-Bit, lowest-Part, lowest-Up, lowest-Down, good-Bit, good-Up, good-Down, constant-Bit, constant-Up, constant-Down, minus-none, const-close, signal-close, never-constant, has-element, constant-selects}
use Rattle.lv_lower_exprs.proofs.Joining.{widths-most, good-at, one-more, both-of, constant-moved, part_below, part_some}
use Rattle.lv_lower_exprs.proofs.Chosen.{stands-same, stands-given, means-chosen}
use Rattle.lv_lower_exprs.proofs.Arms.{means-divided, means-joined, means-repeated, means-next}
use Rattle.lv_values.specs.Picked.{AreElements}
use Rattle.lv_lower_exprs.proofs.Wholes.{declared-in, signal_in, cell_is}
use Rattle.lv_lower_exprs.proofs.Elements.{elements-within, elements-count, elements-table}
use Rattle.lv_lower_exprs.proofs.Words.{signal-sort, means-whole, means-element, first-select, first-count, split-first}
use Rattle.lv_lower_exprs.proofs.expr.+lowering.Goals as goal

pub value-own-a_own-requires : goal.value-own-a_own-requires
value-own-a_own-requires t c =
    let S = declared_all c.args.signals.now in
    subst (λ (z : FlatExpr). is_good S z ≡ true) (sym c.get.ensures) (un-good S c.args.e.now c.requires.good c.in-Un.op c.in-Un.a c.in-Un.is).1

pub value-value-requires : goal.value-value-requires
value-value-requires t c =
    let S = declared_all c.args.signals.now in
    let W = c.args.width in
    let T = c.args.signed in
    let a = c.in-Un.a in
    let op = c.in-Un.op in
    let ga = (un-good S c.args.e.now c.requires.good c.in-Un.op c.in-Un.a c.in-Un.is).1 in
    let o = c.own-a_own.ensures ∙ ap (λ (z : FlatExpr). own_pair (meaning S z)) c.get.ensures in
    let r : c.reach_one-reach.result ≡ reached_by_one op W T (meaning S a).width (meaning S a).signed = c.reach_one-reach.ensures ∙ ap (λ (p : ℕ × Bool). reached_by_one op W T p.0 p.1) o in
    let r0 = ap (λ (p : ℕ × Bool). p.0) r in
    let fits = un-fits S c.args.e.now W T op a c.in-Un.is c.requires.wide c.requires.most (good-width S a ga).1 in
    let w = ap (λ (z : FlatExpr). (meaning S z).width) c.get-in-Un.ensures in
    (search (rules, the_lemmas), (subst (λ (z : FlatExpr). is_good S z ≡ true) (sym c.get-in-Un.ensures) ga, (omega (arith, w, r0, fits.wide), (omega (arith, r0, fits.most), (c.requires.first, c.requires.table)))))

pub value-unary_at-requires-clause-unary : goal.value-unary_at-requires-clause-unary
value-unary_at-requires-clause-unary t c =
    let S = declared_all c.args.signals.now in
    (un-good S c.args.e.now c.requires.good c.in-Un.op c.in-Un.a c.in-Un.is).0

pub value-unary_at-requires-clause-same : goal.value-unary_at-requires-clause-same
value-unary_at-requires-clause-same t c = λ k.
    let S = declared_all c.args.signals.now in
    let W = c.args.width in
    let T = c.args.signed in
    let a = c.in-Un.a in
    let op = c.in-Un.op in
    let ga = (un-good S c.args.e.now c.requires.good c.in-Un.op c.in-Un.a c.in-Un.is).1 in
    let o = c.own-a_own.ensures ∙ ap (λ (z : FlatExpr). own_pair (meaning S z)) c.get.ensures in
    let r : c.reach_one-reach.result ≡ reached_by_one op W T (meaning S a).width (meaning S a).signed = c.reach_one-reach.ensures ∙ ap (λ (p : ℕ × Bool). reached_by_one op W T p.0 p.1) o in
    let r0 = ap (λ (p : ℕ × Bool). p.0) r in
    let fits = un-fits S c.args.e.now W T op a c.in-Un.is c.requires.wide c.requires.most (good-width S a ga).1 in
    c.in_ok-x-in-Un.ensures.is.width ∙ (r0 ∙ fits.same k)

pub value-unary_at-requires-clause-some : goal.value-unary_at-requires-clause-some
value-unary_at-requires-clause-some t c =
    let S = declared_all c.args.signals.now in
    let g = good-width S c.args.e.now c.requires.good in
    omega (arith, g.0, c.requires.wide)

pub value-returns-in_ok-r-in-Un-clause-is : goal.value-returns-in_ok-r-in-Un-clause-is
value-returns-in_ok-r-in-Un-clause-is t c =
    let S = declared_all c.args.signals.now in
    let W = c.args.width in
    let T = c.args.signed in
    let a = c.in-Un.a in
    let op = c.in-Un.op in
    let ga = (un-good S c.args.e.now c.requires.good c.in-Un.op c.in-Un.a c.in-Un.is).1 in
    let o = c.own-a_own.ensures ∙ ap (λ (z : FlatExpr). own_pair (meaning S z)) c.get.ensures in
    let r : c.reach_one-reach.result ≡ reached_by_one op W T (meaning S a).width (meaning S a).signed = c.reach_one-reach.ensures ∙ ap (λ (p : ℕ × Bool). reached_by_one op W T p.0 p.1) o in
    let r0 = ap (λ (p : ℕ × Bool). p.0) r in
    let fits = un-fits S c.args.e.now W T op a c.in-Un.is c.requires.wide c.requires.most (good-width S a ga).1 in
    let m = c.in_ok-x-in-Un.ensures.is in
    means-same (means-one (λ n. at_width op T W (unary_value op (width_of c.in_ok-x-in-Un.x) n)) m c.in_ok-r-in-Un.ensures.is) refl
    (un-close S c.args.e.now W T op a c.in-Un.is (width_of c.in_ok-x-in-Un.x) c.get-in-Un.result.now c.reach_one-reach.result c.get-in-Un.ensures r m.width)

pub value-own-x_own-requires : goal.value-own-x_own-requires
value-own-x_own-requires t c =
    let S = declared_all c.args.signals.now in
    subst (λ (z : FlatExpr). is_good S z ≡ true) (sym c.get-in-Bin.ensures) (bin-good S c.args.e.now c.requires.good c.in-Bin.op c.in-Bin.x c.in-Bin.y c.in-Bin.is).1

pub value-own-y_own-requires : goal.value-own-y_own-requires
value-own-y_own-requires t c =
    let S = declared_all c.args.signals.now in
    subst (λ (z : FlatExpr). is_good S z ≡ true) (sym c.get-in-Bin-2.ensures) (bin-good S c.args.e.now c.requires.good c.in-Bin.op c.in-Bin.x c.in-Bin.y c.in-Bin.is).2

pub value-value-requires-in-Bin : goal.value-value-requires-in-Bin
value-value-requires-in-Bin t c =
    let S = declared_all c.args.signals.now in
    let W = c.args.width in
    let T = c.args.signed in
    let a = c.in-Bin.x in
    let b = c.in-Bin.y in
    let op = c.in-Bin.op in
    let g = bin-good S c.args.e.now c.requires.good c.in-Bin.op c.in-Bin.x c.in-Bin.y c.in-Bin.is in
    let o = c.own-x_own.ensures ∙ ap (λ (z : FlatExpr). own_pair (meaning S z)) c.get-in-Bin.ensures in
    let p = c.own-y_own.ensures ∙ ap (λ (z : FlatExpr). own_pair (meaning S z)) c.get-in-Bin-2.ensures in
    let q : Reach = reached op W T (meaning S a).width (meaning S a).signed (meaning S b).width (meaning S b).signed in
    let e = two-own (λ p q. reached op W T p.0 p.1 q.0 q.1) o p in
    let l : c.reach_two-reach.result.left ≡ q.left = c.reach_two-reach.ensures.left ∙ ap (λ (z : Reach). z.left) e in
    let ls : c.reach_two-reach.result.left_signed ≡ q.left_signed = c.reach_two-reach.ensures.left_signed ∙ ap (λ (z : Reach). z.left_signed) e in
    let r : c.reach_two-reach.result.right ≡ q.right = c.reach_two-reach.ensures.right ∙ ap (λ (z : Reach). z.right) e in
    let rs : c.reach_two-reach.result.right_signed ≡ q.right_signed = c.reach_two-reach.ensures.right_signed ∙ ap (λ (z : Reach). z.right_signed) e in
    let s : c.reach_two-reach.result.signed ≡ q.signed = c.reach_two-reach.ensures.signed ∙ ap (λ (z : Reach). z.signed) e in
    let fits = bin-fits S c.args.e.now W T op a b c.in-Bin.is c.requires.wide c.requires.most (good-width S a g.1).1 (good-width S b g.2).1 in
    let w = ap (λ (z : FlatExpr). (meaning S z).width) c.get-in-Bin-3.ensures in
    (search (rules, the_lemmas), (subst (λ (z : FlatExpr). is_good S z ≡ true) (sym c.get-in-Bin-3.ensures) g.1, (omega (arith, w, l, fits.left), (omega (arith, l, fits.left_most), (c.requires.first, c.requires.table)))))

pub value-value-requires-in-Bin-2 : goal.value-value-requires-in-Bin-2
value-value-requires-in-Bin-2 t c =
    let S = declared_all c.args.signals.now in
    let W = c.args.width in
    let T = c.args.signed in
    let a = c.in-Bin.x in
    let b = c.in-Bin.y in
    let op = c.in-Bin.op in
    let g = bin-good S c.args.e.now c.requires.good c.in-Bin.op c.in-Bin.x c.in-Bin.y c.in-Bin.is in
    let o = c.own-x_own.ensures ∙ ap (λ (z : FlatExpr). own_pair (meaning S z)) c.get-in-Bin.ensures in
    let p = c.own-y_own.ensures ∙ ap (λ (z : FlatExpr). own_pair (meaning S z)) c.get-in-Bin-2.ensures in
    let q : Reach = reached op W T (meaning S a).width (meaning S a).signed (meaning S b).width (meaning S b).signed in
    let e = two-own (λ p q. reached op W T p.0 p.1 q.0 q.1) o p in
    let l : c.reach_two-reach.result.left ≡ q.left = c.reach_two-reach.ensures.left ∙ ap (λ (z : Reach). z.left) e in
    let ls : c.reach_two-reach.result.left_signed ≡ q.left_signed = c.reach_two-reach.ensures.left_signed ∙ ap (λ (z : Reach). z.left_signed) e in
    let r : c.reach_two-reach.result.right ≡ q.right = c.reach_two-reach.ensures.right ∙ ap (λ (z : Reach). z.right) e in
    let rs : c.reach_two-reach.result.right_signed ≡ q.right_signed = c.reach_two-reach.ensures.right_signed ∙ ap (λ (z : Reach). z.right_signed) e in
    let s : c.reach_two-reach.result.signed ≡ q.signed = c.reach_two-reach.ensures.signed ∙ ap (λ (z : Reach). z.signed) e in
    let fits = bin-fits S c.args.e.now W T op a b c.in-Bin.is c.requires.wide c.requires.most (good-width S a g.1).1 (good-width S b g.2).1 in
    let w = ap (λ (z : FlatExpr). (meaning S z).width) c.get-in-Bin-4.ensures in
    (search (rules, the_lemmas), (subst (λ (z : FlatExpr). is_good S z ≡ true) (sym c.get-in-Bin-4.ensures) g.2, (omega (arith, w, r, fits.right), (omega (arith, r, fits.right_most), (c.requires.first, table-later c.in_ok-p-in-Bin.ensures.is.grows c.requires.table)))))

pub value-binary_at-requires-clause-binary : goal.value-binary_at-requires-clause-binary
value-binary_at-requires-clause-binary t c =
    let S = declared_all c.args.signals.now in
    let g = (bin-good S c.args.e.now c.requires.good c.in-Bin.op c.in-Bin.x c.in-Bin.y c.in-Bin.is).0 in
    search (rules, g)

pub value-binary_at-requires-clause-both : goal.value-binary_at-requires-clause-both
value-binary_at-requires-clause-both t c = λ k.
    let S = declared_all c.args.signals.now in
    let W = c.args.width in
    let T = c.args.signed in
    let a = c.in-Bin.x in
    let b = c.in-Bin.y in
    let op = c.in-Bin.op in
    let g = bin-good S c.args.e.now c.requires.good c.in-Bin.op c.in-Bin.x c.in-Bin.y c.in-Bin.is in
    let o = c.own-x_own.ensures ∙ ap (λ (z : FlatExpr). own_pair (meaning S z)) c.get-in-Bin.ensures in
    let p = c.own-y_own.ensures ∙ ap (λ (z : FlatExpr). own_pair (meaning S z)) c.get-in-Bin-2.ensures in
    let q : Reach = reached op W T (meaning S a).width (meaning S a).signed (meaning S b).width (meaning S b).signed in
    let e = two-own (λ p q. reached op W T p.0 p.1 q.0 q.1) o p in
    let l : c.reach_two-reach.result.left ≡ q.left = c.reach_two-reach.ensures.left ∙ ap (λ (z : Reach). z.left) e in
    let ls : c.reach_two-reach.result.left_signed ≡ q.left_signed = c.reach_two-reach.ensures.left_signed ∙ ap (λ (z : Reach). z.left_signed) e in
    let r : c.reach_two-reach.result.right ≡ q.right = c.reach_two-reach.ensures.right ∙ ap (λ (z : Reach). z.right) e in
    let rs : c.reach_two-reach.result.right_signed ≡ q.right_signed = c.reach_two-reach.ensures.right_signed ∙ ap (λ (z : Reach). z.right_signed) e in
    let s : c.reach_two-reach.result.signed ≡ q.signed = c.reach_two-reach.ensures.signed ∙ ap (λ (z : Reach). z.signed) e in
    let fits = bin-fits S c.args.e.now W T op a b c.in-Bin.is c.requires.wide c.requires.most (good-width S a g.1).1 (good-width S b g.2).1 in
    c.in_ok-p-in-Bin.ensures.is.width ∙ (l ∙ (fits.both k ∙ (sym r ∙ sym c.in_ok-q-in-Bin.ensures.is.width)))

pub value-binary_at-requires-clause-same : goal.value-binary_at-requires-clause-same
value-binary_at-requires-clause-same t c = λ k.
    let S = declared_all c.args.signals.now in
    let W = c.args.width in
    let T = c.args.signed in
    let a = c.in-Bin.x in
    let b = c.in-Bin.y in
    let op = c.in-Bin.op in
    let g = bin-good S c.args.e.now c.requires.good c.in-Bin.op c.in-Bin.x c.in-Bin.y c.in-Bin.is in
    let o = c.own-x_own.ensures ∙ ap (λ (z : FlatExpr). own_pair (meaning S z)) c.get-in-Bin.ensures in
    let p = c.own-y_own.ensures ∙ ap (λ (z : FlatExpr). own_pair (meaning S z)) c.get-in-Bin-2.ensures in
    let q : Reach = reached op W T (meaning S a).width (meaning S a).signed (meaning S b).width (meaning S b).signed in
    let e = two-own (λ p q. reached op W T p.0 p.1 q.0 q.1) o p in
    let l : c.reach_two-reach.result.left ≡ q.left = c.reach_two-reach.ensures.left ∙ ap (λ (z : Reach). z.left) e in
    let ls : c.reach_two-reach.result.left_signed ≡ q.left_signed = c.reach_two-reach.ensures.left_signed ∙ ap (λ (z : Reach). z.left_signed) e in
    let r : c.reach_two-reach.result.right ≡ q.right = c.reach_two-reach.ensures.right ∙ ap (λ (z : Reach). z.right) e in
    let rs : c.reach_two-reach.result.right_signed ≡ q.right_signed = c.reach_two-reach.ensures.right_signed ∙ ap (λ (z : Reach). z.right_signed) e in
    let s : c.reach_two-reach.result.signed ≡ q.signed = c.reach_two-reach.ensures.signed ∙ ap (λ (z : Reach). z.signed) e in
    let fits = bin-fits S c.args.e.now W T op a b c.in-Bin.is c.requires.wide c.requires.most (good-width S a g.1).1 (good-width S b g.2).1 in
    c.in_ok-p-in-Bin.ensures.is.width ∙ (l ∙ fits.same k)

pub value-binary_at-requires-clause-some : goal.value-binary_at-requires-clause-some
value-binary_at-requires-clause-some t c =
    let S = declared_all c.args.signals.now in
    let g = good-width S c.args.e.now c.requires.good in
    omega (arith, g.0, c.requires.wide)

pub value-returns-in_ok-r-in-Bin-clause-is : goal.value-returns-in_ok-r-in-Bin-clause-is
value-returns-in_ok-r-in-Bin-clause-is t c =
    let S = declared_all c.args.signals.now in
    let W = c.args.width in
    let T = c.args.signed in
    let a = c.in-Bin.x in
    let b = c.in-Bin.y in
    let op = c.in-Bin.op in
    let g = bin-good S c.args.e.now c.requires.good c.in-Bin.op c.in-Bin.x c.in-Bin.y c.in-Bin.is in
    let o = c.own-x_own.ensures ∙ ap (λ (z : FlatExpr). own_pair (meaning S z)) c.get-in-Bin.ensures in
    let p = c.own-y_own.ensures ∙ ap (λ (z : FlatExpr). own_pair (meaning S z)) c.get-in-Bin-2.ensures in
    let q : Reach = reached op W T (meaning S a).width (meaning S a).signed (meaning S b).width (meaning S b).signed in
    let e = two-own (λ p q. reached op W T p.0 p.1 q.0 q.1) o p in
    let l : c.reach_two-reach.result.left ≡ q.left = c.reach_two-reach.ensures.left ∙ ap (λ (z : Reach). z.left) e in
    let ls : c.reach_two-reach.result.left_signed ≡ q.left_signed = c.reach_two-reach.ensures.left_signed ∙ ap (λ (z : Reach). z.left_signed) e in
    let r : c.reach_two-reach.result.right ≡ q.right = c.reach_two-reach.ensures.right ∙ ap (λ (z : Reach). z.right) e in
    let rs : c.reach_two-reach.result.right_signed ≡ q.right_signed = c.reach_two-reach.ensures.right_signed ∙ ap (λ (z : Reach). z.right_signed) e in
    let s : c.reach_two-reach.result.signed ≡ q.signed = c.reach_two-reach.ensures.signed ∙ ap (λ (z : Reach). z.signed) e in
    let fits = bin-fits S c.args.e.now W T op a b c.in-Bin.is c.requires.wide c.requires.most (good-width S a g.1).1 (good-width S b g.2).1 in
    let m = c.in_ok-p-in-Bin.ensures.is in
    let n = c.in_ok-q-in-Bin.ensures.is in
    means-same (means-two (λ i j. at_width op T W (binary_value op c.reach_two-reach.result.signed (width_of c.in_ok-p-in-Bin.p) i j)) m n c.in_ok-r-in-Bin.ensures.is) refl
    (bin-close S c.args.e.now W T op a b c.in-Bin.is (width_of c.in_ok-p-in-Bin.p) c.get-in-Bin-3.result.now c.get-in-Bin-4.result.now c.reach_two-reach.result.left c.reach_two-reach.result.left_signed
    c.reach_two-reach.result.right c.reach_two-reach.result.right_signed c.reach_two-reach.result.signed c.get-in-Bin-3.ensures c.get-in-Bin-4.ensures l ls r rs s m.width)

pub value-own-c_own-requires : goal.value-own-c_own-requires
value-own-c_own-requires t c =
    let S = declared_all c.args.signals.now in
    subst (λ (z : FlatExpr). is_good S z ≡ true) (sym c.get-in-Cond.ensures) (cond-good S c.args.e.now c.requires.good c.in-Cond.c c.in-Cond.x c.in-Cond.y c.in-Cond.is).0

pub value-value-requires-in-Cond : goal.value-value-requires-in-Cond
value-value-requires-in-Cond t c =
    let S = declared_all c.args.signals.now in
    let W = c.args.width in
    let T = c.args.signed in
    let g = cond-good S c.args.e.now c.requires.good c.in-Cond.c c.in-Cond.x c.in-Cond.y c.in-Cond.is in
    let o = c.own-c_own.ensures ∙ ap (λ (z : FlatExpr). own_pair (meaning S z)) c.get-in-Cond.ensures in
    let o0 = ap (λ (p : ℕ × Bool). p.0) o in
    let gc = good-width S c.in-Cond.c g.0 in
    let wide = ap (λ (m : Meaning). m.width) (cond-means S c.args.e.now c.in-Cond.c c.in-Cond.x c.in-Cond.y c.in-Cond.is) in
    let w = ap (λ (z : FlatExpr). (meaning S z).width) c.get-in-Cond-2.ensures in
    (search (rules, the_lemmas), (subst (λ (z : FlatExpr). is_good S z ≡ true) (sym c.get-in-Cond-2.ensures) g.0, (omega (arith, w, o0), (omega (arith, o0, gc.1), (c.requires.first, c.requires.table)))))

pub value-value-requires-in-Cond-2 : goal.value-value-requires-in-Cond-2
value-value-requires-in-Cond-2 t c =
    let S = declared_all c.args.signals.now in
    let W = c.args.width in
    let T = c.args.signed in
    let g = cond-good S c.args.e.now c.requires.good c.in-Cond.c c.in-Cond.x c.in-Cond.y c.in-Cond.is in
    let o = c.own-c_own.ensures ∙ ap (λ (z : FlatExpr). own_pair (meaning S z)) c.get-in-Cond.ensures in
    let o0 = ap (λ (p : ℕ × Bool). p.0) o in
    let gc = good-width S c.in-Cond.c g.0 in
    let wide = ap (λ (m : Meaning). m.width) (cond-means S c.args.e.now c.in-Cond.c c.in-Cond.x c.in-Cond.y c.in-Cond.is) in
    let w = ap (λ (z : FlatExpr). (meaning S z).width) c.get-in-Cond-3.ensures in
    (search (rules, the_lemmas), (subst (λ (z : FlatExpr). is_good S z ≡ true) (sym c.get-in-Cond-3.ensures) g.1, (omega (arith, w, wide, c.requires.wide), (c.requires.most, (c.requires.first, table-later c.in_ok-t-in-Cond.ensures.is.grows c.requires.table)))))

pub value-value-requires-in-Cond-3 : goal.value-value-requires-in-Cond-3
value-value-requires-in-Cond-3 t c =
    let S = declared_all c.args.signals.now in
    let W = c.args.width in
    let T = c.args.signed in
    let g = cond-good S c.args.e.now c.requires.good c.in-Cond.c c.in-Cond.x c.in-Cond.y c.in-Cond.is in
    let o = c.own-c_own.ensures ∙ ap (λ (z : FlatExpr). own_pair (meaning S z)) c.get-in-Cond.ensures in
    let o0 = ap (λ (p : ℕ × Bool). p.0) o in
    let gc = good-width S c.in-Cond.c g.0 in
    let wide = ap (λ (m : Meaning). m.width) (cond-means S c.args.e.now c.in-Cond.c c.in-Cond.x c.in-Cond.y c.in-Cond.is) in
    let w = ap (λ (z : FlatExpr). (meaning S z).width) c.get-in-Cond-4.ensures in
    (search (rules, the_lemmas), (subst (λ (z : FlatExpr). is_good S z ≡ true) (sym c.get-in-Cond-4.ensures) g.2, (omega (arith, w, wide, c.requires.wide), (c.requires.most, (c.requires.first, table-later c.in_ok-p-in-Cond.ensures.is.grows (table-later c.in_ok-t-in-Cond.ensures.is.grows c.requires.table))))))

pub value-returns-in_ok-r-in-Cond-clause-is : goal.value-returns-in_ok-r-in-Cond-clause-is
value-returns-in_ok-r-in-Cond-clause-is t c =
    let S = declared_all c.args.signals.now in
    let W = c.args.width in
    let T = c.args.signed in
    let g = cond-good S c.args.e.now c.requires.good c.in-Cond.c c.in-Cond.x c.in-Cond.y c.in-Cond.is in
    let o = c.own-c_own.ensures ∙ ap (λ (z : FlatExpr). own_pair (meaning S z)) c.get-in-Cond.ensures in
    let o0 = ap (λ (p : ℕ × Bool). p.0) o in
    let gc = good-width S c.in-Cond.c g.0 in
    let wide = ap (λ (m : Meaning). m.width) (cond-means S c.args.e.now c.in-Cond.c c.in-Cond.x c.in-Cond.y c.in-Cond.is) in
    let last = means-three (λ i j k. if i == 0 then k else j) c.in_ok-t-in-Cond.ensures.is c.in_ok-p-in-Cond.ensures.is c.in_ok-q-in-Cond.ensures.is c.in_ok-r-in-Cond.ensures.is in
    means-same last c.in_ok-p-in-Cond.ensures.is.width
    (cond-close S c.args.e.now W T c.in-Cond.c c.in-Cond.x c.in-Cond.y c.in-Cond.is c.get-in-Cond-2.result.now c.get-in-Cond-3.result.now c.get-in-Cond-4.result.now c.own-c_own.result
    c.get-in-Cond-2.ensures c.get-in-Cond-3.ensures c.get-in-Cond-4.ensures o)

pub value-own-a_own-requires-in-Cast : goal.value-own-a_own-requires-in-Cast
value-own-a_own-requires-in-Cast t c =
    let S = declared_all c.args.signals.now in
    subst (λ (z : FlatExpr). is_good S z ≡ true) (sym c.get-in-Cast.ensures) (cast-good S c.args.e.now c.requires.good c.in-Cast.field-0 c.in-Cast.a c.in-Cast.is)

pub value-value-requires-in-Cast : goal.value-value-requires-in-Cast
value-value-requires-in-Cast t c =
    let S = declared_all c.args.signals.now in
    let W = c.args.width in
    let T = c.args.signed in
    let g = cast-good S c.args.e.now c.requires.good c.in-Cast.field-0 c.in-Cast.a c.in-Cast.is in
    let o = c.own-a_own-in-Cast.ensures ∙ ap (λ (z : FlatExpr). own_pair (meaning S z)) c.get-in-Cast.ensures in
    let o0 = ap (λ (p : ℕ × Bool). p.0) o in
    let ga = good-width S c.in-Cast.a g in
    let wide = ap (λ (m : Meaning). m.width) (cast-means S c.args.e.now c.in-Cast.field-0 c.in-Cast.a c.in-Cast.is) in
    let w = ap (λ (z : FlatExpr). (meaning S z).width) c.get-in-Cast-2.ensures in
    (search (rules, the_lemmas), (subst (λ (z : FlatExpr). is_good S z ≡ true) (sym c.get-in-Cast-2.ensures) g, (omega (arith, w, o0), (omega (arith, o0, ga.1), (c.requires.first, c.requires.table)))))

pub value-extend-requires-clause-wide : goal.value-extend-requires-clause-wide
value-extend-requires-clause-wide t c =
    let S = declared_all c.args.signals.now in
    let W = c.args.width in
    let T = c.args.signed in
    let g = cast-good S c.args.e.now c.requires.good c.in-Cast.field-0 c.in-Cast.a c.in-Cast.is in
    let o = c.own-a_own-in-Cast.ensures ∙ ap (λ (z : FlatExpr). own_pair (meaning S z)) c.get-in-Cast.ensures in
    let o0 = ap (λ (p : ℕ × Bool). p.0) o in
    let ga = good-width S c.in-Cast.a g in
    let wide = ap (λ (m : Meaning). m.width) (cast-means S c.args.e.now c.in-Cast.field-0 c.in-Cast.a c.in-Cast.is) in
    omega (arith, c.in_ok-x-in-Cast.ensures.is.width, o0, wide, c.requires.wide)

pub value-returns-in_ok-r-in-Cast-clause-is : goal.value-returns-in_ok-r-in-Cast-clause-is
value-returns-in_ok-r-in-Cast-clause-is t c =
    let S = declared_all c.args.signals.now in
    let W = c.args.width in
    let T = c.args.signed in
    let g = cast-good S c.args.e.now c.requires.good c.in-Cast.field-0 c.in-Cast.a c.in-Cast.is in
    let o = c.own-a_own-in-Cast.ensures ∙ ap (λ (z : FlatExpr). own_pair (meaning S z)) c.get-in-Cast.ensures in
    let o0 = ap (λ (p : ℕ × Bool). p.0) o in
    let ga = good-width S c.in-Cast.a g in
    let wide = ap (λ (m : Meaning). m.width) (cast-means S c.args.e.now c.in-Cast.field-0 c.in-Cast.a c.in-Cast.is) in
    let m = c.in_ok-x-in-Cast.ensures.is in
    means-same (means-one (λ n. extended T (width_of c.in_ok-x-in-Cast.x) W n) m c.in_ok-r-in-Cast.ensures.is) refl
    (cast-close S c.args.e.now W T c.in-Cast.field-0 c.in-Cast.a c.in-Cast.is (width_of c.in_ok-x-in-Cast.x) c.get-in-Cast-2.result.now c.own-a_own-in-Cast.result c.get-in-Cast-2.ensures o m.width)

pub value-literal_at-requires-clause-some : goal.value-literal_at-requires-clause-some
value-literal_at-requires-clause-some t c =
    let S = declared_all c.args.signals.now in
    let e = ap (λ (m : Meaning). m.width) (lit-means S c.args.e.now c.in-Lit.l c.in-Lit.is) in
    omega (arith, e, (good-width S c.args.e.now c.requires.good).0)

pub value-literal_at-requires-clause-wide : goal.value-literal_at-requires-clause-wide
value-literal_at-requires-clause-wide t c =
    let S = declared_all c.args.signals.now in
    let e = ap (λ (m : Meaning). m.width) (lit-means S c.args.e.now c.in-Lit.l c.in-Lit.is) in
    omega (arith, e, c.requires.wide)

pub value-returns-in_ok-r-in-Lit-clause-is : goal.value-returns-in_ok-r-in-Lit-clause-is
value-returns-in_ok-r-in-Lit-clause-is t c =
    let S = declared_all c.args.signals.now in
    let l = c.in-Lit.l in
    let x : ℕ = extended c.args.signed (size_of l.size) c.args.width (l.value % 2 ^ size_of l.size) in
    means-same (means-given x c.in_ok-r-in-Lit.ensures.is (λ w. refl)) refl (λ v. sym (ap (λ (m : Meaning). m.value c.args.width c.args.signed v) (lit-means S c.args.e.now l c.in-Lit.is)))

-- ---- selects

pub at_index-value-requires : goal.at_index-value-requires
at_index-value-requires t c =
    let S = declared_all c.args.signals.now in
    let o0 = ap (λ (p : ℕ × Bool). p.0) (c.own-of.ensures ∙ ap (λ (z : FlatExpr). own_pair (meaning S z)) c.get.ensures) in
    let w = ap (λ (z : FlatExpr). (meaning S z).width) c.get-2.ensures in
    let g = good-width S c.args.e.now c.requires.good in
    (search (rules, the_lemmas), (subst (λ (z : FlatExpr). is_good S z ≡ true) (sym c.get-2.ensures) c.requires.good, (omega (arith, w, o0), (omega (arith, o0, g.1), (c.requires.first, c.requires.table)))))

pub at_index-pick-requires-clause-some : goal.at_index-pick-requires-clause-some
at_index-pick-requires-clause-some t c =
    let S = declared_all c.args.signals.now in
    let o0 = ap (λ (p : ℕ × Bool). p.0) (c.own-of.ensures ∙ ap (λ (z : FlatExpr). own_pair (meaning S z)) c.get.ensures) in
    omega (arith, c.in_ok-x.ensures.is.width, o0, (good-width S c.args.e.now c.requires.good).0)

pub at_index-pick-requires-clause-most : goal.at_index-pick-requires-clause-most
at_index-pick-requires-clause-most t c =
    let S = declared_all c.args.signals.now in
    let o0 = ap (λ (p : ℕ × Bool). p.0) (c.own-of.ensures ∙ ap (λ (z : FlatExpr). own_pair (meaning S z)) c.get.ensures) in
    omega (arith, c.in_ok-x.ensures.is.width, o0, (good-width S c.args.e.now c.requires.good).1)

pub at_select-at_index-requires : goal.at_select-at_index-requires
at_select-at_index-requires t c =
    let S = declared_all c.args.signals.now in
    (search (rules, the_lemmas), (good-Bit S c.args.s.now c.in-Bit.e c.in-Bit.is c.requires.good, (omega arith, (c.requires.choices, (c.requires.elements, (c.requires.first, c.requires.table))))))

pub at_select-at_index-requires-in-Up : goal.at_select-at_index-requires-in-Up
at_select-at_index-requires-in-Up t c =
    let S = declared_all c.args.signals.now in
    (search (rules, the_lemmas), (good-Up S c.args.s.now c.in-Up.e c.in-Up.field-1 c.in-Up.is c.requires.good, (omega arith, (c.requires.choices, (c.requires.elements, (c.requires.first, c.requires.table))))))

pub at_select-overflow_sub-count : goal.at_select-overflow_sub-count
at_select-overflow_sub-count t c = omega (arith, count-Down (declared_all c.args.signals.now) c.args.s.now c.in-Down.e c.in-Down.count c.in-Down.is, c.requires.some)

pub at_select-at_index-requires-in-Down : goal.at_select-at_index-requires-in-Down
at_select-at_index-requires-in-Down t c =
    let S = declared_all c.args.signals.now in
    let n = count-Down S c.args.s.now c.in-Down.e c.in-Down.count c.in-Down.is in
    (search (rules, the_lemmas), (good-Down S c.args.s.now c.in-Down.e c.in-Down.count c.in-Down.is c.requires.good, (omega (arith, n, c.requires.narrow), (c.requires.choices, (c.requires.elements, (c.requires.first, c.requires.table))))))

pub at_select-returns-in_ok-r-in-Bit-clause-is : goal.at_select-returns-in_ok-r-in-Bit-clause-is
at_select-returns-in_ok-r-in-Bit-clause-is t c =
    let S = declared_all c.args.signals.now in
    stands-same c.in_ok-r-in-Bit.ensures.is (λ v. minus-none (number_of (meaning S c.in-Bit.e) v) ∙ lowest-Bit S c.args.s.now c.in-Bit.e v c.in-Bit.is)

pub at_select-returns-in_ok-r-in-Bit-clause-known : goal.at_select-returns-in_ok-r-in-Bit-clause-known
at_select-returns-in_ok-r-in-Bit-clause-known t c = λ k h. c.in_ok-r-in-Bit.ensures.known k (constant-Bit (declared_all c.args.signals.now) c.args.s.now c.in-Bit.e c.in-Bit.is h)

pub at_select-returns-in_ok-r-in-Part-clause-is : goal.at_select-returns-in_ok-r-in-Part-clause-is
at_select-returns-in_ok-r-in-Part-clause-is t c =
    let S = declared_all c.args.signals.now in
    stands-given c.in_ok-r-in-Part.ensures.is (λ v. ap pos (c.from.ensures ∙ c.min-low.ensures) ∙ lowest-Part S c.args.s.now c.in-Part.left c.in-Part.right v c.in-Part.is)

pub at_select-returns-in_ok-r-in-Up-clause-is : goal.at_select-returns-in_ok-r-in-Up-clause-is
at_select-returns-in_ok-r-in-Up-clause-is t c =
    let S = declared_all c.args.signals.now in
    stands-same c.in_ok-r-in-Up.ensures.is (λ v. minus-none (number_of (meaning S c.in-Up.e) v) ∙ lowest-Up S c.args.s.now c.in-Up.e c.in-Up.field-1 v c.in-Up.is)

pub at_select-returns-in_ok-r-in-Up-clause-known : goal.at_select-returns-in_ok-r-in-Up-clause-known
at_select-returns-in_ok-r-in-Up-clause-known t c = λ k h. c.in_ok-r-in-Up.ensures.known k (constant-Up (declared_all c.args.signals.now) c.args.s.now c.in-Up.e c.in-Up.field-1 c.in-Up.is h)

pub at_select-returns-in_ok-r-in-Down-clause-is : goal.at_select-returns-in_ok-r-in-Down-clause-is
at_select-returns-in_ok-r-in-Down-clause-is t c =
    let S = declared_all c.args.signals.now in
    stands-same c.in_ok-r-in-Down.ensures.is (λ v. lowest-Down S c.args.s.now c.in-Down.e c.in-Down.count v c.in-Down.is)

pub at_select-returns-in_ok-r-in-Down-clause-known : goal.at_select-returns-in_ok-r-in-Down-clause-known
at_select-returns-in_ok-r-in-Down-clause-known t c = λ k h. c.in_ok-r-in-Down.ensures.known k (constant-Down (declared_all c.args.signals.now) c.args.s.now c.in-Down.e c.in-Down.count c.in-Down.is h)

-- ---- side by side

pub joined-own-e_own-requires : goal.joined-own-e_own-requires
joined-own-e_own-requires t c =
    let S = declared_all c.args.signals.now in
    subst (λ (z : FlatExpr). is_good S z ≡ true) (sym c.index-es-i.is) (good-at S c.args.es.now c.loop-i.i c.index-es-i.result c.loop-i-test.true c.requires.good)

pub joined-value-requires-in-loop-i : goal.joined-value-requires-in-loop-i
joined-value-requires-in-loop-i t c =
    let S = declared_all c.args.signals.now in
    let g = subst (λ (z : FlatExpr). is_good S z ≡ true) (sym c.index-es-i.is) (good-at S c.args.es.now c.loop-i.i c.index-es-i.result c.loop-i-test.true c.requires.good) in
    let o0 = ap (λ (p : ℕ × Bool). p.0) c.own-e_own.ensures in
    (search (rules, the_lemmas), (g, (omega (arith, o0), (omega (arith, o0, (good-width S c.index-es-i.result g).1), (c.requires.first, table-later c.loop-i.invariant.means.grows c.requires.table)))))

pub joined-join-requires-clause-most : goal.joined-join-requires-clause-most
joined-join-requires-clause-most t c =
    let S = declared_all c.args.signals.now in
    let o0 = ap (λ (p : ℕ × Bool). p.0) c.own-e_own.ensures in
    omega (arith, c.loop-i.invariant.means.width, c.in_ok-x.ensures.is.width, o0, widths-most S c.args.es.now c.loop-i.i c.index-es-i.result c.loop-i-test.true c.index-es-i.is, c.requires.most)

pub joined-loop-i-preserved : goal.joined-loop-i-preserved
joined-loop-i-preserved t c =
    let S = declared_all c.args.signals.now in
    let es = c.args.es.now in
    let i = c.loop-i.i in
    let e = c.index-es-i.result in
    let o0 = ap (λ (p : ℕ × Bool). p.0) c.own-e_own.ensures in
    let o1 = ap (λ (p : ℕ × Bool). p.1) c.own-e_own.ensures in
    record {
      some = omega arith;
      most = omega (arith, c.loop-i-test.true);
      means = means-next S es e c.loop-i-test.true c.index-es-i.is refl o0 o1 c.loop-i.invariant.means c.in_ok-x.ensures.is c.in_ok-acc.ensures.is;
      known = λ h.
          let b = both-of (map (reading S) (take i es)) (reading S e) (sym (ap (list_all (λ (r : Reading). r.constant)) (one-more S (reading S) es i e c.loop-i-test.true c.index-es-i.is)) ∙ h) in
          c.in_ok-acc.ensures.known (c.loop-i.invariant.known b.0) (c.in_ok-x.ensures.known b.1);
    }

-- ---- the word of a name

pub name_word-number_at-requires : goal.name_word-number_at-requires
name_word-number_at-requires t c =
    let S = declared_all c.args.signals.now in
    let k = c.args.k in
    let d = c.signal_of-signal.ensures in
    let h : is_signal_sort (signal_at S k).sort ≡ true = ap (λ (x : Declared). is_signal_sort x.sort) d ∙ signal-sort c.signal_of-signal.result.now.sort (sym c.is_clock.ensures ∙ c.if-is_clock.false) in
    let e : (signal_at S k).array ≡ None = ap (λ (x : Declared). x.array) d ∙ ap bounds_of c.in-None.is in
    omega (arith, c.number_at-at.ensures, c.requires.first.is k (signal_in S k h), (cell_is S k h e).within, c.requires.table.count)

pub name_word-elements_of-nodes-requires : goal.name_word-elements_of-nodes-requires
name_word-elements_of-nodes-requires t c =
    let S = declared_all c.args.signals.now in
    let k = c.args.k in
    let b : names.Bounds = record { left = c.in-Some.left; right = c.in-Some.right } in
    let d = c.signal_of-signal.ensures in
    let h : is_signal_sort (signal_at S k).sort ≡ true = ap (λ (x : Declared). is_signal_sort x.sort) d ∙ signal-sort c.signal_of-signal.result.now.sort (sym c.is_clock.ensures ∙ c.if-is_clock.false) in
    let e : (signal_at S k).array ≡ Some b = ap (λ (x : Declared). x.array) d ∙ ap bounds_of c.in-Some.is in
    let at = c.number_at-at.result in
    let a = c.number_at-at.ensures ∙ c.requires.first.is k (signal_in S k h) in
    let w = elements-within S k b h e c.args.table.now (take (size b) (drop at c.args.table.now)) at a refl in
    omega (arith, w, c.requires.table.count)

pub name_word-at_select-requires : goal.name_word-at_select-requires
name_word-at_select-requires t c =
    let S = declared_all c.args.signals.now in
    let k = c.args.k in
    let b : names.Bounds = record { left = c.in-Some.left; right = c.in-Some.right } in
    let d = c.signal_of-signal.ensures in
    let h : is_signal_sort (signal_at S k).sort ≡ true = ap (λ (x : Declared). is_signal_sort x.sort) d ∙ signal-sort c.signal_of-signal.result.now.sort (sym c.is_clock.ensures ∙ c.if-is_clock.false) in
    let e : (signal_at S k).array ≡ Some b = ap (λ (x : Declared). x.array) d ∙ ap bounds_of c.in-Some.is in
    let at = c.number_at-at.result in
    let a = c.number_at-at.ensures ∙ c.requires.first.is k (signal_in S k h) in
    let nodes = c.elements_of-nodes.result.now in
    let n = c.elements_of-nodes.ensures in
    let wd : c.signal_width-width.result ≡ names.width_of (signal_at S k) = c.signal_width-width.ensures.is ∙ sym (ap names.width_of d) in
    let shaped : HasElement S (Some b) c.args.ss.now = subst (λ o. HasElement S o c.args.ss.now) e c.requires.shaped in
    let one = first-count S b c.args.ss.now c.s-item.result c.s-item.is shaped in
    let count = elements-count S k b h e c.args.table.now nodes at a n c.requires.table in
    let all = subst (λ i. AreElements c.args.b.now i nodes) (sym wd) (elements-table S k b h e c.args.table.now nodes at a n c.requires.table) in
    let most : c.max.result ≡ max c.in-Some.left c.in-Some.right = c.max.ensures in
    let top : c.max.result < 4294967296 = c.max.type_inv in (
      search (rules, the_lemmas),
      (
        first-select S c.args.ss.now c.s-item.result c.in-len1-up.len_at_least c.s-item.is c.requires.good,
        (
          omega (arith, one),
          (
            omega (arith, one),
            (
              (all, c.signal_width-width.ensures.some, c.signal_width-width.ensures.most),
              ((omega (arith, count), omega (arith, count, c.min-low.ensures, most, top)), (c.requires.first, c.requires.table)),
            ),
          ),
        ),
      ),
    )

pub name_word-returns-in-None : goal.name_word-returns-in-None
name_word-returns-in-None t c =
    let S = declared_all c.args.signals.now in
    let k = c.args.k in
    let d = c.signal_of-signal.ensures in
    let h : is_signal_sort (signal_at S k).sort ≡ true = ap (λ (x : Declared). is_signal_sort x.sort) d ∙ signal-sort c.signal_of-signal.result.now.sort (sym c.is_clock.ensures ∙ c.if-is_clock.false) in
    let e : (signal_at S k).array ≡ None = ap (λ (x : Declared). x.array) d ∙ ap bounds_of c.in-None.is in
    let wd : c.signal_width-width.result ≡ names.width_of (signal_at S k) = c.signal_width-width.ensures.is ∙ sym (ap names.width_of d) in
    means-whole c.args.b.now S c.args.table.now c.args.first.now k c.number_at-at.result c.number_at.result c.signal_width-width.result (map (chosen_by S) c.args.ss.now) c.requires.first c.requires.table h e
    c.number_at-at.ensures c.number_at.ensures wd

pub name_word-returns-in_ok-r-in-len1-up : goal.name_word-returns-in_ok-r-in-len1-up
name_word-returns-in_ok-r-in-len1-up t c =
    let S = declared_all c.args.signals.now in
    let k = c.args.k in
    let ss = c.args.ss.now in
    let s = c.s-item.result in
    let b : names.Bounds = record { left = c.in-Some.left; right = c.in-Some.right } in
    let d = c.signal_of-signal.ensures in
    let h : is_signal_sort (signal_at S k).sort ≡ true = ap (λ (x : Declared). is_signal_sort x.sort) d ∙ signal-sort c.signal_of-signal.result.now.sort (sym c.is_clock.ensures ∙ c.if-is_clock.false) in
    let e : (signal_at S k).array ≡ Some b = ap (λ (x : Declared). x.array) d ∙ ap bounds_of c.in-Some.is in
    let wd : c.signal_width-width.result ≡ names.width_of (signal_at S k) = c.signal_width-width.ensures.is ∙ sym (ap names.width_of d) in
    means-same (means-element S c.args.table.now c.elements_of-nodes.result.now c.args.first.now k c.number_at-at.result c.signal_width-width.result c.min-low.result b (chosen_by S s) (map (chosen_by S) (drop 1 ss))
    c.requires.first c.requires.table h e c.number_at-at.ensures c.elements_of-nodes.ensures c.min-low.ensures wd c.in_ok-r-in-len1-up.ensures.is) refl
    (λ v. ap (λ (ys : List FlatSelect). name_word (signal_at S k) (map (chosen_by S) ys) v) (sym (split-first ss s c.in-len1-up.len_at_least c.s-item.is)))

-- ---- divisions

pub value-value-requires-in-Div : goal.value-value-requires-in-Div
value-value-requires-in-Div t c =
    let S = declared_all c.args.signals.now in
    let g = div-good S c.args.e.now c.requires.good c.in-Div.x c.in-Div.y c.in-Div.is in
    let wide = ap (λ (m : Meaning). m.width) (div-means S c.args.e.now c.in-Div.x c.in-Div.y c.in-Div.is) in
    let w = ap (λ (z : FlatExpr). (meaning S z).width) c.get-in-Div.ensures in
    (search (rules, the_lemmas), (subst (λ (z : FlatExpr). is_good S z ≡ true) (sym c.get-in-Div.ensures) g.0, (omega (arith, w, wide, c.requires.wide), (c.requires.most, (c.requires.first, c.requires.table)))))

pub value-value-requires-in-Div-2 : goal.value-value-requires-in-Div-2
value-value-requires-in-Div-2 t c =
    let S = declared_all c.args.signals.now in
    let g = div-good S c.args.e.now c.requires.good c.in-Div.x c.in-Div.y c.in-Div.is in
    let wide = ap (λ (m : Meaning). m.width) (div-means S c.args.e.now c.in-Div.x c.in-Div.y c.in-Div.is) in
    let w = ap (λ (z : FlatExpr). (meaning S z).width) c.get-in-Div-2.ensures in
    (search (rules, the_lemmas), (subst (λ (z : FlatExpr). is_good S z ≡ true) (sym c.get-in-Div-2.ensures) g.1, (omega (arith, w, wide, c.requires.wide), (c.requires.most, (c.requires.first, table-later c.in_ok-p-in-Div.ensures.is.grows c.requires.table)))))

pub value-quotient-requires-clause-p_known : goal.value-quotient-requires-clause-p_known
value-quotient-requires-clause-p_known t c =
    let S = declared_all c.args.signals.now in
    let g = div-good S c.args.e.now c.requires.good c.in-Div.x c.in-Div.y c.in-Div.is in
    c.in_ok-p-in-Div.ensures.known (constant-moved S c.get-in-Div.result.now c.in-Div.x c.get-in-Div.ensures g.2)

pub value-quotient-requires-clause-q_known : goal.value-quotient-requires-clause-q_known
value-quotient-requires-clause-q_known t c =
    let S = declared_all c.args.signals.now in
    let g = div-good S c.args.e.now c.requires.good c.in-Div.x c.in-Div.y c.in-Div.is in
    c.in_ok-q-in-Div.ensures.known (constant-moved S c.get-in-Div-2.result.now c.in-Div.y c.get-in-Div-2.ensures g.3)

pub value-returns-in_ok-q-in-Div-clause-is : goal.value-returns-in_ok-q-in-Div-clause-is
value-returns-in_ok-q-in-Div-clause-is t c =
    let S = declared_all c.args.signals.now in
    let W = c.args.width in
    let T = c.args.signed in
    let g = div-good S c.args.e.now c.requires.good c.in-Div.x c.in-Div.y c.in-Div.is in
    let kp = c.in_ok-p-in-Div.ensures.known (constant-moved S c.get-in-Div.result.now c.in-Div.x c.get-in-Div.ensures g.2) in
    let kq = c.in_ok-q-in-Div.ensures.known (constant-moved S c.get-in-Div-2.result.now c.in-Div.y c.get-in-Div-2.ensures g.3) in
    means-same (means-divided (λ w a b. quotient T w a b) c.in_ok-p-in-Div.ensures.is c.in_ok-q-in-Div.ensures.is kp kq c.quotient.ensures.is c.quotient.ensures.fits) refl (λ v.
    ap (λ (z : FlatExpr). quotient T W ((meaning S z).value W T v) ((meaning S c.get-in-Div-2.result.now).value W T v)) c.get-in-Div.ensures ∙
    (ap (λ (z : FlatExpr). quotient T W ((meaning S c.in-Div.x).value W T v) ((meaning S z).value W T v)) c.get-in-Div-2.ensures ∙
    sym (ap (λ (m : Meaning). m.value W T v) (div-means S c.args.e.now c.in-Div.x c.in-Div.y c.in-Div.is))))

pub value-value-requires-in-Rem : goal.value-value-requires-in-Rem
value-value-requires-in-Rem t c =
    let S = declared_all c.args.signals.now in
    let g = rem-good S c.args.e.now c.requires.good c.in-Rem.x c.in-Rem.y c.in-Rem.is in
    let wide = ap (λ (m : Meaning). m.width) (rem-means S c.args.e.now c.in-Rem.x c.in-Rem.y c.in-Rem.is) in
    let w = ap (λ (z : FlatExpr). (meaning S z).width) c.get-in-Rem.ensures in
    (search (rules, the_lemmas), (subst (λ (z : FlatExpr). is_good S z ≡ true) (sym c.get-in-Rem.ensures) g.0, (omega (arith, w, wide, c.requires.wide), (c.requires.most, (c.requires.first, c.requires.table)))))

pub value-value-requires-in-Rem-2 : goal.value-value-requires-in-Rem-2
value-value-requires-in-Rem-2 t c =
    let S = declared_all c.args.signals.now in
    let g = rem-good S c.args.e.now c.requires.good c.in-Rem.x c.in-Rem.y c.in-Rem.is in
    let wide = ap (λ (m : Meaning). m.width) (rem-means S c.args.e.now c.in-Rem.x c.in-Rem.y c.in-Rem.is) in
    let w = ap (λ (z : FlatExpr). (meaning S z).width) c.get-in-Rem-2.ensures in
    (search (rules, the_lemmas), (subst (λ (z : FlatExpr). is_good S z ≡ true) (sym c.get-in-Rem-2.ensures) g.1, (omega (arith, w, wide, c.requires.wide), (c.requires.most, (c.requires.first, table-later c.in_ok-p-in-Rem.ensures.is.grows c.requires.table)))))

pub value-remainder-requires-clause-p_known : goal.value-remainder-requires-clause-p_known
value-remainder-requires-clause-p_known t c =
    let S = declared_all c.args.signals.now in
    let g = rem-good S c.args.e.now c.requires.good c.in-Rem.x c.in-Rem.y c.in-Rem.is in
    c.in_ok-p-in-Rem.ensures.known (constant-moved S c.get-in-Rem.result.now c.in-Rem.x c.get-in-Rem.ensures g.2)

pub value-remainder-requires-clause-q_known : goal.value-remainder-requires-clause-q_known
value-remainder-requires-clause-q_known t c =
    let S = declared_all c.args.signals.now in
    let g = rem-good S c.args.e.now c.requires.good c.in-Rem.x c.in-Rem.y c.in-Rem.is in
    c.in_ok-q-in-Rem.ensures.known (constant-moved S c.get-in-Rem-2.result.now c.in-Rem.y c.get-in-Rem-2.ensures g.3)

pub value-returns-in_ok-q-in-Rem-clause-is : goal.value-returns-in_ok-q-in-Rem-clause-is
value-returns-in_ok-q-in-Rem-clause-is t c =
    let S = declared_all c.args.signals.now in
    let W = c.args.width in
    let T = c.args.signed in
    let g = rem-good S c.args.e.now c.requires.good c.in-Rem.x c.in-Rem.y c.in-Rem.is in
    let kp = c.in_ok-p-in-Rem.ensures.known (constant-moved S c.get-in-Rem.result.now c.in-Rem.x c.get-in-Rem.ensures g.2) in
    let kq = c.in_ok-q-in-Rem.ensures.known (constant-moved S c.get-in-Rem-2.result.now c.in-Rem.y c.get-in-Rem-2.ensures g.3) in
    means-same (means-divided (λ w a b. remainder T w a b) c.in_ok-p-in-Rem.ensures.is c.in_ok-q-in-Rem.ensures.is kp kq c.remainder.ensures.is c.remainder.ensures.fits) refl (λ v.
    ap (λ (z : FlatExpr). remainder T W ((meaning S z).value W T v) ((meaning S c.get-in-Rem-2.result.now).value W T v)) c.get-in-Rem.ensures ∙
    (ap (λ (z : FlatExpr). remainder T W ((meaning S c.in-Rem.x).value W T v) ((meaning S z).value W T v)) c.get-in-Rem-2.ensures ∙
    sym (ap (λ (m : Meaning). m.value W T v) (rem-means S c.args.e.now c.in-Rem.x c.in-Rem.y c.in-Rem.is))))

-- ---- names

pub value-chosen-requires : goal.value-chosen-requires
value-chosen-requires t c =
    let S = declared_all c.args.signals.now in
    let k = c.in-Const.c in
    let z = c.as_slice.result.now in
    let b : names.Bounds = record { left = k.left; right = k.right } in
    let g = good-width S c.args.e.now c.requires.good in
    let o = ap (λ (p : ℕ × Bool). p.0) (const-own S c.args.e.now k c.in-Const.ss c.in-Const.is) in
    let n : name_width S (size b) z ≡ name_width S (size b) c.in-Const.ss = ap (λ y. name_width S (size b) y) c.as_slice.ensures in
    let wd : k.word.width ≡ size b = sym c.const_width.ensures.word ∙ c.const_width.ensures.is in (
      search (rules, the_lemmas),
      (
        subst (λ y. are_good_selects S y ≡ true) (sym c.as_slice.ensures) (const-good S c.args.e.now c.requires.good k c.in-Const.ss c.in-Const.is),
        (
          omega (arith, n, o, g.0),
          (
            omega (arith, n, o, g.1),
            (
              subst (λ m. k.word.value < 2 ^ m) c.const_width.ensures.word c.const_width.ensures.fits,
              (wd, (omega (arith, c.const_width.ensures.word, c.const_width.ensures.most), (c.requires.first, c.requires.table))),
            ),
          ),
        ),
      ),
    )

pub value-extend-requires-in-Const-clause-wide : goal.value-extend-requires-in-Const-clause-wide
value-extend-requires-in-Const-clause-wide t c =
    let S = declared_all c.args.signals.now in
    let k = c.in-Const.c in
    let b : names.Bounds = record { left = k.left; right = k.right } in
    let o = ap (λ (p : ℕ × Bool). p.0) (const-own S c.args.e.now k c.in-Const.ss c.in-Const.is) in
    let n : name_width S (size b) c.as_slice.result.now ≡ name_width S (size b) c.in-Const.ss = ap (λ y. name_width S (size b) y) c.as_slice.ensures in
    omega (arith, c.in_ok-x-in-Const.ensures.is.width, n, o, c.requires.wide)

pub value-returns-in_ok-r-in-Const-clause-is : goal.value-returns-in_ok-r-in-Const-clause-is
value-returns-in_ok-r-in-Const-clause-is t c =
    let S = declared_all c.args.signals.now in
    let W = c.args.width in
    let T = c.args.signed in
    let k = c.in-Const.c in
    let ss = c.in-Const.ss in
    let z = c.as_slice.result.now in
    let b : names.Bounds = record { left = k.left; right = k.right } in
    let wd : k.word.width ≡ size b = sym c.const_width.ensures.word ∙ c.const_width.ensures.is in
    let lt : k.word.value < 2 ^ size b = subst (λ m. k.word.value < 2 ^ m) c.const_width.ensures.is c.const_width.ensures.fits in
    let m : Means c.args.b.now c.args.b.now (Known k.word) (all_cells S) c.args.table.now (size b) (λ v. k.word.value) = record {
      grows = grows-refl c.args.b.now;
      in_new = subst (λ i. k.word.value < 2 ^ i) c.const_width.ensures.word c.const_width.ensures.fits;
      width = wd;
      is = λ w v o s. refl;
    } in
    means-chosen T (λ x v. bits_read b (map (chosen_by S) z) x v) m c.in_ok-x-in-Const.ensures.is c.in_ok-r-in-Const.ensures.is c.in_ok-x-in-Const.ensures.is.width (λ v f.
    const-close S k ss z W T v c.as_slice.ensures lt ∙ sym (ap (λ (r : Reading). r.meaning.value W T v) (const-means S c.args.e.now k ss c.in-Const.is)))

pub value-returns-in_ok-r-in-Const-clause-known : goal.value-returns-in_ok-r-in-Const-clause-known
value-returns-in_ok-r-in-Const-clause-known t c = λ h.
    let S = declared_all c.args.signals.now in
    let k = const-constant S c.args.e.now c.in-Const.c c.in-Const.ss c.in-Const.is h in
    let l : are_constant S c.in-Const.ss ≡ true = sym (constant-selects S c.in-Const.ss) ∙ k in
    c.in_ok-r-in-Const.ensures.known (c.in_ok-x-in-Const.ensures.known tt (subst (λ y. are_constant S y ≡ true) (sym c.as_slice.ensures) l))

pub value-signal_of-signal-requires : goal.value-signal_of-signal-requires
value-signal_of-signal-requires t c =
    let S = declared_all c.args.signals.now in
    let g = (signal-good S c.args.e.now c.requires.good c.in-Signal.k c.in-Signal.ss c.in-Signal.is).0 in
    omega (arith, declared-in S c.in-Signal.k g, length-map c.args.signals.now declared)

pub value-name_word-requires : goal.value-name_word-requires
value-name_word-requires t c =
    let S = declared_all c.args.signals.now in
    let k = c.in-Signal.k in
    let ss = c.in-Signal.ss in
    let g = signal-good S c.args.e.now c.requires.good k ss c.in-Signal.is in (
      search (rules, the_lemmas),
      (
        omega (arith, declared-in S k g.0, length-map c.args.signals.now declared),
        (
          subst (λ y. HasElement S (signal_at S k).array y) (sym c.as_slice-in-Signal.ensures) (has-element S (signal_at S k).array ss g.1),
          (subst (λ y. are_good_selects S y ≡ true) (sym c.as_slice-in-Signal.ensures) g.2, (c.requires.first, c.requires.table)),
        ),
      ),
    )

pub value-chosen-requires-in-Signal : goal.value-chosen-requires-in-Signal
value-chosen-requires-in-Signal t c =
    let S = declared_all c.args.signals.now in
    let k = c.in-Signal.k in
    let ss = c.in-Signal.ss in
    let s = c.signal_of-signal.result.now in
    let d = c.signal_of-signal.ensures in
    let z = c.as_slice-in-Signal-2.result.now in
    let g = signal-good S c.args.e.now c.requires.good k ss c.in-Signal.is in
    let gw = good-width S c.args.e.now c.requires.good in
    let b : names.Bounds = record { left = s.left; right = s.right } in
    let o = ap (λ (p : ℕ × Bool). p.0) (signal-own S c.args.e.now k ss c.in-Signal.is) in
    let n = own-signal-wide S k ss s (size b) (bit_selects (bounds_by s.array) z) z d refl refl c.as_slice-in-Signal-2.ensures in
    let wd : width_of c.in_ok-word-in-Signal.word ≡ size b = c.in_ok-word-in-Signal.ensures.width ∙ ap names.width_of d in (
      search (rules, the_lemmas),
      (
        subst (λ y. are_good_selects S y ≡ true) (sym c.as_slice-in-Signal-2.ensures) g.2,
        (
          omega (arith, n, o, gw.0),
          (
            omega (arith, n, o, gw.1),
            (c.in_ok-word-in-Signal.ensures.in_new, (wd, (omega (arith, wd, c.signal_width.ensures.is, c.signal_width.ensures.most), (c.requires.first, table-later c.in_ok-word-in-Signal.ensures.grows c.requires.table)))),
          ),
        ),
      ),
    )

pub value-extend-requires-in-Signal-clause-wide : goal.value-extend-requires-in-Signal-clause-wide
value-extend-requires-in-Signal-clause-wide t c =
    let S = declared_all c.args.signals.now in
    let k = c.in-Signal.k in
    let ss = c.in-Signal.ss in
    let s = c.signal_of-signal.result.now in
    let z = c.as_slice-in-Signal-2.result.now in
    let b : names.Bounds = record { left = s.left; right = s.right } in
    let o = ap (λ (p : ℕ × Bool). p.0) (signal-own S c.args.e.now k ss c.in-Signal.is) in
    let n = own-signal-wide S k ss s (size b) (bit_selects (bounds_by s.array) z) z c.signal_of-signal.ensures refl refl c.as_slice-in-Signal-2.ensures in
    omega (arith, c.in_ok-x-in-Signal.ensures.is.width, n, o, c.requires.wide)

pub value-returns-in_ok-r-in-Signal-clause-is : goal.value-returns-in_ok-r-in-Signal-clause-is
value-returns-in_ok-r-in-Signal-clause-is t c =
    let S = declared_all c.args.signals.now in
    let W = c.args.width in
    let T = c.args.signed in
    let k = c.in-Signal.k in
    let ss = c.in-Signal.ss in
    let s = c.signal_of-signal.result.now in
    let d = c.signal_of-signal.ensures in
    let z = c.as_slice-in-Signal-2.result.now in
    let g = signal-good S c.args.e.now c.requires.good k ss c.in-Signal.is in
    let b : names.Bounds = record { left = s.left; right = s.right } in
    means-chosen T (λ x v. bits_read b (map (chosen_by S) (bit_selects (bounds_by s.array) z)) x v) c.in_ok-word-in-Signal.ensures c.in_ok-x-in-Signal.ensures.is c.in_ok-r-in-Signal.ensures.is c.in_ok-x-in-Signal.ensures.is.width (λ v f.
    signal-close S (declared s) (signal_at S k) ss c.as_slice-in-Signal.result.now z W T v d c.as_slice-in-Signal.ensures c.as_slice-in-Signal-2.ensures g.0 f ∙
    sym (ap (λ (r : Reading). r.meaning.value W T v) (signal-means S c.args.e.now k ss c.in-Signal.is)))

pub value-returns-in_ok-r-in-Signal-clause-known : goal.value-returns-in_ok-r-in-Signal-clause-known
value-returns-in_ok-r-in-Signal-clause-known t c = λ h.
    let S = declared_all c.args.signals.now in
    let k = c.in-Signal.k in
    let g = (signal-good S c.args.e.now c.requires.good k c.in-Signal.ss c.in-Signal.is).0 in
    absurd (never-constant (signal_at S k).sort g (signal-constant S c.args.e.now k c.in-Signal.ss c.in-Signal.is h))

-- ---- concatenations

pub value-joined-requires : goal.value-joined-requires
value-joined-requires t c =
    let S = declared_all c.args.signals.now in
    let es = c.in-Cat.es in
    let g = cat-good S c.args.e.now c.requires.good es c.in-Cat.is in
    let gw = good-width S c.args.e.now c.requires.good in
    let w = ap (λ (m : Meaning). m.width) (cat-means S c.args.e.now es c.in-Cat.is) in
    let n : widths (map (meaning S) c.as_slice-in-Cat.result.now) ≡ widths (map (meaning S) es) = ap (λ (z : List FlatExpr). widths (map (meaning S) z)) c.as_slice-in-Cat.ensures in (
      search (rules, the_lemmas),
      (
        subst (λ (z : List FlatExpr). list_all (λ (x : Bool). x) (map (is_good S) z) ≡ true) (sym c.as_slice-in-Cat.ensures) g,
        (omega (arith, n, w, gw.0), (omega (arith, n, w, gw.1), (c.requires.first, c.requires.table))),
      ),
    )

pub value-extend-requires-in-Cat-clause-wide : goal.value-extend-requires-in-Cat-clause-wide
value-extend-requires-in-Cat-clause-wide t c =
    let S = declared_all c.args.signals.now in
    let es = c.in-Cat.es in
    let w = ap (λ (m : Meaning). m.width) (cat-means S c.args.e.now es c.in-Cat.is) in
    let n : widths (map (meaning S) c.as_slice-in-Cat.result.now) ≡ widths (map (meaning S) es) = ap (λ (z : List FlatExpr). widths (map (meaning S) z)) c.as_slice-in-Cat.ensures in
    omega (arith, c.in_ok-x-in-Cat.ensures.is.width, n, w, c.requires.wide)

pub value-returns-in_ok-r-in-Cat-clause-is : goal.value-returns-in_ok-r-in-Cat-clause-is
value-returns-in_ok-r-in-Cat-clause-is t c =
    let S = declared_all c.args.signals.now in
    let W = c.args.width in
    let T = c.args.signed in
    means-joined T c.in_ok-x-in-Cat.ensures.is c.in_ok-r-in-Cat.ensures.is (λ v.
    ap (λ (z : List FlatExpr). extended T (widths (map (meaning S) z)) W (joined v (map (meaning S) z))) c.as_slice-in-Cat.ensures ∙ sym (ap (λ (m : Meaning). m.value W T v) (cat-means S c.args.e.now c.in-Cat.es c.in-Cat.is)))

pub value-returns-in_ok-r-in-Cat-clause-known : goal.value-returns-in_ok-r-in-Cat-clause-known
value-returns-in_ok-r-in-Cat-clause-known t c = λ h.
    let S = declared_all c.args.signals.now in
    c.in_ok-r-in-Cat.ensures.known (c.in_ok-x-in-Cat.ensures.known (subst (λ (z : List FlatExpr). list_all (λ (r : Reading). r.constant) (map (reading S) z) ≡ true) (sym c.as_slice-in-Cat.ensures)
    (cat-constant S c.args.e.now c.in-Cat.es c.in-Cat.is h)))

pub value-joined-requires-in-Rep : goal.value-joined-requires-in-Rep
value-joined-requires-in-Rep t c =
    let S = declared_all c.args.signals.now in
    let es = c.in-Rep.es in
    let k = c.in-Rep.count in
    let g = rep-good S c.args.e.now c.requires.good k es c.in-Rep.is in
    let gw = good-width S c.args.e.now c.requires.good in
    let w : (meaning S c.args.e.now).width ≡ k * widths (map (meaning S) es) = ap (λ (m : Meaning). m.width) (rep-means S c.args.e.now k es c.in-Rep.is) in
    let most : widths (map (meaning S) es) ≤ 128 = part_below k (widths (map (meaning S) es)) 128 (omega (arith, w, gw.0)) (omega (arith, w, gw.1)) in
    let some = (part_some k (widths (map (meaning S) es)) (omega (arith, w, gw.0))).1 in
    let n : widths (map (meaning S) c.as_slice-in-Rep.result.now) ≡ widths (map (meaning S) es) = ap (λ (z : List FlatExpr). widths (map (meaning S) z)) c.as_slice-in-Rep.ensures in (
      search (rules, the_lemmas),
      (
        subst (λ (z : List FlatExpr). list_all (λ (x : Bool). x) (map (is_good S) z) ≡ true) (sym c.as_slice-in-Rep.ensures) g,
        (omega (arith, n, some), (omega (arith, n, most), (c.requires.first, c.requires.table))),
      ),
    )

pub value-repeated-requires-clause-some : goal.value-repeated-requires-clause-some
value-repeated-requires-clause-some t c =
    let S = declared_all c.args.signals.now in
    let es = c.in-Rep.es in
    let k = c.in-Rep.count in
    let w : (meaning S c.args.e.now).width ≡ k * widths (map (meaning S) es) = ap (λ (m : Meaning). m.width) (rep-means S c.args.e.now k es c.in-Rep.is) in
    (part_some k (widths (map (meaning S) es)) (omega (arith, w, (good-width S c.args.e.now c.requires.good).0))).0

pub value-repeated-requires-clause-any : goal.value-repeated-requires-clause-any
value-repeated-requires-clause-any t c =
    let S = declared_all c.args.signals.now in
    let es = c.in-Rep.es in
    let k = c.in-Rep.count in
    let w : (meaning S c.args.e.now).width ≡ k * widths (map (meaning S) es) = ap (λ (m : Meaning). m.width) (rep-means S c.args.e.now k es c.in-Rep.is) in
    let n : widths (map (meaning S) c.as_slice-in-Rep.result.now) ≡ widths (map (meaning S) es) = ap (λ (z : List FlatExpr). widths (map (meaning S) z)) c.as_slice-in-Rep.ensures in
    omega (arith, c.in_ok-x-in-Rep.ensures.is.width, n, (part_some k (widths (map (meaning S) es)) (omega (arith, w, (good-width S c.args.e.now c.requires.good).0))).1)

pub value-repeated-requires-clause-most : goal.value-repeated-requires-clause-most
value-repeated-requires-clause-most t c =
    let S = declared_all c.args.signals.now in
    let es = c.in-Rep.es in
    let k = c.in-Rep.count in
    let w : (meaning S c.args.e.now).width ≡ k * widths (map (meaning S) es) = ap (λ (m : Meaning). m.width) (rep-means S c.args.e.now k es c.in-Rep.is) in
    let n : width_of c.in_ok-x-in-Rep.x ≡ widths (map (meaning S) es) = c.in_ok-x-in-Rep.ensures.is.width ∙ ap (λ (z : List FlatExpr). widths (map (meaning S) z)) c.as_slice-in-Rep.ensures in
    let p : k * width_of c.in_ok-x-in-Rep.x ≡ k * widths (map (meaning S) es) = ap (λ i. k * i) n in
    omega (arith, p, w, (good-width S c.args.e.now c.requires.good).1)

pub value-extend-requires-in-Rep-clause-wide : goal.value-extend-requires-in-Rep-clause-wide
value-extend-requires-in-Rep-clause-wide t c =
    let S = declared_all c.args.signals.now in
    let es = c.in-Rep.es in
    let k = c.in-Rep.count in
    let w : (meaning S c.args.e.now).width ≡ k * widths (map (meaning S) es) = ap (λ (m : Meaning). m.width) (rep-means S c.args.e.now k es c.in-Rep.is) in
    let n : width_of c.in_ok-x-in-Rep.x ≡ widths (map (meaning S) es) = c.in_ok-x-in-Rep.ensures.is.width ∙ ap (λ (z : List FlatExpr). widths (map (meaning S) z)) c.as_slice-in-Rep.ensures in
    let p : k * width_of c.in_ok-x-in-Rep.x ≡ k * widths (map (meaning S) es) = ap (λ i. k * i) n in
    omega (arith, c.in_ok-y-in-Rep.ensures.is.width, p, w, c.requires.wide)

pub value-returns-in_ok-r-in-Rep-clause-is : goal.value-returns-in_ok-r-in-Rep-clause-is
value-returns-in_ok-r-in-Rep-clause-is t c =
    let S = declared_all c.args.signals.now in
    let W = c.args.width in
    let T = c.args.signed in
    let k = c.in-Rep.count in
    means-repeated k T c.in_ok-x-in-Rep.ensures.is c.in_ok-y-in-Rep.ensures.is c.in_ok-r-in-Rep.ensures.is (λ v.
    ap (λ (z : List FlatExpr). extended T (k * widths (map (meaning S) z)) W (repeated k (widths (map (meaning S) z)) (joined v (map (meaning S) z)))) c.as_slice-in-Rep.ensures ∙
    sym (ap (λ (m : Meaning). m.value W T v) (rep-means S c.args.e.now k c.in-Rep.es c.in-Rep.is)))

pub value-returns-in_ok-r-in-Rep-clause-known : goal.value-returns-in_ok-r-in-Rep-clause-known
value-returns-in_ok-r-in-Rep-clause-known t c = λ h.
    let S = declared_all c.args.signals.now in
    c.in_ok-r-in-Rep.ensures.known (c.in_ok-y-in-Rep.ensures.known (c.in_ok-x-in-Rep.ensures.known (subst (λ (z : List FlatExpr). list_all (λ (r : Reading). r.constant) (map (reading S) z) ≡ true) (sym c.as_slice-in-Rep.ensures)
    (rep-constant S c.args.e.now c.in-Rep.count c.in-Rep.es c.in-Rep.is h))))

-- ---- what is constant

pub value-returns-in_ok-r-in-Un-clause-known : goal.value-returns-in_ok-r-in-Un-clause-known
value-returns-in_ok-r-in-Un-clause-known t c = λ h.
    let S = declared_all c.args.signals.now in
    c.in_ok-r-in-Un.ensures.known (c.in_ok-x-in-Un.ensures.known (constant-moved S c.get-in-Un.result.now c.in-Un.a c.get-in-Un.ensures (un-constant S c.args.e.now c.in-Un.op c.in-Un.a c.in-Un.is h)))

pub value-returns-in_ok-r-in-Bin-clause-known : goal.value-returns-in_ok-r-in-Bin-clause-known
value-returns-in_ok-r-in-Bin-clause-known t c = λ h.
    let S = declared_all c.args.signals.now in
    let k = bin-constant S c.args.e.now c.in-Bin.op c.in-Bin.x c.in-Bin.y c.in-Bin.is h in
    c.in_ok-r-in-Bin.ensures.known (c.in_ok-p-in-Bin.ensures.known (constant-moved S c.get-in-Bin-3.result.now c.in-Bin.x c.get-in-Bin-3.ensures k.0))
    (c.in_ok-q-in-Bin.ensures.known (constant-moved S c.get-in-Bin-4.result.now c.in-Bin.y c.get-in-Bin-4.ensures k.1))

pub value-returns-in_ok-r-in-Cond-clause-known : goal.value-returns-in_ok-r-in-Cond-clause-known
value-returns-in_ok-r-in-Cond-clause-known t c = λ h.
    let S = declared_all c.args.signals.now in
    let k = cond-constant S c.args.e.now c.in-Cond.c c.in-Cond.x c.in-Cond.y c.in-Cond.is h in
    c.in_ok-r-in-Cond.ensures.known (c.in_ok-t-in-Cond.ensures.known (constant-moved S c.get-in-Cond-2.result.now c.in-Cond.c c.get-in-Cond-2.ensures k.0))
    (c.in_ok-p-in-Cond.ensures.known (constant-moved S c.get-in-Cond-3.result.now c.in-Cond.x c.get-in-Cond-3.ensures k.1))
    (c.in_ok-q-in-Cond.ensures.known (constant-moved S c.get-in-Cond-4.result.now c.in-Cond.y c.get-in-Cond-4.ensures k.2))

pub value-returns-in_ok-r-in-Cast-clause-known : goal.value-returns-in_ok-r-in-Cast-clause-known
value-returns-in_ok-r-in-Cast-clause-known t c = λ h.
    let S = declared_all c.args.signals.now in
    c.in_ok-r-in-Cast.ensures.known (c.in_ok-x-in-Cast.ensures.known (constant-moved S c.get-in-Cast-2.result.now c.in-Cast.a c.get-in-Cast-2.ensures
    (cast-constant S c.args.e.now c.in-Cast.field-0 c.in-Cast.a c.in-Cast.is h)))
