-- What is told of parts and their drivers is told by the table of drivers.
use Rattle.std.proofs.Common.{◌≡◌, ℕ, zero, suc, ◌+◌, ◌<◌, arith, Bool, true, false, ◌&&◌, ◌||◌, ◌==◌, not, List, [], ◌∷◌, refl, sym, ap, ◌∙◌, subst, Option, Some, None}
use Rattle.std.specs.Prelude.{filter, cond, find, slice_get}
use Rattle.std.specs.List.{list_any}
use mathlib.Core.Path.{fun_ext}
use Rattle.std.proofs.lemmas.Bool.{eq-eqb, eqb-true}
use Rattle.lv_source.specs.Names.{Declared, Valuation, is_variable_sort, is_input_sort}
use Rattle.lv_source.specs.Places.{Bit, has_bit, same_bit, whole}
use Rattle.lv_source.specs.Meaning.{is_nil}
use Rattle.lv_source.specs.Parts.{At}
use Rattle.lv_source.specs.PartRules.{told_if, touches, others, has_twice}
use Rattle.lv_source.specs.ScopeRules.{same_sign}
use Rattle.lv_source.specs.Views.{View, is_edge, is_combinational, is_continuous, at_views, aimed_at, view_driven, is_mixed_view, is_two_view, is_register_view, is_wired_view, is_undriven_view, left_view_bit}
use Rattle.lv_source.specs.Drivers.{Drivers, with_number, drivers_from, drivers, holds_of, holds_at, has_other, some_driver, is_mixed_by, is_two_by, is_register_by, is_wired_by, is_undriven_by, view_at, AreDriven}
use Rattle.lv_source.proofs.Tests.{same_bits, bit-itself}
use Rattle.lv_source.proofs.Bridges.{two, any-alike}

-- ---- Booleans and lists

or-order : (a b c d : Bool) → ((a || b) || (c || d)) ≡ ((a || c) || (b || d))
or-order true b c d = refl
or-order false true true d = refl
or-order false true false d = refl
or-order false false c d = refl

any-or : {A : Type 0} (p q : A → Bool) (xs : List A) → list_any (λ x. p x || q x) xs ≡ (list_any p xs || list_any q xs)
any-or p q [] = refl
any-or p q (x ∷ xs) = ap (λ k. (p x || q x) || k) (any-or p q xs) ∙ or-order (p x) (q x) (list_any p xs) (list_any q xs)

any-never : {A : Type 0} (xs : List A) → list_any (λ (x : A). false) xs ≡ false
any-never [] = refl
any-never (x ∷ xs) = any-never xs

any-swap : {A B : Type 0} (r : A → B → Bool) (xs : List A) (ys : List B) → list_any (λ x. list_any (r x) ys) xs ≡ list_any (λ y. list_any (λ x. r x y) xs) ys
any-swap r [] ys = sym (any-never ys)
any-swap r (x ∷ xs) ys = ap (λ k. list_any (r x) ys || k) (any-swap r xs ys) ∙ sym (any-or (r x) (λ y. list_any (λ z. r z y) xs) ys)

and-never : (a : Bool) → (a && false) ≡ false
and-never true = refl
and-never false = refl

and-swap : (a b c : Bool) → (a && c || b && c) ≡ ((a || b) && c)
and-swap true b true = refl
and-swap true b false = and-never b
and-swap false b c = refl

any-and : {A : Type 0} (p : A → Bool) (c : Bool) (xs : List A) → list_any (λ x. p x && c) xs ≡ (list_any p xs && c)
any-and p c [] = refl
any-and p c (x ∷ xs) = ap (λ k. p x && c || k) (any-and p c xs) ∙ and-swap (p x) (list_any p xs) c

and-always : (a : Bool) → (a && true) ≡ a
and-always true = refl
and-always false = refl

filter_any : {A : Type 0} (p : A → Bool) (x : A) (xs : List A) (k : Bool) → list_any p (cond k (x ∷ xs) xs) ≡ (p x && k || list_any p xs)
filter_any p x xs true = ap (λ c. c || list_any p xs) (sym (and-always (p x)))
filter_any p x xs false = ap (λ c. c || list_any p xs) (sym (and-never (p x)))

any-filter : {A : Type 0} (p q : A → Bool) (xs : List A) → list_any p (filter q xs) ≡ list_any (λ x. p x && q x) xs
any-filter p q [] = refl
any-filter p q (x ∷ xs) = filter_any p x (filter q xs) (q x) ∙ ap (λ k. p x && q x || k) (any-filter p q xs)

both_true : (a b : Bool) → (a ≡ true → b ≡ true) → (b ≡ true → a ≡ true) → a ≡ b
both_true true true f g = refl
both_true true false f g = sym (f refl)
both_true false true f g = g refl
both_true false false f g = refl

bit-other : (a b : Bit) → same_bit a b ≡ same_bit b a
bit-other a b = both_true (same_bit a b) (same_bit b a)
    (λ h. subst (λ (x : Bit). same_bit x a ≡ true) (same_bits a b h) (bit-itself a))
    (λ h. subst (λ (x : Bit). same_bit x b ≡ true) (same_bits b a h) (bit-itself b))

-- a bit of the second list in the first, or of the first in the second
bits-other : (bs cs : List Bit) → list_any (has_bit bs) cs ≡ list_any (has_bit cs) bs
bits-other bs cs = any-swap same_bit cs bs ∙ any-alike _ _ bs (λ b. any-alike _ _ cs (λ c. bit-other c b))

-- ---- the table

some-number : (d : Bool) (k : ℕ) (ks : List ℕ) (r : Bool) → not (is_nil ks) ≡ r → not (is_nil (with_number d k ks)) ≡ (d || r)
some-number true k ks r h = refl
some-number false k ks r h = h

driven_from : (i : ℕ) (vs : List View) (b : Bit) → not (is_nil (drivers_from i vs b)) ≡ view_driven vs b
driven_from i [] b = refl
driven_from i (v ∷ vs) b = some-number (has_bit v.drives b) i (drivers_from (suc i) vs b) (view_driven vs b) (driven_from (suc i) vs b)

not-not : (a b : Bool) → not a ≡ b → a ≡ not b
not-not true b h = ap not h
not-not false b h = ap not h

undriven_is : (vs : List View) (b : Bit) → is_nil (drivers vs b) ≡ not (view_driven vs b)
undriven_is vs b = not-not (is_nil (drivers vs b)) (view_driven vs b) (driven_from 0 vs b)

any-number : (g : ℕ → Bool) (d : Bool) (k : ℕ) (ks : List ℕ) → list_any g (with_number d k ks) ≡ (d && g k || list_any g ks)
any-number g true k ks = refl
any-number g false k ks = refl

differ : (j k : ℕ) (c : Bool) → (j == k) ≡ c → (j ≡ k → ⊥) → not (j == k) ≡ true
differ j k true h f = absurd (f (eqb-true j k h))
differ j k false h f = ap not h

unlike : (j k : ℕ) → (j ≡ k → ⊥) → not (j == k) ≡ true
unlike j k f = differ j k (j == k) refl f

alike : (j k : ℕ) → j ≡ k → not (j == k) ≡ false
alike j k e = ap not (eq-eqb j k e)

-- each of the parts behind k is another one
behind : (i k : ℕ) (vs : List View) (b : Bit) → k < i → list_any (λ j. not (j == k)) (drivers_from i vs b) ≡ view_driven vs b
behind i k [] b h = refl
behind i k (v ∷ vs) b h =
    any-number (λ j. not (j == k)) (has_bit v.drives b) i (drivers_from (suc i) vs b) ∙
    two (λ a c. a || c) _ _ _ _ (ap (λ c. has_bit v.drives b && c) (unlike i k (λ e. (omega arith))) ∙ and-always (has_bit v.drives b)) (behind (suc i) k vs b (omega arith))

other_from : (i m : ℕ) (vs : List View) (b : Bit) → list_any (λ j. not (j == i + m)) (drivers_from i vs b) ≡ view_driven (others m vs) b
other_from i zero [] b = refl
other_from i (suc m) [] b = refl
other_from i zero (v ∷ vs) b =
    any-number (λ j. not (j == i + 0)) (has_bit v.drives b) i (drivers_from (suc i) vs b) ∙
    two (λ a c. a || c) _ _ _ _ (ap (λ c. has_bit v.drives b && c) (alike i (i + 0) (omega arith)) ∙ and-never (has_bit v.drives b)) (behind (suc i) (i + 0) vs b (omega arith))
other_from i (suc m) (v ∷ vs) b =
    let e : suc i + m ≡ i + suc m = omega arith in
    any-number (λ j. not (j == i + suc m)) (has_bit v.drives b) i (drivers_from (suc i) vs b) ∙
    two (λ a c. a || c) _ _ _ _ (ap (λ c. has_bit v.drives b && c) (unlike i (i + suc m) (λ h. (omega arith))) ∙ and-always (has_bit v.drives b))
    (ap (λ n. list_any (λ j. not (j == n)) (drivers_from (suc i) vs b)) (sym e) ∙ other_from (suc i) m vs b)

other_is : (k : ℕ) (vs : List View) (b : Bit) → has_other (drivers vs) k b ≡ view_driven (others k vs) b
other_is k vs b = (let e : 0 + k ≡ k = omega arith in ap (λ n. list_any (λ j. not (j == n)) (drivers_from 0 vs b)) (sym e) ∙ other_from 0 k vs b)

-- ---- the parts of the table

kind_from : (q : View → Bool) (g : ℕ → Bool) (i : ℕ) (vs : List View) (b : Bit) → ((m : ℕ) → g (i + m) ≡ holds_at vs q m) → list_any g (drivers_from i vs b) ≡ list_any (λ w. has_bit w.drives b && q w) vs
kind_from q g i [] b h = refl
kind_from q g i (v ∷ vs) b h =
    any-number g (has_bit v.drives b) i (drivers_from (suc i) vs b) ∙
    two (λ a c. a || c) _ _ _ _ (ap (λ c. has_bit v.drives b && c) ((let e : i ≡ i + 0 = omega arith in ap g e) ∙ h zero))
    (kind_from q g (suc i) vs b (λ m. (let e : suc i + m ≡ i + suc m = omega arith in ap g e) ∙ h (suc m)))

kind_is : (q : View → Bool) (vs : List View) (b : Bit) → list_any (holds_at vs q) (drivers vs b) ≡ list_any (λ w. has_bit w.drives b && q w) vs
kind_is q vs b = kind_from q (holds_at vs q) 0 vs b (λ m. (let e : 0 + m ≡ m = omega arith in ap (holds_at vs q) e))

-- some bit of a signal has a driver of a kind, exactly where a part of the kind drives one
some_is : (q : View → Bool) (vs : List View) (x : Declared) → some_driver vs (drivers vs) q x ≡ list_any (λ w. touches w.drives x && q w) vs
some_is q vs x =
    any-alike _ _ (whole x) (λ b. kind_is q vs b) ∙
    (any-swap (λ b w. has_bit w.drives b && q w) (whole x) vs ∙
    any-alike _ _ vs (λ w. any-and (has_bit w.drives) (q w) (whole x) ∙ ap (λ c. c && q w) (bits-other w.drives (whole x))))

mixed_is : (vs : List View) (v : View) (x : Declared) → is_mixed_view vs v x ≡ is_mixed_by vs (drivers vs) v x
mixed_is vs v x = ap (λ c. is_variable_sort x.sort && touches v.drives x && c) (sym (some_is (λ w. not (same_sign (is_edge v.way) (is_edge w.way))) vs x))

two_is : (ss : List Declared) (vs : List View) (k : ℕ) (v : View) → is_two_view ss vs k v ≡ is_two_by ss vs (drivers vs) k v
two_is ss vs k v =
    two (λ a c. a || is_continuous v.way && has_twice v.drives || list_any (λ x. is_input_sort x.sort && touches v.drives x) ss || c) _ _ _ _
    (any-alike _ _ v.drives (λ b. sym (other_is k vs b))) (any-alike _ _ ss (λ x. mixed_is vs v x))

comb_any : (vs : List View) (x : Declared) → list_any (view_driven (filter (λ w. is_combinational w.way) vs)) (whole x) ≡ some_driver vs (drivers vs) (λ w. is_combinational w.way) x
comb_any vs x = any-alike _ _ (whole x) (λ b. any-filter (λ w. has_bit w.drives b) (λ w. is_combinational w.way) vs ∙ sym (kind_is (λ w. is_combinational w.way) vs b))

register_is : (vs : List View) (x : Declared) → is_register_view vs x ≡ is_register_by vs (drivers vs) x
register_is vs x = ap (λ c. is_variable_sort x.sort && not c) (comb_any vs x)

wired_is : (vs : List View) (x : Declared) → is_wired_view vs x ≡ is_wired_by vs (drivers vs) x
wired_is vs x = ap (λ c. not (is_input_sort x.sort) && not c) (register_is vs x)

undriven_view_is : (ss : List Declared) (vs : List View) (v : View) → is_undriven_view ss vs v ≡ is_undriven_by ss vs (drivers vs) v
undriven_view_is ss vs v = any-alike _ _ ss (λ x. two (λ a c. a && c) _ _ _ _ (wired_is vs x) (any-alike _ _ v.reads (λ b. ap (λ c. has_bit (whole x) b && c) (sym (undriven_is vs b)))))

-- ---- the next value

at_option : (ℕ → Option View) → Option ℕ → Option View
at_option f None = None
at_option f (Some k) = f k

edge_of : View → Bool
edge_of w = is_edge w.way

find_number : (f : ℕ → Option View) (v : View) (d c : Bool) (k : ℕ) (ks : List ℕ) (rest : Option View) → holds_of edge_of (f k) ≡ c → f k ≡ Some v → at_option f (find (λ j. holds_of edge_of (f j)) ks) ≡ rest →
    at_option f (find (λ j. holds_of edge_of (f j)) (with_number d k ks)) ≡ cond (c && d) (Some v) rest
unfolding at_option
find_number f v true true k ks rest h e r = ap (λ z. at_option f (cond z (Some k) (find (λ j. holds_of edge_of (f j)) ks))) h ∙ e
find_number f v true false k ks rest h e r = ap (λ z. at_option f (cond z (Some k) (find (λ j. holds_of edge_of (f j)) ks))) h ∙ r
find_number f v false true k ks rest h e r = r
find_number f v false false k ks rest h e r = r

next_from : (f : ℕ → Option View) (i : ℕ) (vs : List View) (b : Bit) → ((m : ℕ) → f (i + m) ≡ slice_get vs m) →
    at_option f (find (λ j. holds_of edge_of (f j)) (drivers_from i vs b)) ≡ find (λ w. is_edge w.way && has_bit w.drives b) vs
unfolding at_option edge_of
next_from f i [] b h = refl
next_from f i (v ∷ vs) b h =
    let here : f i ≡ Some v = (let e : i ≡ i + 0 = omega arith in ap f e ∙ h zero) in
    find_number f v (has_bit v.drives b) (is_edge v.way) i (drivers_from (suc i) vs b) (find (λ w. is_edge w.way && has_bit w.drives b) vs) (ap (holds_of edge_of) here) here
    (next_from f (suc i) vs b (λ m. (let e : suc i + m ≡ i + suc m = omega arith in ap f e ∙ h (suc m))))

same_at : (vs : List View) (o : Option ℕ) → at_option (slice_get vs) o ≡ view_at vs o
unfolding at_option
same_at vs None = refl
same_at vs (Some k) = refl

next_is : (vs : List View) (v : Valuation) (b : Bit) →
    left_view_bit v b (find (λ w. is_edge w.way && has_bit w.drives b) vs) ≡ left_view_bit v b (view_at vs (find (holds_at vs (λ w. is_edge w.way)) (drivers vs b)))
unfolding edge_of
next_is vs v b =
    ap (left_view_bit v b) (sym (next_from (slice_get vs) 0 vs b (λ m. (let e : 0 + m ≡ m = omega arith in ap (slice_get vs) e))) ∙
    same_at vs (find (holds_at vs (λ w. is_edge w.way)) (drivers vs b)))

-- ---- the law

rule_alike : (vs : List View) (p q : ℕ → View → Bool) (ats : View → List At) → ((k : ℕ) (v : View) → p k v ≡ q k v) → at_views vs (λ k v. told_if (p k v) (ats v)) ≡ at_views vs (λ k v. told_if (q k v) (ats v))
rule_alike vs p q ats h = ap (λ (r : ℕ → View → Bool). at_views vs (λ k v. told_if (r k v) (ats v))) (fun_ext (λ k. fun_ext (h k)))

by_drivers : (ss : List Declared) (vs : List View) → AreDriven ss vs (drivers vs)
by_drivers ss vs = record {
  two = rule_alike vs (is_two_view ss vs) (is_two_by ss vs (drivers vs)) aimed_at (two_is ss vs);
  undriven = rule_alike vs (λ k v. is_undriven_view ss vs v) (λ k v. is_undriven_by ss vs (drivers vs) v) (λ v. v.at ∷ []) (λ k v. undriven_view_is ss vs v);
  registers = ap (λ (q : Declared → Bool). filter q ss) (fun_ext (register_is vs));
  next = next_is vs;
}

pub driven : (ss : List Declared) (vs : List View) (table : Drivers) → ((b : Bit) → table b ≡ drivers vs b) → AreDriven ss vs table
driven ss vs table h = subst (AreDriven ss vs) (sym (fun_ext h)) (by_drivers ss vs)
