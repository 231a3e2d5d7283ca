-- Answers on parts: none is told of, or one.
use Rattle.std.proofs.Common.{◌≡◌, ℕ, zero, suc, ◌+◌, ◌<◌, ◌≤◌, Bool, true, false, ◌||◌, List, [], ◌∷◌, ◌++◌, length, map, get_or, refl, ap, sym, subst, ◌∙◌, inl, inr, arith, Option, Some, None}
use Rattle.std.specs.Prelude.{flat_map, filter, cond, slice_get, Contains, if◌then◌else◌}
use Rattle.std.specs.List.{list_any}
use Rattle.std.proofs.lemmas.Bool.{cases_eq}
use Rattle.std.proofs.lemmas.Option.{slice_get_read, slice_get_within}
use Rattle.std.proofs.lemmas.List.Elements.{Contains-append_right}
use Rattle.lv_ast.specs.Names.{Name}
use Rattle.lv_source.specs.Parts.{At, numbered_from}
use Rattle.lv_source.specs.PartRules.{told_if}
use Rattle.lv_source.specs.Views.{View, at_view, at_views}
use Rattle.lv_flat.specs.Signals.{Signals}
use Rattle.lv_extents.specs.declared.extent.Extent.{Extent}
use Rattle.lv_extents.specs.Extents.{Each, IsExtent, AreExtents}
use Rattle.lv_rules.specs.Rules.{path_of, IsAnswer, IsPlace}
use Rattle.lv_rules.proofs.Lists.{Before, flat_has}

-- ---- one for each

pub record IsPair {A B : Type 0} (R : A → B → Type 0) (as' : List A) (k : ℕ) (b : B) : Type 0 where
  pub item : A
  pub there : slice_get as' k ≡ Some item
  pub holds : R item b

pub each_get : {A B : Type 0} (R : A → B → Type 0) (as' : List A) (bs : List B) (k : ℕ) (b : B) → Each R as' bs → slice_get bs k ≡ Some b → IsPair R as' k b
each_get R [] [] k b h e = cc
each_get R [] (c ∷ bs) k b h e = absurd h
each_get R (a ∷ as') [] k b h e = absurd h
each_get R (a ∷ as') (c ∷ bs) zero b h e = let q : c ≡ b = cc in record { item = a; there = refl; holds = subst (R a) q h.0 }
each_get R (a ∷ as') (c ∷ bs) (suc k) b h e = let r : IsPair R as' k b = each_get R as' bs k b h.1 e in record { item = r.item; there = r.there; holds = r.holds }

pub record IsMatched {A B : Type 0} (R : A → B → Type 0) (bs : List B) (k : ℕ) (a : A) : Type 0 where
  pub item : B
  pub there : slice_get bs k ≡ Some item
  pub holds : R a item

pub each_back : {A B : Type 0} (R : A → B → Type 0) (as' : List A) (bs : List B) (k : ℕ) (a : A) → Each R as' bs → slice_get as' k ≡ Some a → IsMatched R bs k a
each_back R [] [] k a h e = cc
each_back R [] (c ∷ bs) k a h e = absurd h
each_back R (b ∷ as') [] k a h e = absurd h
each_back R (b ∷ as') (c ∷ bs) zero a h e = let q : b ≡ a = cc in record { item = c; there = refl; holds = subst (λ z. R z c) q h.0 }
each_back R (b ∷ as') (c ∷ bs) (suc k) a h e = let r : IsMatched R bs k a = each_back R as' bs k a h.1 e in record { item = r.item; there = r.there; holds = r.holds }

pub each_any : {A B : Type 0} (R : A → B → Type 0) (p : A → Bool) (q : B → Bool) (as' : List A) (bs : List B) → Each R as' bs → ((a : A) (b : B) → R a b → p a ≡ q b)
    → list_any p as' ≡ list_any q bs
each_any R p q [] [] h f = refl
each_any R p q [] (b ∷ bs) h f = absurd h
each_any R p q (a ∷ as') [] h f = absurd h
each_any R p q (a ∷ as') (b ∷ bs) h f = ap (λ c. c || list_any p as') (f a b h.0) ∙ ap (λ c. q b || c) (each_any R p q as' bs h.1 f)

-- ---- at each part

numbered_none : (f : ℕ → View → List At) (vs : List View) (j : ℕ) → ((k : ℕ) (v : View) → slice_get vs k ≡ Some v → f (j + k) v ≡ [])
    → flat_map (λ kv. f kv.0 kv.1) (numbered_from j vs) ≡ []
numbered_none f [] j h = refl
numbered_none f (v ∷ vs) j h =
    let e : j + 0 ≡ j = omega arith in
    ap (λ ys. ys ++ flat_map (λ kv. f kv.0 kv.1) (numbered_from (suc j) vs)) (ap (λ n. f n v) (sym e) ∙ h 0 v refl) ∙
    numbered_none f vs (suc j) (λ k w q. let d : suc j + k ≡ j + suc k = omega arith in ap (λ n. f n w) d ∙ h (suc k) w q)

pub views_none : (f : ℕ → View → List At) (vs : List View) → ((k : ℕ) (v : View) → slice_get vs k ≡ Some v → f k v ≡ []) → at_views vs f ≡ []
views_none f vs h = numbered_none f vs 0 (λ k v e. let d : 0 + k ≡ k = omega arith in ap (λ n. f n v) d ∙ h k v e)

numbered_get : (vs : List View) (j k : ℕ) (v : View) → slice_get vs k ≡ Some v → slice_get (numbered_from j vs) k ≡ Some (j + k, v)
numbered_get [] j k v e = cc
numbered_get (w ∷ vs) j zero v e = let d : j ≡ j + 0 = omega arith in let q : w ≡ v = cc in ap (λ n. Some (n, w)) d ∙ ap (λ z. Some (j + 0, z)) q
numbered_get (w ∷ vs) j (suc k) v e = let d : suc j + k ≡ j + suc k = omega arith in numbered_get vs (suc j) k v e ∙ ap (λ n. Some (n, v)) d

pub views_has : (f : ℕ → View → List At) (vs : List View) (k : ℕ) (v : View) (at : At) → slice_get vs k ≡ Some v → Contains (f k v) at → Contains (at_views vs f) at
views_has f vs k v at e h =
    let d : 0 + k ≡ k = omega arith in
    flat_has (λ (kv : ℕ × View). f kv.0 kv.1) (numbered_from 0 vs) k (k, v) at (numbered_get vs 0 k v e ∙ ap (λ n. Some (n, v)) d) h

-- ---- so far

pub before_more : {X : Type 0} (P : X → Type 0) (xs : List X) (n : ℕ) (x : X) → n < length xs → x ≡ get_or xs n x → P x → Before P xs n → Before P xs (n + 1)
before_more P xs n x l e p h = record {
  each = λ k y m q. elim (cases_eq k n) [
    | inl f ↦ let r : Some x ≡ Some y = sym (slice_get_read xs (length xs) n x refl l e) ∙ (ap (slice_get xs) (sym f) ∙ q) in let s : x ≡ y = cc in subst P s p
    | inr f ↦ h.each k y (omega arith) q
  ];
}

-- what is told of no part that the extent stands for
pub record IsClear (S : Signals) (f : View → List At) (x : Extent) : Type 0 where
  pub clear : (v : View) → IsExtent S v x → f v ≡ []

pub told_none : (S : Signals) (f : View → List At) (vs : List View) (xs : List Extent) (n : ℕ) → AreExtents S vs xs → Before (IsClear S f) xs n → length xs ≤ n
    → at_views vs (λ k v. f v) ≡ []
told_none S f vs xs n h b l = views_none (λ k v. f v) vs (λ k v e.
    let m : IsMatched (IsExtent S) xs k v = each_back (IsExtent S) vs xs k v h e in
    let w : k < length xs = slice_get_within xs k m.item m.there in
    (b.each k m.item (omega arith) m.there).clear v m.holds)

pub path_is : (vs : List View) (k : ℕ) (v : View) → slice_get vs k ≡ Some v → path_of vs k ≡ v.at.path
path_is vs k v e = ap (λ (o : Option View). elim o [ None ↦ [] | Some v ↦ v.at.path ]) e

-- by what is told of the part's view
pub told_one : (S : Signals) (f : ℕ → View → List At) (vs : List View) (xs : List Extent) (n : ℕ) (x : Extent) (place : ℕ) → n < length xs → x ≡ get_or xs n x
    → AreExtents S vs xs → ((v : View) → slice_get vs n ≡ Some v → IsExtent S v x → Contains (f n v) (at_view v place))
    → IsAnswer vs (at_views vs f) (Some (record { part = n; place = place }))
told_one S f vs xs n x place l e h g =
    let p : IsPair (IsExtent S) vs n x = each_get (IsExtent S) vs xs n x h (slice_get_read xs (length xs) n x refl l e) in (
      slice_get_within vs n p.item p.there,
      subst (λ (path : Name). Contains (at_views vs f) (record { path = path; place = place })) (sym (path_is vs n p.item p.there))
          (views_has f vs n p.item (at_view p.item place) p.there (g p.item p.there p.holds)),
    )

-- ---- places

pub head_has : {X : Type 0} (x y : X) (xs : List X) → x ≡ y → Contains (x ∷ xs) y
head_has x y xs e = (0, omega arith, e)

pub told_place : (b : Bool) (v : View) (ats : List At) (place : ℕ) (o : Option ℕ) → o ≡ (if b then Some place else None) → Contains ats (at_view v place)
    → IsPlace v (told_if b ats) o
told_place true v ats place o e h = subst (IsPlace v ats) (sym e) h
told_place false v ats place o e h = subst (IsPlace v []) (sym e) refl

mapped_kept : {X Y : Type 0} (f : X → Y) (c : Bool) (y : X) (ys : List X) (z : Y) → Contains (map f ys) z → Contains (map f (cond c (y ∷ ys) ys)) z
mapped_kept f true y ys z h = Contains-append_right (f y ∷ []) (map f ys) z h
mapped_kept f false y ys z h = h

pub mapped_has : {X Y : Type 0} (f : X → Y) (p : X → Bool) (xs : List X) (k : ℕ) (x : X) → slice_get xs k ≡ Some x → p x ≡ true → Contains (map f (filter p xs)) (f x)
mapped_has f p [] k x e h = cc
mapped_has f p (y ∷ xs) zero x e h =
    let q : x ≡ y = cc in
    subst (λ c. Contains (map f (cond c (y ∷ filter p xs) (filter p xs))) (f x)) (sym h ∙ ap p q) (head_has (f y) (f x) (map f (filter p xs)) (ap f (sym q)))
mapped_has f p (y ∷ xs) (suc k) x e h = mapped_kept f (p y) y (filter p xs) (f x) (mapped_has f p xs k x e h)
