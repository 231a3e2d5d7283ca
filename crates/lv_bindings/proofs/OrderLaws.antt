-- A stable sort by place is the one of the definition.
use Rattle.std.proofs.Common.{◌≡◌, ◌⊎◌, inl, inr, ℕ, zero, suc, ◌+◌, ◌<◌, ◌≤◌, arith, Bool, true, false, not, ◌&&◌, ◌==◌, List, [], ◌∷◌, ◌++◌, map, length, refl, sym, ap, ◌∙◌, subst, Option, Some, None}
use Rattle.std.specs.Prelude.{cond, slice_get, slice_index_or, filter, flat_map, nat_le, if◌then◌else◌}
use Rattle.std.specs.declared.cmp.Ordering.{Ordering}
use Rattle.std.specs.declared.cmp.Ordering.TheVariants.{Less, Equal, Greater}
use Rattle.std.specs.List.Sorted.{IsNonDecreasingBy, IsStableByKey, ties}
use Rattle.std.specs.Ordering.{nat_cmp, is_lt}
use Rattle.std.specs.Cmp.{nat_cmp_is}
use Rattle.std.proofs.lemmas.Bool.Decides.{nat_tests}
use Rattle.std.proofs.lemmas.Bool.{eq-eqb, eqb-true}
use Rattle.std.proofs.lemmas.Option.{get_or_from_slice_get, slice_get_within}
use Rattle.std.proofs.lemmas.List.{length-append, length-map}
use mathlib.Core.Path.{fun_ext}
use Rattle.lv_ast.specs.Names.{Name}
use Rattle.lv_source.specs.Names.{Declared}
use Rattle.lv_source.specs.Declarations.{Declaration}
use Rattle.lv_source.specs.Parts.{numbered_from}
use Rattle.lv_declared.specs.declared.declaration.Declaration.{Declaration as Code}
use Rattle.lv_declared.specs.Listing.{declared}
use Rattle.lv_symbols.specs.declared.symbol.Symbol.{Symbol}
use Rattle.lv_source.proofs.Tests.{decide}
use Rattle.lv_source.proofs.Bridges.{two}
use Rattle.lv_bindings.specs.declared.order.Standing.{Standing}
use Rattle.lv_bindings.proofs.Lists.{three_ways}
use Rattle.lv_bindings.specs.Order.{Outside, Seen, seen, seen_if, standing_at, all_standing, put_in, in_order, put_in_seen, in_order_seen}

abbrev at_place : ℕ → Standing → Bool
at_place c z = z.place == c

-- none is at a smaller place
abbrev Above : ℕ → List Standing → Type 0
Above c xs = (k : ℕ) (z : Standing) → slice_get xs k ≡ Some z → c ≤ z.place

-- none is at a smaller place than one before it
abbrev Rising : List Standing → Type 0
Rising [] = Unit {0}
Rising (x ∷ xs) = Above x.place xs × Rising xs

rising_from : (xs : List Standing) → IsNonDecreasingBy (λ (z : Standing). z.place) xs → Rising xs
rising_from [] h = tt
rising_from (x ∷ xs) h = (
  λ k z e.
      (let l : k < length xs = slice_get_within xs k z e in
      let u : x.place ≤ (slice_index_or xs k x).place = h 0 (suc k) x (omega arith) (omega arith) in
      subst (λ (w : Standing). x.place ≤ w.place) (get_or_from_slice_get xs k z x e) u),
  rising_from xs (λ i j d l m. h (suc i) (suc j) d (omega arith) (omega arith)),
)

-- ---- one list at most

unequal : (a b : ℕ) → (a ≡ b → ⊥) → (a == b) ≡ false
unequal a b h = elim (decide (a == b)) [ inl e ↦ absurd (h (eqb-true a b e)) | inr e ↦ e ]

here : (x : Standing) → at_place x.place x ≡ true
here x = eq-eqb x.place x.place refl

none_here : (c : ℕ) (xs : List Standing) → ((k : ℕ) (z : Standing) → slice_get xs k ≡ Some z → c < z.place) → filter (at_place c) xs ≡ []
none_here c [] h = refl
none_here c (x ∷ xs) h =
    ap (λ b. cond b (x ∷ filter (at_place c) xs) (filter (at_place c) xs)) (unequal x.place c (λ e. let l : c < x.place = h 0 x refl in omega arith)) ∙
    none_here c xs (λ k. h (suc k))

head_same : (b d : Bool) (x y : Standing) (xs ys : List Standing) → b ≡ true → d ≡ true → cond b (x ∷ xs) xs ≡ cond d (y ∷ ys) ys → x ≡ y
head_same true true x y xs ys p q h = cc
head_same true false x y xs ys p q h = absurd (cc)
head_same false d x y xs ys p q h = absurd (cc)

tail_same : (b : Bool) (x : Standing) (xs ys : List Standing) → cond b (x ∷ xs) xs ≡ cond b (x ∷ ys) ys → xs ≡ ys
tail_same true x xs ys h = cc
tail_same false x xs ys h = h

some_here : (b : Bool) (x : Standing) (xs : List Standing) → b ≡ true → cond b (x ∷ xs) xs ≡ [] → ⊥
some_here true x xs e h = cc
some_here false x xs e h = cc

abbrev Alike : List Standing → List Standing → Type 0
Alike xs ys = (z : Standing) → filter (at_place z.place) xs ≡ filter (at_place z.place) ys

past : (x y : Standing) (ys : List Standing) → x.place < y.place → Above y.place ys → (k : ℕ) (z : Standing) → slice_get (y ∷ ys) k ≡ Some z → x.place < z.place
past x y ys l a zero z e = (let q : y ≡ z = cc in subst (λ (w : Standing). x.place < w.place) q l)
past x y ys l a (suc k) z e = (let m : y.place ≤ z.place = a k z e in omega arith)

too_small : (x y : Standing) (xs ys : List Standing) → x.place < y.place → Above y.place ys →
    filter (at_place x.place) (x ∷ xs) ≡ filter (at_place x.place) (y ∷ ys) → ⊥
too_small x y xs ys l a h =
    some_here (at_place x.place x) x (filter (at_place x.place) xs) (here x) (h ∙ none_here x.place (y ∷ ys) (past x y ys l a))

same_place : (x y : Standing) (xs ys : List Standing) → x.place ≡ y.place → Alike (x ∷ xs) (y ∷ ys) → (x ≡ y) × Alike xs ys
same_place x y xs ys e h =
    let q : x ≡ y =
    head_same (at_place x.place x) (at_place x.place y) x y (filter (at_place x.place) xs) (filter (at_place x.place) ys) (here x)
    (eq-eqb y.place x.place (sym e)) (h x) in (
      q,
      λ w. tail_same (at_place w.place x) x (filter (at_place w.place) xs) (filter (at_place w.place) ys)
          (h w ∙ sym (ap (λ (z : Standing). cond (at_place w.place z) (z ∷ filter (at_place w.place) ys) (filter (at_place w.place) ys)) q)),
    )

one_list : (xs ys : List Standing) → Rising xs → Rising ys → Alike xs ys → xs ≡ ys
one_list [] [] r s h = refl
one_list [] (y ∷ ys) r s h = absurd (some_here (at_place y.place y) y (filter (at_place y.place) ys) (here y) (sym (h y)))
one_list (x ∷ xs) [] r s h = absurd (some_here (at_place x.place x) x (filter (at_place x.place) xs) (here x) (h x))
one_list (x ∷ xs) (y ∷ ys) r s h = elim (three_ways x.place y.place) [
  | inl e ↦
      (let q : (x ≡ y) × Alike xs ys = same_place x y xs ys e h in
      ap (λ z. z ∷ xs) q.0 ∙ ap (λ zs. y ∷ zs) (one_list xs ys r.1 s.1 q.1))
  | inr (inl l) ↦ absurd (too_small x y xs ys l s.0 (h x))
  | inr (inr l) ↦ absurd (too_small y x ys xs l r.0 (sym (h y)))
]

-- ---- the list of the definition

before : (d e : Standing) → nat_le d.place e.place ≡ true → d.place ≤ e.place
before d e h = grind (arith, nat_tests)

behind : (d e : Standing) → nat_le d.place e.place ≡ false → e.place < d.place
behind d e h = grind (arith, nat_tests)

abbrev placed : Standing → Standing → List Standing → Bool → List Standing
placed d e es b = if b then d ∷ e ∷ es else e ∷ put_in d es

first_above : (c : ℕ) (d : Standing) (ds : List Standing) → c ≤ d.place → Above c ds → Above c (d ∷ ds)
first_above c d ds l a zero z e = (let q : d ≡ z = cc in subst (λ (w : Standing). c ≤ w.place) q l)
first_above c d ds l a (suc k) z e = a k z e

put_above : (c : ℕ) (d : Standing) (es : List Standing) → c ≤ d.place → Above c es → Above c (put_in d es)
put_above c d [] l a = first_above c d [] l a
put_above c d (e ∷ es) l a = elim (nat_le d.place e.place) as (λ b. Above c (placed d e es b)) [
  | true ↦ first_above c d (e ∷ es) l a
  | false ↦ first_above c e (put_in d es) (a 0 e refl) (put_above c d es l (λ k. a (suc k)))
]

put_rising : (d : Standing) (es : List Standing) → Rising es → Rising (put_in d es)
put_rising d [] r = (λ k z e. absurd (cc), tt)
put_rising d (e ∷ es) r = elim (decide (nat_le d.place e.place)) [
  | inl t ↦ subst (λ b. Rising (placed d e es b)) (sym t)
      (first_above d.place e es (before d e t) (λ k z i. (let l : d.place ≤ e.place = before d e t in let m : e.place ≤ z.place = r.0 k z i in omega arith)), r)
  | inr t ↦ subst (λ b. Rising (placed d e es b)) (sym t)
      (put_above e.place d es (let l : e.place < d.place = behind d e t in omega arith) r.0, put_rising d es r.1)
]

order_rising : (xs : List Standing) → Rising (in_order xs)
order_rising [] = tt
order_rising (x ∷ xs) = put_rising x (in_order xs) (order_rising xs)

turn : (b c : Bool) (d e : Standing) (es : List Standing) → (b ≡ true → c ≡ true → ⊥) →
    cond b (e ∷ cond c (d ∷ es) es) (cond c (d ∷ es) es) ≡ cond c (d ∷ cond b (e ∷ es) es) (cond b (e ∷ es) es)
turn true true d e es h = absurd (h refl refl)
turn true false d e es h = refl
turn false c d e es h = refl

put_alike : (c : ℕ) (d : Standing) (es : List Standing) → filter (at_place c) (put_in d es) ≡ filter (at_place c) (d ∷ es)
put_alike c d [] = refl
put_alike c d (e ∷ es) = elim (decide (nat_le d.place e.place)) [
  | inl t ↦ ap (λ b. filter (at_place c) (placed d e es b)) t
  | inr t ↦
      ap (λ b. filter (at_place c) (placed d e es b)) t ∙ ap (λ zs. cond (at_place c e) (e ∷ zs) zs) (put_alike c d es) ∙
      turn (at_place c e) (at_place c d) d e (filter (at_place c) es)
      (λ p q. (let l : e.place < d.place = behind d e t in let u : e.place ≡ c = eqb-true e.place c p in let v : d.place ≡ c = eqb-true d.place c q in omega arith))
]

order_alike : (xs : List Standing) → Alike (in_order xs) xs
order_alike [] w = refl
order_alike (x ∷ xs) w = put_alike w.place x (in_order xs) ∙ ap (λ zs. cond (at_place w.place x) (x ∷ zs) zs) (order_alike xs w)

-- ---- the sort

abbrev is_tie : Ordering → Ordering → Bool
is_tie o p = not (is_lt o) && not (is_lt p)

tie_of : (a b : ℕ) (o p : Ordering) → o ≡ nat_cmp a b → p ≡ nat_cmp b a → is_tie (nat_cmp a b) (nat_cmp b a) ≡ is_tie o p
tie_of a b o p h k = two is_tie _ _ _ _ (sym h) (sym k)

tied : (a b : ℕ) → is_tie (nat_cmp a b) (nat_cmp b a) ≡ (b == a)
tied a b = elim (three_ways a b) [
  | inl e ↦ tie_of a b Equal Equal (nat_cmp_is a b Equal e) (nat_cmp_is b a Equal (sym e)) ∙ sym (eq-eqb b a (sym e))
  | inr (inl l) ↦ tie_of a b Less Greater (nat_cmp_is a b Less l) (nat_cmp_is b a Greater l) ∙ sym (unequal b a (λ e. omega arith))
  | inr (inr l) ↦ tie_of a b Greater Less (nat_cmp_is a b Greater l) (nat_cmp_is b a Less l) ∙ sym (unequal b a (λ e. omega arith))
]

pub sorted : (xs ys : List Standing) → IsNonDecreasingBy (λ (z : Standing). z.place) ys → IsStableByKey (λ (z : Standing). z.place) nat_cmp xs ys → ys ≡ in_order xs
sorted xs ys h s =
    one_list ys (in_order xs) (rising_from ys h) (order_rising xs)
    (λ w. (let t : ties (λ (x y : Standing). is_lt (nat_cmp x.place y.place)) w ≡ at_place w.place = fun_ext (λ z. tied w.place z.place) in
    sym (ap (λ (p : Standing → Bool). filter p ys) t) ∙ s w ∙ ap (λ (p : Standing → Bool). filter p xs) t ∙ sym (order_alike xs w)))

-- ---- what is seen of them

put_seen : (d : Standing) (es : List Standing) → map seen (put_in d es) ≡ put_in_seen (seen d) (map seen es)
put_seen d [] = refl
put_seen d (e ∷ es) = elim (nat_le d.place e.place) as (λ b. map seen (placed d e es b) ≡ (if b then seen d ∷ seen e ∷ map seen es else seen e ∷ put_in_seen (seen d) (map seen es))) [
  | true ↦ refl
  | false ↦ ap (λ zs. seen e ∷ zs) (put_seen d es)
]

pub order_seen : (zs : List Standing) → map seen (in_order zs) ≡ in_order_seen (map seen zs)
order_seen [] = refl
order_seen (z ∷ zs) = put_seen z (in_order zs) ∙ ap (put_in_seen (seen z)) (order_seen zs)

-- ---- how many

length_put : (d : Seen) (es : List Seen) → length (put_in_seen d es) ≡ suc (length es)
length_put d [] = refl
length_put d (e ∷ es) = elim (nat_le d.place e.place) as (λ b. length (if b then d ∷ e ∷ es else e ∷ put_in_seen d es) ≡ suc (suc (length es))) [
  | true ↦ refl
  | false ↦ ap suc (length_put d es)
]

length_order : (zs : List Seen) → length (in_order_seen zs) ≡ length zs
length_order [] = refl
length_order (z ∷ zs) = length_put z (in_order_seen zs) ∙ ap suc (length_order zs)

length_if : (place number : ℕ) (o : Option Declared) → length (seen_if place number o) ≤ 1
length_if place number None = omega arith
length_if place number (Some d) = omega arith

length_standing : (names : List Name) (o : Outside) (ds : List Declaration) (ys : List Symbol) (i : ℕ) (es : List Declaration) →
    length (flat_map (standing_at names o ds ys) (numbered_from i es)) ≤ length es
length_standing names o ds ys i [] = omega arith
length_standing names o ds ys i (e ∷ es) =
    let a : length (standing_at names o ds ys (i, e)) ≤ 1 = length_if _ _ _ in
    let b : length (flat_map (standing_at names o ds ys) (numbered_from (suc i) es)) ≤ length es = length_standing names o ds ys (suc i) es in
    let c : length (standing_at names o ds ys (i, e) ++ flat_map (standing_at names o ds ys) (numbered_from (suc i) es)) ≡
    length (standing_at names o ds ys (i, e)) + length (flat_map (standing_at names o ds ys) (numbered_from (suc i) es)) =
    length-append (standing_at names o ds ys (i, e)) (flat_map (standing_at names o ds ys) (numbered_from (suc i) es)) in omega arith

-- a signal at most for each declaration
pub few : (names : List Name) (o : Outside) (items : List Code) (ys : List Symbol) (list : List Standing) →
    map seen list ≡ in_order_seen (all_standing names o (map declared items) ys) → length list ≤ length items
few names o items ys list h =
    let a : length list ≡ length (all_standing names o (map declared items) ys) =
    sym (length-map list seen) ∙ ap length h ∙ length_order (all_standing names o (map declared items) ys) in
    let b : length (all_standing names o (map declared items) ys) ≤ length (map declared items) = length_standing names o (map declared items) ys 0 (map declared items) in
    let c : length (map declared items) ≡ length items = length-map items declared in omega arith
