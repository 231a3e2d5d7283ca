-- Lists of which each stands for one of others, and lists that grow by one.
use Rattle.std.proofs.Common.{◌≡◌, ℕ, zero, suc, ◌+◌, ◌<◌, ◌≤◌, Bool, true, List, [], ◌∷◌, ◌++◌, map, flat_map, take, length, get_or, refl, sym, ◌∙◌, ap, subst, arith}
use Rattle.std.specs.List.{list_all}
use Rattle.std.proofs.Math.Seq.{take-suc}
use Rattle.lv_source.proofs.Tests.{and-left, and-right}
use Rattle.std.proofs.lemmas.List.{append_assoc, map-append}
use Rattle.std.proofs.lemmas.Grind.{flat_map-append}
use Rattle.lv_source.specs.Flow.{Flow}
use Rattle.lv_source.specs.Views.{seen_of}
use Rattle.lv_extents.specs.Blocks.{all_events}
use Rattle.lv_extents.specs.Extents.{Each}
use Rattle.lv_extents.specs.Adds.{AddsEach}
use Rattle.lv_extents.proofs.Spans.{append-nil}

pub each-both : {A B : Type 0} (R : A → B → Type 0) (xs ys : List A) (us vs : List B) → Each R xs us → Each R ys vs → Each R (xs ++ ys) (us ++ vs)
each-both R [] ys [] vs h k = k
each-both R [] ys (u ∷ us) vs h k = absurd h
each-both R (x ∷ xs) ys [] vs h k = absurd h
each-both R (x ∷ xs) ys (u ∷ us) vs h k = (h.0, each-both R xs ys us vs h.1 k)

module _ {A B : Type 0} (R : A → B → Type 0) where
  pub each-none : (x : List B) → AddsEach R x x []
  each-none x = record { adds = λ xs h. subst (λ ys. Each R ys x) (sym (append-nil xs)) h }

  pub each-then : {x y z : List B} {m n : List A} → AddsEach R x y m → AddsEach R y z n → AddsEach R x z (m ++ n)
  each-then {z = z} {m = m} {n = n} p q = record { adds = λ xs h. subst (λ ys. Each R ys z) (append_assoc xs m n) (q.adds (xs ++ m) (p.adds xs h)) }

  pub each-one : (x y : List B) (a : A) (b : B) → R a b → y ≡ x ++ b ∷ [] → AddsEach R x y (a ∷ [])
  each-one x y a b h e = record { adds = λ xs k. subst (λ ys. Each R (xs ++ a ∷ []) ys) (sym e) (each-both R xs (a ∷ []) x (b ∷ []) k (h, tt)) }

  pub each-all : (y : List B) (m : List A) → AddsEach R [] y m → Each R m y
  each-all y m h = h.adds [] tt

  pub each-as : (x y : List B) (m n : List A) → m ≡ n → AddsEach R x y n → AddsEach R x y m
  each-as x y m n e h = subst (λ k. AddsEach R x y k) (sym e) h

-- ---- one element more

pub taken-more : {A : Type 0} (xs : List A) (i : ℕ) (x : A) → i < length xs → x ≡ get_or xs i x → take (i + 1) xs ≡ take i xs ++ x ∷ []
taken-more xs i x lt h = let n : i + 1 ≡ suc i = omega arith in ap (λ k. take k xs) n ∙ (take-suc xs i x lt ∙ ap (λ y. take i xs ++ y ∷ []) (sym h))

pub flat-more : {A B : Type 0} (g : A → List B) (xs : List A) (i : ℕ) (x : A) → i < length xs → x ≡ get_or xs i x → flat_map g (take (i + 1) xs) ≡ flat_map g (take i xs) ++ g x
flat-more g xs i x lt h = ap (flat_map g) (taken-more xs i x lt h) ∙ (flat_map-append g (take i xs) (x ∷ []) ∙ ap (λ bs. flat_map g (take i xs) ++ bs) (append-nil (g x)))

pub flat-map-more : {A B C : Type 0} (g : B → List C) (f : A → B) (xs : List A) (i : ℕ) (x : A) → i < length xs → x ≡ get_or xs i x →
    flat_map g (map f (take (i + 1) xs)) ≡ flat_map g (map f (take i xs)) ++ g (f x)
flat-map-more g f xs i x lt h =
    ap (λ ys. flat_map g (map f ys)) (taken-more xs i x lt h) ∙ (ap (flat_map g) (map-append f (take i xs) (x ∷ [])) ∙
    (flat_map-append g (map f (take i xs)) (f x ∷ []) ∙ ap (λ bs. flat_map g (map f (take i xs)) ++ bs) (append-nil (g (f x)))))

pub steps-more : {A : Type 0} (f : A → Flow) (xs : List A) (i : ℕ) (x : A) → i < length xs → x ≡ get_or xs i x →
    map seen_of (all_events (map f (take (i + 1) xs))) ≡ map seen_of (all_events (map f (take i xs))) ++ map seen_of (f x).events
steps-more f xs i x lt h = ap (map seen_of) (flat-map-more (λ (g : Flow). g.events) f xs i x lt h) ∙ map-append seen_of (all_events (map f (take i xs))) (f x).events

pub grow : {A : Type 0} (old part_ more : List A) {cur new all : List A} → new ≡ cur ++ part_ → cur ≡ old ++ more → all ≡ more ++ part_ → new ≡ old ++ all
grow old part_ more a b c = a ∙ (ap (λ xs. xs ++ part_) b ∙ (append_assoc old more part_ ∙ ap (λ xs. old ++ xs) (sym c)))

pub grow-none : {A : Type 0} (part_ : List A) {cur new more all : List A} → new ≡ cur ++ part_ → cur ≡ more → all ≡ more ++ part_ → new ≡ all
grow-none part_ a b c = a ∙ (ap (λ xs. xs ++ part_) b ∙ sym c)

pub past : {A : Type 0} (xs : List A) (n : ℕ) → length xs ≤ n → take n xs ≡ xs
past [] zero h = refl
past [] (suc n) h = refl
past (x ∷ xs) zero h = absurd (omega (arith, h))
past (x ∷ xs) (suc n) h = ap (λ ys. x ∷ ys) (past xs n (omega (arith, h)))

pub map-more : {A B : Type 0} (f : A → B) (xs : List A) (i : ℕ) (x : A) → i < length xs → x ≡ get_or xs i x → map f (take (i + 1) xs) ≡ map f (take i xs) ++ f x ∷ []
map-more f xs i x lt h = ap (map f) (taken-more xs i x lt h) ∙ map-append f (take i xs) (x ∷ [])

pub each-from : {A B : Type 0} (R : A → B → Type 0) (start y : List B) (m : List A) → start ≡ [] → AddsEach R start y m → Each R m y
each-from R start y m e h = each-all R y m (subst (λ xs. AddsEach R xs y m) e h)

pub all-at : {A : Type 0} (p : A → Bool) (xs : List A) (i : ℕ) (x : A) → i < length xs → x ≡ get_or xs i x → list_all p xs ≡ true → p x ≡ true
all-at p [] i x lt h g = absurd (omega (arith, lt))
all-at p (y ∷ ys) zero x lt h g = ap p h ∙ and-left (p y) (list_all p ys) g
all-at p (y ∷ ys) (suc i) x lt h g = all-at p ys i x (omega (arith, lt)) h (and-right (p y) (list_all p ys) g)
