-- Lists by number.
use Rattle.std.proofs.Common.{◌≡◌, ◌⊎◌, inl, inr, ℕ, zero, suc, ◌+◌, ◌<◌, ◌≤◌, arith, Bool, true, false, not, ◌||◌, List, [], ◌∷◌, ◌++◌, map, length, get_or, take, drop, refl, sym, ap, ◌∙◌, subst, Option, Some, None}
use Rattle.std.specs.Prelude.{bytes_eq, cond, slice_get, slice_set, filter, flat_map, nat_lt}
use Rattle.std.specs.List.{list_any, position_or_len, position}
use Rattle.std.proofs.lemmas.Bool.Decides.{nat_tests}
use Rattle.std.specs.Option.{option_map}
use Rattle.std.proofs.lemmas.Option.{slice_get-map, slice_get-get_or}
use Rattle.std.proofs.lemmas.List.{take_more, length-map}
use Rattle.lv_source.proofs.Summaries.{flat-join, append-none}
use Rattle.lv_source.proofs.Bridges.{map-join}
use Rattle.lv_ast.specs.Names.{Name}
use Rattle.lv_source.specs.Parts.{numbered_from}
use Rattle.lv_source.proofs.Tests.{decide, same_name, name-itself}

pub get-left : {A : Type 0} (xs ys : List A) (k : ℕ) → k < length xs → slice_get (xs ++ ys) k ≡ slice_get xs k
get-left [] ys k h = absurd (omega arith)
get-left (x ∷ xs) ys zero h = refl
get-left (x ∷ xs) ys (suc k) h = get-left xs ys k (omega arith)

pub get-right : {A : Type 0} (xs ys : List A) (k : ℕ) → slice_get (xs ++ ys) (length xs + k) ≡ slice_get ys k
get-right [] ys k = (let e : 0 + k ≡ k = omega arith in ap (slice_get ys) e)
get-right (x ∷ xs) ys k = (let e : suc (length xs) + k ≡ suc (length xs + k) = omega arith in ap (slice_get (x ∷ xs ++ ys)) e ∙ get-right xs ys k)

pub get-older : {A : Type 0} (xs ys : List A) (k : ℕ) (x : A) → slice_get xs k ≡ Some x → slice_get (xs ++ ys) k ≡ Some x
get-older [] ys k x h = absurd (cc)
get-older (y ∷ xs) ys zero x h = h
get-older (y ∷ xs) ys (suc k) x h = get-older xs ys k x h

pub get-set_same : {A : Type 0} (xs : List A) (i : ℕ) (v : A) → i < length xs → slice_get (slice_set xs i v) i ≡ Some v
get-set_same [] i v h = absurd (omega arith)
get-set_same (x ∷ xs) zero v h = refl
get-set_same (x ∷ xs) (suc i) v h = get-set_same xs i v (omega arith)

pub get-set_other : {A : Type 0} (xs : List A) (i j : ℕ) (v : A) → (i ≡ j → ⊥) → slice_get (slice_set xs i v) j ≡ slice_get xs j
get-set_other [] i j v h = refl
get-set_other (x ∷ xs) zero zero v h = absurd (h refl)
get-set_other (x ∷ xs) zero (suc j) v h = refl
get-set_other (x ∷ xs) (suc i) zero v h = refl
get-set_other (x ∷ xs) (suc i) (suc j) v h = get-set_other xs i j v (λ e. h (ap suc e))

pub length-set : {A : Type 0} (xs : List A) (i : ℕ) (v : A) → length (slice_set xs i v) ≡ length xs
length-set [] i v = refl
length-set (x ∷ xs) zero v = refl
length-set (x ∷ xs) (suc i) v = ap suc (length-set xs i v)

pub got-or-past : {A : Type 0} (xs : List A) (k : ℕ) → ((x : A) × (slice_get xs k ≡ Some x)) ⊎ (length xs ≤ k)
got-or-past [] k = inr (omega arith)
got-or-past (x ∷ xs) zero = inl (x, refl)
got-or-past (x ∷ xs) (suc k) = elim (got-or-past xs k) [ inl h ↦ inl h | inr h ↦ inr (let l : length xs ≤ k = h in omega arith) ]

pub filter-join : {A : Type 0} (p : A → Bool) (xs ys : List A) → filter p (xs ++ ys) ≡ filter p xs ++ filter p ys
filter-join p [] ys = refl
filter-join p (x ∷ xs) ys = elim (decide (p x)) [
  | inl e ↦ rw e (ap (λ zs. x ∷ zs) (filter-join p xs ys))
  | inr e ↦ rw e (filter-join p xs ys)
]

-- alike at each element
pub map-alike : {A B : Type 0} (f g : A → B) (xs : List A) → ((k : ℕ) (x : A) → slice_get xs k ≡ Some x → f x ≡ g x) → map f xs ≡ map g xs
map-alike f g [] h = refl
map-alike f g (x ∷ xs) h = ap (λ y. y ∷ map f xs) (h 0 x refl) ∙ ap (λ ys. g x ∷ ys) (map-alike f g xs (λ k. h (suc k)))

-- ---- numbers

pub three_ways : (i k : ℕ) → (i ≡ k) ⊎ ((i < k) ⊎ (k < i))
three_ways zero zero = inl refl
three_ways zero (suc k) = inr (inl (omega arith))
three_ways (suc i) zero = inr (inr (omega arith))
three_ways (suc i) (suc k) = elim (three_ways i k) [
  | inl e ↦ inl (ap suc e)
  | inr (inl l) ↦ inr (inl (let m : i < k = l in omega arith))
  | inr (inr l) ↦ inr (inr (let m : k < i = l in omega arith))
]

-- ---- numbered

pub numbered-join : {A : Type 0} (i : ℕ) (xs ys : List A) → numbered_from i (xs ++ ys) ≡ numbered_from i xs ++ numbered_from (i + length xs) ys
numbered-join i [] ys = (let e : i ≡ i + 0 = omega arith in ap (λ n. numbered_from n ys) e)
numbered-join i (x ∷ xs) ys =
    (let e : suc i + length xs ≡ i + suc (length xs) = omega arith in
    ap (λ zs. (i, x) ∷ zs) (numbered-join (suc i) xs ys ∙ ap (λ n. numbered_from (suc i) xs ++ numbered_from n ys) e))

pub numbered-get : {A : Type 0} (i : ℕ) (xs : List A) (k : ℕ) (x : A) → slice_get xs k ≡ Some x → slice_get (numbered_from i xs) k ≡ Some (i + k, x)
numbered-get i [] k x h = absurd (cc)
numbered-get i (y ∷ xs) zero x h =
    (let e : y ≡ x = cc in let n : i ≡ i + 0 = omega arith in ap (λ z. Some (i, z)) e ∙ ap (λ m. Some (m, x)) n)
numbered-get i (y ∷ xs) (suc k) x h =
    (let n : suc i + k ≡ i + suc k = omega arith in numbered-get (suc i) xs k x h ∙ ap (λ m. Some (m, x)) n)

-- ---- the number of a name

abbrev pub number_in : List Name → Name → ℕ
number_in xs name = position_or_len (bytes_eq name) xs

number-first : (name x : Name) (xs : List Name) (b : Bool) → bytes_eq name x ≡ b → number_in (x ∷ xs) name ≡ cond b 0 (1 + number_in xs name)
number-first name x xs true h = ap (λ b. cond (not b) (1 + number_in xs name) 0) h
number-first name x xs false h = ap (λ b. cond (not b) (1 + number_in xs name) 0) h

pub number-within : (xs : List Name) (name : Name) → list_any (bytes_eq name) xs ≡ true → number_in xs name < length xs
number-within [] name h = absurd (cc)
number-within (x ∷ xs) name h = elim (decide (bytes_eq name x)) [
  | inl e ↦ (let n : number_in (x ∷ xs) name ≡ 0 = number-first name x xs true e in omega arith)
  | inr e ↦ (
      let n : number_in (x ∷ xs) name ≡ 1 + number_in xs name = number-first name x xs false e in
      let l : number_in xs name < length xs = number-within xs name (sym (ap (λ b. b || list_any (bytes_eq name) xs) e) ∙ h) in omega arith)
]

any-none : (a b : Bool) → (a || b) ≡ false → (a ≡ false) × (b ≡ false)
any-none true b h = absurd (cc)
any-none false b h = (refl, h)

pub number-past : (xs : List Name) (name : Name) → list_any (bytes_eq name) xs ≡ false → number_in xs name ≡ length xs
number-past [] name h = refl
number-past (x ∷ xs) name h =
    let r : (bytes_eq name x ≡ false) × (list_any (bytes_eq name) xs ≡ false) = any-none (bytes_eq name x) (list_any (bytes_eq name) xs) h in
    number-first name x xs false r.0 ∙ ap (λ n. 1 + n) (number-past xs name r.1) ∙ (let e : 1 + length xs ≡ suc (length xs) = omega arith in e)

-- names with one number that is there are one
pub number-one : (xs : List Name) (m n : Name) → number_in xs m < length xs → number_in xs m ≡ number_in xs n → m ≡ n
number-one [] m n h e = absurd (omega arith)
number-one (x ∷ xs) m n h e = elim (decide (bytes_eq m x)) [
  | inl a ↦ elim (decide (bytes_eq n x)) [
    | inl b ↦ same_name m x a ∙ sym (same_name n x b)
    | inr b ↦ absurd (
        let u : number_in (x ∷ xs) m ≡ 0 = number-first m x xs true a in
        let v : number_in (x ∷ xs) n ≡ 1 + number_in xs n = number-first n x xs false b in omega arith)
  ]
  | inr a ↦ elim (decide (bytes_eq n x)) [
    | inl b ↦ absurd (
        let u : number_in (x ∷ xs) m ≡ 1 + number_in xs m = number-first m x xs false a in
        let v : number_in (x ∷ xs) n ≡ 0 = number-first n x xs true b in omega arith)
    | inr b ↦ (
        let u : number_in (x ∷ xs) m ≡ 1 + number_in xs m = number-first m x xs false a in
        let v : number_in (x ∷ xs) n ≡ 1 + number_in xs n = number-first n x xs false b in
        let l : number_in xs m < length xs = omega arith in
        let q : number_in xs m ≡ number_in xs n = omega arith in number-one xs m n l q)
  ]
]

pub number-older : (xs ys : List Name) (name : Name) → number_in xs name < length xs → number_in (xs ++ ys) name ≡ number_in xs name
number-older [] ys name h = absurd (omega arith)
number-older (x ∷ xs) ys name h = elim (decide (bytes_eq name x)) [
  | inl e ↦ number-first name x (xs ++ ys) true e ∙ sym (number-first name x xs true e)
  | inr e ↦ (
      let n : number_in (x ∷ xs) name ≡ 1 + number_in xs name = number-first name x xs false e in
      let l : number_in xs name < length xs = omega arith in
      number-first name x (xs ++ ys) false e ∙ ap (λ n. 1 + n) (number-older xs ys name l) ∙ sym n)
]

pub number-newer : (xs ys : List Name) (name : Name) → list_any (bytes_eq name) xs ≡ false → number_in (xs ++ ys) name ≡ length xs + number_in ys name
number-newer [] ys name h = (let e : number_in ys name ≡ 0 + number_in ys name = omega arith in e)
number-newer (x ∷ xs) ys name h =
    let r : (bytes_eq name x ≡ false) × (list_any (bytes_eq name) xs ≡ false) = any-none (bytes_eq name x) (list_any (bytes_eq name) xs) h in
    number-first name x (xs ++ ys) false r.0 ∙ ap (λ n. 1 + n) (number-newer xs ys name r.1) ∙
    (let e : 1 + (length xs + number_in ys name) ≡ suc (length xs) + number_in ys name = omega arith in e)

pub number-of_one : (x name : Name) (b : Bool) → bytes_eq name x ≡ b → number_in (x ∷ []) name ≡ cond b 0 1
number-of_one x name true h = number-first name x [] true h
number-of_one x name false h = number-first name x [] false h

picked : (k : Bool) (j i : ℕ) → cond k (Some j) None ≡ Some i → (i ≡ j) × (k ≡ true)
picked true j i e = (let q : i ≡ j = cc in q, refl)
picked false j i e = absurd (cc)

unpicked : (k : Bool) (j : ℕ) → cond k (Some j) None ≡ None → k ≡ false
unpicked true j e = absurd (cc)
unpicked false j e = refl

pub number-some : (xs : List Name) (name : Name) (i : ℕ) → position (bytes_eq name) xs ≡ Some i → i ≡ number_in xs name
number-some xs name i h = (picked (nat_lt (number_in xs name) (length xs)) (number_in xs name) i h).0

pub number-none : (xs : List Name) (name : Name) → position (bytes_eq name) xs ≡ None → length xs ≤ number_in xs name
number-none xs name h =
    (let k : nat_lt (number_in xs name) (length xs) ≡ false = unpicked (nat_lt (number_in xs name) (length xs)) (number_in xs name) h in
    grind (arith, nat_tests))

pub among-none : (xs : List Name) (name : Name) → position (bytes_eq name) xs ≡ None → list_any (bytes_eq name) xs ≡ false
among-none xs name h = elim (decide (list_any (bytes_eq name) xs)) [
  | inl e ↦ absurd (let l : number_in xs name < length xs = number-within xs name e in let m : length xs ≤ number_in xs name = number-none xs name h in omega arith)
  | inr e ↦ e
]

pub number-there : (xs : List Name) (name : Name) (i : ℕ) → position (bytes_eq name) xs ≡ Some i → number_in xs name < length xs
number-there xs name i h =
    (let k : nat_lt (number_in xs name) (length xs) ≡ true = (picked (nat_lt (number_in xs name) (length xs)) (number_in xs name) i h).1 in grind (arith, nat_tests))

pub among-some : (xs : List Name) (name : Name) (i : ℕ) → position (bytes_eq name) xs ≡ Some i → list_any (bytes_eq name) xs ≡ true
among-some xs name i h = elim (decide (list_any (bytes_eq name) xs)) [
  | inl e ↦ e
  | inr e ↦ absurd (let l : number_in xs name < length xs = number-there xs name i h in let m : number_in xs name ≡ length xs = number-past xs name e in omega arith)
]

-- ---- one by one

pub length-take : {A : Type 0} (k : ℕ) (xs : List A) → k ≤ length xs → length (take k xs) ≡ k
length-take zero xs h = refl
length-take (suc k) [] h = absurd (omega arith)
length-take (suc k) (x ∷ xs) h = ap suc (length-take k xs (omega arith))

pub read-at : {A B : Type 0} (f : A → B) (xs : List A) (k : ℕ) (x : A) → k < length xs → x ≡ get_or xs k x → slice_get (map f xs) k ≡ Some (f x)
read-at f xs k x l e = slice_get-map f xs k ∙ ap (option_map f) (slice_get-get_or xs k x l ∙ ap (λ z. Some z) (sym e))

pub take-read : {A B : Type 0} (f : A → B) (xs : List A) (k : ℕ) (x : A) → k < length xs → x ≡ get_or xs k x →
    map f (take (k + 1) xs) ≡ map f (take k xs) ++ f x ∷ []
take-read f xs k x l e =
    ap (map f) (take_more xs k x l ∙ ap (λ z. take k xs ++ z ∷ []) (sym e)) ∙ map-join f (take k xs) (x ∷ [])

pub below-next : (j k : ℕ) → j < k + 1 → (j < k) ⊎ (j ≡ k)
below-next j k h = elim (three_ways j k) [ inl e ↦ inr e | inr (inl l) ↦ inl l | inr (inr l) ↦ absurd (omega arith) ]

pub numbered-step : {A B C : Type 0} (g : A → B) (f : ℕ × B → List C) (xs : List A) (k : ℕ) (x : A) → k < length xs → x ≡ get_or xs k x →
    flat_map f (numbered_from 0 (map g (take (k + 1) xs))) ≡ flat_map f (numbered_from 0 (map g (take k xs))) ++ f (k, g x)
numbered-step g f xs k x l e =
    let n : 0 + length (map g (take k xs)) ≡ k = (let a : length (map g (take k xs)) ≡ length (take k xs) = length-map (take k xs) g in
    let b : length (take k xs) ≡ k = length-take k xs (omega arith) in omega arith) in
    ap (λ (zs : List _). flat_map f (numbered_from 0 zs)) (take-read g xs k x l e) ∙ ap (flat_map f) (numbered-join 0 (map g (take k xs)) (g x ∷ [])) ∙
    flat-join f (numbered_from 0 (map g (take k xs))) (numbered_from (0 + length (map g (take k xs))) (g x ∷ [])) ∙
    ap (λ i. flat_map f (numbered_from 0 (map g (take k xs))) ++ (f (i, g x) ++ [])) n ∙
    ap (λ zs. flat_map f (numbered_from 0 (map g (take k xs))) ++ zs) (append-none (f (k, g x)))
