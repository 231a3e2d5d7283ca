-- What a legal source says of each of its parts.
use Rattle.std.proofs.Common.{◌≡◌, inl, inr, ℕ, zero, suc, ◌+◌, ◌<◌, Bool, true, false, ◌&&◌, ◌||◌, not, List, [], ◌∷◌, ◌++◌, length, map, refl, sym, ap, ◌∙◌, subst, arith, Some}
use Rattle.std.specs.Prelude.{flat_map, filter, cond, slice_get, All, bytes_eq}
use Rattle.std.specs.List.{list_any}
use Rattle.std.proofs.lemmas.List.Elements.{All-head, All-tail}
use Rattle.lv_ast.specs.Names.{Name}
use Rattle.lv_source.specs.Names.{Declared}
use Rattle.lv_source.specs.Places.{Bit, has_bit, same_bit, whole, cells}
use Rattle.lv_source.specs.Flow.{Event}
use Rattle.lv_source.specs.Parts.{Design, Part, At, parts, numbered_from, signals_of, is_comb}
use Rattle.lv_source.specs.PartRules as r
use Rattle.lv_source.specs.Legal.{IsLegal, NotConstant, WrongKind, Nonblocking, TwoDrivers, Undriven, Latch, ReadFirst, places_of}
use Rattle.lv_source.proofs.Each.{Each}
use Rattle.lv_source.proofs.Tests.{or-left, or-right, or-split, or-none_right, any-left, any-right, same_bits, same_name}

-- ---- empty lists

append-none_left : {A : Type 0} (xs ys : List A) → xs ++ ys ≡ [] → xs ≡ []
append-none_left [] ys h = refl
append-none_left (x ∷ xs) ys h = cc

append-none_right : {A : Type 0} (xs ys : List A) → xs ++ ys ≡ [] → ys ≡ []
append-none_right [] ys h = h
append-none_right (x ∷ xs) ys h = cc

pub some_same : {A : Type 0} (x y : A) → Some x ≡ Some y → x ≡ y
some_same x y h = cc

numbered_none : {A B : Type 0} (f : ℕ × A → List B) (xs : List A) (j : ℕ) → flat_map f (numbered_from j xs) ≡ [] → (k : ℕ) (x : A) → slice_get xs k ≡ Some x → (i : ℕ) × (f (i, x) ≡ [])
numbered_none f [] j h k x e = cc
numbered_none f (y ∷ ys) j h zero x e = (j, ap (λ z. f (j, z)) (sym (some_same y x e)) ∙ append-none_left (f (j, y)) (flat_map f (numbered_from (suc j) ys)) h)
numbered_none f (y ∷ ys) j h (suc k) x e = numbered_none f ys (suc j) (append-none_right (f (j, y)) (flat_map f (numbered_from (suc j) ys)) h) k x e

pub numbered_at : {A B : Type 0} (f : ℕ × A → List B) (xs : List A) (j : ℕ) → flat_map f (numbered_from j xs) ≡ [] → (k : ℕ) (x : A) → slice_get xs k ≡ Some x → f (j + k, x) ≡ []
numbered_at f [] j h k x e = cc
numbered_at f (y ∷ ys) j h zero x e =
    let z : j + 0 ≡ j = omega arith in
    ap (λ i. f (i, x)) z ∙ (ap (λ z. f (j, z)) (sym (some_same y x e)) ∙ append-none_left (f (j, y)) (flat_map f (numbered_from (suc j) ys)) h)
numbered_at f (y ∷ ys) j h (suc k) x e =
    let z : j + suc k ≡ suc j + k = omega arith in
    ap (λ i. f (i, x)) z ∙ numbered_at f ys (suc j) (append-none_right (f (j, y)) (flat_map f (numbered_from (suc j) ys)) h) k x e

told_none : (b : Bool) (a : At) (ats : List At) → r.told_if b (a ∷ ats) ≡ [] → b ≡ false
told_none true a ats h = cc
told_none false a ats h = refl

-- where each element gives something
filtered_none : {A B : Type 0} (f : A → List B) (q : A → Bool) (xs : List A) → ((x : A) → f x ≡ [] → ⊥) → flat_map f (filter q xs) ≡ [] → list_any q xs ≡ false
filtered_none f q [] n h = refl
filtered_none f q (x ∷ xs) n h = elim (q x) as (λ c. flat_map f (cond c (x ∷ filter q xs) (filter q xs)) ≡ [] → (c || list_any q xs) ≡ false) [
  | true ↦ λ k. absurd (n x (append-none_left (f x) (flat_map f (filter q xs)) k))
  | false ↦ λ k. filtered_none f q xs n k
] h

-- ---- elements

pub any_at : {A : Type 0} (q : A → Bool) (xs : List A) → list_any q xs ≡ true → (k : ℕ) × (x : A) × (slice_get xs k ≡ Some x) × (q x ≡ true)
any_at q [] h = cc
any_at q (x ∷ xs) h = elim (or-split (q x) (list_any q xs) h) [
  | inl e ↦ (0, x, refl, e)
  | inr e ↦ (let rest : (k : ℕ) × (y : _) × (slice_get xs k ≡ Some y) × (q y ≡ true) = any_at q xs e in (suc rest.0, rest.1, rest.2, rest.3))
]

pub at_any : {A : Type 0} (q : A → Bool) (xs : List A) (k : ℕ) (x : A) → slice_get xs k ≡ Some x → q x ≡ true → list_any q xs ≡ true
at_any q [] k x e h = cc
at_any q (y ∷ ys) zero x e h = or-left (q y) (list_any q ys) (ap q (some_same y x e) ∙ h)
at_any q (y ∷ ys) (suc k) x e h = or-right (q y) (list_any q ys) (at_any q ys k x e h)

pub at_below : {A : Type 0} (xs : List A) (k : ℕ) (x : A) → slice_get xs k ≡ Some x → k < length xs
at_below [] k x e = cc
at_below (y ∷ ys) zero x e = omega arith
at_below (y ∷ ys) (suc k) x e = let h : k < length ys = at_below ys k x e in omega arith

pub each_at : {A : Type 0} (P : A → Type 0) (xs : List A) → Each P xs → (k : ℕ) (x : A) → slice_get xs k ≡ Some x → P x
each_at P [] h k x e = cc
each_at P (y ∷ ys) h zero x e = subst P (some_same y x e) h.0
each_at P (y ∷ ys) h (suc k) x e = each_at P ys h.1 k x e

pub all_at : {A : Type 0} (P : A → Type 0) (q : A → Bool) (xs : List A) → All P (filter q xs) → (k : ℕ) (x : A) → slice_get xs k ≡ Some x → q x ≡ true → P x
all_at P q [] h k x e t = cc
all_at P q (y ∷ ys) h zero x e t =
    let same : y ≡ x = some_same y x e in
    let kept : cond (q y) (y ∷ filter q ys) (filter q ys) ≡ y ∷ filter q ys = ap (λ c. cond c (y ∷ filter q ys) (filter q ys)) (ap q same ∙ t) in
    subst P same (All-head P y (filter q ys) (subst (All P) kept h))
all_at P q (y ∷ ys) h (suc k) x e t = elim (q y) as (λ c. All P (cond c (y ∷ filter q ys) (filter q ys)) → P x) [
  | true ↦ λ a. all_at P q ys (All-tail P y (filter q ys) a) k x e t
  | false ↦ λ a. all_at P q ys a k x e t
] h

-- the value for a bit of a list that is filtered
pub all_bits : (P : Bit → Type 0) (q : Bit → Bool) (bs : List Bit) → All P (filter q bs) → (b : Bit) → has_bit bs b ≡ true → q b ≡ true → P b
all_bits P q [] h b m t = cc
all_bits P q (c ∷ cs) h b m t = elim (q c) as (λ k. q c ≡ k → All P (cond k (c ∷ filter q cs) (filter q cs)) → P b) [
  | true ↦ λ i a. elim (or-split (same_bit b c) (has_bit cs b) m) [
    | inl e ↦ subst P (sym (same_bits b c e)) (All-head P c (filter q cs) a)
    | inr e ↦ all_bits P q cs (All-tail P c (filter q cs) a) b e t
  ]
  | false ↦ λ i a. elim (or-split (same_bit b c) (has_bit cs b) m) [
    | inl e ↦ absurd (let x : q b ≡ q c = ap q (same_bits b c e) in cc)
    | inr e ↦ all_bits P q cs a b e t
  ]
] refl h

pub all_bits_in : (P : Bit → Type 0) (bs : List Bit) → All P bs → (b : Bit) → has_bit bs b ≡ true → P b
all_bits_in P [] h b m = cc
all_bits_in P (c ∷ cs) h b m = elim (or-split (same_bit b c) (has_bit cs b) m) [
  | inl e ↦ subst P (sym (same_bits b c e)) (All-head P c cs h)
  | inr e ↦ all_bits_in P cs (All-tail P c cs h) b e
]

-- of each name of a list
pub all_names : (P : Name → Type 0) (ns : List Name) → All P ns → (n : Name) → list_any (bytes_eq n) ns ≡ true → P n
all_names P [] h n m = cc
all_names P (x ∷ xs) h n m = elim (or-split (bytes_eq n x) (list_any (bytes_eq n) xs) m) [
  | inl e ↦ subst P (sym (same_name n x e)) (All-head P x xs h)
  | inr e ↦ all_names P xs (All-tail P x xs h) n e
]

pub cells_any : (q : Declared → Bool) (ds : List Declared) (k : ℕ) (x : Declared) (n : Name) → slice_get ds k ≡ Some x → q x ≡ true → list_any (bytes_eq n) (cells x) ≡ true →
    list_any (bytes_eq n) (flat_map cells (filter q ds)) ≡ true
cells_any q [] k x n e t m = cc
cells_any q (d ∷ ds) zero x n e t m =
    let same : d ≡ x = some_same d x e in
    ap (λ c. list_any (bytes_eq n) (flat_map cells (cond c (d ∷ filter q ds) (filter q ds)))) (ap q same ∙ t) ∙
    any-left (bytes_eq n) (cells d) (flat_map cells (filter q ds)) (ap (λ y. list_any (bytes_eq n) (cells y)) same ∙ m)
cells_any q (d ∷ ds) (suc k) x n e t m = elim (q d) as (λ c. list_any (bytes_eq n) (flat_map cells (cond c (d ∷ filter q ds) (filter q ds))) ≡ true) [
  | true ↦ any-right (bytes_eq n) (cells d) (flat_map cells (filter q ds)) (cells_any q ds k x n e t m)
  | false ↦ cells_any q ds k x n e t m
]

pub whole_any : (q : Declared → Bool) (ds : List Declared) (k : ℕ) (x : Declared) (b : Bit) → slice_get ds k ≡ Some x → q x ≡ true → has_bit (whole x) b ≡ true →
    has_bit (flat_map whole (filter q ds)) b ≡ true
whole_any q [] k x b e t m = cc
whole_any q (d ∷ ds) zero x b e t m =
    let same : d ≡ x = some_same d x e in
    ap (λ c. has_bit (flat_map whole (cond c (d ∷ filter q ds) (filter q ds))) b) (ap q same ∙ t) ∙
    any-left (same_bit b) (whole d) (flat_map whole (filter q ds)) (ap (λ y. has_bit (whole y) b) same ∙ m)
whole_any q (d ∷ ds) (suc k) x b e t m = elim (q d) as (λ c. has_bit (flat_map whole (cond c (d ∷ filter q ds) (filter q ds))) b ≡ true) [
  | true ↦ any-right (same_bit b) (whole d) (flat_map whole (filter q ds)) (whole_any q ds k x b e t m)
  | false ↦ whole_any q ds k x b e t m
]

-- ---- parts

module _ (d : Design) (legal : IsLegal d) (k : ℕ) (p : Part) (e : slice_get (parts d) k ≡ Some p) where
  pub no_latch : r.has_latch p ≡ false
  unfolding places_of
  no_latch = told_none (r.has_latch p) p.at [] (numbered_none (λ kp. r.latches kp.1) (parts d) 0 (legal.nothing Latch) k p e).1

  pub no_read_first : r.reads_itself_first p ≡ false
  unfolding places_of
  no_read_first = told_none (r.reads_itself_first p) p.at [] (numbered_none (λ kp. r.read_first kp.1) (parts d) 0 (legal.nothing ReadFirst) k p e).1

  pub no_nonblocking : list_any (λ x. is_comb p && not x.at_once) (r.events p) ≡ false
  unfolding places_of
  no_nonblocking =
      filtered_none (r.event_places p) (λ (x : Event). is_comb p && not x.at_once) (r.events p) (λ x h. cc)
      (numbered_none (λ kp. r.nonblocking kp.1) (parts d) 0 (legal.nothing Nonblocking) k p e).1

  pub no_unfixed : r.is_unfixed p ≡ false
  unfolding places_of
  no_unfixed =
      told_none (r.is_unfixed p) p.at _ (numbered_none (λ kp. r.unfixed_targets kp.1) (parts d) 0
      (append-none_right _ _ (legal.nothing NotConstant)) k p e).1

  pub no_wrong_kind : r.is_wrong_kind d p ≡ false
  unfolding places_of
  no_wrong_kind = told_none (r.is_wrong_kind d p) p.at _ (numbered_none (λ kp. r.wrong_kinds d kp.1) (parts d) 0 (legal.nothing WrongKind) k p e).1

  pub no_undriven : r.is_undriven d (parts d) p ≡ false
  unfolding places_of
  no_undriven = told_none (r.is_undriven d (parts d) p) p.at [] (numbered_none (λ kp. r.undriven d (parts d) kp.1) (parts d) 0 (legal.nothing Undriven) k p e).1

  pub no_mixed : list_any (r.is_mixed (parts d) p) (signals_of d) ≡ false
  unfolding places_of
  no_mixed =
      let told : (i : ℕ) × (r.two_drivers d (parts d) i p ≡ []) = numbered_none (λ kp. r.two_drivers d (parts d) kp.0 kp.1) (parts d) 0 (legal.nothing TwoDrivers) k p e in
      or-none_right _ (list_any (r.is_mixed (parts d) p) (signals_of d)) (told_none (r.is_two_drivers d (parts d) told.0 p) p.at _ told.1)

  pub no_two : r.is_two_drivers d (parts d) k p ≡ false
  unfolding places_of
  no_two =
      let told : r.two_drivers d (parts d) (0 + k) p ≡ [] = numbered_at (λ kp. r.two_drivers d (parts d) kp.0 kp.1) (parts d) 0 (legal.nothing TwoDrivers) k p e in
      let z : 0 + k ≡ k = omega arith in
      told_none (r.is_two_drivers d (parts d) k p) p.at (map (λ q. r.at_place p q.path.place) (r.targets p)) (ap (λ i. r.two_drivers d (parts d) i p) (sym z) ∙ told)

-- another part of the list
pub other_any : (t : Part → Bool) (ps : List Part) (k j : ℕ) (q : Part) → slice_get ps j ≡ Some q → (j ≡ k → ⊥) → t q ≡ true → list_any t (r.others k ps) ≡ true
other_any t [] k j q e n h = cc
other_any t (p ∷ ps) zero zero q e n h = absurd (n refl)
other_any t (p ∷ ps) zero (suc j) q e n h = at_any t ps j q e h
other_any t (p ∷ ps) (suc k) zero q e n h = or-left (t p) (list_any t (r.others k ps)) (ap t (some_same p q e) ∙ h)
other_any t (p ∷ ps) (suc k) (suc j) q e n h = or-right (t p) (list_any t (r.others k ps)) (other_any t ps k j q e (λ i. n (ap suc i)) h)
