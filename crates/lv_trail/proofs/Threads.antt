-- Slots move between lists that are threaded through them.
use Rattle.std.proofs.Common.{◌≡◌, ◌≢◌, ℕ, suc, zero, ◌+◌, ◌-◌, ◌<◌, ◌≤◌, Bool, true, false, ◌||◌, eqb, List, [], ◌∷◌, ◌++◌, length, set, get_or, replicate, refl, sym, ◌∙◌, ap, subst, arith, inl, inr, get_or-set_other, get_or-set_same, length-set, length-append}
use Rattle.std.specs.List.{list_any, IsDistinct, AllByRecursion}
use Rattle.std.proofs.lemmas.Bool.{cases_eq, cases_lt, cases_Bool, eqb-true, eq-eqb, ne_eqb, true≢false, or_cases}
use Rattle.std.proofs.lemmas.List.{get_or-replicate, length-replicate, get_or_append_left, get_or-append_right}
use Rattle.std.proofs.lemmas.Map.Steps.{length-le_from_distinct_below}
use Rattle.lv_trail.specs.declared.lists.Slot.{Slot}
use Rattle.lv_trail.specs.Chains.{no_slot, slot_at, steps, In, NotIn, IsChain, IsListOf, AreChains}

or_none : (a b : Bool) → (a || b) ≡ false → (a ≡ false) × (b ≡ false)
or_none false b e = (refl, e)
or_none true b e = cc

from_none : (a b : Bool) → a ≡ false → b ≡ false → (a || b) ≡ false
from_none false b e f = f
from_none true b e f = cc

pub in-head : (x : ℕ) (xs : List ℕ) → In x (x ∷ xs)
in-head x xs = rw (eq-eqb x x refl) refl

pub in-later : (x y : ℕ) (xs : List ℕ) → In x xs → In x (y ∷ xs)
in-later x y xs i = elim (cases_Bool (eqb x y)) [ inl e ↦ rw e refl | inr e ↦ rw e i ]

pub not-head : (x y : ℕ) (xs : List ℕ) → NotIn x (y ∷ xs) → x ≢ y
not-head x y xs n e = true≢false (sym (eq-eqb x y e) ∙ (or_none (eqb x y) (list_any (eqb x) xs) n).0)

pub not-later : (x y : ℕ) (xs : List ℕ) → NotIn x (y ∷ xs) → NotIn x xs
not-later x y xs n = (or_none (eqb x y) (list_any (eqb x) xs) n).1

pub not-from : (x y : ℕ) (xs : List ℕ) → x ≢ y → NotIn x xs → NotIn x (y ∷ xs)
not-from x y xs ne n = from_none (eqb x y) (list_any (eqb x) xs) (ne_eqb x y ne) n

pub in-not : (x : ℕ) (xs : List ℕ) → In x xs → NotIn x xs → ⊥
in-not x xs i n = true≢false (sym i ∙ n)

-- a chain is left by writes that leave what follows its slots
pub chain-kept : (ss tt' : List Slot) (h : ℕ) (xs : List ℕ) → length ss ≤ length tt' → ((x : ℕ) → In x xs → 1 ≤ x → x ≤ length ss → (slot_at tt' x).next ≡ (slot_at ss x).next) → IsChain ss h xs → IsChain tt' h xs
chain-kept ss tt' h [] le same c = c
chain-kept ss tt' h (x ∷ xs) le same c =
    (c.0, c.1, omega (arith, c.2), c.3, subst (λ z. IsChain tt' z xs) (sym (same x (in-head x xs) c.1 c.2)) (chain-kept ss tt' (slot_at ss x).next xs le (λ y i. same y (in-later y x xs i)) c.4))

pub set-other : (ss : List Slot) (s x : ℕ) (v : Slot) → 1 ≤ s → 1 ≤ x → x ≢ s → slot_at (set ss (s - 1) v) x ≡ slot_at ss x
set-other ss s x v one one' ne = let ne' : x - 1 ≢ s - 1 = λ e. ne (omega arith) in get_or-set_other ss (s - 1) (x - 1) v no_slot ne'

pub set-same : (ss : List Slot) (s : ℕ) (v : Slot) → 1 ≤ s → s ≤ length ss → slot_at (set ss (s - 1) v) s ≡ v
set-same ss s v one high = get_or-set_same ss (s - 1) v no_slot (omega arith)

pub chain-set : (ss : List Slot) (s h : ℕ) (v : Slot) (xs : List ℕ) → 1 ≤ s → NotIn s xs → IsChain ss h xs → IsChain (set ss (s - 1) v) h xs
chain-set ss s h v xs one out c =
    chain-kept ss (set ss (s - 1) v) h xs (omega (arith, length-set ss (s - 1) v)) (λ x i low high. ap (λ z. z.next) (set-other ss s x v one low (λ e. in-not s xs (subst (λ z. In z xs) e i) out))) c

pub chain-within : (ss : List Slot) (h : ℕ) (xs : List ℕ) (x : ℕ) → IsChain ss h xs → In x xs → (1 ≤ x) × (x ≤ length ss)
chain-within ss h [] x c i = cc
chain-within ss h (y ∷ xs) x c i =
    elim (or_cases (eqb x y) (list_any (eqb x) xs) i) [
      | inl e ↦ let is = eqb-true x y e in (omega (arith, is, c.1), omega (arith, is, c.2))
      | inr later ↦ chain-within ss (slot_at ss y).next xs x c.4 later
    ]

all-not : (x : ℕ) (xs : List ℕ) → NotIn x xs → AllByRecursion (λ y. eqb x y ≡ false) xs
all-not x [] n = tt
all-not x (y ∷ xs) n = let o = or_none (eqb x y) (list_any (eqb x) xs) n in (o.0, all-not x xs o.1)

chain-distinct : (ss : List Slot) (h : ℕ) (xs : List ℕ) → IsChain ss h xs → IsDistinct eqb xs
unfolding IsDistinct
chain-distinct ss h [] c = tt
chain-distinct ss h (x ∷ xs) c = (all-not x xs c.3, chain-distinct ss (slot_at ss x).next xs c.4)

-- a chain is no longer than there are slots
pub chain-length : (ss : List Slot) (h : ℕ) (xs : List ℕ) → IsChain ss h xs → length xs ≤ length ss + 1
chain-length ss h xs c = length-le_from_distinct_below xs (length ss + 1) (chain-distinct ss h xs c) (λ q i. omega (arith, (chain-within ss h xs q c i).1))

steps-is : (n : ℕ) (ss : List Slot) (h : ℕ) (xs : List ℕ) → IsChain ss h xs → length xs ≤ n → steps n ss h ≡ length xs
steps-is zero ss h [] c b = refl
steps-is zero ss h (x ∷ xs) c b = absurd (omega arith)
steps-is (suc n) ss h [] c b = rw (eq-eqb h 0 c) refl
steps-is (suc n) ss h (x ∷ xs) c b =
    let ne : h ≢ 0 = λ e. omega (arith, c.0, c.1) in
    rw (ne_eqb h 0 ne) (omega (arith, ap (λ z. steps n ss (slot_at ss z).next) c.0, steps-is n ss (slot_at ss x).next xs c.4 (omega arith)))

-- the measure of a walk along a chain
pub steps-all : (ss : List Slot) (h : ℕ) (xs : List ℕ) → IsChain ss h xs → steps (length ss + 1) ss h ≡ length xs
steps-all ss h xs c = steps-is (length ss + 1) ss h xs c (chain-length ss h xs c)

pub at-older : (ss more : List Slot) (x : ℕ) → 1 ≤ x → x ≤ length ss → slot_at (ss ++ more) x ≡ slot_at ss x
at-older ss more x one b = get_or_append_left ss more no_slot (x - 1) (omega arith)

get_or-replicate-any : (k : ℕ) → get_or (no_slot ∷ no_slot ∷ []) k no_slot ≡ no_slot
get_or-replicate-any zero = refl
get_or-replicate-any (suc zero) = refl
get_or-replicate-any (suc (suc k)) = refl

pub at-newer : (ss : List Slot) (x : ℕ) → length ss < x → slot_at (ss ++ no_slot ∷ no_slot ∷ []) x ≡ no_slot
at-newer ss x b = get_or-append_right ss (no_slot ∷ no_slot ∷ []) (length ss) (x - 1) no_slot refl (omega arith) ∙ get_or-replicate-any (x - 1 - length ss)

module _ (heads : List ℕ) (ss : List Slot) (rest : List ℕ) (w s : ℕ) (low : 1 ≤ s) (high : s ≤ length ss) (some : 1 ≤ w) (in_heads : w < length heads) (h : AreChains heads ss (s ∷ rest)) (fresh : NotIn s rest) (new : Slot) (is-list : new.list ≡ w) (is-next : new.next ≡ get_or heads w 0) where
  not-in : (v : ℕ) (l : IsListOf ss (s ∷ rest) v (get_or heads v 0)) → NotIn s l.slots
  not-in v l = elim (cases_Bool (list_any (eqb s) l.slots)) [
    | inr n ↦ n
    | inl y ↦ absurd (not-head s s rest (l.within s y).1 refl)
  ]

  here : slot_at (set ss (s - 1) new) s ≡ new
  here = set-same ss s new low high

  kept-within : (v : ℕ) (l : IsListOf ss (s ∷ rest) v (get_or heads v 0)) (x : ℕ) → In x l.slots → ((slot_at (set ss (s - 1) new) x).list ≡ v) × NotIn x rest
  kept-within v l x i =
      let q = l.within x i in
      (ap (λ z. z.list) (set-other ss s x new low (chain-within ss (get_or heads v 0) l.slots x l.chain i).0 (not-head x s rest q.1)) ∙ q.0, not-later x s rest q.1)

  other : (v : ℕ) → 1 ≤ v → v < length heads → (v ≡ w → ⊥) → IsListOf (set ss (s - 1) new) rest v (get_or heads v 0)
  other v one b ne =
      let l = h v one b in
      record {
        slots = l.slots;
        chain = chain-set ss s (get_or heads v 0) new l.slots low (not-in v l) l.chain;
        within = kept-within v l;
        all = λ x a c e f.
            elim (cases_eq x s) [
              | inl is ↦ absurd (ne (sym e ∙ (ap (λ z. (slot_at (set ss (s - 1) new) z).list) is ∙ (ap (λ z. z.list) here ∙ is-list))))
              | inr ne' ↦ l.all x a (omega (arith, c, length-set ss (s - 1) new)) (sym (ap (λ z. z.list) (set-other ss s x new low a ne')) ∙ e) (not-from x s rest ne' f)
            ];
      }

  own : IsListOf (set ss (s - 1) new) rest w s
  own =
      let l = h w some in_heads in
      let n : NotIn s l.slots = not-in w l in
      record {
        slots = s ∷ l.slots;
        chain = (
          refl,
          low,
          omega (arith, high, length-set ss (s - 1) new),
          n,
          subst (λ z. IsChain (set ss (s - 1) new) z l.slots) (sym (ap (λ z. z.next) here ∙ is-next)) (chain-set ss s (get_or heads w 0) new l.slots low n l.chain),
        );
        within = λ x i.
            elim (or_cases (eqb x s) (list_any (eqb x) l.slots) i) [
              | inl e ↦ let y = eqb-true x s e in (ap (λ z. (slot_at (set ss (s - 1) new) z).list) y ∙ (ap (λ z. z.list) here ∙ is-list), subst (λ z. NotIn z rest) (sym y) fresh)
              | inr later ↦ kept-within w l x later
            ];
        all = λ x a c e f.
            elim (cases_eq x s) [
              | inl y ↦ subst (λ z. In z (s ∷ l.slots)) (sym y) (in-head s l.slots)
              | inr ne ↦ in-later x s l.slots (l.all x a (omega (arith, c, length-set ss (s - 1) new)) (sym (ap (λ z. z.list) (set-other ss s x new low a ne)) ∙ e) (not-from x s rest ne f))
            ];
      }

  -- a slot that stood apart in front of a list
  pub put : AreChains (set heads w s) (set ss (s - 1) new) rest
  put v one b =
      elim (cases_eq v w) [
        | inl e ↦ subst (λ z. IsListOf (set ss (s - 1) new) rest z (get_or (set heads w s) z 0)) (sym e)
            (subst (λ z. IsListOf (set ss (s - 1) new) rest w z) (sym (get_or-set_same heads w s 0 in_heads)) own)
        | inr ne ↦ subst (λ z. IsListOf (set ss (s - 1) new) rest v z) (sym (get_or-set_other heads w v s 0 ne)) (other v one (omega (arith, b, length-set heads w s)) ne)
      ]

-- a slot of no list stands apart
pub apart-none : (heads : List ℕ) (ss : List Slot) (apart : List ℕ) (s : ℕ) → (slot_at ss s).list ≡ 0 → AreChains heads ss apart → AreChains heads ss (s ∷ apart)
apart-none heads ss apart s none h w one b =
    let l = h w one b in
    record {
      slots = l.slots;
      chain = l.chain;
      within = λ x i. let q = l.within x i in (q.0, not-from x s apart (λ e. omega (arith, one, q.0, none, ap (λ z. (slot_at ss z).list) e)) q.1);
      all = λ x a c e f. l.all x a c e (not-later x s apart f);
    }

-- the slots of list w stand apart
pub record HasDetached (heads : List ℕ) (ss : List Slot) (w first : ℕ) : Type 0 where
  pub apart : List ℕ
  pub chain : IsChain ss first apart
  pub within : (x : ℕ) → In x apart → (slot_at ss x).list ≡ w
  pub all : (x : ℕ) → 1 ≤ x → x ≤ length ss → (slot_at ss x).list ≡ w → In x apart
  pub others : AreChains heads ss apart

module _ (heads : List ℕ) (ss : List Slot) (w : ℕ) (some : 1 ≤ w) (in_heads : w < length heads) (h : AreChains heads ss []) where
  gone : (v : ℕ) → 1 ≤ v → v < length heads → (v ≡ w → ⊥) → IsListOf ss (h w some in_heads).slots v (get_or heads v 0)
  gone v one b ne =
      let l = h v one b in
      record {
        slots = l.slots;
        chain = l.chain;
        within = λ x i.
            let q = l.within x i in
            (q.0, elim (cases_Bool (list_any (eqb x) (h w some in_heads).slots)) [ inr n ↦ n | inl y ↦ absurd (ne (sym q.0 ∙ ((h w some in_heads).within x y).0)) ]);
        all = λ x a c e f. l.all x a c e refl;
      }

  empty : IsListOf ss (h w some in_heads).slots w 0
  empty = record {
    slots = [];
    chain = refl;
    within = λ x i. cc;
    all = λ x a c e f. absurd (in-not x (h w some in_heads).slots ((h w some in_heads).all x a c e refl) f);
  }

  pub detached : HasDetached (set heads w 0) ss w (get_or heads w 0)
  detached = record {
    apart = (h w some in_heads).slots;
    chain = (h w some in_heads).chain;
    within = λ x i. ((h w some in_heads).within x i).0;
    all = λ x a b e. (h w some in_heads).all x a b e refl;
    others = λ v one b.
        elim (cases_eq v w) [
          | inl e ↦ subst (λ z. IsListOf ss (h w some in_heads).slots z (get_or (set heads w 0) z 0)) (sym e)
              (subst (λ z. IsListOf ss (h w some in_heads).slots w z) (sym (get_or-set_same heads w 0 0 in_heads)) empty)
          | inr ne ↦ subst (λ z. IsListOf ss (h w some in_heads).slots v z) (sym (get_or-set_other heads w v 0 0 ne)) (gone v one (omega (arith, b, length-set heads w 0)) ne)
        ];
  }

none-listed : (m w : ℕ) → 1 ≤ w → IsListOf (replicate m no_slot) [] w 0
none-listed m w one = record {
  slots = [];
  chain = refl;
  within = λ x i. cc;
  all = λ x a c e f.
      let is : slot_at (replicate m no_slot) x ≡ no_slot = get_or-replicate {A = Slot} m (x - 1) no_slot no_slot (omega (arith, a, c, length-replicate {A = Slot} m no_slot)) in
      absurd (omega (arith, one, ap (λ z. z.list) is, e));
}

-- each list is empty where no slot is of a list
pub cleared : (n m : ℕ) → AreChains (replicate n 0) (replicate m no_slot) []
cleared n m w one b =
    let zero-head : get_or (replicate n 0) w 0 ≡ 0 = get_or-replicate {A = ℕ} n w 0 0 (omega (arith, b, length-replicate {A = ℕ} n 0)) in
    subst (λ z. IsListOf (replicate m no_slot) [] w z) (sym zero-head) (none-listed m w one)

-- two more slots, of no list
pub grown : (heads : List ℕ) (ss : List Slot) (apart : List ℕ) → AreChains heads ss apart → AreChains heads (ss ++ no_slot ∷ no_slot ∷ []) apart
grown heads ss apart h w one b =
    let l = h w one b in
    let more : List Slot = no_slot ∷ no_slot ∷ [] in
    let len = length-append ss more in
    record {
      slots = l.slots;
      chain = chain-kept ss (ss ++ more) (get_or heads w 0) l.slots (omega (arith, len)) (λ x i low high. ap (λ z. z.next) (at-older ss more x low high)) l.chain;
      within = λ x i. let q = l.within x i in let b' = chain-within ss (get_or heads w 0) l.slots x l.chain i in (ap (λ z. z.list) (at-older ss more x b'.0 b'.1) ∙ q.0, q.1);
      all = λ x a c e f.
          elim (cases_lt (x - 1) (length ss)) [
            | inl old ↦ let high : x ≤ length ss = omega (arith, old) in l.all x a high (sym (ap (λ z. z.list) (at-older ss more x a high)) ∙ e) f
            | inr new ↦ absurd (omega (arith, one, e, ap (λ z. z.list) (at-newer ss x (omega (arith, new)))))
          ];
    }
