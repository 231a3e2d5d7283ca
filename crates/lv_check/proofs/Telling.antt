-- Marks tell the true literals of a line.
use Rattle.std.proofs.Common.{◌≡◌, ◌≢◌, ℕ, suc, zero, ◌-◌, ◌<◌, ◌≤◌, Bool, true, false, not, ◌||◌, eqb, List, [], ◌∷◌, ◌++◌, length, map, take, set, get_or, refl, sym, ◌∙◌, ap, subst, arith, inl, inr, get_or-set_other, get_or-set_same, length-set}
use Rattle.std.proofs.Math.Bool.{beq}
use Rattle.std.proofs.lemmas.Bool.{cases_eq, cases_Bool, eq-eqb, ne_eqb, and_left}
use Rattle.lv_clauses.specs.Literals.{Lit, negated, same, has, Rises}
use Rattle.lv_clauses.specs.Units.{remaining}
use Rattle.lv_clauses.proofs.Literals.{same_lit, either, has-head, has-cases, has-negated}
use Rattle.lv_check.specs.declared.marks.Mark.{Mark}
use Rattle.lv_check.specs.declared.marks.Rest.{Rest}
use Rattle.lv_check.specs.declared.marks.Rest.TheVariants.{Nothing, One, More}
use Rattle.lv_check.specs.Marks.{no_mark, mark_of, tells, Tells, AreBelow, IsRest, so_far}

beq-other : (a : Bool) → beq a (not a) ≡ false
beq-other true = refl
beq-other false = refl

beq-self : (a : Bool) → beq a a ≡ true
beq-self true = refl
beq-self false = refl

tells-self : (n : ℕ) (l : Lit) → tells (mark_of n l) n l ≡ true
tells-self n l = let a = eq-eqb n n refl in let b = beq-self l.neg in rw (a, b) refl

tells-other : (n : ℕ) (l : Lit) → tells (mark_of n l) n (negated l) ≡ false
tells-other n l = let a = eq-eqb n n refl in let b = beq-other l.neg in rw (a, b) refl

same-other : (l : Lit) → same l (negated l) ≡ false
same-other l = let a = eq-eqb l.var l.var refl in let b = beq-other l.neg in rw (a, b) refl

same-far : (l m : Lit) → (l.var ≡ m.var → ⊥) → same l m ≡ false
same-far l m ne = and_left (eqb l.var m.var) (beq l.neg m.neg) (ne_eqb l.var m.var ne)

or_false : (x y : Bool) → x ≡ false → (x || y) ≡ y
or_false false y e = refl
or_false true y e = cc

pub Tells-made : (ms : List Mark) (n : ℕ) (t : List Lit) (l : Lit) → 1 ≤ l.var → l.var ≤ length ms → Tells ms n t → has t (negated l) ≡ false → Tells (set ms (l.var - 1) (mark_of n l)) n (l ∷ t)
Tells-made ms n t l low high h free m lowm highm =
    let highm' : m.var ≤ length ms = omega (arith, length-set ms (l.var - 1) (mark_of n l)) in
    let at : l.var - 1 < length ms = omega arith in
    elim (cases_eq l.var m.var) [
      | inl e ↦
          let g : get_or (set ms (l.var - 1) (mark_of n l)) (m.var - 1) no_mark ≡ mark_of n l = subst (λ z. get_or (set ms (l.var - 1) (mark_of n l)) (z - 1) no_mark ≡ mark_of n l) e (get_or-set_same ms (l.var - 1) (mark_of n l) no_mark at) in
          elim (either m.neg l.neg) [
            | inl s ↦
                let is : l ≡ m = sym (same_lit m l (sym e) s) in
                ap (λ z. tells z n m) g ∙ (subst (λ z. tells (mark_of n l) n z ≡ true) is (tells-self n l) ∙ sym (subst (λ z. has (l ∷ t) z ≡ true) is (has-head l t)))
            | inr s ↦
                let is : negated l ≡ m = sym (same_lit m (negated l) (sym e) s) in
                ap (λ z. tells z n m) g ∙ (subst (λ z. tells (mark_of n l) n z ≡ false) is (tells-other n l) ∙ sym (subst (λ z. has (l ∷ t) z ≡ false) is (or_false (same l (negated l)) (has t (negated l)) (same-other l) ∙ free)))
          ]
      | inr ne ↦
          let far : m.var - 1 ≢ l.var - 1 = λ e. ne (omega arith) in
          let g : get_or (set ms (l.var - 1) (mark_of n l)) (m.var - 1) no_mark ≡ get_or ms (m.var - 1) no_mark = get_or-set_other ms (l.var - 1) (m.var - 1) (mark_of n l) no_mark far in
          ap (λ z. tells z n m) g ∙ (h m lowm highm' ∙ sym (or_false (same l m) (has t m) (same-far l m ne)))
    ]

pub AreBelow-set : (ms : List Mark) (n i : ℕ) (m : Mark) → i < length ms → m.line < n → AreBelow ms n → AreBelow (set ms i m) n
AreBelow-set ms n i m at low h j below =
    let below' : j < length ms = omega (arith, length-set ms i m) in
    elim (cases_eq j i) [
      | inl e ↦ subst (λ z. (get_or (set ms i m) z no_mark).line < n) (sym e) (subst (λ z. z.line < n) (sym (get_or-set_same ms i m no_mark at)) low)
      | inr ne ↦ subst (λ z. z.line < n) (sym (get_or-set_other ms i j m no_mark ne)) (h j below')
    ]

-- nothing is true yet
pub Tells-none : (ms : List Mark) (n : ℕ) → AreBelow ms n → Tells ms n []
Tells-none ms n h l low high =
    let below = h (l.var - 1) (omega arith) in
    and_left (eqb (get_or ms (l.var - 1) no_mark).line n) _ (ne_eqb (get_or ms (l.var - 1) no_mark).line n (λ e. omega (arith, below)))

pub remaining-false : (t c : List Lit) (x : Lit) → has t (negated x) ≡ true → remaining t (x ∷ c) ≡ remaining t c
remaining-false t c x e = rw e refl

pub remaining-free : (t c : List Lit) (x : Lit) → has t (negated x) ≡ false → remaining t (x ∷ c) ≡ x ∷ remaining t c
remaining-free t c x e = rw e refl

pub IsRest-more : (x y : Lit) (c : List Lit) → IsRest (x ∷ y ∷ c) More
IsRest-more x y c = refl

pub IsRest-end : (r : Rest) → (r ≡ More → ⊥) → IsRest (so_far r) r
IsRest-end Nothing n = refl
IsRest-end (One l) n = refl
IsRest-end More n = absurd (n refl)

pub One-rest : (c : List Lit) (x : Lit) → IsRest c (One x) → c ≡ x ∷ []
One-rest [] x e = cc
One-rest (y ∷ []) x e = cc
One-rest (y ∷ z ∷ c) x e = cc

pub Nothing-rest : (c : List Lit) → IsRest c Nothing → c ≡ []
Nothing-rest [] e = refl
Nothing-rest (y ∷ []) e = cc
Nothing-rest (y ∷ z ∷ c) e = cc

pub More-rest : (c : List Lit) → IsRest c More → (x : Lit) × (y : Lit) × (d : List Lit) × (c ≡ x ∷ y ∷ d)
More-rest [] e = cc
More-rest (y ∷ []) e = cc
More-rest (y ∷ z ∷ c) e = (y, z, c, refl)

rises_above : (n : ℕ) (c : List Lit) (i : ℕ) (d : Lit) → Rises n c → i < length c → n < (get_or c i d).var
rises_above n [] i d r h = absurd (omega arith)
rises_above n (x ∷ c) zero d r h = r.0
rises_above n (x ∷ c) (suc i) d r h = omega (arith, r.0, rises_above x.var c i d r.1 (omega arith))

pub rises-before : (n : ℕ) (c : List Lit) (i : ℕ) (d m : Lit) → Rises n c → i < length c → has (take i c) m ≡ true → m.var < (get_or c i d).var
rises-before n [] i d m r h e = absurd (omega arith)
rises-before n (x ∷ c) zero d m r h e = cc
rises-before n (x ∷ c) (suc i) d m r h e =
    elim (has-cases x m (take i c) e) [
      | inl s ↦ subst (λ z. z.var < (get_or c i d).var) s (rises_above x.var c i d r.1 (omega arith))
      | inr later ↦ rises-before x.var c i d m r.1 (omega arith) later
    ]

or_swap : (a b c : Bool) → (a || (b || c)) ≡ (b || (a || c))
or_swap true true c = refl
or_swap true false c = refl
or_swap false true c = refl
or_swap false false c = refl

pub negated-push : (c : List Lit) (x l : Lit) → has (negated x ∷ map negated c) l ≡ has (map negated (c ++ x ∷ [])) l
negated-push [] x l = refl
negated-push (y ∷ c) x l = or_swap (same (negated x) l) (same (negated y) l) (has (map negated c) l) ∙ ap (λ z. same (negated y) l || z) (negated-push c x l)

pub not-before : (n : ℕ) (c : List Lit) (i : ℕ) (d : Lit) → Rises n c → i < length c → has (map negated (take i c)) (negated (negated (get_or c i d))) ≡ false
not-before n c i d r h =
    elim (cases_Bool (has (map negated (take i c)) (negated (negated (get_or c i d))))) [
      | inr f ↦ f
      | inl t ↦ absurd (omega (arith, rises-before n c i d (negated (negated (negated (get_or c i d)))) r h (has-negated (take i c) (negated (negated (get_or c i d))) t)))
    ]
