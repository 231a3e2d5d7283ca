-- The clause of literals that are sorted by variable.
use Rattle.std.proofs.Common.{◌≡◌, ◌≢◌, ℕ, zero, suc, ◌+◌, ◌<◌, ◌≤◌, length, take, get_or, Bool, true, false, not, List, [], ◌∷◌, ◌++◌, refl, sym, ◌∙◌, subst, arith, ◌⊎◌, inl, inr}
use Rattle.std.proofs.Math.Bool.{beq}
use Rattle.std.specs.List.Sorted.{IsNonDecreasingBy, IsPermutation}
use Rattle.std.proofs.lemmas.List.{get_or_default}
use Rattle.std.proofs.lemmas.List.Sorted.{list_any-IsPermutation}
use Rattle.lv_clauses.specs.Literals.{Lit, negated, same, has, Rises, IsClauseOf, HasPair}
use Rattle.lv_clauses.proofs.Literals.{Rises-push, push-old, push-new, push-cases, both_true, take-item, has-item, has-head, has-later, has-cases, same_lit}
use Rattle.lv_clauses.proofs.Lists.{take-whole}
use Rattle.lv_clauses.proofs.Sorted.{unpaired}

abbrev pub lit_of : ℕ → Bool → Lit
lit_of v n = record { var = v; neg = n }

-- the literals before place i of a sorted list are merged into out, the last of which is of variable last
pub record Merged (s : List Lit) (i : ℕ) (out : List Lit) (last : ℕ) (neg : Bool) : Type 0 where
  pub rises : Rises 0 out
  pub up_to : (m : Lit) → has out m ≡ true → m.var ≤ last
  pub old : (m : Lit) → has out m ≡ true → has (take i s) m ≡ true
  pub all : (m : Lit) → has (take i s) m ≡ true → has out m ≡ true
  pub ends : (last ≡ 0) ⊎ (has out (lit_of last neg) ≡ true)
  pub below : (k : ℕ) (d : Lit) → i ≤ k → k < length s → last ≤ (get_or s k d).var

pub Merged-none : (s : List Lit) → Merged s 0 [] 0 false
Merged-none s = record { rises = tt; up_to = λ m i. cc; old = λ m i. cc; all = λ m i. i; ends = inl refl; below = λ k d a b. omega arith }

at-any : (s : List Lit) (i : ℕ) (x d : Lit) → i < length s → x ≡ get_or s i x → get_or s i d ≡ x
at-any s i x d below is = get_or_default s i d x below ∙ sym is

-- a literal of a variable above the last
pub Merged-more : (s : List Lit) (i : ℕ) (out : List Lit) (last : ℕ) (neg : Bool) (x : Lit) → IsNonDecreasingBy (λ l. l.var) s →
    Merged s i out last neg → i < length s → x ≡ get_or s i x → last < x.var → Merged s (i + 1) (out ++ x ∷ []) x.var x.neg
Merged-more s i out last neg x up h below is above =
    let t : take (i + 1) s ≡ take i s ++ x ∷ [] = take-item s i x below is in
    record {
      rises = Rises-push 0 last out x h.rises h.up_to (omega arith) above;
      up_to = λ m e. elim (push-cases out x m e) [ inl a ↦ omega (arith, h.up_to m a, above) | inr b ↦ subst (λ z. z.var ≤ x.var) b (omega arith) ];
      old = λ m e. subst (λ z. has z m ≡ true) (sym t) (elim (push-cases out x m e) [ inl a ↦ push-old (take i s) x m (h.old m a) | inr b ↦ subst (λ z. has (take i s ++ x ∷ []) z ≡ true) b (push-new (take i s) x) ]);
      all = λ m e. elim (push-cases (take i s) x m (subst (λ z. has z m ≡ true) t e)) [ inl a ↦ push-old out x m (h.all m a) | inr b ↦ subst (λ z. has (out ++ x ∷ []) z ≡ true) b (push-new out x) ];
      ends = inr (push-new out x);
      below = λ k d a b. subst (λ z. z.var ≤ (get_or s k d).var) (at-any s i x d below is) (up i k d (omega arith) b);
    }

the-last : (out : List Lit) (last : ℕ) (neg : Bool) (x : Lit) → 1 ≤ x.var → x.var ≡ last → x.neg ≡ neg → (last ≡ 0) ⊎ (has out (lit_of last neg) ≡ true) → has out x ≡ true
the-last out last neg x low v n (inl z) = absurd (omega arith)
the-last out last neg x low v n (inr e) = subst (λ z. has out z ≡ true) (sym (same_lit x (lit_of last neg) v n)) e

-- what a test of two signs says
pub alike : (a b : Bool) → not (beq a b) ≡ false → a ≡ b
alike true true e = refl
alike true false e = cc
alike false true e = cc
alike false false e = refl

pub apart : (a b : Bool) → not (beq a b) ≡ true → a ≢ b
apart true true e = cc
apart true false e = λ f. cc
apart false true e = λ f. cc
apart false false e = cc

flipped : (a b : Bool) → a ≢ b → not a ≡ b
flipped true true n = absurd (n refl)
flipped true false n = refl
flipped false true n = refl
flipped false false n = absurd (n refl)

pub taken-in : (s : List Lit) (i : ℕ) (m : Lit) → has (take i s) m ≡ true → has s m ≡ true
taken-in s zero m e = cc
taken-in [] (suc i) m e = e
taken-in (x ∷ s) (suc i) m e = elim (has-cases x m (take i s) e) [ inl a ↦ subst (λ z. has (x ∷ s) z ≡ true) a (has-head x s) | inr b ↦ has-later x m s (taken-in s i m b) ]

-- a literal that is there already
pub Merged-same : (s : List Lit) (i : ℕ) (out : List Lit) (last : ℕ) (neg : Bool) (x : Lit) →
    Merged s i out last neg → i < length s → x ≡ get_or s i x → 1 ≤ x.var → x.var ≡ last → x.neg ≡ neg → Merged s (i + 1) out last neg
Merged-same s i out last neg x h below is low v n =
    let t : take (i + 1) s ≡ take i s ++ x ∷ [] = take-item s i x below is in
    record {
      rises = h.rises;
      up_to = h.up_to;
      old = λ m e. subst (λ z. has z m ≡ true) (sym t) (push-old (take i s) x m (h.old m e));
      all = λ m e. elim (push-cases (take i s) x m (subst (λ z. has z m ≡ true) t e)) [ inl a ↦ h.all m a | inr b ↦ subst (λ z. has out z ≡ true) b (the-last out last neg x low v n h.ends) ];
      ends = h.ends;
      below = λ k d a b. h.below k d (omega arith) b;
    }

-- a literal and its negation
pub Merged-pair : (s : List Lit) (i : ℕ) (out : List Lit) (last : ℕ) (neg : Bool) (x : Lit) →
    Merged s i out last neg → i < length s → x ≡ get_or s i x → 1 ≤ x.var → x.var ≡ last → x.neg ≢ neg → HasPair s
Merged-pair s i out last neg x h below is low v n =
    (x, has-item s i x below is, taken-in s i (negated x) (h.old (negated x) (the-last out last neg (negated x) low v (flipped x.neg neg n) h.ends)))

pub Merged-whole : (s : List Lit) (i : ℕ) (out : List Lit) (last : ℕ) (neg : Bool) → Merged s i out last neg → length s ≤ i → IsClauseOf s out
Merged-whole s i out last neg h past =
    let e : take i s ≡ s = take-whole s i past in
    let members : (l : Lit) → has out l ≡ has s l = λ l. both_true (has out l) (has s l) (λ m. subst (λ z. has z l ≡ true) e (h.old l m)) (λ m. h.all l (subst (λ z. has z l ≡ true) (sym e) m)) in
    record {
      sorted = h.rises;
      members = members;
      unpaired = λ (l, a, b). unpaired out h.rises (l, members l ∙ a, members (negated l) ∙ b);
    }

-- the clause of literals in another order
pub other-order : (s c d : List Lit) → IsPermutation c s → IsClauseOf s d → IsClauseOf c d
other-order s c d p of = record {
  sorted = of.sorted;
  members = λ l. of.members l ∙ sym (list_any-IsPermutation (λ x. same x l) c s p);
  unpaired = λ (l, a, b). of.unpaired (l, sym (list_any-IsPermutation (λ x. same x l) c s p) ∙ a, sym (list_any-IsPermutation (λ x. same x (negated l)) c s p) ∙ b);
}

pub pair-back : (s c : List Lit) → IsPermutation c s → HasPair s → HasPair c
pair-back s c p (l, a, b) = (l, list_any-IsPermutation (λ x. same x l) c s p ∙ a, list_any-IsPermutation (λ x. same x (negated l)) c s p ∙ b)

pub clause-itself : (c : List Lit) → Rises 0 c → IsClauseOf c c
clause-itself c r = record { sorted = r; members = λ l. refl; unpaired = unpaired c r }
