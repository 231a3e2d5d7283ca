-- Two machines that are one because what each says of its own valuations the other says of theirs.
use Rattle.std.proofs.Common.{◌≡◌, ℕ, Bool, sym, subst, ap, ◌∙◌}
use Rattle.std.specs.Prelude.{◌↔◌, List}
use Rattle.lv_model.specs.Machine.{Machine, Carries, IsInductive, Implies}
use Rattle.lv_model.proofs.Transfer.{inductive_back, implies_back}

pub record Mirrors {V W : Type 0} (m : Machine V) (n : Machine W) (to : V → W) (from : W → V) : Type 0 where
  pub settled : (v : V) → m.IsSettled v → n.IsSettled (to v)
  pub back : (w : W) → n.IsSettled w → m.IsSettled (from w)
  pub returns : (w : W) → n.IsSettled w → to (from w) ≡ w
  pub follows : (v v' : V) → m.IsSettled v → m.IsSettled v' → m.Follows v v' ↔ n.Follows (to v) (to v')
  pub same_inputs : (l r : V) → m.IsSettled l → m.IsSettled r → m.SameInputs l r ↔ n.SameInputs (to l) (to r)
  pub allowed : (v : V) → m.IsSettled v → m.IsAllowed v ↔ n.IsAllowed (to v)
  pub initial : (l r : V) → m.IsSettled l → m.IsSettled r → m.IsInitialPair l r ↔ n.IsInitialPair (to l) (to r)
  pub row : (v : V) → m.IsSettled v → n.row (to v) ≡ m.row v
  pub attacker : (v : V) → m.IsSettled v → n.attacker (to v) ≡ m.attacker v
  pub candidates : n.candidates ≡ m.candidates
  pub holds : (k : ℕ) (l r : V) (a : Bool) → m.IsSettled l → m.IsSettled r → m.Holds k l r a ↔ n.Holds k (to l) (to r) a

module _ {V W : Type 0} (m : Machine V) (n : Machine W) (to : V → W) (from : W → V) (h : Mirrors m n to from) where
  pub there : Carries m n to
  there = record {
    settled = h.settled;
    follows = λ v w sv sw f. (h.follows v w sv sw).0 f;
    same_inputs = λ l r sl sr s. (h.same_inputs l r sl sr).0 s;
    allowed = λ v sv a. (h.allowed v sv).0 a;
    initial = λ l r sl sr i. (h.initial l r sl sr).0 i;
    row = h.row;
    attacker = h.attacker;
    candidates = h.candidates;
    holds = λ k l r a sl sr x. (h.holds k l r a sl sr).0 x;
    held = λ k l r a sl sr x. (h.holds k l r a sl sr).1 x;
  }

  -- what holds of two valuations of n holds of them as they come back
  pair_back : (P : W → W → Type 0) → (x y : W) → n.IsSettled x → n.IsSettled y → P x y → P (to (from x)) (to (from y))
  pair_back P x y sx sy p = subst (λ z. P z (to (from y))) (sym (h.returns x sx)) (subst (λ z. P x z) (sym (h.returns y sy)) p)

  pair_there : (P : W → W → Type 0) → (x y : W) → n.IsSettled x → n.IsSettled y → P (to (from x)) (to (from y)) → P x y
  pair_there P x y sx sy p = subst (λ z. P z y) (h.returns x sx) (subst (λ z. P (to (from x)) z) (h.returns y sy) p)

  pub back : Carries n m from
  back = record {
    settled = h.back;
    follows = λ x y sx sy f. (h.follows (from x) (from y) (h.back x sx) (h.back y sy)).1 (pair_back n.Follows x y sx sy f);
    same_inputs = λ x y sx sy s. (h.same_inputs (from x) (from y) (h.back x sx) (h.back y sy)).1 (pair_back n.SameInputs x y sx sy s);
    allowed = λ x sx a. (h.allowed (from x) (h.back x sx)).1 (subst n.IsAllowed (sym (h.returns x sx)) a);
    initial = λ x y sx sy i. (h.initial (from x) (from y) (h.back x sx) (h.back y sy)).1 (pair_back n.IsInitialPair x y sx sy i);
    row = λ x sx. sym (h.row (from x) (h.back x sx)) ∙ ap n.row (h.returns x sx);
    attacker = λ x sx. sym (h.attacker (from x) (h.back x sx)) ∙ ap n.attacker (h.returns x sx);
    candidates = sym h.candidates;
    holds = λ k x y a sx sy p. (h.holds k (from x) (from y) a (h.back x sx) (h.back y sy)).1 (pair_back (λ l r. n.Holds k l r a) x y sx sy p);
    held = λ k x y a sx sy p. pair_there (λ l r. n.Holds k l r a) x y sx sy ((h.holds k (from x) (from y) a (h.back x sx) (h.back y sy)).0 p);
  }

  pub mirrored : (b : ℕ) (s : List ℕ) → (IsInductive m b s × Implies m b s) ↔ (IsInductive n b s × Implies n b s)
  mirrored b s = (
    λ (ind, imp). (inductive_back n m from back b s ind, implies_back n m from back b s imp),
    λ (ind, imp). (inductive_back m n to there b s ind, implies_back m n to there b s imp),
  )
