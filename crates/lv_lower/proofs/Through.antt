-- Two designs are one machine under observers of what the one gives of the other.
use Rattle.std.proofs.Common.{◌≡◌, ◌≢◌, ℕ, zero, suc, Bool, List, [], ◌∷◌, ◌++◌, map, refl, sym, ap, ◌∙◌, subst}
use Rattle.std.specs.Prelude.{All, slice_get, nat_eq, if◌then◌else◌}
use Rattle.std.proofs.lemmas.List.{length-map}
use Rattle.std.proofs.lemmas.List.Elements.{All-nil, All-cons, All-head, All-tail}
use Rattle.lv_model.specs.Machine.{Carries, AreSame}
use Rattle.lv_model.specs.Design.{Port, Candidate, Eq, When, Each, Aligned, Observers, values, entry, row_of, CandidateHolds, MaybeHolds, machine_of}
use Rattle.lv_model.specs.Design.{Design as ModelDesign}
use Rattle.lv_source.proofs.Bridges.{two, map-map}
use Rattle.lv_lower.specs.Machines.{through_all, port_through, candidate_through, through}

-- what one design carries to another
pub record Moves {V W : Type 0} (d : ModelDesign V) (e : ModelDesign W) (f : V → W) : Type 0 where
  pub settled : (v : V) → d.IsSettled v → e.IsSettled (f v)
  pub follows : (v w : V) → d.IsSettled v → d.IsSettled w → d.Follows v w → e.Follows (f v) (f w)
  pub same_inputs : (l r : V) → d.IsSettled l → d.IsSettled r → d.SameInputs l r → e.SameInputs (f l) (f r)

module _ (V W : Type 0) (f : W → V) where
  all-there : (Q : ℕ → ℕ → Type 0) (es : List (V → ℕ)) (l r : W) → All (λ (e : V → ℕ). Q (e (f l)) (e (f r))) es → All (λ (x : W → ℕ). Q (x l) (x r)) (through_all f es)
  all-there Q [] l r h = All-nil (λ (x : W → ℕ). Q (x l) (x r))
  all-there Q (e ∷ es) l r h = All-cons (λ (x : W → ℕ). Q (x l) (x r)) (λ w. e (f w)) (through_all f es) (All-head (λ (e : V → ℕ). Q (e (f l)) (e (f r))) e es h)
      (all-there Q es l r (All-tail (λ (e : V → ℕ). Q (e (f l)) (e (f r))) e es h))

  all-back : (Q : ℕ → ℕ → Type 0) (es : List (V → ℕ)) (l r : W) → All (λ (x : W → ℕ). Q (x l) (x r)) (through_all f es) → All (λ (e : V → ℕ). Q (e (f l)) (e (f r))) es
  all-back Q [] l r h = All-nil (λ (e : V → ℕ). Q (e (f l)) (e (f r)))
  all-back Q (e ∷ es) l r h = All-cons (λ (e : V → ℕ). Q (e (f l)) (e (f r))) e es (All-head (λ (x : W → ℕ). Q (x l) (x r)) (λ w. e (f w)) (through_all f es) h)
      (all-back Q es l r (All-tail (λ (x : W → ℕ). Q (x l) (x r)) (λ w. e (f w)) (through_all f es) h))

  values-same : (es : List (V → ℕ)) (c : W) → values (through_all f es) c ≡ values es (f c)
  values-same es c = map-map (λ (x : W → ℕ). x c) (λ (e : V → ℕ) (w : W). e (f w)) es

  entry-same : (p : Port V) (c : W) → entry (port_through f p) c ≡ entry p (f c)
  entry-same p c = ap (λ xs. if nat_eq (p.retire (f c)) 0 then [] else xs ∷ []) (values-same p.contract c)

  row-same : (ps : List (Port V)) (c : W) → row_of (map (port_through f) ps) c ≡ row_of ps (f c)
  row-same [] c = refl
  row-same (p ∷ ps) c = two (λ (x y : List (List ℕ)). x ++ y) _ _ _ _ (entry-same p c) (row-same ps c)

  one-there : (x : Candidate V) (l r : W) (a : Bool) → CandidateHolds x (f l) (f r) a → CandidateHolds (candidate_through f x) l r a
  one-there (Eq e) l r a h = h
  one-there (When g e) l r a h = h
  one-there (Each p) l r a h = h
  one-there Aligned l r a h = h

  one-back : (x : Candidate V) (l r : W) (a : Bool) → CandidateHolds (candidate_through f x) l r a → CandidateHolds x (f l) (f r) a
  one-back (Eq e) l r a h = h
  one-back (When g e) l r a h = h
  one-back (Each p) l r a h = h
  one-back Aligned l r a h = h

  holds-there : (cs : List (Candidate V)) (k : ℕ) (l r : W) (a : Bool) → MaybeHolds (slice_get cs k) (f l) (f r) a → MaybeHolds (slice_get (map (candidate_through f) cs) k) l r a
  holds-there [] k l r a h = absurd h
  holds-there (c ∷ cs) zero l r a h = one-there c l r a h
  holds-there (c ∷ cs) (suc k) l r a h = holds-there cs k l r a h

  holds-back : (cs : List (Candidate V)) (k : ℕ) (l r : W) (a : Bool) → MaybeHolds (slice_get (map (candidate_through f) cs) k) l r a → MaybeHolds (slice_get cs k) (f l) (f r) a
  holds-back [] k l r a h = absurd h
  holds-back (c ∷ cs) zero l r a h = one-back c l r a h
  holds-back (c ∷ cs) (suc k) l r a h = holds-back cs k l r a h

  abbrev Nonzero : ℕ → ℕ → Type 0
  Nonzero x y = x ≢ 0

  abbrev Alike : ℕ → ℕ → Type 0
  Alike x y = x ≡ y

  abbrev Both : ℕ → ℕ → Type 0
  Both x y = (x ≢ 0) × (y ≢ 0)

  module _ (d : ModelDesign V) (e : ModelDesign W) (o : Observers V) (to : V → W) (there : Moves d e to) (back : Moves e d f) (same : (v : V) → d.IsSettled v → f (to v) ≡ v) where
    moves-back : Carries (machine_of e (through f o)) (machine_of d o) f
    moves-back = record {
      settled = back.settled;
      follows = back.follows;
      same_inputs = back.same_inputs;
      allowed = λ c h a. all-back Nonzero o.assume c c a;
      initial = λ l r h i p. (all-back Alike o.equal l r p.0, all-back Both o.each l r p.1);
      row = λ c h. sym (row-same o.ports c);
      attacker = λ c h. sym (values-same o.attacker c);
      candidates = sym (length-map o.candidates (candidate_through f));
      holds = λ k l r a h i x. holds-back o.candidates k l r a x;
      held = λ k l r a h i x. holds-there o.candidates k l r a x;
    }

    moves-there : Carries (machine_of d o) (machine_of e (through f o)) to
    moves-there = record {
      settled = there.settled;
      follows = there.follows;
      same_inputs = there.same_inputs;
      allowed = λ v h a. all-there Nonzero o.assume (to v) (to v) (subst (λ (x : V). All (λ (e : V → ℕ). e x ≢ 0) o.assume) (sym (same v h)) a);
      initial = λ l r h i p. (
        all-there Alike o.equal (to l) (to r)
            (subst (λ (x : V). All (λ (e : V → ℕ). e x ≡ e (f (to r))) o.equal) (sym (same l h)) (subst (λ (x : V). All (λ (e : V → ℕ). e l ≡ e x) o.equal) (sym (same r i)) p.0)),
        all-there Both o.each (to l) (to r)
            (subst (λ (x : V). All (λ (e : V → ℕ). (e x ≢ 0) × (e (f (to r)) ≢ 0)) o.each) (sym (same l h))
            (subst (λ (x : V). All (λ (e : V → ℕ). (e l ≢ 0) × (e x ≢ 0)) o.each) (sym (same r i)) p.1)),
      );
      row = λ v h. row-same o.ports (to v) ∙ ap (row_of o.ports) (same v h);
      attacker = λ v h. values-same o.attacker (to v) ∙ ap (values o.attacker) (same v h);
      candidates = length-map o.candidates (candidate_through f);
      holds = λ k l r a h i x. holds-there o.candidates k (to l) (to r) a
          (subst (λ (z : V). MaybeHolds (slice_get o.candidates k) z (f (to r)) a) (sym (same l h)) (subst (λ (z : V). MaybeHolds (slice_get o.candidates k) l z a) (sym (same r i)) x));
      held = λ k l r a h i x. subst (λ (z : V). MaybeHolds (slice_get o.candidates k) z r a) (same l h)
          (subst (λ (z : V). MaybeHolds (slice_get o.candidates k) (f (to l)) z a) (same r i) (holds-back o.candidates k (to l) (to r) a x));
    }

    pub are_same : AreSame (machine_of d o) (machine_of e (through f o))
    are_same = record { to = to; from = f; there = moves-there; back = moves-back }
