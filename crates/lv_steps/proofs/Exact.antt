-- Steps that are exact, and steps one after another.
use Rattle.std.proofs.Common.{inl, inr}
use Rattle.lv_steps.specs.declared.ended.Ended.{Ended}
use Rattle.lv_steps.specs.Step.{Step, followed_by, keeping}
use Rattle.lv_steps.specs.Exact.{IsExact}

pub exact_then : {A B C : Type 0} (f : Step A B) (g : Step B C) (X : Ended → Type 0) (R : A → A → Type 0) (S : B → B → Type 0) (T : C → C → Type 0) →
    IsExact f X R S → IsExact g X S T → IsExact (followed_by f g) X R T
exact_then f g X R S T p q = record {
  one = λ x z y w like h k. q.one h.0 k.0 y w (p.one x z h.0 k.0 like h.1 k.1) h.2 k.2;
  apart = λ x z y e like h r. elim r [
    | inl u ↦ p.apart x z h.0 e like h.1 u
    | inr k ↦ q.apart h.0 k.0 y e (p.one x z h.0 k.0 like h.1 k.1) h.2 k.2
  ];
}

pub exact_keeping : {A B C : Type 0} (f : Step A B) (g : Step B C) (X : Ended → Type 0) (R : A → A → Type 0) (S : B → B → Type 0) (T : C → C → Type 0) →
    IsExact f X R S → IsExact g X S T → IsExact (keeping f g) X R (λ y w. S y.0 w.0 × T y.1 w.1)
exact_keeping f g X R S T p q = record {
  one = λ x z y w like h k. (p.one x z y.0 w.0 like h.0 k.0, q.one y.0 w.0 y.1 w.1 (p.one x z y.0 w.0 like h.0 k.0) h.1 k.1);
  apart = λ x z y e like h r. elim r [
    | inl u ↦ p.apart x z y.0 e like h.0 u
    | inr k ↦ q.apart y.0 k.0 y.1 e (p.one x z y.0 k.0 like h.0 k.1) h.1 k.2
  ];
}
