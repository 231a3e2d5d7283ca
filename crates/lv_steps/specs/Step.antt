-- A step of a run, and steps one after another.
use Rattle.std.specs.Prelude.{◌⊎◌}
use Rattle.lv_steps.specs.declared.ended.Ended.{Ended}

-- what it passes on, and why the run ends there
pub record Step (In Out : Type 0) : Type 1 where
  pub Passes : In → Out → Type 0
  pub Refuses : In → Ended → Type 0

-- the second step is reached only where the first one passes
abbrev pub followed_by : {A B C : Type 0} → Step A B → Step B C → Step A C
followed_by {A} {B} {C} f g = record {
  Passes = λ x z. (y : B) × f.Passes x y × g.Passes y z;
  Refuses = λ x e. f.Refuses x e ⊎ ((y : B) × f.Passes x y × g.Refuses y e);
}

-- the same, and what the first one passes on is kept
abbrev pub keeping : {A B C : Type 0} → Step A B → Step B C → Step A (B × C)
keeping {A} {B} {C} f g = record {
  Passes = λ x p. f.Passes x p.0 × g.Passes p.0 p.1;
  Refuses = λ x e. f.Refuses x e ⊎ ((y : B) × f.Passes x y × g.Refuses y e);
}
