-- What a sink was given.
use Rattle.std.specs.Prelude.{◌≡◌, ◌<◌, ℕ, List, ◌++◌, length, Option, option_map}

-- where the sink tells, it was given these bytes more
abbrev pub Gains : Option (List ℕ) → Option (List ℕ) → List ℕ → Type 0
Gains before after bytes = after ≡ option_map (λ given. given ++ bytes) before

-- where the sink tells, it was given the first of these bytes more, and some are left
pub record GainsPart (before after : Option (List ℕ)) (bytes : List ℕ) : Type 0 where
  pub part : List ℕ
  pub rest : List ℕ
  pub whole : bytes ≡ part ++ rest
  pub some_left : 0 < length rest
  pub gains : Gains before after part
