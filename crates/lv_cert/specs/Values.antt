-- What a certificate says, and the sets that it speaks of.
use Rattle.std.specs.Prelude.{ℕ, List}
use Rattle.lv_clauses.specs.Sets.{SetValue}
use Rattle.lv_clauses.specs.Derivations.{Step}
use Rattle.lv_cert.specs.declared.cert.Cert.{Cert}

pub record Values : Type 0 where
  pub kept : List ℕ
  pub left : List ℕ
  pub right : List ℕ
  pub input : List ℕ
  pub base : List Step
  pub step : List Step
  pub imply : List Step

-- the sets that the three derivations are of
pub record Sets : Type 0 where
  pub base : SetValue
  pub step : SetValue
  pub imply : SetValue

abbrev pub values_of : Cert → Values
values_of c = record {
  kept = c.kept.items;
  left = c.left.items;
  right = c.right.items;
  input = c.input.items;
  base = c.base;
  step = c.step;
  imply = c.imply;
}

abbrev pub sets_of : SetValue → SetValue → SetValue → Sets
sets_of base step imply = record { base = base; step = step; imply = imply }
