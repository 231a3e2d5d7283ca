-- Ranges of what a contract holds, by the table of keys.
use Rattle.std.specs.Prelude.{ℕ, Bool, true, false, ◌==◌, List, [], ◌∷◌, Option, Some, None, if◌then◌else◌}
use Rattle.std.specs.List.{list_all}
use Rattle.lv_contract.specs.declared.key.Key.{Key}
use Rattle.lv_contract.specs.declared.key.Kind.{Kind}
use Rattle.lv_contract.specs.declared.key.Kind.TheVariants as kind
use Rattle.lv_contract.specs.Keys.{kind_of}
use Rattle.lv_contract.specs.Values.{within, is_name}

abbrev pub fits_number : Kind → ℕ → Bool
fits_number (kind.Number least most) n = within least most n
fits_number _ n = false

abbrev pub in_range : Key → ℕ → Bool
in_range key n = fits_number (kind_of key) n

abbrev pub fits_count : Kind → ℕ → Bool
fits_count kind.Files n = within 1 64 n
fits_count (kind.Expressions least) n = within least 1024 n
fits_count kind.Pairs n = within 0 1024 n
fits_count kind.States n = within 0 1024 n
fits_count kind.Inputs n = within 0 1024 n
fits_count kind.Ports n = within 1 4 n
fits_count _ n = false

abbrev pub in_count : Key → ℕ → Bool
in_count key n = fits_count (kind_of key) n

abbrev pub is_name_or_none : Option (List ℕ) → Bool
is_name_or_none None = true
is_name_or_none (Some text) = is_name text

-- all numbers are the first one
abbrev pub are_same : List ℕ → Bool
are_same [] = true
are_same (n ∷ ns) = list_all (λ m. n == m) ns

-- in format 1 there is one port
abbrev pub is_port_count : ℕ → ℕ → Bool
is_port_count format n = if format == 1 then n == 1 else within 1 4 n
