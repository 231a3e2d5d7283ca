-- Sets of bits of numbered signals: which bits a table of masks has.
use Rattle.std.specs.Prelude.{ℕ, Bool, false, ◌&&◌, ◌==◌, List, Option, Some, None, unwrap_or, bit_or}
use Rattle.std.specs.declared.cmp.Ordering.{Ordering}
use Rattle.std.specs.Ordering.{nat_cmp, ordering_then}
use Rattle.std.specs.Option.{option_cmp}
use Rattle.std.specs.BTreeMap.{is_at}
use Rattle.std.specs.Map.{lookup}
use Rattle.std.specs.Int.{bit_at}

-- a signal and one of its elements, or `None`: the signal where it is no array
abbrev pub Cell : Type 0
Cell = ℕ × Option ℕ

-- entries in the order of their cells
abbrev pub Masks : Type 0
Masks = List (Cell × ℕ)

abbrev pub order : Cell → Cell → Ordering
order x y = ordering_then (nat_cmp x.0 y.0) (option_cmp nat_cmp x.1 y.1)

abbrev pub entry_at : Masks → Cell → Option ℕ
entry_at m q = lookup (is_at (order q)) m

-- the mask that is kept for a cell alone, or under `None` for each element of an array
abbrev pub own_at : Masks → Cell → ℕ
own_at m q = unwrap_or (entry_at m q) 0

abbrev pub mask_at : Masks → Cell → ℕ
mask_at m q = bit_or (own_at m q) (own_at m (q.0, None))

abbrev pub is_set : ℕ → ℕ → Bool
is_set mask i = bit_at mask i == 1

-- whether the bit is in the set
abbrev pub has : Masks → Cell → ℕ → Bool
has m q i = is_set (mask_at m q) i

-- whether a cell is under a span's signal and element
abbrev pub is_element : ℕ → Option ℕ → Bool
is_element k None = false
is_element k (Some j) = j == k

abbrev pub is_under : ℕ → Option ℕ → Cell → Bool
is_under s None q = q.0 == s
is_under s (Some k) q = (q.0 == s) && is_element k q.1
