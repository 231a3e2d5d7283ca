-- Which bits there are, and which lists of bits sets stand for.
use Rattle.std.specs.Prelude.{◌≡◌, ◌<◌, ◌^◌, ℕ, Bool, true, false, ◌&&◌, nat_lt, List, Option, Some, None, All, decimal}
use Rattle.std.specs.List.{list_any}
use Rattle.lv_ast.specs.Names.{Name, at_index}
use Rattle.lv_source.specs.Names.{Bounds, Declared, low, high, width_of, is_signal_sort}
use Rattle.lv_source.specs.Places.{Bit, has_bit, within}
use Rattle.lv_flat.specs.Signals.{Signals, signal_at}
use Rattle.lv_spans.specs.declared.span.Span.{Span}
use Rattle.lv_spans.specs.Sets.{Cell, Masks, entry_at, has, is_set, is_under}

-- the number is that of an element, or the signal is no array and has none
abbrev pub is_element_in : Option Bounds → Option ℕ → Bool
is_element_in None None = true
is_element_in None (Some k) = false
is_element_in (Some b) None = false
is_element_in (Some b) (Some k) = within (low b) (high b) k

-- whether there is a cell with this key
abbrev pub is_cell : Signals → Cell → Bool
is_cell S q = is_signal_sort (signal_at S q.0).sort && is_element_in (signal_at S q.0).array q.1

-- whether there is a bit at this place of it
abbrev pub is_bit : Signals → Cell → ℕ → Bool
is_bit S q i = is_cell S q && nat_lt i (width_of (signal_at S q.0))

abbrev pub name_by : Name → Option ℕ → Name
name_by path None = path
name_by path (Some k) = at_index path (decimal k)

abbrev pub bit_of : Signals → Cell → ℕ → Bit
bit_of S q i = record { name = name_by (signal_at S q.0).path q.1; place = i }

-- the bits of some spans
abbrev pub spans_have : List Span → Cell → ℕ → Bool
spans_have xs q i = list_any (λ s. is_under s.signal s.element q && is_set s.mask i) xs

-- a set has the bits of a list, and the list has none but bits that there are
pub record IsSetOf (S : Signals) (bits : List Bit) (set : Cell → ℕ → Bool) : Type 0 where
  pub same : (q : Cell) (i : ℕ) → is_bit S q i ≡ true → set q i ≡ has_bit bits (bit_of S q i)
  pub inside : (b : Bit) → has_bit bits b ≡ true → (q : Cell) × (i : ℕ) × (is_bit S q i ≡ true) × (bit_of S q i ≡ b)

-- a span of a signal that has a bit, and none that there isn't
pub record IsSpan (S : Signals) (s : Span) : Type 0 where
  pub signal : is_signal_sort (signal_at S s.signal).sort ≡ true
  pub element : (k : ℕ) → s.element ≡ Some k → is_cell S (s.signal, Some k) ≡ true
  pub wide : s.mask < 2 ^ width_of (signal_at S s.signal)
  pub some : 0 < s.mask

-- spans with the bits of a list
pub record AreSpansOf (S : Signals) (bits : List Bit) (xs : List Span) : Type 0 where
  pub set : IsSetOf S bits (spans_have xs)
  pub each : All (IsSpan S) xs

-- no table has bits but those that there are
abbrev pub IsWithin : Signals → Masks → Type 0
IsWithin S m = (q : Cell) (v : ℕ) → entry_at m q ≡ Some v → IsSpan S (record { signal = q.0; element = q.1; mask = v })

-- some bit that there is, of a span and in a set
abbrev pub Meets : Signals → Masks → Span → Type 0
Meets S m s = (q : Cell) × (i : ℕ) × (is_bit S q i ≡ true) × (is_under s.signal s.element q ≡ true) × (is_set s.mask i ≡ true) × (has m q i ≡ true)

-- some bit that there is, of a span and not in a set
abbrev pub Exceeds : Signals → Masks → Span → Type 0
Exceeds S m s = (q : Cell) × (i : ℕ) × (is_bit S q i ≡ true) × (is_under s.signal s.element q ≡ true) × (is_set s.mask i ≡ true) × (has m q i ≡ false)
