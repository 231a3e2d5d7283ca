-- Settled valuations, the next state, and runs.
use Rattle.std.specs.Prelude.{◌≡◌, ℕ, ◌<◌, ◌^◌, not, ◌&&◌, List, [], ◌∷◌, Option, Some, None, All, flat_map, filter, find, slice_get, bytes_eq, true, false}
use Rattle.std.specs.List.{list_any}
use Rattle.lv_ast.specs.Names.{Name}
use Rattle.lv_source.specs.Names.{Declared, Valuation}
use Rattle.lv_source.specs.Places.{Bit, has_bit, whole, cells, bits_below, bit_at}
use Rattle.lv_source.specs.Parts.{Design, Part, parts, signals_of, inputs_of, registers_of, after, drives, is_clocked, is_wired, driven_by, read_by, width_at}

-- bits that nothing drives and nothing reads
abbrev pub idle_bits : Design → List Bit
idle_bits d =
    let ps : List Part = parts d in
    filter (λ b. not (driven_by ps b) && not (read_by ps b)) (flat_map whole (filter (is_wired ps) (signals_of d)))

pub record IsSettled (d : Design) (v : Valuation) : Type 0 where
  -- each value fits its signal, and there are no other values
  pub fits : (name : Name) → v name < 2 ^ width_at d name
  -- each assignment, connection and combinational block leaves v as it is
  pub holds : All (λ p. (name : Name) → after p v name ≡ v name) (filter (λ p. not (is_clocked p)) (parts d))
  pub idle : All (λ b. bit_at v b ≡ 0) (idle_bits d)

-- the bit that the clocked block which writes it leaves, and else its own
abbrev pub left_bit : Valuation → Bit → Option Part → ℕ
left_bit v b None = bit_at v b
left_bit v b (Some p) = bit_at (after p v) b

abbrev pub next_bit : Design → Valuation → Bit → ℕ
next_bit d v b = left_bit v b (find (λ p. is_clocked p && has_bit (drives p) b) (parts d))

abbrev pub register_bits : Design → List Bit
register_bits d = flat_map (λ name. bits_below (width_at d name) name) (registers_of d)

-- each register of w has the bits that v leaves
abbrev pub Follows : Design → Valuation → Valuation → Type 0
Follows d v w = All (λ b. bit_at w b ≡ next_bit d v b) (register_bits d)

abbrev pub SameOn : List Name → Valuation → Valuation → Type 0
SameOn names l r = All (λ name. l name ≡ r name) names

abbrev pub SameInputs : Design → Valuation → Valuation → Type 0
SameInputs d l r = SameOn (inputs_of d) l r

abbrev pub NextFollows : Design → Valuation → List Valuation → Type 0
NextFollows d v [] = Unit {0}
NextFollows d v (w ∷ ws) = Follows d v w

abbrev pub IsRun : Design → List Valuation → Type 0
IsRun d [] = Unit {0}
IsRun d (v ∷ vs) = IsSettled d v × NextFollows d v vs × IsRun d vs

-- the first valuations have the same registers
abbrev pub StartAlike : Design → List Valuation → List Valuation → Type 0
StartAlike d (v ∷ vs) (w ∷ ws) = SameOn (registers_of d) v w
StartAlike d _ _ = Unit {0}

-- no two signals have a cell of one name, and each bit that a part without a clock drives is one of a signal
pub record HasApartSignals (d : Design) : Type 0 where
  pub apart : (i j : ℕ) (x y : Declared) (name : Name) → slice_get (signals_of d) i ≡ Some x → slice_get (signals_of d) j ≡ Some y →
      list_any (bytes_eq name) (cells x) ≡ true → list_any (bytes_eq name) (cells y) ≡ true → x ≡ y
  pub within : (k : ℕ) (p : Part) (b : Bit) → slice_get (parts d) k ≡ Some p → is_clocked p ≡ false → has_bit (drives p) b ≡ true → b.place < width_at d b.name
