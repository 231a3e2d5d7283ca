-- Places by the numbers of their selects, and how many bits they have.
use Rattle.std.proofs.Common.{◌≡◌, ℕ, ◌≤◌, true, false, List, [], ◌∷◌, length, refl, sym, ◌∙◌, ap, Option, Some, None, ℤ, pos, negsuc}
use Rattle.std.specs.Prelude.{Bool, if◌then◌else◌, decimal}
use Rattle.std.proofs.lemmas.List.{length-map}
use Rattle.lv_ast.specs.Names.{at_index}
use Rattle.lv_source.specs.Names.{Bounds, Declared, Valuation, low, high, width_of, is_signal_sort}
use Rattle.lv_source.specs.Values.{Chosen}
use Rattle.lv_source.specs.Places.{Place, within, nowhere_place, bits_of, element, place_by, place_of, bit_selects, lowest}
use Rattle.lv_source.specs.Effect.{aimed}
use Rattle.lv_flat.specs.Signals.{Signals, signal_at}
use Rattle.lv_values.specs.Worlds.{World}
use Rattle.lv_lower_exprs.proofs.Wholes.{all_length}
use Rattle.lv_lower_exprs.proofs.Widths.{from_length}
use Rattle.lv_lower_blocks.specs.declared.aims.Spot.{Spot}
use Rattle.lv_lower_blocks.specs.declared.aims.Aim.{Aim}
use Rattle.lv_lower_blocks.specs.Aimed.{Span, span_of, first_span, bits_at, element_at, place_at, aim_place, spot_width, chosen_width, aim_width}

module _ (d : Declared) (v : Valuation) where
  bits-are : (xs : List Chosen) → bits_of d xs v ≡ bits_at d (first_span v xs)
  bits-are [] = refl
  bits-are (x ∷ xs) = refl

  element-is : (b : Bounds) (z : ℤ) (xs : List Chosen) → element d b z xs v ≡ element_at d b z (bits_at d (first_span v xs))
  element-is b (negsuc i) xs = ap nowhere_place (bits-are xs)
  element-is b (pos i) xs =
      ap (λ (bits : List (Option ℕ)). if within (low b) (high b) i then (let p : Place = record { name = at_index d.path (decimal i); bits = bits } in p) else nowhere_place bits) (bits-are xs)

  -- an array needs the select of an element
  abbrev pub SameElement : Option Bounds → Option Span → Option Span → Type 0
  SameElement None e f = Unit {0}
  SameElement (Some b) e f = e ≡ f

  pub place-is : (o : Option Bounds) (xs : List Chosen) (e bits : Option Span) → SameElement o e (first_span v xs) → bits ≡ first_span v (bit_selects o xs) → place_at o d e bits ≡ place_by o d xs v
  place-is None xs e bits h i = ap (λ (o : Option Span). let p : Place = record { name = d.path; bits = bits_at d o } in p) i ∙
      ap (λ (ks : List (Option ℕ)). let p : Place = record { name = d.path; bits = ks } in p) (sym (bits-are xs))
  place-is (Some b) [] e bits h i = ap (λ (o : Option Span). place_at (Some b) d o bits) h ∙ ap (λ (o : Option Span). nowhere_place (bits_at d o)) i
  place-is (Some b) (x ∷ xs) e bits h i =
      ap (λ (o : Option Span). place_at (Some b) d o bits) h ∙ (ap (λ (o : Option Span). element_at d b (lowest x v) (bits_at d o)) i ∙ sym (element-is b (lowest x v) xs))

-- ---- how many bits

abbrev pub span_width : ℕ → Option Span → ℕ
span_width W None = W
span_width W (Some s) = s.1

nowhere-count : (bits : List (Option ℕ)) → length (nowhere_place bits).bits ≡ length bits
nowhere-count bits = length-map bits (λ k. None)

pub bits-count : (d : Declared) (o : Option Span) → length (bits_at d o) ≡ span_width (width_of d) o
bits-count d None = all_length (width_of d)
bits-count d (Some s) = from_length d.bounds s.0 s.1

element-count : (d : Declared) (b : Bounds) (z : ℤ) (bits : List (Option ℕ)) → length (element_at d b z bits).bits ≡ length bits
element-count d b (negsuc i) bits = nowhere-count bits
element-count d b (pos i) bits =
    elim (within (low b) (high b) i) as (λ c. length (if c then (let p : Place = record { name = at_index d.path (decimal i); bits = bits } in p) else nowhere_place bits).bits ≡ length bits) [
      | true ↦ refl
      | false ↦ nowhere-count bits
    ]

place-count : (o : Option Bounds) (d : Declared) (e bits : Option Span) → length (place_at o d e bits).bits ≡ span_width (width_of d) bits
place-count None d e bits = bits-count d bits
place-count (Some b) d None bits = nowhere-count (bits_at d bits) ∙ bits-count d bits
place-count (Some b) d (Some s) bits = element-count d b s.0 (bits_at d bits) ∙ bits-count d bits

aimed-count : (c : Bool) (p : Place) → length (aimed c p).bits ≡ length p.bits
aimed-count true p = refl
aimed-count false p = nowhere-count p.bits

span-spot : (w : World) (W : ℕ) (o : Option Spot) → span_width W (span_of w o) ≡ spot_width W o
span-spot w W None = refl
span-spot w W (Some s) = refl

pub aim-count : (w : World) (S : Signals) (a : Aim) → length (aim_place w S a).bits ≡ aim_width S a
aim-count w S a =
    let d : Declared = signal_at S a.signal in
    aimed-count (is_signal_sort d.sort) (place_at d.array d (span_of w a.element) (span_of w a.bits)) ∙ (place-count d.array d (span_of w a.element) (span_of w a.bits) ∙
    span-spot w (width_of d) a.bits)

first-count : (v : Valuation) (W : ℕ) (xs : List Chosen) → span_width W (first_span v xs) ≡ chosen_width W xs
first-count v W [] = refl
first-count v W (x ∷ xs) = refl

-- of a name with selects
pub named-count : (d : Declared) (xs : List Chosen) (v : Valuation) → length (aimed (is_signal_sort d.sort) (place_of d xs v)).bits ≡ chosen_width (width_of d) (bit_selects d.array xs)
named-count d xs v =
    aimed-count (is_signal_sort d.sort) (place_of d xs v) ∙ (ap (λ (p : Place). length p.bits) (sym (place-is d v d.array xs (first_span v xs) (first_span v (bit_selects d.array xs))
    (itself d.array) refl)) ∙
    (place-count d.array d (first_span v xs) (first_span v (bit_selects d.array xs)) ∙ first-count v (width_of d) (bit_selects d.array xs)))
  where
    itself : (o : Option Bounds) → SameElement d v o (first_span v xs) (first_span v xs)
    itself None = tt
    itself (Some b) = refl

pub chosen-some : (W : ℕ) (xs : List Chosen) → 1 ≤ W → 1 ≤ chosen_width 1 xs → 1 ≤ chosen_width W xs
chosen-some W [] h i = h
chosen-some W (x ∷ xs) h i = i

pub chosen-most : (W : ℕ) (xs : List Chosen) → W ≤ 128 → chosen_width 1 xs ≤ 128 → chosen_width W xs ≤ 128
chosen-most W [] h i = h
chosen-most W (x ∷ xs) h i = i
