-- The words of some values fit the inputs, and each list of words that fits them is that of some values.
use Rattle.std.proofs.Common.{◌≡◌, ℕ, zero, suc, ◌+◌, ◌<◌, ◌^◌, Bool, List, [], ◌∷◌, length, map, slice_index, get_or, refl, sym, ◌∙◌, arith}
use Rattle.std.proofs.Math.ListN.{get_or-map}
use Rattle.std.proofs.lemmas.List.{length-map, ext_get_or}
use Rattle.lv_bits.specs.Words.{Bits}
use Rattle.lv_bits.specs.Digits.{words_from, widths_of}
use Rattle.lv_bits.proofs.Digits.{HoldWords, bits_lt, length_words, all_digits, at_place, values_have_words}
use Rattle.lv_netlist.specs.Net.{Net, input_width}
use Rattle.lv_netlist.specs.Run.{bits_at, no_bits}
use Rattle.lv_netlist.specs.Fits.{FitsInputs, AreWords}
use Rattle.lv_blast.specs.Encoding.{input_widths, input_words}

width_words : (v : ℕ → Bool) (k : ℕ) (ws : List ℕ) (i : ℕ) → (bits_at (words_from v k ws) i).width ≡ slice_index ws i
width_words v k [] i = refl
width_words v k (w ∷ ws) zero = refl
width_words v k (w ∷ ws) (suc i) = width_words v (k + w) ws i

pub words_are : (v : ℕ → Bool) (k : ℕ) (ws : List ℕ) → AreWords (words_from v k ws)
words_are v k [] i lt = absurd (omega arith)
words_are v k (w ∷ ws) zero lt = bits_lt v k w
words_are v k (w ∷ ws) (suc i) lt = words_are v (k + w) ws i (omega arith)

pub words_fit : (net : Net) (v : ℕ → Bool) → FitsInputs net (input_words net v)
words_fit net v = record {
  count = length_words v 1 (input_widths net) ∙ length-map net.inputs (λ (p : List ℕ × ℕ). p.1);
  widths = λ i lt. width_words v 1 (input_widths net) i ∙ get_or-map (λ (p : List ℕ × ℕ). p.1) net.inputs i ([], 0);
}

pub hold_from : (xs : List Bits) → AreWords xs → HoldWords xs
hold_from [] h = tt
hold_from (x ∷ xs) h = (h zero (omega arith), hold_from xs (λ i lt. h (suc i) (omega arith)))

pub widths_are : (net : Net) (xs : List Bits) → FitsInputs net xs → widths_of xs ≡ input_widths net
widths_are net xs h =
    ext_get_or 0 (widths_of xs) (input_widths net)
    (length-map xs (λ (x : Bits). x.width) ∙ (h.count ∙ sym (length-map net.inputs (λ (p : List ℕ × ℕ). p.1))))
    (λ i lt.
    let same : length (widths_of xs) ≡ length xs = length-map xs (λ (x : Bits). x.width) in
    let l : get_or (widths_of xs) i 0 ≡ (bits_at xs i).width = get_or-map (λ (x : Bits). x.width) xs i no_bits in
    let r : get_or (input_widths net) i 0 ≡ input_width net i = get_or-map (λ (p : List ℕ × ℕ). p.1) net.inputs i ([], 0) in
    l ∙ (h.widths i (omega (arith, same, h.count)) ∙ sym r))

pub values_there : (net : Net) (xs : List Bits) → FitsInputs net xs → AreWords xs → (v : ℕ → Bool) × (input_words net v ≡ xs)
values_there net xs fits are = (at_place (all_digits xs), values_have_words (input_widths net) xs (widths_are net xs fits) (hold_from xs are))
