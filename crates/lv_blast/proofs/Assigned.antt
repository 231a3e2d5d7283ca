-- The words that an assignment has.
use Rattle.std.proofs.Common.{◌≡◌, ℕ, ◌+◌, ◌*◌, ◌^◌, ◌<◌, ◌≤◌, Bool, List, [], ◌∷◌, ◌++◌, length, map, drop, sum, refl, sym, ◌∙◌, ap, subst, arith, zero, suc}
use Rattle.std.proofs.Math.ListN.{get_or-map}
use Rattle.std.proofs.Math.Nat.{pow-le-pow_right}
use Rattle.std.proofs.lemmas.List.{length-map}
use Rattle.std.proofs.lemmas.List.Sums.{sum_by-cons}
use Rattle.lv_bits.specs.Words.{Bits}
use Rattle.lv_netlist.specs.Net.{Net, IsNet, IsWidth}
use Rattle.lv_clauses.specs.Sets.{SetValue}
use Rattle.lv_bits.specs.Digits.{number}
use Rattle.lv_bits.proofs.Digits.{pow_cons}
use Rattle.lv_bits.specs.Digits.{words_from}
use Rattle.lv_blast.specs.Encoding.{count_bits, input_widths}
use Rattle.lv_blast.specs.Encoded.{HasBits}

pub more_fits : (x n w b : ℕ) → x < 2 ^ n → n < w → w ≤ 128 → b < 2 → x * 2 + b < 2 ^ 128
more_fits x n w b h lt le small =
    let p : 2 ^ suc n ≤ 2 ^ 128 = pow-le-pow_right {n = 2} (omega arith) (let q : suc n ≤ 128 = omega arith in q) in
    omega (arith, p, pow_cons n)

pub sum_widths : (ps : List (List ℕ × ℕ)) → sum (map (λ p. p.1) ps) ≡ count_bits ps
sum_widths [] = refl
sum_widths (p ∷ ps) = sum_by-cons (λ (x : ℕ). x) p.1 (map (λ p. p.1) ps) ∙ ap (λ (n : ℕ). p.1 + n) (sum_widths ps)

pub has_bits : (net : Net) (set : SetValue) (widths : List ℕ) → widths ≡ input_widths net → IsNet net → count_bits net.inputs ≤ set.vars → HasBits set widths
has_bits net set widths e h le = subst (λ (ws : List ℕ). HasBits set ws) (sym e) (record {
  each = λ i lt. subst IsWidth (sym (get_or-map (λ (p : List ℕ × ℕ). p.1) net.inputs i ([], 0))) (h.inputs i (omega (arith, length-map net.inputs (λ (p : List ℕ × ℕ). p.1))));
  room = omega (arith, sum_widths net.inputs);
})

-- so far: the words made, and those that are left
pub record Read (v : ℕ → Bool) (vars : ℕ) (widths : List ℕ) (out : List Bits) (from i : ℕ) : Type 0 where
  pub whole : out ++ words_from v from (drop i widths) ≡ words_from v 1 widths
  pub some : 1 ≤ from
  pub room : from + sum (drop i widths) ≤ vars + 1
