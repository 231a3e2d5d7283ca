-- The bits that a name with selects may stand for, as spans.
use Rattle.std.proofs.Common.{◌≡◌, ℕ, zero, suc, ◌+◌, ◌-◌, ◌^◌, ◌<◌, ◌≤◌, Bool, true, false, not, ◌&&◌, ◌||◌, List, [], ◌∷◌, ◌++◌, map, flat_map, length, take, drop, refl, sym, ◌∙◌, ap, subst, arith, Option, Some, None, pos, negsuc}
use Rattle.std.specs.Prelude.{if◌then◌else◌, nat_le, nat_lt, decimal}
use Rattle.std.specs.List.{list_all}
use Rattle.std.proofs.Math.Seq.{take-length}
use Rattle.std.proofs.lemmas.Bool.Decides.{nat_tests}
use Rattle.lv_ast.specs.Names.{Name, at_index}
use Rattle.lv_source.specs.Names.{Bounds, Declared, low, high, width_of, is_signal_sort}
use Rattle.lv_source.specs.Values.{Chosen, nowhere}
use Rattle.lv_source.specs.Places.{Bit, has_bit, some_bit, Place, place_bits, place_by, place_of, nowhere_place, element, bits_of, all_bits, bit_selects, count_of, lowest, whole, within}
use Rattle.lv_source.specs.Meaning.{Choice, meant, bits_named, all_constant}
use Rattle.lv_source.specs.NodeRules.{is_width, is_array_fault, is_select_fault, is_good_step, is_bit_step, most_steps}
use Rattle.lv_source.proofs.Tests.{and-left, and-right}
use Rattle.lv_flat.specs.declared.expr.FlatSelect.{FlatSelect}
use Rattle.lv_flat.specs.declared.expr.FlatSelect.TheVariants as s
use Rattle.lv_flat.specs.Cells.{all_cells, AreDistinct}
use Rattle.lv_flat.specs.Signals.{Signals, signal_at}
use Rattle.lv_flat.specs.Judged.{judge_select, JudgedSelect, step_of, good_selects}
use Rattle.lv_flat.proofs.Widths.{width-least, width-most}
use Rattle.lv_values.specs.Windows.{somes}
use Rattle.lv_values.proofs.Windows.{somes-more}
use Rattle.lv_spans.specs.declared.span.Span.{Span}
use Rattle.lv_spans.specs.Domain.{is_cell, name_by, AreSpansOf}
use Rattle.lv_lower_exprs.specs.Named.{chosen_by, is_good_select, are_good_selects}
use Rattle.lv_lower_exprs.proofs.Naming.{chosen-map}
use Rattle.lv_extents.specs.Adds.{Adds, IsRun, IsFixed, AreFixed, spans_of, taken}
use Rattle.lv_extents.proofs.Runs.{run-has, in_run, no-run, never}
use Rattle.lv_extents.proofs.Spans.{none-of, one-span, whole-span, adds-none, adds-spans, append-nil}

pub whole-rest : {A : Type 0} (xs : List A) → take (length xs - 1) (drop 1 xs) ≡ drop 1 xs
whole-rest [] = refl
whole-rest (x ∷ xs) = let n : length (x ∷ xs) - 1 ≡ length xs = omega arith in ap (λ k. take k xs) n ∙ take-length xs

not-true : (a : Bool) → not a ≡ true → a ≡ false
not-true true h = cc
not-true false h = refl

nor-right : (a b : Bool) → (not a || not b) ≡ false → b ≡ true
nor-right true true h = refl
nor-right true false h = cc
nor-right false b h = cc

module _ (S : Signals) where
  fixed-count : (b : Bounds) (x : FlatSelect) → is_good_step b (step_of (judge_select S x).choice) ≡ true → is_width (count_of (chosen_by S x)) ≡ true
  unfolding judge_select
  fixed-count b (s.Bit' n a) h = refl
  fixed-count b (s.Part l r) h = and-right _ _ h
  fixed-count b (s.Up' n a w) h = h
  fixed-count b (s.Down' n a w) h = h

  bit-count : (x : FlatSelect) → is_bit_step (step_of (judge_select S x).choice) ≡ true → count_of (chosen_by S x) ≡ 1
  unfolding judge_select
  bit-count (s.Bit' n a) h = refl
  bit-count (s.Part l r) h = cc
  bit-count (s.Up' n a w) h = cc
  bit-count (s.Down' n a w) h = cc

  fixed : (x : FlatSelect) (xs : List FlatSelect) (b : Bounds) → list_all (λ (c : JudgedSelect). c.good) (map (judge_select S) (x ∷ xs)) ≡ true → all_constant (taken S (x ∷ xs)) ≡ true →
      is_good_step b (step_of (judge_select S x).choice) ≡ true → IsFixed S x
  fixed x xs b g k w =
      let c = fixed-count b x w in
      record { good = and-left _ _ g; constant = and-left _ _ k; some = width-least _ c; most = width-most _ c }

  goods : (d : Declared) (ss : List FlatSelect) → good_selects d (map (judge_select S) ss) ≡ true → list_all (λ (c : JudgedSelect). c.good) (map (judge_select S) ss) ≡ true
  goods d ss g = and-right _ _ (and-right _ _ g)

  steps : (d : Declared) (ss : List FlatSelect) (o : Option Bounds) → d.array ≡ o → good_selects d (map (judge_select S) ss) ≡ true →
      list_all (is_good_step d.bounds) (bit_selects o (map step_of (taken S ss))) ≡ true
  steps d ss o e g =
      ap (λ x. list_all (is_good_step d.bounds) (bit_selects x (map step_of (taken S ss)))) (sym e) ∙
      nor-right (nat_le (length (bit_selects d.array (map step_of (taken S ss)))) (most_steps d)) (list_all (is_good_step d.bounds) (bit_selects d.array (map step_of (taken S ss))))
      (not-true (is_select_fault d (map step_of (taken S ss))) (and-left _ _ (and-right _ _ g)))

  pub scalar-fixed : (d : Declared) (ss : List FlatSelect) → d.array ≡ None → good_selects d (map (judge_select S) ss) ≡ true → all_constant (taken S ss) ≡ true → AreFixed S ss
  scalar-fixed d [] e g k = tt
  scalar-fixed d (x ∷ xs) e g k = fixed x xs d.bounds (goods d (x ∷ xs) g) k (and-left _ _ (steps d (x ∷ xs) None e g))

  bit-first : (d : Declared) (b : Bounds) (x : FlatSelect) (xs : List FlatSelect) → d.array ≡ Some b → good_selects d (map (judge_select S) (x ∷ xs)) ≡ true → count_of (chosen_by S x) ≡ 1
  bit-first d b x xs e g = bit-count x (true-of (is_bit_step (step_of (judge_select S x).choice))
      (ap (λ o. is_array_fault o (map step_of (taken S (x ∷ xs)))) (sym e) ∙ not-true (is_array_fault d.array (map step_of (taken S (x ∷ xs)))) (and-left _ _ g)))
    where
      true-of : (u : Bool) → not u ≡ false → u ≡ true
      true-of true h = refl
      true-of false h = cc

  pub first-fixed : (d : Declared) (b : Bounds) (x : FlatSelect) (xs : List FlatSelect) → d.array ≡ Some b → good_selects d (map (judge_select S) (x ∷ xs)) ≡ true →
      all_constant (taken S (x ∷ xs)) ≡ true → IsFixed S x
  first-fixed d b x xs e g k =
      let c = bit-first d b x xs e g in
      record { good = and-left _ _ (goods d (x ∷ xs) g); constant = and-left _ _ k; some = omega (arith, c); most = omega (arith, c) }

  pub rest-fixed : (d : Declared) (b : Bounds) (x : FlatSelect) (xs : List FlatSelect) → d.array ≡ Some b → good_selects d (map (judge_select S) (x ∷ xs)) ≡ true →
      all_constant (taken S (x ∷ xs)) ≡ true → AreFixed S xs
  rest-fixed d b x [] e g k = tt
  rest-fixed d b x (y ∷ ys) e g k = fixed y ys d.bounds (and-right _ _ (goods d (x ∷ y ∷ ys) g)) (and-right _ _ k) (and-left _ _ (steps d (x ∷ y ∷ ys) (Some b) e g))

  -- ---- the bits that are named

  pub named-clock : (d : Declared) (cs : List Choice) → is_signal_sort d.sort ≡ false → bits_named d cs ≡ []
  named-clock d cs h = ap (λ (u : Bool). if u then (if all_constant cs then place_bits (place_of d (map meant cs) nowhere) else whole d) else []) h

  pub named-whole : (d : Declared) (cs : List Choice) → is_signal_sort d.sort ≡ true → all_constant cs ≡ false → bits_named d cs ≡ whole d
  named-whole d cs h k =
      ap (λ (u : Bool). if u then (if all_constant cs then place_bits (place_of d (map meant cs) nowhere) else whole d) else []) h ∙
      ap (λ (u : Bool). if u then place_bits (place_of d (map meant cs) nowhere) else whole d) k

  pub named-fixed : (d : Declared) (ss : List FlatSelect) (o : Option Bounds) → d.array ≡ o → is_signal_sort d.sort ≡ true → all_constant (taken S ss) ≡ true →
      bits_named d (taken S ss) ≡ place_bits (place_by o d (map (chosen_by S) ss) nowhere)
  named-fixed d ss o e h k =
      ap (λ (u : Bool). if u then (if all_constant (taken S ss) then place_bits (place_of d (map meant (taken S ss)) nowhere) else whole d) else []) h ∙
      (ap (λ (u : Bool). if u then place_bits (place_of d (map meant (taken S ss)) nowhere) else whole d) k ∙
      (ap (λ x. place_bits (place_by x d (map meant (taken S ss)) nowhere)) e ∙ ap (λ xs. place_bits (place_by o d xs nowhere)) (chosen-map S ss)))

  nowhere-none : (name : Name) (bits : List (Option ℕ)) → flat_map (some_bit name) (map {B = Option ℕ} (λ k. None) bits) ≡ []
  nowhere-none name [] = refl
  nowhere-none name (k ∷ ks) = nowhere-none name ks

  pub element-in : (d : Declared) (b : Bounds) (x : Chosen) (xs : List Chosen) (i : ℕ) → lowest x nowhere ≡ pos i → low b ≤ i → i ≤ high b →
      place_by (Some b) d (x ∷ xs) nowhere ≡ record { name = at_index d.path (decimal i); bits = bits_of d xs nowhere }
  element-in d b x xs i e p q =
      ap (λ z. element d b z xs nowhere) e ∙
      ap (λ (c : Bool). if c then (let p : Place = record { name = at_index d.path (decimal i); bits = bits_of d xs nowhere } in p) else nowhere_place (bits_of d xs nowhere))
      (inside-true (low b) (high b) i p q)
    where
      inside-true : (l h i : ℕ) → l ≤ i → i ≤ h → within l h i ≡ true
      inside-true l h i p q = let a : nat_lt i l ≡ false = grind (arith, nat_tests) in let c : nat_lt h i ≡ false = grind (arith, nat_tests) in rw a (rw c refl)

  outside : (d : Declared) (b : Bounds) (xs : List Chosen) (i : ℕ) (c : Bool) → within (low b) (high b) i ≡ c → (c ≡ true → ⊥) → place_bits (element d b (pos i) xs nowhere) ≡ []
  outside d b xs i true h n = absurd (n refl)
  outside d b xs i false h n =
      ap (λ (c : Bool). place_bits (if c then (let p : Place = record { name = at_index d.path (decimal i); bits = bits_of d xs nowhere } in p) else nowhere_place (bits_of d xs nowhere))) h ∙
      nowhere-none [] (bits_of d xs nowhere)

  pub element-out : (d : Declared) (b : Bounds) (x : Chosen) (xs : List Chosen) (i : ℕ) → lowest x nowhere ≡ pos i → (low b ≤ i → i ≤ high b → ⊥) →
      place_bits (place_by (Some b) d (x ∷ xs) nowhere) ≡ []
  element-out d b x xs i e n = ap (λ z. place_bits (element d b z xs nowhere)) e ∙
      outside d b xs i (within (low b) (high b) i) refl (λ t. n (least (low b) (high b) i t) (most (low b) (high b) i t))
    where
      least : (l h i : ℕ) → within l h i ≡ true → l ≤ i
      least l h i t = grind (arith, nat_tests)

      most : (l h i : ℕ) → within l h i ≡ true → i ≤ h
      most l h i t = grind (arith, nat_tests)

  pub element-below : (d : Declared) (b : Bounds) (x : Chosen) (xs : List Chosen) (i : ℕ) → lowest x nowhere ≡ negsuc i → place_bits (place_by (Some b) d (x ∷ xs) nowhere) ≡ []
  element-below d b x xs i e = ap (λ z. place_bits (element d b z xs nowhere)) e ∙ nowhere-none [] (bits_of d xs nowhere)

  -- ---- spans

  pub spans-run : AreDistinct (all_cells S) → (k : ℕ) (el : Option ℕ) (bits : List (Option ℕ)) (low n : ℕ) → is_cell S (k, el) ≡ true → IsRun bits (width_of (signal_at S k)) low n →
      AreSpansOf S (place_bits (record { name = name_by (signal_at S k).path el; bits = bits })) (spans_of k el low n)
  spans-run distinct k el bits low zero h r = none-of S (place_bits (record { name = name_by (signal_at S k).path el; bits = bits }))
      (λ x. ap (λ ks. has_bit (place_bits (record { name = name_by (signal_at S k).path el; bits = ks })) x) r.is ∙
      (run-has (name_by (signal_at S k).path el) r.before low 0 r.after x ∙ never _ (in_run low 0 x.place) (no-run low x.place)))
  spans-run distinct k el bits low (suc n) h r =
      subst (λ ks. AreSpansOf S (place_bits (record { name = name_by (signal_at S k).path el; bits = ks })) (spans_of k el low (suc n))) (sym r.is)
      (one-span S distinct k el r.before low (suc n) r.after h (omega arith) r.most)

  adds-run : AreDistinct (all_cells S) → (old new : List Span) (k : ℕ) (el : Option ℕ) (bits : List (Option ℕ)) (low n : ℕ) → is_cell S (k, el) ≡ true →
      IsRun bits (width_of (signal_at S k)) low n →
      new ≡ old ++ spans_of k el low n → Adds S old new (place_bits (record { name = name_by (signal_at S k).path el; bits = bits }))
  adds-run distinct old new k el bits low n h r e =
      subst (λ (x : List Span). Adds S old x (place_bits (record { name = name_by (signal_at S k).path el; bits = bits }))) (sym e)
      (adds-spans S old (spans_of k el low n) (place_bits (record { name = name_by (signal_at S k).path el; bits = bits })) (spans-run distinct k el bits low n h r))

  pub adds-same : (old new : List Span) (bits more : List Bit) → bits ≡ more → Adds S old new more → Adds S old new bits
  adds-same old new bits more e a = subst (λ (x : List Bit). Adds S old new x) (sym e) a

  pub cell-scalar : (k : ℕ) → is_signal_sort (signal_at S k).sort ≡ true → (signal_at S k).array ≡ None → is_cell S (k, None) ≡ true
  cell-scalar k h e = rw h (rw e refl)

  pub cell-element : (k i : ℕ) (b : Bounds) → is_signal_sort (signal_at S k).sort ≡ true → (signal_at S k).array ≡ Some b → low b ≤ i → i ≤ high b → is_cell S (k, Some i) ≡ true
  cell-element k i b h e p q =
      let a : nat_lt i (low b) ≡ false = grind (arith, nat_tests) in
      let c : nat_lt (high b) i ≡ false = grind (arith, nat_tests) in
      rw h (rw e (rw a (rw c refl)))

  some-spans : (k : ℕ) (el : Option ℕ) (low n : ℕ) → 0 < n → spans_of k el low n ≡ record { signal = k; element = el; mask = 2 ^ (low + n) - 2 ^ low } ∷ []
  some-spans k el low zero h = absurd (omega (arith, h))
  some-spans k el low (suc n) h = refl

  pub adds-whole : AreDistinct (all_cells S) → (old new : List Span) (k w : ℕ) (cs : List Choice) → is_signal_sort (signal_at S k).sort ≡ true → all_constant cs ≡ false →
      w ≡ width_of (signal_at S k) →
      new ≡ old ++ spans_of k None 0 w → Adds S old new (bits_named (signal_at S k) cs)
  adds-whole distinct old new k w cs h c e f =
      adds-same old new (bits_named (signal_at S k) cs) (whole (signal_at S k)) (named-whole (signal_at S k) cs h c)
      (subst (λ (x : List Span). Adds S old x (whole (signal_at S k))) (sym (f ∙ ap (λ n. old ++ spans_of k None 0 n) e))
      (adds-spans S old (spans_of k None 0 (width_of (signal_at S k))) (whole (signal_at S k))
      (subst (λ (x : List Span). AreSpansOf S (whole (signal_at S k)) x) (sym (some-spans k None 0 (width_of (signal_at S k)) (omega arith))) (whole-span S distinct k h))))

  pub adds-scalar : AreDistinct (all_cells S) → (old new : List Span) (k low n : ℕ) (ss : List FlatSelect) → is_signal_sort (signal_at S k).sort ≡ true → (signal_at S k).array ≡ None →
      all_constant (taken S ss) ≡ true →
      IsRun (bits_of (signal_at S k) (map (chosen_by S) ss) nowhere) (width_of (signal_at S k)) low n → new ≡ old ++ spans_of k None low n → Adds S old new (bits_named (signal_at S k)
      (taken S ss))
  adds-scalar distinct old new k low n ss h a c r e =
      adds-same old new (bits_named (signal_at S k) (taken S ss)) _ (named-fixed (signal_at S k) ss None a h c)
      (adds-run distinct old new k None (bits_of (signal_at S k) (map (chosen_by S) ss) nowhere) low n (cell-scalar k h a) r e)

  pub adds-element : AreDistinct (all_cells S) → (old new : List Span) (k i lo n : ℕ) (b : Bounds) (x : Chosen) (xs : List Chosen) → is_signal_sort (signal_at S k).sort ≡ true →
      (signal_at S k).array ≡ Some b →
      lowest x nowhere ≡ pos i → low b ≤ i → i ≤ high b → IsRun (bits_of (signal_at S k) xs nowhere) (width_of (signal_at S k)) lo n → new ≡ old ++ spans_of k (Some i) lo n →
      Adds S old new (place_bits (place_by (Some b) (signal_at S k) (x ∷ xs) nowhere))
  adds-element distinct old new k i lo n b x xs h a z p q r e =
      adds-same old new _ _ (ap place_bits (element-in (signal_at S k) b x xs i z p q))
      (adds-run distinct old new k (Some i) (bits_of (signal_at S k) xs nowhere) lo n (cell-element k i b h a p q) r e)

  pub adds-nothing : (old new : List Span) (bits : List Bit) → bits ≡ [] → new ≡ old → Adds S old new bits
  adds-nothing old new bits e f = adds-same old new bits [] e (subst (λ (x : List Span). Adds S old x []) (sym f) (adds-none S old))

  -- ---- all bits

  whole-somes : (n : ℕ) → all_bits n ≡ somes 0 n
  whole-somes zero = refl
  whole-somes (suc n) = ap (λ ks. ks ++ Some n ∷ []) (whole-somes n) ∙ (let e : n ≡ 0 + n = omega arith in ap (λ k. somes 0 n ++ Some k ∷ []) e ∙ sym (somes-more 0 n))

  pub run-whole : (d : Declared) (ss : List FlatSelect) (w : ℕ) → length ss < 1 → w ≡ width_of d → IsRun (bits_of d (map (chosen_by S) ss) nowhere) (width_of d) 0 w
  run-whole d [] w h e = record {
    before = 0;
    after = 0;
    is = whole-somes (width_of d) ∙ (ap (somes 0) (sym e) ∙ sym (append-nil (somes 0 w)));
    most = omega (arith, e);
  }
  run-whole d (x ∷ xs) w h e = absurd (omega (arith, h))

  pub bounds-same : (k : ℕ) (d : Declared) (o : Option Bounds) (b c : Bounds) → signal_at S k ≡ d → d.array ≡ o → o ≡ Some c → (signal_at S k).array ≡ Some b → c ≡ b
  bounds-same k d o b c e f g h = ap (λ (x : Option Bounds). the x) (sym g ∙ (sym f ∙ (ap (λ (x : Declared). x.array) (sym e) ∙ h)))
    where
      the : Option Bounds → Bounds
      the None = b
      the (Some x) = x

  goods-of : (ss : List FlatSelect) → list_all (λ (c : JudgedSelect). c.good) (map (judge_select S) ss) ≡ are_good_selects S ss
  goods-of [] = refl
  goods-of (x ∷ xs) = ap (λ u. is_good_select S x && u) (goods-of xs)

  pub selects-good : (d : Declared) (ss : List FlatSelect) → good_selects d (map (judge_select S) ss) ≡ true → are_good_selects S ss ≡ true
  selects-good d ss g = sym (goods-of ss) ∙ goods d ss g
