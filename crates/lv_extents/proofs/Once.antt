-- No name with selects names a bit twice, and the spans of one with constant indices stand in single cells.
use Rattle.std.proofs.Common.{◌≡◌, ℕ, zero, suc, ◌+◌, ◌<◌, ◌≤◌, Bool, true, false, ◌&&◌, ◌||◌, List, [], ◌∷◌, ◌++◌, map, flat_map, refl, sym, ◌∙◌, ap, subst, arith, Option, Some, None, inl, inr, pos}
use Rattle.std.specs.Prelude.{bytes_eq, decimal}
use Rattle.std.specs.List.{list_any, range_with_len}
use Rattle.std.proofs.lemmas.List.Folds.{list_any-append}
use Rattle.std.proofs.lemmas.List.Elements.{All-nil, All-cons, All-append}
use Rattle.std.proofs.lemmas.Slice.Eq.{bytes_eq-Decides}
use Rattle.lv_ast.specs.Names.{Name, at_index}
use Rattle.lv_source.specs.Names.{Bounds, Declared, width_of, low, high, size, is_signal_sort}
use Rattle.lv_source.specs.Values.{Chosen, nowhere}
use Rattle.lv_source.specs.Places.{Bit, same_bit, has_bit, some_bit, place_bits, place_by, bits_of, bits_below, whole, cells, cells_by, lowest}
use Rattle.lv_source.specs.Meaning.{Choice, bits_named, all_constant}
use Rattle.lv_source.specs.PartRules.{has_twice}
use Rattle.lv_source.proofs.Tests.{and-left, and-right, or-split, or-none_left, or-none_right, decide}
use Rattle.lv_source.proofs.Summaries.{some_bit_of}
use Rattle.lv_flat.specs.Cells.{all_cells, AreDistinct}
use Rattle.lv_flat.specs.declared.expr.FlatSelect.{FlatSelect}
use Rattle.lv_flat.specs.Signals.{Signals, signal_at}
use Rattle.lv_values.specs.Windows.{nones, somes, run}
use Rattle.lv_lower_exprs.specs.Named.{chosen_by}
use Rattle.lv_spans.specs.declared.span.Span.{Span}
use Rattle.lv_spans.specs.Sets.{Cell}
use Rattle.lv_spans.specs.Domain.{is_cell, name_by}
use Rattle.lv_extents.specs.Adds.{IsRun, spans_of, taken}
use Rattle.lv_extents.specs.Extents.{AreExact}
use Rattle.lv_extents.proofs.Apart.{one-name}
use Rattle.lv_extents.proofs.Runs.{in_run, run-has, from-has, below-has, never, lt-true}
use Rattle.lv_extents.proofs.Spans.{any-cell, in-range, append-nil}
use Rattle.lv_extents.proofs.Named.{named-whole, named-fixed, named-clock, element-in, cell-element}

-- ---- one list behind another

or-last : (a : Bool) → (false || (a || false)) ≡ a
or-last true = refl
or-last false = refl

shuffle : (a b c d e : Bool) → ((a || b) || (c || (d || e))) ≡ ((a || c) || (d || (b || e)))
shuffle true b c d e = refl
shuffle false true true d e = refl
shuffle false true false true e = refl
shuffle false true false false e = refl
shuffle false false c d e = refl

pub twice-append : (xs ys : List Bit) → has_twice (xs ++ ys) ≡ (has_twice xs || (has_twice ys || list_any (has_bit ys) xs))
twice-append [] ys = sym (or-last (has_twice ys))
twice-append (b ∷ bs) ys =
    ap (λ u. u || has_twice (bs ++ ys)) (list_any-append (same_bit b) bs ys) ∙
    (ap (λ u. (has_bit bs b || has_bit ys b) || u) (twice-append bs ys) ∙ shuffle (has_bit bs b) (has_bit ys b) (has_twice bs) (has_twice ys) (list_any (has_bit ys) bs))

none-both : (xs ys : List Bit) → ((b : Bit) → has_bit xs b ≡ true → has_bit ys b ≡ true → ⊥) → (u : Bool) → list_any (has_bit ys) xs ≡ u → u ≡ false
none-both xs ys h false e = refl
none-both xs ys h true e = let r = some_bit_of (has_bit ys) xs e in absurd (h r.0 r.1 r.2)

pub once-both : (xs ys : List Bit) → has_twice xs ≡ false → has_twice ys ≡ false → ((b : Bit) → has_bit xs b ≡ true → has_bit ys b ≡ true → ⊥) → has_twice (xs ++ ys) ≡ false
once-both xs ys p q h =
    twice-append xs ys ∙ (ap (λ u. u || (has_twice ys || list_any (has_bit ys) xs)) p ∙
    (ap (λ u. u || list_any (has_bit ys) xs) q ∙ none-both xs ys h (list_any (has_bit ys) xs) refl))

-- ---- places that follow one another

not-before : (lo n : ℕ) → in_run (lo + 1) n lo ≡ false
not-before lo n = rw (lt-true lo (lo + 1) (omega arith)) refl

of-nones : (name : Name) (a : ℕ) → has_twice (flat_map (some_bit name) (nones a)) ≡ false
of-nones name zero = refl
of-nones name (suc a) = of-nones name a

of-somes : (name : Name) (n lo a : ℕ) → has_twice (flat_map (some_bit name) (somes lo n ++ nones a)) ≡ false
of-somes name zero lo a = of-nones name a
of-somes name (suc n) lo a =
    let x : Bit = record { name = name; place = lo } in
    ap (λ u. u || has_twice (flat_map (some_bit name) (somes (lo + 1) n ++ nones a)))
    (run-has name 0 (lo + 1) n a x ∙ never (bytes_eq name name) (in_run (lo + 1) n lo) (not-before lo n)) ∙ of-somes name n (lo + 1) a

pub run-once : (name : Name) (b lo n a : ℕ) → has_twice (place_bits (record { name = name; bits = run b lo n a })) ≡ false
run-once name zero lo n a = of-somes name n lo a
run-once name (suc b) lo n a = run-once name b lo n a

pub place-once : (name : Name) (bits : List (Option ℕ)) (w lo n : ℕ) → IsRun bits w lo n → has_twice (place_bits (record { name = name; bits = bits })) ≡ false
place-once name bits w lo n r = ap (λ (ks : List (Option ℕ)). has_twice (place_bits (record { name = name; bits = ks }))) r.is ∙ run-once name r.before lo n r.after

of-range : (name : Name) (n lo : ℕ) → has_twice (map (λ k. record { name = name; place = k }) (range_with_len lo n)) ≡ false
of-range name zero lo = refl
of-range name (suc n) lo =
    let x : Bit = record { name = name; place = lo } in
    ap (λ u. u || has_twice (map (λ k. record { name = name; place = k }) (range_with_len (lo + 1) n)))
    (from-has name n (lo + 1) x ∙ never (bytes_eq name name) (in_run (lo + 1) n lo) (not-before lo n)) ∙ of-range name n (lo + 1)

-- ---- names that differ

AreApart : List Name → Type 0
AreApart [] = Unit {0}
AreApart (n ∷ ns) = (list_any (bytes_eq n) ns ≡ false) × AreApart ns

clash : (u : Bool) → u ≡ true → u ≡ false → ⊥
clash true h k = cc
clash false h k = cc

module _ (S : Signals) (distinct : AreDistinct (all_cells S)) where
  names-once : (w : ℕ) (ns : List Name) → AreApart ns → has_twice (flat_map (bits_below w) ns) ≡ false
  unfolding AreApart
  names-once w [] h = refl
  names-once w (n ∷ ns) h = once-both (bits_below w n) (flat_map (bits_below w) ns) (of-range n w 0) (names-once w ns h.1) (λ b p q.
      let e : b.name ≡ n = (bytes_eq-Decides b.name n).0 (and-left _ _ (sym (below-has n w b) ∙ p)) in
      clash (list_any (bytes_eq n) ns)
      (ap (λ m. list_any (bytes_eq m) ns) (sym e) ∙ and-left (list_any (bytes_eq b.name) ns) (in_run 0 w b.place) (sym (any-cell S distinct w b ns) ∙ q)) h.0)

  range-apart : (path : Name) (m lo : ℕ) → ((i j : ℕ) → lo ≤ i → i < lo + m → lo ≤ j → j < lo + m → at_index path (decimal i) ≡ at_index path (decimal j) → i ≡ j) →
      AreApart (map (λ i. at_index path (decimal i)) (range_with_len lo m))
  unfolding AreApart
  range-apart path zero lo h = tt
  range-apart path (suc m) lo h = (
    away (list_any (bytes_eq (at_index path (decimal lo))) (map (λ i. at_index path (decimal i)) (range_with_len (lo + 1) m))) refl,
    range-apart path m (lo + 1) (λ i j a b c d e. h i j (omega (arith, a)) (omega (arith, b)) (omega (arith, c)) (omega (arith, d)) e),
  )
    where
      away : (u : Bool) → list_any (bytes_eq (at_index path (decimal lo))) (map (λ i. at_index path (decimal i)) (range_with_len (lo + 1) m)) ≡ u → u ≡ false
      away false e = refl
      away true e =
          let r = in-range S distinct path (at_index path (decimal lo)) m (lo + 1) e in
          let same : lo ≡ r.0 = h lo r.0 (omega arith) (omega arith) (omega (arith, r.1)) (omega (arith, r.2)) r.3 in
          absurd (omega (arith, r.1, same))

  cells-apart : (k : ℕ) (o : Option Bounds) → is_signal_sort (signal_at S k).sort ≡ true → (signal_at S k).array ≡ o → AreApart (cells_by o (signal_at S k).path)
  unfolding AreApart
  cells-apart k None h e = (refl, tt)
  cells-apart k (Some b) h e = range-apart (signal_at S k).path (size b) (low b) (λ i j p q r s same.
      let c = one-name S distinct (k, Some i) (k, Some j) (cell-element S k i b h e p (omega (arith, p, q))) (cell-element S k j b h e r (omega (arith, r, s))) same in
      ap (λ (x : Cell). the x.1) c)
    where
      the : Option ℕ → ℕ
      the None = 0
      the (Some n) = n

  whole-once : (k : ℕ) → is_signal_sort (signal_at S k).sort ≡ true → has_twice (whole (signal_at S k)) ≡ false
  whole-once k h = names-once (width_of (signal_at S k)) (cells (signal_at S k)) (cells-apart k (signal_at S k).array h refl)

  pub named-whole-once : (k : ℕ) (cs : List Choice) → is_signal_sort (signal_at S k).sort ≡ true → all_constant cs ≡ false → has_twice (bits_named (signal_at S k) cs) ≡ false
  named-whole-once k cs h c = ap has_twice (named-whole S (signal_at S k) cs h c) ∙ whole-once k h

module _ (S : Signals) where
  pub named-clock-once : (k : ℕ) (cs : List Choice) → is_signal_sort (signal_at S k).sort ≡ false → has_twice (bits_named (signal_at S k) cs) ≡ false
  named-clock-once k cs h = ap has_twice (named-clock S (signal_at S k) cs h)

  pub named-run-once : (k lo n : ℕ) (ss : List FlatSelect) → is_signal_sort (signal_at S k).sort ≡ true → (signal_at S k).array ≡ None → all_constant (taken S ss) ≡ true →
      IsRun (bits_of (signal_at S k) (map (chosen_by S) ss) nowhere) (width_of (signal_at S k)) lo n → has_twice (bits_named (signal_at S k) (taken S ss)) ≡ false
  named-run-once k lo n ss h a c r =
      ap has_twice (named-fixed S (signal_at S k) ss None a h c) ∙
      place-once (signal_at S k).path (bits_of (signal_at S k) (map (chosen_by S) ss) nowhere) (width_of (signal_at S k)) lo n r

  pub element-once : (k i lo n : ℕ) (b : Bounds) (x : Chosen) (xs : List Chosen) → lowest x nowhere ≡ pos i → low b ≤ i → i ≤ high b →
      IsRun (bits_of (signal_at S k) xs nowhere) (width_of (signal_at S k)) lo n → has_twice (place_bits (place_by (Some b) (signal_at S k) (x ∷ xs) nowhere)) ≡ false
  element-once k i lo n b x xs z p q r =
      ap (λ y. has_twice (place_bits y)) (element-in S (signal_at S k) b x xs i z p q) ∙
      place-once (at_index (signal_at S k).path (decimal i)) (bits_of (signal_at S k) xs nowhere) (width_of (signal_at S k)) lo n r

  pub once-same : (bits more : List Bit) → bits ≡ more → has_twice more ≡ false → has_twice bits ≡ false
  once-same bits more e h = ap has_twice e ∙ h

  -- ---- single cells

  exact-spans : (k : ℕ) (el : Option ℕ) (lo n : ℕ) → is_cell S (k, el) ≡ true → AreExact S (spans_of k el lo n)
  exact-spans k el lo zero h = All-nil (λ (s : Span). is_cell S (s.signal, s.element) ≡ true)
  exact-spans k el lo (suc n) h = All-cons (λ (s : Span). is_cell S (s.signal, s.element) ≡ true) _ [] h (All-nil (λ (s : Span). is_cell S (s.signal, s.element) ≡ true))

  pub exact-more : (old new : List Span) (k : ℕ) (el : Option ℕ) (lo n : ℕ) → is_cell S (k, el) ≡ true → new ≡ old ++ spans_of k el lo n → AreExact S old → AreExact S new
  exact-more old new k el lo n h e p =
      subst (λ xs. AreExact S xs) (sym e) (All-append (λ (s : Span). is_cell S (s.signal, s.element) ≡ true) old (spans_of k el lo n) p (exact-spans k el lo n h))

  pub exact-from : (start new : List Span) → start ≡ [] → (AreExact S start → AreExact S new) → AreExact S new
  exact-from start new e f = f (subst (λ xs. AreExact S xs) (sym e) (All-nil (λ (s : Span). is_cell S (s.signal, s.element) ≡ true)))
