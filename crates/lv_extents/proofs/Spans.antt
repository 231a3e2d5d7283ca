-- Spans that have the bits of a list.
use Rattle.std.proofs.Common.{◌≡◌, ℕ, zero, suc, ◌+◌, ◌-◌, ◌^◌, ◌<◌, ◌≤◌, ◌⊎◌, Bool, true, false, ◌&&◌, ◌||◌, List, [], ◌∷◌, ◌++◌, map, flat_map, refl, sym, ◌∙◌, ap, subst, arith, Option, Some, None, inl, inr}
use Rattle.std.specs.Prelude.{bytes_eq, decimal}
use Rattle.std.specs.List.{list_any, range_with_len}
use Rattle.std.proofs.lemmas.Bool.{cases_lt}
use Rattle.std.proofs.lemmas.Bool.Decides.{nat_tests}
use Rattle.std.proofs.lemmas.List.{append_assoc}
use Rattle.std.proofs.lemmas.List.Folds.{list_any-append}
use Rattle.std.proofs.lemmas.List.Elements.{All-nil, All-cons, All-append}
use Rattle.std.proofs.lemmas.Nat.{pow_below, pow_pos}
use Rattle.std.proofs.lemmas.Slice.Eq.{bytes_eq-Decides}
use Rattle.lv_ast.specs.Names.{Name, at_index}
use Rattle.lv_source.specs.Names.{Bounds, Declared, width_of, low, high, size, is_signal_sort}
use Rattle.lv_source.specs.Places.{Bit, same_bit, has_bit, place_bits, bits_below, whole, cells, cells_by, within}
use Rattle.lv_source.proofs.Tests.{and-left, and-right}
use Rattle.lv_flat.specs.Cells.{all_cells, AreDistinct}
use Rattle.lv_flat.specs.Signals.{Signals, signal_at}
use Rattle.lv_values.specs.Windows.{run}
use Rattle.lv_spans.specs.declared.span.Span.{Span}
use Rattle.lv_spans.specs.Sets.{Cell, is_set, is_under, is_element}
use Rattle.lv_spans.specs.Domain.{is_element_in, is_cell, name_by, bit_of, spans_have, IsSpan, AreSpansOf}
use Rattle.lv_extents.specs.Adds.{Adds}
use Rattle.lv_extents.proofs.Apart.{same-name, is-under}
use Rattle.lv_extents.proofs.Runs.{in_run, run-has, below-has, mask-has, run-most, lt-true, lt-false, of-eq, eq-true}

-- ---- lists of spans

or-cases : (a b : Bool) → (a || b) ≡ true → {P : Type 0} → (a ≡ true → P) → (b ≡ true → P) → P
or-cases true b h f g = f refl
or-cases false b h f g = g h

pub none-of : (S : Signals) (bits : List Bit) → ((b : Bit) → has_bit bits b ≡ false) → AreSpansOf S bits []
none-of S bits h = record {
  set = record { same = λ q i t. sym (h (bit_of S q i)); inside = λ b t. absurd (true-false (sym t ∙ h b)) };
  each = All-nil (IsSpan S);
}
  where
    true-false : true ≡ false → ⊥
    true-false e = cc

pub both : (S : Signals) (bs cs : List Bit) (xs ys : List Span) → AreSpansOf S bs xs → AreSpansOf S cs ys → AreSpansOf S (bs ++ cs) (xs ++ ys)
both S bs cs xs ys p q = record {
  set = record {
    same = λ c i t.
        list_any-append (λ (s : Span). is_under s.signal s.element c && is_set s.mask i) xs ys ∙
        (ap (λ u. u || spans_have ys c i) (p.set.same c i t) ∙ (ap (λ u. has_bit bs (bit_of S c i) || u) (q.set.same c i t) ∙
        sym (list_any-append (same_bit (bit_of S c i)) bs cs)));
    inside = λ b t. or-cases (has_bit bs b) (has_bit cs b) (sym (list_any-append (same_bit b) bs cs) ∙ t) (p.set.inside b) (q.set.inside b);
  };
  each = All-append (IsSpan S) xs ys p.each q.each;
}

-- lists with the same bits
pub as-other : (S : Signals) (bs cs : List Bit) (xs : List Span) → ((b : Bit) → has_bit bs b ≡ has_bit cs b) → AreSpansOf S bs xs → AreSpansOf S cs xs
as-other S bs cs xs h p = record {
  set = record { same = λ q i t. p.set.same q i t ∙ h (bit_of S q i); inside = λ b t. p.set.inside b (h b ∙ t) };
  each = p.each;
}

or-swap : (a b : Bool) → (a || b) ≡ (b || a)
or-swap true true = refl
or-swap true false = refl
or-swap false true = refl
or-swap false false = refl

pub append-nil : {A : Type 0} (xs : List A) → xs ++ [] ≡ xs
append-nil [] = refl
append-nil (x ∷ xs) = ap (λ ys. x ∷ ys) (append-nil xs)

module _ (S : Signals) where
  pub adds-none : (x : List Span) → Adds S x x []
  adds-none x = record { adds = λ bits p. subst (λ bs. AreSpansOf S bs x) (sym (append-nil bits)) p }

  pub adds-then : {x y z : List Span} {m n : List Bit} → Adds S x y m → Adds S y z n → Adds S x z (m ++ n)
  adds-then {z = z} {m = m} {n = n} p q = record {
    adds = λ bits h. subst (λ bs. AreSpansOf S bs z) (append_assoc bits m n) (q.adds (bits ++ m) (p.adds bits h));
  }

  pub adds-spans : (x ys : List Span) (m : List Bit) → AreSpansOf S m ys → Adds S x (x ++ ys) m
  adds-spans x ys m p = record { adds = λ bits h. both S bits m x ys h p }

  pub adds-swap : {x y : List Span} (m n : List Bit) → Adds S x y (m ++ n) → Adds S x y (n ++ m)
  adds-swap {y = y} m n p = record {
    adds = λ bits h. as-other S (bits ++ (m ++ n)) (bits ++ (n ++ m)) y
        (λ b. list_any-append (same_bit b) bits (m ++ n) ∙
        (ap (λ u. has_bit bits b || u) (list_any-append (same_bit b) m n ∙ (or-swap (has_bit m b) (has_bit n b) ∙ sym (list_any-append (same_bit b) n m))) ∙
        sym (list_any-append (same_bit b) bits (n ++ m)))) (p.adds bits h);
  }

  pub adds-from : (start y : List Span) (m : List Bit) → start ≡ [] → Adds S start y m → AreSpansOf S m y
  adds-from start y m e p = (subst (λ (x : List Span). Adds S x y m) e p).adds [] (none-of S [] (λ b. refl))

  pub adds-all : (y : List Span) (m : List Bit) → Adds S [] y m → AreSpansOf S m y
  adds-all y m p = p.adds [] (none-of S [] (λ b. refl))

-- ---- one cell

from-iff : (a b : Bool) → (a ≡ true → b ≡ true) → (b ≡ true → a ≡ true) → a ≡ b
from-iff true b f g = sym (f refl)
from-iff false true f g = g refl
from-iff false false f g = refl

no-more : (u : Bool) → (u || false) ≡ u
no-more true = refl
no-more false = refl

array-none : (o : Option Bounds) (el : Option ℕ) → is_element_in o None ≡ true → is_element_in o el ≡ true → el ≡ None
array-none None None h t = refl
array-none None (Some k) h t = cc
array-none (Some b) el h t = cc

under-some : (e : ℕ) (el : Option ℕ) → is_element e el ≡ true → el ≡ Some e
under-some e None h = cc
under-some e (Some j) h = ap Some (of-eq j e h)

pair : (q : Cell) (k : ℕ) (el : Option ℕ) → q.0 ≡ k → q.1 ≡ el → q ≡ (k, el)
pair q k el e f = ap (λ j. (j, q.1)) e ∙ ap (λ x. (k, x)) f

under-cell : (S : Signals) (q : Cell) (k : ℕ) (el : Option ℕ) → is_cell S q ≡ true → is_cell S (k, el) ≡ true → is_under k el q ≡ true → q ≡ (k, el)
under-cell S q k None hq hk u =
    let e : q.0 ≡ k = of-eq q.0 k u in
    pair q k None e (array-none (signal_at S q.0).array q.1 (ap (λ j. is_element_in (signal_at S j).array None) e ∙ and-right _ _ hk) (and-right _ _ hq))
under-cell S q k (Some j) hq hk u = pair q k (Some j) (of-eq q.0 k (and-left _ _ u)) (under-some j q.1 (and-right _ _ u))

self-under : (k : ℕ) (el : Option ℕ) → is_under k el (k, el) ≡ true
self-under k None = eq-true k k refl
self-under k (Some j) = rw (eq-true k k refl) (eq-true j j refl)

two-true : (a b : Bool) → a ≡ true → b ≡ true → (a && b) ≡ true
two-true true b h k = k
two-true false b h k = h

bit-same : (b : Bit) (n : Name) → bytes_eq b.name n ≡ true → record { name = n; place = b.place } ≡ b
bit-same b n h = ap (λ m. record { name = m; place = b.place }) (sym ((bytes_eq-Decides b.name n).0 h))

below-or-same : (a b : ℕ) → a ≤ b → (a < b) ⊎ (a ≡ b)
below-or-same a b le = elim (cases_lt a b) [ inl lt ↦ inl lt | inr ge ↦ inr (omega (arith, le, ge)) ]

pub pow-up : (a b : ℕ) → a ≤ b → 2 ^ a ≤ 2 ^ b
pow-up a b le = elim (below-or-same a b le) [ inl lt ↦ let p = pow_below a b lt in omega (arith, p) | inr e ↦ let f = ap (λ x. 2 ^ x) e in omega (arith, f) ]

smaller : (lo hi w : ℕ) → lo < hi → hi ≤ w → 2 ^ hi - 2 ^ lo < 2 ^ w
smaller lo hi w h k = let p = pow_pos lo in let q = pow-up hi w k in let r = pow_pos hi in omega (arith, p, q, r)

module _ (S : Signals) (distinct : AreDistinct (all_cells S)) where
  under-name : (q : Cell) (k : ℕ) (el : Option ℕ) → is_cell S q ≡ true → is_cell S (k, el) ≡ true →
      is_under k el q ≡ bytes_eq (name_by (signal_at S q.0).path q.1) (name_by (signal_at S k).path el)
  under-name q k el hq hk = from-iff _ _ (λ u. is-under S distinct q k el hq hk (under-cell S q k el hq hk u))
      (λ t. subst (λ (x : Cell). is_under k el x ≡ true) (sym (same-name S distinct q (k, el) hq hk t)) (self-under k el))

  pub one-span : (k : ℕ) (el : Option ℕ) (b lo n a : ℕ) → is_cell S (k, el) ≡ true → 0 < n → lo + n ≤ width_of (signal_at S k) →
      AreSpansOf S (place_bits (record { name = name_by (signal_at S k).path el; bits = run b lo n a })) (record { signal = k; element = el; mask = 2 ^ (lo + n) - 2 ^ lo } ∷ [])
  one-span k el b lo n a h pos fit = record {
    set = record {
      same = λ q i t.
          no-more (is_under k el q && is_set (2 ^ (lo + n) - 2 ^ lo) i) ∙
          (ap (λ u. u && is_set (2 ^ (lo + n) - 2 ^ lo) i) (under-name q k el (and-left _ _ t) h) ∙
          (ap (λ u. bytes_eq (name_by (signal_at S q.0).path q.1) (name_by (signal_at S k).path el) && u) (mask-has lo n i) ∙
          sym (run-has (name_by (signal_at S k).path el) b lo n a (bit_of S q i))));
      inside = λ x t.
          let e = sym (run-has (name_by (signal_at S k).path el) b lo n a x) ∙ t in
          let lt = run-most lo n x.place (and-right _ _ e) in
          ((k, el), x.place, two-true _ _ h (lt-true x.place (width_of (signal_at S k)) (omega (arith, lt, fit))), bit-same x (name_by (signal_at S k).path el) (and-left _ _ e));
    };
    each = All-cons (IsSpan S) _ [] (record {
      signal = and-left _ _ h;
      element = λ j e. subst (λ (x : Option ℕ). is_cell S (k, x) ≡ true) e h;
      wide = smaller lo (lo + n) (width_of (signal_at S k)) (omega arith) fit;
      some = let p = pow_below lo (lo + n) (omega arith) in omega (arith, p);
    }) (All-nil (IsSpan S));
  }

  -- ---- a whole signal

  pub any-cell : (w : ℕ) (x : Bit) (ns : List Name) → has_bit (flat_map (bits_below w) ns) x ≡ (list_any (bytes_eq x.name) ns && in_run 0 w x.place)
  any-cell w x [] = refl
  any-cell w x (n ∷ ns) =
      list_any-append (same_bit x) (bits_below w n) (flat_map (bits_below w) ns) ∙
      (ap (λ u. u || has_bit (flat_map (bits_below w) ns) x) (below-has n w x) ∙
      (ap (λ u. (bytes_eq x.name n && in_run 0 w x.place) || u) (any-cell w x ns) ∙ spread (bytes_eq x.name n) (list_any (bytes_eq x.name) ns) (in_run 0 w x.place)))
    where
      spread : (a b c : Bool) → ((a && c) || (b && c)) ≡ ((a || b) && c)
      spread true b true = refl
      spread true true false = refl
      spread true false false = refl
      spread false b c = refl

  pub record Found (o : Option Bounds) (path n : Name) : Type 0 where
    element : Option ℕ
    fits : is_element_in o element ≡ true
    same : n ≡ name_by path element

  pub in-range : (path n : Name) (m lo : ℕ) → list_any (bytes_eq n) (map (λ i. at_index path (decimal i)) (range_with_len lo m)) ≡ true →
      (i : ℕ) × (lo ≤ i) × (i < lo + m) × (n ≡ at_index path (decimal i))
  in-range path n zero lo h = cc
  in-range path n (suc m) lo h = or-cases (bytes_eq n (at_index path (decimal lo))) _ h
      (λ t. (lo, omega arith, omega arith, (bytes_eq-Decides n (at_index path (decimal lo))).0 t))
      (λ t. let r = in-range path n m (lo + 1) t in (r.0, omega (arith, r.1), omega (arith, r.2), r.3))

  to-range : (path : Name) (m lo i : ℕ) → lo ≤ i → i < lo + m → list_any (bytes_eq (at_index path (decimal i))) (map (λ j. at_index path (decimal j)) (range_with_len lo m)) ≡ true
  to-range path zero lo i h k = absurd (omega arith)
  to-range path (suc m) lo i h k = elim (parts lo i h) [
    | inl e ↦ or-true (bytes_eq (at_index path (decimal i)) (at_index path (decimal lo))) _ ((bytes_eq-Decides _ _).1 (ap (λ j. at_index path (decimal j)) (sym e)))
    | inr lt ↦ or-last (bytes_eq (at_index path (decimal i)) (at_index path (decimal lo))) _ (to-range path m (lo + 1) i (omega arith) (omega arith))
  ]
    where
      parts : (lo i : ℕ) → lo ≤ i → (lo ≡ i) ⊎ (lo < i)
      parts lo i h = elim (cases_lt lo i) [ inl lt ↦ inr lt | inr ge ↦ inl (omega (arith, h, ge)) ]

      or-true : (a b : Bool) → a ≡ true → (a || b) ≡ true
      or-true true b h = refl
      or-true false b h = cc

      or-last : (a b : Bool) → b ≡ true → (a || b) ≡ true
      or-last true b h = refl
      or-last false b h = h

  within-true : (l h i : ℕ) → l ≤ i → i ≤ h → within l h i ≡ true
  within-true l h i p q = rw (lt-false i l p) (rw (lt-false h i q) refl)

  within-least : (l h i : ℕ) → within l h i ≡ true → l ≤ i
  within-least l h i e = grind (arith, nat_tests)

  within-most : (l h i : ℕ) → within l h i ≡ true → i ≤ h
  within-most l h i e = grind (arith, nat_tests)

  found : (o : Option Bounds) (path n : Name) → list_any (bytes_eq n) (cells_by o path) ≡ true → Found o path n
  found None path n h = or-cases (bytes_eq n path) false h (λ t. record { element = None; fits = refl; same = (bytes_eq-Decides n path).0 t }) (λ t. cc)
  found (Some b) path n h =
      let r = in-range path n (size b) (low b) h in
      record { element = Some r.0; fits = within-true (low b) (high b) r.0 r.1 (omega (arith, r.2, r.1)); same = r.3 }

  finds : (o : Option Bounds) (path : Name) (el : Option ℕ) → is_element_in o el ≡ true → list_any (bytes_eq (name_by path el)) (cells_by o path) ≡ true
  finds None path None h = no-more (bytes_eq path path) ∙ (bytes_eq-Decides path path).1 refl
  finds None path (Some k) h = cc
  finds (Some b) path None h = cc
  finds (Some b) path (Some k) h =
      let p = within-least (low b) (high b) k h in
      let q = within-most (low b) (high b) k h in
      to-range path (size b) (low b) k p (omega arith)

  whole-has : (d : Declared) (x : Bit) → has_bit (whole d) x ≡ (list_any (bytes_eq x.name) (cells d) && in_run 0 (width_of d) x.place)
  whole-has d x = any-cell (width_of d) x (cells d)

  pub whole-span : (k : ℕ) → is_signal_sort (signal_at S k).sort ≡ true → AreSpansOf S (whole (signal_at S k)) (record {
    signal = k;
    element = None;
    mask =
        2 ^ (0 + width_of (signal_at S k)) - 2 ^ 0;
  } ∷ [])
  whole-span k h =
      let d : Declared = signal_at S k in
      let w : ℕ = width_of d in
      record {
        set = record {
          same = λ q i t.
              no-more (is_under k None q && is_set (2 ^ (0 + w) - 2 ^ 0) i) ∙
              (ap (λ u. is_under k None q && u) (mask-has 0 w i) ∙
              (ap (λ u. u && in_run 0 w i) (from-iff (is_under k None q) (list_any (bytes_eq (name_by (signal_at S q.0).path q.1)) (cells d))
              (λ u. let e : q.0 ≡ k = of-eq q.0 k u in
              subst (λ (j : ℕ). list_any (bytes_eq (name_by (signal_at S q.0).path q.1)) (cells (signal_at S j)) ≡ true) e
              (finds (signal_at S q.0).array (signal_at S q.0).path q.1 (and-right _ _ (and-left _ _ t))))
              (λ u. let f = found d.array d.path (name_by (signal_at S q.0).path q.1) u in
              let c : is_cell S (k, f.element) ≡ true = two-true _ _ h f.fits in
              eq-true q.0 k (ap (λ (x : Cell). x.0) (same-name S distinct q (k, f.element) (and-left _ _ t) c ((bytes_eq-Decides _ _).1 f.same))))) ∙
              sym (whole-has d (bit_of S q i))));
          inside = λ x t.
              let e = sym (whole-has d x) ∙ t in
              let f = found d.array d.path x.name (and-left _ _ e) in
              let lt = run-most 0 w x.place (and-right _ _ e) in
              ((k, f.element), x.place, two-true _ _ (two-true _ _ h f.fits) (lt-true x.place w (omega (arith, lt))), ap (λ m. record { name = m; place = x.place }) (sym f.same));
        };
        each = All-cons (IsSpan S) _ [] (record {
          signal = h;
          element = λ j e. cc;
          wide = smaller 0 (0 + w) w (omega arith) (omega arith);
          some = let p = pow_below 0 (0 + w) (omega arith) in omega (arith, p);
        }) (All-nil (IsSpan S));
      }
