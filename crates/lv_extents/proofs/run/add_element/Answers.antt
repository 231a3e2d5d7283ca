use Rattle.std.proofs.Common.{Some, [], ◌∷◌, ◌≡◌, ◌≤◌, ◌<◌, ◌∙◌, sym, ap, subst, arith, refl, map}
use Rattle.std.proofs.lemmas.Bool.Decides.{nat_tests}
use Rattle.lv_source.specs.Names.{Bounds, Declared, low, high, width_of, is_signal_sort}
use Rattle.lv_source.specs.Values.{nowhere}
use Rattle.lv_source.specs.Places.{bits_of, place_by, place_bits}
use Rattle.lv_flat.specs.Signals.{Signals, declared, declared_all, signal_at, bounds_of}
use Rattle.lv_values.specs.Windows.{integer}
use Rattle.lv_lower_exprs.specs.Named.{chosen_by}
use Rattle.lv_extents.specs.Adds.{IsRun}
use Rattle.lv_extents.proofs.Named.{bounds-same, adds-element, adds-nothing, element-out, element-below, cell-element}
use Rattle.lv_extents.proofs.Once.{element-once, once-same, exact-more}
use Rattle.lv_extents.proofs.run.add_element.Goals.{else-from-i-via-then-from-i+else-i-from, else-from-i-via-else-from-i}
use Rattle.lv_extents.proofs.run.add_element.Goals as goal

pub returns-in_ok-add_run : goal.returns-in_ok-add_run
returns-in_ok-add_run c =
    let S : Signals = declared_all c.args.signals.now in
    let bounds : Bounds = record { left = c.in-Some.left; right = c.in-Some.right } in
    let array : (signal_at S c.args.k).array ≡ Some bounds = ap (λ (d : Declared). d.array) c.signal_of-signal.ensures ∙ ap bounds_of c.in-Some.is in
    let below : low bounds ≤ c.in-Above.i = grind (arith, nat_tests, c.min.ensures, c.from.ensures, c.if-from-i.true) in
    let above : c.in-Above.i ≤ high bounds = grind (arith, nat_tests, c.max.ensures, c.from-then-from-i.ensures, c.if-i-from.true) in
    let z = sym c.in_ok-z.ensures ∙ ap integer c.in-Above.is in
    let run : IsRun (bits_of (signal_at S c.args.k) (map (chosen_by S) c.args.rest.now) nowhere) (width_of (signal_at S c.args.k)) c.in_ok-run.run'.0 c.in_ok-run.run'.1 =
    subst (λ d. IsRun (bits_of d (map (chosen_by S) c.args.rest.now) nowhere) (width_of d) c.in_ok-run.run'.0 c.in_ok-run.run'.1) (sym c.signal_of-signal.ensures) c.in_ok-run.ensures.run in
    record {
      adds = λ b e.
          let same : bounds ≡ b = bounds-same S c.args.k (declared c.signal_of-signal.result.now) (bounds_of c.signal_of-signal.result.now.array) b _ c.signal_of-signal.ensures refl
          (ap bounds_of c.in-Some.is) e in
          let p : low b ≤ c.in-Above.i = omega (arith, below, ap low same) in
          let q : c.in-Above.i ≤ high b = omega (arith, above, ap high same) in
          adds-element S c.requires.distinct c.args.into.now c.add_run.new.into c.args.k c.in-Above.i c.in_ok-run.run'.0 c.in_ok-run.run'.1 b (chosen_by S c.args.s.now)
          (map (chosen_by S) c.args.rest.now) c.requires.signal e z p q run c.in_ok-add_run.ensures;
      once = λ b e.
          let same : bounds ≡ b = bounds-same S c.args.k (declared c.signal_of-signal.result.now) (bounds_of c.signal_of-signal.result.now.array) b _ c.signal_of-signal.ensures refl
          (ap bounds_of c.in-Some.is) e in
          let p : low b ≤ c.in-Above.i = omega (arith, below, ap low same) in
          let q : c.in-Above.i ≤ high b = omega (arith, above, ap high same) in
          element-once S c.args.k c.in-Above.i c.in_ok-run.run'.0 c.in_ok-run.run'.1 b (chosen_by S c.args.s.now) (map (chosen_by S) c.args.rest.now) z p q run;
      exact = exact-more S c.args.into.now c.add_run.new.into c.args.k (Some c.in-Above.i) c.in_ok-run.run'.0 c.in_ok-run.run'.1
          (cell-element S c.args.k c.in-Above.i bounds c.requires.signal array below above) c.in_ok-add_run.ensures;
    }

pub returns-else-from-i : goal.returns-else-from-i
returns-else-from-i c =
    let S : Signals = declared_all c.args.signals.now in
    let none : (b : Bounds) → (signal_at S c.args.k).array ≡ Some b → place_bits (place_by (Some b) (signal_at S c.args.k) (map (chosen_by S) (c.args.s.now ∷ c.args.rest.now)) nowhere) ≡ [] = λ b e.
    let same : record { left = c.in-Some.left; right = c.in-Some.right } ≡ b =
    bounds-same S c.args.k (declared c.signal_of-signal.result.now) (bounds_of c.signal_of-signal.result.now.array) b _ c.signal_of-signal.ensures refl (ap bounds_of c.in-Some.is) e in
    let l = ap low same in
    let h = ap high same in
    element-out S (signal_at S c.args.k) b (chosen_by S c.args.s.now) (map (chosen_by S) c.args.rest.now) c.in-Above.i (sym c.in_ok-z.ensures ∙ ap integer c.in-Above.is) (λ p q.
    elim c.else-from-i.branch [
      | else-from-i-via-then-from-i+else-i-from w ↦
          let f : high b < c.in-Above.i = grind (arith, nat_tests, h, w.max.ensures, w.from-then-from-i.ensures, w.if-i-from.false) in omega (arith, f, q)
      | else-from-i-via-else-from-i w ↦
          let f : c.in-Above.i < low b = grind (arith, nat_tests, l, c.min.ensures, c.from.ensures, w.if-from-i.false) in omega (arith, f, p)
    ]) in
    record {
      adds = λ b e. adds-nothing S c.args.into.now c.args.into.now _ (none b e) refl;
      once = λ b e. once-same S _ [] (none b e) refl;
      exact = λ h. h;
    }

pub returns-in_default-z : goal.returns-in_default-z
returns-in_default-z c =
    let S : Signals = declared_all c.args.signals.now in
    let none : (b : Bounds) → place_bits (place_by (Some b) (signal_at S c.args.k) (map (chosen_by S) (c.args.s.now ∷ c.args.rest.now)) nowhere) ≡ [] = λ b.
    element-below S (signal_at S c.args.k) b (chosen_by S c.args.s.now) (map (chosen_by S) c.args.rest.now) c.in_default-z.field-0 (sym c.in_ok-z.ensures ∙ ap integer c.in_default-z.is) in
    record {
      adds = λ b e. adds-nothing S c.args.into.now c.args.into.now _ (none b) refl;
      once = λ b e. once-same S _ [] (none b) refl;
      exact = λ h. h;
    }
