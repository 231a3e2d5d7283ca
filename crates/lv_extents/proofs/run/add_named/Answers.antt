use Rattle.std.proofs.Common.{None, ◌≡◌, ◌∷◌, true, List, drop, map, sym, subst, ap, ◌∙◌, Some}
use Rattle.lv_source.specs.Names.{Declared, width_of, is_signal_sort}
use Rattle.lv_source.specs.Values.{nowhere}
use Rattle.lv_source.specs.Places.{bits_of, place_by, place_bits}
use Rattle.lv_source.specs.Meaning.{all_constant, bits_named}
use Rattle.lv_flat.specs.declared.expr.FlatSelect.{FlatSelect}
use Rattle.lv_flat.specs.Signals.{declared_all, signal_at, bounds_of}
use Rattle.lv_flat.specs.Judged.{judge_select, good_selects}
use Rattle.lv_lower_exprs.specs.Named.{chosen_by}
use Rattle.lv_lower_exprs.proofs.Words.{signal-sort, split-first}
use Rattle.lv_extents.specs.Adds.{IsRun, AreFixed, taken}
use Rattle.lv_extents.proofs.Once.{named-whole-once, named-run-once, once-same, exact-more}
use Rattle.lv_extents.proofs.Named.{cell-scalar, whole-rest, scalar-fixed, rest-fixed, adds-whole, adds-scalar, adds-same, named-fixed}
use Rattle.lv_extents.proofs.run.add_named.Goals as goal

pub returns-then-not-fixed-clause-adds : goal.returns-then-not-fixed-clause-adds
returns-then-not-fixed-clause-adds c =
    let S = declared_all c.args.signals.now in
    let sort : is_signal_sort (signal_at S c.args.k).sort ≡ true =
    ap (λ (d : Declared). is_signal_sort d.sort) c.signal_of-signal.ensures ∙ signal-sort c.signal_of-signal.result.now.sort (sym c.is_clock.ensures ∙ c.if-is_clock.false) in
    adds-whole S c.requires.distinct c.args.into.now c.add_run.new.into c.args.k c.signal_width.result (taken S c.args.ss.now) sort (sym c.requires.fixed ∙ c.if-not-fixed.true)
    (c.signal_width.ensures.is ∙ sym (ap (λ (d : Declared). width_of d) c.signal_of-signal.ensures)) c.in_ok-add_run.ensures

pub run_of-requires : goal.run_of-requires
run_of-requires c =
    let S = declared_all c.args.signals.now in
    scalar-fixed S (signal_at S c.args.k) c.args.ss.now (ap (λ (d : Declared). d.array) c.signal_of-signal.ensures ∙ ap bounds_of c.in-None.is) c.requires.good (sym c.requires.fixed ∙
    c.if-not-fixed.false)

pub add_element-requires-clause-fixed : goal.add_element-requires-clause-fixed
add_element-requires-clause-fixed c =
    let S = declared_all c.args.signals.now in
    let d = signal_at S c.args.k in
    let array = ap (λ (d : Declared). d.array) c.signal_of-signal.ensures ∙ ap bounds_of c.in-Some.is in
    let split = split-first c.args.ss.now c.s-item.result c.in-len1-up.len_at_least c.s-item.is in
    subst (λ (xs : List FlatSelect). AreFixed S xs) (sym (whole-rest c.args.ss.now))
    (rest-fixed S d _ c.s-item.result (drop 1 c.args.ss.now) array
    (subst (λ (xs : List FlatSelect). good_selects d (map (judge_select S) xs) ≡ true) split c.requires.good)
    (subst (λ (xs : List FlatSelect). all_constant (taken S xs) ≡ true) split (sym c.requires.fixed ∙ c.if-not-fixed.false)))

pub returns-in_ok-add_run-in-None-clause-adds : goal.returns-in_ok-add_run-in-None-clause-adds
returns-in_ok-add_run-in-None-clause-adds c =
    let S = declared_all c.args.signals.now in
    let sort : is_signal_sort (signal_at S c.args.k).sort ≡ true =
    ap (λ (d : Declared). is_signal_sort d.sort) c.signal_of-signal.ensures ∙ signal-sort c.signal_of-signal.result.now.sort (sym c.is_clock.ensures ∙ c.if-is_clock.false) in
    adds-scalar S c.requires.distinct c.args.into.now c.add_run-in-None.new.into c.args.k c.in_ok-run-in-None.run'.0 c.in_ok-run-in-None.run'.1 c.args.ss.now sort
    (ap (λ (d : Declared). d.array) c.signal_of-signal.ensures ∙ ap bounds_of c.in-None.is) (sym c.requires.fixed ∙ c.if-not-fixed.false)
    (subst (λ d. IsRun (bits_of d (map (chosen_by S) c.args.ss.now) nowhere) (width_of d) c.in_ok-run-in-None.run'.0 c.in_ok-run-in-None.run'.1)
    (sym c.signal_of-signal.ensures) c.in_ok-run-in-None.ensures.run)
    c.in_ok-add_run-in-None.ensures

pub returns-in_ok-add_element-in-len1-up-clause-adds : goal.returns-in_ok-add_element-in-len1-up-clause-adds
returns-in_ok-add_element-in-len1-up-clause-adds c =
    let S = declared_all c.args.signals.now in
    let sort : is_signal_sort (signal_at S c.args.k).sort ≡ true =
    ap (λ (d : Declared). is_signal_sort d.sort) c.signal_of-signal.ensures ∙ signal-sort c.signal_of-signal.result.now.sort (sym c.is_clock.ensures ∙ c.if-is_clock.false) in
    let array = ap (λ (d : Declared). d.array) c.signal_of-signal.ensures ∙ ap bounds_of c.in-Some.is in
    let split = split-first c.args.ss.now c.s-item.result c.in-len1-up.len_at_least c.s-item.is in
    adds-same S c.args.into.now c.add_element.new.into (bits_named (signal_at S c.args.k) (taken S c.args.ss.now)) _
    (named-fixed S (signal_at S c.args.k) c.args.ss.now _ array sort (sym c.requires.fixed ∙ c.if-not-fixed.false) ∙
    ap (λ (xs : List FlatSelect). place_bits (place_by (bounds_of (Some c.in-Some.field-0)) (signal_at S c.args.k) (map (chosen_by S) xs) nowhere))
    (split ∙ ap (λ (xs : List FlatSelect). c.s-item.result ∷ xs) (sym (whole-rest c.args.ss.now))))
    (c.in_ok-add_element-in-len1-up.ensures.adds _ array)

pub returns-then-not-fixed-clause-once : goal.returns-then-not-fixed-clause-once
returns-then-not-fixed-clause-once c =
    let S = declared_all c.args.signals.now in
    let sort : is_signal_sort (signal_at S c.args.k).sort ≡ true =
    ap (λ (d : Declared). is_signal_sort d.sort) c.signal_of-signal.ensures ∙ signal-sort c.signal_of-signal.result.now.sort (sym c.is_clock.ensures ∙ c.if-is_clock.false) in
    named-whole-once S c.requires.distinct c.args.k (taken S c.args.ss.now) sort (sym c.requires.fixed ∙ c.if-not-fixed.true)

pub returns-in_ok-add_run-in-None-clause-once : goal.returns-in_ok-add_run-in-None-clause-once
returns-in_ok-add_run-in-None-clause-once c =
    let S = declared_all c.args.signals.now in
    let sort : is_signal_sort (signal_at S c.args.k).sort ≡ true =
    ap (λ (d : Declared). is_signal_sort d.sort) c.signal_of-signal.ensures ∙ signal-sort c.signal_of-signal.result.now.sort (sym c.is_clock.ensures ∙ c.if-is_clock.false) in
    named-run-once S c.args.k c.in_ok-run-in-None.run'.0 c.in_ok-run-in-None.run'.1 c.args.ss.now sort
    (ap (λ (d : Declared). d.array) c.signal_of-signal.ensures ∙ ap bounds_of c.in-None.is) (sym c.requires.fixed ∙ c.if-not-fixed.false)
    (subst (λ d. IsRun (bits_of d (map (chosen_by S) c.args.ss.now) nowhere) (width_of d) c.in_ok-run-in-None.run'.0 c.in_ok-run-in-None.run'.1)
    (sym c.signal_of-signal.ensures) c.in_ok-run-in-None.ensures.run)

pub returns-in_ok-add_run-in-None-clause-exact : goal.returns-in_ok-add_run-in-None-clause-exact
returns-in_ok-add_run-in-None-clause-exact c = λ h.
    let S = declared_all c.args.signals.now in
    let sort : is_signal_sort (signal_at S c.args.k).sort ≡ true =
    ap (λ (d : Declared). is_signal_sort d.sort) c.signal_of-signal.ensures ∙ signal-sort c.signal_of-signal.result.now.sort (sym c.is_clock.ensures ∙ c.if-is_clock.false) in
    exact-more S c.args.into.now c.add_run-in-None.new.into c.args.k None c.in_ok-run-in-None.run'.0 c.in_ok-run-in-None.run'.1
    (cell-scalar S c.args.k sort (ap (λ (d : Declared). d.array) c.signal_of-signal.ensures ∙ ap bounds_of c.in-None.is)) c.in_ok-add_run-in-None.ensures

pub returns-in_ok-add_element-in-len1-up-clause-once : goal.returns-in_ok-add_element-in-len1-up-clause-once
returns-in_ok-add_element-in-len1-up-clause-once c =
    let S = declared_all c.args.signals.now in
    let sort : is_signal_sort (signal_at S c.args.k).sort ≡ true =
    ap (λ (d : Declared). is_signal_sort d.sort) c.signal_of-signal.ensures ∙ signal-sort c.signal_of-signal.result.now.sort (sym c.is_clock.ensures ∙ c.if-is_clock.false) in
    let array = ap (λ (d : Declared). d.array) c.signal_of-signal.ensures ∙ ap bounds_of c.in-Some.is in
    let split = split-first c.args.ss.now c.s-item.result c.in-len1-up.len_at_least c.s-item.is in
    once-same S (bits_named (signal_at S c.args.k) (taken S c.args.ss.now)) _
    (named-fixed S (signal_at S c.args.k) c.args.ss.now _ array sort (sym c.requires.fixed ∙ c.if-not-fixed.false) ∙
    ap (λ (xs : List FlatSelect). place_bits (place_by (bounds_of (Some c.in-Some.field-0)) (signal_at S c.args.k) (map (chosen_by S) xs) nowhere))
    (split ∙ ap (λ (xs : List FlatSelect). c.s-item.result ∷ xs) (sym (whole-rest c.args.ss.now))))
    (c.in_ok-add_element-in-len1-up.ensures.once _ array)
