use Rattle.std.proofs.Common.{rules, ◌≡◌, [], ◌∷◌, Bool, true, List, map, flat_map, sym, subst, ap, ◌∙◌}
use Rattle.std.specs.List.{list_all}
use Rattle.lv_source.specs.Meaning.{index_reads}
use Rattle.lv_source.specs.Effect.{Piece}
use Rattle.lv_source.specs.Views.{aim_of}
use Rattle.lv_flat.specs.declared.expr.FlatSelect.{FlatSelect}
use Rattle.lv_flat.specs.declared.stmt.FlatTarget.{FlatTarget}
use Rattle.lv_flat.specs.declared.stmt.FlatTarget.TheViews.{the_lemmas}
use Rattle.lv_flat.specs.Signals.{declared_all, signal_at}
use Rattle.lv_flat.specs.Judged.{good_selects, judge_select}
use Rattle.lv_flat.specs.Executing.{pieces}
use Rattle.lv_flat.specs.Good.{are_targets}
use Rattle.lv_extents.specs.Adds.{piece_of, taken}
use Rattle.lv_extents.proofs.Spans.{adds-then, append-nil}
use Rattle.lv_extents.proofs.Readings.{adds-as}
use Rattle.lv_extents.proofs.Lists.{each-as, each-then, past}
use Rattle.lv_extents.specs.Extents.{IsAim}
use Rattle.lv_extents.proofs.Aims.{signal-target, cat-target, signal-pieces, cat-pieces, good-all-at, aims-more, aim-reads-more}
use Rattle.lv_extents.proofs.target.+targets.Goals as goal

pub add_aims-add_aim-requires-clause-sort : goal.add_aims-add_aim-requires-clause-sort
add_aims-add_aim-requires-clause-sort t c =
    let S = declared_all c.args.signals.now in
    (signal-target S c.args.t.now c.in-Signal.name c.in-Signal.ss c.in-Signal.is c.requires.good).0

pub add_aims-add_aim-requires-clause-good : goal.add_aims-add_aim-requires-clause-good
add_aims-add_aim-requires-clause-good t c =
    let S = declared_all c.args.signals.now in
    subst (λ (z : List FlatSelect). good_selects (signal_at S c.in-Signal.name.signal) (map (judge_select S) z) ≡ true) (sym c.as_slice.ensures)
    (signal-target S c.args.t.now c.in-Signal.name c.in-Signal.ss c.in-Signal.is c.requires.good).1

pub add_aims-add_all_aims-requires : goal.add_aims-add_all_aims-requires
add_aims-add_all_aims-requires t c =
    let S = declared_all c.args.signals.now in (
      search (rules, the_lemmas),
      (
        subst (λ (z : List FlatTarget). list_all (λ (x : Bool). x) (map (are_targets S) z) ≡ true) (sym c.as_slice-in-Cat.ensures)
            (cat-target S c.args.t.now c.in-Cat.ts c.in-Cat.is c.requires.good),
        c.requires.distinct,
      ),
    )

pub add_aims-returns-in_ok-add_aim-in-Signal-clause-aims : goal.add_aims-returns-in_ok-add_aim-in-Signal-clause-aims
add_aims-returns-in_ok-add_aim-in-Signal-clause-aims t c =
    let S = declared_all c.args.signals.now in
    each-as (IsAim S) _ _ _ _ (ap (map aim_of) (signal-pieces S c.args.t.now c.in-Signal.name c.in-Signal.ss c.in-Signal.is ∙ ap (λ (z :
    List FlatSelect). piece_of S c.in-Signal.name z ∷ []) (sym c.as_slice.ensures))) c.in_ok-add_aim-in-Signal.ensures.aims

pub add_aims-returns-in_ok-add_aim-in-Signal-clause-reads : goal.add_aims-returns-in_ok-add_aim-in-Signal-clause-reads
add_aims-returns-in_ok-add_aim-in-Signal-clause-reads t c =
    let S = declared_all c.args.signals.now in
    adds-as S _ _ _ _ (ap (flat_map (λ (p : Piece). index_reads p.choices)) (signal-pieces S c.args.t.now c.in-Signal.name c.in-Signal.ss c.in-Signal.is ∙ ap (λ (z :
    List FlatSelect). piece_of S c.in-Signal.name z ∷ []) (sym c.as_slice.ensures)) ∙ append-nil (index_reads (taken S c.as_slice.result.now))) c.in_ok-add_aim-in-Signal.ensures.reads

pub add_aims-returns-in_ok-add_all_aims-in-Cat-clause-aims : goal.add_aims-returns-in_ok-add_all_aims-in-Cat-clause-aims
add_aims-returns-in_ok-add_all_aims-in-Cat-clause-aims t c =
    let S = declared_all c.args.signals.now in
    each-as (IsAim S) _ _ _ _ (ap (map aim_of) (cat-pieces S c.args.t.now c.in-Cat.ts c.in-Cat.is ∙ ap (λ (z : List FlatTarget). flat_map (λ (ps : List Piece). ps) (map (pieces S) z))
    (sym c.as_slice-in-Cat.ensures))) c.in_ok-add_all_aims-in-Cat.ensures.aims

pub add_aims-returns-in_ok-add_all_aims-in-Cat-clause-reads : goal.add_aims-returns-in_ok-add_all_aims-in-Cat-clause-reads
add_aims-returns-in_ok-add_all_aims-in-Cat-clause-reads t c =
    let S = declared_all c.args.signals.now in
    adds-as S _ _ _ _ (ap (flat_map (λ (p : Piece). index_reads p.choices)) (cat-pieces S c.args.t.now c.in-Cat.ts c.in-Cat.is ∙ ap (λ (z : List FlatTarget). flat_map (λ (ps :
    List Piece). ps) (map (pieces S) z)) (sym c.as_slice-in-Cat.ensures))) c.in_ok-add_all_aims-in-Cat.ensures.reads

pub add_all_aims-add_aims-requires : goal.add_all_aims-add_aims-requires
add_all_aims-add_aims-requires t c =
    let S = declared_all c.args.signals.now in
    let g = good-all-at (are_targets S) c.args.ts.now c.loop-t.t-index c.t-item.result c.loop-t-test.true c.t-item.is c.requires.good in
    (search (rules, the_lemmas), (g, c.requires.distinct))

pub add_all_aims-loop-t-preserved : goal.add_all_aims-loop-t-preserved
add_all_aims-loop-t-preserved t c =
    let S = declared_all c.args.signals.now in (
      each-as (IsAim S) _ _ _ _ (aims-more S c.args.ts.now c.loop-t.t-index c.t-item.result c.loop-t-test.true c.t-item.is)
          (each-then (IsAim S) c.loop-t.invariant.0 c.in_ok-add_aims.ensures.aims),
      adds-as S _ _ _ _ (aim-reads-more S c.args.ts.now c.loop-t.t-index c.t-item.result c.loop-t-test.true c.t-item.is) (adds-then S c.loop-t.invariant.1 c.in_ok-add_aims.ensures.reads),
    )

pub add_all_aims-returns-clause-reads : goal.add_all_aims-returns-clause-reads
add_all_aims-returns-clause-reads t c =
    let S = declared_all c.args.signals.now in
    adds-as S _ _ _ _ (sym (ap (λ (z : List FlatTarget). flat_map (λ (p : Piece). index_reads p.choices) (flat_map (λ (ps : List Piece). ps) (map (pieces S) z)))
    (past c.args.ts.now c.loop-t.t-index c.loop-t-test.false))) c.loop-t.invariant.1
