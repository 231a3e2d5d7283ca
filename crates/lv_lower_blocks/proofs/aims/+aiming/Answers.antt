use Rattle.std.proofs.Common.{rules, ◌≡◌, ◌≤◌, true, Bool, List, [], ◌∷◌, ◌++◌, map, sym, ◌∙◌, ap, subst}
use Rattle.std.specs.List.{list_all}
use Rattle.lv_source.specs.Places.{bit_selects}
use Rattle.lv_flat.specs.declared.expr.FlatSelect.{FlatSelect}
use Rattle.lv_flat.specs.declared.stmt.FlatTarget.{FlatTarget}
use Rattle.lv_flat.specs.declared.stmt.FlatTarget.TheViews.{the_lemmas}
use Rattle.lv_flat.specs.Cells.{all_cells}
use Rattle.lv_flat.specs.Signals.{declared_all, signal_at}
use Rattle.lv_flat.specs.Executing.{pieces}
use Rattle.lv_flat.specs.Good.{are_targets}
use Rattle.lv_flat.proofs.Targets.{pieces-Signal, pieces-Cat}
use Rattle.lv_lower_exprs.specs.Named.{chosen_by, HasElement, are_good_selects}
use Rattle.lv_lower_exprs.proofs.Meant.{table-later}
use Rattle.lv_lower_blocks.specs.declared.aims.Aim.{Aim}
use Rattle.lv_lower_blocks.specs.Aimed.{Aims, Names, pieces_all, chosen_width}
use Rattle.lv_lower_blocks.proofs.Aiming.{aims-then, aims-same, aims-more, pieces-more, take-past}
use Rattle.lv_lower_blocks.proofs.GoodTargets.{good-name, parts-good, part-good}
use Rattle.lv_lower_blocks.proofs.aims.+aiming.Goals as goal

pub aim_at-requires-clause-signal : goal.aim_at-requires-clause-signal
aim_at-requires-clause-signal t c = (good-name (declared_all c.args.signals.now) c.args.target.now c.in-Signal.name c.in-Signal.ss c.in-Signal.is c.requires.target).sort

pub aim_at-requires-clause-good : goal.aim_at-requires-clause-good
aim_at-requires-clause-good t c =
    let S = declared_all c.args.signals.now in
    subst (λ (z : List FlatSelect). are_good_selects S z ≡ true) (sym c.as_slice.ensures) (good-name S c.args.target.now c.in-Signal.name c.in-Signal.ss c.in-Signal.is c.requires.target).good

pub aim_at-requires-clause-shaped : goal.aim_at-requires-clause-shaped
aim_at-requires-clause-shaped t c =
    let S = declared_all c.args.signals.now in
    subst (λ (z : List FlatSelect). HasElement S (signal_at S c.in-Signal.name.signal).array z) (sym c.as_slice.ensures)
    (good-name S c.args.target.now c.in-Signal.name c.in-Signal.ss c.in-Signal.is c.requires.target).shaped

pub aim_at-requires-clause-some : goal.aim_at-requires-clause-some
aim_at-requires-clause-some t c =
    let S = declared_all c.args.signals.now in
    subst (λ (z : List FlatSelect). 1 ≤ chosen_width 1 (bit_selects (signal_at S c.in-Signal.name.signal).array (map (chosen_by S) z))) (sym c.as_slice.ensures)
    (good-name S c.args.target.now c.in-Signal.name c.in-Signal.ss c.in-Signal.is c.requires.target).some

pub aim_at-requires-clause-most : goal.aim_at-requires-clause-most
aim_at-requires-clause-most t c =
    let S = declared_all c.args.signals.now in
    subst (λ (z : List FlatSelect). chosen_width 1 (bit_selects (signal_at S c.in-Signal.name.signal).array (map (chosen_by S) z)) ≤ 128) (sym c.as_slice.ensures)
    (good-name S c.args.target.now c.in-Signal.name c.in-Signal.ss c.in-Signal.is c.requires.target).most

pub aims-requires : goal.aims-requires
aims-requires t c =
    let S = declared_all c.args.signals.now in
    let h = subst (λ (z : List FlatTarget). list_all (λ (y : Bool). y) (map (are_targets S) z) ≡ true) (sym c.as_slice-ts.ensures)
    (parts-good S c.args.target.now c.in-Cat.ts c.in-Cat.is c.requires.target) in
    let g = part-good S c.as_slice-ts.result.now c.loop-t.t-index c.t-item.result c.loop-t-test.true h in (
      search (rules, the_lemmas),
      (
        subst (λ (z : FlatTarget). are_targets S z ≡ true)
            (sym c.t-item.is) g,
        (c.loop-t.invariant.good, (c.requires.first, table-later c.loop-t.invariant.grows c.requires.table)),
      ),
    )

pub loop-t-preserved : goal.loop-t-preserved
loop-t-preserved t c =
    let S = declared_all c.args.signals.now in
    aims-same (aims-then c.loop-t.invariant c.in_ok-found-in-Cat.ensures) (pieces-more S c.as_slice-ts.result.now c.loop-t.t-index c.t-item.result c.loop-t-test.true c.t-item.is)

pub returns-in_ok-reserve-in-Signal : goal.returns-in_ok-reserve-in-Signal
returns-in_ok-reserve-in-Signal t c =
    let S = declared_all c.args.signals.now in
    let name = c.in-Signal.name in
    let ss = c.in-Signal.ss in
    let a = c.in_ok-a-in-Signal.a in
    let n = subst (λ (z : List FlatSelect). Names c.args.b.now c.aim_at.new.b S (all_cells S) c.args.table.now name.signal (map (chosen_by S) z) a) c.as_slice.ensures c.in_ok-a-in-Signal.ensures in
    let e : c.push_reserved.new.self.items ≡ c.args.found.items ++ a ∷ [] = c.push_reserved.ensures.items ∙ ap (λ (xs : List Aim). xs ++ a ∷ []) c.reserve.ensures.items in
    subst (λ (z : List Aim). Aims c.args.b.now c.aim_at.new.b S (all_cells S) c.args.table.now (pieces S c.args.target.now) c.args.found.items z) (sym e)
    (aims-same (aims-more S name ss c.args.found.items a c.requires.found n) (sym (ap (λ (z : FlatTarget). pieces S z) c.in-Signal.is ∙ pieces-Signal S name ss)))

pub returns-after-loop-t : goal.returns-after-loop-t
returns-after-loop-t t c =
    let S = declared_all c.args.signals.now in
    aims-same c.loop-t.invariant
    (ap (pieces_all S) (take-past c.as_slice-ts.result.now c.loop-t.t-index c.loop-t-test.false) ∙ (ap (pieces_all S) c.as_slice-ts.ensures ∙
    sym (ap (λ (z : FlatTarget). pieces S z) c.in-Cat.is ∙ pieces-Cat S c.in-Cat.ts)))
