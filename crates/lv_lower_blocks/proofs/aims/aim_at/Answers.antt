use Rattle.std.proofs.Common.{◌≡◌, ◌≤◌, List, ◌∷◌, map, drop, sym, ◌∙◌, ap, subst, arith, Option, Some}
use Rattle.lv_source.specs.Names.{Bounds, Declared, width_of}
use Rattle.lv_source.specs.Values.{Chosen}
use Rattle.lv_source.specs.Places.{count_of, bit_selects}
use Rattle.lv_flat.specs.declared.expr.FlatSelect.{FlatSelect}
use Rattle.lv_flat.specs.Cells.{all_cells}
use Rattle.lv_flat.specs.Signals.{declared_all, signal_at, bounds_of}
use Rattle.lv_lower_exprs.specs.Named.{chosen_by, HasElement}
use Rattle.lv_lower_exprs.proofs.Words.{split-first, first-count}
use Rattle.lv_lower_blocks.specs.declared.aims.Aim.{Aim}
use Rattle.lv_lower_blocks.specs.Aimed.{Names, Spots, chosen_width}
use Rattle.lv_lower_blocks.proofs.Aiming.{names-element, rest-all}
use Rattle.lv_lower_blocks.proofs.aims.aim_at.Goals as goal

pub returns-in_ok-bits-in-len1-up : goal.returns-in_ok-bits-in-len1-up
returns-in_ok-bits-in-len1-up c =
    let S = declared_all c.args.signals.now in
    let k = c.args.k in
    let s = c.s-item.result in
    let rest = drop 1 c.args.ss.now in
    let d : Declared = signal_at S k in
    let split : c.args.ss.now ≡ s ∷ rest = split-first c.args.ss.now s (omega (arith, c.in-len1-up.len_at_least)) c.s-item.is in
    let bounds : d.array ≡ bounds_of (Some c.in-Some.field-0) = ap (λ (z : Declared). z.array) c.signal_of-signal.ensures ∙ ap bounds_of c.in-Some.is in
    let b : Bounds = record { left = c.in-Some.field-0.0; right = c.in-Some.field-0.1 } in
    let one : count_of (chosen_by S s) ≡ 1 = first-count S b c.args.ss.now s c.s-item.is (subst (λ (o : Option Bounds). HasElement S o c.args.ss.now) bounds c.requires.shaped) in
    let wide : width_of d ≡ c.signal_width.result = ap width_of c.signal_of-signal.ensures ∙ sym c.signal_width.ensures.is in
    let chosen : bit_selects d.array (map (chosen_by S) c.args.ss.now) ≡ map (chosen_by S) rest =
    ap (λ (o : Option Bounds). bit_selects o (map (chosen_by S) c.args.ss.now)) bounds ∙ ap (λ (z : List FlatSelect). bit_selects (Some b) (map (chosen_by S) z)) split in
    subst (λ (z : List FlatSelect). Names c.args.b.now c.first_spot-in-len1-up.new.b S (all_cells S) c.args.table.now k (map (chosen_by S) z)
    (let a : Aim = record { signal = k; element = Some c.in_ok-element-in-len1-up.element; bits = c.in_ok-bits-in-len1-up.bits } in a)) (sym split)
    (names-element S k (chosen_by S s) (map (chosen_by S) rest) b c.requires.signal (omega (arith, wide, c.signal_width.ensures.some)) (omega (arith, wide, c.signal_width.ensures.most))
    (subst (λ (z : List Chosen). 1 ≤ chosen_width 1 z) chosen c.requires.some)
    (subst (λ (z : List Chosen). chosen_width 1 z ≤ 128) chosen c.requires.most) bounds (c.in_ok-element-in-len1-up.ensures.down one)
    c.in_ok-element-in-len1-up.ensures.is
    (subst (λ (z : List FlatSelect). Spots c.spot_of.new.b c.first_spot-in-len1-up.new.b (all_cells S) c.args.table.now c.in_ok-bits-in-len1-up.bits (map (chosen_by S) z))
    (rest-all c.args.ss.now) c.in_ok-bits-in-len1-up.ensures))
