use Rattle.std.proofs.Common.{◌≡◌, ◌∙◌, ◌<◌, ◌++◌, ◌∷◌, [], arith, ap, subst, length, List}
use Rattle.std.specs.Prelude.{slice_index_or}
use Rattle.lv_flat.specs.declared.signal.Signal.{Signal}
use Rattle.lv_source.specs.Names.{is_input_sort}
use Rattle.lv_flat.specs.Signals.{declared}
use Rattle.lv_lower.specs.Slots.{kind_by, views_of}
use Rattle.lv_lower.proofs.Slotting.{slots-more, flag-at, counts-more}
use Rattle.lv_lower.proofs.slot.slots.Goals as goal

pub loop-k-preserved : goal.loop-k-preserved
loop-k-preserved c =
    let below : c.loop-k.k < length c.args.flat.now.signals = subst (λ (xs : List Signal). c.loop-k.k < length xs) c.as_slice-signal-items.ensures c.loop-k-test.true in
    let item : c.signal-item.result ≡ slice_index_or c.args.flat.now.signals c.loop-k.k c.signal-item.result =
    subst (λ (xs : List Signal). c.signal-item.result ≡ slice_index_or xs c.loop-k.k c.signal-item.result) c.as_slice-signal-items.ensures c.signal-item.is in
    record {
      slots = slots-more (views_of c.args.flat.now) c.args.flat.now.signals c.loop-k.k c.signal-item.result c.loop-k.all.items c.cells.new.slots.items c.kind_of-kind.result below item
          c.loop-k.invariant.slots
          (c.kind_of-kind.ensures ∙ ap (kind_by (is_input_sort (declared c.signal-item.result).sort)) (flag-at
          (views_of c.args.flat.now) c.args.flat.now.signals c.args.registers.now c.loop-k.k c.signal-item.result _
          below item c.requires))
          c.in_ok-cells.ensures;
      first = counts-more (views_of c.args.flat.now) c.args.flat.now.signals c.loop-k.k c.loop-k.first.items _ c.loop-k.all.items below c.loop-k.invariant.slots c.loop-k.invariant.first
          (c.in_ok-push.ensures.items ∙ ap (λ n. c.loop-k.first.items ++ n ∷ []) (let e : c.len.result ≡ length c.loop-k.all.items = omega (arith, c.len.ensures, c.loop-k.all.ok.0) in e));
    }
