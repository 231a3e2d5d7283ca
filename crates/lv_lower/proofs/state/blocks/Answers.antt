use Rattle.std.proofs.Common.{List, [], ◌∷◌, sym, subst, get_or, ◌≡◌, ◌<◌, length}
use Rattle.lv_flat.specs.declared.part.FlatPart.{FlatPart}
use Rattle.lv_flat.specs.declared.signal.Signal.{Signal}
use Rattle.lv_flat.specs.Signals.{declared_all}
use Rattle.lv_lower.specs.Slots.{names_of}
use Rattle.lv_lower.specs.Blocks.{combinational_views, IsSound, Extends}
use Rattle.lv_lower.proofs.Carrying.{get-at}
use Rattle.lv_lower.proofs.Extending.{extents-more, sound-at}
use Rattle.lv_lower.proofs.state.blocks.Goals as goal

pub add_block-requires-clause-sound : goal.add_block-requires-clause-sound
add_block-requires-clause-sound c =
    subst (λ (ss : List Signal). IsSound (declared_all ss) c.part-item.result.body) (sym c.as_slice.ensures)
    (sound-at (names_of c.args.flat.now) c.args.flat.now.parts c.requires c.loop-part.part-index c.part-item.result
    (get-at c.args.flat.now.parts c.loop-part.part-index c.part-item.result
    (subst (λ (xs : List FlatPart). c.loop-part.part-index < length xs) c.as_slice-part-items.ensures c.loop-part-test.true)
    (subst (λ (xs : List FlatPart). c.part-item.result ≡ get_or xs c.loop-part.part-index c.part-item.result) c.as_slice-part-items.ensures c.part-item.is)))

pub loop-part-preserved : goal.loop-part-preserved
loop-part-preserved c =
    extents-more (names_of c.args.flat.now) c.as_slice-part-items.result.now c.loop-part.part-index c.part-item.result c.loop-part.extents.items c.add_block.new.extents.items
    c.loop-part-test.true c.part-item.is c.loop-part.invariant
    (subst (λ (ss : List Signal). Extends (declared_all ss) (combinational_views (declared_all ss) (c.part-item.result ∷ [])) c.loop-part.extents.items c.add_block.new.extents.items)
    c.as_slice.ensures c.in_ok-add_block.ensures)
