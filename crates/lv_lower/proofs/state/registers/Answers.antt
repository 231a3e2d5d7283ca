use Rattle.std.proofs.Common.{◌≡◌, List, map, subst, sym, ◌∙◌}
use Rattle.lv_source.specs.Views.{is_register_view}
use Rattle.lv_flat.specs.declared.signal.Signal.{Signal}
use Rattle.lv_flat.specs.Signals.{declared_all}
use Rattle.lv_extents.specs.declared.extent.Extent.{Extent}
use Rattle.lv_extents.specs.Extents.{AreExtents}
use Rattle.lv_lower.specs.Slots.{names_of}
use Rattle.lv_lower.specs.Blocks.{combinational_views}
use Rattle.lv_lower.proofs.Extending.{registers-by}
use Rattle.lv_lower.proofs.state.registers.Goals as goal

pub returns : goal.returns
returns c =
    subst (λ (ss : List Signal). AreExtents (declared_all ss) (combinational_views (names_of c.args.flat.now) c.args.flat.now.parts) c.as_slice-2.result.now →
    c.in_ok-flags.flags.items ≡ map (is_register_view (combinational_views (names_of c.args.flat.now) c.args.flat.now.parts)) (declared_all ss)) c.as_slice.ensures
    (c.in_ok-flags.ensures (combinational_views (names_of c.args.flat.now) c.args.flat.now.parts))
    (subst (λ (xs : List Extent). AreExtents (names_of c.args.flat.now) (combinational_views (names_of c.args.flat.now) c.args.flat.now.parts) xs) (sym c.as_slice-2.ensures.value) c.in_ok-extents.ensures) ∙
    registers-by (names_of c.args.flat.now) c.args.flat.now.parts
