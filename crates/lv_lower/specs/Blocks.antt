-- The combinational blocks of a design by their extents.
use Rattle.std.specs.Prelude.{◌≡◌, false, List, ◌++◌, filter}
use Rattle.lv_source.specs.Summary.{leaves_latch, exposes_own}
use Rattle.lv_source.specs.Views.{View, is_combinational}
use Rattle.lv_flat.specs.declared.part.FlatBody.{FlatBody}
use Rattle.lv_flat.specs.declared.part.FlatBody.TheVariants as b
use Rattle.lv_flat.specs.declared.part.FlatPart.{FlatPart}
use Rattle.lv_flat.specs.Flows.{summary}
use Rattle.lv_flat.specs.FlatViews.{flat_views}
use Rattle.lv_flat.specs.Signals.{Signals}
use Rattle.lv_extents.specs.declared.extent.Extent.{Extent}
use Rattle.lv_extents.specs.Extents.{AreExtents}

abbrev pub combinational_views : Signals → List FlatPart → List View
combinational_views S ps = filter (λ v. is_combinational v.way) (flat_views S ps)

-- a combinational block leaves no latch, and reads no bit of its own first
abbrev pub IsSound : Signals → FlatBody → Type 0
IsSound S (b.Assign t x) = Unit {0}
IsSound S (b.Combinational s) = (leaves_latch (summary S s) ≡ false) × (exposes_own (summary S s) ≡ false)
IsSound S (b.Clocked e s) = Unit {0}

-- the extents of these views are added
pub record Extends (S : Signals) (vs : List View) (before after' : List Extent) : Type 0 where
  pub more : List Extent
  pub is : after' ≡ before ++ more
  pub extents : AreExtents S vs more
