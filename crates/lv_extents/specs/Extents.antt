-- The extent of a part: its view with spans in place of lists of bits.
use Rattle.std.specs.Prelude.{◌≡◌, true, false, List, [], ◌∷◌, ◌++◌, flat_map, All}
use Rattle.lv_source.specs.Views.{Seen, View, is_continuous}
use Rattle.lv_source.specs.Views as views
use Rattle.lv_source.specs.Summary.{leaves_latch, exposes_own}
use Rattle.lv_source.specs.PartRules.{has_twice}
use Rattle.lv_flat.specs.Signals.{Signals, sort_of}
use Rattle.lv_spans.specs.declared.span.Span.{Span}
use Rattle.lv_spans.specs.Domain.{is_cell, AreSpansOf}
use Rattle.lv_extents.specs.declared.extent.Way.{Way}
use Rattle.lv_extents.specs.declared.extent.Way.TheVariants.{Continuous, Combinational, Edge}
use Rattle.lv_extents.specs.declared.extent.Aim.{Aim}
use Rattle.lv_extents.specs.declared.extent.Step.{Step}
use Rattle.lv_extents.specs.declared.extent.Extent.{Extent}

-- one for each, in order
abbrev pub Each : {A B : Type 0} → (A → B → Type 0) → List A → List B → Type 0
Each R [] [] = Unit {0}
Each R (a ∷ as') (b ∷ bs) = R a b × Each R as' bs
Each R _ _ = ⊥

abbrev pub way_of : Way → views.Way
way_of Continuous = views.Continuous
way_of Combinational = views.Combinational
way_of (Edge sort place) = views.Edge (sort_of sort) place

-- each has bits of one cell
abbrev pub AreExact : Signals → List Span → Type 0
AreExact S xs = All (λ (s : Span). is_cell S (s.signal, s.element) ≡ true) xs

-- no bit is named twice, and what is written for sure stands in single cells
pub record IsAim (S : Signals) (a : views.Aim) (x : Aim) : Type 0 where
  pub sort : sort_of x.sort ≡ a.sort
  pub bits : AreSpansOf S a.bits x.bits
  pub sure : x.sure ≡ a.sure
  pub place : x.place ≡ a.place
  pub once : has_twice a.bits ≡ false
  pub exact : x.sure ≡ true → AreExact S x.bits

pub record IsStep (S : Signals) (e : Seen) (x : Step) : Type 0 where
  pub reads : AreSpansOf S e.reads x.reads
  pub aims : Each (IsAim S) e.targets x.aims
  pub at_once : x.at_once ≡ e.at_once
  pub place : x.place ≡ e.place

-- the names in its targets
abbrev pub all_aims : Extent → List Aim
all_aims x = x.aims ++ flat_map (λ s. s.aims) x.steps

-- what the rules need of a view
pub record IsExtent (S : Signals) (v : View) (x : Extent) : Type 0 where
  pub way : way_of x.way ≡ v.way
  pub path : x.path ≡ v.at.path
  pub place : x.place ≡ v.at.place
  pub clocks : x.clocks ≡ v.clocks
  pub drives : AreSpansOf S v.drives x.drives
  pub reads : AreSpansOf S v.reads x.reads
  pub aims : Each (IsAim S) v.targets (all_aims x)
  pub steps : Each (IsStep S) v.events x.steps
  pub latch : x.latch ≡ leaves_latch v.paths
  pub exposed : x.exposed ≡ exposes_own v.paths
  pub twice : is_continuous v.way ≡ true → x.twice ≡ has_twice v.drives

abbrev pub AreExtents : Signals → List View → List Extent → Type 0
AreExtents S vs xs = Each (IsExtent S) vs xs
