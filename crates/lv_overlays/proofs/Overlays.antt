-- The writes of a part with a clock as an overlay.
use Rattle.std.proofs.Common.{◌≡◌, ℕ, zero, suc, true, false, List, [], ◌∷◌, refl, sym, ap, ◌∙◌, subst, Some}
use Rattle.std.specs.Prelude.{flat_map, slice_get, if◌then◌else◌}
use Rattle.lv_source.specs.Names.{Valuation}
use Rattle.lv_source.specs.Places.{Bit, bit_at, has_bit, same_bit}
use Rattle.lv_source.specs.Flow.{Event, event_writes}
use Rattle.lv_source.specs.Views.{View, is_edge, next_view_bit}
use Rattle.lv_source.proofs.Each.{Each}
use Rattle.lv_source.proofs.Bridges.{map-map}
use Rattle.lv_source.proofs.Facts.{some_same}
use Rattle.lv_source.proofs.Runs.{none-left, none-right}
use Rattle.lv_flat.specs.declared.part.FlatBody.{FlatBody}
use Rattle.lv_flat.specs.declared.part.FlatBody.TheVariants as b
use Rattle.lv_flat.specs.declared.part.FlatPart.{FlatPart}
use Rattle.lv_flat.specs.Cells.{all_cells, AreDistinct}
use Rattle.lv_flat.specs.Flows.{flow}
use Rattle.lv_flat.specs.FlatViews.{flat_view, flat_views}
use Rattle.lv_flat.specs.Signals.{Signals}
use Rattle.lv_settles.specs.Clocked.{IsOverlay, Overlay, AreOverlays, views_in, overlaid}
use Rattle.lv_settles.specs.Lawful.{IsLawful}
use Rattle.lv_settles.specs.Rules.{AreRight, signals_in}
use Rattle.lv_settles.proofs.FlatParts.{lawful}
use Rattle.lv_settles.proofs.Nexts.{nexts}
use Rattle.lv_lower_blocks.specs.Running.{writes_from}
use Rattle.lv_lower_blocks.proofs.Late.{Spares, applied-settles, writes-leave, writes-spare}
use Rattle.lv_overlays.specs.Writes.{writes_on, overlay_of, overlays_of, all_writes_on}
use Rattle.lv_overlays.proofs.Events.{Inside, events_inside}
use Rattle.lv_overlays.proofs.Unmixed.{unnamed, unmixed}

all_spare : (b : Bit) (es : List Event) → Each Inside es → has_bit (flat_map event_writes es) b ≡ false → Each (Spares b) es
all_spare b [] h n = tt
all_spare b (e ∷ es) h n =
    (unnamed e b h.0 (none-left (same_bit b) (event_writes e) (flat_map event_writes es) n), all_spare b es h.1 (none-right (same_bit b) (event_writes e) (flat_map event_writes es) n))

module _ (S : Signals) (v : Valuation) where
  overlay_at : (ps : List FlatPart) (k : ℕ) (o : Overlay) → slice_get (overlays_of S v ps) k ≡ Some o → (p : FlatPart) × (overlay_of S v p ≡ o) × (slice_get (flat_views S ps) k ≡ Some (flat_view S p))
  overlay_at [] k o e = cc
  overlay_at (p ∷ ps) zero o e = (p, some_same (overlay_of S v p) o e, refl)
  overlay_at (p ∷ ps) (suc k) o e = overlay_at ps k o e

  pub views_are : (ps : List FlatPart) → views_in (overlays_of S v ps) ≡ flat_views S ps
  views_are ps = map-map (λ (o : Overlay). o.0) (overlay_of S v) ps

  module _ (vs : List View) (right : AreRight (signals_in S) vs) (k : ℕ) where
    overlay_by : (p : FlatPart) (body : FlatBody) → p.body ≡ body → (let q : FlatPart = record { path = p.path; place = p.place; clocks = p.clocks; body = body } in
        slice_get vs k ≡ Some (flat_view S q) → IsLawful (signals_in S) (flat_view S q) → is_edge (flat_view S q).way ≡ true → IsOverlay v (flat_view S q) (writes_on S body v))
    overlay_by p (b.Assign t x) i e law edge = cc
    overlay_by p (b.Combinational s) i e law edge = cc
    overlay_by p (b.Clocked c s) i e law edge =
        let q : FlatPart = record { path = p.path; place = p.place; clocks = p.clocks; body = b.Clocked c s } in
        record {
          keeps = λ u x n. writes-spare S s v u x (all_spare x (flow S s).events (events_inside S s) n);
          bitwise = λ u t x same. applied-settles (writes_from S s v) u t x same;
          leaves = λ x. writes-leave S s v v x (unmixed (signals_in S) vs right k (flat_view S q) e law edge S s refl refl (events_inside S s) x) refl;
        }

    overlay_is : (p : FlatPart) → slice_get vs k ≡ Some (flat_view S p) → IsLawful (signals_in S) (flat_view S p) → is_edge (flat_view S p).way ≡ true →
        IsOverlay v (flat_view S p) (writes_on S p.body v)
    overlay_is p e law edge = overlay_by p p.body refl e law edge

  pub overlays : (ps : List FlatPart) → AreDistinct (all_cells S) → AreRight (signals_in S) (flat_views S ps) → AreOverlays v (overlays_of S v ps)
  overlays ps distinct right = record {
    each = λ k o e edge.
        (let p : (p : FlatPart) × (overlay_of S v p ≡ o) × (slice_get (flat_views S ps) k ≡ Some (flat_view S p)) = overlay_at ps k o e in
        subst (λ (o : Overlay). IsOverlay v o.0 o.1) p.1
        (overlay_is (flat_views S ps) right k p.0 p.2 ((lawful S distinct ps right).each k (flat_view S p.0) p.2) (ap (λ (o : Overlay). is_edge o.0.way) p.1 ∙ edge)));
  }

  -- one part
  step_by : (p : FlatPart) (body : FlatBody) → p.body ≡ body → (let q : FlatPart = record { path = p.path; place = p.place; clocks = p.clocks; body = body } in
      (u : Valuation) → writes_on S body v u ≡ (if is_edge (flat_view S q).way then writes_on S body v u else u))
  step_by p (b.Assign t x) i u = refl
  step_by p (b.Combinational s) i u = refl
  step_by p (b.Clocked c s) i u = refl

  all_are : (ps : List FlatPart) (u : Valuation) → all_writes_on S ps v u ≡ overlaid (overlays_of S v ps) u
  all_are [] u = refl
  all_are (p ∷ ps) u = all_are ps (writes_on S p.body v u) ∙ ap (λ (t : Valuation). overlaid (overlays_of S v ps) t) (step_by p p.body refl u)

  pub writes_next : (ps : List FlatPart) → AreDistinct (all_cells S) → AreRight (signals_in S) (flat_views S ps) → (x : Bit) → bit_at (all_writes_on S ps v v) x ≡ next_view_bit (flat_views S ps) v x
  writes_next ps distinct right x =
      ap (λ (u : Valuation). bit_at u x) (all_are ps v) ∙
      (nexts (signals_in S) (overlays_of S v ps) v (subst (AreRight (signals_in S)) (sym (views_are ps)) right) (overlays ps distinct right) x ∙
      ap (λ (vs : List View). next_view_bit vs v x) (views_are ps))
