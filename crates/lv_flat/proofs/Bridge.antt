-- The view of a flat part is that of the part of the source that it came from.
use Rattle.std.proofs.Common.{◌≡◌, ℕ, List, [], ◌∷◌, ◌++◌, map, refl, sym, ap, ◌∙◌}
use Rattle.std.specs.Prelude.{flat_map}
use Rattle.lv_ast.specs.declared.stmt.Ident.{Ident}
use Rattle.lv_ast.specs.declared.stmt.Stmt.{Stmt}
use Rattle.lv_ast.specs.Names.{Name, alone}
use Rattle.lv_source.specs.Names.{Names, Sort, Valuation, known}
use Rattle.lv_source.specs.Places.{Bit, Place}
use Rattle.lv_source.specs.Meaning.{Reading}
use Rattle.lv_source.specs.Effect.{Piece, State, executes, write_all, assigned, bits_in, left_of}
use Rattle.lv_source.specs.Flow.{Event, Flow, flow, block_writes, block_reads, event_writes}
use Rattle.lv_source.specs.Summary.{Summary, summary, nothing_done}
use Rattle.lv_source.specs.Parts.{At, Assign, Comb, Clocked}
use Rattle.lv_source.specs.Views.{Aim, Seen, View, Way, Continuous, Combinational, Edge, aim_of, seen_of, seen_writes, view_of}
use Rattle.lv_flat.specs.declared.expr.FlatExpr.{FlatExpr}
use Rattle.lv_flat.specs.declared.stmt.FlatTarget.{FlatTarget}
use Rattle.lv_flat.specs.declared.stmt.FlatStmt.{FlatStmt}
use Rattle.lv_flat.specs.declared.stmt.FlatName.{FlatName}
use Rattle.lv_flat.specs.declared.part.FlatBody.{FlatBody}
use Rattle.lv_flat.specs.declared.part.FlatBody.TheVariants as b
use Rattle.lv_flat.specs.declared.part.FlatPart.{FlatPart}
use Rattle.lv_flat.specs.Signals.{Signals, signal_at}
use Rattle.lv_flat.specs.Judged.{reading}
use Rattle.lv_flat.specs.Executing.{pieces}
use Rattle.lv_flat.specs.Executing as flat
use Rattle.lv_flat.specs.Flows as flats
use Rattle.lv_flat.specs.FlatViews.{flat_view}
use Rattle.lv_flat.proofs.Doings.{Done, done_by, Goal, goal_of}
use Rattle.lv_flat.proofs.FlatDoings.{flat_done}
use Rattle.lv_flat.proofs.SourceDoings.{source_done}
use Rattle.lv_source.proofs.Bridges.{two, map-join, flat-over}
use Rattle.lv_source.proofs.CaseTrees.{flat-map}

-- a part by its place, the places of its clock names, and what it does
abbrev pub view_by : At → List ℕ → Way → Done → View
view_by at clocks way d = record {
  at = at;
  way = way;
  clocks = clocks;
  drives = flat_map seen_writes d.events;
  reads = flat_map (λ e. e.reads) d.events;
  targets = flat_map (λ e. e.targets) d.events;
  events = d.events;
  paths = d.paths;
  after = left_of d.effect;
}

-- so for an assignment from a value to a target
abbrev pub assign_view : At → List ℕ → Goal → Reading → View
assign_view at clocks g x = record {
  at = at;
  way = Continuous;
  clocks = clocks;
  drives = flat_map (λ a. a.bits) g.aims;
  reads = x.reads ++ g.reads;
  targets = g.aims;
  events = [];
  paths = nothing_done;
  after = λ v. (let qs : List Place = g.places v in write_all v qs (assigned v (bits_in qs) x.meaning));
}

writes_same : (e : Event) → event_writes e ≡ seen_writes (seen_of e)
writes_same e = sym (flat-map (λ (a : Aim). a.bits) aim_of e.targets)

targets_same : (es : List Event) → map aim_of (flat_map (λ (e : Event). e.targets) es) ≡ flat_map (λ (e : Seen). e.targets) (map seen_of es)
targets_same [] = refl
targets_same (e ∷ es) = map-join aim_of e.targets _ ∙ ap (λ (zs : List Aim). map aim_of e.targets ++ zs) (targets_same es)

module _ (at : At) (clocks : List ℕ) where
  abbrev viewed : Way → List Bit → List Bit → List Aim → List Seen → Summary → (Valuation → Valuation) → View
  viewed way d r t es m f = record { at = at; way = way; clocks = clocks; drives = d; reads = r; targets = t; events = es; paths = m; after = f }

  view_same : (way : Way) (d e r s : List Bit) (t u : List Aim) (es : List Seen) (m : Summary) (f : Valuation → Valuation) → d ≡ e → r ≡ s → t ≡ u →
      viewed way d r t es m f ≡ viewed way e s u es m f
  view_same way d e r s t u es m f h k l =
      ap (λ z. viewed way z r t es m f) h ∙ ap (λ z. viewed way e z t es m f) k ∙ ap (λ z. viewed way e s z es m f) l

  -- a block by its effect, its flow and its summary
  block_same : (way : Way) (f : State → State) (w : Flow) (m : Summary) →
      viewed way (block_writes w) (block_reads w) (map aim_of (flat_map (λ (e : Event). e.targets) w.events)) (map seen_of w.events) m (left_of f) ≡
      view_by at clocks way (done_by f w m)
  block_same way f w m =
      view_same way _ _ _ _ _ _ _ m (left_of f)
      (flat-over event_writes seen_writes seen_of w.events writes_same)
      (flat-over (λ (e : Event). e.reads) (λ (e : Seen). e.reads) seen_of w.events (λ e. refl))
      (targets_same w.events)

  -- ---- parts of the source

  pub source-Assign : (ps : List Piece) (x : Reading) → view_of (record { at = at; clocks = clocks; body = Assign ps x }) ≡ assign_view at clocks (goal_of ps) x
  source-Assign ps x = view_same Continuous _ _ _ _ _ _ [] nothing_done _ (sym (flat-map (λ (a : Aim). a.bits) aim_of ps)) refl refl

  pub source-Comb : (names : Names) (s : Stmt) →
      view_of (record { at = at; clocks = clocks; body = Comb names s }) ≡ view_by at clocks Combinational (source_done names s)
  source-Comb names s = block_same Combinational (executes names s) (flow names s) (summary names s)

  pub source-Clocked : (names : Names) (c : Ident) (s : Stmt) →
      view_of (record { at = at; clocks = clocks; body = Clocked names c s }) ≡ view_by at clocks (Edge (known (names (alone c.name))).sort c.place)
      (source_done names s)
  source-Clocked names c s = block_same (Edge (known (names (alone c.name))).sort c.place) (executes names s) (flow names s) (summary names s)

-- ---- flat parts

module _ (S : Signals) (path : Name) (place : ℕ) (clocks : List ℕ) where
  abbrev flat_part : FlatBody → FlatPart
  flat_part body = record { path = path; place = place; clocks = clocks; body = body }

  abbrev part_at : At
  part_at = record { path = path; place = place }

  pub flat-Assign : (t : FlatTarget) (x : FlatExpr) → flat_view S (flat_part (b.Assign t x)) ≡ assign_view part_at clocks (goal_of (pieces S t)) (reading S x)
  flat-Assign t x = view_same part_at clocks Continuous _ _ _ _ _ _ [] nothing_done _ (sym (flat-map (λ (a : Aim). a.bits) aim_of (pieces S t))) refl refl

  pub flat-Combinational : (t : FlatStmt) → flat_view S (flat_part (b.Combinational t)) ≡ view_by part_at clocks Combinational (flat_done S t)
  flat-Combinational t = block_same part_at clocks Combinational (flat.executes S t) (flats.flow S t) (flats.summary S t)

  pub flat-Clocked : (e : FlatName) (t : FlatStmt) →
      flat_view S (flat_part (b.Clocked e t)) ≡ view_by part_at clocks (Edge (signal_at S e.signal).sort e.place) (flat_done S t)
  flat-Clocked e t = block_same part_at clocks (Edge (signal_at S e.signal).sort e.place) (flat.executes S t) (flats.flow S t) (flats.summary S t)

  -- ---- from the source to the flat

  pub assign_alike : (ps : List Piece) (r : Reading) (t : FlatTarget) (x : FlatExpr) → goal_of (pieces S t) ≡ goal_of ps → reading S x ≡ r →
      flat_view S (flat_part (b.Assign t x)) ≡ view_of (record { at = part_at; clocks = clocks; body = Assign ps r })
  assign_alike ps r t x h k = flat-Assign t x ∙ two (assign_view part_at clocks) _ _ _ _ h k ∙ sym (source-Assign part_at clocks ps r)

  pub combinational_alike : (names : Names) (s : Stmt) (t : FlatStmt) → flat_done S t ≡ source_done names s →
      flat_view S (flat_part (b.Combinational t)) ≡ view_of (record { at = part_at; clocks = clocks; body = Comb names s })
  combinational_alike names s t h = flat-Combinational t ∙ ap (view_by part_at clocks Combinational) h ∙ sym (source-Comb part_at clocks names s)

  pub clocked_alike : (names : Names) (c : Ident) (s : Stmt) (e : FlatName) (t : FlatStmt) →
      (signal_at S e.signal).sort ≡ (known (names (alone c.name))).sort → e.place ≡ c.place → flat_done S t ≡ source_done names s →
      flat_view S (flat_part (b.Clocked e t)) ≡ view_of (record { at = part_at; clocks = clocks; body = Clocked names c s })
  clocked_alike names c s e t h k l =
      flat-Clocked e t ∙ two (λ (w : Way) (d : Done). view_by part_at clocks w d) _ _ _ _ (two (λ (x : Sort) (p : ℕ). Edge x p) _ _ _ _ h k) l ∙
      sym (source-Clocked part_at clocks names c s)
