-- Blocks from what their statements are answered to be.
use Rattle.std.proofs.Common.{◌≡◌, ℕ, Bool, true, false, not, ◌&&◌, ◌||◌, List, [], ◌∷◌, ◌++◌, refl, sym, ap, ◌∙◌, subst, inl, inr, Option, Some, None, Result, Ok, Err, arith}
use Rattle.std.specs.Prelude.{flat_map, IfOk, IfErr}
use Rattle.std.specs.List.{Contains}
use Rattle.std.proofs.lemmas.List.{append-nil}
use Rattle.std.proofs.lemmas.List.Elements.{Contains-append_left, Contains-append_right, Contains-append_cases}
use Rattle.lv_ast.specs.declared.expr.Path.{Path}
use Rattle.lv_ast.specs.declared.stmt.Ident.{Ident}
use Rattle.lv_ast.specs.declared.stmt.Stmt.{Stmt}
use Rattle.lv_ast.specs.declared.item.Watch.{Watch}
use Rattle.lv_ast.specs.declared.item.Watch.TheVariants as w
use Rattle.lv_ast.specs.Names.{Name, alone}
use Rattle.lv_source.specs.Names.{Here, Sort, Input, Net, Variable, Clock, Constant, Index, Other, known}
use Rattle.lv_source.specs.Faults.{site_faults}
use Rattle.lv_source.specs.Legal.{Kind, UnknownName, NotConstant, ZeroDivisor, Range, Duplicate, ClockUse}
use Rattle.lv_source.specs.ScopeRules.{place_if, is_no_edge, unknown_in_form, range_in_form, two_defaults}
use Rattle.lv_source.specs.Standing.{Standing, standing, form_spots, stmt_spots}
use Rattle.lv_source.specs.PartSites.{stmt_sites, clocks_in}
use Rattle.lv_source.specs.Parts.{Part, Body, Comb, Clocked, is_declared_sort}
use Rattle.lv_source.specs.Views.{view_of}
use Rattle.lv_source.proofs.ClockNames.{flat-flat, stmt_use}
use Rattle.lv_const.specs.declared.consts.Entry.{Entry}
use Rattle.lv_const.proofs.Refusals.{gathered}
use Rattle.lv_flat.specs.declared.stmt.FlatName.{FlatName}
use Rattle.lv_flat.specs.declared.stmt.FlatStmt.{FlatStmt}
use Rattle.lv_flat.specs.declared.part.FlatBody.{FlatBody}
use Rattle.lv_flat.specs.declared.part.FlatBody.TheVariants as b
use Rattle.lv_flat.specs.declared.part.FlatPart.{FlatPart}
use Rattle.lv_flat.specs.Signals.{Signals, signal_at}
use Rattle.lv_flat.specs.Good.{good_stmt}
use Rattle.lv_flat.proofs.Bridge.{combinational_alike, clocked_alike}
use Rattle.lv_flat.proofs.SourceDoings.{source_done}
use Rattle.lv_flat.proofs.FlatDoings.{flat_done}
use Rattle.lv_resolve.specs.Places.{AreNames}
use Rattle.lv_resolve.proofs.Covers.{in-same}
use Rattle.lv_resolve.proofs.Nodes.{and-both}
use Rattle.lv_resolve_stmts.specs.declared.error.StmtError.{StmtError}
use Rattle.lv_resolve_stmts.specs.declared.error.StmtError.TheVariants as x
use Rattle.lv_resolve_stmts.specs.declared.resolved.ResolvedStmt.{ResolvedStmt}
use Rattle.lv_resolve_stmts.specs.Statements.{AreSound, HasStmt, IsFaultOf, IsToldAt, memory, found, clocks_at, has_stmt_operands}
use Rattle.lv_faults.specs.declared.fault.Fault.{Fault}
use Rattle.lv_faults.specs.declared.fault.Fault.TheVariants as f
use Rattle.lv_faults.specs.Faults.{kind_of, place_of}
use Rattle.lv_parts.specs.declared.error.PartsError.{PartsError}
use Rattle.lv_parts.specs.declared.error.PartsError.TheVariants as e
use Rattle.lv_parts.specs.Errors.{of_stmt, IsToldBy}
use Rattle.lv_parts.specs.Made.{MadeAnswer}
use Rattle.lv_parts.specs.Nets.{part_of}
use Rattle.lv_parts.specs.Blocks.{HasEndless, IsEdge, IsNoEdge, EdgeAnswer, CombAnswer, ClockedAnswer, BlockAnswer, stmt_faults, stmt_rules, edge_faults, watch_rules, always_faults, IsCleanAlways, IsToldAlways, IsWellStmt}

-- ---- the name behind `posedge`

edge-known : (z : Sort) → is_declared_sort z ≡ true → is_no_edge z ≡ false
edge-known Input h = refl
edge-known Net h = refl
edge-known Variable h = refl
edge-known Clock h = refl
edge-known (Constant n) h = cc
edge-known (Index g) h = cc
edge-known Other h = cc

module _ (S : Signals) (find : Path → Option ℕ) (all early : List Entry) (here : Here) (ok : AreNames S find all early here) (clock : Ident) (k : ℕ) (h : Some k ≡ find (alone clock.name)) where
  pub edge-answer : EdgeAnswer S here clock (Ok (record { signal = k; place = clock.place }))
  edge-answer =
      let there : here.names (alone clock.name) ≡ Some (signal_at S k) = ok.found (alone clock.name) k (sym h) in
      record {
        right = record {
          place = refl;
          sort = sym (ap (λ o. (known o).sort) there);
          declared = ok.declared (alone clock.name) k (sym h);
          known = ap (λ o. is_no_edge (known o).sort) there ∙ edge-known (signal_at S k).sort (ok.declared (alone clock.name) k (sym h));
        };
        wrong = tt;
      }

-- ---- statements

module _ (here : Here) (s : Stmt) where
  abbrev ks : List Standing
  ks = standing here s

  nodes-among : (k : Standing) (kind : Kind) (p : ℕ) → Contains ks k → Contains (flat_map (site_faults kind) (form_spots k.here k.form)) p →
      Contains (flat_map (site_faults kind) (stmt_spots here s)) p
  nodes-among k kind p c h = in-same _ _ p (sym (flat-flat (site_faults kind) (λ m. form_spots m.here m.form) ks))
      (gathered (λ m. flat_map (site_faults kind) (form_spots m.here m.form)) ks k p c h)

  abbrev Told : PartsError → Type 0
  Told z = IsToldBy (stmt_faults here s) (HasEndless ks) z

  in-nodes : (k : Standing) (kind : Kind) (p : ℕ) → Contains ks k → Contains (flat_map (site_faults kind) (form_spots k.here k.form)) p → Contains (stmt_faults here s kind) p
  in-nodes k kind p c h = Contains-append_left (flat_map (site_faults kind) (stmt_spots here s)) (stmt_rules here s kind) p (nodes-among k kind p c h)

  told-at : (k : Standing) (z : StmtError) → Contains ks k → IsToldAt k z → Told (of_stmt z)
  told-at k (x.UnknownName p) c h = elim (Contains-append_cases (flat_map (site_faults UnknownName) (form_spots k.here k.form)) (unknown_in_form k) p h) [
    | inl a ↦ in-nodes k UnknownName p c a
    | inr a ↦ Contains-append_right (flat_map (site_faults UnknownName) (stmt_spots here s)) (flat_map unknown_in_form ks) p (gathered unknown_in_form ks k p c a)
  ]
  told-at k (x.NotConstant p) c h = in-nodes k NotConstant p c h
  told-at k (x.ZeroDivisor p) c h = in-nodes k ZeroDivisor p c h
  told-at k (x.Range p) c h = elim (Contains-append_cases (flat_map (site_faults Range) (form_spots k.here k.form)) (range_in_form k) p h) [
    | inl a ↦ in-nodes k Range p c a
    | inr a ↦ Contains-append_right (flat_map (site_faults Range) (stmt_spots here s)) (flat_map range_in_form ks) p (gathered range_in_form ks k p c a)
  ]
  told-at k (x.Duplicate p) c h =
      Contains-append_right (flat_map (site_faults Duplicate) (stmt_spots here s)) (flat_map two_defaults ks) p (gathered two_defaults ks k p c h)
  told-at k x.Limit c h = record { one = k; among = c; holds = h }
  told-at k x.NoMemory c h = tt

  stmt-told : (z : StmtError) → IsFaultOf ks z → Told (of_stmt z)
  stmt-told z (memory h) = subst (λ (u : StmtError). Told (of_stmt u)) (sym h) tt
  stmt-told z (found k c h) = told-at k z c h

  clocks-same : (cs : List ℕ) → flat_map clocks_at ks ≡ cs → cs ≡ clocks_in (stmt_sites here.names s)
  clocks-same cs h = sym h ∙ (sym (flat-flat (site_faults ClockUse) (λ k. form_spots k.here k.form) ks) ∙ stmt_use here s)

  module _ (S : Signals) (path : Name) (place : ℕ) where
    abbrev Block : Body → Result FlatPart PartsError → Type 0
    Block body r = MadeAnswer S (part_of path place (stmt_sites here.names s) body) (IsWellStmt s) (AreSound ks) (λ z. Told z) r

    abbrev flat_block : List ℕ → FlatBody → FlatPart
    flat_block cs body = record { path = path; place = place; clocks = cs; body = body }

    pub block-none : (body : Body) (z : StmtError) (y : PartsError) → y ≡ of_stmt z → IsFaultOf ks z → Block body (Err y)
    block-none body z y q h = subst (λ (u : PartsError). Block body (Err u)) (sym q) (record { right = tt; wrong = stmt-told z h })

    module _ (r : ResolvedStmt) (h : HasStmt S ks (source_done here.names s) (has_stmt_operands s) r) (t : FlatStmt) (cs : List ℕ) (q : t ≡ r.stmt) (n : cs ≡ r.clocks) where
      done : flat_done S t ≡ source_done here.names s
      done = ap (flat_done S) q ∙ h.same

      good : IsWellStmt s → good_stmt S t ≡ true
      good w = ap (good_stmt S) q ∙ h.good w

      listed : cs ≡ clocks_in (stmt_sites here.names s)
      listed = clocks-same cs (h.clocks ∙ sym n)

      pub comb-answer : (m : Result FlatPart PartsError) → IfOk m (λ p. p ≡ flat_block cs (b.Combinational t)) → IfErr m (λ z. z ≡ e.NoMemory) → CombAnswer S here path s place m
      comb-answer (Err z) i j = record { right = tt; wrong = subst (λ (u : PartsError). Told u) (sym j) tt }
      comb-answer (Ok p) i j = subst (λ (u : FlatPart). CombAnswer S here path s place (Ok u)) (sym i) (record {
        right = record {
          view = combinational_alike S path place cs here.names s t done ∙
              ap (λ (ns : List ℕ). view_of (record { at = record { path = path; place = place }; clocks = ns; body = Comb here.names s })) listed;
          good = good;
          clean = h.sound;
        };
        wrong = tt;
      })

      pub clocked-answer : (edge : FlatName) (m : Result FlatPart PartsError) → IfOk m (λ p. p ≡ flat_block cs (b.Clocked edge t)) → IfErr m (λ z. z ≡ e.NoMemory) →
          ClockedAnswer S here path edge s place m
      clocked-answer edge (Err z) i j = record { at = λ clock g. record { right = tt; wrong = subst (λ (u : PartsError). Told u) (sym j) tt } }
      clocked-answer edge (Ok p) i j = record {
        at = λ clock g. subst (λ (u : FlatPart). Block (Clocked here.names clock s) (Ok u)) (sym i) (record {
          right = record {
            view = clocked_alike S path place cs here.names clock s edge t g.sort g.place done ∙
                ap (λ (ns : List ℕ). view_of (record { at = record { path = path; place = place }; clocks = ns; body = Clocked here.names clock s })) listed;
            good = λ w. and-both (is_declared_sort (signal_at S edge.signal).sort) (good_stmt S t) g.declared (good w);
            clean = h.sound;
          };
          wrong = tt;
        });
      }

    -- ---- an `always`

    told-before : (watch : Watch) (z : PartsError) → Told z → IsToldAlways here watch s z
    told-before watch (e.Fault a) h = Contains-append_left (stmt_faults here s (kind_of a)) (watch_rules here.names watch (kind_of a)) (place_of a) h
    told-before watch e.Limit h = h
    told-before watch e.NoMemory h = tt

    watched : (watch : Watch) (body : Body) (m : Result FlatPart PartsError) → edge_faults here.names watch ≡ [] → Block body m →
        MadeAnswer S (part_of path place (stmt_sites here.names s) body) (IsWellStmt s) (IsCleanAlways here watch s) (λ z. IsToldAlways here watch s z) m
    watched watch body (Ok p) c a = record {
      right = record { view = a.right.view; good = a.right.good; clean = record { stmts = a.right.clean; edge = c } };
      wrong = tt;
    }
    watched watch body (Err z) c a = record { right = tt; wrong = told-before watch z a.wrong }

    pub always-Star : (watch : Watch) (m : Result FlatPart PartsError) → watch ≡ w.Star → CombAnswer S here path s place m → BlockAnswer S here path watch s place m
    always-Star watch m q a = subst (λ (u : Watch). BlockAnswer S here path u s place m) (sym q) (watched w.Star (Comb here.names s) m refl a)

    pub always-Closed : (watch : Watch) (m : Result FlatPart PartsError) → watch ≡ w.Closed → CombAnswer S here path s place m → BlockAnswer S here path watch s place m
    always-Closed watch m q a = subst (λ (u : Watch). BlockAnswer S here path u s place m) (sym q) (watched w.Closed (Comb here.names s) m refl a)

    pub always-Posedge : (watch : Watch) (clock : Ident) (edge : FlatName) (m : Result FlatPart PartsError) → watch ≡ w.Posedge clock → IsEdge S here clock edge →
        ClockedAnswer S here path edge s place m → BlockAnswer S here path watch s place m
    always-Posedge watch clock edge m q g a = subst (λ (u : Watch). BlockAnswer S here path u s place m) (sym q)
        (watched (w.Posedge clock) (Clocked here.names clock s) m (ap (λ c. place_if c clock.place) g.known) (a.at clock g))

    edge-told : (clock : Ident) (z : PartsError) → IsNoEdge here clock z → IsToldAlways here (w.Posedge clock) s z
    edge-told clock (e.Fault a) h = subst (λ (u : Fault). IsToldAlways here (w.Posedge clock) s (e.Fault u)) (sym h.0)
        (Contains-append_right (stmt_faults here s UnknownName) (edge_faults here.names (w.Posedge clock)) clock.place
        (in-same _ _ clock.place (sym (ap (λ c. place_if c clock.place) h.1)) (0, omega arith, refl)))
    edge-told clock e.Limit h = absurd h
    edge-told clock e.NoMemory h = tt

    pub no-edge : (watch : Watch) (clock : Ident) (z : PartsError) → watch ≡ w.Posedge clock → IsNoEdge here clock z → BlockAnswer S here path watch s place (Err z)
    no-edge watch clock z q h = subst (λ (u : Watch). BlockAnswer S here path u s place (Err z)) (sym q) (record { right = tt; wrong = edge-told clock z h })
