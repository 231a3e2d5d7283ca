-- Nets with values.
use Rattle.std.proofs.Common.{◌≡◌, ℕ, Bool, true, false, List, [], ◌∷◌, refl, sym, ap, ◌∙◌, subst, Option, Some, None, Result, Ok, Err}
use Rattle.std.specs.Prelude.{slice_get, IfOk, IfErr}
use Rattle.lv_ast.specs.declared.expr.Expr.{Expr}
use Rattle.lv_ast.specs.declared.expr.Path.{Path}
use Rattle.lv_ast.specs.declared.stmt.Ident.{Ident}
use Rattle.lv_ast.specs.declared.item.NetName.{NetName}
use Rattle.lv_ast.specs.Names.{Name, alone}
use Rattle.lv_source.specs.Names.{Here, Declared, known, width_of}
use Rattle.lv_source.specs.Meaning.{read_expr}
use Rattle.lv_source.specs.Sites.{Site, spots, expr_sites}
use Rattle.lv_source.specs.ScopeRules.{maybe_sites}
use Rattle.lv_source.specs.PartSites.{clocks_in}
use Rattle.lv_source.specs.Parts.{Part, At, whole_piece, is_declared_sort}
use Rattle.lv_source.specs.Views.{view_of}
use Rattle.lv_const.specs.declared.consts.Entry.{Entry}
use Rattle.lv_flat.specs.declared.expr.FlatExpr.{FlatExpr}
use Rattle.lv_flat.specs.declared.stmt.FlatTarget.{FlatTarget}
use Rattle.lv_flat.specs.declared.stmt.FlatTarget.TheVariants as t
use Rattle.lv_flat.specs.declared.part.FlatPart.{FlatPart}
use Rattle.lv_flat.specs.declared.signal.Signal.{Signal}
use Rattle.lv_flat.specs.Signals.{Signals, signal_at, declared_all}
use Rattle.lv_flat.proofs.Bridge.{assign_view, source-Assign}
use Rattle.lv_flat.proofs.Doings.{Goal, goal_of, goal_one}
use Rattle.lv_resolve.specs.declared.resolved.Resolved.{Resolved}
use Rattle.lv_resolve.specs.Forms.{has_operands}
use Rattle.lv_resolve.specs.Places.{AreNames}
use Rattle.lv_resolve.specs.Resolved.{AreFaultless, IsResolved}
use Rattle.lv_resolve.proofs.SelectArms.{no-signal}
use Rattle.lv_sinks.specs.Connected.{IsInputPart}
use Rattle.lv_sinks.proofs.PartLaws.{made, input-right, signal-width, signal-fits}
use Rattle.lv_parts.specs.declared.error.PartsError.{PartsError}
use Rattle.lv_parts.specs.declared.error.PartsError.TheVariants as e
use Rattle.lv_parts.specs.Errors.{IsToldBy}
use Rattle.lv_parts.specs.Made.{AddAnswer, MadeAnswer, IsPut}
use Rattle.lv_parts.specs.Nets.{port_piece, part_of, node_faults, net_width, value_part, net_sites, WholeAnswer, ValueAnswer, NetAnswer, IsWellNamed, IsWellNet}
use Rattle.lv_parts.proofs.AddLaws.{put-answer, eased}

-- ---- an expression that the whole of a signal takes

module _ (S : Signals) (here : Here) (path : Name) (signal width : ℕ) (x : Expr) (place : ℕ) where
  pub whole-answer : (found : Resolved) (value : FlatExpr) (cs : List ℕ) (target : FlatTarget) → IsResolved S here (spots here (expr_sites false here.names width x)) x found →
      value ≡ found.expr → cs ≡ found.clocks → target ≡ t.Signal (record { signal = signal; place = place }) [] → (r : Result FlatPart PartsError) →
      IfOk r (λ p. p ≡ made path place cs target value) → IfErr r (λ z. z ≡ e.NoMemory) → WholeAnswer S here path signal width x place r
  whole-answer found value cs target q a b c (Ok p) m n =
      let w : IsInputPart S here path signal width x place p = (input-right S here path signal x place width found value cs target p q a b c m).right in
      record { right = record { view = w.view; good = λ k. w.good k.operands k.sort k.array k.fits; clean = w.faultless }; wrong = tt }
  whole-answer found value cs target q a b c (Err z) m n = record {
    right = tt;
    wrong = subst (IsToldBy (node_faults here (expr_sites false here.names width x)) ⊥) (sym n) tt;
  }

-- ---- a net

module _ (ss : List Signal) (find : Path → Option ℕ) (all early : List Entry) (here : Here) (ok : AreNames (declared_all ss) find all early here) where
  pub no-net : (p : Path) (k : ℕ) → Some k ≡ find p → None ≡ slice_get ss k → ⊥
  no-net p k f h = no-signal ss k h (ok.declared p k (sym f))

  module _ (path : Name) (name : Ident) (x : Expr) (k : ℕ) (f : Some k ≡ find (alone name.name)) (z : Signal) (m : Some z ≡ slice_get ss k) where
    abbrev S : Signals
    S = declared_all ss

    there : here.names (alone name.name) ≡ Some (signal_at S k)
    there = ok.found (alone name.name) k (sym f)

    wide : net_width here.names name.name ≡ z.width
    wide = ap (λ (o : Option Declared). width_of (known o)) there ∙ signal-width ss k z m

    piece-same : goal_of (port_piece S k name.place ∷ []) ≡ goal_of (whole_piece here.names name.place name.name ∷ [])
    piece-same = goal_one (port_piece S k name.place) (whole_piece here.names name.place name.name) (sym (ap known there)) refl tt

    abbrev sites : List Site
    sites = expr_sites false here.names (net_width here.names name.name) x

    abbrev at : At
    at = record { path = path; place = name.place }

    named-answer : (r : Result FlatPart PartsError) → WholeAnswer S here path k (net_width here.names name.name) x name.place r → ValueAnswer S here path name x r
    named-answer (Ok p) a = record {
      right = record {
        view = a.right.view ∙ (source-Assign at (clocks_in sites) (port_piece S k name.place ∷ []) (read_expr here.names x) ∙
            (ap (λ (g : Goal). assign_view at (clocks_in sites) g (read_expr here.names x)) piece-same ∙
            sym (source-Assign at (clocks_in sites) (whole_piece here.names name.place name.name ∷ []) (read_expr here.names x))));
        good = λ w. a.right.good (record {
          operands = w.operands;
          sort = ok.declared (alone name.name) k (sym f);
          array = ap (λ (o : Option Declared). (known o).array) (sym there) ∙ w.array;
          fits = signal-fits ss k z m;
        });
        clean = a.right.clean;
      };
      wrong = tt;
    }
    named-answer (Err y) a = record { right = tt; wrong = a.wrong }

    pub value-answer : (r : Result FlatPart PartsError) → WholeAnswer S here path k z.width x name.place r → ValueAnswer S here path name x r
    value-answer r a = named-answer r (subst (λ w. WholeAnswer S here path k w x name.place r) (sym wide) a)

-- ---- with a value or without

module _ (S : Signals) (here : Here) (path : Name) (n : NetName) (x : Expr) (v : n.value ≡ Some x) where
  abbrev by_sites : Option Expr → List Site
  by_sites o = maybe_sites false here.names (net_width here.names n.name.name) o

  abbrev by_parts : Option Expr → List Part
  by_parts o = elim o [ None ↦ [] | Some y ↦ value_part here.names path n.name y ∷ [] ]

  abbrev by_operands : Option Expr → Bool
  by_operands o = elim o [ None ↦ true | Some y ↦ has_operands y ]

  abbrev By : Option Expr → List FlatPart → List FlatPart → Result (Unit {0}) PartsError → Type 0
  By o old new r = AddAnswer S (by_parts o) (IsWellNet here.names n) (AreFaultless (spots here (by_sites o))) (λ y. IsToldBy (node_faults here (by_sites o)) ⊥ y) old new r

  well : IsWellNet here.names n → IsWellNamed here.names n.name x
  well w = record { operands = sym (ap by_operands v) ∙ w.operands; array = w.array }

  pub net-answer : (y : Expr) (m : Result FlatPart PartsError) (old new : List FlatPart) (r : Result (Unit {0}) PartsError) → y ≡ x → ValueAnswer S here path n.name y m →
      IsPut m old new r → NetAnswer S here path n old new r
  net-answer y m old new r q a h =
      let b : ValueAnswer S here path n.name x m = subst (λ (u : Expr). ValueAnswer S here path n.name u m) q a in
      subst (λ (o : Option Expr). By o old new r) (sym v)
      (put-answer S (value_part here.names path n.name x) (IsWellNet here.names n) (AreFaultless (spots here (by_sites (Some x))))
      (λ z. IsToldBy (node_faults here (by_sites (Some x))) ⊥ z) m old new r tt
      (eased S (value_part here.names path n.name x) (IsWellNamed here.names n.name x) (AreFaultless (spots here (by_sites (Some x))))
      (λ z. IsToldBy (node_faults here (by_sites (Some x))) ⊥ z) (IsWellNet here.names n) well m b) h)
