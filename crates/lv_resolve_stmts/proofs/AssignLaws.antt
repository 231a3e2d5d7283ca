-- Assignments from what their sides are answered to be.
use Rattle.std.proofs.Common.{◌≡◌, inl, inr, ℕ, Bool, true, false, ◌&&◌, List, [], ◌∷◌, ◌++◌, ap, ◌∙◌, sym, subst, refl, flat_map, Ok, Err, Result, arith}
use Rattle.std.specs.Prelude.{IfOk, IfErr}
use Rattle.std.specs.List.{Contains}
use Rattle.std.proofs.lemmas.Grind.{flat_map-append}
use Rattle.std.proofs.lemmas.List.{map-append}
use Rattle.std.proofs.lemmas.List.Elements.{Contains-append_left, Contains-append_right}
use Rattle.lv_ast.specs.declared.expr.Expr.{Expr}
use Rattle.lv_ast.specs.declared.stmt.Target.{Target}
use Rattle.lv_source.specs.Names.{Here}
use Rattle.lv_source.specs.Meaning.{Reading, read_expr}
use Rattle.lv_source.specs.Effect.{pieces}
use Rattle.lv_source.specs.Faults.{site_faults}
use Rattle.lv_source.specs.Legal.{UnknownName, NotConstant, ZeroDivisor, Range, ClockUse}
use Rattle.lv_source.specs.ScopeRules.{target_fault}
use Rattle.lv_source.specs.Sites.{Site, Spot, Written, spots, expr_sites, target_sites}
use Rattle.lv_source.specs.Standing.{Standing, Assign, one, target_width}
use Rattle.lv_source.proofs.Bridges.{two}
use Rattle.lv_const.proofs.Told.{none-joined}
use Rattle.lv_flat.specs.declared.stmt.FlatTarget.{FlatTarget}
use Rattle.lv_flat.specs.declared.expr.FlatExpr.{FlatExpr}
use Rattle.lv_flat.specs.Signals.{Signals}
use Rattle.lv_flat.specs.Judged.{reading, is_good}
use Rattle.lv_flat.specs.Executing as flat
use Rattle.lv_flat.specs.Good.{good_stmt, good_target}
use Rattle.lv_flat.proofs.Doings.{Goal, goal_of}
use Rattle.lv_flat.proofs.FlatDoings.{flat_done, flat-Now, flat-Later}
use Rattle.lv_flat.proofs.GoodParts.{good-Now, good-Later}
use Rattle.lv_resolve.specs.declared.error.ResolveError.{ResolveError}
use Rattle.lv_resolve.specs.declared.goal.ResolvedTarget.{ResolvedTarget}
use Rattle.lv_resolve.specs.declared.resolved.Resolved.{Resolved}
use Rattle.lv_resolve.specs.Forms.{has_operands}
use Rattle.lv_resolve.specs.Targets.{IsTarget, IsNoTarget, has_target_operands}
use Rattle.lv_resolve.specs.Resolved.{AreFaultless, IsToldOf, IsResolved}
use Rattle.lv_resolve.proofs.Nodes.{and-left, and-right, and-both}
use Rattle.lv_resolve.proofs.Covers.{in-same}
use Rattle.lv_resolve_stmts.specs.declared.error.StmtError.{StmtError}
use Rattle.lv_resolve_stmts.specs.declared.error.StmtError.TheVariants as x
use Rattle.lv_resolve_stmts.specs.declared.resolved.ResolvedStmt.{ResolvedStmt}
use Rattle.lv_resolve_stmts.specs.Statements.{StmtAnswer, IsFaultOf, memory, of_node}
use Rattle.lv_resolve_stmts.specs.Joins.{IsWritten, flat_assignment, done_write}
use Rattle.lv_resolve_stmts.proofs.Lists.{sound-one, fault-one, append-nil}
use Rattle.lv_resolve_stmts.proofs.StmtLaws.{node-fault}

pub faultless-both : (xs ys : List Spot) → AreFaultless xs → AreFaultless ys → AreFaultless (xs ++ ys)
faultless-both xs ys h k = record {
  unknown = none-joined (site_faults UnknownName) xs ys h.unknown k.unknown;
  unfixed = none-joined (site_faults NotConstant) xs ys h.unfixed k.unfixed;
  zero = none-joined (site_faults ZeroDivisor) xs ys h.zero k.zero;
  range = none-joined (site_faults Range) xs ys h.range k.range;
}

flat-same : (S : Signals) (now : Bool) (t : FlatTarget) (e : FlatExpr) (at : ℕ) →
    flat_done S (flat_assignment now t e at) ≡ done_write now (goal_of (flat.pieces S t)) (reading S e) at
flat-same S true t e at = flat-Now S t e at
flat-same S false t e at = flat-Later S t e at

flat-good : (S : Signals) (now : Bool) (t : FlatTarget) (e : FlatExpr) (at : ℕ) → good_stmt S (flat_assignment now t e at) ≡ (good_target S t && is_good S e)
flat-good S true t e at = good-Now S t e at
flat-good S false t e at = good-Later S t e at

module _ (S : Signals) (here : Here) (now : Bool) (t : Target) (c : Expr) (at : ℕ) where
  abbrev k : Standing
  k = record { here = here; form = Assign now t c }

  abbrev left : List Site
  left = target_sites here.names Written t

  abbrev right : List Site
  right = expr_sites false here.names (target_width here.names t) c

  parts : spots here (left ++ right) ≡ spots here left ++ spots here right
  parts = map-append (λ (s : Site). (let p : Spot = record { early = here.early; site = s } in p)) left right

  abbrev pub Answer : Result ResolvedStmt StmtError → Type 0
  Answer r = StmtAnswer S (one here (Assign now t c)) (done_write now (goal_of (pieces here.names t)) (read_expr here.names c) at) (has_target_operands t && has_operands c) r

  in-left : (f : Spot → List ℕ) (p : ℕ) → Contains (flat_map f (spots here left)) p → Contains (flat_map f (spots here (left ++ right))) p
  in-left f p h = in-same _ _ p (sym (ap (flat_map f) parts ∙ flat_map-append f (spots here left) (spots here right)))
      (Contains-append_left (flat_map f (spots here left)) (flat_map f (spots here right)) p h)

  in-right : (f : Spot → List ℕ) (p : ℕ) → Contains (flat_map f (spots here right)) p → Contains (flat_map f (spots here (left ++ right))) p
  in-right f p h = in-same _ _ p (sym (ap (flat_map f) parts ∙ flat_map-append f (spots here left) (spots here right)))
      (Contains-append_right (flat_map f (spots here left)) (flat_map f (spots here right)) p h)

  pub target-none : (e : ResolveError) → IsNoTarget here false t e → Answer (Err (of_node e))
  target-none e h = record {
    right = tt;
    wrong = elim h [
      | inl w ↦ node-fault k (spots here left) e in-left w
      | inr w ↦ subst (λ v. IsFaultOf (k ∷ []) (of_node v)) (sym w.2) (fault-one k (x.Range w.0)
          (Contains-append_right (flat_map (site_faults Range) (spots here (left ++ right))) (target_fault here.names t) w.0
          (in-same _ _ w.0 (sym w.1) (0, omega arith, refl))))
    ];
  }

  module _ (to : ResolvedTarget) (g : IsTarget S here false t to) where
    pub value-none : (e : ResolveError) → IsToldOf (spots here (expr_sites false here.names to.width c)) e → Answer (Err (of_node e))
    value-none e h = record {
      right = tt;
      wrong = node-fault k (spots here right) e in-right (subst (λ w. IsToldOf (spots here (expr_sites false here.names w c)) e) g.width h);
    }

    module _ (from : Resolved) (v : IsResolved S here (spots here (expr_sites false here.names to.width c)) c from) where
      there : IsResolved S here (spots here right) c from
      there = subst (λ w. IsResolved S here (spots here (expr_sites false here.names w c)) c from) g.width v

      pub assign-answer : (r : Result ResolvedStmt StmtError) → IfOk r (IsWritten now to from at) → IfErr r (λ e. e ≡ x.NoMemory) → Answer r
      assign-answer (Err e) i m = record { right = tt; wrong = memory m }
      assign-answer (Ok r) i m = record {
        right = record {
          same = ap (flat_done S) i.stmt ∙ (flat-same S now to.target from.expr at ∙ two (λ (p : Goal) (q : Reading). done_write now p q at) _ _ _ _ g.goal there.same);
          good = λ q. ap (good_stmt S) i.stmt ∙ (flat-good S now to.target from.expr at ∙ and-both (good_target S to.target) (is_good S from.expr)
              (g.good (and-left (has_target_operands t) (has_operands c) q)) (there.good (and-right (has_target_operands t) (has_operands c) q)));
          sound = sound-one k (record {
            nodes = subst AreFaultless (sym parts) (faultless-both (spots here left) (spots here right) g.faultless there.faultless);
            names = refl;
            ranges = g.fits;
            defaults = refl;
          });
          clocks = append-nil _ ∙ (ap (flat_map (site_faults ClockUse)) parts ∙ (flat_map-append (site_faults ClockUse) (spots here left) (spots here right) ∙
              (two (λ (p q : List ℕ). p ++ q) _ _ _ _ g.clocks there.clocks ∙ sym i.clocks)));
        };
        wrong = tt;
      }
