-- Continuous assignments from what their sides are answered to be.
use Rattle.std.proofs.Common.{◌≡◌, ℕ, Bool, true, false, List, [], ◌∷◌, ◌++◌, refl, sym, ap, ◌∙◌, subst, inl, inr, Result, Ok, Err, arith}
use Rattle.std.specs.Prelude.{flat_map}
use Rattle.std.specs.List.{Contains}
use Rattle.std.proofs.lemmas.Grind.{flat_map-append}
use Rattle.std.proofs.lemmas.List.{map-append}
use Rattle.std.proofs.lemmas.List.Elements.{Contains-append_left, Contains-append_right}
use Rattle.lv_ast.specs.declared.expr.Expr.{Expr}
use Rattle.lv_ast.specs.declared.item.Continuous.{Continuous}
use Rattle.lv_ast.specs.Names.{Name}
use Rattle.lv_source.specs.Names.{Here}
use Rattle.lv_source.specs.Effect.{pieces}
use Rattle.lv_source.specs.Meaning.{read_expr}
use Rattle.lv_source.specs.Faults.{site_faults}
use Rattle.lv_source.specs.Legal.{Kind, UnknownName, NotConstant, ZeroDivisor, Range, ClockUse}
use Rattle.lv_source.specs.ScopeRules.{target_fault}
use Rattle.lv_source.specs.Sites.{Site, Spot, Driven, spots, expr_sites, target_sites}
use Rattle.lv_source.specs.Standing.{target_width}
use Rattle.lv_source.specs.PartSites.{assign_sites}
use Rattle.lv_source.specs.Parts.{Assign}
use Rattle.lv_source.specs.Views.{view_of}
use Rattle.lv_source.proofs.Bridges.{two}
use Rattle.lv_flat.specs.declared.part.FlatPart.{FlatPart}
use Rattle.lv_flat.specs.Signals.{Signals}
use Rattle.lv_flat.specs.Good.{good_target}
use Rattle.lv_flat.specs.FlatViews.{flat_view}
use Rattle.lv_flat.specs.Judged.{is_good}
use Rattle.lv_flat.proofs.Bridge.{assign_alike}
use Rattle.lv_resolve.specs.declared.error.ResolveError.{ResolveError}
use Rattle.lv_resolve.specs.declared.error.ResolveError.TheVariants as y
use Rattle.lv_resolve.specs.declared.goal.ResolvedTarget.{ResolvedTarget}
use Rattle.lv_resolve.specs.declared.resolved.Resolved.{Resolved}
use Rattle.lv_resolve.specs.Forms.{has_operands}
use Rattle.lv_resolve.specs.Targets.{IsTarget, IsNoTarget, has_target_operands}
use Rattle.lv_resolve.specs.Resolved.{AreFaultless, IsToldOf, IsResolved}
use Rattle.lv_resolve.proofs.Covers.{in-same}
use Rattle.lv_resolve.proofs.Nodes.{and-left, and-right, and-both}
use Rattle.lv_resolve_stmts.proofs.AssignLaws.{faultless-both}
use Rattle.lv_parts.specs.declared.error.PartsError.{PartsError}
use Rattle.lv_parts.specs.declared.error.PartsError.TheVariants as e
use Rattle.lv_parts.specs.Errors.{of_node}
use Rattle.lv_parts.specs.Assigns.{JoinedAnswer, AssignedAnswer, IsToldAssign, assign_rules, assign_faults}
use Rattle.lv_parts.specs.Nets.{node_faults}
use Rattle.lv_parts.proofs.Tellings.{clocks-of}

module _ (S : Signals) (here : Here) (path : Name) (a : Continuous) where
  abbrev left : List Site
  left = target_sites here.names Driven a.target

  abbrev right : List Site
  right = expr_sites false here.names (target_width here.names a.target) a.value

  parted : spots here (left ++ right) ≡ spots here left ++ spots here right
  parted = map-append (λ (s : Site). (let p : Spot = record { early = here.early; site = s } in p)) left right

  abbrev pub Answer : Result FlatPart PartsError → Type 0
  Answer r = AssignedAnswer S here path a r

  in-left : (kind : Kind) (p : ℕ) → Contains (node_faults here left kind) p → Contains (assign_faults here a kind) p
  in-left kind p h = Contains-append_left (node_faults here (left ++ right) kind) (assign_rules here.names a kind) p
      (in-same _ _ p (sym (ap (flat_map (site_faults kind)) parted ∙ flat_map-append (site_faults kind) (spots here left) (spots here right)))
      (Contains-append_left (node_faults here left kind) (node_faults here right kind) p h))

  in-right : (kind : Kind) (p : ℕ) → Contains (node_faults here right kind) p → Contains (assign_faults here a kind) p
  in-right kind p h = Contains-append_left (node_faults here (left ++ right) kind) (assign_rules here.names a kind) p
      (in-same _ _ p (sym (ap (flat_map (site_faults kind)) parted ∙ flat_map-append (site_faults kind) (spots here left) (spots here right)))
      (Contains-append_right (node_faults here left kind) (node_faults here right kind) p h))

  from-nodes : (sites : List Site) → ((kind : Kind) (p : ℕ) → Contains (node_faults here sites kind) p → Contains (assign_faults here a kind) p) → (z : ResolveError) →
      IsToldOf (spots here sites) z → IsToldAssign here (of_node z) a
  from-nodes sites f (y.UnknownName p) h = f UnknownName p h
  from-nodes sites f (y.NotConstant p) h = f NotConstant p h
  from-nodes sites f (y.ZeroDivisor p) h = f ZeroDivisor p h
  from-nodes sites f (y.Range p) h = f Range p h
  from-nodes sites f y.NoMemory h = tt

  pub target-none : (z : ResolveError) (x : PartsError) → x ≡ of_node z → IsNoTarget here true a.target z → Answer (Err x)
  target-none z x q h = subst (λ (u : PartsError). Answer (Err u)) (sym q) (record {
    right = tt;
    wrong = elim h [
      | inl w ↦ from-nodes left in-left z w
      | inr w ↦ subst (λ (u : ResolveError). IsToldAssign here (of_node u) a) (sym w.2)
          (Contains-append_right (node_faults here (left ++ right) Range) (target_fault here.names a.target) w.0 (in-same _ _ w.0 (sym w.1) (0, omega arith, refl)))
    ];
  })

  module _ (to : ResolvedTarget) (g : IsTarget S here true a.target to) (value : Expr) (c : value ≡ a.value) where
    pub value-none : (z : ResolveError) (x : PartsError) → x ≡ of_node z → IsToldOf (spots here (expr_sites false here.names to.width value)) z → Answer (Err x)
    value-none z x q h = subst (λ (u : PartsError). Answer (Err u)) (sym q) (record {
      right = tt;
      wrong = from-nodes right in-right z
          (subst (λ (u : Expr). IsToldOf (spots here (expr_sites false here.names (target_width here.names a.target) u)) z) c
          (subst (λ w. IsToldOf (spots here (expr_sites false here.names w value)) z) g.width h));
    })

    module _ (from : Resolved) (v : IsResolved S here (spots here (expr_sites false here.names to.width value)) value from) where
      there : IsResolved S here (spots here right) a.value from
      there = subst (λ (u : Expr). IsResolved S here (spots here (expr_sites false here.names (target_width here.names a.target) u)) u from) c
          (subst (λ w. IsResolved S here (spots here (expr_sites false here.names w value)) value from) g.width v)

      clocks-same : to.clocks ++ from.clocks ≡ flat_map (site_faults ClockUse) (spots here (left ++ right))
      clocks-same = sym (ap (flat_map (site_faults ClockUse)) parted ∙ (flat_map-append (site_faults ClockUse) (spots here left) (spots here right) ∙
          two (λ (p q : List ℕ). p ++ q) _ _ _ _ g.clocks there.clocks))

      pub assign-answer : (r : Result FlatPart PartsError) → JoinedAnswer path a.place to from r → Answer r
      assign-answer (Err x) j = record { right = tt; wrong = subst (λ (u : PartsError). IsToldAssign here u a) (sym j.wrong) tt }
      assign-answer (Ok p) j = subst (λ (u : FlatPart). Answer (Ok u)) (sym j.right.same) (record {
        right = record {
          view = assign_alike S path a.place (to.clocks ++ from.clocks) (pieces here.names a.target) (read_expr here.names a.value) to.target from.expr g.goal there.same ∙
              ap (λ (cs : List ℕ). view_of (record {
                at = record { path = path; place = a.place };
                clocks = cs;
                body = Assign (pieces here.names a.target) (read_expr here.names a.value);
              })) (clocks-of here (left ++ right) (to.clocks ++ from.clocks) (sym clocks-same));
          good = λ w. and-both (good_target S to.target) (is_good S from.expr) (g.good (and-left (has_target_operands a.target) (has_operands a.value) w))
              (there.good (and-right (has_target_operands a.target) (has_operands a.value) w));
          clean = record { nodes = subst AreFaultless (sym parted) (faultless-both (spots here left) (spots here right) g.faultless there.faultless); fits = g.fits };
        };
        wrong = tt;
      })
