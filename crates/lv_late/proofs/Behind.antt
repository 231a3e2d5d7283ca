-- The constants of a scope where so many declarations stand before.
use Rattle.std.proofs.Common.{◌≡◌, ℕ, Bool, true, List, ◌++◌, take, ap, ◌∙◌, sym, flat_map, Some}
use Rattle.std.proofs.lemmas.Grind.{flat_map-append}
use Rattle.lv_ast.specs.declared.expr.Path.{Path}
use Rattle.lv_ast.specs.declared.expr.Expr.{Expr}
use Rattle.lv_ast.specs.declared.item.Range.{Range}
use Rattle.lv_source.specs.Names.{Names, Bounds}
use Rattle.lv_source.specs.Values.{number_of, nowhere}
use Rattle.lv_source.specs.Meaning.{Reading}
use Rattle.lv_source.specs.Scopes.{here_at, bound, bound_number, bounds_of}
use Rattle.lv_source.specs.ScopeRules.{range_sites}
use Rattle.lv_source.specs.Sites.{Site, expr_sites}
use Rattle.lv_source.proofs.Bridges.{two}
use Rattle.lv_source.proofs.Each.{each-imp}
use Rattle.lv_const.specs.Answers.{Sound}
use Rattle.lv_const.specs.Faults.{form_faults}
use Rattle.lv_const.proofs.Told.{first-empty, second-empty}
use Rattle.lv_resolve.specs.Late.{paths_in}
use Rattle.lv_symbols.specs.Frames.{Frame, IsScope, constants_behind}
use Rattle.lv_late.proofs.ScopeNames.{behind-alike}
use Rattle.lv_late.proofs.SameReads.{Alike, same-reads}
use Rattle.lv_late.proofs.Roots.{IsEarly, all-early}

-- ---- parts

pub sound-left : (early : Path → Bool) (xs ys : List Site) → Sound early (xs ++ ys) → Sound early xs
sound-left early xs ys h =
    record { none = first-empty (flat_map (form_faults early) xs) (flat_map (form_faults early) ys) (sym (flat_map-append (form_faults early) xs ys) ∙ h.none) }

pub sound-right : (early : Path → Bool) (xs ys : List Site) → Sound early (xs ++ ys) → Sound early ys
sound-right early xs ys h =
    record { none = second-empty (flat_map (form_faults early) xs) (flat_map (form_faults early) ys) (sym (flat_map-append (form_faults early) xs ys) ∙ h.none) }

module _ (f : Frame) (h : IsScope f) (k : ℕ) where
  abbrev pub behind : Names
  behind = constants_behind f (take k f.scope.declarations)

  same-number : (x : Expr) → Sound (here_at f.scope k).early (expr_sites true f.scope.names 0 x) → bound_number behind x ≡ bound_number f.scope.names x
  same-number x s =
      ap (λ (r : Reading). number_of r.meaning nowhere)
      (same-reads behind f.scope.names x
      (each-imp (IsEarly (here_at f.scope k)) (Alike behind f.scope.names) (paths_in x) (λ p e. behind-alike f h p k e) (all-early (here_at f.scope k) x _ _ _ s)))

  -- bounds without a fault are the same where the range stands
  pub same-bounds : (r : Range) → Sound (here_at f.scope k).early (range_sites f.scope.names (Some r)) → bounds_of behind r ≡ bounds_of f.scope.names r
  same-bounds r s =
      let ls : List Site = expr_sites true f.scope.names 0 r.left in
      let rs : List Site = expr_sites true f.scope.names 0 r.right in
      two (λ a b. let z : Bounds = record { left = bound a; right = bound b } in z) (bound_number behind r.left) (bound_number f.scope.names r.left)
      (bound_number behind r.right) (bound_number f.scope.names r.right)
      (same-number r.left (sound-left (here_at f.scope k).early ls rs s)) (same-number r.right (sound-right (here_at f.scope k).early ls rs s))
