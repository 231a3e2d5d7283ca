-- Faults of a value at whatever width it is taken.
use Rattle.std.proofs.Common.{◌≡◌, ℕ, ◌≤◌, max, Bool, true, List, ap, ◌∙◌, subst, refl, Option, Some, None}
use Rattle.lv_ast.specs.declared.expr.Path.{Path}
use Rattle.lv_ast.specs.declared.expr.Expr.{Expr}
use Rattle.lv_source.specs.Names.{Names, Here, Declared}
use Rattle.lv_source.specs.Sites.{Site, walk, first_place, expr_sites, spots}
use Rattle.lv_const.specs.declared.consts.Entry.{Entry}
use Rattle.lv_const.specs.declared.error.ConstError.{ConstError}
use Rattle.lv_const.specs.declared.error.ConstError.TheVariants as y
use Rattle.lv_const.specs.Constants.{names_of}
use Rattle.lv_const.specs.Public.{IsOwnOf, IsOwnRefusal}
use Rattle.lv_const.specs.Answers as const
use Rattle.lv_const.specs.Refusals.{IsFault}
use Rattle.lv_const.specs.Refusals as refused
use Rattle.lv_const.proofs.Refusals.{own-refused}
use Rattle.lv_const.proofs.Told.{told-too}
use Rattle.lv_flat.specs.Signals.{Signals}
use Rattle.lv_resolve.specs.Late.{late_by, late_of, first_late, paths_in}
use Rattle.lv_resolve.specs.Places.{AreNames}
use Rattle.lv_resolve.specs.Resolved.{IsToldOf}
use Rattle.lv_resolve.specs.declared.error.ResolveError.{ResolveError}
use Rattle.lv_resolve.specs.declared.error.ResolveError.TheVariants as x
use Rattle.lv_resolve.proofs.Answered.{told-of}
use Rattle.lv_resolve.proofs.LateLaws.{AreBound, are-bound, late-told, late-never}
use Rattle.lv_late.specs.Lates.{is_fault}
use Rattle.lv_late.proofs.LateSites.{first-fault}
use Rattle.lv_late.specs.Settings.{IsFormedValue, IsFaultyValue, kind_of}

some-fault : (a q : ResolveError) → is_fault a ≡ true → Some a ≡ Some q → is_fault q ≡ true
some-fault a q h e = ap is_fault (let k : q ≡ a = cc in k) ∙ h

by-fault : (a : Option Declared) (k : Option ℕ) (b : Option Declared) (place : ℕ) (q : ResolveError) → late_by a k b place ≡ Some q → is_fault q ≡ true
by-fault (Some d) k b place q h = absurd (cc)
by-fault None (Some k) b place q h = some-fault (x.NotConstant place) q refl h
by-fault None None (Some d) place q h = some-fault (x.NotConstant place) q refl h
by-fault None None None place q h = some-fault (x.UnknownName place) q refl h

of-fault : (find : Path → Option ℕ) (all early : Names) (p : Path) (q : ResolveError) → late_of find all early p ≡ Some q → is_fault q ≡ true
of-fault find all early p q h = by-fault (early p) (find p) (all p) p.place q h

pub kind-fault : (z : ConstError) → is_fault (kind_of z) ≡ true
kind-fault (y.NoValue p) = refl
kind-fault (y.Range p) = refl
kind-fault (y.ZeroDivisor p) = refl

module _ (S : Signals) (find : Path → Option ℕ) (all early : List Entry) (here : Here) (ok : AreNames S find all early here) (v : Expr) where
  bound : AreBound S find (names_of all) (names_of early) here
  bound = are-bound S find all early here ok

  abbrev late : Option ResolveError
  late = first_late (late_of find (names_of all) (names_of early)) (paths_in v)

  abbrev sites : ℕ → List Site
  sites width = expr_sites true here.names width v

  abbrev first : ℕ
  first = first_place (walk here.names v).shown

  abbrev signed : Bool
  signed = (walk here.names v).shown.reading.meaning.signed

  abbrev wide : ℕ → ℕ
  wide width = max width (walk here.names v).shown.reading.meaning.width

  -- a late name
  pub late-faulty : (q : ResolveError) → Some q ≡ late → IsFaultyValue here v q
  late-faulty q h = record {
    fault = first-fault (late_of find (names_of all) (names_of early)) (of-fault find (names_of all) (names_of early)) (paths_in v) q h;
    told = λ width. told-of here (sites width) q (late-told S find (names_of all) (names_of early) here bound v first (wide width) signed q h).found;
  }

  pub never-late : None ≡ late → (width p : ℕ) → const.Told here.early (sites width) (y.NoValue p) → ⊥
  never-late h width p t = late-never S find (names_of all) (names_of early) here bound v first (wide width) signed p h t

  pub formed-value : None ≡ late → (w : ℕ) (s : Bool) → IsOwnOf here v w s → IsFormedValue here v
  formed-value h w s o = record { some = subst (λ z. 1 ≤ z) o.width o.some; named = never-late h }

  -- why it has no width
  by-kind : (width : ℕ) (z : ConstError) → None ≡ late → IsOwnRefusal here v z → IsFault here (spots here (sites width)) z → IsToldOf (spots here (sites width)) (kind_of z)
  by-kind width (y.NoValue p) h o f =
      absurd (never-late h width p (told-too here.early true (sites width) (y.NoValue p) (o.told (Some first) (wide width) signed)))
  by-kind width (y.Range p) h o (refused.range f) = f
  by-kind width (y.ZeroDivisor p) h o (refused.zero f) = f

  pub refused-faulty : None ≡ late → (z : ConstError) → IsOwnRefusal here v z → IsFaultyValue here v (kind_of z)
  refused-faulty h z o = record { fault = kind-fault z; told = λ width. by-kind width z h o (own-refused here v z first (wide width) signed o) }
