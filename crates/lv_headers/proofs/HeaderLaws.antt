-- The answer on a header, from that on its turns.
use Rattle.std.proofs.Common.{◌≡◌, inl, inr, ℕ, max, Bool, true, false, not, List, [], ◌∷◌, ◌++◌, map, refl, sym, ap, ◌∙◌, subst, append_assoc, flat_map}
use Rattle.std.specs.List.{Contains}
use Rattle.std.specs.Prelude.{bytes_eq}
use Rattle.lv_ast.specs.declared.expr.Path.{Path}
use Rattle.lv_ast.specs.declared.expr.Expr.{Expr}
use Rattle.lv_ast.specs.declared.stmt.Ident.{Ident}
use Rattle.lv_ast.specs.Names.{alone}
use Rattle.lv_source.specs.Names.{Names, Here}
use Rattle.lv_source.specs.ScopeRules.{is_index_of, header_names, place_if}
use Rattle.lv_source.specs.Sites.{Site, Spot, Walk, walk, spots, expr_sites, first_place}
use Rattle.lv_source.specs.Standing.{at_turn, header_spots}
use Rattle.lv_source.specs.Legal as kind
use Rattle.lv_source.specs.Faults.{site_faults}
use Rattle.lv_source.proofs.Bridges.{map-join}
use Rattle.lv_source.proofs.Summaries.{flat-join}
use Rattle.lv_const.specs.declared.error.ConstError.{ConstError}
use Rattle.lv_const.specs.declared.error.ConstError.TheVariants as y
use Rattle.lv_const.specs.Answers as const
use Rattle.lv_const.specs.Refusals.{IsFault, IsFormed, IsDivided}
use Rattle.lv_const.specs.Refusals as refused
use Rattle.lv_const.proofs.Refusals.{told-fault, sound-formed, divides-formed}
use Rattle.lv_const.proofs.Stands.{walk-stands}
use Rattle.lv_scopes.specs.Numbers.{AreClean}
use Rattle.lv_scopes.specs.Headers.{next_sites, test_sites, turn_sites, AreTurns}
use Rattle.lv_resolve.specs.declared.error.ResolveError.TheVariants as x
use Rattle.lv_resolve.specs.Resolved.{AreFaultless, IsToldOf}
use Rattle.lv_headers.specs.Headers.{IsFaulty}
use Rattle.lv_headers.proofs.LateTurns.{ks, tested, start_spots, test_spots, next_spots, turn, among-start, among-test, among-next, told-raised, Where, at-start, at-test, at-next, where-told}

-- ---- Range and ZeroDivisor are told as they are

module _ (here : Here) (width : ℕ) (e : Expr) where
  abbrev sites : List Site
  sites = expr_sites true here.names width e

  fault : (q : ConstError) → const.Told here.early sites q → IsFault here (spots here sites) q
  fault q h =
      let w : Walk = walk here.names e in
      told-fault here sites q (walk-stands here.names e (first_place w.shown) (max width w.shown.reading.meaning.width) w.shown.reading.meaning.signed) h

  of-range : (p : ℕ) → IsFault here (spots here sites) (y.Range p) → IsToldOf (spots here sites) (x.Range p)
  of-range p (refused.range h) = h

  of-zero : (p : ℕ) → IsFault here (spots here sites) (y.ZeroDivisor p) → IsToldOf (spots here sites) (x.ZeroDivisor p)
  of-zero p (refused.zero h) = h

  pub told-range : (p : ℕ) → const.Told here.early sites (y.Range p) → IsToldOf (spots here sites) (x.Range p)
  told-range p h = of-range p (fault (y.Range p) h)

  pub told-zero : (p : ℕ) → const.Told here.early sites (y.ZeroDivisor p) → IsToldOf (spots here sites) (x.ZeroDivisor p)
  told-zero p h = of-zero p (fault (y.ZeroDivisor p) h)

module _ (here : Here) (index : Ident) (start test next : Expr) where
  abbrev all_spots : List Spot
  all_spots = header_spots here index start test next

  range-in : (p : ℕ) → Where here index start test next (y.Range p) → IsToldOf all_spots (x.Range p)
  range-in p (at-start h) =
      told-raised (start_spots here index start test next) all_spots (among-start here index start test next) (x.Range p) (told-range here 32 start p h)
  range-in p (at-test k c h) =
      told-raised (test_spots here index start test next k) all_spots (among-test here index start test next k c) (x.Range p) (told-range (at_turn here index.name k) 0 test p h)
  range-in p (at-next k c h) =
      told-raised (next_spots here index start test next k) all_spots (among-next here index start test next k c) (x.Range p) (told-range (at_turn here index.name k) 32 next p h)

  zero-in : (p : ℕ) → Where here index start test next (y.ZeroDivisor p) → IsToldOf all_spots (x.ZeroDivisor p)
  zero-in p (at-start h) =
      told-raised (start_spots here index start test next) all_spots (among-start here index start test next) (x.ZeroDivisor p) (told-zero here 32 start p h)
  zero-in p (at-test k c h) =
      told-raised (test_spots here index start test next k) all_spots (among-test here index start test next k c) (x.ZeroDivisor p) (told-zero (at_turn here index.name k) 0 test p h)
  zero-in p (at-next k c h) =
      told-raised (next_spots here index start test next k) all_spots (among-next here index start test next k c) (x.ZeroDivisor p) (told-zero (at_turn here index.name k) 32 next p h)

  pub header-range : (p : ℕ) (q : ConstError) → q ≡ y.Range p → IsFaulty here index.name start test next q → IsToldOf all_spots (x.Range p)
  header-range p q e h = range-in p (where-told here index start test next (y.Range p) (subst (IsFaulty here index.name start test next) e h))

  pub header-zero : (p : ℕ) (q : ConstError) → q ≡ y.ZeroDivisor p → IsFaulty here index.name start test next q → IsToldOf all_spots (x.ZeroDivisor p)
  header-zero p q e h = zero-in p (where-told here index start test next (y.ZeroDivisor p) (subst (IsFaulty here index.name start test next) e h))

-- ---- without a fault

spots-join : {A : Type 0} (here : Here) (f : A → List Site) (xs : List A) → spots here (flat_map f xs) ≡ flat_map (λ a. spots here (f a)) xs
spots-join here f [] = refl
spots-join here f (a ∷ xs) = map-join (λ s. record { early = here.early; site = s }) (f a) (flat_map f xs) ∙ ap (λ zs. spots here (f a) ++ zs) (spots-join here f xs)

no-two : (f : Spot → List ℕ) (xs zs : List Spot) → flat_map f xs ≡ [] → flat_map f zs ≡ [] → flat_map f (xs ++ zs) ≡ []
no-two f xs zs h k = flat-join f xs zs ∙ (ap (λ n. n ++ flat_map f zs) h ∙ k)

pub both-faultless : (xs zs : List Spot) → AreFaultless xs → AreFaultless zs → AreFaultless (xs ++ zs)
both-faultless xs zs h k = record {
  unknown = no-two (site_faults kind.UnknownName) xs zs h.unknown k.unknown;
  unfixed = no-two (site_faults kind.NotConstant) xs zs h.unfixed k.unfixed;
  zero = no-two (site_faults kind.ZeroDivisor) xs zs h.zero k.zero;
  range = no-two (site_faults kind.Range) xs zs h.range k.range;
}

clean-faultless : (here : Here) (sites : List Site) → AreClean here.early sites → AreFaultless (spots here sites)
clean-faultless here sites h =
    let f : IsFormed (spots here sites) = sound-formed here sites h.sound in
    let d : IsDivided (spots here sites) = divides-formed here sites h.divides in record {
      unknown = f.unknown;
      unfixed = f.unfixed;
      zero = d.zero;
      range = f.range;
    }

module _ (here : Here) (index : Ident) (start test next : Expr) where
  abbrev tests : List Site
  tests = flat_map (λ k. test_sites (turn here index start test next k).names test) (tested here index start test next)

  abbrev nexts : List Site
  nexts = flat_map (λ k. next_sites (turn here index start test next k).names next) (ks here index start test next)

  turns-join : spots (at_turn here index.name 0) (tests ++ nexts) ≡
      flat_map (test_spots here index start test next) (tested here index start test next) ++ flat_map (next_spots here index start test next) (ks here index start test next)
  turns-join = map-join (λ s. record { early = (at_turn here index.name 0).early; site = s }) tests nexts ∙
      (ap (λ zs. zs ++ spots (at_turn here index.name 0) nexts)
      (spots-join (at_turn here index.name 0) (λ k. test_sites (turn here index start test next k).names test) (tested here index start test next)) ∙
      ap (λ zs. flat_map (test_spots here index start test next) (tested here index start test next) ++ zs)
      (spots-join (at_turn here index.name 0) (λ k. next_sites (turn here index start test next k).names next) (ks here index start test next)))

  pub turns-faultless : (most : ℕ) (done : List ℕ) → AreTurns here index.name start test next most done → AreFaultless (header_spots here index start test next)
  turns-faultless most done h =
      let a : AreFaultless (start_spots here index start test next) = clean-faultless here (next_sites here.names start) h.first in
      let b : AreFaultless (spots (at_turn here index.name 0) (tests ++ nexts)) = clean-faultless (at_turn here index.name 0) (tests ++ nexts) h.clean in
      let c = subst AreFaultless turns-join b in
      subst AreFaultless
      (sym (append_assoc (start_spots here index start test next) (flat_map (test_spots here index start test next) (tested here index start test next))
      (flat_map (next_spots here index start test next) (ks here index start test next))))
      (both-faultless (start_spots here index start test next)
      (flat_map (test_spots here index start test next) (tested here index start test next) ++ flat_map (next_spots here index start test next) (ks here index start test next)) a c)

-- ---- the index

pub index-found : (genvar : Bool) (names : Names) (index again : Ident) → header_names genvar names index again ≡ [] → is_index_of genvar (names (alone index.name)) ≡ true
index-found genvar names index again h = elim (is_index_of genvar (names (alone index.name))) as (λ b.
    place_if (not b) index.place ++ place_if (not (bytes_eq index.name again.name)) again.place ≡ [] → b ≡ true) [
      | true ↦ λ k. refl
      | false ↦ λ k. cc
    ] h
