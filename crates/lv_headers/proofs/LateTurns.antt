-- The first late name of a header: it is a fault of a node, and without one no name of a node is late.
use Rattle.std.proofs.Common.{◌≡◌, ◌⊎◌, inl, inr, ℕ, max, Bool, true, false, ◌&&◌, List, [], ◌∷◌, ◌++◌, map, refl, sym, ap, ◌∙◌, subst, Option, Some, None, flat_map, arith}
use Rattle.std.specs.Prelude.{bytes_eq, cond}
use Rattle.std.specs.List.{Contains}
use Rattle.std.proofs.lemmas.List.Elements.{Contains-append_left, Contains-append_right, Contains-append_cases}
use Rattle.lv_ast.specs.declared.expr.Path.{Path}
use Rattle.lv_ast.specs.declared.expr.Expr.{Expr}
use Rattle.lv_ast.specs.declared.stmt.Ident.{Ident}
use Rattle.lv_ast.specs.Names.{Name, has_no_steps}
use Rattle.lv_source.specs.Names.{Names, Here, Declared}
use Rattle.lv_source.specs.Effect.{with_index, index_value, turns}
use Rattle.lv_source.specs.Sites.{Site, Spot, Value, Walk, walk, spots, expr_sites, first_place}
use Rattle.lv_source.specs.Standing.{at_turn, header_spots}
use Rattle.lv_const.specs.declared.error.ConstError.{ConstError}
use Rattle.lv_const.specs.declared.error.ConstError.TheVariants as y
use Rattle.lv_const.specs.Answers as const
use Rattle.lv_const.specs.Faults.{all_faults}
use Rattle.lv_const.proofs.Refusals.{found, Found, gathered}
use Rattle.lv_flat.specs.Signals.{Signals}
use Rattle.lv_scopes.specs.Headers.{next_sites, test_sites, turn_sites}
use Rattle.lv_resolve.specs.declared.error.ResolveError.{ResolveError}
use Rattle.lv_resolve.specs.declared.error.ResolveError.TheVariants as x
use Rattle.lv_resolve.specs.Late.{late_by, late_of, or_else, first_late, paths_in}
use Rattle.lv_resolve.specs.Resolved.{IsToldOf}
use Rattle.lv_resolve.proofs.Answered.{told-of}
use Rattle.lv_resolve.proofs.LateLaws.{AreBound, late-told, late-never}
use Rattle.lv_headers.specs.Headers.{IsFaulty}
use Rattle.lv_headers.specs.LateHeaders.{late_in_turn, late_header}
use Rattle.lv_headers.proofs.TurnPlaces.{IsHidden, is_alone, turn-bound}

-- ---- faults of a part

pub raised : (xs ys : List Spot) (f : Spot → List ℕ) → ((s : Spot) → Contains xs s → Contains ys s) → (p : ℕ) → Contains (flat_map f xs) p → Contains (flat_map f ys) p
raised xs ys f among p h = let g : Found f xs p = found f xs p h in gathered f ys g.one p (among g.one g.among) g.holds

pub told-raised : (xs ys : List Spot) → ((s : Spot) → Contains xs s → Contains ys s) → (e : ResolveError) → IsToldOf xs e → IsToldOf ys e
told-raised xs ys among (x.UnknownName p) h = raised xs ys _ among p h
told-raised xs ys among (x.NotConstant p) h = raised xs ys _ among p h
told-raised xs ys among (x.ZeroDivisor p) h = raised xs ys _ among p h
told-raised xs ys among (x.Range p) h = raised xs ys _ among p h
told-raised xs ys among x.NoMemory h = tt

-- ---- the parts of a header

module _ (here : Here) (index : Ident) (start test next : Expr) where
  abbrev pub turn : ℕ → Here
  turn k = at_turn here index.name k

  abbrev pub ks : List ℕ
  ks = turns here.names index.name start test next

  -- the values that the test is put to
  abbrev pub tested : List ℕ
  tested = index_value here.names start ∷ map (λ k. index_value (turn k).names next) ks

  abbrev pub start_spots : List Spot
  start_spots = spots here (expr_sites true here.names 32 start)

  abbrev pub test_spots : ℕ → List Spot
  test_spots k = spots (turn k) (expr_sites true (turn k).names 0 test)

  abbrev pub next_spots : ℕ → List Spot
  next_spots k = spots (turn k) (expr_sites true (turn k).names 32 next)

  pub among-start : (s : Spot) → Contains start_spots s → Contains (header_spots here index start test next) s
  among-start s h =
      Contains-append_left (start_spots ++ flat_map test_spots tested) (flat_map next_spots ks) s (Contains-append_left start_spots (flat_map test_spots tested) s h)

  pub among-test : (k : ℕ) → Contains tested k → (s : Spot) → Contains (test_spots k) s → Contains (header_spots here index start test next) s
  among-test k c s h =
      Contains-append_left (start_spots ++ flat_map test_spots tested) (flat_map next_spots ks) s
      (Contains-append_right start_spots (flat_map test_spots tested) s (gathered test_spots tested k s c h))

  pub among-next : (k : ℕ) → Contains ks k → (s : Spot) → Contains (next_spots k) s → Contains (header_spots here index start test next) s
  among-next k c s h = Contains-append_right (start_spots ++ flat_map test_spots tested) (flat_map next_spots ks) s (gathered next_spots ks k s c h)

  -- the part that a fault is told of
  pub data Where (e : ConstError) : Type 0 where
    at-start : const.Told here.early (next_sites here.names start) e → Where e
    at-test : (k : ℕ) → Contains tested k → const.Told (turn k).early (test_sites (turn k).names test) e → Where e
    at-next : (k : ℕ) → Contains ks k → const.Told (turn k).early (next_sites (turn k).names next) e → Where e

  abbrev early : Path → Bool
  early = (turn 0).early

  abbrev tests : ℕ → List Site
  tests k = test_sites (turn k).names test

  abbrev nexts : ℕ → List Site
  nexts k = next_sites (turn k).names next

  pub where-told : (e : ConstError) → IsFaulty here index.name start test next e → Where e
  where-told e (inl h) = at-start h
  where-told e (inr h) =
      let g : Found (all_faults early) (flat_map tests tested ++ flat_map nexts ks) e = found (all_faults early) (flat_map tests tested ++ flat_map nexts ks) e h.found in
      elim (Contains-append_cases (flat_map tests tested) (flat_map nexts ks) g.one g.among) [
        | inl c ↦ let f : Found tests tested g.one = found tests tested g.one c in at-test f.one f.among (record { found = gathered (all_faults early) (tests f.one) g.one e f.holds g.holds })
        | inr c ↦ let f : Found nexts ks g.one = found nexts ks g.one c in at-next f.one f.among (record { found = gathered (all_faults early) (nexts f.one) g.one e f.holds g.holds })
      ]

-- ---- one turn or another

late-picked : (b : Bool) (d e : Declared) (early all : Option Declared) (k : Option ℕ) (place : ℕ) →
    late_by (cond b (Some d) early) k (cond b (Some d) all) place ≡ late_by (cond b (Some e) early) k (cond b (Some e) all) place
late-picked true d e early all k place = refl
late-picked false d e early all k place = refl

same-late : (f g : Path → Option ResolveError) (ps : List Path) → ((p : Path) → f p ≡ g p) → first_late f ps ≡ first_late g ps
same-late f g [] h = refl
same-late f g (p ∷ ps) h = ap (λ o. or_else o (first_late f ps)) (h p) ∙ ap (or_else (g p)) (same-late f g ps h)

late-turns : (find : Path → Option ℕ) (all early : Names) (index : Name) (j k : ℕ) (ps : List Path) →
    first_late (late_in_turn find all early index j) ps ≡ first_late (late_in_turn find all early index k) ps
late-turns find all early index j k ps =
    same-late (late_in_turn find all early index j) (late_in_turn find all early index k) ps
    (λ p. late-picked (is_alone index p) _ _ (early p) (all p) (find p) p.place)

-- ---- late names

data OrElse (a b : Option ResolveError) (q : ResolveError) : Type 0 where
  first : Some q ≡ a → OrElse a b q
  second : None ≡ a → Some q ≡ b → OrElse a b q

or-else : (a b : Option ResolveError) (q : ResolveError) → Some q ≡ or_else a b → OrElse a b q
or-else None b q h = second refl h
or-else (Some e) b q h = first h

none-first : (a b : Option ResolveError) → None ≡ or_else a b → None ≡ a
none-first None b h = refl
none-first (Some q) b h = cc

none-second : (a b : Option ResolveError) → None ≡ or_else a b → None ≡ b
none-second None b h = h
none-second (Some q) b h = cc

module _ (S : Signals) (find : Path → Option ℕ) (all early : Names) (here : Here) (ok : AreBound S find all early here) where
  -- of an expression that has to be constant, at any width that takes it
  pub late-spots : (width : ℕ) (e : Expr) (q : ResolveError) → Some q ≡ first_late (late_of find all early) (paths_in e) →
      IsToldOf (spots here (expr_sites true here.names width e)) q
  late-spots width e q h =
      let w : Walk = walk here.names e in
      told-of here (expr_sites true here.names width e) q
      (late-told S find all early here ok e (first_place w.shown) (max width w.shown.reading.meaning.width) w.shown.reading.meaning.signed q h).found

  pub late-nowhere : (width : ℕ) (e : Expr) (p : ℕ) → None ≡ first_late (late_of find all early) (paths_in e) →
      const.Told here.early (expr_sites true here.names width e) (y.NoValue p) → ⊥
  late-nowhere width e p h t =
      let w : Walk = walk here.names e in
      late-never S find all early here ok e (first_place w.shown) (max width w.shown.reading.meaning.width) w.shown.reading.meaning.signed p h t

module _ (S : Signals) (find : Path → Option ℕ) (all early : Names) (here : Here) (ok : AreBound S find all early here) (index : Ident)
    (hidden : IsHidden here index.name) (start test next : Expr) where
  abbrev spots_all : List Spot
  spots_all = header_spots here index start test next

  abbrev in-turn : ℕ → Path → Option ResolveError
  in-turn k = late_in_turn find all early index.name k

  there : (k : ℕ) → AreBound S find (with_index all index.name k) (with_index early index.name k) (at_turn here index.name k)
  there k = turn-bound S find all early here index.name ok hidden k

  told-start : (q : ResolveError) → Some q ≡ first_late (late_of find all early) (paths_in start) → IsToldOf spots_all q
  told-start q h = told-raised (start_spots here index start test next) spots_all (among-start here index start test next) q (late-spots S find all early here ok 32 start q h)

  told-test : (q : ResolveError) → Some q ≡ first_late (in-turn 0) (paths_in test) → IsToldOf spots_all q
  told-test q h =
      let k : ℕ = index_value here.names start in
      told-raised (test_spots here index start test next k) spots_all (among-test here index start test next k (0, omega arith, refl)) q
      (late-spots S find (with_index all index.name k) (with_index early index.name k) (at_turn here index.name k) (there k) 0 test q
      (h ∙ late-turns find all early index.name 0 k (paths_in test)))

  told-next : (k : ℕ) → Contains (ks here index start test next) k → (q : ResolveError) → Some q ≡ first_late (in-turn 0) (paths_in next) → IsToldOf spots_all q
  told-next k c q h =
      told-raised (next_spots here index start test next k) spots_all (among-next here index start test next k c) q
      (late-spots S find (with_index all index.name k) (with_index early index.name k) (at_turn here index.name k) (there k) 32 next q
      (h ∙ late-turns find all early index.name 0 k (paths_in next)))

  none-in-test : (k p : ℕ) → None ≡ first_late (in-turn 0) (paths_in test) → const.Told (at_turn here index.name k).early (test_sites (at_turn here index.name k).names test) (y.NoValue p) → ⊥
  none-in-test k p h t =
      late-nowhere S find (with_index all index.name k) (with_index early index.name k) (at_turn here index.name k) (there k) 0 test p
      (h ∙ late-turns find all early index.name 0 k (paths_in test)) t

  none-in-next : (k p : ℕ) → None ≡ first_late (in-turn 0) (paths_in next) → const.Told (at_turn here index.name k).early (next_sites (at_turn here index.name k).names next) (y.NoValue p) → ⊥
  none-in-next k p h t =
      late-nowhere S find (with_index all index.name k) (with_index early index.name k) (at_turn here index.name k) (there k) 32 next p
      (h ∙ late-turns find all early index.name 0 k (paths_in next)) t

  abbrev of_start : Option ResolveError
  of_start = first_late (late_of find all early) (paths_in start)

  abbrev of_test : Option ResolveError
  of_test = first_late (in-turn 0) (paths_in test)

  abbrev of_next : Option ResolveError
  of_next = first_late (in-turn 0) (paths_in next)

  next-told : (p : ℕ) (q : ResolveError) → None ≡ of_start → None ≡ of_test → Some q ≡ of_next → Where here index start test next (y.NoValue p) → IsToldOf spots_all q
  next-told p q a b h (at-start t) = absurd (late-nowhere S find all early here ok 32 start p a t)
  next-told p q a b h (at-test k c t) = absurd (none-in-test k p b t)
  next-told p q a b h (at-next k c t) = told-next k c q h

  pub late-header-told : (p : ℕ) (q : ResolveError) → Some q ≡ late_header find all early index.name start test next → Where here index start test next (y.NoValue p) →
      IsToldOf spots_all q
  late-header-told p q h w = elim (or-else of_start (or_else of_test of_next) q h) [
    | first a ↦ told-start q a
    | second a b ↦ elim (or-else of_test of_next q b) [
      | first c ↦ told-test q c
      | second c d ↦ next-told p q a c d w
    ]
  ]

  nowhere : (p : ℕ) → None ≡ of_start → None ≡ of_test → None ≡ of_next → Where here index start test next (y.NoValue p) → ⊥
  nowhere p a b h (at-start t) = late-nowhere S find all early here ok 32 start p a t
  nowhere p a b h (at-test k c t) = none-in-test k p b t
  nowhere p a b h (at-next k c t) = none-in-next k p h t

  pub late-header-never : (p : ℕ) → None ≡ late_header find all early index.name start test next → Where here index start test next (y.NoValue p) → ⊥
  late-header-never p h w =
      let a : None ≡ of_start = none-first of_start (or_else of_test of_next) h in
      let b : None ≡ or_else of_test of_next = none-second of_start (or_else of_test of_next) h in
      nowhere p a (none-first of_test of_next b) (none-second of_test of_next b) w

-- ---- from the names in a turn

pub late-by-turn : (find : Path → Option ℕ) (all early new_all new_early : Names) (index : Name) (start test next : Expr) (r : Option ResolveError) →
    None ≡ first_late (late_of find all early) (paths_in start) → new_all ≡ with_index all index 0 → new_early ≡ with_index early index 0 →
    r ≡ or_else (first_late (late_of find new_all new_early) (paths_in test)) (first_late (late_of find new_all new_early) (paths_in next)) →
    r ≡ late_header find all early index start test next
late-by-turn find all early new_all new_early index start test next r n e f h =
    let both : Names → Names → Option ResolveError = λ ns ms. or_else (first_late (late_of find ns ms) (paths_in test)) (first_late (late_of find ns ms) (paths_in next)) in
    h ∙ (ap (λ ns. both ns new_early) e ∙ (ap (λ ms. both (with_index all index 0) ms) f ∙ ap (λ o. or_else o (both (with_index all index 0) (with_index early index 0))) n))
