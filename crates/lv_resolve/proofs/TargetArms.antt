-- What each arm of the functions over a target has to show.
use Rattle.std.proofs.Common.{◌≡◌, ◌⊎◌, inl, inr, ℕ, zero, suc, ◌+◌, ◌≤◌, ◌<◌, Bool, true, false, not, if◌then◌else◌, List, [], ◌∷◌, ◌++◌, ap, ◌∙◌, sym, subst, refl, flat_map, map, length, take, drop, get_or, arith, Ok, Err, Result, None, Some, Option, add-one, drop-cons}
use Rattle.std.specs.Prelude.{IfOk, IfErr, slice_get}
use Rattle.std.specs.List.{list_all}
use Rattle.std.proofs.lemmas.Bool.Decides.{nat_tests}
use Rattle.std.proofs.lemmas.Grind.{flat_map-append}
use Rattle.lv_ast.specs.declared.expr.Path.{Path}
use Rattle.lv_ast.specs.declared.expr.Select.{Select}
use Rattle.lv_ast.specs.declared.stmt.Target.{Target}
use Rattle.lv_ast.specs.declared.stmt.Target.TheVariants as tree
use Rattle.lv_source.specs.Names.{Names, Here, Declared, is_clock_sort}
use Rattle.lv_source.specs.Values.{nowhere}
use Rattle.lv_source.specs.Effect.{pieces, bits_in}
use Rattle.lv_source.specs.Sites.{Site, Role, Driven, Walk, WalkStep, walk, walk_select, step_sites, fixed_sites, target_sites, first_of}
use Rattle.lv_source.specs.NodeRules.{is_width}
use Rattle.lv_source.specs.Faults.{site_faults}
use Rattle.lv_source.specs.Legal.{ClockUse}
use Rattle.lv_source.specs.ScopeRules.{place_if}
use Rattle.lv_source.specs.Standing.{target_width}
use Rattle.lv_const.specs.declared.consts.Entry.{Entry}
use Rattle.lv_const.proofs.Numbers.{split}
use Rattle.lv_const.specs.Places.{head_of, either, place_or}
use Rattle.lv_flat.specs.declared.signal.Signal.{Signal}
use Rattle.lv_flat.specs.Signals.{Signals, declared, declared_all, signal_at, sort_of}
use Rattle.lv_flat.specs.Executing as flat
use Rattle.lv_flat.specs.Good.{are_targets}
use Rattle.lv_flat.proofs.Doings.{Goal, goal_of}
use Rattle.lv_flat.proofs.GoodParts.{good-target}
use Rattle.lv_resolve.specs.declared.error.ResolveError.{ResolveError}
use Rattle.lv_resolve.specs.declared.error.ResolveError.TheVariants as x
use Rattle.lv_resolve.specs.declared.goal.TargetForm.{TargetForm}
use Rattle.lv_resolve.specs.declared.goal.ResolvedTarget.{ResolvedTarget}
use Rattle.lv_resolve.specs.declared.picks.Head.{Head}
use Rattle.lv_resolve.specs.declared.picks.Picks.{Picks}
use Rattle.lv_resolve.specs.Places.{AreNames}
use Rattle.lv_resolve.specs.Forms.{Told, Covered, IsFixed, has_select_operands}
use Rattle.lv_resolve.specs.Picks.{IsHead, PicksAnswer}
use Rattle.lv_ast.specs.declared.expr.Expr.{Expr}
use Rattle.lv_ast.specs.declared.expr.Expr.TheOpen.{Select-F}
use Rattle.lv_ast.specs.declared.expr.Select.TheVariants as pick
use Rattle.lv_const.proofs.Walks.{select-Bit, select-Part, select-Up, select-Down}
use Rattle.lv_const.proofs.Lists.{take-whole}
use Rattle.lv_scopes.specs.declared.number.Number.{Number}
use Rattle.std.proofs.lemmas.List.{take_more, map-append}
use Rattle.lv_resolve.proofs.Covers.{Within, within-first, within-second, within-then, told-within, covered-nothing, covered-same, covered-both}
use Rattle.lv_resolve.specs.Targets.{FixedPair, FixedStep, IndicesAnswer, HasGoal, capped, has_target_operands, TargetAnswer}
use Rattle.lv_resolve.specs.TargetJoins.{IsAimed, target_role, site_place}
use Rattle.lv_resolve.proofs.Answered.{told-of, faultless}
use Rattle.lv_resolve.proofs.FixedLaws.{spotted}
use Rattle.lv_resolve.proofs.Nodes.{and-both}
use Rattle.lv_resolve.proofs.SelectArms.{no-signal, the-signal}
use Rattle.lv_resolve.proofs.TargetLaws.{NameOf, name-unwritten, below-wrong, name-wrong, name-answer, parted, sites-Name, sites-Cat}

-- ---- a name

module _ (ss : List Signal) (find : Path → Option ℕ) (all early : List Entry) (here : Here) (ok : AreNames (declared_all ss) find all early here) (driven : Bool) (path : Path)
    (ts : List Select) where
  abbrev S : Signals
  S = declared_all ss

  pub target-absent : None ≡ find path → NameOf S here driven path ts (Err (x.UnknownName path.place))
  target-absent f = name-unwritten S here driven path ts (ok.absent path (sym f))

  pub target-no_number : (k : ℕ) (r : Result TargetForm ResolveError) → Some k ≡ find path → None ≡ slice_get ss k → NameOf S here driven path ts r
  target-no_number k r f h = absurd (no-signal ss k h (ok.declared path k (sym f)))

  module _ (k : ℕ) (s : Signal) (f : Some k ≡ find path) (h : Some s ≡ slice_get ss k) where
    same : signal_at S k ≡ declared s
    same = the-signal ss k s h

    at-signal : (r : Result Picks ResolveError) (hd : Head) → IsHead (declared s) hd →
        ((d : Declared) → IsHead d hd → PicksAnswer S here d (list_all has_select_operands ts) (map (walk_select here.names) ts) path.place r) →
        PicksAnswer S here (signal_at S k) (list_all has_select_operands ts) (map (walk_select here.names) ts) path.place r
    at-signal r hd i g = subst (λ d. PicksAnswer S here d (list_all has_select_operands ts) (map (walk_select here.names) ts) path.place r) (sym same) (g (declared s) i)

    pub target-none : (hd : Head) (y : ResolveError) → IsHead (declared s) hd →
        ((d : Declared) → IsHead d hd → PicksAnswer S here d (list_all has_select_operands ts) (map (walk_select here.names) ts) path.place (Err y)) → NameOf S here driven path ts (Err y)
    target-none hd y i g = name-wrong S here driven path ts k (ok.found path k (sym f)) (ok.declared path k (sym f)) y (at-signal (Err y) hd i g).wrong

    pub target-index : (y : ResolveError) → Told here (flat_map (step_sites driven None) (map (walk_select here.names) ts)) y → NameOf S here driven path ts (Err y)
    target-index y h = below-wrong S here driven path ts k (ok.found path k (sym f)) (ok.declared path k (sym f)) y h

    pub target-right : (hd : Head) (p : Picks) (r : Result TargetForm ResolveError) → IsHead (declared s) hd →
        (driven ≡ true → Covered here (λ W T. flat_map (step_sites true None) (map (walk_select here.names) ts)) 0 [] []) →
        ((d : Declared) → IsHead d hd → PicksAnswer S here d (list_all has_select_operands ts) (map (walk_select here.names) ts) path.place (Ok p)) →
        IfOk r (IsAimed driven k (if is_clock_sort (sort_of s.sort) then path.place ∷ [] else []) path.place p) → IfErr r (λ y. y ≡ x.NoMemory) → NameOf S here driven path ts r
    target-right hd p r i q g o m = name-answer S here driven path ts k (ok.found path k (sym f)) (ok.declared path k (sym f)) p r (at-signal (Ok p) hd i g).right q
        (subst (λ d. IfOk r (IsAimed driven k (if is_clock_sort d.sort then path.place ∷ [] else []) path.place p)) (sym same) o) m

-- ---- constant selects

module _ (here : Here) where
  pub both-fixed : (a b c d : Expr) (m n : Number) → c ≡ a → d ≡ b → IsFixed here (walk here.names c) m → IsFixed here (walk here.names d) n →
      FixedPair here (walk here.names a) (walk here.names b) (Ok tt)
  both-fixed a b c d m n e f h k = record {
    right = covered-both here (λ W T. fixed_sites (walk here.names a)) (λ W T. fixed_sites (walk here.names b)) 0 [] [] [] []
        (subst (λ u. IsFixed here (walk here.names u) m) e h).cover (subst (λ u. IsFixed here (walk here.names u) n) f k).cover;
    wrong = tt;
  }

  pub first-unfixed : (a b c : Expr) (y : ResolveError) → c ≡ a → Told here (fixed_sites (walk here.names c)) y → FixedPair here (walk here.names a) (walk here.names b) (Err y)
  first-unfixed a b c y e h = record {
    right = tt;
    wrong = told-within here _ _ y (within-first (fixed_sites (walk here.names a)) (fixed_sites (walk here.names b))) (subst (λ u. Told here (fixed_sites (walk here.names u)) y) e h);
  }

  pub second-unfixed : (a b d : Expr) (y : ResolveError) → d ≡ b → Told here (fixed_sites (walk here.names d)) y → FixedPair here (walk here.names a) (walk here.names b) (Err y)
  second-unfixed a b d y e h = record {
    right = tt;
    wrong = told-within here _ _ y (within-second (fixed_sites (walk here.names a)) (fixed_sites (walk here.names b))) (subst (λ u. Told here (fixed_sites (walk here.names u)) y) e h);
  }

  step-arm : (z y : Select) (v : WalkStep) (r : Result (Unit {0}) ResolveError) → z ≡ y → walk_select here.names y ≡ v → FixedStep here v r → FixedStep here (walk_select here.names z) r
  step-arm z y v r e k h = subst (λ u. FixedStep here (walk_select here.names u) r) (sym e) (subst (λ u. FixedStep here u r) (sym k) h)

  pub bit-fixed : (z : Select) (a c : Expr) (n : Number) → z ≡ pick.Bit a → c ≡ a → IsFixed here (walk here.names c) n → FixedStep here (walk_select here.names z) (Ok tt)
  bit-fixed z a c n e f h = step-arm z (pick.Bit a) (Select-F.Bit (walk here.names a)) (Ok tt) e (select-Bit here.names a)
      (record { right = (subst (λ u. IsFixed here (walk here.names u) n) f h).cover; wrong = tt })

  pub bit-unfixed : (z : Select) (a c : Expr) (y : ResolveError) → z ≡ pick.Bit a → c ≡ a → Told here (fixed_sites (walk here.names c)) y → FixedStep here (walk_select here.names z) (Err y)
  bit-unfixed z a c y e f h = step-arm z (pick.Bit a) (Select-F.Bit (walk here.names a)) (Err y) e (select-Bit here.names a)
      (record { right = tt; wrong = subst (λ u. Told here (fixed_sites (walk here.names u)) y) f h })

  pair-step : (a b : Walk) (v : WalkStep) (r : Result (Unit {0}) ResolveError) → step_sites true None v ≡ fixed_sites a ++ fixed_sites b → FixedPair here a b r → FixedStep here v r
  pair-step a b v (Ok u) e h = record { right = subst (λ ss. Covered here (λ W T. ss) 0 [] []) (sym e) h.right; wrong = tt }
  pair-step a b v (Err y) e h = record { right = tt; wrong = subst (λ ss. Told here ss y) (sym e) h.wrong }

  pub part-fixed : (z : Select) (a b : Expr) (r : Result (Unit {0}) ResolveError) → z ≡ pick.Part a b → FixedPair here (walk here.names a) (walk here.names b) r →
      FixedStep here (walk_select here.names z) r
  part-fixed z a b r e h = step-arm z (pick.Part a b) (Select-F.Part (walk here.names a) (walk here.names b)) r e (select-Part here.names a b)
      (pair-step (walk here.names a) (walk here.names b) (Select-F.Part (walk here.names a) (walk here.names b)) r refl h)

  pub up-fixed : (z : Select) (a b : Expr) (r : Result (Unit {0}) ResolveError) → z ≡ pick.Up a b → FixedPair here (walk here.names a) (walk here.names b) r →
      FixedStep here (walk_select here.names z) r
  up-fixed z a b r e h = step-arm z (pick.Up a b) (Select-F.Up (walk here.names a) (walk here.names b)) r e (select-Up here.names a b)
      (pair-step (walk here.names a) (walk here.names b) (Select-F.Up (walk here.names a) (walk here.names b)) r refl h)

  pub down-fixed : (z : Select) (a b : Expr) (r : Result (Unit {0}) ResolveError) → z ≡ pick.Down a b → FixedPair here (walk here.names a) (walk here.names b) r →
      FixedStep here (walk_select here.names z) r
  down-fixed z a b r e h = step-arm z (pick.Down a b) (Select-F.Down (walk here.names a) (walk here.names b)) r e (select-Down here.names a b)
      (pair-step (walk here.names a) (walk here.names b) (Select-F.Down (walk here.names a) (walk here.names b)) r refl h)

  abbrev pub AreFixed : List Select → Type 0
  AreFixed ss = Covered here (λ W T. flat_map (step_sites true None) (map (walk_select here.names) ss)) 0 [] []

  one-within : (us vs : List Select) (z : Select) → Within (step_sites true None (walk_select here.names z))
      (flat_map (step_sites true None) (map (walk_select here.names) (us ++ z ∷ vs)))
  one-within [] vs z = within-first (step_sites true None (walk_select here.names z)) (flat_map (step_sites true None) (map (walk_select here.names) vs))
  one-within (u ∷ us) vs z = within-then _ _ _ (one-within us vs z) (within-second (step_sites true None (walk_select here.names u))
      (flat_map (step_sites true None) (map (walk_select here.names) (us ++ z ∷ vs))))

  not-both : (b : Bool) → b ≡ false → b ≡ true → ⊥
  not-both true h k = cc
  not-both false h k = cc

  pub none-fixed : AreFixed []
  none-fixed = covered-nothing here 0

  pub indices-free : (ss : List Select) (driven : Bool) → driven ≡ false → IndicesAnswer here driven (map (walk_select here.names) ss) (Ok tt)
  indices-free ss driven e = record { right = λ k. absurd (not-both driven e k); wrong = tt }

  module _ (ss : List Select) (i : ℕ) (z : Select) (h : i < length ss) (g : get_or ss i z ≡ z) where
    pub more-fixed : AreFixed (take i ss) → Covered here (λ W T. step_sites true None (walk_select here.names z)) 0 [] [] → AreFixed (take (i + 1) ss)
    more-fixed a b = subst AreFixed (sym (take_more ss i z h ∙ ap (λ u. take i ss ++ u ∷ []) g))
        (covered-same here (λ W T. flat_map (step_sites true None) (map (walk_select here.names) (take i ss)) ++ (step_sites true None (walk_select here.names z) ++ []))
        (λ W T. flat_map (step_sites true None) (map (walk_select here.names) (take i ss ++ z ∷ []))) 0 0 [] [] [] []
        (λ W T. sym (ap (flat_map (step_sites true None)) (map-append (walk_select here.names) (take i ss) (z ∷ [])) ∙
        flat_map-append (step_sites true None) (map (walk_select here.names) (take i ss)) (walk_select here.names z ∷ []))) (omega arith) refl refl
        (covered-both here (λ W T. flat_map (step_sites true None) (map (walk_select here.names) (take i ss))) (λ W T. step_sites true None (walk_select here.names z) ++ []) 0 [] [] [] []
        a (covered-both here (λ W T. step_sites true None (walk_select here.names z)) (λ W T. []) 0 [] [] [] [] b (covered-nothing here 0))))

    pub one-unfixed : (driven : Bool) (y : ResolveError) → driven ≡ true → Told here (step_sites true None (walk_select here.names z)) y →
        IndicesAnswer here driven (map (walk_select here.names) ss) (Err y)
    one-unfixed driven y e k = record {
      right = tt;
      wrong = subst (λ b. Told here (flat_map (step_sites b None) (map (walk_select here.names) ss)) y) (sym e)
          (subst (λ us. Told here (flat_map (step_sites true None) (map (walk_select here.names) us)) y) (sym (parted ss i z h g))
          (told-within here _ _ y (one-within (take i ss) (drop (i + 1) ss) z) k));
    }

  pub all-fixed : (ss : List Select) (i : ℕ) (driven : Bool) → length ss ≤ i → AreFixed (take i ss) → IndicesAnswer here driven (map (walk_select here.names) ss) (Ok tt)
  all-fixed ss i driven h k = record { right = λ e. subst AreFixed (take-whole ss i h) k; wrong = tt }

-- ---- the first name

abbrev places_of : List Site → List ℕ
places_of ss = flat_map (λ s. s.shown.places) ss

dropped : {A : Type 0} (xs : List A) (i : ℕ) → length xs ≤ i → drop i xs ≡ []
dropped [] zero h = refl
dropped [] (suc i) h = refl
dropped (x ∷ xs) zero h = absurd (omega (arith, h))
dropped (x ∷ xs) (suc i) h = dropped xs i (omega (arith, h))

head-both : (xs ys : List ℕ) → head_of (xs ++ ys) ≡ either (head_of xs) (head_of ys)
head-both [] ys = refl
head-both (x ∷ xs) ys = refl

module _ (names : Names) (role : Role) where
  pub first-Name : (z : Target) (path : Path) (ss : List Select) → z ≡ tree.Name path ss → Some path.place ≡ head_of (places_of (target_sites names role z))
  first-Name z path ss e = sym (ap (λ u. head_of (places_of (target_sites names role u))) e ∙ ap (λ qs. head_of (places_of qs)) (sites-Name names role path ss))

  pub first-Cat : (z : Target) (ts us : List Target) (r : Option ℕ) → z ≡ tree.Cat ts → us ≡ ts → r ≡ head_of (places_of (flat_map (target_sites names role) us)) →
      r ≡ head_of (places_of (target_sites names role z))
  first-Cat z ts us r e k h = h ∙ (ap (λ vs. head_of (places_of (flat_map (target_sites names role) vs))) k ∙
      sym (ap (λ u. head_of (places_of (target_sites names role u))) e ∙ ap (λ qs. head_of (places_of qs)) (sites-Cat names role ts)))

  module _ (ts : List Target) (i : ℕ) (z : Target) (h : i < length ts) (e : get_or ts i z ≡ z)
      (k : head_of (places_of (flat_map (target_sites names role) ts)) ≡ head_of (places_of (flat_map (target_sites names role) (drop i ts)))) where
    abbrev rest : Option ℕ
    rest = head_of (places_of (flat_map (target_sites names role) (drop (i + 1) ts)))

    first-here : head_of (places_of (flat_map (target_sites names role) (drop i ts))) ≡ either (head_of (places_of (target_sites names role z))) rest
    first-here =
        let d : drop i ts ≡ get_or ts i z ∷ drop (i + 1) ts = rw add-one (drop-cons ts i z h) in
        ap (λ vs. head_of (places_of (flat_map (target_sites names role) vs))) (d ∙ ap (λ u. u ∷ drop (i + 1) ts) e) ∙
        (ap head_of (flat_map-append (λ (s : Site). s.shown.places) (target_sites names role z) (flat_map (target_sites names role) (drop (i + 1) ts))) ∙
        head-both (places_of (target_sites names role z)) (places_of (flat_map (target_sites names role) (drop (i + 1) ts))))

    pub first-found : (p : ℕ) → Some p ≡ head_of (places_of (target_sites names role z)) → Some p ≡ head_of (places_of (flat_map (target_sites names role) ts))
    first-found p m = sym (k ∙ (first-here ∙ ap (λ o. either o rest) (sym m)))

    pub first-next : None ≡ head_of (places_of (target_sites names role z)) → head_of (places_of (flat_map (target_sites names role) ts)) ≡ rest
    first-next m = k ∙ (first-here ∙ ap (λ o. either o rest) (sym m))

  pub first-all : (ts : List Target) (i : ℕ) → length ts ≤ i → head_of (places_of (flat_map (target_sites names role) ts)) ≡
      head_of (places_of (flat_map (target_sites names role) (drop i ts))) → None ≡ head_of (places_of (flat_map (target_sites names role) ts))
  first-all ts i h k = sym (k ∙ ap (λ vs. head_of (places_of (flat_map (target_sites names role) vs))) (dropped ts i h))

pub first-is : (ns : List ℕ) (o : Option ℕ) → o ≡ head_of ns → place_or o ≡ first_of ns
first-is [] o h = ap place_or h
first-is (n ∷ ns) o h = ap place_or h

-- ---- a whole target

pub most : (n : ℕ) → is_width n ≡ true → n ≤ 128
most n h = grind (arith, nat_tests)

over : (n : ℕ) → 129 ≤ n → capped n ≡ 129
over n h = omega (arith, h)

none-or-over : (n : ℕ) → is_width n ≡ false → (n ≡ 0) ⊎ (129 ≤ n)
none-or-over zero h = inl refl
none-or-over (suc n) h = inr (grind (arith, nat_tests))

wide : (n : ℕ) → is_width n ≡ false → is_width (capped n) ≡ false
wide n h = elim (none-or-over n h) [
  | inl k ↦ ap (λ m. is_width (capped m)) k
  | inr k ↦ ap is_width (over n k)
]

pub same-width : (n : ℕ) → is_width (capped n) ≡ is_width n
same-width n = elim (split (is_width n)) [
  | inl k ↦ let q : capped n ≡ n = omega (arith, most n k) in ap is_width q
  | inr k ↦ wide n k ∙ sym k
]

module _ (S : Signals) (here : Here) (driven : Bool) (z : Target) where
  abbrev bits : ℕ
  bits = target_width here.names z

  pub whole-none : (y : ResolveError) → Told here (target_sites here.names (target_role driven) z) y → TargetAnswer S here driven z (Err y)
  whole-none y h = record { right = tt; wrong = inl (told-of here (target_sites here.names (target_role driven) z) y h.found) }

  module _ (f : TargetForm) (h : HasGoal S here (target_sites here.names (target_role driven) z) (pieces here.names z) (has_target_operands z) f) where
    is-bits : is_width f.width ≡ is_width bits
    is-bits = ap is_width h.width ∙ same-width bits

    pub whole-wide : (p : ℕ) → is_width f.width ≡ false → p ≡ site_place (target_sites here.names Driven z) → TargetAnswer S here driven z (Err (x.Range p))
    whole-wide p k e = record {
      right = tt;
      wrong = inr (p, ap (λ b. place_if (not b) (site_place (target_sites here.names Driven z))) (sym is-bits ∙ k) ∙ ap (λ n. n ∷ []) (sym e), refl);
    }

    pub whole-right : (r : ResolvedTarget) → is_width f.width ≡ true → r.target ≡ f.target → r.width ≡ f.width → r.clocks ≡ f.clocks → TargetAnswer S here driven z (Ok r)
    whole-right r k a b c =
        let fit : is_width bits ≡ true = sym is-bits ∙ k in
        let goal : goal_of (flat.pieces S r.target) ≡ goal_of (pieces here.names z) = ap (λ v. goal_of (flat.pieces S v)) a ∙ h.goal in record {
          right = record {
            goal = goal;
            good = λ v. good-target S r.target ∙ and-both _ _ (ap (λ (g : Goal). is_width (bits_in (g.places nowhere))) goal ∙ fit) (ap (are_targets S) a ∙ h.good v);
            width = b ∙ (h.width ∙ omega (arith, most bits fit));
            fits = ap (λ v. place_if (not v) (site_place (target_sites here.names Driven z))) fit;
            faultless = faultless here (target_sites here.names (target_role driven) z) h.clean h.zero;
            clocks = spotted here (site_faults ClockUse) (target_sites here.names (target_role driven) z) ∙ (h.clocks ∙ sym c);
          };
          wrong = tt;
        }
