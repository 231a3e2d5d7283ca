-- Targets: what is answered of a name and of a concatenation.
use Rattle.std.proofs.Common.{◌≡◌, ℕ, zero, suc, ◌+◌, ◌≤◌, ◌<◌, min, Bool, true, false, not, ◌&&◌, ◌||◌, if◌then◌else◌, List, [], ◌∷◌, ◌++◌, ap, ◌∙◌, sym, subst, refl, flat_map, map, length, take, drop, get_or, arith, Ok, Err, Result, None, Some, Option}
use Rattle.std.specs.Prelude.{IfOk, IfErr, ℤ, pos, negsuc, decimal}
use Rattle.lv_ast.specs.Names.{at_index}
use Rattle.lv_ast.specs.declared.stmt.Target.TheOpen.{Target-F}
use Rattle.std.specs.List.{list_all}
use Rattle.std.proofs.lemmas.List.{take_more, length-map}
use Rattle.std.proofs.lemmas.List.Sums.{sum_by-cons}
use Rattle.std.proofs.lemmas.Grind.{flat_map-append}
use Rattle.lv_ast.specs.declared.expr.Path.{Path}
use Rattle.lv_ast.specs.declared.expr.Expr.{Row_of-Expr, end_of-Expr, more_of-Expr}
use Rattle.lv_ast.specs.declared.expr.Expr.TheOpen.{Expr-F, Select-F}
use Rattle.lv_ast.specs.declared.expr.Select.{Select}
use Rattle.lv_ast.specs.declared.expr.Select.TheVariants as s
use Rattle.lv_ast.specs.declared.stmt.Target.{Target}
use Rattle.lv_ast.specs.declared.stmt.Target.TheVariants as tree
use Rattle.lv_ast.specs.Trees.{fold_one}
use Rattle.lv_ast.proofs.StmtFolds as fold
use Rattle.lv_source.specs.Names.{Names, Here, Declared, Bounds, Valuation, Sort, Input, Net, Variable, Clock, Constant, Index, Other, known, is_constant_sort, is_clock_sort, is_signal_sort, width_of, low, high}
use Rattle.lv_source.specs.Values.{Chosen, nowhere}
use Rattle.lv_source.specs.Places.{Place, place_of, place_by, element, nowhere_place, bits_of, bit_selects, all_bits, lowest, within}
use Rattle.lv_source.specs.Meaning.{Reading, Choice, meant, read_step, choice, read_expr, read_select, named}
use Rattle.lv_source.specs.Effect.{Piece, piece_step, pieces, places, bits_in, piece_place, aimed}
use Rattle.lv_source.specs.Sites.{Site, Step, Role, is_driven, Walk, WalkStep, walk, walk_select, walk_step, walk_select_step, step_shown, step_choice, step_sites, target_sites, target_site_step}
use Rattle.lv_source.specs.NodeRules.{is_width, is_written, can_be_read, is_array_fault, is_select_fault, is_clock_name, unknown_name, out_of_range, clock_use, zero_divisor}
use Rattle.lv_source.specs.Parts.{is_declared_sort}
use Rattle.lv_source.proofs.Bridges.{two}
use Rattle.lv_const.proofs.Told.{none-joined, both-empty, width_in}
use Rattle.lv_const.proofs.Owns.{site_of}
use Rattle.lv_const.proofs.Leaves.{or-true}
use Rattle.lv_const.proofs.WalkReads.{walk-reads}
use Rattle.lv_const.proofs.Lists.{take-whole}
use Rattle.lv_flat.specs.declared.stmt.FlatTarget.TheVariants as t
use Rattle.lv_flat.specs.Signals.{Signals, signal_at}
use Rattle.lv_flat.specs.Judged.{judge_select, choices}
use Rattle.lv_flat.specs.Executing as flat
use Rattle.lv_flat.specs.Good.{are_targets}
use Rattle.lv_flat.proofs.Selects.{AllAlike}
use Rattle.lv_flat.proofs.Doings.{Goal, goal_of, goal_one, goal_all, join_goals}
use Rattle.lv_flat.proofs.Targets as targets
use Rattle.lv_flat.proofs.GoodParts.{targets-Signal, targets-Cat}
use Rattle.lv_resolve.specs.declared.error.ResolveError.{ResolveError}
use Rattle.lv_resolve.specs.declared.error.ResolveError.TheVariants as x
use Rattle.lv_resolve.specs.declared.goal.TargetForm.{TargetForm}
use Rattle.lv_resolve.specs.declared.goal.TargetForms.{TargetForms}
use Rattle.lv_resolve.specs.declared.picks.Picks.{Picks}
use Rattle.lv_resolve.specs.Forms.{flaws, Told, Covered, has_select_operands}
use Rattle.lv_resolve.specs.Picks.{HasPicks, HasNoPicks, chosen_of, inside, array, select}
use Rattle.lv_resolve.specs.Targets.{HasGoal, GoalAnswer, HasGoals, GoalsAnswer, bits_of_pieces, capped, has_target_operands, target_operands_step}
use Rattle.lv_resolve.specs.TargetJoins.{piece_of, target_role, name_sites, IsAimed, AreMore}
use Rattle.lv_resolve.proofs.Covers.{within-first, within-second, within-below, within-then, Within, told-within, no-memory, told-range, told-name}
use Rattle.lv_resolve.proofs.Loosened.{told-steps}
use Rattle.lv_resolve.proofs.Nodes.{and-both, and-left, and-right}
use Rattle.lv_resolve.proofs.NameLaws.{selects-good}
use Rattle.lv_resolve.proofs.LateLaws.{readable}
use Rattle.lv_resolve.proofs.PickLaws.{append-nil}
use Rattle.lv_resolve.proofs.PartLaws.{all-snoc}

-- ---- the readings of selects

module _ (names : Names) where
  one-reads : {n : _} (r : Row_of-Expr n) → (fold_one Walk WalkStep (walk_step names) walk_select_step r).shown.reading ≡ fold_one Reading Choice (read_step names) choice r
  unfolding walk read_expr
  one-reads end_of-Expr = refl
  one-reads (more_of-Expr z zs) = walk-reads names z

  choice-reads : (z : Select) → step_choice (step_shown (walk_select names z)) ≡ read_select names z
  unfolding walk_select read_select
  choice-reads (s.Bit' n a) = ap (λ (r : Reading). let c : Choice = Select-F.Bit r in c) (one-reads a)
  choice-reads (s.Part' n a m b) = two (λ (r q : Reading). let c : Choice = Select-F.Part r q in c) _ _ _ _ (one-reads a) (one-reads b)
  choice-reads (s.Up' n a m b) = two (λ (r q : Reading). let c : Choice = Select-F.Up r q in c) _ _ _ _ (one-reads a) (one-reads b)
  choice-reads (s.Down' n a m b) = two (λ (r q : Reading). let c : Choice = Select-F.Down r q in c) _ _ _ _ (one-reads a) (one-reads b)

  pub chosen-reads : (ss : List Select) → chosen_of (map (walk_select names) ss) ≡ map (read_select names) ss
  chosen-reads [] = refl
  chosen-reads (z ∷ ss) = two (λ (c : Choice) (cs : List Choice). c ∷ cs) _ _ _ _ (choice-reads z) (chosen-reads ss)

-- ---- how many bits

module _ (d : Declared) (v : Valuation) where
  abbrev at_element : Bounds → ℕ → List Chosen → Place
  at_element b i ss = record { name = at_index d.path (decimal i); bits = bits_of d ss v }

  element-length : (b : Bounds) (z : ℤ) (ss : List Chosen) → length (element d b z ss v).bits ≡ length (bits_of d ss v)
  element-length b (negsuc i) ss = length-map (bits_of d ss v) _
  element-length b (pos i) ss = elim (within (low b) (high b) i) as (λ k. length (if k then at_element b i ss else nowhere_place (bits_of d ss v)).bits ≡ length (bits_of d ss v)) [
    | true ↦ refl
    | false ↦ length-map (bits_of d ss v) _
  ]

  pub place-length : (o : Option Bounds) (ss : List Chosen) → length (place_by o d ss v).bits ≡ length (bits_of d (bit_selects o ss) v)
  place-length None ss = refl
  place-length (Some b) [] = length-map (all_bits (width_of d)) _
  place-length (Some b) (z ∷ ss) = element-length b (lowest z v) ss

pub aimed-length : (k : Bool) (p : Place) → length (aimed k p).bits ≡ length p.bits
aimed-length true p = refl
aimed-length false p = length-map p.bits _

pub bits-cons : (p : Place) (ps : List Place) → bits_in (p ∷ ps) ≡ length p.bits + bits_in ps
bits-cons p ps = sum_by-cons (λ (k : ℕ). k) (length p.bits) (map (λ q. length q.bits) ps)

assoc : (a b c : ℕ) → a + (b + c) ≡ (a + b) + c
assoc a b c = omega arith

capped-both : (m n : ℕ) → min 129 (capped m + capped n) ≡ capped (m + n)
capped-both m n = omega arith

pub bits-both : (ps qs : List Piece) → bits_of_pieces (ps ++ qs) ≡ bits_of_pieces ps + bits_of_pieces qs
bits-both [] qs = omega arith
bits-both (p ∷ ps) qs =
    bits-cons (piece_place nowhere p) (places nowhere (ps ++ qs)) ∙ (ap (λ n. length (piece_place nowhere p).bits + n) (bits-both ps qs) ∙
    (assoc (length (piece_place nowhere p).bits) (bits_of_pieces ps) (bits_of_pieces qs) ∙
    ap (λ n. n + bits_of_pieces qs) (sym (bits-cons (piece_place nowhere p) (places nowhere ps)))))

-- ---- goals

goal-two : (ps qs : List Piece) → goal_of (ps ++ qs) ≡ join_goals (goal_of ps ∷ goal_of qs ∷ [])
goal-two ps qs = ap (λ zs. goal_of (ps ++ zs)) (sym (append-nil qs)) ∙ goal_all (ps ∷ qs ∷ [])

pub goals-both : (ps qs rs ts : List Piece) → goal_of ps ≡ goal_of rs → goal_of qs ≡ goal_of ts → goal_of (ps ++ qs) ≡ goal_of (rs ++ ts)
goals-both ps qs rs ts h k = goal-two ps qs ∙ (two (λ (a b : Goal). join_goals (a ∷ b ∷ [])) _ _ _ _ h k ∙ sym (goal-two rs ts))

-- ---- a name

-- what is neither a signal nor a clock can't be written
written-fault : (z : Sort) (a : Bool) → is_declared_sort z ≡ false → (not (can_be_read z) || a || (true && is_constant_sort z)) ≡ true
written-fault Input a h = cc
written-fault Net a h = cc
written-fault Variable a h = cc
written-fault Clock a h = cc
written-fault (Constant n) a h = or-true a
written-fault (Index g) a h = refl
written-fault Other a h = refl

unwritten-name : (z : Site) (path : Path) (ss : List Step) (o : Option Declared) → z.node ≡ Expr-F.Name path ss → is_written z.role ≡ true → z.names path ≡ o →
    is_declared_sort (known o).sort ≡ false → unknown_name z ≡ path.place ∷ []
unwritten-name z path ss None n r e h = rw (n, e) refl
unwritten-name z path ss (Some d) n r e h = rw (n, e, r, written-fault d.sort (is_array_fault d.array ss) h) refl

no-constant : (z : Sort) → is_declared_sort z ≡ true → is_constant_sort z ≡ false
no-constant Input h = refl
no-constant Net h = refl
no-constant Variable h = refl
no-constant Clock h = refl
no-constant (Constant n) h = cc
no-constant (Index g) h = refl
no-constant Other h = refl

few : (n : ℕ) → n ≤ 128 → capped n ≡ n
few n h = omega (arith, h)

written : (driven : Bool) → is_written (target_role driven) ≡ true
written true = refl
written false = refl

driven-is : (driven : Bool) → is_driven (target_role driven) ≡ driven
driven-is true = refl
driven-is false = refl

module _ (S : Signals) (here : Here) (driven : Bool) (path : Path) (ss : List Select) where
  abbrev ws : List WalkStep
  ws = map (walk_select here.names) ss

  abbrev top : Walk
  top = walk_step here.names (Expr-F.Name path ws)

  abbrev site : Site
  site = site_of here.names (Expr-F.Name path ws) (target_role driven) None top.shown.reading.meaning.width top.shown.reading.meaning.signed

  abbrev below : List Site
  below = flat_map (step_sites (is_driven (target_role driven)) None) ws

  there-below : flat_map (step_sites driven None) ws ≡ below
  there-below = ap (λ b. flat_map (step_sites b None) ws) (sym (driven-is driven))

  abbrev pub NameOf : Result TargetForm ResolveError → Type 0
  NameOf r = GoalAnswer S here (name_sites driven here.names path ss) (piece_of here.names path ss ∷ []) (list_all has_select_operands ss) r

  pub name-unwritten : is_declared_sort (known (here.names path)).sort ≡ false → NameOf (Err (x.UnknownName path.place))
  name-unwritten h = record {
    right = tt;
    wrong = told-name here site below path.place [] (unwritten-name site path (map step_shown ws) (here.names path) refl (written driven) refl h);
  }

  module _ (k : ℕ) (there : here.names path ≡ Some (signal_at S k)) (sort : is_declared_sort (signal_at S k).sort ≡ true) where
    abbrev d : Declared
    d = signal_at S k

    told-array : is_array_fault d.array (map step_shown ws) ≡ true → unknown_name site ≡ path.place ∷ []
    told-array h = rw (there, readable d.sort sort, h) refl

    told-select : is_select_fault d (map step_shown ws) ≡ true → out_of_range site ≡ path.place ∷ []
    told-select h = ap (λ b. if b then path.place ∷ [] else [])
        (ap (λ o. not (is_width (named (known o) (chosen_of ws)).meaning.width) || is_select_fault (known o) (map step_shown ws)) there ∙
        (ap (λ b. not (is_width (named d (chosen_of ws)).meaning.width) || b) h ∙ or-true (not (is_width (named d (chosen_of ws)).meaning.width))))

    pub below-wrong : (y : ResolveError) → Told here (flat_map (step_sites driven None) ws) y → NameOf (Err y)
    below-wrong y h = record { right = tt; wrong = told-within here below (site ∷ below) y (within-below site below) (subst (λ zs. Told here zs y) there-below h) }

    pub name-wrong : (y : ResolveError) → HasNoPicks here d ws path.place y → NameOf (Err y)
    name-wrong y (inside h) = below-wrong y (told-steps here driven ss y h)
    name-wrong y (array h e) = record {
      right = tt;
      wrong = subst (Told here (name_sites driven here.names path ss)) (sym e) (told-name here site below path.place [] (told-array h));
    }
    name-wrong y (select h e) = record {
      right = tt;
      wrong = subst (Told here (name_sites driven here.names path ss)) (sym e) (told-range here site below path.place [] (told-select h));
    }

    module _ (p : Picks) (h : HasPicks S here d (list_all has_select_operands ss) ws p) (fixed : driven ≡ true → Covered here (λ W T. flat_map (step_sites true None) ws) 0 [] []) where
      -- the notes of the selects
      cover-by : (b : Bool) → (b ≡ true → Covered here (λ W T. flat_map (step_sites true None) ws) 0 [] []) →
          Covered here (λ W T. flat_map (step_sites b None) ws) 0 (if b then [] else p.clocks) []
      cover-by true k = k refl
      cover-by false k = h.cover

      cover : Covered here (λ W T. below) 0 (if driven then [] else p.clocks) []
      cover = subst (λ zs. Covered here (λ W T. zs) 0 (if driven then [] else p.clocks) []) there-below (cover-by driven fixed)

      wide-is : (named d (chosen_of ws)).meaning.width ≡ p.width
      wide-is = sym h.width

      fits : is_width (named d (chosen_of ws)).meaning.width ≡ true
      fits = ap is_width wide-is ∙ width_in p.width p.some p.most

      clean : flaws here site ≡ []
      clean = rw (there, readable d.sort sort, h.array, written driven, no-constant d.sort sort, h.select, fits) refl

      piece-width : p.width ≡ capped (bits_of_pieces (piece_of here.names path ss ∷ []))
      piece-width =
          let ps : List Choice = map (read_select here.names) ss in
          let a : length (piece_place nowhere (piece_of here.names path ss)).bits ≡ p.width =
          aimed-length (is_signal_sort (known (here.names path)).sort) (place_of (known (here.names path)) (map meant ps) nowhere) ∙
          (ap (λ o. length (place_of (known o) (map meant ps) nowhere).bits) there ∙ (place-length d nowhere d.array (map meant ps) ∙
          (ap (λ cs. length (bits_of d (bit_selects d.array (map meant cs)) nowhere)) (sym (chosen-reads here.names ss)) ∙ sym h.width))) in
          let b : bits_of_pieces (piece_of here.names path ss ∷ []) ≡ p.width = bits-cons (piece_place nowhere (piece_of here.names path ss)) [] ∙ omega (arith, a) in
          sym (ap capped b ∙ few p.width p.most)

      pub name-right : (f : TargetForm) → IsAimed driven k (if is_clock_sort d.sort then path.place ∷ [] else []) path.place p f → NameOf (Ok f)
      name-right f i = record {
        right = record {
          goal = ap (λ z. goal_of (flat.pieces S z)) i.target ∙ (ap goal_of (targets.pieces-Signal S (record { signal = k; place = path.place }) p.selects) ∙
              goal_one (targets.piece_of S (record { signal = k; place = path.place }) p.selects) (piece_of here.names path ss) (sym (ap known there)) refl
              (subst (λ cs. AllAlike (choices (map (judge_select S) p.selects)) cs) (chosen-reads here.names ss) h.alike));
          good = λ z. ap (are_targets S) i.target ∙ (targets-Signal S (record { signal = k; place = path.place }) p.selects ∙
              and-both _ _ sort (selects-good S here path ws (list_all has_select_operands ss) p d h z));
          width = i.width ∙ piece-width;
          clean = both-empty (flaws here site) (flat_map (flaws here) below) clean (cover.clean 0 true);
          zero = cover.none 0 true refl;
          clocks = two (λ (a b : List ℕ). a ++ b) _ _ _ _ (ap (λ o. if is_clock_name o then path.place ∷ [] else []) there) (cover.clocks 0 true) ∙ sym i.clocks;
        };
        wrong = tt;
      }

    pub name-answer : (p : Picks) (r : Result TargetForm ResolveError) → HasPicks S here d (list_all has_select_operands ss) ws p →
        (driven ≡ true → Covered here (λ W T. flat_map (step_sites true None) ws) 0 [] []) →
        IfOk r (IsAimed driven k (if is_clock_sort d.sort then path.place ∷ [] else []) path.place p) → IfErr r (λ y. y ≡ x.NoMemory) → NameOf r
    name-answer p (Ok f) h q i m = name-right p h q f i
    name-answer p (Err y) h q i m = record { right = tt; wrong = subst (Told here (name_sites driven here.names path ss)) (sym m) (no-memory here (name_sites driven here.names path ss)) }

-- ---- concatenations

pub parted : {A : Type 0} (es : List A) (i : ℕ) (z : A) → i < length es → get_or es i z ≡ z → es ≡ take i es ++ z ∷ drop (i + 1) es
parted [] i z h e = absurd (omega (arith, h))
parted (y ∷ es) zero z h e = ap (λ u. u ∷ es) e
parted (y ∷ es) (suc i) z h e =
    let k : suc i + 1 ≡ suc (i + 1) = omega arith in
    ap (λ us. y ∷ us) (parted es i z (omega (arith, h)) e) ∙ ap (λ n. y ∷ (take i es ++ z ∷ drop n (y ∷ es))) (sym k)

all-map : {A : Type 0} (f : A → Bool) (xs : List A) → list_all (λ b. b) (map f xs) ≡ list_all f xs
all-map f [] = refl
all-map f (z ∷ xs) = ap (λ b. f z && b) (all-map f xs)

over-map : {A B : Type 0} (f : A → List B) (xs : List A) → flat_map (λ ys. ys) (map f xs) ≡ flat_map f xs
over-map f [] = refl
over-map f (z ∷ xs) = ap (λ ys. f z ++ ys) (over-map f xs)

one-over : {A B : Type 0} (f : A → List B) (z : A) → flat_map f (z ∷ []) ≡ f z
one-over f z = append-nil (f z)

snoc : {A B : Type 0} (f : A → List B) (xs : List A) (z : A) → flat_map f (xs ++ z ∷ []) ≡ flat_map f xs ++ f z
snoc f xs z = flat_map-append f xs (z ∷ []) ∙ ap (λ ys. flat_map f xs ++ ys) (one-over f z)

module _ (S : Signals) (here : Here) (driven : Bool) where
  abbrev pub sites_of : List Target → List Site
  sites_of ts = flat_map (target_sites here.names (target_role driven)) ts

  abbrev pub pieces_of : List Target → List Piece
  pieces_of ts = flat_map (pieces here.names) ts

  pub no-goals : (f : TargetForms) → f.targets ≡ [] → f.width ≡ 0 → f.clocks ≡ [] → HasGoals S here (sites_of []) (pieces_of []) true f
  no-goals f a b c = record {
    goal = ap (λ ts. goal_of (flat_map (flat.pieces S) ts)) a;
    good = λ z. ap (list_all (are_targets S)) a;
    width = b;
    clean = refl;
    zero = refl;
    clocks = sym c;
  }

  pub more : (ss rs : List Site) (ps qs : List Piece) (ok one : Bool) (g h : TargetForms) (f : TargetForm) → HasGoals S here ss ps ok g → HasGoal S here rs qs one f → AreMore g f h →
      HasGoals S here (ss ++ rs) (ps ++ qs) (ok && one) h
  more ss rs ps qs ok one g h f a b i = record {
    goal = ap (λ ts. goal_of (flat_map (flat.pieces S) ts)) i.targets ∙ (ap goal_of (snoc (flat.pieces S) g.targets f.target) ∙
        goals-both (flat_map (flat.pieces S) g.targets) (flat.pieces S f.target) ps qs a.goal b.goal);
    good = λ z. ap (list_all (are_targets S)) i.targets ∙ (all-snoc (are_targets S) g.targets f.target ∙ and-both _ _ (a.good (and-left ok one z)) (b.good (and-right ok one z)));
    width = i.width ∙ (two (λ (m n : ℕ). min 129 (m + n)) _ _ _ _ a.width b.width ∙ (capped-both (bits_of_pieces ps) (bits_of_pieces qs) ∙ ap capped (sym (bits-both ps qs))));
    clean = none-joined (flaws here) ss rs a.clean b.clean;
    zero = none-joined zero_divisor ss rs a.zero b.zero;
    clocks = flat_map-append clock_use ss rs ∙ (two (λ (m n : List ℕ). m ++ n) _ _ _ _ a.clocks b.clocks ∙ sym i.clocks);
  }

  module _ (ts : List Target) (i : ℕ) (z : Target) (h : i < length ts) (g : get_or ts i z ≡ z) where
    taken : take (i + 1) ts ≡ take i ts ++ z ∷ []
    taken = take_more ts i z h ∙ ap (λ u. take i ts ++ u ∷ []) g

    pub at-more : (p q : TargetForms) (m : TargetForm) → HasGoals S here (sites_of (take i ts)) (pieces_of (take i ts)) (list_all has_target_operands (take i ts)) p →
        HasGoal S here (target_sites here.names (target_role driven) z) (pieces here.names z) (has_target_operands z) m → AreMore p m q →
        HasGoals S here (sites_of (take (i + 1) ts)) (pieces_of (take (i + 1) ts)) (list_all has_target_operands (take (i + 1) ts)) q
    at-more p q m k n j = subst (λ us. HasGoals S here (sites_of us) (pieces_of us) (list_all has_target_operands us) q) (sym taken)
        (subst (λ ss. HasGoals S here ss (pieces_of (take i ts ++ z ∷ [])) (list_all has_target_operands (take i ts ++ z ∷ [])) q) (sym (snoc (target_sites here.names (target_role driven)) (take i ts) z))
        (subst (λ ps. HasGoals S here (sites_of (take i ts) ++ target_sites here.names (target_role driven) z) ps (list_all has_target_operands (take i ts ++ z ∷ [])) q) (sym (snoc (pieces here.names) (take i ts) z))
        (subst (λ b. HasGoals S here (sites_of (take i ts) ++ target_sites here.names (target_role driven) z) (pieces_of (take i ts) ++ pieces here.names z) b q)
        (sym (all-snoc has_target_operands (take i ts) z))
        (more (sites_of (take i ts)) (target_sites here.names (target_role driven) z) (pieces_of (take i ts)) (pieces here.names z) (list_all has_target_operands (take i ts)) (has_target_operands z)
        p q m k n j))))

    within-all : (us vs : List Target) → Within (target_sites here.names (target_role driven) z) (sites_of (us ++ z ∷ vs))
    within-all [] vs = within-first (target_sites here.names (target_role driven) z) (sites_of vs)
    within-all (u ∷ us) vs = within-then _ _ _ (within-all us vs) (within-second (target_sites here.names (target_role driven) u) (sites_of (us ++ z ∷ vs)))

    pub at-none : (ok : Bool) (y : ResolveError) → Told here (target_sites here.names (target_role driven) z) y → GoalsAnswer S here (sites_of ts) (pieces_of ts) ok (Err y)
    at-none ok y k = record {
      right = tt;
      wrong = subst (λ us. Told here (sites_of us) y) (sym (parted ts i z h g)) (told-within here _ _ y (within-all (take i ts) (drop (i + 1) ts)) k);
    }

    pub at-memory : (ok : Bool) (y : ResolveError) → y ≡ x.NoMemory → GoalsAnswer S here (sites_of ts) (pieces_of ts) ok (Err y)
    at-memory ok y k = record { right = tt; wrong = subst (Told here (sites_of ts)) (sym k) (no-memory here (sites_of ts)) }

  pub at-all : (ts : List Target) (i : ℕ) (p : TargetForms) → length ts ≤ i → HasGoals S here (sites_of (take i ts)) (pieces_of (take i ts)) (list_all has_target_operands (take i ts)) p →
      GoalsAnswer S here (sites_of ts) (pieces_of ts) (list_all has_target_operands ts) (Ok p)
  at-all ts i p h k = record {
    right = subst (λ us. HasGoals S here (sites_of us) (pieces_of us) (list_all has_target_operands us) p) (take-whole ts i h) k;
    wrong = tt;
  }

-- ---- by the form of the tree

pub sites-Name : (names : Names) (role : Role) (path : Path) (ss : List Select) →
    target_sites names role (tree.Name path ss) ≡ target_site_step names role (Target-F.Name path ss)
unfolding target_sites
sites-Name names role path ss = refl

pub sites-Cat : (names : Names) (role : Role) (ts : List Target) → target_sites names role (tree.Cat ts) ≡ flat_map (target_sites names role) ts
unfolding target_sites
sites-Cat names role ts = fold.fold_target-Cat (List Site) (target_site_step names role) ts ∙ over-map (target_sites names role) ts

pieces-Name : (names : Names) (path : Path) (ss : List Select) → pieces names (tree.Name path ss) ≡ piece_of names path ss ∷ []
unfolding pieces
pieces-Name names path ss = refl

pieces-Cat : (names : Names) (ts : List Target) → pieces names (tree.Cat ts) ≡ flat_map (pieces names) ts
unfolding pieces
pieces-Cat names ts = fold.fold_target-Cat (List Piece) (piece_step names) ts ∙ over-map (pieces names) ts

ok-Name : (path : Path) (ss : List Select) → has_target_operands (tree.Name path ss) ≡ list_all has_select_operands ss
unfolding has_target_operands
ok-Name path ss = refl

ok-Cat : (ts : List Target) → has_target_operands (tree.Cat ts) ≡ list_all has_target_operands ts
unfolding has_target_operands
ok-Cat ts = fold.fold_target-Cat Bool target_operands_step ts ∙ all-map has_target_operands ts

module _ (S : Signals) (here : Here) (driven : Bool) where
  abbrev pub TargetOf : Target → Result TargetForm ResolveError → Type 0
  TargetOf z r = GoalAnswer S here (target_sites here.names (target_role driven) z) (pieces here.names z) (has_target_operands z) r

  arm : (z y : Target) (ss : List Site) (ps : List Piece) (ok : Bool) (r : Result TargetForm ResolveError) → z ≡ y → target_sites here.names (target_role driven) y ≡ ss → pieces here.names y ≡ ps →
      has_target_operands y ≡ ok → GoalAnswer S here ss ps ok r → TargetOf z r
  arm z y ss ps ok r e a b c h = subst (λ u. TargetOf u r) (sym e)
      (subst (λ v. GoalAnswer S here v (pieces here.names y) (has_target_operands y) r) (sym a)
      (subst (λ v. GoalAnswer S here ss v (has_target_operands y) r) (sym b) (subst (λ v. GoalAnswer S here ss ps v r) (sym c) h)))

  pub at-Name : (z : Target) (path : Path) (ss qs : List Select) (r : Result TargetForm ResolveError) → z ≡ tree.Name path ss → qs ≡ ss → NameOf S here driven path qs r → TargetOf z r
  at-Name z path ss qs r e k h = arm z (tree.Name path ss) (name_sites driven here.names path ss) (piece_of here.names path ss ∷ []) (list_all has_select_operands ss) r e
      (sites-Name here.names (target_role driven) path ss) (pieces-Name here.names path ss) (ok-Name path ss) (subst (λ us. NameOf S here driven path us r) k h)

  pub at-Cat : (z : Target) (ts us : List Target) (g : TargetForms) (f : TargetForm) → z ≡ tree.Cat ts → us ≡ ts →
      HasGoals S here (sites_of S here driven us) (pieces_of S here driven us) (list_all has_target_operands us) g → f.target ≡ t.Cat g.targets → f.width ≡ g.width → f.clocks ≡ g.clocks → TargetOf z (Ok f)
  at-Cat z ts us g f e k h a b c = arm z (tree.Cat ts) (sites_of S here driven ts) (pieces_of S here driven ts) (list_all has_target_operands ts) (Ok f) e
      (sites-Cat here.names (target_role driven) ts) (pieces-Cat here.names ts) (ok-Cat ts) (let q = subst (λ vs. HasGoals S here (sites_of S here driven vs) (pieces_of S here driven vs) (list_all has_target_operands vs) g) k h in record {
        right = record {
          goal = ap (λ v. goal_of (flat.pieces S v)) a ∙ (ap goal_of (targets.pieces-Cat S g.targets ∙ over-map (flat.pieces S) g.targets) ∙ q.goal);
          good = λ v. ap (are_targets S) a ∙ (targets-Cat S g.targets ∙ (all-map (are_targets S) g.targets ∙ q.good v));
          width = b ∙ q.width;
          clean = q.clean;
          zero = q.zero;
          clocks = q.clocks ∙ sym c;
        };
        wrong = tt;
      })

  pub cat-none : (z : Target) (ts us : List Target) (y : ResolveError) → z ≡ tree.Cat ts → us ≡ ts → Told here (sites_of S here driven us) y → TargetOf z (Err y)
  cat-none z ts us y e k h = arm z (tree.Cat ts) (sites_of S here driven ts) (pieces_of S here driven ts) (list_all has_target_operands ts) (Err y) e
      (sites-Cat here.names (target_role driven) ts) (pieces-Cat here.names ts) (ok-Cat ts) (record { right = tt; wrong = subst (λ vs. Told here (sites_of S here driven vs) y) k h })
