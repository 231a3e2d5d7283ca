-- Expressions that an output drives: what is answered of a name and of a concatenation.
use Rattle.std.proofs.Common.{◌≡◌, ℕ, ◌+◌, ◌≤◌, ◌<◌, Bool, true, false, not, ◌&&◌, ◌||◌, if◌then◌else◌, List, [], ◌∷◌, ◌++◌, ap, ◌∙◌, sym, subst, refl, flat_map, map, length, take, drop, get_or, arith, Ok, Err, Result, None, Some, Option}
use Rattle.std.specs.Prelude.{min, IfOk, IfErr}
use Rattle.std.specs.List.{list_all}
use Rattle.std.proofs.lemmas.List.{take_more, append-nil}
use Rattle.lv_ast.specs.declared.expr.Path.{Path}
use Rattle.lv_ast.specs.declared.expr.Select.{Select}
use Rattle.lv_ast.specs.declared.expr.Expr.{Expr}
use Rattle.lv_ast.specs.declared.expr.Expr.TheVariants as tree
use Rattle.lv_ast.specs.declared.expr.Expr.TheOpen.{Expr-F}
use Rattle.lv_source.specs.Names.{Names, Here, known}
use Rattle.lv_source.specs.Values.{nowhere}
use Rattle.lv_source.specs.Meaning.{meant, read_select}
use Rattle.lv_source.specs.Effect.{Piece, piece_place, bits_in}
use Rattle.lv_source.specs.Places.{place_of, bits_of, bit_selects}
use Rattle.lv_source.specs.Parts.{as_target}
use Rattle.lv_source.specs.ScopeRules.{is_none}
use Rattle.lv_source.specs.Sites.{Site, Driven, DrivenJoined, Walk, walk, walk_step, walk_select, own_sites, below_sites, step_sites, joined_role, first_place, sink_sites}
use Rattle.lv_source.specs.NodeRules.{is_width, unknown_name, zero_divisor, out_of_range, clock_use}
use Rattle.lv_source.specs.Faults.{site_faults}
use Rattle.lv_source.specs.Legal.{ClockUse}
use Rattle.lv_source.proofs.Bridges.{two}
use Rattle.lv_const.specs.Answers.{total_width}
use Rattle.lv_const.proofs.Walks.{walk-Name, walk-Cat}
use Rattle.lv_const.proofs.WalkReads.{walk-reads}
use Rattle.lv_const.proofs.SamePlaces.{same-first}
use Rattle.lv_const.proofs.Leaves.{shown-widths}
use Rattle.lv_const.proofs.Lists.{take-whole}
use Rattle.lv_const.proofs.Owns.{site_of}
use Rattle.lv_flat.specs.Signals.{Signals}
use Rattle.lv_flat.specs.Judged.{no_names}
use Rattle.lv_flat.specs.Executing as flat
use Rattle.lv_flat.specs.Good.{are_targets}
use Rattle.lv_flat.specs.declared.stmt.FlatTarget.TheVariants as t
use Rattle.lv_flat.proofs.Doings.{Goal, goal_of}
use Rattle.lv_flat.proofs.Targets as targets
use Rattle.lv_flat.proofs.GoodParts.{good-target, targets-Cat}
use Rattle.lv_resolve.specs.declared.error.ResolveError.{ResolveError}
use Rattle.lv_resolve.specs.declared.error.ResolveError.TheVariants as x
use Rattle.lv_resolve.specs.declared.goal.TargetForm.{TargetForm}
use Rattle.lv_resolve.specs.declared.goal.TargetForms.{TargetForms}
use Rattle.lv_resolve.specs.declared.goal.ResolvedTarget.{ResolvedTarget}
use Rattle.lv_resolve.specs.Forms.{flaws, unfixed_at, Told, has_operands, has_select_operands, wide}
use Rattle.lv_resolve.specs.TargetJoins.{piece_of, name_sites, AreMore}
use Rattle.lv_resolve.specs.Targets.{HasGoal, HasGoals, bits_of_pieces}
use Rattle.lv_resolve.proofs.Answered.{told-of, faultless}
use Rattle.lv_resolve.proofs.Covers.{Within, within-first, within-second, within-below, within-then, told-within, told-range, no-memory, first-empty}
use Rattle.lv_resolve.proofs.FixedLaws.{spotted}
use Rattle.lv_resolve.proofs.Nodes.{and-both}
use Rattle.lv_resolve.proofs.OperandLaws.{ok-Name, ok-Cat}
use Rattle.lv_resolve.proofs.PartLaws.{all-snoc}
use Rattle.lv_resolve.proofs.TargetArms.{same-width, most}
use Rattle.lv_resolve.proofs.TargetLaws.{chosen-reads, place-length, aimed-length, bits-cons, bits-both, more, parted}
use Rattle.lv_sinks.specs.Sinks.{sink_role, sink_nodes, HasSink, SinkAnswer, join_two, all_targets, all_nodes, HasSinks, SinksAnswer, IsJoined, SunkAnswer}
use Rattle.lv_sinks.proofs.SinkReads.{sink-Name, sink-Cat}

-- ---- a name

module _ (names : Names) (path : Path) (ss : List Select) where
  abbrev pub top : Walk
  top = walk_step names (Expr-F.Name path (map (walk_select names) ss))

  name-width : bits_of_pieces (piece_of names path ss ∷ []) ≡ wide top
  name-width =
      let p : length (piece_place nowhere (piece_of names path ss)).bits ≡ wide top =
      aimed-length _ (place_of (known (names path)) (map meant (map (read_select names) ss)) nowhere) ∙
      (place-length (known (names path)) nowhere (known (names path)).array (map meant (map (read_select names) ss)) ∙
      ap (λ cs. length (bits_of (known (names path)) (bit_selects (known (names path)).array (map meant cs)) nowhere)) (sym (chosen-reads names ss))) in
      bits-cons (piece_place nowhere (piece_of names path ss)) [] ∙ omega (arith, p)

only-width : (k b : Bool) (p : ℕ) → (if not k || b then p ∷ [] else []) ≡ [] → k ≡ true
only-width true b p h = refl
only-width false b p h = cc

third-empty : (a b c : List ℕ) → a ++ b ++ c ≡ [] → c ≡ []
third-empty [] [] c h = h
third-empty [] (y ∷ ys) c h = cc
third-empty (y ∷ ys) b c h = cc

module _ (S : Signals) (here : Here) (path : Path) (ss : List Select) where
  module _ (ps : List Piece) (ok : Bool) where
    as-joined : (joined : Bool) (f : TargetForm) → HasGoal S here (name_sites true here.names path ss) ps ok f → HasGoal S here (sink_nodes joined (top here.names path ss)) ps ok f
    as-joined true f h = record { goal = h.goal; good = h.good; width = h.width; clean = h.clean; zero = h.zero; clocks = h.clocks }
    as-joined false f h = h

  told-joined : (joined : Bool) (y : ResolveError) → Told here (name_sites true here.names path ss) y → Told here (sink_nodes joined (top here.names path ss)) y
  told-joined true (x.UnknownName p) h = record { found = h.found }
  told-joined true (x.NotConstant p) h = record { found = h.found }
  told-joined true (x.ZeroDivisor p) h = record { found = h.found }
  told-joined true (x.Range p) h = record { found = h.found }
  told-joined true x.NoMemory h = record { found = h.found }
  told-joined false y h = h

  abbrev site : Site
  site = site_of here.names (Expr-F.Name path (map (walk_select here.names) ss)) Driven None (wide (top here.names path ss)) (top here.names path ss).shown.reading.meaning.signed

  abbrev below : List Site
  below = flat_map (step_sites true None) (map (walk_select here.names) ss)

  name-fits : (ps : List Piece) (ok : Bool) (f : TargetForm) → HasGoal S here (name_sites true here.names path ss) ps ok f → is_width (wide (top here.names path ss)) ≡ true
  name-fits ps ok f h =
      let a : flaws here site ≡ [] = first-empty (flaws here site) (flat_map (flaws here) below) h.clean in
      only-width _ _ (first_place (top here.names path ss).shown) (third-empty (unknown_name site) (unfixed_at here site) (out_of_range site) a)

module _ (S : Signals) (here : Here) where
  pub at-Name : (z : Expr) (path : Path) (ss qs : List Select) (f : TargetForm) → z ≡ tree.Name path ss → qs ≡ ss →
      HasGoal S here (name_sites true here.names path qs) (piece_of here.names path qs ∷ []) (list_all has_select_operands qs) f → SinkAnswer S here z (Ok (Some f))
  at-Name z path ss qs f e k h =
      let g : HasGoal S here (name_sites true here.names path ss) (piece_of here.names path ss ∷ []) (list_all has_select_operands ss) f =
      subst (λ us. HasGoal S here (name_sites true here.names path us) (piece_of here.names path us ∷ []) (list_all has_select_operands us) f) k h in
      subst (λ u. SinkAnswer S here u (Ok (Some f))) (sym e) (record {
        right = (
          piece_of here.names path ss ∷ [],
          record {
            target = sink-Name here.names path ss;
            width = name-width here.names path ss ∙ ap wide (sym (walk-Name here.names path ss));
            fits = ap (λ w. is_width (wide w)) (walk-Name here.names path ss) ∙ name-fits S here path ss _ _ f g;
            goal = λ joined.
                subst (λ w. HasGoal S here (sink_nodes joined w) (piece_of here.names path ss ∷ []) (has_operands (tree.Name path ss)) f) (sym (walk-Name here.names path ss))
                (subst (λ b. HasGoal S here (sink_nodes joined (top here.names path ss)) (piece_of here.names path ss ∷ []) b f) (sym (ok-Name path ss))
                (as-joined S here path ss _ _ joined f g));
          },
        );
        wrong = tt;
      })

  pub no-Name : (z : Expr) (path : Path) (ss qs : List Select) (y : ResolveError) → z ≡ tree.Name path ss → qs ≡ ss → Told here (name_sites true here.names path qs) y →
      SinkAnswer S here z (Err y)
  no-Name z path ss qs y e k h = subst (λ u. SinkAnswer S here u (Err y)) (sym e) (record {
    right = tt;
    wrong = λ joined. subst (λ w. Told here (sink_nodes joined w) y) (sym (walk-Name here.names path ss))
        (told-joined S here path ss joined y (subst (λ us. Told here (name_sites true here.names path us) y) k h));
  })

  pub at-other : (z : Expr) → as_target here.names z ≡ None → SinkAnswer S here z (Ok None)
  at-other z k = record { right = k; wrong = tt }

-- ---- concatenations

over-map : {A B : Type 0} (f : A → List B) (xs : List A) → flat_map (λ ys. ys) (map f xs) ≡ flat_map f xs
over-map f [] = refl
over-map f (z ∷ xs) = ap (λ ys. f z ++ ys) (over-map f xs)

all-map : {A : Type 0} (f : A → Bool) (xs : List A) → list_all (λ b. b) (map f xs) ≡ list_all f xs
all-map f [] = refl
all-map f (z ∷ xs) = ap (λ b. f z && b) (all-map f xs)

joined-driven : (joined : Bool) → joined_role (sink_role joined) ≡ DrivenJoined
joined-driven true = refl
joined-driven false = refl

module _ (S : Signals) (here : Here) (es : List Expr) where
  abbrev ws : List Walk
  ws = map (walk here.names) es

  abbrev cat : Walk
  cat = walk_step here.names (Expr-F.Cat ws)

  cat-width : wide cat ≡ total_width ws
  cat-width = shown-widths ws

  abbrev whole : Bool → Site
  whole joined = site_of here.names (Expr-F.Cat ws) (sink_role joined) None cat.shown.reading.meaning.width cat.shown.reading.meaning.signed

  below-is : (joined : Bool) → all_nodes here.names es ≡ below_sites (Expr-F.Cat ws) (sink_role joined) None cat.shown.reading.meaning.width cat.shown.reading.meaning.signed
  below-is joined = ap (λ role. flat_map (own_sites role None) ws) (sym (joined-driven joined))

  whole-clean : (joined : Bool) → is_width (wide cat) ≡ true → flaws here (whole joined) ≡ []
  whole-clean joined h = ap (λ b. if not b || false then first_place cat.shown ∷ [] else []) h

  module _ (ps : List Piece) (g : TargetForms) (f : TargetForm) (h : HasGoals S here (all_nodes here.names es) ps (list_all has_operands es) g)
      (a : f.target ≡ t.Cat g.targets) (b : f.width ≡ g.width) (c : f.clocks ≡ g.clocks) (k : is_width (wide cat) ≡ true) where
    cat-goal : (joined : Bool) → HasGoal S here (sink_nodes joined cat) ps (list_all has_operands es) f
    cat-goal joined = record {
      goal = ap (λ v. goal_of (flat.pieces S v)) a ∙ (ap goal_of (targets.pieces-Cat S g.targets ∙ over-map (flat.pieces S) g.targets) ∙ h.goal);
      good = λ v. ap (are_targets S) a ∙ (targets-Cat S g.targets ∙ (all-map (are_targets S) g.targets ∙ h.good v));
      width = b ∙ h.width;
      clean = two (λ (u v : List ℕ). u ++ v) _ _ _ _ (whole-clean joined k) (ap (flat_map (flaws here)) (sym (below-is joined)) ∙ h.clean);
      zero = ap (flat_map zero_divisor) (sym (below-is joined)) ∙ h.zero;
      clocks = ap (flat_map clock_use) (sym (below-is joined)) ∙ (h.clocks ∙ sym c);
    }

  below-told : (joined : Bool) (y : ResolveError) → Told here (all_nodes here.names es) y → Told here (sink_nodes joined cat) y
  below-told joined y h = told-within here _ _ y (within-below (whole joined) _) (subst (λ ss. Told here ss y) (below-is joined) h)

  whole-told : (joined : Bool) → is_width (wide cat) ≡ false → Told here (sink_nodes joined cat) (x.Range (first_place cat.shown))
  whole-told joined h = told-range here (whole joined) _ (first_place cat.shown) [] (ap (λ b. if not b || false then first_place cat.shown ∷ [] else []) h)

module _ (S : Signals) (here : Here) where
  abbrev SinksOf : List Expr → List Piece → TargetForms → Type 0
  SinksOf es ps g = HasSinks S here es ps g

  pub at-Cat : (z : Expr) (es us : List Expr) (ps : List Piece) (g : TargetForms) (f : TargetForm) → z ≡ tree.Cat es → us ≡ es → HasSinks S here us ps g →
      IsJoined g (Some f) → SinkAnswer S here z (Ok (Some f))
  at-Cat z es us ps g f e k h j =
      let q : HasSinks S here es ps g = subst (λ vs. HasSinks S here vs ps g) k h in
      let w : bits_of_pieces ps ≡ wide (cat S here es) = q.width ∙ sym (cat-width S here es) in
      let fit : is_width (wide (cat S here es)) ≡ true = ap is_width (sym w) ∙ (sym (same-width (bits_of_pieces ps)) ∙ (ap is_width (sym q.goals.width) ∙ j.3)) in
      subst (λ u. SinkAnswer S here u (Ok (Some f))) (sym e) (record {
        right = (
          ps,
          record {
            target = sink-Cat here.names es ∙ q.targets;
            width = w ∙ ap wide (sym (walk-Cat here.names es));
            fits = ap (λ v. is_width (wide v)) (walk-Cat here.names es) ∙ fit;
            goal = λ joined.
                subst (λ v. HasGoal S here (sink_nodes joined v) ps (has_operands (tree.Cat es)) f) (sym (walk-Cat here.names es))
                (subst (λ b. HasGoal S here (sink_nodes joined (cat S here es)) ps b f) (sym (ok-Cat es)) (cat-goal S here es ps g f q.goals j.0 j.1 j.2 fit joined));
          },
        );
        wrong = tt;
      })

  pub none-Cat : (z : Expr) (es us : List Expr) → z ≡ tree.Cat es → us ≡ es → all_targets here.names us ≡ None → SinkAnswer S here z (Ok None)
  none-Cat z es us e k h = record { right = ap (as_target here.names) e ∙ (sink-Cat here.names es ∙ (ap (all_targets here.names) (sym k) ∙ h)); wrong = tt }

  pub no-Cat : (z : Expr) (es us : List Expr) (y : ResolveError) → z ≡ tree.Cat es → us ≡ es → Told here (all_nodes here.names us) y → SinkAnswer S here z (Err y)
  no-Cat z es us y e k h = subst (λ u. SinkAnswer S here u (Err y)) (sym e) (record {
    right = tt;
    wrong = λ joined. subst (λ w. Told here (sink_nodes joined w) y) (sym (walk-Cat here.names es))
        (below-told S here es joined y (subst (λ vs. Told here (all_nodes here.names vs) y) k h));
  })

  pub wide-Cat : (z : Expr) (es us : List Expr) (ps : List Piece) (g : TargetForms) (y : ResolveError) → z ≡ tree.Cat es → us ≡ es → HasSinks S here us ps g →
      is_width g.width ≡ false → y ≡ x.Range (first_place (walk no_names z).shown) → SinkAnswer S here z (Err y)
  wide-Cat z es us ps g y e k h j m =
      let q : HasSinks S here es ps g = subst (λ vs. HasSinks S here vs ps g) k h in
      let w : bits_of_pieces ps ≡ wide (cat S here es) = q.width ∙ sym (cat-width S here es) in
      let fit : is_width (wide (cat S here es)) ≡ false = ap is_width (sym w) ∙ (sym (same-width (bits_of_pieces ps)) ∙ (ap is_width (sym q.goals.width) ∙ j)) in
      let p : first_place (walk no_names z).shown ≡ first_place (cat S here es).shown =
      same-first no_names here.names z ∙ (ap (λ u. first_place (walk here.names u).shown) e ∙ ap (λ v. first_place v.shown) (walk-Cat here.names es)) in
      record {
        right = tt;
        wrong = λ joined. subst (λ v. Told here (sink_nodes joined (walk here.names z)) v) (sym (m ∙ ap x.Range p))
            (subst (λ u. Told here (sink_nodes joined (walk here.names u)) (x.Range (first_place (cat S here es).shown))) (sym e)
            (subst (λ v. Told here (sink_nodes joined v) (x.Range (first_place (cat S here es).shown))) (sym (walk-Cat here.names es)) (whole-told S here es joined fit)));
      }

  pub cat-answer : (z : Expr) (es us : List Expr) (ps : List Piece) (g : TargetForms) (r : Result (Option TargetForm) ResolveError) → z ≡ tree.Cat es → us ≡ es →
      HasSinks S here us ps g → IfOk r (IsJoined g) → IfErr r (λ y. (is_width g.width ≡ false) × (y ≡ x.Range (first_place (walk no_names z).shown))) → SinkAnswer S here z r
  cat-answer z es us ps g (Ok None) e k h a b = absurd a
  cat-answer z es us ps g (Ok (Some f)) e k h a b = at-Cat z es us ps g f e k h a
  cat-answer z es us ps g (Err y) e k h a b = wide-Cat z es us ps g y e k h b.0 b.1

-- ---- operands

same-some : (u v : List Piece) → Some u ≡ Some v → u ≡ v
same-some u v k = cc

assoc : {A : Type 0} (a b c : List A) → a ++ (b ++ c) ≡ (a ++ b) ++ c
assoc [] b c = refl
assoc (u ∷ a) b c = ap (λ zs. u ∷ zs) (assoc a b c)

two-of : (o q : Option (List Piece)) (ps : List Piece) → join_two o q ≡ Some ps → (as' : List Piece) × (bs : List Piece) × (o ≡ Some as') × (q ≡ Some bs) × (as' ++ bs ≡ ps)
two-of None q ps h = absurd (cc)
two-of (Some a) None ps h = absurd (cc)
two-of (Some a) (Some b) ps h = (a, b, refl, refl, same-some (a ++ b) ps h)

two-none : (o : Option (List Piece)) → join_two o None ≡ None
two-none None = refl
two-none (Some a) = refl

module _ (names : Names) where
  pub targets-snoc : (us : List Expr) (z : Expr) (ps qs : List Piece) → all_targets names us ≡ Some ps → as_target names z ≡ Some qs → all_targets names (us ++ z ∷ []) ≡ Some (ps ++ qs)
  targets-snoc [] z ps qs h k =
      ap (λ o. join_two o (Some [])) k ∙ (ap (λ zs. Some zs) (append-nil qs) ∙ ap (λ zs. Some (zs ++ qs)) (same-some [] ps h))
  targets-snoc (x ∷ us) z ps qs h k =
      let r = two-of (as_target names x) (all_targets names us) ps h in
      ap (λ o. join_two o (all_targets names (us ++ z ∷ []))) r.2 ∙ (ap (join_two (Some r.0)) (targets-snoc us z r.1 qs r.3 k) ∙
      ap (λ zs. Some zs) (assoc r.0 r.1 qs ∙ ap (λ zs. zs ++ qs) r.4))

  pub targets-none : (us vs : List Expr) (z : Expr) → as_target names z ≡ None → all_targets names (us ++ z ∷ vs) ≡ None
  targets-none [] vs z h = ap (λ o. join_two o (all_targets names vs)) h
  targets-none (x ∷ us) vs z h = ap (join_two (as_target names x)) (targets-none us vs z h) ∙ two-none (as_target names x)

  nodes-snoc : (us : List Expr) (z : Expr) → all_nodes names (us ++ z ∷ []) ≡ all_nodes names us ++ own_sites DrivenJoined None (walk names z)
  nodes-snoc [] z = append-nil (own_sites DrivenJoined None (walk names z))
  nodes-snoc (x ∷ us) z =
      ap (λ zs. own_sites DrivenJoined None (walk names x) ++ zs) (nodes-snoc us z) ∙
      assoc (own_sites DrivenJoined None (walk names x)) (all_nodes names us) (own_sites DrivenJoined None (walk names z))

  nodes-within : (us vs : List Expr) (z : Expr) → Within (own_sites DrivenJoined None (walk names z)) (all_nodes names (us ++ z ∷ vs))
  nodes-within [] vs z = within-first (own_sites DrivenJoined None (walk names z)) (all_nodes names vs)
  nodes-within (u ∷ us) vs z = within-then _ _ _ (nodes-within us vs z) (within-second (own_sites DrivenJoined None (walk names u)) (all_nodes names (us ++ z ∷ vs)))

  widths-snoc : (us : List Expr) (z : Expr) → total_width (map (walk names) (us ++ z ∷ [])) ≡ total_width (map (walk names) us) + wide (walk names z)
  widths-snoc [] z = omega arith
  widths-snoc (x ∷ us) z = omega (arith, widths-snoc us z)

module _ (S : Signals) (here : Here) where
  pub no-sinks : (g : TargetForms) → g.targets ≡ [] → g.width ≡ 0 → g.clocks ≡ [] → HasSinks S here [] [] g
  no-sinks g a b c = record {
    targets = refl;
    width = refl;
    goals = record {
      goal = ap (λ ts. goal_of (flat_map (flat.pieces S) ts)) a;
      good = λ z. ap (list_all (are_targets S)) a;
      width = b;
      clean = refl;
      zero = refl;
      clocks = sym c;
    };
  }

  module _ (es : List Expr) (i : ℕ) (z : Expr) (h : i < length es) (e : get_or es i z ≡ z) where
    taken : take (i + 1) es ≡ take i es ++ z ∷ []
    taken = take_more es i z h ∙ ap (λ u. take i es ++ u ∷ []) e

    pub sinks-more : (ps qs : List Piece) (g q : TargetForms) (f : TargetForm) → HasSinks S here (take i es) ps g → HasSink S here z qs f → AreMore g f q →
        HasSinks S here (take (i + 1) es) (ps ++ qs) q
    sinks-more ps qs g q f a b m = subst (λ us. HasSinks S here us (ps ++ qs) q) (sym taken) (record {
      targets = targets-snoc here.names (take i es) z ps qs a.targets b.target;
      width = bits-both ps qs ∙ (two (λ (u v : ℕ). u + v) _ _ _ _ a.width b.width ∙ sym (widths-snoc here.names (take i es) z));
      goals =
          subst (λ ss. HasGoals S here ss (ps ++ qs) (list_all has_operands (take i es ++ z ∷ [])) q) (sym (nodes-snoc here.names (take i es) z))
          (subst (λ ok. HasGoals S here (all_nodes here.names (take i es) ++ own_sites DrivenJoined None (walk here.names z)) (ps ++ qs) ok q) (sym (all-snoc has_operands (take i es) z))
          (more S here true (all_nodes here.names (take i es)) (own_sites DrivenJoined None (walk here.names z)) ps qs (list_all has_operands (take i es)) (has_operands z) g q f
          a.goals (b.goal true) m));
    })

    pub sinks-told : (y : ResolveError) → Told here (sink_nodes true (walk here.names z)) y → SinksAnswer S here es (Err y)
    sinks-told y k = record {
      right = tt;
      wrong = subst (λ us. Told here (all_nodes here.names us) y) (sym (parted es i z h e)) (told-within here _ _ y (nodes-within here.names (take i es) (drop (i + 1) es) z) k);
    }

    pub sinks-memory : (y : ResolveError) → y ≡ x.NoMemory → SinksAnswer S here es (Err y)
    sinks-memory y k = record { right = tt; wrong = subst (Told here (all_nodes here.names es)) (sym k) (no-memory here (all_nodes here.names es)) }

    pub sinks-none : as_target here.names z ≡ None → SinksAnswer S here es (Ok None)
    sinks-none k = record { right = ap (all_targets here.names) (parted es i z h e) ∙ targets-none here.names (take i es) (drop (i + 1) es) z k; wrong = tt }

  pub sinks-all : (es : List Expr) (i : ℕ) (ps : List Piece) (g : TargetForms) → length es ≤ i → HasSinks S here (take i es) ps g → SinksAnswer S here es (Ok (Some g))
  sinks-all es i ps g h k = record { right = (ps, subst (λ us. HasSinks S here us ps g) (take-whole es i h) k); wrong = tt }

-- ---- the whole

module _ (S : Signals) (here : Here) (e : Expr) where
  pub sunk-told : (y : ResolveError) → is_none (as_target here.names e) ≡ false → Told here (sink_nodes false (walk here.names e)) y → SunkAnswer S here e (Err y)
  sunk-told y k h = record { right = tt; wrong = told-of here (sink_sites here.names e) y h.found; target = k }

  pub sunk-none : as_target here.names e ≡ None → SunkAnswer S here e (Ok None)
  sunk-none h = record { right = h; wrong = tt; target = tt }

  module _ (ps : List Piece) (f : TargetForm) (r : ResolvedTarget) (h : HasSink S here e ps f) (a : r.target ≡ f.target) (b : r.width ≡ min f.width 128) (c : r.clocks ≡ f.clocks) where
    abbrev whole-goal : HasGoal S here (sink_nodes false (walk here.names e)) ps (has_operands e) f
    whole-goal = h.goal false

    pub sunk-right : SunkAnswer S here e (Ok (Some r))
    sunk-right =
        let fit : is_width (bits_of_pieces ps) ≡ true = ap is_width h.width ∙ h.fits in
        let goal : goal_of (flat.pieces S r.target) ≡ goal_of ps = ap (λ v. goal_of (flat.pieces S v)) a ∙ whole-goal.goal in
        let m : bits_of_pieces ps ≤ 128 = most (bits_of_pieces ps) fit in
        let w : f.width ≡ bits_of_pieces ps = whole-goal.width ∙ omega arith in
        let wid : r.width ≡ bits_of_pieces ps = b ∙ (ap (λ n. min n 128) w ∙ omega arith) in record {
          right = record {
            target = (ps, h.target, goal);
            good = λ v. good-target S r.target ∙ and-both _ _ (ap (λ (g : Goal). is_width (bits_in (g.places nowhere))) goal ∙ fit) (ap (are_targets S) a ∙ whole-goal.good v);
            width = wid ∙ (h.width ∙ ap (λ v. v.meaning.width) (walk-reads here.names e));
            fits = ap is_width wid ∙ fit;
            faultless = faultless here (sink_sites here.names e) whole-goal.clean whole-goal.zero;
            clocks = spotted here (site_faults ClockUse) (sink_sites here.names e) ∙ (whole-goal.clocks ∙ sym c);
          };
          wrong = tt;
          target = tt;
        }
