-- A `case` from what its parts are answered to be.
use Rattle.std.proofs.Common.{◌≡◌, inl, inr, ℕ, ◌+◌, ◌<◌, ◌≤◌, max, Bool, true, false, ◌&&◌, List, [], ◌∷◌, ◌++◌, ap, ◌∙◌, sym, subst, refl, map, flat_map, length, take, drop, get_or, arith, Ok, Err, Result}
use Rattle.std.specs.Prelude.{IfOk, IfErr, nat_lt}
use Rattle.std.specs.List.{Contains, list_all}
use Rattle.std.proofs.lemmas.Grind.{flat_map-append}
use Rattle.std.proofs.lemmas.List.{take_more, map-append}
use Rattle.std.proofs.lemmas.List.Elements.{Contains-append_left, Contains-append_right, Contains-append_cases}
use Rattle.lv_ast.specs.declared.expr.Expr.{Expr}
use Rattle.lv_ast.specs.declared.stmt.Arm.{Arm}
use Rattle.lv_ast.specs.declared.stmt.Stmt.{Stmt}
use Rattle.lv_ast.specs.declared.stmt.Stmt.TheVariants as b
use Rattle.lv_source.specs.Names.{Names, Here}
use Rattle.lv_source.specs.Meaning.{Reading, read_expr, own_width, own_signed}
use Rattle.lv_source.specs.Effect.{Width, Label, common, common_of}
use Rattle.lv_source.specs.Effect as source
use Rattle.lv_source.specs.Faults.{site_faults}
use Rattle.lv_source.specs.Flow.{is_extended}
use Rattle.lv_source.specs.Legal.{UnknownName, NotConstant, ZeroDivisor, Range, ClockUse}
use Rattle.lv_source.specs.ScopeRules.{two_defaults, place_if, first_in}
use Rattle.lv_source.specs.Sites.{Site, Spot, spots, walk, first_place}
use Rattle.lv_source.specs.Standing.{Choose, standing, form_spots, case_sites}
use Rattle.lv_source.proofs.Bridges.{two}
use Rattle.lv_source.proofs.CaseTrees.{flat-map}
use Rattle.lv_const.proofs.Lists.{take-whole}
use Rattle.lv_const.proofs.SamePlaces.{same-first}
use Rattle.lv_flat.specs.declared.stmt.FlatArm.{FlatArm}
use Rattle.lv_flat.specs.Signals.{Signals}
use Rattle.lv_flat.specs.Judged.{is_good, no_names}
use Rattle.lv_flat.specs.Executing as flat
use Rattle.lv_flat.specs.Good.{good_stmt}
use Rattle.lv_flat.proofs.Doings.{Done, done_case, arm_with}
use Rattle.lv_flat.proofs.FlatDoings.{flat_done, flat-Case}
use Rattle.lv_flat.proofs.GoodParts.{good-Case}
use Rattle.lv_flat.proofs.SourceDoings.{source_done, source-Case}
use Rattle.lv_resolve.specs.declared.error.ResolveError.{ResolveError}
use Rattle.lv_resolve.specs.declared.error.ResolveError.TheVariants as y
use Rattle.lv_resolve.specs.declared.resolved.Resolved.{Resolved}
use Rattle.lv_resolve.specs.declared.typed.OwnType.{OwnType}
use Rattle.lv_resolve.specs.Forms.{has_operands}
use Rattle.lv_resolve.specs.Resolved.{AreFaultless, IsToldOf, IsResolved, IsOwnType, IsAlwaysTold, sites_at, reached_spots}
use Rattle.lv_resolve.proofs.Nodes.{and-left, and-right, and-both}
use Rattle.lv_resolve.proofs.Covers.{nowhere-in, in-same}
use Rattle.lv_resolve.proofs.TargetLaws.{parted}
use Rattle.lv_resolve.proofs.Zeros.{single}
use Rattle.lv_resolve_stmts.specs.declared.error.StmtError.{StmtError}
use Rattle.lv_resolve_stmts.specs.declared.error.StmtError.TheVariants as x
use Rattle.lv_resolve_stmts.specs.declared.resolved.ResolvedStmt.{ResolvedStmt}
use Rattle.lv_resolve_stmts.specs.declared.cases.Labels.{Labels}
use Rattle.lv_resolve_stmts.specs.declared.cases.Arms.{Arms}
use Rattle.lv_resolve_stmts.specs.declared.cases.Head.{Head}
use Rattle.lv_resolve_stmts.specs.Statements.{AreSound, IsFaultOf, HasStmt, StmtAnswer, clocks_at, has_stmt_operands, of_node, memory}
use Rattle.lv_resolve_stmts.specs.Cases.{labels_in, label_lists, bodies, defaults_in, width_of, own_of, wider, widths, label_spots, AreAlwaysTold, WidthsAnswer, CommonAnswer}
use Rattle.lv_resolve_stmts.specs.Cases.{AreMoreLabels, HasLabels, LabelsAnswer, choose_at, HasHead, HeadAnswer, flat_labels, source_labels, good_arm, has_arm_operands, AreMoreArms, HasArms}
use Rattle.lv_resolve_stmts.specs.Cases.{IsArmsFault, in_label, in_body, ArmsAnswer, case_standing, case_done, IsCase}
use Rattle.lv_resolve_stmts.proofs.AssignLaws.{faultless-both}
use Rattle.lv_resolve_stmts.proofs.Lists.{sound-none, sound-one, sound-both, within, fault-left, fault-right, fault-one, append-nil, all-mapped, all-joined}
use Rattle.lv_resolve_stmts.proofs.Stands.{stands-Case, ok-Case}
use Rattle.lv_resolve_stmts.proofs.StmtLaws.{node-fault}

-- ---- lists

pub step-taken : {A : Type 0} (xs : List A) (i : ℕ) (z : A) → i < length xs → get_or xs i z ≡ z → take (i + 1) xs ≡ take i xs ++ z ∷ []
step-taken xs i z h g = take_more xs i z h ∙ ap (λ u. take i xs ++ u ∷ []) g

flat-taken : {A B : Type 0} (f : A → List B) (xs : List A) (z : A) → flat_map f (xs ++ z ∷ []) ≡ flat_map f xs ++ f z
flat-taken f xs z = flat_map-append f xs (z ∷ []) ∙ ap (λ us. flat_map f xs ++ us) (append-nil (f z))

in-flat : {A B : Type 0} (f : A → List B) (us vs : List A) (z : A) (w : B) → Contains (f z) w → Contains (flat_map f (us ++ z ∷ vs)) w
in-flat f [] vs z w c = Contains-append_left (f z) (flat_map f vs) w c
in-flat f (u ∷ us) vs z w c = Contains-append_right (f u) (flat_map f (us ++ z ∷ vs)) w (in-flat f us vs z w c)

in-whole : {A B : Type 0} (f : A → List B) (xs : List A) (i : ℕ) (z : A) (w : B) → i < length xs → get_or xs i z ≡ z → Contains (f z) w → Contains (flat_map f xs) w
in-whole f xs i z w h g c = subst (λ us. Contains (flat_map f us) w) (sym (parted xs i z h g)) (in-flat f (take i xs) (drop (i + 1) xs) z w c)

all-first : {A : Type 0} (ok : A → Bool) (xs ys : List A) → list_all ok (xs ++ ys) ≡ true → list_all ok xs ≡ true
all-first ok [] ys h = refl
all-first ok (z ∷ xs) ys h =
    and-both (ok z) (list_all ok xs) (and-left (ok z) (list_all ok (xs ++ ys)) h) (all-first ok xs ys (and-right (ok z) (list_all ok (xs ++ ys)) h))

all-last : {A : Type 0} (ok : A → Bool) (xs : List A) (z : A) → list_all ok (xs ++ z ∷ []) ≡ true → ok z ≡ true
all-last ok [] z h = and-left (ok z) true h
all-last ok (u ∷ xs) z h = all-last ok xs z (and-right (ok u) (list_all ok (xs ++ z ∷ [])) h)

-- ---- errors of nodes

pub told-within : (xs ys : List Spot) (e : ResolveError) → ((f : Spot → List ℕ) (p : ℕ) → Contains (flat_map f xs) p → Contains (flat_map f ys) p) →
    IsToldOf xs e → IsToldOf ys e
told-within xs ys (y.UnknownName p) w h = w (site_faults UnknownName) p h
told-within xs ys (y.NotConstant p) w h = w (site_faults NotConstant) p h
told-within xs ys (y.ZeroDivisor p) w h = w (site_faults ZeroDivisor) p h
told-within xs ys (y.Range p) w h = w (site_faults Range) p h
told-within xs ys y.NoMemory w h = tt

-- of one of them
flat-flat : {A B C : Type 0} (f : B → List C) (g : A → List B) (xs : List A) → flat_map f (flat_map g xs) ≡ flat_map (λ a. flat_map f (g a)) xs
flat-flat f g [] = refl
flat-flat f g (a ∷ xs) = flat_map-append f (g a) (flat_map g xs) ∙ ap (λ us. flat_map f (g a) ++ us) (flat-flat f g xs)

told-whole : {A : Type 0} (g : A → List Spot) (xs : List A) (i : ℕ) (z : A) (e : ResolveError) → i < length xs → get_or xs i z ≡ z → IsToldOf (g z) e → IsToldOf (flat_map g xs) e
told-whole g xs i z e h k t = told-within (g z) (flat_map g xs) e
    (λ f p c. in-same _ _ p (sym (flat-flat f g xs)) (in-whole (λ a. flat_map f (g a)) xs i z p h k c)) t

told-left : (xs ys : List Spot) (e : ResolveError) → IsToldOf xs e → IsToldOf (xs ++ ys) e
told-left xs ys e t = told-within xs (xs ++ ys) e
    (λ f p c. in-same _ _ p (sym (flat_map-append f xs ys)) (Contains-append_left (flat_map f xs) (flat_map f ys) p c)) t

told-right : (xs ys : List Spot) (e : ResolveError) → IsToldOf ys e → IsToldOf (xs ++ ys) e
told-right xs ys e t = told-within ys (xs ++ ys) e
    (λ f p c. in-same _ _ p (sym (flat_map-append f xs ys)) (Contains-append_right (flat_map f xs) (flat_map f ys) p c)) t

faultless-none : AreFaultless []
faultless-none = record { unknown = refl; unfixed = refl; zero = refl; range = refl }

-- ---- widths and signs

module _ (names : Names) where
  turned : (p q : Bool) (s : Bool) → (p && (q && s)) ≡ (q && (p && s))
  turned true q s = refl
  turned false true s = refl
  turned false false s = refl

  swapped : (c : Width) (k l : Expr) → wider names (wider names c k) l ≡ wider names (wider names c l) k
  swapped c k l = two (λ (w : ℕ) (s : Bool). let r : Width = record { width = w; signed = s } in r) _ _ _ _
      (omega arith) (turned (own_signed names l) (own_signed names k) c.signed)

  widths-after : (c : Width) (l : Expr) (ls : List Expr) → widths names (wider names c l) ls ≡ wider names (widths names c ls) l
  widths-after c l [] = refl
  widths-after c l (k ∷ ls) = ap (λ d. widths names d ls) (swapped c l k) ∙ widths-after (wider names c k) l ls

  pub common-is : (e : Expr) (ls : List Expr) → widths names (own_of names e) ls ≡ common names e ls
  common-is e [] = refl
  common-is e (l ∷ ls) = widths-after (own_of names e) l ls ∙ ap (λ c. wider names c l) (common-is e ls)

  pub widths-append : (c : Width) (ks ls : List Expr) → widths names c (ks ++ ls) ≡ widths names (widths names c ks) ls
  widths-append c [] ls = refl
  widths-append c (k ∷ ks) ls = widths-append (wider names c k) ks ls

  -- no label and no selector is wider
  label-within : (e : Expr) (ls : List Expr) (l : Expr) → Contains ls l → own_width names l ≤ (common names e ls).width
  label-within e [] l c = absurd (nowhere-in l c)
  label-within e (k ∷ ls) l c = elim (Contains-append_cases (k ∷ []) ls l c) [
    | inl a ↦ subst (λ z. own_width names z ≤ (common names e (k ∷ ls)).width) (single k l a) (omega arith)
    | inr a ↦ let h = label-within e ls l a in omega (arith, h)
  ]

  selector-within : (e : Expr) (ls : List Expr) → own_width names e ≤ (common names e ls).width
  selector-within e [] = omega arith
  selector-within e (l ∷ ls) = let h = selector-within e ls in omega (arith, h)

module _ (here : Here) where
  -- ---- the common type

  pub type-more : (ls : List Expr) (i : ℕ) (l : Expr) (rest c t d : OwnType) → i < length ls → get_or ls i l ≡ l → width_of c ≡ widths here.names (width_of rest) (take i ls) →
      IsOwnType here l t → d.width ≡ max t.width c.width → d.signed ≡ (t.signed && c.signed) → width_of d ≡ widths here.names (width_of rest) (take (i + 1) ls)
  type-more ls i l rest c t d h g w o e f =
      two (λ (n : ℕ) (s : Bool). let r : Width = record { width = n; signed = s } in r) _ _ _ _
      (e ∙ ap (λ n. max n c.width) o.width) (f ∙ ap (λ s. s && c.signed) o.signed) ∙
      (ap (λ z. wider here.names z l) w ∙
      (sym (widths-append here.names (width_of rest) (take i ls) (l ∷ [])) ∙ ap (λ us. widths here.names (width_of rest) us) (sym (step-taken ls i l h g))))

  pub type-none : (ls : List Expr) (i : ℕ) (l : Expr) (c : OwnType) (e : ResolveError) → i < length ls → get_or ls i l ≡ l → IsAlwaysTold here l e → WidthsAnswer here c ls (Err e)
  type-none ls i l c e h g t = record {
    right = tt;
    wrong = record { told = λ W T. told-whole (λ u. reached_spots here (max W (own_width here.names u)) T u) ls i l e h g (t.told (max W (own_width here.names l)) T) };
  }

  pub type-all : (ls : List Expr) (i : ℕ) (rest c : OwnType) → length ls ≤ i → width_of c ≡ widths here.names (width_of rest) (take i ls) → WidthsAnswer here rest ls (Ok c)
  type-all ls i rest c h w = record { right = w ∙ ap (λ us. widths here.names (width_of rest) us) (take-whole ls i h); wrong = tt }

  pub arms-more : (arms : List Arm) (i : ℕ) (a : Arm) (list : List Expr) (rest c d : OwnType) → i < length arms → get_or arms i a ≡ a → list ≡ a.labels →
      width_of c ≡ widths here.names (width_of rest) (labels_in (take i arms)) → width_of d ≡ widths here.names (width_of c) list →
      width_of d ≡ widths here.names (width_of rest) (labels_in (take (i + 1) arms))
  arms-more arms i a list rest c d h g s w k =
      k ∙ (ap (λ us. widths here.names (width_of c) us) s ∙ (ap (λ z. widths here.names z a.labels) w ∙
      (sym (widths-append here.names (width_of rest) (labels_in (take i arms)) a.labels) ∙
      ap (λ us. widths here.names (width_of rest) us) (sym (ap labels_in (step-taken arms i a h g) ∙ flat-taken (λ (z : Arm). z.labels) (take i arms) a)))))

  label-lists-spots : (W : ℕ) (T : Bool) (arms : List Arm) → label_spots here W T (labels_in arms) ≡ flat_map (λ (a : Arm). label_spots here W T a.labels) arms
  label-lists-spots W T arms = flat-flat (λ u. reached_spots here (max W (own_width here.names u)) T u) (λ (a : Arm). a.labels) arms

  told-arm : (W : ℕ) (T : Bool) (arms : List Arm) (i : ℕ) (a : Arm) (e : ResolveError) → i < length arms → get_or arms i a ≡ a → IsToldOf (label_spots here W T a.labels) e →
      IsToldOf (label_spots here W T (labels_in arms)) e
  told-arm W T arms i a e h g t = subst (λ us. IsToldOf us e) (sym (label-lists-spots W T arms)) (told-whole (λ (z : Arm). label_spots here W T z.labels) arms i a e h g t)

  pub arms-type-none : (arms : List Arm) (i : ℕ) (a : Arm) (list : List Expr) (c : OwnType) (e : ResolveError) → i < length arms → get_or arms i a ≡ a → list ≡ a.labels →
      AreAlwaysTold here list e → WidthsAnswer here c (labels_in arms) (Err e)
  arms-type-none arms i a list c e h g s t = record {
    right = tt;
    wrong = record { told = λ W T. told-arm W T arms i a e h g (subst (λ us. IsToldOf (label_spots here W T us) e) s (t.told W T)) };
  }

  pub arms-type-all : (arms : List Arm) (i : ℕ) (rest c : OwnType) → length arms ≤ i → width_of c ≡ widths here.names (width_of rest) (labels_in (take i arms)) →
      WidthsAnswer here rest (labels_in arms) (Ok c)
  arms-type-all arms i rest c h w = record { right = w ∙ ap (λ us. widths here.names (width_of rest) (labels_in us)) (take-whole arms i h); wrong = tt }

  pub selector-none : (e : Expr) (ls : List Expr) (z : ResolveError) → IsAlwaysTold here e z → CommonAnswer here e ls (Err z)
  selector-none e ls z t = record {
    right = tt;
    wrong = record { told = λ W T. told-left (reached_spots here (max W (own_width here.names e)) T e) (label_spots here W T ls) z (t.told (max W (own_width here.names e)) T) };
  }

  pub common-answer : (e : Expr) (ls : List Expr) (c : OwnType) (r : Result OwnType ResolveError) → IsOwnType here e c → WidthsAnswer here c ls r → CommonAnswer here e ls r
  common-answer e ls c (Ok t) o w = record {
    right = w.right ∙ (ap (λ d. widths here.names d ls) (two (λ (n : ℕ) (s : Bool). let z : Width = record { width = n; signed = s } in z) _ _ _ _ o.width o.signed) ∙ common-is here.names e ls);
    wrong = tt;
  }
  common-answer e ls c (Err z) o w = record {
    right = tt;
    wrong = record { told = λ W T. told-right (reached_spots here (max W (own_width here.names e)) T e) (label_spots here W T ls) z (w.wrong.told W T) };
  }

  -- ---- the nodes of a `case`

  widest : (W n : ℕ) → n ≤ W → max W n ≡ W
  widest W n h = omega (arith, h)

  each-spots : (W : ℕ) (T : Bool) (ls : List Expr) → ((l : Expr) → Contains ls l → own_width here.names l ≤ W) →
      spots here (flat_map (λ l. sites_at here.names W T l) ls) ≡ label_spots here W T ls
  each-spots W T [] h = refl
  each-spots W T (l ∷ ls) h =
      map-append (λ (s : Site). (let p : Spot = record { early = here.early; site = s } in p)) (sites_at here.names W T l) (flat_map (λ k. sites_at here.names W T k) ls) ∙
      two (λ (p q : List Spot). p ++ q) _ _ _ _ (ap (λ w. reached_spots here w T l) (sym (widest W (own_width here.names l) (h l (0, omega arith, refl)))))
      (each-spots W T ls (λ k c. h k (Contains-append_right (l ∷ []) ls k c)))

  case-within : (e : Expr) (ls : List Expr) (l : Expr) → Contains (e ∷ ls) l → own_width here.names l ≤ (common here.names e ls).width
  case-within e ls l c = elim (Contains-append_cases (e ∷ []) ls l c) [
    | inl a ↦ subst (λ z. own_width here.names z ≤ (common here.names e ls).width) (single e l a) (selector-within here.names e ls)
    | inr a ↦ label-within here.names e ls l a
  ]

  listed : (arms : List Arm) → flat_map (λ (ls : List Expr). ls) (label_lists arms) ≡ labels_in arms
  listed arms = flat-map (λ (ls : List Expr). ls) (λ (a : Arm). a.labels) arms

  pub case-spots : (e : Expr) (arms : List Arm) (c : OwnType) → width_of c ≡ common here.names e (labels_in arms) →
      form_spots here (Choose e (label_lists arms)) ≡ label_spots here c.width c.signed (e ∷ labels_in arms)
  case-spots e arms c w =
      ap (λ us. spots here (case_sites here.names e us)) (listed arms) ∙
      (each-spots (common here.names e (labels_in arms)).width (common here.names e (labels_in arms)).signed (e ∷ labels_in arms) (case-within e (labels_in arms)) ∙
      ap (λ (z : Width). label_spots here z.width z.signed (e ∷ labels_in arms)) (sym w))

  common-spots : (e : Expr) (arms : List Arm) → form_spots here (Choose e (label_lists arms)) ≡
      label_spots here (common here.names e (labels_in arms)).width (common here.names e (labels_in arms)).signed (e ∷ labels_in arms)
  common-spots e arms =
      ap (λ us. spots here (case_sites here.names e us)) (listed arms) ∙
      each-spots (common here.names e (labels_in arms)).width (common here.names e (labels_in arms)).signed (e ∷ labels_in arms) (case-within e (labels_in arms))

  case-fault : (e : Expr) (arms : List Arm) (xs : List Spot) (z : ResolveError) → form_spots here (Choose e (label_lists arms)) ≡ xs → IsToldOf xs z →
      IsFaultOf (choose_at here e arms ∷ []) (of_node z)
  case-fault e arms xs z s t = node-fault (choose_at here e arms) xs z (λ f p c. in-same _ _ p (ap (flat_map f) (sym s)) c) t

  -- ---- the head

  module _ (S : Signals) (e : Expr) (arms : List Arm) where
    pub duplicate-none : (at : ℕ) → nat_lt 1 (defaults_in (label_lists arms)) ≡ true → at ≡ first_place (walk no_names e).shown → HeadAnswer S here e arms (Err (x.Duplicate at))
    duplicate-none at h p = record {
      right = tt;
      wrong = fault-one (choose_at here e arms) (x.Duplicate at)
          (in-same (at ∷ []) (two_defaults (choose_at here e arms)) at
          (sym (ap (λ t. place_if t (first_in here.names e)) h ∙ ap (λ q. q ∷ []) (sym (p ∙ same-first no_names here.names e)))) (0, omega arith, refl));
    }

    pub common-none : (z : ResolveError) → AreAlwaysTold here (e ∷ labels_in arms) z → HeadAnswer S here e arms (Err (of_node z))
    common-none z t = record { right = tt; wrong = case-fault e arms _ z (common-spots e arms) (t.told _ _) }

    module _ (c : OwnType) (w : width_of c ≡ common here.names e (labels_in arms)) where
      pub taken-none : (z : ResolveError) → IsToldOf (reached_spots here (max c.width (own_width here.names e)) c.signed e) z → HeadAnswer S here e arms (Err (of_node z))
      taken-none z t = record {
        right = tt;
        wrong = case-fault e arms _ z (case-spots e arms c w) (told-left (reached_spots here (max c.width (own_width here.names e)) c.signed e) (label_spots here c.width c.signed (labels_in arms)) z t);
      }

      pub head-found : (r : Resolved) (h : Head) → nat_lt 1 (defaults_in (label_lists arms)) ≡ false → IsResolved S here (reached_spots here (max c.width (own_width here.names e)) c.signed e) e r →
          h.kind ≡ c → h.selector ≡ r → HeadAnswer S here e arms (Ok h)
      head-found r h d i p q = record {
        right = record {
          kind = ap width_of p ∙ w;
          selector = subst (λ (k : OwnType). IsResolved S here (reached_spots here (max k.width (own_width here.names e)) k.signed e) e h.selector) (sym p)
              (subst (λ (z : Resolved). IsResolved S here (reached_spots here (max c.width (own_width here.names e)) c.signed e) e z) (sym q) i);
          defaults = ap (λ t. place_if t (first_in here.names e)) d;
        };
        wrong = tt;
      }

  -- ---- labels

  module _ (S : Signals) (W : ℕ) (T : Bool) where
    abbrev one_spots : Expr → List Spot
    one_spots u = reached_spots here (max W (own_width here.names u)) T u

    pub labels-none : (f : Labels) → f.labels ≡ [] → f.clocks ≡ [] → HasLabels S here W T [] f
    labels-none f e k = record { same = ap (map (flat.label_of S)) e; good = λ q. ap (list_all (is_good S)) e; faultless = faultless-none; clocks = sym k }

    label-same : (l : Expr) (r : Resolved) → IsResolved S here (one_spots l) l r → flat.label_of S r.expr ≡ source.label_of here.names l
    label-same l r i = two (λ r l. let z : Label = record { reading = r; literal = l } in z) _ _ _ _ i.same i.literal

    module _ (ls : List Expr) (i : ℕ) (l : Expr) (h : i < length ls) (g : get_or ls i l ≡ l) where
      pub labels-more : (f k : Labels) (r : Resolved) → HasLabels S here W T (take i ls) f → IsResolved S here (one_spots l) l r → AreMoreLabels f r k → HasLabels S here W T (take (i + 1) ls) k
      labels-more f k r a v m = subst (λ us. HasLabels S here W T us k) (sym (step-taken ls i l h g))
          (let us : List Expr = take i ls in
          let at : label_spots here W T (us ++ l ∷ []) ≡ label_spots here W T us ++ one_spots l = flat-taken one_spots us l in
          record {
            same = ap (map (flat.label_of S)) m.labels ∙ (map-append (flat.label_of S) f.labels (r.expr ∷ []) ∙
                (two (λ (p q : List Label). p ++ q) _ _ _ _ a.same (ap (λ z. z ∷ []) (label-same l r v)) ∙ sym (map-append (source.label_of here.names) us (l ∷ []))));
            good = λ q. ap (list_all (is_good S)) m.labels ∙ all-joined (is_good S) f.labels (r.expr ∷ []) (a.good (all-first has_operands us (l ∷ []) q))
                (and-both (is_good S r.expr) true (v.good (all-last has_operands us l q)) refl);
            faultless = subst AreFaultless (sym at) (faultless-both (label_spots here W T us) (one_spots l) a.faultless v.faultless);
            clocks = ap (flat_map (site_faults ClockUse)) at ∙ (flat_map-append (site_faults ClockUse) (label_spots here W T us) (one_spots l) ∙
                (two (λ (p q : List ℕ). p ++ q) _ _ _ _ a.clocks v.clocks ∙ sym m.clocks));
          })

      pub label-none : (e : ResolveError) → IsToldOf (one_spots l) e → LabelsAnswer S here W T ls (Err e)
      label-none e t = record { right = tt; wrong = told-whole one_spots ls i l e h g t }

    pub labels-full : (ls : List Expr) (e : ResolveError) → e ≡ y.NoMemory → LabelsAnswer S here W T ls (Err e)
    labels-full ls e q = record { right = tt; wrong = subst (λ z. IsToldOf (label_spots here W T ls) z) (sym q) tt }

    pub labels-all : (ls : List Expr) (i : ℕ) (f : Labels) → length ls ≤ i → HasLabels S here W T (take i ls) f → LabelsAnswer S here W T ls (Ok f)
    labels-all ls i f h a = record { right = subst (λ us. HasLabels S here W T us f) (take-whole ls i h) a; wrong = tt }

    -- ---- arms

    pub arms-none : (f : Arms) → f.arms ≡ [] → f.heads ≡ [] → f.clocks ≡ [] → HasArms S here W T [] f
    arms-none f e k c = record {
      same = ap (map (arm_with (flat_labels S) (λ a. flat_done S a.body))) e;
      good = λ q. ap (list_all (good_arm S)) e;
      faultless = faultless-none;
      heads = sym k;
      sound = sound-none;
      clocks = sym c;
    }

    module _ (arms : List Arm) (i : ℕ) (a : Arm) (h : i < length arms) (g : get_or arms i a ≡ a) (list : List Expr) (s : list ≡ a.labels) where
      pub arm-more : (f k : Arms) (l : Labels) (r : ResolvedStmt) → HasArms S here W T (take i arms) f → HasLabels S here W T list l →
          HasStmt S (standing here a.body) (source_done here.names a.body) (has_stmt_operands a.body) r → AreMoreArms f l r k → HasArms S here W T (take (i + 1) arms) k
      arm-more f k l r v u w m = subst (λ us. HasArms S here W T us k) (sym (step-taken arms i a h g))
          (let us : List Arm = take i arms in
          let n : HasLabels S here W T a.labels l = subst (λ zs. HasLabels S here W T zs l) s u in
          let at : label_spots here W T (labels_in (us ++ a ∷ [])) ≡ label_spots here W T (labels_in us) ++ label_spots here W T a.labels =
          ap (λ zs. label_spots here W T zs) (flat-taken (λ (z : Arm). z.labels) us a) ∙ flat_map-append one_spots (labels_in us) a.labels in
          let below : bodies here (us ++ a ∷ []) ≡ bodies here us ++ standing here a.body = flat-taken (λ (z : Arm). standing here z.body) us a in
          let last : FlatArm = record { labels = l.labels; body = r.stmt } in
          let ok : list_all has_arm_operands (us ++ a ∷ []) ≡ true → has_arm_operands a ≡ true = all-last has_arm_operands us a in
          record {
            same = ap (map (arm_with (flat_labels S) (λ z. flat_done S z.body))) m.arms ∙ (map-append (arm_with (flat_labels S) (λ z. flat_done S z.body)) f.arms (last ∷ []) ∙
                (two (λ (p q : List (source.Arm Done)). p ++ q) _ _ _ _ v.same
                (two (λ (p : List Label) (q : Done). (let z : source.Arm Done = record { labels = p; body = q } in z) ∷ []) _ _ _ _ n.same w.same) ∙
                sym (map-append (arm_with (source_labels here.names) (λ z. source_done here.names z.body)) us (a ∷ []))));
            good = λ q. ap (list_all (good_arm S)) m.arms ∙ all-joined (good_arm S) f.arms (last ∷ []) (v.good (all-first has_arm_operands us (a ∷ []) q))
                (and-both (good_arm S last) true (and-both (list_all (is_good S) l.labels) (good_stmt S r.stmt) (n.good (and-left (list_all has_operands a.labels) (has_stmt_operands a.body) (ok q)))
                (w.good (and-right (list_all has_operands a.labels) (has_stmt_operands a.body) (ok q)))) refl);
            faultless = subst AreFaultless (sym at) (faultless-both (label_spots here W T (labels_in us)) (label_spots here W T a.labels) v.faultless n.faultless);
            heads = ap (flat_map (site_faults ClockUse)) at ∙ (flat_map-append (site_faults ClockUse) (label_spots here W T (labels_in us)) (label_spots here W T a.labels) ∙
                (two (λ (p q : List ℕ). p ++ q) _ _ _ _ v.heads n.clocks ∙ sym m.heads));
            sound = subst AreSound (sym below) (sound-both (bodies here us) (standing here a.body) v.sound w.sound);
            clocks = ap (flat_map clocks_at) below ∙ (flat_map-append clocks_at (bodies here us) (standing here a.body) ∙
                (two (λ (p q : List ℕ). p ++ q) _ _ _ _ v.clocks w.clocks ∙ sym m.clocks));
          })

      pub arm-label-none : (e : ResolveError) (z : StmtError) → z ≡ of_node e → IsToldOf (label_spots here W T list) e → ArmsAnswer S here W T arms (Err z)
      arm-label-none e z q t = record {
        right = tt;
        wrong = in_label e q (told-arm W T arms i a e h g (subst (λ us. IsToldOf (label_spots here W T us) e) s t));
      }

    pub arm-body-none : (arms : List Arm) (i : ℕ) (a : Arm) (e : StmtError) → i < length arms → get_or arms i a ≡ a → IsFaultOf (standing here a.body) e → ArmsAnswer S here W T arms (Err e)
    arm-body-none arms i a e h g t = record {
      right = tt;
      wrong = in_body (within (standing here a.body) (bodies here arms) e (λ k c. in-whole (λ (z : Arm). standing here z.body) arms i a k h g c) t);
    }

    pub arms-full : (arms : List Arm) (e : StmtError) → e ≡ x.NoMemory → ArmsAnswer S here W T arms (Err e)
    arms-full arms e q = record { right = tt; wrong = in_body (memory q) }

    pub arms-all : (arms : List Arm) (i : ℕ) (f : Arms) → length arms ≤ i → HasArms S here W T (take i arms) f → ArmsAnswer S here W T arms (Ok f)
    arms-all arms i f h a = record { right = subst (λ us. HasArms S here W T us f) (take-whole arms i h) a; wrong = tt }

  -- ---- the statement

  module _ (S : Signals) (wild : Bool) (e : Expr) (arms : List Arm) where
    abbrev pub Cased : Result ResolvedStmt StmtError → Type 0
    Cased r = StmtAnswer S (case_standing here e arms) (case_done wild here.names e arms) (has_operands e && list_all has_arm_operands arms) r

    pub head-none : (z : StmtError) → IsFaultOf (choose_at here e arms ∷ []) z → Cased (Err z)
    head-none z t = record { right = tt; wrong = fault-left (choose_at here e arms ∷ []) (bodies here arms) z t }

    module _ (d : Head) (g : HasHead S here e arms d) where
      fault-in : (z : StmtError) → IsArmsFault here d.kind.width d.kind.signed arms z → IsFaultOf (case_standing here e arms) z
      fault-in z (in_label v q t) = subst (λ u. IsFaultOf (case_standing here e arms) u) (sym q) (fault-left (choose_at here e arms ∷ []) (bodies here arms) (of_node v)
          (case-fault e arms _ v (case-spots e arms d.kind g.kind)
          (told-right (reached_spots here (max d.kind.width (own_width here.names e)) d.kind.signed e) (label_spots here d.kind.width d.kind.signed (labels_in arms)) v t)))
      fault-in z (in_body t) = fault-right (choose_at here e arms ∷ []) (bodies here arms) z t

      pub below-none : (z : StmtError) → IsArmsFault here d.kind.width d.kind.signed arms z → Cased (Err z)
      below-none z t = record { right = tt; wrong = fault-in z t }

      pub case-answer : (f : Arms) (r : Result ResolvedStmt StmtError) → HasArms S here d.kind.width d.kind.signed arms f → IfOk r (IsCase wild d f) → IfErr r (λ z. z ≡ x.NoMemory) → Cased r
      case-answer f (Err z) h i m = record { right = tt; wrong = memory m }
      case-answer f (Ok r) h i m =
          let sel : List Spot = reached_spots here (max d.kind.width (own_width here.names e)) d.kind.signed e in
          let rest : List Spot = label_spots here d.kind.width d.kind.signed (labels_in arms) in
          let at : form_spots here (Choose e (label_lists arms)) ≡ sel ++ rest = case-spots e arms d.kind g.kind in
          record {
            right = record {
              same = ap (flat_done S) i.stmt ∙ (flat-Case S wild d.selector.expr f.arms ∙
                  (two (λ (own : Bool) (v : Reading). done_case wild own v (map (arm_with (flat_labels S) (λ a. flat_done S a.body)) f.arms)) _ _ _ _ g.selector.extends g.selector.same ∙
                  ap (done_case wild (is_extended e) (read_expr here.names e)) h.same));
              good = λ q. ap (good_stmt S) i.stmt ∙ (good-Case S wild d.selector.expr f.arms ∙
                  and-both (is_good S d.selector.expr) (list_all (λ (u : Bool). u) (map (good_arm S) f.arms)) (g.selector.good (and-left (has_operands e) (list_all has_arm_operands arms) q))
                  (all-mapped (good_arm S) f.arms ∙ h.good (and-right (has_operands e) (list_all has_arm_operands arms) q)));
              sound = sound-both (choose_at here e arms ∷ []) (bodies here arms) (sound-one (choose_at here e arms) (record {
                nodes = subst AreFaultless (sym at) (faultless-both sel rest g.selector.faultless h.faultless);
                names = refl;
                ranges = refl;
                defaults = g.defaults;
              })) h.sound;
              clocks = two (λ (p q : List ℕ). p ++ q) _ _ _ _ (ap (flat_map (site_faults ClockUse)) at ∙ (flat_map-append (site_faults ClockUse) sel rest ∙
                  two (λ (p q : List ℕ). p ++ q) _ _ _ _ g.selector.clocks h.heads)) h.clocks ∙ sym i.clocks;
            };
            wrong = tt;
          }

  pub at-Case : (S : Signals) (z : Stmt) (wild : Bool) (c d : Expr) (arms list : List Arm) (r : Result ResolvedStmt StmtError) → z ≡ b.Case wild c arms → list ≡ arms → d ≡ c →
      Cased S wild d list r → StmtAnswer S (standing here z) (source_done here.names z) (has_stmt_operands z) r
  at-Case S z wild c d arms list r e l k h =
      subst (λ u. StmtAnswer S (standing here u) (source_done here.names u) (has_stmt_operands u) r) (sym e)
      (subst (λ v. StmtAnswer S v (source_done here.names (b.Case wild c arms)) (has_stmt_operands (b.Case wild c arms)) r) (sym (stands-Case here wild c arms))
      (subst (λ v. StmtAnswer S (case_standing here c arms) v (has_stmt_operands (b.Case wild c arms)) r) (sym (source-Case here.names wild c arms))
      (subst (λ v. StmtAnswer S (case_standing here c arms) (case_done wild here.names c arms) v r) (sym (ok-Case wild c arms))
      (subst (λ u. Cased S wild u arms r) k (subst (λ us. Cased S wild d us r) l h)))))
