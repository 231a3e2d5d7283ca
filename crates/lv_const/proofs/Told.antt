-- Faults of lists of sites.
use Rattle.std.proofs.Common.{Bool, ◌≡◌, ℕ, ◌≤◌, true, false, if◌then◌else◌, Option, None, Some, List, [], ◌∷◌, ◌++◌, ap, ◌∙◌, sym, subst, refl, flat_map, map, cond, not, ◌||◌, arith, inl, inr}
use Rattle.std.specs.List.{Contains}
use Rattle.std.proofs.lemmas.Bool.Decides.{nat_tests}
use Rattle.std.proofs.lemmas.Grind.{flat_map-append}
use Rattle.std.proofs.lemmas.List.{append-nil}
use Rattle.std.proofs.lemmas.List.Elements.{Contains-append_left, Contains-append_right, Contains-append_cases}
use Rattle.lv_ast.specs.declared.expr.Path.{Path}
use Rattle.lv_const.specs.declared.error.ConstError.{ConstError}
use Rattle.lv_const.specs.declared.error.ConstError.TheVariants as x
use Rattle.lv_source.specs.NodeRules.{is_width, is_node_fault, out_of_range, zero_divisor}
use Rattle.lv_source.specs.Sites.{Site, first_place, is_absent}
use Rattle.lv_const.specs.Faults.{no_value, form_faults, told_faults, counted_zero, faults_of}
use Rattle.lv_const.specs.Answers.{ToldOf, Sound, SoundAt, Divides, Counted}

pub none-joined : {A B : Type 0} (f : A → List B) (xs ys : List A) → flat_map f xs ≡ [] → flat_map f ys ≡ [] → flat_map f (xs ++ ys) ≡ []
none-joined f xs ys h k = flat_map-append f xs ys ∙ (ap (λ zs. zs ++ flat_map f ys) h ∙ k)

pub both-empty : {X : Type 0} (xs ys : List X) → xs ≡ [] → ys ≡ [] → xs ++ ys ≡ []
both-empty xs ys h k = ap (λ zs. zs ++ ys) h ∙ k

pub divides-none : Divides []
divides-none = record { none = refl }

pub divides-node : (s : Site) (ss : List Site) → zero_divisor s ≡ [] → Divides ss → Divides (s ∷ ss)
divides-node s ss h k = record { none = both-empty (zero_divisor s) (flat_map zero_divisor ss) h k.none }

pub divides-both : (ss ts : List Site) → Divides ss → Divides ts → Divides (ss ++ ts)
divides-both ss ts h k = record { none = none-joined zero_divisor ss ts h.none k.none }

pub width_in : (w : ℕ) → 1 ≤ w → w ≤ 128 → is_width w ≡ true
width_in w h k = grind (arith, nat_tests)

pub here : {X : Type 0} (x : X) (xs : List X) → Contains (x ∷ xs) x
here x xs = (0, omega arith, refl)

counted-none : Counted []
counted-none = record { none = refl }

counted-both : (ss ts : List Site) → Counted ss → Counted ts → Counted (ss ++ ts)
counted-both ss ts h k = record { none = none-joined counted_zero ss ts h.none k.none }

-- a node that stands in no constant position
counted-node : (s : Site) (ss : List Site) → s.fixed ≡ None → Counted ss → Counted (s ∷ ss)
counted-node s ss h k = record { none = both-empty (counted_zero s) (flat_map counted_zero ss) (rw h refl) k.none }

pub first-empty : {X : Type 0} (xs ys : List X) → xs ++ ys ≡ [] → xs ≡ []
first-empty [] ys h = refl
first-empty (x ∷ xs) ys h = cc

pub second-empty : {X : Type 0} (xs ys : List X) → xs ++ ys ≡ [] → ys ≡ []
second-empty [] ys h = h
second-empty (x ∷ xs) ys h = cc

either-empty : (b : Bool) (xs : List ℕ) → xs ≡ [] → (if b then [] else xs) ≡ []
either-empty true xs h = refl
either-empty false xs h = h

divided-empty : (ss : List Site) → flat_map zero_divisor ss ≡ [] → flat_map counted_zero ss ≡ []
divided-empty [] h = refl
divided-empty (s ∷ ss) h = both-empty (counted_zero s) (flat_map counted_zero ss)
    (either-empty (is_absent s.fixed) (zero_divisor s) (first-empty (zero_divisor s) (flat_map zero_divisor ss) h))
    (divided-empty ss (second-empty (zero_divisor s) (flat_map zero_divisor ss) h))

divides-counted : (ss : List Site) → Divides ss → Counted ss
divides-counted ss h = record { none = divided-empty ss h.none }

either-same : (b : Bool) (xs : List ℕ) → (if b then xs else (if b then [] else xs)) ≡ xs
either-same true xs = refl
either-same false xs = refl

module _ (early : Path → Bool) where
  pub sound-none : Sound early []
  sound-none = record { none = refl }

  sound-node : (s : Site) (ss : List Site) → form_faults early s ≡ [] → Sound early ss → Sound early (s ∷ ss)
  sound-node s ss h k = record { none = both-empty (form_faults early s) (flat_map (form_faults early) ss) h k.none }

  pub sound-both : (ss ts : List Site) → Sound early ss → Sound early ts → Sound early (ss ++ ts)
  sound-both ss ts h k = record { none = none-joined (form_faults early) ss ts h.none k.none }

  pub formed-none : {fixed : Option ℕ} → SoundAt fixed early []
  formed-none = record { sound = sound-none; counted = λ e. counted-none }

  pub formed-node : (s : Site) (ss : List Site) → form_faults early s ≡ [] → SoundAt s.fixed early ss → SoundAt s.fixed early (s ∷ ss)
  formed-node s ss h k = record { sound = sound-node s ss h k.sound; counted = λ e. counted-node s ss e (k.counted e) }

  pub formed-both : {fixed : Option ℕ} (ss ts : List Site) → SoundAt fixed early ss → SoundAt fixed early ts → SoundAt fixed early (ss ++ ts)
  formed-both ss ts h k = record { sound = sound-both ss ts h.sound k.sound; counted = λ e. counted-both ss ts (h.counted e) (k.counted e) }

  -- what is counted, and has a value
  pub formed-count : {fixed : Option ℕ} (ss : List Site) (first : ℕ) → SoundAt (Some first) early ss → Divides ss → SoundAt fixed early ss
  formed-count ss first h k = record { sound = h.sound; counted = λ e. divides-counted ss k }

  pub told-here : {each : Bool} (s : Site) (ss : List Site) (x : ConstError) → Contains (faults_of each early s) x → ToldOf each early (s ∷ ss) x
  told-here {each} s ss x h = record { found = Contains-append_left (faults_of each early s) (flat_map (faults_of each early) ss) x h }

  pub told-below : {each : Bool} (s : Site) (ss : List Site) (x : ConstError) → ToldOf each early ss x → ToldOf each early (s ∷ ss) x
  told-below {each} s ss x h = record { found = Contains-append_right (faults_of each early s) (flat_map (faults_of each early) ss) x h.found }

  pub told-first : {each : Bool} (ss ts : List Site) (x : ConstError) → ToldOf each early ss x → ToldOf each early (ss ++ ts) x
  told-first {each} ss ts x h = record {
    found = subst (λ zs. Contains zs x) (sym (flat_map-append (faults_of each early) ss ts))
        (Contains-append_left (flat_map (faults_of each early) ss) (flat_map (faults_of each early) ts) x h.found);
  }

  pub told-second : {each : Bool} (ss ts : List Site) (x : ConstError) → ToldOf each early ts x → ToldOf each early (ss ++ ts) x
  told-second {each} ss ts x h = record {
    found = subst (λ zs. Contains zs x) (sym (flat_map-append (faults_of each early) ss ts))
        (Contains-append_right (flat_map (faults_of each early) ss) (flat_map (faults_of each early) ts) x h.found);
  }

  -- one of the faults that both tell
  told-either : {each : Bool} (s : Site) (ss : List Site) (y : ConstError) → Contains (told_faults early s) y → ToldOf each early (s ∷ ss) y
  told-either {each} s ss y h = told-here {each = each} s ss y
      (Contains-append_left (told_faults early s) (map x.ZeroDivisor (if each then zero_divisor s else counted_zero s)) y h)

  pub told-range : {each : Bool} (s : Site) (ss : List Site) → (not (is_width s.shown.reading.meaning.width) || is_node_fault s) ≡ true →
      ToldOf each early (s ∷ ss) (x.Range (first_place s.shown))
  told-range {each} s ss h =
      let e : out_of_range s ≡ first_place s.shown ∷ [] = ap (λ b. cond b (first_place s.shown ∷ []) []) h in
      told-either {each = each} s ss (x.Range (first_place s.shown))
      (Contains-append_right (map x.NoValue (no_value early s)) (map x.Range (out_of_range s)) (x.Range (first_place s.shown))
      (subst (λ ps. Contains (map x.Range ps) (x.Range (first_place s.shown))) (sym e) (here (x.Range (first_place s.shown)) [])))

  pub told-name : {each : Bool} (s : Site) (ss : List Site) (p : ℕ) → no_value early s ≡ p ∷ [] → ToldOf each early (s ∷ ss) (x.NoValue p)
  told-name {each} s ss p e =
      told-either {each = each} s ss (x.NoValue p)
      (Contains-append_left (map x.NoValue (no_value early s)) (map x.Range (out_of_range s)) (x.NoValue p)
      (subst (λ ps. Contains (map x.NoValue ps) (x.NoValue p)) (sym e) (here (x.NoValue p) [])))

  -- at its own node a division is told where the expression stands in a constant position, and where each is
  pub told-zero : (s : Site) (ss : List Site) (p : ℕ) (ps : List ℕ) → zero_divisor s ≡ p ∷ ps → (q : ℕ) →
      Contains (map x.ZeroDivisor (p ∷ ps)) (x.ZeroDivisor q) → ToldOf (is_absent s.fixed) early (s ∷ ss) (x.ZeroDivisor q)
  told-zero s ss p ps e q h =
      told-here {each = is_absent s.fixed} s ss (x.ZeroDivisor q) (Contains-append_right (told_faults early s)
      (map x.ZeroDivisor (if is_absent s.fixed then zero_divisor s else counted_zero s)) (x.ZeroDivisor q)
      (subst (λ qs. Contains (map x.ZeroDivisor qs) (x.ZeroDivisor q)) (sym (either-same (is_absent s.fixed) (zero_divisor s) ∙ e)) h))

  -- what is told of an own width is told of a value
  counted-told : (b : Bool) (zs : List ℕ) (fs : List ConstError) (y : ConstError) → Contains (fs ++ map x.ZeroDivisor (if b then [] else zs)) y →
      Contains (fs ++ map x.ZeroDivisor zs) y
  counted-told true zs fs y h = Contains-append_left fs (map x.ZeroDivisor zs) y (subst (λ ys. Contains ys y) (append-nil fs) h)
  counted-told false zs fs y h = h

  own-found : (ss : List Site) (x : ConstError) → Contains (flat_map (faults_of false early) ss) x → Contains (flat_map (faults_of true early) ss) x
  own-found [] x h = h
  own-found (s ∷ ss) x h = elim (Contains-append_cases (faults_of false early s) (flat_map (faults_of false early) ss) x h) [
    | inl k ↦ Contains-append_left (faults_of true early s) (flat_map (faults_of true early) ss) x
        (counted-told (is_absent s.fixed) (zero_divisor s) (told_faults early s) x k)
    | inr k ↦ Contains-append_right (faults_of true early s) (flat_map (faults_of true early) ss) x (own-found ss x k)
  ]

  pub told-too : (each : Bool) (ss : List Site) (x : ConstError) → ToldOf false early ss x → ToldOf each early ss x
  told-too true ss x h = record { found = own-found ss x h.found }
  told-too false ss x h = h

  pub told-all : (each : Bool) (ss : List Site) (x : ConstError) → ToldOf each early ss x → ToldOf true early ss x
  told-all true ss x h = h
  told-all false ss x h = told-too true ss x h
