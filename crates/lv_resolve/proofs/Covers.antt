-- What is noted of lists of nodes, from what is noted of their parts.
use Rattle.std.proofs.Common.{◌≡◌, ℕ, ◌≤◌, Bool, List, [], ◌∷◌, ◌++◌, ap, ◌∙◌, sym, subst, refl, flat_map, arith, inl, inr, None}
use Rattle.std.specs.List.{Contains}
use Rattle.std.proofs.lemmas.Grind.{flat_map-append}
use Rattle.std.proofs.lemmas.List.Elements.{Contains-append_left, Contains-append_right, Contains-append_cases}
use Rattle.lv_ast.specs.declared.expr.Expr.TheOpen.{Expr-F}
use Rattle.lv_source.specs.Names.{Names, Here}
use Rattle.lv_source.specs.Sites.{Site, Role, Walk, WalkStep, walk_step, below_sites}
use Rattle.lv_source.specs.NodeRules.{unknown_name, zero_divisor, out_of_range, clock_use}
use Rattle.lv_source.proofs.Bridges.{two}
use Rattle.lv_const.proofs.Told.{none-joined, both-empty}
use Rattle.lv_const.proofs.Owns.{site_of}
use Rattle.lv_resolve.specs.declared.error.ResolveError.{ResolveError}
use Rattle.lv_resolve.specs.declared.error.ResolveError.TheVariants as x
use Rattle.lv_resolve.specs.declared.form.Divisor.{Divisor}
use Rattle.lv_resolve.specs.Forms.{Sites, flaws, unfixed_at, Tells, Told, zeros_at, AreDivisors, Covered}

-- ---- lists

pub first-empty : {X : Type 0} (xs ys : List X) → xs ++ ys ≡ [] → xs ≡ []
first-empty [] ys h = refl
first-empty (x ∷ xs) ys h = cc

pub second-empty : {X : Type 0} (xs ys : List X) → xs ++ ys ≡ [] → ys ≡ []
second-empty [] ys h = h
second-empty (x ∷ xs) ys h = cc

pub nowhere-in : {X : Type 0} (y : X) → Contains [] y → ⊥
nowhere-in y h = omega (arith, h.1)

pub in-same : {X : Type 0} (xs ys : List X) (y : X) → xs ≡ ys → Contains xs y → Contains ys y
in-same xs ys y e h = subst (λ zs. Contains zs y) e h

-- ---- divisors

module _ (names : Names) where
  pub no-divisors : (least : ℕ) → AreDivisors names least []
  no-divisors least = record { each = λ d h. absurd (nowhere-in d h) }

  pub wider : (n m : ℕ) (ds : List Divisor) → n ≤ m → AreDivisors names n ds → AreDivisors names m ds
  wider n m ds k h = record { each = λ d c. let q = h.each d c in record { narrow = omega (arith, q.narrow, k); sound = q.sound } }

  pub both-divisors : (least : ℕ) (ds es : List Divisor) → AreDivisors names least ds → AreDivisors names least es → AreDivisors names least (ds ++ es)
  both-divisors least ds es h k = record {
    each = λ d c. elim (Contains-append_cases ds es d c) [
      | inl m ↦ h.each d m
      | inr m ↦ k.each d m
    ];
  }

-- ---- where errors are told

-- what is told of these is told of those
pub record Within (ss ts : List Site) : Type 0 where
  pub more : (f : Site → List ℕ) (p : ℕ) → Contains (flat_map f ss) p → Contains (flat_map f ts) p

pub within-same : (ss ts : List Site) → ss ≡ ts → Within ss ts
within-same ss ts e = subst (λ zs. Within ss zs) e (record { more = λ f p h. h })

pub within-first : (ss ts : List Site) → Within ss (ss ++ ts)
within-first ss ts = record {
  more = λ f p h. in-same _ _ p (sym (flat_map-append f ss ts)) (Contains-append_left (flat_map f ss) (flat_map f ts) p h);
}

pub within-second : (ss ts : List Site) → Within ts (ss ++ ts)
within-second ss ts = record {
  more = λ f p h. in-same _ _ p (sym (flat_map-append f ss ts)) (Contains-append_right (flat_map f ss) (flat_map f ts) p h);
}

pub within-below : (s : Site) (ss : List Site) → Within ss (s ∷ ss)
within-below s ss = record { more = λ f p h. Contains-append_right (f s) (flat_map f ss) p h }

pub within-then : (ss ts us : List Site) → Within ss ts → Within ts us → Within ss us
within-then ss ts us h k = record { more = λ f p c. k.more f p (h.more f p c) }

module _ (here : Here) where
  tells-within : (ss ts : List Site) (e : ResolveError) → Within ss ts → Tells here ss e → Tells here ts e
  tells-within ss ts (x.UnknownName p) h k = h.more unknown_name p k
  tells-within ss ts (x.NotConstant p) h k = h.more (unfixed_at here) p k
  tells-within ss ts (x.ZeroDivisor p) h k = h.more zero_divisor p k
  tells-within ss ts (x.Range p) h k = h.more out_of_range p k
  tells-within ss ts x.NoMemory h k = k

  pub told-within : (ss ts : List Site) (e : ResolveError) → Within ss ts → Told here ss e → Told here ts e
  told-within ss ts e h k = record { found = tells-within ss ts e h k.found }

  pub no-memory : (ss : List Site) → Told here ss x.NoMemory
  no-memory ss = record { found = tt }

  pub told-range : (s : Site) (ss : List Site) (p : ℕ) (ps : List ℕ) → out_of_range s ≡ p ∷ ps → Told here (s ∷ ss) (x.Range p)
  told-range s ss p ps e = record {
    found = Contains-append_left (out_of_range s) (flat_map out_of_range ss) p (in-same _ _ p (sym e) (0, omega arith, refl));
  }

  pub told-name : (s : Site) (ss : List Site) (p : ℕ) (ps : List ℕ) → unknown_name s ≡ p ∷ ps → Told here (s ∷ ss) (x.UnknownName p)
  told-name s ss p ps e = record {
    found = Contains-append_left (unknown_name s) (flat_map unknown_name ss) p (in-same _ _ p (sym e) (0, omega arith, refl));
  }

  pub told-unfixed : (s : Site) (ss : List Site) (p : ℕ) (ps : List ℕ) → unfixed_at here s ≡ p ∷ ps → Told here (s ∷ ss) (x.NotConstant p)
  told-unfixed s ss p ps e = record {
    found = Contains-append_left (unfixed_at here s) (flat_map (unfixed_at here) ss) p (in-same _ _ p (sym e) (0, omega arith, refl));
  }

-- ---- notes

-- a node without a fault, that is no clock
pub record IsQuiet (here : Here) (s : Site) : Type 0 where
  pub clean : flaws here s ≡ []
  pub clock : clock_use s ≡ []
  pub zero : zero_divisor s ≡ []

module _ (here : Here) where
  pub covered-nothing : (least : ℕ) → Covered here (λ W T. []) least [] []
  covered-nothing least = record {
    clean = λ W T. refl;
    clocks = λ W T. refl;
    divisors = no-divisors here.names least;
    waiting = λ h. refl;
    none = λ W T h. refl;
    some = λ W T p h. h;
  }

  pub covered-same : (s t : Sites) (n m : ℕ) (cs es : List ℕ) (ds fs : List Divisor) → ((W : ℕ) (T : Bool) → s W T ≡ t W T) → n ≤ m → cs ≡ es → ds ≡ fs →
      Covered here s n cs ds → Covered here t m es fs
  covered-same s t n m cs es ds fs e l a b h = record {
    clean = λ W T. ap (flat_map (flaws here)) (sym (e W T)) ∙ h.clean W T;
    clocks = λ W T. ap (flat_map clock_use) (sym (e W T)) ∙ (h.clocks W T ∙ a);
    divisors = subst (AreDivisors here.names m) b (wider here.names n m ds l h.divisors);
    waiting = λ k. sym b ∙ h.waiting (omega (arith, l, k));
    none = λ W T k. ap (flat_map zero_divisor) (sym (e W T)) ∙ h.none W T (ap (flat_map (zeros_at here.names W T)) b ∙ k);
    some = λ W T p k. in-same _ _ p (ap (flat_map zero_divisor) (e W T)) (h.some W T p (in-same _ _ p (ap (flat_map (zeros_at here.names W T)) (sym b)) k));
  }

  pub covered-both : (s t : Sites) (n : ℕ) (cs es : List ℕ) (ds fs : List Divisor) → Covered here s n cs ds → Covered here t n es fs →
      Covered here (λ W T. s W T ++ t W T) n (cs ++ es) (ds ++ fs)
  covered-both s t n cs es ds fs a b = record {
    clean = λ W T. none-joined (flaws here) (s W T) (t W T) (a.clean W T) (b.clean W T);
    clocks = λ W T. flat_map-append clock_use (s W T) (t W T) ∙ two (λ (x y : List ℕ). x ++ y) _ _ _ _ (a.clocks W T) (b.clocks W T);
    divisors = both-divisors here.names n ds fs a.divisors b.divisors;
    waiting = λ k. two (λ (x y : List Divisor). x ++ y) _ _ _ _ (a.waiting k) (b.waiting k);
    none = λ W T h. let k = sym (flat_map-append (zeros_at here.names W T) ds fs) ∙ h in
        none-joined zero_divisor (s W T) (t W T) (a.none W T (first-empty _ _ k)) (b.none W T (second-empty _ _ k));
    some = λ W T p h. elim (Contains-append_cases (flat_map (zeros_at here.names W T) ds) (flat_map (zeros_at here.names W T) fs) p
        (in-same _ _ p (flat_map-append (zeros_at here.names W T) ds fs) h)) [
          | inl k ↦ (within-first (s W T) (t W T)).more zero_divisor p (a.some W T p k)
          | inr k ↦ (within-second (s W T) (t W T)).more zero_divisor p (b.some W T p k)
        ];
  }

  -- once the divisors are looked at
  pub covered-at : (s : Sites) (n m V : ℕ) (U : Bool) (cs : List ℕ) (ds : List Divisor) → Covered here s n cs ds →
      flat_map (zeros_at here.names V U) ds ≡ [] → Covered here (λ W T. s V U) m cs []
  covered-at s n m V U cs ds a h = record {
    clean = λ W T. a.clean V U;
    clocks = λ W T. a.clocks V U;
    divisors = no-divisors here.names m;
    waiting = λ k. refl;
    none = λ W T k. a.none V U h;
    some = λ W T p k. absurd (nowhere-in p k);
  }

  pub covered-node : (y : Expr-F Walk WalkStep) (role : Role) (n : ℕ) (cs : List ℕ) (ds : List Divisor) →
      ((W : ℕ) (T : Bool) → IsQuiet here (site_of here.names y role None W T)) → Covered here (λ W T. below_sites y role None W T) n cs ds →
      Covered here (λ W T. (walk_step here.names y).sites role None W T) n cs ds
  covered-node y role n cs ds q a = record {
    clean = λ W T. both-empty (flaws here (site_of here.names y role None W T)) (flat_map (flaws here) (below_sites y role None W T)) (q W T).clean (a.clean W T);
    clocks = λ W T. ap (λ zs. zs ++ flat_map clock_use (below_sites y role None W T)) (q W T).clock ∙ a.clocks W T;
    divisors = a.divisors;
    waiting = a.waiting;
    none = λ W T h. both-empty (zero_divisor (site_of here.names y role None W T)) (flat_map zero_divisor (below_sites y role None W T)) (q W T).zero (a.none W T h);
    some = λ W T p h. Contains-append_right (zero_divisor (site_of here.names y role None W T)) (flat_map zero_divisor (below_sites y role None W T)) p (a.some W T p h);
  }
