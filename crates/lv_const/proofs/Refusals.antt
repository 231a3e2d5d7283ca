-- From what is told of sites to the faults of the nodes there.
use Rattle.std.proofs.Common.{if◌then◌else◌, ◌≡◌, ℕ, zero, suc, ◌+◌, ◌<◌, Bool, true, false, ◌&&◌, List, [], ◌∷◌, ◌++◌, ap, ◌∙◌, sym, subst, refl, flat_map, map, Option, None, Some, arith, inl, inr, length, get_or, max}
use Rattle.std.specs.List.{All, Contains}
use Rattle.std.proofs.lemmas.List.Elements.{All-contains, Contains-append_left, Contains-append_right, Contains-append_cases}
use Rattle.lv_bits.specs.Words.{Bits}
use Rattle.lv_ast.specs.declared.expr.Path.{Path}
use Rattle.lv_ast.specs.declared.expr.Expr.{Expr}
use Rattle.lv_ast.specs.declared.expr.Expr.TheOpen.{Expr-F}
use Rattle.lv_source.specs.Names.{Here, Declared, Sort, Input, Net, Variable, Clock, Constant, Index, Other, is_constant_sort, is_clock_sort}
use Rattle.lv_source.specs.Meaning.{own_width}
use Rattle.lv_source.specs.Sites.{Site, Spot, Step, Role, Value, walk, spots}
use Rattle.lv_source.specs.NodeRules.{is_early, is_unreadable, is_name_fault, unknown_name, unfixed_name, not_constant, zero_divisor, out_of_range, clock_in, clock_use}
use Rattle.lv_source.specs.Faults.{site_faults}
use Rattle.lv_source.specs.Legal.{Kind, UnknownName, NotConstant, ClockUse}
use Rattle.lv_source.specs.Legal as kind
use Rattle.lv_const.specs.declared.error.ConstError.{ConstError}
use Rattle.lv_const.specs.declared.error.ConstError.TheVariants as x
use Rattle.lv_const.specs.Faults.{no_value, unfixed, form_faults, told_faults, all_faults, counted_zero, faults_of}
use Rattle.lv_const.specs.Answers.{Told, Sound, Divides}
use Rattle.lv_const.specs.Public.{IsOwnOf, IsOwnRefusal, IsValueOf, IsValueRefusal}
use Rattle.lv_const.specs.Refusals.{IsUnnamed, IsFault, IsFormed, IsDivided}
use Rattle.lv_const.specs.Refusals as r
use Rattle.lv_const.proofs.Told.{here, first-empty, second-empty, told-too}
use Rattle.lv_const.proofs.Stands.{Stands, walk-stands}

-- ---- what a list of lists contains

pub record Found {A B : Type 0} (f : A → List B) (xs : List A) (y : B) : Type 0 where
  pub one : A
  pub among : Contains xs one
  pub holds : Contains (f one) y

in-nothing : {A B : Type 0} (f : A → List B) (xs : List A) (y : B) → Contains [] y → Found f xs y
in-nothing f xs y h = absurd (omega (arith, h.1))

pub found : {A B : Type 0} (f : A → List B) (xs : List A) (y : B) → Contains (flat_map f xs) y → Found f xs y
found f [] y h = in-nothing f [] y h
found f (z ∷ xs) y h = elim (Contains-append_cases (f z) (flat_map f xs) y h) [
  | inl k ↦ record { one = z; among = here z xs; holds = k }
  | inr k ↦ let q : Found f xs y = found f xs y k in record { one = q.one; among = Contains-append_right (z ∷ []) xs q.one q.among; holds = q.holds }
]

within : {A B : Type 0} (f : A → List B) (xs : List A) (x : A) (i : ℕ) (y : B) → i < length xs → get_or xs i x ≡ x → Contains (f x) y →
    Contains (flat_map f xs) y
within f [] x i y h e k = absurd (omega (arith, h))
within f (z ∷ xs) x zero y h e k = Contains-append_left (f z) (flat_map f xs) y (subst (λ u. Contains (f u) y) (sym e) k)
within f (z ∷ xs) x (suc i) y h e k = Contains-append_right (f z) (flat_map f xs) y (within f xs x i y (omega (arith, h)) e k)

pub gathered : {A B : Type 0} (f : A → List B) (xs : List A) (x : A) (y : B) → Contains xs x → Contains (f x) y → Contains (flat_map f xs) y
gathered f xs x y h k = within f xs x h.0 y h.1 h.2 k

at-one : {A : Type 0} (a y : A) (i : ℕ) → i < 1 → get_or (a ∷ []) i y ≡ y → a ≡ y
at-one a y zero h e = e
at-one a y (suc i) h e = absurd (omega (arith, h))

single : {A : Type 0} (a y : A) → Contains (a ∷ []) y → a ≡ y
single a y h = at-one a y h.0 h.1 h.2

-- ---- the numbers of one kind of fault

abbrev place_or : ConstError → ℕ
place_or (x.NoValue p) = p
place_or (x.ZeroDivisor p) = p
place_or (x.Range p) = p

abbrev is_name : ConstError → Bool
is_name (x.NoValue p) = true
is_name _ = false

abbrev is_range : ConstError → Bool
is_range (x.Range p) = true
is_range _ = false

record Listed (f : ℕ → ConstError) (ns : List ℕ) (y : ConstError) : Type 0 where
  number : ℕ
  among : Contains ns number
  same : f number ≡ y

listed : (f : ℕ → ConstError) (ns : List ℕ) (y : ConstError) → Contains (map f ns) y → Listed f ns y
listed f [] y h = absurd (omega (arith, h.1))
listed f (n ∷ ns) y h = elim (Contains-append_cases (f n ∷ []) (map f ns) y h) [
  | inl k ↦ record { number = n; among = here n ns; same = single (f n) y k }
  | inr k ↦ let q : Listed f ns y = listed f ns y k in record { number = q.number; among = Contains-append_right (n ∷ []) ns q.number q.among; same = q.same }
]

module _ (early : Path → Bool) (s : Site) (p : ℕ) where
  in-names : Contains (map x.NoValue (no_value early s)) (x.NoValue p) → Contains (no_value early s) p
  in-names h = let q : Listed x.NoValue (no_value early s) (x.NoValue p) = listed x.NoValue (no_value early s) (x.NoValue p) h in
      subst (Contains (no_value early s)) (ap place_or q.same) q.among

  of-names : Contains (all_faults early s) (x.NoValue p) → Contains (no_value early s) p
  of-names h = elim (Contains-append_cases (told_faults early s) (map x.ZeroDivisor (zero_divisor s)) (x.NoValue p) h) [
    | inl k ↦ elim (Contains-append_cases (map x.NoValue (no_value early s)) (map x.Range (out_of_range s)) (x.NoValue p) k) [
      | inl m ↦ in-names m
      | inr m ↦ let e : false ≡ true = ap is_name (listed x.Range (out_of_range s) (x.NoValue p) m).same in cc
    ]
    | inr k ↦ let e : false ≡ true = ap is_name (listed x.ZeroDivisor (zero_divisor s) (x.NoValue p) k).same in cc
  ]

  of-ranges : Contains (all_faults early s) (x.Range p) → Contains (out_of_range s) p
  of-ranges h = elim (Contains-append_cases (told_faults early s) (map x.ZeroDivisor (zero_divisor s)) (x.Range p) h) [
    | inl k ↦ elim (Contains-append_cases (map x.NoValue (no_value early s)) (map x.Range (out_of_range s)) (x.Range p) k) [
      | inl m ↦ let e : false ≡ true = ap is_range (listed x.NoValue (no_value early s) (x.Range p) m).same in cc
      | inr m ↦ let q : Listed x.Range (out_of_range s) (x.Range p) = listed x.Range (out_of_range s) (x.Range p) m in
          subst (Contains (out_of_range s)) (ap place_or q.same) q.among
    ]
    | inr k ↦ let e : false ≡ true = ap is_range (listed x.ZeroDivisor (zero_divisor s) (x.Range p) k).same in cc
  ]

  of-divisors : (zs : List ℕ) → Contains (told_faults early s ++ map x.ZeroDivisor zs) (x.ZeroDivisor p) → Contains zs p
  of-divisors zs h = elim (Contains-append_cases (told_faults early s) (map x.ZeroDivisor zs) (x.ZeroDivisor p) h) [
    | inl k ↦ elim (Contains-append_cases (map x.NoValue (no_value early s)) (map x.Range (out_of_range s)) (x.ZeroDivisor p) k) [
      | inl m ↦ let e : true ≡ false = ap is_name (listed x.NoValue (no_value early s) (x.ZeroDivisor p) m).same in cc
      | inr m ↦ let e : true ≡ false = ap is_range (listed x.Range (out_of_range s) (x.ZeroDivisor p) m).same in cc
    ]
    | inr k ↦ let q : Listed x.ZeroDivisor zs (x.ZeroDivisor p) = listed x.ZeroDivisor zs (x.ZeroDivisor p) k in
        subst (Contains zs) (ap place_or q.same) q.among
  ]

-- ---- a name without a value

record IsLate (early : Path → Bool) (s : Site) (p : ℕ) : Type 0 where
  path : Path
  steps : List Step
  node : s.node ≡ Expr-F.Name path steps
  stands : path.place ≡ p
  late : is_early (early path) (s.names path) ≡ false

in-none : (early : Path → Bool) (s : Site) (p : ℕ) → Contains [] p → IsLate early s p
in-none early s p h = absurd (omega (arith, h.1))

late-name : (early : Path → Bool) (s : Site) (p : ℕ) (path : Path) (ss : List Step) (b : Bool) → s.node ≡ Expr-F.Name path ss →
    is_early (early path) (s.names path) ≡ b →
    Contains (if b then [] else path.place ∷ []) p → IsLate early s p
late-name early s p path ss true n e h = in-none early s p h
late-name early s p path ss false n e h = record { path = path; steps = ss; node = n; stands = single path.place p h; late = e }

is-late : (early : Path → Bool) (s : Site) (p : ℕ) → Contains (no_value early s) p → IsLate early s p
is-late early s p h = elim s.node as (λ n. s.node ≡ n → Contains (no_value early (record s { node = n })) p → IsLate early s p) [
  | Expr-F.Lit l ↦ λ e k. in-none early s p k
  | Expr-F.Name path ss ↦ λ e k. late-name early s p path ss (is_early (early path) (s.names path)) e refl k
  | Expr-F.Un op a ↦ λ e k. in-none early s p k
  | Expr-F.Bin op a b ↦ λ e k. in-none early s p k
  | Expr-F.Div a b ↦ λ e k. in-none early s p k
  | Expr-F.Rem a b ↦ λ e k. in-none early s p k
  | Expr-F.Cond c a b ↦ λ e k. in-none early s p k
  | Expr-F.Cat rs ↦ λ e k. in-none early s p k
  | Expr-F.Rep n rs ↦ λ e k. in-none early s p k
  | Expr-F.Cast signed a ↦ λ e k. in-none early s p k
] refl h

unreadable-fault : (role : Role) (o : Option Declared) (ss : List Step) → is_unreadable o ≡ true → is_name_fault role o ss ≡ true
unreadable-fault role None ss h = refl
unreadable-fault role (Some d) ss h = rw h refl

unknown-there : (s : Site) (path : Path) (ss : List Step) → s.node ≡ Expr-F.Name path ss → is_unreadable (s.names path) ≡ true →
    unknown_name s ≡ path.place ∷ []
unknown-there s path ss n h = let e : is_name_fault s.role (s.names path) ss ≡ true = unreadable-fault s.role (s.names path) ss h in rw (n, e) refl

unfixed-there : (early : Path → Bool) (s : Site) (path : Path) (ss : List Step) (first : ℕ) → s.node ≡ Expr-F.Name path ss → s.fixed ≡ Some first →
    is_early (early path) (s.names path) ≡ false → is_unreadable (s.names path) ≡ false →
    not_constant (record { early = early; site = s }) ≡ path.place ∷ first ∷ []
unfixed-there early s path ss first n f h k = rw (n, f, h, k) refl

-- ---- from sites to their places

abbrev spot : Here → Site → Spot
spot at s = record { early = at.early; site = s }

spotted : (at : Here) (f : Spot → List ℕ) (ss : List Site) → flat_map f (spots at ss) ≡ flat_map (λ s. f (spot at s)) ss
spotted at f [] = refl
spotted at f (s ∷ ss) = ap (λ ns. f (spot at s) ++ ns) (spotted at f ss)

module _ (at : Here) (sites : List Site) (fixed : All (Stands at.names) sites) (p : ℕ) where
  placed : (k : Kind) (s : Site) → Contains sites s → Contains (site_faults k (spot at s)) p → Contains (flat_map (site_faults k) (spots at sites)) p
  placed k s h m = subst (λ ns. Contains ns p) (sym (spotted at (site_faults k) sites)) (gathered (λ s. site_faults k (spot at s)) sites s p h m)

  unnamed : (s : Site) → Contains sites s → IsLate at.early s p → IsUnnamed at (spots at sites) p
  unnamed s h k =
      let q : Stands at.names s = All-contains (Stands at.names) sites s fixed h in
      let same : s.names k.path ≡ at.names k.path = ap (λ f. f k.path) q.named in record {
        path = k.path;
        stands = k.stands;
        late = ap (is_early (at.early k.path)) (sym same) ∙ k.late;
        unknown = λ u. placed UnknownName s h (subst (λ ns. Contains ns p) (sym (unknown-there s k.path k.steps k.node (ap is_unreadable same ∙ u)))
            (subst (λ n. Contains (k.path.place ∷ []) n) k.stands (here k.path.place [])));
        unfixed = λ u. placed NotConstant s h (subst (λ ns. Contains ns p)
            (sym (unfixed-there at.early s k.path k.steps q.first k.node q.fixed k.late (ap is_unreadable same ∙ u)))
            (subst (λ n. Contains (k.path.place ∷ q.first ∷ []) n) k.stands (here k.path.place (q.first ∷ []))));
      }

pub told-fault : (at : Here) (sites : List Site) (y : ConstError) → All (Stands at.names) sites → Told at.early sites y → IsFault at (spots at sites) y
told-fault at sites (x.NoValue p) fixed h =
    let q : Found (all_faults at.early) sites (x.NoValue p) = found (all_faults at.early) sites (x.NoValue p) h.found in
    r.unnamed (unnamed at sites fixed p q.one q.among (is-late at.early q.one p (of-names at.early q.one p q.holds)))
told-fault at sites (x.Range p) fixed h =
    let q : Found (all_faults at.early) sites (x.Range p) = found (all_faults at.early) sites (x.Range p) h.found in
    r.range (placed at sites fixed p kind.Range q.one q.among (of-ranges at.early q.one p q.holds))
told-fault at sites (x.ZeroDivisor p) fixed h =
    let q : Found (all_faults at.early) sites (x.ZeroDivisor p) = found (all_faults at.early) sites (x.ZeroDivisor p) h.found in
    r.zero (placed at sites fixed p kind.ZeroDivisor q.one q.among (of-divisors at.early q.one p (zero_divisor q.one) q.holds))

-- ---- no faults

all-empty : (at : Here) (f : Site → List ℕ) (g : Spot → List ℕ) (ss : List Site) → ((s : Site) → f s ≡ [] → g (spot at s) ≡ []) → flat_map f ss ≡ [] →
    flat_map g (spots at ss) ≡ []
all-empty at f g [] h k = refl
all-empty at f g (s ∷ ss) h k =
    ap (λ ns. ns ++ flat_map g (spots at ss)) (h s (first-empty (f s) (flat_map f ss) k)) ∙ all-empty at f g ss h (second-empty (f s) (flat_map f ss) k)

early-fixed : (fixed : Option ℕ) (b : Bool) (o : Option Declared) (p : ℕ) → is_early b o ≡ true → unfixed_name fixed b o p ≡ []
early-fixed None b o p h = refl
early-fixed (Some n) b o p h = rw h refl

no-clock : (s : Sort) → is_constant_sort s ≡ true → is_clock_sort s ≡ false
no-clock Input h = refl
no-clock Net h = refl
no-clock Variable h = refl
no-clock Clock h = cc
no-clock (Constant n) h = refl
no-clock (Index g) h = refl
no-clock Other h = refl

and-first : (a b : Bool) → a && b ≡ true → a ≡ true
and-first true b h = refl
and-first false b h = h

early-clock : (fixed : Option ℕ) (b : Bool) (o : Option Declared) (p : ℕ) → is_early b o ≡ true → clock_in fixed o p ≡ []
early-clock (Some n) b o p h = refl
early-clock None b None p h = refl
early-clock None b (Some d) p h = rw (no-clock d.sort (and-first (is_constant_sort d.sort) b h)) refl

taken : (b : Bool) (p : ℕ) → (if b then [] else p ∷ []) ≡ [] → b ≡ true
taken true p h = refl
taken false p h = cc

formed-constant : (early : Path → Bool) (s : Site) → no_value early s ≡ [] → unfixed s ≡ [] → not_constant (record { early = early; site = s }) ≡ []
formed-constant early s h k =
    elim s.node as (λ n. no_value early (record s { node = n }) ≡ [] → unfixed (record s { node = n }) ≡ [] →
    not_constant (record { early = early; site = record s { node = n } }) ≡ []) [
      | Expr-F.Lit l ↦ λ q f. refl
      | Expr-F.Name path ss ↦ λ q f. early-fixed s.fixed (early path) (s.names path) path.place (taken (is_early (early path) (s.names path)) path.place q)
      | Expr-F.Un op a ↦ λ q f. refl
      | Expr-F.Bin op a b ↦ λ q f. refl
      | Expr-F.Div a b ↦ λ q f. f
      | Expr-F.Rem a b ↦ λ q f. f
      | Expr-F.Cond c a b ↦ λ q f. refl
      | Expr-F.Cat rs ↦ λ q f. refl
      | Expr-F.Rep n rs ↦ λ q f. refl
      | Expr-F.Cast signed a ↦ λ q f. refl
    ] h k

formed-clock : (early : Path → Bool) (s : Site) → no_value early s ≡ [] → clock_use s ≡ []
formed-clock early s h = elim s.node as (λ n. no_value early (record s { node = n }) ≡ [] → clock_use (record s { node = n }) ≡ []) [
  | Expr-F.Lit l ↦ λ q. refl
  | Expr-F.Name path ss ↦ λ q. early-clock s.fixed (early path) (s.names path) path.place (taken (is_early (early path) (s.names path)) path.place q)
  | Expr-F.Un op a ↦ λ q. refl
  | Expr-F.Bin op a b ↦ λ q. refl
  | Expr-F.Div a b ↦ λ q. refl
  | Expr-F.Rem a b ↦ λ q. refl
  | Expr-F.Cond c a b ↦ λ q. refl
  | Expr-F.Cat rs ↦ λ q. refl
  | Expr-F.Rep n rs ↦ λ q. refl
  | Expr-F.Cast signed a ↦ λ q. refl
] h

module _ (early : Path → Bool) (s : Site) (h : form_faults early s ≡ []) where
  without-range : (no_value early s ++ unknown_name s) ++ unfixed s ≡ []
  without-range = first-empty ((no_value early s ++ unknown_name s) ++ unfixed s) (out_of_range s) h

  range-formed : out_of_range s ≡ []
  range-formed = second-empty ((no_value early s ++ unknown_name s) ++ unfixed s) (out_of_range s) h

  of-names-alone : no_value early s ++ unknown_name s ≡ []
  of-names-alone = first-empty (no_value early s ++ unknown_name s) (unfixed s) without-range

  divisions-formed : unfixed s ≡ []
  divisions-formed = second-empty (no_value early s ++ unknown_name s) (unfixed s) without-range

  names-formed : no_value early s ≡ []
  names-formed = first-empty (no_value early s) (unknown_name s) of-names-alone

  unknown-formed : unknown_name s ≡ []
  unknown-formed = second-empty (no_value early s) (unknown_name s) of-names-alone

pub sound-formed : (at : Here) (sites : List Site) → Sound at.early sites → IsFormed (spots at sites)
sound-formed at sites h = record {
  unknown = all-empty at (form_faults at.early) (site_faults UnknownName) sites (λ s k. unknown-formed at.early s k) h.none;
  unfixed = all-empty at (form_faults at.early) (site_faults NotConstant) sites
      (λ s k. formed-constant at.early s (names-formed at.early s k) (divisions-formed at.early s k)) h.none;
  range = all-empty at (form_faults at.early) (site_faults kind.Range) sites (λ s k. range-formed at.early s k) h.none;
  clock = all-empty at (form_faults at.early) (site_faults ClockUse) sites (λ s k. formed-clock at.early s (names-formed at.early s k)) h.none;
}

pub divides-formed : (at : Here) (sites : List Site) → Divides sites → IsDivided (spots at sites)
divides-formed at sites h = record { zero = all-empty at zero_divisor (site_faults kind.ZeroDivisor) sites (λ s k. k) h.none }

-- ---- the laws

pub own-refused : (at : Here) (x : Expr) (y : ConstError) (first W : ℕ) (T : Bool) → IsOwnRefusal at x y →
    IsFault at (spots at ((walk at.names x).sites Value (Some first) W T)) y
own-refused at x y first W T h = told-fault at ((walk at.names x).sites Value (Some first) W T) y (walk-stands at.names x first W T)
    (told-too at.early true ((walk at.names x).sites Value (Some first) W T) y (h.told (Some first) W T))

pub own-counted : (at : Here) (z : Expr) (place W : ℕ) (T : Bool) → IsOwnRefusal at z (x.ZeroDivisor place) →
    Contains (flat_map counted_zero ((walk at.names z).sites Value None W T)) place
own-counted at z place W T h =
    let sites : List Site = (walk at.names z).sites Value None W T in
    let q : Found (faults_of false at.early) sites (x.ZeroDivisor place) = found (faults_of false at.early) sites (x.ZeroDivisor place) (h.told None W T).found in
    gathered counted_zero sites q.one place q.among (of-divisors at.early q.one place (counted_zero q.one) q.holds)

pub value-refused : (at : Here) (x : Expr) (y : ConstError) (first W : ℕ) (T : Bool) → IsValueRefusal at x W T y →
    IsFault at (spots at ((walk at.names x).sites Value (Some first) (max W (own_width at.names x)) T)) y
value-refused at x y first W T h =
    told-fault at ((walk at.names x).sites Value (Some first) (max W (own_width at.names x)) T) y
    (walk-stands at.names x first (max W (own_width at.names x)) T) (h.told (Some first))

pub own-formed : (at : Here) (x : Expr) (w : ℕ) (s : Bool) (fixed : Option ℕ) (W : ℕ) (T : Bool) → IsOwnOf at x w s →
    IsFormed (spots at ((walk at.names x).sites Value fixed W T))
own-formed at x w s fixed W T h = sound-formed at ((walk at.names x).sites Value fixed W T) (h.sound fixed W T)

pub value-formed : (at : Here) (x : Expr) (w : Bits) (fixed : Option ℕ) (W : ℕ) (T : Bool) → IsValueOf at x W T w →
    IsDivided (spots at ((walk at.names x).sites Value fixed W T))
value-formed at x w fixed W T h = divides-formed at ((walk at.names x).sites Value fixed W T) (h.divides fixed)
