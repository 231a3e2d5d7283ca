-- Names that stand for no constant that is declared before, in an expression that has to be constant: what is told of them.
use Rattle.std.proofs.Common.{◌≡◌, ℕ, Bool, true, false, List, [], ◌∷◌, ◌++◌, ap, ◌∙◌, sym, subst, refl, flat_map, map, arith, inl, inr, ◌⊎◌, None, Some, Option}
use Rattle.std.specs.List.{Contains, All}
use Rattle.std.proofs.lemmas.List.Elements.{All-contains, Contains-append_right, Contains-append_cases}
use Rattle.lv_ast.specs.declared.expr.Path.{Path}
use Rattle.lv_ast.specs.declared.expr.Expr.{Expr}
use Rattle.lv_ast.specs.declared.expr.Expr.TheOpen.{Expr-F}
use Rattle.lv_source.specs.Names.{Names, Here, Declared, Sort, known, is_constant_sort, Input, Net, Variable, Clock, Constant, Index, Other}
use Rattle.lv_source.specs.Sites.{Site, Step, Value, walk}
use Rattle.lv_source.specs.NodeRules.{unknown_name, zero_divisor, out_of_range, is_early, is_unreadable, can_be_read}
use Rattle.lv_source.specs.Constants.{early_or_none}
use Rattle.lv_source.specs.Parts.{is_declared_sort}
use Rattle.lv_const.specs.declared.consts.Entry.{Entry}
use Rattle.lv_const.specs.declared.error.ConstError.{ConstError}
use Rattle.lv_const.specs.declared.error.ConstError.TheVariants as y
use Rattle.lv_const.specs.Constants.{names_of}
use Rattle.lv_const.specs.Wherever.{AreDeclared}
use Rattle.lv_const.specs.Faults.{no_value, all_faults, told_faults}
use Rattle.lv_const.specs.Answers as const
use Rattle.lv_const.proofs.Numbers.{split}
use Rattle.lv_const.proofs.Refusals.{found, Found, gathered}
use Rattle.lv_const.proofs.Stands.{Stands, walk-stands}
use Rattle.lv_flat.specs.Signals.{Signals, signal_at}
use Rattle.lv_resolve.specs.Places.{AreNames, with_all}
use Rattle.lv_resolve.specs.Late.{late_by, late_of, first_late, or_else, paths_in}
use Rattle.lv_resolve.specs.Forms.{unfixed_at, Told}
use Rattle.lv_resolve.specs.declared.error.ResolveError.{ResolveError}
use Rattle.lv_resolve.specs.declared.error.ResolveError.TheVariants as x
use Rattle.lv_resolve.proofs.Covers.{nowhere-in, in-same}
use Rattle.lv_resolve.proofs.Zeros.{single, made}
use Rattle.lv_resolve.proofs.Steady.{path_of, site-paths}

-- ---- names

pub readable : (z : Sort) → is_declared_sort z ≡ true → can_be_read z ≡ true
readable Input h = refl
readable Net h = refl
readable Variable h = refl
readable Clock h = refl
readable (Constant n) h = refl
readable (Index g) h = cc
readable Other h = cc

read-constant : (z : Sort) → is_constant_sort z ≡ true → can_be_read z ≡ true
read-constant Input h = refl
read-constant Net h = refl
read-constant Variable h = refl
read-constant Clock h = refl
read-constant (Constant n) h = refl
read-constant (Index g) h = cc
read-constant Other h = cc

-- what is neither a signal, a clock nor a constant can't be read
unread : (z : Sort) → is_declared_sort z ≡ false → is_constant_sort z ≡ false → can_be_read z ≡ false
unread Input h k = cc
unread Net h k = cc
unread Variable h k = cc
unread Clock h k = cc
unread (Constant n) h k = cc
unread (Index g) h k = refl
unread Other h k = refl

-- no entry: no constant
pub none-constant : (o : Option Declared) → None ≡ early_or_none true o → is_constant_sort (known o).sort ≡ false
none-constant None h = refl
none-constant (Some d) h = elim (split (is_constant_sort d.sort)) [
  | inl k ↦ let q : None ≡ Some d = rw k at h in cc
  | inr k ↦ k
]

-- an entry: that constant
some-constant : (o : Option Declared) (d : Declared) → Some d ≡ early_or_none true o → is_unreadable o ≡ false
some-constant None d h = cc
some-constant (Some f) d h = elim (split (is_constant_sort f.sort)) [
  | inl k ↦ rw (read-constant f.sort k) refl
  | inr k ↦ let q : Some d ≡ None = rw k at h in cc
]

early-some : (b : Bool) (o : Option Declared) → is_early b o ≡ true → None ≡ early_or_none b o → is_early b o ≡ false
early-some b None k h = refl
early-some b (Some d) k h = let q : None ≡ Some d = rw k at h in cc

some-early : (b : Bool) (o : Option Declared) (d : Declared) → Some d ≡ early_or_none b o → is_early b o ≡ true
some-early b o d h = elim (split (is_early b o)) [
  | inl k ↦ k
  | inr k ↦ let q : Some d ≡ None = rw k at h in cc
]

abbrev some_or : ResolveError → Option ResolveError → ResolveError
some_or a None = a
some_or a (Some b) = b

is-some : (a b : ResolveError) → Some a ≡ Some b → b ≡ a
is-some a b h = ap (some_or a) (sym h)

none-early : (b : Bool) (o : Option Declared) → None ≡ early_or_none b o → is_early b o ≡ false
none-early b o h = elim (split (is_early b o)) [
  | inl k ↦ early-some b o k h
  | inr k ↦ k
]

pub unread-none : (o : Option Declared) → is_declared_sort (known o).sort ≡ false → is_constant_sort (known o).sort ≡ false → is_unreadable o ≡ true
unread-none None h k = refl
unread-none (Some d) h k = rw (unread d.sort h k) refl

declared-readable : (o : Option Declared) (d : Declared) → o ≡ Some d → is_declared_sort d.sort ≡ true → is_unreadable o ≡ false
declared-readable o d e h = ap is_unreadable e ∙ rw (readable d.sort h) refl

-- ---- faults of a name in a constant position

unreadable-fault : (s : Site) (path : Path) (ss : List Step) (o : Option Declared) → s.node ≡ Expr-F.Name path ss → s.names path ≡ o → is_unreadable o ≡ true →
    unknown_name s ≡ path.place ∷ []
unreadable-fault s path ss None n e h = rw (n, e) refl
unreadable-fault s path ss (Some d) n e h = rw (n, e, h) refl

late-fault : (here : Here) (s : Site) (path : Path) (ss : List Step) (first : ℕ) → s.node ≡ Expr-F.Name path ss → s.fixed ≡ Some first →
    is_early (here.early path) (s.names path) ≡ false → is_unreadable (s.names path) ≡ false → unfixed_at here s ≡ path.place ∷ first ∷ []
late-fault here s path ss first n f h k = rw (n, f, h, k) refl

-- the name that a node is
record IsNameNode (s : Site) (path : Path) : Type 0 where
  steps : List Step
  node : s.node ≡ Expr-F.Name path steps

not-there : (s : Site) (path : Path) → Contains [] path → IsNameNode s path
not-there s path h = absurd (nowhere-in path h)

name-node : (s : Site) (path : Path) → Contains (path_of s) path → IsNameNode s path
name-node s path h = elim s.node as (λ n. s.node ≡ n → Contains (path_of (record s { node = n })) path → IsNameNode s path) [
  | Expr-F.Lit l ↦ λ e k. not-there s path k
  | Expr-F.Name p ss ↦ λ e k. record { steps = ss; node = e ∙ ap (λ q. Expr-F.Name q ss) (single p path k) }
  | Expr-F.Un op a ↦ λ e k. not-there s path k
  | Expr-F.Bin op a b ↦ λ e k. not-there s path k
  | Expr-F.Div a b ↦ λ e k. not-there s path k
  | Expr-F.Rem a b ↦ λ e k. not-there s path k
  | Expr-F.Cond c a b ↦ λ e k. not-there s path k
  | Expr-F.Cat rs ↦ λ e k. not-there s path k
  | Expr-F.Rep n rs ↦ λ e k. not-there s path k
  | Expr-F.Cast signed a ↦ λ e k. not-there s path k
] refl h

-- ---- an error on a name where each has a value

abbrev is_name : ConstError → Bool
is_name (y.NoValue p) = true
is_name _ = false

no-name : (early : Path → Bool) (s : Site) (p : ℕ) → no_value early s ≡ [] → Contains (all_faults early s) (y.NoValue p) → ⊥
no-name early s p h c = elim (Contains-append_cases (told_faults early s) (map y.ZeroDivisor (zero_divisor s)) (y.NoValue p) c) [
  | inl k ↦ elim (Contains-append_cases (map y.NoValue (no_value early s)) (map y.Range (out_of_range s)) (y.NoValue p) k) [
    | inl m ↦ nowhere-in (y.NoValue p) (in-same _ _ (y.NoValue p) (ap (map y.NoValue) h) m)
    | inr m ↦ let e : false ≡ true = ap is_name (made y.Range (out_of_range s) (y.NoValue p) m).same in cc
  ]
  | inr k ↦ let e : false ≡ true = ap is_name (made y.ZeroDivisor (zero_divisor s) (y.NoValue p) k).same in cc
]

-- ---- the first late name

record LateAt (f : Path → Option ResolveError) (ps : List Path) (q : ResolveError) : Type 0 where
  path : Path
  among : Contains ps path
  late : f path ≡ Some q

late-more : (f : Path → Option ResolveError) (p : Path) (ps : List Path) (q : ResolveError) → LateAt f ps q → LateAt f (p ∷ ps) q
late-more f p ps q l = record { path = l.path; among = Contains-append_right (p ∷ []) ps l.path l.among; late = l.late }

none-head : (a b : Option ResolveError) → None ≡ or_else a b → a ≡ None
none-head None b h = refl
none-head (Some q) b h = cc

none-rest : (a b : Option ResolveError) → None ≡ or_else a b → None ≡ b
none-rest None b h = h
none-rest (Some q) b h = cc

late-at : (f : Path → Option ResolveError) (ps : List Path) (q : ResolveError) → Some q ≡ first_late f ps → LateAt f ps q
late-at f [] q h = cc
late-at f (p ∷ ps) q h = elim (f p) as (λ o. f p ≡ o → Some q ≡ or_else o (first_late f ps) → LateAt f (p ∷ ps) q) [
  | None ↦ λ e k. late-more f p ps q (late-at f ps q k)
  | Some a ↦ λ e k. record { path = p; among = (0, omega arith, refl); late = e ∙ sym k }
] refl h

none-late : (f : Path → Option ResolveError) (ps : List Path) (p : Path) → None ≡ first_late f ps → Contains ps p → f p ≡ None
none-late f [] p h c = absurd (nowhere-in p c)
none-late f (q ∷ ps) p h c = elim (Contains-append_cases (q ∷ []) ps p c) [
  | inl k ↦ ap f (sym (single q p k)) ∙ none-head (f q) (first_late f ps) h
  | inr k ↦ none-late f ps p (none-rest (f q) (first_late f ps) h) k
]

-- ---- at a place

-- the names at a place, by a table and by the constants that can be read there and those that are declared before
pub record AreBound (S : Signals) (find : Path → Option ℕ) (all early : Names) (here : Here) : Type 0 where
  pub found : (p : Path) (k : ℕ) → find p ≡ Some k → here.names p ≡ Some (signal_at S k)
  pub declared : (p : Path) (k : ℕ) → find p ≡ Some k → is_declared_sort (signal_at S k).sort ≡ true
  pub absent : (p : Path) → find p ≡ None → is_declared_sort (known (here.names p)).sort ≡ false
  pub constants : AreDeclared all (with_all here)
  pub ahead : AreDeclared early here

pub are-bound : (S : Signals) (find : Path → Option ℕ) (all early : List Entry) (here : Here) → AreNames S find all early here →
    AreBound S find (names_of all) (names_of early) here
are-bound S find all early here ok = record { found = ok.found; declared = ok.declared; absent = ok.absent; constants = ok.constants; ahead = ok.ahead }

module _ (S : Signals) (find : Path → Option ℕ) (all early : Names) (here : Here) (ok : AreBound S find all early here) where
  record LateName (p : Path) (q : ResolveError) : Type 0 where
    late : is_early (here.early p) (here.names p) ≡ false
    told : ((is_unreadable (here.names p) ≡ true) × (q ≡ x.UnknownName p.place)) ⊎ ((is_unreadable (here.names p) ≡ false) × (q ≡ x.NotConstant p.place))

  late-is : (p : Path) (q : ResolveError) (a : Option Declared) (k : Option ℕ) (b : Option Declared) → early p ≡ a → find p ≡ k → all p ≡ b →
      late_by a k b p.place ≡ Some q → LateName p q
  late-is p q (Some d) k b e f g h = cc
  late-is p q None (Some n) b e f g h = record {
    late = none-early (here.early p) (here.names p) (sym e ∙ ok.ahead.same p);
    told = inr (declared-readable (here.names p) _ (ok.found p n f) (ok.declared p n f), is-some (x.NotConstant p.place) q h);
  }
  late-is p q None None (Some d) e f g h = record {
    late = none-early (here.early p) (here.names p) (sym e ∙ ok.ahead.same p);
    told = inr (some-constant (here.names p) d (sym g ∙ ok.constants.same p), is-some (x.NotConstant p.place) q h);
  }
  late-is p q None None None e f g h = record {
    late = none-early (here.early p) (here.names p) (sym e ∙ ok.ahead.same p);
    told = inl (unread-none (here.names p) (ok.absent p f) (none-constant (here.names p) (sym g ∙ ok.constants.same p)), is-some (x.UnknownName p.place) q h);
  }

  module _ (e : Expr) (first W : ℕ) (T : Bool) where
    abbrev sites : List Site
    sites = (walk here.names e).sites Value (Some first) W T

    all-stand : All (Stands here.names) sites
    all-stand = walk-stands here.names e first W T

    path-sites : flat_map path_of sites ≡ paths_in e
    path-sites = site-paths here.names e Value (Some first) W T

    at-site : (p : Path) (q : ResolveError) (s : Site) → Contains sites s → IsNameNode s p → Stands here.names s → LateName p q → Told here sites q
    at-site p q s c n z l = elim l.told [
      | inl h ↦ subst (Told here sites) (sym h.1) (record {
        found = gathered unknown_name sites s p.place c (in-same _ _ p.place
            (sym (unreadable-fault s p n.steps (here.names p) n.node (ap (λ g. g p) z.named) h.0)) (0, omega arith, refl));
      })
      | inr h ↦ subst (Told here sites) (sym h.1) (record {
        found = gathered (unfixed_at here) sites s p.place c (in-same _ _ p.place
            (sym (late-fault here s p n.steps z.first n.node z.fixed (ap (λ g. is_early (here.early p) (g p)) z.named ∙ l.late)
            (ap (λ g. is_unreadable (g p)) z.named ∙ h.0))) (0, omega arith, refl));
      })
    ]

    pub late-told : (q : ResolveError) → Some q ≡ first_late (late_of find all early) (paths_in e) → Told here sites q
    late-told q h =
        let l : LateAt (late_of find all early) (paths_in e) q = late-at (late_of find all early) (paths_in e) q h in
        let g : Found path_of sites l.path = found path_of sites l.path (in-same _ _ l.path (sym path-sites) l.among) in
        at-site l.path q g.one g.among (name-node g.one l.path g.holds) (All-contains (Stands here.names) sites g.one all-stand g.among)
        (late-is l.path q (early l.path) (find l.path) (all l.path) refl refl refl l.late)

    early-is : (p : Path) (a : Option Declared) (k : Option ℕ) (b : Option Declared) → early p ≡ a → late_by a k b p.place ≡ None →
        is_early (here.early p) (here.names p) ≡ true
    early-is p (Some d) k b h m = some-early (here.early p) (here.names p) d (sym h ∙ ok.ahead.same p)
    early-is p None (Some n) b h m = cc
    early-is p None None (Some d) h m = cc
    early-is p None None None h m = cc

    valued : (s : Site) (ps : List Path) → s.names ≡ here.names → ((p : Path) → Contains (path_of s) p → is_early (here.early p) (here.names p) ≡ true) →
        no_value here.early s ≡ []
    valued s ps n h = elim s.node as (λ m. ((p : Path) → Contains (path_of (record s { node = m })) p → is_early (here.early p) (here.names p) ≡ true) →
        no_value here.early (record s { node = m }) ≡ []) [
          | Expr-F.Lit l ↦ λ k. refl
          | Expr-F.Name p ss ↦ λ k. rw (ap (λ g. is_early (here.early p) (g p)) n ∙ k p (0, omega arith, refl)) refl
          | Expr-F.Un op a ↦ λ k. refl
          | Expr-F.Bin op a b ↦ λ k. refl
          | Expr-F.Div a b ↦ λ k. refl
          | Expr-F.Rem a b ↦ λ k. refl
          | Expr-F.Cond c a b ↦ λ k. refl
          | Expr-F.Cat rs ↦ λ k. refl
          | Expr-F.Rep m rs ↦ λ k. refl
          | Expr-F.Cast signed a ↦ λ k. refl
        ] h

    pub late-never : (p : ℕ) → None ≡ first_late (late_of find all early) (paths_in e) → const.Told here.early sites (y.NoValue p) → ⊥
    late-never p h t =
        let g : Found (all_faults here.early) sites (y.NoValue p) = found (all_faults here.early) sites (y.NoValue p) t.found in
        let z : Stands here.names g.one = All-contains (Stands here.names) sites g.one all-stand g.among in
        let n : no_value here.early g.one ≡ [] = valued g.one [] z.named (λ m c. early-is m (early m) (find m) (all m) refl
        (none-late (late_of find all early) (paths_in e) m h (in-same _ _ m path-sites (gathered path_of sites g.one m g.among c)))) in
        no-name here.early g.one p n g.holds
