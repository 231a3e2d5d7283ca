-- The first late name of nodes in a constant position is a fault of one of them, and without one no name has no value.
use Rattle.std.proofs.Common.{◌≡◌, inl, inr, ℕ, Bool, true, false, List, [], ◌∷◌, ap, ◌∙◌, sym, subst, refl, flat_map, map, arith, None, Some, Option}
use Rattle.std.specs.List.{Contains, All}
use Rattle.std.proofs.lemmas.List.Elements.{All-contains, Contains-append_right, Contains-append_cases}
use Rattle.lv_ast.specs.declared.expr.Path.{Path}
use Rattle.lv_ast.specs.declared.expr.Expr.TheOpen.{Expr-F}
use Rattle.lv_source.specs.Names.{Here, Declared}
use Rattle.lv_source.specs.Sites.{Site, Step, spots}
use Rattle.lv_source.specs.NodeRules.{unknown_name, zero_divisor, out_of_range, is_early, is_unreadable}
use Rattle.lv_source.proofs.Tests.{decide}
use Rattle.lv_const.specs.declared.error.ConstError.{ConstError}
use Rattle.lv_const.specs.declared.error.ConstError.TheVariants as y
use Rattle.lv_const.specs.Faults.{no_value, all_faults, told_faults}
use Rattle.lv_const.proofs.Refusals.{found, Found, gathered}
use Rattle.lv_const.proofs.Stands.{Stands}
use Rattle.lv_resolve.specs.Late.{first_late, or_else}
use Rattle.lv_resolve.specs.Forms.{unfixed_at}
use Rattle.lv_resolve.specs.Resolved.{IsToldOf}
use Rattle.lv_resolve.specs.declared.error.ResolveError.{ResolveError}
use Rattle.lv_resolve.specs.declared.error.ResolveError.TheVariants as x
use Rattle.lv_resolve.proofs.Answered.{told-of}
use Rattle.lv_resolve.proofs.Covers.{nowhere-in, in-same}
use Rattle.lv_resolve.proofs.Zeros.{single, made}
use Rattle.lv_resolve.proofs.Steady.{path_of}
use Rattle.lv_late.specs.Lates.{IsLate, IsDecided, is_fault}

-- ---- faults of a name in a constant position

unreadable-fault : (s : Site) (path : Path) (ss : List Step) (o : Option Declared) → s.node ≡ Expr-F.Name path ss → s.names path ≡ o → is_unreadable o ≡ true →
    unknown_name s ≡ path.place ∷ []
unreadable-fault s path ss None n e h = rw (n, e) refl
unreadable-fault s path ss (Some d) n e h = rw (n, e, h) refl

late-fault : (here : Here) (s : Site) (path : Path) (ss : List Step) (first : ℕ) → s.node ≡ Expr-F.Name path ss → s.fixed ≡ Some first →
    is_early (here.early path) (s.names path) ≡ false → is_unreadable (s.names path) ≡ false → unfixed_at here s ≡ path.place ∷ first ∷ []
late-fault here s path ss first n f h k = rw (n, f, h, k) refl

-- the name that a node is
record IsNameNode (s : Site) (path : Path) : Type 0 where
  steps : List Step
  node : s.node ≡ Expr-F.Name path steps

not-there : (s : Site) (path : Path) → Contains [] path → IsNameNode s path
not-there s path h = absurd (nowhere-in path h)

name-node : (s : Site) (path : Path) → Contains (path_of s) path → IsNameNode s path
name-node s path h = elim s.node as (λ n. s.node ≡ n → Contains (path_of (record s { node = n })) path → IsNameNode s path) [
  | Expr-F.Lit l ↦ λ e k. not-there s path k
  | Expr-F.Name p ss ↦ λ e k. record { steps = ss; node = e ∙ ap (λ q. Expr-F.Name q ss) (single p path k) }
  | Expr-F.Un op a ↦ λ e k. not-there s path k
  | Expr-F.Bin op a b ↦ λ e k. not-there s path k
  | Expr-F.Div a b ↦ λ e k. not-there s path k
  | Expr-F.Rem a b ↦ λ e k. not-there s path k
  | Expr-F.Cond c a b ↦ λ e k. not-there s path k
  | Expr-F.Cat rs ↦ λ e k. not-there s path k
  | Expr-F.Rep n rs ↦ λ e k. not-there s path k
  | Expr-F.Cast signed a ↦ λ e k. not-there s path k
] refl h

-- ---- an error on a name where each has a value

abbrev is_name : ConstError → Bool
is_name (y.NoValue p) = true
is_name _ = false

no-name : (early : Path → Bool) (s : Site) (p : ℕ) → no_value early s ≡ [] → Contains (all_faults early s) (y.NoValue p) → ⊥
no-name early s p h c = elim (Contains-append_cases (told_faults early s) (map y.ZeroDivisor (zero_divisor s)) (y.NoValue p) c) [
  | inl k ↦ elim (Contains-append_cases (map y.NoValue (no_value early s)) (map y.Range (out_of_range s)) (y.NoValue p) k) [
    | inl m ↦ nowhere-in (y.NoValue p) (in-same _ _ (y.NoValue p) (ap (map y.NoValue) h) m)
    | inr m ↦ let e : false ≡ true = ap is_name (made y.Range (out_of_range s) (y.NoValue p) m).same in cc
  ]
  | inr k ↦ let e : false ≡ true = ap is_name (made y.ZeroDivisor (zero_divisor s) (y.NoValue p) k).same in cc
]

-- ---- the first late name

record LateAt (f : Path → Option ResolveError) (ps : List Path) (q : ResolveError) : Type 0 where
  path : Path
  among : Contains ps path
  late : f path ≡ Some q

late-more : (f : Path → Option ResolveError) (p : Path) (ps : List Path) (q : ResolveError) → LateAt f ps q → LateAt f (p ∷ ps) q
late-more f p ps q l = record { path = l.path; among = Contains-append_right (p ∷ []) ps l.path l.among; late = l.late }

none-head : (a b : Option ResolveError) → None ≡ or_else a b → a ≡ None
none-head None b h = refl
none-head (Some q) b h = cc

none-rest : (a b : Option ResolveError) → None ≡ or_else a b → None ≡ b
none-rest None b h = h
none-rest (Some q) b h = cc

late-at : (f : Path → Option ResolveError) (ps : List Path) (q : ResolveError) → Some q ≡ first_late f ps → LateAt f ps q
late-at f [] q h = cc
late-at f (p ∷ ps) q h = elim (f p) as (λ o. f p ≡ o → Some q ≡ or_else o (first_late f ps) → LateAt f (p ∷ ps) q) [
  | None ↦ λ e k. late-more f p ps q (late-at f ps q k)
  | Some a ↦ λ e k. record { path = p; among = (0, omega arith, refl); late = e ∙ sym k }
] refl h

none-late : (f : Path → Option ResolveError) (ps : List Path) (p : Path) → None ≡ first_late f ps → Contains ps p → f p ≡ None
none-late f [] p h c = absurd (nowhere-in p c)
none-late f (q ∷ ps) p h c = elim (Contains-append_cases (q ∷ []) ps p c) [
  | inl k ↦ ap f (sym (single q p k)) ∙ none-head (f q) (first_late f ps) h
  | inr k ↦ none-late f ps p (none-rest (f q) (first_late f ps) h) k
]

-- what is told is a fault
pub first-fault : (f : Path → Option ResolveError) → ((p : Path) (q : ResolveError) → f p ≡ Some q → is_fault q ≡ true) → (ps : List Path) (q : ResolveError) →
    Some q ≡ first_late f ps → is_fault q ≡ true
first-fault f g ps q h = let l : LateAt f ps q = late-at f ps q h in g l.path q l.late

-- ---- nodes that have the names of a place, in a constant position

module _ (here : Here) (f : Path → Option ResolveError) (decided : (p : Path) → IsDecided here p (f p))
    (ss : List Site) (stand : All (Stands here.names) ss) (ps : List Path) (same : flat_map path_of ss ≡ ps) where
  at-site : (p : Path) (q : ResolveError) (s : Site) → Contains ss s → IsNameNode s p → Stands here.names s → IsLate here p q → IsToldOf (spots here ss) q
  at-site p q s c n z l = elim (decide (is_unreadable (here.names p))) [
    | inl h ↦ subst (IsToldOf (spots here ss)) (sym (l.unread h)) (told-of here ss (x.UnknownName p.place)
        (gathered unknown_name ss s p.place c (in-same _ _ p.place
        (sym (unreadable-fault s p n.steps (here.names p) n.node (ap (λ g. g p) z.named) h)) (0, omega arith, refl))))
    | inr h ↦ subst (IsToldOf (spots here ss)) (sym (l.unfixed h)) (told-of here ss (x.NotConstant p.place)
        (gathered (unfixed_at here) ss s p.place c (in-same _ _ p.place
        (sym (late-fault here s p n.steps z.first n.node z.fixed (ap (λ g. is_early (here.early p) (g p)) z.named ∙ l.late)
        (ap (λ g. is_unreadable (g p)) z.named ∙ h))) (0, omega arith, refl))))
  ]

  pub late-told : (q : ResolveError) → Some q ≡ first_late f ps → IsToldOf (spots here ss) q
  late-told q h =
      let l : LateAt f ps q = late-at f ps q h in
      let g : Found path_of ss l.path = found path_of ss l.path (in-same _ _ l.path (sym same) l.among) in
      at-site l.path q g.one g.among (name-node g.one l.path g.holds) (All-contains (Stands here.names) ss g.one stand g.among) ((decided l.path).late q l.late)

  valued : (s : Site) → s.names ≡ here.names → ((p : Path) → Contains (path_of s) p → is_early (here.early p) (here.names p) ≡ true) → no_value here.early s ≡ []
  valued s n h = elim s.node as (λ m. ((p : Path) → Contains (path_of (record s { node = m })) p → is_early (here.early p) (here.names p) ≡ true) →
      no_value here.early (record s { node = m }) ≡ []) [
        | Expr-F.Lit l ↦ λ k. refl
        | Expr-F.Name p steps ↦ λ k. rw (ap (λ g. is_early (here.early p) (g p)) n ∙ k p (0, omega arith, refl)) refl
        | Expr-F.Un op a ↦ λ k. refl
        | Expr-F.Bin op a b ↦ λ k. refl
        | Expr-F.Div a b ↦ λ k. refl
        | Expr-F.Rem a b ↦ λ k. refl
        | Expr-F.Cond c a b ↦ λ k. refl
        | Expr-F.Cat rs ↦ λ k. refl
        | Expr-F.Rep m rs ↦ λ k. refl
        | Expr-F.Cast signed a ↦ λ k. refl
      ] h

  pub late-never : (p : ℕ) → None ≡ first_late f ps → Contains (flat_map (all_faults here.early) ss) (y.NoValue p) → ⊥
  late-never p h t =
      let g : Found (all_faults here.early) ss (y.NoValue p) = found (all_faults here.early) ss (y.NoValue p) t in
      let z : Stands here.names g.one = All-contains (Stands here.names) ss g.one stand g.among in
      let n : no_value here.early g.one ≡ [] = valued g.one z.named (λ m c. (decided m).early
      (none-late f ps m h (in-same _ _ m same (gathered path_of ss g.one m g.among c)))) in
      no-name here.early g.one p n g.holds
