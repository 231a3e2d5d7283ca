-- What is told of a name by the groups of a scope's declarations is what its names say.
use Rattle.std.proofs.Common.{◌≡◌, inl, inr, ℕ, ◌+◌, ◌<◌, ◌≤◌, arith, Bool, true, false, not, ◌&&◌, ◌||◌, List, [], ◌∷◌, take, refl, sym, ap, ◌∙◌, subst, Option, Some, None}
use Rattle.std.specs.Prelude.{slice_get, nat_lt, if◌then◌else◌}
use Rattle.std.specs.List.{list_any}
use Rattle.std.proofs.lemmas.Bool.Decides.{nat_tests}
use Rattle.lv_ast.specs.declared.expr.Path.{Path}
use Rattle.lv_ast.specs.declared.expr.Expr.{Expr}
use Rattle.lv_ast.specs.declared.item.Range.{Range}
use Rattle.lv_ast.specs.declared.stmt.Ident.{Ident}
use Rattle.lv_ast.specs.Names.{Name, has_no_steps}
use Rattle.lv_source.specs.Names.{Names, Here, Declared, Sort, Input, Net, Variable, Clock, Constant, Other, is_constant_sort}
use Rattle.lv_source.specs.Names.{Index as Index_sort}
use Rattle.lv_source.specs.Constants.{early_or_none}
use Rattle.lv_source.specs.Declarations.{Thing, Direction, Wire, Reg, Parameter, Index, Instance, Label, Declaration, declared_as}
use Rattle.lv_source.specs.Scopes.{is_parameter, stands_for, is_reg, is_input, is_among, early_by, early_at, here_at}
use Rattle.lv_source.specs.NodeRules.{is_early, is_unreadable, can_be_read}
use Rattle.lv_source.proofs.Tests.{decide, same_name, or-none_left}
use Rattle.lv_bindings.specs.declared.group.Group.{Group}
use Rattle.lv_bindings.specs.Grouping.{Numbered, named, group_of, group_for, any_of}
use Rattle.lv_symbols.specs.Frames.{Frame, constants_in}
use Rattle.lv_resolve.specs.declared.error.ResolveError.{ResolveError}
use Rattle.lv_resolve.specs.declared.error.ResolveError.TheVariants as x
use Rattle.lv_late.specs.Lates.{told_by, is_read, is_read_at, is_some, Said, told_of_group, told_of_name, IsDecided, is_fault}
use Rattle.lv_late.specs.Standing.{IsStanding}
use Rattle.lv_late.proofs.ScopeNames.{with-steps, without-steps, undeclared, stand, stand-parameter, parameter-alone, any-before, constant-is, constant, is-constant}
use Rattle.lv_late.proofs.Groups.{plain, plain-named, IsFirst, is-first, any-plain}

-- ---- by two tests

same-some : (a b : ResolveError) → Some a ≡ Some b → b ≡ a
same-some a b h = cc

module _ (here : Here) (p : Path) where
  abbrev early_here : Bool
  early_here = is_early (here.early p) (here.names p)

  abbrev unread_here : Bool
  unread_here = is_unreadable (here.names p)

  pub by-tests : (early read : Bool) → early_here ≡ early → (early ≡ false → unread_here ≡ not read) → IsDecided here p (told_by early read p.place)
  by-tests true read e f = record { early = λ h. e; late = λ q h. absurd (let k : None ≡ Some q = h in cc) }
  by-tests false true e f = record {
    early = λ h. absurd (cc);
    late = λ q h. record {
      late = e;
      unread = λ u. absurd (let k : true ≡ false = sym u ∙ f refl in cc);
      unfixed = λ u. same-some (x.NotConstant p.place) q h;
    };
  }
  by-tests false false e f = record {
    early = λ h. absurd (cc);
    late = λ q h. record {
      late = e;
      unread = λ u. same-some (x.UnknownName p.place) q h;
      unfixed = λ u. absurd (let k : false ≡ true = sym u ∙ f refl in cc);
    };
  }

some-fault : (a q : ResolveError) → is_fault a ≡ true → Some a ≡ Some q → is_fault q ≡ true
some-fault a q h e = ap is_fault (same-some a q e) ∙ h

tests-fault : (early read : Bool) (place : ℕ) (q : ResolveError) → told_by early read place ≡ Some q → is_fault q ≡ true
tests-fault true read place q h = absurd (cc)
tests-fault false true place q h = some-fault (x.NotConstant place) q refl h
tests-fault false false place q h = some-fault (x.UnknownName place) q refl h

group-fault : (s : Said) (k : ℕ) (p : Path) (g : Option Group) (q : ResolveError) → told_of_group s k p g ≡ Some q → is_fault q ≡ true
group-fault s k p None q h = tests-fault (is_some (s.base p)) (s.read p) p.place q h
group-fault s k p (Some g) q h = tests-fault (g.parameter && nat_lt g.first k) (is_read_at (slice_get s.declarations g.first)) p.place q h

steps-fault : (s : Said) (k : ℕ) (p : Path) (b : Bool) (q : ResolveError) →
    (if b then told_of_group s k p (group_for s.declarations p.name) else Some (x.UnknownName p.place)) ≡ Some q → is_fault q ≡ true
steps-fault s k p true q h = group-fault s k p (group_for s.declarations p.name) q h
steps-fault s k p false q h = some-fault (x.UnknownName p.place) q refl h

pub name-fault : (s : Said) (k : ℕ) (p : Path) (q : ResolveError) → told_of_name s k p ≡ Some q → is_fault q ≡ true
name-fault s k p q h = steps-fault s k p (has_no_steps p) q h

-- ---- a declared name

sort-read : (a b c : Bool) → can_be_read (if a then Clock else if b then Variable else if c then Input else Net) ≡ true
sort-read true b c = refl
sort-read false true c = refl
sort-read false false true = refl
sort-read false false false = refl

stands-read : (names : Names) (path : Name) (top clock : Bool) (p : Path) (n : Ident) (t : Thing) (rest : List Declaration) →
    is_parameter (record { name = n; thing = t }) ≡ false →
    is_unreadable (stands_for names path top clock p (record { name = n; thing = t } ∷ rest)) ≡ not (is_read (record { name = n; thing = t }))
stands-read names path top clock p n (Direction o w s r) rest h =
    ap not (sort-read clock (list_any is_reg (record { name = n; thing = Direction o w s r } ∷ rest))
    (top && list_any is_input (record { name = n; thing = Direction o w s r } ∷ rest)))
stands-read names path top clock p n (Wire s r) rest h =
    ap not (sort-read clock (list_any is_reg (record { name = n; thing = Wire s r } ∷ rest)) (top && list_any is_input (record { name = n; thing = Wire s r } ∷ rest)))
stands-read names path top clock p n (Reg s r b) rest h =
    ap not (sort-read clock (list_any is_reg (record { name = n; thing = Reg s r b } ∷ rest)) (top && list_any is_input (record { name = n; thing = Reg s r b } ∷ rest)))
stands-read names path top clock p n (Parameter l s r v) rest h = cc
stands-read names path top clock p n (Index g) rest h = refl
stands-read names path top clock p n Instance rest h = refl
stands-read names path top clock p n Label rest h = refl

never : (o : Option Declared) → is_early false o ≡ false
never None = refl
never (Some d) = elim (is_constant_sort d.sort) as (λ c. (c && false) ≡ false) [ true ↦ refl | false ↦ refl ]

some-early : (b : Bool) (o : Option Declared) → is_some (early_or_none b o) ≡ is_early b o
some-early b None = refl
some-early b (Some d) = elim (is_early b (Some d)) as (λ c. is_some (if c then Some d else None) ≡ c) [ true ↦ refl | false ↦ refl ]

constant-early : (b : Bool) (d : Declared) → is_constant_sort d.sort ≡ true → is_early b (Some d) ≡ b
constant-early b d h = ap (λ c. c && b) h

read-constant : (z : Sort) → is_constant_sort z ≡ true → can_be_read z ≡ true
read-constant z h = elim z as (λ s. is_constant_sort s ≡ true → can_be_read s ≡ true) [
  | Input ↦ λ k. refl
  | Net ↦ λ k. refl
  | Variable ↦ λ k. refl
  | Clock ↦ λ k. refl
  | Constant n ↦ λ k. refl
  | Index_sort g ↦ λ k. cc
  | Other ↦ λ k. cc
] h

less-test : (a b : ℕ) → a < b → nat_lt a b ≡ true
less-test a b h = grind (arith, nat_tests)

test-less : (a b : ℕ) → nat_lt a b ≡ true → a < b
test-less a b h = grind (arith, nat_tests)

not-less : (a b : ℕ) → nat_lt a b ≡ false → b ≤ a
not-less a b h = grind (arith, nat_tests)

early-list : (xs ys : List Declaration) (d : Declaration) (rest : List Declaration) (around : Bool) → xs ≡ d ∷ rest → early_by xs ys around ≡ list_any is_parameter ys
early-list xs ys d rest around e = ap (λ zs. early_by zs ys around) e

-- the parts of a parameter
pub record IsParameter (d : Declaration) : Type 0 where
  pub name : Ident
  pub local : Bool
  pub signed : Bool
  pub range : Option Range
  pub value : Expr
  pub is : d ≡ record { name = name; thing = Parameter local signed range value }

thing-parameter : (n : Ident) (t : Thing) → is_parameter (record { name = n; thing = t }) ≡ true → IsParameter (record { name = n; thing = t })
thing-parameter n (Parameter l s r v) h = record { name = n; local = l; signed = s; range = r; value = v; is = refl }
thing-parameter n (Direction o w s r) h = cc
thing-parameter n (Wire s r) h = cc
thing-parameter n (Reg s r b) h = cc
thing-parameter n (Index g) h = cc
thing-parameter n Instance h = cc
thing-parameter n Label h = cc

is-parameter-of : (d : Declaration) → is_parameter d ≡ true → IsParameter d
is-parameter-of d h = thing-parameter d.name d.thing h

-- ---- a scope

module _ (s : Said) (f : Frame) (h : IsStanding s f) (k : ℕ) (p : Path) where
  abbrev ds : List Declaration
  ds = f.scope.declarations

  abbrev here : Here
  here = here_at f.scope k

  abbrev before : List Declaration
  before = declared_as p.name (take k ds)

  by-steps : has_no_steps p ≡ false → IsDecided here p (Some (x.UnknownName p.place))
  by-steps e =
      let n : f.scope.names p ≡ None = with-steps f h.scope p e in
      by-tests here p false false (ap (is_early (here.early p)) n) (λ u. ap is_unreadable n)

  -- it declares none
  outer : declared_as p.name ds ≡ [] → has_no_steps p ≡ true → IsDecided here p (told_by (is_some (s.base p)) (s.read p) p.place)
  outer e n =
      let a : (j : ℕ) → early_at f.scope j p ≡ f.scope.early p = λ j. ap (λ zs. early_by zs (declared_as p.name (take j ds)) (f.scope.early p)) e in
      let b : s.base p ≡ early_or_none (f.scope.early p) (f.scope.names p) = h.before.same p ∙ ap (λ z. early_or_none z (f.scope.names p)) (a 0) in
      by-tests here p (is_some (s.base p)) (s.read p)
      (ap (λ z. is_early z (f.scope.names p)) (a k) ∙ sym (ap is_some b ∙ some-early (f.scope.early p) (f.scope.names p)))
      (λ u. ap is_unreadable (undeclared f h.scope p e n) ∙ h.around p n)

  module _ (z : Numbered) (zs : List Numbered) (e : named ds p.name ≡ z ∷ zs) (n : has_no_steps p ≡ true) where
    first : IsFirst p.name 0 ds z
    first = is-first p.name 0 ds z zs e

    all : declared_as p.name ds ≡ z.1 ∷ plain zs
    all = sym (plain-named p.name 0 ds) ∙ ap plain e

    at : slice_get ds z.0 ≡ Some z.1
    at = ap (slice_get ds) (let q : z.0 ≡ 0 + first.at = first.number in let r : z.0 ≡ first.at = omega arith in r) ∙ first.is

    number : z.0 ≡ first.at
    number = (let q : z.0 ≡ 0 + first.at = first.number in omega arith)

    stands : f.scope.names p ≡ stand f h.scope p (z.1 ∷ plain zs)
    stands = without-steps f h.scope p (z.1 ∷ plain zs) all n

    early-is : here.early p ≡ list_any is_parameter before
    early-is = early-list (declared_as p.name ds) before z.1 (plain zs) (f.scope.early p) all

    abbrev parameter : Bool
    parameter = any_of is_parameter (z ∷ zs)

    parameter-is : parameter ≡ list_any is_parameter (z.1 ∷ plain zs)
    parameter-is = any-plain is_parameter (z ∷ zs)

    abbrev DecidedBy : Bool → Type 0
    DecidedBy b = IsDecided here p (told_by (b && nat_lt z.0 k) (is_read z.1) p.place)

    -- a signal, an index, an instance or a label
    plainly : list_any is_parameter (z.1 ∷ plain zs) ≡ false → DecidedBy false
    plainly a =
        let b : list_any is_parameter before ≡ false = elim (decide (list_any is_parameter before)) [
          | inl t ↦ absurd (let u : list_any is_parameter (z.1 ∷ plain zs) ≡ true = sym (ap (list_any is_parameter) all) ∙ any-before f h.scope p k t in
              let v : true ≡ false = sym u ∙ a in cc)
          | inr t ↦ t
        ] in
        let c : is_parameter z.1 ≡ false = or-none_left (is_parameter z.1) (list_any is_parameter (plain zs)) a in
        by-tests here p false (is_read z.1) (ap (λ w. is_early w (f.scope.names p)) (early-is ∙ b) ∙ never (f.scope.names p))
        (λ u. ap is_unreadable stands ∙ stands-read (constants_in f) f.scope.path h.scope.top (is_among h.scope.clocks p.name) p z.1.name z.1.thing (plain zs) c)

    -- a parameter
    before-is : is_parameter z.1 ≡ true → list_any is_parameter before ≡ nat_lt z.0 k
    before-is c = elim (decide (nat_lt z.0 k)) [
      | inl t ↦
          let l : first.at < k = (let u : z.0 < k = test-less z.0 k t in let v : z.0 ≡ first.at = number in omega arith) in
          let r : (ys : List Declaration) × (before ≡ z.1 ∷ ys) = first.some k l in
          ap (list_any is_parameter) r.1 ∙ (ap (λ b. b || list_any is_parameter r.0) c ∙ sym t)
      | inr t ↦
          let l : k ≤ first.at = (let u : k ≤ z.0 = not-less z.0 k t in let v : z.0 ≡ first.at = number in omega arith) in
          ap (list_any is_parameter) (first.none k l) ∙ sym t
    ]

    as-parameter : list_any is_parameter (z.1 ∷ plain zs) ≡ true → DecidedBy true
    as-parameter a =
        let c : is_parameter z.1 ≡ true = (parameter-alone f h.scope p z.1 (plain zs) all a).1 in
        let q : IsParameter z.1 = is-parameter-of z.1 c in
        let i : slice_get ds z.0 ≡ Some (record { name = q.name; thing = Parameter q.local q.signed q.range q.value }) = at ∙ ap (λ w. Some w) q.is in
        let m : p.name ≡ q.name.name = sym (same_name z.1.name.name p.name first.named) ∙ ap (λ (w : Declaration). w.name.name) q.is in
        let w : Declared = constant f h.scope z.0 q.name q.local q.signed q.range q.value i in
        let v : f.scope.names p ≡ Some w = stands ∙ (stand-parameter f h.scope p z.1 (plain zs) c ∙
        constant-is f h.scope z.0 q.name q.local q.signed q.range q.value i p n m) in
        let g : is_constant_sort w.sort ≡ true = is-constant f h.scope z.0 q.name q.local q.signed q.range q.value i in
        by-tests here p (nat_lt z.0 k) (is_read z.1)
        (ap (λ b. is_early b (f.scope.names p)) (early-is ∙ before-is c) ∙ (ap (is_early (nat_lt z.0 k)) v ∙ constant-early (nat_lt z.0 k) w g))
        (λ u. ap is_unreadable v ∙ (ap not (read-constant w.sort g) ∙ sym (ap not (ap is_read q.is))))

    by-parameter : (b : Bool) → list_any is_parameter (z.1 ∷ plain zs) ≡ b → DecidedBy b
    by-parameter true a = as-parameter a
    by-parameter false a = plainly a

    of-first : IsDecided here p (told_by (parameter && nat_lt z.0 k) (is_read_at (slice_get ds z.0)) p.place)
    of-first =
        subst (λ b. IsDecided here p (told_by (b && nat_lt z.0 k) (is_read_at (slice_get ds z.0)) p.place)) (sym parameter-is)
        (subst (λ o. IsDecided here p (told_by (list_any is_parameter (z.1 ∷ plain zs) && nat_lt z.0 k) (is_read_at o) p.place)) (sym at)
        (by-parameter (list_any is_parameter (z.1 ∷ plain zs)) refl))

  abbrev mine : Said
  mine = record { declarations = ds; base = s.base; read = s.read }

  none-as : named ds p.name ≡ [] → declared_as p.name ds ≡ []
  none-as e = sym (plain-named p.name 0 ds) ∙ ap plain e

  by-named : (zs : List Numbered) → named ds p.name ≡ zs → has_no_steps p ≡ true → IsDecided here p (told_of_group mine k p (group_of zs))
  by-named [] e n = outer (none-as e) n
  by-named (z ∷ zs) e n = of-first z zs e n

  by-cases : (b : Bool) → has_no_steps p ≡ b → IsDecided here p (if b then told_of_group mine k p (group_for ds p.name) else Some (x.UnknownName p.place))
  by-cases true n = by-named (named ds p.name) refl n
  by-cases false n = by-steps n

  pub decided : IsDecided here p (told_of_name s k p)
  decided = subst (λ zs. IsDecided here p (told_of_name (record { declarations = zs; base = s.base; read = s.read }) k p)) h.declarations (by-cases (has_no_steps p) refl)
