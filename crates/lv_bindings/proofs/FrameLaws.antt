-- What names stand for in a scope, by their symbols.
use Rattle.std.proofs.Common.{◌≡◌, ◌⊎◌, inl, inr, ℕ, zero, suc, ◌+◌, ◌-◌, ◌<◌, ◌≤◌, arith, Bool, true, false, not, ◌&&◌, ◌||◌, ◌==◌, List, [], ◌∷◌, ◌++◌, map, length, take, refl, sym, ap, ◌∙◌, subst, Option, Some, None}
use Rattle.std.specs.Prelude.{bytes_eq, cond, slice_get, filter, flat_map, max, min, nat_le, if◌then◌else◌}
use Rattle.std.specs.List.{list_any}
use Rattle.std.specs.Option.{option_map}
use Rattle.std.proofs.lemmas.Bool.{eq-eqb, eqb-true}
use Rattle.std.proofs.lemmas.Option.{slice_get-map}
use Rattle.lv_ast.specs.declared.expr.Path.{Path}
use Rattle.lv_ast.specs.declared.expr.Expr.{Expr}
use Rattle.lv_ast.specs.declared.stmt.Ident.{Ident}
use Rattle.lv_ast.specs.declared.item.Range.{Range}
use Rattle.lv_ast.specs.Names.{Name, below, spelled, has_no_steps, alone}
use Rattle.lv_source.specs.Names.{Names, Bounds, Declared, Sort, Input, Net, Variable, Clock, size, known, width_of, with_name}
use Rattle.lv_source.specs.Declarations.{Thing, Direction, Wire, Reg, Parameter, Index, Instance, Label, Declaration, declared_as}
use Rattle.lv_source.specs.Parts.{numbered_from, is_declared_sort, is_first, declares_here, put_by_place, by_place, scope_declared}
use Rattle.lv_source.specs.Scopes.{Scope, Override, is_parameter, is_input, is_reg, is_direction, is_among, is_one_bit_input, stands_for, scope_names, sort_of, range_bounds, array_bounds, with_parameters, overridden, override_of}
use Rattle.lv_source.proofs.Tests.{decide, or-split, same_name, name-itself}
use Rattle.lv_scopes.proofs.Indexed.{turned}
use Rattle.lv_source.proofs.Bridges.{two, map-join}
use Rattle.lv_scopes.specs.Ranges.{pair_of}
use Rattle.lv_flat.specs.Signals.{bounds_of}
use Rattle.lv_symbols.specs.declared.symbol.Symbol.{Symbol}
use Rattle.lv_symbols.specs.declared.symbol.Symbol.TheVariants as y
use Rattle.lv_symbols.specs.Making.{symbol_of, ends}
use Rattle.lv_symbols.specs.Frames.{Frame, IsScope, AreOnce, constants_in}
use Rattle.lv_bindings.specs.declared.group.Group.{Group}
use Rattle.lv_bindings.specs.Grouping.{Numbered, named, any_of, group_of, group_for, place}
use Rattle.lv_bindings.specs.Made.{made, made_by, sort_by, is_clock_of, is_clock_by}
use Rattle.lv_bindings.specs.Order.{Outside, Seen, signal_by, signal_with, seen_if, standing_at, all_standing, put_in_seen, in_order_seen, group_standing}
use Rattle.lv_bindings.specs.Bound.{IsBound}
use Rattle.lv_bindings.proofs.Lists.{number_in, three_ways}
use Rattle.lv_bindings.proofs.NamedLaws.{HasFirst, has_first, plain}
use Rattle.lv_bindings.proofs.OnceLaws.{any_plain}
use Rattle.lv_bindings.proofs.FirstLaws.{stands_first}
use Rattle.lv_bindings.proofs.GroupLaws.{declared_has}

-- ---- one declaration

abbrev pub Stood : Option Declared → Option Declared → Type 0
Stood None o = is_declared_sort (known o).sort ≡ false
Stood (Some d) o = o ≡ Some d

array_same : (names : Names) (array : Option Range) → bounds_of (option_map ends (array_bounds names array)) ≡ array_bounds names array
array_same names None = refl
array_same names (Some r) = refl

abbrev with_array : Name → Sort → Bool → Bool → Bounds → Option Bounds → Declared
with_array path sort ranged signed b a = record { path = path; bounds = b; ranged = ranged; signed = signed; array = a; sort = sort }

reg_same : (path : Name) (sort : Sort) (ranged signed : Bool) (b : Bounds) (a c : Option Bounds) → a ≡ c →
    Stood (Some (with_array path sort ranged signed b a)) (Some (with_array path sort ranged signed b c))
reg_same path sort ranged signed b a c e = ap (λ z. Some (with_array path sort ranged signed b z)) (sym e)

abbrev thing : Ident → Thing → Declaration
thing n t = record { name = n; thing = t }

stood : (names : Names) (path : Name) (top clock : Bool) (p : Path) (n : Ident) (t : Thing) (ds : List Declaration) →
    (is_parameter (thing n t) ≡ true → is_declared_sort (known (names p)).sort ≡ false) →
    Stood (made (below path (spelled n.name)) (sort_of top clock (thing n t ∷ ds)) (symbol_of names (thing n t))) (stands_for names path top clock p (thing n t ∷ ds))
stood names path top clock p n (Direction o w s r) ds h = refl
stood names path top clock p n (Wire s r) ds h = refl
stood names path top clock p n (Reg s r a) ds h = reg_same _ _ _ _ _ _ _ (array_same names a)
stood names path top clock p n (Parameter l s r v) ds h = h refl
stood names path top clock p n (Index g) ds h = refl
stood names path top clock p n Instance ds h = refl
stood names path top clock p n Label ds h = refl

-- ---- parameters

abbrev NotDeclared : Option Declared → Type 0
NotDeclared o = is_declared_sort (known o).sort ≡ false

overridden_not : (here : Names) (n : Ident) (signed : Bool) (range : Option Range) (value : Expr) (o : Option Override) →
    NotDeclared (Some (overridden here n signed range value o))
overridden_not here n signed None value None = refl
overridden_not here n signed (Some r) value None = refl
overridden_not here n signed None value (Some q) = refl
overridden_not here n signed (Some r) value (Some q) = refl

abbrev next : List Override → Names → Ident → Thing → Names
next os names n t = elim t as (λ _. Names) [
  | Parameter local signed range value ↦ with_name names n.name (Some (overridden names n signed range value (override_of local os n.name)))
  | Direction o w s r ↦ names
  | Wire s r ↦ names
  | Reg s r b ↦ names
  | Index g ↦ names
  | Instance ↦ names
  | Label ↦ names
]

if_not : (b : Bool) (o q : Option Declared) → NotDeclared o → NotDeclared q → NotDeclared (if b then o else q)
if_not true o q h k = h
if_not false o q h k = k

if_made : (b c : Bool) (o q : Option Declared) → b ≡ true → c ≡ true → NotDeclared o → NotDeclared (if b && c then o else q)
if_made true true o q d e h = h
if_made true false o q d e h = absurd (cc)
if_made false c o q d e h = absurd (cc)

next_kept : (os : List Override) (names : Names) (n : Ident) (t : Thing) (p : Path) → NotDeclared (names p) → NotDeclared (next os names n t p)
next_kept os names n (Parameter local s r v) p h =
    if_not (has_no_steps p && bytes_eq p.name n.name) _ (names p) (overridden_not names n s r v (override_of local os n.name)) h
next_kept os names n (Direction o w s r) p h = h
next_kept os names n (Wire s r) p h = h
next_kept os names n (Reg s r b) p h = h
next_kept os names n (Index g) p h = h
next_kept os names n Instance p h = h
next_kept os names n Label p h = h

next_made : (os : List Override) (names : Names) (n : Ident) (t : Thing) (p : Path) → is_parameter (thing n t) ≡ true → has_no_steps p ≡ true →
    bytes_eq p.name n.name ≡ true → NotDeclared (next os names n t p)
next_made os names n (Parameter local s r v) p h k e =
    if_made (has_no_steps p) (bytes_eq p.name n.name) _ (names p) k e (overridden_not names n s r v (override_of local os n.name))
next_made os names n (Direction o w s r) p h k e = absurd (cc)
next_made os names n (Wire s r) p h k e = absurd (cc)
next_made os names n (Reg s r b) p h k e = absurd (cc)
next_made os names n (Index g) p h k e = absurd (cc)
next_made os names n Instance p h k e = absurd (cc)
next_made os names n Label p h k e = absurd (cc)

kept_not : (os : List Override) (names : Names) (ds : List Declaration) (p : Path) → NotDeclared (names p) → NotDeclared (with_parameters os names ds p)
kept_not os names [] p h = h
kept_not os names (d ∷ ds) p h = kept_not os (next os names d.name d.thing) ds p (next_kept os names d.name d.thing p h)

pub parameter_not : (os : List Override) (names : Names) (ds : List Declaration) (p : Path) → has_no_steps p ≡ true →
    list_any is_parameter (declared_as p.name ds) ≡ true → NotDeclared (with_parameters os names ds p)
parameter_not os names [] p k h = absurd (cc)
parameter_not os names (d ∷ ds) p k h = elim (decide (bytes_eq d.name.name p.name)) [
  | inl e ↦ elim (or-split (is_parameter d) (list_any is_parameter (declared_as p.name ds))
      (sym (ap (λ b. list_any is_parameter (cond b (d ∷ declared_as p.name ds) (declared_as p.name ds))) e) ∙ h)) [
        | inl t ↦ kept_not os (next os names d.name d.thing) ds p (next_made os names d.name d.thing p t k (turned p.name d.name.name ∙ e))
        | inr t ↦ parameter_not os (next os names d.name d.thing) ds p k t
      ]
  | inr e ↦ parameter_not os (next os names d.name d.thing) ds p k
      (sym (ap (λ b. list_any is_parameter (cond b (d ∷ declared_as p.name ds) (declared_as p.name ds))) e) ∙ h)
]

-- ---- the sort of a signal

unequal : (a b : ℕ) → (a ≡ b → ⊥) → (a == b) ≡ false
unequal a b h = elim (decide (a == b)) [ inl e ↦ absurd (h (eqb-true a b e)) | inr e ↦ e ]

one_bit : (b : ℕ × ℕ) → (size (pair_of b) == 1) ≡ (b.0 == b.1)
one_bit b = elim (three_ways b.0 b.1) [
  | inl e ↦ eq-eqb (size (pair_of b)) 1 (let s : size (pair_of b) ≡ max b.0 b.1 - min b.0 b.1 + 1 = refl in omega arith) ∙ sym (eq-eqb b.0 b.1 e)
  | inr (inl l) ↦
      unequal (size (pair_of b)) 1 (λ e. let s : max b.0 b.1 - min b.0 b.1 + 1 ≡ 1 = e in omega arith) ∙ sym (unequal b.0 b.1 (λ e. omega arith))
  | inr (inr l) ↦
      unequal (size (pair_of b)) 1 (λ e. let s : max b.0 b.1 - min b.0 b.1 + 1 ≡ 1 = e in omega arith) ∙ sym (unequal b.0 b.1 (λ e. omega arith))
]

any_group : (p : Declaration → Bool) (field : Group → Bool) (zs : List Numbered) (g : Group) → group_of zs ≡ Some g →
    ((x : Numbered) (xs : List Numbered) (a : Group) → group_of (x ∷ xs) ≡ Some a → field a ≡ any_of p (x ∷ xs)) → field g ≡ any_of p zs
any_group p field [] g h f = absurd (cc)
any_group p field (x ∷ zs) g h f = f x zs g h

input_of : (x : Numbered) (xs : List Numbered) (a : Group) → group_of (x ∷ xs) ≡ Some a → a.input ≡ any_of is_input (x ∷ xs)
input_of x xs a h = sym (let f : Option Group → Bool = λ o. elim o [ None ↦ any_of is_input (x ∷ xs) | Some z ↦ z.input ] in ap f h)

variable_of : (x : Numbered) (xs : List Numbered) (a : Group) → group_of (x ∷ xs) ≡ Some a → a.variable ≡ any_of is_reg (x ∷ xs)
variable_of x xs a h = sym (let f : Option Group → Bool = λ o. elim o [ None ↦ any_of is_reg (x ∷ xs) | Some z ↦ z.variable ] in ap f h)

abbrev pub by_tests : Bool → Bool → Bool → Sort
by_tests clock variable input = if clock then Clock else if variable then Variable else if input then Input else Net

same_tests : (a a' b b' c c' : Bool) → a ≡ a' → b ≡ b' → c ≡ c' → by_tests a b c ≡ by_tests a' b' c'
same_tests a a' b b' c c' p q r = ap (λ z. by_tests z b c) p ∙ ap (λ z. by_tests a' z c) q ∙ ap (λ z. by_tests a' b' z) r

module _ (f : Frame) (o : Outside) (ys : List Symbol) (h : IsBound o f.scope.declarations ys f) (name : Name) (g : Group)
    (own : group_for f.scope.declarations name ≡ Some g) where
  abbrev ds : List Declaration
  ds = f.scope.declarations

  abbrev c : Names
  c = constants_in f

  abbrev first : HasFirst ds name g.first
  first = has_first ds name g own

  abbrev d : Declaration
  d = first.declaration

  abbrev clock : Bool
  clock = is_among h.scope.clocks name

  input_is : g.input ≡ list_any is_input (declared_as name ds)
  input_is =
      any_group is_input (λ a. a.input) (named ds name) g own input_of ∙ sym (any_plain is_input (named ds name)) ∙ ap (list_any is_input) (plain ds name)

  variable_is : g.variable ≡ list_any is_reg (declared_as name ds)
  variable_is =
      any_group is_reg (λ a. a.variable) (named ds name) g own variable_of ∙ sym (any_plain is_reg (named ds name)) ∙ ap (list_any is_reg) (plain ds name)

  parameter_is : is_parameter (thing d.name d.thing) ≡ true → NotDeclared (c (alone name))
  parameter_is t =
      parameter_not f.overrides f.base ds (alone name) refl
      (ap (list_any is_parameter) first.all ∙ ap (λ b. b || list_any is_parameter first.rest) t)

  one_bit_is : (ranged signed : Bool) (b : ℕ × ℕ) (a : Option (ℕ × ℕ)) → symbol_of c d ≡ y.Signal ranged signed b a →
      (width_of (known (scope_names c [] true [] ds (alone name))) == 1) ≡ (b.0 == b.1)
  one_bit_is ranged signed b a e =
      let s : stands_for c [] true (is_among [] name) (alone name) (d ∷ first.rest) ≡
      Some (with_array (below [] (spelled d.name.name)) (sort_of true (is_among [] name) (d ∷ first.rest)) ranged signed (pair_of b) (bounds_of a)) =
      subst (λ z. Stood (made (below [] (spelled d.name.name)) (sort_of true (is_among [] name) (d ∷ first.rest)) z)
      (stands_for c [] true (is_among [] name) (alone name) (d ∷ first.rest))) e
      (stood c [] true (is_among [] name) (alone name) d.name d.thing first.rest parameter_is) in
      ap (λ (zs : List Declaration). width_of (known (stands_for c [] true (is_among [] name) (alone name) zs)) == 1) first.all ∙
      ap (λ z. width_of (known z) == 1) s ∙ one_bit b

  clock_is : (ranged signed : Bool) (b : ℕ × ℕ) (a : Option (ℕ × ℕ)) → symbol_of c d ≡ y.Signal ranged signed b a → clock ≡ is_clock_by o.connected name g b
  clock_is ranged signed b a e =
      h.clocks name ∙
      two (λ (u v : Bool). u && v && is_among o.connected name) _ _ _ _ (sym input_is) (one_bit_is ranged signed b a e)

  made_same : (z : Symbol) → symbol_of c d ≡ z → made (below f.scope.path (spelled d.name.name)) (sort_of h.scope.top clock (d ∷ first.rest)) z ≡
      made_by o.path o.top o.connected name g z
  made_same (y.Signal ranged signed b a) e =
      two (λ (u : Name) (v : Name). made (below u (spelled v)) (sort_of h.scope.top clock (d ∷ first.rest)) (y.Signal ranged signed b a)) _ _ _ _ h.path
      (same_name d.name.name name first.name_is) ∙
      ap (λ (s : Sort). made (below o.path (spelled name)) s (y.Signal ranged signed b a))
      (same_tests clock (is_clock_by o.connected name g b) (list_any is_reg (d ∷ first.rest)) g.variable
      (h.scope.top && list_any is_input (d ∷ first.rest)) (o.top && g.input) (clock_is ranged signed b a e)
      (sym (variable_is ∙ ap (list_any is_reg) first.all))
      (two (λ (u v : Bool). u && v) _ _ _ _ h.top (sym (input_is ∙ ap (list_any is_input) first.all))))
  made_same y.Constant e = refl
  made_same (y.Index i) e = refl
  made_same y.Other e = refl

  pub symbol_is : slice_get ys g.first ≡ Some (symbol_of c d)
  symbol_is = ap (λ zs. slice_get zs g.first) h.symbols ∙ slice_get-map (symbol_of c) ds g.first ∙ ap (option_map (symbol_of c)) first.is

  pub names_is : f.scope.names (alone name) ≡ stands_for c f.scope.path h.scope.top clock (alone name) (d ∷ first.rest)
  names_is = ap (λ (n : Names). n (alone name)) h.scope.names ∙ ap (stands_for c f.scope.path h.scope.top clock (alone name)) first.all

  -- what a declared name stands for is the signal of its group, or none
  pub bound_name : Stood (signal_with o name g (slice_get ys g.first)) (f.scope.names (alone name))
  bound_name =
      subst (λ z. Stood (signal_with o name g z) (f.scope.names (alone name))) (sym symbol_is)
      (subst (λ z. Stood (made_by o.path o.top o.connected name g (symbol_of c d)) z) (sym names_is)
      (subst (λ z. Stood z (stands_for c f.scope.path h.scope.top clock (alone name) (d ∷ first.rest))) (made_same (symbol_of c d) refl)
      (stood c f.scope.path h.scope.top clock (alone name) d.name d.thing first.rest parameter_is)))
