-- What a name stands for in one scope.
use Rattle.std.proofs.Common.{◌≡◌, inl, inr, Bool, true, false, ◌&&◌, ◌||◌, List, [], ◌∷◌, length, refl, sym, ap, ◌∙◌, subst, Option, Some, None}
use Rattle.std.specs.Prelude.{bytes_eq, cond, if◌then◌else◌}
use Rattle.std.specs.List.{list_any}
use Rattle.lv_ast.specs.declared.expr.Path.{Path}
use Rattle.lv_ast.specs.declared.expr.Expr.{Expr}
use Rattle.lv_ast.specs.declared.stmt.Ident.{Ident}
use Rattle.lv_ast.specs.declared.item.Range.{Range}
use Rattle.lv_ast.specs.Names.{Name, has_no_steps, alone}
use Rattle.lv_source.specs.Names.{Names, Declared, known, is_constant_sort, with_name}
use Rattle.lv_source.specs.Declarations.{Thing, Direction, Wire, Reg, Parameter, Index, Instance, Label, Declaration, declared_as}
use Rattle.lv_source.specs.Scopes.{Override, is_parameter, with_parameters, parameter, overridden, override_of, stands_for, is_among}
use Rattle.lv_source.proofs.Tests.{decide, or-split}
use Rattle.lv_scopes.proofs.Indexed.{turned}
use Rattle.lv_symbols.specs.Frames.{Frame, IsScope, constants_in}

-- a constant
abbrev pub IsConstant : Option Declared → Type 0
IsConstant o = is_constant_sort (known o).sort ≡ true

-- ---- choices

chosen : (q b : Bool) (o x : Option Declared) → q ≡ true → b ≡ true → (if q && b then o else x) ≡ o
chosen true true o x h k = refl
chosen true false o x h k = absurd (cc)
chosen false b o x h k = absurd (cc)

pub passed : (q b : Bool) (o x : Option Declared) → b ≡ false → (if q && b then o else x) ≡ x
passed true true o x h = absurd (cc)
passed true false o x h = refl
passed false b o x h = refl

pub passed_steps : (q b : Bool) (o x : Option Declared) → q ≡ false → (if q && b then o else x) ≡ x
passed_steps true b o x h = absurd (cc)
passed_steps false b o x h = refl

if_constant : (b : Bool) (o x : Option Declared) → IsConstant o → IsConstant x → IsConstant (if b then o else x)
if_constant true o x h k = h
if_constant false o x h k = k

-- ---- constants

abbrev next : List Override → Names → Ident → Thing → Names
next os names n t = elim t as (λ _. Names) [
  | Parameter local signed range value ↦ with_name names n.name (Some (overridden names n signed range value (override_of local os n.name)))
  | Direction o w s r ↦ names
  | Wire s r ↦ names
  | Reg s r b ↦ names
  | Index g ↦ names
  | Instance ↦ names
  | Label ↦ names
]

parameter_constant : (here : Names) (n : Ident) (signed : Bool) (range : Option Range) (there : Names) (value : Expr) →
    IsConstant (Some (parameter here n signed range there value))
parameter_constant here n signed None there value = refl
parameter_constant here n signed (Some r) there value = refl

overridden_constant : (here : Names) (n : Ident) (signed : Bool) (range : Option Range) (value : Expr) (o : Option Override) →
    IsConstant (Some (overridden here n signed range value o))
overridden_constant here n signed range value None = parameter_constant here n signed range here value
overridden_constant here n signed range value (Some o) = parameter_constant here n signed range o.there o.value

module _ (os : List Override) (names : Names) (n : Ident) (p : Path) where
  next_constant : (t : Thing) → IsConstant (names p) → IsConstant (next os names n t p)
  next_constant (Parameter local s r v) h =
      if_constant (has_no_steps p && bytes_eq p.name n.name) _ (names p) (overridden_constant names n s r v (override_of local os n.name)) h
  next_constant (Direction o w s r) h = h
  next_constant (Wire s r) h = h
  next_constant (Reg s r b) h = h
  next_constant (Index g) h = h
  next_constant Instance h = h
  next_constant Label h = h

  next_made : (t : Thing) → is_parameter (record { name = n; thing = t }) ≡ true → has_no_steps p ≡ true → bytes_eq p.name n.name ≡ true →
      IsConstant (next os names n t p)
  next_made (Parameter local s r v) h k e =
      subst IsConstant (sym (chosen (has_no_steps p) (bytes_eq p.name n.name) _ (names p) k e))
      (overridden_constant names n s r v (override_of local os n.name))
  next_made (Direction o w s r) h k e = absurd (cc)
  next_made (Wire s r) h k e = absurd (cc)
  next_made (Reg s r b) h k e = absurd (cc)
  next_made (Index g) h k e = absurd (cc)
  next_made Instance h k e = absurd (cc)
  next_made Label h k e = absurd (cc)

  next_apart : (t : Thing) → bytes_eq n.name p.name ≡ false → next os names n t p ≡ names p
  next_apart (Parameter local s r v) h = passed (has_no_steps p) (bytes_eq p.name n.name) _ (names p) (turned p.name n.name ∙ h)
  next_apart (Direction o w s r) h = refl
  next_apart (Wire s r) h = refl
  next_apart (Reg s r b) h = refl
  next_apart (Index g) h = refl
  next_apart Instance h = refl
  next_apart Label h = refl

  stepped_next : (t : Thing) → has_no_steps p ≡ false → next os names n t p ≡ names p
  stepped_next (Parameter local s r v) h = passed_steps (has_no_steps p) (bytes_eq p.name n.name) _ (names p) h
  stepped_next (Direction o w s r) h = refl
  stepped_next (Wire s r) h = refl
  stepped_next (Reg s r b) h = refl
  stepped_next (Index g) h = refl
  stepped_next Instance h = refl
  stepped_next Label h = refl

constant_kept : (os : List Override) (names : Names) (ds : List Declaration) (p : Path) → IsConstant (names p) → IsConstant (with_parameters os names ds p)
constant_kept os names [] p h = h
constant_kept os names (d ∷ ds) p h = constant_kept os (next os names d.name d.thing) ds p (next_constant os names d.name p d.thing h)

constant_made : (os : List Override) (names : Names) (ds : List Declaration) (p : Path) → has_no_steps p ≡ true →
    list_any is_parameter (declared_as p.name ds) ≡ true → IsConstant (with_parameters os names ds p)
constant_made os names [] p k h = absurd (cc)
constant_made os names (d ∷ ds) p k h = elim (decide (bytes_eq d.name.name p.name)) [
  | inl e ↦ elim (or-split (is_parameter d) (list_any is_parameter (declared_as p.name ds))
      (sym (ap (λ b. list_any is_parameter (cond b (d ∷ declared_as p.name ds) (declared_as p.name ds))) e) ∙ h)) [
        | inl t ↦ constant_kept os (next os names d.name d.thing) ds p (next_made os names d.name p d.thing t k (turned p.name d.name.name ∙ e))
        | inr t ↦ constant_made os (next os names d.name d.thing) ds p k t
      ]
  | inr e ↦ constant_made os (next os names d.name d.thing) ds p k
      (sym (ap (λ b. list_any is_parameter (cond b (d ∷ declared_as p.name ds) (declared_as p.name ds))) e) ∙ h)
]

none_first : (b : Bool) (d : Declaration) (xs : List Declaration) → cond b (d ∷ xs) xs ≡ [] → (b ≡ false) × (xs ≡ [])
none_first true d xs h = absurd (cc)
none_first false d xs h = (refl, h)

constant_apart : (os : List Override) (names : Names) (ds : List Declaration) (p : Path) → declared_as p.name ds ≡ [] → with_parameters os names ds p ≡ names p
constant_apart os names [] p h = refl
constant_apart os names (d ∷ ds) p h =
    let r : (bytes_eq d.name.name p.name ≡ false) × (declared_as p.name ds ≡ []) = none_first (bytes_eq d.name.name p.name) d (declared_as p.name ds) h in
    constant_apart os (next os names d.name d.thing) ds p r.1 ∙ next_apart os names d.name p d.thing r.0

-- ---- a name alone

-- a name stands for the same wherever it stands
abbrev pub SameAlone : Names → Path → Type 0
SameAlone names p = names p ≡ names (alone p.name)

if_same : (b : Bool) (o x y : Option Declared) → x ≡ y → (if b then o else x) ≡ (if b then o else y)
if_same true o x y h = refl
if_same false o x y h = h

pub with_alone : (names : Names) (name : Name) (o : Option Declared) (p : Path) → has_no_steps p ≡ true → SameAlone names p →
    SameAlone (with_name names name o) p
with_alone names name o p k h =
    ap (λ b. if b && bytes_eq p.name name then o else names p) k ∙ if_same (bytes_eq p.name name) o (names p) (names (alone p.name)) h

next_alone : (os : List Override) (names : Names) (n : Ident) (t : Thing) (p : Path) → has_no_steps p ≡ true → SameAlone names p →
    SameAlone (next os names n t) p
next_alone os names n (Parameter local s r v) p k h = with_alone names n.name _ p k h
next_alone os names n (Direction o w s r) p k h = h
next_alone os names n (Wire s r) p k h = h
next_alone os names n (Reg s r b) p k h = h
next_alone os names n (Index g) p k h = h
next_alone os names n Instance p k h = h
next_alone os names n Label p k h = h

parameters_alone : (os : List Override) (names : Names) (ds : List Declaration) (p : Path) → has_no_steps p ≡ true → SameAlone names p →
    SameAlone (with_parameters os names ds) p
parameters_alone os names [] p k h = h
parameters_alone os names (d ∷ ds) p k h = parameters_alone os (next os names d.name d.thing) ds p k (next_alone os names d.name d.thing p k h)

thing_alone : (names : Names) (path : Name) (top clock : Bool) (p : Path) (n : Ident) (t : Thing) (ds : List Declaration) → SameAlone names p →
    stands_for names path top clock p (record { name = n; thing = t } ∷ ds) ≡ stands_for names path top clock (alone p.name) (record { name = n; thing = t } ∷ ds)
thing_alone names path top clock p n (Parameter local s r v) ds h = h
thing_alone names path top clock p n (Direction o w s r) ds h = refl
thing_alone names path top clock p n (Wire s r) ds h = refl
thing_alone names path top clock p n (Reg s r b) ds h = refl
thing_alone names path top clock p n (Index g) ds h = refl
thing_alone names path top clock p n Instance ds h = refl
thing_alone names path top clock p n Label ds h = refl

stands_alone : (names : Names) (path : Name) (top clock : Bool) (p : Path) (ds : List Declaration) → SameAlone names p →
    stands_for names path top clock p ds ≡ stands_for names path top clock (alone p.name) ds
stands_alone names path top clock p [] h = h
stands_alone names path top clock p (d ∷ ds) h = thing_alone names path top clock p d.name d.thing ds h

-- ---- a scope

or_false : (b : Bool) → (b || false) ≡ true → b ≡ true
or_false true h = refl
or_false false h = h

-- one declaration alone, which is that of a parameter
thing_constant : (names : Names) (path : Name) (top clock : Bool) (p : Path) (n : Ident) (t : Thing) (ds : List Declaration) →
    is_parameter (record { name = n; thing = t }) ≡ true → stands_for names path top clock p (record { name = n; thing = t } ∷ ds) ≡ names p
thing_constant names path top clock p n (Parameter local s r v) ds h = refl
thing_constant names path top clock p n (Direction o w s r) ds h = absurd (cc)
thing_constant names path top clock p n (Wire s r) ds h = absurd (cc)
thing_constant names path top clock p n (Reg s r b) ds h = absurd (cc)
thing_constant names path top clock p n (Index g) ds h = absurd (cc)
thing_constant names path top clock p n Instance ds h = absurd (cc)
thing_constant names path top clock p n Label ds h = absurd (cc)

only_constant : (names : Names) (path : Name) (top clock : Bool) (p : Path) (ds : List Declaration) → list_any is_parameter ds ≡ true → length ds ≡ 1 →
    stands_for names path top clock p ds ≡ names p
only_constant names path top clock p [] h k = refl
only_constant names path top clock p (d ∷ []) h k = thing_constant names path top clock p d.name d.thing [] (or_false (is_parameter d) h)
only_constant names path top clock p (d ∷ e ∷ ds) h k = absurd (cc)

module _ (f : Frame) (h : IsScope f) where
  abbrev ds : List Declaration
  ds = f.scope.declarations

  abbrev stand : Path → Option Declared
  stand p = stands_for (constants_in f) f.scope.path h.top (is_among h.clocks p.name) p (declared_as p.name ds)

  stands : (p : Path) (b : Bool) → has_no_steps p ≡ b → f.scope.names p ≡ (if b then stand p else None)
  stands p b k = ap (λ (g : Names). g p) h.names ∙ ap (λ c. if c then stand p else None) k

  -- a path with steps stands for nothing
  pub steps_for_none : (p : Path) → has_no_steps p ≡ false → f.scope.names p ≡ None
  steps_for_none p k = stands p false k

  -- a name that isn't declared here stands for what it stands for around
  pub not_here : (name : Name) → declared_as name ds ≡ [] → f.scope.names (alone name) ≡ f.base (alone name)
  not_here name e =
      stands (alone name) true refl ∙ ap (stands_for (constants_in f) f.scope.path h.top (is_among h.clocks name) (alone name)) e ∙
      constant_apart f.overrides f.base ds (alone name) e

  -- that of a parameter for a constant
  pub parameter_here : (name : Name) → list_any is_parameter (declared_as name ds) ≡ true → IsConstant (f.scope.names (alone name))
  parameter_here name e =
      subst IsConstant (sym (stands (alone name) true refl ∙
      only_constant (constants_in f) f.scope.path h.top (is_among h.clocks name) (alone name) (declared_as name ds) e (h.once name e)))
      (constant_made f.overrides f.base ds (alone name) refl e)

  pub scope_alone : (p : Path) → has_no_steps p ≡ true → SameAlone f.base p → SameAlone f.scope.names p
  scope_alone p k e =
      stands p true k ∙
      stands_alone (constants_in f) f.scope.path h.top (is_among h.clocks p.name) p (declared_as p.name ds)
      (parameters_alone f.overrides f.base ds p k e) ∙ sym (stands (alone p.name) true refl)
