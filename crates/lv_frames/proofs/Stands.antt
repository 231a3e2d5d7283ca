-- What names stand for in a scope, where its declarations make constants of them or not.
use Rattle.std.proofs.Common.{◌≡◌, ℕ, Bool, true, false, ◌&&◌, if◌then◌else◌, List, [], ◌∷◌, ◌++◌, length, take, refl, sym, ap, ◌∙◌, Option, Some, None}
use Rattle.std.specs.Prelude.{bytes_eq, cond, filter}
use Rattle.std.specs.List.{list_any}
use Rattle.std.proofs.Math.Seq.{take-length}
use Rattle.lv_ast.specs.declared.expr.Path.{Path}
use Rattle.lv_ast.specs.declared.stmt.Ident.{Ident}
use Rattle.lv_ast.specs.declared.item.Item.{Item}
use Rattle.lv_ast.specs.declared.item.Module.{Module}
use Rattle.lv_ast.specs.declared.item.Range.{Range}
use Rattle.lv_ast.specs.Names.{Name, has_no_steps}
use Rattle.lv_source.specs.Names.{Names, Here, Declared, with_name, Input, Net, Variable, Clock, Constant, is_constant_sort}
use Rattle.lv_source.specs.Declarations.{Thing, Direction, Wire, Reg, Parameter, Index, Instance, Label, Declaration, of_items, of_module, declared_as}
use Rattle.lv_source.specs.Scopes.{Scope, Override, overridden, override_of, is_parameter, is_reg, is_input, is_among, is_one_bit_input, no_names, with_parameters, signal, sort_of, stands_for, scope_names}
use Rattle.lv_source.specs.Effect.{with_index}
use Rattle.lv_source.specs.Constants.{early_or_none, index_entry}
use Rattle.lv_source.proofs.Tests.{or-none_left, name-itself}
use Rattle.lv_scopes.proofs.Indexed.{turned}
use Rattle.lv_const.specs.declared.consts.Entry.{Entry}
use Rattle.lv_const.specs.Constants.{names_of}
use Rattle.lv_symbols.specs.Frames.{Frame, IsScope, AreOnce, module_frame, turn_frame, constants_in}
use Rattle.lv_entries.specs.Entries.{declared_entries}
use Rattle.lv_frames.proofs.Said.{said_by, names_said, said_join}

-- ---- what is declared before

pub never : (o : Option Declared) → early_or_none false o ≡ None
never None = refl
never (Some d) = elim (is_constant_sort d.sort) as (λ c. (if c && false then Some d else None) ≡ None) [ true ↦ refl | false ↦ refl ]

-- ---- a name that no declaration has

left_out : (q b : Bool) (o x : Option Declared) → b ≡ false → (if q && b then o else x) ≡ x
left_out true true o x h = cc
left_out true false o x h = refl
left_out false b o x h = refl

abbrev next : List Override → Names → Ident → Thing → Names
next os names n t = elim t as (λ _. Names) [
  | Parameter local signed range value ↦ with_name names n.name (Some (overridden names n signed range value (override_of local os n.name)))
  | Direction o w s r ↦ names
  | Wire s r ↦ names
  | Reg s r b ↦ names
  | Index g ↦ names
  | Instance ↦ names
  | Label ↦ names
]

stepped_out : (q b : Bool) (o x : Option Declared) → q ≡ false → (if q && b then o else x) ≡ x
stepped_out true b o x h = cc
stepped_out false b o x h = refl

next_apart : (os : List Override) (names : Names) (n : Ident) (t : Thing) (p : Path) → bytes_eq n.name p.name ≡ false → next os names n t p ≡ names p
next_apart os names n (Parameter local signed range value) p h = left_out (has_no_steps p) (bytes_eq p.name n.name) _ (names p) (turned p.name n.name ∙ h)
next_apart os names n (Direction o w s r) p h = refl
next_apart os names n (Wire s r) p h = refl
next_apart os names n (Reg s r b) p h = refl
next_apart os names n (Index g) p h = refl
next_apart os names n Instance p h = refl
next_apart os names n Label p h = refl

none_first : (b : Bool) (d : Declaration) (xs : List Declaration) → cond b (d ∷ xs) xs ≡ [] → (b ≡ false) × (xs ≡ [])
none_first true d xs h = cc
none_first false d xs h = (refl, h)

pub apart : (os : List Override) (names : Names) (ds : List Declaration) (p : Path) → declared_as p.name ds ≡ [] → with_parameters os names ds p ≡ names p
apart os names [] p h = refl
apart os names (d ∷ ds) p h =
    let r : (bytes_eq d.name.name p.name ≡ false) × (declared_as p.name ds ≡ []) = none_first (bytes_eq d.name.name p.name) d (declared_as p.name ds) h in
    apart os (next os names d.name d.thing) ds p r.1 ∙ next_apart os names d.name d.thing p r.0

module _ (names : Names) (path : Name) (top : Bool) (clocks : List Name) (ds : List Declaration) (p : Path) where
  abbrev pub stand : List Declaration → Option Declared
  stand xs = stands_for names path top (is_among clocks p.name) p xs

  pub scope_at : (b : Bool) → has_no_steps p ≡ b → scope_names names path top clocks ds p ≡ (if b then stand (declared_as p.name ds) else None)
  scope_at b h = ap (λ (c : Bool). if c then stand (declared_as p.name ds) else None) h

-- no name with steps is one of a scope
pub names_stepped : (f : Frame) → IsScope f → (p : Path) → has_no_steps p ≡ false → f.scope.names p ≡ None
names_stepped f h p e =
    ap (λ (g : Names). g p) h.names ∙ scope_at (constants_in f) f.scope.path h.top h.clocks f.scope.declarations p false e

pub index_stepped : (f : Frame) → IsScope f → (index : Name) (value : ℕ) (p : Path) → has_no_steps p ≡ false → with_index f.scope.names index value p ≡ None
index_stepped f h index value p e = stepped_out (has_no_steps p) (bytes_eq p.name index) _ (f.scope.names p) e ∙ names_stepped f h p e

-- ---- scopes

abbrev pub module_is : (path : Name) (top : Bool) (around : List Name) (os : List Override) (clocks : Names → List Name) (m : Module) (outside : Here) →
    AreOnce (of_module m) → IsScope (module_frame path top around os clocks m outside)
module_is path top around os clocks m outside once =
    let constants : Names = with_parameters os no_names (of_module m) in
    record {
      top = top;
      clocks = filter (is_one_bit_input constants (of_module m)) (clocks constants);
      names = refl;
      around = λ p h. refl;
      once = once;
    }

abbrev pub turn_is : (f : Frame) (k : ℕ) (index label : Ident) (items : List Item) (value : ℕ) → IsScope f → AreOnce (of_items items) →
    IsScope (turn_frame f k index label items value)
turn_is f k index label items value h once = record {
  top = false;
  clocks = [];
  names = refl;
  around = λ p e. index_stepped f h index.name value p e;
  once = once;
}

-- ---- the index

abbrev index_constant : Name → ℕ → Option Declared
index_constant index value =
    Some (record { path = index; bounds = record { left = 31; right = 0 }; ranged = true; signed = true; array = None; sort = Constant value })

index_is : (index : Name) (value : ℕ) → (index_entry index value).value ≡ index_constant index value
index_is index value = ap (λ (b : Bool). if b then index_constant index value else None) (name-itself index)

index_if : (a b c : Bool) (it x o : Option Declared) (early : Bool) → a ≡ true → c ≡ b → it ≡ early_or_none true x →
    (if b then it else early_or_none early o) ≡ early_or_none (if a && c then true else early) (if a && c then x else o)
index_if true true true it x o early h e k = k
index_if true true false it x o early h e k = cc
index_if true false true it x o early h e k = cc
index_if true false false it x o early h e k = refl
index_if false b c it x o early h e k = cc

-- behind others, where these give what is declared before of a name
pub index_said : (names : Names) (early : Path → Bool) (index : Name) (value : ℕ) (es : List Entry) (p : Path) → has_no_steps p ≡ true →
    names_of es p ≡ early_or_none (early p) (names p) →
    said_by p.name None (declared_entries es ++ index_entry index value ∷ []) ≡
    early_or_none (if has_no_steps p && bytes_eq p.name index then true else early p) (with_index names index value p)
index_said names early index value es p h e =
    said_join p.name None (declared_entries es) (index_entry index value ∷ []) ∙
    (ap (λ (v : Option Declared). if bytes_eq index p.name then (index_entry index value).value else v) (sym (names_said es p h) ∙ e) ∙
    index_if (has_no_steps p) (bytes_eq index p.name) (bytes_eq p.name index) (index_entry index value).value (index_constant index value) (names p) (early p) h
    (turned p.name index) (index_is index value))

-- ---- names that a scope declares

by_tests : (a b c : Bool) → is_constant_sort (if a then Clock else if b then Variable else if c then Input else Net) ≡ false
by_tests true b c = refl
by_tests false true c = refl
by_tests false false true = refl
by_tests false false false = refl

sort_not : (d : Declared) → is_constant_sort d.sort ≡ false → early_or_none true (Some d) ≡ None
sort_not d h = ap (λ (c : Bool). if c && true then Some d else None) h

module _ (names : Names) (path : Name) (top clock : Bool) (p : Path) where
  signal_not : (n : Ident) (ds : List Declaration) (signed : Bool) (range array : Option Range) →
      early_or_none true (Some (signal names path n.name (sort_of top clock ds) signed range array)) ≡ None
  signal_not n ds signed range array =
      sort_not (signal names path n.name (sort_of top clock ds) signed range array) (by_tests clock (list_any is_reg ds) (top && list_any is_input ds))

  thing_not : (n : Ident) (t : Thing) (ds : List Declaration) → is_parameter (record { name = n; thing = t }) ≡ false →
      early_or_none true (stands_for names path top clock p (record { name = n; thing = t } ∷ ds)) ≡ None
  thing_not n (Parameter l s r v) ds h = cc
  thing_not n (Direction o w s r) ds h = signal_not n (record { name = n; thing = Direction o w s r } ∷ ds) s r None
  thing_not n (Wire s r) ds h = signal_not n (record { name = n; thing = Wire s r } ∷ ds) s r None
  thing_not n (Reg s r a) ds h = signal_not n (record { name = n; thing = Reg s r a } ∷ ds) s r a
  thing_not n (Index g) ds h = refl
  thing_not n Instance ds h = refl
  thing_not n Label ds h = refl

  -- no name of one of them without a parameter is a constant
  pub plain_not : (d : Declaration) (ds : List Declaration) → list_any is_parameter (d ∷ ds) ≡ false →
      early_or_none true (stands_for names path top clock p (d ∷ ds)) ≡ None
  plain_not d ds h = thing_not d.name d.thing ds (or-none_left (is_parameter d) (list_any is_parameter ds) h)

-- ---- behind the last declaration

pub taken : (s : Scope) (n : Name) → declared_as n (take (length s.declarations) s.declarations) ≡ declared_as n s.declarations
taken s n = ap (declared_as n) (take-length s.declarations)
