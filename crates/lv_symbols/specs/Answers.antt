-- For the proof: what the private functions answer of one declaration.
use Rattle.std.specs.Prelude.{◌≡◌, ℕ, Bool, true, false, not, ◌&&◌, List, [], ◌∷◌, ◌++◌, map, length, Option, None, Some, Contains, Result, IfOk, IfErr, flat_map, if◌then◌else◌, ⊤}
use Rattle.std.specs.Option.{option_map}
use Rattle.lv_ast.specs.declared.expr.Expr.{Expr}
use Rattle.lv_ast.specs.declared.item.Range.{Range}
use Rattle.lv_ast.specs.declared.stmt.Ident.{Ident}
use Rattle.lv_ast.specs.Names.{Name}
use Rattle.lv_source.specs.Names.{Names, Here, with_name}
use Rattle.lv_source.specs.Declarations.{Direction, Wire, Reg, Parameter, Index, Instance, Label, Declaration}
use Rattle.lv_source.specs.Scopes.{Override, overridden, range_bounds, array_bounds}
use Rattle.lv_source.specs.ScopeRules.{place_if, is_range, range_sites}
use Rattle.lv_source.specs.Sites.{Site}
use Rattle.lv_const.specs.declared.consts.Entry.{Entry}
use Rattle.lv_const.specs.declared.error.ConstError.{ConstError}
use Rattle.lv_const.specs.declared.error.ConstError.TheVariants as x
use Rattle.lv_const.specs.Constants.{names_of}
use Rattle.lv_const.specs.Faults.{all_faults}
use Rattle.lv_const.specs.Wherever.{Wherever}
use Rattle.lv_scopes.specs.Numbers.{AreClean}
use Rattle.lv_scopes.specs.Parameters.{IsSound, value_sites, parameter_faults}
use Rattle.lv_symbols.specs.declared.symbol.Symbol.{Symbol}
use Rattle.lv_symbols.specs.declared.symbol.SymbolError.{SymbolError}
use Rattle.lv_symbols.specs.declared.symbol.SymbolError.TheVariants as e
use Rattle.lv_symbols.specs.declared.givens.Givens.{Givens}
use Rattle.lv_symbols.specs.Giving.{value_for}
use Rattle.lv_symbols.specs.Making.{ends, signal_symbol, symbol_of, IsSoundHere, IsGivenClean, IsToldOf, range_in, parameters_in}

-- ---- ranges

abbrev pub ranges_faults : Here → Bool → List Site → ℕ → List ConstError
ranges_faults here allowed sites place = map x.Range (place_if (not allowed) place) ++ flat_map (all_faults here.early) sites

pub record AreBounds (here : Here) (range : Option Range) (b : ℕ × ℕ) : Type 0 where
  pub are : b ≡ ends (range_bounds here.names range)
  pub allowed : is_range here.names true range ≡ true
  pub clean : AreClean here.early (range_sites here.names range)

pub record AreBoundsTold (here : Here) (vector : Bool) (range : Option Range) (place : ℕ) (y : ConstError) : Type 0 where
  pub told : Contains (ranges_faults here (is_range here.names vector range) (range_sites here.names range) place) y

pub record AreBoundsAnswer (here : Here) (range : Option Range) (place : ℕ) (r : Result (ℕ × ℕ) ConstError) : Type 0 where
  pub right : IfOk r (AreBounds here range)
  pub wrong : IfErr r (AreBoundsTold here true range place)

pub record AreElements (here : Here) (range : Option Range) (b : Option (ℕ × ℕ)) : Type 0 where
  pub are : b ≡ option_map ends (array_bounds here.names range)
  pub allowed : is_range here.names false range ≡ true
  pub clean : AreClean here.early (range_sites here.names range)

pub record AreElementsAnswer (here : Here) (range : Option Range) (place : ℕ) (r : Result (Option (ℕ × ℕ)) ConstError) : Type 0 where
  pub right : IfOk r (AreElements here range)
  pub wrong : IfErr r (AreBoundsTold here false range place)

-- ---- signals

abbrev pub both_allowed : Names → Option Range → Option Range → Bool
both_allowed names range array = is_range names true range && is_range names false array

abbrev pub both_sites : Names → Option Range → Option Range → List Site
both_sites names range array = range_sites names range ++ range_sites names array

pub record IsSignal (here : Here) (signed : Bool) (range array : Option Range) (s : Symbol) : Type 0 where
  pub is : s ≡ signal_symbol here.names signed range array
  pub allowed : both_allowed here.names range array ≡ true
  pub clean : AreClean here.early (both_sites here.names range array)

abbrev pub IsSignalTold : Here → Option Range → Option Range → ℕ → SymbolError → Type 0
IsSignalTold here range array place (e.Own y) = Contains (ranges_faults here (both_allowed here.names range array) (both_sites here.names range array) place) y
IsSignalTold here range array place (e.Given y) = ⊥
IsSignalTold here range array place e.NoMemory = ⊤

pub record IsSignalAnswer (here : Here) (signed : Bool) (range array : Option Range) (place : ℕ) (r : Result Symbol SymbolError) : Type 0 where
  pub right : IfOk r (IsSignal here signed range array)
  pub wrong : IfErr r (IsSignalTold here range array place)

-- ---- parameters

-- a value that is read outside
abbrev pub as_override : Name → Names → Option Expr → Option Override
as_override name there None = None
as_override name there (Some value) = Some (record { name = name; there = there; value = value })

-- the names where one has become a parameter, with the value that is given, if there is one
abbrev pub with_parameter : Names → Names → Names → Ident → Bool → Option Range → Expr → Option Expr → Names
with_parameter before here there name signed range value given =
    with_name before name.name (Some (overridden here name signed range value (as_override name.name there given)))

pub record IsSet (old there new : List Entry) (name : Ident) (signed : Bool) (range : Option Range) (value : Expr) (given : Option Expr) : Type 0 where
  pub named : Wherever (names_of old) (λ here. Wherever (names_of there) (λ outside.
      names_of new ≡ with_parameter (names_of old) here.names outside.names name signed range value given))
  pub sound : Wherever (names_of old) (λ here. IsSound here here range value)
  pub given_sound : Wherever (names_of old) (λ here. Wherever (names_of there) (λ outside. IsGivenClean here outside range given))
  pub added : (e : Entry) × (new ≡ old ++ e ∷ [])

abbrev pub value_faults : Here → Here → Option Range → Option Expr → List ConstError
value_faults here outside range None = []
value_faults here outside range (Some value) = flat_map (all_faults outside.early) (value_sites here outside range value)

abbrev pub IsSetTold : Here → Here → Option Range → Expr → Option Expr → ℕ → SymbolError → Type 0
IsSetTold here outside range value given place (e.Own y) = Contains (parameter_faults here here range value place) y
IsSetTold here outside range value given place (e.Given y) = Contains (value_faults here outside range given) y × IsSound here here range value
IsSetTold here outside range value given place e.NoMemory = ⊤

pub record IsNotSet (old there : List Entry) (range : Option Range) (value : Expr) (given : Option Expr) (place : ℕ) (y : SymbolError) : Type 0 where
  pub told : Wherever (names_of old) (λ here. Wherever (names_of there) (λ outside. IsSetTold here outside range value given place y))

-- ---- declarations

-- the value that is given to it
abbrev pub given_in : Givens → Declaration → Option Expr
given_in g d = elim d.thing [
  | Parameter local signed range value ↦ if local then None else value_for g d.name.name
  | Direction output word signed range ↦ None
  | Wire signed range ↦ None
  | Reg signed range array ↦ None
  | Index genvar ↦ None
  | Instance ↦ None
  | Label ↦ None
]

-- the names behind it
abbrev pub names_behind : Names → Names → Names → Option Expr → Declaration → Names
names_behind before here there given d = elim d.thing [
  | Parameter local signed range value ↦ with_parameter before here there d.name signed range value given
  | Direction output word signed range ↦ before
  | Wire signed range ↦ before
  | Reg signed range array ↦ before
  | Index genvar ↦ before
  | Instance ↦ before
  | Label ↦ before
]

pub record IsMade (old there new : List Entry) (given : Option Expr) (d : Declaration) (s : Symbol) : Type 0 where
  pub symbol : Wherever (names_of old) (λ here. s ≡ symbol_of here.names d)
  pub sound : Wherever (names_of old) (λ here. IsSoundHere here d)
  pub given_sound : Wherever (names_of old) (λ here. Wherever (names_of there) (λ outside. IsGivenClean here outside (range_in d) given))
  pub named : Wherever (names_of old) (λ here. Wherever (names_of there) (λ outside. names_of new ≡ names_behind (names_of old) here.names outside.names given d))
  pub added : (es : List Entry) × (new ≡ old ++ es) × (length es ≡ parameters_in (d ∷ []))

pub record IsNotMade (old there : List Entry) (given : Option Expr) (d : Declaration) (y : SymbolError) : Type 0 where
  pub told : Wherever (names_of old) (λ here. Wherever (names_of there) (λ outside. IsToldOf here outside given d y))
