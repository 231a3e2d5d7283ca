-- The constant that a parameter becomes.
use Rattle.std.specs.Prelude.{◌≡◌, ℕ, Bool, true, not, List, ◌++◌, map, Option, None, Result, IfOk, IfErr, Contains, flat_map, ⊤}
use Rattle.lv_ast.specs.declared.expr.Expr.{Expr}
use Rattle.lv_ast.specs.declared.stmt.Ident.{Ident}
use Rattle.lv_ast.specs.declared.item.Range.{Range}
use Rattle.lv_source.specs.Names.{Here, size}
use Rattle.lv_source.specs.Values.{nowhere}
use Rattle.lv_source.specs.Meaning.{meaning}
use Rattle.lv_source.specs.Effect.{assigned}
use Rattle.lv_source.specs.Scopes.{constant, parameter}
use Rattle.lv_source.specs.ScopeRules.{place_if, is_range, range_sites, parameter_width}
use Rattle.lv_source.specs.Sites.{Site, expr_sites}
use Rattle.lv_const.specs.declared.constant.Const.{Const}
use Rattle.lv_const.specs.declared.error.ConstError.{ConstError}
use Rattle.lv_const.specs.declared.error.ConstError.TheVariants as x
use Rattle.lv_const.specs.Answers.{Told}
use Rattle.lv_const.specs.Faults.{all_faults}
use Rattle.lv_const.specs.Constants.{constant_of}
use Rattle.lv_scopes.specs.Numbers.{AreClean}
use Rattle.lv_scopes.specs.declared.setting.ParameterError.{ParameterError}
use Rattle.lv_scopes.specs.declared.setting.ParameterError.TheVariants as e

-- ---- what the private functions answer

pub record IsPlain (there : Here) (signed : Bool) (value : Expr) (c : Const) : Type 0 where
  pub is : (name : Ident) → constant_of name.name c ≡ parameter there.names name signed None there.names value
  pub clean : AreClean there.early (expr_sites true there.names 0 value)

pub record IsPlainAnswer (there : Here) (signed : Bool) (value : Expr) (r : Result Const ConstError) : Type 0 where
  pub right : IfOk r (IsPlain there signed value)
  pub wrong : IfErr r (Told there.early (expr_sites true there.names 0 value))

pub record IsSized (there : Here) (signed : Bool) (value : Expr) (left right : ℕ) (c : Const) : Type 0 where
  pub is : (name : Ident) →
      constant_of name.name c ≡
      constant name.name (record { left = left; right = right }) signed
      (assigned nowhere (size (record { left = left; right = right })) (meaning there.names value))
  pub clean : AreClean there.early (expr_sites true there.names (size (record { left = left; right = right })) value)

pub record IsSizedAnswer (there : Here) (signed : Bool) (value : Expr) (first last : ℕ) (r : Result Const ConstError) : Type 0 where
  pub right : IfOk r (IsSized there signed value first last)
  pub wrong : IfErr r (Told there.early (expr_sites true there.names (size (record { left = first; right = last })) value))

-- ---- the answer

-- the nodes of its value
abbrev pub value_sites : Here → Here → Option Range → Expr → List Site
value_sites here there range value = expr_sites true there.names (parameter_width here.names range) value

-- its range is allowed, and no node of its range or of its value has a fault
pub record IsSound (here there : Here) (range : Option Range) (value : Expr) : Type 0 where
  pub allowed : is_range here.names true range ≡ true
  pub range_clean : AreClean here.early (range_sites here.names range)
  pub value_clean : AreClean there.early (value_sites here there range value)

pub record IsParameter (here there : Here) (signed : Bool) (range : Option Range) (value : Expr) (c : Const) : Type 0 where
  pub is : (name : Ident) → constant_of name.name c ≡ parameter here.names name signed range there.names value
  pub sound : IsSound here there range value

-- what can be told of it: that its range is none that is allowed, or a fault of a node
abbrev pub parameter_faults : Here → Here → Option Range → Expr → ℕ → List ConstError
parameter_faults here there range value place =
    map x.Range (place_if (not (is_range here.names true range)) place) ++
    (flat_map (all_faults here.early) (range_sites here.names range) ++ flat_map (all_faults there.early) (value_sites here there range value))

pub record IsParameterFault (here there : Here) (range : Option Range) (value : Expr) (place : ℕ) (y : ConstError) : Type 0 where
  pub told : Contains (parameter_faults here there range value place) y

pub record IsParameterAnswer (here there : Here) (signed : Bool) (range : Option Range) (value : Expr) (place : ℕ) (r : Result Const ConstError) : Type 0 where
  pub right : IfOk r (IsParameter here there signed range value)
  pub wrong : IfErr r (IsParameterFault here there range value place)

abbrev pub IsUnset : Here → Here → Option Range → Expr → ℕ → ParameterError → Type 0
IsUnset here there range value place (e.Const y) = IsParameterFault here there range value place y
IsUnset here there range value place e.NoMemory = ⊤
