-- What is answered of the values that an instance gives parameters.
use Rattle.std.specs.Prelude.{◌≡◌, ℕ, ◌≤◌, true, List, Option, Some, None, Contains, ⊤}
use Rattle.lv_ast.specs.declared.expr.Expr.{Expr}
use Rattle.lv_ast.specs.declared.item.Conn.{Conn}
use Rattle.lv_ast.specs.declared.item.Module.{Module}
use Rattle.lv_source.specs.Names.{Here}
use Rattle.lv_source.specs.Meaning.{own_width}
use Rattle.lv_source.specs.Scopes.{Scope, Link}
use Rattle.lv_source.specs.ScopeRules.{setting_sites}
use Rattle.lv_source.specs.Sites.{expr_sites, spots}
use Rattle.lv_const.specs.declared.error.ConstError.{ConstError}
use Rattle.lv_const.specs.declared.error.ConstError.TheVariants as y
use Rattle.lv_const.specs.Answers as const
use Rattle.lv_resolve.specs.Resolved.{IsToldOf}
use Rattle.lv_resolve.specs.declared.error.ResolveError.{ResolveError}
use Rattle.lv_resolve.specs.declared.error.ResolveError.TheVariants as x
use Rattle.lv_faults.specs.declared.fault.ScopeError.{ScopeError}
use Rattle.lv_faults.specs.Faults.{of_node}
use Rattle.lv_late.specs.Lates.{is_fault}

-- a fault of a node of the settings, and no want of memory
pub record IsSettingFault (here : Here) (s : Scope) (settings : List Conn) (m : Module) (y : ScopeError) : Type 0 where
  pub node : ResolveError
  pub fault : is_fault node ≡ true
  pub is : y ≡ of_node node
  pub told : IsToldOf (spots here (setting_sites s s.names settings (Some m))) node

-- ---- for the proof: of a value at whatever width it is taken

-- it has a width of its own, and each name in it is a constant that is declared before
pub record IsFormedValue (here : Here) (v : Expr) : Type 0 where
  pub some : 1 ≤ own_width here.names v
  pub named : (width p : ℕ) → const.Told here.early (expr_sites true here.names width v) (y.NoValue p) → ⊥

pub record IsFaultyValue (here : Here) (v : Expr) (q : ResolveError) : Type 0 where
  pub fault : is_fault q ≡ true
  pub told : (width : ℕ) → IsToldOf (spots here (expr_sites true here.names width v)) q

abbrev pub IsFormedMaybe : Here → Option Expr → Type 0
IsFormedMaybe here None = ⊤
IsFormedMaybe here (Some v) = IsFormedValue here v

abbrev pub IsFaultyMaybe : Here → Option Expr → ResolveError → Type 0
IsFaultyMaybe here None q = ⊥
IsFaultyMaybe here (Some v) q = IsFaultyValue here v q

pub record AreFormed (here : Here) (ks : List Link) : Type 0 where
  pub each : (k : Link) → Contains ks k → IsFormedMaybe here k.conn.value

pub record HasFaulty (here : Here) (ks : List Link) (q : ResolveError) : Type 0 where
  pub link : Link
  pub among : Contains ks link
  pub faulty : IsFaultyMaybe here link.conn.value q

abbrev pub kind_of : ConstError → ResolveError
kind_of (y.NoValue p) = x.UnknownName p
kind_of (y.ZeroDivisor p) = x.ZeroDivisor p
kind_of (y.Range p) = x.Range p
