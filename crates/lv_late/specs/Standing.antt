-- Where the declarations of a scope stand, and what is told of them.
use Rattle.std.specs.Prelude.{◌≡◌, ℕ, not, true, Bool, false, Contains}
use Rattle.lv_ast.specs.declared.expr.Path.{Path}
use Rattle.lv_ast.specs.Names.{has_no_steps}
use Rattle.lv_source.specs.Declarations.{Declaration}
use Rattle.lv_source.specs.NodeRules.{is_unreadable}
use Rattle.lv_source.specs.Parts.{numbered_from}
use Rattle.lv_source.specs.Scopes.{Scope, here_at}
use Rattle.lv_const.specs.Wherever.{AreDeclared}
use Rattle.lv_symbols.specs.Frames.{Frame, IsScope}
use Rattle.lv_faults.specs.declared.fault.ScopeError.{ScopeError}
use Rattle.lv_faults.specs.declared.fault.ScopeError.TheVariants as e
use Rattle.lv_faults.specs.Faults.{IsDeclarationFault}
use Rattle.lv_late.specs.Lates.{Said}

-- a scope with these declarations; these constants are declared before the first of them, and of the names around it those can be read
pub record IsStanding (s : Said) (f : Frame) : Type 0 where
  pub declarations : f.scope.declarations ≡ s.declarations
  pub scope : IsScope f
  pub before : AreDeclared s.base (here_at f.scope 0)
  pub around : (p : Path) → has_no_steps p ≡ true → is_unreadable (f.base p) ≡ not (s.read p)

abbrev pub is_fault_of : ScopeError → Bool
is_fault_of (e.Fault a) = true
is_fault_of e.NoMemory = false

-- a fault of one of the declarations of a scope, and no want of memory
pub record IsDeclarationFaultIn (s : Scope) (y : ScopeError) : Type 0 where
  pub at : ℕ × Declaration
  pub among : Contains (numbered_from 0 s.declarations) at
  pub told : IsDeclarationFault s at y
  pub fault : is_fault_of y ≡ true
