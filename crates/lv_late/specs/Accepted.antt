-- What is accepted, as what has no fault.
use Rattle.std.specs.Prelude.{◌≡◌, ℕ, List, []}
use Rattle.lv_ast.specs.declared.item.Conn.{Conn}
use Rattle.lv_ast.specs.declared.item.Module.{Module}
use Rattle.lv_source.specs.Names.{Here}
use Rattle.lv_source.specs.Declarations.{Declaration, of_module}
use Rattle.lv_source.specs.Scopes.{Scope, here_at, no_names, overrides}
use Rattle.lv_source.specs.ScopeRules.{declaration_sites, range_fault}
use Rattle.lv_source.specs.Sites.{spots}
use Rattle.lv_symbols.specs.Frames.{Frame, IsScope}
use Rattle.lv_resolve.specs.Resolved.{AreFaultless}

-- a declaration with so many before it: no node has a fault, and its ranges are allowed
pub record IsFaultlessAt (s : Scope) (k : ℕ) (d : Declaration) : Type 0 where
  pub nodes : AreFaultless (spots (here_at s k) (declaration_sites s.names d))
  pub allowed : range_fault s.names d ≡ []

-- the scope of an instance of a module with these settings, which are read there
pub record IsInstance (here : Here) (s : Scope) (settings : List Conn) (m : Module) (f : Frame) : Type 0 where
  pub scope : IsScope f
  pub declarations : f.scope.declarations ≡ of_module m
  pub base : f.base ≡ no_names
  pub overrides : f.overrides ≡ overrides s.names settings m
  pub outside : f.outside ≡ here
  pub names : here.names ≡ s.names
