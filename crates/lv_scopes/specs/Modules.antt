-- The modules of a source by name.
use Rattle.std.specs.Prelude.{◌≡◌, List, map, bytes_eq, Option, find, Contains, ⊤}
use Rattle.lv_ast.specs.declared.item.Module.{Module}
use Rattle.lv_ast.specs.Names.{Name}
use Rattle.lv_source.specs.Legal.{at_top, modules_again}
use Rattle.lv_scopes.specs.declared.modules.Modules.{Modules}
use Rattle.lv_scopes.specs.declared.modules.ModulesError.{ModulesError}
use Rattle.lv_scopes.specs.declared.modules.ModulesError.TheVariants as e

abbrev pub module_name : Module → Name
module_name m = m.name.name

-- the first of them that has the name, as `module_named` finds it in a source
abbrev pub module_in : List Module → Name → Option Module
module_in modules name = find (λ m. bytes_eq m.name.name name) modules

-- the table has their names, in order
pub record AreModules (table : Modules) (modules : List Module) : Type 0 where
  pub names : map (λ k. k.items) table.names.keys ≡ map module_name modules

-- a later module of a name is told
abbrev pub IsModulesError : List Module → ModulesError → Type 0
IsModulesError modules (e.Duplicate place) = Contains (modules_again modules) (at_top place)
IsModulesError modules e.NoMemory = ⊤
