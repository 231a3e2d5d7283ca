-- What is listed of a module or a generate block.
use Rattle.std.specs.Prelude.{◌≡◌, ◌-◌, List, ◌++◌, map, length, flat_map}
use Rattle.lv_ast.specs.declared.item.Item.{Item}
use Rattle.lv_ast.specs.declared.item.Module.{Module}
use Rattle.lv_ast.specs.Trees.{spread}
use Rattle.lv_source.specs.Declarations.{of_items, of_module, module_items}
use Rattle.lv_source.specs.Scopes.{counted_from}
use Rattle.lv_declared.specs.declared.listed.Listed.{Listed}
use Rattle.lv_declared.specs.Listing.{all_declared, counted}

-- the declarations of a module, its items with the counts of the declarations before them, and how many of these stand before all items
pub record IsModule (m : Module) (l : Listed) : Type 0 where
  pub declarations : all_declared l.declarations.items ≡ of_module m
  pub items : map counted l.items.items ≡ counted_from l.header (module_items m)
  pub header : l.header ≡ length (of_module m) - length (of_items (module_items m))

-- those of a generate block
pub record IsBlock (xs : List Item) (l : Listed) : Type 0 where
  pub declarations : all_declared l.declarations.items ≡ of_items (flat_map spread xs)
  pub items : map counted l.items.items ≡ counted_from 0 (flat_map spread xs)
  pub header : l.header ≡ 0

-- ---- for the proof: items behind those that stand there

pub record Adds (old new : Listed) (xs : List Item) : Type 0 where
  pub declarations : all_declared new.declarations.items ≡ all_declared old.declarations.items ++ of_items xs
  pub items : map counted new.items.items ≡ map counted old.items.items ++ counted_from (length old.declarations.items) xs
  pub header : new.header ≡ old.header
