-- For the proof: what the names of a table are.
use Rattle.std.specs.Prelude.{◌≡◌, List, map, bytes_eq}
use Rattle.std.specs.List.{list_any}
use Rattle.lv_ast.specs.declared.stmt.Ident.{Ident}
use Rattle.lv_ast.specs.Names.{Name}
use Rattle.lv_source.specs.Declarations.{Declaration, declared_as}
use Rattle.lv_source.specs.Scopes.{is_output, is_among}
use Rattle.lv_scopes.specs.NameLists.{listed}
use Rattle.lv_scopes.specs.declared.table.NameTable.{NameTable}

abbrev pub ident_names : List Ident → List Name
ident_names ns = map (λ n. n.name) ns

-- those of the outputs among these declarations
pub record AreOutputs (ds : List Declaration) (t : NameTable) : Type 0 where
  pub same : (name : Name) → list_any (bytes_eq name) (listed t) ≡ list_any is_output (declared_as name ds)

-- these names and no others
pub record AreListed (ns : List Name) (t : NameTable) : Type 0 where
  pub same : (name : Name) → list_any (bytes_eq name) (listed t) ≡ is_among ns name
