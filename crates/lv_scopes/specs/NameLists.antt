-- The names of a table, in order.
use Rattle.std.specs.Prelude.{List, map}
use Rattle.lv_ast.specs.Names.{Name}
use Rattle.lv_scopes.specs.declared.table.NameTable.{NameTable}

abbrev pub listed : NameTable → List Name
listed t = map (λ k. k.items) t.names.keys
