use Rattle.std.proofs.Common.{◌≡◌, List, [], take}
use Rattle.lv_ast.specs.declared.stmt.Ident.{Ident}
use Rattle.lv_source.specs.ScopeRules.{unlisted_names}
use Rattle.lv_links.specs.Linking.{HasNames}
use Rattle.lv_links.proofs.connect.unlisted.Given as goal

abbrev pub invariant-loop-conn : goal.invariant-loop-conn
invariant-loop-conn l = (names : List Ident) → HasNames l.table names → unlisted_names names (take l.conn-index l.conns) ≡ []
