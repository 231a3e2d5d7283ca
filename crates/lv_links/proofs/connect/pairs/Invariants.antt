use Rattle.std.proofs.Common.{◌≡◌, ◌++◌, drop}
use Rattle.lv_source.specs.Scopes.{links}
use Rattle.lv_links.specs.Linking.{idents, all_links}
use Rattle.lv_links.proofs.connect.pairs.Given as goal

abbrev pub invariant-loop-conn : goal.invariant-loop-conn
invariant-loop-conn l = all_links l.found.items ++ links (idents (drop l.next l.listed)) (drop l.conn-index l.conns) ≡ links (idents l.listed) l.conns
