use Rattle.std.proofs.Common.{◌≡◌, [], take}
use Rattle.lv_links.specs.Linking.{ordered_places}
use Rattle.lv_links.proofs.connect.first_ordered.Given as goal

abbrev pub invariant-loop-conn : goal.invariant-loop-conn
invariant-loop-conn l = ordered_places (take l.conn-index l.conns) ≡ []
