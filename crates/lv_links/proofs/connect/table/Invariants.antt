use Rattle.std.proofs.Common.{take}
use Rattle.lv_scopes.specs.NameLists.{listed}
use Rattle.lv_links.specs.Linking.{idents}
use Rattle.lv_links.proofs.LinkLaws.{Same}
use Rattle.lv_links.proofs.connect.table.Given as goal

abbrev pub invariant-loop-name : goal.invariant-loop-name
invariant-loop-name l = Same (listed l.table) (idents (take l.name-index l.listed))
