use Rattle.std.proofs.Common.{◌≡◌, ◌++◌, take}
use Rattle.lv_links.specs.Linking.{idents}
use Rattle.lv_links.proofs.listed.add_names.Given as goal

abbrev pub invariant-loop-name : goal.invariant-loop-name
invariant-loop-name l = idents l.list.items ≡ idents l.fn.list.items ++ take l.name-index l.names
