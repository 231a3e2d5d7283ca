use Rattle.std.proofs.Common.{◌≡◌, ◌++◌, take}
use Rattle.lv_first.specs.FirstForm.{ident_names}
use Rattle.lv_first.proofs.signals.push_names.Given as goal

abbrev pub invariant-loop-name : goal.invariant-loop-name
invariant-loop-name l = l.texts ≡ l.initial.texts ++ ident_names (take l.name-index l.names)
