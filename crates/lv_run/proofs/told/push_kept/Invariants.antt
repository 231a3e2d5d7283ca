use Rattle.std.proofs.Common.{◌≡◌, ◌++◌, take}
use Rattle.std.specs.Prelude.{flat_map}
use Rattle.lv_run.specs.Texts.{keep_line}
use Rattle.lv_run.proofs.told.push_kept.Given as goal

abbrev pub invariant-loop-register : goal.invariant-loop-register
invariant-loop-register l = l.text.items ≡ l.initial.text.items ++ flat_map keep_line (take l.register-index l.registers)
