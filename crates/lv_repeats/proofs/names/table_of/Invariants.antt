use Rattle.std.proofs.Common.{take}
use Rattle.lv_repeats.specs.Named.{AreListed, ident_names}
use Rattle.lv_repeats.proofs.names.table_of.Given as goal

abbrev pub invariant-loop-name : goal.invariant-loop-name
invariant-loop-name l = AreListed (ident_names (take l.name-index l.list)) l.names
