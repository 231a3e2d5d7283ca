use Rattle.std.proofs.Common.{◌≡◌, ◌++◌, map, take}
use Rattle.lv_children.specs.Children.{all_seen, turn_of}
use Rattle.lv_children.proofs.turns.add.Given as goal

abbrev pub invariant-loop-value : goal.invariant-loop-value
invariant-loop-value l = all_seen l.into.items ≡ all_seen l.initial.into.items ++ map (turn_of l.index l.label l.items) (take l.value-index l.values)
