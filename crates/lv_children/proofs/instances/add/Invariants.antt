use Rattle.std.proofs.Common.{◌≡◌, ◌++◌, map, take}
use Rattle.lv_children.specs.Children.{all_seen, instance_of}
use Rattle.lv_children.proofs.instances.add.Given as goal

abbrev pub invariant-loop-inst : goal.invariant-loop-inst
invariant-loop-inst l = all_seen l.into.items ≡ all_seen l.initial.into.items ++ map (instance_of l.module l.settings) (take l.inst-index l.insts)
