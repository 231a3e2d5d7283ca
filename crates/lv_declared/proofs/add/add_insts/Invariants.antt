use Rattle.std.proofs.Common.{◌≡◌, ◌++◌, map, flat_map, take}
use Rattle.lv_declared.specs.Listing.{all_declared}
use Rattle.lv_source.specs.Declarations as s
use Rattle.lv_declared.proofs.add.add_insts.Given as goal

abbrev pub invariant-loop-inst : goal.invariant-loop-inst
invariant-loop-inst l = all_declared l.list.items ≡ all_declared l.fn.list.items ++ map (λ n. s.declare s.Instance n.name) (take l.inst-index l.insts)
