use Rattle.std.proofs.Common.{◌≡◌, ◌++◌, map, flat_map, take}
use Rattle.lv_declared.specs.Listing.{all_declared}
use Rattle.lv_source.specs.Declarations as s
use Rattle.lv_declared.proofs.add.add_params.Given as goal

abbrev pub invariant-loop-setting : goal.invariant-loop-setting
invariant-loop-setting l =
    all_declared l.list.items ≡
    all_declared l.fn.list.items ++ map (λ n. s.declare (s.Parameter l.local l.params.signed l.params.range n.value) n.name) (take l.setting-index l.params.list)
