use Rattle.std.proofs.Common.{◌≡◌, ◌++◌, map, flat_map, take}
use Rattle.lv_declared.specs.Listing.{all_declared}
use Rattle.lv_source.specs.Declarations.{Label, declare, labels}
use Rattle.lv_declared.proofs.labels.+labels.Given as goal

abbrev pub invariant-add_all_labels-loop-stmt : goal.invariant-add_all_labels-loop-stmt
invariant-add_all_labels-loop-stmt l =
    all_declared l.list.items ≡ all_declared l.fn.list.items ++ map (declare Label) (flat_map labels (take l.stmt-index l.stmts))

abbrev pub invariant-add_arm_labels-loop-arm : goal.invariant-add_arm_labels-loop-arm
invariant-add_arm_labels-loop-arm l =
    all_declared l.list.items ≡ all_declared l.fn.list.items ++ map (declare Label) (flat_map (λ a. labels a.body) (take l.arm-index l.arms))
