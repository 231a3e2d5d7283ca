use Rattle.std.proofs.Common.{◌≡◌, ◌++◌, map, flat_map, take}
use Rattle.lv_declared.specs.Listing.{all_declared}
use Rattle.lv_source.specs.Declarations as s
use Rattle.lv_declared.proofs.add.add_regs.Given as goal

abbrev pub invariant-loop-reg : goal.invariant-loop-reg
invariant-loop-reg l = all_declared l.list.items ≡ all_declared l.fn.list.items ++ map (λ n. s.declare (s.Reg l.signed l.range n.bounds) n.name) (take l.reg-index l.regs)
