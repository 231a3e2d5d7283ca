use Rattle.std.proofs.Common.{◌≡◌, take, map}
use Rattle.lv_source.specs.Names.{is_input_sort}
use Rattle.lv_flat.specs.Signals.{declared_all}
use Rattle.lv_reach.proofs.signals.inputs.Given as goal

abbrev pub invariant-loop-signal : goal.invariant-loop-signal
invariant-loop-signal l = l.flags.items ≡ map (λ x. is_input_sort x.sort) (declared_all (take l.signal-index l.signals))
