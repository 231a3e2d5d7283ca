use Rattle.std.proofs.Common.{◌≡◌, ◌-◌, length}
use Rattle.lv_lookup.specs.Levels.{binding_from, binding_at}
use Rattle.lv_lookup.proofs.lookup.binding_from.Given as goal

abbrev pub invariant-loop-step : goal.invariant-loop-step
invariant-loop-step l = binding_at l.levels l.at l.name ≡ binding_from (length l.levels - l._step) l.levels l.scope l.name
