use Rattle.std.proofs.Common.{◌≡◌, ◌*◌}
use Rattle.lv_source.specs.Values.{repeated}
use Rattle.lv_const.proofs.values.copies.Given as goal

abbrev pub invariant-loop : goal.invariant-loop
invariant-loop l = (l.all.width ≡ l.counter * l.word.width) × (l.all.value ≡ repeated l.counter l.word.width l.word.value)
