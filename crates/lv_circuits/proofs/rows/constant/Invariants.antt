use Rattle.lv_circuits.proofs.RowJoins.{Digits}
use Rattle.lv_circuits.proofs.rows.constant.Given as goal

abbrev pub invariant-loop : goal.invariant-loop
invariant-loop l = Digits l.and l.out l.counter l.rest l.fn.word.value
