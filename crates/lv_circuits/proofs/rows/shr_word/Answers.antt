use Rattle.lv_circuits.proofs.RowJoins.{gives_right}
use Rattle.lv_circuits.proofs.rows.shr_word.Goals as goal

pub returns : goal.returns
returns c signed = gives_right c.args.and.now c.shift.new.and signed c.args.a.now c.args.b.now c.in_ok-es.es c.zero-zero.result c.zero-zero.ensures.is c.in_ok-es.ensures.count c.in_ok-es.ensures.bits
