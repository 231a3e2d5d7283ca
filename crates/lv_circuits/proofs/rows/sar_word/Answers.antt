use Rattle.lv_circuits.proofs.RowJoins.{gives_arithmetic}
use Rattle.lv_circuits.proofs.rows.sar_word.Goals as goal

pub returns : goal.returns
returns c = gives_arithmetic c.args.and.now c.shift.new.and c.args.signed c.args.a.now c.args.b.now c.in_ok-es.es c.fill_of-fill.result c.fill_of-fill.ensures.is c.in_ok-es.ensures.count c.in_ok-es.ensures.bits
