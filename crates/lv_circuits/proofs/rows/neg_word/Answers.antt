use Rattle.lv_circuits.proofs.RowJoins.{gives_neg}
use Rattle.lv_circuits.proofs.rows.neg_word.Goals as goal

pub returns : goal.returns
returns c =
    gives_neg c.args.and.now c.add.new.and c.args.a.now c.in_ok-turned.turned c.as_slice.result.now c.in_ok-zeros.zeros c.as_slice-2.result.now c.in_ok-sum.sum.bits c.zero-zero.result c.not-one.result c.zero-zero.ensures.is c.not-one.ensures c.as_slice.ensures c.in_ok-zeros.ensures c.as_slice-2.ensures c.in_ok-turned.ensures.count c.in_ok-sum.ensures.count c.in_ok-turned.ensures.bits c.in_ok-sum.ensures.bits
