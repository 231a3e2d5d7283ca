use Rattle.lv_circuits.proofs.RowJoins.{gives_product}
use Rattle.lv_circuits.proofs.rows.mul_word.Goals as goal

pub returns : goal.returns
returns c signed =
    gives_product c.args.and.now c.product.new.and signed c.args.a.now c.args.b.now c.in_ok-es.es c.in_ok-es.ensures.grows c.in_ok-es.ensures.below c.in_ok-es.ensures.count c.in_ok-es.ensures.is
