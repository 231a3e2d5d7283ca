use Rattle.lv_cert.proofs.Orders.{wide_from}
use Rattle.lv_cert.proofs.write.are_wide.Goals as goal

pub returns : goal.returns
returns c = wide_from c.args.values.now.items (λ k h. c.type_inv.values k 0 h)
