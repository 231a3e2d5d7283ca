use Rattle.lv_circuits.proofs.Products.{row_is}
use Rattle.lv_circuits.proofs.product.row.Goals as goal

pub returns-clause-is : goal.returns-clause-is
returns-clause-is c =
    row_is c.args.and.now c.zip.new.and c.add.new.and c.args.high.now c.args.a.now c.in_ok-masks.masks c.as_slice.result.now c.in_ok-terms.terms c.as_slice-2.result.now c.in_ok-sum.sum.bits c.as_slice-bits.result.now c.in_ok-high.high c.args.c c.zero-zero.result c.edge-low.result
    c.in_ok-masks.ensures c.as_slice.ensures c.as_slice-2.ensures c.as_slice-bits.ensures c.zero-zero.ensures.is c.requires.same c.requires.some c.in_ok-terms.ensures.count c.in_ok-sum.ensures.count c.in_ok-high.ensures c.edge-low.ensures c.in_ok-terms.ensures.bits c.in_ok-sum.ensures.bits
