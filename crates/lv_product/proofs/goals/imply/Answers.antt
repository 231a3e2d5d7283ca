use Rattle.std.proofs.Common.{arith}
use Rattle.lv_product.proofs.Reaching.{imply_gives}
use Rattle.lv_product.proofs.Telling.{table_at, seen_nodes}
use Rattle.lv_product.proofs.Holding.{table_kept}
use Rattle.lv_product.proofs.goals.imply.Goals as goal

pub returns : goal.returns
returns c =
    imply_gives c.args.task.now c.args.kept.now.numbers.items c.args.b.now c.args.left.now c.args.right.now c.holding.new.b c.all_same.new.b c.unless.new.b
    c.in_ok-holding.holding c.in_ok-same.same c.in_ok-at.at c.args.aligned
    c.as_slice.result.now c.as_slice-l.result.now c.as_slice-r.result.now
    c.as_slice.ensures.value
    (record {
      table = c.index-left-0.result;
      items_are = c.as_slice-l.ensures.value;
      is = c.index-left-0.is;
      within = omega arith;
      copies =
          c.requires.left;
    })
    (record {
      table = c.index-right-0.result;
      items_are = c.as_slice-r.ensures.value;
      is = c.index-right-0.is;
      within = omega arith;
      copies =
          c.requires.right;
    })
    c.in_ok-holding.ensures c.in_ok-same.ensures c.in_ok-at.ensures

pub all_same-requires-clause-left : goal.all_same-requires-clause-left
all_same-requires-clause-left c = table_kept c.args.b.now c.holding.new.b c.args.task.now.graph c.as_slice-l.result.now c.in_ok-holding.ensures.extends
    (table_at c.args.b.now c.args.task.now.graph c.args.left.now 0 c.index-left-0.result c.as_slice-l.result.now c.as_slice-l.ensures.value
    c.index-left-0.is (omega arith) c.requires.left)

pub all_same-requires-clause-right : goal.all_same-requires-clause-right
all_same-requires-clause-right c = table_kept c.args.b.now c.holding.new.b c.args.task.now.graph c.as_slice-r.result.now c.in_ok-holding.ensures.extends
    (table_at c.args.b.now c.args.task.now.graph c.args.right.now 0 c.index-right-0.result c.as_slice-r.result.now c.as_slice-r.ensures.value
    c.index-right-0.is (omega arith) c.requires.right)

pub all_same-requires-clause-nodes : goal.all_same-requires-clause-nodes
all_same-requires-clause-nodes c = seen_nodes c.args.task.now.graph c.args.task.now.attacker.items c.as_slice.result.now c.as_slice.ensures.value
    c.args.task.now.fits.attacker_is
