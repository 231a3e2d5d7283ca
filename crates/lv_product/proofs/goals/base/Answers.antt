use Rattle.std.proofs.Common.{arith}
use Rattle.lv_product.proofs.Reaching.{base_gives}
use Rattle.lv_product.proofs.Telling.{table_at, candidates_read, numbers_within}
use Rattle.lv_product.proofs.Holding.{table_kept}
use Rattle.lv_product.proofs.goals.base.Goals as goal

pub returns : goal.returns
returns c =
    base_gives c.args.task.now c.args.kept.now.numbers.items c.args.b.now c.args.left.now c.args.right.now c.initial_pair.new.b c.all_hold.new.b
    c.both.new.b c.unless.new.b
    c.in_ok-initial.initial c.in_ok-hold.hold c.in_ok-start.start c.in_ok-at.at c.args.aligned
    c.as_slice.result.now c.as_slice-2.result.now c.as_slice-l.result.now c.as_slice-r.result.now c.as_slice-l.result.now c.as_slice-r.result.now
    c.as_slice.ensures.value c.as_slice-2.ensures.value
    (record {
      table = c.index-left-0.result;
      items_are = c.as_slice-l.ensures.value;
      is = c.index-left-0.is;
      within = omega arith;
      copies =
          c.requires.left;
    })
    (record {
      table = c.index-right-0.result;
      items_are = c.as_slice-r.ensures.value;
      is = c.index-right-0.is;
      within = omega arith;
      copies =
          c.requires.right;
    })
    (record {
      table = c.index-left-0.result;
      items_are = c.as_slice-l.ensures.value;
      is = c.index-left-0.is;
      within = omega arith;
      copies =
          c.requires.left;
    })
    (record {
      table = c.index-right-0.result;
      items_are = c.as_slice-r.ensures.value;
      is = c.index-right-0.is;
      within = omega arith;
      copies =
          c.requires.right;
    })
    c.requires.aligned c.in_ok-initial.ensures c.in_ok-hold.ensures c.in_ok-start.ensures c.in_ok-at.ensures

pub initial_pair-requires-clause-left : goal.initial_pair-requires-clause-left
initial_pair-requires-clause-left c = (table_at c.args.b.now c.args.task.now.graph c.args.left.now 0 c.index-left-0.result c.as_slice-l.result.now
    c.as_slice-l.ensures.value c.index-left-0.is (omega arith) c.requires.left)

pub initial_pair-requires-clause-right : goal.initial_pair-requires-clause-right
initial_pair-requires-clause-right c = (table_at c.args.b.now c.args.task.now.graph c.args.right.now 0 c.index-right-0.result c.as_slice-r.result.now
    c.as_slice-r.ensures.value c.index-right-0.is (omega arith) c.requires.right)

pub all_hold-requires-clause-left : goal.all_hold-requires-clause-left
all_hold-requires-clause-left c = table_kept c.args.b.now c.initial_pair.new.b c.args.task.now.graph c.as_slice-l.result.now c.in_ok-initial.ensures.extends
    (table_at c.args.b.now c.args.task.now.graph c.args.left.now 0 c.index-left-0.result c.as_slice-l.result.now c.as_slice-l.ensures.value
    c.index-left-0.is (omega arith) c.requires.left)

pub all_hold-requires-clause-right : goal.all_hold-requires-clause-right
all_hold-requires-clause-right c = table_kept c.args.b.now c.initial_pair.new.b c.args.task.now.graph c.as_slice-r.result.now
    c.in_ok-initial.ensures.extends (table_at c.args.b.now c.args.task.now.graph c.args.right.now 0 c.index-right-0.result c.as_slice-r.result.now
    c.as_slice-r.ensures.value c.index-right-0.is (omega arith) c.requires.right)

pub all_hold-requires-clause-candidates : goal.all_hold-requires-clause-candidates
all_hold-requires-clause-candidates c = candidates_read c.args.task.now.graph c.args.task.now.candidates.items c.as_slice.result.now
    c.as_slice.ensures.value c.args.task.now.fits.candidates_are

pub all_hold-requires-clause-numbers : goal.all_hold-requires-clause-numbers
all_hold-requires-clause-numbers c = numbers_within c.args.task.now.candidates.items c.as_slice.result.now c.args.kept.now.numbers.items
    c.as_slice-2.result.now c.as_slice.ensures.value c.as_slice-2.ensures.value c.requires.kept.in_range
