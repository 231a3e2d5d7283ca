use Rattle.std.proofs.Common.{ℕ, List, length, add-one, refl, arith}
use Rattle.lv_bits.specs.Words.{Bits}
use Rattle.lv_product.proofs.Telling.{table_at, candidates_read}
use Rattle.lv_product.proofs.Holding.{table_kept}
use Rattle.lv_switched.specs.Switches.{switched_on}
use Rattle.lv_switched.proofs.Guarding.{counted, switches_like, held}
use Rattle.lv_switched.proofs.Reached.{holding_gives}
use Rattle.lv_switched.proofs.queries.holding.Goals as goal

pub returns : goal.returns
returns c =
    let cs = c.as_slice-cs.result.now in
    let all = c.args.task.now.candidates.items in
    let on : List Bits → List ℕ = switched_on c.args.from (length all) in
    holding_gives c.args.task.now on c.args.b.now c.args.left.now c.args.right.now c.alike.new.b c.all_guarded.new.b c.both.new.b
    c.in_ok-alike.alike c.in_ok-hold.hold c.in_ok-at.at c.args.aligned _ _ cs c.as_slice-l.result.now c.as_slice-r.result.now
    (rw add-one refl) (rw add-one refl) c.as_slice-cs.ensures.value
    (record {
      table = c.index-left-0.result;
      items_are = c.as_slice-l.ensures.value;
      is = c.index-left-0.is;
      within = omega arith;
      copies = c.requires.left;
    })
    (record {
      table = c.index-right-0.result;
      items_are = c.as_slice-r.ensures.value;
      is = c.index-right-0.is;
      within = omega arith;
      copies = c.requires.right;
    })
    c.requires.aligned c.in_ok-alike.ensures
    (counted c.alike.new.b c.all_guarded.new.b c.in_ok-hold.hold c.args.from (held cs c.alike.new.b c.as_slice-l.result.now c.as_slice-r.result.now c.args.aligned)
    cs all c.as_slice-cs.ensures.value c.in_ok-hold.ensures) c.in_ok-at.ensures

pub all_guarded-requires-clause-left : goal.all_guarded-requires-clause-left
all_guarded-requires-clause-left c = table_kept c.args.b.now c.alike.new.b c.args.task.now.graph c.as_slice-l.result.now c.in_ok-alike.ensures.extends
    (table_at c.args.b.now c.args.task.now.graph c.args.left.now 0 c.index-left-0.result c.as_slice-l.result.now c.as_slice-l.ensures.value
    c.index-left-0.is (omega arith) c.requires.left)

pub all_guarded-requires-clause-right : goal.all_guarded-requires-clause-right
all_guarded-requires-clause-right c = table_kept c.args.b.now c.alike.new.b c.args.task.now.graph c.as_slice-r.result.now c.in_ok-alike.ensures.extends
    (table_at c.args.b.now c.args.task.now.graph c.args.right.now 0 c.index-right-0.result c.as_slice-r.result.now c.as_slice-r.ensures.value
    c.index-right-0.is (omega arith) c.requires.right)

pub all_guarded-requires-clause-candidates : goal.all_guarded-requires-clause-candidates
all_guarded-requires-clause-candidates c = candidates_read c.args.task.now.graph c.args.task.now.candidates.items c.as_slice-cs.result.now
    c.as_slice-cs.ensures.value c.args.task.now.fits.candidates_are

pub all_guarded-requires-clause-switches : goal.all_guarded-requires-clause-switches
all_guarded-requires-clause-switches c = switches_like c.args.b.now c.alike.new.b c.args.from c.as_slice-cs.result.now c.args.task.now.candidates.items
    c.as_slice-cs.ensures.value c.in_ok-alike.ensures.extends c.requires.switches
