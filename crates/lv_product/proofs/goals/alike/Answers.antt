use Rattle.lv_product.proofs.Telling.{all_ports, alike_gives}
use Rattle.lv_unroll.proofs.Growing.{extends_trans}
use Rattle.lv_product.proofs.Telling.{input_nodes, copies_kept, ports_same}
use Rattle.lv_product.proofs.goals.alike.Goals as goal

pub returns : goal.returns
returns c =
    alike_gives c.args.task.now c.args.b.now c.agreement.new.b c.negated.new.b c.either.new.b c.all_allowed.new.b c.all_allowed-2.new.b c.both.new.b
    c.both-2.new.b
    c.in_ok-agree.agree c.in_ok-loose.loose c.in_ok-kept.kept c.in_ok-first.first c.in_ok-second.second c.in_ok-allowed.allowed c.in_ok-at.at c.args.aligned
    _
    c.as_slice.result.now c.as_slice-2.result.now c.as_slice-3.result.now c.args.left.now c.args.right.now
    c.as_slice.ensures.value c.as_slice-2.ensures.value c.as_slice-3.ensures.value (all_ports _ c.args.task.now.ports.items c.args.task.now.fits.ports_are)
    c.requires.left c.requires.right c.requires.aligned
    c.in_ok-agree.ensures c.in_ok-loose.ensures c.in_ok-kept.ensures c.in_ok-first.ensures c.in_ok-second.ensures c.in_ok-allowed.ensures c.in_ok-at.ensures

pub agreement-requires-clause-ports : goal.agreement-requires-clause-ports
agreement-requires-clause-ports c = ports_same _ c.as_slice.result.now c.args.task.now.ports.items c.as_slice.ensures.value c.args.task.now.fits.ports_are

pub all_allowed-requires-clause-tables : goal.all_allowed-requires-clause-tables
all_allowed-requires-clause-tables c = copies_kept c.args.b.now c.either.new.b c.args.task.now.graph c.args.left.now
    (extends_trans c.args.b.now c.negated.new.b c.either.new.b (extends_trans c.args.b.now c.agreement.new.b c.negated.new.b c.in_ok-agree.ensures.extends
    c.in_ok-loose.ensures.extends) c.in_ok-kept.ensures.extends) c.requires.left

pub all_allowed-requires-clause-nodes : goal.all_allowed-requires-clause-nodes
all_allowed-requires-clause-nodes c = input_nodes c.args.task.now.graph c.args.task.now.assume.items c.as_slice-2.result.now c.as_slice-2.ensures.value
    c.args.task.now.fits.assume_is

pub all_allowed-requires-2-clause-tables : goal.all_allowed-requires-2-clause-tables
all_allowed-requires-2-clause-tables c = copies_kept c.args.b.now c.all_allowed.new.b c.args.task.now.graph c.args.right.now
    (extends_trans c.args.b.now c.either.new.b c.all_allowed.new.b
    (extends_trans c.args.b.now c.negated.new.b c.either.new.b (extends_trans c.args.b.now c.agreement.new.b c.negated.new.b c.in_ok-agree.ensures.extends
    c.in_ok-loose.ensures.extends) c.in_ok-kept.ensures.extends) c.in_ok-first.ensures.extends) c.requires.right

pub all_allowed-requires-2-clause-nodes : goal.all_allowed-requires-2-clause-nodes
all_allowed-requires-2-clause-nodes c = input_nodes c.args.task.now.graph c.args.task.now.assume.items c.as_slice-3.result.now c.as_slice-3.ensures.value
    c.args.task.now.fits.assume_is
