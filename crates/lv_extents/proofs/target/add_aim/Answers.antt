use Rattle.std.proofs.Common.{ap, refl, sym}
use Rattle.lv_source.specs.Names.{Declared}
use Rattle.lv_flat.specs.Signals.{declared_all, signal_at}
use Rattle.lv_extents.proofs.Spans.{adds-from}
use Rattle.lv_extents.proofs.Named.{selects-good}
use Rattle.lv_extents.proofs.Events.{aim-adds}
use Rattle.lv_extents.proofs.Once.{exact-from}
use Rattle.lv_extents.proofs.target.add_aim.Goals as goal

pub add_index_reads-requires-clause-good : goal.add_index_reads-requires-clause-good
add_index_reads-requires-clause-good c = selects-good (declared_all c.args.signals.now) (signal_at (declared_all c.args.signals.now) c.args.name.signal) c.args.ss.now c.requires.good

pub returns-clause-aims : goal.returns-clause-aims
returns-clause-aims c =
    let S = declared_all c.args.signals.now in
    aim-adds S c.args.aims.now c.push.new.self c.args.name c.args.ss.now _ (sym (ap (λ (d : Declared). d.sort) c.signal_of.ensures))
    (adds-from S c.new-bits.result _ _ c.new-bits.ensures c.in_ok-add_named.ensures.adds) c.in_ok-sure.ensures.constant refl c.in_ok-add_named.ensures.once
    (λ h. exact-from S c.new-bits.result _ c.new-bits.ensures (c.in_ok-add_named.ensures.exact h)) c.in_ok-push.ensures.ok
