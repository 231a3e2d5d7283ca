use Rattle.lv_flat.specs.Signals.{declared_all}
use Rattle.lv_lower_blocks.proofs.Runnings.{on_ok, runs-later, may-write-same}
use Rattle.lv_lower_blocks.proofs.blocks.assign_later.Goals as goal

pub returns : goal.returns
returns c =
    let S = declared_all c.args.signals.now in
    on_ok c.write_done.result (λ r. runs-later S c.args.target.now c.args.e.now c.in_ok-p.ensures c.requires.now (may-write-same r c.as_slice.ensures.value c.same.ensures)) c.write_done.ensures
