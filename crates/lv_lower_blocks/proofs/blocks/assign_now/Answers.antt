use Rattle.lv_flat.specs.Signals.{declared_all}
use Rattle.lv_lower_blocks.proofs.Runnings.{on_ok, runs-now, may-write-same, writes-same}
use Rattle.lv_lower_blocks.proofs.blocks.assign_now.Goals as goal

pub returns : goal.returns
returns c =
    let S = declared_all c.args.signals.now in
    on_ok c.write.result (λ r. runs-now S c.args.target.now c.args.e.now c.in_ok-p.ensures (may-write-same c.in_ok-write_done.ensures c.as_slice.ensures.value c.same.ensures)
    (writes-same r c.as_slice-2.ensures.value c.same-2.ensures)) c.write.ensures
