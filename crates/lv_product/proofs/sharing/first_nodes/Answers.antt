use Rattle.lv_product.proofs.Telling.{candidates_read}
use Rattle.lv_product.proofs.sharing.first_nodes.Goals as goal

pub shared-requires-clause-candidates : goal.shared-requires-clause-candidates
shared-requires-clause-candidates c =
    candidates_read c.args.task.now.graph c.args.task.now.candidates.items c.as_slice.result.now c.as_slice.ensures.value
    c.args.task.now.fits.candidates_are
