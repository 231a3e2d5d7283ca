use Rattle.lv_schedule.proofs.Shares.{turned}
use Rattle.lv_schedule.proofs.tables.rest_of.Goals as goal

pub returns : goal.returns
returns c = λ i l f. turned c.args.mask i c.ranges.mask.fits l f
