use Rattle.lv_source.proofs.Refused.{refused_where}
use Rattle.lv_source.proofs.refusals_are_what_holds.Goals as goal

pub returns : goal.returns
returns c = refused_where
