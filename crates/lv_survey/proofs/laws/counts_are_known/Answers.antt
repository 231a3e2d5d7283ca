use Rattle.lv_survey.proofs.Serving.{counts_known}
use Rattle.lv_survey.proofs.laws.counts_are_known.Goals as goal

pub returns : goal.returns
returns c = counts_known
