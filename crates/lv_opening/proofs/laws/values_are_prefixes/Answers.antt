use Rattle.lv_opening.proofs.Prefixes.{prefixes}
use Rattle.lv_opening.proofs.laws.values_are_prefixes.Goals as goal

pub returns : goal.returns
returns c = prefixes
