-- Which lemmas the checks of functions may cite.
use Rattle.lv_const.proofs.Heads.{head_rules, places-here}

pub ruleset heads = (head_rules, places-here)
