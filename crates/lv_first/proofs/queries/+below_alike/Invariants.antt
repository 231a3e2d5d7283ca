use Rattle.lv_first.proofs.queries.+below_alike.Given as goal

abbrev pub decreases-below_alike : goal.decreases-below_alike
decreases-below_alike l = l.count
