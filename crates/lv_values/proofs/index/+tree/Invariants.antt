use Rattle.lv_values.proofs.index.+tree.Given as goal

abbrev pub decreases-tree : goal.decreases-tree
decreases-tree l = l.k
