use Rattle.lv_print.proofs.literal.+free_digits.Given as goal

abbrev pub decreases-free_digits : goal.decreases-free_digits
decreases-free_digits l = l.count
