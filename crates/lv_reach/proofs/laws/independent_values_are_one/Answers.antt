use Rattle.lv_reach.proofs.Values.{one-value}
use Rattle.lv_reach.proofs.laws.independent_values_are_one.Goals as goal

pub returns : goal.returns
returns c = λ ds vs order is names e v w laws right apart o sv sw same f. one-value ds vs order is laws right apart o v w sv sw same names e f
