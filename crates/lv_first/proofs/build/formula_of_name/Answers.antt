use Rattle.lv_first.proofs.Joins.{name_is_bit}
use Rattle.lv_first.proofs.build.formula_of_name.Goals as goal

pub returns : goal.returns
returns c = name_is_bit _ _ c.args.path.now c.in_ok-number.number c.in_ok-number.ensures
