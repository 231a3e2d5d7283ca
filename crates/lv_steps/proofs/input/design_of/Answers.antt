use Rattle.std.proofs.Common.{inl}
use Rattle.lv_steps.proofs.Chained.{ok_pair, err_pair}
use Rattle.lv_steps.proofs.input.design_of.Goals as goal

pub returns-in-Err-clause-refused : goal.returns-in-Err-clause-refused
returns-in-Err-clause-refused g c = inl c.in-Err.ensures.refused
