use Rattle.std.proofs.Common.{inl, subst, sym}
use Rattle.std.specs.Prelude.{IfOk, IfErr}
use Rattle.lv_steps.specs.Files.{IsRead, AreUnread, IsContract, IsNoContract}
use Rattle.lv_steps.proofs.Chained.{ok_pair, err_pair}
use Rattle.lv_steps.proofs.input.contract_of.Goals as goal

pub returns-in-Err-clause-refused : goal.returns-in-Err-clause-refused
returns-in-Err-clause-refused g c = inl c.in-Err.ensures.unread
