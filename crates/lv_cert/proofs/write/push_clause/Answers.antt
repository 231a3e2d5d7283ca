use Rattle.std.proofs.Common.{rules}
use Rattle.std.proofs.lemmas.Result.{IfOk-equal}
use Rattle.lv_cert.proofs.Sectioning.{clause_text}
use Rattle.lv_cert.proofs.write.push_clause.Goals as goal

pub returns : goal.returns
returns c = search (rules, IfOk-equal, clause_text)
