use Rattle.lv_circuits.proofs.rows.apart.Goals as goal

pub returns-in-Shl : goal.returns-in-Shl
returns-in-Shl c = rw c.in-Shl.is (c.shl_word.ensures c.args.signed)

pub returns-in-Shr : goal.returns-in-Shr
returns-in-Shr c = rw c.in-Shr.is (c.shr_word.ensures c.args.signed)

pub returns-in-Sar : goal.returns-in-Sar
returns-in-Sar c = rw c.in-Sar.is c.sar_word.ensures

pub returns-in-LogAnd : goal.returns-in-LogAnd
returns-in-LogAnd c = rw c.in-LogAnd.is c.logic.ensures

pub returns-in-LogOr : goal.returns-in-LogOr
returns-in-LogOr c = rw c.in-LogOr.is c.logic-in-LogOr.ensures
