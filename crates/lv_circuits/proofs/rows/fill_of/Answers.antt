use Rattle.lv_circuits.proofs.RowJoins.{signed_fill}
use Rattle.lv_circuits.proofs.rows.fill_of.Goals as goal

pub returns-then-signed-clause-is : goal.returns-then-signed-clause-is
returns-then-signed-clause-is c = λ v val. signed_fill v c.args.and.now c.args.signed c.args.a.now c.edge.result c.if-signed.true val c.requires.some c.edge.ensures
