use Rattle.lv_ast.specs.declared.item.Conn.{Conn}
use Rattle.std.proofs.Common.{ℕ, List, [], ◌∷◌}
use Rattle.std.specs.Prelude.{if◌then◌else◌}
use Rattle.lv_source.specs.ScopeRules.{is_ordered}
use Rattle.lv_links.proofs.Lists.{found-there}
use Rattle.lv_links.proofs.LinkLaws.{ordered-one, is-absent}
use Rattle.lv_links.proofs.connect.first_ordered.Goals as goal

pub returns-then-is_none : goal.returns-then-is_none
returns-then-is_none c =
    let f : Conn → List ℕ = λ x. if is_ordered x then x.place ∷ [] else [] in
    found-there f c.args.conns.now c.loop-conn.conn-index c.conn-item.result c.loop-conn-test.true c.conn-item.is c.conn-item.result.place
    (ordered-one c.conn-item.result (is-absent c.conn-item.result.name c.is_none.result c.is_none.ensures c.if-is_none.true))
