use Rattle.std.proofs.Common.{ap, sym, ◌∙◌}
use Rattle.std.specs.Prelude.{bytes_eq}
use Rattle.std.specs.List.{position}
use Rattle.lv_scopes.specs.NameLists.{listed}
use Rattle.lv_links.proofs.Lists.{found-there, none-more}
use Rattle.lv_links.proofs.LinkLaws.{unlisted_one, unnamed, named-listed, named-unlisted, absent, present, is-absent, is-present}
use Rattle.lv_links.proofs.connect.unlisted.Goals as goal
use Rattle.lv_links.proofs.connect.unlisted.Goals.{in-Some+else-is_none, in_default}

pub returns-then-is_none : goal.returns-then-is_none
returns-then-is_none c = λ names h.
    found-there (unlisted_one names) c.args.conns.now c.loop-conn.conn-index c.conn-item.result c.loop-conn-test.true c.conn-item.is c.in-Some.name.place
    (named-unlisted names c.conn-item.result c.in-Some.name c.in-Some.is
    (absent (listed c.args.table.now) names c.in-Some.name.name h.same
    (ap (λ n. position (bytes_eq n) (listed c.args.table.now)) (sym c.bytes.ensures) ∙ (sym c.find.ensures ∙ is-absent c.find.result c.is_none.result c.is_none.ensures c.if-is_none.true))))

pub loop-conn-preserved : goal.loop-conn-preserved
loop-conn-preserved c = λ names h.
    none-more (unlisted_one names) c.args.conns.now c.loop-conn.conn-index c.conn-item.result c.loop-conn-test.true c.conn-item.is (c.loop-conn.invariant names h)
    (elim c.match-conn.branch [
      | in-Some+else-is_none w ↦ named-listed names c.conn-item.result w.in-Some.name w.in-Some.is
          (let k = is-present w.find.result w.is_none.result w.is_none.ensures w.if-is_none.false in
          present (listed c.args.table.now) names w.in-Some.name.name k.0 h.same
          (ap (λ n. position (bytes_eq n) (listed c.args.table.now)) (sym w.bytes.ensures) ∙ (sym w.find.ensures ∙ k.1)))
      | in_default w ↦ unnamed names c.conn-item.result w.in_default.is
    ])
