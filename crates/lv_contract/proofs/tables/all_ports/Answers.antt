use Rattle.std.proofs.Common.{◌≤◌, ◌∙◌, length, sym, inl}
use Rattle.lv_contract.specs.Says.{port_at}
use Rattle.lv_contract.proofs.Ports.{table_place}
use Rattle.lv_contract.proofs.Views.{taken_all, tables_mapped}
use Rattle.lv_contract.proofs.tables.all_ports.Goals as goal

pub port-requires-clause-fit : goal.port-requires-clause-fit
port-requires-clause-fit c = c.requires.each c.loop-at.at _ (table_place c.args.values.now c.loop-at.at c.index-values-at.result _ c.loop-at-test.true (sym c.index-values-at.is) c.in-Some.ensures)

pub returns-in-Err : goal.returns-in-Err
returns-in-Err c = (c.loop-at.at, _, table_place c.args.values.now c.loop-at.at c.index-values-at.result _ c.loop-at-test.true (sym c.index-values-at.is) c.in-Some.ensures, c.in-Err.ensures)

pub returns-in-Err-push : goal.returns-in-Err-push
returns-in-Err-push c = (c.loop-at.at, _, table_place c.args.values.now c.loop-at.at c.index-values-at.result _ c.loop-at-test.true (sym c.index-values-at.is) c.in-Some.ensures, inl tt)

pub returns : goal.returns
returns c =
    let values = c.args.values.now in
    let end : length values ≤ c.loop-at.at = c.loop-at-test.false in
    c.loop-at.invariant ∙ taken_all _ values c.loop-at.at end ∙ sym (tables_mapped port_at values)
