use Rattle.std.proofs.Common.{◌≤◌, ◌∙◌, ap, length, map, refl, sym}
use Rattle.toml.specs.View.{table_view}
use Rattle.lv_contract.specs.declared.key.Key.TheVariants as k
use Rattle.lv_contract.specs.declared.key.Level.TheVariants as l
use Rattle.lv_contract.specs.Values.{lists_in}
use Rattle.lv_contract.specs.Named.{pair_of}
use Rattle.lv_contract.proofs.Views.{taken_all, lists_mapped}
use Rattle.lv_contract.proofs.Spelling.{lists_place, lists_fault, printable_list as printable, place_few}
use Rattle.lv_contract.proofs.lists.pairs.Goals as goal

pub pair-requires : goal.pair-requires
pair-requires c = record { printable = printable c.array-values.result.now _ c.loop-entry.entry c.index-values-entry.result c.requires.printable c.array-values.ensures c.loop-entry-test.true c.index-values-entry.is; few = place_few c.array-values.result.now _ c.loop-entry.entry c.array-values.ensures c.requires.counted c.loop-entry-test.true }

pub returns-in-Err : goal.returns-in-Err
returns-in-Err c =
    let place = lists_place c.array-values.result.now _ c.loop-entry.entry c.index-values-entry.result c.array-values.ensures c.loop-entry-test.true (sym c.index-values-entry.is) in
    lists_fault l.Candidates k.When (table_view c.args.table.now) c.loop-entry.entry _ c.in-Err.error refl place c.in-Err.ensures

pub returns : goal.returns
returns c =
    let values = c.array-values.result.now in
    let end : length values ≤ c.loop-entry.entry = c.loop-entry-test.false in
    c.loop-entry.invariant ∙ taken_all _ values c.loop-entry.entry end ∙ sym (lists_mapped pair_of values) ∙ ap (λ ds. map pair_of (lists_in ds)) c.array-values.ensures
