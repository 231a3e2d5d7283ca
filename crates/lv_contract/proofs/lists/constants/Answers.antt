use Rattle.std.proofs.Common.{sym}
use Rattle.toml.specs.View.{items_view}
use Rattle.lv_contract.specs.declared.key.Key.TheVariants as k
use Rattle.lv_contract.specs.declared.key.Level.TheVariants as l
use Rattle.lv_contract.specs.Values.{texts_in}
use Rattle.lv_contract.proofs.Elements.{contains_get}
use Rattle.lv_contract.proofs.Spelling.{printable_text, texts_at_place, at_entry}
use Rattle.lv_contract.proofs.lists.constants.Goals as goal

pub named-requires : goal.named-requires
named-requires c =
    printable_text c.args.values.now c.loop-value.value-index c.value-item.result c.text_of-text.result.now c.requires c.loop-value-test.true (sym c.value-item.is) c.text_of-text.ensures

pub returns-in-Err : goal.returns-in-Err
returns-in-Err c =
    let stands = texts_at_place c.args.values.now c.loop-value.value-index c.value-item.result c.loop-value-test.true (sym c.value-item.is) in
    at_entry l.Simulation k.Input c.args.entry (texts_in (items_view c.args.values.now)) c.text_of-text.result.now c.in-Err.error (contains_get _ c.loop-value.value-index _ _ stands c.text_of-text.ensures) c.in-Err.ensures
