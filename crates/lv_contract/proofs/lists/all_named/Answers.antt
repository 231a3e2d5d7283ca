use Rattle.std.proofs.Common.{Some, ap, sym, ◌∙◌}
use Rattle.toml.specs.View.{items_view}
use Rattle.lv_contract.specs.Values.{texts_in}
use Rattle.lv_contract.proofs.Spelling.{printable_text, texts_at_place, among}
use Rattle.lv_contract.proofs.lists.all_named.Goals as goal

pub named-requires : goal.named-requires
named-requires c =
    printable_text c.args.values.now c.loop-at.at c.index-values-at.result c.text_of-text.result.now c.requires.printable c.loop-at-test.true (sym c.index-values-at.is) c.text_of-text.ensures

pub returns-in-Err : goal.returns-in-Err
returns-in-Err c =
    let stands = texts_at_place c.args.values.now c.loop-at.at c.index-values-at.result c.loop-at-test.true (sym c.index-values-at.is) in
    among c.args.level c.args.key c.args.first (texts_in (items_view c.args.values.now)) c.loop-at.at c.text_of-text.result.now c.in-Err.error (stands ∙ ap Some (sym c.text_of-text.ensures)) c.in-Err.ensures
