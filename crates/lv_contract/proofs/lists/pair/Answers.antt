use Rattle.lv_contract.proofs.Spelling.{printable_part}
use Rattle.lv_contract.proofs.lists.pair.Goals as goal

pub named-requires : goal.named-requires
named-requires c = printable_part 0 _ _ c.text_in-guard.result.now c.elements-values.ensures c.requires.printable c.text_in-guard.ensures

pub named-requires-2 : goal.named-requires-2
named-requires-2 c = printable_part 1 _ _ c.text_in-expr.result.now c.elements-values.ensures c.requires.printable c.text_in-expr.ensures
