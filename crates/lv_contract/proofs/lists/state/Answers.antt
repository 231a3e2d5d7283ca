use Rattle.std.proofs.Common.{◌∙◌}
use Rattle.lv_contract.proofs.Spelling.{printable_part}
use Rattle.lv_contract.proofs.lists.state.Goals as goal

pub named-requires : goal.named-requires
named-requires c = printable_part 1 _ _ c.text_in-constant.result.now c.elements-values.ensures c.requires.printable c.text_in-constant.ensures

pub invariant_of-result : goal.invariant_of-result
invariant_of-result c = record {
  printable = printable_part 0 _ _ c.in_ok-register.register c.elements-values.ensures c.requires.printable (c.in_ok-register.ensures ∙ c.as_bytes.ensures.value ∙ c.text_in-register.ensures);
}
