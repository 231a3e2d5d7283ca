use Rattle.std.proofs.Common.{◌∙◌}
use Rattle.lv_contract.proofs.Spelling.{printable_part, rest_printable, rest_few, input_fault}
use Rattle.lv_contract.proofs.lists.input.Goals as goal

pub constants-requires : goal.constants-requires
constants-requires c = rest_printable c.elements-values.result.now c.behind_first-rest.result.now _ c.elements-values.ensures c.behind_first-rest.ensures c.requires.printable

pub invariant_of-result : goal.invariant_of-result
invariant_of-result c = record {
  printable = printable_part 0 _ _ c.in_ok-input.input c.elements-values.ensures c.requires.printable (c.in_ok-input.ensures ∙ c.as_bytes.ensures.value ∙ c.text_in-input.ensures);
  few = rest_few c.elements-values.result.now c.behind_first-rest.result.now _ c.elements-values.ensures c.behind_first-rest.ensures c.requires.few c.in-Ok.values c.in-Ok.ensures;
}

pub returns-in-Err : goal.returns-in-Err
returns-in-Err c = input_fault c.args.entry c.elements-values.result.now c.behind_first-rest.result.now _ c.in-Err.error c.elements-values.ensures c.behind_first-rest.ensures c.in-Err.ensures
