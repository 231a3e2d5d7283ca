use Rattle.lv_grammar.specs.Leaves.{all, within}
use Rattle.lv_plain.proofs.Productions.{source_plain}
use Rattle.lv_plain.proofs.spelled_names_are_plain.Goals as goal

pub returns : goal.returns
returns c = record {
  all = λ text ts o source h s. source_plain text ts (all text).leaves (all text).limits o source h s;
  low = λ text ts d o source h s. source_plain text ts (within text d).leaves (within text d).limits o source h s;
}
