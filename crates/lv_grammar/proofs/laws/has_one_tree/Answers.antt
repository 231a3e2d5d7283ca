use Rattle.std.proofs.Common.{refl}
use Rattle.lv_grammars.proofs.FactsOf.{facts_of}
use Rattle.lv_grammar.specs.Shapes.{base, table}
use Rattle.lv_grammar.specs.Leaves.{all, limits}
use Rattle.lv_grammar.specs.Rules.{source_rule}
use Rattle.lv_grammar.proofs.Settings.{setting}
use Rattle.lv_grammar.proofs.laws.has_one_tree.Goals as goal

pub returns : goal.returns
returns c = λ text ts o p x y a b. (facts_of base table (all text) (setting text limits).base (setting text limits).language source_rule refl).one ts o p x y a b
