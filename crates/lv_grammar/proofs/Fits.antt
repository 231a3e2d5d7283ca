-- The grammar can be read by its next token alone.
use Rattle.std.specs.Prelude.{◌≡◌, true, refl}
use Rattle.lv_grammars.specs.Sets.{is_good, rule_fits}
use Rattle.lv_grammar.specs.Shapes.{base, table}
use Rattle.lv_grammar.specs.Shapes as shapes
use Rattle.lv_grammar.specs.Rules.{rules, source_rule}

pub target_fits : rule_fits base table shapes.target (rules shapes.target) ≡ true
target_fits = refl

pub stmt_fits : rule_fits base table shapes.stmt (rules shapes.stmt) ≡ true
stmt_fits = refl

pub item_fits : rule_fits base table shapes.item (rules shapes.item) ≡ true
item_fits = refl

pub block_item_fits : rule_fits base table shapes.block_item (rules shapes.block_item) ≡ true
block_item_fits = refl

pub source_is_good : is_good base table source_rule ≡ true
source_is_good = refl
