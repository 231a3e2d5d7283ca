-- Laws of the grammar of the source.
use Rattle.std.specs.Prelude.{◌≡◌, ℕ, List, Bool}
use Rattle.lv_ast.specs.declared.item.Source.{Source}
use Rattle.lv_grammars.specs.Spelling.{IsSpelled}
use Rattle.lv_grammar.specs.Lexemes.{Lexeme}
use Rattle.lv_grammar.specs.Shapes.{base}
use Rattle.lv_grammar.specs.Leaves.{all}
use Rattle.lv_grammar.specs.Rules.{source_rule}

-- each list of tokens spells at most one source
abbrev pub HasOneTree : Type 0
HasOneTree =
    (text : List ℕ) (ts : List Lexeme) (o p : Bool) (x y : Source) → IsSpelled base (all text) source_rule ts o x → IsSpelled base (all text) source_rule ts p y → x ≡ y
