use Rattle.std.proofs.Common.{refl, sym, ◌∙◌, codes}
use Rattle.lv_grammars.specs.Grammar.{call}
use Rattle.lv_grammar.specs.Shapes as shapes
use Rattle.lv_grammar.specs.Rules as rules
use Rattle.lv_parser.proofs.Paths.{begin, through, last, taken, take_ends}
use Rattle.lv_parser.proofs.StatementPaths.{stmts_none}
use Rattle.lv_parser.proofs.statements.no_stmts.Goals as goal

pub returns-then-is_word-clause-answer : goal.returns-then-is_word-clause-answer
returns-then-is_word-clause-answer c = λ d h k.
    last (through (begin rules.stmts_to_end c.args.at refl))
    (take_ends refl refl (taken (call shapes.stmt) (shapes.word (codes "end")) c.args.at c.new.ensures) (sym c.is_word.ensures.answer ∙ c.if-is_word.true))

pub returns-else-is_word-clause-answer : goal.returns-else-is_word-clause-answer
returns-else-is_word-clause-answer c = λ d h k. stmts_none c.args.at c.begins_stmt.result c.refused.result k c.requires (sym c.is_word.ensures.answer ∙ c.if-is_word.false) c.begins_stmt.ensures c.refused.ensures
