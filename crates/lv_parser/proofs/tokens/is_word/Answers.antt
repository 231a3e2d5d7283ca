use Rattle.std.proofs.Common.{sym, ◌∙◌}
use Rattle.lv_grammar.specs.Shapes as shapes
use Rattle.lv_parser.proofs.Fronts.{stands_some, stands_none}
use Rattle.lv_parser.proofs.tokens.is_word.Goals as goal

pub returns-in-Some-clause-answer : goal.returns-in-Some-clause-answer
returns-in-Some-clause-answer c =
    c.fits_word.ensures ∙ sym (stands_some (shapes.word c.args.bytes.now) c.args.tokens.now.text c.args.tokens.now.list c.args.at _ (sym c.in-Some.ensures.value))

pub returns-in-None-clause-answer : goal.returns-in-None-clause-answer
returns-in-None-clause-answer c = sym (stands_none (shapes.word c.args.bytes.now) c.args.tokens.now.text c.args.tokens.now.list c.args.at (sym c.in-None.ensures.value))
