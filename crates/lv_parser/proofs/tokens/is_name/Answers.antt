use Rattle.std.proofs.Common.{sym, ◌∙◌}
use Rattle.lv_grammar.specs.Shapes as shapes
use Rattle.lv_parser.proofs.Fronts.{stands_some, stands_none}
use Rattle.lv_parser.proofs.tokens.is_name.Goals as goal

pub returns-in-Some : goal.returns-in-Some
returns-in-Some c = c.fits_name.ensures ∙ sym (stands_some shapes.name c.args.tokens.now.text c.args.tokens.now.list c.args.at _ (sym c.in-Some.ensures.value))

pub returns-in-None : goal.returns-in-None
returns-in-None c = sym (stands_none shapes.name c.args.tokens.now.text c.args.tokens.now.list c.args.at (sym c.in-None.ensures.value))
