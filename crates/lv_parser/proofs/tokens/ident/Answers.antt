use Rattle.std.proofs.Common.{sym, ◌∙◌}
use Rattle.lv_parser.proofs.Idents.{ident_read, ident_lacking, ident_refused}
use Rattle.lv_parser.proofs.tokens.ident.Goals as goal

pub returns-in_default-clause-answer : goal.returns-in_default-clause-answer
returns-in_default-clause-answer c = λ d. ident_lacking d c.args.at c.requires (sym c.in_default.ensures.value)

pub returns-then-not-fits_name-clause-answer : goal.returns-then-not-fits_name-clause-answer
returns-then-not-fits_name-clause-answer c = λ d. ident_refused d c.args.at _ c.requires (sym c.in-Some.ensures.value) (sym c.fits_name.ensures ∙ c.if-not-fits_name.true)

pub returns-clause-answer : goal.returns-clause-answer
returns-clause-answer c = λ d.
    ident_read d c.args.at _ _ (sym c.in-Some.ensures.value) (sym c.fits_name.ensures ∙ c.if-not-fits_name.false) (c.in_ok-name.ensures ∙ c.name_of.ensures)
