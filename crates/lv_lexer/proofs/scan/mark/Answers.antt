use Rattle.std.proofs.Common.{sym, ◌∙◌}
use Rattle.lv_lexer.proofs.Marks.{mark_three, mark_two, mark_one, mark_none}
use Rattle.lv_lexer.proofs.scan.mark.Goals as goal

pub returns-then-three : goal.returns-then-three
returns-then-three c = mark_three c.args.rest.now (sym c.is_long_mark-three.ensures ∙ c.if-three.true)

pub returns-then-two : goal.returns-then-two
returns-then-two c = mark_two c.args.rest.now (sym c.is_long_mark-three.ensures ∙ c.if-three.false) (sym c.is_long_mark-two.ensures ∙ c.if-two.true)

pub returns-then-one : goal.returns-then-one
returns-then-one c =
    mark_one c.args.rest.now (sym c.is_long_mark-three.ensures ∙ c.if-three.false) (sym c.is_long_mark-two.ensures ∙ c.if-two.false) (sym c.is_mark_front-one.ensures ∙ c.if-one.true)

pub returns-else-one : goal.returns-else-one
returns-else-one c =
    mark_none c.args.rest.now (sym c.is_long_mark-three.ensures ∙ c.if-three.false) (sym c.is_long_mark-two.ensures ∙ c.if-two.false) (sym c.is_mark_front-one.ensures ∙ c.if-one.false)
