use Rattle.std.proofs.Common.{sym, ap, ◌∙◌}
use Rattle.lv_repeats.proofs.Numbered.{some_number, direction_in, group_direction, has_some}
use Rattle.lv_repeats.proofs.directions.has_direction.Goals as goal

pub returns-in-None : goal.returns-in-None
returns-in-None c = λ ds h.
    ap (λ o. some_number (direction_in o)) (sym c.in-None.is) ∙ group_direction ds c.args.name.now c.find.result (c.find.ensures ds h)

pub returns-in-Some : goal.returns-in-Some
returns-in-Some c = λ ds h.
    c.is_some.ensures ∙ has_some c.in-Some.group.direction ∙ ap (λ o. some_number (direction_in o)) (sym c.in-Some.is) ∙
    group_direction ds c.args.name.now c.find.result (c.find.ensures ds h)
