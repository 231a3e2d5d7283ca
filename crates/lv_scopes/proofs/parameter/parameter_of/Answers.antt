use Rattle.std.proofs.Common.{sym, subst, Err}
use Rattle.lv_const.specs.Constants.{entries_here}
use Rattle.lv_const.proofs.Declared.{entries-declared}
use Rattle.lv_scopes.specs.Parameters.{IsParameterAnswer}
use Rattle.lv_scopes.proofs.ParameterLaws.{narrow, none_any, range_told, some_any}
use Rattle.lv_scopes.proofs.parameter.parameter_of.Goals as goal

pub returns-in-None : goal.returns-in-None
returns-in-None c = record {
  at = λ around near. record {
    at = λ outside far. subst (λ o. IsParameterAnswer around outside c.args.signed o c.args.value.now c.args.place c.plain.result) (sym c.in-None.is)
        (none_any around outside c.args.signed c.args.value.now c.args.place c.plain.result (c.plain.ensures.at outside far));
  };
}

pub returns-in-Err : goal.returns-in-Err
returns-in-Err c = record {
  at = λ around near. record {
    at = λ outside far. subst (λ o. IsParameterAnswer around outside c.args.signed o c.args.value.now c.args.place (Err c.in-Err.error)) (sym c.in-Some.is)
        (range_told around outside c.args.signed c.args.value.now c.args.place c.in-Some.range c.in-Err.error (c.in-Err.ensures.at around near).wrong);
  };
}

pub returns-in-Ok : goal.returns-in-Ok
returns-in-Ok c = record {
  at = λ around near. record {
    at = λ outside far. subst (λ o. IsParameterAnswer around outside c.args.signed o c.args.value.now c.args.place c.sized.result) (sym c.in-Some.is)
        (some_any around outside c.args.signed c.args.value.now c.args.place c.in-Some.range (c.in-Ok.left, c.in-Ok.right)
        (c.in-Ok.ensures.at around near).right c.sized.result (c.sized.ensures.at outside far));
  };
}

pub sized-requires-clause-left_in : goal.sized-requires-clause-left_in
sized-requires-clause-left_in c = (c.in-Ok.ensures.at (entries_here c.args.here.now) (entries-declared c.args.here.now)).right.left

pub sized-requires-clause-right_in : goal.sized-requires-clause-right_in
sized-requires-clause-right_in c = (c.in-Ok.ensures.at (entries_here c.args.here.now) (entries-declared c.args.here.now)).right.right

pub sized-requires-clause-narrow : goal.sized-requires-clause-narrow
sized-requires-clause-narrow c =
    narrow (entries_here c.args.here.now) c.in-Some.range (c.in-Ok.left, c.in-Ok.right)
    (c.in-Ok.ensures.at (entries_here c.args.here.now) (entries-declared c.args.here.now)).right
