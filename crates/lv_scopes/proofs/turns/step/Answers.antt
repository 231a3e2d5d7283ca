use Rattle.std.proofs.Common.{inl, inr, sym, ◌∙◌}
use Rattle.lv_scopes.proofs.turns.step.Goals as goal

pub returns-in-Err : goal.returns-in-Err
returns-in-Err c = record { at = λ here ok. record { right = tt; wrong = inl (c.in-Err.ensures.at here ok).wrong } }

pub returns-in-Err-index_number : goal.returns-in-Err-index_number
returns-in-Err-index_number c = record {
  at = λ here ok. record {
    right = tt;
    wrong = inr
        (sym (c.in-Ok-false.ensures.at here ok).right.is ∙ c.in-Ok-false.field-0-test, (c.in-Err-index_number.ensures.at here ok).wrong);
  };
}
