use Rattle.std.proofs.Common.{true, sym, subst, ◌∙◌}
use Rattle.lv_source.specs.Sites.{expr_sites}
use Rattle.lv_source.proofs.Bridges.{two}
use Rattle.lv_const.specs.Answers.{Told}
use Rattle.lv_scopes.specs.Numbers.{IsNumber}
use Rattle.lv_scopes.specs.Ranges.{bounds_in}
use Rattle.lv_scopes.proofs.RangeLaws.{range_right, range_wrong, left_faulty, right_faulty}
use Rattle.lv_scopes.proofs.bounds.range_of.Goals as goal

pub returns-in-Err : goal.returns-in-Err
returns-in-Err c = record {
  at = λ here ok. left_faulty here c.args.range.now c.args.vector c.args.place c.in-Err.error
      (subst (λ e. Told here.early (expr_sites true here.names 0 e) c.in-Err.error) c.get.ensures (c.in-Err.ensures.at here ok).wrong);
}

pub returns-in-Err-number_of : goal.returns-in-Err-number_of
returns-in-Err-number_of c = record {
  at = λ here ok. right_faulty here c.args.range.now c.args.vector c.args.place c.in-Err-number_of.error
      (subst (λ e. Told here.early (expr_sites true here.names 0 e) c.in-Err-number_of.error) c.get-in-Ok.ensures
      (c.in-Err-number_of.ensures.at here ok).wrong);
}

pub returns-in-Some : goal.returns-in-Some
returns-in-Some c = record {
  at = λ here ok. range_right here c.args.range.now c.args.vector c.args.place c.in-Ok.left c.in-Ok-number_of.right
      (subst (λ e. IsNumber here 0 e c.in-Ok.left) c.get.ensures (c.in-Ok.ensures.at here ok).right)
      (subst (λ e. IsNumber here 0 e c.in-Ok-number_of.right) c.get-in-Ok.ensures (c.in-Ok-number_of.ensures.at here ok).right)
      c.in-Some.bounds
      (two (λ a b. bounds_in c.args.vector a b) _ _ _ _ (sym c.bound.ensures) (sym c.bound-in-Ok-number_of.ensures) ∙ sym c.bounds.ensures ∙ c.in-Some.is);
}

pub returns-in-None : goal.returns-in-None
returns-in-None c = record {
  at = λ here ok. range_wrong here c.args.range.now c.args.vector c.args.place c.in-Ok.left c.in-Ok-number_of.right
      (subst (λ e. IsNumber here 0 e c.in-Ok.left) c.get.ensures (c.in-Ok.ensures.at here ok).right)
      (subst (λ e. IsNumber here 0 e c.in-Ok-number_of.right) c.get-in-Ok.ensures (c.in-Ok-number_of.ensures.at here ok).right)
      (two (λ a b. bounds_in c.args.vector a b) _ _ _ _ (sym c.bound.ensures) (sym c.bound-in-Ok-number_of.ensures) ∙ sym c.bounds.ensures ∙ c.in-None.is);
}
