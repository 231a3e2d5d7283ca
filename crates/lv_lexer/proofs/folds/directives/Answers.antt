use Rattle.std.proofs.Common.{◌≡◌, ◌≤◌, sym, ap, ◌∙◌, subst, true, None, arith}
use Rattle.std.proofs.lemmas.Result.{err_from_is_err_and}
use Rattle.lv_ast.specs.Folds.{reading_of, counted}
use Rattle.lv_ast.specs.TokenLists.{is_token, are_tokens}
use Rattle.lv_lexer.specs.Readings.{done, IsFoldAnswer}
use Rattle.lv_lexer.proofs.Followed.{no_fold_refusal, answer_refusal, answer_many}
use Rattle.lv_lexer.proofs.Whole.{reading_passes}
use Rattle.lv_lexer.proofs.folds.directives.Goals as goal

pub returns : goal.returns
returns c =
    let out = c.in_ok-out.out in
    let all : reading_of c.args.tokens.text c.args.tokens.list ≡ done out = (λ i. reading_of (sym c.bytes.ensures i) (sym c.as_slice.ensures i)) ∙ c.in_ok-out.ensures.ok in
    let unstopped : (reading_of c.args.tokens.text c.args.tokens.list).stop ≡ None = ap (λ r. r.stop) all in
    let few : counted (reading_of c.args.tokens.text c.args.tokens.list) ≤ 500000 = subst (λ r. counted r ≤ 500000) (sym all) out.few in
    record {
      text = c.into_text-text.ensures;
      list = c.into_list-list.ensures ∙ ap (λ r. r.tokens) (sym all);
      unstopped = unstopped;
      few = few;
      refused = tt;
      unrefused = no_fold_refusal _ unstopped few;
      many = λ m. omega (arith, m, few);
    }

pub returns-in_err-out-clause-refused : goal.returns-in_err-out-clause-refused
returns-in_err-out-clause-refused c =
    let p = err_from_is_err_and c.from_residual.result c.from_residual.ensures.1 in
    rw (p.1, p.2) (answer_refusal _ c.in_err-out.field-0.0 (subst (λ r. IsFoldAnswer r c.in_err-out.field-0.0) (λ i. reading_of (c.bytes.ensures i) (c.as_slice.ensures i)) c.in_err-out.ensures.err))

pub returns-in_err-out-clause-many : goal.returns-in_err-out-clause-many
returns-in_err-out-clause-many c = λ m.
    let p = err_from_is_err_and c.from_residual.result c.from_residual.ensures.1 in
    rw (p.1, p.2) (answer_many _ c.in_err-out.field-0.0 m (subst (λ r. IsFoldAnswer r c.in_err-out.field-0.0) (λ i. reading_of (c.bytes.ensures i) (c.as_slice.ensures i)) c.in_err-out.ensures.err))

pub invariant_of-result : goal.invariant_of-result
invariant_of-result c =
    let out = c.in_ok-out.out in
    let all : reading_of c.args.tokens.text c.args.tokens.list ≡ done out = (λ i. reading_of (sym c.bytes.ensures i) (sym c.as_slice.ensures i)) ∙ c.in_ok-out.ensures.ok in
    record {
      whole =
          subst (λ t. are_tokens t c.into_list-list.result ≡ true) (sym c.into_text-text.ensures)
          (subst (λ l. are_tokens c.args.tokens.text l ≡ true) (sym (c.into_list-list.ensures ∙ ap (λ r. r.tokens) (sym all)))
          (reading_passes (is_token c.args.tokens.text) c.args.tokens.text c.args.tokens.list c.args.tokens.whole));
    }
