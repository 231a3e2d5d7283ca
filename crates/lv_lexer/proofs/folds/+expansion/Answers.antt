use Rattle.std.proofs.Common.{◌-◌, ◌+◌, sym, ap, ◌∙◌, arith, subst, drop}
use Rattle.std.proofs.lemmas.Result.{err_from_is_err_and}
use Rattle.lv_ast.specs.Folds.{in_order, expansion, followed, body_of}
use Rattle.lv_lexer.specs.Readings.{done, used, Reads, IsFoldAnswer}
use Rattle.lv_lexer.proofs.Followed.{reads_then, refused_first, followed_assoc}
use Rattle.lv_lexer.proofs.Lines.{token_at}
use Rattle.lv_lexer.proofs.Expansions.{expands_plain, expands_too_deep, expands_unknown, expands_body, order_at, order_end}
use Rattle.lv_lexer.proofs.folds.+expansion.Goals as goal

pub expand-returns-then-not-is_tick : goal.expand-returns-then-not-is_tick
expand-returns-then-not-is_tick t c = λ ms k.
    subst (λ r. Reads c.args.out.now r c.give.result c.give.new.self) (expands_plain c.args.text.now ms c.args.nested c.args.token (sym c.is_tick.ensures ∙ c.if-not-is_tick.true)) c.give.ensures

pub expand-returns-then-nested-eq0 : goal.expand-returns-then-nested-eq0
expand-returns-then-nested-eq0 t c = λ ms k. expands_too_deep c.args.text.now ms c.args.nested c.args.token c.args.out.now c.if-nested-eq0.true (sym c.is_tick.ensures ∙ c.if-not-is_tick.false)

pub expand-returns-in_err-count_use-in-Some : goal.expand-returns-in_err-count_use-in-Some
expand-returns-in_err-count_use-in-Some t c =
    let p = err_from_is_err_and c.from_residual.result c.from_residual.ensures.1 in
    rw (p.1, p.2) (λ ms k.
    subst (λ r. IsFoldAnswer (followed (done c.args.out.now) r) c.in_err-count_use-in-Some.field-0.0)
    (expands_body c.args.text.now ms c.args.nested c.args.token c.in-Some.body.now c.if-nested-eq0.false (sym c.is_tick.ensures ∙ c.if-not-is_tick.false) (c.in-Some.ensures ∙ (k c.word.result.now ∙ ap (body_of ms) c.word.ensures)))
    (refused_first c.args.out.now used (in_order (expansion c.args.text.now ms (c.args.nested - 1)) c.in-Some.body.now) c.in_err-count_use-in-Some.field-0.0 c.in_err-count_use-in-Some.ensures))

pub expand-returns-in-None : goal.expand-returns-in-None
expand-returns-in-None t c = λ ms k.
    expands_unknown c.args.text.now ms c.args.nested c.args.token c.args.out.now c.if-nested-eq0.false (sym c.is_tick.ensures ∙ c.if-not-is_tick.false) (c.in-None.ensures ∙ (k c.word.result.now ∙ ap (body_of ms) c.word.ensures))

pub expand-returns-in_ok-count_use-in-Some : goal.expand-returns-in_ok-count_use-in-Some
expand-returns-in_ok-count_use-in-Some t c = λ ms k.
    let text = c.args.text.now in
    let body = c.in-Some.body.now in
    subst (λ r. Reads c.args.out.now r c.expand_body.result c.expand_body.new.out)
    (expands_body text ms c.args.nested c.args.token body c.if-nested-eq0.false (sym c.is_tick.ensures ∙ c.if-not-is_tick.false) (c.in-Some.ensures ∙ (k c.word.result.now ∙ ap (body_of ms) c.word.ensures)))
    (reads_then c.args.out.now c.count_use.new.self c.expand_body.new.out used (in_order (expansion text ms (c.args.nested - 1)) body) c.expand_body.result c.in_ok-count_use-in-Some.ensures
    (subst (λ b. Reads c.count_use.new.self (in_order (expansion text ms (c.args.nested - 1)) b) c.expand_body.result c.expand_body.new.out) c.as_slice.ensures (c.expand_body.ensures ms k)))

pub expand_body-returns-in_err-expand : goal.expand_body-returns-in_err-expand
expand_body-returns-in_err-expand t c =
    let p = err_from_is_err_and c.from_residual.result c.from_residual.ensures.1 in
    rw (p.1, p.2) (λ ms k.
    let f = expansion c.args.text.now ms c.args.nested in
    let i = c.loop-token.token-index in
    let body = c.args.body.now in
    let e = c.in_err-expand.field-0.0 in
    subst (λ x. IsFoldAnswer x e) (ap (followed (done c.loop-token.out)) (order_at f body i c.loop-token-test.true) ∙ sym (c.loop-token.invariant ms k))
    (refused_first c.loop-token.out (f (token_at body i)) (in_order f (drop (i + 1) body)) e (c.in_err-expand.ensures ms k)))

pub expand_body-loop-token-preserved : goal.expand_body-loop-token-preserved
expand_body-loop-token-preserved t c = λ ms k.
    let f = expansion c.args.text.now ms c.args.nested in
    let i = c.loop-token.token-index in
    let body = c.args.body.now in
    let rest = in_order f (drop (i + 1) body) in
    c.loop-token.invariant ms k
    ∙ (ap (followed (done c.loop-token.out)) (sym (order_at f body i c.loop-token-test.true))
    ∙ (sym (followed_assoc (done c.loop-token.out) (f (token_at body i)) rest) ∙ ap (λ x. followed x rest) (c.in_ok-expand.ensures ms k)))

pub expand_body-returns : goal.expand_body-returns
expand_body-returns t c = λ ms k. (c.loop-token.invariant ms k) ∙ order_end (expansion c.args.text.now ms c.args.nested) c.args.body.now c.loop-token.token-index (done c.loop-token.out) (omega arith)
