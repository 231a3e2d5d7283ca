use Rattle.std.proofs.Common.{sym, ap, ◌∙◌, true≢false}
use Rattle.lv_lexer.specs.Readings.{done}
use Rattle.std.proofs.lemmas.Result.{err_from_is_err_and}
use Rattle.lv_lexer.proofs.Folding.{fold_start, fold_more, fold_refused, fold_end, fold_open}
use Rattle.lv_lexer.proofs.folds.fold_list.Goals as goal

pub loop-token-init : goal.loop-token-init
loop-token-init c = fold_start c.args.text.now c.args.list.now (record { macros = c.new.result; branches = c.new-2.result; out = c.new-3.result }) c.new.ensures c.new-2.ensures c.new-3.ensures.list c.new-3.ensures.uses

pub loop-token-preserved : goal.loop-token-preserved
loop-token-preserved c =
    let f = c.loop-token.invariant in
    fold_more c.args.text.now c.args.list.now c.loop-token.rest.now c.in-Some.after.now c.skip-rest.result.now c.loop-token.fold c.read.new.self c.in-Some.token c.in_ok-taken.taken f c.in-Some.ensures c.skip-rest.ensures (c.in_ok-taken.ensures f.macros f.keeps)

pub returns-in_err-taken-clause-err : goal.returns-in_err-taken-clause-err
returns-in_err-taken-clause-err c =
    let p = err_from_is_err_and c.from_residual.result c.from_residual.ensures.1 in
    let f = c.loop-token.invariant in
    rw (p.1, p.2) (fold_refused c.args.text.now c.args.list.now c.loop-token.rest.now c.in-Some.after.now c.loop-token.fold c.in-Some.token c.in_err-taken.field-0.0 f c.in-Some.ensures (c.in_err-taken.ensures f.macros f.keeps))

pub returns-then-not-is_empty-clause-err : goal.returns-then-not-is_empty-clause-err
returns-then-not-is_empty-clause-err c =
    fold_open c.args.text.now c.args.list.now c.loop-token.rest.now c.loop-token.fold c.loop-token.invariant c.in_default.ensures (λ e. true≢false (sym (c.is_empty.ensures.1 e) ∙ c.if-not-is_empty.true))

pub returns-clause-ok : goal.returns-clause-ok
returns-clause-ok c = fold_end c.args.text.now c.args.list.now c.loop-token.rest.now c.loop-token.fold c.loop-token.invariant c.in_default.ensures (c.is_empty.ensures.0 c.if-not-is_empty.false) ∙ ap done (sym c.into_output.ensures)
