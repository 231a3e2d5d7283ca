use Rattle.std.proofs.Common.{codes}
use Rattle.std.proofs.lemmas.Result.{err_from_is_err_and}
use Rattle.lv_cert.specs.Sections.{query_part}
use Rattle.lv_cert.proofs.Leading.{leads_trans, fails_on, fails_head, moves_trans}
use Rattle.lv_cert.proofs.Combining.{heads_both, lead_both}
use Rattle.lv_cert.proofs.Facts.{has_query, unique_query}
use Rattle.lv_cert.specs.Whole.{two_part}
use Rattle.lv_cert.proofs.Facts.{has_two}
use Rattle.lv_cert.proofs.read.read_proofs.Goals as goal

pub returns-in_err-base : goal.returns-in_err-base
returns-in_err-base c =
    let p = err_from_is_err_and c.from_residual.result c.from_residual.ensures.1 in
    rw (p.1, p.2) (fails_head c.args.input.now (heads_both (query_part (codes "base")) (λ _. two_part) (λ a f. has_two)) (unique_query (codes "base")) c.in_err-base.field-0.0 c.in_err-base.ensures)

pub returns-in_err-step : goal.returns-in_err-step
returns-in_err-step c =
    let p = err_from_is_err_and c.from_residual-in_err-step.result c.from_residual-in_err-step.ensures.1 in
    let h = c.in_ok-base.ensures in
    let l = lead_both (query_part (codes "base")) (λ _. two_part) (unique_query (codes "base")) h.0 h.2 h.3 in
    rw (p.1, p.2) (fails_on l c.in_err-step.field-0.0 (fails_head c.read_query.new.input (heads_both (query_part (codes "step")) (λ _. query_part (codes "imply")) (λ a f. has_query (codes "imply"))) (unique_query (codes "step")) c.in_err-step.field-0.0 c.in_err-step.ensures))

pub returns-in_err-imply : goal.returns-in_err-imply
returns-in_err-imply c =
    let p = err_from_is_err_and c.from_residual-in_err-imply.result c.from_residual-in_err-imply.ensures.1 in
    let h = c.in_ok-base.ensures in
    let l = lead_both (query_part (codes "base")) (λ _. two_part) (unique_query (codes "base")) h.0 h.2 h.3 in
    let k = c.in_ok-step.ensures in
    let m = leads_trans l (lead_both (query_part (codes "step")) (λ _. query_part (codes "imply")) (unique_query (codes "step")) k.0 k.2 k.3) in
    rw (p.1, p.2) (fails_on m c.in_err-imply.field-0.0 c.in_err-imply.ensures)

pub returns : goal.returns
returns c =
    let h = c.in_ok-base.ensures in
    let k = c.in_ok-step.ensures in
    let v = c.in_ok-imply.ensures in
    ((h.0, (k.0, v.0)), (h.1, k.1, v.1), (h.2, (k.2, v.2)), moves_trans h.3 (moves_trans k.3 v.3))
