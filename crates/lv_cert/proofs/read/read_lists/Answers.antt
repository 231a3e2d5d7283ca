use Rattle.std.proofs.Common.{arith}
use Rattle.std.proofs.lemmas.Result.{err_from_is_err_and}
use Rattle.lv_cert.specs.Sections.{kept_part, first_part, inputs_part}
use Rattle.lv_cert.proofs.Leading.{leads_trans, fails_on, fails_head, moves_trans}
use Rattle.lv_cert.proofs.Combining.{heads_both, lead_both}
use Rattle.lv_cert.proofs.Facts.{unique_kept, unique_first, has_inputs_part}
use Rattle.lv_cert.specs.Whole.{states_part}
use Rattle.lv_cert.proofs.Facts.{has_states}
use Rattle.lv_cert.proofs.read.read_lists.Goals as goal

pub returns-in_err-kept : goal.returns-in_err-kept
returns-in_err-kept c =
    let p = err_from_is_err_and c.from_residual.result c.from_residual.ensures.1 in
    rw (p.1, p.2) (fails_head c.args.input.now (heads_both (kept_part c.args.shape.candidates) (λ _. states_part c.args.shape) (λ a f. has_states c.args.shape)) (unique_kept c.args.shape.candidates (omega arith)) c.in_err-kept.field-0.0 c.in_err-kept.ensures)

pub returns-in_err-states : goal.returns-in_err-states
returns-in_err-states c =
    let p = err_from_is_err_and c.from_residual-in_err-states.result c.from_residual-in_err-states.ensures.1 in
    let h = c.in_ok-kept.ensures in
    let l = lead_both (kept_part c.args.shape.candidates) (λ _. states_part c.args.shape) (unique_kept c.args.shape.candidates (omega arith)) h.0 h.2 h.3 in
    rw (p.1, p.2) (fails_on l c.in_err-states.field-0.0 (fails_head c.read_kept.new.input (heads_both (first_part c.args.shape.registers) (λ _. inputs_part c.args.shape.inputs) (λ a f. has_inputs_part c.args.shape.inputs)) (unique_first c.args.shape.registers (omega arith)) c.in_err-states.field-0.0 c.in_err-states.ensures))

pub returns-in_err-values : goal.returns-in_err-values
returns-in_err-values c =
    let p = err_from_is_err_and c.from_residual-in_err-values.result c.from_residual-in_err-values.ensures.1 in
    let h = c.in_ok-kept.ensures in
    let l = lead_both (kept_part c.args.shape.candidates) (λ _. states_part c.args.shape) (unique_kept c.args.shape.candidates (omega arith)) h.0 h.2 h.3 in
    let k = c.in_ok-states.ensures in
    let m = leads_trans l (lead_both (first_part c.args.shape.registers) (λ _. inputs_part c.args.shape.inputs) (unique_first c.args.shape.registers (omega arith)) k.0 k.2 k.3) in
    rw (p.1, p.2) (fails_on m c.in_err-values.field-0.0 c.in_err-values.ensures)

pub returns : goal.returns
returns c =
    let h = c.in_ok-kept.ensures in
    let k = c.in_ok-states.ensures in
    let v = c.in_ok-values.ensures in
    ((h.0, (k.0, v.0)), (h.1, k.1, v.1), (h.2, (k.2, v.2)), moves_trans h.3 (moves_trans k.3 v.3))
