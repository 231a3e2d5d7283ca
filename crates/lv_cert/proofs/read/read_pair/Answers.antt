use Rattle.std.proofs.Common.{true, false, codes, arith}
use Rattle.std.proofs.lemmas.Result.{err_from_is_err_and}
use Rattle.lv_cert.specs.Parts.{wide}
use Rattle.lv_cert.specs.Sections.{pair_rest}
use Rattle.lv_cert.proofs.Leading.{leads_trans, fails_on, fails_head}
use Rattle.lv_cert.proofs.Combining.{heads_after, heads_both, lead_after, lead_both, unique_fixed}
use Rattle.lv_cert.proofs.Facts.{unique_wide, has_wide}
use Rattle.lv_cert.proofs.Reading.{got}
use Rattle.lv_cert.proofs.read.read_pair.Goals as goal

pub returns-in_err-expect : goal.returns-in_err-expect
returns-in_err-expect c =
    let p = err_from_is_err_and c.from_residual.result c.from_residual.ensures.1 in
    rw (p.1, p.2) (fails_head c.args.input.now (heads_after (codes "pair") false pair_rest ((0, 0), (omega arith, omega arith)))
    (unique_fixed (codes "pair") false) c.in_err-expect.field-0.0 c.in_err-expect.ensures)

pub returns-in_err-left : goal.returns-in_err-left
returns-in_err-left c =
    let p = err_from_is_err_and c.from_residual-in_err-left.result c.from_residual-in_err-left.ensures.1 in
    let l = lead_after (codes "pair") false pair_rest c.in_ok-expect.ensures.3 in
    rw (p.1, p.2) (fails_on l c.in_err-left.field-0.0 (fails_head c.expect.new.self
    (heads_both (wide false) (λ _. wide true) (λ a f. has_wide true)) (unique_wide false) c.in_err-left.field-0.0 c.in_err-left.ensures))

pub returns-in_err-right : goal.returns-in_err-right
returns-in_err-right c =
    let p = err_from_is_err_and c.from_residual-in_err-right.result c.from_residual-in_err-right.ensures.1 in
    let l = lead_after (codes "pair") false pair_rest c.in_ok-expect.ensures.3 in
    let g = got (wide false) c.in_ok-left.left _ _ c.in_ok-left.ensures in
    let m = leads_trans l (lead_both (wide false) (λ _. wide true) (unique_wide false) c.in_ok-left.left g.0 g.1) in
    rw (p.1, p.2) (fails_on m c.in_err-right.field-0.0 c.in_err-right.ensures)
