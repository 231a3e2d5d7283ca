use Rattle.std.proofs.Common.{true, false, codes, arith}
use Rattle.std.proofs.lemmas.Result.{err_from_is_err_and}
use Rattle.lv_cert.specs.Parts.{numeral}
use Rattle.lv_cert.specs.Sections.{pairs, first_rest}
use Rattle.lv_cert.proofs.Leading.{leads_trans, fails_on, fails_head, reads_on}
use Rattle.lv_cert.proofs.Combining.{heads_after, heads_both, lead_after, lead_both, unique_fixed}
use Rattle.lv_cert.proofs.Facts.{unique_numeral, has_pairs, has_first}
use Rattle.lv_cert.specs.Whole.{ShowsPairs}
use Rattle.lv_cert.proofs.read.read_first.Goals as goal

pub returns-in_err-expect : goal.returns-in_err-expect
returns-in_err-expect c =
    let p = err_from_is_err_and c.from_residual.result c.from_residual.ensures.1 in
    rw (p.1, p.2) (fails_head c.args.input.now (heads_after (codes "first") false (first_rest c.args.count) (has_first c.args.count))
    (unique_fixed (codes "first") false) c.in_err-expect.field-0.0 c.in_err-expect.ensures)

pub returns-in_err-number : goal.returns-in_err-number
returns-in_err-number c =
    let p = err_from_is_err_and c.from_residual-in_err-number.result c.from_residual-in_err-number.ensures.1 in
    let l = lead_after (codes "first") false (first_rest c.args.count) c.in_ok-expect.ensures.3 in
    rw (p.1, p.2) (fails_on l c.in_err-number.field-0.0 (fails_head c.expect.new.self
    (heads_both (numeral c.args.count c.args.count true) (λ _. pairs c.args.count) (λ a f. has_pairs c.args.count))
    (unique_numeral c.args.count c.args.count true (omega arith)) c.in_err-number.field-0.0 c.in_err-number.ensures))

pub returns : goal.returns
returns c =
    let l = lead_after (codes "first") false (first_rest c.args.count) c.in_ok-expect.ensures.3 in
    let h = c.in_ok-number.ensures in
    let m = leads_trans l (lead_both (numeral c.args.count c.args.count true) (λ _. pairs c.args.count) (unique_numeral c.args.count c.args.count true (omega arith)) h.0 h.2 h.3) in
    reads_on c.read_pairs.new.input m (λ v a. ShowsPairs v a.1) ShowsPairs (λ r b h. h) c.read_pairs.result c.read_pairs.ensures
