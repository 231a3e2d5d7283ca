use Rattle.std.proofs.Common.{true, false, codes, arith}
use Rattle.std.proofs.lemmas.Result.{err_from_is_err_and}
use Rattle.lv_cert.specs.Parts.{numeral}
use Rattle.lv_cert.specs.Sections.{steps, most, lines_rest}
use Rattle.lv_cert.proofs.Leading.{leads_trans, fails_on, fails_head, reads_on}
use Rattle.lv_cert.proofs.Combining.{heads_after, heads_both, lead_after, lead_both, unique_fixed}
use Rattle.lv_cert.proofs.Facts.{unique_numeral, has_steps, has_lines}
use Rattle.lv_cert.proofs.Reading.{got}
use Rattle.lv_cert.specs.Whole.{ShowsSteps}
use Rattle.lv_cert.proofs.queries.read_lines.Goals as goal

pub returns-in_err-expect : goal.returns-in_err-expect
returns-in_err-expect c =
    let p = err_from_is_err_and c.from_residual.result c.from_residual.ensures.1 in
    rw (p.1, p.2) (fails_head c.args.input.now (heads_after (codes "lines") false (lines_rest c.args.vars c.args.id) (has_lines c.args.vars c.args.id))
    (unique_fixed (codes "lines") false) c.in_err-expect.field-0.0 c.in_err-expect.ensures)

pub returns-in_err-count : goal.returns-in_err-count
returns-in_err-count c =
    let p = err_from_is_err_and c.from_residual-in_err-count.result c.from_residual-in_err-count.ensures.1 in
    let l = lead_after (codes "lines") false (lines_rest c.args.vars c.args.id) c.in_ok-expect.ensures.3 in
    rw (p.1, p.2) (fails_on l c.in_err-count.field-0.0 (fails_head c.expect.new.self (heads_both (numeral 0 most true) (steps c.args.vars c.args.id) (λ a f. has_steps c.args.vars c.args.id a))
    (unique_numeral 0 most true (omega arith)) c.in_err-count.field-0.0 c.in_err-count.ensures))

pub returns : goal.returns
returns c =
    let l = lead_after (codes "lines") false (lines_rest c.args.vars c.args.id) c.in_ok-expect.ensures.3 in
    let g = got (numeral 0 most true) c.in_ok-count.count c.expect.new.self c.number.new.self c.in_ok-count.ensures in
    let m = leads_trans l (lead_both (numeral 0 most true) (steps c.args.vars c.args.id) (unique_numeral 0 most true (omega arith)) c.in_ok-count.count g.0 g.1) in
    reads_on c.read_steps.new.input m (λ v a. ShowsSteps v a.1) ShowsSteps (λ r b h. h) c.read_steps.result c.read_steps.ensures
