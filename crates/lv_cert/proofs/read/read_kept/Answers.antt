use Rattle.std.proofs.Common.{◌≡◌, true, false, codes, arith}
use Rattle.std.proofs.lemmas.Result.{err_from_is_err_and}
use Rattle.lv_cert.specs.Parts.{numeral}
use Rattle.lv_cert.specs.Sections.{keeps, kept_rest}
use Rattle.lv_cert.proofs.Leading.{leads_trans, fails_on, fails_head, reads_on}
use Rattle.lv_cert.proofs.Combining.{heads_after, heads_both, lead_after, lead_both, unique_fixed}
use Rattle.lv_cert.proofs.Facts.{unique_numeral, has_kept, has_keeps}
use Rattle.lv_cert.proofs.Reading.{got}
use Rattle.lv_cert.proofs.read.read_kept.Goals as goal

pub returns-in_err-expect : goal.returns-in_err-expect
returns-in_err-expect c =
    let p = err_from_is_err_and c.from_residual.result c.from_residual.ensures.1 in
    rw (p.1, p.2) (fails_head c.args.input.now (heads_after (codes "kept") false (kept_rest c.args.count) (has_kept c.args.count))
    (unique_fixed (codes "kept") false) c.in_err-expect.field-0.0 c.in_err-expect.ensures)

pub returns-in_err-total : goal.returns-in_err-total
returns-in_err-total c =
    let p = err_from_is_err_and c.from_residual-in_err-total.result c.from_residual-in_err-total.ensures.1 in
    let l = lead_after (codes "kept") false (kept_rest c.args.count) c.in_ok-expect.ensures.3 in
    rw (p.1, p.2) (fails_on l c.in_err-total.field-0.0 (fails_head c.expect.new.self
    (heads_both (numeral 0 c.args.count true) (keeps c.args.count) (λ a f. has_keeps c.args.count a 0 (omega (arith, f.1))))
    (unique_numeral 0 c.args.count true (omega arith)) c.in_err-total.field-0.0 c.in_err-total.ensures))

pub returns : goal.returns
returns c =
    let l = lead_after (codes "kept") false (kept_rest c.args.count) c.in_ok-expect.ensures.3 in
    let g = got (numeral 0 c.args.count true) c.in_ok-total.total c.expect.new.self c.number.new.self c.in_ok-total.ensures in
    let m = leads_trans l (lead_both (numeral 0 c.args.count true) (keeps c.args.count) (unique_numeral 0 c.args.count true (omega arith)) c.in_ok-total.total g.0 g.1) in
    reads_on c.read_keeps.new.input m (λ v a. v.items ≡ a.1) (λ v a. v.items ≡ a) (λ r b h. h) c.read_keeps.result c.read_keeps.ensures
