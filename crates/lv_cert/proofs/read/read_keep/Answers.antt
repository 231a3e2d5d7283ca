use Rattle.std.proofs.Common.{◌≡◌, true, false, codes, arith}
use Rattle.std.proofs.lemmas.Result.{err_from_is_err_and}
use Rattle.lv_cert.specs.Parts.{numeral}
use Rattle.lv_cert.proofs.Leading.{fails_head, reads_on}
use Rattle.lv_cert.proofs.Combining.{heads_after, lead_after, unique_fixed}
use Rattle.lv_cert.proofs.read.read_keep.Goals as goal

pub returns-in_err-expect : goal.returns-in_err-expect
returns-in_err-expect c =
    let p = err_from_is_err_and c.from_residual.result c.from_residual.ensures.1 in
    rw (p.1, p.2) (fails_head c.args.input.now (heads_after (codes "keep") false (numeral c.args.low c.args.high true) (c.args.low, (omega arith, c.requires)))
    (unique_fixed (codes "keep") false) c.in_err-expect.field-0.0 c.in_err-expect.ensures)

pub returns : goal.returns
returns c =
    let l = lead_after (codes "keep") false (numeral c.args.low c.args.high true) c.in_ok-expect.ensures.3 in
    reads_on c.number.new.self l (λ n a. n ≡ a) (λ n a. n ≡ a) (λ r b h. h) c.number.result c.number.ensures
