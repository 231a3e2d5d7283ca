use Rattle.std.proofs.Common.{true, false, codes}
use Rattle.std.proofs.lemmas.Result.{err_from_is_err_and}
use Rattle.lv_cert.specs.Sections.{set_part, named_part}
use Rattle.lv_cert.proofs.Leading.{leads_trans, fails_on, fails_head, reads_on}
use Rattle.lv_cert.proofs.Combining.{heads_after, lead_after, unique_fixed}
use Rattle.lv_cert.proofs.Facts.{has_set_rest}
use Rattle.lv_cert.specs.Whole.{ShowsQuery}
use Rattle.lv_cert.proofs.queries.read_query.Goals as goal

pub returns-in_err-expect : goal.returns-in_err-expect
returns-in_err-expect c =
    let p = err_from_is_err_and c.from_residual.result c.from_residual.ensures.1 in
    rw (p.1, p.2) (fails_head c.args.input.now (heads_after (codes "query") false (named_part c.args.name.now) has_set_rest) (unique_fixed (codes "query") false) c.in_err-expect.field-0.0 c.in_err-expect.ensures)

pub returns-in_err-expect-2 : goal.returns-in_err-expect-2
returns-in_err-expect-2 c =
    let p = err_from_is_err_and c.from_residual-in_err-expect-2.result c.from_residual-in_err-expect-2.ensures.1 in
    let l1 = lead_after (codes "query") false (named_part c.args.name.now) c.in_ok-expect.ensures.3 in
    rw (p.1, p.2) (fails_on l1 c.in_err-expect-2.field-0.0 (fails_head c.expect.new.self (heads_after c.args.name.now true set_part has_set_rest) (unique_fixed c.args.name.now true) c.in_err-expect-2.field-0.0 c.in_err-expect-2.ensures))

pub returns : goal.returns
returns c =
    let l1 = lead_after (codes "query") false (named_part c.args.name.now) c.in_ok-expect.ensures.3 in
    let l2 = leads_trans l1 (lead_after c.args.name.now true set_part c.in_ok-expect-2.ensures.3) in
    reads_on c.read_set.new.input l2 ShowsQuery ShowsQuery (λ r b h. h) c.read_set.result c.read_set.ensures
