use Rattle.std.proofs.Common.{◌+◌, true, false, codes, arith}
use Rattle.std.proofs.lemmas.Result.{err_from_is_err_and}
use Rattle.lv_cert.specs.Parts.{numeral}
use Rattle.lv_cert.specs.Sections.{clauses, most, lines_part, clauses_rest, count_rest, set_rest, cnf_part}
use Rattle.lv_cert.proofs.Leading.{leads_trans, fails_on, fails_head, reads_on}
use Rattle.lv_cert.proofs.Combining.{heads_after, heads_both, lead_after, lead_both, unique_fixed}
use Rattle.lv_cert.proofs.Facts.{unique_numeral, unique_clauses, has_lines, has_clauses_rest, has_count_rest, has_set_rest}
use Rattle.lv_cert.proofs.Reading.{got}
use Rattle.lv_cert.specs.Whole.{ShowsSteps, ShowsQuery}
use Rattle.lv_cert.proofs.queries.read_set.Goals as goal

pub returns-in_err-expect : goal.returns-in_err-expect
returns-in_err-expect c =
    let p = err_from_is_err_and c.from_residual.result c.from_residual.ensures.1 in
    rw (p.1, p.2) (fails_head c.args.input.now (heads_after (codes "p") false cnf_part has_set_rest) (unique_fixed (codes "p") false) c.in_err-expect.field-0.0 c.in_err-expect.ensures)

pub returns-in_err-expect-2 : goal.returns-in_err-expect-2
returns-in_err-expect-2 c =
    let p = err_from_is_err_and c.from_residual-in_err-expect-2.result c.from_residual-in_err-expect-2.ensures.1 in
    let l1 = lead_after (codes "p") false cnf_part c.in_ok-expect.ensures.3 in
    rw (p.1, p.2) (fails_on l1 c.in_err-expect-2.field-0.0 (fails_head c.expect.new.self (heads_after (codes "cnf") false set_rest has_set_rest) (unique_fixed (codes "cnf") false) c.in_err-expect-2.field-0.0 c.in_err-expect-2.ensures))

pub returns-in_err-vars : goal.returns-in_err-vars
returns-in_err-vars c =
    let p = err_from_is_err_and c.from_residual-in_err-vars.result c.from_residual-in_err-vars.ensures.1 in
    let l1 = lead_after (codes "p") false cnf_part c.in_ok-expect.ensures.3 in
    let l2 = leads_trans l1 (lead_after (codes "cnf") false set_rest c.in_ok-expect-2.ensures.3) in
    rw (p.1, p.2) (fails_on l2 c.in_err-vars.field-0.0 (fails_head c.expect-2.new.self (heads_both (numeral 0 most false) count_rest (λ a f. has_count_rest a)) (unique_numeral 0 most false (omega arith)) c.in_err-vars.field-0.0 c.in_err-vars.ensures))

pub returns-in_err-count : goal.returns-in_err-count
returns-in_err-count c =
    let p = err_from_is_err_and c.from_residual-in_err-count.result c.from_residual-in_err-count.ensures.1 in
    let l1 = lead_after (codes "p") false cnf_part c.in_ok-expect.ensures.3 in
    let l2 = leads_trans l1 (lead_after (codes "cnf") false set_rest c.in_ok-expect-2.ensures.3) in
    let g = got (numeral 0 most false) c.in_ok-vars.vars _ _ c.in_ok-vars.ensures in
    let l3 = leads_trans l2 (lead_both (numeral 0 most false) count_rest (unique_numeral 0 most false (omega arith)) c.in_ok-vars.vars g.0 g.1) in
    rw (p.1, p.2) (fails_on l3 c.in_err-count.field-0.0 (fails_head c.number.new.self (heads_both (numeral 0 most true) (clauses_rest c.in_ok-vars.vars) (λ a f. has_clauses_rest c.in_ok-vars.vars a)) (unique_numeral 0 most true (omega arith)) c.in_err-count.field-0.0 c.in_err-count.ensures))

pub returns-in_err-skip_clauses : goal.returns-in_err-skip_clauses
returns-in_err-skip_clauses c =
    let p = err_from_is_err_and c.from_residual-in_err-skip_clauses.result c.from_residual-in_err-skip_clauses.ensures.1 in
    let l1 = lead_after (codes "p") false cnf_part c.in_ok-expect.ensures.3 in
    let l2 = leads_trans l1 (lead_after (codes "cnf") false set_rest c.in_ok-expect-2.ensures.3) in
    let g = got (numeral 0 most false) c.in_ok-vars.vars _ _ c.in_ok-vars.ensures in
    let l3 = leads_trans l2 (lead_both (numeral 0 most false) count_rest (unique_numeral 0 most false (omega arith)) c.in_ok-vars.vars g.0 g.1) in
    let k = got (numeral 0 most true) c.in_ok-count.count _ _ c.in_ok-count.ensures in
    let l4 = leads_trans l3 (lead_both (numeral 0 most true) (clauses_rest c.in_ok-vars.vars) (unique_numeral 0 most true (omega arith)) c.in_ok-count.count k.0 k.1) in
    rw (p.1, p.2) (fails_on l4 c.in_err-skip_clauses.field-0.0 (fails_head c.number-2.new.self (heads_both (clauses c.in_ok-vars.vars c.in_ok-count.count) (λ cs. lines_part c.in_ok-vars.vars (c.in_ok-count.count + 1)) (λ a f. has_lines c.in_ok-vars.vars (c.in_ok-count.count + 1)))
    (unique_clauses c.in_ok-vars.vars c.in_ok-count.count (omega (arith, g.0.1))) c.in_err-skip_clauses.field-0.0 c.in_err-skip_clauses.ensures))

pub returns : goal.returns
returns c =
    let l1 = lead_after (codes "p") false cnf_part c.in_ok-expect.ensures.3 in
    let l2 = leads_trans l1 (lead_after (codes "cnf") false set_rest c.in_ok-expect-2.ensures.3) in
    let g = got (numeral 0 most false) c.in_ok-vars.vars _ _ c.in_ok-vars.ensures in
    let l3 = leads_trans l2 (lead_both (numeral 0 most false) count_rest (unique_numeral 0 most false (omega arith)) c.in_ok-vars.vars g.0 g.1) in
    let k = got (numeral 0 most true) c.in_ok-count.count _ _ c.in_ok-count.ensures in
    let l4 = leads_trans l3 (lead_both (numeral 0 most true) (clauses_rest c.in_ok-vars.vars) (unique_numeral 0 most true (omega arith)) c.in_ok-count.count k.0 k.1) in
    let h = c.in_ok-skip_clauses.ensures in
    let l5 = leads_trans l4 (lead_both (clauses c.in_ok-vars.vars c.in_ok-count.count) (λ cs. lines_part c.in_ok-vars.vars (c.in_ok-count.count + 1)) (unique_clauses c.in_ok-vars.vars c.in_ok-count.count (omega (arith, g.0.1))) h.0 h.2 h.3) in
    reads_on c.read_lines.new.input l5 ShowsQuery (λ v a. ShowsSteps v a.1) (λ r b h. h) c.read_lines.result c.read_lines.ensures
