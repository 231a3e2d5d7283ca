use Rattle.std.proofs.Common.{true, false, codes, arith}
use Rattle.std.proofs.lemmas.Result.{err_from_is_err_and}
use Rattle.lv_cert.specs.Parts.{fixed}
use Rattle.lv_cert.proofs.Leading.{leads_trans, fails_on, fails_head, moves_trans}
use Rattle.lv_cert.proofs.Combining.{heads_after, heads_both, lead_after, lead_both, unique_fixed, has_fixed}
use Rattle.lv_cert.specs.Whole.{lists_part, proofs_part, end_part, body_part, one_part}
use Rattle.lv_cert.proofs.Facts.{unique_lists, unique_proofs, has_end, has_body, IsSmall}
use Rattle.lv_cert.proofs.read.read_all.Goals as goal

pub returns-in_err-expect : goal.returns-in_err-expect
returns-in_err-expect c =
    let p = err_from_is_err_and c.from_residual.result c.from_residual.ensures.1 in
    rw (p.1, p.2) (fails_head c.args.input.now (heads_after (codes "leave-certificate") false (one_part c.args.shape) (has_body c.args.shape)) (unique_fixed (codes "leave-certificate") false) c.in_err-expect.field-0.0 c.in_err-expect.ensures)

pub returns-in_err-expect-2 : goal.returns-in_err-expect-2
returns-in_err-expect-2 c =
    let p = err_from_is_err_and c.from_residual-in_err-expect-2.result c.from_residual-in_err-expect-2.ensures.1 in
    let l1 = lead_after (codes "leave-certificate") false (one_part c.args.shape) c.in_ok-expect.ensures.3 in
    rw (p.1, p.2) (fails_on l1 c.in_err-expect-2.field-0.0 (fails_head c.expect.new.self (heads_after (codes "1") true (body_part c.args.shape) (has_body c.args.shape)) (unique_fixed (codes "1") true) c.in_err-expect-2.field-0.0 c.in_err-expect-2.ensures))

pub returns-in_err-lists : goal.returns-in_err-lists
returns-in_err-lists c =
    let p = err_from_is_err_and c.from_residual-in_err-lists.result c.from_residual-in_err-lists.ensures.1 in
    let l1 = lead_after (codes "leave-certificate") false (one_part c.args.shape) c.in_ok-expect.ensures.3 in
    let l2 = leads_trans l1 (lead_after (codes "1") true (body_part c.args.shape) c.in_ok-expect-2.ensures.3) in
    let small : IsSmall c.args.shape = record { candidates = omega arith; registers = omega arith; inputs = omega arith } in
    rw (p.1, p.2) (fails_on l2 c.in_err-lists.field-0.0 (fails_head c.expect-2.new.self (heads_both (lists_part c.args.shape) (λ _. end_part) (λ a f. has_end)) (unique_lists c.args.shape small) c.in_err-lists.field-0.0 c.in_err-lists.ensures))

pub returns-in_err-proofs : goal.returns-in_err-proofs
returns-in_err-proofs c =
    let p = err_from_is_err_and c.from_residual-in_err-proofs.result c.from_residual-in_err-proofs.ensures.1 in
    let l1 = lead_after (codes "leave-certificate") false (one_part c.args.shape) c.in_ok-expect.ensures.3 in
    let l2 = leads_trans l1 (lead_after (codes "1") true (body_part c.args.shape) c.in_ok-expect-2.ensures.3) in
    let small : IsSmall c.args.shape = record { candidates = omega arith; registers = omega arith; inputs = omega arith } in
    let h = c.in_ok-lists.ensures in
    let l3 = leads_trans l2 (lead_both (lists_part c.args.shape) (λ _. end_part) (unique_lists c.args.shape small) h.0 h.2 h.3) in
    rw (p.1, p.2) (fails_on l3 c.in_err-proofs.field-0.0 (fails_head c.read_lists.new.input (heads_both proofs_part (λ _. fixed (codes "end") true) (λ a f. has_fixed (codes "end") true)) unique_proofs c.in_err-proofs.field-0.0 c.in_err-proofs.ensures))

pub returns-in_err-expect-3 : goal.returns-in_err-expect-3
returns-in_err-expect-3 c =
    let p = err_from_is_err_and c.from_residual-in_err-expect-3.result c.from_residual-in_err-expect-3.ensures.1 in
    let l1 = lead_after (codes "leave-certificate") false (one_part c.args.shape) c.in_ok-expect.ensures.3 in
    let l2 = leads_trans l1 (lead_after (codes "1") true (body_part c.args.shape) c.in_ok-expect-2.ensures.3) in
    let small : IsSmall c.args.shape = record { candidates = omega arith; registers = omega arith; inputs = omega arith } in
    let h = c.in_ok-lists.ensures in
    let l3 = leads_trans l2 (lead_both (lists_part c.args.shape) (λ _. end_part) (unique_lists c.args.shape small) h.0 h.2 h.3) in
    let k = c.in_ok-proofs.ensures in
    let l4 = leads_trans l3 (lead_both proofs_part (λ _. fixed (codes "end") true) unique_proofs k.0 k.2 k.3) in
    rw (p.1, p.2) (fails_on l4 c.in_err-expect-3.field-0.0 c.in_err-expect-3.ensures)

pub returns : goal.returns
returns c =
    let h = c.in_ok-lists.ensures in
    let k = c.in_ok-proofs.ensures in (
      (h.0, (k.0, tt)),
      c.joined.ensures h.0 k.0 h.1 k.1,
      (h.2, (k.2, tt)),
      moves_trans c.in_ok-expect.ensures.3 (moves_trans c.in_ok-expect-2.ensures.3 (moves_trans h.3 (moves_trans k.3 c.in_ok-expect-3.ensures.3))),
    )
