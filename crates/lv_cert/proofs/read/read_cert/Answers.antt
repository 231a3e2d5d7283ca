use Rattle.std.proofs.Common.{sym, ◌∙◌, subst, arith}
use Rattle.std.proofs.lemmas.Result.{err_from_is_err_and}
use Rattle.lv_cert.specs.Parts.{Moves, Fails}
use Rattle.lv_cert.specs.Whole.{cert_part}
use Rattle.lv_cert.proofs.Facts.{IsSmall}
use Rattle.lv_cert.specs.Grammar.{IsCertificate}
use Rattle.lv_cert.proofs.Judging.{refuse, read_all, read_only, more_wrong}
use Rattle.lv_cert.proofs.read.read_cert.Goals as goal

pub returns-in_err-cert-clause-err : goal.returns-in_err-cert-clause-err
returns-in_err-cert-clause-err c =
    let p = err_from_is_err_and c.from_residual.result c.from_residual.ensures.1 in
    let small : IsSmall c.args.shape = record { candidates = omega arith; registers = omega arith; inputs = omega arith } in
    rw (p.1, p.2) (refuse c.args.shape small c.args.bytes.now c.in_err-cert.field-0.0 (subst (λ s. Fails (cert_part c.args.shape) s c.in_err-cert.field-0.0) c.new-input.ensures c.in_err-cert.ensures))

pub returns-in-None-clause-ok : goal.returns-in-None-clause-ok
returns-in-None-clause-ok c =
    let small : IsSmall c.args.shape = record { candidates = omega arith; registers = omega arith; inputs = omega arith } in
    let h = c.in_ok-cert.ensures in
    let m = subst (λ s. Moves s c.read_all.new.input ((cert_part c.args.shape).words h.0)) c.new-input.ensures h.3 in
    subst (λ v. IsCertificate c.args.shape v c.args.bytes.now) (sym h.1) (read_all c.args.shape small c.args.bytes.now h.0 c.read_all.new.input h.2 m c.in-None.ensures)

pub returns-in-None-clause-only : goal.returns-in-None-clause-only
returns-in-None-clause-only c = λ v k.
    let small : IsSmall c.args.shape = record { candidates = omega arith; registers = omega arith; inputs = omega arith } in
    let h = c.in_ok-cert.ensures in
    let m = subst (λ s. Moves s c.read_all.new.input ((cert_part c.args.shape).words h.0)) c.new-input.ensures h.3 in
    (read_only c.args.shape small c.args.bytes.now h.0 c.read_all.new.input h.2 m v k).0 ∙ sym h.1

pub returns-in-Some-clause-err : goal.returns-in-Some-clause-err
returns-in-Some-clause-err c =
    let small : IsSmall c.args.shape = record { candidates = omega arith; registers = omega arith; inputs = omega arith } in
    let h = c.in_ok-cert.ensures in
    let m = subst (λ s. Moves s c.read_all.new.input ((cert_part c.args.shape).words h.0)) c.new-input.ensures h.3 in
    more_wrong c.args.shape small c.args.bytes.now h.0 c.read_all.new.input c.in-Some.line h.2 m c.in-Some.ensures.0 c.in-Some.ensures.1
