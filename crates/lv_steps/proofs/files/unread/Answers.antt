use Rattle.std.proofs.Common.{sym, subst}
use Rattle.lv_io.specs.Files.{IsAbsent, IsLonger}
use Rattle.lv_steps.proofs.files.unread.Goals as goal

pub returns-in-Missing : goal.returns-in-Missing
returns-in-Missing c = λ limit before after cause.
    let h = rw c.in-Missing.is at cause in
    (c.in-Ok.ensures, h.0, subst (λ z. IsAbsent z before.files) (sym c.in-Ok.ensures) h.1)

pub returns-in-TooLong : goal.returns-in-TooLong
returns-in-TooLong c = λ limit before after cause.
    let h = rw c.in-TooLong.is at cause in
    (c.in-Ok.ensures, h.0, subst (λ z. IsLonger z limit before.files) (sym c.in-Ok.ensures) h.1)

pub returns-in-Failed : goal.returns-in-Failed
returns-in-Failed c = λ limit before after cause.
    let h = rw c.in-Failed.is at cause in
    (c.in-Ok.ensures, h)
