use Rattle.std.proofs.Common.{rules, ◌≡◌, subst, Some, arith, IsTrue, false}
use Rattle.std.specs.Prelude.{slice_get}
use Rattle.lv_first.specs.FirstForm.{is_in}
use Rattle.lv_first.proofs.Joins.{register_signal, input_signal}
use Rattle.lv_first.proofs.signals.Signals.number.Goals as goal

pub returns-in-Some : goal.returns-in-Some
returns-in-Some c =
    let empty : IsTrue c.is_empty.result = search rules in
    let at : slice_get c.args.self.now.registers c.in-Some.k ≡ Some c.args.path.now.name =
    subst (λ z. slice_get z c.in-Some.k ≡ Some c.args.path.now.name) c.as_slice.ensures c.in-Some.ensures in
    register_signal _ _ c.args.path.now c.in-Some.k (c.is_empty.ensures.0 empty) at

pub returns-in_ok-k-in-None : goal.returns-in_ok-k-in-None
returns-in_ok-k-in-None c =
    let empty : IsTrue c.is_empty.result = search rules in
    let other : is_in c.args.self.now.registers c.args.path.now.name ≡ false =
    subst (λ z. is_in z c.args.path.now.name ≡ false) c.as_slice.ensures c.in-None.ensures in
    let at : slice_get c.args.self.now.inputs c.in_ok-k-in-None.k ≡ Some c.args.path.now.name =
    subst (λ z. slice_get z c.in_ok-k-in-None.k ≡ Some c.args.path.now.name) c.as_slice-in-None.ensures c.in_ok-k-in-None.ensures in
    input_signal _ _ c.args.path.now _ c.in_ok-k-in-None.k (c.is_empty.ensures.0 empty) other (omega (arith, c.len.ensures)) at
