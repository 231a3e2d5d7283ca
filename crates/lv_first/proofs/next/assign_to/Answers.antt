use Rattle.std.proofs.Common.{rules, ◌≡◌, ◌++◌, sym, subst, Some, IsTrue}
use Rattle.std.specs.Prelude.{slice_get}
use Rattle.lv_first.specs.FirstForm.{scope_of}
use Rattle.lv_first.specs.Formulas.{truth}
use Rattle.lv_first.specs.Signals.{IsNext}
use Rattle.lv_first.proofs.Joins.{Means}
use Rattle.lv_first.proofs.Assigns.{next_after}
use Rattle.lv_first.proofs.next.assign_to.Goals as goal

pub returns-then-k-len : goal.returns-then-k-len
returns-then-k-len c = λ body place now.
    let Rs = c.args.signals.now.registers in
    let Is = c.args.signals.now.inputs in
    let empty : IsTrue c.is_empty.result = search rules in
    let at : slice_get Rs c.in-Some.k ≡ Some c.args.path.now.name = subst (λ z. slice_get z c.in-Some.k ≡ Some c.args.path.now.name) c.as_slice.ensures c.in-Some.ensures in
    let m : Means (scope_of Rs Is) (Rs ++ Is) c.args.value.now (truth c.in-Some-2.f) = rw c.in-Some-2.is at c.in_ok-f.ensures in
    subst (IsNext Rs Is _) (sym c.set.ensures)
    (next_after Rs Is body c.args.next c.args.path.now c.args.value.now place c.in-Some.k c.in-Some-2.f (c.is_empty.ensures.0 empty) at m.0 m.1 now)
