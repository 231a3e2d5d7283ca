use Rattle.std.proofs.Common.{◌≡◌, suc, refl, arith, length}
use Rattle.lv_first.specs.declared.problem.Problem.{Problem}
use Rattle.lv_first.proofs.Acceptance.{accepted_by}
use Rattle.lv_first.proofs.verdict.is_accepted.Goals as goal

pub returns : goal.returns
returns c =
    let p : Problem = c.args.problem.now in
    let size : length p.next ≡ p.registers = omega (arith, p.matched) in
    accepted_by p (suc p.registers) refl c.in_ok-base.base c.in_ok-step.step c.in_ok-imply.imply size c.in_ok-base.ensures c.in_ok-step.ensures c.in_ok-imply.ensures
