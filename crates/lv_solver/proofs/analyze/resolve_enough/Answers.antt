use Rattle.std.proofs.Common.{◌≡◌, ℕ, ◌<◌, length, refl}
use Rattle.std.specs.Prelude.{IsTrue}
use Rattle.lv_clauses.specs.Literals.{has, negated}
use Rattle.lv_trail.specs.Trail.{entry}
use Rattle.lv_solver.specs.Seen.{kept}
use Rattle.lv_solver.proofs.Learning.{decisions-assert}
use Rattle.lv_solver.proofs.analyze.resolve_enough.Goals as goal

pub returns-then-are_decisions : goal.returns-then-are_decisions
returns-then-are_decisions c =
    let t = c.args.trail.now in
    let s = c.resolve_marked.new.seen in
    let d : (k : ℕ) → k < length t.entries → IsTrue (has (kept s) (negated (entry t k).lit)) → (entry t k).reason ≡ 0 = c.if-are_decisions.ensures refl in
    record { derived = c.in_ok-resolve_marked.ensures; asserting = decisions-assert t c.requires.sound c.requires.steady (kept s) d; decisions = λ _. d }
