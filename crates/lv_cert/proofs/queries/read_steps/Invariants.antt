use Rattle.std.proofs.Common.{◌≡◌, ◌+◌, ◌-◌, List, ◌++◌, map}
use Rattle.lv_cert.specs.Parts.{turns}
use Rattle.lv_cert.specs.Sections.{steps, step_part, one_more}
use Rattle.lv_cert.specs.Whole.{StepValue, step_of}
use Rattle.lv_cert.proofs.Leading.{Leads}
use Rattle.lv_cert.proofs.queries.read_steps.Given as goal

abbrev pub invariant-loop-k : goal.invariant-loop-k
invariant-loop-k l = (done : List StepValue) × (l.lines ≡ map step_of done) ×
    Leads (steps l.vars l.id l.count) (turns (step_part l.vars) one_more (l.count - l.k) (l.id + l.k)) (λ xs. done ++ xs) l.fn.input l.input
