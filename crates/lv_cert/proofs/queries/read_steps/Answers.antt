use Rattle.std.proofs.Common.{◌≡◌, ◌+◌, ◌-◌, [], ◌∷◌, ◌++◌, refl, sym, ◌∙◌, subst, arith}
use Rattle.std.proofs.lemmas.Grind.{common_steps}
use Rattle.std.proofs.lemmas.Result.{err_from_is_err_and}
use Rattle.lv_cert.specs.Parts.{turns}
use Rattle.lv_cert.specs.Sections.{step_part, one_more, steps}
use Rattle.lv_cert.proofs.Leading.{Leads}
use Rattle.lv_cert.proofs.Loops.{turns_on, turns_fail, turns_end, turns_start}
use Rattle.lv_cert.proofs.Loops.{map_push}
use Rattle.lv_cert.specs.Whole.{step_of}
use Rattle.lv_cert.proofs.Facts.{unique_step, has_from}
use Rattle.lv_cert.proofs.queries.read_steps.Goals as goal

pub loop-k-init : goal.loop-k-init
loop-k-init c = (
  [],
  grind (arith, common_steps),
  (let e : c.args.id ≡ c.args.id + 0 = omega arith in
      subst (λ s. Leads (steps c.args.vars c.args.id c.args.count) (turns (step_part c.args.vars) one_more (c.args.count - 0) s) (λ xs. [] ++ xs) c.args.input.now c.args.input.now) e
      (turns_start (step_part c.args.vars) one_more c.args.count (c.args.count - 0) c.args.id [] c.args.input.now (omega arith) refl)),
)

pub returns-in_err-line : goal.returns-in_err-line
returns-in_err-line c =
    let p = err_from_is_err_and c.from_residual.result c.from_residual.ensures.1 in
    rw (p.1, p.2) (turns_fail (steps c.args.vars c.args.id c.args.count) (step_part c.args.vars) one_more (c.args.count - c.loop-k.k) (c.args.id + c.loop-k.k) c.loop-k.invariant.0 c.args.input.now c.loop-k.input c.loop-k.invariant.2 c.in_err-line.field-0.0 (omega arith) (unique_step c.args.vars 0 (c.args.id + c.loop-k.k) (omega arith) (omega arith))
    (λ a f. has_from c.args.vars (c.args.id + c.loop-k.k + 1) (c.args.count - c.loop-k.k - 1)) c.in_err-line.ensures)

pub loop-k-preserved : goal.loop-k-preserved
loop-k-preserved c =
    let h = c.in_ok-line.ensures in
    let k : c.push.new.self ≡ c.loop-k.lines ++ c.in_ok-line.line ∷ [] = grind (arith, common_steps) in
    let e : c.args.id + c.loop-k.k + 1 ≡ c.args.id + (c.loop-k.k + 1) = omega arith in (
      c.loop-k.invariant.0 ++ h.0 ∷ [],
      k ∙ (λ i. c.loop-k.invariant.1 i ++ h.1 i ∷ []) ∙ sym (map_push step_of c.loop-k.invariant.0 h.0),
      subst (λ s. Leads (steps c.args.vars c.args.id c.args.count) (turns (step_part c.args.vars) one_more (c.args.count - (c.loop-k.k + 1)) s) (λ xs. (c.loop-k.invariant.0 ++ h.0 ∷ []) ++ xs) c.args.input.now c.read_step.new.input) e
          (turns_on (steps c.args.vars c.args.id c.args.count) (step_part c.args.vars) one_more (c.args.count - c.loop-k.k) (c.args.id + c.loop-k.k) c.loop-k.invariant.0 c.args.input.now c.loop-k.input c.loop-k.invariant.2 (c.args.count - (c.loop-k.k + 1)) h.0 c.read_step.new.input (omega arith) (unique_step c.args.vars 0 (c.args.id + c.loop-k.k) (omega arith) (omega arith)) h.2 h.3 (omega arith)),
    )

pub returns : goal.returns
returns c = let k = turns_end (steps c.args.vars c.args.id c.args.count) (step_part c.args.vars) one_more (c.args.count - c.loop-k.k) (c.args.id + c.loop-k.k) c.loop-k.invariant.0 c.args.input.now c.loop-k.input c.loop-k.invariant.2 (omega arith) in (c.loop-k.invariant.0, c.loop-k.invariant.1, k.0, k.1)
