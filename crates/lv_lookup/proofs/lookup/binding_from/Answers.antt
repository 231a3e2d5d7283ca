use Rattle.std.proofs.Common.{◌≡◌, ℕ, ◌+◌, ◌-◌, length, Some, None, sym, ap, ◌∙◌, arith, rules, suc}
use Rattle.std.specs.Prelude.{slice_get}
use Rattle.std.proofs.lemmas.Grind.{common_steps}
use Rattle.std.proofs.lemmas.Option.{gets}
use Rattle.lv_bindings.specs.Tables.{bound_in}
use Rattle.lv_lookup.specs.Levels.{binding_from}
use Rattle.lv_lookup.specs.declared.level.Level.{Level}
use Rattle.lv_lookup.proofs.Outward.{at_own, at_around, left}
use Rattle.lv_lookup.proofs.lookup.binding_from.Goals as goal

pub returns-in-Some-find : goal.returns-in-Some-find
returns-in-Some-find c =
    let n : ℕ = length c.args.levels.now in
    let k : ℕ = c.loop-step._step in
    let l : Level = c.in-Some.level.now in
    let e : slice_get c.args.levels.now c.loop-step.scope ≡ Some l = first_of (search rules, grind (arith, common_steps, gets)) in
    let m : n - k ≡ suc (n - (k + 1)) = left n k (omega arith) in
    let f : bound_in l.table c.args.name.now ≡ Some c.in-Some-find.binding =
    ap (bound_in l.table) (sym c.bytes.ensures) ∙ sym c.find.ensures ∙ c.in-Some-find.is in
    sym (c.loop-step.invariant ∙ ap (λ i. binding_from i c.args.levels.now c.loop-step.scope c.args.name.now) m ∙
    at_own (n - (k + 1)) c.args.levels.now c.loop-step.scope c.args.name.now l e c.in-Some-find.binding f)

pub returns-in-None : goal.returns-in-None
returns-in-None c =
    let n : ℕ = length c.args.levels.now in
    let k : ℕ = c.loop-step._step in
    let l : Level = c.in-Some.level.now in
    let e : slice_get c.args.levels.now c.loop-step.scope ≡ Some l = first_of (search rules, grind (arith, common_steps, gets)) in
    let m : n - k ≡ suc (n - (k + 1)) = left n k (omega arith) in
    let f : bound_in l.table c.args.name.now ≡ None = ap (bound_in l.table) (sym c.bytes.ensures) ∙ sym c.find.ensures ∙ c.in_default-find.is in
    sym (c.loop-step.invariant ∙ ap (λ i. binding_from i c.args.levels.now c.loop-step.scope c.args.name.now) m ∙
    at_around (n - (k + 1)) c.args.levels.now c.loop-step.scope c.args.name.now l e None f (sym c.scope_around.ensures ∙ c.in-None.is))

pub loop-step-preserved : goal.loop-step-preserved
loop-step-preserved c =
    let n : ℕ = length c.args.levels.now in
    let k : ℕ = c.loop-step._step in
    let l : Level = c.in-Some.level.now in
    let e : slice_get c.args.levels.now c.loop-step.scope ≡ Some l = first_of (search rules, grind (arith, common_steps, gets)) in
    let m : n - k ≡ suc (n - (k + 1)) = left n k (omega arith) in
    let f : bound_in l.table c.args.name.now ≡ None = ap (bound_in l.table) (sym c.bytes.ensures) ∙ sym c.find.ensures ∙ c.in_default-find.is in
    c.loop-step.invariant ∙ ap (λ i. binding_from i c.args.levels.now c.loop-step.scope c.args.name.now) m ∙
    at_around (n - (k + 1)) c.args.levels.now c.loop-step.scope c.args.name.now l e (Some c.in-Some-scope_around.around) f
    (sym c.scope_around.ensures ∙ c.in-Some-scope_around.is)
