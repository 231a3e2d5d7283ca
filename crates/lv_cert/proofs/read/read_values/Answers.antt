use Rattle.std.proofs.Common.{◌+◌, ◌-◌, [], ◌∷◌, ◌++◌, refl, arith}
use Rattle.std.proofs.lemmas.Grind.{common_steps}
use Rattle.std.proofs.lemmas.Result.{err_from_is_err_and}
use Rattle.lv_cert.specs.Parts.{turns}
use Rattle.lv_cert.specs.Sections.{same, input_part, inputs}
use Rattle.lv_cert.proofs.Facts.{has_inputs}
use Rattle.lv_cert.proofs.Reading.{got}
use Rattle.lv_cert.proofs.Loops.{turns_on, turns_fail, turns_end, as_vec}
use Rattle.lv_cert.proofs.Facts.{unique_input}
use Rattle.lv_cert.proofs.read.read_values.Goals as goal

pub returns-in_err-value : goal.returns-in_err-value
returns-in_err-value c =
    let p = err_from_is_err_and c.from_residual.result c.from_residual.ensures.1 in
    rw (p.1, p.2) (turns_fail (inputs c.args.count) input_part same (c.args.count - c.loop-i.i) 0 c.loop-i.values.items c.args.input.now c.loop-i.input c.loop-i.invariant c.in_err-value.field-0.0 (omega arith) (unique_input 0 0)
    (λ a f. has_inputs (c.args.count - c.loop-i.i - 1)) c.in_err-value.ensures)

pub loop-i-preserved : goal.loop-i-preserved
loop-i-preserved c =
    let h = got (input_part 0 0) c.in_ok-value.value c.loop-i.input c.read_input.new.input c.in_ok-value.ensures in
    as_vec (inputs c.args.count) (turns input_part same (c.args.count - (c.loop-i.i + 1)) 0) (c.loop-i.values.items ++ c.in_ok-value.value ∷ []) _ c.args.input.now c.read_input.new.input (grind (arith, common_steps))
    (turns_on (inputs c.args.count) input_part same (c.args.count - c.loop-i.i) 0 c.loop-i.values.items c.args.input.now c.loop-i.input c.loop-i.invariant (c.args.count - (c.loop-i.i + 1)) c.in_ok-value.value c.read_input.new.input (omega arith) (unique_input 0 0) h.0 h.1 (omega arith))

pub returns : goal.returns
returns c = let k = turns_end (inputs c.args.count) input_part same (c.args.count - c.loop-i.i) 0 c.loop-i.values.items c.args.input.now c.loop-i.input c.loop-i.invariant (omega arith) in (c.loop-i.values.items, refl, k.0, k.1)
