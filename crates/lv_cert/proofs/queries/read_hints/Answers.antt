use Rattle.std.proofs.Common.{◌-◌, true, false, [], ◌∷◌, ◌++◌, refl, arith}
use Rattle.std.proofs.lemmas.Grind.{common_steps}
use Rattle.std.proofs.lemmas.Result.{err_from_is_err_and}
use Rattle.lv_cert.specs.Sections.{same, hint_part, hints}
use Rattle.lv_cert.proofs.Leading.{fails_on}
use Rattle.lv_cert.proofs.Facts.{unique_numeral}
use Rattle.lv_cert.proofs.Loops.{until_on, until_end, as_vec, turn_some, turn_none}
use Rattle.lv_cert.proofs.Facts.{apart_hint}
use Rattle.lv_cert.proofs.queries.read_hints.Goals as goal

pub returns-in_err-hint : goal.returns-in_err-hint
returns-in_err-hint c =
    let p = err_from_is_err_and c.from_residual.result c.from_residual.ensures.1 in
    rw (p.1, p.2) (fails_on c.loop-hints.invariant c.in_err-hint.field-0.0 c.in_err-hint.ensures)

pub loop-hints-preserved : goal.loop-hints-preserved
loop-hints-preserved c =
    let h = turn_some (hints c.args.id) (hint_part c.args.id 0) true c.loop-hints.input c.read_hint.new.input c.in_ok-hint.field-0 c.in-Some.hint c.in-Some.is c.in_ok-hint.ensures in
    as_vec (hints c.args.id) (hints c.args.id) (c.loop-hints.hints.items ++ c.in-Some.hint ∷ []) _ c.args.input.now c.read_hint.new.input (grind (arith, common_steps))
    (until_on (hints c.args.id) (hint_part c.args.id) same true 0 c.loop-hints.hints.items c.args.input.now c.loop-hints.input c.loop-hints.invariant c.in-Some.hint c.read_hint.new.input
    (unique_numeral 1 (c.args.id - 1) false (omega arith)) (apart_hint c.args.id 0 true (omega arith)) h.0 h.1)

pub returns : goal.returns
returns c =
    let m = turn_none (hints c.args.id) (hint_part c.args.id 0) true c.loop-hints.input c.read_hint.new.input c.in_ok-hint.field-0 c.in_default.is c.in_ok-hint.ensures in
    let k = until_end (hints c.args.id) (hint_part c.args.id) same true 0 c.loop-hints.hints.items c.args.input.now c.loop-hints.input c.loop-hints.invariant c.read_hint.new.input m in
    (c.loop-hints.hints.items, refl, k.0, k.1)
