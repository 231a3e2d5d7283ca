use Rattle.std.proofs.Common.{◌≡◌, ◌+◌, ◌-◌, ◌≤◌, true, false, [], ◌∷◌, ◌++◌, codes, refl, subst, arith}
use Rattle.std.proofs.lemmas.Grind.{common_steps}
use Rattle.std.proofs.lemmas.Result.{err_from_is_err_and}
use Rattle.lv_cert.specs.Parts.{Fails, numeral, after, turns}
use Rattle.lv_cert.specs.Sections.{keep_part, above, keeps}
use Rattle.lv_cert.proofs.Facts.{has_keeps}
use Rattle.lv_cert.proofs.Reading.{got}
use Rattle.lv_cert.proofs.Loops.{turns_on, turns_fail, turns_end, as_vec}
use Rattle.lv_cert.proofs.Facts.{unique_keep}
use Rattle.lv_cert.proofs.read.read_keeps.Goals as goal

pub returns-in_err-n : goal.returns-in_err-n
returns-in_err-n c =
    let p = err_from_is_err_and c.from_residual.result c.from_residual.ensures.1 in
    let e : c.args.count - c.args.total + c.loop-i.i ≡ c.args.count - (c.args.total - c.loop-i.i - 1) - 1 = omega arith in
    rw (p.1, p.2) (turns_fail (keeps c.args.count c.args.total) (keep_part c.args.count) above (c.args.total - c.loop-i.i) c.loop-i.low c.loop-i.kept.items c.args.input.now c.loop-i.input c.loop-i.invariant.0 c.in_err-n.field-0.0 (omega arith) (unique_keep c.args.count (c.args.total - c.loop-i.i - 1) c.loop-i.low (omega arith))
    (λ a f. has_keeps c.args.count (c.args.total - c.loop-i.i - 1) (a + 1) (omega (arith, f.1)))
    (subst (λ h. Fails (after (codes "keep") false (numeral c.loop-i.low h true)) c.loop-i.input c.in_err-n.field-0.0) e c.in_err-n.ensures))

pub loop-i-preserved : goal.loop-i-preserved
loop-i-preserved c =
    let e : c.args.count - c.args.total + c.loop-i.i ≡ c.args.count - (c.args.total - c.loop-i.i - 1) - 1 = omega arith in
    let g = got (after (codes "keep") false (numeral c.loop-i.low (c.args.count - c.args.total + c.loop-i.i) true)) c.in_ok-n.n c.loop-i.input c.read_keep.new.input c.in_ok-n.ensures in
    let top : c.in_ok-n.n ≤ c.args.count - c.args.total + c.loop-i.i = g.0.1 in (
      as_vec (keeps c.args.count c.args.total) (turns (keep_part c.args.count) above (c.args.total - (c.loop-i.i + 1)) (c.in_ok-n.n + 1)) (c.loop-i.kept.items ++ c.in_ok-n.n ∷ []) _ c.args.input.now c.read_keep.new.input (grind (arith, common_steps))
          (turns_on (keeps c.args.count c.args.total) (keep_part c.args.count) above (c.args.total - c.loop-i.i) c.loop-i.low c.loop-i.kept.items c.args.input.now c.loop-i.input c.loop-i.invariant.0 (c.args.total - (c.loop-i.i + 1)) c.in_ok-n.n c.read_keep.new.input (omega arith) (unique_keep c.args.count (c.args.total - c.loop-i.i - 1) c.loop-i.low (omega arith))
          (g.0.0, omega (arith, top, e)) g.1 (omega arith)),
      omega (arith, top),
    )

pub returns : goal.returns
returns c = let k = turns_end (keeps c.args.count c.args.total) (keep_part c.args.count) above (c.args.total - c.loop-i.i) c.loop-i.low c.loop-i.kept.items c.args.input.now c.loop-i.input c.loop-i.invariant.0 (omega arith) in (c.loop-i.kept.items, refl, k.0, k.1)
