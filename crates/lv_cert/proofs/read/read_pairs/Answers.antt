use Rattle.std.proofs.Common.{◌≡◌, ◌+◌, ◌-◌, [], ◌∷◌, ◌++◌, refl, sym, ◌∙◌, arith}
use Rattle.std.proofs.lemmas.Grind.{common_steps}
use Rattle.std.proofs.lemmas.Result.{err_from_is_err_and}
use Rattle.lv_cert.specs.Sections.{same, pair_part, pairs}
use Rattle.lv_cert.proofs.Facts.{has_pairs}
use Rattle.lv_cert.proofs.Loops.{turns_on, turns_fail, turns_end, turns_start}
use Rattle.lv_cert.proofs.Loops.{map_push}
use Rattle.lv_cert.proofs.Facts.{unique_pair}
use Rattle.lv_cert.proofs.read.read_pairs.Goals as goal

pub loop-i-init : goal.loop-i-init
loop-i-init c = ([], grind (arith, common_steps), grind (arith, common_steps), turns_start pair_part same c.args.count (c.args.count - 0) 0 [] c.args.input.now (omega arith) refl)

pub returns-in_err-l : goal.returns-in_err-l
returns-in_err-l c =
    let p = err_from_is_err_and c.from_residual.result c.from_residual.ensures.1 in
    rw (p.1, p.2) (turns_fail (pairs c.args.count) pair_part same (c.args.count - c.loop-i.i) 0 c.loop-i.invariant.0 c.args.input.now c.loop-i.input c.loop-i.invariant.3 c.in_err-l.field-0.0 (omega arith) (unique_pair 0 0)
    (λ a f. has_pairs (c.args.count - c.loop-i.i - 1)) c.in_err-l.ensures)

pub loop-i-preserved : goal.loop-i-preserved
loop-i-preserved c =
    let h = c.in_ok-l.ensures in
    let a : c.push.new.self.items ≡ c.loop-i.left.items ++ c.in_ok-l.l ∷ [] = grind (arith, common_steps) in
    let b : c.push-else-is_err.new.self.items ≡ c.loop-i.right.items ++ c.in_ok-l.r ∷ [] = grind (arith, common_steps) in (
      c.loop-i.invariant.0 ++ h.0 ∷ [],
      a ∙ (λ i. c.loop-i.invariant.1 i ++ (h.1 i).0 ∷ []) ∙ sym (map_push (λ p. p.0) c.loop-i.invariant.0 h.0),
      b ∙ (λ i. c.loop-i.invariant.2 i ++ (h.1 i).1 ∷ []) ∙ sym (map_push (λ p. p.1) c.loop-i.invariant.0 h.0),
      turns_on (pairs c.args.count) pair_part same (c.args.count - c.loop-i.i) 0 c.loop-i.invariant.0 c.args.input.now c.loop-i.input c.loop-i.invariant.3 (c.args.count - (c.loop-i.i + 1)) h.0 c.read_pair.new.input (omega arith) (unique_pair 0 0) h.2 h.3 (omega arith),
    )

pub returns : goal.returns
returns c = let k = turns_end (pairs c.args.count) pair_part same (c.args.count - c.loop-i.i) 0 c.loop-i.invariant.0 c.args.input.now c.loop-i.input c.loop-i.invariant.3 (omega arith) in (c.loop-i.invariant.0, (c.loop-i.invariant.1, c.loop-i.invariant.2), k.0, k.1)
