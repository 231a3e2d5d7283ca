use Rattle.std.proofs.Common.{◌≡◌, ◌<◌, ◌+◌, ◌∷◌, [], length, length-append, arith, ◌∙◌, ap, None}
use Rattle.lv_blast.proofs.Blasting.{open_step, open_more}
use Rattle.lv_blast.proofs.inputs.open_word.Goals as goal

pub loop-i-preserved : goal.loop-i-preserved
loop-i-preserved c =
    let lt : c.loop-i.i < c.args.width = omega arith in
    let more : length c.input.new.self ≡ length c.loop-i.and + 1 = ap length c.in_ok-e.ensures.is ∙ length-append c.loop-i.and (None ∷ []) in
    record {
      whole = open_step c.loop-i.and c.input.new.self c.loop-i.es c.push.new.self c.in_ok-e.e c.args.width c.loop-i.i (length c.args.and.now) lt c.in_ok-e.ensures.is c.in_ok-e.ensures.edge c.in_ok-push.ensures.ok c.loop-i.invariant.whole;
      more = omega (arith, more, c.loop-i.invariant.more);
      open_now = open_more c.loop-i.and c.input.new.self c.in_ok-e.ensures.is c.loop-i.invariant.open_now;
    }
