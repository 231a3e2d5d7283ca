use Rattle.std.proofs.Common.{◌≡◌, ◌+◌, ◌==◌, ◌&&◌, true, get_or, drop, sym, ◌∙◌, arith, ap}
use Rattle.lv_lexer.specs.Fronts.{begins}
use Rattle.lv_lexer.proofs.Comments.{block_start, block_found, block_more, block_end, ends_within}
use Rattle.lv_lexer.proofs.scan.block.Goals as goal

pub loop-i-init : goal.loop-i-init
loop-i-init c = block_start c.args.rest.now

pub loop-i-preserved : goal.loop-i-preserved
loop-i-preserved c =
    let s = c.args.rest.now in
    let i = c.loop-i.i in
    block_more s i c.loop-i-test.true c.loop-i.invariant (ap (λ t. (get_or s i 0 == 42) && begins 47 t) (sym c.skip.ensures) ∙ (sym c.is_block_end.ensures ∙ c.if-is_block_end.false))

pub returns-then-is_block_end : goal.returns-then-is_block_end
returns-then-is_block_end c =
    let s = c.args.rest.now in
    let i = c.loop-i.i in
    let h : ((get_or s i 0 == 42) && begins 47 (drop (i + 1) s)) ≡ true = ap (λ t. (get_or s i 0 == 42) && begins 47 t) (sym c.skip.ensures) ∙ (sym c.is_block_end.ensures ∙ c.if-is_block_end.true) in
    record { value = block_found s i c.loop-i-test.true c.loop-i.invariant h; within = ends_within s i h }

pub returns : goal.returns
returns c = record { value = block_end c.args.rest.now c.loop-i.i (omega arith) c.loop-i.invariant; within = tt }
