use Rattle.std.proofs.Common.{ap, sym}
use Rattle.lv_print.specs.Paper.{put}
use Rattle.lv_print.specs.Sources.{params_word}
use Rattle.lv_print.proofs.Papers.{ok-same}
use Rattle.lv_print.proofs.items.params_word.Goals as goal

pub returns-then-is_local : goal.returns-then-is_local
returns-then-is_local c = ok-same _ _ _ _ c.word.ensures (ap (λ b. put c.args.paper.now (params_word b)) (sym c.if-is_local.true))

pub returns-else-is_local : goal.returns-else-is_local
returns-else-is_local c = ok-same _ _ _ _ c.word-else-is_local.ensures (ap (λ b. put c.args.paper.now (params_word b)) (sym c.if-is_local.false))
