use Rattle.lv_flat.specs.Signals.{declared_all}
use Rattle.lv_parts.specs.Blocks.{always_part, IsWellStmt, IsCleanAlways, IsToldAlways}
use Rattle.lv_parts.proofs.AddLaws.{put-answer}
use Rattle.lv_parts.proofs.always.always.Goals as goal

pub returns-clause-right : goal.returns-clause-right
returns-clause-right g c = record {
  at = λ here ok. put-answer (declared_all c.args.signals.now) (always_part here.names c.args.path.now c.args.watch.now c.args.stmt.now c.args.at) (IsWellStmt c.args.stmt.now)
      (IsCleanAlways here c.args.watch.now c.args.stmt.now) (λ z. IsToldAlways here c.args.watch.now c.args.stmt.now z) c.block-found.result c.args.into.now.items
      c.put.new.into.items c.put.result tt (c.block-found.ensures.right.at here ok) c.put.ensures;
}
