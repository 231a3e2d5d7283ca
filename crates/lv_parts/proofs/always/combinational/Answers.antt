use Rattle.lv_flat.specs.Signals.{declared_all}
use Rattle.std.proofs.Common.{ap}
use Rattle.lv_source.specs.Parts.{Comb}
use Rattle.lv_parts.proofs.BlockLaws.{block-none, comb-answer}
use Rattle.lv_parts.proofs.always.combinational.Goals as goal

pub returns-in-Err-clause-right : goal.returns-in-Err-clause-right
returns-in-Err-clause-right g c = record {
  at = λ here ok. block-none here c.args.stmt.now (declared_all c.args.signals.now) c.args.path.now c.args.at (Comb here.names c.args.stmt.now) c.in-Err.error
      c.of_stmt.result c.of_stmt.ensures (c.in-Err.ensures.right.at here ok).wrong;
}

pub returns-in-Ok-clause-right : goal.returns-in-Ok-clause-right
returns-in-Ok-clause-right g c = record {
  at = λ here ok. comb-answer here c.args.stmt.now (declared_all c.args.signals.now) c.args.path.now c.args.at c.in-Ok.found (c.in-Ok.ensures.right.at here ok).right
      c.into_parts-stmt.result.0 c.into_parts-stmt.result.1 (ap (λ z. z.0) c.into_parts-stmt.ensures) (ap (λ z. z.1) c.into_parts-stmt.ensures)
      c.made.result c.made.ensures.ok c.made.ensures.err;
}
