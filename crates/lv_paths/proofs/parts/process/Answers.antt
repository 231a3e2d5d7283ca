use Rattle.lv_flat.specs.Signals.{declared_all}
use Rattle.lv_paths.proofs.Whole.{block-good}
use Rattle.lv_paths.proofs.parts.process.Goals as goal

pub judge_paths-requires-clause-good : goal.judge_paths-requires-clause-good
judge_paths-requires-clause-good c = block-good (declared_all c.args.signals.now) c.args.part.now.body c.args.stmt.now c.requires.is c.requires.good

pub block-requires-clause-good : goal.block-requires-clause-good
block-requires-clause-good c = block-good (declared_all c.args.signals.now) c.args.part.now.body c.args.stmt.now c.requires.is c.requires.good
