use Rattle.std.proofs.Common.{◌-◌, ◌≤◌, length, cond}
use Rattle.lv_exprs.specs.Symbols.{symbols}
use Rattle.lv_exprs.specs.Steps.{reached}
use Rattle.lv_exprs.specs.Stands.{Stands}
use Rattle.lv_exprs.proofs.read.read.Given as goal

abbrev pub invariant-loop-at : goal.invariant-loop-at
invariant-loop-at l = record {
  within : l.at ≤ length l.tokens;
  stands : Stands l.text l.paths (symbols l.text l.tokens) l.at l.stack.frames.items l.standing;
  low : reached l.stack.frames.items l.standing ≤ cond l.paths 201 200;
  depth : l.stack.depth ≤ cond l.paths 201 200;
}

abbrev pub decreases-loop-at : goal.decreases-loop-at
decreases-loop-at l = length l.tokens - l.at
