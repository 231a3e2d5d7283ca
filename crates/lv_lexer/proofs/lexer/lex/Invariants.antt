use Rattle.std.proofs.Common.{◌-◌, ◌≤◌, length}
use Rattle.lv_lexer.specs.Refusals.{Stand}
use Rattle.lv_lexer.proofs.lexer.lex.Given as goal

-- the tokens so far are those up to the place
abbrev pub invariant-loop-place : goal.invariant-loop-place
invariant-loop-place l = record { stand : Stand l.bytes l.list l.place; within : l.place ≤ length l.bytes }

abbrev pub decreases-loop-place : goal.decreases-loop-place
decreases-loop-place l = length l.bytes - l.place
