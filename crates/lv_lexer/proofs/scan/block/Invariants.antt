use Rattle.std.proofs.Common.{◌≡◌, drop}
use Rattle.lv_ast.specs.TokenLists.{block_length, longer}
use Rattle.lv_lexer.proofs.scan.block.Given as goal

-- the bytes so far, and those up to the end in what is left
abbrev pub invariant-loop-i : goal.invariant-loop-i
invariant-loop-i l = block_length l.rest ≡ longer l.i (block_length (drop l.i l.rest))
