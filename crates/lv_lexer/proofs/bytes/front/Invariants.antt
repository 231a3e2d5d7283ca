use Rattle.std.proofs.Common.{◌≡◌, ◌+◌, drop}
use Rattle.lv_lexer.specs.Fronts.{belongs, front_length}
use Rattle.lv_lexer.proofs.bytes.front.Given as goal

-- the bytes so far, and those at the front of what is left
abbrev pub invariant-loop-i : goal.invariant-loop-i
invariant-loop-i l = front_length (belongs l.class) l.rest ≡ l.i + front_length (belongs l.class) (drop l.i l.rest)
