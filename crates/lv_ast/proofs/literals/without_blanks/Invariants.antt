use Rattle.std.proofs.Common.{◌≡◌, drop}
use Rattle.lv_ast.specs.Tokens.{without_blanks}
use Rattle.lv_ast.proofs.literals.without_blanks.Given as goal

abbrev pub invariant-loop-i : goal.invariant-loop-i
invariant-loop-i l = without_blanks l.bytes ≡ without_blanks (drop l.i l.bytes)
