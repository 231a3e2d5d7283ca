use Rattle.std.proofs.Common.{◌≡◌, ◌<◌, ◌%◌, ◌^◌, drop}
use Rattle.lv_ast.specs.Literals.{part_digit}
use Rattle.lv_ast.specs.Tokens.{digits_number}
use Rattle.lv_exprs.proofs.literal.digits_number.Given as goal

abbrev pub invariant-loop-c : goal.invariant-loop-c
invariant-loop-c l = record {
  same : digits_number (part_digit l.part l.base) l.base l.number (drop l.c-index l.digits) % 2 ^ 128 ≡ digits_number (part_digit l.part l.base) l.base l.before l.digits % 2 ^ 128;
  low : l.number < 2 ^ 128;
}
