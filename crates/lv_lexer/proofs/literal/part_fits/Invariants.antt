use Rattle.std.proofs.Common.{◌≡◌, ◌<◌, ◌^◌, drop}
use Rattle.lv_ast.specs.Tokens.{digits_number}
use Rattle.lv_ast.specs.Literals.{part_digit}
use Rattle.lv_lexer.proofs.literal.part_fits.Given as goal

-- the number so far, and the digits that are left
abbrev pub invariant-loop-byte : goal.invariant-loop-byte
invariant-loop-byte l = record {
  same : digits_number (part_digit l.part l.base) l.base 0 l.digits ≡ digits_number (part_digit l.part l.base) l.base l.number (drop l.byte-index l.digits);
  low : l.number < 2 ^ 128;
}
