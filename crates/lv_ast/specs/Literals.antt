-- The digits of a literal, for each part of its bits (IEEE 1364-2005, section 3.5).
use Rattle.std.specs.Prelude.{ℕ}
use Rattle.lv_ast.specs.Tokens.{value_digit, free_digit}
use Rattle.lv_ast.specs.declared.literals.DigitPart.{DigitPart}
use Rattle.lv_ast.specs.declared.literals.DigitPart.TheVariants.{Value, Free}

-- what a digit counts in the value, or among the free bits
abbrev pub part_digit : DigitPart → ℕ → ℕ → ℕ
part_digit Value base c = value_digit c
part_digit Free base c = free_digit base c
