-- The numbers that the bytes of a token give (IEEE 1364-2005, section 3.5). Lexing keeps them below 2 ^ 128.
use Rattle.std.specs.Prelude.{ℕ, ◌-◌, ◌%◌, ◌^◌, Bool, false, if◌then◌else◌, ◌==◌, List, [], ◌∷◌}
use Rattle.lv_ast.specs.Tokens.{is_free, digits_number, free_digit, digits_value, based_signed, based_base, based_digits}
use Rattle.lv_exprs.specs.declared.symbol.Number.{Number}
use Rattle.lv_exprs.specs.declared.symbol.Based.{Based}

-- whether the leftmost digit is free
abbrev pub leads_free : List ℕ → Bool
leads_free [] = false
leads_free (c ∷ cs) = if c == 95 then leads_free cs else is_free c

-- the bits above the digits: all free where the leftmost digit is
abbrev pub above : List ℕ → ℕ
above cs = if leads_free cs then 2 ^ 128 - 1 else 0

abbrev pub number_of : ℕ → List ℕ → Number
number_of place bytes = record { place = place; value = digits_value 10 bytes % 2 ^ 128 }

abbrev pub based_literal : ℕ → Bool → ℕ → List ℕ → Based
based_literal place signed base cs =
    record { place = place; signed = signed; value = digits_value base cs % 2 ^ 128; wild = digits_number (free_digit base) base (above cs) cs % 2 ^ 128 }

abbrev pub based_of : ℕ → List ℕ → Based
based_of place bytes = based_literal place (based_signed bytes) (based_base bytes) (based_digits bytes)
