-- Worked tokens and texts, computed from the definitions.
use Rattle.std.proofs.Common.{◌≡◌, ℕ, true, false, [], ◌∷◌, refl}
use Rattle.lv_ast.specs.declared.tokens.Kind.TheVariants as k
use Rattle.std.specs.Prelude.{codes, map, Some, None}
use Rattle.lv_ast.specs.Tokens.{is_blank, is_digit, is_number_byte, is_printed, is_free, is_sign, digit_value, base_of, is_base_digit, is_base_byte, is_word, without_sign, without_blanks, is_digits, is_base_and_digits, is_mark, after_backslash, kind_of, digits_number, based_base, based_digits, literal_value, literal_free, fits}
use Rattle.lv_ast.specs.Sources.{source_text}

pub kinds_of_slices : map kind_of (codes "end" ∷ codes "ending" ∷ codes "$signed" ∷ codes "'h ff" ∷ (39 ∷ 104 ∷ 10 ∷ 102 ∷ []) ∷ codes "'d?" ∷ []) ≡ Some k.Word ∷ Some k.Name ∷ Some k.System ∷ Some k.Based ∷ None ∷ None ∷ []
unfolding is_blank is_digit is_number_byte is_printed is_free is_sign digit_value base_of is_base_digit is_base_byte is_word without_sign without_blanks is_digits is_base_and_digits is_mark after_backslash kind_of digits_number based_base based_digits fits
kinds_of_slices = refl

pub bits_of_digits : map {B = ℕ × ℕ} (λ s. (literal_value k.Based s, literal_free k.Based s)) (codes "'b1?z0" ∷ codes "'h0f" ∷ []) ≡ (8, 6) ∷ (15, 0) ∷ []
unfolding is_blank is_digit is_number_byte is_printed is_free is_sign digit_value base_of is_base_digit is_base_byte is_word without_sign without_blanks is_digits is_base_and_digits is_mark after_backslash kind_of digits_number based_base based_digits fits
bits_of_digits = refl

pub long_literals : map (fits k.Based) (codes "'hffff_ffff_ffff_ffff_ffff_ffff_ffff_ffff" ∷ codes "'h1_0000_0000_0000_0000_0000_0000_0000_0000" ∷ []) ≡ true ∷ false ∷ []
unfolding is_blank is_digit is_number_byte is_printed is_free is_sign digit_value base_of is_base_digit is_base_byte is_word without_sign without_blanks is_digits is_base_and_digits is_mark after_backslash kind_of digits_number based_base based_digits fits
long_literals = refl

pub two_files : source_text (codes "a" ∷ codes "b" ∷ []) ≡ 97 ∷ 10 ∷ 98 ∷ []
two_files = refl
