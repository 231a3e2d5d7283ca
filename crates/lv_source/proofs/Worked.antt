-- Worked values, computed from the definitions.
use Rattle.std.proofs.Common.{◌≡◌, ℕ, Bool, true, false, [], ◌∷◌, Some, refl}
use Rattle.lv_bits.specs.declared.op.Op.TheVariants as o
use Rattle.lv_ast.specs.declared.expr.Expr.{Expr}
use Rattle.lv_ast.specs.declared.expr.Expr.TheVariants as e
use Rattle.lv_ast.proofs.Build.{bin, un, cat, div, rem, cast}
use Rattle.lv_source.specs.Names.{Names, Valuation}
use Rattle.lv_source.specs.Meaning.{own_width, own_signed, value_of, own, read_expr}

abbrev number : ℕ → Bool → ℕ → Expr
number size signed value = e.Lit (record { size = Some size; plain = false; signed = signed; value = value; wild = 0; place = 0 })

-- 8'd255 + 8'd1
abbrev sum_of_bytes : Expr
sum_of_bytes = bin o.Add (number 8 false 255) (number 8 false 1)

-- 4'sb1000 >>> 1
abbrev shifted : Expr
shifted = bin o.Sar (number 4 true 8) (number 32 true 1)

-- -4'sd7 / 4'sd2 and -4'sd7 % 4'sd2
abbrev halved : Expr
halved = div (un o.Neg (number 4 true 7)) (number 4 true 2)

abbrev rest : Expr
rest = rem (un o.Neg (number 4 true 7)) (number 4 true 2)

module _ (names : Names) (v : Valuation) where
  -- at nine bits there is a carry, and none inside a concatenation
  pub carries : value_of names sum_of_bytes 9 false v ≡ 256
  unfolding read_expr
  carries = refl

  pub carries_not : value_of names (cat (sum_of_bytes ∷ [])) 9 false v ≡ 0
  unfolding read_expr
  carries_not = refl

  pub shifts_at_four : value_of names shifted 4 true v ≡ 12
  unfolding read_expr
  shifts_at_four = refl

  pub shifts_at_eight : value_of names shifted 8 true v ≡ 252
  unfolding read_expr
  shifts_at_eight = refl

  pub shifts_unsigned : value_of names shifted 8 false v ≡ 4
  unfolding read_expr
  shifts_unsigned = refl

  -- towards 0, and with the sign of the left operand
  pub divides : own names halved v ≡ 13
  unfolding read_expr
  divides = refl

  pub leaves : own names rest v ≡ 15
  unfolding read_expr
  leaves = refl

  pub width_of_comparison : own_width names (bin o.Lt sum_of_bytes sum_of_bytes) ≡ 1
  unfolding read_expr
  width_of_comparison = refl

  pub sign_of_cast : own_signed names (cast true sum_of_bytes) ≡ true
  unfolding read_expr
  sign_of_cast = refl
