-- The value of each operator is a number of as many bits as its result has.
use Rattle.std.proofs.Common.{ℕ, ◌+◌, ◌-◌, ◌*◌, ◌%◌, ◌^◌, ◌≤◌, ◌<◌, arith, Bool, true, false, refl, lit<, IsFalse, count_ones}
use Rattle.std.proofs.lemmas.Nat.{pow_pos, mod_below, and_le_l, or_lt, xor_lt}
use Rattle.std.proofs.Math.Nat.{div-le_self}
use Rattle.lv_bits.specs.declared.op.Op.{Op}
use Rattle.lv_bits.specs.declared.op.Op.TheVariants.{Neg, Not, LogNot, RedAnd, RedOr, RedXor, Add, Sub, Mul, Shl, Shr, Sar, Lt, Le, Gt, Ge, Eq, Ne, And, Or, Xor, Xnor, LogAnd, LogOr}
use Rattle.lv_bits.specs.Values.{bit, extended, unary_value, binary_value, is_apart, result_width}
use Rattle.lv_bits.proofs.Shifts.{filled_fits, pow_le}

bit_lt : (b : Bool) → bit b < 2
bit_lt true = lit< tt
bit_lt false = lit< tt

mod_lt : (n w : ℕ) → n % 2 ^ w < 2 ^ w
mod_lt n w = mod_below n (2 ^ w) (pow_pos w)

pub unary_lt : (op : Op) (w a : ℕ) → a < 2 ^ w → unary_value op w a < 2 ^ result_width op w
unary_lt Neg w a h = mod_lt (2 ^ w - a) w
unary_lt Not w a h = omega (arith, pow_pos w)
unary_lt LogNot w a h = bit_lt _
unary_lt RedAnd w a h = bit_lt _
unary_lt RedOr w a h = bit_lt _
unary_lt RedXor w a h = mod_below (count_ones a) 2 (lit< tt)
unary_lt op w a h = pow_pos (result_width op w)

pub binary_lt : (op : Op) (signed : Bool) (w a b : ℕ) → a < 2 ^ w → (IsFalse (is_apart op) → b < 2 ^ w) → binary_value op signed w a b < 2 ^ result_width op w
binary_lt Add signed w a b h k = mod_lt (a + b) w
binary_lt Sub signed w a b h k = mod_lt (a + (2 ^ w - b)) w
binary_lt Mul signed w a b h k = mod_lt (a * b) w
binary_lt Shl signed w a b h k = mod_lt (a * 2 ^ b) w
binary_lt Shr signed w a b h k = omega (arith, div-le_self a (2 ^ b))
binary_lt Sar signed w a b h k = filled_fits signed w a b h
binary_lt Lt signed w a b h k = bit_lt _
binary_lt Le signed w a b h k = bit_lt _
binary_lt Gt signed w a b h k = bit_lt _
binary_lt Ge signed w a b h k = bit_lt _
binary_lt Eq signed w a b h k = bit_lt _
binary_lt Ne signed w a b h k = bit_lt _
binary_lt And signed w a b h k = omega (arith, and_le_l a b)
binary_lt Or signed w a b h k = or_lt w a b h (k refl)
binary_lt Xor signed w a b h k = xor_lt w a b h (k refl)
binary_lt Xnor signed w a b h k = omega (arith, xor_lt w a b h (k refl))
binary_lt LogAnd signed w a b h k = bit_lt _
binary_lt LogOr signed w a b h k = bit_lt _
binary_lt op signed w a b h k = pow_pos (result_width op w)

pub extended_lt : (signed : Bool) (w W a : ℕ) → w ≤ W → a < 2 ^ w → extended signed w W a < 2 ^ W
extended_lt signed w W a wide h = grind (arith, pow_le w W wide)
