-- The own width, the own sign and the value of one node, from those of its operands (IEEE 1364-2005, sections 5.4 and 5.5).
use Rattle.std.specs.Prelude.{ℕ, zero, suc, ◌+◌, ◌-◌, ◌*◌, ◌/◌, ◌%◌, ◌^◌, max, Bool, false, ◌&&◌, if◌then◌else◌, ◌==◌, List, [], ◌∷◌, map, sum, Option, Some, None, ℤ, pos, negsuc, int_div, int_rem}
use Rattle.lv_bits.specs.declared.op.Op.{Op}
use Rattle.lv_bits.specs.Values.{extended, unary_value, binary_value, is_apart, keeps_width, signed_of}
use Rattle.lv_ast.specs.declared.expr.Literal.{Literal}
use Rattle.lv_ast.specs.declared.expr.Expr.TheOpen.{Select-F}
use Rattle.lv_source.specs.Names.{Valuation}

pub record Meaning : Type 0 where
  pub width : ℕ
  pub signed : Bool
  -- at a width and a sign, under a valuation
  pub value : ℕ → Bool → Valuation → ℕ

-- self-determined
abbrev pub own_value : Meaning → Valuation → ℕ
own_value m v = m.value m.width m.signed v

-- every signal has the value 0
abbrev pub nowhere : Valuation
nowhere name = 0

-- ---- literals and words

abbrev pub size_of : Option ℕ → ℕ
size_of None = 32
size_of (Some n) = n

-- a too long one loses its high bits
abbrev pub literal : Literal → Meaning
literal l = record { width = size_of l.size; signed = l.signed; value = λ W T v. extended T (size_of l.size) W (l.value % 2 ^ size_of l.size) }

-- a word of its own width, extended to a greater one
abbrev pub plain : ℕ → Bool → (Valuation → ℕ) → Meaning
plain w signed f = record { width = w; signed = signed; value = λ W T v. extended T w W (f v) }

abbrev pub one_bit : (Valuation → ℕ) → Meaning
one_bit f = plain 1 false f

-- ---- operators

abbrev pub unary : Op → Meaning → Meaning
unary op a =
    if keeps_width op then record { width = a.width; signed = a.signed; value = λ W T v. unary_value op W (a.value W T v) }
    else one_bit (λ v. unary_value op a.width (own_value a v))

abbrev pub shift : Op → Meaning → Meaning → Meaning
shift op a b = record { width = a.width; signed = a.signed; value = λ W T v. binary_value op T W (a.value W T v) (own_value b v) }

abbrev pub arithmetic : Op → Meaning → Meaning → Meaning
arithmetic op a b =
    record { width = max a.width b.width; signed = a.signed && b.signed; value = λ W T v. binary_value op T W (a.value W T v) (b.value W T v) }

abbrev pub logical : Op → Meaning → Meaning → Meaning
logical op a b = one_bit (λ v. binary_value op false a.width (own_value a v) (own_value b v))

-- at the greater of both widths, and signed only if both are
abbrev pub compared : Op → Meaning → Meaning → Meaning
compared op a b =
    let w = max a.width b.width in
    let s = a.signed && b.signed in
    one_bit (λ v. binary_value op s w (a.value w s v) (b.value w s v))

abbrev pub binary : Op → Meaning → Meaning → Meaning
binary op a b =
    if keeps_width op then (if is_apart op then shift op a b else arithmetic op a b)
    else (if is_apart op then logical op a b else compared op a b)

abbrev pub chosen : Meaning → Meaning → Meaning → Meaning
chosen c a b = record {
  width = max a.width b.width;
  signed = a.signed && b.signed;
  value = λ W T v. if own_value c v == 0 then b.value W T v else a.value W T v;
}

abbrev pub cast : Bool → Meaning → Meaning
cast signed a = plain a.width signed (own_value a)

-- ---- division

-- a number as w bits
abbrev pub wrapped : ℕ → ℤ → ℕ
wrapped w (pos n) = n % 2 ^ w
wrapped w (negsuc n) = (2 ^ w - suc n % 2 ^ w) % 2 ^ w

-- rounded towards 0
abbrev pub quotient : Bool → ℕ → ℕ → ℕ → ℕ
quotient signed w a b = if b == 0 then 0 else if signed then wrapped w (int_div (signed_of w a) (signed_of w b)) else a / b

-- with the sign of the left operand
abbrev pub remainder : Bool → ℕ → ℕ → ℕ → ℕ
remainder signed w a b = if b == 0 then 0 else if signed then wrapped w (int_rem (signed_of w a) (signed_of w b)) else a % b

abbrev pub divided : (Bool → ℕ → ℕ → ℕ → ℕ) → Meaning → Meaning → Meaning
divided f a b =
    record { width = max a.width b.width; signed = a.signed && b.signed; value = λ W T v. f T W (a.value W T v) (b.value W T v) }

-- ---- concatenations

abbrev pub widths : List Meaning → ℕ
widths ms = sum (map (λ m. m.width) ms)

-- the bits of the parts, the leftmost highest
abbrev pub joined : Valuation → List Meaning → ℕ
joined v [] = 0
joined v (m ∷ ms) = own_value m v * 2 ^ widths ms + joined v ms

abbrev pub concatenated : List Meaning → Meaning
concatenated ms = plain (widths ms) false (λ v. joined v ms)

-- w bits, so many times
abbrev pub repeated : ℕ → ℕ → ℕ → ℕ
repeated zero w a = 0
repeated (suc n) w a = repeated n w a * 2 ^ w + a

abbrev pub replicated : Meaning → List Meaning → Meaning
replicated n ms =
    let count = own_value n nowhere in
    plain (count * widths ms) false (λ v. repeated count (widths ms) (joined v ms))

-- ---- selects

-- a select by the meanings of what stands in it
abbrev pub Chosen : Type 0
Chosen = Select-F Meaning (Unit {0})

-- the number that an index stands for, negative if that is signed and negative
abbrev pub number_of : Meaning → Valuation → ℤ
number_of m v = if m.signed then signed_of m.width (own_value m v) else pos (own_value m v)
