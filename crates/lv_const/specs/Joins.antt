-- The answer of a node from the answers of its operands.
use Rattle.std.specs.Prelude.{ℕ, ◌+◌, ◌*◌, ◌^◌, ◌%◌, max, nat_lt, nat_le, ◌==◌, Bool, true, false, not, ◌&&◌, if◌then◌else◌, Option, None, Some, Result, Ok, Err}
use Rattle.lv_bits.specs.declared.op.Op.{Op}
use Rattle.lv_bits.specs.Words.{Bits}
use Rattle.lv_bits.specs.Values.{keeps_width, is_apart, unary_of, binary_of, extended}
use Rattle.lv_ast.specs.declared.expr.Literal.{Literal}
use Rattle.lv_source.specs.Values.{size_of, quotient, remainder, repeated}
use Rattle.lv_source.specs.NodeRules.{is_width, is_literal_fault}
use Rattle.lv_const.specs.declared.own.Own.{Own}
use Rattle.lv_const.specs.declared.full.Full.{Full}
use Rattle.lv_const.specs.declared.full.Reach.{Reach}
use Rattle.lv_const.specs.declared.pair.Pair.{Pair}
use Rattle.lv_const.specs.declared.error.ConstError.{ConstError}
use Rattle.lv_const.specs.declared.error.ConstError.TheVariants.{Range, ZeroDivisor}
use Rattle.lv_const.specs.Answers.{read_role}
use Rattle.lv_const.specs.Signs.{is_negative}

abbrev pub Owned : Type 0
Owned = Result Own ConstError

abbrev pub bit : Own
bit = record { width = 1; signed = false }

abbrev pub greater : Own → Own → Own
greater a b = record { width = max a.width b.width; signed = a.signed && b.signed }

abbrev pub unary_own : Op → Owned → Owned
unary_own op (Ok a) = Ok (if keeps_width op then a else bit)
unary_own op (Err x) = Err x

abbrev pub binary_both : Op → Own → Own → Own
binary_both op a b = if keeps_width op then (if is_apart op then a else greater a b) else bit

abbrev pub both : (Own → Own → Own) → Owned → Owned → Owned
both f (Err x) b = Err x
both f (Ok a) (Err x) = Err x
both f (Ok a) (Ok b) = Ok (f a b)

abbrev pub binary_own : Op → Owned → Owned → Owned
binary_own op a b = both (binary_both op) a b

abbrev pub greater_own : Owned → Owned → Owned
greater_own a b = both greater a b

abbrev pub chosen_own : Owned → Owned → Owned → Owned
chosen_own (Err x) a b = Err x
chosen_own (Ok c) a b = greater_own a b

abbrev pub cast_own : Bool → Owned → Owned
cast_own signed (Err x) = Err x
cast_own signed (Ok a) = Ok (record { width = a.width; signed = signed })

abbrev pub of_width : ℕ → ℕ → Owned
of_width place w = if is_width w then Ok (record { width = w; signed = false }) else Err (Range place)

abbrev pub joined_own : ℕ → Result ℕ ConstError → Owned
joined_own place (Err x) = Err x
joined_own place (Ok total) = of_width place total

-- whether a count of copies is above 0
abbrev pub is_count : Full → Bool
is_count f = nat_lt 0 f.word.value && not (is_negative f.signed f.word.width f.word.value)

abbrev pub repeated_own : ℕ → Result Full ConstError → Result ℕ ConstError → Owned
repeated_own place (Err x) total = Err x
repeated_own place (Ok count) (Err x) = Err x
repeated_own place (Ok count) (Ok total) = if is_count count then of_width place (count.word.value * total) else Err (Range place)

abbrev pub literal_own : Literal → Bool → Owned
literal_own l joined =
    if is_width (size_of l.size) && not (is_literal_fault (read_role joined) l) then Ok (record { width = size_of l.size; signed = l.signed }) else Err
    (Range l.place)

-- ---- values

abbrev pub Valued : Type 0
Valued = Result Full ConstError

abbrev pub Paired : Type 0
Paired = Result Pair ConstError

abbrev pub full : ℕ → Bool → ℕ → Full
full w s x = record { word = record { width = w; value = x }; signed = s }

abbrev pub alone : Reach
alone = record { least = 0; signed = true; fixed = false }

-- the width and the sign that reach an operand, by its own
abbrev pub wide : Reach → ℕ → ℕ
wide r w = max w r.least

abbrev pub typed : Reach → Bool → Bool
typed r s = if r.fixed then r.signed else s && r.signed

abbrev pub spread : Reach → Own → Reach
spread r o = record { least = wide r o.width; signed = typed r o.signed; fixed = r.fixed }

abbrev pub held : Full → Reach
held f = record { least = f.word.width; signed = f.signed; fixed = true }

abbrev pub placed : Reach → Valued → Valued
placed r (Err x) = Err x
placed r (Ok f) = Ok (full (wide r f.word.width) (typed r f.signed) (extended (typed r f.signed) f.word.width (wide r f.word.width) f.word.value))

abbrev pub literal_word : Literal → Owned → Valued
literal_word l (Err x) = Err x
literal_word l (Ok o) = Ok (full o.width o.signed (l.value % 2 ^ o.width))

abbrev pub literal_full : Literal → Bool → Valued
literal_full l joined = literal_word l (literal_own l joined)

abbrev pub unary_kept : Op → Valued → Valued
unary_kept op (Err x) = Err x
unary_kept op (Ok a) = Ok (record { word = unary_of op a.word; signed = a.signed })

abbrev pub unary_bit : Op → Valued → Valued
unary_bit op (Err x) = Err x
unary_bit op (Ok a) = Ok (record { word = unary_of op a.word; signed = false })

abbrev pub shifted : Op → Valued → Valued → Valued
shifted op (Err x) b = Err x
shifted op (Ok a) (Err x) = Err x
shifted op (Ok a) (Ok b) = Ok (record { word = binary_of op a.signed a.word b.word; signed = a.signed })

abbrev pub logical : Op → Valued → Valued → Valued
logical op (Err x) b = Err x
logical op (Ok a) (Err x) = Err x
logical op (Ok a) (Ok b) = Ok (record { word = binary_of op false a.word b.word; signed = false })

abbrev pub paired : Valued → Valued → Paired
paired (Err x) r = Err x
paired (Ok l) (Err x) = Err x
paired (Ok l) (Ok r) = Ok (record { left = l.word; right = r.word; signed = l.signed })

abbrev pub arithmetic : Op → Paired → Valued
arithmetic op (Err x) = Err x
arithmetic op (Ok p) = Ok (record { word = binary_of op p.signed p.left p.right; signed = p.signed })

abbrev pub compared : Op → Paired → Valued
compared op (Err x) = Err x
compared op (Ok p) = Ok (record { word = binary_of op p.signed p.left p.right; signed = false })

abbrev pub divided : ℕ → Paired → Valued
divided place (Err x) = Err x
divided place (Ok p) = if p.right.value == 0 then Err (ZeroDivisor place) else Ok
    (full p.left.width p.signed (quotient p.signed p.left.width p.left.value p.right.value))

abbrev pub remains : ℕ → Paired → Valued
remains place (Err x) = Err x
remains place (Ok p) = if p.right.value == 0 then Err (ZeroDivisor place) else Ok
    (full p.left.width p.signed (remainder p.signed p.left.width p.left.value p.right.value))

abbrev pub chosen : Valued → Paired → Valued
chosen (Err x) p = Err x
chosen (Ok c) (Err x) = Err x
chosen (Ok c) (Ok p) = Ok (record { word = if c.word.value == 0 then p.right else p.left; signed = p.signed })

abbrev pub cast_full : Bool → Valued → Valued
cast_full signed (Err x) = Err x
cast_full signed (Ok a) = Ok (record { word = a.word; signed = signed })

abbrev pub joined_full : Result Bits ConstError → Valued
joined_full (Err x) = Err x
joined_full (Ok word) = Ok (record { word = word; signed = false })

abbrev pub repeated_full : ℕ → Valued → Result Bits ConstError → Valued
repeated_full place (Err x) word = Err x
repeated_full place (Ok count) (Err x) = Err x
repeated_full place (Ok count) (Ok word) =
    if is_count count && is_width (count.word.value * word.width) then Ok
    (full (count.word.value * word.width) false (repeated count.word.value word.width word.value)) else Err (Range place)

-- one more operand behind the words so far
abbrev pub appended : ℕ → Option Bits → Valued → Result Bits ConstError
appended place joint (Err x) = Err x
appended place None (Ok f) = Ok f.word
appended place (Some high) (Ok f) =
    if nat_le (high.width + f.word.width) 128 then Ok (record { width = high.width + f.word.width; value = high.value * 2 ^ f.word.width + f.word.value })
    else Err (Range place)
