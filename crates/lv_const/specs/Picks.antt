-- Selects of a constant: how many bits, and which.
use Rattle.std.specs.Prelude.{ℕ, ◌≡◌, ◌≤◌, ◌<◌, ◌+◌, ◌-◌, ◌/◌, ◌%◌, ◌^◌, max, min, nat_lt, nat_le, Bool, false, not, ◌&&◌, if◌then◌else◌, map, reverse, Option, None, Some, Result, Ok, Err, ℤ, pos, negsuc, ◌-ℤ◌}
use Rattle.std.specs.List.{range_with_len}
use Rattle.lv_bits.specs.Values.{signed_of}
use Rattle.lv_source.specs.Names.{Bounds, low, high, size}
use Rattle.lv_source.specs.Places.{falls, bits_from, read_bits}
use Rattle.lv_source.specs.NodeRules.{is_width, is_in_order}
use Rattle.lv_const.specs.declared.constant.Const.{Const}
use Rattle.lv_const.specs.declared.error.ConstError.{ConstError}
use Rattle.lv_const.specs.declared.error.ConstError.TheVariants.{Range}
use Rattle.lv_const.specs.declared.own.Own.{Own}
use Rattle.lv_const.specs.declared.full.Full.{Full}
use Rattle.lv_const.specs.Constants.{bounds_of}
use Rattle.lv_const.specs.Signs.{is_negative}
use Rattle.lv_const.specs.Joins.{Owned, Valued, full, is_count}

abbrev pub whole_own : Const → Own
whole_own c = record { width = c.word.width; signed = c.signed }

abbrev pub whole_full : Const → Full
whole_full c = record { word = c.word; signed = c.signed }

-- what the type of a constant keeps
pub record IsSized (c : Const) : Type 0 where
  pub spans : size (bounds_of c) ≡ c.word.width
  pub some : 1 ≤ c.word.width
  pub most : c.word.width ≤ 128
  pub fits : c.word.value < 2 ^ c.word.width

abbrev pub bit_own : Owned → Owned
bit_own (Err x) = Err x
bit_own (Ok a) = Ok (record { width = 1; signed = false })

-- a bound of a part select: not negative, at most 65535
abbrev pub is_place : Full → Bool
is_place f = nat_le f.word.value 65535 && not (is_negative f.signed f.word.width f.word.value)

abbrev pub is_part : Bounds → Full → Full → Bool
is_part b l r = is_place l && is_place r && is_in_order b l.word.value r.word.value && is_width
    (max l.word.value r.word.value - min l.word.value r.word.value + 1)

-- how many bits it takes
abbrev pub part_bits : Bounds → ℕ → Full → Full → Result ℕ ConstError
part_bits b place l r = if is_part b l r then Ok (max l.word.value r.word.value - min l.word.value r.word.value + 1) else Err (Range place)

abbrev pub bits_own : Result ℕ ConstError → Owned
bits_own (Err x) = Err x
bits_own (Ok n) = Ok (record { width = n; signed = false })

abbrev pub part_own : Const → ℕ → Valued → Valued → Owned
part_own c place (Err x) r = Err x
part_own c place (Ok l) (Err x) = Err x
part_own c place (Ok l) (Ok r) = bits_own (part_bits (bounds_of c) place l r)

abbrev pub is_run : Full → Bool
is_run w = is_width w.word.value && is_count w

abbrev pub run_bits : ℕ → Full → Result ℕ ConstError
run_bits place w = if is_run w then Ok w.word.value else Err (Range place)

abbrev pub run_own : ℕ → Owned → Valued → Owned
run_own place (Err x) w = Err x
run_own place (Ok e) (Err x) = Err x
run_own place (Ok e) (Ok w) = bits_own (run_bits place w)

-- ---- values

-- the number that an index stands for
abbrev pub number_at : Full → ℤ
number_at f = if f.signed then signed_of f.word.width f.word.value else pos f.word.value

-- the bits from a number upward
abbrev pub bits_at : Const → ℤ → ℕ → Full
bits_at c from count = full count false (read_bits c.word.value (bits_from (bounds_of c) from count))

abbrev pub bit_full : Const → Valued → Valued
bit_full c (Err x) = Err x
bit_full c (Ok i) = Ok (bits_at c (number_at i) 1)

-- so many bits from a number upward, or from below it up to it
abbrev pub upward : Const → ℤ → Result ℕ ConstError → Valued
upward c from (Err x) = Err x
upward c from (Ok n) = Ok (bits_at c from n)

abbrev pub downward : Const → ℤ → Result ℕ ConstError → Valued
downward c from (Err x) = Err x
downward c from (Ok n) = Ok (bits_at c (from -ℤ pos (n - 1)) n)

abbrev pub part_full : Const → ℕ → Valued → Valued → Valued
part_full c place (Err x) r = Err x
part_full c place (Ok l) (Err x) = Err x
part_full c place (Ok l) (Ok r) = upward c (pos (min l.word.value r.word.value)) (part_bits (bounds_of c) place l r)

abbrev pub up_full : Const → ℕ → Valued → Valued → Valued
up_full c place (Err x) w = Err x
up_full c place (Ok e) (Err x) = Err x
up_full c place (Ok e) (Ok w) = upward c (number_at e) (run_bits place w)

abbrev pub down_full : Const → ℕ → Valued → Valued → Valued
down_full c place (Err x) w = Err x
down_full c place (Ok e) (Err x) = Err x
down_full c place (Ok e) (Ok w) = downward c (number_at e) (run_bits place w)

-- ---- numbers without signs: 2048 higher, and not far from the bounds

abbrev pub nearby : ℤ → ℕ
nearby (pos n) = min n 70000 + 2048
nearby (negsuc n) = 2047 - min n 999

abbrev pub near_place : Bounds → ℕ → Option ℕ
near_place b m = if nat_lt m (low b + 2048) then None else (if nat_lt (high b + 2048) m then None else Some
    (if falls b then m - 2048 - b.right else b.right - (m - 2048)))

abbrev pub place_bit : ℕ → Option ℕ → ℕ
place_bit a None = 0
place_bit a (Some k) = a / 2 ^ k % 2

abbrev pub near_run : Const → ℕ → ℕ → Full
near_run c m count =
    full count false (if falls (bounds_of c) then read_bits c.word.value (map (near_place (bounds_of c)) (range_with_len m count))
    else read_bits c.word.value (reverse (map (near_place (bounds_of c)) (range_with_len m count))))
