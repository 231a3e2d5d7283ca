-- Which bits a name with selects stands for (IEEE 1364-2005, section 5.2), and how they are read and written.
use Rattle.std.specs.Prelude.{ℕ, zero, suc, ◌+◌, ◌-◌, ◌*◌, ◌/◌, ◌%◌, ◌^◌, min, max, Bool, not, ◌&&◌, if◌then◌else◌, ◌==◌, nat_lt, List, [], ◌∷◌, ◌++◌, map, reverse, bytes_eq, Option, Some, None, ℤ, pos, negsuc, ◌+ℤ◌, ◌-ℤ◌, decimal}
use Rattle.std.specs.List.{list_any, flat_map, range_with_len}
use Rattle.lv_ast.specs.declared.expr.Expr.TheOpen.{Select-F}
use Rattle.lv_source.specs.Values.{Chosen, own_value, number_of, nowhere}
use Rattle.lv_ast.specs.Names.{Name, at_index}
use Rattle.lv_source.specs.Names.{Bounds, Declared, Valuation, Sort, Input, Net, Variable, Constant, low, high, size, width_of}

-- one bit of a value
pub record Bit : Type 0 where
  pub name : Name
  pub place : ℕ

-- bits of a name, the lowest first, each by its place in the value or outside of it
pub record Place : Type 0 where
  pub name : Name
  pub bits : List (Option ℕ)

-- whether the left bound is the greater one
abbrev pub falls : Bounds → Bool
falls b = not (nat_lt b.left b.right)

abbrev pub within : ℕ → ℕ → ℕ → Bool
within low high i = not (nat_lt i low) && not (nat_lt high i)

-- the place of a bit by its number in the declaration
abbrev pub bit_place : Bounds → ℤ → Option ℕ
bit_place b (negsuc i) = None
bit_place b (pos i) = if within (low b) (high b) i then Some (if falls b then i - b.right else b.right - i) else None

-- so many numbers, upward
abbrev pub rising : ℤ → ℕ → List ℤ
rising from zero = []
rising from (suc n) = from ∷ rising (from +ℤ pos 1) n

abbrev pub bits_from : Bounds → ℤ → ℕ → List (Option ℕ)
bits_from b from count = map (bit_place b) (if falls b then rising from count else reverse (rising from count))

-- how many numbers a select names
abbrev pub count_of : Chosen → ℕ
count_of (Select-F.Bit i) = 1
count_of (Select-F.Part l r) = max (own_value l nowhere) (own_value r nowhere) - min (own_value l nowhere) (own_value r nowhere) + 1
count_of (Select-F.Up e w) = own_value w nowhere
count_of (Select-F.Down e w) = own_value w nowhere

-- the lowest of them
abbrev pub lowest : Chosen → Valuation → ℤ
lowest (Select-F.Bit i) v = number_of i v
lowest (Select-F.Part l r) v = pos (min (own_value l nowhere) (own_value r nowhere))
lowest (Select-F.Up e w) v = number_of e v
lowest (Select-F.Down e w) v = number_of e v -ℤ pos (own_value w nowhere - 1)

abbrev pub all_bits : ℕ → List (Option ℕ)
all_bits zero = []
all_bits (suc n) = all_bits n ++ Some n ∷ []

-- the bits of a name, without the select of an element
abbrev pub bits_of : Declared → List Chosen → Valuation → List (Option ℕ)
bits_of d [] v = all_bits (width_of d)
bits_of d (s ∷ ss) v = bits_from d.bounds (lowest s v) (count_of s)

abbrev pub nowhere_place : List (Option ℕ) → Place
nowhere_place bits = record { name = []; bits = map (λ k. None) bits }

-- an element of an array, by its number
abbrev pub element : Declared → Bounds → ℤ → List Chosen → Valuation → Place
element d b (negsuc i) ss v = nowhere_place (bits_of d ss v)
element d b (pos i) ss v =
    if within (low b) (high b) i then record { name = at_index d.path (decimal i); bits = bits_of d ss v }
    else nowhere_place (bits_of d ss v)

abbrev pub place_by : Option Bounds → Declared → List Chosen → Valuation → Place
place_by None d ss v = record { name = d.path; bits = bits_of d ss v }
place_by (Some b) d [] v = nowhere_place (all_bits (width_of d))
place_by (Some b) d (s ∷ ss) v = element d b (lowest s v) ss v

abbrev pub place_of : Declared → List Chosen → Valuation → Place
place_of d ss v = place_by d.array d ss v

-- the selects of bits, without that of an element
abbrev pub bit_selects : {C : Type 0} → Option Bounds → List C → List C
bit_selects None ss = ss
bit_selects (Some b) [] = []
bit_selects (Some b) (s ∷ ss) = ss

-- a constant has its value everywhere; a name that is no signal reads 0
abbrev pub held : Sort → Valuation → Valuation
held (Constant x) v name = x
held Input v name = v name
held Net v name = v name
held Variable v name = v name
held _ v name = 0

-- ---- reading and writing

-- a bit that the declaration lacks reads 0
abbrev pub read_bits : ℕ → List (Option ℕ) → ℕ
read_bits a [] = 0
read_bits a (None ∷ ks) = 2 * read_bits a ks
read_bits a (Some k ∷ ks) = a / 2 ^ k % 2 + 2 * read_bits a ks

-- the bits above, the new bit and the bits below
abbrev pub set_bit : ℕ → ℕ → ℕ → ℕ
set_bit a k x = a / 2 ^ (k + 1) * 2 ^ (k + 1) + x * 2 ^ k + a % 2 ^ k

-- writing it has no effect
abbrev pub write_bits : ℕ → List (Option ℕ) → ℕ → ℕ
write_bits a [] x = a
write_bits a (None ∷ ks) x = write_bits a ks (x / 2)
write_bits a (Some k ∷ ks) x = write_bits (set_bit a k (x % 2)) ks (x / 2)

abbrev pub read : Valuation → Place → ℕ
read v p = read_bits (v p.name) p.bits

abbrev pub write : Valuation → Place → ℕ → Valuation
write v p x name = if bytes_eq name p.name then write_bits (v name) p.bits x else v name

-- ---- bits

abbrev pub same_bit : Bit → Bit → Bool
same_bit a b = (a.place == b.place) && bytes_eq a.name b.name

abbrev pub has_bit : List Bit → Bit → Bool
has_bit bs b = list_any (same_bit b) bs

abbrev pub some_bit : Name → Option ℕ → List Bit
some_bit name None = []
some_bit name (Some k) = record { name = name; place = k } ∷ []

abbrev pub place_bits : Place → List Bit
place_bits p = flat_map (some_bit p.name) p.bits

-- the names that have values of their own: a signal, or each element of an array
abbrev pub cells_by : Option Bounds → Name → List Name
cells_by None path = path ∷ []
cells_by (Some b) path = map (λ i. at_index path (decimal i)) (range_with_len (low b) (size b))

abbrev pub cells : Declared → List Name
cells d = cells_by d.array d.path

abbrev pub bits_below : ℕ → Name → List Bit
bits_below width name = map (λ k. record { name = name; place = k }) (range_with_len 0 width)

-- all bits of a signal
abbrev pub whole : Declared → List Bit
whole d = flat_map (bits_below (width_of d)) (cells d)

abbrev pub bit_at : Valuation → Bit → ℕ
bit_at v b = v b.name / 2 ^ b.place % 2
