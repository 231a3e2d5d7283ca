-- The rules that a node of an expression can break, one by one, each with the places where it is told.
use Rattle.std.specs.Prelude.{ℕ, ◌^◌, Bool, true, false, not, ◌&&◌, ◌||◌, if◌then◌else◌, ◌==◌, nat_lt, nat_le, List, [], ◌∷◌, ◌++◌, length, Option, Some, None, ℤ, pos, negsuc}
use Rattle.std.specs.List.{list_all}
use Rattle.lv_ast.specs.declared.expr.Literal.{Literal}
use Rattle.lv_ast.specs.declared.expr.Expr.TheOpen.{Expr-F, Select-F}
use Rattle.lv_source.specs.Names.{Sort, Index, Other, Declared, Bounds, known, is_constant_sort, is_clock_sort}
use Rattle.lv_source.specs.Values.{own_value, number_of, nowhere}
use Rattle.lv_source.specs.Places.{falls, count_of, bit_selects}
use Rattle.lv_source.specs.Sites.{Shown, Step, Role, Value, Joined, Written, Driven, DrivenJoined, Site, Spot, first_of, first_place}

-- ---- numbers

abbrev pub number : Shown → ℤ
number w = number_of w.reading.meaning nowhere

abbrev pub is_bound : ℤ → Bool
is_bound (pos n) = nat_le n 65535
is_bound (negsuc n) = false

abbrev pub is_width : ℕ → Bool
is_width w = nat_le 1 w && nat_le w 128

abbrev pub is_positive : ℤ → Bool
is_positive (pos n) = nat_lt 0 n
is_positive (negsuc n) = false

abbrev pub is_width_number : ℤ → Bool
is_width_number (pos n) = is_width n
is_width_number (negsuc n) = false

-- ---- UnknownName: no declaration that can stand there

abbrev pub can_be_read : Sort → Bool
can_be_read (Index g) = false
can_be_read Other = false
can_be_read _ = true

abbrev pub is_bit_step : Step → Bool
is_bit_step (Select-F.Bit a) = true
is_bit_step _ = false

-- an array without a select, or whose first one isn't of the form `[e]`
abbrev pub is_array_fault : Option Bounds → List Step → Bool
is_array_fault None ss = false
is_array_fault (Some b) [] = true
is_array_fault (Some b) (s ∷ ss) = not (is_bit_step s)

-- a constant can't be written
abbrev pub is_written : Role → Bool
is_written Value = false
is_written Joined = false
is_written Written = true
is_written Driven = true
is_written DrivenJoined = true

abbrev pub is_name_fault : Role → Option Declared → List Step → Bool
is_name_fault role None ss = true
is_name_fault role (Some d) ss = not (can_be_read d.sort) || is_array_fault d.array ss || is_written role && is_constant_sort d.sort

abbrev pub unknown_name : Site → List ℕ
unknown_name s = elim s.node [ Expr-F.Name path ss ↦ if is_name_fault s.role (s.names path) ss then path.place ∷ [] else [] | _ ↦ [] ]

-- ---- NotConstant: a constant position reads something else, or a division reads a signal

-- a constant that is declared before
abbrev pub is_early : Bool → Option Declared → Bool
is_early early None = false
is_early early (Some d) = is_constant_sort d.sort && early

-- a name that can't be read is an unknown one
abbrev pub is_unreadable : Option Declared → Bool
is_unreadable None = true
is_unreadable (Some d) = not (can_be_read d.sort)

-- told at the name, or where the constant expression begins
abbrev pub unfixed_name : Option ℕ → Bool → Option Declared → ℕ → List ℕ
unfixed_name None early d place = []
unfixed_name (Some first) early d place = if is_early early d || is_unreadable d then [] else place ∷ first ∷ []

abbrev pub unfixed_division : Shown → Shown → List ℕ
unfixed_division a b = if a.reading.constant && b.reading.constant then [] else first_of (a.places ++ b.places) ∷ []

abbrev pub not_constant : Spot → List ℕ
not_constant x = elim x.site.node [
  | Expr-F.Name path ss ↦ unfixed_name x.site.fixed (x.early path) (x.site.names path) path.place
  | Expr-F.Div a b ↦ unfixed_division a b
  | Expr-F.Rem a b ↦ unfixed_division a b
  | _ ↦ []
]

-- ---- ZeroDivisor: a constant is divided by 0, at the width and sign that reach the division

-- told where the division begins, or its divisor
abbrev pub zero_division : Shown → Shown → ℕ → Bool → List ℕ
zero_division a b W T =
    if b.reading.constant && (b.reading.meaning.value W T nowhere == 0) then first_of (a.places ++ b.places) ∷ first_place b ∷ [] else []

abbrev pub zero_divisor : Site → List ℕ
zero_divisor s = elim s.node [
  | Expr-F.Div a b ↦ zero_division a b s.width s.signed
  | Expr-F.Rem a b ↦ zero_division a b s.width s.signed
  | _ ↦ []
]

-- ---- Range: a width, a literal, a select or a replication out of range

abbrev pub is_in_order : Bounds → ℕ → ℕ → Bool
is_in_order b l r = if falls b then nat_le r l else nat_le l r

-- a select of bits that the declaration allows
abbrev pub is_good_step : Bounds → Step → Bool
is_good_step b (Select-F.Bit a) = true
is_good_step b (Select-F.Part l r) =
    is_bound (number l) && is_bound (number r) && is_in_order b (own_value l.reading.meaning nowhere) (own_value r.reading.meaning nowhere) &&
    is_width (count_of (Select-F.Part l.reading.meaning r.reading.meaning))
is_good_step b (Select-F.Up e w) = is_width_number (number w)
is_good_step b (Select-F.Down e w) = is_width_number (number w)

-- a signal that was declared without a range has no bits to select
abbrev pub most_steps : Declared → ℕ
most_steps d = if d.ranged then 1 else 0

abbrev pub is_select_fault : Declared → List Step → Bool
is_select_fault d ss =
    let rest : List Step = bit_selects d.array ss in
    not (nat_le (length rest) (most_steps d)) || not (list_all (is_good_step d.bounds) rest)

-- a size out of 1 to 128; without a size a value of 2^32 or more, or an operand that is joined
abbrev pub is_literal_fault : Role → Literal → Bool
is_literal_fault Joined l = elim l.size [ None ↦ true | Some n ↦ not (is_width n) ]
is_literal_fault DrivenJoined l = elim l.size [ None ↦ true | Some n ↦ not (is_width n) ]
is_literal_fault role l = elim l.size [ None ↦ nat_le (2 ^ 32) l.value | Some n ↦ not (is_width n) ]

abbrev pub is_node_fault : Site → Bool
is_node_fault s = elim s.node [
  | Expr-F.Lit l ↦ is_literal_fault s.role l
  | Expr-F.Name path ss ↦ is_select_fault (known (s.names path)) ss
  | Expr-F.Rep n rs ↦ not (is_positive (number n))
  | _ ↦ false
]

abbrev pub out_of_range : Site → List ℕ
out_of_range s = if not (is_width s.shown.reading.meaning.width) || is_node_fault s then first_place s.shown ∷ [] else []

-- ---- ClockUse: a clock name in an expression or target; in a constant position it is no constant

abbrev pub is_clock_name : Option Declared → Bool
is_clock_name None = false
is_clock_name (Some d) = is_clock_sort d.sort

abbrev pub clock_in : Option ℕ → Option Declared → ℕ → List ℕ
clock_in None d place = if is_clock_name d then place ∷ [] else []
clock_in (Some first) d place = []

abbrev pub clock_use : Site → List ℕ
clock_use s = elim s.node [ Expr-F.Name path ss ↦ clock_in s.fixed (s.names path) path.place | _ ↦ [] ]
