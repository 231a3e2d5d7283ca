-- What an expression is where names are known: its own width and sign (IEEE 1364-2005, sections 5.4.1 and 5.5.1), its value
-- at a width and a sign, whether it is constant, and which bits it reads.
use Rattle.std.specs.Prelude.{ℕ, Bool, true, false, ◌&&◌, if◌then◌else◌, List, [], ◌∷◌, ◌++◌, map, length}
use Rattle.std.specs.List.{list_all, flat_map}
use Rattle.lv_ast.specs.declared.expr.Expr.{Expr}
use Rattle.lv_ast.specs.declared.expr.Select.{Select}
use Rattle.lv_ast.specs.declared.expr.Expr.TheOpen.{Expr-F, Select-F}
use Rattle.lv_source.specs.Values.{Meaning, Chosen, literal, plain, unary, binary, chosen, concatenated, replicated, cast, divided, quotient, remainder, own_value, nowhere}
use Rattle.lv_ast.specs.Trees.{fold_expr, fold_select}
use Rattle.lv_source.specs.Names.{Names, Declared, Valuation, known, is_constant_sort, is_signal_sort}
use Rattle.lv_source.specs.Places.{Bit, place_of, held, read, bit_selects, bits_of, place_bits, whole}

pub record Reading : Type 0 where
  pub meaning : Meaning
  pub constant : Bool
  pub reads : List Bit

abbrev pub Choice : Type 0
Choice = Select-F Reading (Unit {0})

-- ---- names

abbrev pub parts_of : Choice → List Reading
parts_of (Select-F.Bit a) = a ∷ []
parts_of (Select-F.Part a b) = a ∷ b ∷ []
parts_of (Select-F.Up a b) = a ∷ b ∷ []
parts_of (Select-F.Down a b) = a ∷ b ∷ []

abbrev pub meant : Choice → Chosen
meant (Select-F.Bit a) = Select-F.Bit a.meaning
meant (Select-F.Part a b) = Select-F.Part a.meaning b.meaning
meant (Select-F.Up a b) = Select-F.Up a.meaning b.meaning
meant (Select-F.Down a b) = Select-F.Down a.meaning b.meaning

abbrev pub all_constant : List Choice → Bool
all_constant cs = list_all (λ c. list_all (λ r. r.constant) (parts_of c)) cs

abbrev pub index_reads : List Choice → List Bit
index_reads cs = flat_map (λ c. flat_map (λ r. r.reads) (parts_of c)) cs

-- the bits of a name that selects may reach
abbrev pub bits_named : Declared → List Choice → List Bit
bits_named d cs =
    if is_signal_sort d.sort then (if all_constant cs then place_bits (place_of d (map meant cs) nowhere) else whole d) else []

abbrev pub is_nil : {C : Type 0} → List C → Bool
is_nil [] = true
is_nil (c ∷ cs) = false

-- a name keeps its declared type where no bits of it are selected
abbrev pub named : Declared → List Choice → Reading
named d cs =
    let ss : List Chosen = map meant cs in
    let rest : List Chosen = bit_selects d.array ss in
    record {
      meaning = plain (length (bits_of d rest nowhere)) (is_nil rest && d.signed) (λ v. read (held d.sort v) (place_of d ss v));
      constant = is_constant_sort d.sort && all_constant cs;
      reads = bits_named d cs ++ index_reads cs;
    }

-- ---- expressions

abbrev pub reading : Meaning → List Reading → Reading
reading m rs = record { meaning = m; constant = list_all (λ r. r.constant) rs; reads = flat_map (λ r. r.reads) rs }

abbrev pub meanings : List Reading → List Meaning
meanings rs = map (λ r. r.meaning) rs

abbrev pub read_step : Names → Expr-F Reading Choice → Reading
read_step names (Expr-F.Lit l) = reading (literal l) []
read_step names (Expr-F.Name path cs) = named (known (names path)) cs
read_step names (Expr-F.Un op a) = reading (unary op a.meaning) (a ∷ [])
read_step names (Expr-F.Bin op a b) = reading (binary op a.meaning b.meaning) (a ∷ b ∷ [])
read_step names (Expr-F.Div a b) = reading (divided quotient a.meaning b.meaning) (a ∷ b ∷ [])
read_step names (Expr-F.Rem a b) = reading (divided remainder a.meaning b.meaning) (a ∷ b ∷ [])
read_step names (Expr-F.Cond c a b) = reading (chosen c.meaning a.meaning b.meaning) (c ∷ a ∷ b ∷ [])
read_step names (Expr-F.Cat rs) = reading (concatenated (meanings rs)) rs
read_step names (Expr-F.Rep n rs) = reading (replicated n.meaning (meanings rs)) (n ∷ rs)
read_step names (Expr-F.Cast signed a) = reading (cast signed a.meaning) (a ∷ [])

abbrev pub choice : Select-F Reading Choice → Choice
choice (Select-F.Bit a) = Select-F.Bit a
choice (Select-F.Part a b) = Select-F.Part a b
choice (Select-F.Up a b) = Select-F.Up a b
choice (Select-F.Down a b) = Select-F.Down a b

unfoldable pub read_expr : Names → Expr → Reading
read_expr names e = fold_expr Reading Choice (read_step names) choice e

unfoldable pub read_select : Names → Select → Choice
read_select names s = fold_select Reading Choice (read_step names) choice s

abbrev pub meaning : Names → Expr → Meaning
meaning names e = (read_expr names e).meaning

-- self-determined width and signedness
abbrev pub own_width : Names → Expr → ℕ
own_width names e = (meaning names e).width

abbrev pub own_signed : Names → Expr → Bool
own_signed names e = (meaning names e).signed

-- the value at a width and a sign
abbrev pub value_of : Names → Expr → ℕ → Bool → Valuation → ℕ
value_of names e W T v = (meaning names e).value W T v

-- the value at the own width and sign
abbrev pub own : Names → Expr → Valuation → ℕ
own names e v = own_value (meaning names e) v

abbrev pub is_constant : Names → Expr → Bool
is_constant names e = (read_expr names e).constant

abbrev pub constant_value : Names → Expr → ℕ
constant_value names e = own names e nowhere

-- the bits that it reads: those that its selects name, where these are constant, and else all of the variable
abbrev pub reads_of : Names → Expr → List Bit
reads_of names e = (read_expr names e).reads
