-- Names of a contract: paths from the top that stand for signals. A clock is none, nor is a parameter.
use Rattle.std.specs.Prelude.{ℕ, suc, false, ◌&&◌, if◌then◌else◌, List, [], ◌∷◌, Option, Some, None, bytes_eq, find, flat_map}
use Rattle.lv_ast.specs.declared.expr.Expr.{Expr}
use Rattle.lv_ast.specs.declared.expr.Path.{Path}
use Rattle.lv_ast.specs.Names.{Name, path_text}
use Rattle.lv_source.specs.Names.{Names, Here, Declared, Valuation}
use Rattle.lv_source.specs.Places.{Bit}
use Rattle.lv_source.specs.Meaning.{own, reads_of}
use Rattle.lv_source.specs.Parts.{is_signal}
use Rattle.lv_source.specs.Sites.{Site, spots, expr_sites}
use Rattle.lv_source.specs.NodeRules.{unknown_name, not_constant, zero_divisor, out_of_range}
use Rattle.lv_flat.specs.Signals.{Signals}

-- the first of the signals with this path
abbrev pub names_in : List Declared → Names
names_in ds p = find (λ x. bytes_eq x.path (path_text p)) ds

-- no constant is among them
abbrev pub here_in : List Declared → Here
here_in ds = record { names = names_in ds; early = λ p. false }

-- the number of the first signal with this path, where the first of the list has number k
abbrev pub number_from : ℕ → Signals → Name → Option ℕ
number_from k [] name = None
number_from k (x ∷ xs) name = if is_signal x && bytes_eq x.path name then Some k else number_from (suc k) xs name

abbrev pub number_of : Signals → Path → Option ℕ
number_of S p = number_from 0 S (path_text p)

-- its value at its own width and sign, and the bits that it reads
abbrev pub value_in : List Declared → Expr → Valuation → ℕ
value_in ds e v = own (names_in ds) e v

abbrev pub bits_in : List Declared → Expr → List Bit
bits_in ds e = reads_of (names_in ds) e

-- ---- what may be wrong with an expression, with the places where it is told

abbrev pub sites_in : List Declared → Expr → List Site
sites_in ds e = expr_sites false (names_in ds) 0 e

abbrev pub unknown_in : List Declared → Expr → List ℕ
unknown_in ds e = flat_map unknown_name (sites_in ds e)

abbrev pub not_constant_in : List Declared → Expr → List ℕ
not_constant_in ds e = flat_map not_constant (spots (here_in ds) (sites_in ds e))

abbrev pub zero_divisor_in : List Declared → Expr → List ℕ
zero_divisor_in ds e = flat_map zero_divisor (sites_in ds e)

abbrev pub out_of_range_in : List Declared → Expr → List ℕ
out_of_range_in ds e = flat_map out_of_range (sites_in ds e)
