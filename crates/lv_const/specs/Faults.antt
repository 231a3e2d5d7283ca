-- What can be wrong at a node of a constant expression, by the width and the sign that reach it, where some constants are declared before.
use Rattle.std.specs.Prelude.{ℕ, Bool, if◌then◌else◌, List, [], ◌∷◌, ◌++◌, map}
use Rattle.lv_ast.specs.declared.expr.Path.{Path}
use Rattle.lv_ast.specs.declared.expr.Expr.TheOpen.{Expr-F}
use Rattle.lv_const.specs.declared.error.ConstError.{ConstError}
use Rattle.lv_const.specs.declared.error.ConstError.TheVariants as x
use Rattle.lv_source.specs.Sites.{Site, is_absent}
use Rattle.lv_source.specs.NodeRules.{is_early, unknown_name, unfixed_division, zero_divisor, out_of_range}

-- a name that stands for no constant, or for one that is declared later
abbrev pub no_value : (Path → Bool) → Site → List ℕ
no_value early s = elim s.node [ Expr-F.Name path ss ↦ if is_early (early path) (s.names path) then [] else path.place ∷ [] | _ ↦ [] ]

-- a division that reads a signal
abbrev pub unfixed : Site → List ℕ
unfixed s = elim s.node [ Expr-F.Div a b ↦ unfixed_division a b | Expr-F.Rem a b ↦ unfixed_division a b | _ ↦ [] ]

-- whatever hinders an own width
abbrev pub form_faults : (Path → Bool) → Site → List ℕ
form_faults early s = no_value early s ++ unknown_name s ++ unfixed s ++ out_of_range s

-- what is told, but for divisions by 0
abbrev pub told_faults : (Path → Bool) → Site → List ConstError
told_faults early s = map x.NoValue (no_value early s) ++ map x.Range (out_of_range s)

-- of a value
abbrev pub all_faults : (Path → Bool) → Site → List ConstError
all_faults early s = told_faults early s ++ map x.ZeroDivisor (zero_divisor s)

-- a division by 0 in a constant position: of an expression that stands in none, inside of a replication count, or of a bound or width of a part select
abbrev pub counted_zero : Site → List ℕ
counted_zero s = if is_absent s.fixed then [] else zero_divisor s

-- with each division by 0, or with those in constant positions alone
abbrev pub faults_of : Bool → (Path → Bool) → Site → List ConstError
faults_of each early s = told_faults early s ++ map x.ZeroDivisor (if each then zero_divisor s else counted_zero s)
