-- The names of an expression, and the first of them that stands for no constant that is declared before.
use Rattle.std.specs.Prelude.{ℕ, List, [], ◌∷◌, ◌++◌, Option, Some, None, flat_map}
use Rattle.lv_ast.specs.declared.expr.Path.{Path}
use Rattle.lv_ast.specs.declared.expr.Expr.{Expr}
use Rattle.lv_ast.specs.declared.expr.Select.{Select}
use Rattle.lv_ast.specs.declared.expr.Expr.TheOpen.{Expr-F, Select-F}
use Rattle.lv_ast.specs.Trees.{fold_expr, fold_select}
use Rattle.lv_const.specs.declared.consts.Entry.{Entry}
use Rattle.lv_const.specs.Constants.{names_of}
use Rattle.lv_resolve.specs.declared.error.ResolveError.{ResolveError}
use Rattle.lv_resolve.specs.declared.error.ResolveError.TheVariants as x
use Rattle.lv_source.specs.Names.{Names, Declared}

abbrev pub path_step : Expr-F (List Path) (List Path) → List Path
path_step (Expr-F.Lit l) = []
path_step (Expr-F.Name path ss) = path ∷ flat_map (λ ps. ps) ss
path_step (Expr-F.Un op a) = a
path_step (Expr-F.Bin op a b) = a ++ b
path_step (Expr-F.Div a b) = a ++ b
path_step (Expr-F.Rem a b) = a ++ b
path_step (Expr-F.Cond c a b) = c ++ a ++ b
path_step (Expr-F.Cat rs) = flat_map (λ ps. ps) rs
path_step (Expr-F.Rep n rs) = n ++ flat_map (λ ps. ps) rs
path_step (Expr-F.Cast signed a) = a

abbrev pub path_choice : Select-F (List Path) (List Path) → List Path
path_choice (Select-F.Bit a) = a
path_choice (Select-F.Part a b) = a ++ b
path_choice (Select-F.Up a b) = a ++ b
path_choice (Select-F.Down a b) = a ++ b

-- the names in it, in order
unfoldable pub paths_in : Expr → List Path
paths_in e = fold_expr (List Path) (List Path) path_step path_choice e

unfoldable pub paths_within : Select → List Path
paths_within s = fold_select (List Path) (List Path) path_step path_choice s

-- ---- where a constant is wanted

abbrev pub late_by : Option Declared → Option ℕ → Option Declared → ℕ → Option ResolveError
late_by (Some d) k all place = None
late_by None (Some k) all place = Some (x.NotConstant place)
late_by None None (Some d) place = Some (x.NotConstant place)
late_by None None None place = Some (x.UnknownName place)

-- a name that is no constant, or is declared later, by all constants and those that are declared before
abbrev pub late_of : (Path → Option ℕ) → Names → Names → Path → Option ResolveError
late_of find all early p = late_by (early p) (find p) (all p) p.place

abbrev pub late_name : (Path → Option ℕ) → List Entry → List Entry → Path → Option ResolveError
late_name find all early p = late_of find (names_of all) (names_of early) p

abbrev pub or_else : Option ResolveError → Option ResolveError → Option ResolveError
or_else None y = y
or_else (Some e) y = Some e

abbrev pub first_late : (Path → Option ResolveError) → List Path → Option ResolveError
first_late f [] = None
first_late f (p ∷ ps) = or_else (f p) (first_late f ps)
