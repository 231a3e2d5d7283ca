-- The values that an instance gives the parameters of its module, by name.
use Rattle.std.specs.Prelude.{◌≡◌, if◌then◌else◌, List, [], ◌∷◌, map, Option, None, Some, find, bytes_eq}
use Rattle.std.specs.Option.{option_map}
use Rattle.lv_ast.specs.declared.expr.Expr.{Expr}
use Rattle.lv_ast.specs.Names.{Name}
use Rattle.lv_source.specs.Names.{Names}
use Rattle.lv_source.specs.Scopes.{Override}
use Rattle.lv_scopes.specs.NameLists.{listed}
use Rattle.lv_symbols.specs.declared.givens.Given.{Given}
use Rattle.lv_symbols.specs.declared.givens.Givens.{Givens}

-- the value beside the first name that is this one
abbrev pub value_beside : List Name → List Expr → Name → Option Expr
value_beside [] values name = None
value_beside (n ∷ names) [] name = None
value_beside (n ∷ names) (v ∷ values) name = if bytes_eq n name then Some v else value_beside names values name

-- the value for a name
abbrev pub value_for : Givens → Name → Option Expr
value_for g name = value_beside (listed g.names) (map (λ v. v.now) g.values.items) name

-- the values of this list; of two with one name the first
pub record AreGiven (list : List Given) (g : Givens) : Type 0 where
  pub same : (name : Name) → value_for g name ≡ option_map (λ x. x.value.now) (find (λ x. bytes_eq x.name.now.name name) list)

-- these overrides, which are read among those names
pub record AreOverrides (there : Names) (g : Givens) (os : List Override) : Type 0 where
  pub values : (name : Name) → value_for g name ≡ option_map (λ o. o.value) (find (λ o. bytes_eq o.name name) os)
  pub names : (name : Name) (o : Override) → find (λ o. bytes_eq o.name name) os ≡ Some o → o.there ≡ there
