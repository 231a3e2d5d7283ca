-- Places in a source by the constants that are declared before them.
use Rattle.std.specs.Prelude.{◌≡◌}
use Rattle.lv_ast.specs.declared.expr.Path.{Path}
use Rattle.lv_source.specs.Names.{Names, Here}
use Rattle.lv_source.specs.Constants.{early_constants}

-- these are the constants that are declared before the place
pub record AreDeclared (given : Names) (here : Here) : Type 0 where
  pub same : (p : Path) → given p ≡ early_constants here p

-- at each place where these are the constants that are declared before, whatever else has a name there
pub record Wherever (given : Names) (Holds : Here → Type 0) : Type 0 where
  pub at : (here : Here) → AreDeclared given here → Holds here
