-- Ports that are connected to clocks.
use Rattle.std.specs.Prelude.{◌≡◌, List, map, flat_map}
use Rattle.std.specs.Borrow.{Bor}
use Rattle.lv_ast.specs.declared.stmt.Ident.{Ident}
use Rattle.lv_source.specs.Names.{Names}
use Rattle.lv_source.specs.Scopes.{Link, clock_by}

-- the ports of these connections whose expressions are clocks among these names, in order
pub record AreClockPorts (names : Names) (links : List Link) (ports : List (Bor Ident)) : Type 0 where
  pub are : map (λ p. p.now.name) ports ≡ flat_map (clock_by names) links
