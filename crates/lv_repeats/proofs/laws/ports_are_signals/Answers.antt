use Rattle.std.proofs.Common.{◌≡◌, subst}
use Rattle.std.specs.Prelude.{Contains}
use Rattle.lv_ast.specs.Names.{alone}
use Rattle.lv_source.specs.Declarations.{of_module, port_names}
use Rattle.lv_source.specs.Scopes.{Scope}
use Rattle.lv_repeats.specs.Whole.{IsWhole}
use Rattle.lv_repeats.proofs.PortLaws.{StandsAs, port_stands}
use Rattle.lv_repeats.proofs.laws.ports_are_signals.Goals as goal

pub returns : goal.returns
returns c = λ s f m q h e. subst
    (λ (z : Scope). IsWhole z → z.ports ≡ m.ports → z.declarations ≡ of_module m → Contains (port_names m.ports) q → StandsAs (z.names (alone q.name)))
    e (port_stands f m q h)
