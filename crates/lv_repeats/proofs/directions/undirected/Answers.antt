use Rattle.std.proofs.Common.{◌≡◌, false, sym, ap, ◌∙◌}
use Rattle.std.specs.List.{list_any}
use Rattle.lv_ast.specs.Names.{Name}
use Rattle.lv_source.specs.Declarations.{declared_as}
use Rattle.lv_source.specs.Scopes.{is_direction}
use Rattle.lv_repeats.specs.Directions.{undirected_in}
use Rattle.lv_repeats.proofs.Lists.{found_in}
use Rattle.lv_repeats.proofs.Directed.{told_of_name}
use Rattle.lv_repeats.proofs.directions.undirected.Goals as goal

pub returns-then-not-has_direction : goal.returns-then-not-has_direction
returns-then-not-has_direction c = λ ds h.
    (let none : list_any is_direction (declared_as c.name-item.result.name ds) ≡ false =
    ap (λ (n : Name). list_any is_direction (declared_as n ds)) (sym c.bytes.ensures) ∙ sym (c.has_direction.ensures ds h) ∙ c.if-not-has_direction.true in
    found_in (undirected_in ds) c.args.names.now c.loop-name.name-index c.name-item.result c.loop-name-test.true c.name-item.is c.name-item.result.place
    (told_of_name ds c.name-item.result none))
