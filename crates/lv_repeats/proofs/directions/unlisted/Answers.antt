use Rattle.std.proofs.Common.{◌≡◌, false, sym, ap, ◌∙◌}
use Rattle.lv_source.specs.Declarations.{Declaration}
use Rattle.lv_source.specs.Scopes.{is_among}
use Rattle.lv_scopes.specs.NameLists.{listed}
use Rattle.lv_declared.specs.Listing.{declared}
use Rattle.lv_repeats.specs.Directions.{unlisted_in}
use Rattle.lv_repeats.proofs.Lists.{found_there}
use Rattle.lv_repeats.proofs.Directed.{told_of_declaration}
use Rattle.lv_repeats.proofs.directions.unlisted.Goals as goal

pub returns-then-not-has_name : goal.returns-then-not-has_name
returns-then-not-has_name c =
    let d : Declaration = declared c.declaration-item.result in
    let none : is_among (listed c.args.names.now) d.name.name ≡ false =
    ap (is_among (listed c.args.names.now)) (sym c.bytes.ensures) ∙ sym c.has_name.ensures ∙ c.if-not-has_name.true in
    found_there declared (unlisted_in (listed c.args.names.now)) c.args.declarations.now c.loop-declaration.declaration-index c.declaration-item.result
    c.loop-declaration-test.true c.declaration-item.is d.name.place
    (told_of_declaration (listed c.args.names.now) d (sym c.is_direction.ensures ∙ c.if-is_direction.true) none)
