use Rattle.std.proofs.Common.{List, map, length, sym, ap, ◌∙◌, subst}
use Rattle.std.specs.Prelude.{Contains, flat_map}
use Rattle.std.proofs.lemmas.List.{length-map}
use Rattle.std.proofs.lemmas.List.Elements.{Contains-append_left}
use Rattle.lv_ast.specs.declared.item.Ports.{Ports}
use Rattle.lv_source.specs.Declarations.{Declaration}
use Rattle.lv_source.specs.ScopeRules.{listed_ports, port_directions, two_ranges}
use Rattle.lv_scopes.specs.NameLists.{listed}
use Rattle.lv_declared.specs.Listing.{declared}
use Rattle.lv_repeats.specs.Directions.{directions_of}
use Rattle.lv_repeats.proofs.Directed.{Among}
use Rattle.lv_repeats.proofs.PortLaws.{directions_same}
use Rattle.lv_repeats.proofs.WholeLaws.{again_told, is_whole}
use Rattle.lv_repeats.proofs.whole.whole_fault.Goals as goal

pub returns-in-Some : goal.returns-in-Some
returns-in-Some c = λ s d e p.
    (let l : Among (listed c.in_ok-names.names) (listed_ports s.ports) =
    subst (λ (z : Ports). Among (listed c.in_ok-names.names) (listed_ports z)) (sym p) c.in_ok-names.ensures.same in
    again_told s (map declared c.args.declarations.now) c.args.symbols.now (listed c.in_ok-names.names) c.in-Some.place d e l c.in-Some.ensures)

pub returns-in-Some-direction_fault : goal.returns-in-Some-direction_fault
returns-in-Some-direction_fault c = λ s d e p.
    (let ds : List Declaration = map declared c.args.declarations.now in
    let place = c.in-Some-direction_fault.place in
    Contains-append_left (port_directions s) (flat_map (two_ranges s) s.declarations) place
    (subst (λ zs. Contains zs place) (sym (directions_same s ∙ ap (λ z. directions_of z s.declarations) p ∙ ap (directions_of c.args.ports.now) d))
    c.in-Some-direction_fault.ensures))

pub returns : goal.returns
returns c = λ s d e p.
    (let ds : List Declaration = map declared c.args.declarations.now in
    let l : Among (listed c.in_ok-names.names) (listed_ports s.ports) =
    subst (λ (z : Ports). Among (listed c.in_ok-names.names) (listed_ports z)) (sym p) c.in_ok-names.ensures.same in
    is_whole s ds c.args.symbols.now (listed c.in_ok-names.names) (length c.args.declarations.now) d e l (length-map c.args.declarations.now declared)
    c.in-None.ensures (ap (λ (z : Ports). directions_of z ds) p ∙ c.in-None-direction_fault.ensures))
