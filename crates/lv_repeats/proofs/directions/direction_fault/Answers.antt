use Rattle.std.proofs.Common.{map, sym, ap, ◌∙◌, flat_map}
use Rattle.lv_scopes.specs.NameLists.{listed}
use Rattle.lv_declared.specs.Listing.{declared}
use Rattle.lv_repeats.specs.Directions.{undirected_in}
use Rattle.lv_repeats.proofs.Directed.{of_names, of_absent, of_empty, as_told}
use Rattle.lv_repeats.proofs.directions.direction_fault.Goals as goal

pub returns-in-None : goal.returns-in-None
returns-in-None c = as_told c.unlisted.result _ _
    (of_names (listed c.args.names.now) (map declared c.args.declarations.now) c.args.ports.now c.in-Names.list c.in-Names.is c.requires.listed.same
    (ap (flat_map (undirected_in (map declared c.args.declarations.now))) (sym c.as_slice.ensures) ∙
    c.in-None.ensures (map declared c.args.declarations.now) c.requires.grouped))
    c.unlisted.ensures

pub returns-in-Absent : goal.returns-in-Absent
returns-in-Absent c = as_told c.unlisted-in-Absent.result _ _
    (of_absent (listed c.args.names.now) (map declared c.args.declarations.now) c.args.ports.now c.in-Absent.is c.requires.listed.same)
    c.unlisted-in-Absent.ensures

pub returns-in-Empty : goal.returns-in-Empty
returns-in-Empty c = as_told c.unlisted-in-Empty.result _ _
    (of_empty (listed c.args.names.now) (map declared c.args.declarations.now) c.args.ports.now c.in-Empty.is c.requires.listed.same)
    c.unlisted-in-Empty.ensures
