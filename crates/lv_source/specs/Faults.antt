-- The faults of a node, of a scope and of a design, by kind; together they are all that is refused.
use Rattle.std.specs.Prelude.{ℕ, List, [], ◌++◌, flat_map}
use Rattle.lv_ast.specs.declared.item.Source.{Source}
use Rattle.lv_source.specs.Scopes.{Scope}
use Rattle.lv_source.specs.Parts.{Design, Part, At}
use Rattle.lv_source.specs.Sites.{Spot}
use Rattle.lv_source.specs.NodeRules.{unknown_name, not_constant, zero_divisor, out_of_range, clock_use}
use Rattle.lv_source.specs.ScopeRules as r
use Rattle.lv_source.specs.PartRules as p
use Rattle.lv_source.specs.Legal.{Kind, UnknownModule, UnknownName, Duplicate, NotConstant, ZeroDivisor, Range, Recursion, Port, WrongKind, ClockUse, Blocking, Nonblocking, TwoDrivers, Undriven, Latch, ReadFirst, top_module, modules_again, top_clock, in_scopes, at_parts}

-- of a node of an expression
abbrev pub site_faults : Kind → Spot → List ℕ
site_faults UnknownName x = unknown_name x.site
site_faults NotConstant x = not_constant x
site_faults ZeroDivisor x = zero_divisor x.site
site_faults Range x = out_of_range x.site
site_faults ClockUse x = clock_use x.site
site_faults _ x = []

-- of a scope, but for those of its nodes
abbrev pub other_faults : Source → Kind → Scope → List ℕ
other_faults source UnknownModule s = r.unknown_modules source s
other_faults source UnknownName s = flat_map r.unknown_in_form (r.scope_standing s) ++ r.at_items (r.unknown_in_item source) s
other_faults source Duplicate s = r.duplicates s
other_faults source Range s = flat_map (r.range_fault s.names) s.declarations ++ flat_map r.range_in_form (r.scope_standing s) ++ r.at_items r.range_in_item s
other_faults source Recursion s = r.recursions source s
other_faults source Port s = r.ports source s
other_faults source _ s = []

abbrev pub scope_faults : Source → Kind → Scope → List ℕ
scope_faults source kind s = flat_map (site_faults kind) (r.scope_spots source s) ++ other_faults source kind s

-- of the design as a whole
abbrev pub design_faults : Design → Kind → List At
design_faults d UnknownModule = top_module d
design_faults d Duplicate = modules_again d.source.modules
design_faults d ClockUse = top_clock d
design_faults d _ = []

-- of a part, among all parts, by its number
abbrev pub part_faults : Design → Kind → List Part → ℕ → Part → List At
part_faults d NotConstant ps k q = p.unfixed_targets q
part_faults d WrongKind ps k q = p.wrong_kinds d q
part_faults d ClockUse ps k q = p.other_clocks q ++ p.clock_targets q
part_faults d Blocking ps k q = p.blocking d ps k q
part_faults d Nonblocking ps k q = p.nonblocking q
part_faults d TwoDrivers ps k q = p.two_drivers d ps k q
part_faults d Undriven ps k q = p.undriven d ps q
part_faults d Latch ps k q = p.latches q
part_faults d ReadFirst ps k q = p.read_first q
part_faults d _ ps k q = []

-- all of a kind
abbrev pub faults : Design → Kind → List At
faults d kind = design_faults d kind ++ in_scopes d (scope_faults d.source kind) ++ at_parts d (part_faults d kind)
