-- For the proof: ports without a direction, and directions of names that are not listed.
use Rattle.std.specs.Prelude.{ℕ, not, ◌&&◌, List, [], ◌++◌, flat_map, bytes_eq}
use Rattle.std.specs.List.{list_any}
use Rattle.lv_ast.specs.declared.stmt.Ident.{Ident}
use Rattle.lv_ast.specs.declared.item.Ports.{Ports}
use Rattle.lv_ast.specs.declared.item.Ports.TheVariants as p
use Rattle.lv_ast.specs.Names.{Name}
use Rattle.lv_source.specs.Declarations.{Declaration, declared_as}
use Rattle.lv_source.specs.Scopes.{is_direction, is_among}
use Rattle.lv_source.specs.ScopeRules.{place_if}

abbrev pub unlisted_in : List Name → Declaration → List ℕ
unlisted_in names d = place_if (is_direction d && not (is_among names d.name.name)) d.name.place

abbrev pub undirected_in : List Declaration → Ident → List ℕ
undirected_in ds n = place_if (not (list_any is_direction (declared_as n.name ds))) n.place

-- `port_directions` of a scope with these ports and declarations
abbrev pub directions_of : Ports → List Declaration → List ℕ
directions_of ports ds = elim ports [
  | p.Names names ↦
      flat_map (undirected_in ds) names ++
      flat_map (λ d. place_if (is_direction d && not (list_any (λ n. bytes_eq n.name d.name.name) names)) d.name.place) ds
  | p.Absent ↦ flat_map (λ d. place_if (is_direction d) d.name.place) ds
  | p.Empty ↦ flat_map (λ d. place_if (is_direction d) d.name.place) ds
  | p.Declared ports ↦ []
]
