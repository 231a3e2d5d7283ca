-- The nodes of the expressions and targets of a part, where they stand, and the clock names among them.
use Rattle.std.specs.Prelude.{ℕ, false, ◌&&◌, ◌++◌, if◌then◌else◌, List, [], map, Some, None, flat_map}
use Rattle.std.specs.List.{list_any}
use Rattle.lv_ast.specs.declared.stmt.Stmt.{Stmt}
use Rattle.lv_ast.specs.declared.item.Continuous.{Continuous}
use Rattle.lv_ast.specs.Names.{Name, alone}
use Rattle.lv_source.specs.Names.{Names, known, width_of, is_clock_sort}
use Rattle.lv_source.specs.Declarations.{declared_as}
use Rattle.lv_source.specs.Scopes.{Scope, Link, is_clock, is_output}
use Rattle.lv_source.specs.Sites.{Driven, Site, expr_sites, sink_sites, target_sites}
use Rattle.lv_source.specs.Standing.{stmt_spots, target_width}
use Rattle.lv_source.specs.NodeRules.{clock_use}

abbrev pub port_width : Scope → Name → ℕ
port_width child name = width_of (known (child.names (alone name)))

abbrev pub assign_sites : Names → Continuous → List Site
assign_sites names a = target_sites names Driven a.target ++ expr_sites false names (target_width names a.target) a.value

-- a connection of a clock is none of a signal; one of an output is written
abbrev pub link_sites : Names → Scope → Link → List Site
link_sites names child l = elim l.conn.value [
  | None ↦ []
  | Some x ↦
      (if is_clock names x && is_clock_sort (known (child.names (alone l.port))).sort then []
      else if list_any is_output (declared_as l.port child.declarations) then sink_sites names x
      else expr_sites false names (port_width child l.port) x)
]

abbrev pub stmt_sites : Names → Stmt → List Site
stmt_sites names s = map (λ x. x.site) (stmt_spots (record { names = names; early = λ p. false }) s)

-- the places of clock names outside of constant positions
abbrev pub clocks_in : List Site → List ℕ
clocks_in xs = flat_map clock_use xs
