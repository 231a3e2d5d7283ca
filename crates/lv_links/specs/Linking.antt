-- Connections with their ports.
use Rattle.std.specs.Prelude.{◌≡◌, List, [], ◌∷◌, map, flat_map, bytes_eq, Contains, ℕ, ⊤, if◌then◌else◌}
use Rattle.std.specs.Borrow.{Bor}
use Rattle.std.specs.List.{list_any}
use Rattle.lv_ast.specs.declared.stmt.Ident.{Ident}
use Rattle.lv_ast.specs.declared.item.Conn.{Conn}
use Rattle.lv_ast.specs.Names.{Name}
use Rattle.lv_source.specs.Names.{Names}
use Rattle.lv_source.specs.Scopes.{Link, links}
use Rattle.lv_source.specs.ScopeRules.{unlisted_names, unknown_ports, extra_settings, twice_linked, is_ordered}
use Rattle.lv_scopes.specs.NameLists.{listed}
use Rattle.lv_scopes.specs.declared.table.NameTable.{NameTable}
use Rattle.lv_links.specs.declared.linked.Linked.{Linked}
use Rattle.lv_links.specs.declared.linked.LinkError.{LinkError}
use Rattle.lv_links.specs.declared.linked.LinkError.TheVariants as e

-- the names behind these references
abbrev pub idents : List (Bor Ident) → List Ident
idents xs = map (λ x. x.now) xs

abbrev pub link_of : Linked → Link
link_of l = record { port = l.port.now.name; conn = l.conn.now }

abbrev pub all_links : List Linked → List Link
all_links ls = map link_of ls

-- the connections with their ports: each name is listed, no ordered one stands behind the last name, and none has a port that another one has
pub record AreLinked (names : List Ident) (conns : List Conn) (ls : List Linked) : Type 0 where
  pub are : all_links ls ≡ links names conns
  pub listed : unlisted_names names conns ≡ []
  pub ports : (here : Names) → unknown_ports here names conns ≡ []
  pub few : (here : Names) → extra_settings here names conns ≡ []
  pub once : (here : Names) → twice_linked here (links names conns) ≡ []

-- a name that is not listed (of a setting an unknown name, of a connection an unknown port), a connection behind the last name,
-- or one of a port that another one has
abbrev pub IsLinkError : List Ident → List Conn → LinkError → Type 0
IsLinkError names conns (e.Unlisted place) = Contains (unlisted_names names conns) place × ((here : Names) → Contains (unknown_ports here names conns) place)
IsLinkError names conns (e.Extra place) = (here : Names) → Contains (extra_settings here names conns) place × Contains (unknown_ports here names conns) place
IsLinkError names conns (e.Twice place) = (here : Names) → Contains (twice_linked here (links names conns)) place
IsLinkError names conns e.NoMemory = ⊤

-- ---- for the proof

-- the table has these names and no others
pub record HasNames (t : NameTable) (names : List Ident) : Type 0 where
  pub same : (name : Name) → list_any (bytes_eq name) (listed t) ≡ list_any (λ q. bytes_eq q.name name) names

abbrev pub ordered_places : List Conn → List ℕ
ordered_places cs = flat_map (λ c. if is_ordered c then c.place ∷ [] else []) cs
