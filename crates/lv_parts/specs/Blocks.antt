-- What is answered of blocks.
use Rattle.std.specs.Prelude.{◌≡◌, ℕ, true, false, List, [], ◌∷◌, ◌++◌, Result, IfOk, IfErr, flat_map, ⊤}
use Rattle.lv_ast.specs.declared.stmt.Ident.{Ident}
use Rattle.lv_ast.specs.declared.stmt.Stmt.{Stmt}
use Rattle.lv_ast.specs.declared.item.Watch.{Watch}
use Rattle.lv_ast.specs.declared.item.Watch.TheVariants as w
use Rattle.lv_ast.specs.Names.{Name, alone}
use Rattle.lv_source.specs.Names.{Names, Here, known}
use Rattle.lv_source.specs.Faults.{site_faults}
use Rattle.lv_source.specs.Legal.{Kind, UnknownName, Duplicate, Range}
use Rattle.lv_source.specs.Standing.{Standing, standing, stmt_spots}
use Rattle.lv_source.specs.ScopeRules.{place_if, is_no_edge, unknown_in_form, range_in_form, two_defaults}
use Rattle.lv_source.specs.PartSites.{stmt_sites}
use Rattle.lv_source.specs.Parts.{Part, Comb, Clocked, always_body, is_declared_sort}
use Rattle.lv_flat.specs.declared.stmt.FlatName.{FlatName}
use Rattle.lv_flat.specs.declared.part.FlatPart.{FlatPart}
use Rattle.lv_flat.specs.Signals.{Signals, signal_at}
use Rattle.lv_resolve_stmts.specs.Statements.{AreSound, is_endless, has_stmt_operands}
use Rattle.lv_faults.specs.declared.fault.Fault.TheVariants as f
use Rattle.lv_parts.specs.declared.error.PartsError.{PartsError}
use Rattle.lv_parts.specs.declared.error.PartsError.TheVariants as e
use Rattle.lv_parts.specs.Errors.{IsToldBy}
use Rattle.lv_parts.specs.Made.{AddAnswer, MadeAnswer, HasOne}
use Rattle.lv_parts.specs.Nets.{part_of}

-- one of these is a loop of more turns than are allowed
abbrev pub HasEndless : List Standing → Type 0
HasEndless ks = HasOne (λ k. is_endless k ≡ true) ks

-- ---- for the proof: the name behind `posedge`

pub record IsEdge (S : Signals) (here : Here) (clock : Ident) (e : FlatName) : Type 0 where
  pub place : e.place ≡ clock.place
  pub sort : (signal_at S e.signal).sort ≡ (known (here.names (alone clock.name))).sort
  pub declared : is_declared_sort (signal_at S e.signal).sort ≡ true
  pub known : is_no_edge (known (here.names (alone clock.name))).sort ≡ false

abbrev pub IsNoEdge : Here → Ident → PartsError → Type 0
IsNoEdge here clock (e.Fault a) = (a ≡ f.UnknownName clock.place) × (is_no_edge (known (here.names (alone clock.name))).sort ≡ true)
IsNoEdge here clock e.Limit = ⊥
IsNoEdge here clock e.NoMemory = ⊤

pub record EdgeAnswer (S : Signals) (here : Here) (clock : Ident) (r : Result FlatName PartsError) : Type 0 where
  pub right : IfOk r (IsEdge S here clock)
  pub wrong : IfErr r (IsNoEdge here clock)

-- ---- statements

abbrev pub stmt_rules : Here → Stmt → Kind → List ℕ
stmt_rules here s UnknownName = flat_map unknown_in_form (standing here s)
stmt_rules here s Duplicate = flat_map two_defaults (standing here s)
stmt_rules here s Range = flat_map range_in_form (standing here s)
stmt_rules here s _ = []

abbrev pub stmt_faults : Here → Stmt → Kind → List ℕ
stmt_faults here s kind = flat_map (site_faults kind) (stmt_spots here s) ++ stmt_rules here s kind

abbrev pub IsWellStmt : Stmt → Type 0
IsWellStmt s = has_stmt_operands s ≡ true

abbrev pub CombAnswer : Signals → Here → Name → Stmt → ℕ → Result FlatPart PartsError → Type 0
CombAnswer S here path s at r =
    MadeAnswer S (part_of path at (stmt_sites here.names s) (Comb here.names s)) (IsWellStmt s) (AreSound (standing here s))
    (IsToldBy (stmt_faults here s) (HasEndless (standing here s))) r

pub record ClockedAnswer (S : Signals) (here : Here) (path : Name) (edge : FlatName) (s : Stmt) (place : ℕ) (r : Result FlatPart PartsError) : Type 0 where
  pub at : (clock : Ident) → IsEdge S here clock edge →
      MadeAnswer S (part_of path place (stmt_sites here.names s) (Clocked here.names clock s)) (IsWellStmt s) (AreSound (standing here s))
      (IsToldBy (stmt_faults here s) (HasEndless (standing here s))) r

-- ---- an `always`

abbrev pub edge_faults : Names → Watch → List ℕ
edge_faults names (w.Posedge clock) = place_if (is_no_edge (known (names (alone clock.name))).sort) clock.place
edge_faults names w.Star = []
edge_faults names w.Closed = []

abbrev pub watch_rules : Names → Watch → Kind → List ℕ
watch_rules names watch UnknownName = edge_faults names watch
watch_rules names watch _ = []

abbrev pub always_faults : Here → Watch → Stmt → Kind → List ℕ
always_faults here watch s kind = stmt_faults here s kind ++ watch_rules here.names watch kind

pub record IsCleanAlways (here : Here) (watch : Watch) (s : Stmt) : Type 0 where
  pub stmts : AreSound (standing here s)
  pub edge : edge_faults here.names watch ≡ []

abbrev pub always_part : Names → Name → Watch → Stmt → ℕ → Part
always_part names path watch s at = part_of path at (stmt_sites names s) (always_body names s watch)

abbrev pub IsToldAlways : Here → Watch → Stmt → PartsError → Type 0
IsToldAlways here watch s e = IsToldBy (always_faults here watch s) (HasEndless (standing here s)) e

abbrev pub BlockAnswer : Signals → Here → Name → Watch → Stmt → ℕ → Result FlatPart PartsError → Type 0
BlockAnswer S here path watch s at r =
    MadeAnswer S (always_part here.names path watch s at) (IsWellStmt s) (IsCleanAlways here watch s) (IsToldAlways here watch s) r

abbrev pub AlwaysAnswer : Signals → Here → Name → Watch → Stmt → ℕ → List FlatPart → List FlatPart → Result (Unit {0}) PartsError → Type 0
AlwaysAnswer S here path watch s at old new r =
    AddAnswer S (always_part here.names path watch s at ∷ []) (IsWellStmt s) (IsCleanAlways here watch s) (IsToldAlways here watch s) old new r
