-- What is answered of nets with values.
use Rattle.std.specs.Prelude.{◌≡◌, ℕ, Bool, true, false, List, [], ◌∷◌, Option, Some, None, Result, flat_map}
use Rattle.lv_ast.specs.declared.expr.Expr.{Expr}
use Rattle.lv_ast.specs.declared.stmt.Ident.{Ident}
use Rattle.lv_ast.specs.declared.item.NetName.{NetName}
use Rattle.lv_ast.specs.Names.{Name, alone}
use Rattle.lv_source.specs.Names.{Names, Here, known, width_of}
use Rattle.lv_source.specs.Effect.{Piece}
use Rattle.lv_source.specs.Meaning.{read_expr}
use Rattle.lv_source.specs.NodeRules.{is_width}
use Rattle.lv_source.specs.Faults.{site_faults}
use Rattle.lv_source.specs.Legal.{Kind}
use Rattle.lv_source.specs.Sites.{Site, spots, expr_sites}
use Rattle.lv_source.specs.ScopeRules.{maybe_sites}
use Rattle.lv_source.specs.PartSites.{clocks_in}
use Rattle.lv_source.specs.Parts.{Part, Body, Assign, whole_piece, is_declared_sort}
use Rattle.lv_flat.specs.declared.part.FlatPart.{FlatPart}
use Rattle.lv_flat.specs.Signals.{Signals, signal_at}
use Rattle.lv_flat.specs.Executing.{path_at}
use Rattle.lv_resolve.specs.Forms.{has_operands}
use Rattle.lv_resolve.specs.Resolved.{AreFaultless}
use Rattle.lv_parts.specs.declared.error.PartsError.{PartsError}
use Rattle.lv_parts.specs.Errors.{IsToldBy}
use Rattle.lv_parts.specs.Made.{AddAnswer, MadeAnswer, AreAll, HasOne}

-- each operator has its number of operands
abbrev pub has_net_operands : NetName → Bool
has_net_operands n = elim n.value [ None ↦ true | Some x ↦ has_operands x ]

-- ---- for the proof

-- a part of the scope with this path
abbrev pub part_of : Name → ℕ → List Site → Body → Part
part_of path place sites body = record { at = record { path = path; place = place }; clocks = clocks_in sites; body = body }

-- ---- an expression that the whole of a signal takes

abbrev pub port_piece : Signals → ℕ → ℕ → Piece
port_piece S signal place = record { path = path_at place; declared = Some (signal_at S signal); choices = [] }

abbrev pub node_faults : Here → List Site → Kind → List ℕ
node_faults here sites kind = flat_map (site_faults kind) (spots here sites)

-- a signal without elements takes it
pub record TakesWhole (S : Signals) (signal : ℕ) (x : Expr) : Type 0 where
  pub operands : has_operands x ≡ true
  pub sort : is_declared_sort (signal_at S signal).sort ≡ true
  pub array : (signal_at S signal).array ≡ None
  pub fits : is_width (width_of (signal_at S signal)) ≡ true

abbrev pub WholeAnswer : Signals → Here → Name → ℕ → ℕ → Expr → ℕ → Result FlatPart PartsError → Type 0
WholeAnswer S here path signal width x place r =
    let sites : List Site = expr_sites false here.names width x in
    MadeAnswer S (part_of path place sites (Assign (port_piece S signal place ∷ []) (read_expr here.names x))) (TakesWhole S signal x) (AreFaultless (spots here sites))
    (IsToldBy (node_faults here sites) ⊥) r

-- ---- a net

abbrev pub net_width : Names → Name → ℕ
net_width names name = width_of (known (names (alone name)))

abbrev pub value_part : Names → Name → Ident → Expr → Part
value_part names path name x =
    part_of path name.place (expr_sites false names (net_width names name.name) x) (Assign (whole_piece names name.place name.name ∷ []) (read_expr names x))

-- good where its operators have their operands and it has no elements
pub record IsWellNamed (names : Names) (name : Ident) (x : Expr) : Type 0 where
  pub operands : has_operands x ≡ true
  pub array : (known (names (alone name.name))).array ≡ None

abbrev pub ValueAnswer : Signals → Here → Name → Ident → Expr → Result FlatPart PartsError → Type 0
ValueAnswer S here path name x r =
    let sites : List Site = expr_sites false here.names (net_width here.names name.name) x in
    MadeAnswer S (value_part here.names path name x) (IsWellNamed here.names name x) (AreFaultless (spots here sites)) (IsToldBy (node_faults here sites) ⊥) r

-- ---- with a value or without

abbrev pub net_parts : Names → Name → NetName → List Part
net_parts names path n = elim n.value [ None ↦ [] | Some x ↦ value_part names path n.name x ∷ [] ]

abbrev pub net_sites : Names → NetName → List Site
net_sites names n = maybe_sites false names (net_width names n.name.name) n.value

pub record IsWellNet (names : Names) (n : NetName) : Type 0 where
  pub operands : has_net_operands n ≡ true
  pub array : (known (names (alone n.name.name))).array ≡ None

abbrev pub IsCleanNet : Here → NetName → Type 0
IsCleanNet here n = AreFaultless (spots here (net_sites here.names n))

abbrev pub IsToldNet : Here → PartsError → NetName → Type 0
IsToldNet here e n = IsToldBy (node_faults here (net_sites here.names n)) ⊥ e

abbrev pub NetAnswer : Signals → Here → Name → NetName → List FlatPart → List FlatPart → Result (Unit {0}) PartsError → Type 0
NetAnswer S here path n old new r =
    AddAnswer S (net_parts here.names path n) (IsWellNet here.names n) (IsCleanNet here n) (λ e. IsToldNet here e n) old new r

-- ---- all of a declaration

-- each is a signal or a clock
abbrev pub IsNet : Names → NetName → Type 0
IsNet names n = is_declared_sort (known (names (alone n.name.name))).sort ≡ true

pub record NetsAnswer (S : Signals) (here : Here) (path : Name) (ns : List NetName) (old new : List FlatPart) (r : Result (Unit {0}) PartsError) : Type 0 where
  pub at : AreAll (IsNet here.names) ns → AddAnswer S (flat_map (net_parts here.names path) ns) (AreAll (IsWellNet here.names) ns) (AreAll (IsCleanNet here) ns)
      (λ e. HasOne (IsToldNet here e) ns) old new r
