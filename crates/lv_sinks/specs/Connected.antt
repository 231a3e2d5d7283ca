-- What is answered of a connection as a part.
use Rattle.std.specs.Prelude.{◌≡◌, ℕ, Bool, true, false, List, [], ◌∷◌, map, Option, Some, None, Result, Ok, Err, IfOk, IfErr, Contains, ⊤}
use Rattle.std.specs.List.{list_any, list_all}
use Rattle.lv_ast.specs.declared.expr.Expr.{Expr}
use Rattle.lv_ast.specs.Names.{Name, alone}
use Rattle.lv_source.specs.Names.{Here, known, width_of}
use Rattle.lv_source.specs.Declarations.{declared_as}
use Rattle.lv_source.specs.Effect.{Piece}
use Rattle.lv_source.specs.Meaning.{Reading, named, read_expr}
use Rattle.lv_source.specs.Scopes.{Scope, Link, is_output}
use Rattle.lv_source.specs.ScopeRules.{no_target}
use Rattle.lv_source.specs.Sites.{Site, spots, sink_sites, expr_sites}
use Rattle.lv_source.specs.PartSites.{link_sites, clocks_in}
use Rattle.lv_source.specs.Parts.{Part, Assign, as_target, is_declared_sort, option_list}
use Rattle.lv_source.specs.Parts as parts
use Rattle.lv_source.specs.Views.{view_of}
use Rattle.lv_flat.specs.declared.part.FlatPart.{FlatPart}
use Rattle.lv_flat.specs.Signals.{Signals, signal_at}
use Rattle.lv_flat.specs.FlatViews.{flat_view}
use Rattle.lv_flat.specs.Good.{good_body}
use Rattle.lv_flat.specs.Executing.{path_at}
use Rattle.lv_source.specs.NodeRules.{is_width}
use Rattle.lv_resolve.specs.Forms.{has_operands}
use Rattle.lv_resolve.specs.Resolved.{AreFaultless, IsToldOf}
use Rattle.lv_sinks.specs.declared.port.Port.{Port}
use Rattle.lv_sinks.specs.declared.error.PartError.{PartError}
use Rattle.lv_sinks.specs.declared.error.PartError.TheVariants as y

-- the port of this name: the signal or clock that it is in the scope of the instance, and whether it is declared as an output there
pub record IsPort (S : Signals) (child : Scope) (name : Name) (p : Port) : Type 0 where
  pub there : child.names (alone name) ≡ Some (signal_at S p.signal)
  pub sort : is_declared_sort (signal_at S p.signal).sort ≡ true
  pub output : list_any is_output (declared_as name child.declarations) ≡ p.output

-- the operators of the expression have their operands
abbrev pub has_link_operands : Link → Bool
has_link_operands l = elim l.conn.value [ None ↦ true | Some x ↦ has_operands x ]

-- the part of the source, good where the port is no array and the operators have their operands; no node has a fault; what an output drives is a target
pub record IsLinkPart (S : Signals) (here : Here) (s child : Scope) (l : Link) (o : Option FlatPart) : Type 0 where
  pub view : map (flat_view S) (option_list o) ≡ map view_of (parts.link_part s child l)
  pub good : has_link_operands l ≡ true → (known (child.names (alone l.port))).array ≡ None → list_all (λ p. good_body S p.body) (option_list o) ≡ true
  pub faultless : AreFaultless (spots here (link_sites s.names child l))
  pub target : no_target s.names child l ≡ []

abbrev pub IsNoLinkPart : Here → Scope → Scope → Link → PartError → Type 0
IsNoLinkPart here s child l (y.NoTarget p) = Contains (no_target s.names child l) p
IsNoLinkPart here s child l (y.Fault z) = IsToldOf (spots here (link_sites s.names child l)) z
IsNoLinkPart here s child l y.NoMemory = ⊤

pub record LinkAnswer (S : Signals) (here : Here) (s child : Scope) (l : Link) (r : Result (Option FlatPart) PartError) : Type 0 where
  pub right : IfOk r (IsLinkPart S here s child l)
  pub wrong : IfErr r (IsNoLinkPart here s child l)

-- ---- for the proof

-- the whole of a signal, as it is written
abbrev pub port_piece : Signals → ℕ → ℕ → Piece
port_piece S signal place = record { path = path_at place; declared = Some (signal_at S signal); choices = [] }

abbrev pub assignment : Name → ℕ → List Site → List Piece → Reading → Part
assignment path place sites ps value = record { at = record { path = path; place = place }; clocks = clocks_in sites; body = Assign ps value }

-- from the whole of an output to an expression
pub record IsOutputPart (S : Signals) (here : Here) (path : Name) (signal : ℕ) (x : Expr) (place : ℕ) (p : FlatPart) : Type 0 where
  pub view : (ps : List Piece) × (as_target here.names x ≡ Some ps) ×
      (flat_view S p ≡ view_of (assignment path place (sink_sites here.names x) ps (named (signal_at S signal) [])))
  pub good : has_operands x ≡ true → is_declared_sort (signal_at S signal).sort ≡ true → (signal_at S signal).array ≡ None →
      is_width (width_of (signal_at S signal)) ≡ true → good_body S p.body ≡ true
  pub faultless : AreFaultless (spots here (sink_sites here.names x))

abbrev pub IsNoOutputPart : Here → Expr → ℕ → PartError → Type 0
IsNoOutputPart here x place (y.NoTarget p) = (p ≡ place) × (as_target here.names x ≡ None)
IsNoOutputPart here x place (y.Fault z) = IsToldOf (spots here (sink_sites here.names x)) z
IsNoOutputPart here x place y.NoMemory = ⊤

pub record OutputAnswer (S : Signals) (here : Here) (path : Name) (signal : ℕ) (x : Expr) (place : ℕ) (r : Result FlatPart PartError) : Type 0 where
  pub right : IfOk r (IsOutputPart S here path signal x place)
  pub wrong : IfErr r (IsNoOutputPart here x place)

-- from an expression to the whole of an input
pub record IsInputPart (S : Signals) (here : Here) (path : Name) (signal width : ℕ) (x : Expr) (place : ℕ) (p : FlatPart) : Type 0 where
  pub view : flat_view S p ≡ view_of (assignment path place (expr_sites false here.names width x) (port_piece S signal place ∷ []) (read_expr here.names x))
  pub good : has_operands x ≡ true → is_declared_sort (signal_at S signal).sort ≡ true → (signal_at S signal).array ≡ None →
      is_width (width_of (signal_at S signal)) ≡ true → good_body S p.body ≡ true
  pub faultless : AreFaultless (spots here (expr_sites false here.names width x))

abbrev pub IsNoInputPart : Here → ℕ → Expr → PartError → Type 0
IsNoInputPart here width x (y.NoTarget p) = ⊥
IsNoInputPart here width x (y.Fault z) = IsToldOf (spots here (expr_sites false here.names width x)) z
IsNoInputPart here width x y.NoMemory = ⊤

pub record InputAnswer (S : Signals) (here : Here) (path : Name) (signal width : ℕ) (x : Expr) (place : ℕ) (r : Result FlatPart PartError) : Type 0 where
  pub right : IfOk r (IsInputPart S here path signal width x place)
  pub wrong : IfErr r (IsNoInputPart here width x)

-- of a connection with this expression and this place
pub record ValueAnswer (S : Signals) (here : Here) (path : Name) (port : Port) (x : Expr) (place : ℕ) (r : Result (Option FlatPart) PartError) : Type 0 where
  pub at : (s child : Scope) (l : Link) → s.names ≡ here.names → s.path ≡ path → IsPort S child l.port port → l.conn.value ≡ Some x → l.conn.place ≡ place →
      LinkAnswer S here s child l r

abbrev pub some_part : Result FlatPart PartError → Result (Option FlatPart) PartError
some_part (Ok z) = Ok (Some z)
some_part (Err e) = Err e
