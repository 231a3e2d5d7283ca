-- What is answered of the size of statements and of items where they stand.
use Rattle.std.specs.Prelude.{◌≡◌, ◌⊎◌, ℕ, ◌+◌, ◌<◌, ◌≤◌, Bool, true, false, List, [], ◌∷◌, ◌++◌, Result, IfOk, IfErr, Contains, flat_map}
use Rattle.lv_ast.specs.declared.expr.Expr.{Expr}
use Rattle.lv_ast.specs.declared.item.Item.{Item}
use Rattle.lv_ast.specs.declared.item.Item.TheVariants as i
use Rattle.lv_ast.specs.declared.stmt.Arm.{Arm}
use Rattle.lv_ast.specs.declared.stmt.Ident.{Ident}
use Rattle.lv_ast.specs.declared.stmt.Stmt.{Stmt}
use Rattle.lv_ast.specs.Names.{alone}
use Rattle.lv_source.specs.Names.{Names, Here}
use Rattle.lv_source.specs.Effect.{with_index}
use Rattle.lv_source.specs.Effect.{turns as loop_turns}
use Rattle.lv_source.specs.Limits.{expr_nodes, stmt_size, item_size}
use Rattle.lv_source.specs.Limits as limits
use Rattle.lv_source.specs.Scopes.{Scope}
use Rattle.lv_source.specs.ScopeRules.{is_index_of, unknown_in_form}
use Rattle.lv_source.specs.Standing.{Standing, standing, form_spots, at_turn, one, Repeat}
use Rattle.lv_resolve.specs.declared.error.ResolveError.{ResolveError}
use Rattle.lv_resolve.specs.declared.error.ResolveError.TheVariants as x
use Rattle.lv_resolve.specs.Resolved.{IsToldOf}
use Rattle.lv_headers.specs.Headers.{IsHeaderFault}
use Rattle.lv_sizes.specs.declared.error.SizeError.{SizeError}
use Rattle.lv_sizes.specs.declared.error.SizeError.TheVariants as e
use Rattle.lv_sizes.specs.declared.size.Size.{Size}
use Rattle.lv_sizes.specs.Totals.{plus, total, header_size, loop_head}

-- ---- faults

-- of one of these statements where they stand: of a node, or of the index of a loop
abbrev pub IsStandingFault : List Standing → ResolveError → Type 0
IsStandingFault ks y =
    IsToldOf (flat_map (λ k. form_spots k.here k.form) ks) y ⊎ ((p : ℕ) × Contains (flat_map unknown_in_form ks) p × (y ≡ x.UnknownName p))

-- of the statement of an item, or of the header of a generate loop
abbrev pub IsItemFault : Here → Item → ResolveError → Type 0
IsItemFault here (i.Always watch stmt place) y = IsStandingFault (standing here stmt) y
IsItemFault here (i.Loop' index start test again next label n items) y = IsHeaderFault here true index start test again next y
IsItemFault here _ y = ⊥

-- ---- what is left

-- more than is allowed, or a fault
abbrev pub IsTooMuch : Size → limits.Size → (ResolveError → Type 0) → SizeError → Type 0
IsTooMuch left size Faulty (e.Fault y) = Faulty y
IsTooMuch left size Faulty e.Turns = left.turns < size.turns
IsTooMuch left size Faulty e.Nodes = left.nodes < size.nodes

-- the rest of what is left
pub record Leaves (left : Size) (size : limits.Size) (rest : Size) : Type 0 where
  pub turns : rest.turns + size.turns ≡ left.turns
  pub nodes : rest.nodes + size.nodes ≡ left.nodes

pub record LeftAnswer (left : Size) (size : limits.Size) (Faulty : ResolveError → Type 0) (r : Result Size SizeError) : Type 0 where
  pub right : IfOk r (Leaves left size)
  pub wrong : IfErr r (IsTooMuch left size Faulty)

-- ---- the turns of a loop

-- a turn of a loop, where its index is one outside of it
pub record TurnAnswer (here : Here) (index : Ident) (body : Stmt) (k : ℕ) (left : Size) (r : Result Size SizeError) : Type 0 where
  pub told : is_index_of false (here.names (alone index.name)) ≡ true →
      LeftAnswer left (stmt_size (with_index here.names index.name k) body) (IsStandingFault (standing (at_turn here index.name k) body)) r

-- the turns of a loop, where its index is one outside of it
pub record TurnsAnswer (here : Here) (index : Ident) (body : Stmt) (ks : List ℕ) (left : Size) (r : Result Size SizeError) : Type 0 where
  pub told : is_index_of false (here.names (alone index.name)) ≡ true →
      LeftAnswer left (total (λ k. stmt_size (with_index here.names index.name k) body) ks)
      (IsStandingFault (flat_map (λ k. standing (at_turn here index.name k) body) ks)) r

-- a loop, with its header
pub record LoopLeftAnswer (here : Here) (index : Ident) (start test : Expr) (again : Ident) (next : Expr) (body : Stmt) (left : Size)
    (r : Result Size SizeError) : Type 0 where
  pub told : LeftAnswer left (plus (loop_head here.names index start test next)
      (total (λ k. stmt_size (with_index here.names index.name k) body) (loop_turns here.names index.name start test next)))
      (IsStandingFault (one here (Repeat index start test again next) ++
      flat_map (λ k. standing (at_turn here index.name k) body) (loop_turns here.names index.name start test next))) r

-- ---- an item

-- so much, and no more than is left
pub record IsSize (turns nodes : ℕ) (size : limits.Size) (z : Size) : Type 0 where
  pub turns_are : z.turns ≡ size.turns
  pub nodes_are : z.nodes ≡ size.nodes
  pub turns_few : z.turns ≤ turns
  pub nodes_few : z.nodes ≤ nodes

-- in each scope with these names
pub record ItemAnswer (here : Here) (item : Item) (turns nodes : ℕ) (r : Result Size SizeError) : Type 0 where
  pub right : (s : Scope) → s.names ≡ here.names → IfOk r (IsSize turns nodes (item_size s item))
  pub wrong : (s : Scope) → s.names ≡ here.names → IfErr r (IsTooMuch (record { turns = turns; nodes = nodes }) (item_size s item) (IsItemFault here item))

-- ---- what the private functions answer of the kinds of items

pub record NodesAnswer (most n : ℕ) (r : Result Size SizeError) : Type 0 where
  pub right : IfOk r (IsSize 0 most (limits.nodes_alone n))
  pub wrong : IfErr r (λ y. (y ≡ e.Nodes) × (most < n))

pub record StmtAnswer (here : Here) (stmt : Stmt) (turns nodes : ℕ) (r : Result Size SizeError) : Type 0 where
  pub right : IfOk r (IsSize turns nodes (stmt_size here.names stmt))
  pub wrong : IfErr r (IsTooMuch (record { turns = turns; nodes = nodes }) (stmt_size here.names stmt) (IsStandingFault (standing here stmt)))

pub record LoopAnswer (here : Here) (index : Ident) (start test : Expr) (again : Ident) (next : Expr) (turns nodes : ℕ) (r : Result Size SizeError) : Type 0 where
  pub right : IfOk r (IsSize turns nodes (header_size here.names index start test next))
  pub wrong : IfErr r (IsTooMuch (record { turns = turns; nodes = nodes }) (header_size here.names index start test next)
      (IsHeaderFault here true index start test again next))
