-- What is answered of an expression where it stands.
use Rattle.std.specs.Prelude.{◌≡◌, ℕ, max, Bool, true, false, List, [], Option, None, Result, IfOk, IfErr, Contains, flat_map, ⊤}
use Rattle.lv_ast.specs.declared.expr.Expr.{Expr}
use Rattle.lv_ast.specs.declared.expr.Literal.{Literal}
use Rattle.lv_source.specs.Names.{Names, Here}
use Rattle.lv_source.specs.Meaning.{read_expr, own_width, own_signed}
use Rattle.lv_source.specs.Effect.{literal_of}
use Rattle.lv_source.specs.Flow.{is_extended}
use Rattle.lv_source.specs.Sites.{Site, Spot, Value, Walk, walk, spots, expr_sites}
use Rattle.lv_source.specs.NodeRules.{zero_divisor, clock_use}
use Rattle.lv_source.specs.Faults.{site_faults}
use Rattle.lv_source.specs.Legal.{UnknownName, NotConstant, ZeroDivisor, Range, ClockUse}
use Rattle.lv_flat.specs.Signals.{Signals}
use Rattle.lv_flat.specs.Judged.{judge, reading, is_good}
use Rattle.lv_resolve.specs.declared.error.ResolveError.{ResolveError}
use Rattle.lv_resolve.specs.declared.error.ResolveError.TheVariants as x
use Rattle.lv_resolve.specs.declared.typed.OwnType.{OwnType}
use Rattle.lv_resolve.specs.declared.resolved.Resolved.{Resolved}
use Rattle.lv_resolve.specs.Forms.{flaws, Told, has_operands, walk_literal, walk_extends}

-- none of these nodes has one of the four faults
pub record AreFaultless (xs : List Spot) : Type 0 where
  pub unknown : flat_map (site_faults UnknownName) xs ≡ []
  pub unfixed : flat_map (site_faults NotConstant) xs ≡ []
  pub zero : flat_map (site_faults ZeroDivisor) xs ≡ []
  pub range : flat_map (site_faults Range) xs ≡ []

-- the fault that an error tells is one of these nodes; want of memory needs none
abbrev pub IsToldOf : List Spot → ResolveError → Type 0
IsToldOf xs (x.UnknownName p) = Contains (flat_map (site_faults UnknownName) xs) p
IsToldOf xs (x.NotConstant p) = Contains (flat_map (site_faults NotConstant) xs) p
IsToldOf xs (x.ZeroDivisor p) = Contains (flat_map (site_faults ZeroDivisor) xs) p
IsToldOf xs (x.Range p) = Contains (flat_map (site_faults Range) xs) p
IsToldOf xs x.NoMemory = ⊤

-- a flat tree with the reading of the expression, the same literal or none, extended at a greater width where the expression is; good where its
-- operators have their operands; no node has a fault; and the places of the clock names
pub record IsResolved (S : Signals) (here : Here) (xs : List Spot) (e : Expr) (r : Resolved) : Type 0 where
  pub same : reading S r.expr ≡ read_expr here.names e
  pub literal : (judge S r.expr).literal ≡ literal_of e
  pub extends : (judge S r.expr).extends ≡ is_extended e
  pub good : has_operands e ≡ true → is_good S r.expr ≡ true
  pub faultless : AreFaultless xs
  pub clocks : flat_map (site_faults ClockUse) xs ≡ r.clocks

pub record ResolveAnswer (S : Signals) (here : Here) (width : ℕ) (e : Expr) (r : Result Resolved ResolveError) : Type 0 where
  pub right : IfOk r (IsResolved S here (spots here (expr_sites false here.names width e)) e)
  pub wrong : IfErr r (IsToldOf (spots here (expr_sites false here.names width e)))

-- ---- at a width and a sign

-- the nodes of an expression that these reach
abbrev pub sites_at : Names → ℕ → Bool → Expr → List Site
sites_at names W T e = (walk names e).sites Value None W T

abbrev pub reached_spots : Here → ℕ → Bool → Expr → List Spot
reached_spots here W T e = spots here (sites_at here.names W T e)

-- at the greater of its own width and this one
pub record TakenAnswer (S : Signals) (here : Here) (width : ℕ) (signed : Bool) (e : Expr) (r : Result Resolved ResolveError) : Type 0 where
  pub right : IfOk r (IsResolved S here (reached_spots here (max width (own_width here.names e)) signed e) e)
  pub wrong : IfErr r (IsToldOf (reached_spots here (max width (own_width here.names e)) signed e))

pub record IsOwnType (here : Here) (e : Expr) (t : OwnType) : Type 0 where
  pub width : t.width ≡ own_width here.names e
  pub signed : t.signed ≡ own_signed here.names e

-- a fault of a node, whatever width and sign reach it
pub record IsAlwaysTold (here : Here) (e : Expr) (y : ResolveError) : Type 0 where
  pub told : (W : ℕ) (T : Bool) → IsToldOf (reached_spots here W T e) y

pub record TypeAnswer (here : Here) (e : Expr) (r : Result OwnType ResolveError) : Type 0 where
  pub right : IfOk r (IsOwnType here e)
  pub wrong : IfErr r (IsAlwaysTold here e)

-- ---- where a tree has been reached

pub record HasReached (S : Signals) (here : Here) (ss : List Site) (w : Walk) (ok : Bool) (r : Resolved) : Type 0 where
  pub same : reading S r.expr ≡ w.shown.reading
  pub literal : (judge S r.expr).literal ≡ walk_literal w
  pub extends : (judge S r.expr).extends ≡ walk_extends w
  pub good : ok ≡ true → is_good S r.expr ≡ true
  pub clean : flat_map (flaws here) ss ≡ []
  pub zero : flat_map zero_divisor ss ≡ []
  pub clocks : flat_map clock_use ss ≡ r.clocks

pub record ReachedAnswer (S : Signals) (here : Here) (ss : List Site) (w : Walk) (ok : Bool) (r : Result Resolved ResolveError) : Type 0 where
  pub right : IfOk r (HasReached S here ss w ok)
  pub wrong : IfErr r (Told here ss)
