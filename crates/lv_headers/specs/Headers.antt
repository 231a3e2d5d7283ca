-- What is answered of the header of a loop where it stands.
use Rattle.std.specs.Prelude.{◌≡◌, ◌⊎◌, ℕ, ◌<◌, ◌≤◌, Bool, List, [], length, Result, IfOk, IfErr, Contains}
use Rattle.lv_ast.specs.declared.expr.Expr.{Expr}
use Rattle.lv_ast.specs.declared.stmt.Ident.{Ident}
use Rattle.lv_ast.specs.Names.{Name}
use Rattle.lv_source.specs.Names.{Names, Here, with_early}
use Rattle.lv_source.specs.Effect.{turns}
use Rattle.lv_source.specs.ScopeRules.{header_names}
use Rattle.lv_source.specs.Standing.{header_spots}
use Rattle.lv_const.specs.declared.error.ConstError.{ConstError}
use Rattle.lv_const.specs.Answers as const
use Rattle.lv_scopes.specs.Headers.{next_sites, turn_sites}
use Rattle.lv_resolve.specs.declared.error.ResolveError.{ResolveError}
use Rattle.lv_resolve.specs.declared.error.ResolveError.TheVariants as x
use Rattle.lv_resolve.specs.Resolved.{AreFaultless, IsToldOf}
use Rattle.lv_headers.specs.declared.error.HeaderError.{HeaderError}
use Rattle.lv_headers.specs.declared.error.HeaderError.TheVariants as h

-- its turns, at most so many; no node has a fault, and the index is one outside of its own loop
pub record IsHeader (here : Here) (genvar : Bool) (index : Ident) (start test : Expr) (again : Ident) (next : Expr) (most : ℕ) (ks : List ℕ) : Type 0 where
  pub turns : ks ≡ turns here.names index.name start test next
  pub few : length ks ≤ most
  pub faultless : AreFaultless (header_spots here index start test next)
  pub named : header_names genvar here.names index again ≡ []

-- a fault of a node, or of the index
abbrev pub IsHeaderFault : Here → Bool → Ident → Expr → Expr → Ident → Expr → ResolveError → Type 0
IsHeaderFault here genvar index start test again next y =
    IsToldOf (header_spots here index start test next) y ⊎
    ((p : ℕ) × Contains (header_names genvar here.names index again) p × (y ≡ x.UnknownName p))

abbrev pub IsNoHeader : Here → Bool → Ident → Expr → Expr → Ident → Expr → ℕ → HeaderError → Type 0
IsNoHeader here genvar index start test again next most (h.Fault y) = IsHeaderFault here genvar index start test again next y
IsNoHeader here genvar index start test again next most h.Limit = most < length (turns here.names index.name start test next)

pub record HeaderAnswer (here : Here) (genvar : Bool) (index : Ident) (start test : Expr) (again : Ident) (next : Expr) (most : ℕ)
    (r : Result (List ℕ) HeaderError) : Type 0 where
  pub right : IfOk r (IsHeader here genvar index start test again next most)
  pub wrong : IfErr r (IsNoHeader here genvar index start test again next most)

-- ---- what the private functions answer

pub record NamedAnswer (genvar : Bool) (names : Names) (index again : Ident) (r : Result (Unit {0}) ℕ) : Type 0 where
  pub right : IfOk r (λ u. header_names genvar names index again ≡ [])
  pub wrong : IfErr r (Contains (header_names genvar names index again))

-- a fault by the constants that are declared before
abbrev pub IsFaulty : Here → Name → Expr → Expr → Expr → ConstError → Type 0
IsFaulty here index start test next y =
    const.Told here.early (next_sites here.names start) y ⊎ const.Told (with_early here.early index) (turn_sites here.names index start test next) y
