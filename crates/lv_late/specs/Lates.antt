-- The names of an expression that stand for no constant declared before, by the declarations of a scope.
use Rattle.std.specs.Prelude.{◌≡◌, ℕ, Bool, true, false, ◌&&◌, if◌then◌else◌, nat_lt, List, [], ◌++◌, Option, Some, None, slice_get}
use Rattle.lv_ast.specs.declared.expr.Path.{Path}
use Rattle.lv_ast.specs.declared.item.Range.{Range}
use Rattle.lv_ast.specs.Names.{has_no_steps}
use Rattle.lv_source.specs.Names.{Names, Here}
use Rattle.lv_source.specs.Declarations.{Direction, Wire, Reg, Parameter, Index, Instance, Label, Declaration}
use Rattle.lv_source.specs.NodeRules.{is_early, is_unreadable}
use Rattle.lv_bindings.specs.declared.group.Group.{Group}
use Rattle.lv_bindings.specs.Grouping.{group_for}
use Rattle.lv_resolve.specs.Late.{paths_in, first_late}
use Rattle.lv_resolve.specs.declared.error.ResolveError.{ResolveError}
use Rattle.lv_resolve.specs.declared.error.ResolveError.TheVariants as x

-- ---- of a name

abbrev pub told_by : Bool → Bool → ℕ → Option ResolveError
told_by true read place = None
told_by false true place = Some (x.NotConstant place)
told_by false false place = Some (x.UnknownName place)

-- whether a name with this first declaration can be read
abbrev pub is_read : Declaration → Bool
is_read d = elim d.thing [
  | Direction output word signed range ↦ true
  | Wire signed range ↦ true
  | Reg signed range array ↦ true
  | Parameter local signed range value ↦ true
  | Index genvar ↦ false
  | Instance ↦ false
  | Label ↦ false
]

abbrev pub is_read_at : Option Declaration → Bool
is_read_at None = false
is_read_at (Some d) = is_read d

abbrev pub is_some : {A : Type 0} → Option A → Bool
is_some None = false
is_some (Some a) = true

-- what a scope says of names: its declarations, the constants before the first of them, and which other names can be read
pub record Said : Type 0 where
  pub declarations : List Declaration
  pub base : Names
  pub read : Path → Bool

abbrev pub told_of_group : Said → ℕ → Path → Option Group → Option ResolveError
told_of_group s k p None = told_by (is_some (s.base p)) (s.read p) p.place
told_of_group s k p (Some g) = told_by (g.parameter && nat_lt g.first k) (is_read_at (slice_get s.declarations g.first)) p.place

-- where so many declarations stand before
abbrev pub told_of_name : Said → ℕ → Path → Option ResolveError
told_of_name s k p = if has_no_steps p then told_of_group s k p (group_for s.declarations p.name) else Some (x.UnknownName p.place)

-- ---- of a declaration

abbrev pub range_paths : Option Range → List Path
range_paths None = []
range_paths (Some r) = paths_in r.left ++ paths_in r.right

abbrev pub declared_paths : Declaration → List Path
declared_paths d = elim d.thing [
  | Direction output word signed range ↦ range_paths range
  | Wire signed range ↦ range_paths range
  | Reg signed range array ↦ range_paths range ++ range_paths array
  | Parameter local signed range value ↦ range_paths range ++ paths_in value
  | Index genvar ↦ []
  | Instance ↦ []
  | Label ↦ []
]

abbrev pub told_of_declaration : Said → ℕ → Declaration → Option ResolveError
told_of_declaration s k d = first_late (told_of_name s k) (declared_paths d)

-- told of one of them
pub record IsLateIn (s : Said) (q : ResolveError) : Type 0 where
  pub at : ℕ
  pub declaration : Declaration
  pub is : slice_get s.declarations at ≡ Some declaration
  pub late : told_of_declaration s at declaration ≡ Some q

-- told of none
pub record NoneIsLate (s : Said) : Type 0 where
  pub each : (k : ℕ) (d : Declaration) → slice_get s.declarations k ≡ Some d → told_of_declaration s k d ≡ None

-- ---- what the names at a place say of it

pub record IsLate (here : Here) (p : Path) (q : ResolveError) : Type 0 where
  pub late : is_early (here.early p) (here.names p) ≡ false
  pub unread : (is_unreadable (here.names p) ≡ true) → q ≡ x.UnknownName p.place
  pub unfixed : (is_unreadable (here.names p) ≡ false) → q ≡ x.NotConstant p.place

pub record IsDecided (here : Here) (p : Path) (o : Option ResolveError) : Type 0 where
  pub early : o ≡ None → is_early (here.early p) (here.names p) ≡ true
  pub late : (q : ResolveError) → o ≡ Some q → IsLate here p q

-- ---- a fault, and no want of memory

abbrev pub is_fault : ResolveError → Bool
is_fault (x.UnknownName p) = true
is_fault (x.NotConstant p) = true
is_fault (x.ZeroDivisor p) = true
is_fault (x.Range p) = true
is_fault x.NoMemory = false
