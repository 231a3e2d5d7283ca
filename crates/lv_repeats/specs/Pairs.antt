-- For the proof: what the groups and symbols say of a name that is declared twice.
use Rattle.std.specs.Prelude.{◌≡◌, ◌<◌, ℕ, Bool, false, not, ◌&&◌, ◌||◌, ◌==◌, if◌then◌else◌, List, Option, Some, None, slice_get}
use Rattle.std.specs.Option.{option_map}
use Rattle.lv_ast.specs.declared.item.PortWord.TheVariants as w
use Rattle.lv_ast.specs.Names.{Name}
use Rattle.lv_source.specs.Declarations.{Thing, Direction, Wire, Reg, Parameter, Index, Instance, Label, Declaration}
use Rattle.lv_source.specs.Scopes.{is_among}
use Rattle.lv_source.specs.ScopeRules.{same_sign, is_none}
use Rattle.lv_symbols.specs.declared.symbol.Symbol.{Symbol}
use Rattle.lv_symbols.specs.declared.symbol.Symbol.TheVariants as y
use Rattle.lv_bindings.specs.declared.group.Group.{Group}
use Rattle.lv_bindings.specs.Grouping.{group_for}

-- ---- two declarations

abbrev pub one_range : Option Symbol → Option Symbol → Bool
one_range (Some (y.Signal r s b a)) (Some (y.Signal q t c d)) = same_sign r q && (b.0 == c.0) && (b.1 == c.1)
one_range _ _ = false

-- `completes` of a bare direction
abbrev pub completes_bare : Bool → Bool → Bool → Thing → Bool
completes_bare output signed same (Wire t q) = same_sign signed t && same
completes_bare output signed same (Reg t q array) = is_none array && output && same_sign signed t && same
completes_bare output signed same (Direction o word s r) = false
completes_bare output signed same (Parameter l s r v) = false
completes_bare output signed same (Index g) = false
completes_bare output signed same Instance = false
completes_bare output signed same Label = false

-- `completes`, where their ranges are equal or not
abbrev pub completes_by : Bool → Thing → Thing → Bool
completes_by same (Direction o w.Absent s r) b = completes_bare o s same b
completes_by same (Direction o w.Wire s r) b = false
completes_by same (Direction o w.Reg s r) b = false
completes_by same (Wire s r) b = false
completes_by same (Reg s r a) b = false
completes_by same (Parameter l s r v) b = false
completes_by same (Index g) b = false
completes_by same Instance b = false
completes_by same Label b = false

abbrev pub completes_of : Bool → Option Declaration → Option Declaration → Bool
completes_of same None o = false
completes_of same (Some a) None = false
completes_of same (Some a) (Some b) = completes_by same a.thing b.thing

-- of the declarations with these numbers
abbrev pub completes_at : List Declaration → List Symbol → ℕ → ℕ → Bool
completes_at ds ys i j = completes_of (one_range (slice_get ys i) (slice_get ys j)) (slice_get ds i) (slice_get ds j)

-- ---- a name

abbrev pub is_pair_at : Bool → List Declaration → List Symbol → ℕ → ℕ → Bool → Bool
is_pair_at listed ds ys i j third = not third && listed && (completes_at ds ys i j || completes_at ds ys j i)

abbrev pub place_at : List Declaration → ℕ → Option ℕ
place_at ds j = option_map (λ d. d.name.place) (slice_get ds j)

-- the place of the second declaration, unless it is one of a pair
abbrev pub again_second : List Name → List Declaration → List Symbol → Name → ℕ → Bool → Option ℕ → Option ℕ
again_second names ds ys name i third None = None
again_second names ds ys name i third (Some j) = if is_pair_at (is_among names name) ds ys i j third then None else place_at ds j

abbrev pub again_by : List Name → List Declaration → List Symbol → Name → Option Group → Option ℕ
again_by names ds ys name None = None
again_by names ds ys name (Some g) = again_second names ds ys name g.first g.third g.second

-- of the name of a declaration
abbrev pub again_in : List Name → List Declaration → List Symbol → Declaration → Option ℕ
again_in names ds ys d = again_by names ds ys d.name.name (group_for ds d.name.name)

-- ---- all of them

-- none is told of the first declarations
pub record NoneAgain (names : List Name) (ds : List Declaration) (ys : List Symbol) (i : ℕ) : Type 0 where
  pub each : (k : ℕ) (d : Declaration) → k < i → slice_get ds k ≡ Some d → again_in names ds ys d ≡ None

-- this place is told of one
pub record IsAgain (names : List Name) (ds : List Declaration) (ys : List Symbol) (place : ℕ) : Type 0 where
  pub at : ℕ
  pub declaration : Declaration
  pub is : slice_get ds at ≡ Some declaration
  pub told : again_in names ds ys declaration ≡ Some place
