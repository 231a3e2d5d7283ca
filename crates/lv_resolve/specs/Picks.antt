-- What is answered of the selects of a name.
use Rattle.std.specs.Prelude.{◌≡◌, ◌⊎◌, ℕ, ◌+◌, ◌-◌, max, min, nat_le, nat_lt, Bool, true, false, not, ◌&&◌, if◌then◌else◌, List, [], ◌∷◌, ◌++◌, length, map, flat_map, Option, None, Some, Result, IfOk, IfErr}
use Rattle.std.specs.List.{list_all}
use Rattle.lv_source.specs.Names.{Bounds, Declared, Here, is_constant_sort}
use Rattle.lv_source.specs.Values.{nowhere}
use Rattle.lv_source.specs.Places.{count_of, bits_of, bit_selects}
use Rattle.lv_source.specs.Meaning.{Choice, meant, parts_of, all_constant, is_nil}
use Rattle.lv_source.specs.Sites.{Site, WalkStep, step_shown, step_choice, step_sites}
use Rattle.lv_source.specs.NodeRules.{is_width, is_good_step, is_array_fault, is_select_fault, is_in_order}
use Rattle.lv_const.specs.Signs.{is_negative}
use Rattle.lv_scopes.specs.declared.number.Number.{Number}
use Rattle.lv_flat.specs.declared.expr.FlatExpr.{FlatExpr}
use Rattle.lv_flat.specs.declared.expr.FlatSelect.{FlatSelect}
use Rattle.lv_flat.specs.declared.expr.FlatSelect.TheVariants as s
use Rattle.lv_flat.specs.Signals.{Signals}
use Rattle.lv_flat.specs.Judged.{judge_select, choices, step_of}
use Rattle.lv_flat.proofs.Selects.{Alike, AllAlike}
use Rattle.lv_resolve.specs.declared.error.ResolveError.{ResolveError}
use Rattle.lv_resolve.specs.declared.error.ResolveError.TheVariants as x
use Rattle.lv_resolve.specs.declared.form.Form.{Form}
use Rattle.lv_resolve.specs.declared.picks.Head.{Head}
use Rattle.lv_resolve.specs.declared.picks.Pick.{Pick}
use Rattle.lv_resolve.specs.declared.picks.Picks.{Picks}
use Rattle.lv_resolve.specs.Forms.{Covered, Told}
use Rattle.lv_resolve.specs.Joins.{IsTree, IsNoted}

-- ---- numbers

abbrev pub is_low : Number → Bool
is_low n = not (is_negative n.signed n.word.width n.word.value)

-- at least 0 and at most 65535
abbrev pub bound_of : Number → Option ℕ
bound_of n = if is_low n && nat_le n.word.value 65535 then Some n.word.value else None

abbrev pub copies_of : Number → Option ℕ
copies_of n = if is_low n && nat_lt 0 n.word.value then Some n.word.value else None

-- ---- heads

abbrev pub is_there : Option Bounds → Bool
is_there None = false
is_there (Some b) = true

pub record IsHead (d : Declared) (h : Head) : Type 0 where
  pub bounds : d.bounds ≡ record { left = h.left; right = h.right }
  pub ranged : d.ranged ≡ h.ranged
  pub signed : d.signed ≡ h.signed
  pub array : is_there d.array ≡ h.array
  pub constant : is_constant_sort d.sort ≡ h.constant

abbrev pub head_bounds : Head → Bounds
head_bounds h = record { left = h.left; right = h.right }

-- ---- a select of bits, from what stands in it

pub record IsTaken (p : Pick) (select : FlatSelect) (width : ℕ) (constant : Bool) (clocks : List ℕ) : Type 0 where
  pub tree : p.select ≡ select
  pub wide : p.width ≡ width
  pub fixed : p.constant ≡ constant
  pub noted : p.clocks ≡ clocks

abbrev pub IsBit : Form → Pick → Type 0
IsBit i p = IsTaken p (s.Bit i.operand.expr) 1 i.operand.constant i.notes.clocks

abbrev pub part_width : ℕ → ℕ → ℕ
part_width l r = max l r - min l r + 1

abbrev pub is_part : Head → ℕ → ℕ → Bool
is_part h l r = is_in_order (head_bounds h) l r && nat_le (part_width l r) 128

pub record IsPart (h : Head) (l r : Number) (p : Pick) : Type 0 where
  pub left : bound_of l ≡ Some l.word.value
  pub right : bound_of r ≡ Some r.word.value
  pub fits : is_part h l.word.value r.word.value ≡ true
  pub taken : IsTaken p (s.Part l.word.value r.word.value) (part_width l.word.value r.word.value) true []

abbrev pub is_part_by : Head → Option ℕ → Option ℕ → Bool
is_part_by h None r = false
is_part_by h (Some l) None = false
is_part_by h (Some l) (Some r) = is_part h l r

abbrev pub IsNoPart : Head → Number → Number → ℕ → ResolveError → Type 0
IsNoPart h l r at y = (is_part_by h (bound_of l) (bound_of r) ≡ false) × (y ≡ x.Range at)

abbrev pub is_run : Number → Bool
is_run n = is_low n && is_width n.word.value

abbrev pub run_of : Bool → FlatExpr → ℕ → FlatSelect
run_of up i n = if up then s.Up i n else s.Down i n

pub record IsRun (up : Bool) (i : Form) (n : Number) (p : Pick) : Type 0 where
  pub fits : is_run n ≡ true
  pub taken : IsTaken p (run_of up i.operand.expr n.word.value) n.word.value i.operand.constant i.notes.clocks

abbrev pub IsNoRun : Number → ℕ → ResolveError → Type 0
IsNoRun n at y = (y ≡ x.NoMemory) ⊎ ((is_run n ≡ false) × (y ≡ x.Range at))

-- ---- what it is of the source

abbrev pub pick_sites : WalkStep → ℕ → Bool → List Site
pick_sites w W T = step_sites false None w

pub record HasPick (S : Signals) (here : Here) (b : Bounds) (ok : Bool) (w : WalkStep) (p : Pick) : Type 0 where
  pub alike : Alike (judge_select S p.select).choice (step_choice (step_shown w))
  pub good : ok ≡ true → (judge_select S p.select).good ≡ true
  pub fits : is_good_step b (step_shown w) ≡ true
  pub flat_fits : is_good_step b (step_of (judge_select S p.select).choice) ≡ true
  pub width : p.width ≡ count_of (meant (step_choice (step_shown w)))
  pub constant : p.constant ≡ list_all (λ r. r.constant) (parts_of (step_choice (step_shown w)))
  pub cover : Covered here (pick_sites w) 0 p.clocks []

-- a fault of a node in it, or it is none that the bounds allow
abbrev pub HasNoPick : Here → Bounds → WalkStep → ℕ → ResolveError → Type 0
HasNoPick here b w at y = Told here (step_sites false None w) y ⊎ ((is_good_step b (step_shown w) ≡ false) × (y ≡ x.Range at))

pub record PickAnswer (S : Signals) (here : Here) (b : Bounds) (ok : Bool) (w : WalkStep) (at : ℕ) (r : Result Pick ResolveError) : Type 0 where
  pub right : IfOk r (HasPick S here b ok w)
  pub wrong : IfErr r (HasNoPick here b w at)

-- ---- all selects of a name

abbrev pub chosen_of : List WalkStep → List Choice
chosen_of ws = map step_choice (map step_shown ws)

abbrev pub picks_sites : List WalkStep → ℕ → Bool → List Site
picks_sites ws W T = flat_map (step_sites false None) ws

pub record HasPicks (S : Signals) (here : Here) (d : Declared) (ok : Bool) (ws : List WalkStep) (p : Picks) : Type 0 where
  pub alike : AllAlike (choices (map (judge_select S) p.selects)) (chosen_of ws)
  pub good : ok ≡ true → list_all (λ c. c.good) (map (judge_select S) p.selects) ≡ true
  pub array : is_array_fault d.array (map step_shown ws) ≡ false
  pub select : is_select_fault d (map step_shown ws) ≡ false
  pub flat_array : is_array_fault d.array (map step_of (choices (map (judge_select S) p.selects))) ≡ false
  pub flat_select : is_select_fault d (map step_of (choices (map (judge_select S) p.selects))) ≡ false
  pub width : p.width ≡ length (bits_of d (bit_selects d.array (map meant (chosen_of ws))) nowhere)
  pub signed : p.signed ≡ (is_nil (bit_selects d.array (map meant (chosen_of ws))) && d.signed)
  pub constant : p.constant ≡ (is_constant_sort d.sort && all_constant (chosen_of ws))
  pub cover : Covered here (picks_sites ws) 0 p.clocks []

-- a fault of a node in them, an array without a select of an element, or selects that the name doesn't take
pub data HasNoPicks (here : Here) (d : Declared) (ws : List WalkStep) (at : ℕ) (y : ResolveError) : Type 0 where
  inside : Told here (flat_map (step_sites false None) ws) y → HasNoPicks here d ws at y
  array : is_array_fault d.array (map step_shown ws) ≡ true → y ≡ x.UnknownName at → HasNoPicks here d ws at y
  select : is_select_fault d (map step_shown ws) ≡ true → y ≡ x.Range at → HasNoPicks here d ws at y

pub record PicksAnswer (S : Signals) (here : Here) (d : Declared) (ok : Bool) (ws : List WalkStep) (at : ℕ) (r : Result Picks ResolveError) : Type 0 where
  pub right : IfOk r (HasPicks S here d ok ws)
  pub wrong : IfErr r (HasNoPicks here d ws at)

-- ---- by their number

-- none
pub record IsWhole (h : Head) (p : Picks) : Type 0 where
  pub selects : p.selects ≡ []
  pub width : p.width ≡ h.width
  pub signed : p.signed ≡ h.signed
  pub constant : p.constant ≡ h.constant
  pub clocks : p.clocks ≡ []

-- bits
pub record IsPicked (h : Head) (pick : Pick) (p : Picks) : Type 0 where
  pub selects : p.selects ≡ pick.select ∷ []
  pub width : p.width ≡ pick.width
  pub signed : p.signed ≡ false
  pub constant : p.constant ≡ (h.constant && pick.constant)
  pub clocks : p.clocks ≡ pick.clocks

-- an element
pub record IsElement (h : Head) (i : Form) (p : Picks) : Type 0 where
  pub selects : p.selects ≡ s.Bit i.operand.expr ∷ []
  pub width : p.width ≡ h.width
  pub signed : p.signed ≡ h.signed
  pub constant : p.constant ≡ (h.constant && i.operand.constant)
  pub clocks : p.clocks ≡ i.notes.clocks

-- bits of an element
pub record IsElementBits (h : Head) (i : Form) (pick : Pick) (p : Picks) : Type 0 where
  pub selects : p.selects ≡ s.Bit i.operand.expr ∷ pick.select ∷ []
  pub width : p.width ≡ pick.width
  pub signed : p.signed ≡ false
  pub constant : p.constant ≡ (h.constant && (i.operand.constant && pick.constant))
  pub clocks : p.clocks ≡ i.notes.clocks ++ pick.clocks

-- ---- a name

pub record IsNamed (expr : FlatExpr) (clocks : List ℕ) (p : Picks) (f : Form) : Type 0 where
  pub tree : IsTree f.operand expr p.width p.signed p.constant
  pub notes : IsNoted f.notes (clocks ++ p.clocks) []
