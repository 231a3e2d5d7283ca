-- What a statement does to a valuation, and the updates that it leaves (IEEE 1364-2005, section 9).
use Rattle.std.specs.Prelude.{ℕ, zero, suc, ◌/◌, ◌%◌, ◌^◌, max, Bool, true, false, not, ◌&&◌, if◌then◌else◌, ◌==◌, List, [], ◌∷◌, ◌++◌, map, length, sum, bit_or, Option, Some, None, flat_map}
use Rattle.std.specs.List.{list_any}
use Rattle.lv_bits.specs.Values.{extended}
use Rattle.lv_ast.specs.declared.expr.Path.{Path}
use Rattle.lv_ast.specs.declared.expr.Literal.{Literal}
use Rattle.lv_ast.specs.declared.expr.Expr.{Expr}
use Rattle.lv_ast.specs.declared.expr.Expr.TheVariants as e
use Rattle.lv_ast.specs.declared.stmt.Target.{Target}
use Rattle.lv_ast.specs.declared.stmt.Target.TheOpen.{Target-F}
use Rattle.lv_ast.specs.declared.stmt.Stmt.{Stmt}
use Rattle.lv_ast.specs.declared.stmt.Stmt.TheOpen.{Stmt-F, Arm-F}
use Rattle.lv_source.specs.Values.{Meaning, own_value, size_of, nowhere}
use Rattle.lv_ast.specs.Trees.{fold_target, fold_stmt}
use Rattle.lv_ast.specs.Names.{Name}
use Rattle.lv_source.specs.Names.{Names, Declared, Valuation, Constant, with_name, known, is_signal_sort}
use Rattle.lv_source.specs.Places.{Place, place_of, nowhere_place, write}
use Rattle.lv_source.specs.Meaning.{Reading, Choice, meant, read_expr, read_select, meaning, constant_value}

-- a name in a target, with its selects
pub record Piece : Type 0 where
  pub path : Path
  pub declared : Option Declared
  pub choices : List Choice

pub record Update : Type 0 where
  pub places : List Place
  pub value : ℕ

pub record State : Type 0 where
  pub valuation : Valuation
  pub pending : List Update

abbrev pub Effect : Type 0
Effect = Names → State → State

-- ---- targets

abbrev pub piece_step : Names → Target-F (List Piece) → List Piece
piece_step names (Target-F.Name path ss) = record { path = path; declared = names path; choices = map (read_select names) ss } ∷ []
piece_step names (Target-F.Cat parts) = flat_map (λ ps. ps) parts

-- the names of a target, from left to right
unfoldable pub pieces : Names → Target → List Piece
pieces names t = fold_target (List Piece) (piece_step names) t

-- a name that is no signal is written nowhere
abbrev pub aimed : Bool → Place → Place
aimed signal p = if signal then p else nowhere_place p.bits

abbrev pub piece_place : Valuation → Piece → Place
piece_place v p = aimed (is_signal_sort (known p.declared).sort) (place_of (known p.declared) (map meant p.choices) v)

abbrev pub places : Valuation → List Piece → List Place
places v ps = map (piece_place v) ps

abbrev pub bits_in : List Place → ℕ
bits_in ps = sum (map (λ p. length p.bits) ps)

-- the leftmost gets the highest bits
abbrev pub write_all : Valuation → List Place → ℕ → Valuation
write_all v [] x = v
write_all v (p ∷ ps) x = write_all (write v p (x / 2 ^ bits_in ps % 2 ^ length p.bits)) ps x

-- a value at the width of the greater side
abbrev pub assigned : Valuation → ℕ → Meaning → ℕ
assigned v width m = m.value (max width m.width) m.signed v % 2 ^ width

-- ---- conditions

abbrev pub is_met : Valuation → Reading → Bool
is_met v r = not (own_value r.meaning v == 0)

abbrev pub is_set : Names → Valuation → Expr → Bool
is_set names v x = is_met v (read_expr names x)

-- ---- case, over what is read of its expressions

-- what is read of a label, and the literal that it is, if it is one
pub record Label : Type 0 where
  pub reading : Reading
  pub literal : Option Literal

pub record Arm (A : Type 0) : Type 0 where
  pub labels : List Label
  pub body : A

-- without a size the free bits may go on above the 32
abbrev pub free_of : Bool → ℕ → Option Literal → ℕ
free_of signed w None = 0
free_of signed w (Some l) = let n : ℕ = size_of l.size in bit_or (l.wild % 2 ^ w) (extended signed n w (l.wild % 2 ^ n))

pub record Width : Type 0 where
  pub width : ℕ
  pub signed : Bool

-- the longest width of a `case`, and whether all are signed
abbrev pub common_of : Reading → List Label → Width
common_of x [] = record { width = x.meaning.width; signed = x.meaning.signed }
common_of x (l ∷ ls) =
    let c : Width = common_of x ls in
    record { width = max l.reading.meaning.width c.width; signed = l.reading.meaning.signed && c.signed }

-- the number x, at that width, fits the label
abbrev pub fits_label : Valuation → Bool → Width → ℕ → Label → Bool
fits_label v wild c x l =
    let free : ℕ = if wild then free_of c.signed c.width l.literal else 0 in
    bit_or x free == bit_or (l.reading.meaning.value c.width c.signed v) free

abbrev pub is_default : {L : Type 0} → List L → Bool
is_default [] = true
is_default (x ∷ xs) = false

abbrev pub arm_labels : {A : Type 0} → List (Arm A) → List Label
arm_labels arms = flat_map (λ a. a.labels) arms

-- the first arm with a label that fits, or the default
abbrev pub taken_of : {A : Type 0} → (Label → Bool) → List (Arm A) → A → A
taken_of fits [] default = default
taken_of fits (a ∷ arms) default =
    if list_any fits a.labels then a.body else taken_of fits arms (if is_default a.labels then a.body else default)

-- the number of the selector
abbrev pub selected_of : Reading → Width → Valuation → ℕ
selected_of x c v = x.meaning.value c.width c.signed v

abbrev pub case_of : Bool → Reading → List (Arm (State → State)) → State → State
case_of wild x arms s =
    let c : Width = common_of x (arm_labels arms) in
    taken_of (fits_label s.valuation wild c (selected_of x c s.valuation)) arms (λ s. s) s

-- ---- case, over trees

abbrev pub literal_of : Expr → Option Literal
literal_of (e.Lit l) = Some l
literal_of _ = None

abbrev pub label_of : Names → Expr → Label
label_of names e = record { reading = read_expr names e; literal = literal_of e }

abbrev pub free_bits : Bool → ℕ → Expr → ℕ
free_bits signed w e = free_of signed w (literal_of e)

abbrev pub common : Names → Expr → List Expr → Width
common names x ls = common_of (read_expr names x) (map (label_of names) ls)

abbrev pub is_match : Names → Valuation → Bool → Width → ℕ → Expr → Bool
is_match names v wild c x label = fits_label v wild c x (label_of names label)

pub record ArmOf (A : Type 0) : Type 0 where
  pub labels : List Expr
  pub body : A

abbrev pub all_labels : {A : Type 0} → List (ArmOf A) → List Expr
all_labels arms = flat_map (λ a. a.labels) arms

-- an arm, where names are known
abbrev pub read_arm : {A : Type 0} → Names → ArmOf (Names → A) → Arm A
read_arm names a = record { labels = map (label_of names) a.labels; body = a.body names }

abbrev pub case_effect : Bool → Expr → List (ArmOf Effect) → Effect
case_effect wild x arms names s = case_of wild (read_expr names x) (map (read_arm names) arms) s

-- ---- loops

-- the index of a loop, at a turn
abbrev pub with_index : Names → Name → ℕ → Names
with_index names index value =
    with_name names index (Some (record { path = index; bounds = record { left = 31; right = 0 }; ranged = true; signed = true; array = None; sort = Constant value }))

-- a number as a loop index keeps it
abbrev pub index_value : Names → Expr → ℕ
index_value names x = assigned nowhere 32 (meaning names x)

-- the values of the index, turn by turn, while the test isn't 0
unfoldable pub turns_from : ℕ → Names → Name → Expr → Expr → ℕ → List ℕ
turns_from zero names index test next value = []
turns_from (suc n) names index test next value =
    let here : Names = with_index names index value in
    elim (constant_value here test == 0) [ true ↦ [] | false ↦ value ∷ turns_from n names index test next (index_value here next) ]

unfoldable pub turns : Names → Name → Expr → Expr → Expr → List ℕ
turns names index start test next = turns_from 1000001 names index test next (index_value names start)

-- ---- statements, over what is read of their expressions

abbrev pub one_by_one : List (State → State) → State → State
one_by_one [] s = s
one_by_one (f ∷ fs) s = one_by_one fs (f s)

abbrev pub if_of : Reading → (State → State) → (State → State) → State → State
if_of x then_ else_ s = if is_met s.valuation x then then_ s else else_ s

-- `=`
abbrev pub now_of : List Piece → Reading → State → State
now_of target x s =
    let ps : List Place = places s.valuation target in
    record s { valuation = write_all s.valuation ps (assigned s.valuation (bits_in ps) x.meaning) }

-- `<=`
abbrev pub later_of : List Piece → Reading → State → State
later_of target x s =
    let ps : List Place = places s.valuation target in
    record s { pending = s.pending ++ record { places = ps; value = assigned s.valuation (bits_in ps) x.meaning } ∷ [] }

-- ---- statements, over trees

abbrev pub in_order : List Effect → Effect
in_order fs names s = one_by_one (map (λ f. f names) fs) s

abbrev pub otherwise : Option Effect → Effect
otherwise None names s = s
otherwise (Some f) names s = f names s

-- the body of a loop, once for each value
abbrev pub each_turn : (ℕ → Names) → Effect → List ℕ → State → State
each_turn at body ks s = one_by_one (map (λ k. body (at k)) ks) s

abbrev pub effect_step : Stmt-F Effect (ArmOf Effect) → Effect
effect_step Stmt-F.Null names s = s
effect_step (Stmt-F.Block name body) names s = in_order body names s
effect_step (Stmt-F.If x then_ else_) names s = if_of (read_expr names x) (then_ names) (otherwise else_ names) s
effect_step (Stmt-F.Case wild x arms) names s = case_effect wild x arms names s
effect_step (Stmt-F.Loop index start test again next body) names s =
    each_turn (with_index names index.name) body (turns names index.name start test next) s
effect_step (Stmt-F.Now target x place) names s = now_of (pieces names target) (read_expr names x) s
effect_step (Stmt-F.Later target x place) names s = later_of (pieces names target) (read_expr names x) s

abbrev pub arm_step : {A : Type 0} → Arm-F A (ArmOf A) → ArmOf A
arm_step a = record { labels = a.labels; body = a.body }

-- the effect of a statement: `=` changes the valuation at once, in combinational and in clocked blocks; `<=` adds an update
-- with the value and the selected bits that it has then
unfoldable pub executes : Names → Stmt → State → State
executes names stmt s = fold_stmt Effect (ArmOf Effect) effect_step arm_step stmt names s

abbrev pub applied : Valuation → List Update → Valuation
applied v [] = v
applied v (u ∷ us) = applied (write_all v u.places u.value) us

-- what a block leaves of v: its own writes at once, and then its pending updates in order
abbrev pub left_of : (State → State) → Valuation → Valuation
left_of block v = let s : State = block (record { valuation = v; pending = [] }) in applied s.valuation s.pending

abbrev pub left_by : Names → Stmt → Valuation → Valuation
left_by names stmt v = left_of (executes names stmt) v
