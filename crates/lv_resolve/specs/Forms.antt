-- What is answered of an expression below a place: of its tree, and of its nodes where they stand.
use Rattle.std.specs.Prelude.{◌≡◌, ℕ, ◌≤◌, max, Bool, true, false, not, ◌&&◌, ◌||◌, if◌then◌else◌, ◌==◌, List, [], ◌∷◌, ◌++◌, Option, None, Some, Result, IfOk, IfErr, Contains, flat_map, map, ⊤}
use Rattle.std.specs.List.{list_all}
use Rattle.lv_bits.specs.declared.op.Op.{Op}
use Rattle.lv_bits.specs.Values.{keeps_width, is_apart, is_unary}
use Rattle.lv_ast.specs.declared.expr.Literal.{Literal}
use Rattle.lv_ast.specs.declared.expr.Path.{Path}
use Rattle.lv_ast.specs.declared.expr.Expr.{Expr}
use Rattle.lv_ast.specs.declared.expr.Expr.TheOpen.{Expr-F, Select-F}
use Rattle.lv_ast.specs.declared.expr.Select.{Select}
use Rattle.lv_ast.specs.Trees.{fold_expr, fold_select}
use Rattle.lv_source.specs.Names.{Names, Here}
use Rattle.lv_source.specs.Values.{nowhere, own_value}
use Rattle.lv_source.specs.Sites.{Site, Shown, Step, Value, Joined, Walk, WalkStep, walk, walk_step, own_sites, fixed_sites}
use Rattle.lv_source.specs.NodeRules.{unknown_name, not_constant, zero_divisor, out_of_range, clock_use}
use Rattle.lv_const.specs.declared.consts.Entry.{Entry}
use Rattle.lv_const.specs.Answers.{Sound, read_role, total_width}
use Rattle.lv_scopes.specs.declared.number.Number.{Number}
use Rattle.lv_flat.specs.Signals.{Signals}
use Rattle.lv_flat.specs.Judged.{judge, reading, is_good}
use Rattle.lv_resolve.specs.Places.{AreNames}
use Rattle.lv_resolve.specs.declared.error.ResolveError.{ResolveError}
use Rattle.lv_resolve.specs.declared.error.ResolveError.TheVariants as x
use Rattle.lv_resolve.specs.declared.operand.Operand.{Operand}
use Rattle.lv_resolve.specs.declared.form.Divisor.{Divisor}
use Rattle.lv_resolve.specs.declared.form.Form.{Form}
use Rattle.lv_resolve.specs.declared.form.Pair.{Pair}
use Rattle.lv_resolve.specs.declared.form.Parts.{Parts}

-- at each place where the names are these
pub record Anywhere (S : Signals) (find : Path → Option ℕ) (all early : List Entry) (Holds : Here → Type 0) : Type 0 where
  pub at : (here : Here) → AreNames S find all early here → Holds here

-- ---- each operator has its number of operands, as the grammar gives it

abbrev pub operands_step : Expr-F Bool Bool → Bool
operands_step (Expr-F.Lit l) = true
operands_step (Expr-F.Name path ss) = list_all (λ b. b) ss
operands_step (Expr-F.Un op a) = is_unary op && a
operands_step (Expr-F.Bin op a b) = not (is_unary op) && (a && b)
operands_step (Expr-F.Div a b) = a && b
operands_step (Expr-F.Rem a b) = a && b
operands_step (Expr-F.Cond c a b) = c && (a && b)
operands_step (Expr-F.Cat rs) = list_all (λ b. b) rs
operands_step (Expr-F.Rep n rs) = list_all (λ b. b) rs
operands_step (Expr-F.Cast signed a) = a

abbrev pub operands_choice : Select-F Bool Bool → Bool
operands_choice (Select-F.Bit a) = a
operands_choice (Select-F.Part a b) = true
operands_choice (Select-F.Up a b) = a
operands_choice (Select-F.Down a b) = a

unfoldable pub has_operands : Expr → Bool
has_operands e = fold_expr Bool Bool operands_step operands_choice e

unfoldable pub has_select_operands : Select → Bool
has_select_operands s = fold_select Bool Bool operands_step operands_choice s

-- ---- faults

abbrev pub Sites : Type 0
Sites = ℕ → Bool → List Site

abbrev pub unfixed_at : Here → Site → List ℕ
unfixed_at here s = not_constant (record { early = here.early; site = s })

-- all faults but divisions by 0
abbrev pub flaws : Here → Site → List ℕ
flaws here s = unknown_name s ++ unfixed_at here s ++ out_of_range s

abbrev pub Tells : Here → List Site → ResolveError → Type 0
Tells here ss (x.UnknownName p) = Contains (flat_map unknown_name ss) p
Tells here ss (x.NotConstant p) = Contains (flat_map (unfixed_at here) ss) p
Tells here ss (x.ZeroDivisor p) = Contains (flat_map zero_divisor ss) p
Tells here ss (x.Range p) = Contains (flat_map out_of_range ss) p
Tells here ss x.NoMemory = ⊤

-- an error is a fault of one of these nodes, or want of memory
pub record Told (here : Here) (sites : List Site) (e : ResolveError) : Type 0 where
  pub found : Tells here sites e

-- ---- divisors, whose values are wanted once the width and the sign are known that reach them

-- where it, or one in it, is 0
abbrev pub zeros_at : Names → ℕ → Bool → Divisor → List ℕ
zeros_at names W T d =
    (if (walk names d.expr).shown.reading.meaning.value W T nowhere == 0 then d.place ∷ [] else []) ++
    flat_map zero_divisor ((walk names d.expr).sites Value None W T)

pub record IsDivisor (names : Names) (least : ℕ) (d : Divisor) : Type 0 where
  pub narrow : (walk names d.expr).shown.reading.meaning.width ≤ least
  pub sound : (W : ℕ) (T : Bool) → Sound (λ p. true) ((walk names d.expr).sites Value None W T)

pub record AreDivisors (names : Names) (least : ℕ) (ds : List Divisor) : Type 0 where
  pub each : (d : Divisor) → Contains ds d → IsDivisor names least d

abbrev pub Zeroed : Names → ℕ → Bool → List Divisor → ResolveError → Type 0
Zeroed names W T ds (x.ZeroDivisor p) = Contains (flat_map (zeros_at names W T) ds) p
Zeroed names W T ds _ = ⊥

pub record IsZeroed (names : Names) (W : ℕ) (T : Bool) (ds : List Divisor) (e : ResolveError) : Type 0 where
  pub found : Zeroed names W T ds e

pub record AreClosed (names : Names) (W : ℕ) (T : Bool) (ds : List Divisor) (r : Result (Unit {0}) ResolveError) : Type 0 where
  pub right : IfOk r (λ u. flat_map (zeros_at names W T) ds ≡ [])
  pub wrong : IfErr r (IsZeroed names W T ds)

-- ---- what is noted of nodes: none has a flaw, the clocks among them, and the divisors that decide whether one divides by 0

pub record Covered (here : Here) (sites : Sites) (least : ℕ) (cs : List ℕ) (ds : List Divisor) : Type 0 where
  pub clean : (W : ℕ) (T : Bool) → flat_map (flaws here) (sites W T) ≡ []
  pub clocks : (W : ℕ) (T : Bool) → flat_map clock_use (sites W T) ≡ cs
  pub divisors : AreDivisors here.names least ds
  pub waiting : least ≡ 0 → ds ≡ []
  pub none : (W : ℕ) (T : Bool) → flat_map (zeros_at here.names W T) ds ≡ [] → flat_map zero_divisor (sites W T) ≡ []
  pub some : (W : ℕ) (T : Bool) (p : ℕ) → Contains (flat_map (zeros_at here.names W T) ds) p → Contains (flat_map zero_divisor (sites W T)) p

-- ---- what a `case` asks for of an expression: the literal that it is, and whether at a greater width it is its own value, extended

abbrev pub node_literal : Expr-F Shown Step → Option Literal
node_literal (Expr-F.Lit l) = Some l
node_literal _ = None

abbrev pub node_extends : Expr-F Shown Step → Bool
node_extends (Expr-F.Lit l) = true
node_extends (Expr-F.Name path ss) = true
node_extends (Expr-F.Cat rs) = true
node_extends (Expr-F.Rep n rs) = true
node_extends (Expr-F.Cast signed a) = true
node_extends (Expr-F.Un op a) = not (keeps_width op)
node_extends (Expr-F.Bin op a b) = not (keeps_width op)
node_extends _ = false

abbrev pub first_literal : List Site → Option Literal
first_literal [] = None
first_literal (s ∷ ss) = node_literal s.node

abbrev pub first_extends : List Site → Bool
first_extends [] = false
first_extends (s ∷ ss) = node_extends s.node

-- by the node that it is
abbrev pub walk_literal : Walk → Option Literal
walk_literal w = first_literal (w.sites Value None 0 false)

abbrev pub walk_extends : Walk → Bool
walk_extends w = first_extends (w.sites Value None 0 false)

-- ---- a tree

-- a flat tree with the reading of the one that it came from; `ok` is whether that one's operators have their operands
pub record HasOperand (S : Signals) (w : Walk) (ok : Bool) (o : Operand) : Type 0 where
  pub same : reading S o.expr ≡ w.shown.reading
  pub good : ok ≡ true → is_good S o.expr ≡ true
  pub width : o.width ≡ w.shown.reading.meaning.width
  pub signed : o.signed ≡ w.shown.reading.meaning.signed
  pub constant : o.constant ≡ w.shown.reading.constant
  pub literal : (judge S o.expr).literal ≡ walk_literal w
  pub extends : (judge S o.expr).extends ≡ walk_extends w

pub record HasForm (S : Signals) (here : Here) (sites : Sites) (least : ℕ) (w : Walk) (ok : Bool) (f : Form) : Type 0 where
  pub operand : HasOperand S w ok f.operand
  pub cover : Covered here sites least f.notes.clocks f.notes.divisors

pub record HasNoForm (here : Here) (sites : Sites) (e : ResolveError) : Type 0 where
  pub told : (W : ℕ) (T : Bool) → Told here (sites W T) e

pub record FormAnswer (S : Signals) (here : Here) (sites : Sites) (least : ℕ) (w : Walk) (ok : Bool) (r : Result Form ResolveError) : Type 0 where
  pub right : IfOk r (HasForm S here sites least w ok)
  pub wrong : IfErr r (HasNoForm here sites)

-- the nodes of an expression that is read, or joined by a concatenation
abbrev pub read_sites : Bool → Walk → Sites
read_sites joined w W T = w.sites (read_role joined) None W T

-- those of an operand: what reaches the node reaches it, or it keeps its own width and sign
abbrev pub operand_sites : Bool → Walk → Sites
operand_sites full w W T = if full then own_sites Value None w else w.sites Value None W T

abbrev pub wide : Walk → ℕ
wide w = w.shown.reading.meaning.width

-- the greatest width of a divisor in it that waits
abbrev pub operand_least : Bool → Walk → ℕ
operand_least full w = if full then 0 else wide w

-- at its own width and sign
abbrev pub settled_sites : Sites → Walk → Sites
settled_sites sites w W T = sites w.shown.reading.meaning.width w.shown.reading.meaning.signed

abbrev pub member_sites : Walk → Sites
member_sites w W T = own_sites Joined None w

-- a name, which is read or joined alike
pub record NameAnswer (S : Signals) (here : Here) (path : Path) (ws : List WalkStep) (ok : Bool) (r : Result Form ResolveError) : Type 0 where
  pub told : (joined : Bool) → FormAnswer S here (read_sites joined (walk_step here.names (Expr-F.Name path ws)))
      (wide (walk_step here.names (Expr-F.Name path ws))) (walk_step here.names (Expr-F.Name path ws)) ok r

-- ---- two operands

abbrev pub both_width : Walk → Walk → ℕ
both_width a b = max a.shown.reading.meaning.width b.shown.reading.meaning.width

abbrev pub both_signed : Walk → Walk → Bool
both_signed a b = a.shown.reading.meaning.signed && b.shown.reading.meaning.signed

abbrev pub both_sites : Walk → Walk → Sites
both_sites a b W T = a.sites Value None W T ++ b.sites Value None W T

-- those of a binary operator before the operands of a comparison have a width
abbrev pub first_sites : Op → Walk → Walk → Sites
first_sites op a b W T = operand_sites (is_apart op && not (keeps_width op)) a W T ++ operand_sites (is_apart op) b W T

abbrev pub pair_sites : Op → Walk → Walk → Sites
pair_sites op a b W T = if keeps_width op || is_apart op then first_sites op a b W T else both_sites a b (both_width a b) (both_signed a b)

-- the greatest width of a divisor among them that waits
abbrev pub first_least : Op → Walk → Walk → ℕ
first_least op a b = if is_apart op then (if keeps_width op then wide a else 0) else both_width a b

abbrev pub pair_least : Op → Walk → Walk → ℕ
pair_least op a b = if keeps_width op then (if is_apart op then wide a else both_width a b) else 0

pub record HasPair (S : Signals) (here : Here) (sites : Sites) (least : ℕ) (a b : Walk) (oka okb : Bool) (p : Pair) : Type 0 where
  pub left : HasOperand S a oka p.left
  pub right : HasOperand S b okb p.right
  pub cover : Covered here sites least p.notes.clocks p.notes.divisors

pub record PairAnswer (S : Signals) (here : Here) (sites : Sites) (least : ℕ) (a b : Walk) (oka okb : Bool) (r : Result Pair ResolveError) : Type 0 where
  pub right : IfOk r (HasPair S here sites least a b oka okb)
  pub wrong : IfErr r (HasNoForm here sites)

-- ---- the operands of a concatenation or a replication

abbrev pub joined_all : List Walk → Sites
joined_all ws W T = flat_map (own_sites Joined None) ws

pub record HasParts (S : Signals) (here : Here) (ws : List Walk) (ok : Bool) (p : Parts) : Type 0 where
  pub same : map (reading S) p.exprs ≡ map (λ w. w.shown.reading) ws
  pub good : ok ≡ true → list_all (is_good S) p.exprs ≡ true
  pub width : p.total ≡ total_width ws
  pub constant : p.constant ≡ list_all (λ w. w.shown.reading.constant) ws
  pub cover : Covered here (joined_all ws) 0 p.notes.clocks p.notes.divisors

pub record PartsAnswer (S : Signals) (here : Here) (ws : List Walk) (ok : Bool) (r : Result Parts ResolveError) : Type 0 where
  pub right : IfOk r (HasParts S here ws ok)
  pub wrong : IfErr r (HasNoForm here (joined_all ws))

-- ---- a number in a constant position

pub record IsFixed (here : Here) (w : Walk) (n : Number) : Type 0 where
  pub value : n.word.value ≡ own_value w.shown.reading.meaning nowhere
  pub width : n.word.width ≡ w.shown.reading.meaning.width
  pub signed : n.signed ≡ w.shown.reading.meaning.signed
  pub constant : w.shown.reading.constant ≡ true
  pub reads : w.shown.reading.reads ≡ []
  pub cover : Covered here (λ W T. fixed_sites w) 0 [] []

pub record FixedAnswer (here : Here) (w : Walk) (r : Result Number ResolveError) : Type 0 where
  pub right : IfOk r (IsFixed here w)
  pub wrong : IfErr r (Told here (fixed_sites w))
