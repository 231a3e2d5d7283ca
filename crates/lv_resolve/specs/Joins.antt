-- The tree of a node from those of its operands.
use Rattle.std.specs.Prelude.{◌≡◌, ◌⊎◌, not, Option, Some, None, ℕ, ◌+◌, ◌*◌, max, Bool, true, false, ◌&&◌, if◌then◌else◌, List, [], ◌∷◌, ◌++◌}
use Rattle.lv_bits.specs.declared.op.Op.{Op}
use Rattle.lv_bits.specs.Values.{keeps_width, is_apart}
use Rattle.lv_ast.specs.declared.expr.Expr.{Expr}
use Rattle.lv_ast.specs.declared.expr.Literal.{Literal}
use Rattle.lv_source.specs.Values.{size_of}
use Rattle.lv_source.specs.NodeRules.{is_width, is_literal_fault}
use Rattle.lv_const.specs.Answers.{read_role}
use Rattle.lv_const.specs.declared.error.ConstError.{ConstError}
use Rattle.lv_const.specs.declared.error.ConstError.TheVariants as y
use Rattle.lv_resolve.specs.declared.error.ResolveError.{ResolveError}
use Rattle.lv_resolve.specs.declared.error.ResolveError.TheVariants as x
use Rattle.lv_flat.specs.declared.expr.FlatExpr.{FlatExpr}
use Rattle.lv_flat.specs.declared.expr.FlatExpr.TheVariants as e
use Rattle.lv_resolve.specs.declared.operand.Operand.{Operand}
use Rattle.lv_resolve.specs.declared.form.Divisor.{Divisor}
use Rattle.lv_resolve.specs.declared.form.Notes.{Notes}
use Rattle.lv_resolve.specs.declared.form.Form.{Form}
use Rattle.lv_resolve.specs.declared.form.Pair.{Pair}
use Rattle.lv_resolve.specs.declared.form.Parts.{Parts}

pub record IsTree (o : Operand) (expr : FlatExpr) (width : ℕ) (signed constant : Bool) : Type 0 where
  pub tree : o.expr ≡ expr
  pub wide : o.width ≡ width
  pub typed : o.signed ≡ signed
  pub fixed : o.constant ≡ constant

pub record IsNoted (n : Notes) (cs : List ℕ) (ds : List Divisor) : Type 0 where
  pub clocks : n.clocks ≡ cs
  pub divisors : n.divisors ≡ ds

pub record IsUnary (op : Op) (a f : Form) : Type 0 where
  pub tree : IsTree f.operand (e.Un op a.operand.expr) (if keeps_width op then a.operand.width else 1)
      (if keeps_width op then a.operand.signed else false) a.operand.constant
  pub notes : IsNoted f.notes a.notes.clocks a.notes.divisors

abbrev pub binary_width : Op → ℕ → ℕ → ℕ
binary_width op a b = if keeps_width op then (if is_apart op then a else max a b) else 1

abbrev pub binary_signed : Op → Bool → Bool → Bool
binary_signed op a b = if keeps_width op then (if is_apart op then a else a && b) else false

pub record IsBinary (op : Op) (p : Pair) (f : Form) : Type 0 where
  pub tree : IsTree f.operand (e.Bin op p.left.expr p.right.expr) (binary_width op p.left.width p.right.width)
      (binary_signed op p.left.signed p.right.signed) (p.left.constant && p.right.constant)
  pub notes : IsNoted f.notes p.notes.clocks p.notes.divisors

pub record IsPair (a b : Form) (p : Pair) : Type 0 where
  pub left : p.left ≡ a.operand
  pub right : p.right ≡ b.operand
  pub notes : IsNoted p.notes (a.notes.clocks ++ b.notes.clocks) (a.notes.divisors ++ b.notes.divisors)

abbrev pub divided_by : Bool → FlatExpr → FlatExpr → FlatExpr
divided_by rest a b = if rest then e.Rem a b else e.Div a b

-- with its divisor
pub record IsDivision (rest : Bool) (b : Expr) (place : ℕ) (p : Pair) (f : Form) : Type 0 where
  pub left_fixed : p.left.constant ≡ true
  pub right_fixed : p.right.constant ≡ true
  pub tree : IsTree f.operand (divided_by rest p.left.expr p.right.expr) (max p.left.width p.right.width) (p.left.signed && p.right.signed) true
  pub notes : IsNoted f.notes p.notes.clocks (p.notes.divisors ++ record { expr = b; place = place } ∷ [])

pub record IsChoice (c a b f : Form) : Type 0 where
  pub tree : IsTree f.operand (e.Cond c.operand.expr a.operand.expr b.operand.expr) (max a.operand.width b.operand.width)
      (a.operand.signed && b.operand.signed) (c.operand.constant && (a.operand.constant && b.operand.constant))
  pub notes : IsNoted f.notes ((c.notes.clocks ++ a.notes.clocks) ++ b.notes.clocks) ((c.notes.divisors ++ a.notes.divisors) ++ b.notes.divisors)

pub record IsCast (signed : Bool) (a f : Form) : Type 0 where
  pub tree : IsTree f.operand (e.Cast signed a.operand.expr) a.operand.width signed a.operand.constant
  pub notes : IsNoted f.notes a.notes.clocks a.notes.divisors

pub record IsMore (p : Parts) (f : Form) (q : Parts) : Type 0 where
  pub exprs : q.exprs ≡ p.exprs ++ f.operand.expr ∷ []
  pub width : q.total ≡ p.total + f.operand.width
  pub fixed : q.constant ≡ (p.constant && f.operand.constant)
  pub notes : IsNoted q.notes (p.notes.clocks ++ f.notes.clocks) (p.notes.divisors ++ f.notes.divisors)

pub record IsConcatenation (p : Parts) (f : Form) : Type 0 where
  pub tree : IsTree f.operand (e.Cat p.exprs) p.total false p.constant
  pub notes : IsNoted f.notes p.notes.clocks p.notes.divisors

abbrev pub IsTooWide : ℕ → ℕ → ResolveError → Type 0
IsTooWide total place y = (is_width total ≡ false) × (y ≡ x.Range place)

pub record IsRepetition (count : ℕ) (p : Parts) (f : Form) : Type 0 where
  pub tree : IsTree f.operand (e.Rep count p.exprs) (count * p.total) false p.constant
  pub notes : IsNoted f.notes p.notes.clocks p.notes.divisors

abbrev pub IsCounted : Option ℕ → Parts → Form → Type 0
IsCounted None p f = ⊥
IsCounted (Some n) p f = IsRepetition n p f

abbrev pub IsUncounted : Option ℕ → ℕ → ℕ → ResolveError → Type 0
IsUncounted None total place y = y ≡ x.Range place
IsUncounted (Some n) total place y = (is_width (n * total) ≡ false) × (y ≡ x.Range place)

abbrev pub IsNoDivision : ℕ → Pair → ResolveError → Type 0
IsNoDivision start p y = (y ≡ x.NoMemory) ⊎ ((p.left.constant && p.right.constant ≡ false) × (y ≡ x.NotConstant start))

abbrev pub is_sound_literal : Literal → Bool → Bool
is_sound_literal l joined = is_width (size_of l.size) && not (is_literal_fault (read_role joined) l)

pub record IsLiteral (l : Literal) (joined : Bool) (f : Form) : Type 0 where
  pub sound : is_sound_literal l joined ≡ true
  pub tree : IsTree f.operand (e.Lit l) (size_of l.size) l.signed true
  pub notes : IsNoted f.notes [] []

abbrev pub IsNoLiteral : Literal → Bool → ResolveError → Type 0
IsNoLiteral l joined y = (is_sound_literal l joined ≡ false) × (y ≡ x.Range l.place)

abbrev pub zero_in : ConstError → ResolveError
zero_in (y.NoValue p) = x.ZeroDivisor p
zero_in (y.Range p) = x.ZeroDivisor p
zero_in (y.ZeroDivisor p) = x.ZeroDivisor p
