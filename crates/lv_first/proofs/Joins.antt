-- One-bit expressions by their forms, as the reader of formulas meets them.
use Rattle.std.proofs.Common.{◌≡◌, ℕ, zero, suc, ◌+◌, Bool, true, false, ◌||◌, List, [], ◌∷◌, ◌++◌, length, refl, sym, ◌∙◌, ap, subst, arith}
use Rattle.std.specs.Prelude.{Option, Some, None, IfSome, Result, Ok, Err, IfOk, slice_get, bytes_eq}
use Rattle.lv_bits.specs.declared.op.Op.{Op}
use Rattle.lv_bits.specs.declared.op.Op.TheVariants as o
use Rattle.lv_ast.specs.declared.expr.Path.{Path}
use Rattle.lv_ast.specs.declared.expr.Expr.{Expr}
use Rattle.lv_ast.specs.declared.expr.Expr.TheVariants as e
use Rattle.lv_ast.specs.Names.{Name, has_no_steps}
use Rattle.lv_source.specs.Names.{Names, Input, Variable}
use Rattle.lv_first.specs.FirstForm.{is_in, scope_of, IsBitExpr, name, inverse, joined}
use Rattle.lv_first.specs.Formulas.{Truth, truth, negated, both, either, differ}
use Rattle.lv_first.specs.declared.formula.Formula.TheVariants as f
use Rattle.lv_first.specs.Signals.{IsBitOf, IsSignal, IsJoinedBy, ands, ors, xors}
use Rattle.lv_first.proofs.Truths.{truth-Variable}
use Rattle.lv_first.proofs.Numbering.{same_bytes}
use Rattle.lv_first.proofs.Meanings.{bit-Name, bit-Not, bit-And, bit-Or, bit-Xor}

pub joins-And : (s t u : Truth) → u ≡ both s t → IsJoinedBy o.And s t u
joins-And s t u e = subst (IsJoinedBy o.And s t) (sym e) (ands s t)

pub joins-Or : (s t u : Truth) → u ≡ either s t → IsJoinedBy o.Or s t u
joins-Or s t u e = subst (IsJoinedBy o.Or s t) (sym e) (ors s t)

pub joins-Xor : (s t u : Truth) → u ≡ differ s t → IsJoinedBy o.Xor s t u
joins-Xor s t u e = subst (IsJoinedBy o.Xor s t) (sym e) (xors s t)

pub ruleset joins = (joins-And, joins-Or, joins-Xor)

-- ---- names

or_right : (a b : Bool) → b ≡ true → (a || b) ≡ true
or_right true b h = refl
or_right false b h = h

pub in-at : (ss : List Name) (k : ℕ) (x : Name) → slice_get ss k ≡ Some x → is_in ss x ≡ true
in-at [] k x h = absurd (cc)
in-at (s ∷ ss) zero x h = let e : s ≡ x = cc in subst (λ z. (bytes_eq z s || is_in ss z) ≡ true) e (ap (λ b. b || is_in ss s) (same_bytes s))
in-at (s ∷ ss) (suc k) x h = or_right (bytes_eq x s) (is_in ss x) (in-at ss k x h)

pub slice_get-left : (xs ys : List Name) (k : ℕ) (x : Name) → slice_get xs k ≡ Some x → slice_get (xs ++ ys) k ≡ Some x
slice_get-left [] ys k x h = absurd (cc)
slice_get-left (y ∷ xs) ys zero x h = h
slice_get-left (y ∷ xs) ys (suc k) x h = slice_get-left xs ys k x h

pub slice_get-right : (xs ys : List Name) (j k : ℕ) (x : Name) → j ≡ length xs + k → slice_get ys k ≡ Some x → slice_get (xs ++ ys) j ≡ Some x
slice_get-right [] ys j k x e h = let e' : j ≡ k = omega arith in subst (λ z. slice_get ys z ≡ Some x) (sym e') h
slice_get-right (y ∷ xs) ys zero k x e h = absurd (omega arith)
slice_get-right (y ∷ xs) ys (suc j) k x e h = slice_get-right xs ys j k x (omega arith) h

pub plain_steps : (path : Path) → path.steps ≡ [] → has_no_steps path ≡ true
plain_steps path e = ap (λ s. elim s [ [] ↦ true | ◌∷◌ x xs ↦ false ]) e

pub register_signal : (registers inputs : List Name) (path : Path) (k : ℕ) → path.steps ≡ [] → slice_get registers k ≡ Some path.name → IsSignal registers inputs path k
register_signal registers inputs path k plain at = record {
  plain = plain;
  number = slice_get-left registers inputs k path.name at;
  sort = (Variable, refl, rw (plain_steps path plain, in-at registers k path.name at));
}

pub input_signal :
    (registers inputs : List Name) (path : Path) (j k : ℕ) → path.steps ≡ [] → is_in registers path.name ≡ false → j ≡ length registers + k → slice_get inputs k ≡ Some path.name →
    IsSignal registers inputs path j
input_signal registers inputs path j k plain other e at = record {
  plain = plain;
  number = slice_get-right registers inputs j k path.name e at;
  sort = (Input, refl, rw (plain_steps path plain, other, in-at inputs k path.name at));
}

pub ruleset signal_rules = (register_signal, input_signal)

pub name_is_bit :
    (registers inputs : List Name) (path : Path) (k : ℕ) → IsSignal registers inputs path k →
    IsBitExpr (registers ++ inputs) (e.Name path []) × IsBitOf (scope_of registers inputs) (registers ++ inputs) (e.Name path []) (truth (f.Variable k))
name_is_bit registers inputs path k h = (
  name path h.plain (in-at (registers ++ inputs) k path.name h.number),
  subst (IsBitOf (scope_of registers inputs) (registers ++ inputs) (e.Name path [])) (sym (truth-Variable k))
      (bit-Name (scope_of registers inputs) (registers ++ inputs) path h.sort.0 k h.sort.1 h.sort.2 h.number),
)

-- ---- operators

module _ (names : Names) (signals : List Name) where
  abbrev pub Means : Expr → Truth → Type 0
  Means x t = IsBitExpr signals x × IsBitOf names signals x t

  pub not_means : (op : Op) (x a : Expr) (t u : Truth) → x ≡ e.Un op a → Means a t → (op ≡ o.Not) × (u ≡ negated t) → Means x u
  not_means op x a t u is m h =
      subst (λ z. Means z u) (sym (is ∙ ap (λ z. e.Un z a) h.0))
      (subst (Means (e.Un o.Not a)) (sym h.1) (inverse a m.0, bit-Not names signals a t m.1))

  two_means : (op : Op) (a b : Expr) (s t u : Truth) → Means a s → Means b t → IsJoinedBy op s t u → Means (e.Bin op a b) u
  two_means _ a b _ _ _ m n (ands s t) = (joined o.And a b refl m.0 n.0, bit-And names signals a b s t m.1 n.1)
  two_means _ a b _ _ _ m n (ors s t) = (joined o.Or a b refl m.0 n.0, bit-Or names signals a b s t m.1 n.1)
  two_means _ a b _ _ _ m n (xors s t) = (joined o.Xor a b refl m.0 n.0, bit-Xor names signals a b s t m.1 n.1)

  pub join_means : (op : Op) (x a b : Expr) (s t u : Truth) → x ≡ e.Bin op a b → Means a s → Means b t → IsJoinedBy op s t u → Means x u
  join_means op x a b s t u is m n j = subst (λ z. Means z u) (sym is) (two_means op a b s t u m n j)

pub if_some : {A : Type 0} (P Q : A → Type 0) → ((x : A) → P x → Q x) → (o : Option A) → IfSome o P → IfSome o Q
if_some P Q each None h = h
if_some P Q each (Some x) h = each x h

pub if_ok_some : {A E : Type 0} (P Q : A → Type 0) → ((x : A) → P x → Q x) → (r : Result (Option A) E) → IfOk r (λ o. IfSome o P) → IfOk r (λ o. IfSome o Q)
if_ok_some P Q each (Ok o) h = if_some P Q each o h
if_ok_some P Q each (Err e) h = tt
