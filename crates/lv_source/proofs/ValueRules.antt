-- The value at a width and a sign, by the kind of the operator.
use Rattle.std.proofs.Common.{◌≡◌, ◌≢◌, ℕ, ◌*◌, ◌%◌, ◌^◌, Bool, true, false, List, map, ap, ◌∙◌, arith}
use Rattle.lv_bits.specs.declared.op.Op.{Op}
use Rattle.lv_bits.specs.Values.{extended, is_apart, keeps_width, unary_value, binary_value}
use Rattle.lv_ast.specs.declared.expr.Literal.{Literal}
use Rattle.lv_ast.specs.declared.expr.Expr.{Expr}
use Rattle.lv_ast.specs.declared.expr.Expr.TheVariants as e
use Rattle.lv_source.specs.Names.{Names, Valuation}
use Rattle.lv_source.specs.Values.{Meaning, own_value, size_of, unary, binary, shift, arithmetic, logical, compared, quotient, remainder, joined, repeated, widths, nowhere}
use Rattle.lv_source.specs.Meaning.{Reading, meaning, meanings, read_expr}
use Rattle.lv_source.proofs.ReadingRules.{read-Lit, read-Un, read-Bin, read-Div, read-Rem, read-Cond, read-Cat, read-Rep, read-Cast}

abbrev at : ℕ → Bool → Valuation → Reading → ℕ
at W T v r = r.meaning.value W T v

module _ (names : Names) (W : ℕ) (T : Bool) (v : Valuation) where
  unary_kept : (op : Op) (m : Meaning) → keeps_width op ≡ true → (unary op m).value W T v ≡ unary_value op W (m.value W T v)
  unary_kept op m h = rw h

  unary_own : (op : Op) (m : Meaning) → keeps_width op ≡ false → (unary op m).value W T v ≡ extended T 1 W (unary_value op m.width (own_value m v))
  unary_own op m h = rw h

  binary_shift : (op : Op) (m n : Meaning) → keeps_width op ≡ true → is_apart op ≡ true → (binary op m n).value W T v ≡ (shift op m n).value W T v
  binary_shift op m n h k = rw (h, k)

  binary_arithmetic : (op : Op) (m n : Meaning) → keeps_width op ≡ true → is_apart op ≡ false → (binary op m n).value W T v ≡ (arithmetic op m n).value W T v
  binary_arithmetic op m n h k = rw (h, k)

  binary_logical : (op : Op) (m n : Meaning) → keeps_width op ≡ false → is_apart op ≡ true → (binary op m n).value W T v ≡ (logical op m n).value W T v
  binary_logical op m n h k = rw (h, k)

  binary_compared : (op : Op) (m n : Meaning) → keeps_width op ≡ false → is_apart op ≡ false → (binary op m n).value W T v ≡ (compared op m n).value W T v
  binary_compared op m n h k = rw (h, k)

  pub value-Lit : (l : Literal) → (read_expr names (e.Lit l)).meaning.value W T v ≡ extended T (size_of l.size) W (l.value % 2 ^ size_of l.size)
  value-Lit l = ap (at W T v) (read-Lit names l)

  pub value-Un_kept : (op : Op) (a : Expr) → keeps_width op ≡ true →
      (read_expr names (e.Un op a)).meaning.value W T v ≡ unary_value op W ((read_expr names a).meaning.value W T v)
  value-Un_kept op a h = ap (at W T v) (read-Un names op a) ∙ unary_kept op (meaning names a) h

  pub value-Un_own : (op : Op) (a : Expr) → keeps_width op ≡ false →
      (read_expr names (e.Un op a)).meaning.value W T v ≡ extended T 1 W (unary_value op (read_expr names a).meaning.width (own_value (read_expr names a).meaning v))
  value-Un_own op a h = ap (at W T v) (read-Un names op a) ∙ unary_own op (meaning names a) h

  pub value-Bin_shift : (op : Op) (a b : Expr) → keeps_width op ≡ true → is_apart op ≡ true →
      (read_expr names (e.Bin op a b)).meaning.value W T v ≡ binary_value op T W ((read_expr names a).meaning.value W T v) (own_value (read_expr names b).meaning v)
  value-Bin_shift op a b h k = ap (at W T v) (read-Bin names op a b) ∙ binary_shift op (meaning names a) (meaning names b) h k

  pub value-Bin_arithmetic : (op : Op) (a b : Expr) → keeps_width op ≡ true → is_apart op ≡ false →
      (read_expr names (e.Bin op a b)).meaning.value W T v ≡ binary_value op T W ((read_expr names a).meaning.value W T v) ((read_expr names b).meaning.value W T v)
  value-Bin_arithmetic op a b h k = ap (at W T v) (read-Bin names op a b) ∙ binary_arithmetic op (meaning names a) (meaning names b) h k

  pub value-Bin_logical : (op : Op) (a b : Expr) → keeps_width op ≡ false → is_apart op ≡ true →
      (read_expr names (e.Bin op a b)).meaning.value W T v ≡
      extended T 1 W (binary_value op false (read_expr names a).meaning.width (own_value (read_expr names a).meaning v) (own_value (read_expr names b).meaning v))
  value-Bin_logical op a b h k = ap (at W T v) (read-Bin names op a b) ∙ binary_logical op (meaning names a) (meaning names b) h k

  pub value-Bin_compared : (op : Op) (a b : Expr) → keeps_width op ≡ false → is_apart op ≡ false →
      (read_expr names (e.Bin op a b)).meaning.value W T v ≡ (compared op (read_expr names a).meaning (read_expr names b).meaning).value W T v
  value-Bin_compared op a b h k = ap (at W T v) (read-Bin names op a b) ∙ binary_compared op (meaning names a) (meaning names b) h k

  pub value-Div : (a b : Expr) →
      (read_expr names (e.Div a b)).meaning.value W T v ≡ quotient T W ((read_expr names a).meaning.value W T v) ((read_expr names b).meaning.value W T v)
  value-Div a b = ap (at W T v) (read-Div names a b)

  pub value-Rem : (a b : Expr) →
      (read_expr names (e.Rem a b)).meaning.value W T v ≡ remainder T W ((read_expr names a).meaning.value W T v) ((read_expr names b).meaning.value W T v)
  value-Rem a b = ap (at W T v) (read-Rem names a b)

  pub value-Cond_else : (c a b : Expr) → own_value (read_expr names c).meaning v ≡ 0 →
      (read_expr names (e.Cond c a b)).meaning.value W T v ≡ (read_expr names b).meaning.value W T v
  value-Cond_else c a b h = ap (at W T v) (read-Cond names c a b) ∙ rw h

  pub value-Cond_then : (c a b : Expr) → own_value (read_expr names c).meaning v ≢ 0 →
      (read_expr names (e.Cond c a b)).meaning.value W T v ≡ (read_expr names a).meaning.value W T v
  value-Cond_then c a b h = ap (at W T v) (read-Cond names c a b) ∙ grind (arith, h)

  pub value-Cat : (es : List Expr) → (read_expr names (e.Cat es)).meaning.value W T v ≡ extended T (widths (meanings (map (read_expr names) es))) W (joined v (meanings (map (read_expr names) es)))
  value-Cat es = ap (at W T v) (read-Cat names es)

  pub value-Rep : (n : Expr) (es : List Expr) →
      (read_expr names (e.Rep n es)).meaning.value W T v ≡
      extended T (own_value (read_expr names n).meaning nowhere * widths (meanings (map (read_expr names) es))) W
      (repeated (own_value (read_expr names n).meaning nowhere) (widths (meanings (map (read_expr names) es))) (joined v (meanings (map (read_expr names) es))))
  value-Rep n es = ap (at W T v) (read-Rep names n es)

  pub value-Cast : (signed : Bool) (a : Expr) →
      (read_expr names (e.Cast signed a)).meaning.value W T v ≡ extended T (read_expr names a).meaning.width W (own_value (read_expr names a).meaning v)
  value-Cast signed a = ap (at W T v) (read-Cast names signed a)

pub ruleset value_rules = (
  value-Lit,
  value-Un_kept,
  value-Un_own,
  value-Bin_shift,
  value-Bin_arithmetic,
  value-Bin_logical,
  value-Bin_compared,
  value-Div,
  value-Rem,
  value-Cond_else,
  value-Cond_then,
  value-Cat,
  value-Rep,
  value-Cast,
)
