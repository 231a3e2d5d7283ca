-- The width and sign that reach an operand, and the value from those of the operands.
use Rattle.std.proofs.Common.{◌≡◌, ℕ, ◌≤◌, ◌==◌, max, Bool, true, false, refl, sym, ◌∙◌, ap, arith, IsTrue, IsFalse}
use Rattle.std.specs.Prelude.{if◌then◌else◌}
use Rattle.lv_bits.specs.declared.op.Op.{Op}
use Rattle.lv_bits.specs.Values.{is_apart, keeps_width, unary_value, binary_value, extended}
use Rattle.lv_source.specs.Names.{Valuation}
use Rattle.lv_source.specs.Values.{Meaning, unary, binary}
use Rattle.lv_flat.specs.declared.expr.FlatExpr.{FlatExpr}
use Rattle.lv_flat.specs.declared.expr.FlatExpr.TheVariants as e
use Rattle.lv_flat.specs.Signals.{Signals}
use Rattle.lv_flat.specs.Judged.{meaning}
use Rattle.lv_lower_exprs.specs.Reached.{Reach, reached, reached_by_one, at_width}
use Rattle.lv_lower_exprs.proofs.Parts.{un-means, bin-means, cond-means, cast-means}

-- the operand's width is reached, and an operator that keeps its width has it
pub record Fits1 (op : Op) (W : ℕ) (w : ℕ) (r : ℕ × Bool) : Type 0 where
  pub wide : w ≤ r.0
  pub most : r.0 ≤ 128
  pub same : IsTrue (keeps_width op) → r.0 ≡ W

fits1 : (op : Op) (W : ℕ) (T : Bool) (m : Meaning) (k : Bool) → keeps_width op ≡ k → (unary op m).width ≤ W → W ≤ 128 → m.width ≤ 128 → Fits1 op W m.width (reached_by_one op W T m.width m.signed)
unfolding reached_by_one
fits1 op W T m true h i j l = record { wide = rw h (rw h at i); most = rw h j; same = λ t. rw h refl }
fits1 op W T m false h i j l = record { wide = rw h (omega arith); most = rw h l; same = λ t. cc }

value1 : (op : Op) (W : ℕ) (T : Bool) (v : Valuation) (m : Meaning) (k : Bool) → keeps_width op ≡ k →
    (let r : ℕ × Bool = reached_by_one op W T m.width m.signed in at_width op T W (unary_value op r.0 (m.value r.0 r.1 v)) ≡ (unary op m).value W T v)
unfolding reached_by_one
value1 op W T v m true h = rw h refl
value1 op W T v m false h = rw h refl

pub record Fits2 (op : Op) (W : ℕ) (w x : ℕ) (r : Reach) : Type 0 where
  pub left : w ≤ r.left
  pub left_most : r.left ≤ 128
  pub right : x ≤ r.right
  pub right_most : r.right ≤ 128
  pub both : IsFalse (is_apart op) → r.left ≡ r.right
  pub same : IsTrue (keeps_width op) → r.left ≡ W

fits2 : (op : Op) (W : ℕ) (T : Bool) (m n : Meaning) (k a : Bool) → keeps_width op ≡ k → is_apart op ≡ a → (binary op m n).width ≤ W → W ≤ 128 → m.width ≤ 128 → n.width ≤ 128 →
    Fits2 op W m.width n.width (reached op W T m.width m.signed n.width n.signed)
unfolding reached
fits2 op W T m n true true h i j l p q = record { left = rw (h, i) (rw (h, i) at j); left_most = rw (h, i) l; right = rw (h, i) (omega arith); right_most = rw (h, i) q; both = λ t. cc; same = λ t. rw (h, i) refl }
fits2 op W T m n true false h i j l p q =
    let g : max m.width n.width ≤ W = rw (h, i) at j in
    record { left = rw (h, i) (omega arith); left_most = rw (h, i) l; right = rw (h, i) (omega arith); right_most = rw (h, i) l; both = λ t. rw (h, i) refl; same = λ t. rw (h, i) refl }
fits2 op W T m n false true h i j l p q = record { left = rw (h, i) (omega arith); left_most = rw (h, i) p; right = rw (h, i) (omega arith); right_most = rw (h, i) q; both = λ t. cc; same = λ t. cc }
fits2 op W T m n false false h i j l p q = record { left = rw (h, i) (omega arith); left_most = rw (h, i) (omega arith); right = rw (h, i) (omega arith); right_most = rw (h, i) (omega arith); both = λ t. rw (h, i) refl; same = λ t. cc }

value2 : (op : Op) (W : ℕ) (T : Bool) (v : Valuation) (m n : Meaning) (k a : Bool) → keeps_width op ≡ k → is_apart op ≡ a →
    (let r : Reach = reached op W T m.width m.signed n.width n.signed in at_width op T W (binary_value op r.signed r.left (m.value r.left r.left_signed v) (n.value r.right r.right_signed v)) ≡ (binary op m n).value W T v)
unfolding reached
value2 op W T v m n true true h i = rw (h, i) refl
value2 op W T v m n true false h i = rw (h, i) refl
value2 op W T v m n false true h i = rw (h, i) refl
value2 op W T v m n false false h i = rw (h, i) refl

module _ (S : Signals) (x : FlatExpr) (W : ℕ) (T : Bool) where
  pub un-fits : (op : Op) (a : FlatExpr) → x ≡ e.Un op a → (meaning S x).width ≤ W → W ≤ 128 → (meaning S a).width ≤ 128 → Fits1 op W (meaning S a).width (reached_by_one op W T (meaning S a).width (meaning S a).signed)
  un-fits op a h i j l = fits1 op W T (meaning S a) (keeps_width op) refl (let same = ap (λ (m : Meaning). m.width) (un-means S x op a h) in omega arith) j l

  pub un-value : (op : Op) (a : FlatExpr) → x ≡ e.Un op a → (v : Valuation) →
      (let r : ℕ × Bool = reached_by_one op W T (meaning S a).width (meaning S a).signed in at_width op T W (unary_value op r.0 ((meaning S a).value r.0 r.1 v)) ≡ (meaning S x).value W T v)
  un-value op a h v = value1 op W T v (meaning S a) (keeps_width op) refl ∙ ap (λ (m : Meaning). m.value W T v) (sym (un-means S x op a h))

  pub bin-fits : (op : Op) (a b : FlatExpr) → x ≡ e.Bin op a b → (meaning S x).width ≤ W → W ≤ 128 → (meaning S a).width ≤ 128 → (meaning S b).width ≤ 128 →
      Fits2 op W (meaning S a).width (meaning S b).width (reached op W T (meaning S a).width (meaning S a).signed (meaning S b).width (meaning S b).signed)
  bin-fits op a b h i j l p = fits2 op W T (meaning S a) (meaning S b) (keeps_width op) (is_apart op) refl refl (let same = ap (λ (m : Meaning). m.width) (bin-means S x op a b h) in omega arith) j l p

  pub bin-value : (op : Op) (a b : FlatExpr) → x ≡ e.Bin op a b → (v : Valuation) →
      (let r : Reach = reached op W T (meaning S a).width (meaning S a).signed (meaning S b).width (meaning S b).signed in
      at_width op T W (binary_value op r.signed r.left ((meaning S a).value r.left r.left_signed v) ((meaning S b).value r.right r.right_signed v)) ≡ (meaning S x).value W T v)
  bin-value op a b h v = value2 op W T v (meaning S a) (meaning S b) (keeps_width op) (is_apart op) refl refl ∙ ap (λ (m : Meaning). m.value W T v) (sym (bin-means S x op a b h))

  pub un-close : (op : Op) (a : FlatExpr) → x ≡ e.Un op a → (n : ℕ) (z : FlatExpr) (p : ℕ × Bool) → z ≡ a → p ≡ reached_by_one op W T (meaning S a).width (meaning S a).signed → n ≡ p.0 → (v : Valuation) →
      at_width op T W (unary_value op n ((meaning S z).value p.0 p.1 v)) ≡ (meaning S x).value W T v
  un-close op a h n z p i j k v =
      ap (λ (m : ℕ). at_width op T W (unary_value op m ((meaning S z).value p.0 p.1 v))) k ∙ (ap (λ (y : FlatExpr). at_width op T W (unary_value op p.0 ((meaning S y).value p.0 p.1 v))) i ∙
      (ap (λ (q : ℕ × Bool). at_width op T W (unary_value op q.0 ((meaning S a).value q.0 q.1 v))) j ∙ un-value op a h v))

  pub bin-close : (op : Op) (a b : FlatExpr) → x ≡ e.Bin op a b → (n : ℕ) (y z : FlatExpr) (l : ℕ) (ls : Bool) (r : ℕ) (rs s : Bool) → y ≡ a → z ≡ b →
      (let q : Reach = reached op W T (meaning S a).width (meaning S a).signed (meaning S b).width (meaning S b).signed in
      l ≡ q.left → ls ≡ q.left_signed → r ≡ q.right → rs ≡ q.right_signed → s ≡ q.signed → n ≡ l → (v : Valuation) →
      at_width op T W (binary_value op s n ((meaning S y).value l ls v) ((meaning S z).value r rs v)) ≡ (meaning S x).value W T v)
  bin-close op a b h n y z l ls r rs s i j k m o p t u v =
      let q : Reach = reached op W T (meaning S a).width (meaning S a).signed (meaning S b).width (meaning S b).signed in
      ap (λ (g : ℕ). at_width op T W (binary_value op s g ((meaning S y).value l ls v) ((meaning S z).value r rs v))) u ∙
      (ap (λ (g : FlatExpr). at_width op T W (binary_value op s l ((meaning S g).value l ls v) ((meaning S z).value r rs v))) i ∙
      (ap (λ (g : FlatExpr). at_width op T W (binary_value op s l ((meaning S a).value l ls v) ((meaning S g).value r rs v))) j ∙
      (ap (λ (g : ℕ). at_width op T W (binary_value op s g ((meaning S a).value g ls v) ((meaning S b).value r rs v))) k ∙
      (ap (λ (g : Bool). at_width op T W (binary_value op s q.left ((meaning S a).value q.left g v) ((meaning S b).value r rs v))) m ∙
      (ap (λ (g : ℕ). at_width op T W (binary_value op s q.left ((meaning S a).value q.left q.left_signed v) ((meaning S b).value g rs v))) o ∙
      (ap (λ (g : Bool). at_width op T W (binary_value op s q.left ((meaning S a).value q.left q.left_signed v) ((meaning S b).value q.right g v))) p ∙
      (ap (λ (g : Bool). at_width op T W (binary_value op g q.left ((meaning S a).value q.left q.left_signed v) ((meaning S b).value q.right q.right_signed v))) t ∙ bin-value op a b h v)))))))

  pub cond-close : (c a b : FlatExpr) → x ≡ e.Cond c a b → (i j k : FlatExpr) (p : ℕ × Bool) → i ≡ c → j ≡ a → k ≡ b → p ≡ ((meaning S c).width, (meaning S c).signed) → (v : Valuation) →
      (if (meaning S i).value p.0 p.1 v == 0 then (meaning S k).value W T v else (meaning S j).value W T v) ≡ (meaning S x).value W T v
  cond-close c a b h i j k p f g l o v =
      ap (λ (y : FlatExpr). if (meaning S y).value p.0 p.1 v == 0 then (meaning S k).value W T v else (meaning S j).value W T v) f ∙
      (ap (λ (y : FlatExpr). if (meaning S c).value p.0 p.1 v == 0 then (meaning S k).value W T v else (meaning S y).value W T v) g ∙
      (ap (λ (y : FlatExpr). if (meaning S c).value p.0 p.1 v == 0 then (meaning S y).value W T v else (meaning S a).value W T v) l ∙
      (ap (λ (q : ℕ × Bool). if (meaning S c).value q.0 q.1 v == 0 then (meaning S b).value W T v else (meaning S a).value W T v) o ∙ ap (λ (m : Meaning). m.value W T v) (sym (cond-means S x c a b h)))))

  pub cast-close : (signed : Bool) (a : FlatExpr) → x ≡ e.Cast signed a → (n : ℕ) (z : FlatExpr) (p : ℕ × Bool) → z ≡ a → p ≡ ((meaning S a).width, (meaning S a).signed) → n ≡ p.0 → (v : Valuation) →
      extended T n W ((meaning S z).value p.0 p.1 v) ≡ (meaning S x).value W T v
  cast-close signed a h n z p i j k v =
      ap (λ (m : ℕ). extended T m W ((meaning S z).value p.0 p.1 v)) k ∙ (ap (λ (y : FlatExpr). extended T p.0 W ((meaning S y).value p.0 p.1 v)) i ∙
      (ap (λ (q : ℕ × Bool). extended T q.0 W ((meaning S a).value q.0 q.1 v)) j ∙ ap (λ (m : Meaning). m.value W T v) (sym (cast-means S x signed a h))))
