-- Own widths and signs, from those of the parts.
use Rattle.std.proofs.Common.{◌≡◌, ℕ, ◌*◌, max, Bool, true, false, ◌&&◌, List, [], map, refl, sym, ◌∙◌, ap}
use Rattle.lv_source.specs.Names.{Declared, width_of, size}
use Rattle.lv_source.specs.Values.{widths}
use Rattle.lv_source.specs.Places.{bit_selects}
use Rattle.lv_source.specs.Meaning.{Reading, is_nil}
use Rattle.lv_const.specs.declared.constant.Const.{Const}
use Rattle.lv_const.specs.Constants.{constant_of}
use Rattle.lv_flat.specs.declared.expr.FlatSelect.{FlatSelect}
use Rattle.lv_lower_exprs.specs.Named.{name_width, bounds_by}
use Rattle.lv_lower_exprs.proofs.Naming.{named-width, named-signed}
use Rattle.lv_bits.specs.declared.op.Op.{Op}
use Rattle.lv_bits.specs.Values.{is_apart, keeps_width}
use Rattle.lv_source.specs.Values.{Meaning, unary, binary}
use Rattle.lv_flat.specs.declared.expr.FlatExpr.{FlatExpr}
use Rattle.lv_flat.specs.declared.expr.FlatExpr.TheVariants as e
use Rattle.lv_flat.specs.Signals.{Signals, signal_at, declared}
use Rattle.lv_flat.specs.declared.signal.Signal.{Signal}
use Rattle.lv_flat.specs.Judged.{meaning}
use Rattle.lv_lower_exprs.specs.Reached.{own_of_unary, own_of_binary}
use Rattle.lv_lower_exprs.proofs.Parts.{un-means, bin-means, cond-means, cast-means, div-means, rem-means, cat-means, rep-means, const-means, signal-means}

abbrev pub own_pair : Meaning → ℕ × Bool
own_pair m = (m.width, m.signed)

unary_pair : (op : Op) (m : Meaning) (k : Bool) → keeps_width op ≡ k → own_of_unary op m.width m.signed ≡ own_pair (unary op m)
unfolding own_of_unary
unary_pair op m true h = rw h refl
unary_pair op m false h = rw h refl

binary_pair : (op : Op) (m n : Meaning) (k a : Bool) → keeps_width op ≡ k → is_apart op ≡ a → own_of_binary op m.width m.signed n.width n.signed ≡ own_pair (binary op m n)
unfolding own_of_binary
binary_pair op m n true true h i = rw (h, i) refl
binary_pair op m n true false h i = rw (h, i) refl
binary_pair op m n false true h i = rw (h, i) refl
binary_pair op m n false false h i = rw (h, i) refl

pub two-parts : {w x : ℕ} {s t : Bool} → w ≡ x → s ≡ t → (let p : ℕ × Bool = (w, s) in p) ≡ (let q : ℕ × Bool = (x, t) in q)
two-parts {w} {x} {s} {t} h i = ap (λ n. let p : ℕ × Bool = (n, s) in p) h ∙ ap (λ u. let p : ℕ × Bool = (x, u) in p) i

module _ (S : Signals) where
  pub un-own : (x : FlatExpr) (op : Op) (a : FlatExpr) → x ≡ e.Un op a → own_of_unary op (meaning S a).width (meaning S a).signed ≡ own_pair (meaning S x)
  un-own x op a h = unary_pair op (meaning S a) (keeps_width op) refl ∙ ap own_pair (sym (un-means S x op a h))

  pub bin-own : (x : FlatExpr) (op : Op) (a b : FlatExpr) → x ≡ e.Bin op a b → own_of_binary op (meaning S a).width (meaning S a).signed (meaning S b).width (meaning S b).signed ≡ own_pair (meaning S x)
  bin-own x op a b h = binary_pair op (meaning S a) (meaning S b) (keeps_width op) (is_apart op) refl refl ∙ ap own_pair (sym (bin-means S x op a b h))

  pub cond-own : (x c a b : FlatExpr) → x ≡ e.Cond c a b → (max (meaning S a).width (meaning S b).width, (meaning S a).signed && (meaning S b).signed) ≡ own_pair (meaning S x)
  cond-own x c a b h = ap own_pair (sym (cond-means S x c a b h))

  pub cast-own : (x : FlatExpr) (signed : Bool) (a : FlatExpr) → x ≡ e.Cast signed a → ((meaning S a).width, signed) ≡ own_pair (meaning S x)
  cast-own x signed a h = ap own_pair (sym (cast-means S x signed a h))

  pub div-own : (x a b : FlatExpr) → x ≡ e.Div a b → (max (meaning S a).width (meaning S b).width, (meaning S a).signed && (meaning S b).signed) ≡ own_pair (meaning S x)
  div-own x a b h = ap own_pair (sym (div-means S x a b h))

  pub rem-own : (x a b : FlatExpr) → x ≡ e.Rem a b → (max (meaning S a).width (meaning S b).width, (meaning S a).signed && (meaning S b).signed) ≡ own_pair (meaning S x)
  rem-own x a b h = ap own_pair (sym (rem-means S x a b h))

  pub cat-own : (x : FlatExpr) (es : List FlatExpr) → x ≡ e.Cat es → (widths (map (meaning S) es), false) ≡ own_pair (meaning S x)
  cat-own x es h = ap own_pair (sym (cat-means S x es h))

  pub rep-own : (x : FlatExpr) (n : ℕ) (es : List FlatExpr) → x ≡ e.Rep n es → (n * widths (map (meaning S) es), false) ≡ own_pair (meaning S x)
  rep-own x n es h = ap own_pair (sym (rep-means S x n es h))

  pub const-own : (x : FlatExpr) (c : Const) (ss : List FlatSelect) → x ≡ e.Const c ss → (name_width S (width_of (constant_of [] c)) ss, is_nil ss && c.signed) ≡ own_pair (meaning S x)
  const-own x c ss h =
      let d : Declared = constant_of [] c in
      two-parts (sym (named-width S d ss)) (sym (named-signed S d ss)) ∙ sym (ap (λ (r : Reading). own_pair r.meaning) (const-means S x c ss h))

  pub signal-own : (x : FlatExpr) (k : ℕ) (ss : List FlatSelect) → x ≡ e.Signal k ss →
      (name_width S (width_of (signal_at S k)) (bit_selects (signal_at S k).array ss), is_nil (bit_selects (signal_at S k).array ss) && (signal_at S k).signed) ≡ own_pair (meaning S x)
  signal-own x k ss h =
      let d : Declared = signal_at S k in
      two-parts (sym (named-width S d ss)) (sym (named-signed S d ss)) ∙ sym (ap (λ (r : Reading). own_pair r.meaning) (signal-means S x k ss h))

-- the width of a signal's name, by its bounds
pub own-signal-wide : (S : Signals) (k : ℕ) (ss : List FlatSelect) (s : Signal) (of : ℕ) (rest all : List FlatSelect) → signal_at S k ≡ declared s → of ≡ size (record { left = s.left; right = s.right }) → rest ≡ bit_selects (bounds_by s.array) all → all ≡ ss →
    name_width S of rest ≡ name_width S (width_of (signal_at S k)) (bit_selects (signal_at S k).array ss)
own-signal-wide S k ss s of rest all d w r a =
    ap (λ n. name_width S n rest) w ∙ (ap (λ z. name_width S (size (record { left = s.left; right = s.right })) z) (r ∙ ap (bit_selects (bounds_by s.array)) a) ∙
    sym (ap (λ (x : Declared). name_width S (width_of x) (bit_selects x.array ss)) d))

pub own-signal-signed : (S : Signals) (k : ℕ) (ss : List FlatSelect) (s : Signal) (rest all : List FlatSelect) → signal_at S k ≡ declared s → rest ≡ bit_selects (bounds_by s.array) all → all ≡ ss →
    (is_nil rest && s.signed) ≡ (is_nil (bit_selects (signal_at S k).array ss) && (signal_at S k).signed)
own-signal-signed S k ss s rest all d r a =
    ap (λ (z : List FlatSelect). is_nil z && s.signed) (r ∙ ap (bit_selects (bounds_by s.array)) a) ∙ sym (ap (λ (x : Declared). is_nil (bit_selects x.array ss) && x.signed) d)

pub two-own : {A : Type 0} (f : ℕ × Bool → ℕ × Bool → A) {p q p' q' : ℕ × Bool} → p ≡ p' → q ≡ q' → f p q ≡ f p' q'
two-own f {p} {q} {p'} {q'} h i = ap (λ x. f x q) h ∙ ap (λ y. f p' y) i
