-- An operand whose divisors are looked at, at the width and the sign that reach them.
use Rattle.std.proofs.Common.{◌≡◌, ℕ, ◌≤◌, max, Bool, true, false, ◌&&◌, ◌||◌, List, [], ap, ◌∙◌, sym, subst, refl, arith, inl, inr, Ok, Err}
use Rattle.lv_bits.specs.declared.op.Op.{Op}
use Rattle.lv_bits.specs.Values.{keeps_width, is_apart}
use Rattle.lv_source.specs.Names.{Here}
use Rattle.lv_source.specs.Sites.{Walk}
use Rattle.lv_source.proofs.Bridges.{two}
use Rattle.lv_const.proofs.Numbers.{split}
use Rattle.lv_flat.specs.Signals.{Signals}
use Rattle.lv_resolve.specs.declared.error.ResolveError.{ResolveError}
use Rattle.lv_resolve.specs.declared.operand.Operand.{Operand}
use Rattle.lv_resolve.specs.declared.form.Divisor.{Divisor}
use Rattle.lv_resolve.specs.declared.form.Notes.{Notes}
use Rattle.lv_resolve.specs.declared.form.Form.{Form}
use Rattle.lv_resolve.specs.declared.form.Pair.{Pair}
use Rattle.lv_resolve.specs.Forms.{Sites, Told, Covered, AreDivisors, AreClosed, IsZeroed, HasOperand, HasForm, FormAnswer, HasPair, PairAnswer, settled_sites, first_sites, first_least, pair_sites, pair_least, both_sites, both_width, both_signed, wide}
use Rattle.lv_resolve.proofs.Covers.{covered-same, covered-at}
use Rattle.lv_resolve.proofs.Zeros.{zeroed-told}

pub moved-divisors : (here : Here) (n m : ℕ) (ds es : List Divisor) → n ≡ m → ds ≡ es → AreDivisors here.names m es → AreDivisors here.names n ds
moved-divisors here n m ds es a b h = subst (λ z. AreDivisors here.names z ds) (sym a) (subst (AreDivisors here.names m) (sym b) h)

pub moved-zeroed : (here : Here) (n m : ℕ) (s t : Bool) (ds es : List Divisor) (e : ResolveError) → n ≡ m → s ≡ t → ds ≡ es → IsZeroed here.names n s ds e →
    IsZeroed here.names m t es e
moved-zeroed here n m s t ds es e a b c h =
    subst (λ z. IsZeroed here.names m t z e) c (subst (λ z. IsZeroed here.names m z ds e) b (subst (λ z. IsZeroed here.names z s ds e) a h))

pub moved-closed : (here : Here) (n m : ℕ) (s t : Bool) (ds es : List Divisor) → n ≡ m → s ≡ t → ds ≡ es → AreClosed here.names n s ds (Ok tt) →
    AreClosed here.names m t es (Ok tt)
moved-closed here n m s t ds es a b c h =
    subst (λ z. AreClosed here.names m t z (Ok tt)) c (subst (λ z. AreClosed here.names m z ds (Ok tt)) b (subst (λ z. AreClosed here.names z s ds (Ok tt)) a h))

module _ (S : Signals) (here : Here) (sites : Sites) (w : Walk) (ok : Bool) (f : Form) (o : Operand) (n : Notes) (ds : List Divisor)
    (p : o ≡ f.operand) (q : n ≡ f.notes) (d : ds ≡ n.divisors) (h : HasForm S here sites (wide w) w ok f) where
  width-is : o.width ≡ wide w
  width-is = ap (λ z. z.width) p ∙ h.operand.width

  signed-is : o.signed ≡ w.shown.reading.meaning.signed
  signed-is = ap (λ z. z.signed) p ∙ h.operand.signed

  divisors-are : ds ≡ f.notes.divisors
  divisors-are = d ∙ ap (λ z. z.divisors) q

  pub waiting : AreDivisors here.names o.width ds
  waiting = moved-divisors here o.width (wide w) ds f.notes.divisors width-is divisors-are h.cover.divisors

  pub settled-wrong : (e : ResolveError) → AreClosed here.names o.width o.signed ds (Err e) → FormAnswer S here (settled_sites sites w) 0 w ok (Err e)
  settled-wrong e k = record {
    right = tt;
    wrong = record {
      told = λ W T. zeroed-told here sites (wide w) f.notes.clocks f.notes.divisors (wide w) w.shown.reading.meaning.signed e h.cover
          (moved-zeroed here o.width (wide w) o.signed w.shown.reading.meaning.signed ds f.notes.divisors e width-is signed-is divisors-are k.wrong);
    };
  }

  pub settled-right : (g : Form) → AreClosed here.names o.width o.signed ds (Ok tt) → g.operand ≡ o → g.notes.clocks ≡ n.clocks → g.notes.divisors ≡ [] →
      FormAnswer S here (settled_sites sites w) 0 w ok (Ok g)
  settled-right g k r s t = record {
    right = record {
      operand = subst (HasOperand S w ok) (sym (r ∙ p)) h.operand;
      cover = covered-same here (settled_sites sites w) (settled_sites sites w) 0 0 f.notes.clocks g.notes.clocks [] g.notes.divisors (λ W T. refl) (omega arith)
          (sym (s ∙ ap (λ z. z.clocks) q)) (sym t)
          (covered-at here sites (wide w) 0 (wide w) w.shown.reading.meaning.signed f.notes.clocks f.notes.divisors h.cover
          (moved-closed here o.width (wide w) o.signed w.shown.reading.meaning.signed ds f.notes.divisors width-is signed-is divisors-are k).right);
    };
    wrong = tt;
  }

-- ---- the operands of a comparison

kept-sites : (op : Op) (a b : Walk) → keeps_width op || is_apart op ≡ true → (W : ℕ) (T : Bool) → first_sites op a b W T ≡ pair_sites op a b W T
kept-sites op a b h W T = rw h refl

kept-least : (op : Op) (a b : Walk) → keeps_width op || is_apart op ≡ true → first_least op a b ≤ pair_least op a b
kept-least op a b h = elim (split (keeps_width op)) [
  | inl k ↦ elim (split (is_apart op)) [
    | inl j ↦ rw (k, j) (omega arith)
    | inr j ↦ rw (k, j) (omega arith)
  ]
  | inr k ↦ elim (split (is_apart op)) [
    | inl j ↦ rw (k, j) (omega arith)
    | inr j ↦ let z : false ≡ true = rw (k, j) at h in cc
  ]
]

either-false : (op : Op) → keeps_width op ≡ false → is_apart op ≡ false → keeps_width op || is_apart op ≡ false
either-false op k j = rw (k, j) refl

or-first : (a b : Bool) → a || b ≡ false → a ≡ false
or-first true b h = h
or-first false b h = refl

or-second : (a b : Bool) → a || b ≡ false → b ≡ false
or-second true b h = cc
or-second false b h = h

pub neither-first : (op : Op) → keeps_width op || is_apart op ≡ false → keeps_width op ≡ false
neither-first op h = or-first (keeps_width op) (is_apart op) h

pub neither-second : (op : Op) → keeps_width op || is_apart op ≡ false → is_apart op ≡ false
neither-second op h = or-second (keeps_width op) (is_apart op) h

module _ (S : Signals) (here : Here) (op : Op) (a b : Walk) (oka okb : Bool) (f : Pair) (h : HasPair S here (first_sites op a b) (first_least op a b) a b oka okb f) where
  pub compared-kept : keeps_width op || is_apart op ≡ true → PairAnswer S here (pair_sites op a b) (pair_least op a b) a b oka okb (Ok f)
  compared-kept k = record {
    right = record {
      left = h.left;
      right = h.right;
      cover = covered-same here _ _ _ _ _ _ _ _ (kept-sites op a b k) (kept-least op a b k) refl refl h.cover;
    };
    wrong = tt;
  }

  module _ (l r : Operand) (n : Notes) (ds : List Divisor) (W : ℕ) (T : Bool) (k : keeps_width op ≡ false) (j : is_apart op ≡ false) (p : l ≡ f.left) (q : r ≡ f.right)
      (i : n ≡ f.notes) (d : ds ≡ n.divisors) (u : W ≡ max l.width r.width) (v : T ≡ (l.signed && r.signed)) where
    cover : Covered here (both_sites a b) (both_width a b) f.notes.clocks f.notes.divisors
    cover = covered-same here (first_sites op a b) (both_sites a b) (first_least op a b) (both_width a b) f.notes.clocks f.notes.clocks f.notes.divisors
        f.notes.divisors (λ V U. rw (k, j) refl) (rw j (omega arith)) refl refl h.cover

    width-both : W ≡ both_width a b
    width-both = u ∙ two (λ (x y : ℕ). max x y) _ _ _ _ (ap (λ z. z.width) p ∙ h.left.width) (ap (λ z. z.width) q ∙ h.right.width)

    signed-both : T ≡ both_signed a b
    signed-both = v ∙ two (λ (x y : Bool). x && y) _ _ _ _ (ap (λ z. z.signed) p ∙ h.left.signed) (ap (λ z. z.signed) q ∙ h.right.signed)

    divisors-both : ds ≡ f.notes.divisors
    divisors-both = d ∙ ap (λ z. z.divisors) i

    pub waiting-both : AreDivisors here.names W ds
    waiting-both = moved-divisors here W (both_width a b) ds f.notes.divisors width-both divisors-both cover.divisors

    pair-are : (V : ℕ) (U : Bool) → both_sites a b (both_width a b) (both_signed a b) ≡ pair_sites op a b V U
    pair-are V U = rw (either-false op k j) refl

    pub compared-wrong : (e : ResolveError) → AreClosed here.names W T ds (Err e) → PairAnswer S here (pair_sites op a b) (pair_least op a b) a b oka okb (Err e)
    compared-wrong e c = record {
      right = tt;
      wrong = record {
        told = λ V U. subst (λ ss. Told here ss e) (pair-are V U)
            (zeroed-told here (both_sites a b) (both_width a b) f.notes.clocks f.notes.divisors (both_width a b) (both_signed a b) e cover
            (moved-zeroed here W (both_width a b) T (both_signed a b) ds f.notes.divisors e width-both signed-both divisors-both c.wrong));
      };
    }

    pub compared-right : (g : Pair) → AreClosed here.names W T ds (Ok tt) → g.left ≡ l → g.right ≡ r → g.notes.clocks ≡ n.clocks → g.notes.divisors ≡ [] →
        PairAnswer S here (pair_sites op a b) (pair_least op a b) a b oka okb (Ok g)
    compared-right g c x y s t = record {
      right = record {
        left = subst (HasOperand S a oka) (sym (x ∙ p)) h.left;
        right = subst (HasOperand S b okb) (sym (y ∙ q)) h.right;
        cover = covered-same here (λ V U. both_sites a b (both_width a b) (both_signed a b)) (pair_sites op a b) 0 (pair_least op a b) f.notes.clocks g.notes.clocks [] g.notes.divisors
            pair-are (omega arith) (sym (s ∙ ap (λ z. z.clocks) i)) (sym t)
            (covered-at here (both_sites a b) (both_width a b) 0 (both_width a b) (both_signed a b) f.notes.clocks f.notes.divisors cover
            (moved-closed here W (both_width a b) T (both_signed a b) ds f.notes.divisors width-both signed-both divisors-both c).right);
      };
      wrong = tt;
    }
