-- The labels of a `case`: their width, their numbers, and whether they leave no value out.
use Rattle.std.proofs.Common.{◌≡◌, ℕ, zero, suc, ◌+◌, ◌%◌, ◌^◌, ◌<◌, ◌≤◌, max, Bool, true, false, not, ◌&&◌, ◌||◌, List, [], ◌∷◌, ◌++◌, map, length, drop, get_or, bit_or, refl, sym, ◌∙◌, ap, subst, arith, add-one, drop-cons, Some, None, inl, inr}
use Rattle.std.specs.Prelude.{flat_map, nat_le, if◌then◌else◌}
use Rattle.std.specs.List.{list_all, list_any, range_with_len}
use Rattle.std.proofs.lemmas.Bool.{cases_lt}
use Rattle.std.proofs.lemmas.Bool.Decides.{nat_tests}
use Rattle.std.proofs.lemmas.List.Elements.{All-nil, All-cons}
use Rattle.lv_bits.specs.declared.op.Op.{Op}
use Rattle.lv_bits.specs.Values.{extended, keeps_width}
use Rattle.lv_ast.specs.declared.expr.Literal.{Literal}
use Rattle.lv_source.specs.Values.{size_of, nowhere}
use Rattle.lv_source.specs.Meaning.{Reading}
use Rattle.lv_source.specs.Effect.{Label, Width, common_of, free_of, fits_label}
use Rattle.lv_source.specs.Flow.{is_full_of}
use Rattle.lv_source.proofs.Tests.{and-left, and-right}
use Rattle.lv_source.proofs.Summaries.{any-join, all-join}
use Rattle.lv_const.specs.declared.constant.Const.{Const}
use Rattle.lv_flat.specs.declared.expr.FlatExpr.{FlatExpr}
use Rattle.lv_flat.specs.declared.expr.FlatExpr.TheVariants as e
use Rattle.lv_flat.specs.declared.expr.FlatSelect.{FlatSelect}
use Rattle.lv_flat.specs.declared.stmt.FlatArm.{FlatArm}
use Rattle.lv_flat.specs.Signals.{Signals}
use Rattle.lv_flat.specs.Judged.{Judged, judge, reading, meaning, is_good}
use Rattle.lv_flat.specs.Executing.{label_of}
use Rattle.lv_flat.specs.Good.{good_stmt}
use Rattle.lv_flat.proofs.Judgements.{judge-Lit, judge-Const, judge-Signal, judge-Un, judge-Bin, judge-Div, judge-Rem, judge-Cond, judge-Cat, judge-Rep, judge-Cast}
use Rattle.lv_extents.specs.Blocks.{are_good_arms}
use Rattle.lv_paths.specs.Fits.{common_more, labels_of, all_labels, IsFixedLabel, AreFixedLabels, AreFixedArms, fit_of, fits_of, is_fit}

-- ---- the width

pub common-is : (x : Reading) (ls : List Label) → common_of x ls ≡ common_more ls (record { width = x.meaning.width; signed = x.meaning.signed })
common-is x [] = refl
common-is x (l ∷ ls) = ap (λ (c : Width). let r : Width = record { width = max l.reading.meaning.width c.width; signed = l.reading.meaning.signed && c.signed } in r) (common-is x ls)

common-append : (ks ls : List Label) (c : Width) → common_more (ks ++ ls) c ≡ common_more ks (common_more ls c)
common-append [] ls c = refl
common-append (k ∷ ks) ls c = ap (λ (c : Width). let r : Width = record { width = max k.reading.meaning.width c.width; signed = k.reading.meaning.signed && c.signed } in r) (common-append ks ls c)

rest-within : (ls : List Label) (c : Width) → c.width ≤ (common_more ls c).width
rest-within [] c = omega arith
rest-within (l ∷ ls) c = let h = rest-within ls c in omega (arith, h)

-- the selector is no wider
pub selector-within : (x : Reading) (ls : List Label) (c : Width) → c ≡ common_of x ls → x.meaning.width ≤ c.width
selector-within x ls c e =
    let h = rest-within ls (record { width = x.meaning.width; signed = x.meaning.signed }) in
    let same : c.width ≡ (common_more ls (record { width = x.meaning.width; signed = x.meaning.signed })).width = ap (λ (d : Width). d.width) (e ∙ common-is x ls) in
    omega (arith, h, same)

pub none-behind : {A : Type 0} (xs : List A) (n : ℕ) → length xs ≤ n → drop n xs ≡ []
none-behind [] zero h = refl
none-behind [] (suc n) h = refl
none-behind (x ∷ xs) zero h = absurd (omega arith)
none-behind (x ∷ xs) (suc n) h = none-behind xs n (omega arith)

few-is : (n : ℕ) → n ≤ 8 → nat_le n 8 ≡ true
few-is n h = grind (arith, nat_tests)

pub few-of : (n : ℕ) → nat_le n 8 ≡ true → n ≤ 8
few-of n h = grind (arith, nat_tests)

module _ (S : Signals) where
  labels-good : (labels : List FlatExpr) (i : ℕ) (d : FlatExpr) → i < length labels → list_all (is_good S) labels ≡ true → is_good S (get_or labels i d) ≡ true
  labels-good [] i d lt h = absurd (omega arith)
  labels-good (x ∷ xs) zero d lt h = and-left (is_good S x) (list_all (is_good S) xs) h
  labels-good (x ∷ xs) (suc i) d lt h = labels-good xs i d (omega arith) (and-right (is_good S x) (list_all (is_good S) xs) h)

  pub label-good : (labels : List FlatExpr) (i : ℕ) (x : FlatExpr) → i < length labels → x ≡ get_or labels i x → list_all (is_good S) labels ≡ true → is_good S x ≡ true
  label-good labels i x lt e h = subst (λ (z : FlatExpr). is_good S z ≡ true) (sym e) (labels-good labels i x lt h)

  common-next : (labels : List FlatExpr) (i : ℕ) (x : FlatExpr) (c : Width) → i < length labels → x ≡ get_or labels i x →
      common_more (map (label_of S) (drop i labels)) c ≡
      (let d : Width = common_more (map (label_of S) (drop (i + 1) labels)) c in record { width = max (meaning S x).width d.width; signed = (meaning S x).signed && d.signed })
  common-next labels i x c lt e =
      let d : drop i labels ≡ x ∷ drop (i + 1) labels = rw add-one (drop-cons labels i x lt ∙ ap (λ (z : FlatExpr). z ∷ drop (suc i) labels) (sym e)) in
      ap (λ (z : List FlatExpr). common_more (map (label_of S) z) c) d

  common-arm : (arms : List FlatArm) (i : ℕ) (a : FlatArm) (c : Width) → i < length arms → a ≡ get_or arms i a →
      common_more (flat_map (labels_of S) (drop i arms)) c ≡ common_more (labels_of S a) (common_more (flat_map (labels_of S) (drop (i + 1) arms)) c)
  common-arm arms i a c lt e =
      let d : drop i arms ≡ a ∷ drop (i + 1) arms = rw add-one (drop-cons arms i a lt ∙ ap (λ (z : FlatArm). z ∷ drop (suc i) arms) (sym e)) in
      ap (λ (z : List FlatArm). common_more (flat_map (labels_of S) z) c) d ∙ common-append (labels_of S a) (flat_map (labels_of S) (drop (i + 1) arms)) c

  -- with one label more before
  pub common-step : (labels : List FlatExpr) (i j : ℕ) (x : FlatExpr) (c rest : Width) (of : ℕ × Bool) (n : ℕ) (u : Bool) → i < length labels → x ≡ get_or labels i x → j ≡ i + 1 →
      of ≡ ((meaning S x).width, (meaning S x).signed) → c ≡ common_more (map (label_of S) (drop j labels)) rest → n ≡ max of.0 c.width → u ≡ (of.1 && c.signed) →
      (let r : Width = record { width = n; signed = u } in r) ≡ common_more (map (label_of S) (drop i labels)) rest
  common-step labels i j x c rest of n u lt e k o h p q =
      let d : Width = common_more (map (label_of S) (drop (i + 1) labels)) rest in
      let m : c ≡ d = h ∙ ap (λ z. common_more (map (label_of S) (drop z labels)) rest) k in
      ap (λ z. let r : Width = record { width = z; signed = u } in r) (p ∙ (ap (λ (z : ℕ × Bool). max z.0 c.width) o ∙ ap (λ (z : Width). max (meaning S x).width z.width) m)) ∙
      (ap (λ z. let r : Width = record { width = max (meaning S x).width d.width; signed = z } in r) (q ∙ (ap (λ (z : ℕ × Bool). z.1 && c.signed) o ∙
      ap (λ (z : Width). (meaning S x).signed && z.signed) m)) ∙
      sym (common-next labels i x rest lt e))

  -- with one arm more before
  pub common-arm-step : (X : Reading) (arms : List FlatArm) (i j : ℕ) (a : FlatArm) (c d : Width) → i < length arms → a ≡ get_or arms i a → j ≡ i + 1 →
      c ≡ common_of X (flat_map (labels_of S) (drop j arms)) → d ≡ common_more (labels_of S a) c → d ≡ common_of X (flat_map (labels_of S) (drop i arms))
  common-arm-step X arms i j a c d lt e k h m =
      let w : Width = record { width = X.meaning.width; signed = X.meaning.signed } in
      let n : c ≡ common_more (flat_map (labels_of S) (drop (i + 1) arms)) w = h ∙ (ap (λ z. common_of X (flat_map (labels_of S) (drop z arms))) k ∙
      common-is X (flat_map (labels_of S) (drop (i + 1) arms))) in
      m ∙ (ap (common_more (labels_of S a)) n ∙ (sym (common-arm arms i a w lt e) ∙ sym (common-is X (flat_map (labels_of S) (drop i arms)))))

  -- ---- labels that are good, constant and no wider than all

  fixed-labels : (labels : List FlatExpr) (c : Width) (n : ℕ) → list_all (is_good S) labels ≡ true → list_all (λ (l : Label). l.reading.constant) (map (label_of S) labels) ≡ true →
      (common_more (map (label_of S) labels) c).width ≤ n → AreFixedLabels S n labels
  fixed-labels [] c n g k h = All-nil (IsFixedLabel S n)
  fixed-labels (x ∷ xs) c n g k h = All-cons (IsFixedLabel S n) x xs
      (record {
        good = and-left (is_good S x) (list_all (is_good S) xs) g;
        constant = and-left (reading S x).constant (list_all (λ (l : Label). l.reading.constant) (map (label_of S) xs)) k;
        wide = omega (arith, h);
      })
      (fixed-labels xs c n (and-right (is_good S x) (list_all (is_good S) xs) g)
      (and-right (reading S x).constant (list_all (λ (l : Label). l.reading.constant) (map (label_of S) xs)) k) (omega (arith, h)))

  fixed-arms : (arms : List FlatArm) (c : Width) (n : ℕ) → are_good_arms S arms ≡ true → list_all (λ (l : Label). l.reading.constant) (all_labels S arms) ≡ true →
      (common_more (all_labels S arms) c).width ≤ n → AreFixedArms S n arms
  fixed-arms [] c n g k h = All-nil (λ (a : FlatArm). AreFixedLabels S n a.labels)
  fixed-arms (a ∷ as') c n g k h =
      let C = λ (l : Label). l.reading.constant in
      let one : Bool = list_all (is_good S) a.labels && good_stmt S a.body in
      let all : (list_all C (labels_of S a) && list_all C (all_labels S as')) ≡ true = sym (all-join C (labels_of S a) (all_labels S as')) ∙ k in
      let rest : Width = common_more (all_labels S as') c in
      let e : common_more (labels_of S a ++ all_labels S as') c ≡ common_more (labels_of S a) rest = common-append (labels_of S a) (all_labels S as') c in
      let j : (common_more (labels_of S a) rest).width ≤ n = subst (λ (w : Width). w.width ≤ n) e h in
      let r = rest-within (labels_of S a) rest in
      All-cons (λ (a : FlatArm). AreFixedLabels S n a.labels) a as'
      (fixed-labels a.labels rest n (and-left (list_all (is_good S) a.labels) (good_stmt S a.body) (and-left one (are_good_arms S as') g))
      (and-left (list_all C (labels_of S a)) (list_all C (all_labels S as')) all) j)
      (fixed-arms as' c n (and-right one (are_good_arms S as') g) (and-right (list_all C (labels_of S a)) (list_all C (all_labels S as')) all) (omega (arith, j, r)))

  pub arms-fixed : (x : Reading) (arms : List FlatArm) (c : Width) → c ≡ common_of x (all_labels S arms) → are_good_arms S arms ≡ true →
      list_all (λ (l : Label). l.reading.constant) (all_labels S arms) ≡ true → AreFixedArms S c.width arms
  arms-fixed x arms c e g k =
      let w : Width = record { width = x.meaning.width; signed = x.meaning.signed } in
      let same : c.width ≡ (common_more (all_labels S arms) w).width = ap (λ (d : Width). d.width) (e ∙ common-is x (all_labels S arms)) in
      fixed-arms arms w c.width g k (omega (arith, same))

  pub fixed-at : (labels : List FlatExpr) (i : ℕ) (x : FlatExpr) (n : ℕ) → i < length labels → x ≡ get_or labels i x → AreFixedLabels S n labels → IsFixedLabel S n x
  fixed-at labels i x n lt e h = subst (λ (z : FlatExpr). IsFixedLabel S n z) (sym e) (h i x lt)

  pub fixed-arm-at : (arms : List FlatArm) (i : ℕ) (a : FlatArm) (n : ℕ) → i < length arms → a ≡ get_or arms i a → AreFixedArms S n arms → AreFixedLabels S n a.labels
  fixed-arm-at arms i a n lt e h = subst (λ (z : FlatArm). AreFixedLabels S n z.labels) (sym e) (h i a lt)

  -- ---- numbers in place of labels

  labels-fit : (wild : Bool) (c : Width) (z : ℕ) (labels : List FlatExpr) → list_any (fits_label nowhere wild c z) (map (label_of S) labels) ≡ list_any (is_fit z) (map (fit_of S wild c) labels)
  labels-fit wild c z [] = refl
  labels-fit wild c z (x ∷ xs) = ap (λ u. is_fit z (fit_of S wild c x) || u) (labels-fit wild c z xs)

  arms-fit : (wild : Bool) (c : Width) (z : ℕ) (arms : List FlatArm) → list_any (fits_label nowhere wild c z) (all_labels S arms) ≡ list_any (is_fit z) (flat_map (fits_of S wild c) arms)
  arms-fit wild c z [] = refl
  arms-fit wild c z (a ∷ as') =
      any-join (fits_label nowhere wild c z) (labels_of S a) (all_labels S as') ∙
      (ap (λ u. u || list_any (fits_label nowhere wild c z) (all_labels S as')) (labels-fit wild c z a.labels) ∙
      (ap (λ u. list_any (is_fit z) (fits_of S wild c a) || u) (arms-fit wild c z as') ∙ sym (any-join (is_fit z) (fits_of S wild c a) (flat_map (fits_of S wild c) as'))))

  all-alike : (p q : ℕ → Bool) (xs : List ℕ) → ((x : ℕ) → p x ≡ q x) → list_all p xs ≡ list_all q xs
  all-alike p q [] h = refl
  all-alike p q (x ∷ xs) h = ap (λ u. u && list_all p xs) (h x) ∙ ap (λ u. q x && u) (all-alike p q xs h)

  abbrev full_width : Bool → Reading → Width → ℕ
  full_width own x c = if own then x.meaning.width else c.width

  -- too many values, or a label that isn't constant
  pub never-full : (wild own : Bool) (x : Reading) (ls : List Label) (c : Width) (w : ℕ) (k : Bool) → c ≡ common_of x ls → w ≡ full_width own x c → k ≡ list_all (λ (l : Label). l.reading.constant) ls →
      (nat_le w 8 && k) ≡ false → false ≡ is_full_of wild own x ls
  never-full wild own x ls c w k e f g h =
      let u : ℕ = full_width own x (common_of x ls) in
      let same : w ≡ u = f ∙ ap (full_width own x) e in
      let t : (nat_le u 8 && list_all (λ (l : Label). l.reading.constant) ls) ≡ false = ap (λ v. nat_le v 8 && list_all (λ (l : Label). l.reading.constant) ls) (sym same) ∙ (ap (λ v. nat_le w 8 && v) (sym g) ∙ h) in
      by (nat_le u 8) (list_all (λ (l : Label). l.reading.constant) ls) _ t
    where
      by : (a b c : Bool) → (a && b) ≡ false → false ≡ (a && b && c)
      by true true c h = cc
      by true false c h = refl
      by false b c h = refl

  pub full-is : (wild own : Bool) (x : Reading) (arms : List FlatArm) (c : Width) (w : ℕ) (r : Bool) → c ≡ common_of x (all_labels S arms) → w ≡ full_width own x c → w ≤ 8 →
      list_all (λ (l : Label). l.reading.constant) (all_labels S arms) ≡ true →
      r ≡ list_all (λ (y : ℕ). list_any (is_fit (extended c.signed w c.width y)) (flat_map (fits_of S wild c) arms)) (range_with_len 0 (2 ^ w)) → r ≡ is_full_of wild own x (all_labels S arms)
  full-is wild own x arms c w r e f le k h =
      let d : Width = common_of x (all_labels S arms) in
      let u : ℕ = full_width own x d in
      let same : w ≡ u = f ∙ ap (full_width own x) e in
      let few : nat_le u 8 ≡ true = few-is u (omega (arith, same, le)) in
      let F : Width → ℕ → Bool = λ (z : Width) (v : ℕ).
      list_all (λ y. list_any (fits_label nowhere wild z (extended z.signed v z.width y)) (all_labels S arms)) (range_with_len 0 (2 ^ v)) in
      h ∙ (sym (all-alike _ _ (range_with_len 0 (2 ^ w)) (λ y. arms-fit wild c (extended c.signed w c.width y) arms)) ∙
      (ap (λ z. F z w) e ∙ (ap (F d) same ∙
      sym (ap (λ t. t && list_all (λ (l : Label). l.reading.constant) (all_labels S arms) && list_all (λ y. list_any (fits_label nowhere wild d (extended d.signed u d.width y)) (all_labels S arms))
      (range_with_len 0 (if t then 2 ^ u else 0))) few ∙ ap (λ t. t && F d u) k))))

  -- ---- free bits

  pub literal-of : (x : FlatExpr) (l : Literal) → x ≡ e.Lit l → (judge S x).literal ≡ Some l
  literal-of x l h = ap (λ (q : FlatExpr). (judge S q).literal) h ∙ ap (λ (q : Judged). q.literal) (judge-Lit S l)

  pub literal-width : (x : FlatExpr) (l : Literal) → x ≡ e.Lit l → (meaning S x).width ≡ size_of l.size
  literal-width x l h = ap (λ (q : FlatExpr). (meaning S q).width) h ∙ ap (λ (q : Judged). q.reading.meaning.width) (judge-Lit S l)

  pub free-of-literal : (x : FlatExpr) (l : Literal) (wild signed : Bool) (w n : ℕ) → wild ≡ true → x ≡ e.Lit l → n ≡ (meaning S x).width →
      bit_or (l.wild % 2 ^ w) (extended signed n w (l.wild % 2 ^ n)) ≡ (if wild then free_of signed w (judge S x).literal else 0)
  free-of-literal x l wild signed w n t h e =
      ap (λ m. bit_or (l.wild % 2 ^ w) (extended signed m w (l.wild % 2 ^ m))) (e ∙ literal-width x l h) ∙
      sym (ap (λ (u : Bool). if u then free_of signed w (judge S x).literal else 0) t ∙ ap (free_of signed w) (literal-of x l h))

  pub free-of-other : (x : FlatExpr) (wild signed : Bool) (w : ℕ) → (judge S x).literal ≡ None → 0 ≡ (if wild then free_of signed w (judge S x).literal else 0)
  free-of-other x wild signed w h = by wild
    where
      by : (u : Bool) → 0 ≡ (if u then free_of signed w (judge S x).literal else 0)
      by true = sym (ap (free_of signed w) h)
      by false = refl

  pub free-of-none : (x : FlatExpr) (wild signed : Bool) (w : ℕ) → wild ≡ false → 0 ≡ (if wild then free_of signed w (judge S x).literal else 0)
  free-of-none x wild signed w h = sym (ap (λ (u : Bool). if u then free_of signed w (judge S x).literal else 0) h)

-- what is no literal has no free bits
pub not-literal : (S : Signals) (x : FlatExpr) → ((l : _) → x ≡ e.Lit l → ⊥) → (judge S x).literal ≡ None
unfolding judge
not-literal S (e.Lit l) h = absurd (h l refl)
not-literal S (e.Const' c n ss) h = refl
not-literal S (e.Signal' k n ss) h = refl
not-literal S (e.Un' op n a) h = refl
not-literal S (e.Bin' op n a m b) h = refl
not-literal S (e.Div' n a m b) h = refl
not-literal S (e.Rem' n a m b) h = refl
not-literal S (e.Cond' n c m a k b) h = refl
not-literal S (e.Cat' n es) h = refl
not-literal S (e.Rep' count n es) h = refl
not-literal S (e.Cast' signed n a) h = refl

-- ---- the form of an expression

module _ (S : Signals) (x : FlatExpr) where
  of-form : (y : FlatExpr) (j : Judged) → x ≡ y → judge S y ≡ j → (judge S x).extends ≡ j.extends
  of-form y j h k = ap (λ (q : FlatExpr). (judge S q).extends) h ∙ ap (λ (q : Judged). q.extends) k

  pub extends-Lit : (l : Literal) → x ≡ e.Lit l → (judge S x).extends ≡ true
  extends-Lit l h = of-form (e.Lit l) _ h (judge-Lit S l)

  pub extends-Const : (c : Const) (ss : List FlatSelect) → x ≡ e.Const c ss → (judge S x).extends ≡ true
  extends-Const c ss h = of-form (e.Const c ss) _ h (judge-Const S c ss)

  pub extends-Signal : (k : ℕ) (ss : List FlatSelect) → x ≡ e.Signal k ss → (judge S x).extends ≡ true
  extends-Signal k ss h = of-form (e.Signal k ss) _ h (judge-Signal S k ss)

  pub extends-Un : (op : Op) (a : FlatExpr) → x ≡ e.Un op a → (judge S x).extends ≡ not (keeps_width op)
  extends-Un op a h = of-form (e.Un op a) _ h (judge-Un S op a)

  pub extends-Bin : (op : Op) (a b : FlatExpr) → x ≡ e.Bin op a b → (judge S x).extends ≡ not (keeps_width op)
  extends-Bin op a b h = of-form (e.Bin op a b) _ h (judge-Bin S op a b)

  pub extends-Div : (a b : FlatExpr) → x ≡ e.Div a b → (judge S x).extends ≡ false
  extends-Div a b h = of-form (e.Div a b) _ h (judge-Div S a b)

  pub extends-Rem : (a b : FlatExpr) → x ≡ e.Rem a b → (judge S x).extends ≡ false
  extends-Rem a b h = of-form (e.Rem a b) _ h (judge-Rem S a b)

  pub extends-Cond : (c a b : FlatExpr) → x ≡ e.Cond c a b → (judge S x).extends ≡ false
  extends-Cond c a b h = of-form (e.Cond c a b) _ h (judge-Cond S c a b)

  pub extends-Cat : (es : List FlatExpr) → x ≡ e.Cat es → (judge S x).extends ≡ true
  extends-Cat es h = of-form (e.Cat es) _ h (judge-Cat S es)

  pub extends-Rep : (n : ℕ) (es : List FlatExpr) → x ≡ e.Rep n es → (judge S x).extends ≡ true
  extends-Rep n es h = of-form (e.Rep n es) _ h (judge-Rep S n es)

  pub extends-Cast : (signed : Bool) (a : FlatExpr) → x ≡ e.Cast signed a → (judge S x).extends ≡ true
  extends-Cast signed a h = of-form (e.Cast signed a) _ h (judge-Cast S signed a)

-- ---- each number of a range

pub all-range : (p : ℕ → Bool) (n lo : ℕ) → ((k : ℕ) → lo ≤ k → k < lo + n → p k ≡ true) → list_all p (range_with_len lo n) ≡ true
all-range p zero lo h = refl
all-range p (suc n) lo h = both (p lo) (list_all p (range_with_len (lo + 1) n)) (h lo (omega arith) (omega arith)) (all-range p n (lo + 1) (λ k a b. h k (omega (arith, a)) (omega (arith, b))))
  where
    both : (a b : Bool) → a ≡ true → b ≡ true → (a && b) ≡ true
    both true b h k = k
    both false b h k = h

first-false : (a b : Bool) → a ≡ false → (a && b) ≡ false
first-false a b h = ap (λ u. u && b) h

rest-false : (a b : Bool) → b ≡ false → (a && b) ≡ false
rest-false true b h = h
rest-false false b h = refl

pub not-range : (p : ℕ → Bool) (n lo k : ℕ) → lo ≤ k → k < lo + n → p k ≡ false → list_all p (range_with_len lo n) ≡ false
not-range p zero lo k a b h = absurd (omega arith)
not-range p (suc n) lo k a b h = elim (cases_lt lo k) [
  | inl lt ↦ rest-false (p lo) (list_all p (range_with_len (lo + 1) n)) (not-range p n (lo + 1) k (omega (arith, lt)) (omega (arith, b)) h)
  | inr ge ↦ let e : lo ≡ k = omega (arith, a, ge) in first-false (p lo) (list_all p (range_with_len (lo + 1) n)) (ap p e ∙ h)
]
