-- The arms of a `case` from the last to the first, and its labels over a table.
use Rattle.std.proofs.Common.{◌≡◌, ℕ, ◌+◌, ◌*◌, ◌/◌, ◌%◌, ◌<◌, ◌≤◌, ◌^◌, ◌==◌, zero, suc, max, Bool, true, false, ◌&&◌, ◌||◌, List, [], ◌∷◌, ◌++◌, length, map, take, drop, drop-cons, add-one}
use Rattle.std.proofs.Common.{get_or, refl, sym, ◌∙◌, ap, subst, arith, Some, None}
use Rattle.std.specs.Prelude.{if◌then◌else◌, flat_map, bit_or}
use Rattle.std.specs.List.{list_all, list_any}
use Rattle.std.proofs.Math.Seq.{take-suc}
use Rattle.std.proofs.lemmas.List.{map-append}
use Rattle.std.proofs.lemmas.Nat.{or_shifted, pow_pos}
use Rattle.lv_bits.specs.Values.{bit, extended}
use Rattle.lv_source.specs.Values.{Meaning, size_of}
use Rattle.lv_flat.proofs.Judgements.{judge-Lit}
use Rattle.lv_flat.specs.Judged.{Judged}
use Rattle.lv_flat.specs.Good.{good_stmt}
use Rattle.lv_values.specs.declared.value.Value.TheVariants.{Known}
use Rattle.lv_lower_blocks.specs.Aimed.{IsZero}
use Rattle.lv_bits.specs.Words.{Bits}
use Rattle.lv_ast.specs.declared.expr.Literal.{Literal}
use Rattle.lv_netlist.specs.Net.{Net}
use Rattle.lv_source.specs.Names.{Valuation}
use Rattle.lv_source.specs.Effect.{Label, Arm, Width, is_default, arm_labels, taken_of, common_of, fits_label, free_of}
use Rattle.lv_source.specs.Meaning.{Reading}
use Rattle.lv_flat.specs.declared.expr.FlatExpr.{FlatExpr}
use Rattle.lv_flat.specs.declared.expr.FlatExpr.TheVariants as e
use Rattle.lv_flat.specs.declared.stmt.FlatArm.{FlatArm}
use Rattle.lv_flat.specs.Signals.{Signals}
use Rattle.lv_flat.specs.Cells.{Cell}
use Rattle.lv_flat.specs.Judged.{judge, meaning, is_good}
use Rattle.lv_flat.specs.Executing.{label_of}
use Rattle.lv_values.specs.declared.value.Value.{Value}
use Rattle.lv_values.specs.Worlds.{World, Gives, IsIn, number, width_of}
use Rattle.lv_values.proofs.Growth.{grows-refl, grows-trans, obeys-before, gives-is, gives-same}
use Rattle.lv_lower_exprs.specs.Tables.{Means}
use Rattle.lv_lower_exprs.proofs.Parts.{and-left, and-right, lit-means}
use Rattle.lv_lower_blocks.specs.Cased.{common_more, labels_of, good_labels, good_arm_of, Fits, first_fit, last_default, arm_read, arms_read, AreLabelled, AreWithin, ArmsWithin, IsDefault}
use Rattle.lv_lower_blocks.specs.Running.{keeps_writes}
use Rattle.lv_flat.specs.Executing.{Effect}
use Rattle.std.proofs.lemmas.List.Elements.{All-head, All-tail, All-cons, All-nil}

cut-at : {A : Type 0} (i : ℕ) (xs : List A) → take i xs ++ drop i xs ≡ xs
cut-at zero xs = refl
cut-at (suc i) [] = refl
cut-at (suc i) (x ∷ xs) = ap (λ ys. x ∷ ys) (cut-at i xs)

-- ---- the width

pub common-is : (x : Reading) (ls : List Label) → common_of x ls ≡ common_more ls (record { width = x.meaning.width; signed = x.meaning.signed })
common-is x [] = refl
common-is x (l ∷ ls) = ap (λ (c : Width). let r : Width = record { width = max l.reading.meaning.width c.width; signed = l.reading.meaning.signed && c.signed } in r) (common-is x ls)

pub common-append : (ks ls : List Label) (c : Width) → common_more (ks ++ ls) c ≡ common_more ks (common_more ls c)
common-append [] ls c = refl
common-append (k ∷ ks) ls c = ap (λ (c : Width). let r : Width = record { width = max k.reading.meaning.width c.width; signed = k.reading.meaning.signed && c.signed } in r) (common-append ks ls c)

-- a label is no wider
pub label-within : (ls : List Label) (c : Width) (i : ℕ) (d : Label) → i < length ls → (get_or ls i d).reading.meaning.width ≤ (common_more ls c).width
label-within [] c i d lt = absurd (omega arith)
label-within (l ∷ ls) c zero d lt = omega arith
label-within (l ∷ ls) c (suc i) d lt = let h = label-within ls c i d (omega arith) in omega (arith, h)

pub rest-within : (ls : List Label) (c : Width) → c.width ≤ (common_more ls c).width
rest-within [] c = omega arith
rest-within (l ∷ ls) c = let h = rest-within ls c in omega (arith, h)

-- ---- the arm that is taken

pub taken-is : {A : Type 0} (fits : Label → Bool) (arms : List (Arm A)) (d : A) → taken_of fits arms d ≡ first_fit fits arms (last_default arms d)
taken-is fits [] d = refl
taken-is fits (a ∷ arms) d = ap (λ r. if list_any fits a.labels then a.body else r) (taken-is fits arms (if is_default a.labels then a.body else d))

pub default-append : {A : Type 0} (xs ys : List (Arm A)) (d : A) → last_default (xs ++ ys) d ≡ last_default ys (last_default xs d)
default-append [] ys d = refl
default-append (x ∷ xs) ys d = default-append xs ys (if is_default x.labels then x.body else d)

-- ---- bits

pub or-none : (n : ℕ) → bit_or n 0 ≡ n
or-none n =
    let one : n * 2 ^ 0 ≡ n = omega arith in
    sym (ap (λ m. bit_or m 0) one) ∙ (or_shifted n 0 0 (omega arith) ∙ omega arith)

pub or-bits : (p q : Bool) → bit_or (bit p) (bit q) ≡ bit (p || q)
or-bits true true = refl
or-bits true false = refl
or-bits false true = refl
or-bits false false = refl

pub any-append : {A : Type 0} (f : A → Bool) (xs : List A) (x : A) → list_any f (xs ++ x ∷ []) ≡ (list_any f xs || f x)
any-append f [] x = or_false (f x)
  where
    or_false : (u : Bool) → (u || false) ≡ u
    or_false true = refl
    or_false false = refl
any-append f (y ∷ ys) x = ap (λ u. f y || u) (any-append f ys x) ∙ assoc (f y) (list_any f ys) (f x)
  where
    assoc : (a b c : Bool) → (a || (b || c)) ≡ ((a || b) || c)
    assoc true b c = refl
    assoc false b c = refl

-- what is no literal has no free bits
pub not-literal : (S : Signals) (x : FlatExpr) → ((l : _) → x ≡ e.Lit l → ⊥) → (judge S x).literal ≡ None
unfolding judge
not-literal S (e.Lit l) h = absurd (h l refl)
not-literal S (e.Const' c n ss) h = refl
not-literal S (e.Signal' k n ss) h = refl
not-literal S (e.Un' op n a) h = refl
not-literal S (e.Bin' op n a m b) h = refl
not-literal S (e.Div' n a m b) h = refl
not-literal S (e.Rem' n a m b) h = refl
not-literal S (e.Cond' n c m a k b) h = refl
not-literal S (e.Cat' n es) h = refl
not-literal S (e.Rep' count n es) h = refl
not-literal S (e.Cast' signed n a) h = refl

-- ---- labels of code

module _ (S : Signals) where
  labels-good : (labels : List FlatExpr) (i : ℕ) (d : FlatExpr) → i < length labels → list_all (is_good S) labels ≡ true → is_good S (get_or labels i d) ≡ true
  labels-good [] i d lt h = absurd (omega arith)
  labels-good (x ∷ xs) zero d lt h = and-left (is_good S x) (list_all (is_good S) xs) h
  labels-good (x ∷ xs) (suc i) d lt h = labels-good xs i d (omega arith) (and-right (is_good S x) (list_all (is_good S) xs) h)

  pub label-good : (labels : List FlatExpr) (i : ℕ) (x : FlatExpr) → i < length labels → x ≡ get_or labels i x → list_all (is_good S) labels ≡ true → is_good S x ≡ true
  label-good labels i x lt e h = subst (λ (z : FlatExpr). is_good S z ≡ true) (sym e) (labels-good labels i x lt h)

  -- the width with one label more before
  pub common-next : (labels : List FlatExpr) (i : ℕ) (x : FlatExpr) (c : Width) → i < length labels → x ≡ get_or labels i x →
      common_more (map (label_of S) (drop i labels)) c ≡
      (let d : Width = common_more (map (label_of S) (drop (i + 1) labels)) c in record { width = max (meaning S x).width d.width; signed = (meaning S x).signed && d.signed })
  common-next labels i x c lt e =
      let d : drop i labels ≡ x ∷ drop (i + 1) labels = rw add-one (drop-cons labels i x lt ∙ ap (λ (z : FlatExpr). z ∷ drop (suc i) labels) (sym e)) in
      ap (λ (z : List FlatExpr). common_more (map (label_of S) z) c) d

  -- and with one arm more before
  pub common-arm : (arms : List FlatArm) (i : ℕ) (a : FlatArm) (c : Width) → i < length arms → a ≡ get_or arms i a →
      common_more (flat_map (labels_of S) (drop i arms)) c ≡ common_more (labels_of S a) (common_more (flat_map (labels_of S) (drop (i + 1) arms)) c)
  common-arm arms i a c lt e =
      let d : drop i arms ≡ a ∷ drop (i + 1) arms = rw add-one (drop-cons arms i a lt ∙ ap (λ (z : FlatArm). z ∷ drop (suc i) arms) (sym e)) in
      ap (λ (z : List FlatArm). common_more (flat_map (labels_of S) z) c) d ∙ common-append (labels_of S a) (flat_map (labels_of S) (drop (i + 1) arms)) c

  pub arm-labels : (arms : List FlatArm) → arm_labels (arms_read S arms) ≡ flat_map (labels_of S) arms
  arm-labels [] = refl
  arm-labels (a ∷ as') = ap (λ ls. labels_of S a ++ ls) (arm-labels as')

  -- no label of the arms is wider than all
  labels-within : (labels : List FlatExpr) (c : Width) (n : ℕ) → (common_more (map (label_of S) labels) c).width ≤ n → AreWithin S labels n
  labels-within [] c n h = All-nil (λ (x : FlatExpr). (meaning S x).width ≤ n)
  labels-within (x ∷ xs) c n h = All-cons (λ (y : FlatExpr). (meaning S y).width ≤ n) x xs (omega (arith, h)) (labels-within xs c n (omega (arith, h)))

  pub arms-within : (arms : List FlatArm) (c : Width) (n : ℕ) → (common_more (flat_map (labels_of S) arms) c).width ≤ n → ArmsWithin S arms n
  arms-within [] c n h = All-nil (λ (a : FlatArm). AreWithin S a.labels n)
  arms-within (a ∷ as') c n h =
      let e : common_more (labels_of S a ++ flat_map (labels_of S) as') c ≡ common_more (labels_of S a) (common_more (flat_map (labels_of S) as') c) = common-append (labels_of S a)
      (flat_map (labels_of S) as') c in
      let k : (common_more (labels_of S a) (common_more (flat_map (labels_of S) as') c)).width ≤ n = subst (λ (w : Width). w.width ≤ n) e h in
      let r = rest-within (labels_of S a) (common_more (flat_map (labels_of S) as') c) in
      All-cons (λ (a : FlatArm). AreWithin S a.labels n) a as' (labels-within a.labels (common_more (flat_map (labels_of S) as') c) n k) (arms-within as' c n (omega (arith, k, r)))

  -- ---- the default

  not-default : (ls : List FlatExpr) (A : Type 0) (p q : A) → 1 ≤ length ls → q ≡ (if is_default (map (label_of S) ls) then p else q)
  not-default [] A p q h = absurd (omega arith)
  not-default (l ∷ ls) A p q h = refl

  its-default : (ls : List FlatExpr) (A : Type 0) (p q : A) → length ls ≡ 0 → (if is_default (map (label_of S) ls) then p else q) ≡ p
  its-default [] A p q h = refl
  its-default (l ∷ ls) A p q h = absurd (omega (arith, h))

  pub no-default : (arms : List FlatArm) (d : Effect) → AreLabelled arms → last_default (arms_read S arms) d ≡ d
  no-default [] d h = refl
  no-default (a ∷ as') d h =
      let P = λ (x : FlatArm). 1 ≤ length x.labels in
      ap (λ (z : Effect). last_default (arms_read S as') z) (sym (not-default a.labels Effect (keeps_writes S a.body) d (All-head P a as' h))) ∙ no-default as' d (All-tail P a as' h)

  pub default-is : (arms : List FlatArm) (at : ℕ) (a : FlatArm) (d : Effect) → IsDefault arms at → at < length arms → a ≡ get_or arms at a → last_default (arms_read S arms) d ≡ keeps_writes S a.body
  default-is arms at a d h lt e =
      let cut : drop at arms ≡ a ∷ drop (at + 1) arms = rw add-one (drop-cons arms at a lt ∙ ap (λ (z : FlatArm). z ∷ drop (suc at) arms) (sym e)) in
      let all : take at arms ++ drop at arms ≡ arms = cut-at at arms in
      let before : Effect = last_default (arms_read S (take at arms)) d in
      sym (ap (λ (z : List FlatArm). last_default (arms_read S z) d) all) ∙ (ap (λ (z : List FlatArm). last_default (arms_read S (take at arms ++ z)) d) cut ∙
      (ap (λ (z : List (Arm Effect)). last_default z d) (map-append (arm_read S) (take at arms) (a ∷ drop (at + 1) arms)) ∙
      (default-append (arms_read S (take at arms)) (arms_read S (a ∷ drop (at + 1) arms)) d ∙
      (ap (λ (z : Effect). last_default (arms_read S (drop (at + 1) arms)) z) (its-default a.labels Effect (keeps_writes S a.body) before (h.here a lt e)) ∙
      no-default (drop (at + 1) arms) (keeps_writes S a.body) h.behind))))

-- ---- what labels are

module _ {cells : List Cell} {table : List ℕ} where
  pub fits-none : (net : Net) (r selector : Value) (f : ℕ → Valuation → Bool) → IsIn net r → width_of r ≡ 1 → ((w : World) → number w r ≡ 0) → ((x : ℕ) (v : Valuation) → f x v ≡ false) →
      Fits net net cells table r selector f
  fits-none net r selector f i e z h = record { grows = grows-refl net; in_new = i; width = e; is = λ w v o s. z w ∙ sym (ap bit (h (number w selector) v)) }

  -- one of a label and of those before it
  pub fits-either : {old mid last new : Net} {p q r selector : Value} {f g : ℕ → Valuation → Bool} → Fits old mid cells table p selector f → Fits mid last cells table q selector g →
      Gives last new r 1 (λ w. bit_or (number w p) (number w q)) →
      Fits old new cells table r selector (λ x v. f x v || g x v)
  fits-either {old} {mid} {last} {new} {p} {q} {r} {selector} {f} {g} a b g' = record {
    grows = grows-trans old mid new a.grows (grows-trans mid last new b.grows g'.grows);
    in_new = g'.in_new;
    width = g'.width;
    is = λ w v o s.
        let o1 = obeys-before last new w g'.grows o in
        let o0 = obeys-before mid last w b.grows o1 in
        g'.is w o ∙ (ap (λ n. bit_or n (number w q)) (a.is w v o0 s) ∙ (ap (λ n. bit_or (bit (f (number w selector) v)) n) (b.is w v o1 s) ∙
        or-bits (f (number w selector) v) (g (number w selector) v)));
  }

  pub fits-same : {old new : Net} {r selector : Value} {f g : ℕ → Valuation → Bool} → Fits old new cells table r selector f → ((x : ℕ) (v : Valuation) → f x v ≡ g x v) →
      Fits old new cells table r selector g
  fits-same {selector = selector} a e = record { grows = a.grows; in_new = a.in_new; width = a.width; is = λ w v o s. a.is w v o s ∙ ap bit (e (number w selector) v) }

  pub fits-label : {old mid last new : Net} {y m r selector q : Value} (S : Signals) (wild : Bool) (c : Width) (label : FlatExpr) → q ≡ selector →
      Means old mid y cells table c.width (λ v. (meaning S label).value c.width c.signed v) →
      Gives mid last m c.width (λ w. if wild then free_of c.signed c.width (judge S label).literal else 0) →
      Gives last new r 1 (λ w. bit (bit_or (number w q) (number w m) == bit_or (number w y) (number w m))) → Fits old new cells table r selector (λ x v. fits_label v wild c x (label_of S label))
  fits-label {old} {mid} {last} {new} {y} {m} {r} {selector} {q} S wild c label same a b g = record {
    grows = grows-trans old mid new a.grows (grows-trans mid last new b.grows g.grows);
    in_new = g.in_new;
    width = g.width;
    is = λ w v o s.
        let o1 = obeys-before last new w g.grows o in
        let o0 = obeys-before mid last w b.grows o1 in
        let free : ℕ = if wild then free_of c.signed c.width (judge S label).literal else 0 in
        let value : ℕ = (meaning S label).value c.width c.signed v in
        g.is w o ∙ (ap (λ (z : Value). bit (bit_or (number w z) (number w m) == bit_or (number w y) (number w m))) same ∙
        (ap (λ n. bit (bit_or (number w selector) n == bit_or (number w y) n)) (b.is w o1) ∙ ap (λ n. bit (bit_or (number w selector) free == bit_or n free)) (a.is w v o0 s)));
  }

-- ---- the loops

pub common-step : (S : Signals) (labels : List FlatExpr) (i j : ℕ) (x : FlatExpr) (c rest : Width) (of : ℕ × Bool) (n : ℕ) (u : Bool) → i < length labels → x ≡ get_or labels i x → j ≡ i + 1 →
    of ≡ ((meaning S x).width, (meaning S x).signed) →
    c ≡ common_more (map (label_of S) (drop j labels)) rest → n ≡ max of.0 c.width → u ≡ (of.1 && c.signed) →
    (let r : Width = record { width = n; signed = u } in r) ≡ common_more (map (label_of S) (drop i labels)) rest
common-step S labels i j x c rest of n u lt e k o h p q =
    let d : Width = common_more (map (label_of S) (drop (i + 1) labels)) rest in
    let m : c ≡ d = h ∙ ap (λ z. common_more (map (label_of S) (drop z labels)) rest) k in
    ap (λ z. let r : Width = record { width = z; signed = u } in r) (p ∙ (ap (λ (z : ℕ × Bool). max z.0 c.width) o ∙ ap (λ (z : Width). max (meaning S x).width z.width) m)) ∙
    (ap (λ z. let r : Width = record { width = max (meaning S x).width d.width; signed = z } in r) (q ∙ (ap (λ (z : ℕ × Bool). z.1 && c.signed) o ∙
    ap (λ (z : Width). (meaning S x).signed && z.signed) m)) ∙
    sym (common-next S labels i x rest lt e))

pub common-arm-step : (S : Signals) (X : Reading) (arms : List FlatArm) (i j : ℕ) (a : FlatArm) (c d : Width) → i < length arms → a ≡ get_or arms i a → j ≡ i + 1 →
    c ≡ common_of X (flat_map (labels_of S) (drop j arms)) →
    d ≡ common_more (labels_of S a) c → d ≡ common_of X (flat_map (labels_of S) (drop i arms))
common-arm-step S X arms i j a c d lt e k h m =
    let w : Width = record { width = X.meaning.width; signed = X.meaning.signed } in
    let n : c ≡ common_more (flat_map (labels_of S) (drop (i + 1) arms)) w = h ∙ (ap (λ z. common_of X (flat_map (labels_of S) (drop z arms))) k ∙
    common-is X (flat_map (labels_of S) (drop (i + 1) arms))) in
    m ∙ (ap (common_more (labels_of S a)) n ∙ (sym (common-arm S arms i a w lt e) ∙ sym (common-is X (flat_map (labels_of S) (drop i arms)))))

pub none-behind : {A : Type 0} (xs : List A) (n : ℕ) → length xs ≤ n → drop n xs ≡ []
none-behind [] zero h = refl
none-behind [] (suc n) h = refl
none-behind (x ∷ xs) zero h = absurd (omega arith)
none-behind (x ∷ xs) (suc n) h = none-behind xs n (omega arith)

pub labelled-more : (arms : List FlatArm) (i : ℕ) (a : FlatArm) → i < length arms → a ≡ get_or arms i a → 1 ≤ length a.labels → AreLabelled (drop (i + 1) arms) → AreLabelled (drop i arms)
labelled-more arms i a lt e n h =
    let cut : drop i arms ≡ a ∷ drop (i + 1) arms = rw add-one (drop-cons arms i a lt ∙ ap (λ (z : FlatArm). z ∷ drop (suc i) arms) (sym e)) in
    subst AreLabelled (sym cut) (All-cons (λ (x : FlatArm). 1 ≤ length x.labels) a (drop (i + 1) arms) n h)

pub labelled-none : (arms : List FlatArm) (n : ℕ) → length arms ≤ n → AreLabelled (drop n arms)
labelled-none arms n h = subst AreLabelled (sym (none-behind arms n h)) (All-nil (λ (x : FlatArm). 1 ≤ length x.labels))

-- one label more
pub any-more : {A : Type 0} (f : A → Bool) (g : FlatExpr → A) (es : List FlatExpr) (i : ℕ) (x : FlatExpr) → i < length es → x ≡ get_or es i x →
    (list_any f (map g (take i es)) || f (g x)) ≡ list_any f (map g (take (i + 1) es))
any-more f g es i x lt e =
    let t : take (i + 1) es ≡ take i es ++ get_or es i x ∷ [] = rw add-one (take-suc es i x lt) in
    sym (ap (λ z. list_any f (map g z)) t ∙ (ap (list_any f) (map-append g (take i es) (get_or es i x ∷ [])) ∙ (any-append f (map g (take i es)) (g (get_or es i x)) ∙
    ap (λ (z : FlatExpr). list_any f (map g (take i es)) || f (g z)) (sym e))))

pub labels-of-good : (S : Signals) (arms : List FlatArm) → list_all (good_arm_of S) arms ≡ true → list_all (good_labels S) arms ≡ true
labels-of-good S [] h = refl
labels-of-good S (a ∷ as') h =
    rw (and-left (good_labels S a) (good_stmt S a.body) (and-left (good_arm_of S a) (list_all (good_arm_of S) as') h)) (labels-of-good S as' (and-right (good_arm_of S a)
    (list_all (good_arm_of S) as') h))

-- ---- values of labels

pub free-lit : {b0 b1 b2 b3 b4 : Net} {low x y r p : Value} (S : Signals) (label : FlatExpr) (l : Literal) (wild T : Bool) (W n : ℕ) (word : Bits) →
    Gives b0 b1 low W (λ w. number w p / 2 ^ 0 % 2 ^ W) →
    Gives b1 b2 x n (λ w. number w (Known word) / 2 ^ 0 % 2 ^ n) → Gives b2 b3 y W (λ w. extended T (width_of x) W (number w x)) →
    Gives b3 b4 r (width_of low) (λ w. bit_or (number w low) (number w y)) →
    p ≡ Known word → word.value ≡ l.wild → n ≡ (meaning S label).width → wild ≡ true → label ≡ e.Lit l → Gives b0 b4 r W (λ w. if wild then free_of T W (judge S label).literal else 0)
free-lit {b0} {b1} {b2} {b3} {b4} {low} {x} {y} {r} {p} S label l wild T W n word g h k m same value wide is lit = record {
  grows = grows-trans b0 b1 b4 g.grows (grows-trans b1 b2 b4 h.grows (grows-trans b2 b3 b4 k.grows m.grows));
  in_new = m.in_new;
  width = m.width ∙ g.width;
  is = λ w o.
      let o2 = obeys-before b3 b4 w m.grows o in
      let o1 = obeys-before b2 b3 w k.grows o2 in
      let o0 = obeys-before b1 b2 w h.grows o1 in
      let v : ℕ = l.wild in
      let z : ℕ = size_of l.size in
      let size : n ≡ z = wide ∙ ap (λ (d : Meaning). d.width) (lit-means S label l lit) in
      let a : number w low ≡ v % 2 ^ W = g.is w o0 ∙ (low-bits (number w p) W ∙ ap (λ d. d % 2 ^ W) (ap (number w) same ∙ value)) in
      let c : number w x ≡ v % 2 ^ z = h.is w o1 ∙ (low-bits word.value n ∙ (ap (λ d. d % 2 ^ n) value ∙ ap (λ d. v % 2 ^ d) size)) in
      let d : number w y ≡ extended T z W (v % 2 ^ z) = k.is w o2 ∙ (ap (λ q. extended T q W (number w x)) (h.width ∙ size) ∙ ap (extended T z W) c) in
      let literal : (judge S label).literal ≡ Some l = ap (λ (q : FlatExpr). (judge S q).literal) lit ∙ ap (λ (q : Judged). q.literal) (judge-Lit S l) in
      m.is w o ∙ (ap (λ q. bit_or q (number w y)) a ∙ (ap (bit_or (v % 2 ^ W)) d ∙
      sym (ap (λ (q : Bool). if q then free_of T W (judge S label).literal else 0) is ∙ ap (free_of T W) literal)));
}
  where
    low-bits : (q u : ℕ) → q / 2 ^ 0 % 2 ^ u ≡ q % 2 ^ u
    low-bits q u = let one : q / 2 ^ 0 ≡ q = omega arith in rw one refl

pub free-none : (net : Net) (r : Value) (S : Signals) (label : FlatExpr) (wild T : Bool) (W : ℕ) → 1 ≤ W → r ≡ Known (record { width = W; value = 0 }) → (judge S label).literal ≡ None →
    Gives net net r W (λ w. if wild then free_of T W (judge S label).literal else 0)
free-none net r S label wild T W some e lit =
    let z : 0 < 2 ^ W = pow_pos W in
    subst (λ (v : Value). Gives net net v W (λ w. if wild then free_of T W (judge S label).literal else 0)) (sym e) (record {
      grows = grows-refl net;
      in_new = z;
      width = refl;
      is = λ w o. sym (ap (λ q. if wild then free_of T W q else 0) lit ∙ one-value wild 0);
    })
  where
    one-value : (u : Bool) (n : ℕ) → (if u then n else n) ≡ n
    one-value true n = refl
    one-value false n = refl

pub agree-zero : {old new : Net} {r : Value} (x y m : Value) → IsZero m → Gives old new r 1 (λ w. bit (number w x == number w y)) →
    Gives old new r 1 (λ w. bit (bit_or (number w x) (number w m) == bit_or (number w y) (number w m)))
agree-zero x y m z g = gives-is g refl (λ w o.
    let k : (n : ℕ) → n ≡ bit_or n (number w m) = λ n. sym (ap (bit_or n) (z.is w) ∙ or-none n) in
    ap (λ n. bit (n == number w y)) (k (number w x)) ∙ ap (λ n. bit (bit_or (number w x) (number w m) == n)) (k (number w y)))

pub either-zero : (net : Net) (x y : Value) → IsIn net x → width_of x ≡ 1 → IsZero y → Gives net net x 1 (λ w. bit_or (number w x) (number w y))
either-zero net x y i e z = gives-is (gives-same net x i) e (λ w o. sym (ap (bit_or (number w x)) (z.is w) ∙ or-none (number w x)))
