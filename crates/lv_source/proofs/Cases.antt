-- A `case` takes the same arm in both, and one of its arms where its labels are full.
use Rattle.std.proofs.Common.{◌≡◌, inl, inr, ℕ, zero, suc, ◌+◌, ◌^◌, ◌<◌, ◌≤◌, Bool, true, false, ◌&&◌, ◌||◌, ◌==◌, List, [], ◌∷◌, ◌++◌, map, refl, sym, ap, ◌∙◌, subst, arith}
use Rattle.std.specs.Prelude.{flat_map, if◌then◌else◌, nat_le, bit_or}
use Rattle.std.specs.List.{list_any, list_all, range_with_len}
use Rattle.lv_bits.specs.Values.{extended}
use Rattle.lv_ast.specs.declared.expr.Expr.{Expr}
use Rattle.lv_source.specs.Names.{Names, Valuation}
use Rattle.lv_source.specs.Values.{nowhere, own_value}
use Rattle.lv_source.specs.Places.{Bit, has_bit}
use Rattle.lv_source.specs.Meaning.{read_expr, meaning}
use Rattle.lv_source.specs.Effect.{State, Effect, ArmOf, is_default, all_labels, Label, Width, common, is_match, free_bits, fits_label, label_of}
use Rattle.lv_source.specs.Flow.{Event, Flows, is_full, is_extended}
use Rattle.lv_source.proofs.CaseTrees.{arm_taken, all-map}
use Rattle.lv_source.proofs.Each.{Each, Some', Pairs, each-left, each-right, each-join, some-left, some-right, some-split}
use Rattle.lv_source.proofs.Tests.{or-none_left, or-none_right, and-left, and-right, any-map}
use Rattle.lv_source.proofs.Faithful.{Same, same-left, same-right, Equal}
use Rattle.lv_source.proofs.Readings.{faithful}
use Rattle.lv_source.proofs.Fits.{fits, extends, own_fits, at_own}
use Rattle.lv_source.proofs.Runs.{Covered, Outcome, Runs, After}

-- ---- labels that fit

two_equal : (f : ℕ → ℕ → Bool) (x y x' y' : ℕ) → x ≡ x' → y ≡ y' → f x y ≡ f x' y'
two_equal f x y x' y' h k = ap (λ z. f z y) h ∙ ap (λ z. f x' z) k

-- by the number of the selector and the value of the label
pub match_equal : (names : Names) (v w : Valuation) (wild : Bool) (c : Width) (y z : ℕ) (label : Expr) → y ≡ z → Equal v w (read_expr names label).meaning →
    is_match names v wild c y label ≡ is_match names w wild c z label
match_equal names v w wild c y z label h k =
    two_equal (λ a b. bit_or a (if wild then free_bits c.signed c.width label else 0) == bit_or b (if wild then free_bits c.signed c.width label else 0)) _ _ _ _ h (k c.width c.signed)

-- the labels have the same values in both
abbrev pub EqualLabel : Names → Valuation → Valuation → Expr → Type 0
EqualLabel names v w l = Equal v w (read_expr names l).meaning

pub any_match_equal : (names : Names) (v w : Valuation) (wild : Bool) (c : Width) (y z : ℕ) (ls : List Expr) → y ≡ z → Each (EqualLabel names v w) ls →
    list_any (is_match names v wild c y) ls ≡ list_any (is_match names w wild c z) ls
any_match_equal names v w wild c y z [] h k = refl
any_match_equal names v w wild c y z (l ∷ ls) h k =
    ap (λ b. b || list_any (is_match names v wild c y) ls) (match_equal names v w wild c y z l h k.0) ∙
    ap (λ b. is_match names w wild c z l || b) (any_match_equal names v w wild c y z ls h k.1)

fixed_labels : (names : Names) (v w : Valuation) (ls : List Expr) → list_all (λ l. (read_expr names l).constant) ls ≡ true → Each (EqualLabel names v w) ls
fixed_labels names v w [] h = tt
fixed_labels names v w (l ∷ ls) h = (
  (faithful names l).fixed (and-left (read_expr names l).constant (list_all (λ l. (read_expr names l).constant) ls) h) v w,
  fixed_labels names v w ls (and-right (read_expr names l).constant (list_all (λ l. (read_expr names l).constant) ls) h),
)

abbrev pub label_reads : Names → List Expr → List Bit
label_reads names ls = flat_map (λ l. (read_expr names l).reads) ls

pub read_labels : (names : Names) (v w : Valuation) (ls : List Expr) → Same (has_bit (label_reads names ls)) v w → Each (EqualLabel names v w) ls
read_labels names v w [] h = tt
read_labels names v w (l ∷ ls) h = (
  (faithful names l).same v w (same-left (read_expr names l).reads (label_reads names ls) v w h),
  read_labels names v w ls (same-right (read_expr names l).reads (label_reads names ls) v w h),
)

-- ---- full labels

all-range : (p : ℕ → Bool) (a n k : ℕ) → k < n → list_all p (range_with_len a n) ≡ true → p (a + k) ≡ true
all-range p a zero k h j = absurd (omega arith)
all-range p a (suc n) zero h j = (let e : a + 0 ≡ a = omega arith in ap p e) ∙ and-left (p a) (list_all p (range_with_len (a + 1) n)) j
all-range p a (suc n) (suc k) h j =
    (let e : a + suc k ≡ a + 1 + k = omega arith in ap p e) ∙ all-range p (a + 1) n k (omega arith) (and-right (p a) (list_all p (range_with_len (a + 1) n)) j)

widest : (names : Names) (x : Expr) (ls : List Expr) → (meaning names x).width ≤ (common names x ls).width
widest names x [] = omega arith
widest names x (l ∷ ls) = let h : (meaning names x).width ≤ (common names x ls).width = widest names x ls in omega arith

signed_selector : (names : Names) (x : Expr) (ls : List Expr) → (common names x ls).signed ≡ true → (meaning names x).signed ≡ true
signed_selector names x [] h = h
signed_selector names x (l ∷ ls) h = signed_selector names x ls (and-right (meaning names l).signed (common names x ls).signed h)

abbrev selected : Names → Expr → Width → Valuation → ℕ
selected names x c v = (meaning names x).value c.width c.signed v

-- the width at which the labels have to be full
abbrev tested : Names → Expr → Width → Bool → ℕ
tested names x c e = if e then (meaning names x).width else c.width

module _ (names : Names) (x : Expr) (c : Width) (v : Valuation) where
  test_number : Bool → ℕ
  test_number e = if e then own_value (meaning names x) v else selected names x c v

  number_fits : (e : Bool) → (meaning names x).width ≤ c.width → test_number e < 2 ^ tested names x c e
  unfolding test_number
  number_fits true h = own_fits (meaning names x) (fits names x) v
  number_fits false h = (fits names x).fits c.width c.signed v h

  number_is : (e : Bool) → is_extended x ≡ e → (c.signed ≡ true → (meaning names x).signed ≡ true) → extended c.signed (tested names x c e) c.width (test_number e) ≡ selected names x c v
  unfolding test_number
  number_is true k h = sym ((extends names x k).extends c.width c.signed v h)
  number_is false k h = at_own c.signed c.width (selected names x c v)

if_true : (k : Bool) (a b : ℕ) → k ≡ true → (if k then a else b) ≡ a
if_true true a b h = refl
if_true false a b h = cc

pub full_fits : (names : Names) (wild : Bool) (x : Expr) (ls : List Expr) (v : Valuation) → is_full names wild x ls ≡ true →
    list_any (is_match names v wild (common names x ls) ((meaning names x).value (common names x ls).width (common names x ls).signed v)) ls ≡ true
full_fits names wild x ls v h =
    let c : Width = common names x ls in
    let e : Bool = is_extended x in
    let w : ℕ = tested names x c e in
    let fixed : Bool = list_all (λ (l : Label). l.reading.constant) (map (label_of names) ls) in
    let p : ℕ → Bool = λ y. list_any (fits_label nowhere wild c (extended c.signed w c.width y)) (map (label_of names) ls) in
    let n : ℕ = if nat_le w 8 then 2 ^ w else 0 in
    let most : nat_le w 8 ≡ true = and-left (nat_le w 8) fixed (and-left (nat_le w 8 && fixed) (list_all p (range_with_len 0 n)) h) in
    let constant : fixed ≡ true = and-right (nat_le w 8) fixed (and-left (nat_le w 8 && fixed) (list_all p (range_with_len 0 n)) h) in
    let all : list_all p (range_with_len 0 n) ≡ true = and-right (nat_le w 8 && fixed) (list_all p (range_with_len 0 n)) h in
    let y : ℕ = test_number names x c v e in
    let below : y < 2 ^ w = number_fits names x c v e (widest names x ls) in
    let count : n ≡ 2 ^ w = if_true (nat_le w 8) (2 ^ w) 0 most in
    let z : 0 + y ≡ y = omega arith in
    let found : p y ≡ true = ap p (sym z) ∙ all-range p 0 n y (subst (λ (m : ℕ). y < m) (sym count) below) all in
    any_match_equal names v nowhere wild c (selected names x c v) (extended c.signed w c.width y) ls
    (sym (number_is names x c v e refl (signed_selector names x ls))) (fixed_labels names v nowhere ls (all-map (λ (l : Label). l.reading.constant) (label_of names) ls ∙ constant)) ∙
    (any-map (fits_label nowhere wild c (extended c.signed w c.width y)) (label_of names) ls ∙ found)

-- ---- arms

abbrev pub Rel : Effect → Flows → Type 0
Rel e f = (names : Names) → Runs (e names) (f names)

pub record SameArm (a : ArmOf Effect) (b : ArmOf Flows) : Type 0 where
  pub labels : a.labels ≡ b.labels
  pub body : Rel a.body b.body

pub labels_equal : (es : List (ArmOf Effect)) (bs : List (ArmOf Flows)) → Pairs SameArm es bs → all_labels es ≡ all_labels bs
labels_equal [] [] h = refl
labels_equal [] (b ∷ bs) h = absurd h
labels_equal (a ∷ es) [] h = absurd h
labels_equal (a ∷ es) (b ∷ bs) h = ap (λ ls. ls ++ all_labels es) h.0.labels ∙ ap (λ ls. b.labels ++ ls) (labels_equal es bs h.1)

abbrev pub arm_paths : Names → List (ArmOf Flows) → List (List Event)
arm_paths names bs = flat_map (λ b. (b.body names).paths) bs

any-none : {A : Type 0} (p : A → Bool) (xs ys : List A) → list_any p xs ≡ false → list_any p ys ≡ false → list_any p (xs ++ ys) ≡ false
any-none p [] ys h k = k
any-none p (x ∷ xs) ys h k =
    ap (λ b. b || list_any p (xs ++ ys)) (or-none_left (p x) (list_any p xs) h) ∙ any-none p xs ys (or-none_right (p x) (list_any p xs) h) k

-- the arm that is taken, by whether its labels fit and whether it is the default
one_arm : (P : State → State → Type 0) (names : Names) (s t : State) (x y i : Bool) → x ≡ y → (a d : Effect) (r q : Effect → Effect) →
    (x ≡ true → P (a names s) (a names t)) → (x ≡ false → i ≡ true → P (r a names s) (q a names t)) → (x ≡ false → i ≡ false → P (r d names s) (q d names t)) →
    P ((if x then a else r (if i then a else d)) names s) ((if y then a else q (if i then a else d)) names t)
one_arm P names s t true true i e a d r q h k l = h refl
one_arm P names s t true false i e a d r q h k l = absurd (cc)
one_arm P names s t false true i e a d r q h k l = absurd (cc)
one_arm P names s t false false true e a d r q h k l = k refl refl
one_arm P names s t false false false e a d r q h k l = l refl refl

module _ (names : Names) (A : Bit → Bool) (s t : State) (same : Same A s.valuation t.valuation) (f g : Expr → Bool) where
  abbrev Ends : List (List Event) → State → State → Type 0
  Ends ps s' t' = Outcome A ps s t s' t'

  move : (ps qs : List (List Event)) (s' t' : State) → (Some' (λ p. Same (After A p) s'.valuation t'.valuation) ps → Some' (λ p. Same (After A p) s'.valuation t'.valuation) qs) → Ends ps s' t' → Ends qs s' t'
  move ps qs s' t' h o = (h o.0, o.1, o.2)

  -- with the default so far, which is reached where no arm fits and none is the default
  pub taken : (es : List (ArmOf Effect)) (bs : List (ArmOf Flows)) → Pairs SameArm es bs → Each (λ b. list_any f b.labels ≡ list_any g b.labels) bs →
      (d : Effect) (ds : List (List Event)) → (list_any (λ b. is_default b.labels) bs ≡ false → list_any f (all_labels bs) ≡ false → Ends ds (d names s) (d names t)) →
      Each (Covered A) (arm_paths names bs ++ ds) → Ends (arm_paths names bs ++ ds) (arm_taken f es d names s) (arm_taken g es d names t)
  taken [] [] h k d ds o c = o refl refl
  taken [] (b ∷ bs) h k d ds o c = absurd h
  taken (a ∷ es) [] h k d ds o c = absurd h
  taken (a ∷ es) (b ∷ bs) h k d ds o c =
      let here : List (List Event) = (b.body names).paths in
      let rest : List (List Event) = arm_paths names bs in
      let cs : Each (Covered A) (here ++ rest) = each-left (Covered A) (here ++ rest) ds c in
      let first : Each (Covered A) here = each-left (Covered A) here rest cs in
      let later : Each (Covered A) rest = each-right (Covered A) here rest cs in
      let own : Ends here (a.body names s) (a.body names t) = (h.0.body names).run A s t same first in
      let le : list_any f a.labels ≡ list_any f b.labels = ap (list_any f) h.0.labels in
      let lg : list_any g b.labels ≡ list_any g a.labels = ap (list_any g) (sym h.0.labels) in
      let ld : is_default a.labels ≡ is_default b.labels = ap is_default h.0.labels in
      one_arm (Ends ((here ++ rest) ++ ds)) names s t (list_any f a.labels) (list_any g a.labels) (is_default a.labels) (le ∙ (k.0 ∙ lg)) a.body d (arm_taken f es) (arm_taken g es)
      (λ e. move here ((here ++ rest) ++ ds) (a.body names s) (a.body names t) (λ m. some-left _ (here ++ rest) ds (some-left _ here rest m)) own)
      (λ e i. (let o' : Ends (rest ++ here) (arm_taken f es a.body names s) (arm_taken g es a.body names t) =
      taken es bs h.1 k.1 a.body here (λ n m. own) (each-join (Covered A) rest here later first) in
      move (rest ++ here) ((here ++ rest) ++ ds) (arm_taken f es a.body names s) (arm_taken g es a.body names t)
      (λ m. some-left _ (here ++ rest) ds (elim (some-split _ rest here m) [ inl j ↦ some-right _ here rest j | inr j ↦ some-left _ here rest j ])) o'))
      (λ e i. (let o' : Ends (rest ++ ds) (arm_taken f es d names s) (arm_taken g es d names t) =
      taken es bs h.1 k.1 d ds
      (λ n m. o (ap (λ c. c || list_any (λ b. is_default b.labels) bs) (sym ld ∙ i) ∙ n) (any-none f b.labels (all_labels bs) (sym le ∙ e) m))
      (each-join (Covered A) rest ds later (each-right (Covered A) (here ++ rest) ds c)) in
      move (rest ++ ds) ((here ++ rest) ++ ds) (arm_taken f es d names s) (arm_taken g es d names t)
      (λ m. elim (some-split _ rest ds m) [ inl j ↦ some-left _ (here ++ rest) ds (some-right _ here rest j) | inr j ↦ some-right _ (here ++ rest) ds j ]) o'))
