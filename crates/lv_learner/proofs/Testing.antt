-- What the tests of a certificate's states and input say, at one input and in one state.
use Rattle.std.proofs.Common.{◌≡◌, ◌≢◌, ℕ, zero, suc, ◌+◌, ◌%◌, ◌^◌, ◌<◌, ◌&&◌, Bool, true, false, List, [], ◌∷◌, ◌++◌, length, take, get_or, slice_index, refl, sym, ◌∙◌, ap, subst, arith, inl, inr}
use Rattle.std.specs.Prelude.{All, Option, Some, None}
use Rattle.std.proofs.lemmas.Bool.{cases_eq}
use Rattle.std.proofs.lemmas.List.Elements.{All-map}
use Rattle.lv_bits.specs.Words.{Bits}
use Rattle.lv_cert.specs.declared.cert.Cert.{Cert}
use Rattle.lv_model.specs.Design.{Eq, Each}
use Rattle.lv_model.proofs.Tests.{test_from, from_test}
use Rattle.lv_netlist.specs.Net.{Net}
use Rattle.lv_netlist.specs.Run.{values_of}
use Rattle.lv_netlist.specs.Stepping.{GraphCycle, node_value}
use Rattle.lv_product.specs.declared.task.Task.{Task}
use Rattle.lv_product.specs.Tasks.{IsStateNode, IsInputNode}
use Rattle.lv_product.specs.Values.{value_at, is_met, is_same}
use Rattle.lv_product.specs.declared.task.Query.TheVariants.{Initial, Allowed}
use Rattle.lv_learner.specs.Meeting.{CanBeMet}
use Rattle.lv_learner.specs.Cuts.{IsStateOf, IsInputOf, cut, state_of, input_of, cycle}
use Rattle.lv_learner.specs.Confirming.{FitsCert, IsSameNode, IsOnNode, InputMeets, IsFirstFailing, first_of, IsStatesTest, IsInputTest}
use Rattle.lv_learner.proofs.Words.{state_fits, input_fits}

-- ---- the loops

pub first_more : (test : ℕ → Bool) (nodes : List ℕ) (k x : ℕ) → x ≡ slice_index nodes k → test x ≡ true →
    ((j : ℕ) → j < k → test (slice_index nodes j) ≡ true) → (j : ℕ) → j < k + 1 → test (slice_index nodes j) ≡ true
first_more test nodes k x e here before j lt =
    elim (cases_eq j k) [
      | inl same ↦ subst (λ (i : ℕ). test (slice_index nodes i) ≡ true) (sym same) (ap test (sym e) ∙ here)
      | inr other ↦ before j (omega (arith, other))
    ]

pub first_here : (test : ℕ → Bool) (nodes : List ℕ) (k x : ℕ) → k < length nodes → x ≡ slice_index nodes k → test x ≡ false →
    ((j : ℕ) → j < k → test (slice_index nodes j) ≡ true) → IsFirstFailing test nodes (Some k)
first_here test nodes k x lt e here before = (lt, before, ap test (sym e) ∙ here)

abbrev pub low_word : ℕ → ℕ → Bits
low_word w v = record { width = w; value = v % 2 ^ w }

pub low_is : (word : Bits) (w v : ℕ) (ws vs : List ℕ) (k : ℕ) → word ≡ low_word w v → w ≡ get_or ws k 0 → v ≡ get_or vs k 0 → word ≡ low_word (get_or ws k 0) (get_or vs k 0)
low_is word w v ws vs k is ew ev = is ∙ (ap (λ (n : ℕ). low_word n v) ew ∙ ap (λ (n : ℕ). low_word (get_or ws k 0) n) ev)

cut_suc : (ws vs : List ℕ) (k : ℕ) → k < length ws → k < length vs →
    cut (take (suc k) ws) (take (suc k) vs) ≡ cut (take k ws) (take k vs) ++ low_word (get_or ws k 0) (get_or vs k 0) ∷ []
cut_suc [] vs k lw lv = absurd (omega arith)
cut_suc (w ∷ ws) [] k lw lv = absurd (omega arith)
cut_suc (w ∷ ws) (v ∷ vs) zero lw lv = refl
cut_suc (w ∷ ws) (v ∷ vs) (suc k) lw lv = ap (λ (xs : List Bits). low_word w v ∷ xs) (cut_suc ws vs k (omega arith) (omega arith))

-- one word more
pub cut_more : (ws vs : List ℕ) (k : ℕ) (word : Bits) (old new : List Bits) → k < length ws → k < length vs → word ≡ low_word (get_or ws k 0) (get_or vs k 0) →
    old ≡ cut (take k ws) (take k vs) → new ≡ old ++ word ∷ [] → new ≡ cut (take (k + 1) ws) (take (k + 1) vs)
cut_more ws vs k word old new lw lv is before grown =
    let e : suc k ≡ k + 1 = omega arith in
    grown ∙ (ap (λ (xs : List Bits). xs ++ word ∷ []) before ∙ (ap (λ (x : Bits). cut (take k ws) (take k vs) ++ x ∷ []) is ∙
    (sym (cut_suc ws vs k lw lv) ∙ ap (λ (n : ℕ). cut (take n ws) (take n vs)) e)))

-- ---- one node

any_default : (xs : List ℕ) (i d e : ℕ) → i < length xs → get_or xs i d ≡ get_or xs i e
any_default [] i d e lt = absurd (omega arith)
any_default (x ∷ xs) zero d e lt = refl
any_default (x ∷ xs) (suc i) d e lt = any_default xs i d e (omega arith)

-- what holds of the entry of each place holds of each entry
all_at : (P : ℕ → Type 0) (xs : List ℕ) → ((j : ℕ) → j < length xs → P (slice_index xs j)) → All P xs
all_at P xs h i d lt = subst P (any_default xs i 0 d lt) (h i lt)

module _ (task : Task) (cert : Cert) (i : List Bits) (fits : FitsCert task cert) (fi : IsInputOf task.graph i) where
  abbrev left : List Bits
  left = state_of task cert.left.items

  abbrev right : List Bits
  right = state_of task cert.right.items

  left_fits : IsStateOf task.graph left
  left_fits = state_fits task.graph cert.left.items fits.left

  right_fits : IsStateOf task.graph right
  right_fits = state_fits task.graph cert.right.items fits.right

  abbrev at_left : List Bits
  at_left = values_of task.graph left i

  abbrev at_right : List Bits
  at_right = values_of task.graph right i

  abbrev on : ℕ → Bool
  on n = is_met at_left n && is_met at_right n

  same_from : (n : ℕ) → IsStateNode task.graph n → is_same at_left at_right n ≡ true → IsSameNode task cert n
  same_from n node t j fj =
      let h : value_at n at_left ≡ value_at n at_right = from_test (Eq (value_at n)) at_left at_right true t in
      node.1 left j i left_fits fj fi ∙ (h ∙ node.1 right i j right_fits fi fj)

  same_not : (n : ℕ) → is_same at_left at_right n ≡ false → IsSameNode task cert n → ⊥
  same_not n t h = let e : is_same at_left at_right n ≡ true = test_from (Eq (value_at n)) at_left at_right true (h i fi) in cc

  on_from : (n : ℕ) → IsStateNode task.graph n → on n ≡ true → IsOnNode task cert n
  on_from n node t j fj =
      let h : (value_at n at_left ≢ 0) × (value_at n at_right ≢ 0) = from_test (Each (value_at n)) at_left at_right true t in
      (λ e. h.0 (node.1 left i j left_fits fi fj ∙ e), λ e. h.1 (node.1 right i j right_fits fi fj ∙ e))

  on_not : (n : ℕ) → on n ≡ false → IsOnNode task cert n → ⊥
  on_not n t h = let e : on n ≡ true = test_from (Each (value_at n)) at_left at_right true (h i fi) in cc

  -- ---- the states

  state_node : (xs : List ℕ) → All (IsStateNode task.graph) xs → (k : ℕ) → k < length xs → IsStateNode task.graph (slice_index xs k)
  state_node xs all k lt = all k 0 lt

  same_before : (k : ℕ) → ((m : ℕ) → m < k → is_same at_left at_right (slice_index task.equal.items m) ≡ true) → (m : ℕ) → m < k → m < length task.equal.items →
      IsSameNode task cert (slice_index task.equal.items m)
  same_before k before m lt within = same_from (slice_index task.equal.items m) (state_node task.equal.items task.fits.equal_is m within) (before m lt)

  on_before : (k : ℕ) → ((m : ℕ) → m < k → on (slice_index task.each.items m) ≡ true) → (m : ℕ) → m < k → m < length task.each.items →
      IsOnNode task cert (slice_index task.each.items m)
  on_before k before m lt within = on_from (slice_index task.each.items m) (state_node task.each.items task.fits.each_is m within) (before m lt)

  states_test : (a b : Option ℕ) → IsFirstFailing (is_same at_left at_right) task.equal.items a → IsFirstFailing on task.each.items b →
      IsStatesTest task cert (first_of a (length task.equal.items) b)
  states_test (Some k) b ha hb = record {
    within = omega (arith, ha.0);
    before = λ m lt. record {
      equal = λ within. same_before k ha.1 m lt within;
      each = λ j e more. absurd (omega (arith, ha.0));
    };
    here = λ h. same_not (slice_index task.equal.items k) ha.2 (h.equal ha.0);
  }
  states_test None (Some k) ha hb =
      let n : ℕ = length task.equal.items in
      record {
        within = omega (arith, hb.0);
        before = λ m lt. record {
          equal = λ within. same_before n ha m within within;
          each = λ j e more. on_before k hb.1 j (omega arith) more;
        };
        here = λ h. on_not (slice_index task.each.items k) hb.2 (h.each k refl hb.0);
      }
  states_test None None ha hb =
      let net : Net = task.graph in
      let n : ℕ = length task.equal.items in
      let m : ℕ = length task.each.items in
      record {
        left_count = fits.left;
        right_count = fits.right;
        initial = λ j fj. record {
          left = (left_fits, fj);
          right = (right_fits, fj);
          same_inputs = refl;
          initial = (
            All-map (λ (e : GraphCycle → ℕ). e (cycle left j) ≡ e (cycle right j)) (node_value net) task.equal.items
                (all_at (λ k. node_value net k (cycle left j) ≡ node_value net k (cycle right j)) task.equal.items (λ k lt. same_before n ha k lt lt j fj)),
            All-map (λ (e : GraphCycle → ℕ). (e (cycle left j) ≢ 0) × (e (cycle right j) ≢ 0)) (node_value net) task.each.items
                (all_at (λ k. (node_value net k (cycle left j) ≢ 0) × (node_value net k (cycle right j) ≢ 0)) task.each.items (λ k lt. on_before m hb k lt lt j fj)),
          );
        };
      }

-- ---- the input

module _ (task : Task) (cert : Cert) (fits : FitsCert task cert) where
  abbrev given : List Bits
  given = input_of task cert.input.items

  given_fits : IsInputOf task.graph given
  given_fits = input_fits task.graph cert.input.items fits.input

  abbrev from_left : List Bits
  from_left = values_of task.graph (state_of task cert.left.items) given

  abbrev from_right : List Bits
  from_right = values_of task.graph (state_of task cert.right.items) given

  abbrev allowed : ℕ → Bool
  allowed n = is_met from_left n && is_met from_right n

  allowed_from : (n : ℕ) → IsInputNode task.graph n → allowed n ≡ true → (s : List Bits) → IsStateOf task.graph s → node_value task.graph n (cycle s given) ≢ 0
  allowed_from n node t s fs e =
      let h : (value_at n from_left ≢ 0) × (value_at n from_right ≢ 0) = from_test (Each (value_at n)) from_left from_right true t in
      h.0 (node.1 (state_of task cert.left.items) s given (state_fits task.graph cert.left.items fits.left) fs given_fits ∙ e)

  allowed_not : (n : ℕ) → allowed n ≡ false → ((s : List Bits) → IsStateOf task.graph s → node_value task.graph n (cycle s given) ≢ 0) → ⊥
  allowed_not n t h =
      let e : allowed n ≡ true = test_from (Each (value_at n)) from_left from_right true
      (h (state_of task cert.left.items) (state_fits task.graph cert.left.items fits.left), h (state_of task cert.right.items) (state_fits task.graph cert.right.items fits.right)) in
      cc

  allowed_before : (k : ℕ) → ((m : ℕ) → m < k → allowed (slice_index task.assume.items m) ≡ true) → (m : ℕ) → m < k → m < length task.assume.items → InputMeets task cert m
  allowed_before k before m lt within = allowed_from (slice_index task.assume.items m) (task.fits.assume_is m 0 within) (before m lt)

  input_test : (a : Option ℕ) → IsFirstFailing allowed task.assume.items a → IsInputTest task cert a
  input_test (Some k) h = record {
    within = h.0;
    before = λ m lt. allowed_before k h.1 m lt (omega (arith, h.0));
    here = λ met. allowed_not (slice_index task.assume.items k) h.2 met;
  }
  input_test None h = record {
    count = fits.input;
    fits = given_fits;
    allowed = λ s fs.
        All-map (λ (e : GraphCycle → ℕ). e (cycle s given) ≢ 0) (node_value task.graph) task.assume.items
        (all_at (λ k. node_value task.graph k (cycle s given) ≢ 0) task.assume.items (λ k lt. allowed_before (length task.assume.items) h k lt lt s fs));
  }

-- the same by the simulators' values
pub states_tested : (task : Task) (cert : Cert) (lv rv : List Bits) (a b : Option ℕ) → FitsCert task cert →
    lv ≡ values_of task.graph (state_of task cert.left.items) (input_of task cert.input.items) →
    rv ≡ values_of task.graph (state_of task cert.right.items) (input_of task cert.input.items) →
    IsFirstFailing (is_same lv rv) task.equal.items a → IsFirstFailing (λ k. is_met lv k && is_met rv k) task.each.items b →
    IsStatesTest task cert (first_of a (length task.equal.items) b)
states_tested task cert lv rv a b fits el er ha hb =
    let i : List Bits = input_of task cert.input.items in
    let l : List Bits = values_of task.graph (state_of task cert.left.items) i in
    let r : List Bits = values_of task.graph (state_of task cert.right.items) i in
    states_test task cert i fits (input_fits task.graph cert.input.items fits.input) a b
    (subst (λ (x : List Bits). IsFirstFailing (is_same l x) task.equal.items a) er (subst (λ (x : List Bits). IsFirstFailing (is_same x rv) task.equal.items a) el ha))
    (subst (λ (x : List Bits). IsFirstFailing (λ k. is_met l k && is_met x k) task.each.items b) er
    (subst (λ (x : List Bits). IsFirstFailing (λ k. is_met x k && is_met rv k) task.each.items b) el hb))

pub input_tested : (task : Task) (cert : Cert) (lv rv : List Bits) (a : Option ℕ) → FitsCert task cert →
    lv ≡ values_of task.graph (state_of task cert.left.items) (input_of task cert.input.items) →
    rv ≡ values_of task.graph (state_of task cert.right.items) (input_of task cert.input.items) →
    IsFirstFailing (λ k. is_met lv k && is_met rv k) task.assume.items a → IsInputTest task cert a
input_tested task cert lv rv a fits el er h =
    let i : List Bits = input_of task cert.input.items in
    let l : List Bits = values_of task.graph (state_of task cert.left.items) i in
    input_test task cert fits a
    (subst (λ (x : List Bits). IsFirstFailing (λ k. is_met l k && is_met x k) task.assume.items a) er
    (subst (λ (x : List Bits). IsFirstFailing (λ k. is_met x k && is_met rv k) task.assume.items a) el h))

-- the certificate's own states are an initial pair, its input is allowed
pub states_met : (task : Task) (cert : Cert) → FitsCert task cert → IsStatesTest task cert None → CanBeMet task [] Initial
states_met task cert fits h =
    let i : List Bits = input_of task cert.input.items in
    (cycle (state_of task cert.left.items) i, cycle (state_of task cert.right.items) i, h.initial i (input_fits task.graph cert.input.items fits.input))

pub input_met : (task : Task) (cert : Cert) → FitsCert task cert → IsInputTest task cert None → CanBeMet task [] Allowed
input_met task cert fits h =
    let s : List Bits = state_of task cert.left.items in
    let fs : IsStateOf task.graph s = state_fits task.graph cert.left.items fits.left in
    (cycle s (input_of task cert.input.items), (fs, h.fits), h.allowed s fs)

pub met_states : (task : Task) (cert : Cert) (a : Option ℕ) → FitsCert task cert → IsStatesTest task cert a → a ≡ None → CanBeMet task [] Initial
met_states task cert a fits h e = states_met task cert fits (subst (IsStatesTest task cert) e h)

pub met_input : (task : Task) (cert : Cert) (a : Option ℕ) → FitsCert task cert → IsInputTest task cert a → a ≡ None → CanBeMet task [] Allowed
met_input task cert a fits h e = input_met task cert fits (subst (IsInputTest task cert) e h)
