-- What holds at a moment by the values of the nodes, and what a pair refutes.
use Rattle.std.proofs.Common.{◌≡◌, ℕ, ◌+◌, ◌<◌, ◌≤◌, nat_eq, cond, Bool, true, false, not, ◌&&◌, List, [], ◌∷◌, ◌++◌, length, map, get_or, take, refl, sym, ◌∙◌, ap, subst, arith, ◌⊎◌, inl, inr, ◌↔◌}
use Rattle.std.specs.Prelude.{All, slice_get, Option, Some, None, if◌then◌else◌, option_map, Result, Ok, Err, IfOk}
use Rattle.std.specs.List.{filter}
use Rattle.std.proofs.lemmas.List.Elements.{All-filter, filter_more}
use Rattle.std.proofs.lemmas.List.Kept.{IsStrictlyIncreasing-filter}
use Rattle.std.proofs.lemmas.List.Sums.{sum_by-cons}
use Rattle.std.proofs.lemmas.Option.{slice_get-map, slice_get-get_or}
use Rattle.lv_bits.specs.Words.{Bits}
use Rattle.lv_model.specs.Machine.{SomeFails, KeepsUnfailed, aligned_after}
use Rattle.lv_model.specs.Meeting.{IsMetBy}
use Rattle.lv_model.specs.Design.{Candidate as SeenCandidate, CandidateHolds, MaybeHolds, row_of, values, holds_test}
use Rattle.lv_model.specs.Stepper.{Stepper, unrolled}
use Rattle.lv_model.proofs.Inductive.{base_drops, step_drops}
use Rattle.lv_model.proofs.Tests.{test_from, from_test}
use Rattle.lv_netlist.specs.Net.{Net}
use Rattle.lv_netlist.specs.Run.{values_of, next_state}
use Rattle.lv_netlist.specs.Fits.{FitsState, FitsInputs}
use Rattle.lv_netlist.specs.Stepping.{GraphCycle, stepper_of, node_value}
use Rattle.lv_netlist.specs.declared.graph.Inputs.{Inputs}
use Rattle.lv_unroll.specs.declared.rows.Port.{Port}
use Rattle.lv_product.specs.declared.task.Task.{Task}
use Rattle.lv_product.specs.declared.task.Candidate.{Candidate}
use Rattle.lv_product.specs.declared.task.Candidate.TheVariants.{Eq, When, Each, Aligned}
use Rattle.lv_product.specs.declared.task.Query.TheVariants.{Base, Step}
use Rattle.lv_product.specs.Values.{value_at, is_met, holds_at, maybe_test}
use Rattle.lv_product.specs.Queries.{task_machine, asked, FitsKept, candidate_by, port_by}
use Rattle.lv_product.specs.Pairs.{words_of}
use Rattle.lv_learner.specs.Cuts.{cycle}
use Rattle.lv_learner.specs.Meeting.{HasAllInductive}
use Rattle.lv_learner.specs.Dropping.{retired, IsDropped}
use Rattle.lv_learner.proofs.Kept.{filter_within, filter_keeps, filter_fewer}

-- ---- tests

-- by the values of a cycle's nodes a candidate holds exactly where it does in the cycle
same_candidate : (net : Net) (c : Candidate) (l r : GraphCycle) (a : Bool) →
    CandidateHolds (candidate_by (node_value net) c) l r a ↔ CandidateHolds (candidate_by value_at c) (values_of net l.state l.input) (values_of net r.state r.input) a
same_candidate net (Eq e) l r a = (λ h. h, λ h. h)
same_candidate net (When guard e) l r a = (λ h. h, λ h. h)
same_candidate net (Each p) l r a = (λ h. h, λ h. h)
same_candidate net Aligned l r a = (λ h. h, λ h. h)

maybe_holds : (net : Net) (c : Option Candidate) (l r : GraphCycle) (a : Bool) →
    maybe_test c (values_of net l.state l.input) (values_of net r.state r.input) a ≡ true → MaybeHolds (option_map (candidate_by (node_value net)) c) l r a
maybe_holds net None l r a h = cc
maybe_holds net (Some c) l r a h =
    (same_candidate net c l r a).1 (from_test (candidate_by value_at c) (values_of net l.state l.input) (values_of net r.state r.input) a h)

maybe_fails : (net : Net) (c : Option Candidate) (l r : GraphCycle) (a : Bool) →
    maybe_test c (values_of net l.state l.input) (values_of net r.state r.input) a ≡ false → MaybeHolds (option_map (candidate_by (node_value net)) c) l r a → ⊥
maybe_fails net None l r a h holds = holds
maybe_fails net (Some c) l r a h holds =
    let t = test_from (candidate_by value_at c) (values_of net l.state l.input) (values_of net r.state r.input) a ((same_candidate net c l r a).0 holds) in cc

-- the test of members at a moment of two cycles
abbrev pub test_at : Task → GraphCycle → GraphCycle → Bool → ℕ → Bool
test_at task l r a = holds_at task.candidates.items (values_of task.graph l.state l.input) (values_of task.graph r.state r.input) a

member_holds : (task : Task) (l r : GraphCycle) (a : Bool) (k : ℕ) → test_at task l r a k ≡ true → (task_machine task).Holds k l r a
member_holds task l r a k h =
    subst (λ (c : Option (SeenCandidate GraphCycle)). MaybeHolds c l r a) (sym (slice_get-map (candidate_by (node_value task.graph)) task.candidates.items k))
    (maybe_holds task.graph (slice_get task.candidates.items k) l r a h)

member_fails : (task : Task) (l r : GraphCycle) (a : Bool) (k : ℕ) → test_at task l r a k ≡ false → (task_machine task).Holds k l r a → ⊥
member_fails task l r a k h holds =
    maybe_fails task.graph (slice_get task.candidates.items k) l r a h
    (subst (λ (c : Option (SeenCandidate GraphCycle)). MaybeHolds c l r a) (slice_get-map (candidate_by (node_value task.graph)) task.candidates.items k) holds)

-- each member that is not kept fails
keeps_unfailed : (task : Task) (s : List ℕ) (l r : GraphCycle) (a : Bool) → KeepsUnfailed (task_machine task) s (filter (test_at task l r a) s) l r a
keeps_unfailed task s l r a k inside =
    elim (filter_keeps (test_at task l r a) s k inside) [ inl h ↦ inl h | inr e ↦ inr (member_fails task l r a k e) ]

bool_cases : (b : Bool) → (b ≡ true) ⊎ (b ≡ false)
bool_cases true = inl refl
bool_cases false = inr refl

-- what is dropped where some member fails
dropped : (task : Task) (s : List ℕ) (l r : GraphCycle) (a : Bool) → FitsKept task s → SomeFails (task_machine task) s l r a →
    (HasAllInductive task s → HasAllInductive task (filter (test_at task l r a) s)) → IsDropped task s (filter (test_at task l r a) s)
dropped task s l r a fits (k, inside, fails) above =
    let p : ℕ → Bool = test_at task l r a in
    let e : p k ≡ false = elim (bool_cases (p k)) [ inl t ↦ absurd (fails (member_holds task l r a k t)) | inr f ↦ f ] in
    record {
      fits = record { rising = IsStrictlyIncreasing-filter p s fits.rising; in_range = All-filter p (λ (j : ℕ). j < length task.candidates.items) s fits.in_range };
      fewer = filter_fewer p s k inside e;
      within = filter_within p s;
      above = above;
    }

-- ---- the moments of a pair

-- whatever the inputs, a pair that meets Base has some, and refutes a member at its first moment
base_facts : (task : Task) (s : List ℕ) (left right i : List Bits) (is : List (List Bits)) (a : Bool) → FitsKept task s →
    IsMetBy (task_machine task) task.lookahead s (asked Base) (unrolled (stepper_of task.graph) left (i ∷ is)) (unrolled (stepper_of task.graph) right (i ∷ is)) a →
    IsDropped task s (filter (test_at task (cycle left i) (cycle right i) a) s)
base_facts task s left right i is a fits (initial, true_is, fails) =
    let P : Bool → Type 0 = λ b. IsDropped task s (filter (test_at task (cycle left i) (cycle right i) b) s) in
    subst P (sym true_is)
    (dropped task s (cycle left i) (cycle right i) true fits fails
    (λ above t inductive.
    base_drops (task_machine task) task.lookahead s (filter (test_at task (cycle left i) (cycle right i) true) s) t (cycle left i) (cycle right i) initial
    (keeps_unfailed task s (cycle left i) (cycle right i) true) inductive (above t inductive)))

one_port : (b : Bool) (shown : List ℕ) (rest : List (List ℕ)) (n : ℕ) → length rest ≡ n →
    length ((if b then [] else shown ∷ []) ++ rest) ≡ cond (not b) 1 0 + n
one_port true shown rest n e = omega (arith, e)
one_port false shown rest n e = omega (arith, e)

-- as many entries as ports retire
row_length : (net : Net) (ports : List Port) (c : GraphCycle) → length (row_of (map (port_by (node_value net)) ports) c) ≡ retired ports (values_of net c.state c.input)
row_length net [] c = refl
row_length net (p ∷ ps) c =
    let vs : List Bits = values_of net c.state c.input in
    let test : Port → Bool = λ q. is_met vs q.retire in
    one_port (nat_eq (value_at p.retire vs) 0) (values (map (node_value net) p.contract.items) c) (row_of (map (port_by (node_value net)) ps) c)
    (retired ps vs) (row_length net ps c) ∙
    sym (sum_by-cons (λ (q : Port). cond (test q) 1 0) p ps)

-- the next moment's truth value, by the ports that retire
after_is : (task : Task) (l r : GraphCycle) (a : Bool) →
    aligned_after (task_machine task) l r a ≡
    (a && nat_eq (retired task.ports.items (values_of task.graph l.state l.input)) (retired task.ports.items (values_of task.graph r.state r.input)))
after_is task l r a =
    ap (λ (n : ℕ). a && nat_eq n (length ((task_machine task).row r))) (row_length task.graph task.ports.items l) ∙
    ap (λ (n : ℕ). a && nat_eq (retired task.ports.items (values_of task.graph l.state l.input)) n) (row_length task.graph task.ports.items r)

step_facts : (task : Task) (s : List ℕ) (left right i j : List Bits) (is : List (List Bits)) (a : Bool) → FitsKept task s →
    IsMetBy (task_machine task) task.lookahead s (asked Step) (unrolled (stepper_of task.graph) left (i ∷ j ∷ is)) (unrolled (stepper_of task.graph) right (i ∷ j ∷ is)) a →
    let l' = cycle (next_state task.graph (values_of task.graph left i)) j in
    let r' = cycle (next_state task.graph (values_of task.graph right i)) j in
    IsDropped task s (filter (test_at task l' r' (aligned_after (task_machine task) (cycle left i) (cycle right i) a)) s)
step_facts task s left right i j is a fits (window, all, fails) =
    let t : Stepper (List Bits) (List Bits) = stepper_of task.graph in
    let l : GraphCycle = cycle left i in
    let r : GraphCycle = cycle right i in
    let l' : GraphCycle = cycle (next_state task.graph (values_of task.graph left i)) j in
    let r' : GraphCycle = cycle (next_state task.graph (values_of task.graph right i)) j in
    let b : Bool = aligned_after (task_machine task) l r a in
    let ls : List GraphCycle = unrolled t (t.next l'.state j) is in
    let rs : List GraphCycle = unrolled t (t.next r'.state j) is in
    dropped task s l' r' b fits fails
    (λ above u inductive.
    step_drops (task_machine task) task.lookahead s (filter (test_at task l' r' b) s) u l l' ls r r' rs a window all
    (keeps_unfailed task s l' r' b) inductive (above u inductive))

-- what a pair that meets Base or Step has
pub base_dropped : (task : Task) (s : List ℕ) (left right : List Bits) (inputs : List Inputs) (a : Bool) (x : Inputs) → FitsKept task s →
    IsMetBy (task_machine task) task.lookahead s (asked Base) (unrolled (stepper_of task.graph) left (words_of inputs))
    (unrolled (stepper_of task.graph) right (words_of inputs)) a →
    x ≡ get_or inputs 0 x →
    IsDropped task s (filter (holds_at task.candidates.items (values_of task.graph left x.words.items) (values_of task.graph right x.words.items) a) s)
base_dropped task s left right [] a x fits h e = absurd h
base_dropped task s left right (i ∷ is) a x fits h e =
    let net : Net = task.graph in
    let P : Inputs → Type 0 = λ y. IsDropped task s (filter (holds_at task.candidates.items (values_of net left y.words.items) (values_of net right y.words.items) a) s) in
    subst P (sym e) (base_facts task s left right i.words.items (words_of is) a fits h)

pub step_dropped : (task : Task) (s : List ℕ) (left right : List Bits) (inputs : List Inputs) (a : Bool) (x y : Inputs) → FitsKept task s →
    IsMetBy (task_machine task) task.lookahead s (asked Step) (unrolled (stepper_of task.graph) left (words_of inputs))
    (unrolled (stepper_of task.graph) right (words_of inputs)) a →
    x ≡ get_or inputs 0 x → y ≡ get_or inputs 1 y →
    let net = task.graph in
    let l = values_of net left x.words.items in
    let r = values_of net right x.words.items in
    IsDropped task s (filter (holds_at task.candidates.items (values_of net (next_state net l) y.words.items) (values_of net (next_state net r) y.words.items)
    (a && nat_eq (retired task.ports.items l) (retired task.ports.items r))) s)
step_dropped task s left right [] a x y fits h e f = absurd h
step_dropped task s left right (i ∷ []) a x y fits h e f = absurd h
step_dropped task s left right (i ∷ j ∷ is) a x y fits h e f =
    let net : Net = task.graph in
    let v : Inputs → List Bits = λ z. values_of net left z.words.items in
    let w : Inputs → List Bits = λ z. values_of net right z.words.items in
    let P : Inputs → Inputs → Bool → Type 0 = λ x y b.
    IsDropped task s (filter (holds_at task.candidates.items (values_of net (next_state net (v x)) y.words.items) (values_of net (next_state net (w x)) y.words.items) b) s) in
    let Q : Inputs → Bool = λ x. a && nat_eq (retired task.ports.items (v x)) (retired task.ports.items (w x)) in
    let b : aligned_after (task_machine task) (cycle left i.words.items) (cycle right i.words.items) a ≡ Q i = after_is task (cycle left i.words.items) (cycle right i.words.items) a in
    let base : P i j (Q i) = subst (P i j) b (step_facts task s left right i.words.items j.words.items (words_of is) a fits h) in
    subst (λ (z : Inputs). P z y (Q z)) (sym e) (subst (λ (z : Inputs). P i z (Q i)) (sym f) base)

pub record Needs (net : Net) (left right : List Bits) (inputs : List Inputs) (n : ℕ) : Type 0 where
  pub left_fits : FitsState net left
  pub right_fits : FitsState net right
  pub many : n ≤ length inputs
  pub first : (x : Inputs) → x ≡ get_or inputs 0 x → FitsInputs net x.words.items
  pub second : (x : Inputs) → 2 ≤ n → x ≡ get_or inputs 1 x → FitsInputs net x.words.items

pub base_needs : (task : Task) (s : List ℕ) (left right : List Bits) (inputs : List Inputs) (a : Bool) →
    IsMetBy (task_machine task) task.lookahead s (asked Base) (unrolled (stepper_of task.graph) left (words_of inputs))
    (unrolled (stepper_of task.graph) right (words_of inputs)) a →
    Needs task.graph left right inputs 1
base_needs task s left right [] a h = absurd h
base_needs task s left right (i ∷ is) a (initial, true_is, fails) =
    record {
      left_fits = initial.left.0.0;
      right_fits = initial.right.0.0;
      many = omega arith;
      first = λ x e. subst (λ (z : Inputs). FitsInputs task.graph z.words.items) (sym e) initial.left.1.0;
      second = λ x two e. absurd (omega arith);
    }

pub step_needs : (task : Task) (s : List ℕ) (left right : List Bits) (inputs : List Inputs) (a : Bool) →
    IsMetBy (task_machine task) task.lookahead s (asked Step) (unrolled (stepper_of task.graph) left (words_of inputs))
    (unrolled (stepper_of task.graph) right (words_of inputs)) a →
    Needs task.graph left right inputs 2
step_needs task s left right [] a h = absurd h
step_needs task s left right (i ∷ []) a h = absurd h
step_needs task s left right (i ∷ j ∷ is) a (window, all, fails) =
    record {
      left_fits = window.left.0.0.0;
      right_fits = window.right.0.0.0;
      many = omega arith;
      first = λ x e. subst (λ (z : Inputs). FitsInputs task.graph z.words.items) (sym e) window.left.0.1.0;
      second = λ x two e. subst (λ (z : Inputs). FitsInputs task.graph z.words.items) (sym e) window.left.2.0.1.0;
    }

-- ---- the code's tests

pub held_step : (candidates : List Candidate) (ls rs : List Bits) (a : Bool) (xs ys : List ℕ) (i : ℕ) (c : Candidate) (b : Bool) (out more : List ℕ) →
    ys ≡ xs → i < length ys → All (λ (k : ℕ). k < length candidates) xs → c ≡ get_or candidates (get_or ys i 0) c →
    b ≡ holds_test (candidate_by value_at c) ls rs a → out ≡ filter (holds_at candidates ls rs a) (take i xs) → more ≡ out ++ cond b (get_or ys i 0 ∷ []) [] →
    more ≡ filter (holds_at candidates ls rs a) (take (i + 1) xs)
held_step candidates ls rs a xs ys i c b out more same lt range is test before grown =
    let p : ℕ → Bool = holds_at candidates ls rs a in
    let lt' : i < length xs = subst (λ (zs : List ℕ). i < length zs) same lt in
    let k : ℕ = get_or xs i 0 in
    let kk : get_or ys i 0 ≡ k = ap (λ (zs : List ℕ). get_or zs i 0) same in
    let within : k < length candidates = range i 0 lt' in
    let is' : c ≡ get_or candidates k c = is ∙ ap (λ (j : ℕ). get_or candidates j c) kk in
    let got : slice_get candidates k ≡ Some c = slice_get-get_or candidates k c within ∙ ap Some (sym is') in
    let pk : p k ≡ b = ap (λ (o : Option Candidate). maybe_test o ls rs a) got ∙ sym test in
    let f : filter p (take (i + 1) xs) ≡ filter p (take i xs) ++ cond (p k) (k ∷ []) [] = filter_more p xs i 0 lt' in
    grown ∙
    (ap (λ (o : List ℕ). o ++ cond b (get_or ys i 0 ∷ []) []) before ∙
    (ap (λ (j : ℕ). filter p (take i xs) ++ cond b (j ∷ []) []) kk ∙
    (ap (λ (z : Bool). filter p (take i xs) ++ cond z (k ∷ []) []) (sym pk) ∙ sym f)))

pub and_true : (b c x : Bool) → b ≡ true → x ≡ c → x ≡ (b && c)
and_true true c x e f = f
and_true false c x e f = cc

pub and_false : (b c x : Bool) → b ≡ false → x ≡ false → x ≡ (b && c)
and_false true c x e f = cc
and_false false c x e f = f

pub moved : (candidates : List Candidate) (s : List ℕ) (l l' r r' : List Bits) (a a' : Bool) → l ≡ l' → r ≡ r' → a ≡ a' →
    filter (holds_at candidates l r a) s ≡ filter (holds_at candidates l' r' a') s
moved candidates s l l' r r' a a' e f g =
    ap (λ (x : List Bits). filter (holds_at candidates x r a) s) e ∙
    (ap (λ (x : List Bits). filter (holds_at candidates l' x a) s) f ∙ ap (λ (x : Bool). filter (holds_at candidates l' r' x) s) g)

pub if_ok : {X E : Type 0} (r : Result X E) (P Q : X → Type 0) → ((x : X) → P x → Q x) → IfOk r P → IfOk r Q
if_ok (Ok x) P Q f h = f x h
if_ok (Err e) P Q f h = tt
