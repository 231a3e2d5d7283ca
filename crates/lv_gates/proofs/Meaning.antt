-- What the clauses of a graph mean.
use Rattle.std.proofs.Common.{◌≡◌, ◌≢◌, ℕ, ◌+◌, ◌-◌, ◌<◌, ◌≤◌, inl, inr, Bool, true, false, not, ◌&&◌, ◌||◌, if◌then◌else◌, ◌==◌, List, [], ◌∷◌, ◌++◌, length, map, refl, sym, ◌∙◌, ap, subst, arith, Option, Some, None, IsTrue, zero, suc, ◌*◌, cond, length-append}
use Rattle.std.specs.Prelude.{count_by, is_some}
use Rattle.std.proofs.lemmas.List.Sums.{sum_by-cons}
use Rattle.std.proofs.lemmas.Bool.{cases_lt, eqb-true}
use Rattle.lv_aig.specs.declared.edge.Edge.{Edge}
use Rattle.lv_aig.specs.declared.edge.Gate.{Gate}
use Rattle.lv_aig.specs.Edges.{Nodes, gate_at, edge_bit, IsGraph}
use Rattle.std.specs.List.{list_all}
use Rattle.lv_clauses.specs.Sets.{SetValue}
use Rattle.lv_clauses.specs.Values.{is_satisfied, Satisfies}
use Rattle.lv_clauses.specs.Decided.{signed, partial_value, rests, AreAtRest}
use Rattle.lv_gates.specs.Lists.{yes, no, lit_of, three, clauses_from, goal_clauses, goal_vars}
use Rattle.lv_clauses.specs.Sizes.{HasNoEmpty}
use Rattle.lv_gates.specs.Encodes.{HasInputs, Encodes, CountsGates}
use Rattle.lv_clauses.specs.Literals.{Lit}

abbrev any_true : List Bool → Bool
any_true [] = false
any_true (b ∷ bs) = b || any_true bs

abbrev pub AllMet : (ℕ → Bool) → List (List Lit) → Type 0
AllMet values [] = Unit {0}
AllMet values (c ∷ cs) = IsTrue (is_satisfied values c) × AllMet values cs

abbrev pub AllRest : (ℕ → Option Bool) → List (List Lit) → Type 0
AllRest known [] = Unit {0}
AllRest known (c ∷ cs) = IsTrue (rests (map (partial_value known) c)) × AllRest known cs

left_of : (a b : Bool) → (a && b) ≡ true → a ≡ true
left_of true b h = refl
left_of false b h = h

right_of : (a b : Bool) → (a && b) ≡ true → b ≡ true
right_of true b h = h
right_of false b h = absurd (let f : false ≡ true = h in cc)

both_of : (a b : Bool) → a ≡ true → b ≡ true → (a && b) ≡ true
both_of true b p q = q
both_of false b p q = p

met_from : (v : ℕ → Bool) (cs : List (List Lit)) → Satisfies v cs → AllMet v cs
met_from v [] h = tt
met_from v (c ∷ cs) h = (left_of (is_satisfied v c) (list_all (is_satisfied v) cs) h, met_from v cs (right_of (is_satisfied v c) (list_all (is_satisfied v) cs) h))

satisfies_from : (v : ℕ → Bool) (cs : List (List Lit)) → AllMet v cs → Satisfies v cs
satisfies_from v [] h = refl
satisfies_from v (c ∷ cs) h = both_of (is_satisfied v c) (list_all (is_satisfied v) cs) h.0 (satisfies_from v cs h.1)

abbrev rest_test : (ℕ → Option Bool) → List Lit → Bool
rest_test known c = rests (map (partial_value known) c)

rest_from : (known : ℕ → Option Bool) (cs : List (List Lit)) → AreAtRest known cs → AllRest known cs
rest_from known [] h = tt
rest_from known (c ∷ cs) h = (left_of (rest_test known c) (list_all (rest_test known) cs) h, rest_from known cs (right_of (rest_test known c) (list_all (rest_test known) cs) h))

pub met_append : (v : ℕ → Bool) (xs ys : List (List Lit)) → AllMet v xs → AllMet v ys → AllMet v (xs ++ ys)
met_append v [] ys p q = q
met_append v (x ∷ xs) ys p q = (p.0, met_append v xs ys p.1 q)

pub met_left : (v : ℕ → Bool) (xs ys : List (List Lit)) → AllMet v (xs ++ ys) → AllMet v xs
met_left v [] ys p = tt
met_left v (x ∷ xs) ys p = (p.0, met_left v xs ys p.1)

pub met_right : (v : ℕ → Bool) (xs ys : List (List Lit)) → AllMet v (xs ++ ys) → AllMet v ys
met_right v [] ys p = p
met_right v (x ∷ xs) ys p = met_right v xs ys p.1

pub rest_left : (v : ℕ → Option Bool) (xs ys : List (List Lit)) → AllRest v (xs ++ ys) → AllRest v xs
rest_left v [] ys p = tt
rest_left v (x ∷ xs) ys p = (p.0, rest_left v xs ys p.1)

pub rest_right : (v : ℕ → Option Bool) (xs ys : List (List Lit)) → AllRest v (xs ++ ys) → AllRest v ys
rest_right v [] ys p = p
rest_right v (x ∷ xs) ys p = rest_right v xs ys p.1

-- the value of an edge, by the value of its node
abbrev turned : Bool → Bool → Bool
turned neg b = if neg then not b else b

turned_not : (m x : Bool) → turned (not m) x ≡ not (turned m x)
turned_not true true = refl
turned_not true false = refl
turned_not false true = refl
turned_not false false = refl

-- a gate is both of its edges exactly where its three clauses are met
sound_core : (x y z : Bool) → IsTrue (any_true (x ∷ not z ∷ [])) → IsTrue (any_true (y ∷ not z ∷ [])) → IsTrue (any_true (not x ∷ not y ∷ z ∷ [])) → z ≡ (x && y)
sound_core true true true a b c = refl
sound_core true true false a b c = cc
sound_core true false true a b c = cc
sound_core true false false a b c = refl
sound_core false true true a b c = cc
sound_core false true false a b c = refl
sound_core false false true a b c = cc
sound_core false false false a b c = refl

complete_core : (x y z : Bool) → z ≡ (x && y) → IsTrue (any_true (x ∷ not z ∷ [])) × IsTrue (any_true (y ∷ not z ∷ [])) × IsTrue (any_true (not x ∷ not y ∷ z ∷ []))
complete_core true true true e = (refl, refl, refl)
complete_core true true false e = cc
complete_core true false true e = cc
complete_core true false false e = (refl, refl, refl)
complete_core false true true e = cc
complete_core false true false e = (refl, refl, refl)
complete_core false false true e = cc
complete_core false false false e = (refl, refl, refl)

flip : Option Bool → Option Bool
flip (Some b) = Some (not b)
flip None = None

signed_not : (m : Bool) (p : Option Bool) → signed (not m) p ≡ flip (signed m p)
unfolding flip
signed_not m None = refl
signed_not true (Some true) = refl
signed_not true (Some false) = refl
signed_not false (Some true) = refl
signed_not false (Some false) = refl

signed_some : (m : Bool) (p : Option Bool) → p ≢ None → signed m p ≢ None
signed_some m None h = absurd (h refl)
signed_some m (Some b) h = λ e. cc

-- a gate whose edges have values has one, where its clauses rest
decided_core : (p q r : Option Bool) → p ≢ None → q ≢ None → IsTrue (rests (p ∷ signed true r ∷ [])) → IsTrue (rests (q ∷ signed true r ∷ [])) → IsTrue (rests (flip p ∷ flip q ∷ signed false r ∷ [])) → r ≢ None
unfolding flip
decided_core None q r hp hq a b c = absurd (hp refl)
decided_core (Some x) None r hp hq a b c = absurd (hq refl)
decided_core (Some x) (Some y) (Some z) hp hq a b c = λ e. cc
decided_core (Some true) (Some true) None hp hq a b c = absurd (let f : false ≡ true = c in cc)
decided_core (Some true) (Some false) None hp hq a b c = absurd (let f : false ≡ true = b in cc)
decided_core (Some false) (Some y) None hp hq a b c = absurd (let f : false ≡ true = a in cc)

pub gate_sound : (v : ℕ → Bool) (k : ℕ) (g : Gate) → AllMet v (three k g) → v k ≡ (edge_bit v g.left && edge_bit v g.right)
gate_sound v k g h =
    sound_core (edge_bit v g.left) (edge_bit v g.right) (v k) h.0 h.1.0
    (subst (λ (b : Bool). IsTrue (any_true (b ∷ not (edge_bit v g.right) ∷ v k ∷ []))) (turned_not g.left.neg (v g.left.node))
    (subst (λ (b : Bool). IsTrue (any_true (turned (not g.left.neg) (v g.left.node) ∷ b ∷ v k ∷ []))) (turned_not g.right.neg (v g.right.node)) h.1.1.0))

pub gate_complete : (v : ℕ → Bool) (k : ℕ) (g : Gate) → v k ≡ (edge_bit v g.left && edge_bit v g.right) → AllMet v (three k g)
gate_complete v k g e =
    let t = complete_core (edge_bit v g.left) (edge_bit v g.right) (v k) e in (
      t.0,
      (
        t.1,
        (
          subst (λ (b : Bool). IsTrue (any_true (turned (not g.left.neg) (v g.left.node) ∷ b ∷ v k ∷ []))) (sym (turned_not g.right.neg (v g.right.node)))
              (subst (λ (b : Bool). IsTrue (any_true (b ∷ not (edge_bit v g.right) ∷ v k ∷ []))) (sym (turned_not g.left.neg (v g.left.node))) t.2),
          tt,
        ),
      ),
    )

pub gate_decided : (known : ℕ → Option Bool) (k : ℕ) (g : Gate) → known g.left.node ≢ None → known g.right.node ≢ None → AllRest known (three k g) → known k ≢ None
gate_decided known k g hl hr h =
    let p = signed g.left.neg (known g.left.node) in
    let q = signed g.right.neg (known g.right.node) in
    decided_core p q (known k) (signed_some g.left.neg (known g.left.node) hl) (signed_some g.right.neg (known g.right.node) hr) h.0 h.1.0
    (subst (λ (o : Option Bool). IsTrue (rests (o ∷ flip q ∷ signed false (known k) ∷ []))) (signed_not g.left.neg (known g.left.node))
    (subst (λ (o : Option Bool). IsTrue (rests (signed (not g.left.neg) (known g.left.node) ∷ o ∷ signed false (known k) ∷ []))) (signed_not g.right.neg (known g.right.node)) h.1.1.0))

pub sound : (v : ℕ → Bool) (k : ℕ) (ns : Nodes) → AllMet v (clauses_from k ns) → (j : ℕ) (g : Gate) → j < length ns → gate_at ns j ≡ Some g → v (k + j) ≡ (edge_bit v g.left && edge_bit v g.right)
sound v k [] h j g lt e = absurd (omega arith)
sound v k (None ∷ ns) h zero g lt e = cc
sound v k (None ∷ ns) h (suc j) g lt e =
    let p : (k + 1) + j ≡ k + suc j = omega arith in
    subst (λ (i : ℕ). v i ≡ (edge_bit v g.left && edge_bit v g.right)) p (sound v (k + 1) ns h j g (omega arith) e)
sound v k (Some f ∷ ns) h zero g lt e =
    let p : f ≡ g = cc in
    let q : k ≡ k + 0 = omega arith in
    subst (λ (i : ℕ). v i ≡ (edge_bit v g.left && edge_bit v g.right)) q (subst (λ (g : Gate). v k ≡ (edge_bit v g.left && edge_bit v g.right)) p (gate_sound v k f (met_left v (three k f) (clauses_from (k + 1) ns) h)))
sound v k (Some f ∷ ns) h (suc j) g lt e =
    let p : (k + 1) + j ≡ k + suc j = omega arith in
    subst (λ (i : ℕ). v i ≡ (edge_bit v g.left && edge_bit v g.right)) p (sound v (k + 1) ns (met_right v (three k f) (clauses_from (k + 1) ns) h) j g (omega arith) e)

pub complete : (v : ℕ → Bool) (k : ℕ) (ns : Nodes) → ((j : ℕ) (g : Gate) → j < length ns → gate_at ns j ≡ Some g → v (k + j) ≡ (edge_bit v g.left && edge_bit v g.right)) → AllMet v (clauses_from k ns)
complete v k [] h = tt
complete v k (None ∷ ns) h = complete v (k + 1) ns (λ j g lt e.
    let p : k + suc j ≡ (k + 1) + j = omega arith in
    subst (λ (i : ℕ). v i ≡ (edge_bit v g.left && edge_bit v g.right)) p (h (suc j) g (omega arith) e))
complete v k (Some f ∷ ns) h =
    let q : k + 0 ≡ k = omega arith in
    met_append v (three k f) (clauses_from (k + 1) ns)
    (gate_complete v k f (subst (λ (i : ℕ). v i ≡ (edge_bit v f.left && edge_bit v f.right)) q (h 0 f (omega arith) refl)))
    (complete v (k + 1) ns (λ j g lt e.
    let p : k + suc j ≡ (k + 1) + j = omega arith in
    subst (λ (i : ℕ). v i ≡ (edge_bit v g.left && edge_bit v g.right)) p (h (suc j) g (omega arith) e)))

-- what is known below k + 1
one_more : (P : ℕ → Type 0) (k : ℕ) → ((i : ℕ) → 1 ≤ i → i < k → P i) → (1 ≤ k → P k) → (i : ℕ) → 1 ≤ i → i < k + 1 → P i
one_more P k old last i some lt =
    elim (cases_lt i k) [ inl less ↦ old i some less | inr ge ↦ let e : k ≡ i = omega arith in subst P e (last (omega arith)) ]

-- gates in order get their values one after another
pub decided : (known : ℕ → Option Bool) (k : ℕ) (ns : Nodes) → AllRest known (clauses_from k ns) → ((i : ℕ) → 1 ≤ i → i < k → known i ≢ None) → ((j : ℕ) → j < length ns → gate_at ns j ≡ None → 1 ≤ k + j → known (k + j) ≢ None) → ((j : ℕ) (g : Gate) → j < length ns → gate_at ns j ≡ Some g → (0 < g.left.node) × (g.left.node < g.right.node) × (g.right.node < k + j)) → (i : ℕ) → 1 ≤ i → i < k + length ns → known i ≢ None
decided known k [] h base open_ rise i some lt = base i some (omega arith)
decided known k (None ∷ ns) h base open_ rise i some lt =
    let z : k + 0 ≡ k = omega arith in
    decided known (k + 1) ns h
    (one_more (λ (i : ℕ). known i ≢ None) k base (λ some. subst (λ (i : ℕ). known i ≢ None) z (open_ 0 (omega arith) refl (omega arith))))
    (λ j lt e s. let p : k + suc j ≡ (k + 1) + j = omega arith in subst (λ (i : ℕ). known i ≢ None) p (open_ (suc j) (omega arith) e (omega arith)))
    (λ j g lt e. let r = rise (suc j) g (omega arith) e in (r.0, r.1, omega (arith, r.2)))
    i some (omega arith)
decided known k (Some f ∷ ns) h base open_ rise i some lt =
    let r = rise 0 f (omega arith) refl in
    decided known (k + 1) ns (rest_right known (three k f) (clauses_from (k + 1) ns) h)
    (one_more (λ (i : ℕ). known i ≢ None) k base (λ some. gate_decided known k f (base f.left.node (omega (arith, r)) (omega (arith, r))) (base f.right.node (omega (arith, r)) (omega (arith, r))) (rest_left known (three k f) (clauses_from (k + 1) ns) h)))
    (λ j lt e s. let p : k + suc j ≡ (k + 1) + j = omega arith in subst (λ (i : ℕ). known i ≢ None) p (open_ (suc j) (omega arith) e (omega arith)))
    (λ j g lt e. let r = rise (suc j) g (omega arith) e in (r.0, r.1, omega (arith, r.2)))
    i some (omega arith)

bit_of : (b : Bool) → IsTrue (b || false) → b ≡ true
bit_of true h = refl
bit_of false h = cc

of_bit : (b : Bool) → b ≡ true → IsTrue (b || false)
of_bit true h = refl
of_bit false h = cc

clash : (b : Bool) → IsTrue (b || false) → IsTrue (not b || false) → ⊥
clash true p q = cc
clash false p q = cc

known_of : (o : Option Bool) → IsTrue (rests (signed false o ∷ [])) → o ≢ None
known_of None h = absurd (let f : false ≡ true = h in cc)
known_of (Some b) h = λ e. cc

abbrev goals_by : Bool → ℕ → Edge → List (List Lit)
goals_by b vars goal = if b then (if goal.neg then [] else ((yes vars ∷ []) ∷ (no vars ∷ []) ∷ [])) else ((lit_of goal ∷ []) ∷ [])

abbrev vars_by : Bool → ℕ → Bool → ℕ
vars_by b nodes neg = if b && not neg then nodes else nodes - 1

goal_sound : (v : ℕ → Bool) (n : ℕ) (b : Bool) (node : ℕ) (neg : Bool) → (b ≡ true → node ≡ 0) → v 0 ≡ false → AllMet v (goals_by b n (record { node = node; neg = neg })) → edge_bit v (record { node = node; neg = neg }) ≡ true
goal_sound v n true node true at z h = rw (at refl, z) refl
goal_sound v n true node false at z h = absurd (clash (v n) h.0 h.1.0)
goal_sound v n false node neg at z h = bit_of (edge_bit v (record { node = node; neg = neg })) h.0

goal_complete : (v : ℕ → Bool) (n : ℕ) (b : Bool) (node : ℕ) (neg : Bool) → (b ≡ true → node ≡ 0) → v 0 ≡ false → edge_bit v (record { node = node; neg = neg }) ≡ true → AllMet v (goals_by b n (record { node = node; neg = neg }))
goal_complete v n true node true at z h = tt
goal_complete v n true node false at z h = absurd (let f : false ≡ true = sym z ∙ (ap v (sym (at refl)) ∙ h) in cc)
goal_complete v n false node neg at z h = (of_bit (edge_bit v (record { node = node; neg = neg })) h, tt)

goal_decided : (known : ℕ → Option Bool) (n vars : ℕ) (b : Bool) (node : ℕ) (neg : Bool) → vars ≡ vars_by b n neg → AllRest known (goals_by b vars (record { node = node; neg = neg })) → ((i : ℕ) → 1 ≤ i → i < n → known i ≢ None) → (i : ℕ) → 1 ≤ i → i ≤ vars → known i ≢ None
goal_decided known n vars true node true is h below i some le = below i some (omega (arith, is))
goal_decided known n vars true node false is h below i some le =
    elim (cases_lt i n) [
      | inl less ↦ below i some less
      | inr ge ↦ let e : vars ≡ i = omega (arith, is) in subst (λ (k : ℕ). known k ≢ None) e (known_of (known vars) h.0)
    ]
goal_decided known n vars false node neg is h below i some le = below i some (omega (arith, is))

goal_no_empty : (n : ℕ) (b : Bool) (node : ℕ) (neg : Bool) → HasNoEmpty (goals_by b n (record { node = node; neg = neg }))
goal_no_empty n true node true = tt
goal_no_empty n true node false = (omega arith, (omega arith, tt))
goal_no_empty n false node neg = (omega arith, tt)

no_empty_append : (xs ys : List (List Lit)) → HasNoEmpty xs → HasNoEmpty ys → HasNoEmpty (xs ++ ys)
no_empty_append [] ys p q = q
no_empty_append (x ∷ xs) ys p q = (p.0, no_empty_append xs ys p.1 q)

no_empty : (k : ℕ) (ns : Nodes) → HasNoEmpty (clauses_from k ns)
no_empty k [] = tt
no_empty k (None ∷ ns) = no_empty (k + 1) ns
no_empty k (Some g ∷ ns) = (omega arith, (omega arith, (omega arith, no_empty (k + 1) ns)))

enough_vars : (n d : ℕ) (b : Bool) (neg : Bool) → d < n → d ≤ vars_by b n neg
enough_vars n d true true h = omega arith
enough_vars n d true false h = omega arith
enough_vars n d false neg h = omega arith

pub encodes : (nodes : Nodes) (d : ℕ) (goal : Edge) (set : SetValue) → IsGraph nodes → HasInputs d nodes → set.vars ≡ goal_vars (length nodes) goal → set.clauses ≡ clauses_from 0 nodes ++ goal_clauses set.vars goal → Encodes nodes d goal set
encodes nodes d goal set graph inputs vars list = record {
  vars = subst (λ (k : ℕ). d ≤ k) (sym vars) (enough_vars (length nodes) d (goal.node == 0) goal.neg inputs.within);
  sound = λ v z h.
      let m : AllMet v (clauses_from 0 nodes ++ goal_clauses set.vars goal) = subst (AllMet v) list (met_from v set.clauses h) in (
        record { zero = z; gates = λ k g lt e. let p : 0 + k ≡ k = omega arith in subst (λ (i : ℕ). v i ≡ (edge_bit v g.left && edge_bit v g.right)) p (sound v 0 nodes (met_left v (clauses_from 0 nodes) (goal_clauses set.vars goal) m) k g lt e) },
        goal_sound v set.vars (goal.node == 0) goal.node goal.neg (eqb-true goal.node 0) z (met_right v (clauses_from 0 nodes) (goal_clauses set.vars goal) m),
      );
  complete = λ v h one.
      satisfies_from v set.clauses (subst (AllMet v) (sym list) (met_append v (clauses_from 0 nodes) (goal_clauses set.vars goal)
      (complete v 0 nodes (λ k g lt e. let p : k ≡ 0 + k = omega arith in subst (λ (i : ℕ). v i ≡ (edge_bit v g.left && edge_bit v g.right)) p (h.gates k g lt e)))
      (goal_complete v set.vars (goal.node == 0) goal.node goal.neg (eqb-true goal.node 0) h.zero one)));
  decided = λ known base rest.
      let m : AllRest known (clauses_from 0 nodes ++ goal_clauses set.vars goal) = subst (AllRest known) list (rest_from known set.clauses rest) in
      goal_decided known (length nodes) set.vars (goal.node == 0) goal.node goal.neg vars (rest_right known (clauses_from 0 nodes) (goal_clauses set.vars goal) m)
      (λ i some lt. decided known 0 nodes (rest_left known (clauses_from 0 nodes) (goal_clauses set.vars goal) m) (λ i some lt. absurd (omega arith))
      (λ j lt e some.
      let p : j ≡ 0 + j = omega arith in
      elim (cases_lt d j) [ inl more ↦ absurd (inputs.gates j more lt e) | inr le ↦ subst (λ (i : ℕ). known i ≢ None) p (base j (omega arith) le) ])
      (λ j g lt e. let r = graph.rise j g lt e in (r.0, r.1, omega (arith, r.2)))
      i some (omega arith));
  no_empty = subst HasNoEmpty (sym list) (no_empty_append (clauses_from 0 nodes) (goal_clauses set.vars goal) (no_empty 0 nodes) (goal_no_empty set.vars (goal.node == 0) goal.node goal.neg));
}

counted : (k : ℕ) (ns : Nodes) → length (clauses_from k ns) ≡ 3 * count_by is_some ns
counted k [] = refl
counted k (None ∷ ns) = omega (arith, counted (k + 1) ns, sum_by-cons (λ (o : Option Gate). cond (is_some o) 1 0) None ns)
counted k (Some g ∷ ns) = omega (arith, counted (k + 1) ns, sum_by-cons (λ (o : Option Gate). cond (is_some o) 1 0) (Some g) ns)

goal_count : (n : ℕ) (b : Bool) (node : ℕ) (neg : Bool) → length (goals_by b n (record { node = node; neg = neg })) ≤ 2
goal_count n true node true = omega arith
goal_count n true node false = omega arith
goal_count n false node neg = omega arith

pub counts : (nodes : Nodes) (goal : Edge) (set : SetValue) → set.clauses ≡ clauses_from 0 nodes ++ goal_clauses set.vars goal → CountsGates set (count_by is_some nodes)
counts nodes goal set list = (
  length (goal_clauses set.vars goal),
  goal_count set.vars (goal.node == 0) goal.node goal.neg,
  omega (arith, ap length list, length-append (clauses_from 0 nodes) (goal_clauses set.vars goal), counted 0 nodes),
)

few_by : (n : ℕ) (b neg : Bool) → vars_by b n neg ≤ n
few_by n true true = omega arith
few_by n true false = omega arith
few_by n false neg = omega arith

pub few_vars : (n : ℕ) (goal : Edge) → goal_vars n goal ≤ n
few_vars n goal = few_by n (goal.node == 0) goal.neg
