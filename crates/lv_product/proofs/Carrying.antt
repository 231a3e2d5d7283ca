-- What the values of two runs' cycles meet, the runs meet.
use Rattle.std.proofs.Common.{◌≡◌, ◌≢◌, ℕ, zero, suc, Bool, true, ◌&&◌, nat_eq, if◌then◌else◌, List, [], ◌∷◌, ◌++◌, length, map, take, get_or, slice_get, All, refl, sym, ◌∙◌, ap, subst, arith, inl, inr, ◌↔◌}
use Rattle.std.proofs.lemmas.List.{get_or-map, length-map, take-map}
use Rattle.std.proofs.lemmas.List.Elements.{All-map, All-cons, All-contains}
use Rattle.std.specs.List.{AllByRecursion, AllZip}
use Rattle.lv_bits.specs.Words.{Bits}
use Rattle.lv_model.specs.Machine.{Machine, IsRun, IsWindow, IsDecided, Agree, observations, AllHold, SomeFails, aligned_after}
use Rattle.lv_model.specs.Meeting.{IsMetBy, cycles_of}
use Rattle.lv_model.specs.Stepper.{stepped}
use Rattle.lv_model.specs.Design.{MaybeHolds, values, row_of, entry}
use Rattle.lv_model.proofs.Decided.{machine_decided}
use Rattle.lv_netlist.specs.Run.{values_of}
use Rattle.lv_netlist.specs.Stepping.{GraphCycle, stepper_of, node_value}
use Rattle.lv_unroll.specs.declared.rows.Port.{Port}
use Rattle.lv_product.specs.declared.task.Candidate.{Candidate}
use Rattle.lv_product.specs.declared.task.Candidate.TheVariants.{Eq, When, Each, Aligned}
use Rattle.lv_product.specs.declared.task.Task.{Task}
use Rattle.lv_product.specs.declared.task.Query.{Query}
use Rattle.lv_product.specs.declared.task.Query.TheVariants.{Initial, Allowed, Base, Step, Imply}
use Rattle.lv_product.specs.Queries.{candidate_by, port_by, observers_of, task_machine, asked}
use Rattle.lv_product.specs.Values.{value_at, value_machine}
use Rattle.lv_product.specs.Meets.{Cycles, AreAlike, Meets}

unmapped : {X Y : Type 0} (P : Y → Type 0) (f : X → Y) (xs : List X) → All P (map f xs) → All (λ x. P (f x)) xs
unmapped P f xs h = λ i d lt. subst P (get_or-map f xs i d (f d) lt) (h i (f d) (omega (arith, length-map xs f)))

-- a fact of each element, once through f and once through g
pub remapped : {X Y Z : Type 0} (P : Y → Type 0) (Q : Z → Type 0) (f : X → Y) (g : X → Z) (xs : List X) → ((x : X) → P (f x) → Q (g x)) → All P (map f xs) →
    All Q (map g xs)
remapped P Q f g xs each h = All-map Q g xs (λ i d lt. each _ (unmapped P f xs h i d lt))

pub some_fails : {V : Type 0} (m : Machine V) (s : List ℕ) (l r : V) (a : Bool) → IsDecided m → (AllHold m s l r a → ⊥) → SomeFails m s l r a
some_fails m [] l r a decided none = absurd (none (λ k d lt. absurd (omega arith)))
some_fails m (k ∷ s) l r a decided none =
    elim (decided k l r a) [
      | inl h ↦
          let rest : SomeFails m s l r a = some_fails m s l r a decided (λ all. none (All-cons (λ j. m.Holds j l r a) k s h all)) in
          (rest.0, (suc rest.1.0, omega (arith, rest.1.1), rest.1.2), rest.2)
      | inr fails ↦ (k, (0, omega arith, refl), fails)
    ]

pub not_all : {V : Type 0} (m : Machine V) (s : List ℕ) (l r : V) (a : Bool) → SomeFails m s l r a → AllHold m s l r a → ⊥
not_all m s l r a (k, inside, fails) all = fails (All-contains (λ j. m.Holds j l r a) s k all inside)

module _ (task : Task) where
  abbrev pub of_cycle : GraphCycle → List Bits
  of_cycle c = values_of task.graph c.state c.input

  values_is : (ks : List ℕ) (c : GraphCycle) → values (map (node_value task.graph) ks) c ≡ values (map value_at ks) (of_cycle c)
  values_is [] c = refl
  values_is (k ∷ ks) c = ap (λ (ns : List ℕ). node_value task.graph k c ∷ ns) (values_is ks c)

  row_same : (ps : List Port) (c : GraphCycle) → row_of (map (port_by (node_value task.graph)) ps) c ≡ row_of (map (port_by value_at) ps) (of_cycle c)
  row_same [] c = refl
  row_same (p ∷ ps) c =
      ap (λ (ns : List ℕ). (if nat_eq (node_value task.graph p.retire c) 0 then [] else ns ∷ []) ++ row_of (map (port_by (node_value task.graph)) ps) c)
      (values_is p.contract.items c) ∙
      ap (λ (x : List (List ℕ)). entry (port_by value_at p) (of_cycle c) ++ x) (row_same ps c)

  held_same : (cs : List Candidate) (k : ℕ) (l r : GraphCycle) (a : Bool) →
      MaybeHolds (slice_get (map (candidate_by (node_value task.graph)) cs) k) l r a ↔ MaybeHolds (slice_get (map (candidate_by value_at) cs) k)
      (of_cycle l) (of_cycle r) a
  held_same [] k l r a = (λ h. h, λ h. h)
  held_same (Eq e ∷ cs) zero l r a = (λ h. h, λ h. h)
  held_same (When guard e ∷ cs) zero l r a = (λ h. h, λ h. h)
  held_same (Each p ∷ cs) zero l r a = (λ h. h, λ h. h)
  held_same (Aligned ∷ cs) zero l r a = (λ h. h, λ h. h)
  held_same (c ∷ cs) (suc k) l r a = held_same cs k l r a

  pub row_is : (c : GraphCycle) → (task_machine task).row c ≡ (value_machine task).row (of_cycle c)
  row_is c = row_same task.ports.items c

  pub attacker_is : (c : GraphCycle) → (task_machine task).attacker c ≡ (value_machine task).attacker (of_cycle c)
  attacker_is c = values_is task.attacker.items c

  pub after_is : (l r : GraphCycle) (a : Bool) → aligned_after (task_machine task) l r a ≡ aligned_after (value_machine task) (of_cycle l) (of_cycle r) a
  after_is l r a =
      ap (λ (x : List (List ℕ)). a && nat_eq (length x) (length ((task_machine task).row r))) (row_is l) ∙
      ap (λ (x : List (List ℕ)). a && nat_eq (length ((value_machine task).row (of_cycle l))) (length x)) (row_is r)

  pub all_there : (s : List ℕ) (l r : GraphCycle) (a : Bool) → AllHold (task_machine task) s l r a →
      AllHold (value_machine task) s (of_cycle l) (of_cycle r) a
  all_there s l r a h = λ i d lt. (held_same task.candidates.items (get_or s i d) l r a).0 (h i d lt)

  pub all_back : (s : List ℕ) (l r : GraphCycle) (a : Bool) → AllHold (value_machine task) s (of_cycle l) (of_cycle r) a →
      AllHold (task_machine task) s l r a
  all_back s l r a h = λ i d lt. (held_same task.candidates.items (get_or s i d) l r a).1 (h i d lt)

  pub initial_there : (l r : GraphCycle) → (task_machine task).IsInitialPair l r → (value_machine task).IsInitialPair (of_cycle l) (of_cycle r)
  initial_there l r h = (
    remapped (λ (e : GraphCycle → ℕ). e l ≡ e r) (λ (e : List Bits →
        ℕ). e (of_cycle l) ≡ e (of_cycle r)) (node_value task.graph) value_at task.equal.items (λ k x. x) h.0,
    remapped (λ (e : GraphCycle → ℕ). (e l ≢ 0) × (e r ≢ 0)) (λ (e : List Bits → ℕ). (e (of_cycle l) ≢ 0) ×
        (e (of_cycle r) ≢ 0)) (node_value task.graph) value_at task.each.items (λ k x. x) h.1,
  )

  pub initial_back : (l r : GraphCycle) → (value_machine task).IsInitialPair (of_cycle l) (of_cycle r) → (task_machine task).IsInitialPair l r
  initial_back l r h = (
    remapped (λ (e : List Bits → ℕ). e (of_cycle l) ≡ e (of_cycle r)) (λ (e : GraphCycle →
        ℕ). e l ≡ e r) value_at (node_value task.graph) task.equal.items (λ k x. x) h.0,
    remapped (λ (e : List Bits → ℕ). (e (of_cycle l) ≢ 0) × (e (of_cycle r) ≢ 0)) (λ (e : GraphCycle → ℕ). (e l ≢ 0) ×
        (e r ≢ 0)) value_at (node_value task.graph) task.each.items (λ k x. x) h.1,
  )

  pub allowed_there : (c : GraphCycle) → (task_machine task).IsAllowed c → (value_machine task).IsAllowed (of_cycle c)
  allowed_there c h = remapped (λ (e : GraphCycle → ℕ). e c ≢ 0) (λ (e : List Bits →
      ℕ). e (of_cycle c) ≢ 0) (node_value task.graph) value_at task.assume.items (λ k x. x) h

  pub allowed_back : (c : GraphCycle) → (value_machine task).IsAllowed (of_cycle c) → (task_machine task).IsAllowed c
  allowed_back c h = remapped (λ (e : List Bits → ℕ). e (of_cycle c) ≢ 0) (λ (e : GraphCycle →
      ℕ). e c ≢ 0) value_at (node_value task.graph) task.assume.items (λ k x. x) h

  alls_there : (cs : List GraphCycle) → AllByRecursion (task_machine task).IsAllowed cs → AllByRecursion (value_machine task).IsAllowed (map of_cycle cs)
  alls_there [] h = tt
  alls_there (c ∷ cs) h = (allowed_there c h.0, alls_there cs h.1)

  alls_back : (cs : List GraphCycle) → AllByRecursion (value_machine task).IsAllowed (map of_cycle cs) → AllByRecursion (task_machine task).IsAllowed cs
  alls_back [] h = tt
  alls_back (c ∷ cs) h = (allowed_back c h.0, alls_back cs h.1)

  shows : (cs : List GraphCycle) → observations (task_machine task) cs ≡ observations (value_machine task) (map of_cycle cs)
  shows [] = refl
  shows (c ∷ cs) =
      ap (λ (x : List (List ℕ)). x ++ observations (task_machine task) cs) (row_is c) ∙
      ap (λ (x : List (List ℕ)). (value_machine task).row (of_cycle c) ++ x) (shows cs)

  decided : IsDecided (task_machine task)
  decided = machine_decided (stepped (stepper_of task.graph)) (observers_of task)

  -- two runs under the same inputs
  pub record AreRuns (ls rs : List GraphCycle) : Type 0 where
    pub left : IsRun (task_machine task) ls
    pub right : IsRun (task_machine task) rs
    pub same : AllZip (task_machine task).SameInputs ls rs

  alike_window : (ls rs : List GraphCycle) (a : Bool) (n : ℕ) → AreRuns ls rs → length ls ≡ n →
      AreAlike task (take (suc task.lookahead) (map of_cycle ls)) (take (suc task.lookahead) (map of_cycle rs)) a →
      IsWindow (task_machine task) task.lookahead n ls rs a
  alike_window ls rs a n runs count h =
      let b : ℕ = suc task.lookahead in
      let k : AreAlike task (map of_cycle (take b ls)) (map of_cycle (take b rs)) a =
      subst (λ (x : Cycles). AreAlike task x (map of_cycle (take b rs)) a) (take-map of_cycle b ls)
      (subst (λ (x : Cycles). AreAlike task (take b (map of_cycle ls)) x a) (take-map of_cycle b rs) h) in
      record {
        count = count;
        left = runs.left;
        right = runs.right;
        same_inputs = runs.same;
        left_allowed = alls_back (take b ls) k.1;
        right_allowed = alls_back (take b rs) k.2;
        agree = λ e. subst (λ (x : List (List ℕ)). Agree x (observations (task_machine task) (take b rs))) (sym (shows (take b ls)))
            (subst (λ (x : List (List ℕ)). Agree (observations (value_machine task) (map of_cycle (take b ls))) x) (sym (shows (take b rs))) (k.0 e));
      }

  window_alike : (ls rs : List GraphCycle) (a : Bool) (n : ℕ) → IsWindow (task_machine task) task.lookahead n ls rs a →
      AreAlike task (take (suc task.lookahead) (map of_cycle ls)) (take (suc task.lookahead) (map of_cycle rs)) a
  window_alike ls rs a n w =
      let b : ℕ = suc task.lookahead in
      let k : AreAlike task (map of_cycle (take b ls)) (map of_cycle (take b rs)) a = (
        λ e. subst (λ (x : List (List ℕ)). Agree x (observations (value_machine task) (map of_cycle (take b rs)))) (shows (take b ls))
            (subst (λ (x : List (List ℕ)). Agree (observations (task_machine task) (take b ls)) x) (shows (take b rs)) (w.agree e)),
        alls_there (take b ls) w.left_allowed,
        alls_there (take b rs) w.right_allowed,
      ) in
      subst (λ (x : Cycles). AreAlike task x (take b (map of_cycle rs)) a) (sym (take-map of_cycle b ls))
      (subst (λ (x : Cycles). AreAlike task (map of_cycle (take b ls)) x a) (sym (take-map of_cycle b rs)) k)

  pub meets_met : (s : List ℕ) (q : Query) (ls rs : List GraphCycle) (a : Bool) → AreRuns ls rs → length ls ≡ cycles_of (asked q) task.lookahead →
      Meets task s q (map of_cycle ls) (map of_cycle rs) a → IsMetBy (task_machine task) task.lookahead s (asked q) ls rs a
  meets_met s Initial [] rs a runs n h = absurd (omega arith)
  meets_met s Allowed [] rs a runs n h = absurd (omega arith)
  meets_met s Base [] rs a runs n h = absurd (omega arith)
  meets_met s Step [] rs a runs n h = absurd (omega arith)
  meets_met s Imply [] rs a runs n h = absurd (omega arith)
  meets_met s q (l ∷ ls) [] a runs n h = absurd runs.same
  meets_met s Initial (l ∷ ls) (r ∷ rs) a runs n h = record {
    left = runs.left.0;
    right = runs.right.0;
    same_inputs = runs.same.0;
    initial =
        initial_back l r h;
  }
  meets_met s Allowed (l ∷ ls) (r ∷ rs) a runs n h = (runs.left.0, allowed_back l h)
  meets_met s Base (l ∷ ls) (r ∷ rs) a runs n h = (
    record { left = runs.left.0; right = runs.right.0; same_inputs = runs.same.0; initial = initial_back l r h.0.0 },
    h.0.1,
    subst (SomeFails (task_machine task) s l r) h.0.1 (some_fails (task_machine task) s l r a decided (λ all. h.1 (all_there s l r a all))),
  )
  meets_met s Step (l ∷ []) (r ∷ rs) a runs n h = absurd (omega arith)
  meets_met s Step (l ∷ l' ∷ ls) (r ∷ []) a runs n h = absurd runs.same.1
  meets_met s Step (l ∷ l' ∷ ls) (r ∷ r' ∷ rs) a runs n h = (
    alike_window (l ∷ l' ∷ ls) (r ∷ r' ∷ rs) a (suc (suc task.lookahead)) runs n h.0.0,
    all_back s l r a h.0.1,
    some_fails (task_machine task) s l' r' (aligned_after (task_machine task) l r a) decided
        (λ all. h.1 (subst (AllHold (value_machine task) s (of_cycle l') (of_cycle r')) (after_is l r a)
        (all_there s l' r' (aligned_after (task_machine task) l r a) all))),
  )
  meets_met s Imply (l ∷ ls) (r ∷ rs) a runs n h = (
    alike_window (l ∷ ls) (r ∷ rs) a (suc task.lookahead) runs n h.0.0,
    all_back s l r a h.0.1,
    λ e. h.1 (sym (attacker_is l) ∙ (e ∙ attacker_is r)),
  )

  pub met_meets : (s : List ℕ) (q : Query) (ls rs : List GraphCycle) (a : Bool) → IsMetBy (task_machine task) task.lookahead s (asked q) ls rs a →
      Meets task s q (map of_cycle ls) (map of_cycle rs) a
  met_meets s q [] rs a h = absurd h
  met_meets s q (l ∷ ls) [] a h = absurd h
  met_meets s Initial (l ∷ ls) (r ∷ rs) a h = initial_there l r h.initial
  met_meets s Allowed (l ∷ ls) (r ∷ rs) a h = allowed_there l h.1
  met_meets s Base (l ∷ ls) (r ∷ rs) a h = (
    (initial_there l r h.0.initial, h.1),
    λ all. not_all (task_machine task) s l r true h.2 (subst (AllHold (task_machine task) s l r) h.1 (all_back s l r a all)),
  )
  met_meets s Step (l ∷ []) (r ∷ rs) a h = absurd h
  met_meets s Step (l ∷ l' ∷ ls) (r ∷ []) a h = absurd h
  met_meets s Step (l ∷ l' ∷ ls) (r ∷ r' ∷ rs) a h = (
    (window_alike (l ∷ l' ∷ ls) (r ∷ r' ∷ rs) a (suc (suc task.lookahead)) h.0, all_there s l r a h.1),
    λ all. not_all (task_machine task) s l' r' (aligned_after (task_machine task) l r a) h.2
        (all_back s l' r' (aligned_after (task_machine task) l r a) (subst (AllHold (value_machine task) s (of_cycle l') (of_cycle r'))
        (sym (after_is l r a)) all)),
  )
  met_meets s Imply (l ∷ ls) (r ∷ rs) a h = (
    (window_alike (l ∷ ls) (r ∷ rs) a (suc task.lookahead) h.0, all_there s l r a h.1),
    λ e. h.2 (attacker_is l ∙ (e ∙ sym (attacker_is r))),
  )
