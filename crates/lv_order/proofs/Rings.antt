-- The end of a path whose last vertex has an edge into it is a cycle, turned or not.
use Rattle.std.proofs.Common.{◌≡◌, ℕ, ◌+◌, ◌<◌, ◌≤◌, true, List, [], ◌∷◌, ◌++◌, take, drop, length, get_or, refl, ap, sym, subst, ◌∙◌, arith}
use Rattle.std.proofs.lemmas.Bool.{and_from}
use Rattle.std.proofs.lemmas.List.{take-append-drop, drop_more, get_or-drop}
use Rattle.lv_order.specs.Graphs.{Graph, has, leads, are_distinct, is_cycle, IsCycle}
use Rattle.lv_order.specs.Walks.{IsMet, IsRing}
use Rattle.lv_order.proofs.Lists.{has_at, has-append_comm, distinct_back, distinct_turned}
use Rattle.lv_order.proofs.Chains.{leads_cut, leads_turned}

-- a list that begins with v leads to v where what begins with v does
begins_cut : (E : Graph) (v : ℕ) (before ring : List ℕ) → (w : ℕ) (ws : List ℕ) → ring ≡ w ∷ ws → w ≡ v → leads E v (before ++ ring) ≡ true → leads E v ring ≡ true
begins_cut E v before ring w ws e f h =
    subst (λ z. leads E v z ≡ true) (sym (e ∙ ap (λ z. z ∷ ws) f))
    (leads_cut E v before ws (subst (λ z. leads E v (before ++ z) ≡ true) (e ∙ ap (λ z. z ∷ ws) f) h))

cut : (E : Graph) (v m : ℕ) (before start after : List ℕ) → get_or (start ++ m ∷ after) 0 0 ≡ v → leads E v (before ++ (start ++ m ∷ after)) ≡ true
    → leads E v (start ++ m ∷ after) ≡ true
cut E v m before [] after e h = begins_cut E v before (m ∷ after) m after refl e h
cut E v m before (x ∷ xs) after e h = begins_cut E v before (x ∷ (xs ++ m ∷ after)) x (xs ++ m ∷ after) refl e h

pub ring-cycle : (E : Graph) (path : List ℕ) (v : ℕ) (list : List ℕ) → IsMet E path v → IsRing path v list → IsCycle E list
ring-cycle E path v list h r =
    let d : are_distinct (r.before ++ (r.start ++ r.least ∷ r.after)) ≡ true = ap are_distinct (sym r.path_is) ∙ h.apart in
    let l : leads E v (r.before ++ (r.start ++ r.least ∷ r.after)) ≡ true = ap (leads E v) (sym r.path_is) ∙ h.joined in
    let c : is_cycle E ((r.least ∷ r.after) ++ r.start) ≡ true =
    and_from (are_distinct ((r.least ∷ r.after) ++ r.start)) (leads E r.least ((r.least ∷ r.after) ++ r.start))
    (distinct_turned r.start (r.least ∷ r.after) (distinct_back r.before (r.start ++ r.least ∷ r.after) d))
    (leads_turned E v r.least r.start r.after r.begins (cut E v r.least r.before r.start r.after r.begins l)) in
    record {
      cycle = ap (is_cycle E) r.list_is ∙ c;
      least = λ w k. subst (λ z. get_or z 0 0 ≤ w) (sym r.list_is)
          (r.is_least w (has-append_comm r.start (r.least ∷ r.after) w ∙ (ap (λ z. has z w) (sym r.list_is) ∙ k)));
    }

pub ring-read : (path ring : List ℕ) (p q v : ℕ) (list : List ℕ) → ring ≡ drop p path → get_or path p 0 ≡ v → q < length ring
    → ((k : ℕ) → k < length ring → get_or ring q 0 ≤ get_or ring k 0)
    → list ≡ drop q ring ++ take q ring → IsRing path v list
ring-read path ring p q v list c e l h r =
    let d : drop q ring ≡ get_or ring q 0 ∷ drop (q + 1) ring = drop_more ring q 0 l in
    let s : ring ≡ take q ring ++ get_or ring q 0 ∷ drop (q + 1) ring = sym (take-append-drop q ring) ∙ ap (λ z. take q ring ++ z) d in
    let zero-more : p + 0 ≡ p = omega arith in
    record {
      before = take p path;
      start = take q ring;
      least = get_or ring q 0;
      after = drop (q + 1) ring;
      path_is = sym (take-append-drop p path) ∙ (ap (λ z. take p path ++ z) (sym c) ∙ ap (λ z. take p path ++ z) s);
      list_is = r ∙ ap (λ z. z ++ take q ring) d;
      begins = ap (λ z. get_or z 0 0) (sym s ∙ c) ∙ (get_or-drop p path 0 0 ∙ (ap (λ n. get_or path n 0) zero-more ∙ e));
      is_least = λ w k.
          let t : (i : ℕ) × (i < length ring) × (get_or ring i 0 ≡ w) = has_at ring w (ap (λ z. has z w) s ∙ k) in
          subst (λ z. get_or ring q 0 ≤ z) t.2 (h t.0 t.1);
    }
