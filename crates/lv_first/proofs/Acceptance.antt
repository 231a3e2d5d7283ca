-- The three formulas are valid exactly where the list of all candidates is inductive and implies.
use Rattle.std.proofs.Common.{◌≡◌, ℕ, zero, suc, ◌+◌, ◌<◌, ◌≤◌, Bool, true, false, ◌&&◌, List, [], ◌∷◌, ◌++◌, length, nat_eq, refl, sym, ◌∙◌, ap, subst, arith, get_or}
use Rattle.std.specs.Prelude.{IsTrue, ◌↔◌, if◌then◌else◌, Some, slice_get}
use Rattle.std.specs.List.{range_with_len}
use Rattle.std.proofs.lemmas.Bool.{and_from, and_parts, eq-eqb, eqb-true}
use Rattle.std.proofs.lemmas.List.Elements.{All-nil}
use Rattle.std.proofs.lemmas.Option.{slice_get-get_or, slice_get_within}
use Rattle.lv_bits.specs.Values.{bit}
use Rattle.lv_model.specs.Machine.{Machine, IsInitial, IsWindow, AllHold, IsInductive, Implies, Agree, aligned_after}
use Rattle.lv_model.specs.Design.{values}
use Rattle.lv_first.specs.declared.formula.Formula.{Formula}
use Rattle.lv_first.specs.declared.formula.Formula.TheVariants.{Constant}
use Rattle.lv_first.specs.declared.problem.Problem.{Problem}
use Rattle.lv_first.specs.Formulas.{Assignment, both, copy_of, truth, IsZeroOutside, IsValid}
use Rattle.lv_first.specs.Problems.{numbers, left, right, alike_in, all_alike, chosen_alike, machine_of_problem, state_alike, shown_alike, base_formula, step_formula, imply_formula}
use Rattle.lv_first.proofs.Pairs.{copy-settled, copies-share, joined, joined-zero, left-joined, right-joined}
use Rattle.lv_first.proofs.Alike.{from_bits, both-parts, both-from, implied-apply, implied-from, alike-from, from-alike, left-is, right-is, all-from, from-all, chosen-from, from-chosen, first-from, from-first}
use Rattle.lv_first.proofs.Candidates.{numbers-are, numbers-hold, registers-equal, is-aligned}

-- ---- lists of formulas

values-at :
    (fs : List Formula) (x y : Assignment) → values (numbers fs) x ≡ values (numbers fs) y →
    (k : ℕ) (f : Formula) → slice_get fs k ≡ Some f → truth f x ≡ truth f y
values-at [] x y h k f at = absurd (cc)
values-at (g ∷ gs) x y h zero f at =
    let e : g ≡ f = cc in
    let first : bit (truth g x) ≡ bit (truth g y) = cc in
    subst (λ z. truth z x ≡ truth z y) e (from_bits (truth g x) (truth g y) first)
values-at (g ∷ gs) x y h (suc k) f at = let rest : values (numbers gs) x ≡ values (numbers gs) y = cc in values-at gs x y rest k f at

values-from : (fs : List Formula) (x y : Assignment) → ((k : ℕ) (f : Formula) → slice_get fs k ≡ Some f → truth f x ≡ truth f y) → values (numbers fs) x ≡ values (numbers fs) y
values-from [] x y each = refl
values-from (g ∷ gs) x y each =
    let first : bit (truth g x) ≡ bit (truth g y) = ap bit (each zero g refl) in
    let rest : values (numbers gs) x ≡ values (numbers gs) y = values-from gs x y (λ k f at. each (suc k) f at) in
    cc

-- the value of the formula of this number, false where there is none
abbrev next_at : List Formula → ℕ → Assignment → Bool
next_at [] k x = false
next_at (f ∷ fs) zero x = truth f x
next_at (f ∷ fs) (suc k) x = next_at fs k x

next_past : (fs : List Formula) (k : ℕ) (x : Assignment) → length fs ≤ k → next_at fs k x ≡ false
next_past [] k x h = refl
next_past (f ∷ fs) zero x h = absurd (omega arith)
next_past (f ∷ fs) (suc k) x h = next_past fs k x (omega arith)

next_is : (fs : List Formula) (k : ℕ) (f : Formula) (x : Assignment) → slice_get fs k ≡ Some f → next_at fs k x ≡ truth f x
next_is [] k f x at = absurd (cc)
next_is (g ∷ gs) zero f x at = let e : g ≡ f = cc in ap (λ z. truth z x) e
next_is (g ∷ gs) (suc k) f x at = next_is gs k f x at

module _ (p : Problem) (n : ℕ) (count : n ≡ suc p.registers) where
  abbrev R : ℕ
  R = p.registers

  abbrev I : ℕ
  I = p.inputs

  abbrev m : Machine Assignment
  m = machine_of_problem p

  abbrev all : List ℕ
  all = range_with_len 0 n

  abbrev L : Assignment → Assignment
  L env = copy_of R I 0 env

  abbrev S : Assignment → Assignment
  S env = copy_of R I (R + I) env

  -- whatever is said of both copies of an assignment is said of two assignments with the same inputs
  pub by_pairs :
      (P : Assignment → Assignment → Type 0) →
      ((env : Assignment) → IsZeroOutside 0 (R + I + R) env → P (L env) (S env)) →
      (x y : Assignment) → IsZeroOutside 0 (R + I) x → IsZeroOutside 0 (R + I) y → ((k : ℕ) → R ≤ k → x k ≡ y k) → P x y
  by_pairs P each x y zx zy same =
      let h : P (L (joined R I x y)) (S (joined R I x y)) = each (joined R I x y) (joined-zero R I x y) in
      subst (λ z. P x z) (right-joined R I x y zy same) (subst (λ z. P z (S (joined R I x y))) (left-joined R I x y zx) h)

  initial-of : (env : Assignment) → chosen_alike R I p.equal env ≡ true → IsInitial m (L env) (S env)
  initial-of env h = record {
    left = copy-settled R I 0 env;
    right = copy-settled R I (R + I) env;
    same_inputs = λ k above. copies-share R I 0 (R + I) env k above;
    initial = (from-chosen R I env p.equal h, All-nil _);
  }

  pub base-holds : IsValid 0 (R + I + R) (base_formula p) → (x y : Assignment) → IsInitial m x y → AllHold m all x y true
  base-holds valid x y h =
      by_pairs (λ x y. IsInitial m x y → AllHold m all x y true)
      (λ env z init. numbers-hold p n count (L env) (S env) true
      (from-first R I env R (implied-apply (chosen_alike R I p.equal) (state_alike p) env (valid.holds env z)
      (chosen-from R I env p.equal init.initial.0))) refl)
      x y h.left h.right h.same_inputs h

  pub base-valid : ((x y : Assignment) → IsInitial m x y → AllHold m all x y true) → IsValid 0 (R + I + R) (base_formula p)
  base-valid each = record {
    holds = λ env z. implied-from (chosen_alike R I p.equal) (state_alike p) env
        (λ h. first-from R I env R (registers-equal p n count (L env) (S env) true (each (L env) (S env) (initial-of env h))));
  }

  -- ---- one cycle

  abbrev Registers : Assignment → Assignment → Type 0
  Registers x y = (k : ℕ) → k < R → x k ≡ y k

  abbrev Shown : Assignment → Assignment → Type 0
  Shown x y = truth p.retire x ≡ true → truth p.retire y ≡ true → values (numbers p.contract) x ≡ values (numbers p.contract) y

  before-from : (env : Assignment) → Registers (L env) (S env) → Shown (L env) (S env) → both (state_alike p) (shown_alike p) env ≡ true
  before-from env same shown =
      both-from (state_alike p) (shown_alike p) env (first-from R I env R same)
      (implied-from (both (left R I (truth p.retire)) (right R I (truth p.retire))) (all_alike R I p.contract) env
      (λ h.
      let parts = both-parts (left R I (truth p.retire)) (right R I (truth p.retire)) env h in
      all-from R I env p.contract (shown (sym (left-is R I env (truth p.retire)) ∙ parts.0) (sym (right-is R I env (truth p.retire)) ∙ parts.1))))

  from-before : (env : Assignment) → both (state_alike p) (shown_alike p) env ≡ true → Registers (L env) (S env) × Shown (L env) (S env)
  from-before env h =
      let parts = both-parts (state_alike p) (shown_alike p) env h in (
        from-first R I env R parts.0,
        λ e f. from-all R I env p.contract
            (implied-apply (both (left R I (truth p.retire)) (right R I (truth p.retire))) (all_alike R I p.contract) env parts.1
            (both-from (left R I (truth p.retire)) (right R I (truth p.retire)) env (left-is R I env (truth p.retire) ∙ e) (right-is R I env (truth p.retire) ∙ f))),
      )

  abbrev Stepped : Assignment → Assignment → Type 0
  Stepped x y = (values (numbers p.next) x ≡ values (numbers p.next) y) × (truth p.retire x ≡ truth p.retire y)

  abbrev Seen : Assignment → Assignment → Type 0
  Seen x y = values (numbers p.attacker) x ≡ values (numbers p.attacker) y

  step-pairs :
      IsValid 0 (R + I + R) (step_formula p) → (x y : Assignment) → IsZeroOutside 0 (R + I) x → IsZeroOutside 0 (R + I) y →
      ((k : ℕ) → R ≤ k → x k ≡ y k) → Registers x y → Shown x y → Stepped x y
  step-pairs valid x y zx zy same =
      by_pairs (λ x y. Registers x y → Shown x y → Stepped x y)
      (λ env z registers shown.
      let h = implied-apply (both (state_alike p) (shown_alike p)) (both (all_alike R I p.next) (alike_in R I (truth p.retire))) env (valid.holds env z) (before-from env registers shown) in
      let parts = both-parts (all_alike R I p.next) (alike_in R I (truth p.retire)) env h in
      (from-all R I env p.next parts.0, from-alike R I env (truth p.retire) parts.1))
      x y zx zy same

  imply-pairs :
      IsValid 0 (R + I + R) (imply_formula p) → (x y : Assignment) → IsZeroOutside 0 (R + I) x → IsZeroOutside 0 (R + I) y →
      ((k : ℕ) → R ≤ k → x k ≡ y k) → Registers x y → Shown x y → Seen x y
  imply-pairs valid x y zx zy same =
      by_pairs (λ x y. Registers x y → Shown x y → Seen x y)
      (λ env z registers shown. from-all R I env p.attacker
      (implied-apply (both (state_alike p) (shown_alike p)) (all_alike R I p.attacker) env (valid.holds env z) (before-from env registers shown)))
      x y zx zy same

  pairs-step : ((env : Assignment) → Registers (L env) (S env) → Shown (L env) (S env) → Stepped (L env) (S env)) → IsValid 0 (R + I + R) (step_formula p)
  pairs-step each = record {
    holds = λ env z. implied-from (both (state_alike p) (shown_alike p)) (both (all_alike R I p.next) (alike_in R I (truth p.retire))) env
        (λ h.
        let parts = from-before env h in
        let stepped = each env parts.0 parts.1 in
        both-from (all_alike R I p.next) (alike_in R I (truth p.retire)) env (all-from R I env p.next stepped.0) (alike-from R I env (truth p.retire) stepped.1));
  }

  pairs-imply : ((env : Assignment) → Registers (L env) (S env) → Shown (L env) (S env) → Seen (L env) (S env)) → IsValid 0 (R + I + R) (imply_formula p)
  pairs-imply each = record {
    holds = λ env z. implied-from (both (state_alike p) (shown_alike p)) (all_alike R I p.attacker) env
        (λ h. let parts = from-before env h in all-from R I env p.attacker (each env parts.0 parts.1));
  }

  -- ---- rows

  abbrev shows : Assignment → List ℕ
  shows x = values (numbers p.contract) x

  row-shown : (x : Assignment) → truth p.retire x ≡ true → m.row x ≡ shows x ∷ []
  row-shown x e = ap (λ b. (if nat_eq (bit b) 0 then [] else shows x ∷ []) ++ []) e

  row-hidden : (x : Assignment) → truth p.retire x ≡ false → m.row x ≡ []
  row-hidden x e = ap (λ b. (if nat_eq (bit b) 0 then [] else shows x ∷ []) ++ []) e

  row-length : (x : Assignment) → length (m.row x) ≡ bit (truth p.retire x)
  row-length x = (elim (truth p.retire x) as (λ b. truth p.retire x ≡ b → length (m.row x) ≡ bit b) [
    | true ↦ λ e. ap length (row-shown x e)
    | false ↦ λ e. ap length (row-hidden x e)
  ]) refl

  agree-shown : (x y : Assignment) → Agree (m.row x ++ []) (m.row y ++ []) → Shown x y
  agree-shown x y h e f =
      let g : Agree (shows x ∷ []) (shows y ∷ []) =
      subst (λ z. Agree (shows x ∷ []) (z ++ [])) (row-shown y f) (subst (λ z. Agree (z ++ []) (m.row y ++ [])) (row-shown x e) h) in
      g.0

  hidden-agrees : (x y : Assignment) → truth p.retire x ≡ false → Agree (m.row x ++ []) (m.row y ++ [])
  hidden-agrees x y e = subst (λ z. Agree (z ++ []) (m.row y ++ [])) (sym (row-hidden x e)) tt

  shown-agrees : (x y : Assignment) → truth p.retire x ≡ true → Shown x y → Agree (m.row x ++ []) (m.row y ++ [])
  shown-agrees x y e shown =
      subst (λ z. Agree (z ++ []) (m.row y ++ [])) (sym (row-shown x e))
      ((elim (truth p.retire y) as (λ b. truth p.retire y ≡ b → Agree (shows x ∷ []) (m.row y ++ [])) [
        | true ↦ λ f. subst (λ z. Agree (shows x ∷ []) (z ++ [])) (sym (row-shown y f)) (shown e f, tt)
        | false ↦ λ f. subst (λ z. Agree (shows x ∷ []) (z ++ [])) (sym (row-hidden y f)) tt
      ]) refl)

  shown-agree : (x y : Assignment) → Shown x y → Agree (m.row x ++ []) (m.row y ++ [])
  shown-agree x y shown = (elim (truth p.retire x) as (λ b. truth p.retire x ≡ b → Agree (m.row x ++ []) (m.row y ++ [])) [
    | true ↦ λ e. shown-agrees x y e shown
    | false ↦ λ e. hidden-agrees x y e
  ]) refl

  aligned-from : (x y : Assignment) (a : Bool) → a ≡ true → truth p.retire x ≡ truth p.retire y → aligned_after m x y a ≡ true
  aligned-from x y a e same =
      and_from a (nat_eq (length (m.row x)) (length (m.row y))) e
      (eq-eqb (length (m.row x)) (length (m.row y)) (row-length x ∙ ap bit same ∙ sym (row-length y)))

  from-aligned : (x y : Assignment) (a : Bool) → aligned_after m x y a ≡ true → truth p.retire x ≡ truth p.retire y
  from-aligned x y a h =
      let parts = and_parts a (nat_eq (length (m.row x)) (length (m.row y))) h in
      from_bits (truth p.retire x) (truth p.retire y) (sym (row-length x) ∙ eqb-true (length (m.row x)) (length (m.row y)) parts.1 ∙ row-length y)

  -- ---- the list of all candidates

  pub step-holds :
      length p.next ≡ R → IsValid 0 (R + I + R) (step_formula p) → (x x' : Assignment) (xs : List Assignment) (y y' : Assignment) (ys : List Assignment) (a : Bool) →
      IsWindow m 0 2 (x ∷ x' ∷ xs) (y ∷ y' ∷ ys) a → AllHold m all x y a → AllHold m all x' y' (aligned_after m x y a)
  step-holds size valid x x' xs y y' ys a w holds =
      let registers : Registers x y = registers-equal p n count x y a holds in
      let e : a ≡ true = is-aligned p n count x y a holds in
      let stepped : Stepped x y = step-pairs valid x y w.left.0 w.right.0 w.same_inputs.0 registers (agree-shown x y (w.agree e)) in
      numbers-hold p n count x' y' (aligned_after m x y a)
      (λ k h.
      let f : Formula = get_or p.next k (Constant true) in
      let at : slice_get p.next k ≡ Some f = slice_get-get_or p.next k (Constant true) (omega (arith, size)) in
      w.left.1 k f at ∙ values-at p.next x y stepped.0 k f at ∙ sym (w.right.1 k f at))
      (aligned-from x y a e stepped.1)

  pub imply-holds :
      IsValid 0 (R + I + R) (imply_formula p) → (x : Assignment) (xs : List Assignment) (y : Assignment) (ys : List Assignment) (a : Bool) →
      IsWindow m 0 1 (x ∷ xs) (y ∷ ys) a → AllHold m all x y a → m.attacker x ≡ m.attacker y
  imply-holds valid x xs y ys a w holds =
      let e : a ≡ true = is-aligned p n count x y a holds in
      imply-pairs valid x y w.left.0 w.right.0 w.same_inputs.0 (registers-equal p n count x y a holds) (agree-shown x y (w.agree e))

  window-of : (env : Assignment) → Shown (L env) (S env) → IsWindow m 0 1 (L env ∷ []) (S env ∷ []) true
  window-of env shown = record {
    count = refl;
    left = (copy-settled R I 0 env, tt, tt);
    right = (copy-settled R I (R + I) env, tt, tt);
    same_inputs = (λ k above. copies-share R I 0 (R + I) env k above, tt);
    left_allowed = (All-nil _, tt);
    right_allowed = (All-nil _, tt);
    agree = λ e. shown-agree (L env) (S env) shown;
  }

  pub imply-valid : Implies m 0 all → IsValid 0 (R + I + R) (imply_formula p)
  imply-valid imp = pairs-imply (λ env registers shown.
      imp.same (L env) [] (S env) [] true (window-of env shown) (numbers-hold p n count (L env) (S env) true registers refl))

  abbrev after : Assignment → Assignment
  after x k = next_at p.next k x

  after-settled : length p.next ≡ R → (x : Assignment) → IsZeroOutside 0 (R + I) (after x)
  after-settled size x = record { below = λ k h. absurd (omega arith); above = λ k h. next_past p.next k x (omega (arith, size)) }

  longer-of : length p.next ≡ R → (env : Assignment) → Shown (L env) (S env) → IsWindow m 0 2 (L env ∷ after (L env) ∷ []) (S env ∷ after (S env) ∷ []) true
  longer-of size env shown = record {
    count = refl;
    left = (copy-settled R I 0 env, (λ k f at. next_is p.next k f (L env) at), (after-settled size (L env), tt, tt));
    right = (copy-settled R I (R + I) env, (λ k f at. next_is p.next k f (S env) at), (after-settled size (S env), tt, tt));
    same_inputs = (
      λ k above. copies-share R I 0 (R + I) env k above,
      (λ k above. next_past p.next k (L env) (omega (arith, size)) ∙ sym (next_past p.next k (S env) (omega (arith, size))), tt),
    );
    left_allowed = (All-nil _, tt);
    right_allowed = (All-nil _, tt);
    agree = λ e. shown-agree (L env) (S env) shown;
  }

  pub step-valid : length p.next ≡ R → IsInductive m 0 all → IsValid 0 (R + I + R) (step_formula p)
  step-valid size ind = pairs-step (λ env registers shown.
      let x = L env in
      let y = S env in
      let h = ind.step x (after x) [] y (after y) [] true (longer-of size env shown) (numbers-hold p n count x y true registers refl) in (
        values-from p.next x y (λ k f at.
            let same : after x k ≡ after y k = registers-equal p n count (after x) (after y) (aligned_after m x y true) h k (omega (arith, size, slice_get_within p.next k f at)) in
            sym (next_is p.next k f x at) ∙ same ∙ next_is p.next k f y at),
        from-aligned x y true (is-aligned p n count (after x) (after y) (aligned_after m x y true) h),
      ))

  pub accepted_if_valid :
      length p.next ≡ R → IsValid 0 (R + I + R) (base_formula p) → IsValid 0 (R + I + R) (step_formula p) → IsValid 0 (R + I + R) (imply_formula p) →
      IsInductive m 0 all × Implies m 0 all
  accepted_if_valid size base step imply = (
    record { numbers = numbers-are p n count; base = base-holds base; step = step-holds size step },
    record { same = imply-holds imply },
  )

  pub accepted_by :
      (b s i : Bool) → length p.next ≡ R →
      (IsTrue b ↔ IsValid 0 (R + I + R) (base_formula p)) → (IsTrue s ↔ IsValid 0 (R + I + R) (step_formula p)) → (IsTrue i ↔ IsValid 0 (R + I + R) (imply_formula p)) →
      IsTrue (b && s && i) ↔ (IsInductive m 0 all × Implies m 0 all)
  accepted_by b s i size base step imply = (
    λ is.
        let last = and_parts (b && s) i is in
        let first = and_parts b s last.0 in
        accepted_if_valid size (base.0 first.0) (step.0 first.1) (imply.0 last.1),
    λ (ind, imp). and_from (b && s) i (and_from b s (base.1 (base-valid ind.base)) (step.1 (step-valid size ind))) (imply.1 (imply-valid imp)),
  )
