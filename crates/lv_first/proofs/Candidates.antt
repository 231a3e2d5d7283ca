-- The list of all candidates of a problem: each register is equal, and the runs are aligned.
use Rattle.std.proofs.Common.{◌≡◌, ℕ, suc, ◌+◌, ◌<◌, inl, inr, Bool, true, List, [], ◌∷◌, length, map, sym, ◌∙◌, ap, subst, arith, get_or, length-append, zero-add}
use Rattle.std.specs.Prelude.{Some, slice_get}
use Rattle.std.specs.List.{range_with_len}
use Rattle.std.proofs.lemmas.Bool.{cases_lt}
use Rattle.std.proofs.lemmas.List.{get_or_append_left}
use Rattle.std.proofs.Math.Seq.{get_or-append_seam}
use Rattle.std.proofs.lemmas.List.FromFn.{get_or-map-range_with_len, length-map-range_with_len, get_or-range_with_len, length-range_with_len}
use Rattle.std.proofs.lemmas.List.Elements.{All-from_get_or, All-get_or}
use Rattle.std.proofs.lemmas.Option.{slice_get-get_or}
use Rattle.lv_bits.specs.Values.{bit}
use Rattle.lv_model.specs.Machine.{Machine, AllHold, AreCandidates}
use Rattle.lv_model.specs.Design.{Candidate, Eq, Aligned, MaybeHolds}
use Rattle.lv_first.specs.declared.problem.Problem.{Problem}
use Rattle.lv_first.specs.Formulas.{Assignment}
use Rattle.lv_first.specs.Problems.{register, candidates_of, machine_of_problem}
use Rattle.lv_first.proofs.Alike.{from_bits}

abbrev equal_registers : ℕ → List (Candidate Assignment)
equal_registers n = map (λ k. Eq (register k)) (range_with_len 0 n)

count_registers : (n : ℕ) → length (equal_registers n) ≡ n
count_registers n = length-map-range_with_len (λ k. Eq (register k)) 0 n

pub candidates-count : (n : ℕ) → length (candidates_of n) ≡ suc n
candidates-count n = omega (arith, length-append (equal_registers n) (Aligned ∷ []), count_registers n)

pub candidate-of_register : (n k : ℕ) → k < n → slice_get (candidates_of n) k ≡ Some (Eq (register k))
candidate-of_register n k h =
    slice_get-get_or (candidates_of n) k Aligned (omega (arith, candidates-count n)) ∙
    ap Some (get_or_append_left (equal_registers n) (Aligned ∷ []) Aligned k (omega (arith, count_registers n)) ∙
    get_or-map-range_with_len (λ k. Eq (register k)) 0 n k k Aligned h (omega arith))

pub candidate-last : (n : ℕ) → slice_get (candidates_of n) n ≡ Some Aligned
candidate-last n =
    let e = get_or-append_seam (equal_registers n) Aligned [] Aligned in
    slice_get-get_or (candidates_of n) n Aligned (omega (arith, candidates-count n)) ∙
    ap Some (ap (λ j. get_or (candidates_of n) j Aligned) (sym (count_registers n)) ∙ e)

at_index : (n k : ℕ) → k < n → get_or (range_with_len 0 n) k 0 ≡ k
at_index n k h = get_or-range_with_len 0 n k 0 h ∙ zero-add k

module _ (p : Problem) (n : ℕ) (count : n ≡ suc p.registers) where
  abbrev m : Machine Assignment
  m = machine_of_problem p

  pub numbers-are : AreCandidates m (range_with_len 0 n)
  numbers-are = record {
    rising = λ k below.
        let e : k + 1 < n = omega (arith, length-range_with_len 0 n) in
        omega (arith, get_or-range_with_len 0 n k 0 (omega arith), get_or-range_with_len 0 n (k + 1) 0 e);
    in_range = All-from_get_or (λ k. k < m.candidates) (range_with_len 0 n) 0
        (λ k below. omega (arith, candidates-count p.registers, get_or-range_with_len 0 n k 0 (omega (arith, length-range_with_len 0 n)), length-range_with_len 0 n));
  }

  held : (l r : Assignment) (a : Bool) → ((k : ℕ) → k < p.registers → l k ≡ r k) → a ≡ true → (k : ℕ) → k < n → m.Holds k l r a
  held l r a same e k h = elim (cases_lt k p.registers) [
    | inl below ↦ subst (λ c. MaybeHolds c l r a) (sym (candidate-of_register p.registers k below)) (ap bit (same k below))
    | inr above ↦
        let last : p.registers ≡ k = omega arith in
        subst (λ c. MaybeHolds c l r a) (sym (subst (λ j. slice_get (candidates_of p.registers) j ≡ Some Aligned) last (candidate-last p.registers))) e
  ]

  pub numbers-hold : (l r : Assignment) (a : Bool) → ((k : ℕ) → k < p.registers → l k ≡ r k) → a ≡ true → AllHold m (range_with_len 0 n) l r a
  numbers-hold l r a same e = All-from_get_or (λ k. m.Holds k l r a) (range_with_len 0 n) 0
      (λ k below.
      let h : k < n = omega (arith, length-range_with_len 0 n) in
      subst (λ j. m.Holds j l r a) (sym (at_index n k h)) (held l r a same e k h))

  holds : (l r : Assignment) (a : Bool) → AllHold m (range_with_len 0 n) l r a → (k : ℕ) → k < n → m.Holds k l r a
  holds l r a all k h =
      subst (λ j. m.Holds j l r a) (at_index n k h)
      (All-get_or (λ k. m.Holds k l r a) (range_with_len 0 n) k 0 (omega (arith, length-range_with_len 0 n)) all)

  pub registers-equal : (l r : Assignment) (a : Bool) → AllHold m (range_with_len 0 n) l r a → (k : ℕ) → k < p.registers → l k ≡ r k
  registers-equal l r a all k h =
      from_bits (l k) (r k) (subst (λ c. MaybeHolds c l r a) (candidate-of_register p.registers k h) (holds l r a all k (omega arith)))

  pub is-aligned : (l r : Assignment) (a : Bool) → AllHold m (range_with_len 0 n) l r a → a ≡ true
  is-aligned l r a all = subst (λ c. MaybeHolds c l r a) (candidate-last p.registers) (holds l r a all p.registers (omega arith))
