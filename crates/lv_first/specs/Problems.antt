-- The machine of a problem, and the formulas that decide its list of all candidates.
use Rattle.std.specs.Prelude.{◌≡◌, ℕ, zero, suc, ◌+◌, ◌≤◌, true, List, [], ◌∷◌, ◌++◌, map, slice_get, Some}
use Rattle.std.specs.List.{range_with_len}
use Rattle.lv_bits.specs.Values.{bit}
use Rattle.lv_model.specs.Machine.{Machine}
use Rattle.lv_model.specs.Design.{Design, Observers, Candidate, Eq, Aligned, machine_of}
use Rattle.lv_first.specs.declared.formula.Formula.{Formula}
use Rattle.lv_first.specs.declared.problem.Problem.{Problem}
use Rattle.lv_first.specs.Formulas.{Assignment, Truth, constant, variable, both, alike, implied, in_copy, truth, IsZeroOutside}

-- ---- its machine: registers and then inputs, each one bit, by number

abbrev pub number : Truth → Assignment → ℕ
number t env = bit (t env)

abbrev pub numbers : List Formula → List (Assignment → ℕ)
numbers fs = map (λ f. number (truth f)) fs

abbrev pub register : ℕ → Assignment → ℕ
register k env = bit (env k)

abbrev pub design_of : Problem → Design Assignment
design_of p =
    record {
      IsSettled = λ v. IsZeroOutside 0 (p.registers + p.inputs) v;
      Follows = λ v w. (k : ℕ) (f : Formula) → slice_get p.next k ≡ Some f → w k ≡ truth f v;
      SameInputs = λ l r. (k : ℕ) → p.registers ≤ k → l k ≡ r k;
    }

abbrev pub candidates_of : ℕ → List (Candidate Assignment)
candidates_of registers = map (λ k. Eq (register k)) (range_with_len 0 registers) ++ Aligned ∷ []

abbrev pub observers_of : Problem → Observers Assignment
observers_of p =
    record {
      ports = record { retire = number (truth p.retire); contract = numbers p.contract } ∷ [];
      attacker = numbers p.attacker;
      assume = [];
      equal = map register p.equal;
      each = [];
      candidates = candidates_of p.registers;
    }

abbrev pub machine_of_problem : Problem → Machine Assignment
machine_of_problem p = machine_of (design_of p) (observers_of p)

-- ---- its formulas, over the variables of the left copy and then the registers of the right one

abbrev pub left : ℕ → ℕ → Truth → Truth
left registers inputs t = in_copy registers inputs 0 t

abbrev pub right : ℕ → ℕ → Truth → Truth
right registers inputs t = in_copy registers inputs (registers + inputs) t

-- it has one value in both copies
abbrev pub alike_in : ℕ → ℕ → Truth → Truth
alike_in registers inputs t = alike (left registers inputs t) (right registers inputs t)

abbrev pub all_alike : ℕ → ℕ → List Formula → Truth
all_alike registers inputs [] = constant true
all_alike registers inputs (f ∷ fs) = both (alike_in registers inputs (truth f)) (all_alike registers inputs fs)

abbrev pub chosen_alike : ℕ → ℕ → List ℕ → Truth
chosen_alike registers inputs [] = constant true
chosen_alike registers inputs (k ∷ ks) = both (alike_in registers inputs (variable k)) (chosen_alike registers inputs ks)

abbrev pub first_alike : ℕ → ℕ → ℕ → Truth
first_alike registers inputs zero = constant true
first_alike registers inputs (suc n) = both (alike_in registers inputs (variable n)) (first_alike registers inputs n)

module _ (p : Problem) where
  -- all registers are alike
  abbrev pub state_alike : Truth
  state_alike = first_alike p.registers p.inputs p.registers

  -- where both copies retire, they show the same
  abbrev pub shown_alike : Truth
  shown_alike =
      implied (both (left p.registers p.inputs (truth p.retire)) (right p.registers p.inputs (truth p.retire)))
      (all_alike p.registers p.inputs p.contract)

  abbrev pub base_formula : Truth
  base_formula = implied (chosen_alike p.registers p.inputs p.equal) state_alike

  abbrev pub step_formula : Truth
  step_formula = implied (both state_alike shown_alike) (both (all_alike p.registers p.inputs p.next) (alike_in p.registers p.inputs (truth p.retire)))

  abbrev pub imply_formula : Truth
  imply_formula = implied (both state_alike shown_alike) (all_alike p.registers p.inputs p.attacker)

-- the numbers of all candidates
abbrev pub all_of : Problem → List ℕ
all_of p = range_with_len 0 (suc p.registers)
