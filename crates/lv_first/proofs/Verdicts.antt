-- The verdict on a module from the verdict on its problem.
use Rattle.std.proofs.Common.{◌≡◌, ℕ, suc, ◌<◌, List, [], ◌∷◌, ◌++◌, refl, sym, ap, subst, arith}
use Rattle.std.specs.Prelude.{All, ◌↔◌}
use Rattle.std.specs.List.{range_with_len}
use Rattle.std.proofs.lemmas.List.Elements.{All-nil, All-cons}
use Rattle.lv_ast.specs.declared.item.Module.{Module}
use Rattle.lv_ast.specs.Names.{Name}
use Rattle.lv_source.specs.Names.{Valuation}
use Rattle.lv_model.specs.Machine.{Machine, IsMet, Initial, Allowed, IsInductive, Implies}
use Rattle.lv_model.proofs.Soundness.{sound}
use Rattle.lv_first.specs.declared.judging.Verdict.TheVariants as v
use Rattle.lv_first.specs.declared.observed.ObserverTrees.{ObserverTrees}
use Rattle.lv_first.specs.declared.problem.Problem.{Problem}
use Rattle.lv_first.specs.Verdicts.{all_candidates, IsVerdict, IsKept, proved, unproved}
use Rattle.lv_first.specs.FirstForm.{registers_of, inputs_of, clocked, machine_of_module}
use Rattle.lv_first.specs.Problems.{machine_of_problem, all_of}
use Rattle.lv_first.specs.Signals.{env_of, val_of, IsPrepared}
use Rattle.lv_first.proofs.Sameness.{mirrors}
use Rattle.lv_first.proofs.Mirrors.{mirrored}

-- ---- two equal states

all_same : (es : List (Valuation → ℕ)) (v : Valuation) → All (λ e. e v ≡ e v) es
all_same [] v = All-nil _
all_same (e ∷ es) v = All-cons (λ e. e v ≡ e v) e es refl (all_same es v)

all_zero : (P : Name → Type 0) → ((x : Name) → P x) → (xs : List Name) → All P xs
all_zero P each [] = All-nil P
all_zero P each (x ∷ xs) = All-cons P x xs (each x) (all_zero P each xs)

module _ (top clock : Name) (m : Module) (c : ObserverTrees) where
  abbrev M : Machine Valuation
  M = machine_of_module m clock c

  abbrev nothing : Valuation
  nothing x = 0

  settled : M.IsSettled nothing
  settled = (all_zero (λ x. nothing x < 2) (λ x. omega arith) (registers_of m ++ inputs_of m clock), λ x h. refl)

  pub initial_met : IsMet M 0 [] Initial
  initial_met = (
    nothing,
    nothing,
    record {
      left = settled;
      right = settled;
      same_inputs = all_zero (λ x. nothing x ≡ nothing x) (λ x. refl) (inputs_of m clock);
      initial = (all_same _ nothing, All-nil _);
    },
  )

  pub allowed_met : IsMet M 0 [] Allowed
  allowed_met = (nothing, settled, All-nil _)

  module _ (registers : List Name) (p : Problem) (h : IsPrepared m top clock c registers p) where
    carried : (IsInductive M 0 (all_of p) × Implies M 0 (all_of p)) ↔ (IsInductive (machine_of_problem p) 0 (all_of p) × Implies (machine_of_problem p) 0 (all_of p))
    carried =
        let Rs = registers_of m in
        let Is = inputs_of m clock in
        mirrored M (machine_of_problem p) (λ v. env_of (Rs ++ Is) v) (λ env. val_of (Rs ++ Is) env) (mirrors Rs Is (clocked m.items) c p h.problem) 0 (all_of p)

    same_numbers : all_of p ≡ all_candidates m
    same_numbers = ap (λ n. range_with_len 0 (suc n)) h.problem.register_count

    both_of : IsInductive (machine_of_problem p) 0 (all_of p) × Implies (machine_of_problem p) 0 (all_of p) → IsInductive M 0 (all_candidates m) × Implies M 0 (all_candidates m)
    both_of both = subst (λ z. IsInductive M 0 z × Implies M 0 z) same_numbers (carried.1 both)

    pub verdict_yes : IsInductive (machine_of_problem p) 0 (all_of p) × Implies (machine_of_problem p) 0 (all_of p) → IsVerdict top clock 0 m c (v.Proved 0 registers)
    verdict_yes both =
        let source = both_of both in
        subst (λ z. IsVerdict top clock 0 m c (v.Proved 0 z)) (sym h.registers_are)
        (proved h.form (record { safe = sound M 0 (all_candidates m) source.0 source.1; initial = initial_met; allowed = allowed_met })
        (record { inductive = source.0; implies = source.1 }))

    pub verdict_no : (IsInductive (machine_of_problem p) 0 (all_of p) × Implies (machine_of_problem p) 0 (all_of p) → ⊥) → IsVerdict top clock 0 m c v.Unproved
    verdict_no no_list =
        unproved h.form (λ (k : IsKept m clock 0 c). no_list (carried.0 (subst (λ z. IsInductive M 0 z × Implies M 0 z) (sym same_numbers) (k.inductive, k.implies))))
