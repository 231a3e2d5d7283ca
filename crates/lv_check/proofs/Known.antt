-- The clauses that a line may rest on.
use Rattle.std.proofs.Common.{◌≡◌, ℕ, suc, zero, ◌+◌, ◌-◌, ◌<◌, ◌≤◌, List, length, map, take, refl, ◌∙◌, arith, length-append}
use Rattle.std.specs.Prelude.{Some, None, slice_get}
use Rattle.std.proofs.lemmas.Option.{slice_get_past, slice_get-map}
use Rattle.std.proofs.lemmas.List.{length-take, length-map}
use Rattle.lv_clauses.proofs.Lists.{get-after, get-taken}
use Rattle.lv_clauses.specs.Derivations.{Step, known_at}
use Rattle.lv_clauses.specs.Sets.{numbered}
use Rattle.lv_clauses.specs.Literals.{Lit}

pub known-line : (cs : List (List Lit)) (lines : List Step) (k j : ℕ) (s : Step) → j < k → slice_get lines j ≡ Some s → slice_get (known_at cs lines k) (length cs + j) ≡ Some s.clause
known-line cs lines k j s below e =
    get-after cs (map (λ s. s.clause) (take k lines)) j ∙ (slice_get-map (λ (s : Step). s.clause) (take k lines) j ∙ rw (get-taken lines k j below) (rw e refl))

pub known-past : (cs : List (List Lit)) (lines : List Step) (k i : ℕ) → k ≤ length lines → length cs + k ≤ i → slice_get (known_at cs lines k) i ≡ None
known-past cs lines k i within past =
    slice_get_past (known_at cs lines k) i (omega (arith, length-append cs (map (λ s. s.clause) (take k lines)), length-map (take k lines) (λ (s : Step). s.clause), length-take k lines))

pub number : (known : List (List Lit)) (id : ℕ) → 1 ≤ id → numbered known id ≡ slice_get known (id - 1)
number known zero h = absurd (omega arith)
number known (suc id) h = let e : suc id - 1 ≡ id = omega arith in rw e refl
