use Rattle.std.proofs.Common.{◌≡◌, ℕ, zero, suc, ◌+◌, List, [], ◌∷◌, ◌++◌, sym, ◌∙◌, ap, arith}
use Rattle.std.specs.List.{range_with_len}
use Rattle.lv_learner.proofs.learner.all_candidates.Goals as goal

range_push : (a n : ℕ) → range_with_len a n ++ (a + n) ∷ [] ≡ range_with_len a (suc n)
range_push a zero = ap (λ (k : ℕ). k ∷ []) (omega arith)
range_push a (suc n) =
    let e : a + suc n ≡ a + 1 + n = omega arith in
    ap (λ (k : ℕ). range_with_len a (suc n) ++ k ∷ []) e ∙ ap (λ (xs : List ℕ). a ∷ xs) (range_push (a + 1) n)

pub loop-k-preserved : goal.loop-k-preserved
loop-k-preserved c =
    let k : ℕ = c.loop-k.k in
    let a : 0 + k ≡ k = omega arith in
    let b : suc k ≡ k + 1 = omega arith in
    c.push_reserved.ensures.items ∙ (ap (λ (xs : List ℕ). xs ++ k ∷ []) (c.reserve.ensures.items ∙ c.loop-k.invariant) ∙
    (ap (λ (j : ℕ). range_with_len 0 k ++ j ∷ []) (sym a) ∙ (range_push 0 k ∙ ap (range_with_len 0) b)))
