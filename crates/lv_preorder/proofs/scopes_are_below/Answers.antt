use Rattle.std.proofs.Common.{[], ◌∷◌, ℕ, suc, ◌+◌, ◌≡◌, subst, arith}
use Rattle.lv_preorder.specs.Origins.{scope_at, scope_below, built}
use Rattle.lv_preorder.proofs.Building.{built-is}
use Rattle.lv_preorder.proofs.scopes_are_below.Goals as goal

pub returns : goal.returns
returns c = λ top bs k b e h. subst (λ n. scope_at top (built top bs) n ≡ scope_below top (built top bs) b) (one-more k) (built-is top (top ∷ []) bs k b e h) where
  one-more : (k : ℕ) → 1 + k ≡ suc k
  one-more k = omega arith
