-- The open conditionals, and what a directive does with the innermost.
use Rattle.std.proofs.Common.{◌≡◌, ℕ, zero, suc, ◌-◌, Bool, true, List, [], ◌∷◌, ◌++◌, length, take, drop, Option, Some, None, refl, sym, ap, ◌∙◌, subst, arith}
use Rattle.std.specs.Prelude.{slice_get}
use Rattle.std.proofs.Math.Seq.{take-length}
use Rattle.lv_ast.specs.Folds.{is_read, rest}
use Rattle.lv_ast.specs.Folds as folds
use Rattle.lv_ast.specs.declared.tokens.Token.{Token}
use Rattle.lv_lexer.specs.declared.folds.Branch.{Branch}
use Rattle.lv_lexer.specs.Shown.{top_first, branch_shown}

pub rest_take : (s : List Token) → take (length s - 1) (drop 1 s) ≡ rest s
rest_take [] = refl
rest_take (t ∷ ts) = let e : length (t ∷ ts) - 1 ≡ length ts = omega arith in subst (λ n. take n ts ≡ ts) (sym e) (take-length ts)

abbrev pub kept_of : Option Branch → Bool
kept_of None = true
kept_of (Some b) = b.kept

-- more branches further out change nothing
further : (l : List folds.Branch) (a b : folds.Branch) → is_read ((l ++ a ∷ []) ++ b ∷ []) ≡ is_read (l ++ a ∷ [])
further [] a b = refl
further (c ∷ cs) a b = refl

pub innermost : (bs : List Branch) (k : ℕ) → length bs ≡ suc k → kept_of (slice_get bs k) ≡ is_read (top_first bs)
innermost [] k h = absurd (omega (arith, h))
innermost (b ∷ []) zero h = refl
innermost (b ∷ []) (suc k) h = absurd (omega (arith, h))
innermost (b ∷ c ∷ cs) zero h = absurd (omega (arith, h))
innermost (b ∷ c ∷ cs) (suc k) h = innermost (c ∷ cs) k (omega (arith, h)) ∙ sym (further (top_first cs) (branch_shown c) (branch_shown b))

pub top_push : (bs : List Branch) (b : Branch) → top_first (bs ++ b ∷ []) ≡ (branch_shown b ∷ top_first bs)
top_push [] b = refl
top_push (c ∷ cs) b = ap (λ l. l ++ branch_shown c ∷ []) (top_push cs b)

pub top_after : (bs cs : List Branch) (b : Branch) → bs ≡ cs ++ b ∷ [] → top_first bs ≡ (branch_shown b ∷ top_first cs)
top_after bs cs b h = ap top_first h ∙ top_push cs b
