-- The scopes of a design, one behind another, by where each of them stands.
use Rattle.std.specs.Prelude.{◌≡◌, ℕ, suc, ◌<◌, ◌≤◌, ◌==◌, if◌then◌else◌, List, [], ◌∷◌, ◌++◌, map, length, filter, slice_index_or, ⊤}
use Rattle.lv_source.specs.Scopes.{Scope, children}
use Rattle.lv_source.specs.Parts.{Design, scopes_of}
use Rattle.lv_source.specs.Preorder.{AreScopes}
use Rattle.lv_children.specs.Children.{Seen, child_scope}

-- what stands below a scope: the number of that scope, how many of its declarations stand before, and what it is
pub record Below : Type 0 where
  pub parent : ℕ
  pub before : ℕ
  pub child : Seen

abbrev pub scope_at : Scope → List Scope → ℕ → Scope
scope_at top ss at = slice_index_or ss at top

-- the scope that it is
abbrev pub scope_below : Scope → List Scope → Below → Scope
scope_below top ss b = child_scope (scope_at top ss b.parent) b.before b.child

-- each behind those before it
abbrev pub built_on : Scope → List Scope → List Below → List Scope
built_on top ss [] = ss
built_on top ss (b ∷ bs) = built_on top (ss ++ scope_below top ss b ∷ []) bs

-- the top, and those below
abbrev pub built : Scope → List Below → List Scope
built top bs = built_on top (top ∷ []) bs

-- the numbers of those that stand in a scope
abbrev pub kids_from : ℕ → List Below → ℕ → List ℕ
kids_from n [] at = []
kids_from n (b ∷ bs) at = if b.parent == at then n ∷ kids_from (suc n) bs at else kids_from (suc n) bs at

abbrev pub kids : List Below → ℕ → List ℕ
kids bs at = kids_from 1 bs at

-- each stands in one before it
abbrev pub Earlier : ℕ → List Below → Type 0
Earlier n [] = ⊤
Earlier n (b ∷ bs) = (b.parent < n) × Earlier (suc n) bs

-- each stands in one of so many
abbrev pub Within : ℕ → List Below → Type 0
Within n [] = ⊤
Within n (b ∷ bs) = (b.parent < n) × Within n bs

-- each stands in this one
abbrev pub AllIn : ℕ → List Below → Type 0
AllIn n [] = ⊤
AllIn n (b ∷ bs) = (b.parent ≡ n) × AllIn n bs

abbrev pub waiting_in : ℕ → List Below → List Below
waiting_in at bs = filter (λ b. b.parent == at) bs

-- the top and those below it are the first scopes of the design, and the others come from those that wait
pub record IsTracked (d : Design) (top : Scope) (bs waiting : List Below) : Type 0 where
  pub rest : List Scope
  pub all : built top bs ++ rest ≡ scopes_of d
  pub walk : AreScopes d.source (map (scope_below top (built top bs)) waiting) rest
  pub earlier : Earlier 1 bs
  pub within : Within (suc (length bs)) waiting
  pub kids : (at : ℕ) → at ≤ length bs → map (scope_at top (built top bs)) (kids bs at) ++ map (scope_below top (built top bs)) (waiting_in at waiting) ≡
      children d.source (scope_at top (built top bs) at)

-- these are the children of the scope with this number, which is the last one
pub record AreBelow (d : Design) (top : Scope) (bs : List Below) (cs : List Below) : Type 0 where
  pub all : AllIn (length bs) cs
  pub scopes : map (scope_below top (built top bs)) cs ≡ children d.source (scope_at top (built top bs) (length bs))
