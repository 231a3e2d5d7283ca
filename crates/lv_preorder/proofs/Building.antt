-- Scopes that are built one behind another.
use Rattle.std.proofs.Common.{◌≡◌, ℕ, zero, suc, ◌+◌, ◌<◌, ◌≤◌, arith, List, [], ◌∷◌, ◌++◌, map, length, refl, sym, ap, ◌∙◌, subst, Some}
use Rattle.std.specs.Prelude.{slice_get}
use Rattle.std.proofs.Math.ListN.{get_or-append}
use Rattle.std.proofs.Math.Seq.{get_or-append_seam}
use Rattle.lv_source.specs.Scopes.{Scope}
use Rattle.lv_children.specs.Children.{child_scope}
use Rattle.lv_preorder.specs.Origins.{Below, scope_at, scope_below, built_on, Earlier, Within, AllIn}

module _ (top : Scope) where
  pub built-snoc : (ss : List Scope) (bs : List Below) (b : Below) →
      built_on top ss (bs ++ b ∷ []) ≡ built_on top ss bs ++ scope_below top (built_on top ss bs) b ∷ []
  built-snoc ss [] b = refl
  built-snoc ss (c ∷ bs) b = built-snoc (ss ++ scope_below top ss c ∷ []) bs b

  length-snoc : (ss : List Scope) (s : Scope) → length (ss ++ s ∷ []) ≡ suc (length ss)
  length-snoc [] s = refl
  length-snoc (x ∷ ss) s = ap suc (length-snoc ss s)

  pub built-length : (ss : List Scope) (bs : List Below) → length (built_on top ss bs) ≡ length ss + length bs
  built-length ss [] = omega arith
  built-length ss (b ∷ bs) =
      let h : length (built_on top (ss ++ scope_below top ss b ∷ []) bs) ≡ length (ss ++ scope_below top ss b ∷ []) + length bs =
      built-length (ss ++ scope_below top ss b ∷ []) bs in
      let n : length (ss ++ scope_below top ss b ∷ []) ≡ suc (length ss) = length-snoc ss (scope_below top ss b) in
      omega arith

  pub at-old : (ss more : List Scope) (k : ℕ) → k < length ss → scope_at top (ss ++ more) k ≡ scope_at top ss k
  at-old ss more k h = get_or-append ss more top k h

  pub at-new : (ss more : List Scope) (s : Scope) (n : ℕ) → n ≡ length ss → scope_at top (ss ++ s ∷ more) n ≡ s
  at-new ss more s n h = ap (scope_at top (ss ++ s ∷ more)) h ∙ get_or-append_seam ss s more top

  pub below-old : (ss more : List Scope) (b : Below) → b.parent < length ss → scope_below top (ss ++ more) b ≡ scope_below top ss b
  below-old ss more b h = ap (λ s. child_scope s b.before b.child) (at-old ss more b.parent h)

  -- what stands in the first ones
  pub belows-old : (ss more : List Scope) (ws : List Below) (n : ℕ) → n ≤ length ss → Within n ws →
      map (scope_below top (ss ++ more)) ws ≡ map (scope_below top ss) ws
  belows-old ss more [] n h k = refl
  belows-old ss more (b ∷ ws) n h k =
      let l : b.parent < n = k.0 in
      ap (λ s. s ∷ map (scope_below top (ss ++ more)) ws) (below-old ss more b (omega arith)) ∙ ap (λ xs. scope_below top ss b ∷ xs) (belows-old ss more ws n h k.1)

  -- the first ones stay
  pub built-first : (ss : List Scope) (bs : List Below) (k : ℕ) → k < length ss → scope_at top (built_on top ss bs) k ≡ scope_at top ss k
  built-first ss [] k h = refl
  built-first ss (b ∷ bs) k h =
      let n : length (ss ++ scope_below top ss b ∷ []) ≡ suc (length ss) = length-snoc ss (scope_below top ss b) in
      built-first (ss ++ scope_below top ss b ∷ []) bs k (omega arith) ∙ at-old ss (scope_below top ss b ∷ []) k h

  pub built-is : (ss : List Scope) (bs : List Below) (k : ℕ) (b : Below) → Earlier (length ss) bs → slice_get bs k ≡ Some b →
      scope_at top (built_on top ss bs) (length ss + k) ≡ scope_below top (built_on top ss bs) b
  built-is ss [] k b e h = cc
  built-is ss (c ∷ bs) zero b e h =
      let q : c ≡ b = cc in
      let more : List Scope = scope_below top ss c ∷ [] in
      let n : length (ss ++ more) ≡ suc (length ss) = length-snoc ss (scope_below top ss c) in
      let l : c.parent < length ss = e.0 in
      subst (λ (x : Below). scope_at top (built_on top (ss ++ more) bs) (length ss + 0) ≡ scope_below top (built_on top (ss ++ more) bs) x) q
      (built-first (ss ++ more) bs (length ss + 0) (omega arith) ∙ at-new ss [] (scope_below top ss c) (length ss + 0) (omega arith) ∙
      ap (λ s. child_scope s c.before c.child) (sym (built-first (ss ++ more) bs c.parent (omega arith) ∙ at-old ss more c.parent l)))
  built-is ss (c ∷ bs) (suc k) b e h =
      let more : List Scope = scope_below top ss c ∷ [] in
      let n : length (ss ++ more) ≡ suc (length ss) = length-snoc ss (scope_below top ss c) in
      let m : length (ss ++ more) + k ≡ length ss + suc k = omega arith in
      subst (λ j. scope_at top (built_on top (ss ++ more) bs) j ≡ scope_below top (built_on top (ss ++ more) bs) b) m
      (built-is (ss ++ more) bs k b (subst (λ j. Earlier j bs) (sym n) e.1) h)

-- ---- numbers

pub earlier-snoc : (n : ℕ) (bs : List Below) (b : Below) → Earlier n bs → b.parent < n + length bs → Earlier n (bs ++ b ∷ [])
earlier-snoc n [] b e h = (omega arith, tt)
earlier-snoc n (c ∷ bs) b e h = (e.0, earlier-snoc (suc n) bs b e.1 (omega arith))

pub within-more : (n m : ℕ) (ws : List Below) → n ≤ m → Within n ws → Within m ws
within-more n m [] h k = tt
within-more n m (b ∷ ws) h k = let l : b.parent < n = k.0 in (omega arith, within-more n m ws h k.1)

pub within-both : (n : ℕ) (cs ws : List Below) → Within n cs → Within n ws → Within n (cs ++ ws)
within-both n [] ws h k = k
within-both n (c ∷ cs) ws h k = (h.0, within-both n cs ws h.1 k)

pub all-within : (n m : ℕ) (cs : List Below) → n < m → AllIn n cs → Within m cs
all-within n m [] h k = tt
all-within n m (c ∷ cs) h k = let e : c.parent ≡ n = k.0 in (omega arith, all-within n m cs h k.1)
