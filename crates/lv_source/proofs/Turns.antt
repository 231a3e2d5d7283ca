-- The values of a loop's index differ from turn to turn, where the loop ends: a value that came again would come for ever.
use Rattle.std.proofs.Common.{◌≡◌, ◌⊎◌, inl, inr, ℕ, zero, suc, ◌+◌, ◌-◌, ◌<◌, ◌≤◌, arith, Bool, true, false, ◌==◌, List, [], ◌∷◌, length, refl, sym, ap, ◌∙◌, subst}
use Rattle.std.proofs.lemmas.Bool.{cases_lt}
use Rattle.lv_ast.specs.declared.expr.Expr.{Expr}
use Rattle.lv_ast.specs.Names.{Name}
use Rattle.lv_source.specs.Names.{Names}
use Rattle.lv_source.specs.Meaning.{constant_value}
use Rattle.lv_source.specs.Effect.{turns, turns_from, index_value, with_index}
use Rattle.lv_source.proofs.Refused.{In}
use Rattle.lv_source.proofs.Apart.{Apart}

abbrev pub Differ : {A : Type 0} → A → A → Type 0
Differ x y = x ≡ y → ⊥

module _ (names : Names) (index : Name) (test next : Expr) where
  abbrev T : ℕ → ℕ → List ℕ
  T n v = turns_from n names index test next v

  abbrev stops : ℕ → Bool
  stops v = constant_value (with_index names index v) test == 0

  abbrev step : ℕ → ℕ
  step v = index_value (with_index names index v) next

  -- w comes so many turns after v
  abbrev Comes : ℕ → ℕ → ℕ → Type 0
  Comes zero v w = v ≡ w
  Comes (suc j) v w = (stops v ≡ false) × Comes j (step v) w

  abbrev by : Bool → ℕ → List ℕ → List ℕ
  by b v rest = elim b as (λ _. List ℕ) [ true ↦ [] | false ↦ v ∷ rest ]

  T_none : (v : ℕ) → T 0 v ≡ []
  unfolding turns_from
  T_none v = refl

  T_is : (n v : ℕ) → T (suc n) v ≡ by (stops v) v (T n (step v))
  unfolding turns_from
  T_is n v = refl

  T_goes : (n v : ℕ) → stops v ≡ false → T (suc n) v ≡ v ∷ T n (step v)
  T_goes n v e = T_is n v ∙ ap (λ b. by b v (T n (step v))) e

  T_ends : (n v : ℕ) → stops v ≡ true → T (suc n) v ≡ []
  T_ends n v e = T_is n v ∙ ap (λ b. by b v (T n (step v))) e

  either : (v : ℕ) → (stops v ≡ true) ⊎ (stops v ≡ false)
  either v = elim (stops v) as (λ b. (b ≡ true) ⊎ (b ≡ false)) [ true ↦ inl refl | false ↦ inr refl ]

  comes : (n v w : ℕ) → In w (T n v) → (j : ℕ) × Comes j v w
  comes zero v w h = absurd (subst (λ (xs : List ℕ). In w xs) (T_none v) h)
  comes (suc n) v w h = elim (either v) [
    | inl e ↦ absurd (subst (λ (xs : List ℕ). In w xs) (T_ends n v e) h)
    | inr e ↦ elim (subst (λ (xs : List ℕ). In w xs) (T_goes n v e) h) [
      | inl k ↦ (0, k)
      | inr k ↦ (let r : (j : ℕ) × Comes j (step v) w = comes n (step v) w k in (suc r.0, (e, r.1)))
    ]
  ]

  -- so many turns take place
  longer : (j m n v w : ℕ) → n ≡ j + m → Comes j v w → length (T n v) ≡ j + length (T m w)
  longer zero m n v w e h = ap (λ k. length (T k v)) (let f : n ≡ m = omega arith in f) ∙ (ap (λ u. length (T m u)) h ∙ (let f : length (T m w) ≡ 0 + length (T m w) = omega arith in f))
  longer (suc j) m zero v w e h = absurd (omega arith)
  longer (suc j) m (suc n) v w e h =
      let f : n ≡ j + m = omega arith in
      let r : length (T n (step v)) ≡ j + length (T m w) = longer j m n (step v) w f h.1 in
      ap (λ (xs : List ℕ). length xs) (T_goes n v h.0) ∙ (let q : length (v ∷ T n (step v)) ≡ suc j + length (T m w) = omega arith in q)

  shorter : (j r v w : ℕ) → Comes j v w → r ≤ j → length (T r v) ≡ r
  shorter j zero v w h l = ap (λ (xs : List ℕ). length xs) (T_none v)
  shorter zero (suc r) v w h l = absurd (omega arith)
  shorter (suc j) (suc r) v w h l =
      let f : length (T r (step v)) ≡ r = shorter j r (step v) w h.1 (omega arith) in
      ap (λ (xs : List ℕ). length xs) (T_goes r v h.0) ∙ (let q : length (v ∷ T r (step v)) ≡ suc r = omega arith in q)

  -- a value that comes again comes for ever
  for_ever : (k j v n : ℕ) → Comes (suc j) v v → n ≤ k → length (T n v) ≡ n
  for_ever zero j v n h l = shorter (suc j) n v v h (omega arith)
  for_ever (suc k) j v n h l = elim (cases_lt (suc j) n) [
    | inl less ↦ (
        let m : ℕ = n - suc j in
        let e : n ≡ suc j + m = omega arith in
        let f : length (T m v) ≡ m = for_ever k j v m h (omega arith) in
        longer (suc j) m n v v e h ∙ (let q : suc j + length (T m v) ≡ n = omega arith in q))
    | inr least ↦ shorter (suc j) n v v h least
  ]

  distinct_from : (n v : ℕ) → length (T n v) < n → Apart Differ (T n v)
  distinct_from zero v h = absurd (omega arith)
  distinct_from (suc n) v h = elim (either v) [
    | inl e ↦ subst (λ (xs : List ℕ). Apart Differ xs) (sym (T_ends n v e)) tt
    | inr e ↦ (
        let size : length (T (suc n) v) ≡ length (v ∷ T n (step v)) = ap (λ (xs : List ℕ). length xs) (T_goes n v e) in
        subst (λ (xs : List ℕ). Apart Differ xs) (sym (T_goes n v e)) (
          (λ w i s. (
              let c : (j : ℕ) × Comes j (step v) w = comes n (step v) w i in
              let again : Comes (suc c.0) v v = (e, subst (λ (u : ℕ). Comes c.0 (step v) u) (sym s) c.1) in
              let full : length (T (suc n) v) ≡ suc n = for_ever (suc n) c.0 v (suc n) again (omega arith) in
              let no : ⊥ = omega arith in no)),
          distinct_from n (step v) (omega arith),
        ))
  ]

-- where a loop ends within the limit
pub turns_differ : (names : Names) (index : Name) (start test next : Expr) → length (turns names index start test next) ≤ 1000000 → Apart Differ (turns names index start test next)
unfolding turns
turns_differ names index start test next h = distinct_from names index test next 1000001 (index_value names start) (omega arith)
