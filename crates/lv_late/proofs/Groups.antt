-- The first declaration of a name, by its group.
use Rattle.std.proofs.Common.{◌≡◌, inl, inr, ℕ, zero, suc, ◌+◌, ◌<◌, ◌≤◌, arith, Bool, true, false, ◌||◌, List, [], ◌∷◌, map, take, refl, sym, ap, ◌∙◌, subst, Some}
use Rattle.std.specs.Prelude.{bytes_eq, cond, filter, slice_get}
use Rattle.std.specs.List.{list_any}
use Rattle.lv_ast.specs.Names.{Name}
use Rattle.lv_source.specs.Declarations.{Declaration, declared_as}
use Rattle.lv_source.specs.Parts.{numbered_from}
use Rattle.lv_source.proofs.Tests.{decide}
use Rattle.lv_bindings.specs.Grouping.{Numbered, is_named, any_of}

abbrev pub plain : List Numbered → List Declaration
plain zs = map (λ z. z.1) zs

abbrev found-if : Bool → Numbered → List Numbered → List Numbered
found-if b z zs = cond b (z ∷ zs) zs

abbrev kept-if : Bool → Declaration → List Declaration → List Declaration
kept-if b d ds = cond b (d ∷ ds) ds

plain-if : (b : Bool) (z : Numbered) (zs : List Numbered) → plain (found-if b z zs) ≡ kept-if b z.1 (plain zs)
plain-if true z zs = refl
plain-if false z zs = refl

module _ (name : Name) where
  abbrev pub named-from : ℕ → List Declaration → List Numbered
  named-from j ds = filter (is_named name) (numbered_from j ds)

  pub plain-named : (j : ℕ) (ds : List Declaration) → plain (named-from j ds) ≡ declared_as name ds
  plain-named j [] = refl
  plain-named j (d ∷ ds) =
      plain-if (bytes_eq d.name.name name) (j, d) (named-from (suc j) ds) ∙ ap (kept-if (bytes_eq d.name.name name) d) (plain-named (suc j) ds)

  pub record IsFirst (j : ℕ) (ds : List Declaration) (z : Numbered) : Type 0 where
    pub at : ℕ
    pub number : z.0 ≡ j + at
    pub is : slice_get ds at ≡ Some z.1
    pub named : bytes_eq z.1.name.name name ≡ true
    pub none : (k : ℕ) → k ≤ at → declared_as name (take k ds) ≡ []
    pub some : (k : ℕ) → at < k → (ys : List Declaration) × (declared_as name (take k ds) ≡ z.1 ∷ ys)

  here-none : (d : Declaration) (ds : List Declaration) (k : ℕ) → k ≤ 0 → declared_as name (take k (d ∷ ds)) ≡ []
  here-none d ds zero h = refl
  here-none d ds (suc k) h = absurd (omega arith)

  here-some : (d : Declaration) (ds : List Declaration) (k : ℕ) → bytes_eq d.name.name name ≡ true → 0 < k → (ys : List Declaration) × (declared_as name (take k (d ∷ ds)) ≡ d ∷ ys)
  here-some d ds zero e h = absurd (omega arith)
  here-some d ds (suc k) e h = (declared_as name (take k ds), ap (λ b. kept-if b d (declared_as name (take k ds))) e)

  abbrev head-or : Numbered → List Numbered → Numbered
  head-or y [] = y
  head-or y (z ∷ zs) = z

  first-here : (j : ℕ) (d : Declaration) (ds : List Declaration) → bytes_eq d.name.name name ≡ true → IsFirst j (d ∷ ds) (j, d)
  first-here j d ds e = record {
    at = 0;
    number = omega arith;
    is = refl;
    named = e;
    none = here-none d ds;
    some = λ k h. here-some d ds k e h;
  }

  skip-none : (d : Declaration) (ds : List Declaration) (n : ℕ) (f : (k : ℕ) → k ≤ n → declared_as name (take k ds) ≡ []) → bytes_eq d.name.name name ≡ false →
      (k : ℕ) → k ≤ suc n → declared_as name (take k (d ∷ ds)) ≡ []
  skip-none d ds n f e zero h = refl
  skip-none d ds n f e (suc k) h = ap (λ b. kept-if b d (declared_as name (take k ds))) e ∙ f k (omega arith)

  skip-some : (d c : Declaration) (ds : List Declaration) (n : ℕ) (f : (k : ℕ) → n < k → (ys : List Declaration) × (declared_as name (take k ds) ≡ c ∷ ys)) →
      bytes_eq d.name.name name ≡ false → (k : ℕ) → suc n < k → (ys : List Declaration) × (declared_as name (take k (d ∷ ds)) ≡ c ∷ ys)
  skip-some d c ds n f e zero h = absurd (omega arith)
  skip-some d c ds n f e (suc k) h =
      let r : (ys : List Declaration) × (declared_as name (take k ds) ≡ c ∷ ys) = f k (omega arith) in
      (r.0, ap (λ b. kept-if b d (declared_as name (take k ds))) e ∙ r.1)

  first-later : (j : ℕ) (d : Declaration) (ds : List Declaration) (z : Numbered) → bytes_eq d.name.name name ≡ false → IsFirst (suc j) ds z → IsFirst j (d ∷ ds) z
  first-later j d ds z e r = record {
    at = suc r.at;
    number = (let n : z.0 ≡ suc j + r.at = r.number in omega arith);
    is = r.is;
    named = r.named;
    none = skip-none d ds r.at r.none e;
    some = skip-some d z.1 ds r.at r.some e;
  }

  pub is-first : (j : ℕ) (ds : List Declaration) (z : Numbered) (zs : List Numbered) → named-from j ds ≡ z ∷ zs → IsFirst j ds z
  is-first j [] z zs h = cc
  is-first j (d ∷ ds) z zs h = elim (decide (bytes_eq d.name.name name)) [
    | inl e ↦
        let q : (let w : Numbered = (j, d) in w) ≡ z = ap (head-or z) (sym (ap (λ b. found-if b (j, d) (named-from (suc j) ds)) e) ∙ h) in
        subst (IsFirst j (d ∷ ds)) q (first-here j d ds e)
    | inr e ↦ first-later j d ds z e (is-first (suc j) ds z zs (sym (ap (λ b. found-if b (j, d) (named-from (suc j) ds)) e) ∙ h))
  ]

-- whether one of them is a parameter
pub any-plain : (p : Declaration → Bool) (zs : List Numbered) → any_of p zs ≡ list_any p (plain zs)
any-plain p [] = refl
any-plain p (z ∷ zs) = ap (λ b. p z.1 || b) (any-plain p zs)
