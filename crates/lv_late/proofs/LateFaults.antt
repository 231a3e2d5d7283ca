-- What is answered of all declarations of a scope, and of a fault that is told of one of them.
use Rattle.std.proofs.Common.{◌≡◌, ◌⊎◌, inl, inr, ℕ, suc, zero, ◌+◌, ◌<◌, arith, true, List, [], ◌∷◌, map, length, ap, ◌∙◌, sym, subst, refl, Option, Some, None}
use Rattle.std.specs.Prelude.{slice_get}
use Rattle.std.specs.List.{Contains}
use Rattle.std.specs.Option.{option_map}
use Rattle.std.proofs.lemmas.Option.{slice_get-map}
use Rattle.lv_source.specs.Declarations.{Declaration}
use Rattle.lv_source.specs.Scopes.{here_at}
use Rattle.lv_source.specs.ScopeRules.{declaration_sites}
use Rattle.lv_source.specs.Sites.{Site, spots}
use Rattle.lv_const.specs.declared.error.ConstError.{ConstError}
use Rattle.lv_const.specs.declared.error.ConstError.TheVariants as y
use Rattle.lv_declared.specs.declared.declaration.Declaration.{Declaration as Code}
use Rattle.lv_declared.specs.Listing.{declared}
use Rattle.lv_symbols.specs.Frames.{Frame, IsToldIn}
use Rattle.lv_symbols.specs.Making.{own_faults}
use Rattle.lv_symbols.specs.declared.symbol.SymbolError.TheVariants.{Own}
use Rattle.lv_resolve.specs.declared.error.ResolveError.{ResolveError}
use Rattle.lv_resolve.specs.declared.error.ResolveError.TheVariants as x
use Rattle.lv_resolve.specs.Resolved.{IsToldOf}
use Rattle.lv_faults.specs.declared.fault.Fault.TheVariants as v
use Rattle.lv_faults.specs.declared.fault.ScopeError.TheVariants as e
use Rattle.lv_faults.specs.Faults.{of_node}
use Rattle.lv_late.specs.Lates.{Said, told_of_name, told_of_declaration, declared_paths, IsLateIn, NoneIsLate, is_fault}
use Rattle.lv_late.specs.Standing.{IsStanding, IsDeclarationFaultIn, is_fault_of}
use Rattle.lv_late.proofs.LateScope.{decided, name-fault}
use Rattle.lv_late.proofs.LateSites.{late-told, late-never, first-fault}
use Rattle.lv_late.proofs.Sited.{declared-paths, declared-stands, node-fault, no-range, range-fault, zero-fault, fault-in}

-- ---- the declarations one by one

record At (items : List Code) (k : ℕ) : Type 0 where
  code : Code
  is : slice_get items k ≡ Some code

within-at : (items : List Code) (k : ℕ) → k < length items → At items k
within-at [] k h = absurd (omega arith)
within-at (c ∷ cs) zero h = record { code = c; is = refl }
within-at (c ∷ cs) (suc k) h = let r : At cs k = within-at cs k (omega arith) in record { code = r.code; is = r.is }

of-code : (items : List Code) (k : ℕ) (c : Code) → slice_get items k ≡ Some c → slice_get (map declared items) k ≡ Some (declared c)
of-code items k c h = slice_get-map declared items k ∙ ap (option_map declared) h

same-declared : (a b : Declaration) → Some a ≡ Some b → a ≡ b
same-declared a b h = cc

below-or : (j k : ℕ) → j < k + 1 → (j < k) ⊎ (j ≡ k)
below-or j k h = grind arith

module _ (items : List Code) (told : ℕ → Declaration → Option ResolveError) (k : ℕ) (within : k < length items) where
  pub more-late : (o : Option ResolveError) → ((c : Code) → slice_get items k ≡ Some c → o ≡ told k (declared c)) → o ≡ None →
      ((j : ℕ) (d : Declaration) → j < k → slice_get (map declared items) j ≡ Some d → told j d ≡ None) →
      (j : ℕ) (d : Declaration) → j < k + 1 → slice_get (map declared items) j ≡ Some d → told j d ≡ None
  more-late o f n before j d l h = elim (below-or j k l) [
    | inl m ↦ before j d m h
    | inr m ↦
        let a : At items k = within-at items k within in
        let b : declared a.code ≡ d = same-declared (declared a.code) d (sym (of-code items k a.code a.is) ∙ (ap (slice_get (map declared items)) (sym m) ∙ h)) in
        ap (λ i. told i d) m ∙ (ap (told k) (sym b) ∙ (sym (f a.code a.is) ∙ n))
  ]

module _ (s : Said) (items : List Code) (same : s.declarations ≡ map declared items) (k : ℕ) where
  pub found-late : (q : ResolveError) → k < length items → ((c : Code) → slice_get items k ≡ Some c → Some q ≡ told_of_declaration s k (declared c)) → IsLateIn s q
  found-late q within f =
      let a : At items k = within-at items k within in
      record { at = k; declaration = declared a.code; is = ap (λ zs. slice_get zs k) same ∙ of-code items k a.code a.is; late = sym (f a.code a.is) }

-- ---- a fault of one of them

module _ (s : Said) (f : Frame) (i : IsStanding s f) (z : ConstError) (t : IsToldIn f s.declarations (Own z)) where
  there : slice_get f.scope.declarations t.at ≡ Some t.declaration
  there = ap (λ ds. slice_get ds t.at) i.declarations ∙ t.is

  abbrev Own-fault : ConstError → Type 0
  Own-fault w = Contains (own_faults (here_at f.scope t.at) t.declaration) w

  own : (w : ConstError) → z ≡ w → Own-fault w
  own w e = subst Own-fault e t.told

  pub declared-range : (p : ℕ) → z ≡ y.Range p → IsDeclarationFaultIn f.scope (e.Fault (v.Range p))
  declared-range p e = fault-in f.scope t.at t.declaration _ there refl (range-fault f.scope t.at t.declaration p (own (y.Range p) e))

  pub declared-zero : (p : ℕ) → z ≡ y.ZeroDivisor p → IsDeclarationFaultIn f.scope (e.Fault (v.ZeroDivisor p))
  declared-zero p e = fault-in f.scope t.at t.declaration _ there refl (zero-fault f.scope t.at t.declaration p (own (y.ZeroDivisor p) e))

  -- no name is late, so that none has no value
  pub declared-never : (p : ℕ) → z ≡ y.NoValue p → NoneIsLate s → ⊥
  declared-never p e n =
      let ss : List Site = declaration_sites f.scope.names t.declaration in
      late-never (here_at f.scope t.at) (told_of_name s t.at) (decided s f i t.at) ss (declared-stands f.scope.names t.declaration) (declared_paths t.declaration)
      (declared-paths f.scope.names t.declaration) p (sym (n.each t.at t.declaration t.is))
      (no-range f.scope t.at t.declaration (y.NoValue p) refl (own (y.NoValue p) e))

as-fault : (q : ResolveError) → is_fault q ≡ true → is_fault_of (of_node q) ≡ true
as-fault (x.UnknownName p) h = refl
as-fault (x.NotConstant p) h = refl
as-fault (x.ZeroDivisor p) h = refl
as-fault (x.Range p) h = refl
as-fault x.NoMemory h = h

module _ (s : Said) (f : Frame) (i : IsStanding s f) where
  -- the first late name is a fault, whatever is told
  pub declared-late : (q : ResolveError) → IsLateIn s q → IsDeclarationFaultIn f.scope (of_node q)
  declared-late q l =
      let ss : List Site = declaration_sites f.scope.names l.declaration in
      let h : IsToldOf (spots (here_at f.scope l.at) ss) q = late-told (here_at f.scope l.at) (told_of_name s l.at) (decided s f i l.at) ss
      (declared-stands f.scope.names l.declaration) (declared_paths l.declaration) (declared-paths f.scope.names l.declaration) q (sym l.late) in
      let g : is_fault q ≡ true = first-fault (told_of_name s l.at) (name-fault s l.at) (declared_paths l.declaration) q (sym l.late) in
      fault-in f.scope l.at l.declaration _ (ap (λ ds. slice_get ds l.at) i.declarations ∙ l.is) (as-fault q g) (node-fault f.scope l.at l.declaration q h)
