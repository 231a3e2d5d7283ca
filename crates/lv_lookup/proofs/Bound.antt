-- What a name is bound to, from a scope outward, is what it stands for.
use Rattle.std.proofs.Common.{◌≡◌, ◌⊎◌, inl, inr, ℕ, zero, suc, ◌+◌, ◌<◌, arith, Bool, true, false, List, [], ◌∷◌, length, refl, sym, ap, ◌∙◌, subst, Option, Some, None}
use Rattle.std.specs.Prelude.{slice_get, bytes_eq, if◌then◌else◌}
use Rattle.std.proofs.lemmas.Option.{slice_get_within}
use Rattle.lv_ast.specs.declared.expr.Path.{Path}
use Rattle.lv_ast.specs.Names.{Name, has_no_steps, alone}
use Rattle.lv_source.specs.Names.{Names, Declared, Constant, known, is_constant_sort}
use Rattle.lv_source.specs.Names.{Index as IndexSort, Other as OtherSort}
use Rattle.lv_source.specs.Scopes.{Scope, other, no_names}
use Rattle.lv_source.specs.Parts.{is_declared_sort}
use Rattle.lv_source.specs.Effect.{with_index}
use Rattle.lv_scopes.proofs.Indexed.{turned}
use Rattle.lv_flat.specs.Signals.{Signals, signal_at}
use Rattle.lv_symbols.specs.Frames.{Frame}
use Rattle.lv_bindings.specs.declared.table.Binding.{Binding}
use Rattle.lv_bindings.specs.declared.table.Binding.TheVariants as b
use Rattle.lv_bindings.specs.Tables.{bound_in}
use Rattle.lv_bindings.specs.Standing.{Says, IsSignal}
use Rattle.lv_lookup.specs.declared.level.Level.{Level}
use Rattle.lv_lookup.specs.declared.level.Around.{Around}
use Rattle.lv_lookup.specs.Levels.{binding_from, binding_at}
use Rattle.lv_lookup.specs.Nested.{HasNames, IsNested, module_at, turn_at}
use Rattle.lv_lookup.proofs.Named.{IsConstant, SameAlone, passed, with_alone, not_here, parameter_here, scope_alone, steps_for_none}
use Rattle.lv_lookup.proofs.Outward.{at_own, at_module, at_turn}

-- a name with this binding stands for this; one without, for nothing or for a constant
abbrev pub Binds : Signals → Option Declared → Option Binding → Type 0
Binds S o None = (o ≡ None) ⊎ IsConstant o
Binds S o (Some (b.Signal k)) = (o ≡ Some (signal_at S k)) × (is_declared_sort (signal_at S k).sort ≡ true)
Binds S o (Some b.Constant) = IsConstant o
Binds S o (Some (b.Index genvar)) = o ≡ Some (other (IndexSort genvar))
Binds S o (Some b.Other) = o ≡ Some (other OtherSort)

read_signal : (S : Signals) (k : ℕ) (d : Declared) → slice_get S k ≡ Some d → signal_at S k ≡ d
read_signal [] k d h = absurd (cc)
read_signal (x ∷ S) zero d h = cc
read_signal (x ∷ S) (suc k) d h = read_signal S k d h

-- ---- one level

module _ (S : Signals) (l : Level) (f : Frame) (h : HasNames S l f) (name : Name) where
  signal_here : (k : ℕ) (d : Declared) → f.scope.names (alone name) ≡ Some d → IsSignal h.first h.own k d →
      Binds S (f.scope.names (alone name)) (Some (b.Signal k))
  signal_here k d e i =
      (let r : signal_at S k ≡ d = ap (signal_at S) i.number ∙ read_signal S (h.first + i.at) d (h.signals.each i.at d i.is) in
      (e ∙ ap (λ z. Some z) (sym r), subst (λ (z : Declared). is_declared_sort z.sort ≡ true) (sym r) i.sort))

  by_says : (x : Binding) → Says h.first h.own f name (Some x) → Binds S (f.scope.names (alone name)) (Some x)
  by_says (b.Signal k) s = signal_here k s.0 s.1 s.2
  by_says b.Constant s = parameter_here f h.scope name s
  by_says (b.Index genvar) s = s
  by_says b.Other s = s

  pub own_binds : (x : Binding) → bound_in l.table name ≡ Some x → Binds S (f.scope.names (alone name)) (Some x)
  own_binds x e = by_says x (subst (Says h.first h.own f name) e (h.table.says name))

  pub not_own : bound_in l.table name ≡ None → f.scope.names (alone name) ≡ f.base (alone name)
  not_own e = not_here f h.scope name (subst (Says h.first h.own f name) e (h.table.says name))

-- ---- outward

abbrev index_constant : Name → ℕ → Declared
index_constant index value =
    record { path = index; bounds = record { left = 31; right = 0 }; ranged = true; signed = true; array = None; sort = Constant value }

module _ (S : Signals) (levels : List Level) (name : Name) where
  abbrev Bound : ℕ → ℕ → Names → Type 0
  Bound n at names = Binds S (names (alone name)) (binding_from n levels at name)

  in_module : (n at : ℕ) (l : Level) (f : Frame) → slice_get levels at ≡ Some l → l.around ≡ None → f.base ≡ no_names → HasNames S l f →
      (o : Option Binding) → bound_in l.table name ≡ o → Bound (suc n) at f.scope.names
  in_module n at l f e a base h (Some x) q =
      subst (Binds S (f.scope.names (alone name))) (sym (at_own n levels at name l e x q)) (own_binds S l f h name x q)
  in_module n at l f e a base h None q =
      subst (Binds S (f.scope.names (alone name))) (sym (at_module n levels at name l e q a))
      (inl (not_own S l f h name q ∙ ap (λ (g : Names). g (alone name)) base))

  own_index : (names : Names) (index : Name) (value : ℕ) → bytes_eq name index ≡ true → IsConstant (with_index names index value (alone name))
  own_index names index value e = ap (λ t. is_constant_sort (known (if t then Some (index_constant index value) else names (alone name))).sort) e

  by_index : (n : ℕ) (a : Around) (names : Names) (index : Name) (value : ℕ) → a.index.now ≡ index → Bound n a.scope names → (t : Bool) →
      bytes_eq a.index.now name ≡ t →
      Binds S (with_index names index value (alone name)) (if t then None else binding_from n levels a.scope name)
  by_index n a names index value i h true t = inr (own_index names index value (turned name index ∙ ap (λ z. bytes_eq z name) (sym i) ∙ t))
  by_index n a names index value i h false t =
      subst (λ z. Binds S z (binding_from n levels a.scope name))
      (sym (passed true (bytes_eq name index) _ (names (alone name)) (turned name index ∙ ap (λ z. bytes_eq z name) (sym i) ∙ t))) h

  in_turn : (n at : ℕ) (l : Level) (a : Around) (f : Frame) (names : Names) (index : Name) (value : ℕ) → slice_get levels at ≡ Some l →
      l.around ≡ Some a → a.index.now ≡ index → f.base ≡ with_index names index value → HasNames S l f → Bound n a.scope names →
      (o : Option Binding) → bound_in l.table name ≡ o → Bound (suc n) at f.scope.names
  in_turn n at l a f names index value e q i base h k (Some x) o =
      subst (Binds S (f.scope.names (alone name))) (sym (at_own n levels at name l e x o)) (own_binds S l f h name x o)
  in_turn n at l a f names index value e q i base h k None o =
      subst (Binds S (f.scope.names (alone name))) (sym (at_turn n levels at name l e a o q))
      (subst (λ z. Binds S z (if bytes_eq a.index.now name then None else binding_from n levels a.scope name))
      (sym (not_own S l f h name o ∙ ap (λ (g : Names). g (alone name)) base))
      (by_index n a names index value i k (bytes_eq a.index.now name) refl))

  bound_from : (n at : ℕ) (s : Scope) → IsNested S levels at s → at < n → Bound n at s.names
  bound_from zero at s h k = absurd (omega arith)
  bound_from (suc n) _ _ (module_at at l f e a base h) k = in_module n at l f e a base h (bound_in l.table name) refl
  bound_from (suc n) _ _ (turn_at at l a f s' k' index label items value e q i less inner is base h) k =
      in_turn n at l a f s'.names index.name value e q i base h (bound_from n a.scope s' inner (omega arith)) (bound_in l.table name) refl

  within : (at : ℕ) (s : Scope) → IsNested S levels at s → at < length levels
  within _ _ (module_at at l f e a base h) = slice_get_within levels at l e
  within _ _ (turn_at at l a f s' k' index label items value e q i less inner is base h) = slice_get_within levels at l e

  pub bound : (at : ℕ) (s : Scope) → IsNested S levels at s → Binds S (s.names (alone name)) (binding_at levels at name)
  bound at s h = bound_from (length levels) at s h (within at s h)

-- ---- names with and without steps

base_alone : (f : Frame) (names : Names) (p : Path) → f.base ≡ names → SameAlone names p → SameAlone f.base p
base_alone f names p e h = ap (λ (g : Names). g p) e ∙ h ∙ sym (ap (λ (g : Names). g (alone p.name)) e)

module _ (S : Signals) (levels : List Level) (p : Path) where
  pub named_alone : (at : ℕ) (s : Scope) → has_no_steps p ≡ true → IsNested S levels at s → SameAlone s.names p
  named_alone _ _ k (module_at at l f e a base h) = scope_alone f h.scope p k (base_alone f no_names p base refl)
  named_alone _ _ k (turn_at at l a f s' k' index label items value e q i less inner is base h) =
      scope_alone f h.scope p k (base_alone f (with_index s'.names index.name value) p base
      (with_alone s'.names index.name _ p k (named_alone a.scope s' k inner)))

  pub stepped_none : (at : ℕ) (s : Scope) → has_no_steps p ≡ false → IsNested S levels at s → s.names p ≡ None
  stepped_none _ _ k (module_at at l f e a base h) = steps_for_none f h.scope p k
  stepped_none _ _ k (turn_at at l a f s' k' index label items value e q i less inner is base h) = steps_for_none f h.scope p k
