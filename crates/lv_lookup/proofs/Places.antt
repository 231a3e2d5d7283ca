-- The names at a place of a scope.
use Rattle.std.proofs.Common.{◌≡◌, inl, inr, ℕ, Bool, true, false, not, ◌&&◌, List, refl, sym, ap, ◌∙◌, subst, Option, Some, None}
use Rattle.std.specs.Prelude.{if◌then◌else◌}
use Rattle.lv_ast.specs.declared.expr.Path.{Path}
use Rattle.lv_ast.specs.Names.{has_no_steps}
use Rattle.lv_source.specs.Names.{Declared, Sort, Input, Net, Variable, Clock, Constant, known, is_constant_sort}
use Rattle.lv_source.specs.Names.{Index as IndexSort, Other as OtherSort}
use Rattle.lv_source.specs.Scopes.{Scope, here_at}
use Rattle.lv_source.specs.Parts.{is_declared_sort}
use Rattle.lv_source.specs.ScopeRules.{is_none, is_index_of}
use Rattle.lv_source.specs.Constants.{early_or_none}
use Rattle.lv_const.specs.Constants.{names_of}
use Rattle.lv_const.specs.Wherever.{AreDeclared}
use Rattle.lv_const.specs.declared.consts.Entry.{Entry}
use Rattle.lv_flat.specs.Signals.{Signals, signal_at}
use Rattle.lv_resolve.specs.Places.{with_all}
use Rattle.lv_resolve.specs.Indices.{IsAt, is_genvar}
use Rattle.lv_bindings.specs.declared.table.Binding.{Binding}
use Rattle.lv_bindings.specs.declared.table.Binding.TheVariants as b
use Rattle.lv_lookup.specs.declared.level.Level.{Level}
use Rattle.lv_lookup.specs.Levels.{binding_at, number_of, index_of, numbers_at, indices_at}
use Rattle.lv_lookup.specs.Nested.{IsNested}
use Rattle.lv_lookup.proofs.Named.{IsConstant}
use Rattle.lv_lookup.proofs.Bound.{Binds, bound, named_alone, stepped_none}

-- ---- sorts

abbrev with_sort : Declared → Sort → Declared
with_sort d s = record { path = d.path; bounds = d.bounds; ranged = d.ranged; signed = d.signed; array = d.array; sort = s }

constant_undeclared : (s : Sort) → is_constant_sort s ≡ true → is_declared_sort s ≡ false
constant_undeclared Input h = absurd (cc)
constant_undeclared Net h = absurd (cc)
constant_undeclared Variable h = absurd (cc)
constant_undeclared Clock h = absurd (cc)
constant_undeclared (Constant x) h = refl
constant_undeclared (IndexSort g) h = refl
constant_undeclared OtherSort h = refl

constant_unindexed : (genvar : Bool) (d : Declared) (s : Sort) → is_constant_sort s ≡ true → is_index_of genvar (Some (with_sort d s)) ≡ false
constant_unindexed genvar d Input h = refl
constant_unindexed genvar d Net h = refl
constant_unindexed genvar d Variable h = refl
constant_unindexed genvar d Clock h = refl
constant_unindexed genvar d (Constant x) h = refl
constant_unindexed genvar d (IndexSort g) h = absurd (cc)
constant_unindexed genvar d OtherSort h = refl

declared_unindexed : (genvar : Bool) (d : Declared) (s : Sort) → is_declared_sort s ≡ true → is_index_of genvar (Some (with_sort d s)) ≡ false
declared_unindexed genvar d Input h = refl
declared_unindexed genvar d Net h = refl
declared_unindexed genvar d Variable h = refl
declared_unindexed genvar d Clock h = refl
declared_unindexed genvar d (Constant x) h = refl
declared_unindexed genvar d (IndexSort g) h = absurd (cc)
declared_unindexed genvar d OtherSort h = refl

no_index : (genvar : Bool) (o : Option Declared) → IsConstant o → is_index_of genvar o ≡ false
no_index genvar None h = refl
no_index genvar (Some d) h = constant_unindexed genvar d d.sort h

-- ---- numbers and indices

module _ (S : Signals) (o : Option Declared) where
  pub by_number : (x : Option Binding) (k : ℕ) → Binds S o x → number_of x ≡ Some k → (o ≡ Some (signal_at S k)) × (is_declared_sort (signal_at S k).sort ≡ true)
  by_number None k h e = absurd (cc)
  by_number (Some (b.Signal j)) k h e =
      (let q : j ≡ k = cc in subst (λ i. (o ≡ Some (signal_at S i)) × (is_declared_sort (signal_at S i).sort ≡ true)) q h)
  by_number (Some b.Constant) k h e = absurd (cc)
  by_number (Some (b.Index g)) k h e = absurd (cc)
  by_number (Some b.Other) k h e = absurd (cc)

  pub by_no_number : (x : Option Binding) → Binds S o x → number_of x ≡ None → is_declared_sort (known o).sort ≡ false
  by_no_number None (inl h) e = ap (λ z. is_declared_sort (known z).sort) h
  by_no_number None (inr h) e = constant_undeclared (known o).sort h
  by_no_number (Some (b.Signal j)) h e = absurd (cc)
  by_no_number (Some b.Constant) h e = constant_undeclared (known o).sort h
  by_no_number (Some (b.Index g)) h e = ap (λ z. is_declared_sort (known z).sort) h
  by_no_number (Some b.Other) h e = ap (λ z. is_declared_sort (known z).sort) h

  and_true : (t : Bool) → t ≡ (t && true)
  and_true true = refl
  and_true false = refl

  pub by_index : (genvar : Bool) (x : Option Binding) → Binds S o x →
      is_index_of genvar o ≡ (is_genvar genvar (index_of x) && is_none (early_or_none true o))
  by_index genvar None (inl h) = ap (is_index_of genvar) h
  by_index genvar None (inr h) = no_index genvar o h
  by_index genvar (Some (b.Signal j)) h = ap (is_index_of genvar) h.0 ∙ declared_unindexed genvar (signal_at S j) (signal_at S j).sort h.1
  by_index genvar (Some b.Constant) h = no_index genvar o h
  by_index genvar (Some (b.Index g)) h =
      ap (is_index_of genvar) h ∙ and_true (if g then genvar else not genvar) ∙
      sym (ap (λ z. (if g then genvar else not genvar) && is_none (early_or_none true z)) h)
  by_index genvar (Some b.Other) h = ap (is_index_of genvar) h

-- ---- a place

module _ (S : Signals) (levels : List Level) (at : ℕ) (s : Scope) (h : IsNested S levels at s) where
  binds : (p : Path) → has_no_steps p ≡ true → Binds S (s.names p) (binding_at levels at p.name)
  binds p k = subst (λ z. Binds S z (binding_at levels at p.name)) (sym (named_alone S levels p at s k h)) (bound S levels p.name at s h)

  found : (p : Path) (k : ℕ) (t : Bool) → has_no_steps p ≡ t → (if t then number_of (binding_at levels at p.name) else None) ≡ Some k →
      (s.names p ≡ Some (signal_at S k)) × (is_declared_sort (signal_at S k).sort ≡ true)
  found p k true q e = by_number S (s.names p) (binding_at levels at p.name) k (binds p q) e
  found p k false q e = absurd (cc)

  absent : (p : Path) (t : Bool) → has_no_steps p ≡ t → (if t then number_of (binding_at levels at p.name) else None) ≡ None →
      is_declared_sort (known (s.names p)).sort ≡ false
  absent p true q e = by_no_number S (s.names p) (binding_at levels at p.name) (binds p q) e
  absent p false q e = ap (λ z. is_declared_sort (known z).sort) (stepped_none S levels p at s q h)

  pub is_at : (k : ℕ) (all early : List Entry) → AreDeclared (names_of all) (with_all (here_at s k)) → AreDeclared (names_of early) (here_at s k) →
      IsAt S (numbers_at levels at) (indices_at levels at) all early (here_at s k)
  is_at k all early a e = record {
    names = record {
      found = λ p j q. (found p j (has_no_steps p) refl q).0;
      declared = λ p j q. (found p j (has_no_steps p) refl q).1;
      absent = λ p q. absent p (has_no_steps p) refl q;
      constants = a;
      ahead = e;
    };
    indexed = record {
      same = λ p genvar q. by_index S (s.names p) genvar (binding_at levels at p.name) (binds p q) ∙
          ap (λ z. is_genvar genvar (indices_at levels at p.name) && is_none z) (sym (a.same p));
    };
  }
