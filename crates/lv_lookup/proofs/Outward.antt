-- One step of a walk outward.
use Rattle.std.proofs.Common.{◌≡◌, ℕ, suc, ◌-◌, ◌+◌, ◌<◌, arith, Bool, true, false, List, refl, ap, ◌∙◌, Option, Some, None}
use Rattle.std.specs.Prelude.{slice_get, bytes_eq, if◌then◌else◌}
use Rattle.lv_ast.specs.Names.{Name}
use Rattle.lv_bindings.specs.declared.table.Binding.{Binding}
use Rattle.lv_bindings.specs.Tables.{bound_in}
use Rattle.lv_lookup.specs.declared.level.Level.{Level}
use Rattle.lv_lookup.specs.declared.level.Around.{Around}
use Rattle.lv_lookup.specs.Levels.{binding_from, scope_around}

abbrev outer : (ℕ → Option Binding) → Name → Option Around → Option Binding
outer g name o = elim o [ None ↦ None | Some a ↦ if bytes_eq a.index.now name then None else g a.scope ]

abbrev own_or : (ℕ → Option Binding) → Name → Option Around → Option Binding → Option Binding
own_or g name a o = elim o [ Some b ↦ Some b | None ↦ outer g name a ]

abbrev at_level : (ℕ → Option Binding) → Name → Option Level → Option Binding
at_level g name o = elim o [ None ↦ None | Some l ↦ own_or g name l.around (bound_in l.table name) ]

abbrev further : ℕ → List Level → Name → ℕ → Option Binding
further n levels name i = binding_from n levels i name

module _ (n : ℕ) (levels : List Level) (at : ℕ) (name : Name) where
  pub at_none : slice_get levels at ≡ None → binding_from (suc n) levels at name ≡ None
  at_none e = ap (at_level (further n levels name) name) e

  module _ (l : Level) (e : slice_get levels at ≡ Some l) where
    there : binding_from (suc n) levels at name ≡ own_or (further n levels name) name l.around (bound_in l.table name)
    there = ap (at_level (further n levels name) name) e

    pub at_own : (b : Binding) → bound_in l.table name ≡ Some b → binding_from (suc n) levels at name ≡ Some b
    at_own b h = there ∙ ap (own_or (further n levels name) name l.around) h

    not_own : bound_in l.table name ≡ None → binding_from (suc n) levels at name ≡ outer (further n levels name) name l.around
    not_own h = there ∙ ap (own_or (further n levels name) name l.around) h

    pub at_module : bound_in l.table name ≡ None → l.around ≡ None → binding_from (suc n) levels at name ≡ None
    at_module h a = not_own h ∙ ap (outer (further n levels name) name) a

    pub at_turn : (a : Around) → bound_in l.table name ≡ None → l.around ≡ Some a →
        binding_from (suc n) levels at name ≡ (if bytes_eq a.index.now name then None else binding_from n levels a.scope name)
    at_turn a h q = not_own h ∙ ap (outer (further n levels name) name) q

    abbrev goes : Option ℕ → Option Binding
    goes o = elim o [ None ↦ None | Some i ↦ binding_from n levels i name ]

    by_test : (a : Around) (t : Bool) → (if t then None else binding_from n levels a.scope name) ≡ goes (if t then None else Some a.scope)
    by_test a true = refl
    by_test a false = refl

    by_around : (o : Option Around) → l.around ≡ o → outer (further n levels name) name o ≡
        goes (elim o [ None ↦ None | Some a ↦ if bytes_eq a.index.now name then None else Some a.scope ])
    by_around None q = refl
    by_around (Some a) q = by_test a (bytes_eq a.index.now name)

    pub at_around : (o : Option ℕ) → bound_in l.table name ≡ None → scope_around l name ≡ o → binding_from (suc n) levels at name ≡ goes o
    at_around o h q = not_own h ∙ by_around l.around refl ∙ ap goes q

pub left : (n k : ℕ) → k < n → n - k ≡ suc (n - (k + 1))
left n k h = omega arith
