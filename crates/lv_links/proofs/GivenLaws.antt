-- Settings by name, as overrides.
use Rattle.std.proofs.Common.{◌≡◌, Bool, true, false, List, [], ◌∷◌, map, refl, sym, ap, ◌∙◌, Option, Some, None}
use Rattle.std.specs.Prelude.{bytes_eq, find, cond}
use Rattle.std.specs.Option.{option_map}
use Rattle.lv_ast.specs.declared.expr.Expr.{Expr}
use Rattle.lv_ast.specs.Names.{Name}
use Rattle.lv_source.specs.Names.{Names}
use Rattle.lv_source.specs.Scopes.{Link, Override, override_by}
use Rattle.lv_symbols.specs.declared.givens.Given.{Given}
use Rattle.lv_symbols.specs.declared.givens.Givens.{Givens}
use Rattle.lv_symbols.specs.Giving.{AreGiven, AreOverrides}

abbrev pub as_override : Names → Given → Override
as_override there x = record { name = x.name.now.name; there = there; value = x.value.now }

abbrev found_as : Name → List Override → Option Override
found_as name os = find (λ o. bytes_eq o.name name) os

picked : (there : Names) (b : Bool) (x : Given) (o : Option Given) (q : Option Override) → q ≡ option_map (as_override there) o →
    cond b (Some (as_override there x)) q ≡ option_map (as_override there) (cond b (Some x) o)
picked there true x o q h = refl
picked there false x o q h = h

found-over : (there : Names) (name : Name) (xs : List Given) →
    found_as name (map (as_override there) xs) ≡ option_map (as_override there) (find (λ x. bytes_eq x.name.now.name name) xs)
found-over there name [] = refl
found-over there name (x ∷ xs) = picked there (bytes_eq x.name.now.name name) x _ _ (found-over there name xs)

value-over : (there : Names) (o : Option Given) → option_map (λ x. x.value.now) o ≡ option_map (λ o. o.value) (option_map (as_override there) o)
value-over there None = refl
value-over there (Some x) = refl

same-some : (a b : Override) → Some a ≡ Some b → a ≡ b
same-some a b h = cc

there-over : (there : Names) (o : Option Given) (q : Override) → option_map (as_override there) o ≡ Some q → q.there ≡ there
there-over there None q h = absurd (cc)
there-over there (Some x) q h = ap (λ z. z.there) (sym (same-some (as_override there x) q h))

pub overrides-given : (there : Names) (xs : List Given) (g : Givens) (os : List Override) → AreGiven xs g → map (as_override there) xs ≡ os → AreOverrides there g os
overrides-given there xs g os h e = record {
  values = λ name. h.same name ∙ (value-over there (find (λ x. bytes_eq x.name.now.name name) xs) ∙
      ap (option_map (λ o. o.value)) (sym (found-over there name xs) ∙ ap (found_as name) e));
  names = λ name o k. there-over there (find (λ x. bytes_eq x.name.now.name name) xs) o (sym (found-over there name xs) ∙ (ap (found_as name) e ∙ k));
}

abbrev override_of : Names → Name → Option Expr → List Override
override_of there name o = elim o [ None ↦ [] | Some x ↦ record { name = name; there = there; value = x } ∷ [] ]

pub override-none : (there : Names) (l : Link) → l.conn.value ≡ None → override_by there l ≡ []
override-none there l e = ap (override_of there l.port) e

pub override-some : (there : Names) (l : Link) (x : Expr) → l.conn.value ≡ Some x → override_by there l ≡ record { name = l.port; there = there; value = x } ∷ []
override-some there l x e = ap (override_of there l.port) e
