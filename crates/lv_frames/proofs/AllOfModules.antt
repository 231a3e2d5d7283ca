-- All constants of a module.
use Rattle.std.proofs.Common.{◌≡◌, ℕ, Bool, true, false, List, [], ◌∷◌, length, refl, sym, ap, ◌∙◌, Option, None}
use Rattle.std.specs.Prelude.{filter}
use Rattle.std.specs.List.{list_any}
use Rattle.lv_ast.specs.declared.expr.Path.{Path}
use Rattle.lv_ast.specs.declared.item.Module.{Module}
use Rattle.lv_ast.specs.Names.{Name, has_no_steps}
use Rattle.lv_source.specs.Names.{Names, Declared}
use Rattle.lv_source.specs.Declarations.{Declaration, of_module, declared_as}
use Rattle.lv_source.specs.Scopes.{Scope, Override, is_parameter, is_among, is_one_bit_input, no_names, with_parameters, stands_for, module_scope, early_by, here_at}
use Rattle.lv_source.specs.Constants.{early_or_none}
use Rattle.lv_const.specs.declared.consts.Entry.{Entry}
use Rattle.lv_const.specs.Constants.{names_of}
use Rattle.lv_const.specs.Wherever.{AreDeclared}
use Rattle.lv_resolve.specs.Places.{with_all}
use Rattle.lv_frames.proofs.Stands.{never, apart, scope_at, plain_not, taken}

module _ (path : Name) (top : Bool) (around : List Name) (os : List Override) (clocks : Names → List Name) (m : Module) where
  abbrev scope : Scope
  scope = module_scope path top around os clocks m

  abbrev ds : List Declaration
  ds = of_module m

  abbrev constants : Names
  constants = with_parameters os no_names ds

  abbrev connected : List Name
  connected = filter (is_one_bit_input constants ds) (clocks constants)

  both : (c : Bool) (o : Option Declared) → (c ≡ false → early_or_none true o ≡ None) → early_or_none c o ≡ early_or_none true o
  both true o f = refl
  both false o f = never o ∙ sym (f refl)

  module_by : (p : Path) (xs : List Declaration) → declared_as p.name ds ≡ xs →
      early_or_none (early_by xs xs false) (stands_for constants path top (is_among connected p.name) p xs) ≡
      early_or_none true (stands_for constants path top (is_among connected p.name) p xs)
  module_by p [] e = both false (constants p) (λ h. ap (early_or_none true) (apart os no_names ds p e))
  module_by p (d ∷ xs) e =
      both (list_any is_parameter (d ∷ xs)) (stands_for constants path top (is_among connected p.name) p (d ∷ xs))
      (λ h. plain_not constants path top (is_among connected p.name) p d xs h)

  module_steps : (p : Path) (b : Bool) → has_no_steps p ≡ b →
      early_or_none (early_by (declared_as p.name ds) (declared_as p.name ds) false) (scope.names p) ≡ early_or_none true (scope.names p)
  module_steps p true h =
      ap (early_or_none (early_by (declared_as p.name ds) (declared_as p.name ds) false)) (scope_at constants path top connected ds p true h) ∙
      (module_by p (declared_as p.name ds) refl ∙ sym (ap (early_or_none true) (scope_at constants path top connected ds p true h)))
  module_steps p false h =
      ap (early_or_none (early_by (declared_as p.name ds) (declared_as p.name ds) false)) (scope_at constants path top connected ds p false h) ∙
      sym (ap (early_or_none true) (scope_at constants path top connected ds p false h))

  pub module_all : (es : List Entry) (k : ℕ) → AreDeclared (names_of es) (here_at scope (length ds)) → AreDeclared (names_of es) (with_all (here_at scope k))
  module_all es k at = record {
    same = λ p.
        at.same p ∙
        (ap (λ (ys : List Declaration). early_or_none (early_by (declared_as p.name ds) ys false) (scope.names p)) (taken scope p.name) ∙
        module_steps p (has_no_steps p) refl);
  }
