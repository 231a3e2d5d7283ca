-- The answer on a parameter, from those on its range and its value.
use Rattle.std.proofs.Common.{◌≡◌, ◌⊎◌, inl, inr, ℕ, ◌-◌, ◌≤◌, ◌/◌, ◌%◌, max, arith, Bool, true, not, ◌&&◌, ◌||◌, List, ◌++◌, map, refl, sym, ap, ◌∙◌, subst, Some, None, Ok, Err}
use Rattle.std.specs.Prelude.{◌^◌, flat_map, Result}
use Rattle.std.specs.List.{Contains}
use Rattle.std.proofs.lemmas.Bool.Decides.{nat_tests}
use Rattle.std.proofs.lemmas.List.Elements.{Contains-append_left, Contains-append_right, Contains-append_cases}
use Rattle.lv_ast.specs.declared.expr.Expr.{Expr}
use Rattle.lv_ast.specs.declared.item.Range.{Range}
use Rattle.lv_ast.specs.Names.{Name}
use Rattle.lv_source.specs.Names.{Here, Bounds, Declared, size}
use Rattle.lv_source.specs.Values.{nowhere}
use Rattle.lv_source.specs.Meaning.{meaning, own_width, own_signed, value_of}
use Rattle.lv_source.specs.Effect.{assigned}
use Rattle.lv_source.specs.Scopes.{constant, bounds_of, bound_number}
use Rattle.lv_source.specs.NodeRules.{is_bound, is_width}
use Rattle.lv_source.specs.ScopeRules.{place_if, is_range, range_sites}
use Rattle.lv_source.specs.Sites.{expr_sites}
use Rattle.lv_source.proofs.Tests.{and-right}
use Rattle.lv_source.proofs.Bridges.{two}
use Rattle.lv_const.specs.declared.constant.Const.{Const}
use Rattle.lv_const.specs.declared.error.ConstError.{ConstError}
use Rattle.lv_const.specs.declared.error.ConstError.TheVariants as x
use Rattle.lv_const.specs.Answers.{Told}
use Rattle.lv_const.specs.Faults.{all_faults}
use Rattle.lv_const.proofs.Told.{sound-none, divides-none}
use Rattle.lv_scopes.specs.declared.number.Number.{Number}
use Rattle.lv_scopes.specs.Numbers.{AreClean, IsNumber}
use Rattle.lv_scopes.specs.Ranges.{IsRange, IsRangeFault}
use Rattle.lv_scopes.specs.Parameters.{IsPlainAnswer, IsSizedAnswer, IsPlain, IsSized, IsParameterAnswer, value_sites, parameter_faults}
use Rattle.lv_scopes.proofs.TurnLaws.{own_is}

-- ---- values

-- a constant by what counts of it
abbrev by : Name → ℕ → ℕ → Bool → ℕ → Declared
by name left right signed value = constant name (record { left = left; right = right }) signed value

pub plain_is : (here : Here) (x : Expr) (n : Number) (signed : Bool) (name : Name) → IsNumber here 0 x n →
    by name (n.word.width - 1) 0 (signed || n.signed) n.word.value ≡
    by name ((meaning here.names x).width - 1) 0 (signed || (meaning here.names x).signed)
    ((meaning here.names x).value (meaning here.names x).width (meaning here.names x).signed nowhere)
plain_is here x n signed name h =
    let w : n.word.width ≡ own_width here.names x = h.width ∙ omega arith in
    ap (λ v. by name (n.word.width - 1) 0 (signed || n.signed) v) (own_is here x n h) ∙
    two (λ (w : ℕ) (s : Bool). by name (w - 1) 0 (signed || s) (value_of here.names x (own_width here.names x) (own_signed here.names x) nowhere)) _ _ _ _ w
    h.signed

pub sized_is : (here : Here) (x : Expr) (n : Number) (width : ℕ) → IsNumber here width x n →
    n.word.value / 2 ^ 0 % 2 ^ width ≡ assigned nowhere width (meaning here.names x)
sized_is here x n width h =
    let e : n.word.value / 2 ^ 0 ≡ n.word.value = omega arith in
    ap (λ (z : ℕ). z % 2 ^ width)
    (e ∙ h.value nowhere ∙ ap (λ w. value_of here.names x w n.signed nowhere) h.width ∙
    ap (λ s. value_of here.names x (max width (own_width here.names x)) s nowhere) h.signed)

-- ---- a range

-- a vector has at most 128 bits
pub narrow : (here : Here) (r : Range) (b : ℕ × ℕ) → IsRange here r true b → size (record { left = b.0; right = b.1 }) ≤ 128
narrow here r b h =
    let t : is_width (size (bounds_of here.names r)) ≡ true = and-right
    (is_bound (bound_number here.names r.left) && is_bound (bound_number here.names r.right)) _ h.allowed in
    let u : is_width (size (record { left = b.0; right = b.1 })) ≡ true = sym (ap (λ z. is_width (size z)) h.bounds) ∙ t in
    grind (arith, nat_tests)

-- ---- answers

module _ (here there : Here) (signed : Bool) (value : Expr) (place : ℕ) where
  pub none_right : (c : Const) → IsPlain there signed value c → IsParameterAnswer here there signed None value place (Ok c)
  none_right c h = record {
    right = record {
      is = h.is;
      sound = record { allowed = refl; range_clean = record { sound = sound-none here.early; divides = divides-none }; value_clean = h.clean };
    };
    wrong = tt;
  }

  pub none_wrong : (y : ConstError) → Told there.early (expr_sites true there.names 0 value) y → IsParameterAnswer here there signed None value place (Err y)
  none_wrong y h = record { right = tt; wrong = record { told = h.found } }

  pub none_any : (r : Result Const ConstError) → IsPlainAnswer there signed value r → IsParameterAnswer here there signed None value place r
  none_any (Ok c) h = none_right c h.right
  none_any (Err y) h = none_wrong y h.wrong

  module _ (r : Range) where
    abbrev not_allowed : List ConstError
    not_allowed = map x.Range (place_if (not (is_range here.names true (Some r))) place)

    abbrev in_range : List ConstError
    in_range = flat_map (all_faults here.early) (range_sites here.names (Some r))

    abbrev in_value : List ConstError
    in_value = flat_map (all_faults there.early) (value_sites here there (Some r) value)

    split : (y : ConstError) → Contains not_allowed y ⊎ Contains (flat_map (all_faults here.early) (range_sites here.names (Some r))) y →
        Contains (parameter_faults here there (Some r) value place) y
    split y (inl k) = Contains-append_left not_allowed (in_range ++ in_value) y k
    split y (inr k) =
        Contains-append_right not_allowed (in_range ++ in_value) y (Contains-append_left in_range in_value y k)

    pub range_told : (y : ConstError) → IsRangeFault here r true place y → IsParameterAnswer here there signed (Some r) value place (Err y)
    range_told y h = record {
      right = tt;
      wrong =
          record { told = split y (Contains-append_cases not_allowed (flat_map (all_faults here.early) (range_sites here.names (Some r))) y h.told) };
    }

    module _ (b : ℕ × ℕ) (h : IsRange here r true b) where
      wide : size (record { left = b.0; right = b.1 }) ≡ size (bounds_of here.names r)
      wide = sym (ap size h.bounds)

      pub some_right : (c : Const) → IsSized there signed value b.0 b.1 c → IsParameterAnswer here there signed (Some r) value place (Ok c)
      some_right c k = record {
        right = record {
          is = λ name. k.is name ∙ sym (ap (λ (z : Bounds). constant name.name z signed (assigned nowhere (size z) (meaning there.names value))) h.bounds);
          sound = record {
            allowed = h.allowed;
            range_clean = h.clean;
            value_clean = subst (λ w. AreClean there.early (expr_sites true there.names w value)) wide k.clean;
          };
        };
        wrong = tt;
      }

      pub some_wrong : (y : ConstError) → Told there.early (expr_sites true there.names (size (record { left = b.0; right = b.1 })) value) y →
          IsParameterAnswer here there signed (Some r) value place (Err y)
      some_wrong y k = record {
        right = tt;
        wrong = record {
          told = Contains-append_right not_allowed (in_range ++ in_value) y
              (Contains-append_right in_range in_value y (subst (λ w. Told there.early (expr_sites true there.names w value) y) wide k).found);
        };
      }

      pub some_any : (a : Result Const ConstError) → IsSizedAnswer there signed value b.0 b.1 a → IsParameterAnswer here there signed (Some r) value place a
      some_any (Ok c) k = some_right c k.right
      some_any (Err y) k = some_wrong y k.wrong
