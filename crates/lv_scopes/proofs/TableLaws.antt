-- Keys by the names that they stand for.
use Rattle.std.proofs.Common.{◌≡◌, ℕ, Bool, true, false, List, [], ◌∷◌, ◌++◌, map, refl, sym, ap, ◌∙◌, Some, None}
use Rattle.std.specs.Prelude.{bytes_eq, cond, nat_lt}
use Rattle.std.specs.List.{list_any, position, position_or_len}
use Rattle.lv_ast.specs.Names.{Name}
use Rattle.lv_source.proofs.Bridges.{two, map-join}
use Rattle.lv_scopes.proofs.ByName.{any_over, first_over, len_over}

module _ {K : Type 0} (items : K → Name) (ks : List K) where
  pub has_same : (name : Name) → list_any (λ k. bytes_eq name (items k)) ks ≡ list_any (bytes_eq name) (map items ks)
  has_same name = sym (any_over name items ks)

  pub first_same : (name : Name) → position_or_len (λ k. bytes_eq name (items k)) ks ≡ position_or_len (bytes_eq name) (map items ks)
  first_same name = sym (first_over name items ks)

  pub position_same : (name : Name) → position (λ k. bytes_eq name (items k)) ks ≡ position (bytes_eq name) (map items ks)
  position_same name =
      two (λ (i n : ℕ). cond (nat_lt i n) (Some i) None) _ _ _ _ (first_same name) (sym (len_over items ks))

  pushed_by : (b : Bool) (k : K) (name : Name) → items k ≡ name → map items (cond b ks (ks ++ k ∷ [])) ≡ cond b (map items ks) (map items ks ++ name ∷ [])
  pushed_by true k name e = refl
  pushed_by false k name e = map-join items ks (k ∷ []) ∙ ap (λ z. map items ks ++ z ∷ []) e

  pub names_same : (new : List K) (k : K) (name : Name) → items k ≡ name → new ≡ cond (list_any (λ x. bytes_eq (items k) (items x)) ks) ks (ks ++ k ∷ []) →
      map items new ≡ cond (list_any (bytes_eq name) (map items ks)) (map items ks) (map items ks ++ name ∷ [])
  names_same new k name e h =
      ap (map items) h ∙ pushed_by (list_any (λ x. bytes_eq (items k) (items x)) ks) k name e ∙
      ap (λ b. cond b (map items ks) (map items ks ++ name ∷ [])) (has_same (items k) ∙ ap (λ n. list_any (bytes_eq n) (map items ks)) e)
