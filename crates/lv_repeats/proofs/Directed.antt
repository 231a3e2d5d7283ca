-- Directions of names that are not listed, by the table of those that are.
use Rattle.std.proofs.Common.{◌≡◌, ℕ, Bool, true, false, not, ◌&&◌, List, [], ◌∷◌, ◌++◌, map, refl, sym, ap, ◌∙◌, subst, flat_map, Option, MatchOption}
use Rattle.std.specs.Prelude.{bytes_eq}
use Rattle.std.specs.List.{list_any, Contains}
use Rattle.lv_ast.specs.declared.stmt.Ident.{Ident}
use Rattle.lv_ast.specs.declared.item.Ports.{Ports}
use Rattle.lv_ast.specs.declared.item.Ports.TheVariants as p
use Rattle.lv_ast.specs.Names.{Name}
use Rattle.lv_source.specs.Declarations.{Declaration, declared_as}
use Rattle.lv_source.specs.Scopes.{is_direction, is_among}
use Rattle.lv_source.specs.ScopeRules.{place_if, listed_ports}
use Rattle.lv_source.proofs.Bridges.{any-over}
use Rattle.lv_const.proofs.Told.{here}
use Rattle.lv_scopes.proofs.Indexed.{turned}
use Rattle.lv_repeats.specs.Directions.{unlisted_in, undirected_in, directions_of}

flat_alike : {A B : Type 0} (f g : A → List B) → ((x : A) → f x ≡ g x) → (xs : List A) → flat_map f xs ≡ flat_map g xs
flat_alike f g h [] = refl
flat_alike f g h (x ∷ xs) = ap (λ ys. ys ++ flat_map f xs) (h x) ∙ ap (λ ys. g x ++ ys) (flat_alike f g h xs)

abbrev pub Among : List Name → List Name → Type 0
Among ns ms = (name : Name) → is_among ns name ≡ is_among ms name

by_ident : (names : List Ident) (name : Name) → is_among (map (λ n. n.name) names) name ≡ list_any (λ n. bytes_eq n.name name) names
by_ident names name = sym (any-over (λ n. bytes_eq n.name name) (bytes_eq name) (λ n. n.name) names (λ n. turned n.name name))

kept : (b : Bool) → (b && not false) ≡ b
kept true = refl
kept false = refl

module _ (ns : List Name) (ds : List Declaration) where
  pub of_names : (ports : Ports) (names : List Ident) → ports ≡ p.Names names → Among ns (listed_ports ports) → flat_map (undirected_in ds) names ≡ [] →
      directions_of ports ds ≡ flat_map (unlisted_in ns) ds
  of_names ports names e l h =
      ap (λ z. directions_of z ds) e ∙
      ap (λ us. us ++ flat_map (λ d. place_if (is_direction d && not (list_any (λ n. bytes_eq n.name d.name.name) names)) d.name.place) ds) h ∙
      flat_alike (λ d. place_if (is_direction d && not (list_any (λ n. bytes_eq n.name d.name.name) names)) d.name.place) (unlisted_in ns)
      (λ d. ap (λ b. place_if (is_direction d && not b) d.name.place)
      (sym (by_ident names d.name.name) ∙ sym (l d.name.name ∙ ap (λ z. is_among (listed_ports z) d.name.name) e))) ds

  none_listed : Among ns [] → flat_map (λ d. place_if (is_direction d) d.name.place) ds ≡ flat_map (unlisted_in ns) ds
  none_listed l = flat_alike (λ d. place_if (is_direction d) d.name.place) (unlisted_in ns)
      (λ d. ap (λ b. place_if b d.name.place) (sym (kept (is_direction d)) ∙ ap (λ b. is_direction d && not b) (sym (l d.name.name)))) ds

  pub of_absent : (ports : Ports) → ports ≡ p.Absent → Among ns (listed_ports ports) → directions_of ports ds ≡ flat_map (unlisted_in ns) ds
  of_absent ports e l =
      ap (λ z. directions_of z ds) e ∙ none_listed (λ name. l name ∙ ap (λ z. is_among (listed_ports z) name) e)

  pub of_empty : (ports : Ports) → ports ≡ p.Empty → Among ns (listed_ports ports) → directions_of ports ds ≡ flat_map (unlisted_in ns) ds
  of_empty ports e l =
      ap (λ z. directions_of z ds) e ∙ none_listed (λ name. l name ∙ ap (λ z. is_among (listed_ports z) name) e)

-- ---- what is told of one

pub told_of_name : (ds : List Declaration) (n : Ident) → list_any is_direction (declared_as n.name ds) ≡ false → Contains (undirected_in ds n) n.place
told_of_name ds n h = subst (λ b. Contains (place_if (not b) n.place) n.place) (sym h) (here n.place [])

pub told_of_declaration : (ns : List Name) (d : Declaration) → is_direction d ≡ true → is_among ns d.name.name ≡ false →
    Contains (unlisted_in ns d) d.name.place
told_of_declaration ns d h k =
    subst (λ b. Contains (place_if b d.name.place) d.name.place) (sym (ap (λ b. b && not (is_among ns d.name.name)) h ∙ ap not k)) (here d.name.place [])

pub as_told : (r : Option ℕ) (xs ys : List ℕ) → xs ≡ ys → MatchOption r (ys ≡ []) (Contains ys) → MatchOption r (xs ≡ []) (Contains xs)
as_told r xs ys e h = subst (λ zs. MatchOption r (zs ≡ []) (Contains zs)) (sym e) h
