-- All constants of a turn.
use Rattle.std.proofs.Common.{◌≡◌, ℕ, Bool, true, false, ◌&&◌, if◌then◌else◌, List, [], ◌∷◌, ◌++◌, map, length, refl, sym, ap, ◌∙◌, Option, None}
use Rattle.std.specs.Prelude.{bytes_eq, flat_map}
use Rattle.std.specs.List.{list_any}
use Rattle.std.proofs.lemmas.List.{map-append}
use Rattle.lv_ast.specs.declared.expr.Path.{Path}
use Rattle.lv_ast.specs.declared.stmt.Ident.{Ident}
use Rattle.lv_ast.specs.declared.item.Item.{Item}
use Rattle.lv_ast.specs.Names.{has_no_steps}
use Rattle.lv_source.specs.Names.{Names, Declared}
use Rattle.lv_source.specs.Declarations.{Declaration, of_items, declared_as}
use Rattle.lv_source.specs.Scopes.{Scope, is_parameter, with_parameters, stands_for, turn_scope, early_by, here_at}
use Rattle.lv_source.specs.Effect.{with_index}
use Rattle.lv_source.specs.Constants.{early_or_none, hidden, index_entry}
use Rattle.lv_const.specs.declared.consts.Entry.{Entry}
use Rattle.lv_const.specs.Constants.{names_of, declared_of, declared_entry, value_in}
use Rattle.lv_const.specs.Wherever.{AreDeclared}
use Rattle.lv_const.proofs.Declared.{entries-say}
use Rattle.lv_resolve.specs.Places.{with_all}
use Rattle.lv_entries.specs.Entries.{declared_entries, value_entry}
use Rattle.lv_frames.proofs.Said.{said_by, names_said, stepped_said, said_join, hide_by, hidden_said, values_said}
use Rattle.lv_frames.proofs.Stands.{apart, scope_at, index_said, plain_not, taken}

module _ (s : Scope) (k : ℕ) (index label : Ident) (items : List Item) (value : ℕ) (outer before new : List Entry)
    (at : AreDeclared (names_of outer) (with_all (here_at s k)))
    (e : declared_entries before ≡ (declared_entries outer ++ index_entry index.name value ∷ []) ++ map hidden (of_items items))
    (own : AreDeclared (names_of new) (here_at (turn_scope s k index label items value) (length (of_items items)))) where
  abbrev scope : Scope
  scope = turn_scope s k index label items value

  abbrev ds : List Declaration
  ds = of_items items

  abbrev base : Names
  base = with_index s.names index.name value

  abbrev constants : Names
  constants = with_parameters [] base ds

  abbrev all : List Entry
  all = before ++ flat_map (value_entry new) ds

  one_true : (b : Bool) (o : Option Declared) → early_or_none (if b then true else true) o ≡ early_or_none true o
  one_true true o = refl
  one_true false o = refl

  base_all : (p : Path) → has_no_steps p ≡ true →
      said_by p.name None (declared_entries outer ++ index_entry index.name value ∷ []) ≡ early_or_none true (base p)
  base_all p h =
      index_said s.names (λ q. true) index.name value outer p h (at.same p) ∙ one_true (has_no_steps p && bytes_eq p.name index.name) (base p)

  said_all : (p : Path) → has_no_steps p ≡ true → names_of all p ≡
      (if list_any is_parameter (declared_as p.name ds) then declared_of p.name (value_in new p.name) else
      hide_by (early_or_none true (base p)) (declared_as p.name ds))
  said_all p h =
      names_said all p h ∙
      (ap (said_by p.name None) (map-append declared_entry before (flat_map (value_entry new) ds)) ∙
      (said_join p.name None (declared_entries before) (declared_entries (flat_map (value_entry new) ds)) ∙
      (values_said new p.name (said_by p.name None (declared_entries before)) ds ∙
      ap (λ (v : Option Declared). if list_any is_parameter (declared_as p.name ds) then declared_of p.name (value_in new p.name) else v)
      (ap (said_by p.name None) e ∙
      (said_join p.name None (declared_entries outer ++ index_entry index.name value ∷ []) (map hidden ds) ∙
      (hidden_said p.name (said_by p.name None (declared_entries outer ++ index_entry index.name value ∷ [])) ds ∙
      ap (λ (v : Option Declared). hide_by v (declared_as p.name ds)) (base_all p h)))))))

  value_is : (p : Path) → has_no_steps p ≡ true → declared_of p.name (value_in new p.name) ≡ names_of new p
  value_is p h = sym (entries-say new p ∙ ap (λ (b : Bool). if b then declared_of p.name (value_in new p.name) else None) h)

  own_is : (p : Path) → names_of new p ≡ early_or_none (early_by (declared_as p.name ds) (declared_as p.name ds) (scope.early p)) (scope.names p)
  own_is p = own.same p ∙
      ap (λ (ys : List Declaration). early_or_none (early_by (declared_as p.name ds) ys (scope.early p)) (scope.names p)) (taken scope p.name)

  abbrev standing : Path → List Declaration → Option Declared
  standing p xs = stands_for constants scope.path false false p xs

  if_own : (c : Bool) (v o : Option Declared) → v ≡ early_or_none c o → (c ≡ false → early_or_none true o ≡ None) →
      (if c then v else None) ≡ early_or_none true o
  if_own true v o h f = h
  if_own false v o h f = sym (f refl)

  turn_by : (p : Path) (xs : List Declaration) → declared_as p.name ds ≡ xs →
      declared_of p.name (value_in new p.name) ≡ early_or_none (early_by xs xs (scope.early p)) (standing p xs) →
      (if list_any is_parameter xs then declared_of p.name (value_in new p.name) else hide_by (early_or_none true (base p)) xs) ≡
      early_or_none true (standing p xs)
  turn_by p [] u v = ap (early_or_none true) (sym (apart [] base ds p u))
  turn_by p (d ∷ xs) u v =
      if_own (list_any is_parameter (d ∷ xs)) (declared_of p.name (value_in new p.name)) (standing p (d ∷ xs)) v
      (λ h. plain_not constants scope.path false false p d xs h)

  turn_steps : (p : Path) (b : Bool) → has_no_steps p ≡ b → names_of all p ≡ early_or_none true (scope.names p)
  turn_steps p true h =
      said_all p h ∙
      (turn_by p (declared_as p.name ds) refl
      (value_is p h ∙ (own_is p ∙
      ap (early_or_none (early_by (declared_as p.name ds) (declared_as p.name ds) (scope.early p))) (scope_at constants scope.path false [] ds p true h))) ∙
      sym (ap (early_or_none true) (scope_at constants scope.path false [] ds p true h)))
  turn_steps p false h = stepped_said all p h ∙ sym (ap (early_or_none true) (scope_at constants scope.path false [] ds p false h))

  pub turn_all : (j : ℕ) → AreDeclared (names_of all) (with_all (here_at scope j))
  turn_all j = record { same = λ p. turn_steps p (has_no_steps p) refl }
