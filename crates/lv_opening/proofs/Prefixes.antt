-- The first entries of a scope are the constants that are declared where so many declarations stand before.
use Rattle.std.proofs.Common.{◌≡◌, inl, inr, ℕ, zero, suc, ◌+◌, arith, Bool, true, false, if◌then◌else◌, List, [], ◌∷◌, ◌++◌, length, refl, sym, ap, ◌∙◌, Option, None, subst}
use Rattle.std.specs.Prelude.{bytes_eq, flat_map, take, drop}
use Rattle.std.specs.List.{list_any}
use Rattle.std.proofs.lemmas.List.{map-append, take-append-drop}
use Rattle.std.proofs.lemmas.List.Elements.{filter-append}
use Rattle.std.proofs.Math.Seq.{take-append-add}
use Rattle.lv_ast.specs.declared.expr.Path.{Path}
use Rattle.lv_ast.specs.Names.{Name, has_no_steps}
use Rattle.lv_source.specs.Names.{Declared}
use Rattle.lv_source.specs.Declarations.{Declaration, declared_as}
use Rattle.lv_source.specs.Scopes.{is_parameter, early_at, early_by, here_at}
use Rattle.lv_source.specs.Constants.{early_or_none}
use Rattle.lv_source.proofs.Tests.{any-left}
use Rattle.lv_const.specs.declared.consts.Entry.{Entry}
use Rattle.lv_const.specs.Constants.{names_of, declared_entry, declared_of, value_in}
use Rattle.lv_const.specs.Wherever.{AreDeclared}
use Rattle.lv_const.proofs.Declared.{entries-say}
use Rattle.lv_const.proofs.Numbers.{split}
use Rattle.lv_symbols.specs.Frames.{Frame, IsScope}
use Rattle.lv_symbols.specs.Making.{parameters_in}
use Rattle.lv_entries.specs.Entries.{declared_entries, value_entry}
use Rattle.lv_frames.proofs.Said.{said_by, names_said, stepped_said, said_join, values_said}
use Rattle.lv_frames.proofs.Stands.{names_stepped, taken}

one : (b : Bool) (x : Entry) (rest : List Entry) (n : ℕ) → take ((if b then 1 else 0) + n) ((if b then x ∷ [] else []) ++ rest) ≡ (if b then x ∷ [] else []) ++ take n rest
one true x rest n = ap (λ k. take k (x ∷ rest)) (let e : 1 + n ≡ suc n = omega arith in e)
one false x rest n = ap (λ k. take k rest) (let e : 0 + n ≡ n = omega arith in e)

first-values : (new : List Entry) (ds : List Declaration) (k : ℕ) → take (parameters_in (take k ds)) (flat_map (value_entry new) ds) ≡ flat_map (value_entry new) (take k ds)
first-values new ds zero = refl
first-values new [] (suc k) = refl
first-values new (d ∷ ds) (suc k) =
    one (is_parameter d) (record { name = d.name.name; value = value_in new d.name.name }) (flat_map (value_entry new) ds) (parameters_in (take k ds)) ∙
    ap (λ xs. value_entry new d ++ xs) (first-values new ds k)

no-more : (xs ys : List Declaration) → xs ++ ys ≡ [] → xs ≡ []
no-more [] ys h = refl
no-more (x ∷ xs) ys h = cc

-- of a name whose declarations are these, by those before
by : (all before : List Declaration) (e : Bool) (w v o : Option Declared) → (all ≡ [] → before ≡ []) →
    (list_any is_parameter before ≡ true → list_any is_parameter all ≡ true) →
    w ≡ early_or_none (early_by all all e) o → v ≡ early_or_none (early_by all [] e) o →
    (if list_any is_parameter before then w else v) ≡ early_or_none (early_by all before e) o
by [] before e w v o h k m n = ap (λ xs. if list_any is_parameter xs then w else v) (h refl) ∙ n
by (d ∷ all) before e w v o h k m n = elim (split (list_any is_parameter before)) [
  | inl t ↦ ap (λ b. if b then w else v) t ∙ m ∙ ap (λ b. early_or_none b o) (k t ∙ sym t)
  | inr t ↦ ap (λ b. if b then w else v) t ∙ n ∙ ap (λ b. early_or_none b o) (sym t)
]

module _ (f : Frame) (old new : List Entry) (k : ℕ) (is : IsScope f) (first : AreDeclared (names_of old) (here_at f.scope 0))
    (last : AreDeclared (names_of new) (here_at f.scope (length f.scope.declarations))) where
  abbrev ds : List Declaration
  ds = f.scope.declarations

  abbrev values : List Entry
  values = flat_map (value_entry new) (take k ds)

  parts : (n : Name) → declared_as n (take k ds) ++ declared_as n (drop k ds) ≡ declared_as n ds
  parts n = sym (filter-append (λ (d : Declaration). bytes_eq d.name.name n) (take k ds) (drop k ds)) ∙ ap (declared_as n) (take-append-drop k ds)

  own-is : (p : Path) → has_no_steps p ≡ true → declared_of p.name (value_in new p.name) ≡
      early_or_none (early_by (declared_as p.name ds) (declared_as p.name ds) (f.scope.early p)) (f.scope.names p)
  own-is p h = sym (entries-say new p ∙ ap (λ (b : Bool). if b then declared_of p.name (value_in new p.name) else None) h) ∙ last.same p ∙
      ap (λ (ys : List Declaration). early_or_none (early_by (declared_as p.name ds) ys (f.scope.early p)) (f.scope.names p)) (taken f.scope p.name)

  base-is : (p : Path) → has_no_steps p ≡ true → said_by p.name None (declared_entries old) ≡
      early_or_none (early_by (declared_as p.name ds) [] (f.scope.early p)) (f.scope.names p)
  base-is p h = sym (names_said old p h) ∙ first.same p

  whole : (p : Path) → has_no_steps p ≡ true → names_of (old ++ values) p ≡ early_or_none (early_at f.scope k p) (f.scope.names p)
  whole p h =
      names_said (old ++ values) p h ∙
      ap (said_by p.name None) (map-append declared_entry old values) ∙
      said_join p.name None (declared_entries old) (declared_entries values) ∙
      values_said new p.name (said_by p.name None (declared_entries old)) (take k ds) ∙
      by (declared_as p.name ds) (declared_as p.name (take k ds)) (f.scope.early p) (declared_of p.name (value_in new p.name))
      (said_by p.name None (declared_entries old)) (f.scope.names p)
      (λ e. no-more (declared_as p.name (take k ds)) (declared_as p.name (drop k ds)) (parts p.name ∙ e))
      (λ t. sym (ap (list_any is_parameter) (parts p.name)) ∙ any-left is_parameter (declared_as p.name (take k ds)) (declared_as p.name (drop k ds)) t)
      (own-is p h) (base-is p h)

  each : (p : Path) (b : Bool) → has_no_steps p ≡ b → names_of (old ++ values) p ≡ early_or_none (early_at f.scope k p) (f.scope.names p)
  each p true h = whole p h
  each p false h = stepped_said (old ++ values) p h ∙ sym (ap (early_or_none (early_at f.scope k p)) (names_stepped f is p h))

  pub prefixes : AreDeclared (names_of (take (length old + parameters_in (take k ds)) (old ++ flat_map (value_entry new) ds))) (here_at f.scope k)
  prefixes = subst (λ es. AreDeclared (names_of es) (here_at f.scope k))
      (sym (take-append-add old (flat_map (value_entry new) ds) (parameters_in (take k ds)) ∙ ap (λ xs. old ++ xs) (first-values new ds k)))
      (record { same = λ p. each p (has_no_steps p) refl })
