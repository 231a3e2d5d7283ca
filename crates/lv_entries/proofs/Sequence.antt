-- The entries of a scope: what they say, and which of them come first.
use Rattle.std.proofs.Common.{◌≡◌, inl, inr, ℕ, zero, suc, ◌+◌, arith, Bool, true, false, ◌||◌, if◌then◌else◌, List, [], ◌∷◌, ◌++◌, map, length, refl, sym, ap, ◌∙◌, subst, Option}
use Rattle.std.specs.Prelude.{flat_map, cond, take, bytes_eq}
use Rattle.std.specs.List.{list_any}
use Rattle.std.proofs.lemmas.List.{take-map, map-append, length-append}
use Rattle.std.proofs.Math.Seq.{take-append-add, take-length}
use Rattle.lv_ast.specs.Names.{alone}
use Rattle.lv_source.specs.Names.{Declared}
use Rattle.lv_source.specs.Declarations.{Declaration, declared_as}
use Rattle.lv_source.specs.Scopes.{Scope, is_parameter, early_at, early_by, here_at}
use Rattle.lv_source.specs.Constants.{Around, hidden, parameter_entry, entry_constants, early_or_none, early_constants}
use Rattle.lv_source.specs.Constants as source
use Rattle.lv_source.proofs.Early.{entries_say}
use Rattle.lv_source.proofs.Refused.{In}
use Rattle.lv_source.proofs.Tests.{name-itself}
use Rattle.lv_const.specs.declared.consts.Entry.{Entry}
use Rattle.lv_const.specs.Constants.{names_of, declared_entry, declared_of, value_in}
use Rattle.lv_const.specs.Wherever.{AreDeclared}
use Rattle.lv_const.proofs.Declared.{said}
use Rattle.lv_const.proofs.Numbers.{split}
use Rattle.lv_symbols.specs.Making.{parameters_in}
use Rattle.lv_entries.specs.Entries.{declared_entries, value_entry, AreEntries, entries_at, entries_until}

pub declared_where : (around : List source.Entry) (s : Scope) (k : ℕ) (es : List Entry) → Around s around → AreEntries around s k es → AreDeclared (names_of es) (here_at s k)
declared_where around s k es a h = record {
  same = λ p. ap (λ xs. source.entry_names xs p) h.are ∙ entries_say s around k p a;
}

-- ---- the first entries

module _ (s : Scope) where
  one : (b : Bool) (x : source.Entry) (rest : List source.Entry) (n : ℕ) → take ((if b then 1 else 0) + n) ((if b then x ∷ [] else []) ++ rest) ≡ (if b then x ∷ [] else []) ++ take n rest
  one true x rest n = ap (λ k. take k (x ∷ rest)) (let e : 1 + n ≡ suc n = omega arith in e)
  one false x rest n = ap (λ k. take k rest) (let e : 0 + n ≡ n = omega arith in e)

  first_parameters : (ds : List Declaration) (k : ℕ) → take (parameters_in (take k ds)) (flat_map (parameter_entry s) ds) ≡ flat_map (parameter_entry s) (take k ds)
  first_parameters ds zero = refl
  first_parameters [] (suc k) = refl
  first_parameters (d ∷ ds) (suc k) =
      one (is_parameter d) (record { name = d.name.name; value = early_or_none true (s.names (alone d.name.name)) }) (flat_map (parameter_entry s) ds) (parameters_in (take k ds)) ∙
      ap (λ xs. parameter_entry s d ++ xs) (first_parameters ds k)

  hidden_count : (ds : List Declaration) → length (map hidden ds) ≡ length ds
  hidden_count [] = refl
  hidden_count (d ∷ ds) = ap suc (hidden_count ds)

  behind : (around : List source.Entry) (k : ℕ) →
      take (entries_at around s k) (entry_constants around s (length s.declarations)) ≡ entry_constants around s k
  behind around k =
      ap (λ ds. take (entries_at around s k) ((around ++ map hidden s.declarations) ++ flat_map (parameter_entry s) ds)) (take-length s.declarations) ∙
      (ap (λ n. take (n + parameters_in (take k s.declarations)) ((around ++ map hidden s.declarations) ++ flat_map (parameter_entry s) s.declarations))
      (ap (λ n. length around + n) (sym (hidden_count s.declarations)) ∙ sym (length-append around (map hidden s.declarations))) ∙
      (take-append-add (around ++ map hidden s.declarations) (flat_map (parameter_entry s) s.declarations) (parameters_in (take k s.declarations)) ∙
      ap (λ xs. (around ++ map hidden s.declarations) ++ xs) (first_parameters s.declarations k)))

pub first_are : (around : List source.Entry) (s : Scope) (k : ℕ) (es : List Entry) → AreEntries around s (length s.declarations) es → AreEntries around s k (entries_until around s k es)
first_are around s k es h = record {
  are = sym (take-map declared_entry (entries_at around s k) es) ∙ (ap (λ xs. take (entries_at around s k) xs) h.are ∙ behind s around k);
}

-- ---- parameters with their values

module _ (s : Scope) (cs : List Entry) (at : AreDeclared (names_of cs) (here_at s (length s.declarations))) where
  or_true : (b : Bool) {c : Bool} → c ≡ true → (b || c) ≡ true
  or_true true h = refl
  or_true false h = h

  first_self : (d : Declaration) (ds : List Declaration) → is_parameter d ≡ true → list_any is_parameter (declared_as d.name.name (d ∷ ds)) ≡ true
  first_self d ds h = rw (name-itself d.name.name) (rw h refl)

  named_self : (d : Declaration) (ds : List Declaration) → In d ds → is_parameter d ≡ true → list_any is_parameter (declared_as d.name.name ds) ≡ true
  named_self d [] i h = absurd i
  named_self d (e ∷ ds) (inl same) h = subst (λ (x : Declaration). list_any is_parameter (declared_as d.name.name (x ∷ ds)) ≡ true) (sym same) (first_self d ds h)
  named_self d (e ∷ ds) (inr i) h = elim (bytes_eq e.name.name d.name.name) as (λ b. list_any is_parameter (cond b (e ∷ declared_as d.name.name ds) (declared_as d.name.name ds)) ≡ true) [
    | true ↦ or_true (is_parameter e) (named_self d ds i h)
    | false ↦ named_self d ds i h
  ]

  is_there : (d : Declaration) (xs ys : List Declaration) (around : Bool) → list_any is_parameter ys ≡ true → list_any is_parameter xs ≡ true → early_by xs ys around ≡ true
  is_there d [] ys around h k = cc
  is_there d (x ∷ xs) ys around h k = h

  early_all : (d : Declaration) → In d s.declarations → is_parameter d ≡ true → early_at s (length s.declarations) (alone d.name.name) ≡ true
  early_all d i h =
      is_there d (declared_as d.name.name s.declarations) (declared_as d.name.name (take (length s.declarations) s.declarations)) (s.early (alone d.name.name))
      (ap (λ ds. list_any is_parameter (declared_as d.name.name ds)) (take-length s.declarations) ∙ named_self d s.declarations i h) (named_self d s.declarations i h)

  value_same : (d : Declaration) → In d s.declarations → is_parameter d ≡ true → declared_of d.name.name (value_in cs d.name.name) ≡ early_or_none true (s.names (alone d.name.name))
  value_same d i h =
      said cs (alone d.name.name) (value_in cs d.name.name) refl refl ∙
      (at.same (alone d.name.name) ∙ ap (λ b. early_or_none b (s.names (alone d.name.name))) (early_all d i h))

  entry_same : (d : Declaration) → In d s.declarations → declared_entries (value_entry cs d) ≡ parameter_entry s d
  entry_same d i = elim (split (is_parameter d)) [
    | inl h ↦ rw h (ap (λ (v : Option Declared). record { name = d.name.name; value = v } ∷ []) (value_same d i h))
    | inr h ↦ rw h refl
  ]

  all_same : (ds : List Declaration) → ((d : Declaration) → In d ds → In d s.declarations) → declared_entries (flat_map (value_entry cs) ds) ≡ flat_map (parameter_entry s) ds
  all_same [] f = refl
  all_same (d ∷ ds) f =
      map-append declared_entry (value_entry cs d) (flat_map (value_entry cs) ds) ∙
      (ap (λ xs. xs ++ declared_entries (flat_map (value_entry cs) ds)) (entry_same d (f d (inl refl))) ∙
      ap (λ xs. parameter_entry s d ++ xs) (all_same ds (λ e i. f e (inr i))))

  pub values_are : (around : List source.Entry) (es : List Entry) → declared_entries es ≡ around ++ map hidden s.declarations →
      AreEntries around s (length s.declarations) (es ++ flat_map (value_entry cs) s.declarations)
  values_are around es h = record {
    are = map-append declared_entry es (flat_map (value_entry cs) s.declarations) ∙
        (ap (λ xs. xs ++ declared_entries (flat_map (value_entry cs) s.declarations)) h ∙
        (ap (λ xs. (around ++ map hidden s.declarations) ++ xs) (all_same s.declarations (λ d i. i)) ∙
        ap (λ ds. (around ++ map hidden s.declarations) ++ flat_map (parameter_entry s) ds) (sym (take-length s.declarations))));
  }
