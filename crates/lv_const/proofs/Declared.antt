-- Names that have a value, and the constants that are declared before a place.
use Rattle.std.proofs.Common.{if◌then◌else◌, ◌≡◌, Bool, true, false, ◌&&◌, List, [], ◌∷◌, map, refl, sym, ap, ◌∙◌, Option, Some, None, inl, inr}
use Rattle.lv_ast.specs.declared.expr.Path.{Path}
use Rattle.std.specs.Prelude.{find, reverse, bytes_eq}
use Rattle.lv_ast.specs.Names.{Name, has_no_steps}
use Rattle.lv_source.specs.Names.{Declared, is_constant_sort}
use Rattle.lv_source.specs.Constants.{early_or_none, entry_value}
use Rattle.lv_source.specs.NodeRules.{is_early}
use Rattle.lv_const.specs.declared.constant.Const.{Const}
use Rattle.lv_const.specs.declared.consts.Entry.{Entry}
use Rattle.lv_const.specs.Constants.{names_of, declared_of, declared_entry, value_in, value_of_entry, entries_here}
use Rattle.lv_const.specs.Wherever.{AreDeclared}
use Rattle.lv_source.proofs.Tests.{same_name}
use Rattle.lv_const.proofs.Runs.{map-reverse}
use Rattle.lv_const.proofs.Numbers.{split}

never : (o : Option Declared) → is_early false o ≡ false
never None = refl
never (Some d) = elim (is_constant_sort d.sort) as (λ b. b && false ≡ false) [ true ↦ refl | false ↦ refl ]

pub no-entry : (b : Bool) (o : Option Declared) → None ≡ early_or_none b o → is_early b o ≡ false
no-entry b None h = refl
no-entry b (Some d) h = elim (split (is_early b (Some d))) [
  | inl e ↦ let k : None ≡ Some d = rw e at h in cc
  | inr e ↦ e
]

pub entry-known : (b : Bool) (o : Option Declared) (d : Declared) → Some d ≡ early_or_none b o → o ≡ Some d
entry-known b None d h = cc
entry-known b (Some f) d h = elim (split (is_early b (Some f))) [
  | inl e ↦ let k : Some d ≡ Some f = rw e at h in sym k
  | inr e ↦ let k : Some d ≡ None = rw e at h in cc
]

pub entry-early : (b : Bool) (o : Option Declared) (d : Declared) → Some d ≡ early_or_none b o → b ≡ true
entry-early true o d h = refl
entry-early false o d h = let k : Some d ≡ None = rw (never o) at h in cc

-- ---- what entries say of a name

entry-found : (name : Name) (es : List Entry) →
    entry_value (find (λ e. bytes_eq e.name name) (map declared_entry es)) ≡ declared_of name (value_of_entry (find (λ e. bytes_eq e.name name) es))
entry-found name [] = refl
entry-found name (e ∷ es) = elim (split (bytes_eq e.name name)) [
  | inl h ↦ rw h (ap (λ n. declared_of n e.value) (same_name e.name name h))
  | inr h ↦ rw h (entry-found name es)
]

pub entries-say : (es : List Entry) (p : Path) → names_of es p ≡ (if has_no_steps p then declared_of p.name (value_in es p.name) else None)
entries-say es p = ap (λ o. if has_no_steps p then o else None)
    (ap (λ xs. entry_value (find (λ e. bytes_eq e.name p.name) xs)) (sym (map-reverse declared_entry es)) ∙ entry-found p.name (reverse es))

pub said : (es : List Entry) (p : Path) (o : Option Const) → p.steps ≡ [] → o ≡ value_in es p.name → declared_of p.name o ≡ names_of es p
said es p o h k = ap (declared_of p.name) k ∙ sym (entries-say es p ∙
    ap (λ ss. if (elim ss [ [] ↦ true | ◌∷◌ s more ↦ false ]) then declared_of p.name (value_in es p.name) else None) h)

-- ---- the entries alone, as a place

value-declared : (p : Path) (o : Option Const) → declared_of p.name o ≡ early_or_none true (declared_of p.name o)
value-declared p None = refl
value-declared p (Some c) = refl

when : (b : Bool) (o : Option Declared) → o ≡ early_or_none true o → (if b then o else None) ≡ early_or_none true (if b then o else None)
when true o h = h
when false o h = refl

pub entries-declared : (es : List Entry) → AreDeclared (names_of es) (entries_here es)
entries-declared es = record {
  same = λ p. entries-say es p ∙
      (when (has_no_steps p) (declared_of p.name (value_in es p.name)) (value-declared p (value_in es p.name)) ∙ ap (early_or_none true) (sym (entries-say es p)));
}
