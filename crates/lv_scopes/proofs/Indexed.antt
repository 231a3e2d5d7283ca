-- A list of constants with the index of a loop behind it.
use Rattle.std.proofs.Common.{◌≡◌, inl, inr, Bool, true, false, ◌&&◌, List, [], ◌∷◌, ◌++◌, refl, sym, ap, ◌∙◌, subst, Option, Some, None}
use Rattle.std.specs.Prelude.{reverse, find, bytes_eq, if◌then◌else◌, cond}
use Rattle.std.specs.Prelude.{Result, OnOk}
use Rattle.std.proofs.Common.{Ok, Err}
use mathlib.Core.Path.{fun_ext}
use Rattle.std.proofs.lemmas.List.{reverse-append}
use Rattle.lv_ast.specs.declared.expr.Path.{Path}
use Rattle.lv_ast.specs.Names.{Name, has_no_steps}
use Rattle.lv_source.specs.Names.{Declared}
use Rattle.lv_source.proofs.Tests.{same_name, name-itself, decide}
use Rattle.lv_const.specs.declared.constant.Const.{Const}
use Rattle.lv_const.specs.declared.consts.Entry.{Entry}
use Rattle.lv_const.proofs.Declared.{entries-say}
use Rattle.lv_const.specs.Constants.{value_in, value_of_entry, declared_of, constant_of, names_of}

-- what follows from an Ok
pub with_ok : {A E : Type 0} (r : Result A E) (P Q : Type 0) → (P → Q) → OnOk r P → OnOk r Q
with_ok (Ok a) P Q f h = f h
with_ok (Err e) P Q f h = tt

pub turned : (m n : Name) → bytes_eq m n ≡ bytes_eq n m
turned m n = elim (decide (bytes_eq m n)) [
  | inl e ↦ e ∙ sym (subst (λ z. bytes_eq z m ≡ true) (same_name m n e) (name-itself m))
  | inr e ↦ elim (decide (bytes_eq n m)) [
    | inl k ↦ absurd (let t : bytes_eq m n ≡ true = subst (λ z. bytes_eq z n ≡ true) (same_name n m k) (name-itself n) in cc)
    | inr k ↦ e ∙ sym k
  ]
]

module _ (es : List Entry) (index : Name) (c : Const) (d : Declared) where
  abbrev e : Entry
  e = record { name = index; value = Some c }

  abbrev found : Name → Option Entry
  found name = find (λ x. bytes_eq x.name name) (reverse es)

  snoc : (name : Name) → value_in (es ++ e ∷ []) name ≡ value_of_entry (cond (bytes_eq index name) (Some e) (found name))
  snoc name = ap (λ xs. value_of_entry (find (λ x. bytes_eq x.name name) xs)) (reverse-append es (e ∷ []))

  picks : (p : Path) (s b : Bool) → (b ≡ true → constant_of p.name c ≡ d) →
      (if s then declared_of p.name (value_of_entry (cond b (Some e) (found p.name))) else None) ≡
      (if s && b then Some d else (if s then declared_of p.name (value_in es p.name) else None))
  picks p true true h = ap (λ x. Some x) (h refl)
  picks p true false h = refl
  picks p false b h = refl

  pub indexed : constant_of index c ≡ d → names_of (es ++ e ∷ []) ≡ (λ p. if has_no_steps p && bytes_eq p.name index then Some d else names_of es p)
  indexed h = fun_ext (λ p. entries-say (es ++ e ∷ []) p ∙
      ap (λ o. if has_no_steps p then declared_of p.name o else None) (snoc p.name) ∙
      picks p (has_no_steps p) (bytes_eq index p.name) (λ t. ap (λ name. constant_of name c) (sym (same_name index p.name t)) ∙ h) ∙
      ap (λ o. if has_no_steps p && bytes_eq index p.name then Some d else o) (sym (entries-say es p)) ∙
      ap (λ b. if has_no_steps p && b then Some d else names_of es p) (turned index p.name))
