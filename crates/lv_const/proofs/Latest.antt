-- The last entry with a name.
use Rattle.std.proofs.Common.{◌≡◌, ℕ, ◌+◌, ◌<◌, true, false, List, [], ◌∷◌, ◌++◌, take, length, get_or, cond, ap, ◌∙◌}
use Rattle.std.specs.Prelude.{find, reverse, bytes_eq, Some}
use Rattle.std.proofs.lemmas.List.{reverse-append, take_more}
use Rattle.lv_const.specs.declared.consts.Entry.{Entry}
use Rattle.lv_const.specs.Constants.{value_in, value_of_entry}
use Rattle.lv_ast.specs.Names.{Name}

snoc : (es : List Entry) (e : Entry) (name : Name) → value_in (es ++ e ∷ []) name ≡ value_of_entry
    (cond (bytes_eq e.name name) (Some e) (find (λ x. bytes_eq x.name name) (reverse es)))
snoc es e name = ap (λ xs. value_of_entry (find (λ x. bytes_eq x.name name) xs)) (reverse-append es (e ∷ []))

pub latest_found : (es : List Entry) (at : ℕ) (e : Entry) (name : Name) → at < length es → get_or es at e ≡ e → bytes_eq e.name name ≡ true →
    value_in (take (at + 1) es) name ≡ e.value
latest_found es at e name h is t =
    ap (λ xs. value_in xs name) (take_more es at e h) ∙ (ap (λ x. value_in (take at es ++ x ∷ []) name) is ∙
    (snoc (take at es) e name ∙ ap (λ b. value_of_entry (cond b (Some e) (find (λ x. bytes_eq x.name name) (reverse (take at es))))) t))

pub latest_before : (es : List Entry) (at : ℕ) (e : Entry) (name : Name) → at < length es → get_or es at e ≡ e → bytes_eq e.name name ≡ false →
    value_in (take (at + 1) es) name ≡ value_in (take at es) name
latest_before es at e name h is t =
    ap (λ xs. value_in xs name) (take_more es at e h) ∙ (ap (λ x. value_in (take at es ++ x ∷ []) name) is ∙
    (snoc (take at es) e name ∙ ap (λ b. value_of_entry (cond b (Some e) (find (λ x. bytes_eq x.name name) (reverse (take at es))))) t))
