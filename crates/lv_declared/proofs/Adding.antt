-- Declarations and items behind those that are listed.
use Rattle.std.proofs.Common.{◌≡◌, ℕ, suc, ◌+◌, ◌<◌, ◌≤◌, arith, List, [], ◌∷◌, ◌++◌, map, length, get_or, take, flat_map, append_assoc, refl, sym, ap, ◌∙◌, subst}
use Rattle.std.proofs.lemmas.List.{take_more, length-append, length-map}
use Rattle.std.proofs.lemmas.Grind.{flat_map-append}
use Rattle.lv_ast.specs.declared.item.Item.{Item}
use Rattle.lv_ast.specs.declared.item.Item.TheVariants as i
use Rattle.lv_ast.specs.Trees.{spread}
use Rattle.lv_ast.proofs.ItemFolds.{spread-Generate}
use Rattle.lv_source.specs.Declarations.{of_item, of_items}
use Rattle.lv_source.specs.Scopes.{counted_from}
use Rattle.lv_source.proofs.Summaries.{append-none}
use Rattle.lv_declared.specs.declared.listed.Listed.{Listed}
use Rattle.lv_declared.specs.Listing.{declared, all_declared, counted}
use Rattle.lv_declared.specs.Lists.{Adds}

-- ---- items

counted-append : (k : ℕ) (xs ys : List Item) → counted_from k (xs ++ ys) ≡ counted_from k xs ++ counted_from (k + length (of_items xs)) ys
counted-append k [] ys = ap (λ n. counted_from n ys) (omega arith)
counted-append k (x ∷ xs) ys =
    let n : length (of_item x ++ of_items xs) ≡ length (of_item x) + length (of_items xs) = length-append (of_item x) (of_items xs) in
    ap (λ zs. (k, x) ∷ zs) (counted-append (k + length (of_item x)) xs ys ∙
    ap (λ m. counted_from (k + length (of_item x)) xs ++ counted_from m ys) (omega (arith, n)))

pub adds-none : (l : Listed) → Adds l l []
adds-none l = record { declarations = sym (append-none _); items = sym (append-none _); header = refl }

count_of : (a b : Listed) (xs : List Item) → Adds a b xs → length b.declarations.items ≡ length a.declarations.items + length (of_items xs)
count_of a b xs h =
    sym (length-map b.declarations.items declared) ∙ ap length h.declarations ∙ length-append (all_declared a.declarations.items) (of_items xs) ∙
    ap (λ n. n + length (of_items xs)) (length-map a.declarations.items declared)

pub adds-more : (a b c : Listed) (xs ys : List Item) → Adds a b xs → Adds b c ys → Adds a c (xs ++ ys)
adds-more a b c xs ys h k = record {
  declarations =
      k.declarations ∙ ap (λ ds. ds ++ of_items ys) h.declarations ∙ append_assoc (all_declared a.declarations.items) (of_items xs) (of_items ys) ∙
      ap (λ ds. all_declared a.declarations.items ++ ds) (sym (flat_map-append of_item xs ys));
  items =
      k.items ∙ ap (λ zs. zs ++ counted_from (length b.declarations.items) ys) h.items ∙
      append_assoc (map counted a.items.items) (counted_from (length a.declarations.items) xs) (counted_from (length b.declarations.items) ys) ∙
      ap (λ zs. map counted a.items.items ++ zs)
      (ap (λ n. counted_from (length a.declarations.items) xs ++ counted_from n ys) (count_of a b xs h) ∙ sym (counted-append (length a.declarations.items) xs ys));
  header = k.header ∙ h.header;
}

pub adds-step : (a b c : Listed) (xs : List Item) (k : ℕ) (x : Item) → Adds a b (flat_map spread (take k xs)) → Adds b c (spread x) → k < length xs →
    x ≡ get_or xs k x → Adds a c (flat_map spread (take (k + 1) xs))
adds-step a b c xs k x h n within e =
    subst (Adds a c)
    (ap (λ ys. flat_map spread (take k xs) ++ ys) (sym (append-none (spread x))) ∙ sym (flat_map-append spread (take k xs) (x ∷ [])) ∙
    ap (flat_map spread) (ap (λ z. take k xs ++ z ∷ []) e ∙ sym (take_more xs k x within)))
    (adds-more a b c (flat_map spread (take k xs)) (spread x) h n)

pub spread_all_of : (a b : Listed) (x : Item) (xs ys : List Item) → x ≡ i.Generate xs → ys ≡ xs → Adds a b (flat_map spread ys) → Adds a b (spread x)
spread_all_of a b x xs ys e same h =
    subst (Adds a b) (ap (λ (zs : List Item). flat_map spread zs) same ∙ sym (ap spread e ∙ spread-Generate xs)) h
