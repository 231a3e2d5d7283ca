-- The counts of a scope's entries serve its items.
use Rattle.std.proofs.Common.{◌≡◌, ℕ, zero, suc, ◌+◌, ◌<◌, ◌≤◌, List, [], ◌∷◌, map, length, take, sym, ap, ◌∙◌, arith, Some}
use Rattle.std.specs.Prelude.{slice_get, slice_index, if◌then◌else◌}
use Rattle.std.specs.Option.{option_map}
use Rattle.std.proofs.lemmas.List.{take_all, length-append}
use Rattle.std.proofs.lemmas.Option.{slice_get-map, get_or_from_slice_get}
use Rattle.lv_ast.specs.declared.item.Item.{Item}
use Rattle.lv_source.specs.Declarations.{Declaration, of_item, of_items}
use Rattle.lv_source.specs.Scopes.{counted_from, is_parameter}
use Rattle.lv_const.specs.declared.consts.Entry.{Entry}
use Rattle.lv_symbols.specs.Making.{parameters_in}
use Rattle.lv_declared.specs.declared.listed.Counted.{Counted}
use Rattle.lv_declared.specs.Listing.{counted}
use Rattle.lv_survey.specs.Counts.{AreEntryCounts, AreCounts}
use Rattle.lv_survey.proofs.Walking.{same_pair}

more : (n a b : ℕ) → a ≤ b → n + a ≤ n + b
more n a b h = omega arith

rising : (ds : List Declaration) (j k : ℕ) → j ≤ k → parameters_in (take j ds) ≤ parameters_in (take k ds)
rising [] zero zero l = omega arith
rising [] zero (suc k) l = omega arith
rising [] (suc j) zero l = omega arith
rising [] (suc j) (suc k) l = omega arith
rising (d ∷ ds) zero k l = omega arith
rising (d ∷ ds) (suc j) zero l = absurd (omega arith)
rising (d ∷ ds) (suc j) (suc k) l =
    let e : parameters_in (take j ds) ≤ parameters_in (take k ds) = rising ds j k (omega arith) in
    more (if is_parameter d then 1 else 0) (parameters_in (take j ds)) (parameters_in (take k ds)) e

not_behind : (k : ℕ) (xs : List Item) (j : ℕ) (x : ℕ × Item) → slice_get (counted_from k xs) j ≡ Some x → x.0 ≤ k + length (of_items xs)
not_behind k [] j x h = absurd (cc)
not_behind k (y ∷ ys) zero x h = let e : k ≡ x.0 = same_pair (k, y) x h in omega arith
not_behind k (y ∷ ys) (suc j) x h =
    let l : x.0 ≤ k + length (of_item y) + length (of_items ys) = not_behind (k + length (of_item y)) ys j x h in
    let e : length (of_items (y ∷ ys)) ≡ length (of_item y) + length (of_items ys) = length-append (of_item y) (of_items ys) in
    omega arith

module _ (base header : ℕ) (ds : List Declaration) (entries : List Entry) (counts : List ℕ) (items : List Counted) (texts : List Item) (h : AreEntryCounts base ds counts)
    (last : base + parameters_in ds ≡ length entries) (listed : map counted items ≡ counted_from header texts) (few : header + length (of_items texts) ≤ length ds) where
  count_is : (k : ℕ) → k < length counts → slice_index counts k ≡ base + parameters_in (take k ds)
  count_is k l = get_or_from_slice_get counts k (base + parameters_in (take k ds)) 0 (h.each k (omega (arith, h.all)))

  not_more : (k : ℕ) → k < length counts → slice_index counts k ≤ length entries
  not_more k l =
      let e : slice_index counts k ≡ base + parameters_in (take k ds) = count_is k l in
      let r : parameters_in (take k ds) ≤ parameters_in (take (length ds) ds) = rising ds k (length ds) (omega (arith, h.all)) in
      let a : parameters_in (take (length ds) ds) ≡ parameters_in ds = ap parameters_in (take_all (length ds) ds (omega arith)) in
      omega arith

  rises : (j k : ℕ) → j ≤ k → k < length counts → slice_index counts j ≤ slice_index counts k
  rises j k l m =
      let a : slice_index counts j ≡ base + parameters_in (take j ds) = count_is j (omega arith) in
      let b : slice_index counts k ≡ base + parameters_in (take k ds) = count_is k m in
      let r : parameters_in (take j ds) ≤ parameters_in (take k ds) = rising ds j k l in
      omega arith

  known_at : (k : ℕ) (c : Counted) → slice_get items k ≡ Some c → c.before < length counts
  known_at k c e =
      let l : c.before ≤ header + length (of_items texts) =
      not_behind header texts k (counted c)
      (ap (λ xs. slice_get xs k) (sym listed) ∙ (slice_get-map counted items k ∙ ap (option_map counted) e)) in
      omega (arith, h.all)

  pub counts_known : AreCounts entries counts items
  counts_known = record { few = not_more; rise = rises; known = known_at; header = header; texts = texts; listed = listed }
