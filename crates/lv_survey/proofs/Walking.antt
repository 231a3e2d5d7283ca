-- The items of a scope, one after another.
use Rattle.std.proofs.Common.{◌≡◌, ◌⊎◌, inl, inr, ℕ, zero, suc, ◌+◌, ◌<◌, ◌≤◌, List, [], ◌∷◌, ◌++◌, map, length, get_or, take, drop, append_assoc, refl, sym, ap, ◌∙◌, subst, arith, Some, Result, Ok, Err, false}
use Rattle.std.specs.Prelude.{slice_get, slice_index, flat_map, Contains}
use Rattle.std.specs.Option.{option_map}
use Rattle.std.specs.Result.{OnOk, is_err}
use Rattle.std.proofs.lemmas.List.{map-append, length-append, length_push, map_push, flat_map_more, take-append-le, take_all, get_or-map, length-map, length-take, take_more, take-append-drop}
use Rattle.std.proofs.lemmas.List.Elements.{Contains-append_right}
use Rattle.std.proofs.lemmas.Option.{slice_get-map}
use Rattle.lv_ast.specs.declared.item.Item.{Item}
use Rattle.lv_ast.specs.declared.item.Source.{Source}
use Rattle.lv_source.proofs.Refused.{In, in_contains, contains_in, in-split}
use Rattle.lv_source.specs.Declarations.{of_item}
use Rattle.lv_source.specs.Limits.{Size, item_size, nodes_alone}
use Rattle.lv_source.specs.Scopes.{Scope, children_by, counted_from, counted_items}
use Rattle.lv_const.specs.declared.consts.Entry.{Entry}
use Rattle.lv_sizes.specs.Totals.{total, plus}
use Rattle.lv_sizes.proofs.Totals.{same-size}
use Rattle.lv_declared.specs.declared.listed.Counted.{Counted}
use Rattle.lv_declared.specs.Listing.{counted}
use Rattle.lv_preorder.specs.Origins.{AllIn}
use Rattle.lv_preorder.specs.Origins as origin
use Rattle.lv_survey.specs.declared.found.Survey.{Survey}
use Rattle.lv_survey.specs.declared.error.SurveyError.{SurveyError}
use Rattle.lv_survey.specs.declared.error.SurveyError.TheVariants as e
use Rattle.lv_survey.specs.Counts.{AreCounts}
use Rattle.lv_survey.specs.Scenes.{Scene, IsPlace, IsScopeHere}
use Rattle.lv_survey.specs.Surveys.{all_below, below_of, scope_in, count_by_items, IsListed, IsSurveyedItem, IsSurveyed, IsRefused}
use Rattle.lv_survey.specs.Items.{Grows, IsGrown, IsNotGrown, IsSoFar, IsAhead, sizes_of}
use Rattle.lv_survey.proofs.Counting.{get_first, get_last, below_or}

-- ---- sizes

total_push : {A : Type 0} (f : A → Size) (xs : List A) (x : A) → total f (xs ++ x ∷ []) ≡ plus (total f xs) (f x)
total_push f [] x = same-size (plus (f x) (nodes_alone 0)) (plus (nodes_alone 0) (f x)) (omega arith) (omega arith)
total_push f (y ∷ ys) x =
    ap (plus (f y)) (total_push f ys x) ∙
    same-size (plus (f y) (plus (total f ys) (f x))) (plus (plus (f y) (total f ys)) (f x)) (omega arith) (omega arith)

sizes_push : (s : Scope) (xs : List (ℕ × Item)) (x : ℕ × Item) → sizes_of s (xs ++ x ∷ []) ≡ plus (sizes_of s xs) (item_size s x.1)
sizes_push s xs x = ap (total (item_size s)) (map_push (λ x. x.1) xs x) ∙ total_push (item_size s) (map (λ x. x.1) xs) x.1

all_texts : (k : ℕ) (xs : List Item) → map (λ x. x.1) (counted_from k xs) ≡ xs
all_texts k [] = refl
all_texts k (x ∷ xs) = ap (λ ys. x ∷ ys) (all_texts (k + length (of_item x)) xs)

-- ---- items so far

module _ (turns nodes : ℕ) (source : Source) (s : Scope) where
  pub so_far_none : (r : Survey) → r.children.items ≡ [] → r.ends.items ≡ [] → r.turns ≡ turns → r.nodes ≡ nodes → IsSoFar turns nodes source s [] r
  so_far_none r c d t n = record {
    scopes = ap (λ bs. map (scope_in s) (all_below bs)) c;
    count = ap length d;
    ends = λ j l. absurd (omega arith);
    turns_left = omega arith;
    nodes_left = omega arith;
    each = λ x h. absurd (contains_in x [] h);
  }

  module _ (xs : List (ℕ × Item)) (x : ℕ × Item) (old new : Survey) (h : IsSoFar turns nodes source s xs old) where
    turns_more : (left t : ℕ) → left + t ≡ old.turns → t ≡ (item_size s x.1).turns → left + (sizes_of s (xs ++ x ∷ [])).turns ≡ turns
    turns_more left t e f =
        let p : (sizes_of s (xs ++ x ∷ [])).turns ≡ (sizes_of s xs).turns + (item_size s x.1).turns = ap (λ (z : Size). z.turns) (sizes_push s xs x) in
        omega (arith, p, h.turns_left)

    nodes_more : (left t : ℕ) → left + t ≡ old.nodes → t ≡ (item_size s x.1).nodes → left + (sizes_of s (xs ++ x ∷ [])).nodes ≡ nodes
    nodes_more left t e f =
        let p : (sizes_of s (xs ++ x ∷ [])).nodes ≡ (sizes_of s xs).nodes + (item_size s x.1).nodes = ap (λ (z : Size). z.nodes) (sizes_push s xs x) in
        omega (arith, p, h.nodes_left)

    module _ (g : IsGrown source s x old new) where
      scopes_more : map (scope_in s) (all_below new.children.items) ≡ flat_map (children_by source s) (xs ++ x ∷ [])
      scopes_more = g.scopes ∙ (ap (λ ys. ys ++ children_by source s x) h.scopes ∙ flat_map_more (children_by source s) [] xs x)

      count_more : length new.ends.items ≡ length (xs ++ x ∷ [])
      count_more = ap length g.ends ∙ (length_push old.ends.items (length new.children.items) ∙ (ap (λ n. n + 1) h.count ∙ sym (length_push xs x)))

      last_end : length new.children.items ≡ count_by_items source s (xs ++ x ∷ [])
      last_end =
          sym (length-map new.children.items below_of) ∙ (sym (length-map (all_below new.children.items) (scope_in s)) ∙ ap length scopes_more)

      ends_more : (j : ℕ) → (j < length xs) ⊎ (j ≡ length xs) → slice_get (old.ends.items ++ length new.children.items ∷ []) j ≡
          Some (count_by_items source s (take (suc j) (xs ++ x ∷ [])))
      ends_more j (inl l) =
          get_first old.ends.items (length new.children.items ∷ []) j (omega (arith, h.count)) ∙
          (h.ends j l ∙ ap (λ ys. Some (count_by_items source s ys)) (sym (take-append-le (suc j) xs (x ∷ []) (omega arith))))
      ends_more j (inr q) =
          get_last old.ends.items (length new.children.items) j (q ∙ sym h.count) ∙
          (ap Some last_end ∙ ap (λ ys. Some (count_by_items source s ys))
          (sym (take_all (suc j) (xs ++ x ∷ []) (let p : length (xs ++ x ∷ []) ≡ length xs + 1 = length_push xs x in omega arith))))

      each_more : (y : ℕ × Item) → In y xs ⊎ In y (x ∷ []) → IsSurveyedItem source s y
      each_more y (inl i) = h.each y (in_contains y xs i)
      each_more y (inr (inl q)) = subst (IsSurveyedItem source s) q g.surveyed
      each_more y (inr (inr i)) = absurd i

      pub so_far_more : IsSoFar turns nodes source s (xs ++ x ∷ []) new
      so_far_more = record {
        scopes = scopes_more;
        count = count_more;
        ends = λ j l. subst (λ es. slice_get es j ≡ Some (count_by_items source s (take (suc j) (xs ++ x ∷ [])))) (sym g.ends)
            (ends_more j (below_or j (length xs) (subst (λ n. j < n) (length_push xs x) l)));
        turns_left = turns_more new.turns (item_size s x.1).turns g.turns_left refl;
        nodes_left = nodes_more new.nodes (item_size s x.1).nodes g.nodes_left refl;
        each = λ y i. each_more y (in-split y xs (x ∷ []) (contains_in y (xs ++ x ∷ []) i));
      }

    -- ---- refused

    module _ (room : ℕ) (ys : List (ℕ × Item)) (all : xs ++ x ∷ ys ≡ counted_items s) where
      first_items : (xs ++ x ∷ []) ++ ys ≡ counted_items s
      first_items = append_assoc xs (x ∷ []) ys ∙ all

      first_texts : map (λ x. x.1) (xs ++ x ∷ []) ++ map (λ x. x.1) ys ≡ s.items
      first_texts = sym (map-append (λ x. x.1) (xs ++ x ∷ []) ys) ∙ (ap (map (λ x. x.1)) first_items ∙ all_texts s.header s.items)

      count_first : length old.children.items + length (children_by source s x) ≡ count_by_items source s (xs ++ x ∷ [])
      count_first =
          ap (λ n. n + length (children_by source s x))
          (sym (length-map old.children.items below_of) ∙ (sym (length-map (all_below old.children.items) (scope_in s)) ∙ ap length h.scopes)) ∙
          (sym (length-append (flat_map (children_by source s) xs) (children_by source s x)) ∙ ap length (flat_map_more (children_by source s) [] xs x))

      pub refused : (y : SurveyError) → IsNotGrown room source s x old y → IsRefused room turns nodes source s y
      refused (e.Fault a) k = (x, subst (λ zs. Contains zs x) all (Contains-append_right xs (x ∷ ys) x (in_contains x (x ∷ ys) (inl refl))), k)
      refused e.Instances k = (xs ++ x ∷ [], ys, first_items, subst (λ n. room < n) count_first k)
      refused e.Turns k = (
        map (λ x. x.1) (xs ++ x ∷ []),
        map (λ x. x.1) ys,
        first_texts,
        (let p : (sizes_of s (xs ++ x ∷ [])).turns ≡ (sizes_of s xs).turns + (item_size s x.1).turns = ap (λ (z : Size). z.turns) (sizes_push s xs x) in
            omega (arith, p, h.turns_left)),
      )
      refused e.Nodes k = (
        map (λ x. x.1) (xs ++ x ∷ []),
        map (λ x. x.1) ys,
        first_texts,
        (let p : (sizes_of s (xs ++ x ∷ [])).nodes ≡ (sizes_of s xs).nodes + (item_size s x.1).nodes = ap (λ (z : Size). z.nodes) (sizes_push s xs x) in
            omega (arith, p, h.nodes_left)),
      )
      refused e.NoMemory k = tt

  pub surveyed : (xs : List (ℕ × Item)) (r : Survey) → xs ≡ counted_items s → IsSoFar turns nodes source s xs r → IsSurveyed turns nodes source s r
  surveyed xs r all h =
      let k : IsSoFar turns nodes source s (counted_items s) r = subst (λ zs. IsSoFar turns nodes source s zs r) all h in
      record {
        scopes = k.scopes;
        count = k.count;
        ends = k.ends;
        turns_left = ap (λ zs. r.turns + (total (item_size s) zs).turns) (sym (all_texts s.header s.items)) ∙ k.turns_left;
        nodes_left = ap (λ zs. r.nodes + (total (item_size s) zs).nodes) (sym (all_texts s.header s.items)) ∙ k.nodes_left;
        each = k.each;
      }

-- ---- the list

all_in_both : (n : ℕ) (xs ys : List origin.Below) → AllIn n xs → AllIn n ys → AllIn n (xs ++ ys)
all_in_both n [] ys a b = b
all_in_both n (x ∷ xs) ys a b = (a.0, all_in_both n xs ys a.1 b)

pub listed_none : (number room turns nodes : ℕ) (r : Survey) → r.children.items ≡ [] → r.ends.items ≡ [] → r.turns ≡ turns → r.nodes ≡ nodes →
    IsListed number room 0 turns nodes r
listed_none number room turns nodes r c d t n = record {
  inside = subst (λ bs. AllIn number (all_below bs)) (sym c) tt;
  few = subst (λ bs. length bs ≤ room) (sym c) (omega arith);
  ends = ap length d;
  turns_few = omega arith;
  nodes_few = omega arith;
}

pub listed_more : (number room k turns nodes : ℕ) (old new : Survey) → IsListed number room k turns nodes old → Grows number room old new →
    IsListed number room (k + 1) turns nodes new
listed_more number room k turns nodes old new h g = record {
  inside = subst (AllIn number) (sym g.children) (all_in_both number (all_below old.children.items) g.more h.inside g.inside);
  few = g.few h.few;
  ends = g.ends ∙ ap (λ n. n + 1) h.ends;
  turns_few = omega (arith, h.turns_few, g.turns_few);
  nodes_few = omega (arith, h.nodes_few, g.nodes_few);
}

-- ---- constants

-- the counts of items do not fall
pub same_pair : (p q : ℕ × Item) → Some p ≡ Some q → p.0 ≡ q.0
same_pair p q h = let e : p ≡ q = cc in ap (λ (o : ℕ × Item). o.0) e

not_before : (k : ℕ) (xs : List Item) (j : ℕ) (x : ℕ × Item) → slice_get (counted_from k xs) j ≡ Some x → k ≤ x.0
not_before k [] j x h = absurd (cc)
not_before k (y ∷ ys) zero x h = let e : k ≡ x.0 = same_pair (k, y) x h in omega arith
not_before k (y ∷ ys) (suc j) x h = let l : k + length (of_item y) ≤ x.0 = not_before (k + length (of_item y)) ys j x h in omega arith

in_order : (k : ℕ) (xs : List Item) (i j : ℕ) (x y : ℕ × Item) → i ≤ j → slice_get (counted_from k xs) i ≡ Some x → slice_get (counted_from k xs) j ≡ Some y → x.0 ≤ y.0
in_order k [] i j x y l h g = absurd (cc)
in_order k (z ∷ zs) zero j x y l h g =
    let e : k ≡ x.0 = same_pair (k, z) x h in
    let m : k ≤ y.0 = not_before k (z ∷ zs) j y g in
    omega arith
in_order k (z ∷ zs) (suc i) zero x y l h g = absurd (omega arith)
in_order k (z ∷ zs) (suc i) (suc j) x y l h g = in_order (k + length (of_item z)) zs i j x y (omega arith) h g

pub ahead_none : (entries : List Entry) (counts : List ℕ) (items : List Counted) → IsAhead entries counts items 0 []
ahead_none entries counts items = record { first = refl; less = λ k c l h. omega arith }

module _ (entries : List Entry) (counts : List ℕ) (items : List Counted) (r : AreCounts entries counts items) where
  items_rise : (i j : ℕ) (c d : Counted) → i ≤ j → slice_get items i ≡ Some c → slice_get items j ≡ Some d → c.before ≤ d.before
  items_rise i j c d l h g =
      in_order r.header r.texts i j (counted c) (counted d) l
      (ap (λ xs. slice_get xs i) (sym r.listed) ∙ (slice_get-map counted items i ∙ ap (option_map counted) h))
      (ap (λ xs. slice_get xs j) (sym r.listed) ∙ (slice_get-map counted items j ∙ ap (option_map counted) g))

  module _ (i : ℕ) (c : Counted) (h : slice_get items i ≡ Some c) where
    pub count_few : slice_index counts c.before ≤ length entries
    count_few = r.few c.before (r.known i c h)

    count_taken : length (take (slice_index counts c.before) entries) ≡ slice_index counts c.before
    count_taken = let l : slice_index counts c.before ≤ length entries = count_few in omega (arith, length-take (slice_index counts c.before) entries)

    pub ahead_more : (early : List Entry) → early ≡ take (slice_index counts c.before) entries → IsAhead entries counts items (i + 1) early
    ahead_more early e = record {
      first = e ∙ ap (λ n. take n entries) (sym count_taken ∙ ap length (sym e));
      less = λ k d l g.
          subst (λ n. n ≤ slice_index counts d.before) (sym (ap length e ∙ count_taken))
          (r.rise c.before d.before (items_rise i k c d (omega arith) h g) (r.known k d g));
    }

-- ---- at an item

pub is_there : {T E P : Type 0} (r : Result T E) → is_err r ≡ false → OnOk r P → P
is_there (Ok x) e h = h
is_there (Err y) e h = absurd (cc)

module _ (c : Scene) (entries : List Entry) (counts : List ℕ) (items : List Counted) (source : Source) (s : Scope) (h : IsScopeHere c entries counts items source s)
    (i : ℕ) (x : Counted) (l : i < length items) (is : x ≡ get_or items i x) where
  item_there : Contains (map counted items) (counted x)
  item_there = (i, subst (λ n. i < n) (sym (length-map items counted)) l, get_or-map counted items i x (counted x) l ∙ ap counted (sym is))

  pub place_there : (early : List Entry) → early ≡ take (slice_index counts x.before) entries → IsPlace c early s x.before
  place_there early e = subst (λ es. IsPlace c es s x.before) (sym e) (h.places (counted x) (subst (λ zs. Contains zs (counted x)) (sym h.listed) item_there))

  pub items_next : map counted (take (i + 1) items) ≡ map counted (take i items) ++ counted x ∷ []
  items_next =
      ap (map counted) (take_more items i x l) ∙ (map_push counted (take i items) (get_or items i x) ∙ ap (λ z. map counted (take i items) ++ counted z ∷ []) (sym is))

  items_split : map counted (take i items) ++ counted x ∷ map counted (drop (i + 1) items) ≡ map counted items
  items_split =
      sym (append_assoc (map counted (take i items)) (counted x ∷ []) (map counted (drop (i + 1) items))) ∙
      (ap (λ zs. zs ++ map counted (drop (i + 1) items)) (sym items_next) ∙
      (sym (map-append counted (take (i + 1) items) (drop (i + 1) items)) ∙ ap (map counted) (take-append-drop (i + 1) items)))

  pub items_rest : map counted (take i items) ++ counted x ∷ map counted (drop (i + 1) items) ≡ counted_items s
  items_rest = items_split ∙ sym h.listed
