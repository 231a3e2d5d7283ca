-- The data of an array's values, read as lists.
use Rattle.std.proofs.Common.{◌≡◌, ℕ, zero, suc, ◌<◌, get_or, sym, Bool, ◌&&◌, List, [], ◌∷◌, length, take, map, ◌≤◌, refl, ap, arith}
use Rattle.std.proofs.lemmas.List.{take_all}
use Rattle.std.specs.List.{list_all}
use Rattle.toml.specs.Data.{Data, Members}
use Rattle.toml.specs.View.{view, items_view}
use Rattle.toml.specs.declared.value.Value.{Value}
use Rattle.lv_contract.specs.Values.{count, all_items, text_of, items_of, members_of, texts_in, lists_in, tables_in, text_in}

pub count-view : (vs : List Value) → count (items_view vs) ≡ length vs
count-view [] = refl
count-view (v ∷ vs) = let e : count (items_view vs) ≡ length vs = count-view vs in omega (arith, e)

pub all_items-view : (p : Data → Bool) (vs : List Value) → all_items p (items_view vs) ≡ list_all (λ v. p (view v)) vs
all_items-view p [] = refl
all_items-view p (v ∷ vs) = ap (λ b. p (view v) && b) (all_items-view p vs)

pub texts_in-view : (vs : List Value) → texts_in (items_view vs) ≡ map (λ v. text_of (view v)) vs
texts_in-view [] = refl
texts_in-view (v ∷ vs) = ap (λ ts. text_of (view v) ∷ ts) (texts_in-view vs)

pub lists_in-view : (vs : List Value) → lists_in (items_view vs) ≡ map (λ v. texts_in (items_of (view v))) vs
lists_in-view [] = refl
lists_in-view (v ∷ vs) = ap (λ ts. texts_in (items_of (view v)) ∷ ts) (lists_in-view vs)

pub tables_in-view : (vs : List Value) → tables_in (items_view vs) ≡ map (λ v. members_of (view v)) vs
tables_in-view [] = refl
tables_in-view (v ∷ vs) = ap (λ ts. members_of (view v) ∷ ts) (tables_in-view vs)

pub taken_all : {A B : Type 0} (f : A → B) (xs : List A) (i : ℕ) → length xs ≤ i → map f (take i xs) ≡ map f xs
taken_all f xs i h = ap (map f) (take_all i xs h)

pub ruleset sizes = (count-view, all_items-view)

pub ruleset lists = (texts_in-view, lists_in-view, tables_in-view, taken_all)

pub text_in-here : (vs : List Value) (i : ℕ) (v : Value) → i < length vs → get_or vs i v ≡ v → text_of (view v) ≡ text_in i (texts_in (items_view vs))
text_in-here [] i v h e = absurd (omega arith)
text_in-here (w ∷ vs) zero v h e = ap (λ u. text_of (view u)) (sym e)
text_in-here (w ∷ vs) (suc i) v h e = text_in-here vs i v (omega arith) e

pub text_in-past : (vs : List Value) (i : ℕ) → length vs ≤ i → [] ≡ text_in i (texts_in (items_view vs))
text_in-past [] i h = refl
text_in-past (w ∷ vs) zero h = absurd (omega arith)
text_in-past (w ∷ vs) (suc i) h = text_in-past vs i (omega arith)

pub lists_mapped : {B : Type 0} (f : List (List ℕ) → B) (vs : List Value) → map f (lists_in (items_view vs)) ≡ map (λ v. f (texts_in (items_of (view v)))) vs
lists_mapped f [] = refl
lists_mapped f (v ∷ vs) = ap (λ ts. f (texts_in (items_of (view v))) ∷ ts) (lists_mapped f vs)

pub tables_mapped : {B : Type 0} (f : Members → B) (vs : List Value) → map f (tables_in (items_view vs)) ≡ map (λ v. f (members_of (view v))) vs
tables_mapped f [] = refl
tables_mapped f (v ∷ vs) = ap (λ ts. f (members_of (view v)) ∷ ts) (tables_mapped f vs)
