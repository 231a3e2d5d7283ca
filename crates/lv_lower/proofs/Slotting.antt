-- The cells of the first signals and of one more.
use Rattle.std.proofs.Common.{◌≡◌, inl, inr, ℕ, zero, suc, ◌+◌, ◌<◌, Bool, List, [], ◌∷◌, ◌++◌, length, map, take, refl, sym, ap, ◌∙◌, arith, get_or, true, append_assoc}
use Rattle.std.specs.Prelude.{if◌then◌else◌, ◌-◌, ◌≤◌, Option, Some, None}
use Rattle.std.specs.List.{range_with_len}
use Rattle.std.specs.Prelude.{slice_index}
use Rattle.std.proofs.lemmas.Bool.{cases_lt}
use Rattle.std.proofs.lemmas.List.{length-append, get_or_append_left, get_or_at}
use Rattle.lv_source.proofs.Bridges.{two}
use Rattle.std.proofs.lemmas.List.{take_more, length-map, append-nil}
use Rattle.lv_ast.specs.Names.{Name}
use Rattle.lv_source.specs.Names.{Declared, Bounds, low, size, width_of, is_input_sort, is_signal_sort}
use Rattle.lv_source.specs.Places.{cells_by}
use Rattle.lv_source.proofs.Bridges.{map-map}
use Rattle.lv_source.specs.Views.{View, is_register_view}
use Rattle.lv_source.proofs.Summaries.{flat-join}
use Rattle.lv_flat.specs.declared.signal.Signal.{Signal}
use Rattle.lv_flat.specs.Cells.{cell_of, cells_of, all_cells}
use Rattle.lv_flat.specs.Signals.{Signals, declared, declared_all}
use Rattle.lv_lower.specs.declared.slot.Kind.{Kind}
use Rattle.lv_lower.specs.declared.slot.Slot.{Slot}
use Rattle.lv_lower.specs.Slots.{kind_by, slot_by, element_slot, slots_of, all_slots, AreCounts}
use Rattle.lv_lower.proofs.Starting.{range-more}
use Rattle.lv_flat.specs.Signals.{bounds_of}
use Rattle.lv_flat.proofs.Widths.{declared-width}

-- take and map change places
take-map : {A B : Type 0} (f : A → B) (xs : List A) (i : ℕ) → take i (map f xs) ≡ map f (take i xs)
take-map f [] zero = refl
take-map f [] (suc i) = refl
take-map f (x ∷ xs) zero = refl
take-map f (x ∷ xs) (suc i) = ap (λ ys. f x ∷ ys) (take-map f xs i)

nth-map : {A B : Type 0} (f : A → B) (xs : List A) (i : ℕ) (d : A) (e : B) → i < length xs → get_or (map f xs) i e ≡ f (get_or xs i d)
nth-map f [] i d e h = absurd (omega arith)
nth-map f (x ∷ xs) zero d e h = refl
nth-map f (x ∷ xs) (suc i) d e h = nth-map f xs i d e (omega arith)

pub slots-more : (vs : List View) (ss : List Signal) (i : ℕ) (s : Signal) (old new : List Slot) (kind : Kind) → i < length ss → s ≡ get_or ss i s →
    old ≡ all_slots vs (take i (declared_all ss)) → kind ≡ kind_by (is_input_sort (declared s).sort) (is_register_view vs (declared s)) →
    new ≡ old ++ map (slot_by kind) (cells_of (declared s)) → new ≡ all_slots vs (take (i + 1) (declared_all ss))
slots-more vs ss i s old new kind h is o k n =
    n ∙ (ap (λ xs. xs ++ map (slot_by kind) (cells_of (declared s))) o ∙ (ap (λ z. all_slots vs (take i (declared_all ss)) ++ map (slot_by z) (cells_of (declared s))) k ∙
    sym (ap (all_slots vs) (take_more (declared_all ss) i (declared s) (let l : length (declared_all ss) ≡ length ss = length-map ss declared in omega arith) ∙
    ap (λ d. take i (declared_all ss) ++ d ∷ []) (nth-map declared ss i s (declared s) h ∙ ap declared (sym is))) ∙
    flat-join (slots_of vs) (take i (declared_all ss)) (declared s ∷ []) ∙ ap (λ xs. all_slots vs (take i (declared_all ss)) ++ xs) (nil (slots_of vs (declared s))))))
  where
    nil : (xs : List Slot) → xs ++ [] ≡ xs
    nil xs = append-nil xs

-- whether a signal is a register
pub flag-at : (vs : List View) (ss : List Signal) (flags : List Bool) (i : ℕ) (s : Signal) (d : Bool) → i < length ss → s ≡ get_or ss i s → flags ≡ map (is_register_view vs) (declared_all ss) →
    get_or flags i d ≡ is_register_view vs (declared s)
flag-at vs ss flags i s d h is f =
    ap (λ xs. get_or xs i d) f ∙ (nth-map (is_register_view vs) (declared_all ss) i (declared s) d (let l : length (declared_all ss) ≡ length ss = length-map ss declared in omega arith) ∙
    ap (is_register_view vs) (nth-map declared ss i s (declared s) h ∙ ap declared (sym is)))

-- ---- the cells of one signal

map-join : {A B : Type 0} (f : A → B) (xs ys : List A) → map f (xs ++ ys) ≡ map f xs ++ map f ys
map-join f [] ys = refl
map-join f (x ∷ xs) ys = ap (λ zs. f x ∷ zs) (map-join f xs ys)

-- one more element
pub elements-more : (f : ℕ → Slot) (old all new : List Slot) (from at : ℕ) → from ≤ at → all ≡ old ++ map f (range_with_len from (at - from)) → new ≡ all ++ f at ∷ [] →
    new ≡ old ++ map f (range_with_len from (at + 1 - from))
elements-more f old all new from at h a n =
    let e : at - from + 1 ≡ at + 1 - from = omega arith in
    let s : from + (at - from) ≡ at = omega arith in
    n ∙ (ap (λ xs. xs ++ f at ∷ []) a ∙ (append_assoc old (map f (range_with_len from (at - from))) (f at ∷ []) ∙
    ap (λ xs. old ++ xs) (sym (map-join f (range_with_len from (at - from)) (at ∷ [])) ∙
    ap (map f) (ap (λ x. range_with_len from (at - from) ++ x ∷ []) (sym s) ∙ (sym (range-more from (at - from)) ∙ ap (range_with_len from) e)))))

by_elements : (o : Option Bounds) (b : Bounds) (path : Name) (width : ℕ) (kind : Kind) → o ≡ Some b →
    map (element_slot path width kind) (range_with_len (low b) (size b)) ≡ map (slot_by kind) (map (cell_of width) (cells_by o path))
by_elements o b path width kind h =
    sym (map-map (λ (c : Name). slot_by kind (cell_of width c)) _ (range_with_len (low b) (size b))) ∙
    (sym (map-map (slot_by kind) (cell_of width) (cells_by (Some b) path)) ∙ ap (λ (z : Option Bounds). map (slot_by kind) (map (cell_of width) (cells_by z path))) (sym h))

cells-signal : (d : Declared) → is_signal_sort d.sort ≡ true → map (cell_of (width_of d)) (cells_by d.array d.path) ≡ cells_of d
cells-signal d h = ap (λ b. if b then map (cell_of (width_of d)) (cells_by d.array d.path) else []) (sym h)

pub cells-array : (s : Signal) (b : ℕ × ℕ) (kind : Kind) → s.array ≡ Some b → is_signal_sort (declared s).sort ≡ true →
    map (element_slot s.path s.width kind) (range_with_len (low (record { left = b.0; right = b.1 })) (size (record { left = b.0; right = b.1 }))) ≡ map (slot_by kind) (cells_of (declared s))
cells-array s b kind a h =
    by_elements (declared s).array (record { left = b.0; right = b.1 }) s.path s.width kind (ap bounds_of a) ∙
    ap (map (slot_by kind)) (ap (λ w. map (cell_of w) (cells_by (declared s).array s.path)) (sym (declared-width s)) ∙ cells-signal (declared s) h)

pub cells-one : (s : Signal) (kind : Kind) → s.array ≡ None → is_signal_sort (declared s).sort ≡ true →
    (let z : Slot = record { name = s.path; width = s.width; kind = kind } in z) ∷ [] ≡ map (slot_by kind) (cells_of (declared s))
cells-one s kind a h =
    ap (λ w. (let z : Slot = record { name = s.path; width = w; kind = kind } in z) ∷ []) (sym (declared-width s)) ∙
    (ap (λ (o : Option (ℕ × ℕ)). map (slot_by kind) (map (cell_of (width_of (declared s))) (cells_by (bounds_of o) s.path))) (sym a) ∙
    ap (map (slot_by kind)) (cells-signal (declared s) h))

-- ---- the numbers of first cells

slots-length : (vs : List View) (S : Signals) → length (all_slots vs S) ≡ length (all_cells S)
slots-length vs [] = refl
slots-length vs (d ∷ S) =
    length-append (slots_of vs d) (all_slots vs S) ∙
    (two (λ (x y : ℕ). x + y) _ _ _ _ (length-map (cells_of d) (slot_by (kind_by (is_input_sort d.sort) (is_register_view vs d)))) (slots-length vs S) ∙ sym (length-append (cells_of d) (all_cells S)))

take-length : {A : Type 0} (xs : List A) (i : ℕ) → i ≤ length xs → length (take i xs) ≡ i
take-length xs zero h = refl
take-length [] (suc i) h = absurd (omega arith)
take-length (x ∷ xs) (suc i) h = ap suc (take-length xs i (omega arith))

take-shorter : (S : Signals) (k i : ℕ) → k ≤ i → take k S ≡ take k (take i S)
take-shorter S zero i h = refl
take-shorter [] (suc k) zero h = refl
take-shorter [] (suc k) (suc i) h = refl
take-shorter (x ∷ xs) (suc k) zero h = absurd (omega arith)
take-shorter (x ∷ xs) (suc k) (suc i) h = ap (λ ys. x ∷ ys) (take-shorter xs k i (omega arith))

pub counts-more : (vs : List View) (ss : List Signal) (i : ℕ) (old new : List ℕ) (all : List Slot) → i < length ss → all ≡ all_slots vs (take i (declared_all ss)) →
    AreCounts (take i (declared_all ss)) old → new ≡ old ++ length all ∷ [] → AreCounts (take (i + 1) (declared_all ss)) new
counts-more vs ss i old new all h a c n =
    let S : Signals = declared_all ss in
    let l : length S ≡ length ss = length-map ss declared in
    let e : length (take i S) ≡ i = take-length S i (omega arith) in
    let f : length (take (i + 1) S) ≡ i + 1 = take-length S (i + 1) (omega arith) in
    let o : length old ≡ i = c.count ∙ e in
    record {
      count = ap (λ xs. length xs) n ∙ (length-append old (length all ∷ []) ∙ (let s : length old + 1 ≡ length (take (i + 1) S) = omega arith in s));
      is = λ k b. ap (λ xs. slice_index xs k) n ∙ elim (cases_lt k i) [
        | inl lt ↦ get_or_append_left old (length all ∷ []) 0 k (omega arith) ∙
            (c.is k (omega arith) ∙ ap (λ xs. length (all_cells xs)) (sym (take-shorter S k i (omega arith)) ∙ take-shorter S k (i + 1) (omega arith)))
        | inr le ↦ (let s : k ≡ i = omega arith in
            get_or_at old (length all) [] 0 k (omega arith) ∙ (ap (λ xs. length xs) a ∙ (slots-length vs (take i S) ∙
            ap (λ xs. length (all_cells xs)) (ap (λ z. take z S) (sym s) ∙ take-shorter S k (i + 1) (omega arith)))))
      ];
    }
