-- Cells of distinct names are those of signals that are apart.
use Rattle.std.proofs.Common.{◌≡◌, inl, inr, ℕ, suc, ◌<◌, Bool, true, false, List, [], ◌∷◌, ◌++◌, length, map, refl, sym, ap, ◌∙◌, arith}
use Rattle.std.specs.Prelude.{filter, cond, bytes_eq, if◌then◌else◌}
use Rattle.std.specs.List.{list_any}
use Rattle.lv_ast.specs.Names.{Name}
use Rattle.lv_source.specs.Names.{Declared, width_of, is_signal_sort}
use Rattle.lv_source.specs.Places.{cells}
use Rattle.lv_source.specs.Parts.{is_signal, width_from}
use Rattle.lv_source.proofs.Tests.{or-split, any-right, any-map, same_name, or-left, or-right}
use Rattle.lv_source.proofs.Refused.{In}
use Rattle.lv_source.proofs.Kids.{in_index}
use Rattle.lv_flat.specs.Cells.{Cell, cell_of, cells_of, all_cells, cell_at, AreDistinct}
use Rattle.lv_flat.specs.Signals.{Signals}
use Rattle.lv_settles.specs.Rules.{AreApart, signals_in}

abbrev pub named_by : Name → List Cell → Bool
named_by name cs = list_any (λ (c : Cell). bytes_eq name c.name) cs

find_cell : (cs : List Cell) (name : Name) → named_by name cs ≡ true → (k : ℕ) × (k < length cs) × (name ≡ (cell_at cs k).name)
find_cell [] name h = cc
find_cell (c ∷ cs) name h = elim (or-split (bytes_eq name c.name) (named_by name cs) h) [
  | inl e ↦ (0, omega arith, same_name name c.name e)
  | inr e ↦ (let r : (k : ℕ) × (k < length cs) × (name ≡ (cell_at cs k).name) = find_cell cs name e in (suc r.0, (let h : r.0 < length cs = r.1 in omega arith), r.2))
]

rest_distinct : (c : Cell) (cs : List Cell) → AreDistinct (c ∷ cs) → AreDistinct cs
rest_distinct c cs h i j a b e = (let s : suc i ≡ suc j = h (suc i) (suc j) (omega arith) (omega arith) e in omega arith)

two_cells : (xs ys : List Cell) → AreDistinct (xs ++ ys) → (name : Name) → named_by name xs ≡ true → named_by name ys ≡ true → ⊥
two_cells [] ys h name a b = cc
two_cells (x ∷ xs) ys h name a b = elim (or-split (bytes_eq name x.name) (named_by name xs) a) [
  | inl e ↦ (
      let r : (k : ℕ) × (k < length (xs ++ ys)) × (name ≡ (cell_at (xs ++ ys) k).name) =
      find_cell (xs ++ ys) name (any-right (λ (c : Cell). bytes_eq name c.name) xs ys b) in
      let below : r.0 < length (xs ++ ys) = r.1 in
      let z : 0 ≡ suc r.0 = h 0 (suc r.0) (omega arith) (omega arith) (sym (same_name name x.name e) ∙ r.2) in
      omega arith)
  | inr e ↦ two_cells xs ys (rest_distinct x (xs ++ ys) h) name e b
]

left_off : (xs ys : List Cell) → AreDistinct (xs ++ ys) → AreDistinct ys
left_off [] ys h = h
left_off (x ∷ xs) ys h = left_off xs ys (rest_distinct x (xs ++ ys) h)

-- a name of the cells of a signal
signal_named : (d : Declared) (name : Name) → is_signal_sort d.sort ≡ true → list_any (bytes_eq name) (cells d) ≡ true → named_by name (cells_of d) ≡ true
signal_named d name s h =
    ap (λ b. named_by name (if b then map (cell_of (width_of d)) (cells d) else [])) s ∙
    (sym (any-map (λ (c : Cell). bytes_eq name c.name) (cell_of (width_of d)) (cells d)) ∙ h)

pub some_named : (S : Signals) (x : Declared) (name : Name) → In x (filter is_signal S) → list_any (bytes_eq name) (cells x) ≡ true → named_by name (all_cells S) ≡ true
some_named [] x name i h = absurd i
some_named (d ∷ S) x name i h = elim (is_signal d) as (λ b. is_signal d ≡ b → In x (cond b (d ∷ filter is_signal S) (filter is_signal S)) → named_by name (cells_of d ++ all_cells S) ≡ true) [
  | true ↦ λ e j. elim j [
    | inl same ↦ any_first (cells_of d) (all_cells S) (signal_named d name e (ap (λ z. list_any (bytes_eq name) (cells z)) same ∙ h))
    | inr rest ↦ any-right (λ (c : Cell). bytes_eq name c.name) (cells_of d) (all_cells S) (some_named S x name rest h)
  ]
  | false ↦ λ e j. any-right (λ (c : Cell). bytes_eq name c.name) (cells_of d) (all_cells S) (some_named S x name j h)
] refl i
  where
    any_first : (xs ys : List Cell) → named_by name xs ≡ true → named_by name (xs ++ ys) ≡ true
    any_first [] ys h = cc
    any_first (c ∷ cs) ys h = elim (or-split (bytes_eq name c.name) (named_by name cs) h) [
      | inl e ↦ or-left (bytes_eq name c.name) (named_by name (cs ++ ys)) e
      | inr e ↦ or-right (bytes_eq name c.name) (named_by name (cs ++ ys)) (any_first cs ys e)
    ]

pub same_signal : (S : Signals) → AreDistinct (all_cells S) → (x y : Declared) (name : Name) → In x (filter is_signal S) → In y (filter is_signal S) →
    list_any (bytes_eq name) (cells x) ≡ true → list_any (bytes_eq name) (cells y) ≡ true → x ≡ y
same_signal [] h x y name i j a b = absurd i
same_signal (d ∷ S) h x y name i j a b =
    let rest : AreDistinct (all_cells S) = left_off (cells_of d) (all_cells S) h in
    elim (is_signal d) as (λ c. is_signal d ≡ c → In x (cond c (d ∷ filter is_signal S) (filter is_signal S)) → In y (cond c (d ∷ filter is_signal S) (filter is_signal S)) → x ≡ y) [
      | true ↦ λ e k l. elim k [
        | inl s ↦ elim l [
          | inl t ↦ sym s ∙ t
          | inr t ↦ absurd (two_cells (cells_of d) (all_cells S) h name (signal_named d name e (ap (λ z. list_any (bytes_eq name) (cells z)) s ∙ a)) (some_named S y name t b))
        ]
        | inr s ↦ elim l [
          | inl t ↦ absurd (two_cells (cells_of d) (all_cells S) h name (signal_named d name e (ap (λ z. list_any (bytes_eq name) (cells z)) t ∙ b)) (some_named S x name s a))
          | inr t ↦ same_signal S rest x y name s t a b
        ]
      ]
      | false ↦ λ e k l. same_signal S rest x y name k l a b
    ] refl i j

pub apart : (S : Signals) → AreDistinct (all_cells S) → AreApart (signals_in S)
apart S h = record { apart = λ i j x y name e g a b. same_signal S h x y name (in_index x (signals_in S) i e) (in_index y (signals_in S) j g) a b }

-- a signal that has a name has the width of the name
pub width_is : (ds : List Declared) (name : Name) (x : Declared) → In x ds → ((y : Declared) → In y ds → list_any (bytes_eq name) (cells y) ≡ true → y ≡ x) →
    list_any (bytes_eq name) (cells x) ≡ true → width_from ds name ≡ width_of x
width_is [] name x i f h = absurd i
width_is (d ∷ ds) name x i f h = elim (list_any (bytes_eq name) (cells d)) as (λ c. list_any (bytes_eq name) (cells d) ≡ c → (if c then width_of d else width_from ds name) ≡ width_of x) [
  | true ↦ λ e. ap width_of (f d (inl refl) e)
  | false ↦ λ e. elim i [
    | inl s ↦ absurd (let t : true ≡ false = sym (ap (λ z. list_any (bytes_eq name) (cells z)) s ∙ h) ∙ e in cc)
    | inr s ↦ width_is ds name x s (λ y k. f y (inr k)) h
  ]
] refl
