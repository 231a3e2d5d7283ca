-- Names with selects: their width, sign and value, by the word in which they stand.
use Rattle.std.proofs.Common.{◌≡◌, ℕ, ◌-◌, ◌/◌, ◌^◌, ◌<◌, Bool, true, false, not, ◌&&◌, List, [], ◌∷◌, length, map, refl, sym, ◌∙◌, ap, subst, arith, Option, Some, None, ℤ, pos, negsuc}
use Rattle.std.specs.Prelude.{if◌then◌else◌, decimal, min, ◌-ℤ◌}
use Rattle.std.specs.List.{list_all}
use Rattle.std.proofs.Math.Nat.{mod-eq_of_lt}
use Rattle.lv_bits.specs.Values.{extended}
use Rattle.lv_ast.specs.Names.{Name, at_index}
use Rattle.lv_ast.specs.declared.expr.Expr.TheOpen.{Select-F}
use Rattle.lv_source.specs.Names.{Declared, Bounds, size, Valuation, Sort, Input, Net, Variable, Clock, Constant, Index, Other, is_constant_sort, width_of, low, high, is_signal_sort}
use Rattle.lv_source.specs.Values.{Chosen, nowhere, number_of}
use Rattle.lv_source.specs.Places.{Place, within, lowest, count_of, all_bits, bits_of, nowhere_place, element, place_by, place_of, bit_selects, held, read_bits, read}
use Rattle.lv_source.specs.Meaning.{Reading, Choice, named, meant, is_nil, parts_of, all_constant}
use Rattle.lv_source.specs.NodeRules.{is_array_fault, is_bit_step}
use Rattle.lv_source.specs.Parts.{is_declared_sort}
use Rattle.lv_const.specs.declared.constant.Const.{Const}
use Rattle.lv_const.specs.Constants.{constant_of}
use Rattle.lv_flat.specs.declared.expr.FlatExpr.{FlatExpr}
use Rattle.lv_flat.specs.declared.expr.FlatSelect.{FlatSelect}
use Rattle.lv_flat.specs.declared.expr.FlatSelect.TheVariants as s
use Rattle.lv_flat.proofs.Judgements.{judge_select-Bit, judge_select-Part, judge_select-Up, judge_select-Down}
use Rattle.std.proofs.lemmas.Int.{ints}
use Rattle.lv_lower_exprs.proofs.Parts.{and-left}
use Rattle.lv_flat.specs.Signals.{Signals}
use Rattle.lv_flat.specs.Judged.{JudgedSelect, judge_select, choices, step_of, meaning, reading, is_good}
use Rattle.lv_lower_exprs.specs.Named.{chosen_by, name_width, element_word, word_by, name_word, bits_read, HasElement, are_constant, is_constant_select, is_good_select}
use Rattle.lv_lower_exprs.proofs.Wholes.{read_all, all_length}
use Rattle.lv_lower_exprs.proofs.Widths.{from_length}

-- ---- selects

pub chosen-map : (S : Signals) (ss : List FlatSelect) → map meant (choices (map (judge_select S) ss)) ≡ map (chosen_by S) ss
chosen-map S [] = refl
chosen-map S (s ∷ ss) = ap (λ xs. chosen_by S s ∷ xs) (chosen-map S ss)

pub selects-map : {A B : Type 0} (f : A → B) (o : Option Bounds) (ss : List A) → bit_selects o (map f ss) ≡ map f (bit_selects o ss)
selects-map f None ss = refl
selects-map f (Some b) [] = refl
selects-map f (Some b) (s ∷ ss) = refl

nil-map : {A B : Type 0} (f : A → B) (ss : List A) → is_nil (map f ss) ≡ is_nil ss
nil-map f [] = refl
nil-map f (s ∷ ss) = refl

bits-width : (S : Signals) (d : Declared) (rs : List FlatSelect) (v : Valuation) → length (bits_of d (map (chosen_by S) rs) v) ≡ name_width S (width_of d) rs
bits-width S d [] v = all_length (width_of d)
bits-width S d (s ∷ rs) v = from_length d.bounds (lowest (chosen_by S s) v) (count_of (chosen_by S s))

-- all selects of a name, as its meaning has them
abbrev pub taken_by : Signals → List FlatSelect → List Choice
taken_by S ss = choices (map (judge_select S) ss)

pub rest-map : (S : Signals) (o : Option Bounds) (ss : List FlatSelect) → bit_selects o (map meant (taken_by S ss)) ≡ map (chosen_by S) (bit_selects o ss)
rest-map S o ss = ap (bit_selects o) (chosen-map S ss) ∙ selects-map (chosen_by S) o ss

pub named-width : (S : Signals) (d : Declared) (ss : List FlatSelect) → (named d (taken_by S ss)).meaning.width ≡ name_width S (width_of d) (bit_selects d.array ss)
named-width S d ss = ap (λ xs. length (bits_of d xs nowhere)) (rest-map S d.array ss) ∙ bits-width S d (bit_selects d.array ss) nowhere

pub named-signed : (S : Signals) (d : Declared) (ss : List FlatSelect) → (named d (taken_by S ss)).meaning.signed ≡ (is_nil (bit_selects d.array ss) && d.signed)
named-signed S d ss = ap (λ xs. is_nil {C = Chosen} xs && d.signed) (rest-map S d.array ss) ∙ ap (λ u. u && d.signed) (nil-map (chosen_by S) (bit_selects d.array ss))

-- ---- the word

read_zero : (ks : List (Option ℕ)) → read_bits 0 ks ≡ 0
read_zero [] = refl
read_zero (None ∷ ks) = let e = read_zero ks in omega (arith, e)
read_zero (Some k ∷ ks) =
    let e = read_zero ks in
    let z : 0 / 2 ^ k ≡ 0 = none (2 ^ k) in
    rw z (omega (arith, e))
  where
    none : (n : ℕ) → 0 / n ≡ 0
    none n = omega arith

read_nowhere : (a : ℕ) (ks : List (Option ℕ)) → read_bits a (nowhere_place ks).bits ≡ 0
read_nowhere a [] = refl
read_nowhere a (k ∷ ks) = let e = read_nowhere a ks in omega (arith, e)

nothing : (a : ℕ) (ks : List (Option ℕ)) → read_bits a (nowhere_place ks).bits ≡ read_bits 0 ks
nothing a ks = read_nowhere a ks ∙ sym (read_zero ks)

element_is : (d : Declared) (b : Bounds) (z : ℤ) (ss : List Chosen) (v : Valuation) (h : Valuation) → ((name : Name) → h name ≡ v name) →
    read h (element d b z ss v) ≡ read_bits (element_word d b z v) (bits_of d ss v)
element_is d b (negsuc i) ss v h e = nothing (h []) (bits_of d ss v)
element_is d b (pos i) ss v h e = elim (within (low b) (high b) i) as (λ c. read h (if c then (let p : Place = record { name = at_index d.path (decimal i); bits = bits_of d ss v } in p) else nowhere_place (bits_of d ss v)) ≡
    read_bits (if c then v (at_index d.path (decimal i)) else 0) (bits_of d ss v)) [
      | true ↦ ap (λ a. read_bits a (bits_of d ss v)) (e (at_index d.path (decimal i)))
      | false ↦ nothing (h []) (bits_of d ss v)
    ]

by_array : (o : Option Bounds) (d : Declared) (ss : List Chosen) (v h : Valuation) → ((name : Name) → h name ≡ v name) → read h (place_by o d ss v) ≡ read_bits (word_by o d ss v) (bits_of d (bit_selects o ss) v)
by_array None d ss v h e = ap (λ a. read_bits a (bits_of d ss v)) (e d.path)
by_array (Some b) d [] v h e = nothing (h []) (all_bits (width_of d))
by_array (Some b) d (s ∷ ss) v h e = element_is d b (lowest s v) ss v h e

silent_element : (d : Declared) (b : Bounds) (z : ℤ) (ss : List Chosen) (v h : Valuation) → ((name : Name) → h name ≡ 0) → read h (element d b z ss v) ≡ read_bits 0 (bits_of d ss v)
silent_element d b (negsuc i) ss v h e = nothing (h []) (bits_of d ss v)
silent_element d b (pos i) ss v h e = elim (within (low b) (high b) i) as (λ c. read h (if c then (let p : Place = record { name = at_index d.path (decimal i); bits = bits_of d ss v } in p) else nowhere_place (bits_of d ss v)) ≡ read_bits 0 (bits_of d ss v)) [
  | true ↦ ap (λ a. read_bits a (bits_of d ss v)) (e (at_index d.path (decimal i)))
  | false ↦ nothing (h []) (bits_of d ss v)
]

silent : (o : Option Bounds) (d : Declared) (ss : List Chosen) (v h : Valuation) → ((name : Name) → h name ≡ 0) → read h (place_by o d ss v) ≡ read_bits 0 (bits_of d (bit_selects o ss) v)
silent None d ss v h e = ap (λ a. read_bits a (bits_of d ss v)) (e d.path)
silent (Some b) d [] v h e = nothing (h []) (all_bits (width_of d))
silent (Some b) d (s ∷ ss) v h e = silent_element d b (lowest s v) ss v h e

by_sort : (k : Sort) (d : Declared) (ss : List Chosen) (v : Valuation) → is_declared_sort k ≡ true →
    read (held k v) (place_by d.array d ss v) ≡ read_bits (if is_signal_sort k then word_by d.array d ss v else 0) (bits_of d (bit_selects d.array ss) v)
by_sort Input d ss v h = by_array d.array d ss v (held Input v) (λ name. refl)
by_sort Net d ss v h = by_array d.array d ss v (held Net v) (λ name. refl)
by_sort Variable d ss v h = by_array d.array d ss v (held Variable v) (λ name. refl)
by_sort Clock d ss v h = silent d.array d ss v (held Clock v) (λ name. refl)
by_sort (Constant x) d ss v h = cc
by_sort (Index g) d ss v h = cc
by_sort Other d ss v h = cc

bits_read_is : (d : Declared) (rs : List Chosen) (a : ℕ) (v : Valuation) → a < 2 ^ width_of d → read_bits a (bits_of d rs v) ≡ bits_read d.bounds rs a v
bits_read_is d [] a v h = read_all a (width_of d) ∙ mod-eq_of_lt h
bits_read_is d (s ∷ rs) a v h = refl

pub named-value : (S : Signals) (d : Declared) (ss : List FlatSelect) (v : Valuation) → is_declared_sort d.sort ≡ true → name_word d (map (chosen_by S) ss) v < 2 ^ width_of d →
    read (held d.sort v) (place_of d (map meant (taken_by S ss)) v) ≡ bits_read d.bounds (map (chosen_by S) (bit_selects d.array ss)) (name_word d (map (chosen_by S) ss) v) v
named-value S d ss v h lt =
    ap (λ xs. read (held d.sort v) (place_of d xs v)) (chosen-map S ss) ∙ (by_sort d.sort d (map (chosen_by S) ss) v h ∙
    (ap (λ xs. read_bits (name_word d (map (chosen_by S) ss) v) (bits_of d xs v)) (selects-map (chosen_by S) d.array ss) ∙
    bits_read_is d (map (chosen_by S) (bit_selects d.array ss)) (name_word d (map (chosen_by S) ss) v) v lt))

pub constant-value : (S : Signals) (c : Const) (ss : List FlatSelect) (v : Valuation) → (let d : Declared = constant_of [] c in c.word.value < 2 ^ width_of d →
    read (held d.sort v) (place_of d (map meant (taken_by S ss)) v) ≡ bits_read d.bounds (map (chosen_by S) ss) c.word.value v)
constant-value S c ss v lt =
    let d : Declared = constant_of [] c in
    ap (λ xs. read (held d.sort v) (place_of d xs v)) (chosen-map S ss) ∙ bits_read_is d (map (chosen_by S) ss) c.word.value v lt

-- ---- what a good name is

bit-count : (c : Choice) → is_bit_step (step_of c) ≡ true → count_of (meant c) ≡ 1
bit-count (Select-F.Bit a) h = refl
bit-count (Select-F.Part a b) h = cc
bit-count (Select-F.Up a b) h = cc
bit-count (Select-F.Down a b) h = cc

pub has-element : (S : Signals) (o : Option Bounds) (ss : List FlatSelect) → is_array_fault o (map step_of (taken_by S ss)) ≡ false → HasElement S o ss
has-element S None ss h = tt
has-element S (Some b) [] h = cc
has-element S (Some b) (s ∷ ss) h = bit-count (judge_select S s).choice (not-false (is_bit_step (step_of (judge_select S s).choice)) h)
  where
    not-false : (u : Bool) → not u ≡ false → u ≡ true
    not-false true h = refl
    not-false false h = cc

-- ---- what is constant

pub constant-selects : (S : Signals) (ss : List FlatSelect) → all_constant (taken_by S ss) ≡ are_constant S ss
constant-selects S [] = refl
constant-selects S (s ∷ ss) = ap (λ u. is_constant_select S s && u) (constant-selects S ss)

-- ---- each form of select

module _ (S : Signals) (x : FlatSelect) where
  pub count-Bit : (a : FlatExpr) → x ≡ s.Bit a → count_of (chosen_by S x) ≡ 1
  count-Bit a h = ap (λ (y : FlatSelect). count_of (chosen_by S y)) h ∙ ap (λ (j : JudgedSelect). count_of (meant j.choice)) (judge_select-Bit S a)

  pub count-Part : (left right : ℕ) → x ≡ s.Part left right → count_of (chosen_by S x) ≡ size (record { left = left; right = right })
  count-Part left right h = ap (λ (y : FlatSelect). count_of (chosen_by S y)) h ∙ ap (λ (j : JudgedSelect). count_of (meant j.choice)) (judge_select-Part S left right)

  pub count-Up : (a : FlatExpr) (n : ℕ) → x ≡ s.Up a n → count_of (chosen_by S x) ≡ n
  count-Up a n h = ap (λ (y : FlatSelect). count_of (chosen_by S y)) h ∙ ap (λ (j : JudgedSelect). count_of (meant j.choice)) (judge_select-Up S a n)

  pub count-Down : (a : FlatExpr) (n : ℕ) → x ≡ s.Down a n → count_of (chosen_by S x) ≡ n
  count-Down a n h = ap (λ (y : FlatSelect). count_of (chosen_by S y)) h ∙ ap (λ (j : JudgedSelect). count_of (meant j.choice)) (judge_select-Down S a n)

  pub lowest-Bit : (a : FlatExpr) (v : Valuation) → x ≡ s.Bit a → number_of (meaning S a) v ≡ lowest (chosen_by S x) v
  lowest-Bit a v h = sym (ap (λ (y : FlatSelect). lowest (chosen_by S y) v) h ∙ ap (λ (j : JudgedSelect). lowest (meant j.choice) v) (judge_select-Bit S a))

  pub lowest-Part : (left right : ℕ) (v : Valuation) → x ≡ s.Part left right → pos (min left right) ≡ lowest (chosen_by S x) v
  lowest-Part left right v h = sym (ap (λ (y : FlatSelect). lowest (chosen_by S y) v) h ∙ ap (λ (j : JudgedSelect). lowest (meant j.choice) v) (judge_select-Part S left right))

  pub lowest-Up : (a : FlatExpr) (n : ℕ) (v : Valuation) → x ≡ s.Up a n → number_of (meaning S a) v ≡ lowest (chosen_by S x) v
  lowest-Up a n v h = sym (ap (λ (y : FlatSelect). lowest (chosen_by S y) v) h ∙ ap (λ (j : JudgedSelect). lowest (meant j.choice) v) (judge_select-Up S a n))

  pub lowest-Down : (a : FlatExpr) (n : ℕ) (v : Valuation) → x ≡ s.Down a n → (number_of (meaning S a) v -ℤ pos (n - 1)) ≡ lowest (chosen_by S x) v
  lowest-Down a n v h = sym (ap (λ (y : FlatSelect). lowest (chosen_by S y) v) h ∙ ap (λ (j : JudgedSelect). lowest (meant j.choice) v) (judge_select-Down S a n))

  pub good-Bit : (a : FlatExpr) → x ≡ s.Bit a → is_good_select S x ≡ true → is_good S a ≡ true
  good-Bit a h g = sym (ap (is_good_select S) h ∙ ap (λ (j : JudgedSelect). j.good) (judge_select-Bit S a)) ∙ g

  pub good-Up : (a : FlatExpr) (n : ℕ) → x ≡ s.Up a n → is_good_select S x ≡ true → is_good S a ≡ true
  good-Up a n h g = sym (ap (is_good_select S) h ∙ ap (λ (j : JudgedSelect). j.good) (judge_select-Up S a n)) ∙ g

  pub good-Down : (a : FlatExpr) (n : ℕ) → x ≡ s.Down a n → is_good_select S x ≡ true → is_good S a ≡ true
  good-Down a n h g = sym (ap (is_good_select S) h ∙ ap (λ (j : JudgedSelect). j.good) (judge_select-Down S a n)) ∙ g

  pub constant-Bit : (a : FlatExpr) → x ≡ s.Bit a → is_constant_select S x ≡ true → (reading S a).constant ≡ true
  constant-Bit a h g = and-left (reading S a).constant true (sym (ap (is_constant_select S) h ∙ ap (λ (j : JudgedSelect). list_all (λ (r : Reading). r.constant) (parts_of j.choice)) (judge_select-Bit S a)) ∙ g)

  pub constant-Up : (a : FlatExpr) (n : ℕ) → x ≡ s.Up a n → is_constant_select S x ≡ true → (reading S a).constant ≡ true
  constant-Up a n h g = and-left (reading S a).constant (true && true) (sym (ap (is_constant_select S) h ∙ ap (λ (j : JudgedSelect). list_all (λ (r : Reading). r.constant) (parts_of j.choice)) (judge_select-Up S a n)) ∙ g)

  pub constant-Down : (a : FlatExpr) (n : ℕ) → x ≡ s.Down a n → is_constant_select S x ≡ true → (reading S a).constant ≡ true
  constant-Down a n h g = and-left (reading S a).constant (true && true) (sym (ap (is_constant_select S) h ∙ ap (λ (j : JudgedSelect). list_all (λ (r : Reading). r.constant) (parts_of j.choice)) (judge_select-Down S a n)) ∙ g)

pub minus-none : (z : ℤ) → (z -ℤ pos 0) ≡ z
minus-none z = omega (arith, ints)

-- ---- a name at a width

closed : (T : Bool) (W m n x y : ℕ) → m ≡ n → x ≡ y → extended T m W x ≡ extended T n W y
closed T W m n x y h i = ap (λ k. extended T k W x) h ∙ ap (extended T n W) i

pub const-close : (S : Signals) (c : Const) (ss z : List FlatSelect) (W : ℕ) (T : Bool) (v : Valuation) → z ≡ ss → c.word.value < 2 ^ width_of (constant_of [] c) →
    extended T (name_width S (width_of (constant_of [] c)) z) W (bits_read (constant_of [] c).bounds (map (chosen_by S) z) c.word.value v) ≡ (named (constant_of [] c) (taken_by S ss)).meaning.value W T v
const-close S c ss z W T v e lt =
    let d : Declared = constant_of [] c in
    ap (λ (y : List FlatSelect). extended T (name_width S (width_of d) y) W (bits_read d.bounds (map (chosen_by S) y) c.word.value v)) e ∙
    closed T W (name_width S (width_of d) ss) (named d (taken_by S ss)).meaning.width (bits_read d.bounds (map (chosen_by S) ss) c.word.value v) (read (held d.sort v) (place_of d (map meant (taken_by S ss)) v))
    (sym (named-width S d ss)) (sym (constant-value S c ss v lt))

pub signal-close : (S : Signals) (d D : Declared) (ss y z : List FlatSelect) (W : ℕ) (T : Bool) (v : Valuation) → D ≡ d → y ≡ ss → z ≡ ss → is_declared_sort D.sort ≡ true → name_word D (map (chosen_by S) y) v < 2 ^ width_of D →
    extended T (name_width S (width_of d) (bit_selects d.array z)) W (bits_read d.bounds (map (chosen_by S) (bit_selects d.array z)) (name_word D (map (chosen_by S) y) v) v) ≡ (named D (taken_by S ss)).meaning.value W T v
signal-close S d D ss y z W T v e f g h lt =
    let lt2 : name_word D (map (chosen_by S) ss) v < 2 ^ width_of D = subst (λ (u : List FlatSelect). name_word D (map (chosen_by S) u) v < 2 ^ width_of D) f lt in
    ap (λ (x : Declared). extended T (name_width S (width_of x) (bit_selects x.array z)) W (bits_read x.bounds (map (chosen_by S) (bit_selects x.array z)) (name_word D (map (chosen_by S) y) v) v)) (sym e) ∙
    (ap (λ (u : List FlatSelect). extended T (name_width S (width_of D) (bit_selects D.array z)) W (bits_read D.bounds (map (chosen_by S) (bit_selects D.array z)) (name_word D (map (chosen_by S) u) v) v)) f ∙
    (ap (λ (u : List FlatSelect). extended T (name_width S (width_of D) (bit_selects D.array u)) W (bits_read D.bounds (map (chosen_by S) (bit_selects D.array u)) (name_word D (map (chosen_by S) ss) v) v)) g ∙
    closed T W (name_width S (width_of D) (bit_selects D.array ss)) (named D (taken_by S ss)).meaning.width (bits_read D.bounds (map (chosen_by S) (bit_selects D.array ss)) (name_word D (map (chosen_by S) ss) v) v)
    (read (held D.sort v) (place_of D (map meant (taken_by S ss)) v)) (sym (named-width S D ss)) (sym (named-value S D ss v h lt2))))

pub never-constant : (k : Sort) → is_declared_sort k ≡ true → is_constant_sort k ≡ true → ⊥
never-constant Input h i = cc
never-constant Net h i = cc
never-constant Variable h i = cc
never-constant Clock h i = cc
never-constant (Constant x) h i = cc
never-constant (Index g) h i = cc
never-constant Other h i = cc
