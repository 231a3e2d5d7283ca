-- A legal source, whose signals have names apart, has a settled valuation for each state and input.
use Rattle.std.proofs.Common.{◌≡◌, ◌⊎◌, inl, inr, ℕ, zero, suc, ◌+◌, ◌/◌, ◌%◌, ◌^◌, ◌<◌, ◌≤◌, Bool, true, false, ◌&&◌, ◌||◌, ◌==◌, not, List, [], ◌∷◌, ◌++◌, length, map, refl, sym, ap, ◌∙◌, arith, Option, Some, None}
use Rattle.std.specs.Prelude.{flat_map, filter, cond, slice_get, if◌then◌else◌, bytes_eq, All, find}
use Rattle.std.specs.List.{list_any}
use Rattle.std.proofs.lemmas.Bool.{cases_lt, eqb-true, eq-eqb}
use Rattle.std.proofs.lemmas.Nat.{pow_pos}
use Rattle.std.proofs.lemmas.Nat.Bits.{same_from_bits, bit_at_above, bit_at-lt, bit_at-zero}
use Rattle.std.proofs.lemmas.List.{length-append}
use Rattle.std.proofs.lemmas.List.Elements.{All-nil, All-cons}
use Rattle.std.specs.List.{range_with_len}
use Rattle.lv_source.specs.ScopeRules.{same_sign}
use Rattle.lv_source.specs.Names.{Sort, Input, Net, Variable, Clock, Constant, Index, Other}
use Rattle.lv_source.specs.Places.{bits_below}
use Rattle.lv_ast.specs.Names.{Name}
use Rattle.lv_source.specs.Names.{Declared, Valuation, width_of, is_variable_sort, is_input_sort}
use Rattle.lv_source.specs.Places.{Bit, bit_at, has_bit, same_bit, whole, cells}
use Rattle.lv_source.specs.Parts.{Design, Part, At, Body, Assign, Comb, Clocked, parts, signals_of, inputs_of, registers_of, is_clocked, is_comb, drives, driven_by, read_by, after, is_register, is_wired, width_from, width_at}
use Rattle.lv_source.specs.Settled.{IsSettled, SameOn, SameInputs, HasApartSignals}
use Rattle.lv_source.specs.PartRules as r
use Rattle.lv_source.specs.Legal.{IsLegal}
use Rattle.lv_source.proofs.Each.{Each, each-join}
use Rattle.lv_source.proofs.Tests.{and-left, and-right, and-both, or-left, or-right, any-split, has-head, name-itself, same_name, or-split, or-none_left, or-none_right, decide, not-true}
use Rattle.lv_source.proofs.Faithful.{Same}
use Rattle.lv_source.proofs.Within.{cells_have}
use Rattle.lv_source.proofs.Settles.{none_has}
use Rattle.lv_source.proofs.Provenance.{FaithfulBody, FaithfulPart, parts_faithful}
use Rattle.lv_source.proofs.Chains.{few, distinct-more, Way, way-more, circle}
use Rattle.lv_source.proofs.Frame.{put_kept, block_kept}
use Rattle.lv_source.proofs.Numbers.{number_of_bits, number_lt, number_bit}
use Rattle.lv_source.proofs.Facts.{some_same, at_any, at_below, each_at, no_latch, no_read_first, no_nonblocking, no_unfixed, no_wrong_kind, no_two, other_any}
use Rattle.lv_source.proofs.Unique.{clash, body_settles, bit_with, outside, fed}

-- ---- what a part leaves alone

body_kept : (a : At) (cs : List ℕ) (x : Body) → (let p : Part = record { at = a; clocks = cs; body = x } in
    FaithfulBody x → is_clocked p ≡ false → list_any (λ e. is_comb p && not e.at_once) (r.events p) ≡ false → (v : Valuation) (b : Bit) → has_bit (drives p) b ≡ false → bit_at (after p v) b ≡ bit_at v b)
body_kept a cs (Assign ps value) f c o v b h = put_kept ps value v f.0 b h
body_kept a cs (Comb names s) f c o v b h = block_kept names s o v b h
body_kept a cs (Clocked names k s) f c o v b h = cc

-- ---- the driver of a bit

found_at : (q : Part → Bool) (ps : List Part) (p : Part) → find q ps ≡ Some p → (k : ℕ) × (slice_get ps k ≡ Some p) × (q p ≡ true)
found_at q [] p h = cc
found_at q (x ∷ xs) p h = elim (q x) as (λ c. q x ≡ c → cond c (Some x) (find q xs) ≡ Some p → (k : ℕ) × (slice_get (x ∷ xs) k ≡ Some p) × (q p ≡ true)) [
  | true ↦ λ e i. (0, i, ap q (sym (some_same x p i)) ∙ e)
  | false ↦ λ e i. (let rest : (k : ℕ) × (slice_get xs k ≡ Some p) × (q p ≡ true) = found_at q xs p i in (suc rest.0, rest.1, rest.2))
] refl h

found_some : (q : Part → Bool) (ps : List Part) → (find q ps ≡ None) ⊎ ((p : Part) × (find q ps ≡ Some p))
found_some q ps = elim (find q ps) as (λ o. (o ≡ None) ⊎ ((p : Part) × (o ≡ Some p))) [ None ↦ inl refl | Some p ↦ inr (p, refl) ]

found_none : (q : Part → Bool) (ps : List Part) → find q ps ≡ None → list_any q ps ≡ false
found_none q [] h = refl
found_none q (x ∷ xs) h = elim (q x) as (λ c. cond c (Some x) (find q xs) ≡ None → (c || list_any q xs) ≡ false) [ true ↦ λ i. cc | false ↦ λ i. found_none q xs i ] h

-- the bit of what a part leaves, or of v where there is none
left_bit : Valuation → Bit → Option Part → ℕ
left_bit v b None = bit_at v b
left_bit v b (Some p) = bit_at (after p v) b

unclocked_assign : (a : At) (cs : List ℕ) (x : Body) → (let p : Part = record { at = a; clocks = cs; body = x } in is_clocked p ≡ false → is_comb p ≡ false → r.is_block p ≡ false)
unclocked_assign a cs (Assign ps value) h k = refl
unclocked_assign a cs (Comb names s) h k = cc
unclocked_assign a cs (Clocked names c s) h k = cc

variable_no_input : (s : Sort) → is_variable_sort s ≡ true → is_input_sort s ≡ false
variable_no_input Input h = cc
variable_no_input Net h = refl
variable_no_input Variable h = refl
variable_no_input Clock h = refl
variable_no_input (Constant x) h = refl
variable_no_input (Index g) h = refl
variable_no_input Other h = refl

any_filtered : (q t : Part → Bool) (ps : List Part) (k : ℕ) (p : Part) → slice_get ps k ≡ Some p → q p ≡ true → t p ≡ true → list_any t (filter q ps) ≡ true
any_filtered q t [] k p e h i = cc
any_filtered q t (x ∷ xs) zero p e h i =
    let same : x ≡ p = some_same x p e in
    ap (λ c. list_any t (cond c (x ∷ filter q xs) (filter q xs))) (ap q same ∙ h) ∙ or-left (t x) (list_any t (filter q xs)) (ap t same ∙ i)
any_filtered q t (x ∷ xs) (suc k) p e h i = elim (q x) as (λ c. list_any t (cond c (x ∷ filter q xs) (filter q xs)) ≡ true) [
  | true ↦ or-right (t x) (list_any t (filter q xs)) (any_filtered q t xs k p e h i)
  | false ↦ any_filtered q t xs k p e h i
]

-- the signals that have one of the names
cell_of : (q : Declared → Bool) (ds : List Declared) (n : Name) → list_any (bytes_eq n) (flat_map cells (filter q ds)) ≡ true →
    (i : ℕ) × (x : Declared) × (slice_get ds i ≡ Some x) × (q x ≡ true) × (list_any (bytes_eq n) (cells x) ≡ true)
cell_of q [] n h = cc
cell_of q (x ∷ xs) n h = elim (q x) as (λ c. q x ≡ c → list_any (bytes_eq n) (flat_map cells (cond c (x ∷ filter q xs) (filter q xs))) ≡ true →
    (i : ℕ) × (y : Declared) × (slice_get (x ∷ xs) i ≡ Some y) × (q y ≡ true) × (list_any (bytes_eq n) (cells y) ≡ true)) [
      | true ↦ λ e k. elim (any-split (bytes_eq n) (cells x) (flat_map cells (filter q xs)) k) [
        | inl m ↦ (0, x, refl, e, m)
        | inr m ↦ (let rest : (i : ℕ) × (y : Declared) × (slice_get xs i ≡ Some y) × (q y ≡ true) × (list_any (bytes_eq n) (cells y) ≡ true) = cell_of q xs n m in (suc rest.0, rest.1, rest.2, rest.3, rest.4))
      ]
      | false ↦ λ e k. (let rest : (i : ℕ) × (y : Declared) × (slice_get xs i ≡ Some y) × (q y ≡ true) × (list_any (bytes_eq n) (cells y) ≡ true) = cell_of q xs n k in (suc rest.0, rest.1, rest.2, rest.3, rest.4))
    ] refl h

-- a signal that has a name has the width of the name, where names are apart
signal_width : (ds : List Declared) (name : Name) → (x : Declared) → ((i : ℕ) (y : Declared) → slice_get ds i ≡ Some y → list_any (bytes_eq name) (cells y) ≡ true → y ≡ x) →
    list_any (λ y. list_any (bytes_eq name) (cells y)) ds ≡ true → width_from ds name ≡ width_of x
signal_width [] name x f h = cc
signal_width (y ∷ ds) name x f h = elim (list_any (bytes_eq name) (cells y)) as (λ c. list_any (bytes_eq name) (cells y) ≡ c →
    (c || list_any (λ y. list_any (bytes_eq name) (cells y)) ds) ≡ true → (if c then width_of y else width_from ds name) ≡ width_of x) [
      | true ↦ λ e k. ap width_of (f 0 y refl e)
      | false ↦ λ e k. signal_width ds name x (λ i z g c. f (suc i) z g c) k
    ] refl h

all_by : (P : Name → Type 0) (ns : List Name) → ((n : Name) → list_any (bytes_eq n) ns ≡ true → P n) → All P ns
all_by P [] f = All-nil P
all_by P (n ∷ ns) f = All-cons P n ns (f n (or-left (bytes_eq n n) (list_any (bytes_eq n) ns) (name-itself n))) (all_by P ns (λ m h. f m (or-right (bytes_eq m n) (list_any (bytes_eq m) ns) h)))

all_bits_by : (P : Bit → Type 0) (q : Bit → Bool) (bs : List Bit) → ((b : Bit) → has_bit bs b ≡ true → q b ≡ true → P b) → All P (filter q bs)
all_bits_by P q [] f = All-nil P
all_bits_by P q (b ∷ bs) f = elim (q b) as (λ c. q b ≡ c → All P (cond c (b ∷ filter q bs) (filter q bs))) [
  | true ↦ λ e. All-cons P b (filter q bs) (f b (has-head b bs) e) (all_bits_by P q bs (λ x h k. f x (or-right (same_bit x b) (has_bit bs x) h) k))
  | false ↦ λ e. all_bits_by P q bs (λ x h k. f x (or-right (same_bit x b) (has_bit bs x) h) k)
] refl

all_parts_by : (P : Part → Type 0) (q : Part → Bool) (ps : List Part) → ((k : ℕ) (p : Part) → slice_get ps k ≡ Some p → q p ≡ true → P p) → All P (filter q ps)
all_parts_by P q [] f = All-nil P
all_parts_by P q (p ∷ ps) f = elim (q p) as (λ c. q p ≡ c → All P (cond c (p ∷ filter q ps) (filter q ps))) [
  | true ↦ λ e. All-cons P p (filter q ps) (f 0 p refl e) (all_parts_by P q ps (λ k x g h. f (suc k) x g h))
  | false ↦ λ e. all_parts_by P q ps (λ k x g h. f (suc k) x g h)
] refl

whole_of : (q : Declared → Bool) (ds : List Declared) (b : Bit) → has_bit (flat_map whole (filter q ds)) b ≡ true → (i : ℕ) × (x : Declared) × (slice_get ds i ≡ Some x) × (q x ≡ true) × (has_bit (whole x) b ≡ true)
whole_of q [] b h = cc
whole_of q (x ∷ xs) b h = elim (q x) as (λ c. q x ≡ c → has_bit (flat_map whole (cond c (x ∷ filter q xs) (filter q xs))) b ≡ true →
    (i : ℕ) × (y : Declared) × (slice_get (x ∷ xs) i ≡ Some y) × (q y ≡ true) × (has_bit (whole y) b ≡ true)) [
      | true ↦ λ e k. elim (any-split (same_bit b) (whole x) (flat_map whole (filter q xs)) k) [
        | inl m ↦ (0, x, refl, e, m)
        | inr m ↦ (let rest : (i : ℕ) × (y : Declared) × (slice_get xs i ≡ Some y) × (q y ≡ true) × (has_bit (whole y) b ≡ true) = whole_of q xs b m in (suc rest.0, rest.1, rest.2, rest.3, rest.4))
      ]
      | false ↦ λ e k. (let rest : (i : ℕ) × (y : Declared) × (slice_get xs i ≡ Some y) × (q y ≡ true) × (has_bit (whole y) b ≡ true) = whole_of q xs b k in (suc rest.0, rest.1, rest.2, rest.3, rest.4))
    ] refl h

below_named : (ks : List ℕ) (n : Name) (b : Bit) → has_bit (map (λ k. record { name = n; place = k }) ks) b ≡ true → b.name ≡ n
below_named [] n b h = cc
below_named (k ∷ ks) n b h =
    let c : Bit = record { name = n; place = k } in
    elim (or-split (same_bit b c) (has_bit (map (λ k. record { name = n; place = k }) ks) b) h) [
      | inl e ↦ same_name b.name n (and-right (b.place == k) (bytes_eq b.name n) e)
      | inr e ↦ below_named ks n b e
    ]

cells_named : (width : ℕ) (names : List Name) (b : Bit) → has_bit (flat_map (bits_below width) names) b ≡ true → list_any (bytes_eq b.name) names ≡ true
cells_named width [] b h = cc
cells_named width (n ∷ ns) b h = elim (any-split (same_bit b) (bits_below width n) (flat_map (bits_below width) ns) h) [
  | inl m ↦ or-left (bytes_eq b.name n) (list_any (bytes_eq b.name) ns) (ap (λ x. bytes_eq x n) (below_named (range_with_len 0 width) n b m) ∙ name-itself n)
  | inr m ↦ or-right (bytes_eq b.name n) (list_any (bytes_eq b.name) ns) (cells_named width ns b m)
]

module _ (d : Design) (legal : IsLegal d) (apart : HasApartSignals d) (s : Valuation) (fits : (name : Name) → s name < 2 ^ width_at d name) where
  abbrev ps : List Part
  ps = parts d

  abbrev driving : Bit → Part → Bool
  driving b p = not (is_clocked p) && has_bit (drives p) b

  -- the bit that its driver leaves
  next_bit : Valuation → Bit → ℕ
  next_bit v b = left_bit v b (find (driving b) ps)

  -- all parts at once
  step : Valuation → Valuation
  step v name = number_of_bits (λ i. next_bit v (record { name = name; place = i })) (width_at d name)

  abbrev given : Name → Bool
  given name = list_any (bytes_eq name) (registers_of d) || list_any (bytes_eq name) (inputs_of d)

  start : Valuation
  start name = if given name then s name else 0

  rounds : ℕ → Valuation
  rounds zero = start
  rounds (suc n) = step (rounds n)

  left_lt : (v : Valuation) (b : Bit) (o : Option Part) → left_bit v b o < 2
  unfolding left_bit
  left_lt v b None = bit_at-lt (v b.name) b.place
  left_lt v b (Some p) = bit_at-lt (after p v b.name) b.place

  next_lt : (v : Valuation) (b : Bit) → next_bit v b < 2
  unfolding next_bit
  next_lt v b = left_lt v b (find (driving b) ps)

  step_lt : (v : Valuation) (name : Name) → step v name < 2 ^ width_at d name
  unfolding step
  step_lt v name = number_lt (λ i. next_bit v (record { name = name; place = i })) (λ i. next_lt v (record { name = name; place = i })) (width_at d name)

  start_lt : (name : Name) → start name < 2 ^ width_at d name
  unfolding start
  start_lt name = elim (given name) as (λ c. (if c then s name else 0) < 2 ^ width_at d name) [ true ↦ fits name | false ↦ pow_pos (width_at d name) ]

  rounds_lt : (n : ℕ) (name : Name) → rounds n name < 2 ^ width_at d name
  unfolding rounds
  rounds_lt zero name = start_lt name
  rounds_lt (suc n) name = step_lt (rounds n) name

  step_bit : (v : Valuation) (b : Bit) → b.place < width_at d b.name → bit_at (step v) b ≡ next_bit v b
  unfolding step
  step_bit v b h = number_bit (λ i. next_bit v (record { name = b.name; place = i })) (λ i. next_lt v (record { name = b.name; place = i })) (width_at d b.name) b.place h

  above : (v w : Valuation) → ((name : Name) → v name < 2 ^ width_at d name) → ((name : Name) → w name < 2 ^ width_at d name) → (b : Bit) → width_at d b.name ≤ b.place → bit_at v b ≡ bit_at w b
  above v w h k b p = bit_at_above (v b.name) (width_at d b.name) b.place (h b.name) p ∙ sym (bit_at_above (w b.name) (width_at d b.name) b.place (k b.name) p)

  next_none : (v : Valuation) (b : Bit) → find (driving b) ps ≡ None → next_bit v b ≡ bit_at v b
  unfolding next_bit left_bit
  next_none v b h = ap (left_bit v b) h

  -- what no part without a clock drives stays
  undriven_kept : (n : ℕ) (b : Bit) → find (driving b) ps ≡ None → bit_at (rounds n) b ≡ bit_at start b
  unfolding rounds
  undriven_kept zero b h = refl
  undriven_kept (suc n) b h = elim (cases_lt b.place (width_at d b.name)) [
    | inl below ↦ step_bit (rounds n) b below ∙ (next_none (rounds n) b h ∙ undriven_kept n b h)
    | inr over ↦ above (step (rounds n)) start (step_lt (rounds n)) start_lt b over
  ]

  -- the one part that drives a bit
  next_some : (v : Valuation) (k : ℕ) (p : Part) (b : Bit) → slice_get ps k ≡ Some p → is_clocked p ≡ false → has_bit (drives p) b ≡ true → next_bit v b ≡ bit_at (after p v) b
  unfolding next_bit left_bit
  next_some v k p b e c h = elim (found_some (driving b) ps) [
    | inl none ↦ (
        let all : list_any (driving b) ps ≡ false = found_none (driving b) ps none in
        let one : list_any (driving b) ps ≡ true = at_any (driving b) ps k p e (and-both (not (is_clocked p)) (has_bit (drives p) b) (ap not c) h) in
        clash (list_any (driving b) ps) one all)
    | inr some ↦ (
        let q : Part = some.0 in
        let at : (j : ℕ) × (slice_get ps j ≡ Some q) × (driving b q ≡ true) = found_at (driving b) ps q some.1 in
        let drives_q : has_bit (drives q) b ≡ true = and-right (not (is_clocked q)) (has_bit (drives q) b) at.2 in
        elim (decide (at.0 == k)) [
          | inl same ↦ (let j : at.0 ≡ k = eqb-true at.0 k same in
              let part : q ≡ p = some_same q p (sym at.1 ∙ (ap (slice_get ps) j ∙ e)) in
              ap (left_bit v b) some.1 ∙ ap (λ (x : Part). bit_at (after x v) b) part)
          | inr other ↦ (
              let apart_at : at.0 ≡ k → ⊥ = λ i. (let t : (at.0 == k) ≡ true = eq-eqb at.0 k i in cc) in
              let taken : driven_by (r.others k ps) b ≡ true = other_any (λ x. has_bit (drives x) b) ps k at.0 q at.1 apart_at drives_q in
              let two : list_any (driven_by (r.others k ps)) (drives p) ≡ true = bit_with (driven_by (r.others k ps)) (drives p) b h taken in
              clash (list_any (driven_by (r.others k ps)) (drives p)) two
              (or-none_left _ _ (or-none_left _ _ (or-none_left _ _ (no_two d legal k p e)))))
        ])
  ]

  -- ---- the rounds come to rest

  rests : (n : ℕ) (xs : List ℕ) (k : ℕ) (p : Part) → slice_get ps k ≡ Some p → is_clocked p ≡ false → Way ps xs k → r.are_distinct xs ≡ true → Each (λ i. i < length ps) xs →
      length ps < n + length xs → (b : Bit) → has_bit (drives p) b ≡ true → bit_at (rounds (suc n)) b ≡ bit_at (rounds n) b
  unfolding rounds
  rests zero xs k p e c way distinct below room b h = absurd (let most : length xs ≤ length ps = few (length ps) xs distinct below in omega arith)
  rests (suc n) xs k p e c way distinct below room b h =
      let inside : b.place < width_at d b.name = apart.within k p b e c h in
      let same : Same (outside p) (rounds (suc n)) (rounds n) = λ x out.
      elim (cases_lt x.place (width_at d x.name)) [
        | inr over ↦ above (rounds (suc n)) (rounds n) (rounds_lt (suc n)) (rounds_lt n) x over
        | inl under ↦ elim (found_some (driving x) ps) [
          | inl none ↦ step_bit (rounds n) x under ∙ next_none (rounds n) x none
          | inr some ↦ (
              let q : Part = some.0 in
              let at : (j : ℕ) × (slice_get ps j ≡ Some q) × (driving x q ≡ true) = found_at (driving x) ps q some.1 in
              let cq : is_clocked q ≡ false = not-true (is_clocked q) (and-left (not (is_clocked q)) (has_bit (drives q) x) at.2) in
              let dq : has_bit (drives q) x ≡ true = and-right (not (is_clocked q)) (has_bit (drives q) x) at.2 in
              let feed : r.feeds ps k at.0 ≡ true = fed d k at.0 p q e at.1 c cq x out dq in
              elim (decide (list_any (λ i. i == at.0) xs)) [
                | inl seen ↦ (let ring : (ks : List ℕ) × (r.is_cycle ps ks ≡ true) = circle ps xs k at.0 way distinct feed seen in absurd (legal.no_cycle ring.0 ring.1))
                | inr unseen ↦ rests n (xs ++ at.0 ∷ []) at.0 q at.1 cq (way-more ps xs k at.0 way feed) (distinct-more xs at.0 distinct unseen)
                    (each-join (λ i. i < length ps) xs (at.0 ∷ []) below (at_below ps at.0 q at.1, tt))
                    (let len : length (xs ++ at.0 ∷ []) ≡ length xs + 1 = length-append xs (at.0 ∷ []) in omega arith) x dq
              ])
        ]
      ] in
      let middle : bit_at (after p (rounds (suc n))) b ≡ bit_at (after p (rounds n)) b =
      body_settles p.at p.clocks p.body (each_at FaithfulPart ps (parts_faithful d) k p e) c (no_latch d legal k p e) (no_read_first d legal k p e) (no_nonblocking d legal k p e)
      (no_unfixed d legal k p e) (rounds (suc n)) (rounds n) same b h in
      (step_bit (rounds (suc n)) b inside ∙ next_some (rounds (suc n)) k p b e c h) ∙ (middle ∙ sym (step_bit (rounds n) b inside ∙ next_some (rounds n) k p b e c h))

  abbrev v : Valuation
  v = rounds (length ps)

  part_holds : (k : ℕ) (p : Part) → slice_get ps k ≡ Some p → is_clocked p ≡ false → (name : Name) → after p v name ≡ v name
  unfolding rounds
  part_holds k p e c name = same_from_bits (after p v name) (v name) (λ i.
      (let b : Bit = record { name = name; place = i } in
      elim (decide (has_bit (drives p) b)) [
        | inl driven ↦ (
            let inside : i < width_at d name = apart.within k p b e c driven in
            let rest : bit_at (step v) b ≡ bit_at v b =
            rests (length ps) (k ∷ []) k p e c refl refl (at_below ps k p e, tt) (omega arith) b driven in
            sym (next_some v k p b e c driven) ∙ (sym (step_bit v b inside) ∙ rest))
        | inr free ↦ body_kept p.at p.clocks p.body (each_at FaithfulPart ps (parts_faithful d) k p e) c (no_nonblocking d legal k p e) v b free
      ]))

  -- ---- what stays of the start

  -- no part without a clock drives a register
  driven_register : (k : ℕ) (q : Part) → slice_get ps k ≡ Some q → is_clocked q ≡ false → (i : ℕ) (x : Declared) (b : Bit) → slice_get (signals_of d) i ≡ Some x → has_bit (whole x) b ≡ true →
      is_register ps x ≡ true → has_bit (drives q) b ≡ true → r.touches (drives q) x ≡ true → ⊥
  driven_register k q ek cq i x b e inside register dq touched =
      let variable : is_variable_sort x.sort ≡ true = and-left (is_variable_sort x.sort) (not (list_any (driven_by (filter is_comb ps)) (whole x))) register in
      let no_comb : list_any (driven_by (filter is_comb ps)) (whole x) ≡ false =
      not-true (list_any (driven_by (filter is_comb ps)) (whole x)) (and-right (is_variable_sort x.sort) (not (list_any (driven_by (filter is_comb ps)) (whole x))) register) in
      elim (decide (is_comb q)) [
        | inl comb ↦ (
            let among : driven_by (filter is_comb ps) b ≡ true = any_filtered is_comb (λ p. has_bit (drives p) b) ps k q ek comb dq in
            clash (driven_by (filter is_comb ps) b) among (none_has (driven_by (filter is_comb ps)) (whole x) b no_comb inside))
        | inr other ↦ (
            let no_block : r.is_block q ≡ false = unclocked_assign q.at q.clocks q.body cq other in
            let unlike : not (same_sign (r.is_block q) (is_variable_sort x.sort)) ≡ true =
            ap (λ z. not (same_sign z (is_variable_sort x.sort))) no_block ∙ ap (λ z. not (same_sign false z)) variable in
            let no_input : is_input_sort x.sort ≡ false = variable_no_input x.sort variable in
            let wrong : list_any (λ x. r.touches (drives q) x && not (same_sign (r.is_block q) (is_variable_sort x.sort)) && not (is_input_sort x.sort)) (signals_of d) ≡ true =
            at_any (λ x. r.touches (drives q) x && not (same_sign (r.is_block q) (is_variable_sort x.sort)) && not (is_input_sort x.sort)) (signals_of d) i x e
            (and-both _ _ (and-both _ _ touched unlike) (ap not no_input)) in
            clash _ wrong (or-none_right _ _ (no_wrong_kind d legal k q ek)))
      ]

  -- nothing without a clock drives a register or an input
  not_driven : (i : ℕ) (x : Declared) (b : Bit) → slice_get (signals_of d) i ≡ Some x → has_bit (whole x) b ≡ true → (is_register ps x ≡ true) ⊎ (is_input_sort x.sort ≡ true) → find (driving b) ps ≡ None
  not_driven i x b e inside w = elim (found_some (driving b) ps) [
    | inl none ↦ none
    | inr some ↦ (
        let q : Part = some.0 in
        let at : (j : ℕ) × (slice_get ps j ≡ Some q) × (driving b q ≡ true) = found_at (driving b) ps q some.1 in
        let cq : is_clocked q ≡ false = not-true (is_clocked q) (and-left (not (is_clocked q)) (has_bit (drives q) b) at.2) in
        let dq : has_bit (drives q) b ≡ true = and-right (not (is_clocked q)) (has_bit (drives q) b) at.2 in
        let touched : r.touches (drives q) x ≡ true = bit_with (has_bit (whole x)) (drives q) b dq inside in
        absurd (elim w [
          | inr input ↦ (
              let two : list_any (λ x. is_input_sort x.sort && r.touches (drives q) x) (signals_of d) ≡ true =
              at_any (λ x. is_input_sort x.sort && r.touches (drives q) x) (signals_of d) i x e (and-both (is_input_sort x.sort) (r.touches (drives q) x) input touched) in
              clash (list_any (λ x. is_input_sort x.sort && r.touches (drives q) x) (signals_of d)) two
              (or-none_right _ _ (or-none_left _ (list_any (r.is_mixed ps q) (signals_of d)) (no_two d legal at.0 q at.1))))
          | inl register ↦ driven_register at.0 q at.1 cq i x b e inside register dq touched
        ]))
  ]

  kept : (b : Bit) → find (driving b) ps ≡ None → bit_at v b ≡ bit_at start b
  kept b h = undriven_kept (length ps) b h

  width_is : (i : ℕ) (x : Declared) (name : Name) → slice_get (signals_of d) i ≡ Some x → list_any (bytes_eq name) (cells x) ≡ true → width_at d name ≡ width_of x
  width_is i x name e c =
      signal_width (signals_of d) name x (λ j y g h. apart.apart j i y x name g e h c) (at_any (λ y. list_any (bytes_eq name) (cells y)) (signals_of d) i x e c)

  start_given : (name : Name) → given name ≡ true → start name ≡ s name
  unfolding start
  start_given name h = ap (λ c. if c then s name else 0) h

  start_other : (name : Name) → given name ≡ false → start name ≡ 0
  unfolding start
  start_other name h = ap (λ c. if c then s name else 0) h

  -- a register or an input has its given value
  given_kept : (i : ℕ) (x : Declared) (name : Name) → slice_get (signals_of d) i ≡ Some x → list_any (bytes_eq name) (cells x) ≡ true → (is_register ps x ≡ true) ⊎ (is_input_sort x.sort ≡ true) → given name ≡ true → v name ≡ s name
  given_kept i x name e c w g = same_from_bits (v name) (s name) (λ j.
      (let b : Bit = record { name = name; place = j } in
      elim (cases_lt j (width_at d name)) [
        | inl below ↦ (
            let inside : has_bit (whole x) b ≡ true = cells_have (width_of x) j (cells x) name c (let z : width_at d name ≡ width_of x = width_is i x name e c in omega arith) in
            kept b (not_driven i x b e inside w) ∙ ap (λ n. n / 2 ^ j % 2) (start_given name g))
        | inr over ↦ bit_at_above (v name) (width_at d name) j (rounds_lt (length ps) name) over ∙ sym (bit_at_above (s name) (width_at d name) j (fits name) over)
      ]))

  registers_kept : SameOn (registers_of d) v s
  registers_kept = all_by (λ n. v n ≡ s n) (registers_of d) (λ n h.
      (let x : (i : ℕ) × (x : Declared) × (slice_get (signals_of d) i ≡ Some x) × (is_register ps x ≡ true) × (list_any (bytes_eq n) (cells x) ≡ true) = cell_of (is_register ps) (signals_of d) n h in
      given_kept x.0 x.1 n x.2 x.4 (inl x.3) (or-left (list_any (bytes_eq n) (registers_of d)) (list_any (bytes_eq n) (inputs_of d)) h)))

  inputs_kept : SameInputs d v s
  inputs_kept = all_by (λ n. v n ≡ s n) (inputs_of d) (λ n h.
      (let x : (i : ℕ) × (x : Declared) × (slice_get (signals_of d) i ≡ Some x) × (is_input_sort x.sort ≡ true) × (list_any (bytes_eq n) (cells x) ≡ true) = cell_of (λ x. is_input_sort x.sort) (signals_of d) n h in
      given_kept x.0 x.1 n x.2 x.4 (inr x.3) (or-right (list_any (bytes_eq n) (registers_of d)) (list_any (bytes_eq n) (inputs_of d)) h)))

  -- a signal that is no register and no input isn't given
  wired_start : (i : ℕ) (x : Declared) (name : Name) → slice_get (signals_of d) i ≡ Some x → is_wired ps x ≡ true → list_any (bytes_eq name) (cells x) ≡ true → given name ≡ false
  wired_start i x name e wired c = elim (decide (given name)) [
    | inr n ↦ n
    | inl g ↦ absurd (elim (or-split (list_any (bytes_eq name) (registers_of d)) (list_any (bytes_eq name) (inputs_of d)) g) [
      | inl m ↦ (let y : (i : ℕ) × (y : Declared) × (slice_get (signals_of d) i ≡ Some y) × (is_register ps y ≡ true) × (list_any (bytes_eq name) (cells y) ≡ true) = cell_of (is_register ps) (signals_of d) name m in
          let same : y.1 ≡ x = apart.apart y.0 i y.1 x name y.2 e y.4 c in
          clash (is_register ps x) (ap (is_register ps) (sym same) ∙ y.3) (not-true (is_register ps x) (and-right (not (is_input_sort x.sort)) (not (is_register ps x)) wired)))
      | inr m ↦ (let y : (i : ℕ) × (y : Declared) × (slice_get (signals_of d) i ≡ Some y) × (is_input_sort y.sort ≡ true) × (list_any (bytes_eq name) (cells y) ≡ true) = cell_of (λ y. is_input_sort y.sort) (signals_of d) name m in
          let same : y.1 ≡ x = apart.apart y.0 i y.1 x name y.2 e y.4 c in
          clash (is_input_sort x.sort) (ap (λ (z : Declared). is_input_sort z.sort) (sym same) ∙ y.3) (not-true (is_input_sort x.sort) (and-left (not (is_input_sort x.sort)) (not (is_register ps x)) wired)))
    ])
  ]

  idle_zero : (b : Bit) → has_bit (flat_map whole (filter (is_wired ps) (signals_of d))) b ≡ true → (not (driven_by ps b) && not (read_by ps b)) ≡ true → bit_at v b ≡ 0
  idle_zero b h t =
      let x : (i : ℕ) × (x : Declared) × (slice_get (signals_of d) i ≡ Some x) × (is_wired ps x ≡ true) × (has_bit (whole x) b ≡ true) = whole_of (is_wired ps) (signals_of d) b h in
      let undriven : driven_by ps b ≡ false = not-true (driven_by ps b) (and-left (not (driven_by ps b)) (not (read_by ps b)) t) in
      let none : find (driving b) ps ≡ None = elim (found_some (driving b) ps) [
        | inl n ↦ n
        | inr some ↦ (
            let at : (j : ℕ) × (slice_get ps j ≡ Some some.0) × (driving b some.0 ≡ true) = found_at (driving b) ps some.0 some.1 in
            clash (driven_by ps b) (at_any (λ p. has_bit (drives p) b) ps at.0 some.0 at.1 (and-right (not (is_clocked some.0)) (has_bit (drives some.0) b) at.2)) undriven)
      ] in
      let name : list_any (bytes_eq b.name) (cells x.1) ≡ true = cells_named (width_of x.1) (cells x.1) b x.4 in
      kept b none ∙ (ap (λ n. n / 2 ^ b.place % 2) (start_other b.name (wired_start x.0 x.1 b.name x.2 x.3 name)) ∙ bit_at-zero b.place)

  settled : IsSettled d v
  settled = record {
    fits = rounds_lt (length ps);
    holds = all_parts_by (λ p. (name : Name) → after p v name ≡ v name) (λ p. not (is_clocked p)) ps (λ k p e c. part_holds k p e (not-true (is_clocked p) c));
    idle = all_bits_by (λ b. bit_at v b ≡ 0) (λ b. not (driven_by ps b) && not (read_by ps b)) (flat_map whole (filter (is_wired ps) (signals_of d))) idle_zero;
  }

  found : (v : Valuation) × IsSettled d v × SameOn (registers_of d) v s × SameInputs d v s
  found = (v, settled, registers_kept, inputs_kept)

-- a settled valuation with the given registers and inputs
pub exists : (d : Design) → IsLegal d → HasApartSignals d → (s : Valuation) → ((name : Name) → s name < 2 ^ width_at d name) →
    (v : Valuation) × IsSettled d v × SameOn (registers_of d) v s × SameInputs d v s
exists d legal apart s fits = found d legal apart s fits
