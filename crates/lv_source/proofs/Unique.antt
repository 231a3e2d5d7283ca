-- A legal source has at most one settled valuation for each state and input.
use Rattle.std.proofs.Common.{◌≡◌, ◌⊎◌, inl, inr, ℕ, zero, suc, ◌+◌, ◌/◌, ◌%◌, ◌^◌, ◌<◌, ◌≤◌, Bool, true, false, ◌&&◌, ◌||◌, ◌==◌, not, List, [], ◌∷◌, ◌++◌, length, refl, sym, ap, ◌∙◌, arith, Some, None}
use Rattle.std.specs.Prelude.{flat_map, filter, cond, slice_get, if◌then◌else◌, bytes_eq}
use Rattle.std.specs.List.{list_any, list_all}
use Rattle.std.proofs.lemmas.Bool.{cases_lt, eqb-true}
use Rattle.std.proofs.lemmas.Nat.Bits.{same_from_bits, bit_at_above}
use Rattle.std.proofs.lemmas.List.{length-append}
use mathlib.Core.Path.{fun_ext}
use Rattle.lv_ast.specs.Names.{Name}
use Rattle.lv_source.specs.Names.{Declared, Valuation, width_of, is_variable_sort, is_input_sort}
use Rattle.lv_source.specs.Places.{Bit, bit_at, has_bit, same_bit, whole, cells}
use Rattle.lv_source.specs.Meaning.{all_constant}
use Rattle.lv_source.specs.Effect.{Piece}
use Rattle.lv_source.specs.Flow.{writes_of}
use Rattle.lv_source.specs.Parts.{Design, Part, At, Body, Assign, Comb, Clocked, parts, signals_of, inputs_of, registers_of, is_clocked, is_comb, drives, reads, driven_by, read_by, after, is_register, is_wired, width_from, width_at}
use Rattle.lv_source.specs.Settled.{IsSettled, SameOn, SameInputs}
use Rattle.lv_source.specs.PartRules as r
use Rattle.lv_source.specs.ScopeRules.{same_sign}
use Rattle.lv_source.specs.Legal.{IsLegal}
use Rattle.lv_source.proofs.Each.{Each, each-join}
use Rattle.lv_source.proofs.Tests.{and-left, and-right, and-both, or-split, or-left, or-right, or-none_right, decide, not-true, not-false, has-head, same_bits}
use Rattle.lv_source.proofs.Faithful.{Same}
use Rattle.lv_source.proofs.Within.{cells_have}
use Rattle.lv_source.proofs.Pieces.{put_settles, target_reads}
use Rattle.lv_source.proofs.Settles.{block_settles}
use Rattle.lv_source.proofs.Provenance.{FaithfulBody, FaithfulPart, parts_faithful}
use Rattle.lv_source.proofs.Chains.{few, distinct-more, Way, way-more, circle}
use Rattle.lv_source.proofs.Facts.{some_same, any_at, at_any, at_below, each_at, all_at, all_bits, all_names, cells_any, whole_any, no_latch, no_read_first, no_nonblocking, no_unfixed, no_wrong_kind, no_undriven, no_mixed}

pub clash : {X : Type 0} (b : Bool) → b ≡ true → b ≡ false → X
clash b h k = absurd (let e : true ≡ false = sym h ∙ k in cc)

-- ---- what a part leaves

-- what it reads and doesn't drive itself
abbrev pub outside : Part → Bit → Bool
outside p b = has_bit (reads p) b && not (is_comb p && has_bit (drives p) b)

all_kept : (ps : List Piece) → list_all (λ q. all_constant q.choices) ps ≡ true → filter (λ q. all_constant q.choices) ps ≡ ps
all_kept [] h = refl
all_kept (p ∷ ps) h =
    ap (λ c. cond c (p ∷ filter (λ q. all_constant q.choices) ps) (filter (λ q. all_constant q.choices) ps)) (and-left (all_constant p.choices) (list_all (λ q. all_constant q.choices) ps) h) ∙
    ap (λ (qs : List Piece). p ∷ qs) (all_kept ps (and-right (all_constant p.choices) (list_all (λ q. all_constant q.choices) ps) h))

pub body_settles : (a : At) (cs : List ℕ) (x : Body) → (let p : Part = record { at = a; clocks = cs; body = x } in
    FaithfulBody x → is_clocked p ≡ false → r.has_latch p ≡ false → r.reads_itself_first p ≡ false → list_any (λ e. is_comb p && not e.at_once) (r.events p) ≡ false → r.is_unfixed p ≡ false →
    (v w : Valuation) → Same (outside p) v w → (b : Bit) → has_bit (drives p) b ≡ true → bit_at (after p v) b ≡ bit_at (after p w) b)
body_settles a cs (Assign ps value) f c l t o u v w same b h =
    put_settles ps value v w f.1 f.0 (λ x k. same x (and-both (has_bit (value.reads ++ target_reads ps) x) true k refl)) b
    (inr (ap (λ (qs : List Piece). has_bit (writes_of qs) b) (all_kept ps (not-false (list_all (λ q. all_constant q.choices) ps) u)) ∙ h))
body_settles a cs (Comb names s) f c l t o u v w same b h = block_settles names s l t o v w same b h
body_settles a cs (Clocked names k s) f c l t o u v w same b h = cc

pub comb_unclocked : (a : At) (cs : List ℕ) (x : Body) → (let p : Part = record { at = a; clocks = cs; body = x } in is_comb p ≡ true → is_clocked p ≡ false)
comb_unclocked a cs (Assign ps value) h = cc
comb_unclocked a cs (Comb names s) h = refl
comb_unclocked a cs (Clocked names c s) h = cc

clocked_block : (a : At) (cs : List ℕ) (x : Body) → (let p : Part = record { at = a; clocks = cs; body = x } in is_clocked p ≡ true → r.is_block p ≡ true)
clocked_block a cs (Assign ps value) h = cc
clocked_block a cs (Comb names s) h = cc
clocked_block a cs (Clocked names c s) h = refl

-- a part of the filtered list is one of the list
pub filtered_any : (q t : Part → Bool) (ps : List Part) → list_any t (filter q ps) ≡ true → list_any (λ p. q p && t p) ps ≡ true
filtered_any q t [] h = cc
filtered_any q t (p ∷ ps) h = elim (q p) as (λ c. list_any t (cond c (p ∷ filter q ps) (filter q ps)) ≡ true → ((c && t p) || list_any (λ p. q p && t p) ps) ≡ true) [
  | true ↦ λ k. elim (or-split (t p) (list_any t (filter q ps)) k) [ inl e ↦ or-left (t p) _ e | inr e ↦ or-right (t p) _ (filtered_any q t ps e) ]
  | false ↦ λ k. filtered_any q t ps k
] h

-- an element with a property, from the list of bits
pub some_bit_with : (q : Bit → Bool) (bs : List Bit) → list_any q bs ≡ true → (b : Bit) × (has_bit bs b ≡ true) × (q b ≡ true)
some_bit_with q [] h = cc
some_bit_with q (c ∷ cs) h = elim (or-split (q c) (list_any q cs) h) [
  | inl e ↦ (c, has-head c cs, e)
  | inr e ↦ (let rest : (b : Bit) × (has_bit cs b ≡ true) × (q b ≡ true) = some_bit_with q cs e in (rest.0, or-right (same_bit rest.0 c) (has_bit cs rest.0) rest.1, rest.2))
]

pub bit_with : (q : Bit → Bool) (bs : List Bit) (b : Bit) → has_bit bs b ≡ true → q b ≡ true → list_any q bs ≡ true
bit_with q [] b h k = cc
bit_with q (c ∷ cs) b h k = elim (or-split (same_bit b c) (has_bit cs b) h) [
  | inl e ↦ or-left (q c) (list_any q cs) (ap q (sym (same_bits b c e)) ∙ k)
  | inr e ↦ or-right (q c) (list_any q cs) (bit_with q cs b e k)
]

pub fed : (d : Design) (k j : ℕ) (p q : Part) → slice_get (parts d) k ≡ Some p → slice_get (parts d) j ≡ Some q → is_clocked p ≡ false → is_clocked q ≡ false → (b : Bit) → outside p b ≡ true → has_bit (drives q) b ≡ true →
    r.feeds (parts d) k j ≡ true
fed d k j p q ek ej cp cq b out dq =
    let read : has_bit (reads p) b ≡ true = and-left (has_bit (reads p) b) (not (is_comb p && has_bit (drives p) b)) out in
    let own : (is_comb p && has_bit (drives p) b) ≡ false = not-true (is_comb p && has_bit (drives p) b) (and-right (has_bit (reads p) b) (not (is_comb p && has_bit (drives p) b)) out) in
    let other : ((k == j) && is_comb p) ≡ false = elim (decide (k == j)) [
      | inr n ↦ ap (λ z. z && is_comb p) n
      | inl e ↦ (
          let same : p ≡ q = some_same p q (sym ek ∙ (ap (slice_get (parts d)) (eqb-true k j e) ∙ ej)) in
          let driven : has_bit (drives p) b ≡ true = ap (λ z. has_bit (drives z) b) same ∙ dq in
          elim (decide (is_comb p)) [
            | inl comb ↦ clash (is_comb p && has_bit (drives p) b) (and-both (is_comb p) (has_bit (drives p) b) comb driven) own
            | inr n ↦ ap (λ z. z && is_comb p) e ∙ n
          ])
    ] in
    let test : r.is_feeding k j p q ≡ true =
    and-both _ _ (and-both _ _ (and-both _ _ (ap not cp) (ap not cq)) (ap not other)) (bit_with (has_bit (drives q)) (reads p) b read dq) in
    ap (λ o. elim o [ None ↦ false | Some p ↦ elim (slice_get (parts d) j) [ None ↦ false | Some q ↦ r.is_feeding k j p q ] ]) ek ∙
    (ap (λ o. elim o [ None ↦ false | Some q ↦ r.is_feeding k j p q ]) ej ∙ test)

module _ (d : Design) (legal : IsLegal d) (v w : Valuation) (sv : IsSettled d v) (sw : IsSettled d w) (sr : SameOn (registers_of d) v w) (si : SameInputs d v w) where
  abbrev ps : List Part
  ps = parts d

  part_settles : (k : ℕ) (p : Part) → slice_get ps k ≡ Some p → is_clocked p ≡ false → Same (outside p) v w → (b : Bit) → has_bit (drives p) b ≡ true → bit_at v b ≡ bit_at w b
  part_settles k p e c same b h =
      let left : (name : Name) → after p v name ≡ v name = all_at (λ p. (name : Name) → after p v name ≡ v name) (λ p. not (is_clocked p)) ps sv.holds k p e (ap not c) in
      let right : (name : Name) → after p w name ≡ w name = all_at (λ p. (name : Name) → after p w name ≡ w name) (λ p. not (is_clocked p)) ps sw.holds k p e (ap not c) in
      let middle : bit_at (after p v) b ≡ bit_at (after p w) b =
      body_settles p.at p.clocks p.body (each_at FaithfulPart ps (parts_faithful d) k p e) c (no_latch d legal k p e) (no_read_first d legal k p e) (no_nonblocking d legal k p e)
      (no_unfixed d legal k p e) v w same b h in
      ap (λ n. n / 2 ^ b.place % 2) (sym (left b.name)) ∙ (middle ∙ ap (λ n. n / 2 ^ b.place % 2) (right b.name))

  -- ---- which bits are settled by what

  -- a name that is no signal, or a signal that has it
  signal_of : (ds : List Declared) (name : Name) → (width_from ds name ≡ 0) ⊎ ((k : ℕ) × (x : Declared) × (slice_get ds k ≡ Some x) × (list_any (bytes_eq name) (cells x) ≡ true) × (width_from ds name ≡ width_of x))
  signal_of [] name = inl refl
  signal_of (x ∷ ds) name = elim (list_any (bytes_eq name) (cells x)) as (λ c. list_any (bytes_eq name) (cells x) ≡ c →
      ((if c then width_of x else width_from ds name) ≡ 0) ⊎ ((k : ℕ) × (y : Declared) × (slice_get (x ∷ ds) k ≡ Some y) × (list_any (bytes_eq name) (cells y) ≡ true) × ((if c then width_of x else width_from ds name) ≡ width_of y))) [
        | true ↦ λ e. inr (0, x, refl, e, refl)
        | false ↦ λ e. elim (signal_of ds name) [ inl h ↦ inl h | inr h ↦ inr (suc h.0, h.1, h.2, h.3, h.4) ]
      ] refl

  past : (b : Bit) → width_at d b.name ≤ b.place → bit_at v b ≡ bit_at w b
  past b h = bit_at_above (v b.name) (width_at d b.name) b.place (sv.fits b.name) h ∙ sym (bit_at_above (w b.name) (width_at d b.name) b.place (sw.fits b.name) h)

  -- a signal that is no input and no register, and a bit of it that a clocked block drives
  not_clocked : (i : ℕ) (x : Declared) → slice_get (signals_of d) i ≡ Some x → is_wired ps x ≡ true → (b : Bit) → has_bit (whole x) b ≡ true →
      (k : ℕ) (p : Part) → slice_get ps k ≡ Some p → has_bit (drives p) b ≡ true → is_clocked p ≡ true → ⊥
  not_clocked i x ex wired b inside k p ep driven clocked =
      let no_input : is_input_sort x.sort ≡ false = not-true (is_input_sort x.sort) (and-left (not (is_input_sort x.sort)) (not (is_register ps x)) wired) in
      let no_register : is_register ps x ≡ false = not-true (is_register ps x) (and-right (not (is_input_sort x.sort)) (not (is_register ps x)) wired) in
      let touched : r.touches (drives p) x ≡ true = bit_with (has_bit (whole x)) (drives p) b driven inside in
      let clocked_is : is_clocked p ≡ true = clocked in
      elim (decide (is_variable_sort x.sort)) [
        | inl variable ↦ (
            let combs : list_any (driven_by (filter is_comb ps)) (whole x) ≡ true =
            elim (decide (list_any (driven_by (filter is_comb ps)) (whole x))) [
              | inl y ↦ y
              | inr n ↦ clash (is_register ps x) (and-both (is_variable_sort x.sort) (not (list_any (driven_by (filter is_comb ps)) (whole x))) variable (ap not n)) no_register
            ] in
            let c : (b : Bit) × (has_bit (whole x) b ≡ true) × (driven_by (filter is_comb ps) b ≡ true) = some_bit_with (driven_by (filter is_comb ps)) (whole x) combs in
            let q : (j : ℕ) × (q : Part) × (slice_get ps j ≡ Some q) × ((is_comb q && has_bit (drives q) c.0) ≡ true) =
            any_at (λ q. is_comb q && has_bit (drives q) c.0) ps (filtered_any is_comb (λ q. has_bit (drives q) c.0) ps c.2) in
            let comb : is_comb q.1 ≡ true = and-left (is_comb q.1) (has_bit (drives q.1) c.0) q.3 in
            let touches : r.touches (drives q.1) x ≡ true = bit_with (has_bit (whole x)) (drives q.1) c.0 (and-right (is_comb q.1) (has_bit (drives q.1) c.0) q.3) c.1 in
            let unlike : not (same_sign (is_clocked p) (is_clocked q.1)) ≡ true =
            ap (λ z. not (same_sign z (is_clocked q.1))) clocked ∙ ap (λ z. not (same_sign true z)) (comb_unclocked q.1.at q.1.clocks q.1.body comb) in
            let other : list_any (λ q. r.touches (drives q) x && not (same_sign (is_clocked p) (is_clocked q))) ps ≡ true =
            at_any (λ q. r.touches (drives q) x && not (same_sign (is_clocked p) (is_clocked q))) ps q.0 q.1 q.2 (and-both _ _ touches unlike) in
            let mixed : r.is_mixed ps p x ≡ true = and-both _ _ (and-both (is_variable_sort x.sort) (r.touches (drives p) x) variable touched) other in
            clash (list_any (r.is_mixed ps p) (signals_of d)) (at_any (r.is_mixed ps p) (signals_of d) i x ex mixed) (no_mixed d legal k p ep))
        | inr net ↦ (
            let block : r.is_block p ≡ true = clocked_block p.at p.clocks p.body clocked in
            let unlike : not (same_sign (r.is_block p) (is_variable_sort x.sort)) ≡ true =
            ap (λ z. not (same_sign z (is_variable_sort x.sort))) block ∙ ap (λ z. not (same_sign true z)) net in
            let wrong : list_any (λ x. r.touches (drives p) x && not (same_sign (r.is_block p) (is_variable_sort x.sort)) && not (is_input_sort x.sort)) (signals_of d) ≡ true =
            at_any (λ x. r.touches (drives p) x && not (same_sign (r.is_block p) (is_variable_sort x.sort)) && not (is_input_sort x.sort)) (signals_of d) i x ex
            (and-both _ _ (and-both _ _ touched unlike) (ap not no_input)) in
            clash _ wrong (or-none_right _ _ (no_wrong_kind d legal k p ep)))
      ]

  -- each bit, where those that parts without a clock drive are settled
  bit_settles : (b : Bit) → ((k : ℕ) (p : Part) → slice_get ps k ≡ Some p → is_clocked p ≡ false → has_bit (drives p) b ≡ true → bit_at v b ≡ bit_at w b) → bit_at v b ≡ bit_at w b
  bit_settles b driven = elim (signal_of (signals_of d) b.name) [
    | inl none ↦ past b (omega arith)
    | inr s ↦ (
        let x : Declared = s.1 in
        elim (cases_lt b.place (width_of x)) [
          | inr above ↦ past b (let e : width_at d b.name ≡ width_of x = s.4 in omega arith)
          | inl below ↦ (
              let inside : has_bit (whole x) b ≡ true = cells_have (width_of x) b.place (cells x) b.name s.3 below in
              elim (decide (is_input_sort x.sort)) [
                | inl input ↦ ap (λ n. n / 2 ^ b.place % 2) (all_names (λ n. v n ≡ w n) (inputs_of d) si b.name (cells_any (λ x. is_input_sort x.sort) (signals_of d) s.0 x b.name s.2 input s.3))
                | inr no_input ↦ elim (decide (is_register ps x)) [
                  | inl register ↦ ap (λ n. n / 2 ^ b.place % 2) (all_names (λ n. v n ≡ w n) (registers_of d) sr b.name (cells_any (is_register ps) (signals_of d) s.0 x b.name s.2 register s.3))
                  | inr no_register ↦ (
                      let wired : is_wired ps x ≡ true = and-both (not (is_input_sort x.sort)) (not (is_register ps x)) (ap not no_input) (ap not no_register) in
                      elim (decide (driven_by ps b)) [
                        | inl by_some ↦ (
                            let p : (k : ℕ) × (p : Part) × (slice_get ps k ≡ Some p) × (has_bit (drives p) b ≡ true) = any_at (λ p. has_bit (drives p) b) ps by_some in
                            elim (decide (is_clocked p.1)) [
                              | inl clocked ↦ absurd (not_clocked s.0 x s.2 wired b inside p.0 p.1 p.2 p.3 clocked)
                              | inr unclocked ↦ driven p.0 p.1 p.2 unclocked p.3
                            ])
                        | inr by_none ↦ elim (decide (read_by ps b)) [
                          | inl read ↦ (
                              let p : (k : ℕ) × (p : Part) × (slice_get ps k ≡ Some p) × (has_bit (reads p) b ≡ true) = any_at (λ p. has_bit (reads p) b) ps read in
                              let bad : list_any (λ b. has_bit (whole x) b && not (driven_by ps b)) (reads p.1) ≡ true =
                              bit_with (λ b. has_bit (whole x) b && not (driven_by ps b)) (reads p.1) b p.3 (and-both (has_bit (whole x) b) (not (driven_by ps b)) inside (ap not by_none)) in
                              clash (r.is_undriven d ps p.1) (at_any (λ x. is_wired ps x && list_any (λ b. has_bit (whole x) b && not (driven_by ps b)) (reads p.1)) (signals_of d) s.0 x s.2 (and-both _ _ wired bad))
                              (no_undriven d legal p.0 p.1 p.2))
                          | inr unread ↦ (
                              let among : has_bit (flat_map whole (filter (is_wired ps) (signals_of d))) b ≡ true = whole_any (is_wired ps) (signals_of d) s.0 x b s.2 wired inside in
                              let test : (not (driven_by ps b) && not (read_by ps b)) ≡ true = and-both (not (driven_by ps b)) (not (read_by ps b)) (ap not by_none) (ap not unread) in
                              let left : bit_at v b ≡ 0 = all_bits (λ b. bit_at v b ≡ 0) (λ b. not (driven_by ps b) && not (read_by ps b)) (flat_map whole (filter (is_wired ps) (signals_of d))) sv.idle b among test in
                              let right : bit_at w b ≡ 0 = all_bits (λ b. bit_at w b ≡ 0) (λ b. not (driven_by ps b) && not (read_by ps b)) (flat_map whole (filter (is_wired ps) (signals_of d))) sw.idle b among test in
                              left ∙ sym right)
                        ]
                      ])
                ]
              ])
        ])
  ]

  -- ---- from part to part

  settle : (fuel : ℕ) (xs : List ℕ) (k : ℕ) (p : Part) → slice_get ps k ≡ Some p → is_clocked p ≡ false → Way ps xs k → r.are_distinct xs ≡ true → Each (λ i. i < length ps) xs →
      length ps < fuel + length xs → (b : Bit) → has_bit (drives p) b ≡ true → bit_at v b ≡ bit_at w b
  settle zero xs k p e c way distinct below room b h = absurd (let most : length xs ≤ length ps = few (length ps) xs distinct below in omega arith)
  settle (suc fuel) xs k p e c way distinct below room b h =
      part_settles k p e c (λ x out. bit_settles x (λ j q ej cq dq.
      (let feed : r.feeds ps k j ≡ true = fed d k j p q e ej c cq x out dq in
      elim (decide (list_any (λ i. i == j) xs)) [
        | inl seen ↦ (let ring : (ks : List ℕ) × (r.is_cycle ps ks ≡ true) = circle ps xs k j way distinct feed seen in absurd (legal.no_cycle ring.0 ring.1))
        | inr unseen ↦ settle fuel (xs ++ j ∷ []) j q ej cq (way-more ps xs k j way feed) (distinct-more xs j distinct unseen)
            (each-join (λ i. i < length ps) xs (j ∷ []) below (at_below ps j q ej, tt))
            (let len : length (xs ++ j ∷ []) ≡ length xs + 1 = length-append xs (j ∷ []) in omega arith) x dq
      ]))) b h

  same_value : (name : Name) → v name ≡ w name
  same_value name = same_from_bits (v name) (w name) (λ i. bit_settles (record { name = name; place = i }) (λ k p e c h.
      settle (length ps) (k ∷ []) k p e c refl refl (at_below ps k p e, tt) (omega arith) (record { name = name; place = i }) h))

-- two settled valuations with the same registers and inputs are the same
pub unique : (d : Design) → IsLegal d → (v w : Valuation) → IsSettled d v → IsSettled d w → SameOn (registers_of d) v w → SameInputs d v w → v ≡ w
unique d legal v w sv sw sr si = fun_ext (same_value d legal v w sv sw sr si)
