-- No bit of a block with a clock is written by both `=` and `<=`.
use Rattle.std.proofs.Common.{◌≡◌, inl, inr, ℕ, zero, suc, ◌+◌, ◌<◌, true, false, ◌&&◌, not, List, [], ◌∷◌, map, refl, sym, ap, ◌∙◌, arith, Option, Some, None}
use Rattle.std.specs.Prelude.{filter, flat_map, slice_get, if◌then◌else◌, All}
use Rattle.std.specs.List.{list_any}
use Rattle.std.proofs.lemmas.List.Elements.{All-nil, All-cons}
use Rattle.lv_source.specs.Names.{Declared, Valuation, is_variable_sort, is_input_sort, width_of}
use Rattle.lv_source.specs.Places.{Bit, has_bit, same_bit, whole, cells}
use Rattle.lv_source.specs.Effect.{places}
use Rattle.lv_source.specs.Flow.{Event, event_writes, block_writes}
use Rattle.lv_source.specs.Parts.{width_from}
use Rattle.lv_source.specs.PartRules as r
use Rattle.lv_source.specs.ScopeRules.{same_sign}
use Rattle.lv_source.specs.Views.{View, Seen, Aim, Way, Continuous, Combinational, Edge, aim_of, seen_of, is_edge, is_continuous, seen_places, seen_writes, is_mixed_view, is_shared_view, is_blocking_seen}
use Rattle.lv_source.proofs.Each.{Each}
use Rattle.lv_source.proofs.Tests.{decide, and-left, and-right, and-both, or-left, or-none_left, or-none_right, any-left, any-right}
use Rattle.lv_source.proofs.CaseTrees.{flat-map}
use Rattle.lv_source.proofs.Facts.{some_same, numbered_at, at_any, any_at}
use Rattle.lv_source.proofs.Unique.{clash, bit_with}
use Rattle.lv_source.proofs.Within.{cells_have}
use Rattle.lv_source.proofs.Writes.{all_bits_of}
use Rattle.lv_flat.specs.declared.stmt.FlatStmt.{FlatStmt}
use Rattle.lv_flat.specs.Signals.{Signals}
use Rattle.lv_flat.specs.Flows.{flow}
use Rattle.lv_settles.specs.Lawful.{IsLawful}
use Rattle.lv_settles.specs.Rules.{AreRight}
use Rattle.lv_settles.proofs.Lists.{filtered_none, signal_of}
use Rattle.lv_settles.proofs.Rightness.{no_wrong, no_two}
use Rattle.lv_lower_blocks.specs.Running.{OnceSpares, LaterSpares, IsUnmixed}
use Rattle.lv_overlays.proofs.Events.{Inside}

-- the bits that an event names, as the rules see them
seen_same : (e : Event) → seen_writes (seen_of e) ≡ event_writes e
seen_same e = flat-map (λ (a : Aim). a.bits) aim_of e.targets

-- an event that doesn't name the bit doesn't write it
pub unnamed : (e : Event) (b : Bit) → Inside e → has_bit (event_writes e) b ≡ false → (v : Valuation) → has_bit (all_bits_of (places v e.targets)) b ≡ false
unnamed e b h n v = elim (decide (has_bit (all_bits_of (places v e.targets)) b)) [
  | inr free ↦ free
  | inl own ↦ clash (has_bit (event_writes e) b) (h v b own) n
]

-- no event that is of this kind names the bit
once_spared : (b : Bit) (es : List Event) → Each Inside es → list_any (λ (e : Event). e.at_once && has_bit (event_writes e) b) es ≡ false → All (OnceSpares b) es
once_spared b [] h n = All-nil (OnceSpares b)
once_spared b (e ∷ es) h n =
    All-cons (OnceSpares b) e es
    (λ once v. unnamed e b h.0 (elim (decide (has_bit (event_writes e) b)) [
      | inr free ↦ free
      | inl own ↦ clash _ (and-both e.at_once (has_bit (event_writes e) b) once own) (or-none_left (e.at_once && has_bit (event_writes e) b) _ n)
    ]) v)
    (once_spared b es h.1 (or-none_right (e.at_once && has_bit (event_writes e) b) _ n))

later_spared : (b : Bit) (es : List Event) → Each Inside es → list_any (λ (e : Event). not e.at_once && has_bit (event_writes e) b) es ≡ false → All (LaterSpares b) es
later_spared b [] h n = All-nil (LaterSpares b)
later_spared b (e ∷ es) h n =
    All-cons (LaterSpares b) e es
    (λ later v. unnamed e b h.0 (elim (decide (has_bit (event_writes e) b)) [
      | inr free ↦ free
      | inl own ↦ clash _ (and-both (not e.at_once) (has_bit (event_writes e) b) (ap not later) own) (or-none_left (not e.at_once && has_bit (event_writes e) b) _ n)
    ]) v)
    (later_spared b es h.1 (or-none_right (not e.at_once && has_bit (event_writes e) b) _ n))

-- what an event names, its block names
event_within : (b : Bit) (es : List Event) (k : ℕ) (e : Event) → slice_get es k ≡ Some e → has_bit (event_writes e) b ≡ true → has_bit (flat_map event_writes es) b ≡ true
event_within b [] k e i h = cc
event_within b (x ∷ xs) zero e i h = any-left (same_bit b) (event_writes x) (flat_map event_writes xs) (ap (λ (z : Event). has_bit (event_writes z) b) (some_same x e i) ∙ h)
event_within b (x ∷ xs) (suc k) e i h = any-right (same_bit b) (event_writes x) (flat_map event_writes xs) (event_within b xs k e i h)

seen_at : (es : List Event) (k : ℕ) (e : Event) → slice_get es k ≡ Some e → slice_get (map seen_of es) k ≡ Some (seen_of e)
seen_at [] k e i = cc
seen_at (x ∷ xs) zero e i = ap (λ (o : Option Event). elim o [ None ↦ None | Some z ↦ Some (seen_of z) ]) i
seen_at (x ∷ xs) (suc k) e i = seen_at xs k e i

edge_not_continuous : (w : Way) → is_edge w ≡ true → not (is_continuous w) ≡ true
edge_not_continuous Continuous h = cc
edge_not_continuous Combinational h = cc
edge_not_continuous (Edge s p) h = refl

record Signal (ds : List Declared) (b : Bit) : Type 0 where
  at : ℕ
  signal : Declared
  there : slice_get ds at ≡ Some signal
  has : has_bit (whole signal) b ≡ true

module _ (ds : List Declared) (vs : List View) (right : AreRight ds vs) (k : ℕ) (p : View) (e : slice_get vs k ≡ Some p) (law : IsLawful ds p) (edge : is_edge p.way ≡ true) where
  -- the signal of a bit that the part drives
  signal_at : (b : Bit) → has_bit p.drives b ≡ true → Signal ds b
  signal_at b own =
      let below : b.place < width_from ds b.name = law.within b own in
      elim (signal_of ds b.name) [
        | inl none ↦ absurd (omega arith)
        | inr s ↦ (let w : width_from ds b.name ≡ width_of s.1 = s.4 in
            record { at = s.0; signal = s.1; there = s.2; has = cells_have (width_of s.1) b.place (cells s.1) b.name s.3 (omega arith) })
      ]

  -- it is a variable
  variable_at : (b : Bit) → has_bit p.drives b ≡ true → (s : Signal ds b) → is_variable_sort s.signal.sort ≡ true
  variable_at b own s =
      let x : Declared = s.signal in
      let touched : r.touches p.drives x ≡ true = bit_with (has_bit (whole x)) p.drives b own s.has in
      elim (decide (is_variable_sort x.sort)) [
        | inl y ↦ y
        | inr net ↦ elim (decide (is_input_sort x.sort)) [
          | inl input ↦ clash (list_any (λ x. is_input_sort x.sort && r.touches p.drives x) ds)
              (at_any (λ x. is_input_sort x.sort && r.touches p.drives x) ds s.at x s.there (and-both (is_input_sort x.sort) (r.touches p.drives x) input touched))
              (or-none_right _ _ (or-none_left _ (list_any (is_mixed_view vs p) ds) (no_two ds vs right k p e)))
          | inr no_in ↦ (
              let unlike : not (same_sign (not (is_continuous p.way)) (is_variable_sort x.sort)) ≡ true =
              ap (λ z. not (same_sign z (is_variable_sort x.sort))) (edge_not_continuous p.way edge) ∙ ap (λ z. not (same_sign true z)) net in
              clash _ (at_any (λ x. r.touches p.drives x && not (same_sign (not (is_continuous p.way)) (is_variable_sort x.sort)) && not (is_input_sort x.sort)) ds s.at x s.there
              (and-both _ _ (and-both _ _ touched unlike) (ap not no_in))) (or-none_right _ _ (no_wrong ds vs right k p e)))
        ]
      ]

  blocking_at : list_any (is_blocking_seen ds vs k) p.events ≡ false
  blocking_at = filtered_none (seen_places p) (is_blocking_seen ds vs k) p.events (λ x h. cc)
      (ap (λ c. if c then flat_map (seen_places p) (filter (is_blocking_seen ds vs k) p.events) else []) (sym edge) ∙
      (let z : 0 + k ≡ k = omega arith in
      ap (λ i. if is_edge p.way then flat_map (seen_places p) (filter (is_blocking_seen ds vs i) p.events) else []) (sym z) ∙
      numbered_at (λ kv. if is_edge kv.1.way then flat_map (seen_places kv.1) (filter (is_blocking_seen ds vs kv.0) kv.1.events) else []) vs 0 right.blocking k p e))

  module _ (S : Signals) (s : FlatStmt) (events : p.events ≡ map seen_of (flow S s).events) (drives : p.drives ≡ block_writes (flow S s)) (inside : Each Inside (flow S s).events) where
    abbrev es : List Event
    es = (flow S s).events

    -- a bit that `=` names is named by no `<=`
    not_later : (b : Bit) (i : ℕ) (o : Event) → slice_get es i ≡ Some o → (o.at_once && has_bit (event_writes o) b) ≡ true →
        list_any (λ (e : Event). not e.at_once && has_bit (event_writes e) b) es ≡ false
    not_later b i o at both =
        let named : has_bit (event_writes o) b ≡ true = and-right o.at_once (has_bit (event_writes o) b) both in
        let own : has_bit p.drives b ≡ true = ap (λ bs. has_bit bs b) drives ∙ event_within b es i o at named in
        let x : Signal ds b = signal_at b own in
        let variable : is_variable_sort x.signal.sort ≡ true = variable_at b own x in
        let touches_by : (e : Event) → has_bit (event_writes e) b ≡ true → r.touches (seen_writes (seen_of e)) x.signal ≡ true =
        λ e h. ap (λ bs. r.touches bs x.signal) (seen_same e) ∙ bit_with (has_bit (whole x.signal)) (event_writes e) b h x.has in
        elim (decide (list_any (λ (e : Event). not e.at_once && has_bit (event_writes e) b) es)) [
          | inr n ↦ n
          | inl some ↦ (
              let l : (j : ℕ) × (e : Event) × (slice_get es j ≡ Some e) × ((not e.at_once && has_bit (event_writes e) b) ≡ true) =
              any_at (λ (e : Event). not e.at_once && has_bit (event_writes e) b) es some in
              let late : list_any (λ (e : Seen). not e.at_once && r.touches (seen_writes e) x.signal) p.events ≡ true =
              at_any (λ (e : Seen). not e.at_once && r.touches (seen_writes e) x.signal) p.events l.0 (seen_of l.1) (ap (λ xs. slice_get xs l.0) events ∙ seen_at es l.0 l.1 l.2)
              (and-both (not l.1.at_once) (r.touches (seen_writes (seen_of l.1)) x.signal) (and-left (not l.1.at_once) (has_bit (event_writes l.1) b) l.3)
              (touches_by l.1 (and-right (not l.1.at_once) (has_bit (event_writes l.1) b) l.3))) in
              let shared : is_shared_view vs k x.signal ≡ true =
              or-left _ _ (at_any (λ (w : View). is_edge w.way && list_any (λ (e : Seen). not e.at_once && r.touches (seen_writes e) x.signal) w.events) vs k p e
              (and-both (is_edge p.way) _ edge late)) in
              let here : (is_variable_sort x.signal.sort && r.touches (seen_writes (seen_of o)) x.signal && is_shared_view vs k x.signal) ≡ true =
              and-both _ _ (and-both _ _ variable (touches_by o named)) shared in
              let blocking : is_blocking_seen ds vs k (seen_of o) ≡ true =
              and-both o.at_once _ (and-left o.at_once (has_bit (event_writes o) b) both)
              (at_any (λ x. is_variable_sort x.sort && r.touches (seen_writes (seen_of o)) x && is_shared_view vs k x) ds x.at x.signal x.there here) in
              clash (list_any (is_blocking_seen ds vs k) p.events)
              (at_any (is_blocking_seen ds vs k) p.events i (seen_of o) (ap (λ xs. slice_get xs i) events ∙ seen_at es i o at) blocking) blocking_at)
        ]

    pub unmixed : (b : Bit) → IsUnmixed S s b
    unmixed b = elim (decide (list_any (λ (e : Event). e.at_once && has_bit (event_writes e) b) es)) [
      | inr n ↦ inl (once_spared b es inside n)
      | inl some ↦ (
          let o : (i : ℕ) × (o : Event) × (slice_get es i ≡ Some o) × ((o.at_once && has_bit (event_writes o) b) ≡ true) =
          any_at (λ (e : Event). e.at_once && has_bit (event_writes e) b) es some in
          inr (later_spared b es inside (not_later b o.0 o.1 o.2 o.3)))
    ]
