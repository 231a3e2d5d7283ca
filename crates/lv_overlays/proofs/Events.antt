-- What the steps of a flat block write lies among the bits that they name.
use Rattle.std.proofs.Common.{◌≡◌, inl, inr, Bool, true, false, List, [], ◌∷◌, map, refl, sym, ap, ◌∙◌, subst}
use Rattle.std.specs.Prelude.{flat_map, if◌then◌else◌}
use Rattle.lv_source.specs.Names.{Declared, Valuation, known, is_signal_sort}
use Rattle.lv_source.specs.Values.{nowhere}
use Rattle.lv_source.specs.Places.{Bit, Place, has_bit, same_bit, place_bits, place_of, whole}
use Rattle.lv_source.specs.Meaning.{Choice, bits_named, all_constant, meant}
use Rattle.lv_source.specs.Effect.{Piece, Arm, aimed, piece_place, places, is_met}
use Rattle.lv_source.specs.Effect as source
use Rattle.lv_source.specs.Flow.{Event, Flow, writes_of, all_flows}
use Rattle.lv_source.specs.Views.{Aim, aim_of}
use Rattle.lv_source.proofs.Each.{Each, each-join}
use Rattle.lv_source.proofs.Tests.{any-split, any-left, any-right}
use Rattle.lv_source.proofs.CaseTrees.{flat-map}
use Rattle.lv_source.proofs.Faithful.{FaithfulChoice, place_equal, choices_fixed}
use Rattle.lv_source.proofs.Pieces.{FaithfulPiece, pieces_faithful}
use Rattle.lv_source.proofs.Within.{place_within, outside}
use Rattle.lv_source.proofs.Writes.{all_bits_of}
use Rattle.lv_flat.specs.declared.stmt.FlatTarget.{FlatTarget}
use Rattle.lv_flat.specs.declared.stmt.FlatStmt.{FlatStmt, Row_of-FlatStmt, end_of-FlatStmt, more_of-FlatStmt, Row_of-FlatArm, end_of-FlatArm, more_of-FlatArm, Held-FlatStmt-If-2, None', Some'}
use Rattle.lv_flat.specs.declared.stmt.FlatStmt.TheVariants as b
use Rattle.lv_flat.specs.Signals.{Signals}
use Rattle.lv_flat.specs.Judged.{reading}
use Rattle.lv_flat.specs.Executing.{pieces, arm_step}
use Rattle.lv_flat.specs.Flows.{flow_or, flow_step, flow}
use Rattle.lv_flat.specs.Trees.{fold_stmts, fold_one_stmt, fold_held, fold_arms}
use Rattle.lv_flat.proofs.Doings.{Goal, goal_of}
use Rattle.lv_settles.proofs.FlatTrees.{numbered}
use Rattle.lv_settles.proofs.FlatStatements.{has_target}
use Rattle.lv_lower_blocks.proofs.Leaving.{flows, branch-events}

-- ---- targets

aimed_inside : (v : Valuation) (d : Declared) (cs : List Choice) → Each FaithfulChoice cs → (s k : Bool) → all_constant cs ≡ k → (b : Bit) →
    has_bit (place_bits (aimed s (place_of d (map meant cs) v))) b ≡ true → has_bit (if s then (if k then place_bits (place_of d (map meant cs) nowhere) else whole d) else []) b ≡ true
aimed_inside v d cs h true true e b x = ap (λ (p : Place). has_bit (place_bits p) b) (place_equal nowhere v d cs (choices_fixed nowhere v cs h e)) ∙ x
aimed_inside v d cs h true false e b x = place_within d (map meant cs) v b x
aimed_inside v d cs h false k e b x = absurd (outside (place_of d (map meant cs) v).bits b x)

places_inside : (v : Valuation) (ps : List Piece) → Each FaithfulPiece ps → (b : Bit) → has_bit (all_bits_of (places v ps)) b ≡ true → has_bit (writes_of ps) b ≡ true
places_inside v [] h b x = cc
places_inside v (p ∷ ps) h b x = elim (any-split (same_bit b) (place_bits (piece_place v p)) (all_bits_of (places v ps)) x) [
  | inl y ↦ any-left (same_bit b) (bits_named (known p.declared) p.choices) (writes_of ps)
      (aimed_inside v (known p.declared) p.choices h.0 (is_signal_sort (known p.declared).sort) (all_constant p.choices) refl b y)
  | inr y ↦ any-right (same_bit b) (bits_named (known p.declared) p.choices) (writes_of ps) (places_inside v ps h.1 b y)
]

-- the bits of a target are those of what it tells
writes_told : (ps : List Piece) → writes_of ps ≡ flat_map (λ (a : Aim). a.bits) (goal_of ps).aims
writes_told ps = sym (flat-map (λ (a : Aim). a.bits) aim_of ps)

-- what an event writes lies among the bits that it names
abbrev pub Inside : Event → Type 0
Inside e = (v : Valuation) (b : Bit) → has_bit (all_bits_of (places v e.targets)) b ≡ true → has_bit (writes_of e.targets) b ≡ true

module _ (S : Signals) where
  target_inside : (t : FlatTarget) (v : Valuation) (b : Bit) → has_bit (all_bits_of (places v (pieces S t))) b ≡ true → has_bit (writes_of (pieces S t)) b ≡ true
  target_inside t v b h =
      let ps : List Piece = pieces S t in
      let qs : List Piece = source.pieces (numbered S) (has_target S t).tree in
      let same : goal_of ps ≡ goal_of qs = (has_target S t).is in
      ap (λ (bs : List Bit). has_bit bs b) (writes_told ps ∙ (ap (λ (g : Goal). flat_map (λ (a : Aim). a.bits) g.aims) same ∙ sym (writes_told qs))) ∙
      places_inside v qs (pieces_faithful (numbered S) (has_target S t).tree) b (ap (λ (g : Goal). has_bit (all_bits_of (g.places v)) b) (sym same) ∙ h)

  none_inside : (v : Valuation) (b : Bit) → has_bit (all_bits_of (places v [])) b ≡ true → has_bit (writes_of []) b ≡ true
  none_inside v b h = h

  -- ---- statements

  mutual
    inside : (x : FlatStmt) → Each Inside (flows S x).events
    inside b.Null = tt
    inside (b.Block' n ss) = rows_inside ss
    inside (b.If' c n x other) =
        let f : Flow = fold_one_stmt Flow (Arm Flow) (flow_step S) (arm_step S) x in
        let g : Flow = flow_or (fold_held Flow (Arm Flow) (flow_step S) (arm_step S) other) in (
          none_inside,
          subst (λ (es : List Event). Each Inside es) (sym (branch-events (reading S c) (is_met nowhere (reading S c)) f g))
              (each-join Inside f.events g.events (one_inside x) (held_inside other)),
        )
    inside (b.Case' wild x n arms) = (none_inside, arms_inside arms)
    inside (b.Now target x place) = (target_inside target, tt)
    inside (b.Later target x place) = (target_inside target, tt)

    rows_inside : {n : _} (r : Row_of-FlatStmt n) → Each Inside (all_flows (fold_stmts Flow (Arm Flow) (flow_step S) (arm_step S) r)).events
    rows_inside end_of-FlatStmt = tt
    rows_inside (more_of-FlatStmt x xs) =
        each-join Inside (flows S x).events (all_flows (fold_stmts Flow (Arm Flow) (flow_step S) (arm_step S) xs)).events (inside x) (rows_inside xs)

    one_inside : {n : _} (r : Row_of-FlatStmt n) → Each Inside (fold_one_stmt Flow (Arm Flow) (flow_step S) (arm_step S) r).events
    one_inside end_of-FlatStmt = tt
    one_inside (more_of-FlatStmt x xs) = inside x

    held_inside : (r : Held-FlatStmt-If-2) → Each Inside (flow_or (fold_held Flow (Arm Flow) (flow_step S) (arm_step S) r)).events
    held_inside None' = tt
    held_inside (Some' n x) = one_inside x

    arms_inside : {n : _} (r : Row_of-FlatArm n) → Each Inside (flat_map (λ (a : Arm Flow). a.body.events) (fold_arms Flow (Arm Flow) (flow_step S) (arm_step S) r))
    arms_inside end_of-FlatArm = tt
    arms_inside (more_of-FlatArm labels body xs) =
        each-join Inside (flows S body).events (flat_map (λ (a : Arm Flow). a.body.events) (fold_arms Flow (Arm Flow) (flow_step S) (arm_step S) xs)) (inside body) (arms_inside xs)

  -- of each step of a statement
  pub events_inside : (x : FlatStmt) → Each Inside (flow S x).events
  unfolding flow
  events_inside x = inside x
