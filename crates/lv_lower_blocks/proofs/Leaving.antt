-- Kept writes change no valuation: what a statement leaves in the valuation is what it does by `lv_flat`.
use Rattle.std.proofs.Common.{◌≡◌, Bool, true, false, List, [], ◌∷◌, ◌++◌, map, refl, sym, ◌∙◌, ap}
use Rattle.std.specs.Prelude.{if◌then◌else◌, flat_map}
use Rattle.std.specs.List.{list_any, list_all}
use Rattle.lv_source.specs.Names.{Valuation}
use Rattle.lv_source.specs.Effect.{State, Label, Arm, Width, is_met, places, bits_in, write_all, assigned, is_default, arm_labels, taken_of, common_of, fits_label, selected_of, one_by_one}
use Rattle.lv_source.specs.Effect.{applied, left_of}
use Rattle.lv_source.specs.Meaning.{Reading}
use Rattle.lv_source.specs.Values.{nowhere}
use Rattle.lv_source.specs.Flow.{Event, Flow, branches, either_flow, all_flows}
use Rattle.lv_flat.specs.declared.stmt.FlatStmt.{FlatStmt, Row_of-FlatStmt, end_of-FlatStmt, more_of-FlatStmt, Row_of-FlatArm, end_of-FlatArm, more_of-FlatArm, Held-FlatStmt-If-2, None', Some'}
use Rattle.lv_flat.specs.declared.stmt.FlatStmt.TheVariants as b
use Rattle.lv_flat.specs.Signals.{Signals}
use Rattle.lv_flat.specs.Judged.{reading}
use Rattle.lv_flat.specs.Executing.{Effect, pieces, label_of, arm_step, effect_step, otherwise, executes}
use Rattle.lv_flat.specs.Flows.{flow_or, flow_step, flow}
use Rattle.lv_flat.specs.Trees.{fold_stmt, fold_stmts, fold_one_stmt, fold_held, fold_arms}
use Rattle.lv_lower_exprs.proofs.Parts.{and-left, and-right}
use Rattle.lv_lower_blocks.specs.Running.{write_step, keeps_writes}

abbrev Alike : Effect → Effect → Type 0
Alike f g = (s t : State) → s.valuation ≡ t.valuation → (f s).valuation ≡ (g t).valuation

either-alike : (u : Bool) (f g h k : Effect) → Alike f h → Alike g k → (s t : State) → s.valuation ≡ t.valuation → (if u then f s else g s).valuation ≡ (if u then h t else k t).valuation
either-alike true f g h k a c s t e = a s t e
either-alike false f g h k a c s t e = c s t e

taken-alike : (u : Bool) (f g h k : Effect) → Alike f h → ((s t : State) → s.valuation ≡ t.valuation → (g s).valuation ≡ (k t).valuation) → (s t : State) → s.valuation ≡ t.valuation →
    ((if u then f else g) s).valuation ≡ ((if u then h else k) t).valuation
taken-alike true f g h k a c s t e = a s t e
taken-alike false f g h k a c s t e = c s t e

default-alike : (u : Bool) (f g h k : Effect) → Alike f h → Alike g k → Alike (if u then f else g) (if u then h else k)
default-alike true f g h k a c = a
default-alike false f g h k a c = c

module _ (S : Signals) where
  abbrev pub kept : FlatStmt → Effect
  kept x = fold_stmt Effect (Arm Effect) (write_step S) (arm_step S) x

  abbrev pub done : FlatStmt → Effect
  done x = fold_stmt Effect (Arm Effect) (effect_step S) (arm_step S) x

  pub labels-alike : {n : _} (r : Row_of-FlatArm n) → arm_labels (fold_arms Effect (Arm Effect) (write_step S) (arm_step S) r) ≡ arm_labels (fold_arms Effect (Arm Effect) (effect_step S)
      (arm_step S) r)
  labels-alike end_of-FlatArm = refl
  labels-alike (more_of-FlatArm labels body xs) = ap (λ ls. map (label_of S) labels ++ ls) (labels-alike xs)

  mutual
    alike : (x : FlatStmt) → Alike (kept x) (done x)
    alike b.Null s t e = e
    alike (b.Block' n ss) s t e = rows-alike ss s t e
    alike (b.If' c n x other) s t e =
        ap (λ (v : Valuation). (if is_met v (reading S c) then fold_one_stmt Effect (Arm Effect) (write_step S) (arm_step S) x s else otherwise (fold_held Effect (Arm Effect) (write_step S)
        (arm_step S) other) s).valuation) e ∙
        either-alike (is_met t.valuation (reading S c)) (fold_one_stmt Effect (Arm Effect) (write_step S) (arm_step S) x) (otherwise (fold_held Effect (Arm Effect) (write_step S) (arm_step S) other))
        (fold_one_stmt Effect (Arm Effect) (effect_step S) (arm_step S) x) (otherwise (fold_held Effect (Arm Effect) (effect_step S) (arm_step S) other)) (one-alike x) (held-alike other) s t e
    alike (b.Case' wild x n arms) s t e =
        let c : Width = common_of (reading S x) (arm_labels (fold_arms Effect (Arm Effect) (write_step S) (arm_step S) arms)) in
        let d : Width = common_of (reading S x) (arm_labels (fold_arms Effect (Arm Effect) (effect_step S) (arm_step S) arms)) in
        let h : c ≡ d = ap (common_of (reading S x)) (labels-alike arms) in
        ap (λ (v : Valuation). (taken_of (fits_label v wild c (selected_of (reading S x) c v)) (fold_arms Effect (Arm Effect) (write_step S) (arm_step S) arms) (λ (z : State). z) s).valuation) e ∙
        (ap (λ (k : Width). (taken_of (fits_label t.valuation wild k (selected_of (reading S x) k t.valuation)) (fold_arms Effect (Arm Effect) (write_step S) (arm_step S) arms)
        (λ (z : State). z) s).valuation) h ∙
        arms-alike arms (fits_label t.valuation wild d (selected_of (reading S x) d t.valuation)) (λ z. z) (λ z. z) (λ s t e. e) s t e)
    alike (b.Now target x place) s t e = ap (λ (v : Valuation). write_all v (places v (pieces S target)) (assigned v (bits_in (places v (pieces S target))) (reading S x).meaning)) e
    alike (b.Later target x place) s t e = e

    rows-alike : {n : _} (r : Row_of-FlatStmt n) → Alike (one_by_one (fold_stmts Effect (Arm Effect) (write_step S) (arm_step S) r)) (one_by_one (fold_stmts Effect (Arm Effect) (effect_step S)
        (arm_step S) r))
    rows-alike end_of-FlatStmt s t e = e
    rows-alike (more_of-FlatStmt x xs) s t e = rows-alike xs (kept x s) (done x t) (alike x s t e)

    one-alike : {n : _} (r : Row_of-FlatStmt n) → Alike (fold_one_stmt Effect (Arm Effect) (write_step S) (arm_step S) r) (fold_one_stmt Effect (Arm Effect) (effect_step S) (arm_step S) r)
    one-alike end_of-FlatStmt s t e = e
    one-alike (more_of-FlatStmt x xs) s t e = alike x s t e

    held-alike : (h : Held-FlatStmt-If-2) → Alike (otherwise (fold_held Effect (Arm Effect) (write_step S) (arm_step S) h)) (otherwise (fold_held Effect (Arm Effect) (effect_step S) (arm_step S) h))
    held-alike None' s t e = e
    held-alike (Some' n x) s t e = one-alike x s t e

    arms-alike : {n : _} (r : Row_of-FlatArm n) (fits : Label → Bool) (f g : Effect) → Alike f g →
        Alike (taken_of fits (fold_arms Effect (Arm Effect) (write_step S) (arm_step S) r) f) (taken_of fits (fold_arms Effect (Arm Effect) (effect_step S) (arm_step S) r) g)
    arms-alike end_of-FlatArm fits f g h s t e = h s t e
    arms-alike (more_of-FlatArm labels body xs) fits f g h s t e =
        let ls : List Label = map (label_of S) labels in
        let u : Bool = is_default ls in
        taken-alike (list_any fits ls) (kept body) (taken_of fits (fold_arms Effect (Arm Effect) (write_step S) (arm_step S) xs) (if u then kept body else f)) (done body)
        (taken_of fits (fold_arms Effect (Arm Effect) (effect_step S) (arm_step S) xs) (if u then done body else g)) (alike body)
        (arms-alike xs fits (if u then kept body else f) (if u then done body else g) (default-alike u (kept body) f (done body) g (alike body) h)) s t e

  -- the valuation is that which the statement leaves
  pub keeps-valuation : (x : FlatStmt) (s : State) → (keeps_writes S x s).valuation ≡ (executes S x s).valuation
  unfolding keeps_writes executes
  keeps-valuation x s = alike x s s refl

-- ---- a statement without `<=`

abbrev once : Event → Bool
once e = e.at_once

all-left : (xs ys : List Event) → list_all once (xs ++ ys) ≡ true → list_all once xs ≡ true
all-left [] ys h = refl
all-left (x ∷ xs) ys h = rw (and-left (once x) (list_all once (xs ++ ys)) h) (all-left xs ys (and-right (once x) (list_all once (xs ++ ys)) h))

all-right : (xs ys : List Event) → list_all once (xs ++ ys) ≡ true → list_all once ys ≡ true
all-right [] ys h = h
all-right (x ∷ xs) ys h = all-right xs ys (and-right (once x) (list_all once (xs ++ ys)) h)

pub branch-events : (c : Reading) (holds : Bool) (f g : Flow) → (branches c holds f g).events ≡ f.events ++ g.events
branch-events c holds f g = elim c.constant as (λ u. (if u then
    (let r : Flow = record { events = f.events ++ g.events; paths = if holds then f.paths else g.paths } in r) else either_flow f g).events ≡ f.events ++ g.events) [ true ↦ refl | false ↦ refl ]

abbrev Quiet : Effect → Type 0
Quiet f = (s : State) → (f s).pending ≡ s.pending

if-quiet : (u : Bool) (f g : Effect) → Quiet f → Quiet g → (s : State) → (if u then f s else g s).pending ≡ s.pending
if-quiet true f g a c s = a s
if-quiet false f g a c s = c s

taken-quiet : (u : Bool) (f g : Effect) → Quiet f → Quiet g → (s : State) → ((if u then f else g) s).pending ≡ s.pending
taken-quiet true f g a c s = a s
taken-quiet false f g a c s = c s

default-quiet : (u : Bool) (f g : Effect) → Quiet f → Quiet g → Quiet (if u then f else g)
default-quiet true f g a c = a
default-quiet false f g a c = c

module _ (S : Signals) where
  abbrev pub flows : FlatStmt → Flow
  flows x = fold_stmt Flow (Arm Flow) (flow_step S) (arm_step S) x

  mutual
    quiet : (x : FlatStmt) → list_all once (flows x).events ≡ true → Quiet (done S x)
    quiet b.Null h s = refl
    quiet (b.Block' n ss) h s = rows-quiet ss h s
    quiet (b.If' c n x other) h s =
        let f : Flow = fold_one_stmt Flow (Arm Flow) (flow_step S) (arm_step S) x in
        let g : Flow = flow_or (fold_held Flow (Arm Flow) (flow_step S) (arm_step S) other) in
        let k : list_all once (f.events ++ g.events) ≡ true = sym (ap (list_all once) (branch-events (reading S c) (is_met nowhere (reading S c)) f g)) ∙ h in
        if-quiet (is_met s.valuation (reading S c)) (fold_one_stmt Effect (Arm Effect) (effect_step S) (arm_step S) x) (otherwise (fold_held Effect (Arm Effect) (effect_step S) (arm_step S) other))
        (one-quiet x (all-left f.events g.events k)) (held-quiet other (all-right f.events g.events k)) s
    quiet (b.Case' wild x n arms) h s =
        let c : Width = common_of (reading S x) (arm_labels (fold_arms Effect (Arm Effect) (effect_step S) (arm_step S) arms)) in
        arms-quiet arms h (fits_label s.valuation wild c (selected_of (reading S x) c s.valuation)) (λ z. z) (λ z. refl) s
    quiet (b.Now target x place) h s = refl
    quiet (b.Later target x place) h s = cc

    rows-quiet : {n : _} (r : Row_of-FlatStmt n) → list_all once (all_flows (fold_stmts Flow (Arm Flow) (flow_step S) (arm_step S) r)).events ≡ true →
        Quiet (one_by_one (fold_stmts Effect (Arm Effect) (effect_step S) (arm_step S) r))
    rows-quiet end_of-FlatStmt h s = refl
    rows-quiet (more_of-FlatStmt x xs) h s =
        let rest : List Event = (all_flows (fold_stmts Flow (Arm Flow) (flow_step S) (arm_step S) xs)).events in
        rows-quiet xs (all-right (flows x).events rest h) (done S x s) ∙ quiet x (all-left (flows x).events rest h) s

    one-quiet : {n : _} (r : Row_of-FlatStmt n) → list_all once (fold_one_stmt Flow (Arm Flow) (flow_step S) (arm_step S) r).events ≡ true →
        Quiet (fold_one_stmt Effect (Arm Effect) (effect_step S) (arm_step S) r)
    one-quiet end_of-FlatStmt h s = refl
    one-quiet (more_of-FlatStmt x xs) h s = quiet x h s

    held-quiet : (r : Held-FlatStmt-If-2) → list_all once (flow_or (fold_held Flow (Arm Flow) (flow_step S) (arm_step S) r)).events ≡ true →
        Quiet (otherwise (fold_held Effect (Arm Effect) (effect_step S) (arm_step S) r))
    held-quiet None' h s = refl
    held-quiet (Some' n x) h s = one-quiet x h s

    arms-quiet : {n : _} (r : Row_of-FlatArm n) → list_all once (flat_map (λ (a : Arm Flow). a.body.events) (fold_arms Flow (Arm Flow) (flow_step S) (arm_step S) r)) ≡ true → (fits : Label →
        Bool) (f : Effect) → Quiet f →
        Quiet (taken_of fits (fold_arms Effect (Arm Effect) (effect_step S) (arm_step S) r) f)
    arms-quiet end_of-FlatArm h fits f q s = q s
    arms-quiet (more_of-FlatArm labels body xs) h fits f q s =
        let ls : List Label = map (label_of S) labels in
        let u : Bool = is_default ls in
        let rest : List Event = flat_map (λ (a : Arm Flow). a.body.events) (fold_arms Flow (Arm Flow) (flow_step S) (arm_step S) xs) in
        let body_quiet : Quiet (done S body) = quiet body (all-left (flows body).events rest h) in
        taken-quiet (list_any fits ls) (done S body) (taken_of fits (fold_arms Effect (Arm Effect) (effect_step S) (arm_step S) xs) (if u then done S body else f)) body_quiet
        (arms-quiet xs (all-right (flows body).events rest h) fits (if u then done S body else f) (default-quiet u (done S body) f body_quiet q)) s

  -- without `<=` a block leaves what its statement leaves at once
  pub left-at-once : (x : FlatStmt) (v : Valuation) → list_all once (flow S x).events ≡ true → left_of (executes S x) v ≡ (executes S x (record { valuation = v; pending = [] })).valuation
  unfolding executes flow
  left-at-once x v h = ap (λ us. applied (done S x (record { valuation = v; pending = [] })).valuation us) (quiet x h (record { valuation = v; pending = [] }))
