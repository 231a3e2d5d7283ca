-- The steps of a statement, by the form of the tree.
use Rattle.std.proofs.Common.{◌≡◌, ℕ, Bool, true, false, ◌&&◌, List, [], ◌∷◌, ◌++◌, map, flat_map, refl, sym, ◌∙◌, ap, subst, Option, Some, None}
use Rattle.std.specs.List.{list_all}
use Rattle.std.proofs.lemmas.List.{map-append}
use Rattle.std.proofs.lemmas.Grind.{flat_map-append}
use Rattle.lv_source.specs.Values.{nowhere}
use Rattle.lv_source.specs.Places.{Bit}
use Rattle.lv_source.specs.Meaning.{Reading, bits_named, index_reads, all_constant}
use Rattle.lv_source.specs.Effect.{Piece, Label, Arm, arm_labels, is_met}
use Rattle.lv_source.specs.Flow.{Flow, still, all_flows, branches, if_flow, write_flow}
use Rattle.lv_source.specs.Views.{Seen, aim_of, seen_of}
use Rattle.lv_flat.specs.declared.expr.FlatExpr.{FlatExpr}
use Rattle.lv_flat.specs.declared.expr.FlatSelect.{FlatSelect}
use Rattle.lv_flat.specs.declared.stmt.FlatName.{FlatName}
use Rattle.lv_flat.specs.declared.stmt.FlatTarget.{FlatTarget}
use Rattle.lv_flat.specs.declared.stmt.FlatArm.{FlatArm}
use Rattle.lv_flat.specs.declared.stmt.FlatStmt.{FlatStmt}
use Rattle.lv_flat.specs.declared.stmt.FlatStmt.TheVariants as b
use Rattle.lv_flat.specs.Signals.{Signals, signal_at, sort_of}
use Rattle.lv_flat.specs.Judged.{reading}
use Rattle.lv_flat.specs.Executing.{pieces, label_of}
use Rattle.lv_flat.specs.Flows.{flow}
use Rattle.lv_flat.proofs.Effects.{read_arm, flow-Null, flow-Block, flow-If, flow-If_else, flow-Case, flow-Now, flow-Later}
use Rattle.lv_spans.specs.Domain.{AreSpansOf}
use Rattle.lv_extents.specs.declared.extent.Aim.{Aim}
use Rattle.lv_extents.specs.declared.extent.Step.{Step}
use Rattle.lv_source.specs.PartRules.{has_twice}
use Rattle.lv_extents.specs.Extents.{Each, AreExact, IsAim, IsStep}
use Rattle.lv_extents.specs.Adds.{AddsAims, AddsSteps, piece_of, taken}
use Rattle.lv_extents.specs.Blocks.{all_events, arm_flow, are_good_arms, label_reads, look_at}
use Rattle.lv_source.proofs.Tests.{and-left, and-right}
use Rattle.lv_flat.specs.Good.{good_stmt, good_target, are_targets}
use Rattle.lv_flat.specs.Judged.{is_good}
use Rattle.lv_flat.proofs.GoodParts.{good-Block, good-If, good-If_else, good-Case, good-Now, good-Later}
use Rattle.lv_flat.proofs.Widths.{target-names}
use Rattle.lv_extents.proofs.Spans.{append-nil}
use Rattle.lv_extents.proofs.Lists.{each-one, each-as, each-then, each-none}

-- ---- one aim, one step

module _ (S : Signals) where
  pub aim-adds : (old new : List Aim) (name : FlatName) (ss : List FlatSelect) (x : Aim) → sort_of x.sort ≡ (signal_at S name.signal).sort →
      AreSpansOf S (bits_named (signal_at S name.signal) (taken S ss)) x.bits → x.sure ≡ all_constant (taken S ss) → x.place ≡ name.place →
      has_twice (bits_named (signal_at S name.signal) (taken S ss)) ≡ false → (x.sure ≡ true → AreExact S x.bits) → new ≡ old ++ x ∷ [] →
      AddsAims S old new (aim_of (piece_of S name ss) ∷ [])
  aim-adds old new name ss x sort bits sure place once exact e =
      each-one (IsAim S) old new (aim_of (piece_of S name ss)) x (record { sort = sort; bits = bits; sure = sure; place = place; once = once; exact = exact }) e

  pub look-adds : (old new : List Step) (bits : List Bit) (x : Step) → AreSpansOf S bits x.reads → x.aims ≡ [] → x.at_once ≡ true → x.place ≡ 0 → new ≡ old ++ x ∷ [] →
      AddsSteps S old new (look_at bits ∷ [])
  look-adds old new bits x reads aims once place e = each-one (IsStep S) old new (look_at bits) x
      (record { reads = reads; aims = subst (λ (as' : List Aim). Each (IsAim S) [] as') (sym aims) tt; at_once = once; place = place }) e

  pub write-adds : (old new : List Step) (once : Bool) (ps : List Piece) (r : Reading) (place : ℕ) (x : Step) → AreSpansOf S (r.reads ++ flat_map (λ (p :
      Piece). index_reads p.choices) ps) x.reads →
      Each (IsAim S) (map aim_of ps) x.aims → x.at_once ≡ once → x.place ≡ place → new ≡ old ++ x ∷ [] → AddsSteps S old new (map seen_of (write_flow once ps r place).events)
  write-adds old new once ps r place x reads aims o p e = each-one (IsStep S) old new _ x (record { reads = reads; aims = aims; at_once = o; place = p }) e

-- ---- blocks

flows-events : (fs : List Flow) → (all_flows fs).events ≡ all_events fs
flows-events [] = refl
flows-events (f ∷ fs) = ap (λ es. f.events ++ es) (flows-events fs)

branch-events : (c : Reading) (h : Bool) (x y : Flow) → (branches c h x y).events ≡ x.events ++ y.events
branch-events c h x y = by c.constant refl
  where
    by : (u : Bool) → c.constant ≡ u → (branches c h x y).events ≡ x.events ++ y.events
    by true e = rw e refl
    by false e = rw e refl

module _ (S : Signals) where
  abbrev pub seen : FlatStmt → List Seen
  seen x = map seen_of (flow S x).events

  of-flow : (x : FlatStmt) (y : FlatStmt) (f : Flow) → x ≡ y → flow S y ≡ f → seen x ≡ map seen_of f.events
  of-flow x y f e h = ap seen e ∙ ap (λ (g : Flow). map seen_of g.events) h

  pub seen-Null : (x : FlatStmt) → x ≡ b.Null → seen x ≡ []
  seen-Null x e = of-flow x b.Null still e (flow-Null S)

  pub seen-Block : (x : FlatStmt) (body : List FlatStmt) → x ≡ b.Block body → seen x ≡ map seen_of (all_events (map (flow S) body))
  seen-Block x body e = of-flow x (b.Block body) _ e (flow-Block S body) ∙ ap (map seen_of) (flows-events (map (flow S) body))

  if-seen : (c : Reading) (f g : Flow) → map seen_of (if_flow c f g).events ≡ look_at c.reads ∷ (map seen_of f.events ++ map seen_of g.events)
  if-seen c f g = ap (λ es. look_at c.reads ∷ map seen_of es) (branch-events c (is_met nowhere c) f g) ∙ ap (λ es. look_at c.reads ∷ es) (map-append seen_of f.events g.events)

  pub seen-If : (x : FlatStmt) (c : FlatExpr) (s : FlatStmt) → x ≡ b.If c s None → seen x ≡ look_at (reading S c).reads ∷ (seen s ++ [])
  seen-If x c s e = of-flow x (b.If c s None) _ e (flow-If S c s) ∙ if-seen (reading S c) (flow S s) still

  pub seen-If_else : (x : FlatStmt) (c : FlatExpr) (s t : FlatStmt) → x ≡ b.If c s (Some t) → seen x ≡ look_at (reading S c).reads ∷ (seen s ++ seen t)
  seen-If_else x c s t e = of-flow x (b.If c s (Some t)) _ e (flow-If_else S c s t) ∙ if-seen (reading S c) (flow S s) (flow S t)

  labels-reads : (ls : List FlatExpr) → flat_map (λ (l : Label). l.reading.reads) (map (label_of S) ls) ≡ flat_map (λ (r : Reading). r.reads) (map (reading S) ls)
  labels-reads [] = refl
  labels-reads (l ∷ ls) = ap (λ bs. (reading S l).reads ++ bs) (labels-reads ls)

  arms-reads : (arms : List FlatArm) → flat_map (λ (l : Label). l.reading.reads) (arm_labels (map (read_arm S (flow S)) arms)) ≡ label_reads S arms
  arms-reads [] = refl
  arms-reads (a ∷ as') =
      flat_map-append (λ (l : Label). l.reading.reads) (map (label_of S) a.labels) (arm_labels (map (read_arm S (flow S)) as')) ∙
      (ap (λ bs. bs ++ flat_map (λ (l : Label). l.reading.reads) (arm_labels (map (read_arm S (flow S)) as'))) (labels-reads a.labels) ∙
      ap (λ bs. flat_map (λ (r : Reading). r.reads) (map (reading S) a.labels) ++ bs) (arms-reads as'))

  arms-events : (arms : List FlatArm) → flat_map (λ (a : Arm Flow). a.body.events) (map (read_arm S (flow S)) arms) ≡ all_events (map (arm_flow S) arms)
  arms-events [] = refl
  arms-events (a ∷ as') = ap (λ es. (flow S a.body).events ++ es) (arms-events as')

  pub seen-Case : (x : FlatStmt) (wild : Bool) (c : FlatExpr) (arms : List FlatArm) → x ≡ b.Case wild c arms →
      seen x ≡ look_at ((reading S c).reads ++ label_reads S arms) ∷ map seen_of (all_events (map (arm_flow S) arms))
  seen-Case x wild c arms e =
      of-flow x (b.Case wild c arms) _ e (flow-Case S wild c arms) ∙
      (ap (λ bs. look_at ((reading S c).reads ++ bs) ∷ map seen_of (flat_map (λ (a : Arm Flow). a.body.events) (map (read_arm S (flow S)) arms))) (arms-reads arms) ∙
      ap (λ es. look_at ((reading S c).reads ++ label_reads S arms) ∷ map seen_of es) (arms-events arms))

  pub seen-Now : (x : FlatStmt) (t : FlatTarget) (v : FlatExpr) (place : ℕ) → x ≡ b.Now t v place → seen x ≡ map seen_of (write_flow true (pieces S t) (reading S v) place).events
  seen-Now x t v place e = of-flow x (b.Now t v place) _ e (flow-Now S t v place)

  pub seen-Later : (x : FlatStmt) (t : FlatTarget) (v : FlatExpr) (place : ℕ) → x ≡ b.Later t v place → seen x ≡ map seen_of (write_flow false (pieces S t) (reading S v) place).events
  seen-Later x t v place e = of-flow x (b.Later t v place) _ e (flow-Later S t v place)

  -- ---- what is good of the parts

  if-parts : (x : FlatStmt) (c : FlatExpr) (s : FlatStmt) (o : Option FlatStmt) → x ≡ b.If c s o → good_stmt S x ≡ true → (is_good S c ≡ true) × (good_stmt S s ≡ true)
  if-parts x c s None e g =
      let k = sym (ap (good_stmt S) e ∙ good-If S c s) ∙ g in
      (and-left (is_good S c) (good_stmt S s && true) k, and-left (good_stmt S s) true (and-right (is_good S c) (good_stmt S s && true) k))
  if-parts x c s (Some t) e g =
      let k = sym (ap (good_stmt S) e ∙ good-If_else S c s t) ∙ g in
      (and-left (is_good S c) (good_stmt S s && good_stmt S t) k, and-left (good_stmt S s) (good_stmt S t) (and-right (is_good S c) (good_stmt S s && good_stmt S t) k))

  pub if-good : (x : FlatStmt) (c : FlatExpr) (s : FlatStmt) (o : Option FlatStmt) → x ≡ b.If c s o → good_stmt S x ≡ true → (is_good S c ≡ true) × (good_stmt S s ≡ true)
  if-good x c s o e g = if-parts x c s o e g

  pub else-good : (x : FlatStmt) (c : FlatExpr) (s : FlatStmt) (o : Option FlatStmt) (t : FlatStmt) → x ≡ b.If c s o → o ≡ Some t → good_stmt S x ≡ true → good_stmt S t ≡ true
  else-good x c s o t e h g =
      let k = sym (ap (good_stmt S) (e ∙ ap (λ p. b.If c s p) h) ∙ good-If_else S c s t) ∙ g in
      and-right (good_stmt S s) (good_stmt S t) (and-right (is_good S c) (good_stmt S s && good_stmt S t) k)

  pub block-good : (x : FlatStmt) (body : List FlatStmt) → x ≡ b.Block body → good_stmt S x ≡ true → list_all (λ (y : Bool). y) (map (good_stmt S) body) ≡ true
  block-good x body e g = sym (ap (good_stmt S) e ∙ good-Block S body) ∙ g

  pub case-good : (x : FlatStmt) (wild : Bool) (c : FlatExpr) (arms : List FlatArm) → x ≡ b.Case wild c arms → good_stmt S x ≡ true → (is_good S c ≡ true) × (are_good_arms S arms ≡ true)
  case-good x wild c arms e g =
      let k = sym (ap (good_stmt S) e ∙ good-Case S wild c arms) ∙ g in
      (and-left (is_good S c) (are_good_arms S arms) k, and-right (is_good S c) (are_good_arms S arms) k)

  pub now-good : (x : FlatStmt) (t : FlatTarget) (v : FlatExpr) (place : ℕ) → x ≡ b.Now t v place → good_stmt S x ≡ true → (are_targets S t ≡ true) × (is_good S v ≡ true)
  now-good x t v place e g =
      let k = sym (ap (good_stmt S) e ∙ good-Now S t v place) ∙ g in
      (target-names S t (and-left (good_target S t) (is_good S v) k), and-right (good_target S t) (is_good S v) k)

  pub later-good : (x : FlatStmt) (t : FlatTarget) (v : FlatExpr) (place : ℕ) → x ≡ b.Later t v place → good_stmt S x ≡ true → (are_targets S t ≡ true) × (is_good S v ≡ true)
  later-good x t v place e g =
      let k = sym (ap (good_stmt S) e ∙ good-Later S t v place) ∙ g in
      (target-names S t (and-left (good_target S t) (is_good S v) k), and-right (good_target S t) (is_good S v) k)

  pub arm-good : (a : FlatArm) → (list_all (is_good S) a.labels && good_stmt S a.body) ≡ true → good_stmt S a.body ≡ true
  arm-good a g = and-right (list_all (is_good S) a.labels) (good_stmt S a.body) g

  all-map : {A : Type 0} (p : A → Bool) (xs : List A) → list_all p xs ≡ list_all (λ (y : Bool). y) (map p xs)
  all-map p [] = refl
  all-map p (x ∷ xs) = ap (λ u. p x && u) (all-map p xs)

  pub labels-good : (a : FlatArm) → (list_all (is_good S) a.labels && good_stmt S a.body) ≡ true → list_all (λ (y : Bool). y) (map (is_good S) a.labels) ≡ true
  labels-good a g = sym (all-map (is_good S) a.labels) ∙ and-left (list_all (is_good S) a.labels) (good_stmt S a.body) g

  -- ---- an `if`, put together

  pub if-adds : (x : FlatStmt) (R : List Bit) (p q r s : List Step) (A B : List Seen) → seen x ≡ look_at R ∷ (A ++ B) → AddsSteps S p q (look_at (R ++ []) ∷ []) → AddsSteps S q r A →
      AddsSteps S r s B → AddsSteps S p s (seen x)
  if-adds x R p q r s A B e l a b' = each-as (IsStep S) p s _ _ (e ∙ ap (λ bs. look_at bs ∷ (A ++ B)) (sym (append-nil R))) (each-then (IsStep S) l (each-then (IsStep S) a b'))

  pub if-adds-one : (x : FlatStmt) (R : List Bit) (p q r : List Step) (A : List Seen) → seen x ≡ look_at R ∷ (A ++ []) → AddsSteps S p q (look_at (R ++ []) ∷ []) → AddsSteps S q r A →
      AddsSteps S p r (seen x)
  if-adds-one x R p q r A e l a = if-adds x R p q r r A [] e l a (each-none (IsStep S) r)
