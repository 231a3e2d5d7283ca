-- Each statement takes one of its paths, the same one wherever what it reads is the same.
use Rattle.std.proofs.Common.{◌≡◌, inl, inr, ℕ, Bool, true, false, ◌&&◌, ◌==◌, not, List, [], ◌∷◌, ◌++◌, map, refl, sym, ap, subst, Option, Some, None}
use Rattle.std.specs.Prelude.{flat_map}
use Rattle.std.specs.List.{list_any}
use Rattle.lv_ast.specs.declared.expr.Expr.{Expr}
use Rattle.lv_ast.specs.declared.stmt.Target.{Target}
use Rattle.lv_ast.specs.declared.stmt.Stmt.{Stmt, Row_of-Stmt, end_of-Stmt, more_of-Stmt, Row_of-Arm, end_of-Arm, more_of-Arm, Held-Stmt-If-2, None', Some'}
use Rattle.lv_ast.specs.declared.stmt.Stmt.TheVariants as b
use Rattle.lv_ast.specs.declared.stmt.Stmt.TheOpen.{Stmt-F}
use Rattle.lv_ast.specs.Trees.{fold_stmt, fold_stmts, fold_one_stmt, fold_held, fold_arms}
use Rattle.lv_source.specs.Names.{Names, Valuation}
use Rattle.lv_source.specs.Values.{nowhere}
use Rattle.lv_source.specs.Places.{Bit, has_bit}
use Rattle.lv_source.specs.Meaning.{Reading, read_expr, meaning, constant_value}
use Rattle.lv_source.specs.Effect.{State, Effect, ArmOf, Piece, pieces, effect_step, arm_step, executes, in_order, each_turn, otherwise, is_set, is_default, all_labels, common, is_match, case_effect, with_index, turns}
use Rattle.lv_source.specs.Flow.{Event, event_surely, Flow, Flows, one, all_flows, branches, flow_or, flow_step, flow, no_match, is_full, case_flow}
use Rattle.lv_source.proofs.CaseTrees.{arm_taken, unchanged, TreeCase, TreeFlow, case_is, flow_is}
use Rattle.lv_source.proofs.Each.{Each, Pairs, each-left, each-right, each-join, some-left}
use Rattle.lv_source.proofs.Each.{Some' as Somewhere}
use Rattle.lv_source.proofs.Tests.{or-split, decide}
use Rattle.lv_source.proofs.Faithful.{Same, same-left, same-right, Equal}
use Rattle.lv_source.proofs.Readings.{faithful}
use Rattle.lv_source.proofs.Pieces.{pieces_faithful, put, put_settles, target_reads}
use Rattle.lv_source.proofs.Runs.{ReadsIn, Covered, Any, NoneOf, Outcome, Runs, still-runs, then-runs, look-runs, either-some, either-inside, either-run, none-left, none-right}
use Rattle.lv_source.proofs.Cases.{Rel, SameArm, EqualLabel, label_reads, read_labels, any_match_equal, full_fits, labels_equal, arm_paths, taken}

covered_same : (A : Bit → Bool) (bs : List Bit) (v w : Valuation) → Same A v w → ReadsIn A bs → Same (has_bit bs) v w
covered_same A bs v w same reads b h = same b (reads b h)

-- ---- blocks and loops

block_runs : (es : List Effect) (fs : List Flows) → Pairs Rel es fs → (names : Names) → Runs (λ s. in_order es names s) (all_flows (map (λ f. f names) fs))
block_runs [] [] h names = still-runs
block_runs [] (f ∷ fs) h names = absurd h
block_runs (e ∷ es) [] h names = absurd h
block_runs (e ∷ es) (f ∷ fs) h names = then-runs (e names) (λ s. in_order es names s) (f names) (all_flows (map (λ f. f names) fs)) (h.0 names) (block_runs es fs h.1 names)

loop_runs : (e : Effect) (f : Flows) → Rel e f → (at : ℕ → Names) (ks : List ℕ) → Runs (λ s. each_turn at e ks s) (all_flows (map (λ k. f (at k)) ks))
loop_runs e f h at [] = still-runs
loop_runs e f h at (k ∷ ks) = then-runs (e (at k)) (λ s. each_turn at e ks s) (f (at k)) (all_flows (map (λ k. f (at k)) ks)) (h (at k)) (loop_runs e f h at ks)

-- ---- assignments

module _ (names : Names) (target : Target) (x : Expr) (place : ℕ) where
  abbrev ps : List Piece
  ps = pieces names target

  abbrev reads : List Bit
  reads = (read_expr names x).reads ++ target_reads ps

  abbrev after_put : State → State
  after_put s = record s { valuation = put ps (read_expr names x) s.valuation }

  abbrev event : Bool → Event
  event at_once = record { reads = reads; targets = ps; at_once = at_once; place = place }

  single : (q : Event → Bool) (e : Event) → list_any q (e ∷ []) ≡ false → Each (NoneOf q) ((e ∷ []) ∷ [])
  single q e h = (h, tt)

  pub now_runs : Runs after_put (one (event true))
  now_runs = record {
    some = inl tt;
    inside = λ q h. single q (event true) h;
    run = λ A s t same cs.
        (let known : Same (has_bit reads) s.valuation t.valuation = covered_same A reads s.valuation t.valuation same cs.0.0 in (
          inl (λ b h. put_settles ps (read_expr names x) s.valuation t.valuation (faithful names x) (pieces_faithful names target) known b
              (elim (or-split (A b) (has_bit (event_surely (event true)) b) h) [ inl k ↦ inl (same b k) | inr k ↦ inr k ])),
          refl,
          refl,
        ));
  }

  pub later_runs : (g : State → State) → Runs g (one (event false))
  later_runs g = record {
    some = inl tt;
    inside = λ q h. single q (event false) h;
    run = λ A s t same cs. absurd (let d : false ≡ true = cs.0.1 in cc);
  }

-- ---- branches

abbrev MaybeRel : Option Effect → Option Flows → Type 0
MaybeRel None None = Unit {0}
MaybeRel (Some e) (Some f) = Rel e f
MaybeRel _ _ = ⊥

else_runs : (e : Option Effect) (f : Option Flows) → MaybeRel e f → (names : Names) → Runs (otherwise e names) (flow_or f names)
else_runs None None h names = still-runs
else_runs None (Some f) h names = absurd h
else_runs (Some e) None h names = absurd h
else_runs (Some e) (Some f) h names = h names

if_runs : (x : Expr) (e : Effect) (f : Flows) (o : Option Effect) (g : Option Flows) → Rel e f → MaybeRel o g → Rel (effect_step (Stmt-F.If x e o)) (flow_step (Stmt-F.If x f g))
if_runs x e f o g h k names =
    let c : Reading = read_expr names x in
    let holds : Bool = not (constant_value names x == 0) in
    let yes : Runs (e names) (f names) = h names in
    let no : Runs (otherwise o names) (flow_or g names) = else_runs o g k names in
    look-runs c.reads (branches c holds (f names) (flow_or g names)) (effect_step (Stmt-F.If x e o) names)
    (either-some (e names) (otherwise o names) (f names) (flow_or g names) yes no c.constant holds)
    (either-inside (e names) (otherwise o names) (f names) (flow_or g names) yes no c.constant holds)
    (λ A s t same reads cs.
    either-run (e names) (otherwise o names) (f names) (flow_or g names) yes no c.constant holds (is_set names s.valuation x) (is_set names t.valuation x)
    (ap (λ n. not (n == 0)) ((faithful names x).same s.valuation t.valuation (covered_same A c.reads s.valuation t.valuation same reads) c.meaning.width c.meaning.signed))
    (λ fixed. ap (λ n. not (n == 0)) ((faithful names x).fixed fixed s.valuation nowhere c.meaning.width c.meaning.signed)) A s t same cs)

-- ---- `case`

arms_match : (f g : Expr → Bool) (bs : List (ArmOf Flows)) (P : Expr → Type 0) → ((ls : List Expr) → Each P ls → list_any f ls ≡ list_any g ls) → Each P (all_labels bs) →
    Each (λ (b : ArmOf Flows). list_any f b.labels ≡ list_any g b.labels) bs
arms_match f g [] P h k = tt
arms_match f g (b ∷ bs) P h k = (h b.labels (each-left P b.labels (all_labels bs) k), arms_match f g bs P h (each-right P b.labels (all_labels bs) k))

arms_inside : (names : Names) (q : Event → Bool) (es : List (ArmOf Effect)) (bs : List (ArmOf Flows)) → Pairs SameArm es bs →
    list_any q (flat_map (λ (a : ArmOf Flows). (a.body names).events) bs) ≡ false → Each (NoneOf q) (arm_paths names bs)
arms_inside names q [] [] h n = tt
arms_inside names q [] (b ∷ bs) h n = absurd h
arms_inside names q (e ∷ es) [] h n = absurd h
arms_inside names q (e ∷ es) (b ∷ bs) h n =
    let rest : List Event = flat_map (λ (a : ArmOf Flows). (a.body names).events) bs in
    each-join (NoneOf q) (b.body names).paths (arm_paths names bs) ((h.0.body names).inside q (none-left q (b.body names).events rest n))
    (arms_inside names q es bs h.1 (none-right q (b.body names).events rest n))

start_inside : (q : Event → Bool) (c : Bool) → Each (NoneOf q) (no_match c).paths
start_inside q true = (refl, tt)
start_inside q false = tt

start_ends : (A : Bit → Bool) (s t : State) → Same A s.valuation t.valuation → (d f : Bool) → d ≡ false → f ≡ false → Outcome A (no_match (not d && not f)).paths s t s t
start_ends A s t same true f h k = cc
start_ends A s t same false true h k = cc
start_ends A s t same false false h k = (inl same, refl, refl)

-- of an equal effect
runs_same : (g h : State → State) (f : Flow) → ((s : State) → g s ≡ h s) → Runs h f → Runs g f
runs_same g h f e r = record {
  some = r.some;
  inside = r.inside;
  run = λ A s t same cs.
      subst (λ (s' : State). Outcome A f.paths s t s' (g t)) (sym (e s)) (subst (λ (t' : State). Outcome A f.paths s t (h s) t') (sym (e t)) (r.run A s t same cs));
}

not_both : (b : Bool) → b ≡ true → b ≡ false → ⊥
not_both b h k = cc

module _ (wild : Bool) (x : Expr) (es : List (ArmOf Effect)) (bs : List (ArmOf Flows)) (h : Pairs SameArm es bs) (names : Names) where
  abbrev labels : List Expr
  labels = all_labels bs

  abbrev default : Bool
  default = list_any (λ (a : ArmOf Flows). is_default a.labels) bs

  abbrev full : Bool
  full = is_full names wild x labels

  abbrev start : Flow
  start = no_match (not default && not full)

  abbrev seen : List Bit
  seen = (read_expr names x).reads ++ label_reads names labels

  abbrev arms : Flow
  arms = record { events = flat_map (λ (a : ArmOf Flows). (a.body names).events) bs; paths = arm_paths names bs ++ start.paths }

  -- whether a label fits, with these labels in all
  abbrev fitting : List Expr → Valuation → Expr → Bool
  fitting ls v = is_match names v wild (common names x ls) ((meaning names x).value (common names x ls).width (common names x ls).signed v)

  some_start : (d f : Bool) → d ≡ false → f ≡ false → Somewhere Any (no_match (not d && not f)).paths
  some_start true f n m = cc
  some_start false true n m = cc
  some_start false false n m = inl tt

  -- an arm, or the way without a match, which is there where no arm is
  case_some_by : (es : List (ArmOf Effect)) (cs : List (ArmOf Flows)) → Pairs SameArm es cs →
      Somewhere Any (arm_paths names cs ++ (no_match (not (list_any (λ (a : ArmOf Flows). is_default a.labels) cs) && not (is_full names wild x (all_labels cs)))).paths)
  case_some_by [] [] k = some_start false (is_full names wild x []) refl
      (elim (decide (is_full names wild x [])) [ inl f ↦ absurd (not_both false (full_fits names wild x [] nowhere f) refl) | inr f ↦ f ])
  case_some_by [] (c ∷ cs) k = absurd k
  case_some_by (e ∷ es) [] k = absurd k
  case_some_by (e ∷ es) (c ∷ cs) k =
      some-left Any (arm_paths names (c ∷ cs)) _ (some-left Any (c.body names).paths (arm_paths names cs) (k.0.body names).some)

  case_some : Somewhere Any arms.paths
  case_some = case_some_by es bs h

  case_run : (A : Bit → Bool) (s t : State) → Same A s.valuation t.valuation → ReadsIn A seen → Each (Covered A) arms.paths →
      Outcome A arms.paths s t (TreeCase wild x es names s) (TreeCase wild x es names t)
  case_run A s t same reads cs =
      let v : Valuation = s.valuation in
      let w : Valuation = t.valuation in
      let known : Same (has_bit seen) v w = covered_same A seen v w same reads in
      let selector : Equal v w (meaning names x) = (faithful names x).same v w (same-left (read_expr names x).reads (label_reads names labels) v w known) in
      let equal : Each (EqualLabel names v w) labels = read_labels names v w labels (same-right (read_expr names x).reads (label_reads names labels) v w known) in
      let number : (meaning names x).value (common names x labels).width (common names x labels).signed v ≡ (meaning names x).value (common names x labels).width (common names x labels).signed w =
      selector (common names x labels).width (common names x labels).signed in
      let out : Outcome A arms.paths s t (arm_taken (fitting labels v) es unchanged names s) (arm_taken (fitting labels w) es unchanged names t) =
      taken names A s t same (fitting labels v) (fitting labels w) es bs h
      (arms_match (fitting labels v) (fitting labels w) bs (EqualLabel names v w) (λ ls k. any_match_equal names v w wild (common names x labels) _ _ ls number k) equal)
      unchanged start.paths
      (λ d n. start_ends A s t same default full d (elim (decide full) [ inl k ↦ absurd (not_both _ (full_fits names wild x labels v k) n) | inr k ↦ k ])) cs in
      subst (λ (ls : List Expr). Outcome A arms.paths s t (arm_taken (fitting ls v) es unchanged names s) (arm_taken (fitting ls w) es unchanged names t)) (sym (labels_equal es bs h)) out

  tree_runs : Runs (TreeCase wild x es names) (TreeFlow wild x bs names)
  tree_runs =
      look-runs seen arms (TreeCase wild x es names) case_some
      (λ q n. each-join (NoneOf q) (arm_paths names bs) start.paths (arms_inside names q es bs h n) (start_inside q (not default && not full))) case_run

  pub case_runs : Runs (case_effect wild x es names) (case_flow wild x bs names)
  case_runs =
      subst (λ (f : Flow). Runs (case_effect wild x es names) f) (sym (flow_is wild x bs names))
      (runs_same (case_effect wild x es names) (TreeCase wild x es names) (TreeFlow wild x bs names) (case_is wild x es names) tree_runs)

-- ---- statements

abbrev EffectOf : Stmt → Effect
EffectOf s = fold_stmt Effect (ArmOf Effect) effect_step arm_step s

abbrev FlowOf : Stmt → Flows
FlowOf s = fold_stmt Flows (ArmOf Flows) flow_step arm_step s

mutual
  follows_by : (s : Stmt) → Rel (EffectOf s) (FlowOf s)
  follows_by b.Null = λ names. still-runs
  follows_by (b.Block' name n ss) = block_runs _ _ (all_follow ss)
  follows_by (b.If' c n s other) = if_runs c _ _ _ _ (one_follows s) (held_follows other)
  follows_by (b.Case' wild x n arms) = λ names. case_runs wild x _ _ (arms_follow arms) names
  follows_by (b.Loop' index start test again next n s) =
      λ names. loop_runs _ _ (one_follows s) (with_index names index.name) (turns names index.name start test next)
  follows_by (b.Now target x place) = λ names. now_runs names target x place
  follows_by (b.Later target x place) = λ names. later_runs names target x place _

  all_follow : {n : _} (r : Row_of-Stmt n) → Pairs Rel (fold_stmts Effect (ArmOf Effect) effect_step arm_step r) (fold_stmts Flows (ArmOf Flows) flow_step arm_step r)
  all_follow end_of-Stmt = tt
  all_follow (more_of-Stmt x xs) = (follows_by x, all_follow xs)

  one_follows : {n : _} (r : Row_of-Stmt n) → Rel (fold_one_stmt Effect (ArmOf Effect) effect_step arm_step r) (fold_one_stmt Flows (ArmOf Flows) flow_step arm_step r)
  one_follows end_of-Stmt = λ names. still-runs
  one_follows (more_of-Stmt x xs) = follows_by x

  held_follows : (r : Held-Stmt-If-2) → MaybeRel (fold_held Effect (ArmOf Effect) effect_step arm_step r) (fold_held Flows (ArmOf Flows) flow_step arm_step r)
  held_follows None' = tt
  held_follows (Some' n s) = one_follows s

  arms_follow : {n : _} (r : Row_of-Arm n) → Pairs SameArm (fold_arms Effect (ArmOf Effect) effect_step arm_step r) (fold_arms Flows (ArmOf Flows) flow_step arm_step r)
  arms_follow end_of-Arm = tt
  arms_follow (more_of-Arm ls body xs) = (record { labels = refl; body = follows_by body }, arms_follow xs)

pub follows : (names : Names) (s : Stmt) → Runs (executes names s) (flow names s)
unfolding executes flow
follows names s = follows_by s names
