-- A flat statement does what a statement of the source does whose names are numbers.
use Rattle.std.proofs.Common.{◌≡◌, ℕ, Bool, true, false, List, [], ◌∷◌, ◌++◌, map, refl, sym, ap, ◌∙◌, Some, None}
use Rattle.std.specs.Prelude.{flat_map}
use Rattle.lv_ast.specs.declared.expr.Expr.{Expr}
use Rattle.lv_ast.specs.declared.expr.Select.{Select}
use Rattle.lv_ast.specs.declared.stmt.Target.{Target}
use Rattle.lv_ast.specs.declared.stmt.Target.TheVariants as tt'
use Rattle.lv_ast.specs.declared.stmt.Arm as ast
use Rattle.lv_ast.specs.declared.stmt.Stmt.{Stmt}
use Rattle.lv_ast.specs.declared.stmt.Stmt.TheVariants as s
use Rattle.lv_ast.proofs.StmtFolds as tree
use Rattle.lv_source.specs.Names.{Names}
use Rattle.lv_source.specs.Meaning.{Reading, read_expr, read_select}
use Rattle.lv_source.specs.Effect.{State, Label, Arm, Piece, one_by_one, if_of, case_of, now_of, later_of}
use Rattle.lv_source.specs.Effect as source
use Rattle.lv_source.specs.Flow.{Flow, still, then_flow, all_flows, if_flow, case_flow_of, write_flow}
use Rattle.lv_source.specs.Summary.{Summary, nothing_done, then_summary, all_summaries, if_summary, case_summary_of, write_summary}
use Rattle.lv_source.specs.Views.{seen_of}
use Rattle.lv_source.proofs.Bridges.{two, map-map, map-join}
use Rattle.lv_source.proofs.Each.{Each}
use Rattle.lv_flat.specs.declared.expr.FlatExpr.{FlatExpr}
use Rattle.lv_flat.specs.declared.expr.FlatSelect.{FlatSelect}
use Rattle.lv_flat.specs.declared.stmt.FlatName.{FlatName}
use Rattle.lv_flat.specs.declared.stmt.FlatTarget.{FlatTarget, Row_of-FlatTarget, end_of-FlatTarget, more_of-FlatTarget}
use Rattle.lv_flat.specs.declared.stmt.FlatTarget.TheVariants as t
use Rattle.lv_flat.specs.declared.stmt.FlatStmt.{FlatStmt, Row_of-FlatStmt, end_of-FlatStmt, more_of-FlatStmt, Row_of-FlatArm, end_of-FlatArm, more_of-FlatArm, None', Some'}
use Rattle.lv_flat.specs.declared.stmt.FlatStmt.TheVariants as b
use Rattle.lv_flat.specs.Trees.{fold_target, fold_targets, fold_stmt, fold_stmts, fold_one_stmt, fold_arms}
use Rattle.lv_flat.specs.Signals.{Signals, signal_at}
use Rattle.lv_flat.specs.Judged.{judge, judge_select, reading}
use Rattle.lv_flat.specs.Executing.{Effect, piece_step, pieces, label_of, arm_step, effect_step, executes}
use Rattle.lv_flat.specs.Flows.{flow_step, flow, summary_step, summary}
use Rattle.lv_flat.proofs.Doings.{Done, done_by, three, Goal, goal_of, goal_one, goal_all, join_goals, done_null, done_all, done_if, done_case, done_now, done_later, if_by, case_by, now_by, later_by, arm_with}
use Rattle.lv_flat.proofs.FlatDoings.{flat_done}
use Rattle.lv_flat.proofs.SourceDoings.{source_done, source-Null, source-Block, source-If, source-If_else, source-Case, source-Now, source-Later, arm_labels_of}
use Rattle.lv_flat.proofs.Targets.{piece_of}
use Rattle.lv_settles.proofs.FlatTrees.{numbered, path_of, selects_of, has_tree, have_selects}

module _ (S : Signals) where
  abbrev names : Names
  names = numbered S

  -- ---- targets

  pub record HasTarget (ps : List Piece) : Type 0 where
    pub tree : Target
    pub is : goal_of ps ≡ goal_of (source.pieces names tree)

  goals_of : (pss : List (List Piece)) → Each HasTarget pss → (us : List Target) × (map goal_of pss ≡ map (λ u. goal_of (source.pieces names u)) us)
  goals_of [] h = ([], refl)
  goals_of (ps ∷ pss) h =
      let rest : (us : List Target) × (map goal_of pss ≡ map (λ u. goal_of (source.pieces names u)) us) = goals_of pss h.1 in
      (h.0.tree ∷ rest.0, two (λ (x : Goal) (xs : List Goal). x ∷ xs) _ _ _ _ h.0.is rest.1)

  source-Cat : (us : List Target) → source.pieces names (tt'.Cat us) ≡ flat_map (λ ps. ps) (map (source.pieces names) us)
  unfolding source.pieces
  source-Cat us = tree.fold_target-Cat (List Piece) (source.piece_step names) us

  source-Name : (name : FlatName) (ss : List Select) → source.pieces names (tt'.Name (path_of (name.signal ∷ []) name.place) ss) ≡
      (let p : Piece = record { path = path_of (name.signal ∷ []) name.place; declared = Some (signal_at S name.signal); choices = map (read_select names) ss } in p) ∷ []
  unfolding source.pieces
  source-Name name ss = refl

  target_one : (name : FlatName) (ss : List FlatSelect) → HasTarget (piece_of S name ss ∷ [])
  target_one name ss =
      let r : _ = selects_of S (map (judge_select S) ss) (have_selects S ss) in
      record {
        tree = tt'.Name (path_of (name.signal ∷ []) name.place) r.0;
        is = goal_one (piece_of S name ss) (record { path = path_of (name.signal ∷ []) name.place; declared = Some (signal_at S name.signal); choices = map (read_select names) r.0 }) refl refl r.1 ∙
            ap goal_of (sym (source-Name name r.0));
      }

  target_all : (pss : List (List Piece)) → Each HasTarget pss → HasTarget (flat_map (λ ps. ps) pss)
  target_all pss h =
      let r : (us : List Target) × (map goal_of pss ≡ map (λ u. goal_of (source.pieces names u)) us) = goals_of pss h in
      record {
        tree = tt'.Cat r.0;
        is = goal_all pss ∙ (ap join_goals (r.1 ∙ sym (map-map goal_of (source.pieces names) r.0)) ∙
            (sym (goal_all (map (source.pieces names) r.0)) ∙ ap goal_of (sym (source-Cat r.0))));
      }

  mutual
    of_target : (x : FlatTarget) → HasTarget (fold_target (List Piece) (piece_step S) x)
    of_target (t.Signal name ss) = target_one name ss
    of_target (t.Cat' n ts) = target_all _ (of_targets ts)

    of_targets : {n : _} (r : Row_of-FlatTarget n) → Each HasTarget (fold_targets (List Piece) (piece_step S) r)
    of_targets end_of-FlatTarget = tt
    of_targets (more_of-FlatTarget x xs) = (of_target x, of_targets xs)

  pub has_target : (x : FlatTarget) → HasTarget (pieces S x)
  unfolding pieces
  has_target x = of_target x

  -- ---- statements

  pub record HasStmt (d : Done) : Type 0 where
    pub tree : Stmt
    pub is : d ≡ source_done names tree

  record HasStmts (d : Done) : Type 0 where
    trees : List Stmt
    is : d ≡ done_all (map (source_done names) trees)

  abbrev before : Done → Done → Done
  before a b = record { effect = λ st. b.effect (a.effect st); events = a.events ++ b.events; paths = then_summary a.paths b.paths }

  none : HasStmts (done_by (one_by_one []) (all_flows []) (all_summaries []))
  none = record { trees = []; is = refl }

  more : (f g : Effect) (w u : Flow) (m n : Summary) → HasStmt (done_by f w m) → HasStmts (done_by g u n) →
      HasStmts (done_by (λ st. g (f st)) (then_flow w u) (then_summary m n))
  more f g w u m n h k = record {
    trees = h.tree ∷ k.trees;
    is = three _ _ _ _ _ _ refl (map-join seen_of w.events u.events) refl ∙ two before _ _ _ _ h.is k.is;
  }

  block : (d : Done) → HasStmts d → HasStmt d
  block d h = record { tree = s.Block None h.trees; is = h.is ∙ sym (source-Block names None h.trees) }

  null : HasStmt (done_by (λ st. st) still nothing_done)
  null = record { tree = s.Null; is = sym (source-Null names) }

  if_one : (c : FlatExpr) (f : Effect) (w : Flow) (m : Summary) → HasStmt (done_by f w m) →
      HasStmt (done_by (if_of (reading S c) f (λ st. st)) (if_flow (reading S c) w still) (if_summary (reading S c) m nothing_done))
  if_one c f w m h = record {
    tree = s.If (has_tree S c).tree h.tree None;
    is = if_by (reading S c) f (λ st. st) w still m nothing_done ∙
        (two (λ (r : Reading) (d : Done). done_if r d done_null) _ _ _ _ (has_tree S c).is h.is ∙ sym (source-If names (has_tree S c).tree h.tree));
  }

  if_both : (c : FlatExpr) (f g : Effect) (w u : Flow) (m n : Summary) → HasStmt (done_by f w m) → HasStmt (done_by g u n) →
      HasStmt (done_by (if_of (reading S c) f g) (if_flow (reading S c) w u) (if_summary (reading S c) m n))
  if_both c f g w u m n h k = record {
    tree = s.If (has_tree S c).tree h.tree (Some k.tree);
    is = if_by (reading S c) f g w u m n ∙
        (ap (λ (r : Reading). done_if r (done_by f w m) (done_by g u n)) (has_tree S c).is ∙
        (two (λ (d e : Done). done_if (read_expr names (has_tree S c).tree) d e) _ _ _ _ h.is k.is ∙
        sym (source-If_else names (has_tree S c).tree h.tree k.tree)));
  }

  now : (target : FlatTarget) (x : FlatExpr) (place : ℕ) →
      HasStmt (done_by (now_of (pieces S target) (reading S x)) (write_flow true (pieces S target) (reading S x) place) (write_summary (pieces S target) (reading S x)))
  now target x place = record {
    tree = s.Now (has_target target).tree (has_tree S x).tree place;
    is = now_by (pieces S target) (reading S x) place ∙
        (two (λ (g : Goal) (r : Reading). done_now g r place) _ _ _ _ (has_target target).is (has_tree S x).is ∙ sym (source-Now names (has_target target).tree (has_tree S x).tree place));
  }

  later : (target : FlatTarget) (x : FlatExpr) (place : ℕ) →
      HasStmt (done_by (later_of (pieces S target) (reading S x)) (write_flow false (pieces S target) (reading S x) place) (write_summary (pieces S target) (reading S x)))
  later target x place = record {
    tree = s.Later (has_target target).tree (has_tree S x).tree place;
    is = later_by (pieces S target) (reading S x) place ∙
        (two (λ (g : Goal) (r : Reading). done_later g r place) _ _ _ _ (has_target target).is (has_tree S x).is ∙ sym (source-Later names (has_target target).tree (has_tree S x).tree place));
  }

  -- ---- arms

  record One : Type 0 where
    labels : List Label
    effect : Effect
    flow_is : Flow
    summary_is : Summary

  abbrev labels_in : One → List Label
  labels_in z = z.labels

  abbrev done_in : One → Done
  done_in z = done_by z.effect z.flow_is z.summary_is

  record HasArms (as' : List (Arm Effect)) (ws : List (Arm Flow)) (ms : List (Arm Summary)) : Type 0 where
    ones : List One
    effects : as' ≡ map (arm_with labels_in (λ z. z.effect)) ones
    flows : ws ≡ map (arm_with labels_in (λ z. z.flow_is)) ones
    summaries : ms ≡ map (arm_with labels_in (λ z. z.summary_is)) ones
    trees : List ast.Arm
    is : map (arm_with labels_in done_in) ones ≡ map (arm_with (arm_labels_of names) (λ a. source_done names a.body)) trees

  no_arms : HasArms [] [] []
  no_arms = record { ones = []; effects = refl; flows = refl; summaries = refl; trees = []; is = refl }

  label_is : (x : FlatExpr) → label_of S x ≡ source.label_of names (has_tree S x).tree
  label_is x = two (λ r l. let z : Label = record { reading = r; literal = l } in z) _ _ _ _ (has_tree S x).is (has_tree S x).literal

  labels_are : (xs : List FlatExpr) → (ts : List Expr) × (map (label_of S) xs ≡ map (source.label_of names) ts)
  labels_are [] = ([], refl)
  labels_are (x ∷ xs) =
      let rest : (ts : List Expr) × (map (label_of S) xs ≡ map (source.label_of names) ts) = labels_are xs in
      ((has_tree S x).tree ∷ rest.0, two (λ (l : Label) (ls : List Label). l ∷ ls) _ _ _ _ (label_is x) rest.1)

  more_arms : (labels : List FlatExpr) (f : Effect) (w : Flow) (m : Summary) (as' : List (Arm Effect)) (ws : List (Arm Flow)) (ms : List (Arm Summary)) →
      HasStmt (done_by f w m) → HasArms as' ws ms →
      HasArms ((let a : Arm Effect = record { labels = map (label_of S) labels; body = f } in a) ∷ as') ((let a : Arm Flow = record { labels = map (label_of S) labels; body = w } in a) ∷ ws)
      ((let a : Arm Summary = record { labels = map (label_of S) labels; body = m } in a) ∷ ms)
  more_arms labels f w m as' ws ms h k =
      let z : One = record { labels = map (label_of S) labels; effect = f; flow_is = w; summary_is = m } in
      let ls : (ts : List Expr) × (map (label_of S) labels ≡ map (source.label_of names) ts) = labels_are labels in
      record {
        ones = z ∷ k.ones;
        effects = ap (λ xs. arm_with labels_in (λ z. z.effect) z ∷ xs) k.effects;
        flows = ap (λ xs. arm_with labels_in (λ z. z.flow_is) z ∷ xs) k.flows;
        summaries = ap (λ xs. arm_with labels_in (λ z. z.summary_is) z ∷ xs) k.summaries;
        trees = (let a : ast.Arm = record { labels = ls.0; body = h.tree } in a) ∷ k.trees;
        is = two (λ (x : Arm Done) (xs : List (Arm Done)). x ∷ xs) _ _ _ _ (two (λ (l : List Label) (d : Done). let a : Arm Done = record { labels = l; body = d } in a) _ _ _ _ ls.1 h.is) k.is;
      }

  chosen : (wild : Bool) (x : FlatExpr) (as' : List (Arm Effect)) (ws : List (Arm Flow)) (ms : List (Arm Summary)) → HasArms as' ws ms →
      HasStmt (done_by (case_of wild (reading S x) as') (case_flow_of wild (judge S x).extends (reading S x) ws) (case_summary_of wild (judge S x).extends (reading S x) ms))
  chosen wild x as' ws ms h = record {
    tree = s.Case wild (has_tree S x).tree h.trees;
    is = three _ _ _ _ _ _ (ap (case_of wild (reading S x)) h.effects) (ap (λ xs. map seen_of (case_flow_of wild (judge S x).extends (reading S x) xs).events) h.flows)
        (ap (case_summary_of wild (judge S x).extends (reading S x)) h.summaries) ∙
        (case_by labels_in (λ z. z.effect) (λ z. z.flow_is) (λ z. z.summary_is) wild (judge S x).extends (reading S x) h.ones ∙
        (ap (done_case wild (judge S x).extends (reading S x)) h.is ∙
        (two (λ (k : Bool) (r : Reading). done_case wild k r (map (arm_with (arm_labels_of names) (λ a. source_done names a.body)) h.trees)) _ _ _ _ (has_tree S x).extends (has_tree S x).is ∙
        sym (source-Case names wild (has_tree S x).tree h.trees))));
  }

  -- ---- trees

  abbrev E : FlatStmt → Effect
  E x = fold_stmt Effect (Arm Effect) (effect_step S) (arm_step S) x

  abbrev F : FlatStmt → Flow
  F x = fold_stmt Flow (Arm Flow) (flow_step S) (arm_step S) x

  abbrev M : FlatStmt → Summary
  M x = fold_stmt Summary (Arm Summary) (summary_step S) (arm_step S) x

  mutual
    of_stmt : (x : FlatStmt) → HasStmt (done_by (fold_stmt Effect (Arm Effect) (effect_step S) (arm_step S) x) (fold_stmt Flow (Arm Flow) (flow_step S) (arm_step S) x) (fold_stmt Summary
        (Arm Summary) (summary_step S) (arm_step S) x))
    of_stmt b.Null = null
    of_stmt (b.Block' n ss) = block _ (of_stmts ss)
    of_stmt (b.If' c n x None') = if_one c _ _ _ (of_one x)
    of_stmt (b.If' c n x (Some' m y)) = if_both c _ _ _ _ _ _ (of_one x) (of_one y)
    of_stmt (b.Case' wild x n arms) = chosen wild x _ _ _ (of_arms arms)
    of_stmt (b.Now target x place) = now target x place
    of_stmt (b.Later target x place) = later target x place

    of_stmts : {n : _} (r : Row_of-FlatStmt n) →
        HasStmts (done_by (one_by_one (fold_stmts Effect (Arm Effect) (effect_step S) (arm_step S) r)) (all_flows (fold_stmts Flow (Arm Flow) (flow_step S) (arm_step S) r)) (all_summaries
        (fold_stmts Summary (Arm Summary) (summary_step S) (arm_step S) r)))
    of_stmts end_of-FlatStmt = none
    of_stmts (more_of-FlatStmt x xs) = more _ _ (fold_stmt Flow (Arm Flow) (flow_step S) (arm_step S) x) (all_flows (fold_stmts Flow (Arm Flow) (flow_step S) (arm_step S) xs)) _ _ (of_stmt x)
        (of_stmts xs)

    of_one : {n : _} (r : Row_of-FlatStmt n) → HasStmt (done_by (fold_one_stmt Effect (Arm Effect) (effect_step S) (arm_step S) r) (fold_one_stmt Flow (Arm Flow) (flow_step S) (arm_step S) r)
        (fold_one_stmt Summary (Arm Summary) (summary_step S) (arm_step S) r))
    of_one end_of-FlatStmt = null
    of_one (more_of-FlatStmt x xs) = of_stmt x

    of_arms : {n : _} (r : Row_of-FlatArm n) → HasArms (fold_arms Effect (Arm Effect) (effect_step S) (arm_step S) r) (fold_arms Flow (Arm Flow) (flow_step S) (arm_step S) r) (fold_arms Summary
        (Arm Summary) (summary_step S) (arm_step S) r)
    of_arms end_of-FlatArm = no_arms
    of_arms (more_of-FlatArm labels body xs) = more_arms labels _ _ _ _ _ _ (of_stmt body) (of_arms xs)

  pub has_stmt : (x : FlatStmt) → HasStmt (flat_done S x)
  unfolding executes flow summary
  has_stmt x = of_stmt x
