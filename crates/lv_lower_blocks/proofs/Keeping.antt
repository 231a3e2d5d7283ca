-- The writes of a statement, by the form of the tree.
use Rattle.std.proofs.Common.{◌≡◌, ℕ, ◌+◌, ◌<◌, Bool, true, ◌&&◌, List, [], ◌∷◌, ◌++◌, length, map, take, get_or, add-one, refl, sym, ◌∙◌, ap, arith, Option, Some, None}
use Rattle.std.specs.Prelude.{zero, suc, if◌then◌else◌}
use Rattle.std.specs.List.{list_all}
use Rattle.std.proofs.Math.Seq.{take-suc}
use Rattle.lv_source.specs.Names.{Valuation}
use Rattle.lv_source.specs.Effect.{State, Update, Arm, is_met, write_all, applied, one_by_one, if_of, case_of}
use Rattle.lv_flat.specs.declared.expr.FlatExpr.{FlatExpr}
use Rattle.lv_flat.specs.declared.stmt.FlatTarget.{FlatTarget}
use Rattle.lv_flat.specs.declared.stmt.FlatArm.{FlatArm}
use Rattle.lv_flat.specs.declared.stmt.FlatStmt.{FlatStmt}
use Rattle.lv_flat.specs.declared.stmt.FlatStmt.TheVariants as b
use Rattle.lv_flat.specs.Signals.{Signals}
use Rattle.lv_flat.specs.Judged.{reading, is_good}
use Rattle.lv_flat.specs.Executing.{Effect, arm_step}
use Rattle.lv_flat.specs.Good.{good_stmt, good_target}
use Rattle.lv_flat.proofs.StmtFolds as fold
use Rattle.lv_flat.proofs.Effects.{read_arm}
use Rattle.lv_flat.proofs.GoodParts.{good-Block, good-If, good-If_else, good-Now, good-Later}
use Rattle.lv_lower_exprs.proofs.Parts.{and-left, and-right}
use Rattle.lv_lower_blocks.specs.Running.{write_step, keeps_writes, good_or, keeps_or, keeps_all, keeps_now, keeps_later}

-- an update more is applied last
pub applied-more : (us : List Update) (u : Update) (v : Valuation) → applied v (us ++ u ∷ []) ≡ write_all (applied v us) u.places u.value
applied-more [] u v = refl
applied-more (t ∷ us) u v = applied-more us u (write_all v t.places t.value)

module _ (S : Signals) where
  pub keeps-Null : (st : State) → keeps_writes S b.Null st ≡ st
  unfolding keeps_writes
  keeps-Null st = refl

  pub keeps-Block : (body : List FlatStmt) (st : State) → keeps_writes S (b.Block body) st ≡ one_by_one (map (keeps_writes S) body) st
  unfolding keeps_writes
  keeps-Block body st = ap (λ (f : Effect). f st) (fold.fold_stmt-Block Effect (Arm Effect) (write_step S) (arm_step S) body)

  pub keeps-If : (c : FlatExpr) (s : FlatStmt) (st : State) → keeps_writes S (b.If c s None) st ≡ if_of (reading S c) (keeps_writes S s) (λ (z : State). z) st
  unfolding keeps_writes
  keeps-If c s st = ap (λ (f : Effect). f st) (fold.fold_stmt-If Effect (Arm Effect) (write_step S) (arm_step S) c s)

  pub keeps-If_else : (c : FlatExpr) (s t : FlatStmt) (st : State) → keeps_writes S (b.If c s (Some t)) st ≡ if_of (reading S c) (keeps_writes S s) (keeps_writes S t) st
  unfolding keeps_writes
  keeps-If_else c s t st = ap (λ (f : Effect). f st) (fold.fold_stmt-If_else Effect (Arm Effect) (write_step S) (arm_step S) c s t)

  pub keeps-Case : (wild : Bool) (x : FlatExpr) (arms : List FlatArm) (st : State) → keeps_writes S (b.Case wild x arms) st ≡ case_of wild (reading S x) (map (read_arm S (keeps_writes S)) arms) st
  unfolding keeps_writes
  keeps-Case wild x arms st = ap (λ (f : Effect). f st) (fold.fold_stmt-Case Effect (Arm Effect) (write_step S) (arm_step S) wild x arms)

  pub keeps-Now : (target : FlatTarget) (x : FlatExpr) (place : ℕ) (st : State) → keeps_writes S (b.Now target x place) st ≡ keeps_now S target x st
  unfolding keeps_writes
  keeps-Now target x place st = refl

  pub keeps-Later : (target : FlatTarget) (x : FlatExpr) (place : ℕ) (st : State) → keeps_writes S (b.Later target x place) st ≡ keeps_later S target x st
  unfolding keeps_writes
  keeps-Later target x place st = refl

  -- ---- the parts of a statement

  pub null-keeps : (x : FlatStmt) → x ≡ b.Null → (st : State) → st ≡ keeps_writes S x st
  null-keeps x e st = sym (ap (λ (y : FlatStmt). keeps_writes S y st) e ∙ keeps-Null st)

  keeps-all : (body : List FlatStmt) (st : State) → keeps_all S body st ≡ one_by_one (map (keeps_writes S) body) st
  keeps-all [] st = refl
  keeps-all (x ∷ xs) st = keeps-all xs (keeps_writes S x st)

  pub block-keeps : (x : FlatStmt) (body : List FlatStmt) → x ≡ b.Block body → (st : State) → keeps_all S body st ≡ keeps_writes S x st
  block-keeps x body e st = keeps-all body st ∙ sym (ap (λ (y : FlatStmt). keeps_writes S y st) e ∙ keeps-Block body st)

  pub block-good : (x : FlatStmt) (body : List FlatStmt) → x ≡ b.Block body → good_stmt S x ≡ true → list_all (λ (y : Bool). y) (map (good_stmt S) body) ≡ true
  block-good x body e h = sym (ap (good_stmt S) e ∙ good-Block S body) ∙ h

  pub if-keeps : (x : FlatStmt) (c : FlatExpr) (s : FlatStmt) (o : Option FlatStmt) → x ≡ b.If c s o → (st : State) →
      (if is_met st.valuation (reading S c) then keeps_writes S s st else keeps_or S o st) ≡ keeps_writes S x st
  if-keeps x c s None e st = sym (ap (λ (y : FlatStmt). keeps_writes S y st) e ∙ keeps-If c s st)
  if-keeps x c s (Some t) e st = sym (ap (λ (y : FlatStmt). keeps_writes S y st) e ∙ keeps-If_else c s t st)

  pub if-good : (x : FlatStmt) (c : FlatExpr) (s : FlatStmt) (o : Option FlatStmt) → x ≡ b.If c s o → good_stmt S x ≡ true → (is_good S c ≡ true) × (good_stmt S s ≡ true) × (good_or S o ≡ true)
  if-good x c s None e h =
      let k : (is_good S c && (good_stmt S s && true)) ≡ true = sym (ap (good_stmt S) e ∙ good-If S c s) ∙ h in
      let m = and-right (is_good S c) (good_stmt S s && true) k in
      (and-left (is_good S c) (good_stmt S s && true) k, and-left (good_stmt S s) true m, refl)
  if-good x c s (Some q) e h =
      let k : (is_good S c && (good_stmt S s && good_stmt S q)) ≡ true = sym (ap (good_stmt S) e ∙ good-If_else S c s q) ∙ h in
      let m = and-right (is_good S c) (good_stmt S s && good_stmt S q) k in
      (and-left (is_good S c) (good_stmt S s && good_stmt S q) k, and-left (good_stmt S s) (good_stmt S q) m, and-right (good_stmt S s) (good_stmt S q) m)

  pub now-keeps : (x : FlatStmt) (target : FlatTarget) (v : FlatExpr) (place : ℕ) → x ≡ b.Now target v place → (st : State) → keeps_now S target v st ≡ keeps_writes S x st
  now-keeps x target v place e st = sym (ap (λ (y : FlatStmt). keeps_writes S y st) e ∙ keeps-Now target v place st)

  pub later-keeps : (x : FlatStmt) (target : FlatTarget) (v : FlatExpr) (place : ℕ) → x ≡ b.Later target v place → (st : State) → keeps_later S target v st ≡ keeps_writes S x st
  later-keeps x target v place e st = sym (ap (λ (y : FlatStmt). keeps_writes S y st) e ∙ keeps-Later target v place st)

  pub now-good : (x : FlatStmt) (target : FlatTarget) (v : FlatExpr) (place : ℕ) → x ≡ b.Now target v place → good_stmt S x ≡ true → (good_target S target ≡ true) × (is_good S v ≡ true)
  now-good x target v place e h =
      let k : (good_target S target && is_good S v) ≡ true = sym (ap (good_stmt S) e ∙ good-Now S target v place) ∙ h in
      (and-left (good_target S target) (is_good S v) k, and-right (good_target S target) (is_good S v) k)

  pub later-good : (x : FlatStmt) (target : FlatTarget) (v : FlatExpr) (place : ℕ) → x ≡ b.Later target v place → good_stmt S x ≡ true → (good_target S target ≡ true) × (is_good S v ≡ true)
  later-good x target v place e h =
      let k : (good_target S target && is_good S v) ≡ true = sym (ap (good_stmt S) e ∙ good-Later S target v place) ∙ h in
      (and-left (good_target S target) (is_good S v) k, and-right (good_target S target) (is_good S v) k)

  keeps_all-more : (xs : List FlatStmt) (x : FlatStmt) (st : State) → keeps_all S (xs ++ x ∷ []) st ≡ keeps_writes S x (keeps_all S xs st)
  keeps_all-more [] x st = refl
  keeps_all-more (y ∷ ys) x st = keeps_all-more ys x (keeps_writes S y st)

  pub good-at : (xs : List FlatStmt) (i : ℕ) (d : FlatStmt) → i < length xs → list_all (λ (y : Bool). y) (map (good_stmt S) xs) ≡ true → good_stmt S (get_or xs i d) ≡ true
  good-at [] i d lt h = absurd (omega arith)
  good-at (x ∷ xs) zero d lt h = and-left (good_stmt S x) (list_all (λ (y : Bool). y) (map (good_stmt S) xs)) h
  good-at (x ∷ xs) (suc i) d lt h = good-at xs i d (omega arith) (and-right (good_stmt S x) (list_all (λ (y : Bool). y) (map (good_stmt S) xs)) h)

  pub block-more : (xs : List FlatStmt) (i : ℕ) (x : FlatStmt) → i < length xs → x ≡ get_or xs i x → (st : State) → keeps_writes S x (keeps_all S (take i xs) st) ≡ keeps_all S (take (i + 1) xs) st
  block-more xs i x lt e st =
      let t : take (i + 1) xs ≡ take i xs ++ get_or xs i x ∷ [] = rw add-one (take-suc xs i x lt) in
      sym (ap (λ (ys : List FlatStmt). keeps_all S ys st) t ∙ (keeps_all-more (take i xs) (get_or xs i x) st ∙ ap (λ (y : FlatStmt). keeps_writes S y (keeps_all S (take i xs) st)) (sym e)))
