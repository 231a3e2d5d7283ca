-- The size of a statement, and the statements that stand in it, by its form.
use Rattle.std.proofs.Common.{◌≡◌, ℕ, suc, ◌+◌, Bool, true, false, List, [], ◌∷◌, ◌++◌, map, sum, length, ap, ◌∙◌, sym, refl, arith, append_assoc, flat_map, Option, Some, None}
use Rattle.std.proofs.lemmas.List.Sums.{sum_by-cons}
use Rattle.lv_ast.specs.declared.expr.Expr.{Expr}
use Rattle.lv_ast.specs.declared.stmt.Arm.{Arm}
use Rattle.lv_ast.specs.declared.stmt.Ident.{Ident}
use Rattle.lv_ast.specs.declared.stmt.Stmt.{Stmt}
use Rattle.lv_ast.specs.declared.stmt.Stmt.TheVariants as b
use Rattle.lv_ast.specs.declared.stmt.Target.{Target}
use Rattle.lv_ast.proofs.StmtFolds as fold
use Rattle.lv_source.specs.Names.{Names, Here}
use Rattle.lv_source.proofs.Summaries.{append-none}
use Rattle.lv_source.specs.Effect.{ArmOf, arm_step, with_index, turns}
use Rattle.lv_source.specs.Limits.{Size, Sizes, nodes_alone, sum_sizes, size_step, expr_nodes, target_nodes, stmt_size}
use Rattle.lv_source.specs.Standing.{Standing, Standings, standing, standing_step, one, at_turn, Empty, Test, Choose, Repeat, Assign}
use Rattle.lv_sizes.specs.Counts.{added}
use Rattle.lv_sizes.specs.Totals.{plus, total, arm_size, loop_head}

-- ---- sums of sizes

pub same-size : (a b : Size) → a.turns ≡ b.turns → a.nodes ≡ b.nodes → a ≡ b
same-size a b h k = ap (λ t. record a { turns = t }) h ∙ ap (λ n. record b { nodes = n }) k

sizes-cons : (x : Size) (xs : List Size) → sum_sizes (x ∷ xs) ≡ plus x (sum_sizes xs)
sizes-cons x xs =
    same-size (sum_sizes (x ∷ xs)) (plus x (sum_sizes xs)) (sum_by-cons (λ (n : ℕ). n) x.turns (map (λ s. s.turns) xs))
    (sum_by-cons (λ (n : ℕ). n) x.nodes (map (λ s. s.nodes) xs))

pub sizes-total : {A : Type 0} (f : A → Size) (xs : List A) → sum_sizes (map f xs) ≡ total f xs
sizes-total f [] = refl
sizes-total f (x ∷ xs) = sizes-cons (f x) (map f xs) ∙ ap (plus (f x)) (sizes-total f xs)

pub sizes-first : {A : Type 0} (x : Size) (f : A → Size) (xs : List A) → sum_sizes (x ∷ map f xs) ≡ plus x (total f xs)
sizes-first x f xs = sizes-cons x (map f xs) ∙ ap (plus x) (sizes-total f xs)

sizes-more : {A : Type 0} (f : A → Size) (xs : List A) (ys : List Size) → sum_sizes (map f xs ++ ys) ≡ plus (total f xs) (sum_sizes ys)
sizes-more f [] ys = same-size (sum_sizes ys) (plus (nodes_alone 0) (sum_sizes ys)) (omega arith) (omega arith)
sizes-more f (x ∷ xs) ys =
    sizes-cons (f x) (map f xs ++ ys) ∙ (ap (plus (f x)) (sizes-more f xs ys) ∙
    same-size (plus (f x) (plus (total f xs) (sum_sizes ys))) (plus (plus (f x) (total f xs)) (sum_sizes ys)) (omega arith) (omega arith))

pub total-map : {A B : Type 0} (f : B → Size) (g : A → B) (xs : List A) → total f (map g xs) ≡ total (λ x. f (g x)) xs
total-map f g [] = refl
total-map f g (x ∷ xs) = ap (plus (f (g x))) (total-map f g xs)

total-both : {A : Type 0} (f g : A → Size) (xs : List A) → plus (total f xs) (total g xs) ≡ total (λ x. plus (f x) (g x)) xs
total-both f g [] = refl
total-both f g (x ∷ xs) =
    same-size (plus (plus (f x) (total f xs)) (plus (g x) (total g xs))) (plus (plus (f x) (g x)) (plus (total f xs) (total g xs))) (omega arith) (omega arith) ∙
    ap (plus (plus (f x) (g x))) (total-both f g xs)

none-more : (z : Size) → plus z (nodes_alone 0) ≡ z
none-more z = same-size (plus z (nodes_alone 0)) z (omega arith) (omega arith)

-- ---- by the form of a statement

module _ (names : Names) where
  pub size-Null : stmt_size names b.Null ≡ nodes_alone 1
  unfolding stmt_size
  size-Null = ap (λ (f : Sizes). f names) (fold.fold_stmt-Null Sizes (ArmOf Sizes) size_step arm_step)

  pub size-Block : (name : Option Ident) (ss : List Stmt) → stmt_size names (b.Block name ss) ≡ plus (nodes_alone 1) (total (stmt_size names) ss)
  unfolding stmt_size
  size-Block name ss =
      ap (λ (f : Sizes). f names) (fold.fold_stmt-Block Sizes (ArmOf Sizes) size_step arm_step name ss) ∙
      (sizes-first (nodes_alone 1) (λ (f : Sizes). f names) (map (λ s. λ ns. stmt_size ns s) ss) ∙
      ap (plus (nodes_alone 1)) (total-map (λ (f : Sizes). f names) (λ s. λ ns. stmt_size ns s) ss))

  pub size-If : (x : Expr) (s : Stmt) → stmt_size names (b.If x s None) ≡ plus (nodes_alone (suc (expr_nodes x))) (stmt_size names s)
  unfolding stmt_size
  size-If x s =
      ap (λ (f : Sizes). f names) (fold.fold_stmt-If Sizes (ArmOf Sizes) size_step arm_step x s) ∙
      (sizes-first (nodes_alone (suc (expr_nodes x))) (λ (z : Size). z) (stmt_size names s ∷ []) ∙
      ap (plus (nodes_alone (suc (expr_nodes x)))) (none-more (stmt_size names s)))

  pub size-If_else : (x : Expr) (s t : Stmt) →
      stmt_size names (b.If x s (Some t)) ≡ plus (nodes_alone (suc (expr_nodes x))) (plus (stmt_size names s) (stmt_size names t))
  unfolding stmt_size
  size-If_else x s t =
      ap (λ (f : Sizes). f names) (fold.fold_stmt-If_else Sizes (ArmOf Sizes) size_step arm_step x s t) ∙
      (sizes-first (nodes_alone (suc (expr_nodes x))) (λ (z : Size). z) (stmt_size names s ∷ stmt_size names t ∷ []) ∙
      ap (λ z. plus (nodes_alone (suc (expr_nodes x))) (plus (stmt_size names s) z))
      (none-more (stmt_size names t)))

  abbrev arms-of : List Arm → List (ArmOf Sizes)
  arms-of arms = map (fold.fold_arm Sizes (ArmOf Sizes) size_step arm_step) arms

  pub size-Case : (wild : Bool) (x : Expr) (arms : List Arm) →
      stmt_size names (b.Case wild x arms) ≡ plus (nodes_alone (suc (expr_nodes x))) (total (arm_size names) arms)
  unfolding stmt_size
  size-Case wild x arms =
      let labels = λ (a : ArmOf Sizes). nodes_alone (sum (map expr_nodes a.labels)) in
      let bodies = λ (a : ArmOf Sizes). a.body names in
      ap (λ (f : Sizes). f names) (fold.fold_stmt-Case Sizes (ArmOf Sizes) size_step arm_step wild x arms) ∙
      (sizes-cons (nodes_alone (suc (expr_nodes x))) (map labels (arms-of arms) ++ map bodies (arms-of arms)) ∙
      ap (plus (nodes_alone (suc (expr_nodes x))))
      (sizes-more labels (arms-of arms) (map bodies (arms-of arms)) ∙
      (ap (plus (total labels (arms-of arms))) (sizes-total bodies (arms-of arms)) ∙
      (total-both labels bodies (arms-of arms) ∙
      total-map (λ a. plus (labels a) (bodies a)) (fold.fold_arm Sizes (ArmOf Sizes) size_step arm_step) arms))))

  pub size-Loop : (index : Ident) (start test : Expr) (again : Ident) (next : Expr) (s : Stmt) →
      stmt_size names (b.Loop index start test again next s) ≡
      plus (loop_head names index start test next)
      (total (λ k. stmt_size (with_index names index.name k) s) (turns names index.name start test next))
  unfolding stmt_size
  size-Loop index start test again next s =
      ap (λ (f : Sizes). f names) (fold.fold_stmt-Loop Sizes (ArmOf Sizes) size_step arm_step index start test again next s) ∙
      sizes-first (loop_head names index start test next)
      (λ k. stmt_size (with_index names index.name k) s) (turns names index.name start test next)

  pub size-Now : (target : Target) (x : Expr) (place : ℕ) → stmt_size names (b.Now target x place) ≡ nodes_alone (suc (target_nodes target + expr_nodes x))
  unfolding stmt_size
  size-Now target x place = ap (λ (f : Sizes). f names) (fold.fold_stmt-Now Sizes (ArmOf Sizes) size_step arm_step target x place)

  pub size-Later : (target : Target) (x : Expr) (place : ℕ) → stmt_size names (b.Later target x place) ≡ nodes_alone (suc (target_nodes target + expr_nodes x))
  unfolding stmt_size
  size-Later target x place = ap (λ (f : Sizes). f names) (fold.fold_stmt-Later Sizes (ArmOf Sizes) size_step arm_step target x place)

-- ---- what stands in it

flat-map : {A B C : Type 0} (f : B → List C) (g : A → B) (xs : List A) → flat_map f (map g xs) ≡ flat_map (λ x. f (g x)) xs
flat-map f g [] = refl
flat-map f g (x ∷ xs) = ap (λ zs. f (g x) ++ zs) (flat-map f g xs)

module _ (here : Here) where
  pub standing-Block : (name : Option Ident) (ss : List Stmt) → standing here (b.Block name ss) ≡ one here Empty ++ flat_map (standing here) ss
  unfolding standing
  standing-Block name ss =
      ap (λ (f : Standings). f here) (fold.fold_stmt-Block Standings (ArmOf Standings) standing_step arm_step name ss) ∙
      ap (λ zs. one here Empty ++ zs) (flat-map (λ (f : Standings). f here) (λ s. λ h. standing h s) ss)

  pub standing-If : (x : Expr) (s : Stmt) → standing here (b.If x s None) ≡ one here (Test x) ++ standing here s
  unfolding standing
  standing-If x s =
      ap (λ (f : Standings). f here) (fold.fold_stmt-If Standings (ArmOf Standings) standing_step arm_step x s) ∙ append-none (one here (Test x) ++ standing here s)

  pub standing-If_else : (x : Expr) (s t : Stmt) → standing here (b.If x s (Some t)) ≡ one here (Test x) ++ (standing here s ++ standing here t)
  unfolding standing
  standing-If_else x s t =
      ap (λ (f : Standings). f here) (fold.fold_stmt-If_else Standings (ArmOf Standings) standing_step arm_step x s t) ∙
      append_assoc (one here (Test x)) (standing here s) (standing here t)

  pub standing-Case : (wild : Bool) (x : Expr) (arms : List Arm) →
      standing here (b.Case wild x arms) ≡ one here (Choose x (map (λ a. a.labels) (map (fold.fold_arm Standings (ArmOf Standings) standing_step arm_step) arms))) ++
      flat_map (λ a. standing here a.body) arms
  unfolding standing
  standing-Case wild x arms =
      let steps : List (ArmOf Standings) = map (fold.fold_arm Standings (ArmOf Standings) standing_step arm_step) arms in
      ap (λ (f : Standings). f here) (fold.fold_stmt-Case Standings (ArmOf Standings) standing_step arm_step wild x arms) ∙
      ap (λ zs. one here (Choose x (map (λ a. a.labels) steps)) ++ zs)
      (flat-map (λ (a : ArmOf Standings). a.body here) (fold.fold_arm Standings (ArmOf Standings) standing_step arm_step) arms)

  pub standing-Loop : (index : Ident) (start test : Expr) (again : Ident) (next : Expr) (s : Stmt) →
      standing here (b.Loop index start test again next s) ≡
      one here (Repeat index start test again next) ++ flat_map (λ k. standing (at_turn here index.name k) s) (turns here.names index.name start test next)
  unfolding standing
  standing-Loop index start test again next s =
      ap (λ (f : Standings). f here) (fold.fold_stmt-Loop Standings (ArmOf Standings) standing_step arm_step index start test again next s)
