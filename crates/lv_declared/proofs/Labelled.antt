-- The labels of a statement by its form.
use Rattle.std.proofs.Common.{◌≡◌, List, [], ◌∷◌, ◌++◌, map, flat_map, append_assoc, refl, sym, ap, ◌∙◌, Option, None, Some, Result, Ok, Err}
use Rattle.std.specs.Prelude.{OnOk, option_map}
use Rattle.std.proofs.lemmas.List.{map-append}
use Rattle.lv_ast.specs.declared.expr.Expr.{Expr}
use Rattle.lv_ast.specs.declared.stmt.Ident.{Ident}
use Rattle.lv_ast.specs.declared.stmt.Arm.{Arm}
use Rattle.lv_ast.specs.declared.stmt.Target.{Target}
use Rattle.lv_ast.specs.declared.stmt.Stmt.{Stmt}
use Rattle.lv_ast.specs.declared.stmt.Stmt.TheVariants as b
use Rattle.lv_ast.proofs.StmtFolds as fold
use Rattle.lv_source.specs.Effect.{ArmOf, arm_step}
use Rattle.lv_source.specs.Declarations.{Declaration, Label, declare, labels, label_of, labels_or, label_step}
use Rattle.lv_source.proofs.Summaries.{append-none}

pub ok_to : {A E : Type 0} (r : Result A E) (P Q : Type 0) → (P → Q) → OnOk r P → OnOk r Q
ok_to (Ok x) P Q f h = f h
ok_to (Err e) P Q f h = h

joined : {X Y Z : Type 0} (f : Y → List Z) (g : X → Y) (xs : List X) → flat_map f (map g xs) ≡ flat_map (λ x. f (g x)) xs
joined f g [] = refl
joined f g (x ∷ xs) = ap (λ zs. f (g x) ++ zs) (joined f g xs)

labels-Null : labels b.Null ≡ []
unfolding labels
labels-Null = refl

labels-Block : (name : Option Ident) (ss : List Stmt) → labels (b.Block name ss) ≡ label_of name ++ flat_map labels ss
unfolding labels
labels-Block name ss =
    fold.fold_stmt-Block (List Ident) (ArmOf (List Ident)) label_step arm_step name ss ∙
    ap (λ xs. label_of name ++ xs) (joined (λ xs. xs) labels ss)

labels-If : (x : Expr) (s : Stmt) (other : Option Stmt) → labels (b.If x s other) ≡ labels s ++ labels_or (option_map labels other)
unfolding labels
labels-If x s None = fold.fold_stmt-If (List Ident) (ArmOf (List Ident)) label_step arm_step x s
labels-If x s (Some t) = fold.fold_stmt-If_else (List Ident) (ArmOf (List Ident)) label_step arm_step x s t

labels-Case : (wild : _) (x : Expr) (arms : List Arm) → labels (b.Case wild x arms) ≡ flat_map (λ a. labels a.body) arms
unfolding labels
labels-Case wild x arms =
    fold.fold_stmt-Case (List Ident) (ArmOf (List Ident)) label_step arm_step wild x arms ∙ joined (λ (a : ArmOf (List Ident)). a.body) _ arms

labels-Loop : (index : Ident) (start test : Expr) (again : Ident) (next : Expr) (s : Stmt) → labels (b.Loop index start test again next s) ≡ labels s
unfolding labels
labels-Loop index start test again next s = fold.fold_stmt-Loop (List Ident) (ArmOf (List Ident)) label_step arm_step index start test again next s

labels-Now : (t : Target) (x : Expr) (place : _) → labels (b.Now t x place) ≡ []
unfolding labels
labels-Now t x place = refl

labels-Later : (t : Target) (x : Expr) (place : _) → labels (b.Later t x place) ≡ []
unfolding labels
labels-Later t x place = refl

-- ---- what the arms of `add_labels` leave

module _ (old : List Declaration) (s : Stmt) where
  both : (xs ys : List Ident) → (old ++ map (declare Label) xs) ++ map (declare Label) ys ≡ old ++ map (declare Label) (xs ++ ys)
  both xs ys = append_assoc old (map (declare Label) xs) (map (declare Label) ys) ∙ ap (λ ds. old ++ ds) (sym (map-append (declare Label) xs ys))

  nothing : labels s ≡ [] → old ≡ old ++ map (declare Label) (labels s)
  nothing e = sym (append-none old) ∙ ap (λ ns. old ++ map (declare Label) ns) (sym e)

  pub null_labels : s ≡ b.Null → old ≡ old ++ map (declare Label) (labels s)
  null_labels e = nothing (ap labels e ∙ labels-Null)

  pub now_labels : (t : Target) (x : Expr) (place : _) → s ≡ b.Now t x place → old ≡ old ++ map (declare Label) (labels s)
  now_labels t x place e = nothing (ap labels e ∙ labels-Now t x place)

  pub later_labels : (t : Target) (x : Expr) (place : _) → s ≡ b.Later t x place → old ≡ old ++ map (declare Label) (labels s)
  later_labels t x place e = nothing (ap labels e ∙ labels-Later t x place)

  pub block_labels : (mid new : List Declaration) (name : Option Ident) (ss xs : List Stmt) → s ≡ b.Block name ss → xs ≡ ss →
      mid ≡ old ++ map (declare Label) (label_of name) → new ≡ mid ++ map (declare Label) (flat_map labels xs) → new ≡ old ++ map (declare Label) (labels s)
  block_labels mid new name ss xs e same m h =
      h ∙ ap (λ (ys : List Stmt). mid ++ map (declare Label) (flat_map labels ys)) same ∙
      ap (λ ds. ds ++ map (declare Label) (flat_map labels ss)) m ∙ both (label_of name) (flat_map labels ss) ∙
      ap (λ ns. old ++ map (declare Label) ns) (sym (ap labels e ∙ labels-Block name ss))

  pub if_labels : (mid new : List Declaration) (x : Expr) (a z : Stmt) (other : Option Stmt) → s ≡ b.If x a other → z ≡ a →
      mid ≡ old ++ map (declare Label) (labels z) → new ≡ mid ++ map (declare Label) (labels_or (option_map labels other)) →
      new ≡ old ++ map (declare Label) (labels s)
  if_labels mid new x a z other e same m h =
      h ∙ ap (λ ds. ds ++ map (declare Label) (labels_or (option_map labels other))) (m ∙ ap (λ (q : Stmt). old ++ map (declare Label) (labels q)) same) ∙
      both (labels a) (labels_or (option_map labels other)) ∙
      ap (λ ns. old ++ map (declare Label) ns) (sym (ap labels e ∙ labels-If x a other))

  pub case_labels : (new : List Declaration) (wild : _) (x : Expr) (arms xs : List Arm) → s ≡ b.Case wild x arms → xs ≡ arms →
      new ≡ old ++ map (declare Label) (flat_map (λ (a : Arm). labels a.body) xs) → new ≡ old ++ map (declare Label) (labels s)
  case_labels new wild x arms xs e same h =
      h ∙ ap (λ (ys : List Arm). old ++ map (declare Label) (flat_map (λ (a : Arm). labels a.body) ys)) same ∙
      ap (λ ns. old ++ map (declare Label) ns) (sym (ap labels e ∙ labels-Case wild x arms))

  pub loop_labels : (new : List Declaration) (index : Ident) (start test : Expr) (again : Ident) (next : Expr) (a z : Stmt) →
      s ≡ b.Loop index start test again next a → z ≡ a →
      new ≡ old ++ map (declare Label) (labels z) → new ≡ old ++ map (declare Label) (labels s)
  loop_labels new index start test again next a z e same h =
      h ∙ ap (λ (y : Stmt). old ++ map (declare Label) (labels y)) same ∙
      ap (λ ns. old ++ map (declare Label) ns) (sym (ap labels e ∙ labels-Loop index start test again next a))
