-- An expression as a target, by the form of its tree.
use Rattle.std.proofs.Common.{◌≡◌, Bool, List, [], ◌∷◌, ap, ◌∙◌, sym, refl, map, Option, Some, None}
use Rattle.lv_bits.specs.declared.op.Op.{Op}
use Rattle.lv_ast.specs.declared.expr.Path.{Path}
use Rattle.lv_ast.specs.declared.expr.Literal.{Literal}
use Rattle.lv_ast.specs.declared.expr.Expr.{Expr, Row_of-Expr, end_of-Expr, more_of-Expr, Row_of-Select, end_of-Select, more_of-Select}
use Rattle.lv_ast.specs.declared.expr.Expr.TheVariants as e
use Rattle.lv_ast.specs.declared.expr.Expr.{roll-Expr, out-Expr, roll-out-Expr}
use Rattle.lv_ast.specs.declared.expr.Expr.TheVariants.{rolls-Lit, rolls-Name, rolls-Un, rolls-Bin, rolls-Div, rolls-Rem, rolls-Cond, rolls-Cat, rolls-Rep, rolls-Cast}
use Rattle.lv_ast.specs.declared.expr.Expr.TheOpen.{Expr-F, Select-F}
use Rattle.lv_ast.specs.declared.expr.Select.{Select}
use Rattle.lv_ast.specs.declared.expr.Select.TheVariants as s
use Rattle.lv_ast.specs.Trees.{fold_expr, fold_exprs, fold_one, fold_select, fold_selects}
use Rattle.lv_ast.proofs.ExprFolds as fold
use Rattle.lv_source.specs.Names.{Names, known}
use Rattle.lv_source.specs.Values.{unary, binary, chosen, concatenated, replicated, cast, divided, quotient, remainder}
use Rattle.lv_source.specs.Effect.{Piece}
use Rattle.lv_source.specs.Meaning.{Reading, Choice, reading, meanings, named, read_step, choice, read_select}
use Rattle.lv_source.specs.Parts.{Sink, sink_step, read_choice, join_targets, as_target}
use Rattle.lv_const.proofs.WalkReads.{two-same}
use Rattle.lv_resolve.specs.TargetJoins.{piece_of}
use Rattle.lv_sinks.specs.Sinks.{join_two, all_targets}

module _ (names : Names) where
  abbrev sunk : Expr → Sink
  sunk x = fold_expr Sink Choice (sink_step names) read_choice x

  abbrev one : {n : _} → Row_of-Expr n → Reading
  one r = (fold_one Sink Choice (sink_step names) read_choice r).reading

  mutual
    fold-reads : (x : Expr) → (fold_expr Sink Choice (sink_step names) read_choice x).reading ≡ fold_expr Reading Choice (read_step names) choice x
    fold-reads (e.Lit l) = refl
    fold-reads (e.Name' path n ss) = ap (named (known (names path))) (fold-selects ss)
    fold-reads (e.Un' op n a) = ap (λ r. reading (unary op r.meaning) (r ∷ [])) (fold-one a)
    fold-reads (e.Bin' op n a m b) = two-same (λ r q. reading (binary op r.meaning q.meaning) (r ∷ q ∷ [])) (fold-one a) (fold-one b)
    fold-reads (e.Div' n a m b) = two-same (λ r q. reading (divided quotient r.meaning q.meaning) (r ∷ q ∷ [])) (fold-one a) (fold-one b)
    fold-reads (e.Rem' n a m b) = two-same (λ r q. reading (divided remainder r.meaning q.meaning) (r ∷ q ∷ [])) (fold-one a) (fold-one b)
    fold-reads (e.Cond' n c m a k b) =
        ap (λ r. reading (chosen r.meaning (one a).meaning (one b).meaning) (r ∷ one a ∷ one b ∷ [])) (fold-one c) ∙
        two-same (λ r q. reading (chosen (fold_one Reading Choice (read_step names) choice c).meaning r.meaning q.meaning)
        (fold_one Reading Choice (read_step names) choice c ∷ r ∷ q ∷ [])) (fold-one a) (fold-one b)
    fold-reads (e.Cat' n es) = ap (λ rs. reading (concatenated (meanings rs)) rs) (fold-all es)
    fold-reads (e.Rep' n a m es) = two-same (λ r rs. reading (replicated r.meaning (meanings rs)) (r ∷ rs)) (fold-one a) (fold-all es)
    fold-reads (e.Cast' signed n a) = ap (λ r. reading (cast signed r.meaning) (r ∷ [])) (fold-one a)

    fold-one : {n : _} (r : Row_of-Expr n) → (fold_one Sink Choice (sink_step names) read_choice r).reading ≡ fold_one Reading Choice (read_step names) choice r
    fold-one end_of-Expr = refl
    fold-one (more_of-Expr x xs) = fold-reads x

    fold-all : {n : _} (r : Row_of-Expr n) → map (λ r. r.reading) (fold_exprs Sink Choice (sink_step names) read_choice r) ≡ fold_exprs Reading Choice (read_step names) choice r
    fold-all end_of-Expr = refl
    fold-all (more_of-Expr x xs) = two-same (λ r rs. r ∷ rs) (fold-reads x) (fold-all xs)

    fold-choice : (x : Select) → fold_select Sink Choice (sink_step names) read_choice x ≡ fold_select Reading Choice (read_step names) choice x
    fold-choice (s.Bit' n a) = ap (λ r. Select-F.Bit r) (fold-one a)
    fold-choice (s.Part' n a m b) = two-same (λ r q. Select-F.Part r q) (fold-one a) (fold-one b)
    fold-choice (s.Up' n a m b) = two-same (λ r q. Select-F.Up r q) (fold-one a) (fold-one b)
    fold-choice (s.Down' n a m b) = two-same (λ r q. Select-F.Down r q) (fold-one a) (fold-one b)

    fold-selects : {n : _} (r : Row_of-Select n) → fold_selects Sink Choice (sink_step names) read_choice r ≡ fold_selects Reading Choice (read_step names) choice r
    fold-selects end_of-Select = refl
    fold-selects (more_of-Select x xs) = two-same (λ r rs. r ∷ rs) (fold-choice x) (fold-selects xs)

  chosen-same : (ss : List Select) → map (fold_select Sink Choice (sink_step names) read_choice) ss ≡ map (read_select names) ss
  unfolding read_select
  chosen-same [] = refl
  chosen-same (z ∷ ss) = two-same (λ c cs. c ∷ cs) (fold-choice z) (chosen-same ss)

  abbrev target_with : Path → List Choice → Option (List Piece)
  target_with path cs = Some (record { path = path; declared = names path; choices = cs } ∷ [])

  pub sink-Name : (path : Path) (ss : List Select) → as_target names (e.Name path ss) ≡ Some (piece_of names path ss ∷ [])
  unfolding as_target
  sink-Name path ss = ap (λ z. z.target) (fold.fold_expr-Name Sink Choice (sink_step names) read_choice path ss) ∙ ap (target_with path) (chosen-same ss)

  joined-all : (es : List Expr) → join_targets (map (fold_expr Sink Choice (sink_step names) read_choice) es) ≡ all_targets names es
  unfolding as_target
  joined-all [] = refl
  joined-all (x ∷ es) = ap (join_two (sunk x).target) (joined-all es)

  pub sink-Cat : (es : List Expr) → as_target names (e.Cat es) ≡ all_targets names es
  unfolding as_target
  sink-Cat es = ap (λ z. z.target) (fold.fold_expr-Cat Sink Choice (sink_step names) read_choice es) ∙ joined-all es

  sink-Lit : (l : Literal) → as_target names (e.Lit l) ≡ None
  unfolding as_target
  sink-Lit l = ap (λ z. z.target) (fold.fold_expr-Lit Sink Choice (sink_step names) read_choice l)

  sink-Un : (op : Op) (a : Expr) → as_target names (e.Un op a) ≡ None
  unfolding as_target
  sink-Un op a = ap (λ z. z.target) (fold.fold_expr-Un Sink Choice (sink_step names) read_choice op a)

  sink-Bin : (op : Op) (a b : Expr) → as_target names (e.Bin op a b) ≡ None
  unfolding as_target
  sink-Bin op a b = ap (λ z. z.target) (fold.fold_expr-Bin Sink Choice (sink_step names) read_choice op a b)

  sink-Div : (a b : Expr) → as_target names (e.Div a b) ≡ None
  unfolding as_target
  sink-Div a b = ap (λ z. z.target) (fold.fold_expr-Div Sink Choice (sink_step names) read_choice a b)

  sink-Rem : (a b : Expr) → as_target names (e.Rem a b) ≡ None
  unfolding as_target
  sink-Rem a b = ap (λ z. z.target) (fold.fold_expr-Rem Sink Choice (sink_step names) read_choice a b)

  sink-Cond : (c a b : Expr) → as_target names (e.Cond c a b) ≡ None
  unfolding as_target
  sink-Cond c a b = ap (λ z. z.target) (fold.fold_expr-Cond Sink Choice (sink_step names) read_choice c a b)

  sink-Rep : (n : Expr) (es : List Expr) → as_target names (e.Rep n es) ≡ None
  unfolding as_target
  sink-Rep n es = ap (λ z. z.target) (fold.fold_expr-Rep Sink Choice (sink_step names) read_choice n es)

  sink-Cast : (signed : Bool) (a : Expr) → as_target names (e.Cast signed a) ≡ None
  unfolding as_target
  sink-Cast signed a = ap (λ z. z.target) (fold.fold_expr-Cast Sink Choice (sink_step names) read_choice signed a)

  -- whatever else
  by-layer : (z : Expr) (x : Expr-F Expr Select) → z ≡ roll-Expr x → ((path : Path) (ss : List Select) → z ≡ e.Name path ss → ⊥) → ((es : List Expr) → z ≡ e.Cat es → ⊥) →
      as_target names z ≡ None
  by-layer z (Expr-F.Lit l) k h j = ap (as_target names) (k ∙ rolls-Lit l) ∙ sink-Lit l
  by-layer z (Expr-F.Name path ss) k h j = absurd (h path ss (k ∙ rolls-Name path ss))
  by-layer z (Expr-F.Un op a) k h j = ap (as_target names) (k ∙ rolls-Un op a) ∙ sink-Un op a
  by-layer z (Expr-F.Bin op a b) k h j = ap (as_target names) (k ∙ rolls-Bin op a b) ∙ sink-Bin op a b
  by-layer z (Expr-F.Div a b) k h j = ap (as_target names) (k ∙ rolls-Div a b) ∙ sink-Div a b
  by-layer z (Expr-F.Rem a b) k h j = ap (as_target names) (k ∙ rolls-Rem a b) ∙ sink-Rem a b
  by-layer z (Expr-F.Cond c a b) k h j = ap (as_target names) (k ∙ rolls-Cond c a b) ∙ sink-Cond c a b
  by-layer z (Expr-F.Cat es) k h j = absurd (j es (k ∙ rolls-Cat es))
  by-layer z (Expr-F.Rep n es) k h j = ap (as_target names) (k ∙ rolls-Rep n es) ∙ sink-Rep n es
  by-layer z (Expr-F.Cast signed a) k h j = ap (as_target names) (k ∙ rolls-Cast signed a) ∙ sink-Cast signed a

  pub sink-other : (z : Expr) → ((path : Path) (ss : List Select) → z ≡ e.Name path ss → ⊥) → ((es : List Expr) → z ≡ e.Cat es → ⊥) → as_target names z ≡ None
  sink-other z h j = by-layer z (out-Expr z) (sym (roll-out-Expr z)) h j
