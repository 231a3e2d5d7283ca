-- A flat expression reads as a tree of the source does whose names are numbers.
use Rattle.std.proofs.Common.{◌≡◌, ℕ, zero, suc, ◌%◌, ◌^◌, ◌<◌, Bool, true, false, not, ◌==◌, List, [], ◌∷◌, map, refl, sym, ap, ◌∙◌, arith, pow-suc, subst, ◌&&◌, ◌*◌, ◌++◌, Option, Some, None}
use Rattle.std.specs.Prelude.{flat_map}
use Rattle.std.proofs.Math.Nat.{mod-eq_of_lt}
use Rattle.std.specs.List.{list_all}
use Rattle.lv_bits.specs.Values.{keeps_width}
use Rattle.lv_ast.specs.Names.{Name}
use Rattle.lv_ast.specs.declared.expr.Literal.{Literal}
use Rattle.lv_ast.specs.declared.expr.Path.{Path}
use Rattle.lv_ast.specs.declared.expr.Expr.{Expr, roll-Expr, map-Expr}
use Rattle.lv_ast.specs.declared.expr.Expr.TheBlock.{shape-the_row-Select-0, hidden-the_row-Select-0, shown-the_row-Select-0, shape-the_row-Expr-1, hidden-the_row-Expr-1}
use Rattle.lv_ast.specs.declared.expr.Expr.TheOpen.{Expr-F, Select-F}
use Rattle.lv_ast.specs.declared.expr.Select.{Select}
use Rattle.lv_ast.specs.declared.expr.Select.TheVariants as s
use Rattle.lv_ast.proofs.ExprFolds as tree
use Rattle.lv_source.specs.Names.{Names, Declared, Constant, known}
use Rattle.lv_source.specs.Values.{own_value, nowhere, plain, widths, repeated, joined}
use Rattle.lv_source.specs.Places.{Bit}
use Rattle.lv_source.specs.Meaning.{Reading, Choice, read_step, choice, read_expr, read_select, named, meanings}
use Rattle.lv_source.specs.Effect.{literal_of}
use Rattle.lv_source.specs.Flow.{is_extended}
use Rattle.lv_source.proofs.Each.{Each}
use Rattle.lv_source.proofs.Fits.{at_own}
use Rattle.lv_source.proofs.Bridges.{two}
use Rattle.lv_const.specs.declared.constant.Const.{Const}
use Rattle.lv_const.specs.Constants.{constant_of}
use Rattle.lv_flat.specs.declared.expr.FlatExpr.{FlatExpr, Row_of-FlatExpr, end_of-FlatExpr, more_of-FlatExpr, Row_of-FlatSelect, end_of-FlatSelect, more_of-FlatSelect}
use Rattle.lv_flat.specs.declared.expr.FlatExpr.TheVariants as e
use Rattle.lv_flat.specs.declared.expr.FlatExpr.TheOpen.{FlatExpr-F, FlatSelect-F}
use Rattle.lv_flat.specs.declared.expr.FlatSelect.{FlatSelect}
use Rattle.lv_flat.specs.declared.expr.FlatSelect.TheVariants as fs
use Rattle.lv_flat.specs.Trees.{fold_expr, fold_exprs, fold_one, fold_select, fold_selects}
use Rattle.lv_flat.specs.Signals.{Signals, signal_at}
use Rattle.lv_flat.specs.Judged.{Judged, JudgedSelect, judge, judge_select, judge_step, judge_choice, layer_reading, layer_literal, layer_extends, number, choices, readings}
use Rattle.lv_flat.proofs.Selects.{Alike, AllAlike, named_same}
use Rattle.lv_flat.proofs.ReadAlike.{IsNumber, same-number}

-- ---- names that are numbers

abbrev pub flag : Bool → ℕ
flag true = 1
flag false = 0

-- a constant by its bounds, its sign and its value
abbrev pub constant_by : ℕ → ℕ → ℕ → ℕ → Declared
constant_by left right signed value =
    record { path = []; bounds = record { left = left; right = right }; ranged = true; signed = signed == 1; array = None; sort = Constant value }

-- a name of one number is a signal, one of four a constant
abbrev pub by_numbers : Signals → Name → Option Declared
by_numbers S [] = None
by_numbers S (k ∷ []) = Some (signal_at S k)
by_numbers S (k ∷ l ∷ []) = None
by_numbers S (k ∷ l ∷ m ∷ []) = None
by_numbers S (k ∷ l ∷ m ∷ n ∷ ks) = Some (constant_by k l m n)

abbrev pub numbered : Signals → Names
numbered S p = by_numbers S p.name

flag_is : (b : Bool) → (flag b == 1) ≡ b
flag_is true = refl
flag_is false = refl

abbrev pub path_of : Name → ℕ → Path
path_of name place = record { steps = []; name = name; place = place }

constant_path : Const → Path
constant_path c = path_of (c.left ∷ c.right ∷ flag c.signed ∷ c.word.value ∷ []) 0

constant_is : (S : Signals) (c : Const) → known (numbered S (constant_path c)) ≡ constant_of [] c
unfolding constant_path
constant_is S c = ap (λ (b : Bool). let d : Declared = record { path = []; bounds = record { left = c.left; right = c.right }; ranged = true; signed = b; array = None; sort = Constant c.word.value } in d) (flag_is c.signed)

-- ---- numbers that have been computed

literal_for : ℕ → Literal
literal_for n = record { size = Some (suc n); plain = false; signed = false; value = n; wild = 0; place = 0 }

lt_power : (n : ℕ) → n < 2 ^ n
lt_power zero = omega arith
lt_power (suc n) = omega (arith, lt_power n, pow-suc 2 n)

below : (n : ℕ) → n % 2 ^ suc n ≡ n
below n = let h : n < 2 ^ suc n = omega (arith, lt_power n, pow-suc 2 n) in mod-eq_of_lt h

read_roll : (names : Names) (x : Expr-F Expr Select) → read_expr names (roll-Expr x) ≡ read_step names (map-Expr Expr Select Reading Choice (read_expr names) (read_select names) x)
unfolding read_expr read_select
read_roll names x = tree.fold_expr-roll Reading Choice (read_step names) choice x

number_tree : (names : Names) (n : ℕ) → IsNumber (read_expr names (roll-Expr (Expr-F.Lit (literal_for n)))) n
unfolding literal_for
number_tree names n =
    let e : read_expr names (roll-Expr (Expr-F.Lit (literal_for n))) ≡ read_step names (Expr-F.Lit (literal_for n)) = read_roll names (Expr-F.Lit (literal_for n)) in
    record {
      value = ap (λ (r : Reading). own_value r.meaning nowhere) e ∙ (at_own false (suc n) (n % 2 ^ suc n) ∙ below n);
      constant = ap (λ (r : Reading). r.constant) e;
      reads = ap (λ (r : Reading). r.reads) e;
    }

-- a replication, by the value of its count
abbrev repeated_by : ℕ → Bool → List Bit → List Reading → Reading
repeated_by n k bs rs = record {
  meaning = plain (n * widths (meanings rs)) false (λ v. repeated n (widths (meanings rs)) (joined v (meanings rs)));
  constant = k && list_all (λ r. r.constant) rs;
  reads = bs ++ flat_map (λ r. r.reads) rs;
}

repeats : (names : Names) (count : ℕ) (n : Reading) (rs : List Reading) → IsNumber n count →
    read_step names (Expr-F.Rep (number count) rs) ≡ read_step names (Expr-F.Rep n rs)
repeats names count n rs h =
    ap (λ (z : ℕ). repeated_by z true [] rs) (sym h.value) ∙
    two (λ (k : Bool) (bs : List Bit). repeated_by (own_value n.meaning nowhere) k bs rs) _ _ _ _ (sym h.constant) (sym h.reads)

-- ---- the form of a tree

abbrev literal_in : Expr-F Expr Select → Option Literal
literal_in (Expr-F.Lit l) = Some l
literal_in _ = None

abbrev extends_in : Expr-F Expr Select → Bool
extends_in (Expr-F.Lit l) = true
extends_in (Expr-F.Name path ss) = true
extends_in (Expr-F.Cat es) = true
extends_in (Expr-F.Rep a es) = true
extends_in (Expr-F.Cast signed a) = true
extends_in (Expr-F.Un op a) = not (keeps_width op)
extends_in (Expr-F.Bin op a b) = not (keeps_width op)
extends_in _ = false

literal_roll : (x : Expr-F Expr Select) → literal_of (roll-Expr x) ≡ literal_in x
unfolding roll-Expr shape-the_row-Select-0 hidden-the_row-Select-0 shown-the_row-Select-0 shape-the_row-Expr-1 hidden-the_row-Expr-1 denote.Hole.Carrier.hidden denote.Hole.Carrier.roll
literal_roll (Expr-F.Lit l) = refl
literal_roll (Expr-F.Name path ss) = refl
literal_roll (Expr-F.Un op a) = refl
literal_roll (Expr-F.Bin op a b) = refl
literal_roll (Expr-F.Div a b) = refl
literal_roll (Expr-F.Rem a b) = refl
literal_roll (Expr-F.Cond c a b) = refl
literal_roll (Expr-F.Cat es) = refl
literal_roll (Expr-F.Rep n es) = refl
literal_roll (Expr-F.Cast signed a) = refl

extends_roll : (x : Expr-F Expr Select) → is_extended (roll-Expr x) ≡ extends_in x
unfolding roll-Expr shape-the_row-Select-0 hidden-the_row-Select-0 shown-the_row-Select-0 shape-the_row-Expr-1 hidden-the_row-Expr-1 denote.Hole.Carrier.hidden denote.Hole.Carrier.roll
extends_roll (Expr-F.Lit l) = refl
extends_roll (Expr-F.Name path ss) = refl
extends_roll (Expr-F.Un op a) = refl
extends_roll (Expr-F.Bin op a b) = refl
extends_roll (Expr-F.Div a b) = refl
extends_roll (Expr-F.Rem a b) = refl
extends_roll (Expr-F.Cond c a b) = refl
extends_roll (Expr-F.Cat es) = refl
extends_roll (Expr-F.Rep n es) = refl
extends_roll (Expr-F.Cast signed a) = refl

-- ---- trees of the source

module _ (S : Signals) where
  abbrev names : Names
  names = numbered S

  pub record HasTree (j : Judged) : Type 0 where
    pub tree : Expr
    pub is : j.reading ≡ read_expr names tree
    pub literal : j.literal ≡ literal_of tree
    pub extends : j.extends ≡ is_extended tree

  pub record HasSelect (x : JudgedSelect) : Type 0 where
    pub select : Select
    pub is : Alike x.choice (read_select names select)

  pub selects_of : (cs : List JudgedSelect) → Each HasSelect cs → (ss : List Select) × AllAlike (choices cs) (map (read_select names) ss)
  selects_of [] h = ([], tt)
  selects_of (c ∷ cs) h =
      let rest : (ss : List Select) × AllAlike (choices cs) (map (read_select names) ss) = selects_of cs h.1 in
      (h.0.select ∷ rest.0, (h.0.is, rest.1))

  trees_of : (js : List Judged) → Each HasTree js → (ts : List Expr) × (readings js ≡ map (read_expr names) ts)
  trees_of [] h = ([], refl)
  trees_of (j ∷ js) h =
      let rest : (ts : List Expr) × (readings js ≡ map (read_expr names) ts) = trees_of js h.1 in
      (h.0.tree ∷ rest.0, two (λ (x : Reading) (xs : List Reading). x ∷ xs) _ _ _ _ h.0.is rest.1)

  -- a node, from its reading over those of the trees below
  node_by : (x : FlatExpr-F Judged JudgedSelect) (y : Expr-F Expr Select) →
      layer_reading S x ≡ read_step names (map-Expr Expr Select Reading Choice (read_expr names) (read_select names) y) →
      layer_literal x ≡ literal_in y → layer_extends x ≡ extends_in y → HasTree (judge_step S x)
  node_by x y h k l = record { tree = roll-Expr y; is = h ∙ sym (read_roll names y); literal = k ∙ sym (literal_roll y); extends = l ∙ sym (extends_roll y) }

  abbrev Below : FlatExpr-F Judged JudgedSelect → Type 0
  Below (FlatExpr-F.Lit l) = Unit {0}
  Below (FlatExpr-F.Const c cs) = Each HasSelect cs
  Below (FlatExpr-F.Signal k cs) = Each HasSelect cs
  Below (FlatExpr-F.Un op a) = HasTree a
  Below (FlatExpr-F.Bin op a b) = HasTree a × HasTree b
  Below (FlatExpr-F.Div a b) = HasTree a × HasTree b
  Below (FlatExpr-F.Rem a b) = HasTree a × HasTree b
  Below (FlatExpr-F.Cond c a b) = HasTree c × HasTree a × HasTree b
  Below (FlatExpr-F.Cat js) = Each HasTree js
  Below (FlatExpr-F.Rep count js) = Each HasTree js
  Below (FlatExpr-F.Cast signed a) = HasTree a

  node : (x : FlatExpr-F Judged JudgedSelect) → Below x → HasTree (judge_step S x)
  node (FlatExpr-F.Lit l) h = node_by (FlatExpr-F.Lit l) (Expr-F.Lit l) refl refl refl
  node (FlatExpr-F.Const c cs) h =
      let r : (ss : List Select) × AllAlike (choices cs) (map (read_select names) ss) = selects_of cs h in
      node_by (FlatExpr-F.Const c cs) (Expr-F.Name (constant_path c) r.0)
      (named_same (constant_of [] c) (choices cs) (map (read_select names) r.0) r.1 ∙ ap (λ (d : Declared). named d (map (read_select names) r.0)) (sym (constant_is S c))) refl refl
  node (FlatExpr-F.Signal k cs) h =
      let r : (ss : List Select) × AllAlike (choices cs) (map (read_select names) ss) = selects_of cs h in
      node_by (FlatExpr-F.Signal k cs) (Expr-F.Name (path_of (k ∷ []) 0) r.0) (named_same (signal_at S k) (choices cs) (map (read_select names) r.0) r.1) refl refl
  node (FlatExpr-F.Un op a) h = node_by (FlatExpr-F.Un op a) (Expr-F.Un op h.tree) (ap (λ (r : Reading). read_step names (Expr-F.Un op r)) h.is) refl refl
  node (FlatExpr-F.Bin op a b) h =
      node_by (FlatExpr-F.Bin op a b) (Expr-F.Bin op h.0.tree h.1.tree) (two (λ (r t : Reading). read_step names (Expr-F.Bin op r t)) _ _ _ _ h.0.is h.1.is) refl refl
  node (FlatExpr-F.Div a b) h =
      node_by (FlatExpr-F.Div a b) (Expr-F.Div h.0.tree h.1.tree) (two (λ (r t : Reading). read_step names (Expr-F.Div r t)) _ _ _ _ h.0.is h.1.is) refl refl
  node (FlatExpr-F.Rem a b) h =
      node_by (FlatExpr-F.Rem a b) (Expr-F.Rem h.0.tree h.1.tree) (two (λ (r t : Reading). read_step names (Expr-F.Rem r t)) _ _ _ _ h.0.is h.1.is) refl refl
  node (FlatExpr-F.Cond c a b) h =
      node_by (FlatExpr-F.Cond c a b) (Expr-F.Cond h.0.tree h.1.tree h.2.tree)
      (ap (λ (q : Reading). read_step names (Expr-F.Cond q a.reading b.reading)) h.0.is ∙
      two (λ (r t : Reading). read_step names (Expr-F.Cond (read_expr names h.0.tree) r t)) _ _ _ _ h.1.is h.2.is) refl refl
  node (FlatExpr-F.Cat js) h =
      let r : (ts : List Expr) × (readings js ≡ map (read_expr names) ts) = trees_of js h in
      node_by (FlatExpr-F.Cat js) (Expr-F.Cat r.0) (ap (λ (rs : List Reading). read_step names (Expr-F.Cat rs)) r.1) refl refl
  node (FlatExpr-F.Rep count js) h =
      let r : (ts : List Expr) × (readings js ≡ map (read_expr names) ts) = trees_of js h in
      node_by (FlatExpr-F.Rep count js) (Expr-F.Rep (roll-Expr (Expr-F.Lit (literal_for count))) r.0)
      (ap (λ (rs : List Reading). read_step names (Expr-F.Rep (number count) rs)) r.1 ∙
      repeats names count (read_expr names (roll-Expr (Expr-F.Lit (literal_for count)))) (map (read_expr names) r.0) (number_tree names count)) refl refl
  node (FlatExpr-F.Cast signed a) h =
      node_by (FlatExpr-F.Cast signed a) (Expr-F.Cast signed h.tree) (ap (λ (r : Reading). read_step names (Expr-F.Cast signed r)) h.is) refl refl

  abbrev Inside : FlatSelect-F Judged JudgedSelect → Type 0
  Inside (FlatSelect-F.Bit a) = HasTree a
  Inside (FlatSelect-F.Part left right) = Unit {0}
  Inside (FlatSelect-F.Up a width) = HasTree a
  Inside (FlatSelect-F.Down a width) = HasTree a

  abbrev tree_of : ℕ → Expr
  tree_of n = roll-Expr (Expr-F.Lit (literal_for n))

  pick : (x : FlatSelect-F Judged JudgedSelect) → Inside x → HasSelect (judge_choice x)
  unfolding read_expr read_select
  pick (FlatSelect-F.Bit a) h = record { select = s.Bit h.tree; is = subst (Alike (Select-F.Bit a.reading)) (sym (tree.fold_select-Bit Reading Choice (read_step names) choice h.tree)) h.is }
  pick (FlatSelect-F.Part left right) h = record {
    select = s.Part (tree_of left) (tree_of right);
    is = subst (Alike (Select-F.Part (number left) (number right))) (sym (tree.fold_select-Part Reading Choice (read_step names) choice (tree_of left) (tree_of right)))
        (same-number (read_expr names (tree_of left)) left (number_tree names left), same-number (read_expr names (tree_of right)) right (number_tree names right));
  }
  pick (FlatSelect-F.Up a width) h = record {
    select = s.Up h.tree (tree_of width);
    is = subst (Alike (Select-F.Up a.reading (number width))) (sym (tree.fold_select-Up Reading Choice (read_step names) choice h.tree (tree_of width)))
        (h.is, same-number (read_expr names (tree_of width)) width (number_tree names width));
  }
  pick (FlatSelect-F.Down a width) h = record {
    select = s.Down h.tree (tree_of width);
    is = subst (Alike (Select-F.Down a.reading (number width))) (sym (tree.fold_select-Down Reading Choice (read_step names) choice h.tree (tree_of width)))
        (h.is, same-number (read_expr names (tree_of width)) width (number_tree names width));
  }

  abbrev J : FlatExpr → Judged
  J x = fold_expr Judged JudgedSelect (judge_step S) judge_choice x

  mutual
    of_expr : (x : FlatExpr) → HasTree (fold_expr Judged JudgedSelect (judge_step S) judge_choice x)
    of_expr (e.Lit l) = node (FlatExpr-F.Lit l) tt
    of_expr (e.Const' c n ss) = node (FlatExpr-F.Const c (fold_selects Judged JudgedSelect (judge_step S) judge_choice ss)) (of_selects ss)
    of_expr (e.Signal' k n ss) = node (FlatExpr-F.Signal k (fold_selects Judged JudgedSelect (judge_step S) judge_choice ss)) (of_selects ss)
    of_expr (e.Un' op n a) = node (FlatExpr-F.Un op _) (of_one a)
    of_expr (e.Bin' op n a m b) = node (FlatExpr-F.Bin op _ _) (of_one a, of_one b)
    of_expr (e.Div' n a m b) = node (FlatExpr-F.Div _ _) (of_one a, of_one b)
    of_expr (e.Rem' n a m b) = node (FlatExpr-F.Rem _ _) (of_one a, of_one b)
    of_expr (e.Cond' n c m a k b) = node (FlatExpr-F.Cond _ _ _) (of_one c, of_one a, of_one b)
    of_expr (e.Cat' n es) = node (FlatExpr-F.Cat _) (of_exprs es)
    of_expr (e.Rep' count n es) = node (FlatExpr-F.Rep count _) (of_exprs es)
    of_expr (e.Cast' signed n a) = node (FlatExpr-F.Cast signed _) (of_one a)

    of_exprs : {n : _} (r : Row_of-FlatExpr n) → Each HasTree (fold_exprs Judged JudgedSelect (judge_step S) judge_choice r)
    of_exprs end_of-FlatExpr = tt
    of_exprs (more_of-FlatExpr x xs) = (of_expr x, of_exprs xs)

    of_one : {n : _} (r : Row_of-FlatExpr n) → HasTree (fold_one Judged JudgedSelect (judge_step S) judge_choice r)
    of_one end_of-FlatExpr = node (FlatExpr-F.Cat []) tt
    of_one (more_of-FlatExpr x xs) = of_expr x

    of_select : (x : FlatSelect) → HasSelect (fold_select Judged JudgedSelect (judge_step S) judge_choice x)
    of_select (fs.Bit' n a) = pick (FlatSelect-F.Bit _) (of_one a)
    of_select (fs.Part left right) = pick (FlatSelect-F.Part left right) tt
    of_select (fs.Up' n a width) = pick (FlatSelect-F.Up _ width) (of_one a)
    of_select (fs.Down' n a width) = pick (FlatSelect-F.Down _ width) (of_one a)

    of_selects : {n : _} (r : Row_of-FlatSelect n) → Each HasSelect (fold_selects Judged JudgedSelect (judge_step S) judge_choice r)
    of_selects end_of-FlatSelect = tt
    of_selects (more_of-FlatSelect x xs) = (of_select x, of_selects xs)

  pub has_tree : (x : FlatExpr) → HasTree (judge S x)
  unfolding judge
  has_tree x = of_expr x

  pub has_select : (x : FlatSelect) → HasSelect (judge_select S x)
  unfolding judge_select
  has_select x = of_select x

  pub have_selects : (xs : List FlatSelect) → Each HasSelect (map (judge_select S) xs)
  have_selects [] = tt
  have_selects (x ∷ xs) = (has_select x, have_selects xs)
