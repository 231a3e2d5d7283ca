-- What is known of the parts of a good expression.
use Rattle.std.proofs.Common.{◌≡◌, ℕ, ◌≤◌, Bool, true, false, not, ◌&&◌, List, [], ◌∷◌, map, refl, sym, ◌∙◌, ap, arith}
use Rattle.std.specs.Prelude.{nat_le}
use Rattle.std.specs.List.{list_all}
use Rattle.lv_bits.specs.declared.op.Op.{Op}
use Rattle.lv_bits.specs.Values.{is_unary}
use Rattle.lv_ast.specs.declared.expr.Literal.{Literal}
use Rattle.lv_source.specs.Names.{Declared, is_constant_sort}
use Rattle.lv_source.specs.Values.{unary, binary, chosen, cast, literal, divided, quotient, remainder, concatenated, replicated}
use Rattle.lv_source.specs.Meaning.{Reading, named, all_constant}
use Rattle.lv_source.specs.NodeRules.{is_width, is_array_fault, is_select_fault}
use Rattle.lv_source.specs.Parts.{is_declared_sort}
use Rattle.lv_const.specs.declared.constant.Const.{Const}
use Rattle.lv_const.specs.Constants.{constant_of}
use Rattle.lv_flat.specs.declared.expr.FlatExpr.{FlatExpr}
use Rattle.lv_flat.specs.declared.expr.FlatExpr.TheVariants as e
use Rattle.lv_flat.specs.declared.expr.FlatExpr.TheOpen.{FlatExpr-F}
use Rattle.lv_flat.specs.declared.expr.FlatSelect.{FlatSelect}
use Rattle.lv_flat.specs.Signals.{Signals, signal_at}
use Rattle.lv_flat.specs.Judged.{Judged, JudgedSelect, judge, judge_step, judge_choice, judge_select, reading, readings, meaning, is_good, number, choices, layer_good, layer_reading, step_of}
use Rattle.lv_flat.proofs.ExprFolds.{fold_expr-out}
use Rattle.lv_flat.proofs.Judgements.{judge-Lit, judge-Const, judge-Signal, judge-Un, judge-Bin, judge-Div, judge-Rem, judge-Cond, judge-Cat, judge-Rep, judge-Cast}
use Rattle.lv_lower_exprs.specs.Named.{are_good_selects, is_good_select}

pub and-left : (a b : Bool) → (a && b) ≡ true → a ≡ true
and-left true b h = refl
and-left false b h = cc

pub and-right : (a b : Bool) → (a && b) ≡ true → b ≡ true
and-right true b h = h
and-right false b h = cc

pub not-true : (a : Bool) → not a ≡ true → a ≡ false
not-true true h = cc
not-true false h = refl

le_is : (a b : ℕ) → nat_le a b ≡ true → a ≤ b
le_is a b h = grind (arith, h)

all_of : (S : Signals) (es : List FlatExpr) → list_all (λ (r : Judged). r.good) (map (judge S) es) ≡ list_all (λ (x : Bool). x) (map (is_good S) es)
all_of S [] = refl
all_of S (x ∷ xs) = ap (λ y. is_good S x && y) (all_of S xs)

selects_of : (S : Signals) (ss : List FlatSelect) → list_all (λ (c : JudgedSelect). c.good) (map (judge_select S) ss) ≡ are_good_selects S ss
selects_of S [] = refl
selects_of S (x ∷ xs) = ap (λ y. is_good_select S x && y) (selects_of S xs)

module _ (S : Signals) where
  judged : (x : FlatExpr) → (y : FlatExpr-F Judged JudgedSelect) × (judge S x ≡ judge_step S y)
  unfolding judge judge_select
  judged x = (_, fold_expr-out Judged JudgedSelect (judge_step S) judge_choice x)

  pub good-width : (x : FlatExpr) → is_good S x ≡ true → (1 ≤ (meaning S x).width) × ((meaning S x).width ≤ 128)
  good-width x h =
      let j = judged x in
      let w : ℕ = (judge_step S j.0).reading.meaning.width in
      let same : (meaning S x).width ≡ w = ap (λ (a : Judged). a.reading.meaning.width) j.1 in
      let g : (is_width w && layer_good S j.0) ≡ true = sym (ap (λ (a : Judged). a.good) j.1) ∙ h in
      let k : is_width w ≡ true = and-left (is_width w) (layer_good S j.0) g in
      (omega (arith, same, le_is 1 w (and-left (nat_le 1 w) (nat_le w 128) k)), omega (arith, same, le_is w 128 (and-right (nat_le 1 w) (nat_le w 128) k)))

  module _ (x : FlatExpr) (h : is_good S x ≡ true) where
    -- a node's own facts
    layer : (y : FlatExpr-F Judged JudgedSelect) → judge S x ≡ judge_step S y → layer_good S y ≡ true
    layer y e = and-right (is_width (layer_reading S y).meaning.width) (layer_good S y) (sym (ap (λ (a : Judged). a.good) e) ∙ h)

    pub un-good : (op : Op) (a : FlatExpr) → x ≡ e.Un op a → (is_unary op ≡ true) × (is_good S a ≡ true)
    un-good op a e =
        let k = layer (FlatExpr-F.Un op (judge S a)) (ap (judge S) e ∙ judge-Un S op a) in
        (and-left (is_unary op) (is_good S a) k, and-right (is_unary op) (is_good S a) k)

    pub bin-good : (op : Op) (a b : FlatExpr) → x ≡ e.Bin op a b → (not (is_unary op) ≡ true) × (is_good S a ≡ true) × (is_good S b ≡ true)
    bin-good op a b e =
        let k = layer (FlatExpr-F.Bin op (judge S a) (judge S b)) (ap (judge S) e ∙ judge-Bin S op a b) in
        let m = and-right (not (is_unary op)) (is_good S a && is_good S b) k in
        (and-left (not (is_unary op)) (is_good S a && is_good S b) k, and-left (is_good S a) (is_good S b) m, and-right (is_good S a) (is_good S b) m)

    pub cond-good : (c a b : FlatExpr) → x ≡ e.Cond c a b → (is_good S c ≡ true) × (is_good S a ≡ true) × (is_good S b ≡ true)
    cond-good c a b e =
        let k = layer (FlatExpr-F.Cond (judge S c) (judge S a) (judge S b)) (ap (judge S) e ∙ judge-Cond S c a b) in
        let m = and-right (is_good S c) (is_good S a && is_good S b) k in
        (and-left (is_good S c) (is_good S a && is_good S b) k, and-left (is_good S a) (is_good S b) m, and-right (is_good S a) (is_good S b) m)

    pub cast-good : (signed : Bool) (a : FlatExpr) → x ≡ e.Cast signed a → is_good S a ≡ true
    cast-good signed a e = layer (FlatExpr-F.Cast signed (judge S a)) (ap (judge S) e ∙ judge-Cast S signed a)

    parts-of : (g a b : Bool) → ((g && a) && b) ≡ true → (g ≡ true) × (a ≡ true) × (b ≡ true)
    parts-of g a b k = let m = and-left (g && a) b k in (and-left g a m, and-right g a m, and-right (g && a) b k)

    -- both operands are good and constant
    pub div-good : (a b : FlatExpr) → x ≡ e.Div a b → (is_good S a ≡ true) × (is_good S b ≡ true) × ((reading S a).constant ≡ true) × ((reading S b).constant ≡ true)
    div-good a b e =
        let k = layer (FlatExpr-F.Div (judge S a) (judge S b)) (ap (judge S) e ∙ judge-Div S a b) in
        let p = parts-of (is_good S a) (is_good S b) ((reading S a).constant && (reading S b).constant) k in
        (p.0, p.1, and-left (reading S a).constant (reading S b).constant p.2, and-right (reading S a).constant (reading S b).constant p.2)

    pub rem-good : (a b : FlatExpr) → x ≡ e.Rem a b → (is_good S a ≡ true) × (is_good S b ≡ true) × ((reading S a).constant ≡ true) × ((reading S b).constant ≡ true)
    rem-good a b e =
        let k = layer (FlatExpr-F.Rem (judge S a) (judge S b)) (ap (judge S) e ∙ judge-Rem S a b) in
        let p = parts-of (is_good S a) (is_good S b) ((reading S a).constant && (reading S b).constant) k in
        (p.0, p.1, and-left (reading S a).constant (reading S b).constant p.2, and-right (reading S a).constant (reading S b).constant p.2)

    pub cat-good : (es : List FlatExpr) → x ≡ e.Cat es → list_all (λ (y : Bool). y) (map (is_good S) es) ≡ true
    cat-good es e = sym (all_of S es) ∙ layer (FlatExpr-F.Cat (map (judge S) es)) (ap (judge S) e ∙ judge-Cat S es)

    pub rep-good : (n : ℕ) (es : List FlatExpr) → x ≡ e.Rep n es → list_all (λ (y : Bool). y) (map (is_good S) es) ≡ true
    rep-good n es e = sym (all_of S es) ∙ layer (FlatExpr-F.Rep n (map (judge S) es)) (ap (judge S) e ∙ judge-Rep S n es)

    pub const-good : (c : Const) (ss : List FlatSelect) → x ≡ e.Const c ss → are_good_selects S ss ≡ true
    const-good c ss e =
        let d : Declared = constant_of [] c in
        let k = layer (FlatExpr-F.Const c (map (judge_select S) ss)) (ap (judge S) e ∙ judge-Const S c ss) in
        let f = is_array_fault d.array (map step_of (choices (map (judge_select S) ss))) in
        let g = is_select_fault d (map step_of (choices (map (judge_select S) ss))) in
        let l = list_all (λ (c : JudgedSelect). c.good) (map (judge_select S) ss) in
        sym (selects_of S ss) ∙ and-right (not g) l (and-right (not f) (not g && l) k)

    pub signal-good : (i : ℕ) (ss : List FlatSelect) → x ≡ e.Signal i ss →
        (is_declared_sort (signal_at S i).sort ≡ true) × (is_array_fault (signal_at S i).array (map step_of (choices (map (judge_select S) ss))) ≡ false) × (are_good_selects S ss ≡ true)
    signal-good i ss e =
        let d : Declared = signal_at S i in
        let k = layer (FlatExpr-F.Signal i (map (judge_select S) ss)) (ap (judge S) e ∙ judge-Signal S i ss) in
        let f = is_array_fault d.array (map step_of (choices (map (judge_select S) ss))) in
        let g = is_select_fault d (map step_of (choices (map (judge_select S) ss))) in
        let l = list_all (λ (c : JudgedSelect). c.good) (map (judge_select S) ss) in
        let m = and-right (is_declared_sort d.sort) (not f && (not g && l)) k in
        (and-left (is_declared_sort d.sort) (not f && (not g && l)) k, not-true f (and-left (not f) (not g && l) m), sym (selects_of S ss) ∙ and-right (not g) l (and-right (not f) (not g && l) m))

  -- ---- readings

  read_by : (x : FlatExpr) (y : FlatExpr) (r : Judged) → x ≡ y → judge S y ≡ r → reading S x ≡ r.reading
  read_by x y r h i = ap (λ (z : FlatExpr). reading S z) h ∙ ap (λ (j : Judged). j.reading) i

  all_readings : (es : List FlatExpr) → readings (map (judge S) es) ≡ map (reading S) es
  all_readings [] = refl
  all_readings (x ∷ xs) = ap (λ ys. reading S x ∷ ys) (all_readings xs)

  all_meanings : (es : List FlatExpr) → map (λ (r : Reading). r.meaning) (map (reading S) es) ≡ map (meaning S) es
  all_meanings [] = refl
  all_meanings (x ∷ xs) = ap (λ ys. meaning S x ∷ ys) (all_meanings xs)

  meanings_of : (es : List FlatExpr) → map (λ (r : Reading). r.meaning) (readings (map (judge S) es)) ≡ map (meaning S) es
  meanings_of es = ap (map (λ (r : Reading). r.meaning)) (all_readings es) ∙ all_meanings es

  pub un-means : (x : FlatExpr) (op : Op) (a : FlatExpr) → x ≡ e.Un op a → meaning S x ≡ unary op (meaning S a)
  un-means x op a e = ap (λ (y : FlatExpr). meaning S y) e ∙ ap (λ (j : Judged). j.reading.meaning) (judge-Un S op a)

  pub bin-means : (x : FlatExpr) (op : Op) (a b : FlatExpr) → x ≡ e.Bin op a b → meaning S x ≡ binary op (meaning S a) (meaning S b)
  bin-means x op a b e = ap (λ (y : FlatExpr). meaning S y) e ∙ ap (λ (j : Judged). j.reading.meaning) (judge-Bin S op a b)

  pub cond-means : (x c a b : FlatExpr) → x ≡ e.Cond c a b → meaning S x ≡ chosen (meaning S c) (meaning S a) (meaning S b)
  cond-means x c a b e = ap (λ (y : FlatExpr). meaning S y) e ∙ ap (λ (j : Judged). j.reading.meaning) (judge-Cond S c a b)

  pub cast-means : (x : FlatExpr) (signed : Bool) (a : FlatExpr) → x ≡ e.Cast signed a → meaning S x ≡ cast signed (meaning S a)
  cast-means x signed a e = ap (λ (y : FlatExpr). meaning S y) e ∙ ap (λ (j : Judged). j.reading.meaning) (judge-Cast S signed a)

  pub lit-means : (x : FlatExpr) (l : Literal) → x ≡ e.Lit l → meaning S x ≡ literal l
  lit-means x l e = ap (λ (y : FlatExpr). meaning S y) e ∙ ap (λ (j : Judged). j.reading.meaning) (judge-Lit S l)

  pub div-means : (x a b : FlatExpr) → x ≡ e.Div a b → meaning S x ≡ divided quotient (meaning S a) (meaning S b)
  div-means x a b e = ap (λ (y : FlatExpr). meaning S y) e ∙ ap (λ (j : Judged). j.reading.meaning) (judge-Div S a b)

  pub rem-means : (x a b : FlatExpr) → x ≡ e.Rem a b → meaning S x ≡ divided remainder (meaning S a) (meaning S b)
  rem-means x a b e = ap (λ (y : FlatExpr). meaning S y) e ∙ ap (λ (j : Judged). j.reading.meaning) (judge-Rem S a b)

  pub cat-means : (x : FlatExpr) (es : List FlatExpr) → x ≡ e.Cat es → meaning S x ≡ concatenated (map (meaning S) es)
  cat-means x es e = ap (λ (y : FlatExpr). meaning S y) e ∙ (ap (λ (j : Judged). j.reading.meaning) (judge-Cat S es) ∙ ap concatenated (meanings_of es))

  pub rep-means : (x : FlatExpr) (n : ℕ) (es : List FlatExpr) → x ≡ e.Rep n es → meaning S x ≡ replicated (number n).meaning (map (meaning S) es)
  rep-means x n es e = ap (λ (y : FlatExpr). meaning S y) e ∙ (ap (λ (j : Judged). j.reading.meaning) (judge-Rep S n es) ∙ ap (replicated (number n).meaning) (meanings_of es))

  pub const-means : (x : FlatExpr) (c : Const) (ss : List FlatSelect) → x ≡ e.Const c ss → reading S x ≡ named (constant_of [] c) (choices (map (judge_select S) ss))
  const-means x c ss h = read_by x (e.Const c ss) _ h (judge-Const S c ss)

  pub signal-means : (x : FlatExpr) (i : ℕ) (ss : List FlatSelect) → x ≡ e.Signal i ss → reading S x ≡ named (signal_at S i) (choices (map (judge_select S) ss))
  signal-means x i ss h = read_by x (e.Signal i ss) _ h (judge-Signal S i ss)

  -- ---- what is constant

  pub un-constant : (x : FlatExpr) (op : Op) (a : FlatExpr) → x ≡ e.Un op a → (reading S x).constant ≡ true → (reading S a).constant ≡ true
  un-constant x op a i h = and-left (reading S a).constant true (sym (ap (λ (r : Reading). r.constant) (read_by x (e.Un op a) _ i (judge-Un S op a))) ∙ h)

  pub bin-constant : (x : FlatExpr) (op : Op) (a b : FlatExpr) → x ≡ e.Bin op a b → (reading S x).constant ≡ true → ((reading S a).constant ≡ true) × ((reading S b).constant ≡ true)
  bin-constant x op a b i h =
      let k = sym (ap (λ (r : Reading). r.constant) (read_by x (e.Bin op a b) _ i (judge-Bin S op a b))) ∙ h in
      let l = and-right (reading S a).constant ((reading S b).constant && true) k in
      (and-left (reading S a).constant ((reading S b).constant && true) k, and-left (reading S b).constant true l)

  pub cond-constant : (x c a b : FlatExpr) → x ≡ e.Cond c a b → (reading S x).constant ≡ true → ((reading S c).constant ≡ true) × ((reading S a).constant ≡ true) × ((reading S b).constant ≡ true)
  cond-constant x c a b i h =
      let k = sym (ap (λ (r : Reading). r.constant) (read_by x (e.Cond c a b) _ i (judge-Cond S c a b))) ∙ h in
      let l = and-right (reading S c).constant ((reading S a).constant && ((reading S b).constant && true)) k in
      let m = and-right (reading S a).constant ((reading S b).constant && true) l in
      (and-left (reading S c).constant ((reading S a).constant && ((reading S b).constant && true)) k, and-left (reading S a).constant ((reading S b).constant && true) l, and-left (reading S b).constant true m)

  pub cast-constant : (x : FlatExpr) (signed : Bool) (a : FlatExpr) → x ≡ e.Cast signed a → (reading S x).constant ≡ true → (reading S a).constant ≡ true
  cast-constant x signed a i h = and-left (reading S a).constant true (sym (ap (λ (r : Reading). r.constant) (read_by x (e.Cast signed a) _ i (judge-Cast S signed a))) ∙ h)

  pub cat-constant : (x : FlatExpr) (es : List FlatExpr) → x ≡ e.Cat es → (reading S x).constant ≡ true → list_all (λ (r : Reading). r.constant) (map (reading S) es) ≡ true
  cat-constant x es i h = sym (ap (λ (r : Reading). r.constant) (read_by x (e.Cat es) _ i (judge-Cat S es)) ∙ ap (list_all (λ (r : Reading). r.constant)) (all_readings es)) ∙ h

  pub rep-constant : (x : FlatExpr) (n : ℕ) (es : List FlatExpr) → x ≡ e.Rep n es → (reading S x).constant ≡ true → list_all (λ (r : Reading). r.constant) (map (reading S) es) ≡ true
  rep-constant x n es i h = sym (ap (λ (r : Reading). r.constant) (read_by x (e.Rep n es) _ i (judge-Rep S n es)) ∙ ap (list_all (λ (r : Reading). r.constant)) (all_readings es)) ∙ h

  pub const-constant : (x : FlatExpr) (c : Const) (ss : List FlatSelect) → x ≡ e.Const c ss → (reading S x).constant ≡ true → all_constant (choices (map (judge_select S) ss)) ≡ true
  const-constant x c ss i h = sym (ap (λ (r : Reading). r.constant) (const-means x c ss i)) ∙ h

  pub signal-constant : (x : FlatExpr) (k : ℕ) (ss : List FlatSelect) → x ≡ e.Signal k ss → (reading S x).constant ≡ true → is_constant_sort (signal_at S k).sort ≡ true
  signal-constant x k ss i h =
      and-left (is_constant_sort (signal_at S k).sort) (all_constant (choices (map (judge_select S) ss))) (sym (ap (λ (r : Reading). r.constant) (signal-means x k ss i)) ∙ h)
