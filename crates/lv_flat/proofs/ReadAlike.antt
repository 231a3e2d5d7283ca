-- A flat expression reads as the one of the source that it came from: one law for each kind of node.
use Rattle.std.proofs.Common.{◌≡◌, ℕ, Bool, true, List, [], map, refl, sym, ap, ◌∙◌}
use Rattle.std.specs.Prelude.{◌*◌, ◌&&◌, ◌++◌, false, flat_map}
use Rattle.std.specs.List.{list_all}
use Rattle.lv_bits.specs.declared.op.Op.{Op}
use Rattle.lv_ast.specs.declared.expr.Literal.{Literal}
use Rattle.lv_ast.specs.declared.expr.Path.{Path}
use Rattle.lv_ast.specs.declared.expr.Expr.TheOpen.{Expr-F, Select-F}
use Rattle.lv_ast.specs.Names.{Name}
use Rattle.lv_source.specs.Names.{Names, Declared, known}
use Rattle.lv_source.specs.Values.{own_value, nowhere, plain, widths, repeated, joined}
use Rattle.lv_source.specs.Meaning.{Reading, Choice, named, read_step, meanings}
use Rattle.lv_source.specs.Places.{Bit}
use Rattle.lv_const.specs.declared.constant.Const.{Const}
use Rattle.lv_const.specs.Constants.{constant_of}
use Rattle.lv_flat.specs.declared.expr.FlatExpr.{FlatExpr}
use Rattle.lv_flat.specs.declared.expr.FlatExpr.TheVariants as e
use Rattle.lv_flat.specs.declared.expr.FlatSelect.{FlatSelect}
use Rattle.lv_flat.specs.declared.expr.FlatSelect.TheVariants as s
use Rattle.lv_flat.specs.Signals.{Signals, signal_at}
use Rattle.lv_flat.specs.Judged.{Judged, judge, judge_select, reading, choices, number}
use Rattle.lv_flat.proofs.Judgements as j
use Rattle.lv_flat.proofs.Selects.{Same, Alike, AllAlike, named_same}
use Rattle.lv_source.proofs.Bridges.{two, map-map}

-- a constant expression that has been computed
pub record IsNumber (r : Reading) (n : ℕ) : Type 0 where
  pub value : own_value r.meaning nowhere ≡ n
  pub constant : r.constant ≡ true
  pub reads : r.reads ≡ []

pub same-number : (r : Reading) (n : ℕ) → IsNumber r n → Same (number n) r
same-number r n h = record { value = sym h.value; constant = sym h.constant; reads = sym h.reads }

-- the path of a constant doesn't count in what it reads
pub constant-alike : (c : Const) (path : Name) (cs : List Choice) → named (constant_of [] c) cs ≡ named (constant_of path c) cs
constant-alike c path cs = refl

abbrev repeated_by : ℕ → Bool → List Bit → List Reading → Reading
repeated_by n k bs rs = record {
  meaning = plain (n * widths (meanings rs)) false (λ v. repeated n (widths (meanings rs)) (joined v (meanings rs)));
  constant = k && list_all (λ r. r.constant) rs;
  reads = bs ++ flat_map (λ r. r.reads) rs;
}

repeats : (names : Names) (count : ℕ) (n : Reading) (rs : List Reading) → IsNumber n count →
    read_step names (Expr-F.Rep (number count) rs) ≡ read_step names (Expr-F.Rep n rs)
repeats names count n rs h =
    ap (λ (z : ℕ). repeated_by z true [] rs) (sym h.value) ∙
    two (λ (k : Bool) (bs : List Bit). repeated_by (own_value n.meaning nowhere) k bs rs) _ _ _ _ (sym h.constant) (sym h.reads)

module _ (S : Signals) where
  abbrev pub picked : List FlatSelect → List Choice
  picked ss = choices (map (judge_select S) ss)

  pub alike-Bit : (a : FlatExpr) (r : Reading) → reading S a ≡ r → Alike (judge_select S (s.Bit a)).choice (Select-F.Bit r)
  alike-Bit a r h = rw j.judge_select-Bit h

  pub alike-Part : (left right : ℕ) (a b : Reading) → IsNumber a left → IsNumber b right → Alike (judge_select S (s.Part left right)).choice (Select-F.Part a b)
  alike-Part left right a b h k = rw j.judge_select-Part (same-number a left h, same-number b right k)

  pub alike-Up : (a : FlatExpr) (width : ℕ) (r w : Reading) → reading S a ≡ r → IsNumber w width →
      Alike (judge_select S (s.Up a width)).choice (Select-F.Up r w)
  alike-Up a width r w h k = rw j.judge_select-Up (h, same-number w width k)

  pub alike-Down : (a : FlatExpr) (width : ℕ) (r w : Reading) → reading S a ≡ r → IsNumber w width →
      Alike (judge_select S (s.Down a width)).choice (Select-F.Down r w)
  alike-Down a width r w h k = rw j.judge_select-Down (h, same-number w width k)

  module _ (names : Names) where
    pub alike-Lit : (l : Literal) → reading S (e.Lit l) ≡ read_step names (Expr-F.Lit l)
    alike-Lit l = ap (λ (x : Judged). x.reading) (j.judge-Lit S l)

    pub alike-Const : (c : Const) (ss : List FlatSelect) (path : Path) (name : Name) (cs : List Choice) → known (names path) ≡ constant_of name c →
        AllAlike (picked ss) cs →
        reading S (e.Const c ss) ≡ read_step names (Expr-F.Name path cs)
    alike-Const c ss path name cs h k =
        ap (λ (x : Judged). x.reading) (j.judge-Const S c ss) ∙ named_same (constant_of [] c) (picked ss) cs k ∙ constant-alike c name cs ∙
        ap (λ (d : Declared). named d cs) (sym h)

    pub alike-Signal : (n : ℕ) (ss : List FlatSelect) (path : Path) (cs : List Choice) → known (names path) ≡ signal_at S n → AllAlike (picked ss) cs →
        reading S (e.Signal n ss) ≡ read_step names (Expr-F.Name path cs)
    alike-Signal n ss path cs h k =
        ap (λ (x : Judged). x.reading) (j.judge-Signal S n ss) ∙ named_same (signal_at S n) (picked ss) cs k ∙ ap (λ (d : Declared). named d cs) (sym h)

    pub alike-Un : (op : Op) (a : FlatExpr) (r : Reading) → reading S a ≡ r → reading S (e.Un op a) ≡ read_step names (Expr-F.Un op r)
    alike-Un op a r h = ap (λ (x : Judged). x.reading) (j.judge-Un S op a) ∙ ap (λ (z : Reading). read_step names (Expr-F.Un op z)) h

    pub alike-Bin : (op : Op) (a b : FlatExpr) (r t : Reading) → reading S a ≡ r → reading S b ≡ t →
        reading S (e.Bin op a b) ≡ read_step names (Expr-F.Bin op r t)
    alike-Bin op a b r t h k = ap (λ (x : Judged). x.reading) (j.judge-Bin S op a b) ∙ two (λ (y z : Reading). read_step names (Expr-F.Bin op y z)) _ _ _ _ h k

    pub alike-Div : (a b : FlatExpr) (r t : Reading) → reading S a ≡ r → reading S b ≡ t → reading S (e.Div a b) ≡ read_step names (Expr-F.Div r t)
    alike-Div a b r t h k = ap (λ (x : Judged). x.reading) (j.judge-Div S a b) ∙ two (λ (y z : Reading). read_step names (Expr-F.Div y z)) _ _ _ _ h k

    pub alike-Rem : (a b : FlatExpr) (r t : Reading) → reading S a ≡ r → reading S b ≡ t → reading S (e.Rem a b) ≡ read_step names (Expr-F.Rem r t)
    alike-Rem a b r t h k = ap (λ (x : Judged). x.reading) (j.judge-Rem S a b) ∙ two (λ (y z : Reading). read_step names (Expr-F.Rem y z)) _ _ _ _ h k

    pub alike-Cond : (c a b : FlatExpr) (q r t : Reading) → reading S c ≡ q → reading S a ≡ r → reading S b ≡ t →
        reading S (e.Cond c a b) ≡ read_step names (Expr-F.Cond q r t)
    alike-Cond c a b q r t g h k =
        ap (λ (x : Judged). x.reading) (j.judge-Cond S c a b) ∙ ap (λ (z : Reading). read_step names (Expr-F.Cond z (reading S a) (reading S b))) g ∙
        two (λ (y z : Reading). read_step names (Expr-F.Cond q y z)) _ _ _ _ h k

    pub alike-Cat : (es : List FlatExpr) (rs : List Reading) → map (reading S) es ≡ rs → reading S (e.Cat es) ≡ read_step names (Expr-F.Cat rs)
    alike-Cat es rs h =
        ap (λ (x : Judged). x.reading) (j.judge-Cat S es) ∙
        ap (λ (zs : List Reading). read_step names (Expr-F.Cat zs)) (map-map (λ (x : Judged). x.reading) (judge S) es ∙ h)

    pub alike-Rep : (count : ℕ) (es : List FlatExpr) (n : Reading) (rs : List Reading) → IsNumber n count → map (reading S) es ≡ rs →
        reading S (e.Rep count es) ≡ read_step names (Expr-F.Rep n rs)
    alike-Rep count es n rs h k =
        ap (λ (x : Judged). x.reading) (j.judge-Rep S count es) ∙
        ap (λ (zs : List Reading). read_step names (Expr-F.Rep (number count) zs)) (map-map (λ (x : Judged). x.reading) (judge S) es ∙ k) ∙
        repeats names count n rs h

    pub alike-Cast : (signed : Bool) (a : FlatExpr) (r : Reading) → reading S a ≡ r → reading S (e.Cast signed a) ≡ read_step names (Expr-F.Cast signed r)
    alike-Cast signed a r h = ap (λ (x : Judged). x.reading) (j.judge-Cast S signed a) ∙ ap (λ (z : Reading). read_step names (Expr-F.Cast signed z)) h
