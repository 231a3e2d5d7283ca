-- What is good of the names of a good target.
use Rattle.std.proofs.Common.{◌≡◌, ℕ, ◌≤◌, ◌<◌, zero, suc, Bool, true, false, not, ◌&&◌, ◌||◌, List, [], ◌∷◌, length, map, get_or, refl, sym, ◌∙◌, ap, subst, arith, Option, Some, None, pos, negsuc}
use Rattle.std.specs.Prelude.{if◌then◌else◌, nat_lt, nat_le, ◌^◌, ◌-◌}
use Rattle.std.specs.List.{list_all}
use Rattle.lv_ast.specs.declared.expr.Expr.TheOpen.{Select-F}
use Rattle.lv_source.specs.Names.{Bounds, Declared}
use Rattle.lv_source.specs.Values.{Meaning, own_value, number_of, nowhere}
use Rattle.lv_source.specs.Places.{bit_selects, count_of}
use Rattle.lv_source.specs.Meaning.{Choice, meant}
use Rattle.lv_source.specs.Sites.{Step}
use Rattle.lv_source.specs.NodeRules.{is_width, is_width_number, is_good_step, is_array_fault, is_select_fault, is_bound, is_in_order, number, most_steps}
use Rattle.lv_source.specs.Parts.{is_declared_sort}
use Rattle.lv_flat.specs.declared.expr.FlatSelect.{FlatSelect}
use Rattle.lv_flat.specs.declared.stmt.FlatName.{FlatName}
use Rattle.lv_flat.specs.declared.stmt.FlatTarget.{FlatTarget}
use Rattle.lv_flat.specs.declared.stmt.FlatTarget.TheVariants as t
use Rattle.lv_flat.specs.Signals.{Signals, signal_at}
use Rattle.lv_flat.specs.Judged.{JudgedSelect, judge_select, step_of, shown_of}
use Rattle.lv_flat.specs.Good.{are_targets}
use Rattle.lv_flat.proofs.GoodParts.{targets-Signal, targets-Cat}
use Rattle.lv_flat.proofs.Widths.{width-least, width-most}
use Rattle.lv_lower_exprs.specs.Named.{chosen_by, HasElement, is_good_select, are_good_selects}
use Rattle.lv_lower_exprs.proofs.Naming.{selects-map, has-element, taken_by}
use Rattle.lv_lower_exprs.proofs.Parts.{and-left, and-right, not-true}
use Rattle.lv_lower_blocks.specs.Aimed.{chosen_width}

selects-are : (S : Signals) (ss : List FlatSelect) → list_all (λ (c : JudgedSelect). c.good) (map (judge_select S) ss) ≡ are_good_selects S ss
selects-are S [] = refl
selects-are S (x ∷ xs) = ap (λ y. is_good_select S x && y) (selects-are S xs)

or-right : (a b : Bool) → (a || b) ≡ false → b ≡ false
or-right true b h = cc
or-right false b h = h

not-false : (a : Bool) → not a ≡ false → a ≡ true
not-false true h = refl
not-false false h = cc

signed-width : (u t : Bool) (x k : ℕ) → is_width_number (if u then (if t then pos x else negsuc k) else pos x) ≡ true → is_width x ≡ true
signed-width true true x k h = h
signed-width true false x k h = cc
signed-width false t x k h = h

number-width : (m : Meaning) → is_width_number (number_of m nowhere) ≡ true → is_width (own_value m nowhere) ≡ true
number-width m h = signed-width m.signed (nat_lt (own_value m nowhere) (2 ^ (m.width - 1))) (own_value m nowhere) (2 ^ m.width - suc (own_value m nowhere)) h

abbrev Fits : ℕ → Type 0
Fits n = (1 ≤ n) × (n ≤ 128)

fits-width : (n : ℕ) → is_width n ≡ true → Fits n
fits-width n h = (width-least n h, width-most n h)

-- a select that the declaration allows names 1 to 128 bits
step-fits : (b : Bounds) (c : Choice) → is_good_step b (step_of c) ≡ true → Fits (count_of (meant c))
step-fits b (Select-F.Bit a) h = (omega arith, omega arith)
step-fits b (Select-F.Part l r) h =
    fits-width (count_of (Select-F.Part l.meaning r.meaning))
    (and-right (is_bound (number (shown_of l)) && is_bound (number (shown_of r)) && is_in_order b (own_value l.meaning nowhere) (own_value r.meaning nowhere))
    (is_width (count_of (Select-F.Part l.meaning r.meaning))) h)
step-fits b (Select-F.Up a w) h = fits-width (own_value w.meaning nowhere) (number-width w.meaning h)
step-fits b (Select-F.Down a w) h = fits-width (own_value w.meaning nowhere) (number-width w.meaning h)

rest-fits : (S : Signals) (b : Bounds) (ss : List FlatSelect) → list_all (is_good_step b) (map step_of (taken_by S ss)) ≡ true → Fits (chosen_width 1 (map (chosen_by S) ss))
rest-fits S b [] h = (omega arith, omega arith)
rest-fits S b (s ∷ ss) h = step-fits b (judge_select S s).choice (and-left (is_good_step b (step_of (judge_select S s).choice)) (list_all (is_good_step b) (map step_of (taken_by S ss))) h)

taken-rest : (S : Signals) (o : Option Bounds) (ss : List FlatSelect) → bit_selects o (map step_of (taken_by S ss)) ≡ map step_of (taken_by S (bit_selects o ss))
taken-rest S None ss = refl
taken-rest S (Some b) [] = refl
taken-rest S (Some b) (s ∷ ss) = refl

pub record IsGoodName (S : Signals) (k : ℕ) (ss : List FlatSelect) : Type 0 where
  pub sort : is_declared_sort (signal_at S k).sort ≡ true
  pub shaped : HasElement S (signal_at S k).array ss
  pub good : are_good_selects S ss ≡ true
  pub some : 1 ≤ chosen_width 1 (bit_selects (signal_at S k).array (map (chosen_by S) ss))
  pub most : chosen_width 1 (bit_selects (signal_at S k).array (map (chosen_by S) ss)) ≤ 128

pub good-name : (S : Signals) (x : FlatTarget) (name : FlatName) (ss : List FlatSelect) → x ≡ t.Signal name ss → are_targets S x ≡ true → IsGoodName S name.signal ss
good-name S x name ss e h =
    let d : Declared = signal_at S name.signal in
    let steps : List Step = map step_of (taken_by S ss) in
    let l : Bool = list_all (λ (c : JudgedSelect). c.good) (map (judge_select S) ss) in
    let a = is_array_fault d.array steps in
    let f = is_select_fault d steps in
    let k : (is_declared_sort d.sort && (not a && (not f && l))) ≡ true = sym (ap (are_targets S) e ∙ targets-Signal S name ss) ∙ h in
    let m = and-right (is_declared_sort d.sort) (not a && (not f && l)) k in
    let n = and-right (not a) (not f && l) m in
    let rest : List Step = bit_selects d.array steps in
    let r : list_all (is_good_step d.bounds) rest ≡ true =
    not-false (list_all (is_good_step d.bounds) rest) (or-right (not (nat_le (length rest) (most_steps d))) (not (list_all (is_good_step d.bounds) rest)) (not-true f (and-left (not f) l n))) in
    let w = rest-fits S d.bounds (bit_selects d.array ss) (ap (list_all (is_good_step d.bounds)) (sym (taken-rest S d.array ss)) ∙ r) in
    let c = selects-map (chosen_by S) d.array ss in
    record {
      sort = and-left (is_declared_sort d.sort) (not a && (not f && l)) k;
      shaped = has-element S d.array ss (not-true a (and-left (not a) (not f && l) m));
      good = sym (selects-are S ss) ∙ and-right (not f) l n;
      some = subst (λ z. 1 ≤ chosen_width 1 z) (sym c) w.0;
      most = subst (λ z. chosen_width 1 z ≤ 128) (sym c) w.1;
    }

pub parts-good : (S : Signals) (x : FlatTarget) (ts : List FlatTarget) → x ≡ t.Cat ts → are_targets S x ≡ true → list_all (λ (y : Bool). y) (map (are_targets S) ts) ≡ true
parts-good S x ts e h = sym (ap (are_targets S) e ∙ targets-Cat S ts) ∙ h

pub part-good : (S : Signals) (ts : List FlatTarget) (i : ℕ) (d : FlatTarget) → i < length ts → list_all (λ (y : Bool). y) (map (are_targets S) ts) ≡ true → are_targets S (get_or ts i d) ≡ true
part-good S [] i d lt h = absurd (omega arith)
part-good S (x ∷ xs) zero d lt h = and-left (are_targets S x) (list_all (λ (y : Bool). y) (map (are_targets S) xs)) h
part-good S (x ∷ xs) (suc i) d lt h = part-good S xs i d (omega arith) (and-right (are_targets S x) (list_all (λ (y : Bool). y) (map (are_targets S) xs)) h)
