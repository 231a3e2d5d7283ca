-- The word in which a name stands, as a node of a table.
use Rattle.std.proofs.Common.{◌≡◌, ℕ, ◌<◌, ◌≤◌, Bool, true, false, List, [], ◌∷◌, length, take, drop, refl, sym, ◌∙◌, ap, arith, get_or, Option, Some, None}
use Rattle.std.specs.Prelude.{if◌then◌else◌, slice_index}
use Rattle.lv_netlist.specs.Net as net
use Rattle.lv_netlist.specs.Net.{width_at}
use Rattle.lv_source.specs.Names.{Declared, Bounds, width_of, low, size, is_signal_sort, is_clock_sort}
use Rattle.lv_flat.specs.declared.sort.Sort.{Sort}
use Rattle.lv_flat.specs.declared.sort.Sort.TheVariants.{Input, Net, Variable, Clock}
use Rattle.lv_source.specs.Values.{Chosen}
use Rattle.lv_source.specs.Places.{lowest, count_of}
use Rattle.lv_flat.specs.Cells.{Cell, cell_at, cell_of, all_cells}
use Rattle.lv_flat.specs.Signals.{Signals, signal_at, sort_of}
use Rattle.lv_values.specs.declared.value.Value.{Value}
use Rattle.lv_values.specs.declared.value.Value.TheVariants.{Node}
use Rattle.lv_values.specs.declared.index.Choices.TheVariants.{Elements}
use Rattle.lv_values.specs.Worlds.{number}
use Rattle.lv_values.specs.Picked.{element_value}
use Rattle.lv_values.proofs.Growth.{grows-refl}
use Rattle.lv_lower_exprs.specs.Tables.{IsTable, AreFirsts, Means}
use Rattle.lv_lower_exprs.specs.Named.{word_by, name_word, Stands, chosen_by, is_good_select, are_good_selects, HasElement}
use Rattle.lv_lower_exprs.proofs.Wholes.{cell_is, signal_in}
use Rattle.lv_flat.specs.declared.expr.FlatSelect.{FlatSelect}
use Rattle.lv_lower_exprs.proofs.Parts.{and-left}
use Rattle.lv_lower_exprs.proofs.Elements.{elements-show}

-- what is no clock is a signal
pub signal-sort : (k : Sort) → is_clock_sort (sort_of k) ≡ false → is_signal_sort (sort_of k) ≡ true
signal-sort Input h = refl
signal-sort Net h = refl
signal-sort Variable h = refl
signal-sort Clock h = cc

-- a signal that is no array
pub means-whole : (old : net.Net) (S : Signals) (table first : List ℕ) (k at m w : ℕ) (xs : List Chosen) → AreFirsts S first → IsTable old (all_cells S) table → is_signal_sort (signal_at S k).sort ≡ true → (signal_at S k).array ≡ None →
    at ≡ slice_index first k → m ≡ slice_index table at → w ≡ width_of (signal_at S k) → Means old old (Node m w) (all_cells S) table (width_of (signal_at S k)) (name_word (signal_at S k) xs)
means-whole old S table first k at m w xs f t h e p q i =
    let d : Declared = signal_at S k in
    let c = cell_is S k h e in
    let a : at ≡ length (all_cells (take k S)) = p ∙ f.is k (signal_in S k h) in
    let lt : at < length (all_cells S) = omega (arith, a, c.within) in
    let is : cell_at (all_cells S) at ≡ cell_of (width_of d) d.path = ap (cell_at (all_cells S)) a ∙ c.same in
    record {
      grows = grows-refl old;
      in_new = (omega (arith, q, t.within at lt), ap (width_at old.nodes) q ∙ (t.widths at lt ∙ (ap (λ (z : Cell). z.width) is ∙ sym i)));
      width = i;
      is = λ x v o s.
          ap (λ (n : ℕ). number x (Node n w)) q ∙ (s.is at lt ∙ (ap (λ (z : Cell). v z.name) is ∙
          sym (ap (λ (b : Bool). if b then word_by d.array d xs v else 0) h ∙ ap (λ (b : Option Bounds). word_by b d xs v) e)));
    }

-- an element of an array
pub means-element : {old new : net.Net} {r : Value} (S : Signals) (table nodes first : List ℕ) (k at w l : ℕ) (b : Bounds) (x : Chosen) (xs : List Chosen) → AreFirsts S first → IsTable old (all_cells S) table →
    is_signal_sort (signal_at S k).sort ≡ true → (signal_at S k).array ≡ Some b → at ≡ slice_index first k → nodes ≡ take (size b) (drop at table) → l ≡ low b → w ≡ width_of (signal_at S k) →
    Stands old new r (all_cells S) table nodes (Elements l w) (lowest x) → Means old new r (all_cells S) table (width_of (signal_at S k)) (name_word (signal_at S k) (x ∷ xs))
means-element S table nodes first k at w l b x xs f t h e p n i j a =
    let d : Declared = signal_at S k in
    let q : at ≡ length (all_cells (take k S)) = p ∙ f.is k (signal_in S k h) in
    record {
      grows = a.grows;
      in_new = a.in_new;
      width = a.width ∙ j;
      is = λ y v o s.
          a.is y v o s ∙ (ap (λ m. element_value y nodes m (lowest x v)) i ∙ (elements-show S k b h e table nodes at q n t y v s (lowest x v) ∙
          sym (ap (λ (c : Bool). if c then word_by d.array d (x ∷ xs) v else 0) h ∙ ap (λ (c : Option Bounds). word_by c d (x ∷ xs) v) e)));
    }

-- ---- the first select

pub first-select : (S : Signals) (ss : List FlatSelect) (x : FlatSelect) → 1 ≤ length ss → x ≡ get_or ss 0 x → are_good_selects S ss ≡ true → is_good_select S x ≡ true
first-select S [] x h e g = absurd (omega arith)
first-select S (y ∷ ys) x h e g = ap (is_good_select S) e ∙ and-left (is_good_select S y) (are_good_selects S ys) g

pub first-count : (S : Signals) (b : Bounds) (ss : List FlatSelect) (x : FlatSelect) → x ≡ get_or ss 0 x → HasElement S (Some b) ss → count_of (chosen_by S x) ≡ 1
first-count S b [] x e h = absurd h
first-count S b (y ∷ ys) x e h = ap (λ (z : FlatSelect). count_of (chosen_by S z)) e ∙ h

pub split-first : (ss : List FlatSelect) (x : FlatSelect) → 1 ≤ length ss → x ≡ get_or ss 0 x → ss ≡ x ∷ drop 1 ss
split-first [] x h e = absurd (omega arith)
split-first (y ∷ ys) x h e = ap (λ (z : FlatSelect). z ∷ ys) (sym e)
