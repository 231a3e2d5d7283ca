-- The valuation of a table.
use Rattle.std.proofs.Common.{◌≡◌, inl, inr, ℕ, zero, suc, ◌<◌, Bool, true, false, List, [], ◌∷◌, length, refl, sym, ap, ◌∙◌, arith}
use Rattle.std.specs.Prelude.{bytes_eq, slice_index, if◌then◌else◌}
use Rattle.std.specs.List.{list_any}
use mathlib.Core.Path.{fun_ext}
use Rattle.lv_ast.specs.Names.{Name}
use Rattle.lv_source.specs.Names.{Valuation}
use Rattle.lv_source.proofs.Tests.{decide, same_name, name-itself, or-split, or-none_left, or-none_right}
use Rattle.lv_flat.specs.Cells.{Cell, cell_at, AreDistinct}
use Rattle.lv_values.specs.Worlds.{World}
use Rattle.lv_lower_exprs.specs.Tables.{Shows, value_at}
use Rattle.lv_lower.specs.Started.{valuation_of}

abbrev pub named_by : Name → List Cell → Bool
named_by name cs = list_any (λ (c : Cell). bytes_eq name c.name) cs

tail : (c : Cell) (cs : List Cell) → AreDistinct (c ∷ cs) → AreDistinct cs
tail c cs h i j a b e = (let s : suc i ≡ suc j = h (suc i) (suc j) (omega arith) (omega arith) e in omega arith)

not_head : (c : Cell) (cs : List Cell) → AreDistinct (c ∷ cs) → (i : ℕ) → i < length cs → bytes_eq (cell_at cs i).name c.name ≡ false
not_head c cs h i b = elim (decide (bytes_eq (cell_at cs i).name c.name)) [
  | inr n ↦ n
  | inl e ↦ absurd (let s : suc i ≡ 0 = h (suc i) 0 (omega arith) (omega arith) (same_name (cell_at cs i).name c.name e) in omega arith)
]

own : (w : World) (cs : List Cell) (ks : List ℕ) → AreDistinct cs → length ks ≡ length cs → (i : ℕ) → i < length cs → value_at w (slice_index ks i) ≡ valuation_of w cs ks (cell_at cs i).name
own w [] ks h l i b = absurd (omega arith)
own w (c ∷ cs) [] h l i b = absurd (let e : 0 ≡ suc (length cs) = l in omega arith)
own w (c ∷ cs) (k ∷ ks) h l zero b = ap (λ (t : Bool). if t then value_at w k else valuation_of w cs ks c.name) (sym (name-itself c.name))
own w (c ∷ cs) (k ∷ ks) h l (suc i) b =
    own w cs ks (tail c cs h) (omega arith) i (omega arith) ∙
    ap (λ (t : Bool). if t then value_at w k else valuation_of w cs ks (cell_at cs i).name) (sym (not_head c cs h i (omega arith)))

-- the table shows it
pub shows-own : (w : World) (cs : List Cell) (ks : List ℕ) → AreDistinct cs → length ks ≡ length cs → Shows w cs ks (valuation_of w cs ks)
shows-own w cs ks h l = record { is = own w cs ks h l }

pub rest-zero : (w : World) (cs : List Cell) (ks : List ℕ) (name : Name) → named_by name cs ≡ false → valuation_of w cs ks name ≡ 0
rest-zero w [] ks name h = refl
rest-zero w (c ∷ cs) [] name h = refl
rest-zero w (c ∷ cs) (k ∷ ks) name h =
    ap (λ (t : Bool). if t then value_at w k else valuation_of w cs ks name) (or-none_left (bytes_eq name c.name) (named_by name cs) h) ∙
    rest-zero w cs ks name (or-none_right (bytes_eq name c.name) (named_by name cs) h)

-- where a name stands
pub find-cell : (cs : List Cell) (name : Name) → named_by name cs ≡ true → (i : ℕ) × (i < length cs) × ((cell_at cs i).name ≡ name)
find-cell [] name h = cc
find-cell (c ∷ cs) name h = elim (or-split (bytes_eq name c.name) (named_by name cs) h) [
  | inl e ↦ (0, omega arith, sym (same_name name c.name e))
  | inr e ↦ (let r : (i : ℕ) × (i < length cs) × ((cell_at cs i).name ≡ name) = find-cell cs name e in (suc r.0, (let b : r.0 < length cs = r.1 in omega arith), r.2))
]

-- a valuation that the table shows, and that has no other values, is that of the table
pub valuation-is : (w : World) (cs : List Cell) (ks : List ℕ) (v : Valuation) → AreDistinct cs → length ks ≡ length cs → Shows w cs ks v →
    ((name : Name) → named_by name cs ≡ false → v name ≡ 0) → valuation_of w cs ks ≡ v
valuation-is w cs ks v d l s z = fun_ext (λ name. elim (decide (named_by name cs)) [
  | inr n ↦ rest-zero w cs ks name n ∙ sym (z name n)
  | inl h ↦ (
      let r : (i : ℕ) × (i < length cs) × ((cell_at cs i).name ≡ name) = find-cell cs name h in
      ap (valuation_of w cs ks) (sym r.2) ∙ (sym (own w cs ks d l r.0 r.1) ∙ (s.is r.0 r.1 ∙ ap v r.2)))
])
