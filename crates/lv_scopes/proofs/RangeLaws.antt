-- The answer on a range, from those on its two expressions.
use Rattle.std.proofs.Common.{◌≡◌, ℕ, ◌+◌, ◌-◌, ◌≤◌, max, min, arith, Bool, true, false, not, ◌&&◌, ◌||◌, [], map, refl, sym, ap, ◌∙◌, subst, Option, Some, None, Ok, Err}
use Rattle.std.specs.Prelude.{nat_le, nat_lt, cond, ℤ, pos, negsuc, flat_map}
use Rattle.std.specs.List.{Contains}
use Rattle.std.proofs.lemmas.Bool.Decides.{nat_tests}
use Rattle.std.proofs.lemmas.List.Elements.{Contains-append_left, Contains-append_right}
use Rattle.lv_ast.specs.declared.expr.Expr.{Expr}
use Rattle.lv_ast.specs.declared.item.Range.{Range}
use Rattle.lv_source.specs.Names.{Here, Bounds, size}
use Rattle.lv_source.specs.Values.{nowhere}
use Rattle.lv_source.specs.Meaning.{meaning, value_of}
use Rattle.lv_source.specs.Scopes.{bound, bound_number}
use Rattle.lv_source.specs.NodeRules.{is_bound, is_width}
use Rattle.lv_source.specs.ScopeRules.{place_if, is_range, range_sites}
use Rattle.lv_source.specs.Sites.{expr_sites}
use Rattle.lv_source.proofs.Bridges.{two}
use Rattle.lv_const.specs.declared.error.ConstError.{ConstError}
use Rattle.lv_const.specs.declared.error.ConstError.TheVariants as x
use Rattle.lv_const.specs.Answers.{Told}
use Rattle.lv_const.specs.Faults.{all_faults}
use Rattle.lv_const.proofs.Told.{sound-both, divides-both, told-first, told-second, here}
use Rattle.lv_scopes.specs.declared.number.Number.{Number}
use Rattle.lv_scopes.specs.Numbers.{IsNumber}
use Rattle.lv_scopes.specs.Ranges.{number_in, bound_in, bounds_in, IsRangeAnswer}
use Rattle.lv_scopes.proofs.TurnLaws.{own_is}

-- the number that a bound stands for
number_is : (around : Here) (x : Expr) (n : Number) → IsNumber around 0 x n → number_in n.signed n.word.width n.word.value ≡ bound_number around.names x
number_is around x n h =
    ap (λ v. number_in n.signed n.word.width v) (own_is around x n h) ∙
    two (λ (s : Bool) (w : ℕ). number_in s w (value_of around.names x (meaning around.names x).width (meaning around.names x).signed nowhere)) _ _ _ _ h.signed
    (h.width ∙ omega arith)

-- ---- two numbers

abbrev both : Bool → ℤ → ℤ → Option (ℕ × ℕ)
both vector l r = bounds_in vector (bound_in l) (bound_in r)

abbrev allowed : Bool → ℤ → ℤ → Bool
allowed vector l r = is_bound l && is_bound r && (not vector || is_width (size (record { left = bound l; right = bound r })))

pub record AreBounds (vector : Bool) (l r : ℤ) (b : ℕ × ℕ) : Type 0 where
  pub left : l ≡ pos b.0
  pub right : r ≡ pos b.1
  pub allowed : allowed vector l r ≡ true
  pub first : b.0 ≤ 65535
  pub second : b.1 ≤ 65535

abbrev apart : Bool → ℕ → ℕ → Bool
apart vector l r = vector && not (nat_lt (max l r - min l r) 128)

fits : (vector : Bool) (l r : ℕ) → apart vector l r ≡ false → (not vector || is_width (max l r - min l r + 1)) ≡ true
fits false l r h = refl
fits true l r h = grind (arith, nat_tests)

beyond : (vector : Bool) (l r : ℕ) → apart vector l r ≡ true → (not vector || is_width (max l r - min l r + 1)) ≡ false
beyond false l r h = cc
beyond true l r h = grind (arith, nat_tests)

last : (k : Bool) (p b : ℕ × ℕ) → cond k None (Some p) ≡ Some b → (k ≡ false) × (p ≡ b)
last true p b h = absurd (cc)
last false p b h = (refl, cc)

found : (vector a c : Bool) (l r : ℕ) (b : ℕ × ℕ) → bounds_in vector (cond a (Some l) None) (cond c (Some r) None) ≡ Some b →
    (a ≡ true) × (c ≡ true) × (apart vector l r ≡ false) × ((let p : ℕ × ℕ = (l, r) in p) ≡ b)
found vector false c l r b h = absurd (cc)
found vector true false l r b h = absurd (cc)
found vector true true l r b h = let t : (apart vector l r ≡ false) × ((let p : ℕ × ℕ = (l, r) in p) ≡ b) = last (apart vector l r)
    (l, r) b h in (refl, refl, t.0, t.1)

none_behind : (vector a : Bool) (l : ℕ) (b : ℕ × ℕ) → bounds_in vector (cond a (Some l) None) None ≡ Some b → ⊥
none_behind vector true l b h = cc
none_behind vector false l b h = cc

yes : (vector : Bool) (l r : ℤ) (b : ℕ × ℕ) → both vector l r ≡ Some b → AreBounds vector l r b
yes vector (negsuc l) r b h = absurd (cc)
yes vector (pos l) (negsuc r) b h = absurd (none_behind vector (nat_le l 65535) l b h)
yes vector (pos l) (pos r) b h =
    let t : (nat_le l 65535 ≡ true) × (nat_le r 65535 ≡ true) × (apart vector l r ≡ false) × ((let p : ℕ × ℕ = (l, r) in p) ≡ b) = found vector
    (nat_le l 65535) (nat_le r 65535) l r b h in
    subst (AreBounds vector (pos l) (pos r)) t.3 (record {
      left = refl;
      right = refl;
      allowed = two (λ (a c : Bool). (a && c) && (not vector || is_width (max l r - min l r + 1))) _ _ _ _ t.0 t.1 ∙ fits vector l r t.2;
      first = let k : nat_le l 65535 ≡ true = t.0 in grind (arith, nat_tests);
      second = let k : nat_le r 65535 ≡ true = t.1 in grind (arith, nat_tests);
    })

lost_last : (k : Bool) (p : ℕ × ℕ) → cond k None (Some p) ≡ None → k ≡ true
lost_last true p h = refl
lost_last false p h = absurd (cc)

lost : (vector a c : Bool) (l r : ℕ) → bounds_in vector (cond a (Some l) None) (cond c (Some r) None) ≡ None →
    ((a && c) && (not vector || is_width (max l r - min l r + 1))) ≡ false
lost vector false c l r h = refl
lost vector true false l r h = refl
lost vector true true l r h = beyond vector l r (lost_last (apart vector l r) (l, r) h)

and-none : (a : Bool) → (a && false) ≡ false
and-none true = refl
and-none false = refl

no : (vector : Bool) (l r : ℤ) → both vector l r ≡ None → allowed vector l r ≡ false
no vector (negsuc l) r h = refl
no vector (pos l) (negsuc r) h = ap (λ z. z && (not vector || is_width (size (record { left = l; right = 0 })))) (and-none (nat_le l 65535))
no vector (pos l) (pos r) h = lost vector (nat_le l 65535) (nat_le r 65535) l r h

-- ---- a range

module _ (around : Here) (r : Range) (vector : Bool) (place : ℕ) (m n : Number) (h : IsNumber around 0 r.left m) (k : IsNumber around 0 r.right n) where
  abbrev left : ℤ
  left = number_in m.signed m.word.width m.word.value

  abbrev right : ℤ
  right = number_in n.signed n.word.width n.word.value

  same : allowed vector left right ≡ is_range around.names vector (Some r)
  same = two (λ (a b : ℤ). allowed vector a b) _ _ _ _ (number_is around r.left m h) (number_is around r.right n k)

  pub range_right : (b : ℕ × ℕ) → both vector left right ≡ Some b → IsRangeAnswer around r vector place (Ok b)
  range_right b e =
      let t : AreBounds vector left right b = yes vector left right b e in record {
        right = record {
          bounds = two (λ (a c : ℤ). let z : Bounds = record { left = bound a; right = bound c } in z) _ _ _ _
              (sym (number_is around r.left m h) ∙ t.left) (sym (number_is around r.right n k) ∙ t.right);
          allowed = sym same ∙ t.allowed;
          left = t.first;
          right = t.second;
          clean = record { sound = sound-both around.early _ _ h.clean.sound k.clean.sound; divides = divides-both _ _ h.clean.divides k.clean.divides };
        };
        wrong = tt;
      }

  pub range_wrong : both vector left right ≡ None → IsRangeAnswer around r vector place (Err (x.Range place))
  range_wrong e =
      let t : is_range around.names vector (Some r) ≡ false = sym same ∙ no vector left right e in record {
        right = tt;
        wrong = record {
          told = Contains-append_left (map x.Range (place_if (not (is_range around.names vector (Some r))) place))
              (flat_map (all_faults around.early) (range_sites around.names (Some r))) (x.Range place)
              (subst (λ b. Contains (map x.Range (place_if (not b) place)) (x.Range place)) (sym t) (here (x.Range place) []));
        };
      }

pub range_faulty : (around : Here) (r : Range) (vector : Bool) (place : ℕ) (y : ConstError) → Told around.early (range_sites around.names (Some r)) y →
    IsRangeAnswer around r vector place (Err y)
range_faulty around r vector place y h = record {
  right = tt;
  wrong = record {
    told = Contains-append_right (map x.Range (place_if (not (is_range around.names vector (Some r))) place))
        (flat_map (all_faults around.early) (range_sites around.names (Some r))) y h.found;
  };
}

pub left_faulty : (around : Here) (r : Range) (vector : Bool) (place : ℕ) (y : ConstError) → Told around.early (expr_sites true around.names 0 r.left) y →
    IsRangeAnswer around r vector place (Err y)
left_faulty around r vector place y h =
    range_faulty around r vector place y
    (told-first around.early (expr_sites true around.names 0 r.left) (expr_sites true around.names 0 r.right) y h)

pub right_faulty : (around : Here) (r : Range) (vector : Bool) (place : ℕ) (y : ConstError) → Told around.early (expr_sites true around.names 0 r.right) y →
    IsRangeAnswer around r vector place (Err y)
right_faulty around r vector place y h =
    range_faulty around r vector place y
    (told-second around.early (expr_sites true around.names 0 r.left) (expr_sites true around.names 0 r.right) y h)
