-- Expressions side by side: their widths together, and their bits.
use Rattle.std.proofs.Common.{◌≡◌, ℕ, zero, suc, ◌+◌, ◌*◌, ◌^◌, ◌<◌, ◌≤◌, Bool, true, List, [], ◌∷◌, ◌++◌, length, map, take, refl, sym, ◌∙◌, ap, subst, arith, get_or, add-one}
use Rattle.std.specs.Prelude.{sum, sum_by}
use Rattle.std.specs.List.{list_all}
use Rattle.std.proofs.Math.Seq.{take-suc}
use Rattle.std.proofs.lemmas.Nat.{pow-add}
use Rattle.std.proofs.lemmas.List.{map-append}
use Rattle.std.proofs.lemmas.List.Sums.{sum-map, sum_by_push, sum_by_more, sum_by_more_le}
use Rattle.lv_source.specs.Names.{Valuation}
use Rattle.lv_source.specs.Values.{Meaning, own_value, widths, joined}
use Rattle.lv_source.specs.Meaning.{Reading}
use Rattle.lv_flat.specs.declared.expr.FlatExpr.{FlatExpr}
use Rattle.lv_flat.specs.Signals.{Signals}
use Rattle.lv_flat.specs.Judged.{meaning, reading, is_good}
use Rattle.lv_lower_exprs.proofs.Parts.{and-left, and-right}

map-map : {A B C : Type 0} (f : B → C) (g : A → B) (xs : List A) → map f (map g xs) ≡ map (λ x. f (g x)) xs
map-map f g [] = refl
map-map f g (x ∷ xs) = ap (λ ys. f (g x) ∷ ys) (map-map f g xs)

pub widths-push : (ms : List Meaning) (m : Meaning) → widths (ms ++ m ∷ []) ≡ widths ms + m.width
widths-push ms m =
    sum-map (λ (m : Meaning). m.width) (ms ++ m ∷ []) ∙ (sum_by_push (λ (m : Meaning). m.width) ms m ∙ ap (λ n. n + m.width) (sym (sum-map (λ (m : Meaning). m.width) ms)))

arrange : (o a b j x p q : ℕ) → p ≡ a * b → o * p + (j * b + x) ≡ (o * a + j) * b + x
arrange o a b j x p q h = rw h (grind arith)

pub joined-push : (v : Valuation) (ms : List Meaning) (m : Meaning) → joined v (ms ++ m ∷ []) ≡ joined v ms * 2 ^ m.width + own_value m v
joined-push v [] m = let z : 2 ^ widths [] ≡ 1 = refl in omega (arith, z)
joined-push v (n ∷ ms) m =
    let e : 2 ^ widths (ms ++ m ∷ []) ≡ 2 ^ widths ms * 2 ^ m.width = ap (λ k. 2 ^ k) (widths-push ms m) ∙ pow-add 2 (widths ms) m.width in
    ap (λ k. own_value n v * 2 ^ widths (ms ++ m ∷ []) + k) (joined-push v ms m) ∙
    arrange (own_value n v) (2 ^ widths ms) (2 ^ m.width) (joined v ms) (own_value m v) (2 ^ widths (ms ++ m ∷ [])) 0 e

module _ (S : Signals) where
  abbrev wide : FlatExpr → ℕ
  wide e = (meaning S e).width

  pub widths-by : (es : List FlatExpr) → widths (map (meaning S) es) ≡ sum_by wide es
  widths-by es = ap sum (map-map (λ (m : Meaning). m.width) (meaning S) es) ∙ sum-map wide es

  pub widths-more : (es : List FlatExpr) (i : ℕ) (x : FlatExpr) → i < length es → x ≡ get_or es i x → widths (map (meaning S) (take i es)) + (meaning S x).width ≡ widths (map (meaning S) (take (i + 1) es))
  widths-more es i x lt e =
      ap (λ n. n + wide x) (widths-by (take i es)) ∙ (ap (λ y. sum_by wide (take i es) + wide y) e ∙ (sym (sum_by_more wide es i x lt) ∙ sym (widths-by (take (i + 1) es))))

  pub widths-most : (es : List FlatExpr) (i : ℕ) (x : FlatExpr) → i < length es → x ≡ get_or es i x → widths (map (meaning S) (take i es)) + (meaning S x).width ≤ widths (map (meaning S) es)
  widths-most es i x lt e =
      let p : widths (map (meaning S) (take i es)) ≡ sum_by wide (take i es) = widths-by (take i es) in
      let q : widths (map (meaning S) es) ≡ sum_by wide es = widths-by es in
      let r : wide x ≡ wide (get_or es i x) = ap wide e in
      omega (arith, p, q, r, sum_by_more_le wide es i x lt)

  pub one-more : {A : Type 0} (f : FlatExpr → A) (es : List FlatExpr) (i : ℕ) (x : FlatExpr) → i < length es → x ≡ get_or es i x → map f (take (i + 1) es) ≡ map f (take i es) ++ f x ∷ []
  one-more f es i x lt e =
      let t : take (i + 1) es ≡ take i es ++ get_or es i x ∷ [] = rw add-one (take-suc es i x lt) in
      ap (map f) t ∙ (map-append f (take i es) (get_or es i x ∷ []) ∙ ap (λ y. map f (take i es) ++ f y ∷ []) (sym e))

  pub joined-more : (v : Valuation) (es : List FlatExpr) (i : ℕ) (x : FlatExpr) → i < length es → x ≡ get_or es i x →
      joined v (map (meaning S) (take i es)) * 2 ^ (meaning S x).width + own_value (meaning S x) v ≡ joined v (map (meaning S) (take (i + 1) es))
  joined-more v es i x lt e = sym (ap (joined v) (one-more (meaning S) es i x lt e) ∙ joined-push v (map (meaning S) (take i es)) (meaning S x))

  pub good-at : (es : List FlatExpr) (i : ℕ) (d : FlatExpr) → i < length es → list_all (λ (y : Bool). y) (map (is_good S) es) ≡ true → is_good S (get_or es i d) ≡ true
  good-at [] i d lt h = absurd (omega arith)
  good-at (x ∷ xs) zero d lt h = and-left (is_good S x) (list_all (λ (y : Bool). y) (map (is_good S) xs)) h
  good-at (x ∷ xs) (suc i) d lt h = good-at xs i d (omega arith) (and-right (is_good S x) (list_all (λ (y : Bool). y) (map (is_good S) xs)) h)

  pub constant-at : (es : List FlatExpr) (i : ℕ) (d : FlatExpr) → i < length es → list_all (λ (r : Reading). r.constant) (map (reading S) es) ≡ true → (reading S (get_or es i d)).constant ≡ true
  constant-at [] i d lt h = absurd (omega arith)
  constant-at (x ∷ xs) zero d lt h = and-left (reading S x).constant (list_all (λ (r : Reading). r.constant) (map (reading S) xs)) h
  constant-at (x ∷ xs) (suc i) d lt h = constant-at xs i d (omega arith) (and-right (reading S x).constant (list_all (λ (r : Reading). r.constant) (map (reading S) xs)) h)

  pub constant-part : (es : List FlatExpr) (i : ℕ) → list_all (λ (r : Reading). r.constant) (map (reading S) es) ≡ true → list_all (λ (r : Reading). r.constant) (map (reading S) (take i es)) ≡ true
  constant-part es zero h = refl
  constant-part [] (suc i) h = refl
  constant-part (x ∷ xs) (suc i) h = rw (and-left (reading S x).constant (list_all (λ (r : Reading). r.constant) (map (reading S) xs)) h) (constant-part xs i (and-right (reading S x).constant (list_all (λ (r : Reading). r.constant) (map (reading S) xs)) h))

-- ---- copies

pub part_below : (n w m : ℕ) → 1 ≤ n * w → n * w ≤ m → w ≤ m
part_below zero w m h i = absurd (omega arith)
part_below (suc n) w m h i = let e : suc n * w ≡ w + n * w = omega arith in omega (arith, e)

pub part_some : (n w : ℕ) → 1 ≤ n * w → (1 ≤ n) × (1 ≤ w)
part_some zero w h = absurd (omega arith)
part_some (suc n) zero h = absurd (let e : suc n * 0 ≡ 0 = omega arith in omega (arith, e))
part_some (suc n) (suc w) h = (omega arith, omega arith)

-- all of one more
pub both-of : (xs : List Reading) (y : Reading) → list_all (λ (r : Reading). r.constant) (xs ++ y ∷ []) ≡ true → (list_all (λ (r : Reading). r.constant) xs ≡ true) × (y.constant ≡ true)
both-of [] y h = (refl, and-left y.constant true h)
both-of (x ∷ xs) y h =
    let r = both-of xs y (and-right x.constant (list_all (λ (r : Reading). r.constant) (xs ++ y ∷ [])) h) in
    (rw (and-left x.constant (list_all (λ (r : Reading). r.constant) (xs ++ y ∷ [])) h) r.0, r.1)

pub constant-moved : (S : Signals) (z a : FlatExpr) → z ≡ a → (reading S a).constant ≡ true → (reading S z).constant ≡ true
constant-moved S z a e h = subst (λ (y : FlatExpr). (reading S y).constant ≡ true) (sym e) h
