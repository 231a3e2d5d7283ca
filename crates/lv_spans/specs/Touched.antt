-- For each signal the places at which some cell has a bit.
use Rattle.std.specs.Prelude.{◌≡◌, ℕ, true, unwrap_or, Option}
use Rattle.std.specs.Ordering.{nat_cmp}
use Rattle.std.specs.BTreeMap.{BTreeMap, get}
use Rattle.lv_spans.specs.Sets.{Cell, Masks, own_at, is_set}

pub record AreTouched (m : Masks) (t : BTreeMap ℕ ℕ) : Type 0 where
  pub all : (q : Cell) (i : ℕ) → is_set (own_at m q) i ≡ true → is_set (unwrap_or (get nat_cmp t q.0) 0) i ≡ true
  pub one : (s i : ℕ) → is_set (unwrap_or (get nat_cmp t s) 0) i ≡ true → (e : Option ℕ) × (is_set (own_at m (s, e)) i ≡ true)
