-- Cells that the order holds for equal are equal.
use Rattle.std.proofs.Common.{◌≡◌, true, Some, None, refl, sym, ap}
use Rattle.std.proofs.lemmas.Bool.{true≢false}
use Rattle.std.specs.declared.cmp.Ordering.{Ordering}
use Rattle.std.specs.Ordering.{nat_cmp, is_eq}
use Rattle.std.specs.declared.cmp.Ordering.TheVariants.{Less, Equal, Greater}
use Rattle.std.specs.Option.{option_cmp}
use Rattle.std.proofs.lemmas.Map.Lookups.{CmpEqualImpliesEq, exact_unsigned, exact_pairs}
use Rattle.lv_spans.specs.Sets.{Cell, order}

exact-options : CmpEqualImpliesEq (option_cmp nat_cmp)
exact-options None None h = refl
exact-options None (Some y) h = absurd (true≢false (sym (ap is_eq h)))
exact-options (Some x) None h = absurd (true≢false (sym (ap is_eq h)))
exact-options (Some x) (Some y) h = ap Some (exact_unsigned x y h)

pub exact-cells : CmpEqualImpliesEq order
exact-cells = exact_pairs nat_cmp (option_cmp nat_cmp) exact_unsigned exact-options

pub is-equal : (o : Ordering) → is_eq o ≡ true → o ≡ Equal
is-equal Less h = absurd (true≢false (sym h))
is-equal Equal h = refl
is-equal Greater h = absurd (true≢false (sym h))

pub same-cell : (x y : Cell) → is_eq (order x y) ≡ true → x ≡ y
same-cell x y h = exact-cells x y (is-equal (order x y) h)
