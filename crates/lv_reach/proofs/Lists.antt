-- Lists, and sets that meet spans.
use Rattle.std.proofs.Common.{◌≡◌, ℕ, zero, suc, ◌+◌, ◌<◌, Bool, true, false, ◌&&◌, ◌||◌, List, [], ◌∷◌, take, length, get_or, refl, ap, sym, ◌∙◌, inl, inr, arith, Some}
use Rattle.std.specs.Prelude.{slice_get}
use Rattle.std.specs.List.{list_any}
use Rattle.std.proofs.lemmas.List.Folds.{list_any_more}
use Rattle.lv_source.proofs.Tests.{and-both, or-left, or-right, or-split}
use Rattle.lv_source.proofs.Facts.{at_any}
use Rattle.lv_flat.specs.Signals.{Signals}
use Rattle.lv_spans.specs.declared.span.Span.{Span}
use Rattle.lv_spans.specs.Sets.{Masks, is_under, is_set}
use Rattle.lv_spans.specs.Domain.{Meets}
use Rattle.lv_reach.specs.Spreading.{MeetsSome}

or_shift : (a b c : Bool) → ((a || b) || c) ≡ (a || (b || c))
or_shift true b c = refl
or_shift false b c = refl

-- one more element of a list that is gone through
pub any_step : {X : Type 0} (p : X → Bool) (xs : List X) (n : ℕ) (x : X) (a b c : Bool) → n < length xs → x ≡ get_or xs n x → b ≡ (a || list_any p (take n xs)) → c ≡ (b || p x) →
    c ≡ (a || list_any p (take (n + 1) xs))
any_step p xs n x a b c l e h k =
    k ∙ (ap (λ z. z || p x) h ∙ (or_shift a (list_any p (take n xs)) (p x) ∙ ap (λ z. a || z)
    (ap (λ z. list_any p (take n xs) || p z) e ∙ sym (list_any_more p xs n x l))))

pub meets-some : (S : Signals) (set : Masks) (spans : List Span) (k : ℕ) (s : Span) → slice_get spans k ≡ Some s → Meets S set s → MeetsSome S set spans
meets-some S set spans k s e m =
    (m.0, m.1, m.2, at_any (λ x. is_under x.signal x.element m.0 && is_set x.mask m.1) spans k s e (and-both (is_under s.signal s.element m.0) (is_set s.mask m.1) m.3 m.4), m.5)
