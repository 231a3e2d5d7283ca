use Rattle.std.proofs.Common.{◌≡◌, ◌&&◌, ◌||◌, List, true, false, ap, sym, subst, ◌∙◌, refl, rules}
use Rattle.std.specs.Prelude.{All}
use Rattle.lv_spans.specs.declared.span.Span.{Span}
use Rattle.lv_spans.specs.Domain.{IsSpan, spans_have}
use Rattle.lv_spans.specs.Sets.{has}
use Rattle.lv_reach.proofs.signals.with_drives.Goals as goal

pub returns-in_ok-made-clause-within : goal.returns-in_ok-made-clause-within
returns-in_ok-made-clause-within c = λ S w a. c.in_ok-made.ensures.within S w (subst (λ (xs : List Span). All (IsSpan S) xs) (sym c.as_slice.ensures) a)
