use Rattle.std.proofs.Common.{◌&&◌, ◌<◌, ◌≤◌, Bool, length, refl, sym, ap, ◌∙◌, arith}
use Rattle.std.specs.Prelude.{bytes_eq}
use Rattle.std.specs.List.{list_any}
use Rattle.std.proofs.lemmas.List.{take_all}
use Rattle.std.proofs.lemmas.Option.{slice_get_read}
use Rattle.lv_source.specs.Names.{Declared, is_clock_sort}
use Rattle.lv_source.proofs.Tests.{any-map}
use Rattle.lv_flat.specs.declared.signal.Signal.{Signal}
use Rattle.lv_flat.specs.Signals.{declared}
use Rattle.lv_rules.proofs.Lists.{any_of}
use Rattle.lv_rules.proofs.clock.has_clock.Goals as goal

pub returns-then-is_clock_at : goal.returns-then-is_clock_at
returns-then-is_clock_at c =
    let l : c.loop-s.s-index < length c.args.signals.now = omega arith in
    let p : Declared → Bool = λ x. is_clock_sort x.sort && bytes_eq x.path c.args.path.now in
    sym (sym (any-map p declared c.args.signals.now) ∙
    any_of (λ (x : Signal). p (declared x)) c.args.signals.now c.loop-s.s-index c.s-item.result
    (slice_get_read c.args.signals.now (length c.args.signals.now) c.loop-s.s-index c.s-item.result refl l c.s-item.is) (sym c.is_clock_at.ensures ∙ c.if-is_clock_at.true))

pub returns : goal.returns
returns c =
    let l : length c.args.signals.now ≤ c.loop-s.s-index = omega arith in
    let p : Declared → Bool = λ x. is_clock_sort x.sort && bytes_eq x.path c.args.path.now in
    sym (sym (any-map p declared c.args.signals.now) ∙
    (ap (list_any (λ (x : Signal). p (declared x))) (sym (take_all c.loop-s.s-index c.args.signals.now l)) ∙ c.loop-s.invariant))
