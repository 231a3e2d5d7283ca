use Rattle.std.proofs.Common.{◌&&◌, ◌||◌, Bool, List, sym, ap, ◌∙◌}
use Rattle.lv_spans.specs.declared.span.Span.{Span}
use Rattle.lv_paths.specs.Bits.{holds, cells_have}
use Rattle.lv_paths.proofs.Lists.{or-false}
use Rattle.lv_paths.proofs.Masks.{logged-none}
use Rattle.lv_paths.proofs.done.add_aim.Goals as goal

pub returns-then-not-aim : goal.returns-then-not-aim
returns-then-not-aim c = record {
  done = λ q i. sym (ap (λ (u : Bool). holds c.args.done.now.entries q i || (u && cells_have c.args.aim.now.bits q i)) c.if-not-aim.true ∙
      or-false (holds c.args.done.now.entries q i));
  logged = logged-none c.args.done.now.entries c.args.log.now;
}

pub returns-clause-done : goal.returns-clause-done
returns-clause-done c = λ q i.
    c.in_ok-add_spans.ensures.done q i ∙ (ap (λ (xs : List Span). holds c.args.done.now.entries q i || cells_have xs q i) c.as_slice.ensures ∙
    sym (ap (λ (u : Bool). holds c.args.done.now.entries q i || (u && cells_have c.args.aim.now.bits q i)) c.if-not-aim.false))
