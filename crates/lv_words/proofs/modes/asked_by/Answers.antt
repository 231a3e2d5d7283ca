use Rattle.std.proofs.Common.{sym, ap, ◌∙◌}
use Rattle.std.specs.Prelude.{option_map}
use Rattle.lv_words.proofs.Written.{same_from_eq, differ_from_eq, none_of, verify_by, alone_by}
use Rattle.lv_words.proofs.modes.asked_by.Goals as goal

pub returns-then-eq : goal.returns-then-eq
returns-then-eq c =
    verify_by _ _ _ _ _ (same_from_eq _ _ (sym c.if-eq.ensures)) (c.in_ok-file.ensures ∙ c.as_bytes.ensures.value) c.in_ok-out.ensures

pub returns : goal.returns
returns c =
    alone_by _ _ _ c.asked_alone.result (differ_from_eq _ _ (sym c.if-eq.ensures)) (ap (option_map (λ s. s.now)) (none_of c.args.line.out (sym c.if-is_some.ensures))) c.asked_alone.ensures
