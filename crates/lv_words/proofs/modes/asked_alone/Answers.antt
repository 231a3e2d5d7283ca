use Rattle.std.proofs.Common.{sym, ◌∙◌, subst}
use Rattle.lv_words.specs.declared.modes.Asked.TheVariants as a
use Rattle.lv_words.specs.Lines.{IsAskedAlone, check, sim, print}
use Rattle.lv_words.proofs.Written.{same_from_eq, gen_alone}
use Rattle.lv_words.proofs.modes.asked_alone.Goals as goal

pub returns-then-eq : goal.returns-then-eq
returns-then-eq c = gen_alone _ _ c.generated.result (same_from_eq _ _ (sym c.if-eq.ensures)) c.generated.ensures

pub returns-then-eq-2 : goal.returns-then-eq-2
returns-then-eq-2 c =
    subst (λ z. IsAskedAlone c.args.mode.now c.args.file.now (a.Check z)) (sym (c.in_ok-name.ensures ∙ c.as_bytes.ensures.value)) (check (same_from_eq _ _ (sym c.if-eq-2.ensures)))

pub returns-then-eq-3 : goal.returns-then-eq-3
returns-then-eq-3 c =
    subst (λ z. IsAskedAlone c.args.mode.now c.args.file.now (a.Sim z)) (sym (c.in_ok-name.ensures ∙ c.as_bytes.ensures.value)) (sim (same_from_eq _ _ (sym c.if-eq-3.ensures)))

pub returns-then-eq-4 : goal.returns-then-eq-4
returns-then-eq-4 c =
    subst (λ z. IsAskedAlone c.args.mode.now c.args.file.now (a.Print z)) (sym (c.in_ok-name.ensures ∙ c.as_bytes.ensures.value)) (print (same_from_eq _ _ (sym c.if-eq-4.ensures)))
