use Rattle.std.proofs.Common.{List, ℕ, refl, sym, ◌∙◌, subst}
use Rattle.lv_io.specs.Given.{Gains, GainsPart}
use Rattle.lv_io.specs.Outside.{SinkState}
use Rattle.lv_run.specs.Answers.{IsReported, told, cut, unwritten}
use Rattle.lv_run.proofs.whole_run.report.Goals as goal

pub returns-in_default : goal.returns-in_default
returns-in_default g c = unwritten refl

pub returns-in-Ok-put_all : goal.returns-in-Ok-put_all
returns-in-Ok-put_all g c =
    let before = g.S.Sink.state c.args.out.now in
    let after = g.S.Sink.state c.put_all.new.sink in
    let gains = subst (λ (z : List ℕ). Gains before.given after.given z) (c.deref.ensures.value ∙ c.in-Ok.ensures.text) c.in-Ok-put_all.ensures.whole in
    subst (IsReported c.args.answer.now before after) (sym c.in-Ok.ensures.code) (told gains)

pub returns : goal.returns
returns g c =
    let before = g.S.Sink.state c.args.out.now in
    let after = g.S.Sink.state c.put_all.new.sink in
    cut (subst (λ (z : List ℕ). GainsPart before.given after.given z) (c.deref.ensures.value ∙ c.in-Ok.ensures.text) c.in-Err.ensures.part) c.in-Err.ensures.failed
