use Rattle.std.proofs.Common.{ap, ◌∙◌}
use Rattle.lv_words.specs.declared.modes.Asked.TheVariants as x
use Rattle.lv_run.proofs.Unbuilt.{is_built, refused_words}
use Rattle.lv_run.proofs.decide.answer_to.Goals as goal

pub returns-in-Verify-default-Some-clause-answer : goal.returns-in-Verify-default-Some-clause-answer
returns-in-Verify-default-Some-clause-answer g c = λ words h.
    refused_words words (g.H.Shelf.state c.args.shelf.now) (g.H.Shelf.state c.args.shelf.now) c.args.asked
    (ap is_built c.in-Verify-default-Some.is ∙ ap (λ o. is_built (x.Verify c.in-Verify-default-Some.field-0 o)) c.in-Verify-default-Some.field-1-is) h

pub returns-in-Check-clause-answer : goal.returns-in-Check-clause-answer
returns-in-Check-clause-answer g c = λ words h.
    refused_words words (g.H.Shelf.state c.args.shelf.now) (g.H.Shelf.state c.args.shelf.now) c.args.asked (ap is_built c.in-Check.is) h

pub returns-in-Sim-clause-answer : goal.returns-in-Sim-clause-answer
returns-in-Sim-clause-answer g c = λ words h.
    refused_words words (g.H.Shelf.state c.args.shelf.now) (g.H.Shelf.state c.args.shelf.now) c.args.asked (ap is_built c.in-Sim.is) h

pub returns-in-Gen-clause-answer : goal.returns-in-Gen-clause-answer
returns-in-Gen-clause-answer g c = λ words h.
    refused_words words (g.H.Shelf.state c.args.shelf.now) (g.H.Shelf.state c.args.shelf.now) c.args.asked (ap is_built c.in-Gen.is) h
