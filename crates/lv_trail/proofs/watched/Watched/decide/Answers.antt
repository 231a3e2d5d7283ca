use Rattle.std.proofs.Common.{[], refl}
use Rattle.lv_trail.proofs.Nexting.{longer-watched}
use Rattle.lv_trail.proofs.watched.Watched.decide.Goals as goal

pub returns-clause-watched : goal.returns-clause-watched
returns-clause-watched c =
    let t = c.args.self.now in
    longer-watched t _ (λ x. t.head) [] c.requires.watched (λ x. c.requires.watched.head) c.decide.ensures.sound c.decide.ensures.same _ c.decide.ensures.entries refl refl refl (λ f. f)
