use Rattle.std.proofs.Common.{◌∷◌, [], refl, ◌++◌, ◌∙◌, ap}
use Rattle.lv_trail.specs.Chains.{no_slot}
use Rattle.lv_trail.proofs.Turning.{same-watched, more-watched}
use Rattle.lv_trail.proofs.watched.Watched.add.Goals as goal

pub returns-in_err-id-clause-watched : goal.returns-in_err-id-clause-watched
returns-in_err-id-clause-watched c =
    let e = c.in_err-id.ensures in
    same-watched c.args.self.now _ c.requires.watched e.sound e.err.0 e.err.1 refl c.reserve.ensures.items refl refl refl

pub returns-clause-watched : goal.returns-clause-watched
returns-clause-watched c =
    let e = c.in_ok-id.ensures in
    more-watched c.args.self.now _ c.args.clause c.requires.watched e.sound e.ok.3 e.ok.0 e.ok.1 c.grow.ensures.heads (c.grow.ensures.slots ∙ ap (λ z. z ++ no_slot ∷ no_slot ∷ []) c.reserve.ensures.items) refl refl refl
