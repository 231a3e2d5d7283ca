use Rattle.std.proofs.Common.{refl, ap, ◌∙◌, ◌++◌, ◌∷◌, []}
use Rattle.lv_trail.proofs.Adding.{added, kept}
use Rattle.lv_trail.proofs.store.Store.add.Goals as goal

pub returns-in_err-push-clause-sound : goal.returns-in_err-push-clause-sound
returns-in_err-push-clause-sound c = kept c.args.self.now c.requires.sound _ refl refl refl refl refl c.in_err-push.ensures.err

pub returns-clause-sound : goal.returns-clause-sound
returns-clause-sound c = added c.args.self.now c.args.clause c.requires.sound c.lits.ensures.kept c.requires.within _ refl refl refl refl refl (c.in_ok-push.ensures.ok ∙ ap (λ z. c.args.self.now.clauses ++ z ∷ []) c.lits.ensures.value)
