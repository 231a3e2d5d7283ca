use Rattle.lv_learner.proofs.Writing.{steps_of}
use Rattle.lv_learner.proofs.laws.derivations_can_be_written.Goals as goal

pub returns : goal.returns
returns c = λ set lines few derivation sorted total. record { vars = few.vars; total = total; steps = steps_of set lines derivation sorted }
