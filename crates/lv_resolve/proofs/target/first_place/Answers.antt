use Rattle.lv_resolve.proofs.TargetArms.{first-is}
use Rattle.lv_resolve.proofs.target.first_place.Goals as goal

pub returns-in-None : goal.returns-in-None
returns-in-None c = λ names role. first-is _ _ (c.in-None.ensures names role)

pub returns-in-Some : goal.returns-in-Some
returns-in-Some c = λ names role. first-is _ _ (c.in-Some.ensures names role)
