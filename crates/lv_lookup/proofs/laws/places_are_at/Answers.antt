use Rattle.lv_lookup.proofs.Places.{is_at}
use Rattle.lv_lookup.proofs.laws.places_are_at.Goals as goal

pub returns : goal.returns
returns c = λ S levels at s k all early h a e. is_at S levels at s h k all early a e
