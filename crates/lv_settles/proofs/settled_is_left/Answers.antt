use Rattle.lv_settles.proofs.Settling.{meets}
use Rattle.lv_settles.proofs.settled_is_left.Goals as goal

pub returns : goal.returns
returns c = λ ds vs order v w laws right apart o start settled same. meets ds vs order laws right o v start apart w settled same
