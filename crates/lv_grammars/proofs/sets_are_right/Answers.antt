use Rattle.std.specs.Prelude.{◌≡◌, Bool, true, false}
use Rattle.lv_grammars.specs.Sets.{is_in}
use Rattle.lv_grammars.proofs.SetLaws.{union_left, union_right, apart_is, within_is}
use Rattle.lv_grammars.proofs.sets_are_right.Goals as goal

pub returns-clause-left : goal.returns-clause-left
returns-clause-left g c s u m i e = union_left g.X.Spelled.base i s u m e

pub returns-clause-right : goal.returns-clause-right
returns-clause-right g c s u m i e = union_right g.X.Spelled.base i s u m e

pub returns-clause-apart : goal.returns-clause-apart
returns-clause-apart g c s u m i a e = go (is_in g.X.Spelled.base u m) (λ f. apart_is g.X.Spelled.base i s u m a e f)
  where
    go : (v : Bool) → (v ≡ true → ⊥) → v ≡ false
    go true h = absurd (h (cc))
    go false h = cc

pub returns-clause-within : goal.returns-clause-within
returns-clause-within g c s u m i w e = within_is g.X.Spelled.base i s u m w e
