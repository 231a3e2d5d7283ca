use Rattle.lv_source.proofs.Nesting.{children_in}
use Rattle.lv_source.proofs.children_are_scopes.Goals as goal

pub returns : goal.returns
returns c = children_in
