use Rattle.std.proofs.Common.{refl, false, []}
use Rattle.lv_symbols.proofs.ScopeLaws.{index_stepped}
use Rattle.lv_symbols.proofs.laws.turns_are_scopes.Goals as goal

pub returns : goal.returns
returns c = λ f k index label items value h once. record {
  top = false;
  clocks = [];
  names = refl;
  around = λ p e. index_stepped f h index.name value p e;
  once = once;
}
