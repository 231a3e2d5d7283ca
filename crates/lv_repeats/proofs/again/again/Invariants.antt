use Rattle.std.proofs.Common.{map}
use Rattle.lv_scopes.specs.NameLists.{listed}
use Rattle.lv_declared.specs.Listing.{declared}
use Rattle.lv_repeats.specs.Pairs.{NoneAgain}
use Rattle.lv_repeats.proofs.again.again.Given as goal

abbrev pub invariant-loop-index : goal.invariant-loop-index
invariant-loop-index l = NoneAgain (listed l.names) (map declared l.declarations) l.symbols l.index
