use Rattle.std.proofs.Common.{map}
use Rattle.lv_declared.specs.Listing.{declared}
use Rattle.lv_bindings.proofs.OnceLaws.{OnceBelow}
use Rattle.lv_bindings.proofs.unique.once.Given as goal

abbrev pub invariant-loop-index : goal.invariant-loop-index
invariant-loop-index l = OnceBelow (map declared l.declarations) l.index
