use Rattle.std.proofs.Common.{map}
use Rattle.lv_declared.specs.Listing.{declared}
use Rattle.lv_symbols.specs.Frames.{AreSoFar}
use Rattle.lv_symbols.proofs.symbols.declare.Given as goal

abbrev pub invariant-loop-declaration : goal.invariant-loop-declaration
invariant-loop-declaration l =
    AreSoFar l.fn.consts l.there l.givens (map declared l.declarations) l.declaration-index l.consts l.symbols.items
