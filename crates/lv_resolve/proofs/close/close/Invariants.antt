use Rattle.std.proofs.Common.{◌≡◌, [], take, flat_map}
use Rattle.lv_source.specs.Names.{Here}
use Rattle.lv_const.specs.Constants.{names_of}
use Rattle.lv_const.specs.Wherever.{AreDeclared}
use Rattle.lv_resolve.specs.Places.{with_all}
use Rattle.lv_resolve.specs.Forms.{AreDivisors, zeros_at}
use Rattle.lv_resolve.proofs.close.close.Given as goal

abbrev pub invariant-loop-divisor : goal.invariant-loop-divisor
invariant-loop-divisor l = (here : Here) → AreDeclared (names_of l.all) (with_all here) → AreDivisors here.names l.width l.divisors →
    flat_map (zeros_at here.names l.width l.signed) (take l.divisor-index l.divisors) ≡ []
