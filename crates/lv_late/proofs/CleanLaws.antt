-- Nodes that are clean have no fault.
use Rattle.std.proofs.Common.{List}
use Rattle.lv_source.specs.Names.{Here}
use Rattle.lv_source.specs.Sites.{Site, spots}
use Rattle.lv_const.specs.Refusals.{IsFormed, IsDivided}
use Rattle.lv_const.proofs.Refusals.{sound-formed, divides-formed}
use Rattle.lv_scopes.specs.Numbers.{AreClean}
use Rattle.lv_resolve.specs.Resolved.{AreFaultless}

pub clean-faultless : (here : Here) (sites : List Site) → AreClean here.early sites → AreFaultless (spots here sites)
clean-faultless here sites h =
    let f : IsFormed (spots here sites) = sound-formed here sites h.sound in
    let d : IsDivided (spots here sites) = divides-formed here sites h.divides in record {
      unknown = f.unknown;
      unfixed = f.unfixed;
      zero = d.zero;
      range = f.range;
    }
