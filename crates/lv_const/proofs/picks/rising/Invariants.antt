use Rattle.std.proofs.Common.{◌≡◌, ◌<◌, ◌^◌, map}
use Rattle.std.specs.Prelude.{reverse}
use Rattle.std.specs.List.{range_with_len}
use Rattle.lv_source.specs.Places.{read_bits}
use Rattle.lv_const.specs.Constants.{bounds_of}
use Rattle.lv_const.specs.Picks.{near_place}
use Rattle.lv_const.proofs.picks.rising.Given as goal

abbrev pub invariant-loop-j : goal.invariant-loop-j
invariant-loop-j l = (l.value ≡ read_bits l.constant.word.value (reverse (map (near_place (bounds_of l.constant)) (range_with_len l.lowest l.j)))) ×
    (l.value < 2 ^ l.j)
