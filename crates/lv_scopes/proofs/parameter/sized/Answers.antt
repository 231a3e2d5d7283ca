use Rattle.std.proofs.Common.{◌-◌, ◌+◌}
use Rattle.lv_source.specs.Meaning.{own_width}
use Rattle.lv_const.specs.Constants.{names_of, entries_here}
use Rattle.lv_const.proofs.Declared.{entries-declared}
use Rattle.lv_scopes.proofs.NumberLaws.{inside}
use Rattle.lv_scopes.proofs.parameter.sized.Goals as goal

pub slice-requires-clause-inside : goal.slice-requires-clause-inside
slice-requires-clause-inside c =
    inside (c.max.result - c.min.result + 1) (own_width (names_of c.args.consts.now) c.args.value.now) c.in-Ok.number.word.width
    (c.in-Ok.ensures.at (entries_here c.args.consts.now) (entries-declared c.args.consts.now)).right.width
