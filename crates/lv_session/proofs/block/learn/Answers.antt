use Rattle.std.proofs.Common.{◌≡◌, ◌-◌, ◌<◌, get_or, length, refl, ◌∙◌, ap, arith}
use Rattle.std.specs.Prelude.{Some, slice_get}
use Rattle.std.proofs.lemmas.Option.{slice_get_read}
use Rattle.lv_session.proofs.Blocking.{core-of, core-wider, last-rests}
use Rattle.lv_session.proofs.block.learn.Goals as goal

pub returns-clause-core : goal.returns-clause-core
returns-clause-core c =
    let set = c.args.set.now in
    let lits = c.args.assumed.now in
    let log = c.args.log.now in
    let rows = c.in_ok-rows.rows.items in
    let row = c.index.result.now in
    let core = c.in_ok-lits.lits.items in
    let has_rows = c.in_ok-rows.ensures.rows in
    let below : length log - 1 < length rows = omega (arith, has_rows.count, c.requires.ends.1) in
    let at : slice_get rows (length log - 1) ≡ Some row = slice_get_read rows (length rows) (length log - 1) row refl below (c.index.ensures ∙ ap (λ z. get_or rows (z - 1) row) c.len-last.ensures) in
    core-wider lits set c.keep.new.set core c.keep.ensures.wider (core-of set lits row core (last-rests set lits log rows row has_rows c.requires.ends at) c.in_ok-lits.ensures)
