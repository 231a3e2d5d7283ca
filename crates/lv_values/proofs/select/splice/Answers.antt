use Rattle.std.proofs.Common.{subst, ◌*◌, ◌+◌, ◌%◌, ◌^◌}
use Rattle.lv_values.specs.declared.value.Value.{Value}
use Rattle.lv_values.specs.Worlds.{Gives, width_of, number}
use Rattle.lv_values.proofs.Selecting.{splice_some}
use Rattle.lv_values.proofs.select.splice.Goals as goal

pub returns : goal.returns
returns c = splice_some c.args.word c.args.x c.args.low c.requires.x_in
    (subst (λ (v : Value). Gives c.args.b.now c.above_low.new.b c.in_ok-lower.lower (c.args.low + width_of c.args.x) (λ w. number w c.args.x * 2 ^ c.args.low + number w v % 2 ^ c.args.low)) c.same.ensures c.in_ok-lower.ensures)
    c.in_ok-r.ensures
