use Rattle.std.proofs.Common.{◌≡◌, rules, arith}
use Rattle.std.proofs.lemmas.Grind.{common_steps}
use Rattle.lv_source.specs.Effect.{with_index}
use Rattle.lv_const.specs.Constants.{names_of}
use Rattle.lv_headers.proofs.LateTurns.{late-by-turn}
use Rattle.lv_headers.proofs.fault.late_header.Goals as goal

pub returns-clause-right : goal.returns-clause-right
returns-clause-right g c =
    let e : names_of c.set_turn.new.all ≡ with_index (names_of c.args.all.now) c.args.index.now 0 = first_of (search rules, grind (arith, common_steps)) in
    let f : names_of c.set_turn.new.early ≡ with_index (names_of c.args.early.now) c.args.index.now 0 = first_of (search rules, grind (arith, common_steps)) in
    late-by-turn (g.B.Bindings.numbers c.args.bindings.now) (names_of c.args.all.now) (names_of c.args.early.now) (names_of c.set_turn.new.all) (names_of c.set_turn.new.early)
    c.args.index.now c.args.start.now c.args.test.now c.args.next.now c.late_turn-found.result c.in_default.ensures e f c.late_turn-found.ensures
