use Rattle.std.proofs.Common.{◌≡◌, rules, arith}
use Rattle.std.proofs.lemmas.Grind.{common_steps}
use Rattle.lv_source.specs.Effect.{with_index}
use Rattle.lv_const.specs.Constants.{names_of}
use Rattle.lv_headers.proofs.TurnPlaces.{turn-at}
use Rattle.lv_headers.proofs.turn.set_turn.Goals as goal

pub returns-clause-enters : goal.returns-clause-enters
returns-clause-enters c =
    let e : names_of c.set_index.new.consts ≡ with_index (names_of c.args.all.now) c.args.index.now c.args.value = first_of (search rules, grind (arith, common_steps)) in
    let f : names_of c.set_index-2.new.consts ≡ with_index (names_of c.args.early.now) c.args.index.now c.args.value = first_of (search rules, grind (arith, common_steps)) in
    record {
      at = λ S find indices here genvar h ok. turn-at S find indices c.args.all.now c.args.early.now here c.args.index.now genvar h ok c.args.value c.set_index.new.consts
          c.set_index-2.new.consts e f;
    }
