use Rattle.std.proofs.Common.{sym}
use Rattle.lv_parser.proofs.Fronts.{place_some, place_none}
use Rattle.lv_parser.proofs.tokens.place.Goals as goal

pub returns-in-Some : goal.returns-in-Some
returns-in-Some c = sym (place_some c.args.tokens.now.text c.args.tokens.now.list c.args.at _ (sym c.in-Some.ensures.value))

pub returns-in-None : goal.returns-in-None
returns-in-None c = sym (place_none c.args.tokens.now.text c.args.tokens.now.list c.args.at (sym c.in-None.ensures.value))
