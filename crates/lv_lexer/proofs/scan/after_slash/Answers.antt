use Rattle.lv_lexer.proofs.Comments.{slash_slash, slash_star, slash_star_endless, slash_other}
use Rattle.lv_lexer.proofs.scan.after_slash.Goals as goal

pub returns-then-second-eq47 : goal.returns-then-second-eq47
returns-then-second-eq47 c = slash_slash _ _ _ c.if-second-eq47.true c.front.ensures.value

pub returns-in-Some : goal.returns-in-Some
returns-in-Some c = slash_star _ _ _ c.if-second-eq42.true c.in-Some.ensures.value

pub returns-in-None : goal.returns-in-None
returns-in-None c = slash_star_endless _ _ c.if-second-eq42.true c.in-None.ensures.value

pub returns-else-second-eq42 : goal.returns-else-second-eq42
returns-else-second-eq42 c = slash_other _ _ c.if-second-eq47.false c.if-second-eq42.false
