use Rattle.std.proofs.Common.{sym, ◌∙◌}
use Rattle.lv_lexer.proofs.Marks.{no_long_mark, no_byte_mark}
use Rattle.lv_lexer.proofs.scan.is_long_mark.Goals as goal

pub returns-else-is_head : goal.returns-else-is_head
returns-else-is_head c = no_long_mark _ _ _ c.args.n c.in-Some.ensures c.requires (sym c.is_head.ensures ∙ c.if-is_head.false)

pub returns-in-None : goal.returns-in-None
returns-in-None c = no_byte_mark _ c.args.n c.in-None.ensures c.requires
