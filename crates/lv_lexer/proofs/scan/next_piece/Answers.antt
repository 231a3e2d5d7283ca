use Rattle.std.proofs.Common.{sym}
use Rattle.lv_lexer.proofs.Comments.{gap_of_comment}
use Rattle.lv_lexer.proofs.scan.next_piece.Goals as goal

pub returns-in-Comment : goal.returns-in-Comment
returns-in-Comment c = gap_of_comment c.args.rest.now c.in-Comment.length c.in-Comment.ensures

pub returns-in-Endless : goal.returns-in-Endless
returns-in-Endless c = sym c.in-Endless.ensures

pub uncommented-requires : goal.uncommented-requires
uncommented-requires c = sym c.in-Other.ensures
