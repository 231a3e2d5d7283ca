use Rattle.lv_words.proofs.Matched.{match_weaker}
use Rattle.lv_words.proofs.Parsed.{taken_of, line_from}
use Rattle.lv_words.proofs.line.line_of.Goals as goal

pub returns-in-Ok : goal.returns-in-Ok
returns-in-Ok c =
    match_weaker c.line_in.result _ _ _ _
    (λ none mode file out taken. none mode file out (line_from _ _ c.in-Ok.ensures.rows mode file out taken))
    (λ line h. taken_of _ _ c.in-Ok.ensures.taken c.in-Ok.ensures.rows _ _ _ h)
    c.line_in.ensures
