use Rattle.lv_words.proofs.Matched.{none_in}
use Rattle.lv_words.proofs.words.asked_in.Goals as goal

pub returns-in-None : goal.returns-in-None
returns-in-None c = λ asked h. none_in c.in_ok-line.field-0 _ _ c.in-None.is c.in_ok-line.ensures h.mode h.file h.out h.line
