use Rattle.lv_words.proofs.Examples.{none_asked}
use Rattle.lv_words.proofs.words.no_words.Goals as goal

pub returns-clause-refused : goal.returns-clause-refused
returns-clause-refused c = λ asked h. none_asked _ c.new.ensures asked h
