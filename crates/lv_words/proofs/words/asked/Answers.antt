use Rattle.std.proofs.Common.{ap, map, ◌∙◌}
use Rattle.lv_words.proofs.Matched.{none_in, some_in}
use Rattle.lv_words.proofs.Texts.{AreTexts, texted, as_words, as_words_back}
use Rattle.lv_words.proofs.words.asked.Goals as goal

pub returns-in-Some : goal.returns-in-Some
returns-in-Some c =
    let h : AreTexts c.in-Some.texts.items c.as_slice.result.now = some_in c.in_ok-texts.field-0 c.in-Some.texts _ _ c.in-Some.is c.in_ok-texts.ensures in
    texted c.args.words.now.list _ c.asked_in.result (ap (map (λ s. s.now)) c.as_slice-in-Some.ensures.value ∙ h.0 ∙ c.as_slice.ensures) (as_words _ _ c.as_slice.ensures h.1) c.asked_in.ensures

pub returns-in-None : goal.returns-in-None
returns-in-None c = λ asked h. none_in c.in_ok-texts.field-0 _ _ c.in-None.is c.in_ok-texts.ensures (as_words_back _ _ c.as_slice.ensures h.texts)
