use Rattle.lv_words.proofs.Texts.{not_all, more_texts, all_texts}
use Rattle.std.proofs.Common.{arith}
use Rattle.lv_words.proofs.words.texts_of.Goals as goal

pub returns-in-Err : goal.returns-in-Err
returns-in-Err c = not_all _ c.loop-word.word-index c.word-item.result c.bytes.result.now c.loop-word-test.true c.word-item.is c.bytes.ensures c.in-Err.ensures.cases.0

pub loop-word-preserved : goal.loop-word-preserved
loop-word-preserved c =
    more_texts c.args.words.now c.loop-word.word-index c.word-item.result c.bytes.result.now c.loop-word.texts.items _ c.in-Ok.text c.loop-word-test.true c.word-item.is c.loop-word.invariant
    c.in_ok-push-in-Ok.ensures.items c.bytes.ensures c.in-Ok.ensures.cases.0 c.in-Ok.ensures.cases.1

pub returns : goal.returns
returns c = let past = c.loop-word-test.false in all_texts c.args.words.now c.loop-word.word-index c.loop-word.texts.items (omega (arith, past)) c.loop-word.invariant
