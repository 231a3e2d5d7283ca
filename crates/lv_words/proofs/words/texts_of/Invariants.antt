use Rattle.std.proofs.Common.{◌≡◌, map, take}
use Rattle.std.specs.Prelude.{All, IsUtf8}
use Rattle.lv_words.proofs.words.texts_of.Given as goal

abbrev pub invariant-loop-word : goal.invariant-loop-word
invariant-loop-word l = (map (λ s. s.now) l.texts.items ≡ take l.word-index l.words) × All IsUtf8 (take l.word-index l.words)
