-- Which words are handed to the run, for what std answers when it is asked for them.
use Rattle.std.specs.Prelude.{◌≡◌, ℕ, List, map, drop, string_bytes, Vec, String, Result, Ok, Err, MatchResult}
use Rattle.std.specs.declared.alloc.Global.{Global}
use Rattle.std.specs.declared.io.ErrorKind.{ErrorKind}
use Rattle.std.specs.declared.io.ErrorKind.TheVariants as kind
use Rattle.lv_words.specs.declared.words.Words.{Words}
use Rattle.lv_words.specs.declared.modes.Asked.{Asked}
use Rattle.lv_words.specs.Lines.{IsAsked}

-- words that ask for nothing
abbrev pub AreRefused : Words → Type 0
AreRefused words = (asked : Asked) → IsAsked words.list asked → ⊥

-- a list gives the words behind the first, but for want of memory (7); a word that isn't UTF-8 words that are refused; want of
-- memory gives 7, and any other error 6
abbrev pub IsHanded : Result (Vec (String Global) Global) ErrorKind → Result Words ℕ → Type 0
IsHanded (Ok args) result = MatchResult result (λ words. words.list ≡ map string_bytes (drop 1 args.items)) (λ code. code ≡ 7)
IsHanded (Err kind.InvalidData) result = MatchResult result AreRefused (λ code. ⊥)
IsHanded (Err kind.OutOfMemory) result = result ≡ Err 7
IsHanded (Err _) result = result ≡ Err 6
