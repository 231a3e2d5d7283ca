-- Words ask for one thing.
use Rattle.std.proofs.Common.{◌≡◌, List, ℕ, codes, decimal, refl, sym, ◌∙◌}
use Rattle.std.specs.Prelude.{Option}
use Rattle.lv_words.specs.declared.modes.Asked.{Asked}
use Rattle.lv_words.specs.declared.modes.Asked.TheVariants as a
use Rattle.lv_words.specs.Lines.{IsAsked, IsAskedBy, IsAskedAlone, verify, alone, check, sim, print, gen}
use Rattle.lv_words.proofs.Texts.{some_same}

abbrev pub mode_of : Asked → List ℕ
mode_of (a.Verify file out) = codes "verify"
mode_of (a.Check file) = codes "check"
mode_of (a.Sim file) = codes "sim"
mode_of (a.Print file) = codes "print"
mode_of (a.Gen n) = codes "gen"

abbrev pub file_of : Asked → List ℕ
file_of (a.Verify file out) = file
file_of (a.Check file) = file
file_of (a.Sim file) = file
file_of (a.Print file) = file
file_of (a.Gen n) = decimal n

alone_mode : (mode file : List ℕ) (asked : Asked) → IsAskedAlone mode file asked → mode ≡ mode_of asked
alone_mode mode file _ (check e) = e
alone_mode mode file _ (sim e) = e
alone_mode mode file _ (print e) = e
alone_mode mode file _ (gen n e h) = e

alone_file : (mode file : List ℕ) (asked : Asked) → IsAskedAlone mode file asked → file_of asked ≡ file
alone_file mode file _ (check e) = refl
alone_file mode file _ (sim e) = refl
alone_file mode file _ (print e) = refl
alone_file mode file _ (gen n e h) = h.written

by_mode : (mode file : List ℕ) (out : Option (List ℕ)) (asked : Asked) → IsAskedBy mode file out asked → mode ≡ mode_of asked
by_mode mode file out _ (verify e) = e
by_mode mode file out asked (alone _ e h) = alone_mode mode file asked h

by_file : (mode file : List ℕ) (out : Option (List ℕ)) (asked : Asked) → IsAskedBy mode file out asked → file_of asked ≡ file
by_file mode file out _ (verify e) = refl
by_file mode file out asked (alone _ e h) = alone_file mode file asked h

pub one_mode : (words : List (List ℕ)) (x y : Asked) → IsAsked words x → IsAsked words y → mode_of x ≡ mode_of y
one_mode words x y h k =
    sym (by_mode h.asks.mode h.asks.file h.asks.out x h.asks.asks) ∙ some_same h.asks.mode k.asks.mode _ h.asks.line.mode_is k.asks.line.mode_is ∙
    by_mode k.asks.mode k.asks.file k.asks.out y k.asks.asks

pub one_file : (words : List (List ℕ)) (x y : Asked) → IsAsked words x → IsAsked words y → file_of x ≡ file_of y
one_file words x y h k =
    by_file h.asks.mode h.asks.file h.asks.out x h.asks.asks ∙ some_same h.asks.file k.asks.file _ h.asks.line.file_is k.asks.line.file_is ∙
    sym (by_file k.asks.mode k.asks.file k.asks.out y k.asks.asks)
