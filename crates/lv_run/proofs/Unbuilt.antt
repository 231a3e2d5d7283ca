-- Words that ask for what isn't built are no command line.
use Rattle.std.proofs.Common.{◌≡◌, ℕ, Bool, true, false, List, get_or, codes, refl, sym, ◌∙◌, ap, subst, arith, inl, inr}
use Rattle.std.specs.Prelude.{Option, Some, None, Result, Ok, IfOk, MatchOption, ◌⊎◌}
use Rattle.lv_io.specs.Outside.{ShelfState}
use Rattle.lv_words.specs.declared.modes.Asked.{Asked}
use Rattle.lv_words.specs.declared.modes.Asked.TheVariants as x
use Rattle.lv_words.specs.Lines.{IsAsked, IsAskedBy, IsAskedAlone, verify, alone, check, sim, print, gen}
use Rattle.lv_words.proofs.Asking.{mode_of, one_mode}
use Rattle.lv_run.specs.declared.answer.Answer.TheVariants as a
use Rattle.lv_run.specs.Answers.{Verifies, Prints, IsFor, IsCommandLine, IsAnswer, usage}

abbrev pub is_built : Asked → Bool
is_built (x.Verify file None) = true
is_built (x.Verify file (Some out)) = false
is_built (x.Check file) = false
is_built (x.Sim file) = false
is_built (x.Print file) = true
is_built (x.Gen n) = false

-- ---- the name of `--out`

abbrev out_of : Asked → Option (List ℕ)
out_of (x.Verify file out) = out
out_of (x.Check file) = None
out_of (x.Sim file) = None
out_of (x.Print file) = None
out_of (x.Gen n) = None

alone_out : (mode file : List ℕ) (asked : Asked) → IsAskedAlone mode file asked → out_of asked ≡ None
alone_out mode file _ (check e) = refl
alone_out mode file _ (sim e) = refl
alone_out mode file _ (print e) = refl
alone_out mode file _ (gen n e h) = refl

by_out : (mode file : List ℕ) (out : Option (List ℕ)) (asked : Asked) → IsAskedBy mode file out asked → out_of asked ≡ out
by_out mode file out _ (verify e) = refl
by_out mode file out asked (alone _ e h) = alone_out mode file asked h ∙ sym e

one_out : (words : List (List ℕ)) (y z : Asked) → IsAsked words y → IsAsked words z → out_of y ≡ out_of z
one_out words y z h k =
    by_out h.asks.mode h.asks.file h.asks.out y h.asks.asks ∙ sym h.asks.line.out_is ∙ k.asks.line.out_is ∙ sym (by_out k.asks.mode k.asks.file k.asks.out z k.asks.asks)

-- ---- modes

first : List ℕ → ℕ
first word = get_or word 0 0

letters : (words : List (List ℕ)) (y z : Asked) → IsAsked words y → IsAsked words z → first (mode_of y) ≡ first (mode_of z)
letters words y z h k = ap first (one_mode words y z h k)

some_none : {A : Type 0} (y : A) → Some y ≡ None → ⊥
some_none y e = absurd (cc)

not_for : (words : List (List ℕ)) (y : Asked) (f : List ℕ) → is_built y ≡ false → IsAsked words y → IsFor words f → ⊥
unfolding first
not_for words (x.Verify file None) f e h k = absurd (cc)
not_for words (x.Verify file (Some out)) f e h (inl k) = some_none out (one_out words (x.Verify file (Some out)) (x.Verify f None) h k)
not_for words (x.Verify file (Some out)) f e h (inr k) = let d : 118 ≡ first (codes "print") = letters words (x.Verify file (Some out)) (x.Print f) h k in omega (arith, d)
not_for words (x.Check file) f e h (inl k) = let d : 99 ≡ first (codes "verify") = letters words (x.Check file) (x.Verify f None) h k in omega (arith, d)
not_for words (x.Check file) f e h (inr k) = let d : 99 ≡ first (codes "print") = letters words (x.Check file) (x.Print f) h k in omega (arith, d)
not_for words (x.Sim file) f e h (inl k) = let d : 115 ≡ first (codes "verify") = letters words (x.Sim file) (x.Verify f None) h k in omega (arith, d)
not_for words (x.Sim file) f e h (inr k) = let d : 115 ≡ first (codes "print") = letters words (x.Sim file) (x.Print f) h k in omega (arith, d)
not_for words (x.Gen n) f e h (inl k) = let d : 103 ≡ first (codes "verify") = letters words (x.Gen n) (x.Verify f None) h k in omega (arith, d)
not_for words (x.Gen n) f e h (inr k) = let d : 103 ≡ first (codes "print") = letters words (x.Gen n) (x.Print f) h k in omega (arith, d)
not_for words (x.Print file) f e h k = absurd (cc)

pub refused_words : (words : List (List ℕ)) (before after : ShelfState) (y : Asked) → is_built y ≡ false → IsAsked words y → IsAnswer words before after a.Usage
refused_words words before after y e h = usage (λ line. not_for words y line.file e h line.asks)

pub nothing_asked : {E : Type 0} (words : List (List ℕ)) (r : Result (Option Asked) E) → r ≡ Ok None → IfOk r (λ o. MatchOption o ((y : Asked) → IsAsked words y → ⊥) (IsAsked words)) → IsCommandLine words → ⊥
nothing_asked words r e h line =
    let none : (y : Asked) → IsAsked words y → ⊥ = subst (λ z. IfOk z (λ o. MatchOption o ((y : Asked) → IsAsked words y → ⊥) (IsAsked words))) e h in
    elim line.asks [ inl v ↦ none (x.Verify line.file None) v | inr p ↦ none (x.Print line.file) p ]
