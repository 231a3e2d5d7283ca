-- Lists of words that are written out: which are lines, and which are refused.
use Rattle.std.proofs.Common.{◌≡◌, [], ◌∷◌, List, ℕ, refl, sym, ◌∙◌, subst, codes, length, arith}
use Rattle.std.specs.Prelude.{Some, None}
use Rattle.clap.specs.Words.{fault_of}
use Rattle.clap.proofs.OnLiterals.{clap_on_literals}
use Rattle.lv_words.specs.declared.modes.Asked.{Asked}
use Rattle.lv_words.specs.Lines.{command, IsTaken, IsAsked}

abbrev faults : List (List ℕ) → ℕ
faults words = length (fault_of command words)

-- refused: no word, one word, three, an option that isn't there, `--out` without its value and twice
none : faults [] ≡ 1
unfolding clap_on_literals
none = refl

mode_alone : faults (codes "verify" ∷ []) ≡ 1
unfolding clap_on_literals
mode_alone = refl

three : faults (codes "verify" ∷ codes "a.toml" ∷ codes "b.toml" ∷ []) ≡ 1
unfolding clap_on_literals
three = refl

help : faults (codes "--help" ∷ []) ≡ 1
unfolding clap_on_literals
help = refl

out_alone : faults (codes "verify" ∷ codes "a.toml" ∷ codes "--out" ∷ []) ≡ 1
unfolding clap_on_literals
out_alone = refl

out_twice : faults (codes "verify" ∷ codes "a.toml" ∷ codes "--out=x" ∷ codes "--out=x" ∷ []) ≡ 1
unfolding clap_on_literals
out_twice = refl

-- taken: two words, and `--out` with its value in either form and at any place
plain : IsTaken (codes "verify" ∷ codes "a.toml" ∷ []) (codes "verify") (codes "a.toml") None
unfolding clap_on_literals
plain = record { taken = refl; mode_is = refl; file_is = refl; out_is = refl }

with_out : IsTaken (codes "verify" ∷ codes "a.toml" ∷ codes "--out" ∷ codes "x" ∷ []) (codes "verify") (codes "a.toml") (Some (codes "x"))
unfolding clap_on_literals
with_out = record { taken = refl; mode_is = refl; file_is = refl; out_is = refl }

out_first : IsTaken (codes "--out=x" ∷ codes "verify" ∷ codes "a.toml" ∷ []) (codes "verify") (codes "a.toml") (Some (codes "x"))
unfolding clap_on_literals
out_first = record { taken = refl; mode_is = refl; file_is = refl; out_is = refl }

pub none_asked : (words : List (List ℕ)) → words ≡ [] → (asked : Asked) → IsAsked words asked → ⊥
none_asked words e asked h =
    let f : faults words ≡ 0 = (λ i. length (h.asks.line.taken i)) in
    let g : faults [] ≡ 0 = subst (λ z. faults z ≡ 0) e f in
    let d : 0 ≡ 1 = sym g ∙ none in omega (arith, d)
