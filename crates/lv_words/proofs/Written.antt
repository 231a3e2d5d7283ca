-- Texts that are compared, and what a line asks for.
use Rattle.std.proofs.Common.{◌≡◌, ◌≢◌, ℕ, ◌≤◌, List, get_or, bytes_eq, true, false, refl, sym, ◌∙◌, ap, subst, codes, arith}
use Rattle.std.specs.Prelude.{Result, Ok, Err, Option, Some, None, is_some, IfOk, MatchOption}
use Rattle.std.specs.Str.Parse.{ParsesUnsigned}
use Rattle.std.proofs.lemmas.Slice.Eq.{bytes_eq-Decides}
use Rattle.std.proofs.lemmas.Fmt.{parse-decimal}
use Rattle.lv_words.specs.declared.modes.Asked.{Asked}
use Rattle.lv_words.specs.declared.modes.Asked.TheVariants as a
use Rattle.lv_words.specs.Lines.{IsNumber, IsAskedAlone, IsAskedBy, check, sim, print, gen, verify, alone}

pub same_from_eq : (xs ys : List ℕ) → bytes_eq xs ys ≡ true → xs ≡ ys
same_from_eq xs ys e = (bytes_eq-Decides xs ys).0 e

pub differ_from_eq : (xs ys : List ℕ) → bytes_eq xs ys ≡ false → xs ≢ ys
differ_from_eq xs ys e same = let f : bytes_eq xs ys ≡ true = (bytes_eq-Decides xs ys).1 same in cc

-- a number that is written is what the parse gives
pub number_parsed : {E : Type 0} (word : List ℕ) (n : ℕ) (r : Result ℕ E) → ParsesUnsigned 64 10 word r → IsNumber word n → r ≡ Ok n
number_parsed word n r parses h =
    let most : n ≤ 500 = h.most in
    parse-decimal 64 n word r (omega (arith, most)) (omega (arith, most)) (sym h.written) parses

pub ok_same : {E : Type 0} (m n : ℕ) (r : Result ℕ E) → r ≡ Ok m → r ≡ Ok n → m ≡ n
ok_same m n r e f = cc

first : List ℕ → ℕ
first word = get_or word 0 0

other_letter : (mode : List ℕ) (x y : ℕ) → (x ≡ y → ⊥) → first mode ≡ x → first mode ≡ y → ⊥
other_letter mode x y differ e f = differ (sym e ∙ f)

letter_of : (mode word : List ℕ) → mode ≡ word → first mode ≡ first word
letter_of mode word e = ap first e

gen_only : (mode file : List ℕ) → mode ≡ codes "gen" → ((n : ℕ) → IsNumber file n → ⊥) → (asked : Asked) → IsAskedAlone mode file asked → ⊥
unfolding first
gen_only mode file m none _ (check e) = other_letter mode 103 99 (λ e. omega (arith, e)) (letter_of mode (codes "gen") m) (letter_of mode (codes "check") e)
gen_only mode file m none _ (sim e) = other_letter mode 103 115 (λ e. omega (arith, e)) (letter_of mode (codes "gen") m) (letter_of mode (codes "sim") e)
gen_only mode file m none _ (print e) = other_letter mode 103 112 (λ e. omega (arith, e)) (letter_of mode (codes "gen") m) (letter_of mode (codes "print") e)
gen_only mode file m none _ (gen n e h) = none n h

pub gen_alone : {E : Type 0} (mode file : List ℕ) (r : Result (Option Asked) E) → mode ≡ codes "gen" →
    IfOk r (λ o. MatchOption o ((n : ℕ) → IsNumber file n → ⊥) (λ asked. (n : ℕ) × IsNumber file n × (asked ≡ a.Gen n))) →
    IfOk r (λ o. MatchOption o ((asked : Asked) → IsAskedAlone mode file asked → ⊥) (IsAskedAlone mode file))
gen_alone mode file (Ok None) m h = gen_only mode file m h
gen_alone mode file (Ok (Some asked)) m h = subst (IsAskedAlone mode file) (sym h.2) (gen h.0 m h.1)
gen_alone mode file (Err e) m h = tt

pub verify_by : (mode file : List ℕ) (out : Option (List ℕ)) (x : List ℕ) (y : Option (List ℕ)) → mode ≡ codes "verify" → x ≡ file → y ≡ out → IsAskedBy mode file out (a.Verify x y)
verify_by mode file out x y m e f =
    subst (λ z. IsAskedBy mode file out (a.Verify z y)) (sym e) (subst (λ z. IsAskedBy mode file out (a.Verify file z)) (sym f) (verify m))

pub none_of : {A : Type 0} (o : Option A) → is_some o ≡ false → o ≡ None
none_of None e = refl
none_of (Some x) e = absurd (cc)

alone_only : (mode file : List ℕ) (out : Option (List ℕ)) → mode ≢ codes "verify" → ((asked : Asked) → IsAskedAlone mode file asked → ⊥) → (asked : Asked) → IsAskedBy mode file out asked → ⊥
alone_only mode file out differ none _ (verify e) = differ e
alone_only mode file out differ none asked (alone _ e h) = none asked h

pub alone_by : {E : Type 0} (mode file : List ℕ) (out : Option (List ℕ)) (r : Result (Option Asked) E) → mode ≢ codes "verify" → out ≡ None →
    IfOk r (λ o. MatchOption o ((asked : Asked) → IsAskedAlone mode file asked → ⊥) (IsAskedAlone mode file)) →
    IfOk r (λ o. MatchOption o ((asked : Asked) → IsAskedBy mode file out asked → ⊥) (IsAskedBy mode file out))
alone_by mode file out (Ok None) differ e h = alone_only mode file out differ h
alone_by mode file out (Ok (Some asked)) differ e h = alone asked e h
alone_by mode file out (Err x) differ e h = tt
