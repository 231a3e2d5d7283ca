-- Decimal numbers, digit by digit.
use Rattle.std.proofs.Common.{◌≡◌, ℕ, zero, suc, ◌+◌, ◌-◌, ◌*◌, ◌/◌, ◌%◌, ◌^◌, ◌≤◌, ◌<◌, List, [], ◌∷◌, ◌++◌, length, get_or, decimal, refl, sym, ap, ◌∙◌, subst, append_assoc, arith}
use Rattle.std.proofs.lemmas.List.{append-nil}
use Rattle.std.proofs.lemmas.Bool.Decides.{nat_tests}
use Rattle.std.proofs.lemmas.Fmt.{decimal_is_IsNumeral_wide, decimal_digit, decimal_step_wide, decimal_by_steps_wide}
use Rattle.std.specs.Str.Parse.{AllDigits, digits_value_after}
use Rattle.std.specs.Char.{digit_value}
use Rattle.lv_cert.specs.Inputs.{IsDigit, IsTooMuch}

digit-is : (c : ℕ) → 48 ≤ c → c ≤ 57 → digit_value c ≡ c - 48
digit-is c l u = grind (arith, nat_tests)

is-digit : (c : ℕ) → digit_value c < 10 → IsDigit c
is-digit c = grind (arith, nat_tests)

-- what is left of the letters, behind those that a number was made of
pub record Continues (whole : List ℕ) (number : ℕ) (rest : List ℕ) : Type 0 where
  pub forth : AllDigits 10 rest → AllDigits 10 whole
  pub back : AllDigits 10 whole → AllDigits 10 rest
  pub value : digits_value_after 10 number rest ≡ digits_value_after 10 0 whole

pub continues_start : (whole : List ℕ) → Continues whole 0 whole
continues_start whole = record { forth = λ h. h; back = λ h. h; value = refl }

pub continues_on : (whole : List ℕ) (number c next : ℕ) (rest more : List ℕ) → rest ≡ c ∷ more → IsDigit c → next ≡ number * 10 + (c - 48) → Continues whole number rest → Continues whole next more
continues_on whole number c next rest more e d n k =
    let v : digit_value c ≡ c - 48 = digit-is c d.0 d.1 in
    let small : digit_value c < 10 = omega (arith, v, d.0, d.1) in
    let m : number * 10 + digit_value c ≡ next = ap (λ x. number * 10 + x) v ∙ sym n in
    record {
      forth = λ h. k.forth (subst (λ l. AllDigits 10 l) (sym e) (small, h));
      back = λ h. (subst (λ l. AllDigits 10 l) e (k.back h)).1;
      value = ap (λ x. digits_value_after 10 x more) (sym m) ∙ ap (λ l. digits_value_after 10 number l) (sym e) ∙ k.value;
    }

le-value : (n : ℕ) (ds : List ℕ) → n ≤ digits_value_after 10 n ds
le-value n [] = omega arith
le-value n (c ∷ cs) = let h : n * 10 + digit_value c ≤ digits_value_after 10 (n * 10 + digit_value c) cs = le-value (n * 10 + digit_value c) cs in omega (arith, h)

value-after : (n : ℕ) (ds : List ℕ) → 0 < n → AllDigits 10 ds → digits_value_after 10 n ds < 2 ^ 128 → decimal (digits_value_after 10 n ds) ≡ decimal n ++ ds
value-after n [] some d small = sym (append-nil (decimal n))
value-after n (c ∷ cs) some d small =
    let m : ℕ = n * 10 + digit_value c in
    let k = is-digit c d.0 in
    let v : digit_value c ≡ c - 48 = digit-is c k.0 k.1 in
    let front : (n * 10 + digit_value c) / 10 ≡ n = omega (arith, d.0) in
    let end : 48 + (n * 10 + digit_value c) % 10 ≡ c = omega (arith, d.0, v, k.0) in
    let le : n * 10 + digit_value c ≤ digits_value_after 10 (n * 10 + digit_value c) cs = le-value (n * 10 + digit_value c) cs in
    value-after (n * 10 + digit_value c) cs (omega arith) d.1 small
    ∙ ap (λ x. x ++ cs) (decimal_step_wide (n * 10 + digit_value c) (omega arith) (omega (arith, le, small)) ∙ (λ i. decimal (front i) ++ (end i ∷ [])))
    ∙ append_assoc (decimal n) (c ∷ []) cs

digits-back : (ds : List ℕ) → AllDigits 10 ds → 0 < length ds → (get_or ds 0 0 ≡ 48 → length ds ≡ 1) → digits_value_after 10 0 ds < 2 ^ 128 → decimal (digits_value_after 10 0 ds) ≡ ds
digits-back [] d some lead small = absurd (omega arith)
digits-back (c ∷ []) d some lead small =
    let k = is-digit c d.0 in
    let v : digit_value c ≡ c - 48 = digit-is c k.0 k.1 in
    decimal_digit (0 * 10 + digit_value c) (omega (arith, d.0)) ∙ ap (λ x. x ∷ []) (omega (arith, v, k.0))
digits-back (c ∷ e ∷ cs) d some lead small =
    let k = is-digit c d.0 in
    let v : digit_value c ≡ c - 48 = digit-is c k.0 k.1 in
    let no : c ≡ 48 → ⊥ = λ z. omega (arith, lead z) in
    let is : 48 + (0 * 10 + digit_value c) ≡ c = omega (arith, v, k.0) in
    value-after (0 * 10 + digit_value c) (e ∷ cs) (omega (arith, v, k.0, no)) d.1 small
    ∙ ap (λ x. x ++ (e ∷ cs)) (decimal_digit (0 * 10 + digit_value c) (omega (arith, d.0)) ∙ ap (λ x. x ∷ []) is)

-- the number of the letters
pub number_read : (whole rest : List ℕ) (n : ℕ) → Continues whole n rest → rest ≡ [] → 0 < length whole → (get_or whole 0 0 ≡ 48 → length whole ≤ 1) → n < 2 ^ 128 → decimal n ≡ whole
number_read whole rest n k e some lead small =
    let all : AllDigits 10 whole = k.forth (subst (λ l. AllDigits 10 l) (sym e) tt) in
    let v : n ≡ digits_value_after 10 0 whole = ap (λ l. digits_value_after 10 n l) (sym e) ∙ k.value in
    ap decimal v ∙ digits-back whole all some (λ z. omega (arith, lead z, some)) (omega (arith, v, small))

-- no number has no letters
pub none_empty : (whole : List ℕ) → length whole ≡ 0 → (n : ℕ) → n < 2 ^ 128 → decimal n ≡ whole → ⊥
none_empty whole e n h k = let some : 0 < length (decimal n) = (decimal_is_IsNumeral_wide n (omega arith)).0.0 in omega (arith, some, ap length k)

first-high : (n : ℕ) → n < 10 ^ 64 → 0 < n → 48 < get_or (decimal n) 0 0
first-high = decimal_by_steps_wide (λ m ds. 0 < m → 48 < get_or ds 0 0) (λ m h p. omega arith) (λ m ds h k p. on ds (48 + m % 10) (k (omega arith)))
  where
    on : (ds : List ℕ) (x : ℕ) → 48 < get_or ds 0 0 → 48 < get_or (ds ++ x ∷ []) 0 0
    on [] x h = absurd (omega arith)
    on (d ∷ ds) x h = h

-- no number has more letters than one, with a zero first
pub none_zero : (whole : List ℕ) → get_or whole 0 0 ≡ 48 → 1 < length whole → (n : ℕ) → n < 2 ^ 128 → decimal n ≡ whole → ⊥
none_zero whole z l zero h k = let e : length (decimal 0) ≡ 1 = ap length (decimal_digit 0 (omega arith)) in omega (arith, e, ap length k)
none_zero whole z l (suc n) h k = let f : 48 < get_or (decimal (suc n)) 0 0 = first-high (suc n) (omega arith) (omega arith) in omega (arith, f, ap (λ d. get_or d 0 0) k)

-- no number goes on with this letter
pub none_on : (whole : List ℕ) (number c : ℕ) (rest more : List ℕ) → rest ≡ c ∷ more → IsTooMuch number c → Continues whole number rest → (n : ℕ) → n < 2 ^ 128 → decimal n ≡ whole → ⊥
none_on whole number c rest more e t k n h w =
    let num = decimal_is_IsNumeral_wide n (omega arith) in
    let all : AllDigits 10 whole = subst (λ l. AllDigits 10 l) w num.0.1 in
    let here : AllDigits 10 (c ∷ more) = subst (λ l. AllDigits 10 l) e (k.back all) in
    let d = is-digit c here.0 in
    let v : digit_value c ≡ c - 48 = digit-is c d.0 d.1 in
    let big : 2 ^ 128 ≤ number * 10 + (c - 48) = t d in
    let le : number * 10 + digit_value c ≤ digits_value_after 10 (number * 10 + digit_value c) more = le-value (number * 10 + digit_value c) more in
    let val : digits_value_after 10 number (c ∷ more) ≡ n = ap (λ l. digits_value_after 10 number l) (sym e) ∙ k.value ∙ ap (λ l. digits_value_after 10 0 l) (sym w) ∙ num.1 in
    omega (arith, big, le, val, v, h)
