-- What is written of a literal is read as that literal.
use Rattle.std.proofs.Common.{◌≡◌, ℕ, zero, suc, ◌+◌, ◌-◌, ◌*◌, ◌/◌, ◌%◌, ◌^◌, ◌<◌, ◌≤◌, min, nat_lt, Bool, true, false, not, ◌&&◌, ◌||◌, if◌then◌else◌, ◌==◌, List, [], ◌∷◌, ◌++◌, Option, Some, None, refl, sym, ap, ◌∙◌, subst, arith, true≢false}
use Rattle.std.specs.List.{list_all}
use Rattle.std.proofs.lemmas.Bool.{ltb-true, ltb-false}
use Rattle.std.proofs.lemmas.Nat.{mod-mul-add, pow-add, div-add-mod'}
use Rattle.std.proofs.lemmas.Nat.Bits.{ones_shr}
use Rattle.std.proofs.Math.Pow.{pow_pos}
use Rattle.std.proofs.Math.Nat.{mod-lt, mod-eq_of_lt}
use Rattle.lv_ast.specs.Names.{is_letter}
use Rattle.lv_ast.specs.Tokens.{is_blank, is_digit, is_number_byte, is_free, is_sign, digit_value, base_of, digits_number, value_digit, free_digit, tail, head_base, based_signed, based_base, based_digits, is_base_digit, is_base_byte, without_sign, without_blanks, is_digits, is_base_and_digits, kind_if, kind_of}
use Rattle.lv_ast.specs.declared.tokens.Kind.TheVariants as k
use Rattle.lv_ast.specs.declared.expr.Literal.{Literal}
use Rattle.lv_exprs.specs.declared.symbol.Based.{Based}
use Rattle.lv_exprs.specs.Literals.{above, number_of, based_literal, based_of}
use Rattle.lv_print.specs.Literals.{glyph, decimal, hexadecimal, free_glyph, free_digits, gives_back, fewest, digits_width, sign_letter, base_and_digits, number_token, based_token}
use Rattle.lv_print.proofs.Tokenized.{IsWhole}
use Rattle.lv_print.proofs.DigitBack.{both, check_below, digits_value, digits_wild, digits_all, digits_leads, digits_some, HasFirst}
use Rattle.lv_print.proofs.FreeBack as free
use Rattle.lv_print.proofs.FreeBack.{Apart, free_value, free_wild, free_leads, free_first, free_all, IsFirst, fewest_is, GivesDigits, gives_digits}

-- a size cuts a literal
abbrev pub cut_by : Option ℕ → ℕ → ℕ
cut_by None x = x
cut_by (Some n) x = x % 2 ^ n

-- what tokens give as a literal
pub record IsGiven (l : Literal) : Type 0 where
  pub value : l.value < 2 ^ 128
  pub wild : l.wild < 2 ^ 128
  pub apart : Apart l.value l.wild
  pub value_cut : cut_by l.size l.value ≡ l.value
  pub wild_cut : cut_by l.size l.wild ≡ l.wild

-- a based token gives the literal back
pub record GivesBack (l : Literal) (b : Based) : Type 0 where
  pub signed : b.signed ≡ l.signed
  pub value : cut_by l.size b.value ≡ l.value
  pub wild : cut_by l.size b.wild ≡ l.wild

pub apart_cut : (n a b : ℕ) → Apart a b → Apart (a % 2 ^ n) (b % 2 ^ n)
apart_cut n a b h = free.apart_cut n a b h

-- ---- numbers

below-ten : (n : ℕ) → n < 2 ^ 128 → n < 10 ^ 128
below-ten n h = (let l : 2 ^ 128 < 10 ^ 128 = ltb-true (2 ^ 128) (10 ^ 128) refl in omega (arith, h, l))

below-sixteen : (n : ℕ) → n < 2 ^ 128 → n < 16 ^ 128
below-sixteen n h = (let l : 2 ^ 128 < 16 ^ 128 = ltb-true (2 ^ 128) (16 ^ 128) refl in omega (arith, h, l))

all-imply : (p q : ℕ → Bool) → ((c : ℕ) → p c ≡ true → q c ≡ true) → (s : List ℕ) → list_all p s ≡ true → list_all q s ≡ true
all-imply p q f [] h = refl
all-imply p q f (c ∷ s) h = let r = both (p c) (list_all p s) h in ap (λ b. b && list_all q s) (f c r.0) ∙ all-imply p q f s r.1

abbrev plain-digit : ℕ → Bool
plain-digit c = not (is_letter c) && is_digit c

not-true : (b : Bool) → not b ≡ true → b ≡ false
not-true true h = absurd (true≢false (sym h))
not-true false h = refl

digit-number : (c : ℕ) → plain-digit c ≡ true → is_number_byte c ≡ true
unfolding is_number_byte
digit-number c h = ap (λ b. b || (c == 95)) (both _ _ h).1

number-kind : (c : ℕ) (s : List ℕ) → list_all plain-digit (c ∷ s) ≡ true → kind_of (c ∷ s) ≡ Some k.Number
unfolding kind_of
number-kind c s h =
    let q = both (plain-digit c) (list_all plain-digit s) h in
    let r = both (not (is_letter c)) (is_digit c) q.0 in
    let l : is_letter c ≡ false = not-true _ r.0 in
    let n : list_all is_number_byte s ≡ true = all-imply plain-digit is_number_byte digit-number s q.1 in
    rw (l, r.1, n) refl

check-decimal : check_below (λ d. plain-digit (glyph d)) 10 ≡ true
unfolding is_digit
check-decimal = refl

pub number_whole : (n : ℕ) → n < 2 ^ 128 → IsWhole (number_token n)
number_whole n h =
    let f : HasFirst (decimal n) = digits_some 10 128 n (omega arith) in
    let all : list_all plain-digit (decimal n) ≡ true = digits_all plain-digit 10 128 n (omega arith) check-decimal in
    record {
      ordinary = refl;
      kind = ap kind_of f.is ∙ number-kind f.first f.others (ap (list_all plain-digit) (sym f.is) ∙ all);
      apostrophe = λ e. absurd (true≢false (sym e));
    }

pub number_back : (n place : ℕ) → n < 2 ^ 128 → number_of place (decimal n) ≡ record { place = place; value = n }
number_back n place h =
    let e : digits_number value_digit 10 0 (decimal n) % 2 ^ 128 ≡ n = ap (λ z. z % 2 ^ 128) (digits_value 10 128 n (omega arith) (omega arith) (omega arith) (below-ten n h)) ∙
    mod-eq_of_lt {n = n} {m = 2 ^ 128} h in
    λ i. record { place = place; value = e i }

-- ---- based tokens

abbrev base-digit : ℕ → ℕ → Bool
base-digit base c = not (is_blank c) && is_base_digit base c

digit-byte : (base c : ℕ) → base-digit base c ≡ true → is_base_byte base c ≡ true
unfolding is_base_byte
digit-byte base c h = elim (c == 95) as (λ b. (b || is_base_digit base c) ≡ true) [ true ↦ refl | false ↦ (both _ _ h).1 ]

digits-good : (base c : ℕ) (s : List ℕ) → list_all (base-digit base) (c ∷ s) ≡ true → is_digits base (without_blanks (c ∷ s)) ≡ true
unfolding without_blanks is_digits
digits-good base c s h =
    let q = both (base-digit base c) (list_all (base-digit base) s) h in
    let r = both (not (is_blank c)) (is_base_digit base c) q.0 in
    ap (λ b. is_digits base (if b then without_blanks s else c ∷ s)) (not-true _ r.0) ∙ ap (λ b. b && list_all (is_base_byte base) s) r.1 ∙
    all-imply (base-digit base) (is_base_byte base) (digit-byte base) s q.1

no-blanks : (base : ℕ) (s : List ℕ) → list_all (base-digit base) s ≡ true → without_blanks s ≡ s
unfolding without_blanks
no-blanks base [] h = refl
no-blanks base (c ∷ s) h = ap (λ b. if b then without_blanks s else c ∷ s) (not-true _ (both (not (is_blank c)) (is_base_digit base c) (both (base-digit base c) (list_all (base-digit base) s) h).0).0)

-- a letter and its digits
base-good : (letter c : ℕ) (s : List ℕ) → (base_of letter == 0) ≡ false → list_all (base-digit (base_of letter)) (c ∷ s) ≡ true → is_base_and_digits (letter ∷ c ∷ s) ≡ true
unfolding is_base_and_digits
base-good letter c s z h = ap (λ b. not b && is_digits (base_of letter) (without_blanks (c ∷ s))) z ∙ digits-good (base_of letter) c s h

sign-kind : (signed : Bool) (letter : ℕ) (s : List ℕ) → is_sign letter ≡ false → is_base_and_digits (letter ∷ s) ≡ true → kind_of (39 ∷ (sign_letter signed ++ (letter ∷ s))) ≡ Some k.Based
unfolding kind_of without_sign is_digit is_sign
sign-kind true letter s f h = ap (λ b. kind_if b k.Based) h
sign-kind false letter s f h = ap (λ b. kind_if (is_base_and_digits (if b then s else letter ∷ s)) k.Based) f ∙ ap (λ b. kind_if b k.Based) h

check-hexadecimal : check_below (λ d. base-digit 16 (glyph d)) 16 ≡ true
unfolding is_base_digit is_blank digit_value is_free
check-hexadecimal = refl

free-mark : base-digit 2 63 ≡ true
unfolding is_base_digit is_blank digit_value is_free
free-mark = refl

free-bits : check_below (λ b. base-digit 2 (48 + b)) 2 ≡ true
unfolding is_base_digit is_blank digit_value is_free
free-bits = refl

hexadecimal-base : base_of 104 ≡ 16
unfolding base_of
hexadecimal-base = refl

binary-base : base_of 98 ≡ 2
unfolding base_of
binary-base = refl

no-sign-h : is_sign 104 ≡ false
unfolding is_sign
no-sign-h = refl

no-sign-b : is_sign 98 ≡ false
unfolding is_sign
no-sign-b = refl

letter-good : (letter base : ℕ) (s : List ℕ) → base_of letter ≡ base → (base == 0) ≡ false → HasFirst s → list_all (base-digit base) s ≡ true → is_base_and_digits (letter ∷ s) ≡ true
letter-good letter base s e z f h =
    ap (λ r. is_base_and_digits (letter ∷ r)) f.is ∙
    base-good letter f.first f.others (ap (λ b. b == 0) e ∙ z) (ap (λ b. list_all (base-digit b) (f.first ∷ f.others)) e ∙ ap (list_all (base-digit base)) (sym f.is) ∙ h)

-- ---- how many digits a literal with free bits has

pub record HasDigits (l : Literal) : Type 0 where
  pub some : 1 ≤ digits_width l.size
  pub most : digits_width l.size ≤ 128
  pub value : l.value < 2 ^ digits_width l.size
  pub wild : l.wild < 2 ^ digits_width l.size

cut-less : (n x : ℕ) → x % 2 ^ n ≡ x → x < 2 ^ n
cut-less n x h = subst (λ z. z < 2 ^ n) h (mod-lt x {m = 2 ^ n} (pow_pos n))

min-less : (n x : ℕ) → x < 2 ^ n → x < 2 ^ 128 → x < 2 ^ min n 128
min-less n x h i =
    elim (nat_lt n 128) as (λ b. nat_lt n 128 ≡ b → x < 2 ^ min n 128) [
      | true ↦ λ e. (let l : n < 128 = ltb-true n 128 e in let m : n ≡ min n 128 = omega (arith, l) in subst (λ z. x < 2 ^ z) m h)
      | false ↦ λ e. (let l : 128 ≤ n = ltb-false n 128 e in let m : 128 ≡ min n 128 = omega (arith, l) in subst (λ z. x < 2 ^ z) m i)
    ] refl

width-less : (o : Option ℕ) (x : ℕ) → cut_by o x ≡ x → x < 2 ^ 128 → x < 2 ^ digits_width o
width-less None x h i = i
width-less (Some n) x h i = min-less n x (cut-less n x h) i

width-most : (o : Option ℕ) → digits_width o ≤ 128
width-most None = omega arith
width-most (Some n) = omega arith

width-some : (n x : ℕ) → 0 < x → x < 2 ^ n → 1 ≤ n
width-some zero x h i = (let e : 2 ^ 0 ≡ 1 = refl in absurd (omega (arith, h, i, e)))
width-some (suc n) x h i = omega arith

has-digits : (l : Literal) → IsGiven l → 0 < l.wild → HasDigits l
has-digits l h f = record {
  some = width-some (digits_width l.size) l.wild f (width-less l.size l.wild h.wild_cut h.wild);
  most = width-most l.size;
  value = width-less l.size l.value h.value_cut h.value;
  wild = width-less l.size l.wild h.wild_cut h.wild;
}

module _ (l : Literal) (given : IsGiven l) where
  abbrev width : ℕ
  width = digits_width l.size

  abbrev count : ℕ
  count = fewest width l.value l.wild

  first-count : 0 < l.wild → IsFirst (gives_back width l.value l.wild) 1 width count
  first-count f = (let d : HasDigits l = has-digits l given f in fewest_is width l.value l.wild d.some d.most d.value d.wild)

  free-some : 0 < l.wild → HasFirst (free_digits count l.value l.wild)
  free-some f =
      let i : IsFirst (gives_back width l.value l.wild) 1 width count = first-count f in
      let least : 1 ≤ count = i.least in
      let e : count ≡ suc (count - 1) = omega (arith, least) in
      subst (λ n. HasFirst (free_digits n l.value l.wild)) (sym e)
      (record { first = free_glyph (l.value / 2 ^ (count - 1)) (l.wild / 2 ^ (count - 1)); others = free_digits (count - 1) l.value l.wild; is = free_first (count - 1) l.value l.wild })

  kind-by : (b : Bool) → nat_lt 0 l.wild ≡ b → kind_of (based_token l).bytes ≡ Some k.Based
  kind-by true e =
      ap (λ b. kind_of (39 ∷ (sign_letter l.signed ++ (if b then 98 ∷ free_digits count l.value l.wild else 104 ∷ hexadecimal l.value)))) e ∙
      sign-kind l.signed 98 (free_digits count l.value l.wild) no-sign-b
      (letter-good 98 2 (free_digits count l.value l.wild) binary-base refl (free-some (ltb-true 0 l.wild e)) (free_all (base-digit 2) free-mark free-bits count l.value l.wild))
  kind-by false e =
      ap (λ b. kind_of (39 ∷ (sign_letter l.signed ++ (if b then 98 ∷ free_digits count l.value l.wild else 104 ∷ hexadecimal l.value)))) e ∙
      sign-kind l.signed 104 (hexadecimal l.value) no-sign-h
      (letter-good 104 16 (hexadecimal l.value) hexadecimal-base refl (digits_some 16 128 l.value (omega arith)) (digits_all (base-digit 16) 16 128 l.value (omega arith) check-hexadecimal))

  whole : IsWhole (based_token l)
  whole = record { ordinary = refl; kind = kind-by (nat_lt 0 l.wild) refl; apostrophe = λ _. (sign_letter l.signed ++ base_and_digits l, refl) }

  -- ---- reading it

  read-signed : (place letter base : ℕ) (s : List ℕ) (signed : Bool) → is_sign letter ≡ false → base_of letter ≡ base → without_blanks s ≡ s →
      based_of place (39 ∷ (sign_letter signed ++ (letter ∷ s))) ≡ based_literal place signed base s
  unfolding based_signed based_base based_digits without_sign is_sign
  read-signed place letter base s true f e w = ap (λ b. based_literal place true b (without_blanks s)) e ∙ ap (λ z. based_literal place true base z) w
  read-signed place letter base s false f e w =
      ap (λ b. based_literal place b (head_base (if b then s else letter ∷ s)) (without_blanks (tail (if b then s else letter ∷ s)))) f ∙
      ap (λ b. based_literal place false b (without_blanks s)) e ∙ ap (λ z. based_literal place false base z) w

  cut-zero : (o : Option ℕ) → cut_by o 0 ≡ 0
  cut-zero None = refl
  cut-zero (Some n) = mod-eq_of_lt {n = 0} {m = 2 ^ n} (pow_pos n)

  hexadecimal-back : (place : ℕ) → l.wild ≡ 0 → GivesBack l (based_literal place l.signed 16 (hexadecimal l.value))
  hexadecimal-back place z =
      let v : digits_number value_digit 16 0 (hexadecimal l.value) % 2 ^ 128 ≡ l.value =
      ap (λ z. z % 2 ^ 128) (digits_value 16 128 l.value (omega arith) (omega arith) (omega arith) (below-sixteen l.value given.value)) ∙ mod-eq_of_lt {n = l.value} {m = 2 ^ 128} given.value in
      let a : above (hexadecimal l.value) ≡ 0 = ap (λ b. if b then 2 ^ 128 - 1 else 0) (digits_leads 16 128 l.value (omega arith) (omega arith) (omega arith)) in
      let w : digits_number (free_digit 16) 16 (above (hexadecimal l.value)) (hexadecimal l.value) % 2 ^ 128 ≡ 0 =
      ap (λ z. digits_number (free_digit 16) 16 z (hexadecimal l.value) % 2 ^ 128) a ∙ ap (λ z. z % 2 ^ 128) (digits_wild 16 128 l.value (omega arith) (omega arith)) in
      record {
        signed = refl;
        value = ap (cut_by l.size) v ∙ given.value_cut;
        wild = ap (cut_by l.size) w ∙ cut-zero l.size ∙ sym z;
      }

  under : (x m : ℕ) → x / m ≡ 0 → x % m ≡ x
  under x m h = (let e : x / m * m + x % m ≡ x = div-add-mod' x m in let z : x / m * m ≡ 0 * m = ap (λ q. q * m) h in omega (arith, e, z))

  at-least : (a b c : ℕ) → a ≡ b * c → 0 < b → c ≤ a
  at-least a b c e h = (let f : b ≡ (b - 1) + 1 = omega (arith, h) in let g : a ≡ (b - 1) * c + c = e ∙ ap (λ z. z * c) f ∙ (omega arith) in omega (arith, g))

  less-one : (a b : ℕ) → 0 < a → (a - 1) * b ≡ a * b - b
  less-one a b h = (let f : a ≡ (a - 1) + 1 = omega (arith, h) in let g : a * b ≡ (a - 1) * b + b = ap (λ z. z * b) f ∙ (omega arith) in omega (arith, g))

  -- the bits above the digits, where they are free
  swap : (p q r : ℕ) → p ≤ q → q * (p + 1) + r ≡ p * (q + 1) + ((q + 1) - (p + 1) + r)
  swap p q r h = omega (arith, h)

  filled : (p q r : ℕ) → 1 ≤ p → p ≤ q → r < p → ((q - 1) * p + r) % q ≡ q - p + r
  filled p q r a b c =
      let e : p ≡ (p - 1) + 1 = omega (arith, a) in
      let f : q ≡ (q - 1) + 1 = omega (arith, a, b) in
      let g : (q - 1) * p + r ≡ (p - 1) * q + (q - p + r) =
      ap (λ z. (q - 1) * z + r) e ∙ swap (p - 1) (q - 1) r (omega (arith, b)) ∙ ap (λ z. (p - 1) * z + (z - ((p - 1) + 1) + r)) (sym f) ∙ ap (λ z. (p - 1) * q + (q - z + r)) (sym e) in
      ap (λ z. z % q) g ∙ mod-mul-add (p - 1) q (q - p + r) (omega (arith, a, b, c))

  smaller : (p q n d r : ℕ) → q ≡ d * n → 1 ≤ d → 1 ≤ p → p ≤ n → r < p → (q - p + r) % n ≡ n - p + r
  smaller p q n d r e a b c f =
      let g : d ≡ (d - 1) + 1 = omega (arith, a) in
      let h : q ≡ (d - 1) * n + n = e ∙ ap (λ z. z * n) g ∙ (omega arith) in
      let i : q - p + r ≡ (d - 1) * n + (n - p + r) = omega (arith, h, c) in
      ap (λ z. z % n) i ∙ mod-mul-add (d - 1) n (n - p + r) (omega (arith, b, c, f))

  power-less : (a b : ℕ) → a ≤ b → 2 ^ b ≡ 2 ^ (b - a) * 2 ^ a
  power-less a b h = (let e : b ≡ (b - a) + a = omega (arith, h) in ap (λ z. 2 ^ z) e ∙ pow-add 2 (b - a) a)

  power-le : (a b : ℕ) → a ≤ b → 2 ^ a ≤ 2 ^ b
  power-le a b h = (let e : 2 ^ b ≡ 2 ^ (b - a) * 2 ^ a = power-less a b h in let p : 0 < 2 ^ (b - a) = pow_pos (b - a) in at-least (2 ^ b) (2 ^ (b - a)) (2 ^ a) e p)

  -- such a literal's free bits, by those of its digits
  rest-free : (k : ℕ) → k ≤ width → l.wild / 2 ^ k ≡ (2 ^ width - 1) / 2 ^ k → l.wild ≡ 2 ^ width - 2 ^ k + l.wild % 2 ^ k
  rest-free k h e =
      let q : l.wild / 2 ^ k * 2 ^ k + l.wild % 2 ^ k ≡ l.wild = div-add-mod' l.wild (2 ^ k) in
      let o : (2 ^ width - 1) / 2 ^ k ≡ 2 ^ (width - k) - 1 = ones_shr width k h in
      let p : 2 ^ width ≡ 2 ^ (width - k) * 2 ^ k = power-less k width h in
      let s : 0 < 2 ^ (width - k) = pow_pos (width - k) in
      sym q ∙ ap (λ z. z * 2 ^ k + l.wild % 2 ^ k) (e ∙ o) ∙ ap (λ z. z + l.wild % 2 ^ k) (less-one (2 ^ (width - k)) (2 ^ k) s) ∙ ap (λ z. z - 2 ^ k + l.wild % 2 ^ k) (sym p)

  cut-filled : (o : Option ℕ) (x p r : ℕ) → digits_width o ≤ 128 → p ≤ 2 ^ digits_width o → 1 ≤ p → r < p → x ≡ 2 ^ digits_width o - p + r → cut_by o x ≡ x → cut_by o (2 ^ 128 - p + r) ≡ x
  cut-filled None x p r m a b c e h = sym e
  cut-filled (Some n) x p r m a b c e h =
      elim (nat_lt n 128) as (λ t. nat_lt n 128 ≡ t → (2 ^ 128 - p + r) % 2 ^ n ≡ x) [
        | true ↦ λ t.
            let i : n < 128 = ltb-true n 128 t in
            let w : min n 128 ≡ n = omega (arith, i) in
            let d : 2 ^ 128 ≡ 2 ^ (128 - n) * 2 ^ n = power-less n 128 (omega (arith, i)) in
            let s : 0 < 2 ^ (128 - n) = pow_pos (128 - n) in
            smaller p (2 ^ 128) (2 ^ n) (2 ^ (128 - n)) r d s b (subst (λ z. p ≤ 2 ^ z) w a) c ∙ ap (λ z. 2 ^ z - p + r) (sym w) ∙ sym e
        | false ↦ λ t.
            let i : 128 ≤ n = ltb-false n 128 t in
            let w : min n 128 ≡ 128 = omega (arith, i) in
            ap (λ z. z % 2 ^ n) (ap (λ z. 2 ^ z - p + r) (sym w) ∙ sym e) ∙ h
      ] refl

  at-top : (k : ℕ) → suc k ≤ width → width ≤ 128 → l.wild / 2 ^ suc k ≡ (2 ^ width - 1) / 2 ^ suc k → cut_by l.size (((2 ^ 128 - 1) * 2 ^ suc k + l.wild % 2 ^ suc k) % 2 ^ 128) ≡ l.wild
  at-top k h m q =
      let s : 0 < 2 ^ suc k = pow_pos (suc k) in
      let r : l.wild % 2 ^ suc k < 2 ^ suc k = mod-lt l.wild {m = 2 ^ suc k} s in
      ap (cut_by l.size) (filled (2 ^ suc k) (2 ^ 128) (l.wild % 2 ^ suc k) s (power-le (suc k) 128 (omega (arith, h, m))) r) ∙
      cut-filled l.size l.wild (2 ^ suc k) (l.wild % 2 ^ suc k) m (power-le (suc k) width h) s r (rest-free (suc k) h q) given.wild_cut

  free-wild-by : (k : ℕ) (t : Bool) → suc k ≤ width → width ≤ 128 → l.wild / 2 ^ suc k ≡ (if t then (2 ^ width - 1) / 2 ^ suc k else 0) →
      cut_by l.size (((if t then 2 ^ 128 - 1 else 0) * 2 ^ suc k + l.wild % 2 ^ suc k) % 2 ^ 128) ≡ l.wild
  free-wild-by k true h m q = at-top k h m q
  free-wild-by k false h m q =
      let e : 0 * 2 ^ suc k + l.wild % 2 ^ suc k ≡ l.wild = (let u : l.wild % 2 ^ suc k ≡ l.wild = under l.wild (2 ^ suc k) q in omega (arith, u)) in
      ap (λ z. cut_by l.size (z % 2 ^ 128)) e ∙ ap (cut_by l.size) (mod-eq_of_lt {n = l.wild} {m = 2 ^ 128} given.wild) ∙ given.wild_cut

  free-back-by : (k place : ℕ) (t : Bool) → suc k ≤ width → width ≤ 128 → (((l.wild / 2 ^ k) % 2) == 1) ≡ t → GivesDigits width l.value l.wild (suc k) →
      GivesBack l (based_literal place l.signed 2 (free_digits (suc k) l.value l.wild))
  free-back-by k place t h m e g =
      let n : suc k - 1 ≡ k = omega arith in
      let p : 2 ^ suc k ≤ 2 ^ 128 = power-le (suc k) 128 (omega (arith, h, m)) in
      let s : 0 < 2 ^ suc k = pow_pos (suc k) in
      let r : l.wild % 2 ^ suc k < 2 ^ suc k = mod-lt l.wild {m = 2 ^ suc k} s in
      let whole-value : l.value % 2 ^ suc k ≡ l.value = under l.value (2 ^ suc k) g.value in
      let v : digits_number value_digit 2 0 (free_digits (suc k) l.value l.wild) % 2 ^ 128 ≡ l.value =
      ap (λ z. z % 2 ^ 128) (free_value (suc k) l.value l.wild given.apart ∙ whole-value) ∙ mod-eq_of_lt {n = l.value} {m = 2 ^ 128} given.value in
      let a : above (free_digits (suc k) l.value l.wild) ≡ (if t then 2 ^ 128 - 1 else 0) = ap (λ b. if b then 2 ^ 128 - 1 else 0) (free_leads k l.value l.wild ∙ e) in
      let w : digits_number (free_digit 2) 2 (above (free_digits (suc k) l.value l.wild)) (free_digits (suc k) l.value l.wild) ≡ (if t then 2 ^ 128 - 1 else 0) * 2 ^ suc k + l.wild % 2 ^ suc k =
      ap (λ z. digits_number (free_digit 2) 2 z (free_digits (suc k) l.value l.wild)) a ∙ free_wild (suc k) (if t then 2 ^ 128 - 1 else 0) l.value l.wild in
      let q : l.wild / 2 ^ suc k ≡ (if t then (2 ^ width - 1) / 2 ^ suc k else 0) =
      g.wild ∙ ap (λ j. if (l.wild / 2 ^ j) % 2 == 1 then (2 ^ width - 1) / 2 ^ suc k else 0) n ∙ ap (λ b. if b then (2 ^ width - 1) / 2 ^ suc k else 0) e in
      record {
        signed = refl;
        value = ap (cut_by l.size) v ∙ given.value_cut;
        wild = ap (λ z. cut_by l.size (z % 2 ^ 128)) w ∙ free-wild-by k t h m q;
      }

  back-by : (place : ℕ) (b : Bool) → nat_lt 0 l.wild ≡ b → GivesBack l (based_of place (based_token l).bytes)
  back-by place true e =
      let f : 0 < l.wild = ltb-true 0 l.wild e in
      let i : IsFirst (gives_back width l.value l.wild) 1 width count = first-count f in
      let d : HasDigits l = has-digits l given f in
      let least : 1 ≤ count = i.least in
      let n : count ≡ suc (count - 1) = omega (arith, least) in
      let same : based_of place (based_token l).bytes ≡ based_literal place l.signed 2 (free_digits count l.value l.wild) =
      ap (λ b. based_of place (39 ∷ (sign_letter l.signed ++ (if b then 98 ∷ free_digits count l.value l.wild else 104 ∷ hexadecimal l.value)))) e ∙
      read-signed place 98 2 (free_digits count l.value l.wild) l.signed no-sign-b binary-base (no-blanks 2 _ (free_all (base-digit 2) free-mark free-bits count l.value l.wild)) in
      let g : GivesDigits width l.value l.wild (suc (count - 1)) = subst (GivesDigits width l.value l.wild) n (gives_digits width l.value l.wild count i.passes) in
      let back : GivesBack l (based_literal place l.signed 2 (free_digits (suc (count - 1)) l.value l.wild)) =
      free-back-by (count - 1) place _ (subst (λ z. z ≤ width) n i.most) d.most refl g in
      subst (GivesBack l) (sym (same ∙ ap (λ z. based_literal place l.signed 2 (free_digits z l.value l.wild)) n)) back
  back-by place false e =
      let z : l.wild ≡ 0 = (let f : l.wild ≤ 0 = ltb-false 0 l.wild e in omega (arith, f)) in
      let same : based_of place (based_token l).bytes ≡ based_literal place l.signed 16 (hexadecimal l.value) =
      ap (λ b. based_of place (39 ∷ (sign_letter l.signed ++ (if b then 98 ∷ free_digits count l.value l.wild else 104 ∷ hexadecimal l.value)))) e ∙
      read-signed place 104 16 (hexadecimal l.value) l.signed no-sign-h hexadecimal-base (no-blanks 16 _ (digits_all (base-digit 16) 16 128 l.value (omega arith) check-hexadecimal)) in
      subst (GivesBack l) (sym same) (hexadecimal-back place z)

pub based_whole : (l : Literal) → IsGiven l → IsWhole (based_token l)
based_whole l h = whole l h

pub based_back : (l : Literal) (place : ℕ) → IsGiven l → GivesBack l (based_of place (based_token l).bytes)
based_back l place h = back-by l h place (nat_lt 0 l.wild) refl
