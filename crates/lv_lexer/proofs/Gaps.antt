-- No token begins with white space, and what begins at a place is one token or none.
use Rattle.std.proofs.Common.{◌≡◌, ℕ, zero, suc, ◌-◌, ◌<◌, ◌≤◌, true, false, if◌then◌else◌, ◌==◌, ◌||◌, List, [], ◌∷◌, length, take, drop, Option, Some, None, refl, sym, ap, ◌∙◌, subst, arith}
use Rattle.std.proofs.lemmas.Bool.{eqb-true}
use Rattle.std.proofs.lemmas.Option.{none-some}
use Rattle.lv_ast.specs.Tokens.{is_blank, kind_of, is_mark, is_digit}
use Rattle.lv_ast.specs.TokenLists.{opening, gap_length, opening_length, blank_length, IsTokenAt, IsFirstToken}
use Rattle.lv_ast.specs.declared.tokens.Kind.{Kind}
use Rattle.lv_ast.specs.declared.tokens.Token.{Token}
use Rattle.lv_lexer.proofs.Longest.{take-nothing}
use Rattle.lv_lexer.proofs.Stands.{no-bytes}

-- ---- no token begins with white space

at-space : (xs : List ℕ) → kind_of (32 ∷ xs) ≡ None
unfolding kind_of is_mark is_digit
at-space xs = refl

at-tab : (xs : List ℕ) → kind_of (9 ∷ xs) ≡ None
unfolding kind_of is_mark is_digit
at-tab xs = refl

at-feed : (xs : List ℕ) → kind_of (12 ∷ xs) ≡ None
unfolding kind_of is_mark is_digit
at-feed xs = refl

at-return : (xs : List ℕ) → kind_of (13 ∷ xs) ≡ None
unfolding kind_of is_mark is_digit
at-return xs = refl

by-value : (a c : ℕ) (xs : List ℕ) → kind_of (a ∷ xs) ≡ None → (c == a) ≡ true → kind_of (c ∷ xs) ≡ None
by-value a c xs h e = ap (λ d. kind_of (d ∷ xs)) (eqb-true c a e) ∙ h

blank-kind : (c : ℕ) (xs : List ℕ) → is_blank c ≡ true → kind_of (c ∷ xs) ≡ None
unfolding is_blank
blank-kind c xs =
    elim (c == 32) as (λ b. c == 32 ≡ b → (b || (c == 9) || (c == 12) || (c == 13)) ≡ true → kind_of (c ∷ xs) ≡ None) [
      | true ↦ λ e _. by-value 32 c xs (at-space xs) e
      | false ↦ λ _.
          elim (c == 9) as (λ b. c == 9 ≡ b → (b || (c == 12) || (c == 13)) ≡ true → kind_of (c ∷ xs) ≡ None) [
            | true ↦ λ e _. by-value 9 c xs (at-tab xs) e
            | false ↦ λ _.
                elim (c == 12) as (λ b. c == 12 ≡ b → (b || (c == 13)) ≡ true → kind_of (c ∷ xs) ≡ None) [
                  | true ↦ λ e _. by-value 12 c xs (at-feed xs) e
                  | false ↦ λ _ e. by-value 13 c xs (at-return xs) e
                ] refl
          ] refl
    ] refl

blank-none : (s : List ℕ) (n : ℕ) (k : Kind) → kind_of (take n s) ≡ Some k → blank_length s ≡ None
blank-none [] n k h = refl
blank-none (c ∷ cs) zero k h = absurd (none-some k (sym no-bytes ∙ h))
blank-none (c ∷ cs) (suc n) k h =
    elim (is_blank c) as (λ b. is_blank c ≡ b → ◌≡◌ {A = Option ℕ} (if b then Some 1 else None) None) [
      | true ↦ λ e. absurd (none-some k (sym (blank-kind c (take n cs) e) ∙ h))
      | false ↦ λ _. refl
    ] refl

-- where a token begins there is no gap
pub no_gap : (s : List ℕ) (k : Kind) (n : ℕ) → IsFirstToken s k n → gap_length s ≡ None
unfolding gap_length
no_gap s k n h = ap (λ o. opening_length o s) h.no_comment ∙ blank-none s n k h.whole

pub no_gap_at_end : gap_length [] ≡ None
unfolding gap_length opening
no_gap_at_end = refl

pub drop_end : (s : List ℕ) → drop (length s) s ≡ []
drop_end [] = refl
drop_end (c ∷ cs) = drop_end cs

-- ---- one length and one kind

no-longer : (s : List ℕ) (k j : Kind) (n m : ℕ) → IsFirstToken s k n → IsFirstToken s j m → n < m → ⊥
no-longer s k j n m h i l = none-some j (sym (h.longest m l i.within) ∙ i.whole)

same-length : (s : List ℕ) (k j : Kind) (n m : ℕ) → IsFirstToken s k n → IsFirstToken s j m → n ≡ m
same-length s k j n m h i = omega (arith, no-longer s k j n m h i, no-longer s j k m n i h)

kind-or : Option Kind → Kind → Kind
kind-or None d = d
kind-or (Some k) d = k

some-kind : (k j : Kind) → Some k ≡ Some j → k ≡ j
unfolding kind-or
some-kind k j h = ap (λ o. kind-or o k) h

same-kind : (s : List ℕ) (k j : Kind) (n m : ℕ) → IsFirstToken s k n → IsFirstToken s j m → k ≡ j
same-kind s k j n m h i = some-kind k j (sym h.whole ∙ (ap (λ l. kind_of (take l s)) (same-length s k j n m h i) ∙ i.whole))

module _ (text : List ℕ) where
  -- neither white space nor a comment begins there
  abbrev pub Bare : ℕ → Type 0
  Bare p = gap_length (drop p text) ≡ None

  pub bare_token : (t : Token) → IsTokenAt text t → Bare t.start
  bare_token t h = no_gap (drop t.start text) t.kind (t.end - t.start) h.first

  pub bare_end : Bare (length text)
  bare_end = ap gap_length (drop_end text) ∙ no_gap_at_end

  pub same_token : (t u : Token) → t.start ≡ u.start → IsTokenAt text t → IsTokenAt text u → t ≡ u
  same_token t u e h i =
      let first : IsFirstToken (drop t.start text) u.kind (u.end - u.start) = subst (λ p. IsFirstToken (drop p text) u.kind (u.end - u.start)) (sym e) i.first in
      let k : t.kind ≡ u.kind = same-kind _ _ _ _ _ h.first first in
      let l : t.end - t.start ≡ u.end - u.start = same-length _ _ _ _ _ h.first first in
      let r : t.start ≤ t.end = h.rises in
      let s : u.start ≤ u.end = i.rises in
      let f : t.end ≡ u.end = omega (arith, l, e, r, s) in
      λ j. record { kind = k j; start = e j; end = f j }

  -- past the end there is no token
  pub no_token_at_end : (t : Token) → t.start ≡ length text → IsTokenAt text t → ⊥
  no_token_at_end t e h =
      let d : drop t.start text ≡ [] = ap (λ p. drop p text) e ∙ drop_end text in
      let first : IsFirstToken [] t.kind (t.end - t.start) = subst (λ l. IsFirstToken l t.kind (t.end - t.start)) d h.first in
      none-some t.kind (sym (ap kind_of (take-nothing (t.end - t.start)) ∙ no-bytes) ∙ first.whole)
