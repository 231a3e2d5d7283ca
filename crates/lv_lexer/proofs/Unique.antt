-- Of two reached places, the tokens of one are a front of the tokens of the other; so at most one list is the token list of a text.
use Rattle.std.proofs.Common.{◌≡◌, ℕ, ◌+◌, List, [], ◌∷◌, ◌++◌, ◌⊎◌, length, drop, Some, None, refl, sym, ◌∙◌, subst, inl, inr}
use Rattle.std.proofs.lemmas.Option.{none-some}
use Rattle.lv_ast.specs.TokenLists.{Nothing, opening, gap_length, opening_length, blank_length, IsGap, AreTokensFrom, IsTokenAt, IsFirstToken, IsTokenListOf}
use Rattle.lv_ast.specs.TokenLists as lists
use Rattle.lv_ast.specs.declared.tokens.Token.{Token}
use Rattle.lv_lexer.proofs.Gaps.{Bare, bare_token, bare_end, same_token, no_token_at_end}
use Rattle.lv_lexer.proofs.Stands.{some-same}

module _ (text : List ℕ) where
  -- white space and comments end at one place
  one-end : {p q : ℕ} → IsGap text p q → Bare text q → (r : ℕ) → IsGap text p r → Bare text r → q ≡ r
  one-end (lists.none e) b r (lists.none f) c = sym e ∙ f
  one-end (lists.none e) b r (lists.more n g rest) c = absurd (none-some n (sym b ∙ subst (λ k. gap_length (drop k text) ≡ Some n) e g))
  one-end (lists.more n g rest) b r (lists.none f) c = absurd (none-some n (sym c ∙ subst (λ k. gap_length (drop k text) ≡ Some n) f g))
  one-end {p} (lists.more n g rest) b r (lists.more m h other) c =
      let e : m ≡ n = some-same m n (sym h ∙ g) in
      one-end rest b r (subst (λ k. IsGap text (p + k) r) e other) c

  next-token : (p : ℕ) (t u : Token) → IsGap text p t.start → IsTokenAt text t → IsGap text p u.start → IsTokenAt text u → t ≡ u
  next-token p t u g h f i = same_token text t u (one-end g (bare_token text t h) u.start f (bare_token text u i)) h i

-- the one list begins with the other
abbrev pub IsFrontOf : List Token → List Token → Type 0
IsFrontOf ts us = (rest : List Token) × (us ≡ ts ++ rest)

-- one more token before both
front-more : (t u : Token) (ts us : List Token) → t ≡ u → IsFrontOf ts us → IsFrontOf (t ∷ ts) (u ∷ us)
front-more t u ts us e f = (f.0, λ j. sym e j ∷ f.1 j)

-- neither white space nor a comment nor a token begins at p
pub record IsEnd (text : List ℕ) (p : ℕ) : Type 0 where
  pub no_gap : gap_length (drop p text) ≡ None
  pub no_token : (t : Token) → t.start ≡ p → IsTokenAt text t → ⊥

module _ (text : List ℕ) where
  -- of two lists that stand from one place, one is a front of the other
  pub one_front : (p : ℕ) (ts us : List Token) (q r : ℕ) → AreTokensFrom text p ts q → AreTokensFrom text p us r → IsFrontOf ts us ⊎ IsFrontOf us ts
  one_front p [] us q r h i = inl (us, refl)
  one_front p (t ∷ ts) [] q r h i = inr (t ∷ ts, refl)
  one_front p (t ∷ ts) (u ∷ us) q r h i =
      let e : t ≡ u = next-token text p t u h.0 h.1 i.0 i.1 in
      elim (one_front t.end ts us q r h.2 (subst (λ v. AreTokensFrom text v.end us r) (sym e) i.2)) as (λ _. IsFrontOf (t ∷ ts) (u ∷ us) ⊎ IsFrontOf (u ∷ us) (t ∷ ts)) [
        | inl f ↦ inl (front-more t u ts us e f)
        | inr f ↦ inr (front-more u t us ts (sym e) f)
      ]

  -- where nothing begins at q, each list that stands from p is a front of the one up to q
  pub each_front : (p : ℕ) (ts us : List Token) (q r : ℕ) → AreTokensFrom text p ts q → IsEnd text q → AreTokensFrom text p us r → IsFrontOf us ts
  each_front p ts [] q r h b i = (ts, refl)
  each_front p [] (u ∷ us) q r h b i = absurd (b.no_token u (one-end text i.0 (bare_token text u i.1) q h b.no_gap) i.1)
  each_front p (t ∷ ts) (u ∷ us) q r h b i =
      let e : t ≡ u = next-token text p t u h.0 h.1 i.0 i.1 in
      front-more u t us ts (sym e) (each_front t.end ts us q r h.2 b (subst (λ v. AreTokensFrom text v.end us r) (sym e) i.2))

  -- reading ends at one place, with one list
  pub one_place : (p : ℕ) (ts us : List Token) (q r : ℕ) → AreTokensFrom text p ts q → IsEnd text q → AreTokensFrom text p us r → IsEnd text r → (ts ≡ us) × (q ≡ r)
  one_place p [] [] q r h b i c = (refl, one-end text h b.no_gap r i c.no_gap)
  one_place p [] (u ∷ us) q r h b i c = absurd (b.no_token u (one-end text i.0 (bare_token text u i.1) q h b.no_gap) i.1)
  one_place p (t ∷ ts) [] q r h b i c = absurd (c.no_token t (one-end text h.0 (bare_token text t h.1) r i c.no_gap) h.1)
  one_place p (t ∷ ts) (u ∷ us) q r h b i c =
      let e : t ≡ u = next-token text p t u h.0 h.1 i.0 i.1 in
      let rest : (ts ≡ us) × (q ≡ r) = one_place t.end ts us q r h.2 b (subst (λ v. AreTokensFrom text v.end us r) (sym e) i.2) c in
      (λ j. e j ∷ rest.0 j, rest.1)

  pub text_end : IsEnd text (length text)
  text_end = record { no_gap = bare_end text; no_token = no_token_at_end text }

-- each list of a reached place is a front of the token list of the text
pub list_front : (text : List ℕ) (ts us : List Token) (p : ℕ) → IsTokenListOf text ts → AreTokensFrom text 0 us p → IsFrontOf us ts
list_front text ts us p h i = each_front text 0 ts us (length text) p h (text_end text) i

pub one_token_list : (text : List ℕ) (ts us : List Token) → IsTokenListOf text ts → IsTokenListOf text us → ts ≡ us
one_token_list text ts us h i = (one_place text 0 ts us (length text) (length text) h (text_end text) i (text_end text)).0
