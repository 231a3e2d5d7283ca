-- The tokens of a text up to a place, and one more.
use Rattle.std.proofs.Common.{◌≡◌, ℕ, zero, suc, ◌+◌, ◌-◌, ◌<◌, ◌≤◌, Bool, true, false, ◌&&◌, if◌then◌else◌, ◌==◌, List, [], ◌∷◌, ◌++◌, length, take, drop, Option, Some, None, refl, sym, ap, ◌∙◌, subst, arith, length-drop, length-append}
use Rattle.std.proofs.lemmas.Bool.{le-leb}
use Rattle.std.proofs.lemmas.List.Folds.{list_all-append}
use Rattle.std.proofs.lemmas.Option.{none-some}
use lib.Dec.{T, eqb_refl}
use Rattle.lv_ast.specs.Tokens.{is_blank, kind_of, fits, token_bytes}
use Rattle.lv_ast.specs.TokenLists.{Opening, Nothing, Comment, Endless, opening, line_length, block_length, longer, block_comment, gap_length, opening_length, blank_length, IsGap, more, AreTokensFrom, IsTokenAt, IsFirstToken, IsTokenListOf, is_token, is_kind, kind_number, are_tokens, BeginsWithMore, IsBadByte, IsBadLiteral, IsUnclosed}
use Rattle.lv_ast.specs.TokenLists as lists
use Rattle.lv_ast.specs.declared.tokens.Kind.{Kind}
use Rattle.lv_ast.specs.declared.tokens.Token.{Token}
use Rattle.lv_lexer.specs.Pieces.{IsBadLiteralFront, IsBadFront}
use Rattle.lv_lexer.specs.Refusals.{Stand}

-- ---- white space and comments

module _ (text : List ℕ) where
  gap-more : {p q : ℕ} → IsGap text p q → (n : ℕ) → gap_length (drop q text) ≡ Some n → IsGap text p (q + n)
  gap-more {p} {q} (lists.none e) n h = lists.more n (subst (λ k. gap_length (drop k text) ≡ Some n) (sym e) h) (lists.none (ap (λ k. k + n) e))
  gap-more (lists.more m g rest) n h = lists.more m g (gap-more rest n h)

  tokens-gap : (p : ℕ) (ts : List Token) (q : ℕ) → AreTokensFrom text p ts q → (n : ℕ) → gap_length (drop q text) ≡ Some n → AreTokensFrom text p ts (q + n)
  tokens-gap p [] q h n g = gap-more h n g
  tokens-gap p (t ∷ ts) q h n g = (h.0, h.1, tokens-gap t.end ts q h.2 n g)

  pub tokens_push : (p : ℕ) (ts : List Token) (q : ℕ) → AreTokensFrom text p ts q → (t : Token) → q ≡ t.start → IsTokenAt text t → AreTokensFrom text p (ts ++ t ∷ []) t.end
  tokens_push p [] q h t e k = (subst (IsGap text p) e h, k, lists.none refl)
  tokens_push p (u ∷ ts) q h t e k = (h.0, h.1, tokens_push u.end ts q h.2 t e k)

-- ---- how long white space and comments are

line-within : (s : List ℕ) → line_length s ≤ length s
unfolding line_length
line-within [] = omega arith
line-within (c ∷ cs) = elim (c == 10) as (λ b. (if b then 0 else suc (line_length cs)) ≤ suc (length cs)) [ true ↦ omega arith | false ↦ let h : line_length cs ≤ length cs = line-within cs in omega (arith, h) ]

pub some-same : (m n : ℕ) → Some m ≡ Some n → m ≡ n
some-same m n h = ap (λ o. elim o as (λ _. ℕ) [ None ↦ 0 | Some k ↦ k ]) h

longer-within : (r : Option ℕ) (l : ℕ) → ((n : ℕ) → r ≡ Some n → n ≤ l) → (n : ℕ) → longer 1 r ≡ Some n → n ≤ suc l
longer-within None l h n e = absurd (none-some n e)
longer-within (Some m) l h n e = let k : m ≤ l = h m refl in let j : 1 + m ≡ n = some-same _ _ e in omega (arith, k, j)

block-within : (s : List ℕ) (n : ℕ) → block_length s ≡ Some n → n ≤ length s
unfolding block_length
block-within [] n = λ h. absurd (none-some n h)
block-within (c ∷ []) n = λ h. absurd (none-some n h)
block-within (c ∷ d ∷ cs) n =
    elim ((c == 42) && (d == 47)) as (λ b. (if b then Some 2 else longer 1 (block_length (d ∷ cs))) ≡ Some n → n ≤ suc (suc (length cs))) [
      | true ↦ λ h. let k : 2 ≡ n = some-same 2 n h in omega (arith, k)
      | false ↦ λ h. longer-within (block_length (d ∷ cs)) (suc (length cs)) (block-within (d ∷ cs)) n h
    ]

abbrev pub Within : List ℕ → ℕ → Type 0
Within s n = (0 < n) × (n ≤ length s)

blank-within : (s : List ℕ) (n : ℕ) → blank_length s ≡ Some n → Within s n
blank-within [] n = λ h. absurd (none-some n h)
blank-within (c ∷ cs) n =
    elim (is_blank c) as (λ b. (if b then Some 1 else None) ≡ Some n → Within (c ∷ cs) n) [
      | true ↦ λ h. let k : 1 ≡ n = some-same 1 n h in (omega (arith, k), omega (arith, k))
      | false ↦ λ h. absurd (none-some n h)
    ]

block-gap : (r : Option ℕ) (c d : ℕ) (cs : List ℕ) → ((m : ℕ) → r ≡ Some m → m ≤ length cs) → (n : ℕ) → opening_length (block_comment r) (c ∷ d ∷ cs) ≡ Some n → Within (c ∷ d ∷ cs) n
block-gap None c d cs h n e = absurd (none-some n e)
block-gap (Some m) c d cs h n e = let k : m ≤ length cs = h m refl in let j : 2 + m ≡ n = some-same _ _ e in (omega (arith, j), omega (arith, k, j))

pub gap_within : (s : List ℕ) (n : ℕ) → gap_length s ≡ Some n → Within s n
unfolding gap_length opening
gap_within [] n = λ h. absurd (none-some n h)
gap_within (c ∷ []) n = λ h. blank-within (c ∷ []) n h
gap_within (c ∷ d ∷ cs) n =
    elim ((c == 47) && (d == 47)) as (λ a. opening_length (if a then Comment (2 + line_length cs) else (if (c == 47) && (d == 42) then block_comment (block_length cs) else Nothing)) (c ∷ d ∷ cs) ≡ Some n → Within (c ∷ d ∷ cs) n) [
      | true ↦ λ h. let k : line_length cs ≤ length cs = line-within cs in let j : 2 + line_length cs ≡ n = some-same _ _ h in (omega (arith, j), omega (arith, k, j))
      | false ↦
          elim ((c == 47) && (d == 42)) as (λ b. opening_length (if b then block_comment (block_length cs) else Nothing) (c ∷ d ∷ cs) ≡ Some n → Within (c ∷ d ∷ cs) n) [
            | true ↦ λ h. block-gap (block_length cs) c d cs (block-within cs) n h
            | false ↦ λ h. blank-within (c ∷ d ∷ cs) n h
          ]
    ]

pub no-bytes : kind_of [] ≡ None
unfolding kind_of
no-bytes = refl

first-positive : (s : List ℕ) (k : Kind) (n : ℕ) → IsFirstToken s k n → 0 < n
first-positive s k zero h = absurd (none-some k (sym no-bytes ∙ h.whole))
first-positive s k (suc n) h = omega arith

pub first_within : (s : List ℕ) (k : Kind) (n : ℕ) → IsFirstToken s k n → Within s n
first_within s k n h = (first-positive s k n h, h.within)

-- ---- one more piece

pub stand_start : (text : List ℕ) → Stand text [] 0
stand_start text = record { list = lists.none refl; whole = refl; few = omega arith }

pub stand_gap : (text : List ℕ) (ts : List Token) (p n : ℕ) → Stand text ts p → gap_length (drop p text) ≡ Some n → Stand text ts (p + n)
stand_gap text ts p n h g = record { list = tokens-gap text 0 ts p h.list n g; whole = h.whole; few = h.few }

pub token_at : (text : List ℕ) (k : Kind) (p n : ℕ) → IsFirstToken (drop p text) k n → IsTokenAt text (record { kind = k; start = p; end = p + n })
token_at text k p n h = record { rises = omega arith; first = let e : n ≡ p + n - p = omega arith in subst (IsFirstToken (drop p text) k) e h }

is-so : (b : Bool) → T b → b ≡ true
is-so true h = refl
is-so false h = absurd h

same-kind : (k : Kind) → is_kind (Some k) k ≡ true
same-kind k = is-so _ (eqb_refl (kind_number k))

all-four : (a b c d : Bool) → a ≡ true → b ≡ true → c ≡ true → d ≡ true → (a && b && c && d) ≡ true
all-four a b c d ha hb hc hd = rw (ha, hb, hc, hd) refl

token-whole : (text : List ℕ) (t : Token) → IsTokenAt text t → t.start ≤ length text → fits t.kind (token_bytes text t) ≡ true → is_token text t ≡ true
unfolding is_token
token-whole text t h l f =
    let w : t.end - t.start ≤ length (drop t.start text) = h.first.within in
    let e : length (drop t.start text) ≡ length text - t.start = length-drop t.start text in
    all-four _ _ _ _
    (le-leb _ _ h.rises)
    (le-leb _ _ (let r : t.start ≤ t.end = h.rises in omega (arith, w, e, r, l)))
    (ap (λ o. is_kind o t.kind) h.first.whole ∙ same-kind t.kind)
    f

pub stand_token : (text : List ℕ) (ts : List Token) (t : Token) → Stand text ts t.start → IsTokenAt text t → t.start ≤ length text → fits t.kind (token_bytes text t) ≡ true → length ts < 500000 → Stand text (ts ++ t ∷ []) t.end
stand_token text ts t h k l f n = record {
  list = tokens_push text 0 ts t.start h.list t refl k;
  whole = list_all-append (is_token text) ts (t ∷ []) ∙ (ap (λ b. b && (is_token text t && true)) h.whole ∙ ap (λ b. b && true) (token-whole text t k l f));
  few = let e : length (ts ++ t ∷ []) ≡ length ts + 1 = length-append ts (t ∷ []) in omega (arith, e, n);
}

pub begins_more : (text : List ℕ) (ts : List Token) (t : Token) → Stand text ts t.start → IsTokenAt text t → 500000 ≤ length ts → BeginsWithMore 500000 text
begins_more text ts t h k n = record {
  tokens = ts ++ t ∷ [];
  place = t.end;
  stand = tokens_push text 0 ts t.start h.list t refl k;
  many = let e : length (ts ++ t ∷ []) ≡ length ts + 1 = length-append ts (t ∷ []) in omega (arith, e, n);
}

pub bad_literal : (text : List ℕ) (ts : List Token) (p : ℕ) → Stand text ts p → IsBadLiteralFront (drop p text) → IsBadLiteral text p
bad_literal text ts p h b = record {
  token = record { kind = b.kind; start = p; end = p + b.length };
  place = refl;
  reached = (ts, h.list);
  stands = token_at text b.kind p b.length b.first;
  high = let e : b.length ≡ p + b.length - p = omega arith in subst (λ n. fits b.kind (take n (drop p text)) ≡ false) e b.high;
}

pub bad_byte : (text : List ℕ) (ts : List Token) (p : ℕ) → Stand text ts p → p < length text → IsBadFront (drop p text) → IsBadByte text p
bad_byte text ts p h l b = record { reached = (ts, h.list); within = l; no_comment = b.no_comment; no_gap = b.no_gap; no_token = b.no_token }

pub unclosed : (text : List ℕ) (ts : List Token) (p : ℕ) → Stand text ts p → opening (drop p text) ≡ Endless → IsUnclosed text p
unclosed text ts p h e = record { reached = (ts, h.list); endless = e }

-- ---- where the next piece ends

step-within : (text t : List ℕ) (p n : ℕ) → t ≡ drop p text → p < length text → Within t n → (p < p + n) × (p + n ≤ length text)
step-within text t p n e l w =
    let d : length t ≡ length text - p = ap length e ∙ length-drop p text in
    let a : 0 < n = w.0 in
    let b : n ≤ length t = w.1 in
    (omega (arith, a), omega (arith, b, d, l))

pub gap_step : (text t : List ℕ) (p n : ℕ) → t ≡ drop p text → p < length text → gap_length t ≡ Some n → (p < p + n) × (p + n ≤ length text)
gap_step text t p n e l h = step-within text t p n e l (gap_within t n h)

pub token_step : (text t : List ℕ) (k : Kind) (p n : ℕ) → t ≡ drop p text → p < length text → IsFirstToken t k n → (p < p + n) × (p + n ≤ length text)
token_step text t k p n e l h = step-within text t p n e l (first_within t k n h)

pub token_fits : (text t : List ℕ) (k : Kind) (p n : ℕ) → t ≡ drop p text → fits k (take n t) ≡ true → fits k (token_bytes text (record { kind = k; start = p; end = p + n })) ≡ true
token_fits text t k p n e h =
    let m : n ≡ p + n - p = omega arith in
    subst (λ j. fits k (take j (drop p text)) ≡ true) m (subst (λ l. fits k (take n l) ≡ true) e h)
