-- Each text has a token list that is taken, or is refused.
use Rattle.std.proofs.Common.{◌≡◌, ℕ, zero, suc, ◌+◌, ◌<◌, ◌≤◌, true, false, List, [], ◌∷◌, ◌++◌, length, take, drop, Some, None, ◌⊎◌, inl, inr, refl, sym, ap, ◌∙◌, subst, arith}
use Rattle.std.proofs.lemmas.List.{take_all}
use Rattle.std.proofs.lemmas.Option.{none-some}
use Rattle.lv_ast.specs.Tokens.{kind_of, fits}
use Rattle.lv_ast.specs.TokenLists.{Nothing, Comment, Endless, opening, gap_length, IsFirstToken, AreTokensFrom}
use Rattle.lv_ast.specs.declared.tokens.Kind.{Kind}
use Rattle.lv_ast.specs.declared.tokens.Token.{Token}
use Rattle.lv_lexer.specs.declared.error.LexError.{LexError}
use Rattle.lv_lexer.specs.declared.error.LexError.TheVariants as lex
use Rattle.lv_lexer.specs.Refusals.{Stand, IsLexRefusal}
use Rattle.lv_lexer.proofs.Comments.{gap_of_comment}
use Rattle.lv_lexer.proofs.Stands.{no-bytes, stand_start, stand_gap, stand_token, begins_more, bad_literal, bad_byte, unclosed, gap_step, token_step, token_at, token_fits}
use Rattle.lv_steps.specs.declared.ended.Ended.TheVariants as t
use Rattle.lv_steps.specs.Chain.{lexes}
use Rattle.lv_steps.specs.Total.{is_own, IsAnswered, IsTotal}

pub lt_or_le : (m n : ℕ) → (m < n) ⊎ (n ≤ m)
lt_or_le m zero = inr (omega arith)
lt_or_le zero (suc n) = inl (omega arith)
lt_or_le (suc m) (suc n) = elim (lt_or_le m n) [ inl h ↦ inl (omega (arith, h)) | inr h ↦ inr (omega (arith, h)) ]

-- ---- the longest token at the front of a text

abbrev NoToken : List ℕ → Type 0
NoToken s = (j : ℕ) → kind_of (take j s) ≡ None

-- no front of more than m bytes is a token
abbrev NoneAbove : List ℕ → ℕ → Type 0
NoneAbove s m = (j : ℕ) → m < j → j ≤ length s → kind_of (take j s) ≡ None

record FirstToken (s : List ℕ) : Type 0 where
  kind : Kind
  n : ℕ
  within : n ≤ length s
  whole : kind_of (take n s) ≡ Some kind
  longest : NoneAbove s n

one-less : (s : List ℕ) (m : ℕ) → NoneAbove s (suc m) → kind_of (take (suc m) s) ≡ None → NoneAbove s m
one-less s m h e j above within = elim (lt_or_le (suc m) j) [
  | inl l ↦ h j l within
  | inr l ↦ let same : suc m ≡ j = omega (arith, above, l) in subst (λ k. kind_of (take k s) ≡ None) same e
]

none-within : (s : List ℕ) → NoneAbove s 0 → (j : ℕ) → j ≤ length s → kind_of (take j s) ≡ None
none-within s h zero w = no-bytes
none-within s h (suc j) w = h (suc j) (omega arith) w

no-token : (s : List ℕ) → NoneAbove s 0 → NoToken s
no-token s h j = elim (lt_or_le (length s) j) [
  | inl l ↦
      let whole : take j s ≡ take (length s) s = take_all j s (omega (arith, l)) ∙ sym (take_all (length s) s (omega arith)) in
      ap kind_of whole ∙ none-within s h (length s) (omega arith)
  | inr l ↦ none-within s h j l
]

look : (s : List ℕ) (m : ℕ) → m ≤ length s → NoneAbove s m → FirstToken s ⊎ NoToken s
look s zero w h = inr (no-token s h)
look s (suc m) w h =
    elim (kind_of (take (suc m) s)) as (λ o. kind_of (take (suc m) s) ≡ o → FirstToken s ⊎ NoToken s) [
      | None ↦ λ e. look s m (omega (arith, w)) (one-less s m h e)
      | Some k ↦ λ e. inl (record { kind = k; n = suc m; within = w; whole = e; longest = h })
    ] refl

front : (s : List ℕ) → FirstToken s ⊎ NoToken s
front s = look s (length s) (omega arith) (λ j above within. absurd (omega (arith, above, within)))

-- ---- from one place to the next

module _ (text : List ℕ) where
  abbrev Answer : Type 0
  Answer = IsAnswered lexes text

  -- reading goes on at a place behind
  abbrev Next : ℕ → Type 0
  Next p = (us : List Token) (q : ℕ) → Stand text us q → p < q → q ≤ length text → Answer

  refused : (x : LexError) → is_own (t.Tokens x) ≡ true → IsLexRefusal text x → Answer
  refused x own r = inr (t.Tokens x, r, own)

  done : (ts : List Token) (p : ℕ) → Stand text ts p → p ≡ length text → Answer
  done ts p h e =
      inl (record { text = text; list = ts }, record { same = refl; listed = subst (AreTokensFrom text 0 ts) e h.list; whole = h.whole; few = h.few })

  fitting : (ts : List Token) (p : ℕ) → Stand text ts p → p < length text → (k : Kind) (n : ℕ) → IsFirstToken (drop p text) k n → fits k (take n (drop p text)) ≡ true → Next p → Answer
  fitting ts p h l k n first fit next =
      let token : Token = record { kind = k; start = p; end = p + n } in
      elim (lt_or_le (length ts) 500000) [
        | inl few ↦
            let w = token_step text (drop p text) k p n refl l first in
            next (ts ++ token ∷ []) (p + n) (stand_token text ts token h (token_at text k p n first) (omega (arith, l)) (token_fits text (drop p text) k p n refl fit) few) w.0 w.1
        | inr many ↦ refused (lex.TooMany 500001) refl (refl, begins_more text ts token h (token_at text k p n first) many)
      ]

  at-token : (ts : List Token) (p : ℕ) → Stand text ts p → p < length text → (k : Kind) (n : ℕ) → IsFirstToken (drop p text) k n → Next p → Answer
  at-token ts p h l k n first next =
      elim (fits k (take n (drop p text))) as (λ b. fits k (take n (drop p text)) ≡ b → Answer) [
        | true ↦ λ e. fitting ts p h l k n first e next
        | false ↦ λ e. refused (lex.BadLiteral p) refl (bad_literal text ts p h (record { kind = k; length = n; first = first; high = e }))
      ] refl

  at-nothing : (ts : List Token) (p : ℕ) → Stand text ts p → p < length text → gap_length (drop p text) ≡ None → opening (drop p text) ≡ Nothing → Next p → Answer
  at-nothing ts p h l g o next = elim (front (drop p text)) [
    | inl b ↦ at-token ts p h l b.kind b.n (record { no_comment = o; within = b.within; whole = b.whole; longest = b.longest }) next
    | inr none ↦ refused (lex.BadByte p) refl (bad_byte text ts p h l (record { no_comment = o; no_gap = g; no_token = none }))
  ]

  at-bare : (ts : List Token) (p : ℕ) → Stand text ts p → p < length text → gap_length (drop p text) ≡ None → Next p → Answer
  at-bare ts p h l g next =
      elim (opening (drop p text)) as (λ o. opening (drop p text) ≡ o → Answer) [
        | Nothing ↦ λ e. at-nothing ts p h l g e next
        | Comment n ↦ λ e. absurd (none-some n (sym g ∙ gap_of_comment (drop p text) n (sym e)))
        | Endless ↦ λ e. refused (lex.Unclosed p) refl (unclosed text ts p h e)
      ] refl

  at-place : (ts : List Token) (p : ℕ) → Stand text ts p → p < length text → Next p → Answer
  at-place ts p h l next =
      elim (gap_length (drop p text)) as (λ o. gap_length (drop p text) ≡ o → Answer) [
        | None ↦ λ e. at-bare ts p h l e next
        | Some n ↦ λ e. let w = gap_step text (drop p text) p n refl l e in next ts (p + n) (stand_gap text ts p n h e) w.0 w.1
      ] refl

  -- the steps that are left are fewer than some number
  goes : (left : ℕ) (ts : List Token) (p : ℕ) → Stand text ts p → p ≤ length text → length text < p + left → Answer
  goes zero ts p h w f = absurd (omega (arith, w, f))
  goes (suc left) ts p h w f = elim (lt_or_le p (length text)) [
    | inl l ↦ at-place ts p h l (λ us q stand above within. goes left us q stand within (omega (arith, f, above)))
    | inr l ↦ done ts p h (omega (arith, w, l))
  ]

pub lexes_total : IsTotal lexes
lexes_total text = goes text (suc (length text)) [] 0 (stand_start text) (omega arith) (omega arith)
