-- Where no refusal has its cause, and where a text has too many tokens.
use Rattle.std.proofs.Common.{◌≡◌, ℕ, ◌+◌, ◌-◌, ◌<◌, ◌≤◌, Bool, true, false, ◌&&◌, List, [], ◌∷◌, ◌++◌, length, take, drop, Some, None, refl, sym, ap, ◌∙◌, subst, arith, length-append, true≢false}
use Rattle.std.proofs.lemmas.List.Folds.{list_all-append}
use Rattle.std.proofs.lemmas.Option.{none-some}
use Rattle.lv_ast.specs.Tokens.{kind_of, fits, token_bytes}
use Rattle.lv_ast.specs.TokenLists.{Nothing, Endless, opening, gap_length, opening_length, AreTokensFrom, IsTokenListOf, is_token, are_tokens, BeginsWithMore, IsBadByte, IsBadLiteral, IsUnclosed}
use Rattle.lv_ast.specs.declared.tokens.Token.{Token}
use Rattle.lv_lexer.specs.declared.error.LexError.{LexError}
use Rattle.lv_lexer.specs.declared.error.LexError.TheVariants.{BadByte, BadLiteral, Unclosed, TooMany, NoMemory}
use Rattle.lv_lexer.specs.Refusals.{IsLexRefusal, Stand}
use Rattle.lv_lexer.proofs.Stands.{tokens_push}
use Rattle.lv_lexer.proofs.Unique.{IsEnd, IsFrontOf, each_front, list_front, one_place, text_end}

-- ---- where reading ends

bad_byte_end : (text : List ℕ) (p : ℕ) → IsBadByte text p → IsEnd text p
bad_byte_end text p b = record {
  no_gap = b.no_gap;
  no_token = λ t e h. none-some t.kind (sym (b.no_token (t.end - t.start)) ∙ subst (λ q. kind_of (take (t.end - t.start) (drop q text)) ≡ Some t.kind) e h.first.whole);
}

endless-gap : (s : List ℕ) → opening s ≡ Endless → gap_length s ≡ None
unfolding gap_length
endless-gap s h = ap (λ o. opening_length o s) h

nothing-endless : Nothing ≡ Endless → ⊥
nothing-endless h = cc

unclosed_end : (text : List ℕ) (p : ℕ) → IsUnclosed text p → IsEnd text p
unclosed_end text p b = record {
  no_gap = endless-gap (drop p text) b.endless;
  no_token = λ t e h. nothing-endless (sym (subst (λ q. opening (drop q text) ≡ Nothing) e h.first.no_comment) ∙ b.endless);
}

-- ---- many tokens

front_length : (ts us : List Token) → IsFrontOf us ts → length us ≤ length ts
front_length ts us f = let e : length ts ≡ length us + length f.0 = ap length f.1 ∙ length-append us f.0 in omega (arith, e)

-- where reading has ended after few tokens, the text doesn't begin with many
few_tokens : (text : List ℕ) (ts : List Token) (p : ℕ) → Stand text ts p → IsEnd text p → BeginsWithMore 500000 text → ⊥
few_tokens text ts p h b m =
    let l : length m.tokens ≤ length ts = front_length ts m.tokens (each_front text 0 ts m.tokens p m.place h.list b m.stand) in
    let few : length ts ≤ 500000 = h.few in
    let many : 500000 < length m.tokens = m.many in
    omega (arith, l, few, many)

pub many_no_bad_byte : (text : List ℕ) (ts : List Token) (p : ℕ) → Stand text ts p → IsBadByte text p → BeginsWithMore 500000 text → ⊥
many_no_bad_byte text ts p h b m = few_tokens text ts p h (bad_byte_end text p b) m

pub many_not_unclosed : (text : List ℕ) (ts : List Token) (p : ℕ) → Stand text ts p → IsUnclosed text p → BeginsWithMore 500000 text → ⊥
many_not_unclosed text ts p h b m = few_tokens text ts p h (unclosed_end text p b) m

pub many_not_whole : (text : List ℕ) (ts : List Token) (p : ℕ) → Stand text ts p → p ≡ length text → BeginsWithMore 500000 text → ⊥
many_not_whole text ts p h e m = few_tokens text ts p h (subst (IsEnd text) (sym e) (text_end text)) m

-- ---- a text with a token list

-- reading ends at the text's end alone
only_end : (text : List ℕ) (ts : List Token) (p : ℕ) → IsTokenListOf text ts → (us : List Token) → AreTokensFrom text 0 us p → IsEnd text p → p ≡ length text
only_end text ts p h us i b = (one_place text 0 us ts p (length text) i b h (text_end text)).1

drop-end : (s : List ℕ) → drop (length s) s ≡ []
drop-end [] = refl
drop-end (c ∷ cs) = drop-end cs

opening-end : opening [] ≡ Nothing
unfolding opening
opening-end = refl

no_bad_byte : (text : List ℕ) (ts : List Token) (p : ℕ) → IsTokenListOf text ts → IsBadByte text p → ⊥
no_bad_byte text ts p h b =
    let e : p ≡ length text = only_end text ts p h b.reached.0 b.reached.1 (bad_byte_end text p b) in
    let l : p < length text = b.within in
    omega (arith, e, l)

none_unclosed : (text : List ℕ) (ts : List Token) (p : ℕ) → IsTokenListOf text ts → IsUnclosed text p → ⊥
none_unclosed text ts p h b =
    let e : p ≡ length text = only_end text ts p h b.reached.0 b.reached.1 (unclosed_end text p b) in
    nothing-endless (sym (ap opening (ap (λ q. drop q text) e ∙ drop-end text) ∙ opening-end) ∙ b.endless)

first-true : (a b : Bool) → (a && b) ≡ true → a ≡ true
first-true true b h = refl
first-true false b h = h

last-true : (a b : Bool) → (a && b) ≡ true → b ≡ true
last-true true b h = h
last-true false b h = absurd (true≢false (sym h))

whole-fits : (text : List ℕ) (t : Token) → is_token text t ≡ true → fits t.kind (token_bytes text t) ≡ true
unfolding is_token
whole-fits text t h = last-true _ _ h

among-whole : (text : List ℕ) (us rest : List Token) (t : Token) → are_tokens text ((us ++ t ∷ []) ++ rest) ≡ true → is_token text t ≡ true
among-whole text us rest t h =
    let a : are_tokens text (us ++ t ∷ []) ≡ true = first-true _ _ (sym (list_all-append (is_token text) (us ++ t ∷ []) rest) ∙ h) in
    first-true _ _ (last-true _ _ (sym (list_all-append (is_token text) us (t ∷ [])) ∙ a))

no_bad_literal : (text : List ℕ) (ts : List Token) (p : ℕ) → IsTokenListOf text ts → are_tokens text ts ≡ true → IsBadLiteral text p → ⊥
no_bad_literal text ts p h w b =
    let up : AreTokensFrom text 0 (b.reached.0 ++ b.token ∷ []) b.token.end = tokens_push text 0 b.reached.0 p b.reached.1 b.token (sym b.place) b.stands in
    let f : IsFrontOf (b.reached.0 ++ b.token ∷ []) ts = list_front text ts (b.reached.0 ++ b.token ∷ []) b.token.end h up in
    let all : are_tokens text ((b.reached.0 ++ b.token ∷ []) ++ f.0) ≡ true = subst (λ l. are_tokens text l ≡ true) f.1 w in
    true≢false (sym (whole-fits text b.token (among-whole text b.reached.0 f.0 b.token all)) ∙ b.high)

-- no refusal but want of memory has its cause
pub no_refusal : (text : List ℕ) (ts : List Token) → Stand text ts (length text) → (e : LexError) → IsLexRefusal text e → e ≡ NoMemory
no_refusal text ts h (BadByte p) c = absurd (no_bad_byte text ts p h.list c)
no_refusal text ts h (BadLiteral p) c = absurd (no_bad_literal text ts p h.list h.whole c)
no_refusal text ts h (Unclosed p) c = absurd (none_unclosed text ts p h.list c)
no_refusal text ts h (TooMany n) c = absurd (many_not_whole text ts (length text) h refl c.1)
no_refusal text ts h NoMemory c = refl
