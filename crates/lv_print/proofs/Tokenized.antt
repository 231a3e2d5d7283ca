-- The tokens of a text that joins whole tokens are these, with ends of lines between them; the directives leave them.
use Rattle.std.proofs.Common.{◌≡◌, ℕ, zero, suc, ◌+◌, ◌-◌, ◌^◌, ◌<◌, ◌≤◌, Bool, true, false, ◌&&◌, if◌then◌else◌, List, [], ◌∷◌, ◌++◌, length, take, drop, Some, None, ◌⊎◌, inl, inr, refl, sym, ap, ◌∙◌, subst, arith, append_assoc, append-nil, length-append, true≢false}
use Rattle.std.specs.Prelude.{slice_range}
use Rattle.std.proofs.Math.Seq.{drop-append_seam, take-append_seam}
use Rattle.lv_ast.specs.Tokens.{kind_of, is_blank, is_mark, is_digit}
use Rattle.lv_ast.specs.TokenLists.{opening, gap_length, blank_length, IsGap, IsFirstToken, IsTokenAt, AreTokensFrom, IsTokenListOf}
use Rattle.lv_ast.specs.TokenLists as lists
use Rattle.lv_ast.specs.Folds.{Reading, Step, step_of, followed, one, nothing, reading_from, reading_of}
use Rattle.lv_ast.specs.declared.tokens.Kind.{Kind}
use Rattle.lv_ast.specs.declared.tokens.Kind.TheVariants as k
use Rattle.lv_ast.specs.declared.tokens.Token.{Token}
use Rattle.lv_print.specs.Written.{Written, is_kind, is_size, ends_line, between, ending, behind, text_of}
use Rattle.lv_print.specs.Reads.{IsFoldedOf}
use Rattle.lv_print.proofs.Stops.{is_ordinary, space, newline, stops, number_stops, IsRest, at_end, at_gap, at_base, opens}

-- one whole token of its kind
pub record IsWhole (w : Written) : Type 0 where
  pub ordinary : is_ordinary w.kind ≡ true
  pub kind : kind_of w.bytes ≡ Some w.kind
  pub apostrophe : is_kind w.kind k.Based ≡ true → (cs : List ℕ) × (w.bytes ≡ 39 ∷ cs)

abbrev pub AreWhole : List Written → Type 0
AreWhole [] = Unit {0}
AreWhole (w ∷ ws) = IsWhole w × AreWhole ws

-- ---- the first token

past : (s u : List ℕ) (c m : ℕ) → length s < m → (n : ℕ) × (take m (s ++ (c ∷ u)) ≡ s ++ (c ∷ take n u))
past s u c zero h = absurd (omega (arith, h))
past [] u c (suc m) h = (m, refl)
past (x ∷ s) u c (suc m) h = let q = past s u c m (omega (arith, h)) in (q.0, ap (λ z. x ∷ z) q.1)

ends-there : (s : List ℕ) (j : Kind) (r : List ℕ) → is_ordinary j ≡ true → kind_of s ≡ Some j → IsRest j r → (m : ℕ) → length s < m → m ≤ length (s ++ r) → kind_of (take m (s ++ r)) ≡ None
ends-there s j _ o h at_end m a b = absurd (let e : length (s ++ []) ≡ length s = ap length (append-nil s) in omega (arith, a, b, e))
ends-there s j _ o h (at_gap c u g) m a b = let q = past s u c m a in ap kind_of q.1 ∙ stops s (take q.0 u) c j g o h
ends-there s j _ o h (at_base u e) m a b = let q = past s u 39 m a in ap kind_of q.1 ∙ number_stops s (take q.0 u) (h ∙ ap (λ z. Some z) e)

first-token : (s r : List ℕ) (j : Kind) → is_ordinary j ≡ true → kind_of s ≡ Some j → IsRest j r → IsFirstToken (s ++ r) j (length s)
first-token s r j o h e = record {
  no_comment = opens s r j j h e;
  within = let l : length (s ++ r) ≡ length s + length r = length-append s r in omega (arith, l);
  whole = ap kind_of (take-append_seam s r) ∙ h;
  longest = ends-there s j r o h e;
}

-- ---- what stands behind

number-kind : (j : Kind) → is_kind j k.Number ≡ true → j ≡ k.Number
number-kind k.Name h = absurd (true≢false (sym h))
number-kind k.Escaped h = absurd (true≢false (sym h))
number-kind k.Word h = absurd (true≢false (sym h))
number-kind k.System h = absurd (true≢false (sym h))
number-kind k.Tick h = absurd (true≢false (sym h))
number-kind k.Number h = refl
number-kind k.Based h = absurd (true≢false (sym h))
number-kind k.Mark h = absurd (true≢false (sym h))
number-kind k.Line h = absurd (true≢false (sym h))
number-kind k.Join h = absurd (true≢false (sym h))

both : (a b : Bool) → (a && b) ≡ true → (a ≡ true) × (b ≡ true)
both true b h = (refl, h)
both false b h = absurd (true≢false (sym h))

based-rest : (w v : Written) (t : List ℕ) → IsWhole v → is_size w v ≡ true → IsRest w.kind (v.bytes ++ t)
based-rest w v t h e =
    let p = both (is_kind w.kind k.Number) (is_kind v.kind k.Based) e in
    let q = h.apostrophe p.1 in
    subst (λ z. IsRest w.kind (z ++ t)) (sym q.1) (at_base (q.0 ++ t) (number-kind w.kind p.0))

rest-at_end : (w : Written) → IsRest w.kind (ending w ++ [])
rest-at_end w =
    elim (ends_line w) as (λ b. IsRest w.kind ((if b then 10 ∷ [] else (if is_kind w.kind k.Escaped then 32 ∷ [] else [])) ++ [])) [
      | true ↦ at_gap 10 [] newline
      | false ↦ elim (is_kind w.kind k.Escaped) as (λ b. IsRest w.kind ((if b then 32 ∷ [] else []) ++ [])) [ true ↦ at_gap 32 [] space | false ↦ at_end ]
    ]

rest-between : (w v : Written) (t : List ℕ) → IsWhole v → IsRest w.kind (between w v ++ (v.bytes ++ t))
rest-between w v t h =
    elim (ends_line w) as (λ b. IsRest w.kind ((if b then 10 ∷ [] else (if is_size w v then [] else 32 ∷ [])) ++ (v.bytes ++ t))) [
      | true ↦ at_gap 10 (v.bytes ++ t) newline
      | false ↦ elim (is_size w v) as (λ b. is_size w v ≡ b → IsRest w.kind ((if b then [] else 32 ∷ []) ++ (v.bytes ++ t))) [
        | true ↦ λ e. based-rest w v t h e
        | false ↦ λ _. at_gap 32 (v.bytes ++ t) space
      ] refl
    ]

rest-of : (w : Written) (ws : List Written) → AreWhole ws → IsRest w.kind (behind w ws ++ text_of ws)
unfolding text_of
rest-of w [] h = rest-at_end w
rest-of w (v ∷ vs) h = rest-between w v (behind v vs ++ text_of vs) h.0

-- ---- the tokens

abbrev token : Kind → ℕ → ℕ → Token
token j p q = record { kind = j; start = p; end = q }

abbrev line_at : Bool → ℕ → List Token
line_at true p = token k.Line p (p + 1) ∷ []
line_at false p = []

-- with the ends of lines
abbrev tokens_at : ℕ → List Written → List Token
tokens_at p [] = []
tokens_at p (w ∷ ws) = token w.kind p (p + length w.bytes) ∷ (line_at (ends_line w) (p + length w.bytes) ++ tokens_at ((p + length w.bytes) + length (behind w ws)) ws)

-- without them
abbrev pub plain_at : ℕ → List Written → List Token
plain_at p [] = []
plain_at p (w ∷ ws) = token w.kind p (p + length w.bytes) ∷ plain_at ((p + length w.bytes) + length (behind w ws)) ws

gap-join : (text : List ℕ) {p q r : ℕ} → IsGap text p q → IsGap text q r → IsGap text p r
gap-join text {p} {q} {r} (lists.none e) h = subst (λ z. IsGap text z r) (sym e) h
gap-join text (lists.more n g rest) h = lists.more n g (gap-join text rest h)

widen : (text : List ℕ) (p q r : ℕ) (ts : List Token) → IsGap text p q → AreTokensFrom text q ts r → AreTokensFrom text p ts r
widen text p q r [] g h = gap-join text g h
widen text p q r (t ∷ ts) g h = (gap-join text g h.0, h.1, h.2)

line-none : (c : ℕ) (t : List ℕ) → kind_of (10 ∷ c ∷ t) ≡ None
unfolding kind_of is_mark is_digit
line-none c t = refl

line-longest : (c : ℕ) (t : List ℕ) (m : ℕ) → 1 < m → m ≤ length (10 ∷ c ∷ t) → kind_of (take m (10 ∷ c ∷ t)) ≡ None
line-longest c t zero a b = absurd (omega (arith, a))
line-longest c t (suc zero) a b = absurd (omega (arith, a))
line-longest c t (suc (suc m)) a b = line-none c (take m t)

line-first : (t : List ℕ) → IsFirstToken (10 ∷ t) k.Line 1
unfolding opening kind_of is_mark is_digit
line-first [] = record { no_comment = refl; within = omega arith; whole = refl; longest = λ m a b. absurd (omega (arith, a, b)) }
line-first (c ∷ t) = record { no_comment = refl; within = omega arith; whole = refl; longest = line-longest c t }

space-gap : (t : List ℕ) → gap_length (32 ∷ t) ≡ Some 1
unfolding gap_length opening is_blank
space-gap [] = refl
space-gap (c ∷ t) = refl

-- a token and what stands behind it, in its place
module _ (text : List ℕ) (p r : ℕ) (ts : List Token) where
  token-there : (j : Kind) (s u : List ℕ) → drop p text ≡ s ++ u → is_ordinary j ≡ true → kind_of s ≡ Some j → IsRest j u → IsTokenAt text (token j p (p + length s))
  token-there j s u d o h e = record {
    rises = omega arith;
    first =
        let l : length s ≡ (p + length s) - p = omega arith in
        subst (λ z. IsFirstToken z j ((p + length s) - p)) (sym d) (subst (λ n. IsFirstToken (s ++ u) j n) l (first-token s u j o h e));
  }

  line-there : (t : List ℕ) → drop p text ≡ 10 ∷ t → IsTokenAt text (token k.Line p (p + 1))
  line-there t d = record {
    rises = omega arith;
    first = let l : 1 ≡ (p + 1) - p = omega arith in subst (λ z. IsFirstToken z k.Line ((p + 1) - p)) (sym d) (subst (λ n. IsFirstToken (10 ∷ t) k.Line n) l (line-first t));
  }

  space-there : (t : List ℕ) → drop p text ≡ 32 ∷ t → IsGap text p (p + 1)
  space-there t d = lists.more 1 (ap gap_length d ∙ space-gap t) (lists.none refl)

  -- with the gap or the end of a line that stands there
  line-behind : (g t : List ℕ) → g ≡ 10 ∷ [] → drop p text ≡ g ++ t → AreTokensFrom text (p + length g) ts r → AreTokensFrom text p (token k.Line p (p + 1) ∷ ts) r
  line-behind g t e d h = (lists.none refl, line-there t (d ∙ ap (λ z. z ++ t) e), subst (λ z. AreTokensFrom text (p + length z) ts r) e h)

  gap-behind : (g t : List ℕ) → (g ≡ []) ⊎ (g ≡ 32 ∷ []) → drop p text ≡ g ++ t → AreTokensFrom text (p + length g) ts r → AreTokensFrom text p ts r
  gap-behind g t (inl e) d h = widen text p (p + length g) r ts (lists.none (let l : length g ≡ 0 = ap length e in omega (arith, l))) h
  gap-behind g t (inr e) d h =
      widen text p (p + 1) r ts (space-there t (d ∙ ap (λ z. z ++ t) e)) (subst (λ z. AreTokensFrom text (p + length z) ts r) e h)

line-is : (w : Written) (ws : List Written) → ends_line w ≡ true → behind w ws ≡ 10 ∷ []
line-is w [] e = rw e refl
line-is w (v ∷ vs) e = rw e refl

gap-is : (w : Written) (ws : List Written) → ends_line w ≡ false → (behind w ws ≡ []) ⊎ (behind w ws ≡ 32 ∷ [])
gap-is w [] e = rw e (elim (is_kind w.kind k.Escaped) as (λ b. (◌≡◌ {A = List ℕ} (if b then 32 ∷ [] else []) []) ⊎ (◌≡◌ {A = List ℕ} (if b then 32 ∷ [] else [])
    (32 ∷ []))) [ true ↦ inr refl | false ↦ inl refl ])
gap-is w (v ∷ vs) e = rw e (elim (is_size w v) as (λ b. (◌≡◌ {A = List ℕ} (if b then [] else 32 ∷ []) []) ⊎ (◌≡◌ {A = List ℕ} (if b then [] else 32 ∷ [])
    (32 ∷ []))) [ true ↦ inl refl | false ↦ inr refl ])

behind-there : (text : List ℕ) (q r : ℕ) (w : Written) (ws : List Written) (ts : List Token) (t : List ℕ) → drop q text ≡ behind w ws ++ t → AreTokensFrom text (q + length (behind w ws)) ts r →
    AreTokensFrom text q (line_at (ends_line w) q ++ ts) r
behind-there text q r w ws ts t d h =
    elim (ends_line w) as (λ b. ends_line w ≡ b → AreTokensFrom text q (line_at b q ++ ts) r) [
      | true ↦ λ e. line-behind text q r ts (behind w ws) t (line-is w ws e) d h
      | false ↦ λ e. gap-behind text q r ts (behind w ws) t (gap-is w ws e) d h
    ] refl

drop-more : (a b c : List ℕ) → drop (length a + length b) (a ++ (b ++ c)) ≡ c
drop-more a b c = ap (λ n. drop n (a ++ (b ++ c))) (sym (length-append a b)) ∙ ap (drop (length (a ++ b))) (sym (append_assoc a b c)) ∙ drop-append_seam (a ++ b) c

stand : (front : List ℕ) (ws : List Written) → AreWhole ws → AreTokensFrom (front ++ text_of ws) (length front) (tokens_at (length front) ws) (length (front ++ text_of ws))
unfolding text_of
stand front [] h = lists.none (ap length (sym (append-nil front)))
stand front (w ∷ ws) h =
    let b : List ℕ = w.bytes in
    let g : List ℕ = behind w ws in
    let t : List ℕ = text_of ws in
    let text : List ℕ = front ++ (b ++ (g ++ t)) in
    let whole : (front ++ (b ++ g)) ++ t ≡ text = append_assoc front (b ++ g) t ∙ ap (λ z. front ++ z) (append_assoc b g t) in
    let long : length (front ++ (b ++ g)) ≡ (length front + length b) + length g = (let l = length-append front (b ++ g) in let m = length-append b g in omega (arith, l, m)) in
    let inside : AreTokensFrom ((front ++ (b ++ g)) ++ t) (length (front ++ (b ++ g))) (tokens_at (length (front ++ (b ++ g))) ws)
    (length ((front ++ (b ++ g)) ++ t)) = stand (front ++ (b ++ g)) ws h.1 in
    let there : AreTokensFrom text (length (front ++ (b ++ g))) (tokens_at (length (front ++ (b ++ g))) ws) (length text) = subst (λ z. AreTokensFrom z (length (front ++ (b ++ g)))
    (tokens_at (length (front ++ (b ++ g))) ws) (length z)) whole inside in
    let rest : AreTokensFrom text ((length front + length b) + length g) (tokens_at ((length front + length b) + length g) ws)
    (length text) = subst (λ n. AreTokensFrom text n (tokens_at n ws) (length text)) long there in (
      lists.none refl,
      token-there text (length front) (length text) [] w.kind b (g ++ t) (drop-append_seam front (b ++ (g ++ t))) h.0.ordinary h.0.kind (rest-of w ws h.1),
      behind-there text (length front + length b) (length text) w ws _ t (drop-more front b (g ++ t)) rest,
    )

-- ---- directives leave them

step-plain : (text : List ℕ) (j : Kind) (p q : ℕ) (ts : List Token) → is_ordinary j ≡ true → step_of text [] [] (token j p q) ts ≡ record {
  reading = one (token j p q);
  macros = [];
  branches = [];
  taken = 0;
}
unfolding step_of
step-plain text k.Name p q ts o = refl
step-plain text k.Escaped p q ts o = refl
step-plain text k.Word p q ts o = refl
step-plain text k.System p q ts o = refl
step-plain text k.Tick p q ts o = absurd (true≢false (sym o))
step-plain text k.Number p q ts o = refl
step-plain text k.Based p q ts o = refl
step-plain text k.Mark p q ts o = refl
step-plain text k.Line p q ts o = absurd (true≢false (sym o))
step-plain text k.Join p q ts o = absurd (true≢false (sym o))

step-line : (text : List ℕ) (p q : ℕ) (ts : List Token) → step_of text [] [] (token k.Line p q) ts ≡ record { reading = nothing; macros = []; branches = []; taken = 0 }
unfolding step_of
step-line text p q ts = refl

abbrev gives : List Token → Reading
gives ts = record { tokens = ts; uses = 0; stop = None }

read-plain : (text : List ℕ) (j : Kind) (p q : ℕ) (ts us : List Token) → is_ordinary j ≡ true → reading_from text 0 [] [] ts ≡ gives us →
    reading_from text 0 [] [] (token j p q ∷ ts) ≡ gives (token j p q ∷ us)
unfolding reading_from followed
read-plain text j p q ts us o h =
    ap (λ (s : Step). followed s.reading (reading_from text s.taken s.macros s.branches ts)) (step-plain text j p q ts o) ∙ ap (λ r. followed (one (token j p q)) r) h

read-line : (text : List ℕ) (b : Bool) (p : ℕ) (ts us : List Token) → reading_from text 0 [] [] ts ≡ gives us → reading_from text 0 [] [] (line_at b p ++ ts) ≡ gives us
unfolding reading_from followed
read-line text false p ts us h = h
read-line text true p ts us h =
    ap (λ (s : Step). followed s.reading (reading_from text s.taken s.macros s.branches ts)) (step-line text p (p + 1) ts) ∙ ap (λ r. followed nothing r) h

read-at : (text : List ℕ) (p : ℕ) (ws : List Written) → AreWhole ws → reading_from text 0 [] [] (tokens_at p ws) ≡ gives (plain_at p ws)
unfolding reading_from
read-at text p [] h = refl
read-at text p (w ∷ ws) h =
    read-plain text w.kind p (p + length w.bytes) _ _ h.0.ordinary
    (read-line text (ends_line w) (p + length w.bytes) _ _ (read-at text ((p + length w.bytes) + length (behind w ws)) ws h.1))

pub folded : (ws : List Written) → AreWhole ws → IsFoldedOf (text_of ws) (plain_at 0 ws)
unfolding reading_of
folded ws h = record { all = tokens_at 0 ws; list = stand [] ws h; read = read-at (text_of ws) 0 ws h }

-- ---- tokens with their bytes

-- this token of the text is the one that was written
pub record IsAt (text : List ℕ) (t : Token) (w : Written) : Type 0 where
  pub kind : t.kind ≡ w.kind
  pub bytes : slice_range text t.start t.end ≡ w.bytes
  pub rises : t.start ≤ t.end
  pub small : t.end < 2 ^ 64

abbrev pub Are : List ℕ → List Token → List Written → Type 0
Are text ts [] = ts ≡ []
Are text ts (w ∷ ws) = (t : Token) × (us : List Token) × (ts ≡ t ∷ us) × IsAt text t w × Are text us ws

slice-there : (a b c : List ℕ) → slice_range (a ++ (b ++ c)) (length a) (length a + length b) ≡ b
slice-there a b c =
    let l : (length a + length b) - length a ≡ length b = omega arith in
    ap (λ n. take n (drop (length a) (a ++ (b ++ c)))) l ∙ ap (take (length b)) (drop-append_seam a (b ++ c)) ∙ take-append_seam b c

are-at : (front : List ℕ) (ws : List Written) → length (front ++ text_of ws) < 2 ^ 64 → Are (front ++ text_of ws) (plain_at (length front) ws) ws
unfolding text_of
are-at front [] s = refl
are-at front (w ∷ ws) s =
    let b : List ℕ = w.bytes in
    let g : List ℕ = behind w ws in
    let t : List ℕ = text_of ws in
    let text : List ℕ = front ++ (b ++ (g ++ t)) in
    let whole : (front ++ (b ++ g)) ++ t ≡ text = append_assoc front (b ++ g) t ∙ ap (λ z. front ++ z) (append_assoc b g t) in
    let long : length (front ++ (b ++ g)) ≡ (length front + length b) + length g = (let l = length-append front (b ++ g) in let m = length-append b g in omega (arith, l, m)) in
    let all : length text ≡ (length front + length b) + length (g ++ t) = (let l = length-append front (b ++ (g ++ t)) in let m = length-append b (g ++ t) in omega (arith, l, m)) in
    let inside : Are ((front ++ (b ++ g)) ++ t) (plain_at (length (front ++ (b ++ g))) ws) ws = are-at (front ++ (b ++ g)) ws (subst (λ z. length z < 2 ^ 64) (sym whole) s) in
    let there : Are text (plain_at (length (front ++ (b ++ g))) ws) ws = subst (λ z. Are z (plain_at (length (front ++ (b ++ g))) ws) ws) whole inside in
    let rest : Are text (plain_at ((length front + length b) + length g) ws) ws = subst (λ n. Are text (plain_at n ws) ws) long there in (
      token w.kind (length front) (length front + length b),
      plain_at ((length front + length b) + length g) ws,
      refl,
      record { kind = refl; bytes = slice-there front b (g ++ t); rises = omega arith; small = omega (arith, s, all) },
      rest,
    )

pub are : (ws : List Written) → length (text_of ws) < 2 ^ 64 → Are (text_of ws) (plain_at 0 ws) ws
are ws s = are-at [] ws s
