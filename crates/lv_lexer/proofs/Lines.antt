-- The lines of a token list, as loops find them.
use Rattle.std.proofs.Common.{◌≡◌, ℕ, zero, suc, ◌+◌, ◌<◌, ◌≤◌, true, false, if◌then◌else◌, List, [], ◌∷◌, ◌++◌, length, get_or, drop, Some, None, refl, sym, ap, ◌∙◌, arith, add-one, drop-cons, append_assoc, append-nil}
use Rattle.lv_ast.specs.Folds.{line_count, line_of, name_count, is_line, is_join}
use Rattle.lv_ast.specs.declared.tokens.Kind.TheVariants.{Name}
use Rattle.lv_ast.specs.declared.tokens.Token.{Token}
use Rattle.lv_lexer.specs.Shown.{first_of}

pub drop_all : {X : Type 0} (s : List X) (i : ℕ) → length s ≤ i → drop i s ≡ []
drop_all [] zero h = refl
drop_all [] (suc i) h = refl
drop_all (c ∷ cs) zero h = absurd (omega (arith, h))
drop_all (c ∷ cs) (suc i) h = drop_all cs i (omega (arith, h))

-- the token at a place
abbrev pub token_at : List Token → ℕ → Token
token_at s i = get_or s i (record { kind = Name; start = 0; end = 0 })

pub drop_at : (s : List Token) (i : ℕ) → i < length s → drop i s ≡ (token_at s i ∷ drop (i + 1) s)
drop_at s i h = rw add-one (drop-cons s i (record { kind = Name; start = 0; end = 0 }) h)

-- ---- how many tokens a line has

count-step : (t : Token) (ts : List Token) → line_count (t ∷ ts) ≡ (if is_line t.kind then 0 else suc (line_count ts))
unfolding line_count
count-step t ts = refl

count-none : line_count [] ≡ 0
unfolding line_count
count-none = refl

pub count_start : (s : List Token) → line_count s ≡ 0 + line_count (drop 0 s)
count_start s = omega arith

pub count_more : (s : List Token) (i : ℕ) → i < length s → line_count s ≡ i + line_count (drop i s) → is_line (token_at s i).kind ≡ false → line_count s ≡ (i + 1) + line_count (drop (i + 1) s)
count_more s i l h k =
    let d : line_count (drop i s) ≡ suc (line_count (drop (i + 1) s)) = ap line_count (drop_at s i l) ∙ (count-step (token_at s i) (drop (i + 1) s) ∙ ap (λ b. if b then 0 else suc (line_count (drop (i + 1) s))) k) in
    omega (arith, h, d)

pub count_found : (s : List Token) (i : ℕ) → i < length s → line_count s ≡ i + line_count (drop i s) → is_line (token_at s i).kind ≡ true → i ≡ line_count s
count_found s i l h k =
    let d : line_count (drop i s) ≡ 0 = ap line_count (drop_at s i l) ∙ (count-step (token_at s i) (drop (i + 1) s) ∙ ap (λ b. if b then 0 else suc (line_count (drop (i + 1) s))) k) in
    omega (arith, h, d)

pub count_end : (s : List Token) (i : ℕ) → length s ≤ i → i ≤ length s → line_count s ≡ i + line_count (drop i s) → length s ≡ line_count s
count_end s i l m h = let d : line_count (drop i s) ≡ 0 = ap line_count (drop_all s i l) ∙ count-none in omega (arith, h, d)

-- ---- how many tokens a name takes

name-step : (t : Token) (ts : List Token) → name_count (t ∷ ts) ≡ (if is_join t.kind then suc (name_count ts) else 1)
unfolding name_count
name-step t ts = refl

name-none : name_count [] ≡ 0
unfolding name_count
name-none = refl

pub name_start : (s : List Token) → name_count s ≡ 0 + name_count (drop 0 s)
name_start s = omega arith

pub name_more : (s : List Token) (i : ℕ) → i < length s → name_count s ≡ i + name_count (drop i s) → is_join (token_at s i).kind ≡ true → name_count s ≡ (i + 1) + name_count (drop (i + 1) s)
name_more s i l h k =
    let d : name_count (drop i s) ≡ suc (name_count (drop (i + 1) s)) = ap name_count (drop_at s i l) ∙ (name-step (token_at s i) (drop (i + 1) s) ∙ ap (λ b. if b then suc (name_count (drop (i + 1) s)) else 1) k) in
    omega (arith, h, d)

pub name_found : (s : List Token) (i : ℕ) → i < length s → name_count s ≡ i + name_count (drop i s) → is_join (token_at s i).kind ≡ false → i + 1 ≡ name_count s
name_found s i l h k =
    let d : name_count (drop i s) ≡ 1 = ap name_count (drop_at s i l) ∙ (name-step (token_at s i) (drop (i + 1) s) ∙ ap (λ b. if b then suc (name_count (drop (i + 1) s)) else 1) k) in
    omega (arith, h, d)

pub name_end : (s : List Token) (i : ℕ) → length s ≤ i → i ≤ length s → name_count s ≡ i + name_count (drop i s) → length s ≡ name_count s
name_end s i l m h = let d : name_count (drop i s) ≡ 0 = ap name_count (drop_all s i l) ∙ name-none in omega (arith, h, d)

-- ---- the tokens of a line

line-step : (t : Token) (ts : List Token) → is_line t.kind ≡ false → line_of (t ∷ ts) ≡ ((if is_join t.kind then [] else t ∷ []) ++ line_of ts)
unfolding line_of
line-step t ts h =
    ap (λ b. if b then [] else (if is_join t.kind then line_of ts else t ∷ line_of ts)) h
    ∙ elim (is_join t.kind) as (λ b. (if b then line_of ts else t ∷ line_of ts) ≡ ((if b then [] else t ∷ []) ++ line_of ts)) [ true ↦ refl | false ↦ refl ]

line-stop : (t : Token) (ts : List Token) → is_line t.kind ≡ true → line_of (t ∷ ts) ≡ []
unfolding line_of
line-stop t ts h = ap (λ b. if b then [] else (if is_join t.kind then line_of ts else t ∷ line_of ts)) h

line-none : line_of [] ≡ []
unfolding line_of
line-none = refl

pub line_start : (s l : List Token) → l ≡ [] → line_of s ≡ l ++ line_of (drop 0 s)
line_start s l h = ap (λ x. x ++ line_of s) (sym h)

pub line_more : (s l m : List Token) (i : ℕ) → i < length s → line_of s ≡ l ++ line_of (drop i s) → is_line (token_at s i).kind ≡ false → m ≡ l ++ (if is_join (token_at s i).kind then [] else token_at s i ∷ []) → line_of s ≡ m ++ line_of (drop (i + 1) s)
line_more s l m i a h k j =
    h ∙ (ap (λ x. l ++ x) (ap line_of (drop_at s i a) ∙ line-step (token_at s i) (drop (i + 1) s) k)
    ∙ (sym (append_assoc l (if is_join (token_at s i).kind then [] else token_at s i ∷ []) (line_of (drop (i + 1) s))) ∙ ap (λ x. x ++ line_of (drop (i + 1) s)) (sym j)))

pub line_found : (s l : List Token) (i : ℕ) → i < length s → line_of s ≡ l ++ line_of (drop i s) → is_line (token_at s i).kind ≡ true → l ≡ line_of s
line_found s l i a h k = sym (h ∙ (ap (λ x. l ++ x) (ap line_of (drop_at s i a) ∙ line-stop (token_at s i) (drop (i + 1) s) k) ∙ append-nil l))

pub line_end : (s l : List Token) (i : ℕ) → length s ≤ i → line_of s ≡ l ++ line_of (drop i s) → l ≡ line_of s
line_end s l i a h = sym (h ∙ (ap (λ x. l ++ x) (ap line_of (drop_all s i a) ∙ line-none) ∙ append-nil l))

-- ---- the first of a line: only `Join` tokens were passed

pub first_more : (s : List Token) (i : ℕ) → i < length s → line_of s ≡ line_of (drop i s) → is_line (token_at s i).kind ≡ false → is_join (token_at s i).kind ≡ true → line_of s ≡ line_of (drop (i + 1) s)
first_more s i a h k j =
    h ∙ (ap line_of (drop_at s i a) ∙ (line-step (token_at s i) (drop (i + 1) s) k ∙ ap (λ b. (if b then [] else token_at s i ∷ []) ++ line_of (drop (i + 1) s)) j))

pub first_found : (s : List Token) (i : ℕ) → i < length s → line_of s ≡ line_of (drop i s) → is_line (token_at s i).kind ≡ false → is_join (token_at s i).kind ≡ false → Some (token_at s i) ≡ first_of (line_of s)
first_found s i a h k j =
    sym (ap first_of (h ∙ (ap line_of (drop_at s i a) ∙ (line-step (token_at s i) (drop (i + 1) s) k ∙ ap (λ b. (if b then [] else token_at s i ∷ []) ++ line_of (drop (i + 1) s)) j))))

pub first_stop : (s : List Token) (i : ℕ) → i < length s → line_of s ≡ line_of (drop i s) → is_line (token_at s i).kind ≡ true → None ≡ first_of (line_of s)
first_stop s i a h k = sym (ap first_of (h ∙ (ap line_of (drop_at s i a) ∙ line-stop (token_at s i) (drop (i + 1) s) k)))

pub first_end : (s : List Token) (i : ℕ) → length s ≤ i → line_of s ≡ line_of (drop i s) → None ≡ first_of (line_of s)
first_end s i a h = sym (ap first_of (h ∙ (ap line_of (drop_all s i a) ∙ line-none)))
