-- White space and comments at the front of a text.
use Rattle.std.proofs.Common.{◌≡◌, ◌≢◌, ℕ, zero, suc, ◌+◌, ◌<◌, ◌≤◌, Bool, true, false, not, ◌&&◌, if◌then◌else◌, ◌==◌, List, [], ◌∷◌, length, get_or, drop, Option, Some, None, refl, sym, ap, ◌∙◌, subst, arith, true≢false, add-one, drop-cons}
use Rattle.std.proofs.lemmas.Bool.{ne_eqb}
use Rattle.lv_ast.specs.TokenLists.{Nothing, Comment, Endless, opening, line_length, block_length, longer, block_comment, gap_length, opening_length, blank_length}
use Rattle.lv_lexer.specs.Fronts.{front_length, begins, begins_blank}

-- ---- line comments

line_front : (s : List ℕ) → front_length (λ c. not (c == 10)) s ≡ line_length s
unfolding front_length line_length
line_front [] = refl
line_front (c ∷ cs) = elim (c == 10) as (λ b. (if not b then suc (front_length (λ c. not (c == 10)) cs) else 0) ≡ (if b then 0 else suc (line_length cs))) [ true ↦ refl | false ↦ ap suc (line_front cs) ]

pub slash_slash : (d : ℕ) (cs : List ℕ) (n : ℕ) → d ≡ 47 → n ≡ front_length (λ c. not (c == 10)) cs → Comment (2 + n) ≡ opening (47 ∷ d ∷ cs)
unfolding opening
slash_slash d cs n h k = subst (λ e. Comment (2 + n) ≡ opening (47 ∷ e ∷ cs)) (sym h) (ap (λ m. Comment (2 + m)) (k ∙ line_front cs))

-- ---- block comments

block-step : (c : ℕ) (cs : List ℕ) → block_length (c ∷ cs) ≡ (if (c == 42) && begins 47 cs then Some 2 else longer 1 (block_length cs))
unfolding block_length
block-step c [] = elim (c == 42) as (λ b. ◌≡◌ {A = Option ℕ} None (if b && false then Some 2 else None)) [ true ↦ refl | false ↦ refl ]
block-step c (d ∷ ds) = refl

block-none : block_length [] ≡ None
unfolding block_length
block-none = refl

longer-longer : (i : ℕ) (r : Option ℕ) → longer i (longer 1 r) ≡ longer (i + 1) r
longer-longer i None = refl
longer-longer i (Some n) = ap (λ k. Some k) (omega arith)

longer-zero : (r : Option ℕ) → r ≡ longer 0 r
longer-zero None = refl
longer-zero (Some n) = ap (λ k. Some k) (omega arith)

pub block_start : (s : List ℕ) → block_length s ≡ longer 0 (block_length (drop 0 s))
block_start s = longer-zero (block_length s)

step-at : (s : List ℕ) (i : ℕ) → i < length s → block_length (drop i s) ≡ (if (get_or s i 0 == 42) && begins 47 (drop (i + 1) s) then Some 2 else longer 1 (block_length (drop (i + 1) s)))
step-at s i h = rw add-one (ap block_length (drop-cons s i 0 h) ∙ block-step (get_or s i 0) (drop (suc i) s))

pub block_found : (s : List ℕ) (i : ℕ) → i < length s → block_length s ≡ longer i (block_length (drop i s)) → ((get_or s i 0 == 42) && begins 47 (drop (i + 1) s)) ≡ true → Some (i + 2) ≡ block_length s
block_found s i h e k = sym (e ∙ ap (longer i) (step-at s i h ∙ ap (λ b. if b then Some 2 else longer 1 (block_length (drop (i + 1) s))) k))

pub block_more : (s : List ℕ) (i : ℕ) → i < length s → block_length s ≡ longer i (block_length (drop i s)) → ((get_or s i 0 == 42) && begins 47 (drop (i + 1) s)) ≡ false → block_length s ≡ longer (i + 1) (block_length (drop (i + 1) s))
block_more s i h e k =
    e ∙ (ap (longer i) (step-at s i h ∙ ap (λ b. if b then Some 2 else longer 1 (block_length (drop (i + 1) s))) k) ∙ longer-longer i (block_length (drop (i + 1) s)))

drop-all : (s : List ℕ) (i : ℕ) → length s ≤ i → drop i s ≡ []
drop-all [] zero h = refl
drop-all [] (suc i) h = refl
drop-all (c ∷ cs) zero h = absurd (omega (arith, h))
drop-all (c ∷ cs) (suc i) h = drop-all cs i (omega (arith, h))

pub block_end : (s : List ℕ) (i : ℕ) → length s ≤ i → block_length s ≡ longer i (block_length (drop i s)) → None ≡ block_length s
block_end s i h e = sym (e ∙ ap (λ l. longer i (block_length l)) (drop-all s i h) ∙ ap (longer i) block-none)

pub begins_within : (c : ℕ) (s : List ℕ) (k : ℕ) → begins c (drop k s) ≡ true → k < length s
begins_within c [] zero h = absurd (true≢false (sym h))
begins_within c [] (suc k) h = absurd (true≢false (sym h))
begins_within c (d ∷ ds) zero h = omega arith
begins_within c (d ∷ ds) (suc k) h = let i : k < length ds = begins_within c ds k h in omega (arith, i)

right : (a b : Bool) → (a && b) ≡ true → b ≡ true
right true b h = h
right false b h = absurd (true≢false (sym h))

pub ends_within : (s : List ℕ) (i : ℕ) → ((get_or s i 0 == 42) && begins 47 (drop (i + 1) s)) ≡ true → i + 2 ≤ length s
ends_within s i h = let k : i + 1 < length s = begins_within 47 s (i + 1) (right (get_or s i 0 == 42) _ h) in omega (arith, k)

pub slash_star : (d : ℕ) (cs : List ℕ) (n : ℕ) → d ≡ 42 → Some n ≡ block_length cs → Comment (2 + n) ≡ opening (47 ∷ d ∷ cs)
unfolding opening
slash_star d cs n h k = subst (λ e. Comment (2 + n) ≡ opening (47 ∷ e ∷ cs)) (sym h) (ap block_comment k)

pub slash_star_endless : (d : ℕ) (cs : List ℕ) → d ≡ 42 → None ≡ block_length cs → Endless ≡ opening (47 ∷ d ∷ cs)
unfolding opening
slash_star_endless d cs h k = subst (λ e. Endless ≡ opening (47 ∷ e ∷ cs)) (sym h) (ap block_comment k)

pub slash_other : (d : ℕ) (cs : List ℕ) → d ≢ 47 → d ≢ 42 → Nothing ≡ opening (47 ∷ d ∷ cs)
unfolding opening
slash_other d cs h k =
    sym (ap (λ b. if b then Comment (2 + line_length cs) else (if d == 42 then block_comment (block_length cs) else Nothing)) (ne_eqb d 47 h)
    ∙ ap (λ b. if b then block_comment (block_length cs) else Nothing) (ne_eqb d 42 k))

pub no_slash : (c : ℕ) (cs : List ℕ) → c ≢ 47 → Nothing ≡ opening (c ∷ cs)
unfolding opening
no_slash c [] h = refl
no_slash c (d ∷ ds) h =
    sym (ap (λ b. if b && (d == 47) then Comment (2 + line_length ds) else (if b && (d == 42) then block_comment (block_length ds) else Nothing)) (ne_eqb c 47 h))

pub one_byte : (c : ℕ) → Nothing ≡ opening (c ∷ [])
unfolding opening
one_byte c = refl

pub no_byte : Nothing ≡ opening []
unfolding opening
no_byte = refl

-- ---- white space

blank-length : (s : List ℕ) (b : Bool) → begins_blank s ≡ b → blank_length s ≡ (if b then Some 1 else None)
blank-length [] b h = subst (λ b. ◌≡◌ {A = Option ℕ} None (if b then Some 1 else None)) h refl
blank-length (c ∷ cs) b h = ap {B = Option ℕ} (λ b. if b then Some 1 else None) h

pub gap_of_comment : (s : List ℕ) (n : ℕ) → Comment n ≡ opening s → gap_length s ≡ Some n
unfolding gap_length
gap_of_comment s n h = ap (λ o. opening_length o s) (sym h)

pub gap_of_blank : (s : List ℕ) → opening s ≡ Nothing → begins_blank s ≡ true → gap_length s ≡ Some 1
unfolding gap_length
gap_of_blank s h k = ap (λ o. opening_length o s) h ∙ blank-length s true k

pub gap_of_none : (s : List ℕ) → opening s ≡ Nothing → begins_blank s ≡ false → gap_length s ≡ None
unfolding gap_length
gap_of_none s h k = ap (λ o. opening_length o s) h ∙ blank-length s false k
