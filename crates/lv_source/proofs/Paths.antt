-- A path splits in one way into its names and indices: an escaped name ends at its space, another one before the first byte that no name has inside.
use Rattle.std.proofs.Common.{◌≡◌, ℕ, Bool, true, false, ◌&&◌, ◌||◌, ◌==◌, not, List, [], ◌∷◌, ◌++◌, append_assoc, refl, sym, ap, ◌∙◌, arith}
use Rattle.std.specs.Prelude.{codes, if◌then◌else◌}
use Rattle.std.specs.List.{list_any, list_all}
use Rattle.std.proofs.lemmas.Bool.{eq-eqb}
use Rattle.lv_ast.specs.Names.{Name, is_letter, is_inner, is_keyword, is_simple, spelled, below}
use Rattle.lv_source.proofs.Tests.{and-left, and-right, and-both, or-left, or-none_left, or-none_right}

-- no byte of it is a space
abbrev pub IsPlain : Name → Type 0
IsPlain n = list_any (λ c. c == 32) n ≡ false

-- what can stand behind a name: nothing, or a byte that no name has inside
abbrev pub ends_name : List ℕ → Bool
ends_name [] = true
ends_name (c ∷ cs) = not (is_inner c)

abbrev first_byte : ℕ → List ℕ → ℕ
first_byte d [] = d
first_byte d (x ∷ xs) = x

abbrev rest_of : List ℕ → List ℕ
rest_of [] = []
rest_of (x ∷ xs) = xs

pub same_first : (x y : ℕ) (xs ys : List ℕ) → x ∷ xs ≡ y ∷ ys → x ≡ y
same_first x y xs ys h = ap (first_byte 0) h

pub same_rest : (x y : ℕ) (xs ys : List ℕ) → x ∷ xs ≡ y ∷ ys → xs ≡ ys
same_rest x y xs ys h = ap rest_of h

pub no_list : (x : ℕ) (xs : List ℕ) → [] ≡ x ∷ xs → ⊥
no_list x xs h = cc

inner_ends : (c : ℕ) (cs : List ℕ) → is_inner c ≡ true → ends_name (c ∷ cs) ≡ true → ⊥
inner_ends c cs h k = let e : not true ≡ true = ap not (sym h) ∙ k in cc

words : (m n r q : List ℕ) → list_all is_inner m ≡ true → list_all is_inner n ≡ true → ends_name r ≡ true → ends_name q ≡ true → m ++ r ≡ n ++ q → (m ≡ n) × (r ≡ q)
words [] [] r q h k i j e = (refl, e)
words [] (c ∷ n) r q h k i j e = absurd (inner_ends c (n ++ q) (and-left (is_inner c) (list_all is_inner n) k) (ap ends_name (sym e) ∙ i))
words (c ∷ m) [] r q h k i j e = absurd (inner_ends c (m ++ r) (and-left (is_inner c) (list_all is_inner m) h) (ap ends_name e ∙ j))
words (c ∷ m) (b ∷ n) r q h k i j e =
    let s : (m ≡ n) × (r ≡ q) = words m n r q (and-right (is_inner c) (list_all is_inner m) h) (and-right (is_inner b) (list_all is_inner n) k) i j (same_rest c b (m ++ r) (n ++ q) e) in
    (ap (λ x. x ∷ m) (same_first c b (m ++ r) (n ++ q) e) ∙ ap (λ x. b ∷ x) s.0, s.1)

escaped : (m n r q : List ℕ) → IsPlain m → IsPlain n → (m ++ 32 ∷ []) ++ r ≡ (n ++ 32 ∷ []) ++ q → (m ≡ n) × (r ≡ q)
escaped [] [] r q h k e = (refl, same_rest 32 32 r q e)
escaped [] (c ∷ n) r q h k e = absurd (let t : (c == 32) ≡ true = eq-eqb c 32 (sym (same_first 32 c r _ e)) in let f : (c == 32) ≡ false = or-none_left (c == 32) (list_any (λ c. c == 32) n) k in cc)
escaped (c ∷ m) [] r q h k e = absurd (let t : (c == 32) ≡ true = eq-eqb c 32 (same_first c 32 _ q e) in let f : (c == 32) ≡ false = or-none_left (c == 32) (list_any (λ c. c == 32) m) h in cc)
escaped (c ∷ m) (b ∷ n) r q h k e =
    let s : (m ≡ n) × (r ≡ q) = escaped m n r q (or-none_right (c == 32) _ h) (or-none_right (b == 32) _ k) (same_rest c b _ _ e) in
    (ap (λ x. x ∷ m) (same_first c b _ _ e) ∙ ap (λ x. b ∷ x) s.0, s.1)

abbrev spelled_by : Bool → Name → Name
spelled_by k n = if k then n else codes "\\" ++ n ++ codes " "

simple_letters : (n : Name) → is_simple n ≡ true → list_all is_inner n ≡ true
simple_letters [] h = cc
simple_letters (c ∷ cs) h =
    let a : (is_letter c && list_all is_inner cs) ≡ true = and-left (is_letter c && list_all is_inner cs) (not (is_keyword (c ∷ cs))) h in
    and-both (is_inner c) (list_all is_inner cs) (or-left (is_letter c || _) _ (or-left (is_letter c) _ (and-left (is_letter c) (list_all is_inner cs) a))) (and-right (is_letter c) (list_all is_inner cs) a)

-- a simple name doesn't begin with a backslash
no_slash : (n : Name) (r t : List ℕ) → is_simple n ≡ true → n ++ r ≡ 92 ∷ t → ⊥
no_slash [] r t h e = cc
no_slash (c ∷ cs) r t h e =
    let a : (is_letter c && list_all is_inner cs) ≡ true = and-left (is_letter c && list_all is_inner cs) (not (is_keyword (c ∷ cs))) h in
    let l : is_letter c ≡ true = and-left (is_letter c) (list_all is_inner cs) a in
    let s : is_letter 92 ≡ true = ap is_letter (sym (same_first c 92 (cs ++ r) t e)) ∙ l in cc

split_by : (k j : Bool) (m n r q : List ℕ) → is_simple m ≡ k → is_simple n ≡ j → IsPlain m → IsPlain n → ends_name r ≡ true → ends_name q ≡ true →
    spelled_by k m ++ r ≡ spelled_by j n ++ q → (m ≡ n) × (r ≡ q)
split_by true true m n r q h k pm pn i j e = words m n r q (simple_letters m h) (simple_letters n k) i j e
split_by true false m n r q h k pm pn i j e = absurd (no_slash m r _ h e)
split_by false true m n r q h k pm pn i j e = absurd (no_slash n q _ k (sym e))
split_by false false m n r q h k pm pn i j e = escaped m n r q pm pn (same_rest 92 92 _ _ e)

pub split_name : (m n : Name) (r q : List ℕ) → IsPlain m → IsPlain n → ends_name r ≡ true → ends_name q ≡ true → spelled m ++ r ≡ spelled n ++ q → (m ≡ n) × (r ≡ q)
split_name m n r q pm pn i j e = split_by (is_simple m) (is_simple n) m n r q refl refl pm pn i j e

-- ---- indices: up to the closing bracket

abbrev has_no_bracket : List ℕ → Bool
has_no_bracket xs = not (list_any (λ c. c == 93) xs)

pub split_index : (xs ys r q : List ℕ) → list_any (λ c. c == 93) xs ≡ false → list_any (λ c. c == 93) ys ≡ false → (xs ++ 93 ∷ []) ++ r ≡ (ys ++ 93 ∷ []) ++ q → (xs ≡ ys) × (r ≡ q)
split_index [] [] r q h k e = (refl, same_rest 93 93 r q e)
split_index [] (c ∷ n) r q h k e = absurd (let t : (c == 93) ≡ true = eq-eqb c 93 (sym (same_first 93 c r _ e)) in let f : (c == 93) ≡ false = or-none_left (c == 93) (list_any (λ c. c == 93) n) k in cc)
split_index (c ∷ m) [] r q h k e = absurd (let t : (c == 93) ≡ true = eq-eqb c 93 (same_first c 93 _ q e) in let f : (c == 93) ≡ false = or-none_left (c == 93) (list_any (λ c. c == 93) m) h in cc)
split_index (c ∷ m) (b ∷ n) r q h k e =
    let s : (m ≡ n) × (r ≡ q) = split_index m n r q (or-none_right (c == 93) _ h) (or-none_right (b == 93) _ k) (same_rest c b _ _ e) in
    (ap (λ x. x ∷ m) (same_first c b _ _ e) ∙ ap (λ x. b ∷ x) s.0, s.1)

-- ---- paths

pub left_same : (xs m n : List ℕ) → xs ++ m ≡ xs ++ n → m ≡ n
left_same [] m n h = h
left_same (x ∷ xs) m n h = left_same xs m n (same_rest x x (xs ++ m) (xs ++ n) h)

pub below_same : (path m n : Name) → below path m ≡ below path n → m ≡ n
below_same [] m n h = h
below_same (c ∷ cs) m n h = left_same ((c ∷ cs) ++ codes ".") m n h

-- a path in a path
pub below_below : (path : Name) (c : ℕ) (cs n : Name) → below (below path (c ∷ cs)) n ≡ below path ((c ∷ cs ++ codes ".") ++ n)
below_below [] c cs n = refl
below_below (b ∷ bs) c cs n =
    ap (λ x. b ∷ x) (ap (λ x. x ++ n) (append_assoc (bs ++ codes ".") (c ∷ cs) (codes ".")) ∙ append_assoc (bs ++ codes ".") (c ∷ cs ++ codes ".") n)

-- ---- a name, an index, and what goes on below

pub data IsIndex : List ℕ → Type 0 where
  none : IsIndex []
  one : (t : List ℕ) → list_any (λ c. c == 93) t ≡ false → IsIndex (91 ∷ (t ++ 93 ∷ []))

pub data GoesOn : List ℕ → Type 0 where
  ends : GoesOn []
  more : (w : List ℕ) → GoesOn (46 ∷ w)

goes_ends : (r : List ℕ) → GoesOn r → ends_name r ≡ true
goes_ends _ ends = refl
goes_ends _ (more w) = refl

index_ends : (i r : List ℕ) → IsIndex i → GoesOn r → ends_name (i ++ r) ≡ true
index_ends _ r none g = goes_ends r g
index_ends _ r (one t h) g = refl

not_on : (r w : List ℕ) → GoesOn r → r ≡ 91 ∷ w → ⊥
not_on _ w ends e = cc
not_on _ w (more v) e = (let x : ◌≡◌ {A = ℕ} 46 91 = same_first 46 91 v w e in omega arith)

index_same : (i j r q : List ℕ) → IsIndex i → IsIndex j → GoesOn r → GoesOn q → i ++ r ≡ j ++ q → (i ≡ j) × (r ≡ q)
index_same _ _ r q none none g k e = (refl, e)
index_same _ _ r q none (one t h) g k e = absurd (not_on r _ g e)
index_same _ _ r q (one t h) none g k e = absurd (not_on q _ k (sym e))
index_same _ _ r q (one t h) (one u f) g k e =
    let s : (t ≡ u) × (r ≡ q) = split_index t u r q h f (same_rest 91 91 _ _ e) in (ap (λ x. 91 ∷ (x ++ 93 ∷ [])) s.0, s.1)

pub split_step : (m n i j r q : List ℕ) → IsPlain m → IsPlain n → IsIndex i → IsIndex j → GoesOn r → GoesOn q → spelled m ++ (i ++ r) ≡ spelled n ++ (j ++ q) →
    (m ≡ n) × (i ≡ j) × (r ≡ q)
split_step m n i j r q pm pn a b g k e =
    let s : (m ≡ n) × (i ++ r ≡ j ++ q) = split_name m n (i ++ r) (j ++ q) pm pn (index_ends i r a g) (index_ends j q b k) e in
    let t : (i ≡ j) × (r ≡ q) = index_same i j r q a b g k s.1 in (s.0, t.0, t.1)
