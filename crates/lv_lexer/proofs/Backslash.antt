-- What follows a backslash: a line's end, or the bytes of a name.
use Rattle.std.proofs.Common.{◌≡◌, ℕ, zero, suc, ◌+◌, ◌<◌, ◌≤◌, Bool, true, false, ◌&&◌, ◌||◌, if◌then◌else◌, ◌==◌, List, [], ◌∷◌, length, take, Some, None, refl, sym, ap, ◌∙◌, subst, arith, true≢false}
use Rattle.std.specs.List.{list_all}
use Rattle.std.specs.Str.{bytes_eq}
use Rattle.std.proofs.lemmas.Bool.{eqb-true, ne_eqb}
use Rattle.lv_ast.specs.Tokens.{is_printed, is_line_end, after_backslash, kind_if}
use Rattle.lv_ast.specs.declared.tokens.Kind.TheVariants.{Escaped, Join}
use Rattle.lv_lexer.specs.Fronts.{IsLongestOf, front_length, begins}
use Rattle.lv_lexer.proofs.Longest.{cons_class, NoneOf, if-false, longest_of}

pub nothing : after_backslash [] ≡ None
unfolding after_backslash
nothing = refl

newline-more : (cs : List ℕ) (m : ℕ) → 1 < m → m ≤ length (10 ∷ cs) → after_backslash (take m (10 ∷ cs)) ≡ None
unfolding after_backslash is_printed
newline-more cs zero a b = absurd (omega (arith, a))
newline-more cs (suc zero) a b = absurd (omega (arith, a))
newline-more [] (suc (suc m)) a b = absurd (omega (arith, b))
newline-more (d ∷ ds) (suc (suc m)) a b = refl

newline-whole : (cs : List ℕ) → after_backslash (take 1 (10 ∷ cs)) ≡ Some Join
unfolding after_backslash
newline-whole cs = refl

newline : (cs : List ℕ) → IsLongestOf after_backslash (10 ∷ cs) Join 1
newline cs = record { within = omega arith; whole = newline-whole cs; longest = newline-more cs }

pub join_newline : (c : ℕ) (cs s : List ℕ) → s ≡ (c ∷ cs) → c ≡ 10 → IsLongestOf after_backslash s Join 1
join_newline c cs s e h = subst (λ l. IsLongestOf after_backslash l Join 1) (sym (e ∙ ap (λ d. d ∷ cs) h)) (newline cs)

return-more : (cs : List ℕ) (m : ℕ) → 2 < m → m ≤ length (13 ∷ 10 ∷ cs) → after_backslash (take m (13 ∷ 10 ∷ cs)) ≡ None
unfolding after_backslash is_printed
return-more cs zero a b = absurd (omega (arith, a))
return-more cs (suc zero) a b = absurd (omega (arith, a))
return-more cs (suc (suc zero)) a b = absurd (omega (arith, a))
return-more [] (suc (suc (suc m))) a b = absurd (omega (arith, b))
return-more (d ∷ ds) (suc (suc (suc m))) a b = refl

return-whole : (cs : List ℕ) → after_backslash (take 2 (13 ∷ 10 ∷ cs)) ≡ Some Join
unfolding after_backslash
return-whole cs = refl

return : (cs : List ℕ) → IsLongestOf after_backslash (13 ∷ 10 ∷ cs) Join 2
return cs = record { within = omega arith; whole = return-whole cs; longest = return-more cs }

return-begins : (cs : List ℕ) → begins 10 cs ≡ true → IsLongestOf after_backslash (13 ∷ cs) Join 2
return-begins [] h = absurd (true≢false (sym h))
return-begins (d ∷ ds) h = let e : d ≡ 10 = eqb-true d 10 h in subst (λ k. IsLongestOf after_backslash (13 ∷ k ∷ ds) Join 2) (sym e) (return ds)

both : (a b : Bool) → (a && b) ≡ true → (a ≡ true) × (b ≡ true)
both true b h = (refl, h)
both false b h = absurd (true≢false (sym h))

pub join_return : (c : ℕ) (cs s : List ℕ) → s ≡ (c ∷ cs) → ((c == 13) && begins 10 cs) ≡ true → IsLongestOf after_backslash s Join 2
join_return c cs s e h =
    let parts : ((c == 13) ≡ true) × (begins 10 cs ≡ true) = both _ _ h in
    let k : c ≡ 13 = eqb-true c 13 parts.0 in
    subst (λ l. IsLongestOf after_backslash l Join 2) (sym (e ∙ ap (λ d. d ∷ cs) k)) (return-begins cs parts.1)

-- ---- no line's end

begins-take : (cs : List ℕ) (m : ℕ) → begins 10 cs ≡ false → begins 10 (take m cs) ≡ false
begins-take cs zero h = refl
begins-take [] (suc m) h = refl
begins-take (d ∷ ds) (suc m) h = h

not-newline : (xs : List ℕ) → begins 10 xs ≡ false → bytes_eq xs (10 ∷ []) ≡ false
not-newline [] h = refl
not-newline (x ∷ xs) h = ap (λ b. b && bytes_eq xs []) h

-- c is no newline, and no carriage return before one
no-end : (c : ℕ) (xs : List ℕ) → (c == 10) ≡ false → ((c == 13) && begins 10 xs) ≡ false → is_line_end (c ∷ xs) ≡ false
no-end c xs h k =
    ap (λ b. (b && bytes_eq xs []) || ((c == 13) && bytes_eq xs (10 ∷ []))) h
    ∙ (elim (c == 13) as (λ b. (b && begins 10 xs) ≡ false → (b && bytes_eq xs (10 ∷ [])) ≡ false) [ true ↦ λ e. not-newline xs e | false ↦ λ e. refl ] k)

plain : (c : ℕ) (xs : List ℕ) → is_line_end (c ∷ xs) ≡ false → after_backslash (c ∷ xs) ≡ kind_if (list_all is_printed (c ∷ xs)) Escaped
unfolding after_backslash
plain c xs h = ap (λ b. if b then Some Join else kind_if (list_all is_printed (c ∷ xs)) Escaped) h

-- bytes of a name, one or more
printed : List ℕ → Bool
printed [] = false
printed (c ∷ cs) = list_all is_printed (c ∷ cs)

at-newline : is_printed 10 ≡ false
unfolding is_printed
at-newline = refl

at-return : is_printed 13 ≡ false
unfolding is_printed
at-return = refl

is-plain : (c : ℕ) → is_printed c ≡ true → ((c == 10) ≡ false) × ((c == 13) ≡ false)
is-plain c h = (
  ne_eqb c 10 (λ e. true≢false (sym h ∙ (ap is_printed e ∙ at-newline))),
  ne_eqb c 13 (λ e. true≢false (sym h ∙ (ap is_printed e ∙ at-return))),
)

name-kind : (c : ℕ) (cs : List ℕ) → is_printed c ≡ true → (m : ℕ) → after_backslash (take m (c ∷ cs)) ≡ kind_if (printed (take m (c ∷ cs))) Escaped
unfolding printed
name-kind c cs h zero = nothing
name-kind c cs h (suc m) = plain c (take m cs) (no-end c (take m cs) (is-plain c h).0 (ap (λ b. b && begins 10 (take m cs)) (is-plain c h).1))

printed-cons : (c : ℕ) → is_printed c ≡ true → (xs : List ℕ) → printed (c ∷ xs) ≡ list_all is_printed xs
unfolding printed
printed-cons c h xs = ap (λ b. b && list_all is_printed xs) h

pub escaped_name : (c : ℕ) (cs s : List ℕ) → s ≡ (c ∷ cs) → is_printed c ≡ true → (n : ℕ) → n ≡ front_length is_printed cs → IsLongestOf after_backslash s Escaped (1 + n)
escaped_name c cs s e h n k =
    subst (λ l. IsLongestOf after_backslash l Escaped (1 + n)) (sym e)
    (longest_of after_backslash printed (c ∷ cs) (1 + n) Escaped (λ _. Escaped) (name-kind c cs h) refl (cons_class printed is_printed c cs (c ∷ cs) refl (printed-cons c h) n k))

no-kind : (c : ℕ) (cs : List ℕ) → (c == 10) ≡ false → ((c == 13) && begins 10 cs) ≡ false → is_printed c ≡ false → NoneOf after_backslash (c ∷ cs)
no-kind c cs h k p zero = nothing
no-kind c cs h k p (suc m) =
    plain c (take m cs) (no-end c (take m cs) h (elim (c == 13) as (λ b. (b && begins 10 cs) ≡ false → (b && begins 10 (take m cs)) ≡ false) [ true ↦ λ e. begins-take cs m e | false ↦ λ e. refl ] k))
    ∙ if-false Escaped _ (ap (λ b. b && list_all is_printed (take m cs)) p)

pub no_backslashed : (c : ℕ) (cs s : List ℕ) → s ≡ (c ∷ cs) → (c == 10) ≡ false → ((c == 13) && begins 10 cs) ≡ false → is_printed c ≡ false → NoneOf after_backslash s
no_backslashed c cs s e h k p = subst (NoneOf after_backslash) (sym e) (no-kind c cs h k p)
