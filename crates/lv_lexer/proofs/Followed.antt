-- One reading after another.
use Rattle.std.proofs.Common.{◌≡◌, ℕ, ◌+◌, ◌<◌, ◌≤◌, List, [], ◌∷◌, ◌++◌, length, Option, Some, None, Result, refl, sym, ap, ◌∙◌, subst, arith, append_assoc, append-nil, add_assoc, one-add, add-zero, zero-add, length-append}
use Rattle.std.specs.Prelude.{MatchResult}
use Rattle.std.proofs.lemmas.Option.{none-some}
use Rattle.lv_ast.specs.Folds.{Reading, Stop, followed, counted, one, once_used}
use Rattle.lv_ast.specs.declared.tokens.Token.{Token}
use Rattle.lv_lexer.specs.declared.error.DirectiveError.{DirectiveError}
use Rattle.lv_lexer.specs.declared.error.DirectiveError.TheVariants.{UnknownMacro, Unbalanced, Malformed, Depth, TooMany, NoMemory}
use Rattle.lv_lexer.specs.declared.output.Output.{Output}
use Rattle.lv_lexer.specs.Readings.{done, used, Reads, Stops, IsFoldRefusal, IsFoldAnswer, IsFoldRefusalOfMany}

abbrev pub so_far : List Token → ℕ → Reading
so_far l u = record { tokens = l; uses = u; stop = None }

-- ---- one token and one use more

pub gave : (l m : List Token) (u : ℕ) (t : Token) → m ≡ l ++ t ∷ [] → followed (so_far l u) (one t) ≡ so_far m u
unfolding followed
gave l m u t h = λ i. record { tokens = sym h i; uses = add-zero u i; stop = None }

pub counted_use : (l : List Token) (u v : ℕ) → v ≡ u + 1 → followed (so_far l u) used ≡ so_far l v
unfolding followed
counted_use l u v h = λ i. record { tokens = append-nil l i; uses = sym h i; stop = None }

pub full_give : (l : List Token) (u : ℕ) (t : Token) → 500000 ≤ length l + u → 500000 < counted (followed (so_far l u) (one t))
unfolding followed
full_give l u t h = let e : length (l ++ t ∷ []) ≡ length l + 1 = length-append l (t ∷ []) in omega (arith, h, e)

pub full_use : (l : List Token) (u : ℕ) → 500000 ≤ length l + u → 500000 < counted (followed (so_far l u) used)
unfolding followed
full_use l u h = let e : length (l ++ []) ≡ length l + 0 = length-append l [] in omega (arith, h, e)

-- ---- laws

assoc-parts : (t : List Token) (u : ℕ) (s : Option Stop) (t' : List Token) (u' : ℕ) (s' : Option Stop) (c : Reading) →
    followed (followed (record { tokens = t; uses = u; stop = s }) (record { tokens = t'; uses = u'; stop = s' })) c
    ≡ followed (record { tokens = t; uses = u; stop = s }) (followed (record { tokens = t'; uses = u'; stop = s' }) c)
unfolding followed
assoc-parts t u (Some s) t' u' s' c = refl
assoc-parts t u None t' u' (Some s') c = refl
assoc-parts t u None t' u' None c = λ i. record { tokens = append_assoc t t' c.tokens i; uses = add_assoc u u' c.uses i; stop = c.stop }

pub followed_assoc : (a b c : Reading) → followed (followed a b) c ≡ followed a (followed b c)
followed_assoc a b c = assoc-parts a.tokens a.uses a.stop b.tokens b.uses b.stop c

nothing-parts : (t : List Token) (u : ℕ) (s : Option Stop) → followed (record { tokens = t; uses = u; stop = s }) (so_far [] 0) ≡ record { tokens = t; uses = u; stop = s }
unfolding followed
nothing-parts t u (Some s) = refl
nothing-parts t u None = λ i. record { tokens = append-nil t i; uses = add-zero u i; stop = None }

pub followed_nothing : (a : Reading) → followed a (so_far [] 0) ≡ a
followed_nothing a = nothing-parts a.tokens a.uses a.stop

pub nothing_followed : (b : Reading) → followed (so_far [] 0) b ≡ b
unfolding followed
nothing_followed b = λ i. record { tokens = b.tokens; uses = zero-add b.uses i; stop = b.stop }

pub used_first : (r : Reading) → once_used r ≡ followed used r
unfolding followed
used_first r = λ i. record { tokens = r.tokens; uses = sym (one-add r.uses) i; stop = r.stop }

stays-parts : (t : List Token) (u : ℕ) (s : Option Stop) (b : Reading) (x : Stop) → s ≡ Some x → followed (record { tokens = t; uses = u; stop = s }) b ≡ record { tokens = t; uses = u; stop = s }
unfolding followed
stays-parts t u (Some s) b x h = refl
stays-parts t u None b x h = absurd (none-some x h)

stays : (a b : Reading) (x : Stop) → a.stop ≡ Some x → followed a b ≡ a
stays a b x h = stays-parts a.tokens a.uses a.stop b x h

counts-parts : (t : List Token) (u : ℕ) (s : Option Stop) (b : Reading) → length t + u ≤ counted (followed (record { tokens = t; uses = u; stop = s }) b)
unfolding followed
counts-parts t u (Some s) b = omega arith
counts-parts t u None b = let e : length (t ++ b.tokens) ≡ length t + length b.tokens = length-append t b.tokens in omega (arith, e)

stop-stays : (a b : Reading) (x : Stop) → Stops a x → Stops (followed a b) x
stop-stays a b x h = subst (λ r. Stops r x) (sym (stays a b x h.0)) h

-- a refusal stays one
pub refusal_stays : (a b : Reading) (e : DirectiveError) → IsFoldAnswer a e → IsFoldAnswer (followed a b) e
refusal_stays a b (UnknownMacro p) h = stop-stays a b _ h
refusal_stays a b (Unbalanced p) h = stop-stays a b _ h
refusal_stays a b (Malformed p) h = stop-stays a b _ h
refusal_stays a b (Depth p) h = stop-stays a b _ h
refusal_stays a b (TooMany n) h = (h.0, let k : counted a ≤ counted (followed a b) = counts-parts a.tokens a.uses a.stop b in let l : 500000 < counted a = h.1 in omega (arith, k, l))
refusal_stays a b NoMemory h = tt

-- ---- calls one after another

pub reads_then : {T : Type 0} (o p n : Output) (a b : Reading) (r : Result T DirectiveError) → followed (done o) a ≡ done p → Reads p b r n → Reads o (followed a b) r n
reads_then o p n a b r h k =
    let e : followed (done p) b ≡ followed (done o) (followed a b) = ap (λ x. followed x b) (sym h) ∙ followed_assoc (done o) a b in
    subst (λ x. MatchResult r (λ _. x ≡ done n) (IsFoldAnswer x)) e k

pub refused_first : (o : Output) (a b : Reading) (e : DirectiveError) → IsFoldAnswer (followed (done o) a) e → IsFoldAnswer (followed (done o) (followed a b)) e
refused_first o a b e h = subst (λ x. IsFoldAnswer x e) (followed_assoc (done o) a b) (refusal_stays (followed (done o) a) b e h)

-- ---- what was read whole

unstopped : (r : Reading) (s : Stop) → r.stop ≡ None → r.stop ≡ Some s → ⊥
unstopped r s n h = none-some s (sym n ∙ h)

-- no refusal but want of memory has its cause
pub no_fold_refusal : (r : Reading) → r.stop ≡ None → counted r ≤ 500000 → (e : DirectiveError) → IsFoldRefusal r e → e ≡ NoMemory
no_fold_refusal r n l (UnknownMacro p) h = absurd (unstopped r _ n h)
no_fold_refusal r n l (Unbalanced p) h = absurd (unstopped r _ n h)
no_fold_refusal r n l (Malformed p) h = absurd (unstopped r _ n h)
no_fold_refusal r n l (Depth p) h = absurd (unstopped r _ n h)
no_fold_refusal r n l (TooMany m) h = let k : 500000 < counted r = h.1 in absurd (omega (arith, k, l))
no_fold_refusal r n l NoMemory h = refl

-- ---- the refusal that a reading comes to

pub answer_refusal : (r : Reading) (e : DirectiveError) → IsFoldAnswer r e → IsFoldRefusal r e
answer_refusal r (UnknownMacro p) h = h.0
answer_refusal r (Unbalanced p) h = h.0
answer_refusal r (Malformed p) h = h.0
answer_refusal r (Depth p) h = h.0
answer_refusal r (TooMany n) h = h
answer_refusal r NoMemory h = tt

not-many : (r : Reading) (s : Stop) → Stops r s → 500000 < counted r → ⊥
not-many r s h m = let k : counted r ≤ 500000 = h.1 in omega (arith, k, m)

-- where the limit is passed, it is the limit
pub answer_many : (r : Reading) (e : DirectiveError) → 500000 < counted r → IsFoldAnswer r e → IsFoldRefusalOfMany e
answer_many r (UnknownMacro p) m h = not-many r _ h m
answer_many r (Unbalanced p) m h = not-many r _ h m
answer_many r (Malformed p) m h = not-many r _ h m
answer_many r (Depth p) m h = not-many r _ h m
answer_many r (TooMany n) m h = h.0
answer_many r NoMemory m h = tt
