-- What a token of a body gives.
use Rattle.std.proofs.Common.{◌≡◌, ℕ, zero, suc, ◌+◌, ◌-◌, ◌<◌, ◌≤◌, true, false, if◌then◌else◌, List, [], ◌∷◌, ◌++◌, length, drop, Option, Some, None, refl, sym, ap, ◌∙◌, subst, arith, length-append}
use Rattle.lv_ast.specs.Folds.{Reading, Macro, Stop, UnknownMacro, Depth, followed, stopped, one, counted, in_order, expansion, expanded_body, body_of, word_of, is_tick, nothing}
use Rattle.lv_ast.specs.declared.tokens.Token.{Token}
use Rattle.lv_lexer.specs.declared.output.Output.{Output}
use Rattle.lv_lexer.specs.Readings.{done, used, Stops}
use Rattle.lv_lexer.proofs.Followed.{so_far, used_first, followed_nothing}
use Rattle.lv_lexer.proofs.Lines.{token_at, drop_at, drop_all}

pub expands_plain : (text : List ℕ) (ms : List Macro) (n : ℕ) (t : Token) → is_tick t.kind ≡ false → one t ≡ expansion text ms n t
unfolding expansion
expands_plain text ms zero t h = sym (ap (λ b. if b then stopped (Depth t.start) else one t) h)
expands_plain text ms (suc n) t h = sym (ap (λ b. if b then expanded_body (expansion text ms n) t (body_of ms (word_of text t)) else one t) h)

too-deep : (text : List ℕ) (ms : List Macro) (t : Token) → is_tick t.kind ≡ true → stopped (Depth t.start) ≡ expansion text ms 0 t
unfolding expansion
too-deep text ms t h = sym (ap (λ b. if b then stopped (Depth t.start) else one t) h)

stop-of : (l : List Token) (u : ℕ) (s : Stop) → (followed (so_far l u) (stopped s)).stop ≡ Some s
unfolding followed
stop-of l u s = refl

count-of : (l : List Token) (u : ℕ) (s : Stop) → counted (followed (so_far l u) (stopped s)) ≡ length l + u
unfolding followed
count-of l u s = let e : length (l ++ []) ≡ length l + 0 = length-append l [] in omega (arith, e)

pub stops : (o : Output) (s : Stop) → Stops (followed (done o) (stopped s)) s
stops o s = (stop-of o.list o.uses s, let e : counted (followed (done o) (stopped s)) ≡ length o.list + o.uses = count-of o.list o.uses s in let f : length o.list + o.uses ≤ 500000 = o.few in omega (arith, e, f))

pub expands_too_deep : (text : List ℕ) (ms : List Macro) (n : ℕ) (t : Token) (o : Output) → n ≡ 0 → is_tick t.kind ≡ true → Stops (followed (done o) (expansion text ms n t)) (Depth t.start)
expands_too_deep text ms n t o e h =
    subst (λ r. Stops (followed (done o) r) (Depth t.start)) (too-deep text ms t h ∙ ap (λ k. expansion text ms k t) (sym e)) (stops o (Depth t.start))

with-body : (text : List ℕ) (ms : List Macro) (n : ℕ) (t : Token) (b : Option (List Token)) → is_tick t.kind ≡ true → b ≡ body_of ms (word_of text t) → expanded_body (expansion text ms n) t b ≡ expansion text ms (suc n) t
unfolding expansion
with-body text ms n t b h e = ap (expanded_body (expansion text ms n) t) e ∙ sym (ap (λ b. if b then expanded_body (expansion text ms n) t (body_of ms (word_of text t)) else one t) h)

positive : (n : ℕ) → (n ≡ 0 → ⊥) → n ≡ suc (n - 1)
positive n h = omega (arith, h)

pub expands_unknown : (text : List ℕ) (ms : List Macro) (n : ℕ) (t : Token) (o : Output) → (n ≡ 0 → ⊥) → is_tick t.kind ≡ true → None ≡ body_of ms (word_of text t) → Stops (followed (done o) (expansion text ms n t)) (UnknownMacro t.start)
expands_unknown text ms n t o p h e =
    subst (λ r. Stops (followed (done o) r) (UnknownMacro t.start)) (with-body text ms (n - 1) t None h e ∙ ap (λ k. expansion text ms k t) (sym (positive n p))) (stops o (UnknownMacro t.start))

pub expands_body : (text : List ℕ) (ms : List Macro) (n : ℕ) (t : Token) (body : List Token) → (n ≡ 0 → ⊥) → is_tick t.kind ≡ true → Some body ≡ body_of ms (word_of text t) → followed used (in_order (expansion text ms (n - 1)) body) ≡ expansion text ms n t
expands_body text ms n t body p h e =
    sym (used_first (in_order (expansion text ms (n - 1)) body))
    ∙ (with-body text ms (n - 1) t (Some body) h e ∙ ap (λ k. expansion text ms k t) (sym (positive n p)))

-- ---- the tokens of a body in order

order-cons : (f : Token → Reading) (t : Token) (ts : List Token) → in_order f (t ∷ ts) ≡ followed (f t) (in_order f ts)
unfolding in_order
order-cons f t ts = refl

order-none : (f : Token → Reading) → in_order f [] ≡ nothing
unfolding in_order
order-none f = refl

pub order_at : (f : Token → Reading) (s : List Token) (i : ℕ) → i < length s → followed (f (token_at s i)) (in_order f (drop (i + 1) s)) ≡ in_order f (drop i s)
order_at f s i h = sym (ap (in_order f) (drop_at s i h) ∙ order-cons f (token_at s i) (drop (i + 1) s))

pub order_end : (f : Token → Reading) (s : List Token) (i : ℕ) (a : Reading) → length s ≤ i → followed a (in_order f (drop i s)) ≡ a
order_end f s i a h = ap (followed a) (ap (in_order f) (drop_all s i h) ∙ order-none f) ∙ followed_nothing a
