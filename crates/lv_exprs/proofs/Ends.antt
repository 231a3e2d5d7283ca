-- What a run says of the expressions that begin with its tokens.
use Rattle.std.proofs.Common.{◌≡◌, ℕ, ◌+◌, ◌≤◌, max, List, [], ◌∷◌, ◌++◌, Option, Some, None, Bool, refl, ap, sym, subst, ◌∙◌, arith, append_assoc, append-nil, IfSome, inl, inr}
use Rattle.lv_exprs.specs.declared.symbol.Name.{Name}
use Rattle.lv_exprs.specs.declared.symbol.Divider.TheVariants as d
use Rattle.lv_exprs.specs.declared.symbol.Symbol.{Symbol}
use Rattle.lv_exprs.specs.declared.symbol.Symbol.TheVariants as t
use Rattle.lv_exprs.specs.Forms.{Form, name, dot, bit, part, prefix, binary, choice, paren, cast, pair, brace, repeat, text, rank, Valid, Begins}
use Rattle.lv_exprs.specs.Machine.{Open, o_prefix, o_left, o_question, o_colon, o_paren, o_cast, o_brace, o_braces, o_repeat, o_repeats, o_index, o_part, State, want, have, casts, shut, dotted, alone, asks, settle, Outcome, done, stop, finish, step, read, texts, Nested, start, run, then_run}
use Rattle.lv_exprs.specs.Heights.{height}
use Rattle.lv_exprs.specs.Lows.{over_all, low}
use Rattle.lv_exprs.specs.Reading.{BeginsLow}
use Rattle.lv_exprs.proofs.Overs.{height_pos, all_up}
use Rattle.lv_exprs.proofs.Unique.{found, asks_le}
use Rattle.lv_exprs.proofs.Kept.{Spells, stepped}

-- what is open can be completed, no higher than h
record Whole (p : Bool) (ts : List Symbol) (h : ℕ) : Type 0 where
  more : List Symbol
  form : Form
  valid : Valid p form × (1 ≤ rank form)
  whole : text form ≡ ts ++ more
  bound : height form ≤ h

widen : {h : ℕ} (p : Bool) (ts us more : List Symbol) {k : ℕ} → k ≤ h → (w : Whole p us k) → us ≡ ts ++ more → Whole p ts h
widen {h} p ts us more {k} i w e = record {
  more = more ++ w.more;
  form = w.form;
  valid = w.valid;
  whole = w.whole ∙ ap (λ v. v ++ w.more) e ∙ append_assoc ts more w.more;
  bound = (let l : height w.form ≤ k = w.bound in omega (arith, l, i));
}

same : (n : ℕ) → n ≤ n
same n = omega arith

-- any name
x0 : Name
x0 = record { place = 0; start = 0; end = 0 }

ended : (p : Bool) (s : List Open) (x : Form) → Nested p s → Valid p x → asks s ≤ rank x → 1 ≤ rank x → Whole p (texts s ++ text x) (over_all s (height x))
ended p [] x n v h r = record { more = []; form = x; valid = (v, h); whole = sym (append-nil (text x)); bound = same (height x) }
ended p (o_prefix o ∷ s) x n v h r = widen p _ _ [] (same _) (ended p s (prefix o x) n.1 (v, h, n.0.1) n.0.0 (omega arith)) (simp (append_assoc, append-nil))
ended p (o_left o y ∷ s) x n v h r = widen p _ _ [] (same _) (ended p s (binary o y x) n.1 (n.0.0, v, n.0.1, h, n.0.3) n.0.2 (omega (arith, n.0.3))) (simp (append_assoc, append-nil))
ended p (o_question c ∷ s) x n v h r =
    widen p _ _ (t.Divider d.Colon ∷ t.Name x0 ∷ []) (all_up s (1 + max (max (height c) (height x)) 1) (1 + max (height c) (height x)) (omega (arith, height_pos x))) (ended p s (choice c x (name x0)) n.1 (n.0.0, v, tt, n.0.1, r, omega arith) n.0.2 (omega arith)) (simp append_assoc)
ended p (o_colon c a ∷ s) x n v h r = widen p _ _ [] (same _) (ended p s (choice c a x) n.1 (n.0.0, n.0.2, v, n.0.1, n.0.3, h) n.0.4 (omega arith)) (simp (append_assoc, append-nil))
ended p (o_paren ∷ s) x n v h r = widen p _ _ (t.RightParen ∷ []) (same _) (ended p s (paren x) n.1 (v, h) (omega (arith, asks_le s)) (omega arith)) (simp append_assoc)
ended p (o_cast b ∷ s) x n v h r = widen p _ _ (t.RightParen ∷ []) (same _) (ended p s (cast b x) n.1 (v, h) (omega (arith, asks_le s)) (omega arith)) (simp append_assoc)
ended p (o_brace ∷ s) x n v h r = widen p _ _ (t.RightBrace ∷ []) (same _) (ended p s (brace x) n.1 v (omega (arith, asks_le s)) (omega arith)) (simp append_assoc)
ended p (o_braces y ∷ s) x n v h r = widen p _ _ (t.RightBrace ∷ []) (same _) (ended p s (brace (pair y x)) n.1 (n.0, v, r) (omega (arith, asks_le s)) (omega arith)) (simp append_assoc)
ended p (o_repeat c ∷ s) x n v h r =
    widen p _ _ (t.RightBrace ∷ t.RightBrace ∷ []) (same _) (ended p s (repeat c x) n.1 (n.0.0, n.0.1, v) (omega (arith, asks_le s)) (omega arith)) (simp append_assoc)
ended p (o_repeats c y ∷ s) x n v h r =
    widen p _ _ (t.RightBrace ∷ t.RightBrace ∷ []) (same _) (ended p s (repeat c (pair y x)) n.1 (n.0.0, n.0.1, (n.0.2, v, r)) (omega (arith, asks_le s)) (omega arith)) (simp append_assoc)
ended p (o_index y ∷ s) x n v h r = widen p _ _ (t.RightBracket ∷ []) (same _) (ended p s (bit y x) n.1 (n.0.0, n.0.1, v, r) (omega (arith, asks_le s)) (omega arith)) (simp append_assoc)
ended p (o_part o y z ∷ s) x n v h r =
    widen p _ _ (t.RightBracket ∷ []) (same _) (ended p s (part o y z x) n.1 (n.0.0, n.0.1, n.0.2, n.0.3, v, r) (omega (arith, asks_le s)) (omega arith)) (simp append_assoc)

chain : (o : Option State) (P Q : State → Type 0) (next : State → Option State) → IfSome o P → ((s : State) → P s → IfSome (next s) Q) → IfSome (then_run o next) Q
chain None P Q next h n = tt
chain (Some s) P Q next h n = n s h

-- a run keeps it
pub ran : (p : Bool) (ts us : List Symbol) (s : State) → Spells p us s → IfSome (run p s ts) (λ s'. Spells p (us ++ ts) s')
ran p [] us s h = rw append-nil h
ran p (k ∷ ks) us s h =
    chain (step p s k) (λ s'. Spells p (us ++ (k ∷ [])) s') (λ s'. Spells p (us ++ (k ∷ ks)) s') (λ s'. run p s' ks) (stepped p s k us h)
    (λ s' h'. subst (λ (vs : List Symbol). IfSome (run p s' ks) (λ z. Spells p vs z)) (append_assoc us (k ∷ []) ks) (ran p ks (us ++ (k ∷ [])) s' h'))

-- reading goes on where a run ends
pub carried : (p : Bool) (ts more : List Symbol) (s : State) → IfSome (run p s ts) (λ s'. read p s (ts ++ more) ≡ read p s' more)
carried p [] more s = refl
carried p (k ∷ ks) more s =
    elim (step p s k) as (λ o. IfSome (then_run o (λ s'. run p s' ks)) (λ z. (elim o as (λ _. Outcome) [ Some m' ↦ read p m' (ks ++ more) | None ↦ stop (k ∷ (ks ++ more)) ]) ≡ read p z more))
    [ None ↦ tt | Some s' ↦ carried p ks more s' ]

unfinished : (r : List Symbol) (x : Form) → stop r ≡ done x [] → ⊥
unfinished r x e = cc

-- what is read whole is a run
pub whole_run : (p : Bool) (ts : List Symbol) (s : State) (x : Form) → read p s ts ≡ done x [] → (s' : State) × (run p s ts ≡ Some s') × (finish (settle 1 s') [] ≡ done x [])
whole_run p [] s x e = (s, refl, e)
whole_run p (k ∷ ks) s x e =
    (elim (step p s k) as (λ o. (elim o as (λ _. Outcome) [ Some m' ↦ read p m' ks | None ↦ stop (k ∷ ks) ]) ≡ done x [] →
    (z : State) × (then_run o (λ s'. run p s' ks) ≡ Some z) × (finish (settle 1 z) [] ≡ done x []))
    [ None ↦ (λ h. absurd (unfinished (k ∷ ks) x h)) | Some s' ↦ (λ h. whole_run p ks s' x h) ]) e

-- what IfSome says of a value that is there
pub of_some : (P : State → Type 0) (o : Option State) (s : State) → o ≡ Some s → IfSome o P → P s
of_some P o s e h = subst (λ (z : Option State). IfSome z P) e h

pub started : (p : Bool) → Spells p [] start
started p = record { sound = tt; spells = refl; fresh = tt }

-- what was run begins an expression, and one that is no higher than the state says, where it is no literal with free bits
completed : (p : Bool) (ts : List Symbol) (s : State) → Spells p ts s → ((x : Form) → s ≡ alone x → ⊥) → Whole p ts (low s)
completed p ts (want s) h n = widen p _ _ (t.Name x0 ∷ []) (same _) (ended p s (name x0) h.sound tt (omega (arith, asks_le s)) (omega arith)) (rw h.spells refl)
completed p ts (have s x) h n = widen p _ _ [] (same _) (ended p s x h.sound.0 h.sound.1 h.sound.2 (omega (arith, h.fresh))) (h.spells ∙ sym (append-nil ts))
completed p ts (casts s b) h n =
    widen p _ _ (t.LeftParen ∷ t.Name x0 ∷ t.RightParen ∷ []) (same _) (ended p s (cast b (name x0)) h.sound (tt, omega arith) (omega (arith, asks_le s)) (omega arith))
    (sym (append_assoc (texts s) (t.Cast b ∷ []) (t.LeftParen ∷ t.Name x0 ∷ t.RightParen ∷ [])) ∙ ap (λ v. v ++ (t.LeftParen ∷ t.Name x0 ∷ t.RightParen ∷ [])) h.spells)
completed p ts (shut s c x) h n =
    widen p _ _ (t.RightBrace ∷ []) (same _) (ended p s (repeat c x) h.sound.0 (h.sound.1, h.sound.2, h.sound.3) (omega (arith, asks_le s)) (omega arith))
    (rw (sym h.spells) (simp append_assoc))
completed p ts (dotted s x) h n =
    widen p _ _ (t.Name x0 ∷ []) (same _) (ended p s (dot x x0) h.sound.0 (h.sound.1, h.sound.2, h.sound.3) (omega (arith, asks_le s)) (omega arith))
    (rw (sym h.spells) (simp append_assoc))
completed p ts (alone x) h n = absurd (n x refl)

spelled : (p : Bool) (ts : List Symbol) (s : State) → run p start ts ≡ Some s → Spells p ts s
spelled p ts s e = of_some (λ z. Spells p ts z) (run p start ts) s e (ran p ts [] start (started p))

pub alive : (p : Bool) (ts : List Symbol) (s : State) → run p start ts ≡ Some s → Begins p ts
alive p ts s e = of_spells s (spelled p ts s e)
  where
    begins : {h : ℕ} → Whole p ts h → Begins p ts
    begins w = (w.more, w.form, inl w.valid, w.whole)

    of_spells : (s : State) → Spells p ts s → Begins p ts
    of_spells (want s) h = begins (completed p ts (want s) h (λ x e. cc))
    of_spells (have s x) h = begins (completed p ts (have s x) h (λ y e. cc))
    of_spells (casts s b) h = begins (completed p ts (casts s b) h (λ x e. cc))
    of_spells (shut s c x) h = begins (completed p ts (shut s c x) h (λ y e. cc))
    of_spells (dotted s x) h = begins (completed p ts (dotted s x) h (λ y e. cc))
    of_spells (alone x) h = ([], x, inr h.sound, h.spells ∙ sym (append-nil ts))

-- a step goes on from it, and it is no higher than the limit
pub alive_low : (p : Bool) (ts : List Symbol) (k : Symbol) (s s' : State) (limit : ℕ) → run p start ts ≡ Some s → step p s k ≡ Some s' → low s ≤ limit → BeginsLow limit p ts
alive_low p ts k s s' limit e f l = begins (completed p ts s (spelled p ts s e) (λ x g. stuck x g))
  where
    nothing : None ≡ Some s' → ⊥
    nothing e = cc

    stuck : (x : Form) → s ≡ alone x → ⊥
    stuck x g = nothing (let q : step p (alone x) k ≡ None = refl in sym q ∙ ap (λ z. step p z k) (sym g) ∙ f)

    begins : Whole p ts (low s) → BeginsLow limit p ts
    begins w = (w.more, w.form, w.valid.0, w.valid.1, (let i : height w.form ≤ low s = w.bound in omega (arith, i, l)), w.whole)

-- where a step fails nothing begins so
pub dead : (p : Bool) (ts : List Symbol) (s : State) (k : Symbol) → run p start ts ≡ Some s → step p s k ≡ None → Begins p (ts ++ (k ∷ [])) → ⊥
dead p ts s k e n (more, x, v, w) =
    let c : read p start (ts ++ (k ∷ more)) ≡ read p s (k ∷ more) = of_some (λ z. read p start (ts ++ (k ∷ more)) ≡ read p z (k ∷ more)) (run p start ts) s e (carried p ts (k ∷ more) start) in
    let r : read p start (ts ++ (k ∷ more)) ≡ done x [] = ap (read p start) (sym (w ∙ append_assoc ts (k ∷ []) more)) ∙ found p x v in
    let q : read p s (k ∷ more) ≡ stop (k ∷ more) =
    ap (λ o. elim o as (λ _. Outcome) [ Some m' ↦ read p m' more | None ↦ stop (k ∷ more) ]) n in
    unfinished (k ∷ more) x (sym q ∙ c' c ∙ r)
  where
    c' : {a b : Outcome} → a ≡ b → b ≡ a
    c' e = sym e
