-- Each form's text is read to that form.
use Rattle.std.proofs.Common.{◌≡◌, ℕ, ◌≤◌, ◌<◌, List, [], ◌∷◌, ◌++◌, Some, None, Bool, true, false, cond, max, refl, ap, sym, ◌∙◌, arith, append_assoc, append-nil, inl, inr}
use Rattle.std.proofs.lemmas.Bool.{lt-ltb, le-ltb}
use Rattle.lv_exprs.specs.declared.symbol.Sign.{Sign}
use Rattle.lv_exprs.specs.declared.symbol.Sign.TheVariants as g
use Rattle.lv_exprs.specs.declared.symbol.Divider.TheVariants as d
use Rattle.lv_exprs.specs.declared.symbol.Symbol.{Symbol}
use Rattle.lv_exprs.specs.declared.symbol.Symbol.TheVariants as t
use Rattle.lv_exprs.specs.Levels.{level, leads}
use Rattle.lv_exprs.specs.Forms.{Form, plain, based, sized, name, dot, bit, part, prefix, binary, choice, paren, cast, pair, brace, repeat, text, rank, is_step, is_free, Valid, IsExpr}
use Rattle.lv_exprs.specs.Machine.{Open, o_prefix, o_left, o_question, o_colon, o_paren, o_cast, o_brace, o_braces, o_repeat, o_repeats, o_index, o_part, State, want, have, dotted, alone, asks, stops, close, reduce, pull, pulls, put_literal, have_shift, Outcome, done, stop, finish, turn, read, start}

closed_frame : (g : Open) (s : List Open) (x : Form) (q : ℕ) → stops q g ≡ false → reduce q (g ∷ s) x ≡ reduce q s (close g x)
closed_frame g s x q e = rw e refl

-- What a next token closes may be closed before.
closed : (p : Bool) (g : Open) (s : List Open) (x : Form) (rest : List Symbol) → stops (pulls rest) g ≡ false →
    read p (have (g ∷ s) x) rest ≡ read p (have s (close g x)) rest
closed p g s x [] e = ap (λ m. finish m []) (closed_frame g s x 1 e)
closed p g s x (k ∷ ks) e = ap (λ m. turn p m k ks (λ s'. read p s' ks)) (closed_frame g s x (pull k) e)

pub level_le : (s : Sign) → level s ≤ 11
level_le g.BarBar = omega arith
level_le g.AmpAmp = omega arith
level_le g.Bar = omega arith
level_le g.Caret = omega arith
level_le g.TildeCaret = omega arith
level_le g.CaretTilde = omega arith
level_le g.Amp = omega arith
level_le g.EqualEqual = omega arith
level_le g.BangEqual = omega arith
level_le g.Less = omega arith
level_le g.LessEqual = omega arith
level_le g.Greater = omega arith
level_le g.GreaterEqual = omega arith
level_le g.LessLess = omega arith
level_le g.LessLessLess = omega arith
level_le g.GreaterGreater = omega arith
level_le g.GreaterGreaterGreater = omega arith
level_le g.Plus = omega arith
level_le g.Minus = omega arith
level_le g.Star = omega arith
level_le g.Slash = omega arith
level_le g.Percent = omega arith
level_le _ = omega arith

-- A token takes nothing that its own place asks for.
stays : (q r : ℕ) (s : List Open) (x : Form) → asks s ≤ r → r ≤ q → (12 ≤ r → 13 ≤ q) → 2 ≤ q → reduce q s x ≡ have s x
stays q r [] x h a b n = refl
stays q r (o_prefix o ∷ s) x h a b n = let l : 12 < q = omega (arith, b h) in rw (lt-ltb 12 q l) refl
stays q r (o_left o y ∷ s) x h a b n = let l : level o < q = omega arith in rw (lt-ltb (level o) q l) refl
stays q r (o_colon c y ∷ s) x h a b n = let l : 1 < q = omega arith in rw (lt-ltb 1 q l) refl
stays q r (_ ∷ s) x h a b n = refl

pub asks_le : (s : List Open) → asks s ≤ 12
asks_le [] = omega arith
asks_le (o_prefix o ∷ s) = omega arith
asks_le (o_left o y ∷ s) = omega (arith, level_le o)
asks_le (_ ∷ s) = omega arith

-- a state that stays is the one that the token meets
met : (p : Bool) (s : List Open) (x : Form) (k : Symbol) (ks : List Symbol) (m' : State) → reduce (pull k) s x ≡ have s x → have_shift p s x k ≡ Some m' →
    read p (have s x) (k ∷ ks) ≡ read p m' ks
met p s x k ks m' e h =
    ap (λ m. turn p m k ks (λ s'. read p s' ks)) e
    ∙ ap (λ o. elim o as (λ _. Outcome) [ Some z ↦ read p z ks | None ↦ stop (k ∷ ks) ]) h

pull_sign : (o : Sign) → 2 ≤ level o → pull (t.Sign o) ≡ level o
pull_sign o h = rw (le-ltb (level o) 2 h) refl

-- An infix operator whose left side fits is taken.
left_taken : (p : Bool) (o : Sign) (s : List Open) (x : Form) (ks : List Symbol) → 2 ≤ level o → asks s ≤ level o →
    read p (have s x) (t.Sign o ∷ ks) ≡ read p (want (o_left o x ∷ s)) ks
left_taken p o s x ks h l =
    met p s x (t.Sign o) ks (want (o_left o x ∷ s))
    (ap (λ q. reduce q s x) (pull_sign o h) ∙ stays (level o) (level o) s x l (omega arith) (λ q. omega (arith, level_le o)) h)
    (rw (le-ltb (level o) 2 h) refl)

question_taken : (p : Bool) (s : List Open) (x : Form) (ks : List Symbol) → asks s ≤ 1 →
    read p (have s x) (t.Question ∷ ks) ≡ read p (want (o_question x ∷ s)) ks
question_taken p s x ks h = met p s x t.Question ks (want (o_question x ∷ s)) (stays 2 1 s x h (omega arith) (λ q. omega arith) (omega arith)) refl

pub stays_tight : (s : List Open) (x : Form) → reduce 13 s x ≡ have s x
stays_tight s x = stays 13 12 s x (asks_le s) (omega arith) (λ q. omega arith) (omega arith)

bracket_taken : (p : Bool) (s : List Open) (x : Form) (ks : List Symbol) → 14 ≤ rank x →
    read p (have s x) (t.LeftBracket ∷ ks) ≡ read p (want (o_index x ∷ s)) ks
bracket_taken p s x ks h = met p s x t.LeftBracket ks (want (o_index x ∷ s)) (stays_tight s x) (rw (le-ltb (rank x) 14 h) refl)

dot_taken : (p : Bool) (s : List Open) (x : Form) (ks : List Symbol) → is_step x ≡ true → p ≡ true →
    read p (have s x) (t.Dot ∷ ks) ≡ read p (dotted s x) ks
dot_taken p s x ks e f = met p s x t.Dot ks (dotted s x) (stays_tight s x) (rw f (rw e refl))

literal_taken : (s : List Open) (x : Form) → is_free x ≡ false → put_literal s x ≡ Some (have s x)
literal_taken s x e = rw e refl

based_taken : (p : Bool) (s : List Open) (n : _) (b : _) (ks : List Symbol) → is_free (sized n b) ≡ false →
    read p (have s (plain n)) (t.Based b ∷ ks) ≡ read p (have s (sized n b)) ks
based_taken p s n b ks e = met p s (plain n) (t.Based b) ks (have s (sized n b)) (stays_tight s (plain n)) (literal_taken s (sized n b) e)

-- where a list with commas leaves the machine that began it behind a brace
abbrev pair_on : Form → Form → List Open → State
pair_on x y (o_brace ∷ s) = have (o_braces x ∷ s) y
pair_on x y (o_repeat c ∷ s) = have (o_repeats c x ∷ s) y
pair_on x y s = have s (pair x y)

abbrev standing : Form → List Open → State
standing (pair x y) s = pair_on x y s
standing x s = have s x

abbrev BeginsList : List Open → Type 0
BeginsList (o_brace ∷ s) = Unit {0}
BeginsList (o_repeat c ∷ s) = Unit {0}
BeginsList s = ⊥

-- whether a form may stand there
abbrev Room : Form → List Open → Type 0
Room (pair x y) s = BeginsList s
Room x s = asks s ≤ rank x

one : (p : Bool) (x : Form) (s : List Open) (rest : List Symbol) → 1 ≤ rank x → read p (standing x s) rest ≡ read p (have s x) rest
one p (pair x y) s rest h = absurd (omega arith)
one p _ s rest h = refl

room : (x : Form) (s : List Open) → 1 ≤ rank x → asks s ≤ rank x → Room x s
room (pair x y) s h a = absurd (omega arith)
room _ s h a = a

-- an operand is no list
operand : (p : Bool) (x : Form) (s : List Open) (rest : List Symbol) → 1 ≤ rank x → asks s ≤ rank x →
    (Room x s → read p (want s) (text x ++ rest) ≡ read p (standing x s) rest) → read p (want s) (text x ++ rest) ≡ read p (have s x) rest
operand p x s rest h a f = f (room x s h a) ∙ one p x s rest h

room_brace : (p : Bool) (x : Form) (s : List Open) → Valid p x → Room x (o_brace ∷ s)
room_brace p (pair x y) s v = tt
room_brace p (binary o x y) s v = omega (arith, v.4)
room_brace p _ s v = omega arith

room_repeat : (p : Bool) (c x : Form) (s : List Open) → Valid p x → Room x (o_repeat c ∷ s)
room_repeat p c (pair x y) s v = tt
room_repeat p c (binary o x y) s v = omega (arith, v.4)
room_repeat p c _ s v = omega arith

comma_brace : (p : Bool) (x : Form) (s : List Open) (ks : List Symbol) → read p (standing x (o_brace ∷ s)) (t.Comma ∷ ks) ≡ read p (want (o_braces x ∷ s)) ks
comma_brace p (pair x y) s ks = refl
comma_brace p _ s ks = refl

comma_repeat : (p : Bool) (c x : Form) (s : List Open) (ks : List Symbol) →
    read p (standing x (o_repeat c ∷ s)) (t.Comma ∷ ks) ≡ read p (want (o_repeats c x ∷ s)) ks
comma_repeat p c (pair x y) s ks = refl
comma_repeat p c _ s ks = refl

brace_closed : (p : Bool) (x : Form) (s : List Open) (ks : List Symbol) → read p (standing x (o_brace ∷ s)) (t.RightBrace ∷ ks) ≡ read p (have s (brace x)) ks
brace_closed p (pair x y) s ks = refl
brace_closed p _ s ks = refl

repeat_closed : (p : Bool) (c x : Form) (s : List Open) (ks : List Symbol) →
    read p (standing x (o_repeat c ∷ s)) (t.RightBrace ∷ t.RightBrace ∷ ks) ≡ read p (have s (repeat c x)) ks
repeat_closed p c (pair x y) s ks = refl
repeat_closed p c _ s ks = refl

step_rank : (x : Form) → is_step x ≡ true → rank x ≡ 14
step_rank (name n) e = refl
step_rank (dot x n) e = refl
step_rank (bit x i) e = refl
step_rank _ e = absurd (let q : false ≡ true = e in cc)

pub spelled : (p : Bool) (x : Form) (s : List Open) (rest : List Symbol) → Valid p x → Room x s → pulls rest ≤ max 1 (rank x) →
    read p (want s) (text x ++ rest) ≡ read p (standing x s) rest
spelled p (plain n) s rest v h q = refl
spelled p (based b) s rest v h q = ap (λ o. elim o as (λ _. Outcome) [ Some z ↦ read p z rest | None ↦ stop (t.Based b ∷ rest) ]) (literal_taken s (based b) v)
spelled p (sized n b) s rest v h q = based_taken p s n b rest v
spelled p (name n) s rest v h q = refl
spelled p (dot x n) s rest v h q =
    let r : rank x ≡ 14 = step_rank x v.1 in
    ap (read p (want s)) (append_assoc (text x) (t.Dot ∷ t.Name n ∷ []) rest)
    ∙ operand p x s (t.Dot ∷ t.Name n ∷ rest) (omega arith) (omega (arith, asks_le s)) (λ a. spelled p x s (t.Dot ∷ t.Name n ∷ rest) v.0 a (omega arith))
    ∙ dot_taken p s x (t.Name n ∷ rest) v.1 v.2
spelled p (bit x i) s rest v h q =
    ap (read p (want s)) (append_assoc (text x) (t.LeftBracket ∷ (text i ++ (t.RightBracket ∷ []))) rest)
    ∙ operand p x s (t.LeftBracket ∷ ((text i ++ (t.RightBracket ∷ [])) ++ rest)) (omega (arith, v.1)) (omega (arith, v.1, asks_le s))
    (λ a. spelled p x s (t.LeftBracket ∷ ((text i ++ (t.RightBracket ∷ [])) ++ rest)) v.0 a (omega (arith, v.1)))
    ∙ bracket_taken p s x ((text i ++ (t.RightBracket ∷ [])) ++ rest) v.1
    ∙ ap (read p (want (o_index x ∷ s))) (append_assoc (text i) (t.RightBracket ∷ []) rest)
    ∙ operand p i (o_index x ∷ s) (t.RightBracket ∷ rest) v.3 v.3 (λ a. spelled p i (o_index x ∷ s) (t.RightBracket ∷ rest) v.2 a (omega arith))
spelled p (part r x i j) s rest v h q =
    ap (read p (want s)) (append_assoc (text x) (t.LeftBracket ∷ (text i ++ (t.Divider r ∷ (text j ++ (t.RightBracket ∷ []))))) rest)
    ∙ operand p x s (t.LeftBracket ∷ ((text i ++ (t.Divider r ∷ (text j ++ (t.RightBracket ∷ [])))) ++ rest)) (omega (arith, v.1)) (omega (arith, v.1, asks_le s))
    (λ a. spelled p x s (t.LeftBracket ∷ ((text i ++ (t.Divider r ∷ (text j ++ (t.RightBracket ∷ [])))) ++ rest)) v.0 a (omega (arith, v.1)))
    ∙ bracket_taken p s x ((text i ++ (t.Divider r ∷ (text j ++ (t.RightBracket ∷ [])))) ++ rest) v.1
    ∙ ap (read p (want (o_index x ∷ s))) (append_assoc (text i) (t.Divider r ∷ (text j ++ (t.RightBracket ∷ []))) rest)
    ∙ operand p i (o_index x ∷ s) (t.Divider r ∷ ((text j ++ (t.RightBracket ∷ [])) ++ rest)) v.3 v.3
    (λ a. spelled p i (o_index x ∷ s) (t.Divider r ∷ ((text j ++ (t.RightBracket ∷ [])) ++ rest)) v.2 a (omega arith))
    ∙ ap (read p (want (o_part r x i ∷ s))) (append_assoc (text j) (t.RightBracket ∷ []) rest)
    ∙ operand p j (o_part r x i ∷ s) (t.RightBracket ∷ rest) v.5 v.5 (λ a. spelled p j (o_part r x i ∷ s) (t.RightBracket ∷ rest) v.4 a (omega arith))
spelled p (prefix o x) s rest v h q =
    ap (λ z. elim z as (λ _. Outcome) [ Some m ↦ read p m (text x ++ rest) | None ↦ stop (t.Sign o ∷ (text x ++ rest)) ]) (led o s v.2)
    ∙ operand p x (o_prefix o ∷ s) rest (omega (arith, v.1)) v.1 (λ a. spelled p x (o_prefix o ∷ s) rest v.0 a (omega (arith, v.1)))
    ∙ closed p (o_prefix o) s x rest (le-ltb 12 (pulls rest) (omega arith))
  where
    led : (o : Sign) (s : List Open) → leads o ≡ true → cond (leads o) (Some (want (o_prefix o ∷ s))) None ≡ Some (want (o_prefix o ∷ s))
    led o s e = rw e refl
spelled p (binary o x y) s rest v h q =
    ap (read p (want s)) (append_assoc (text x) (t.Sign o ∷ text y) rest)
    ∙ operand p x s (t.Sign o ∷ (text y ++ rest)) (omega (arith, v.2, v.4)) (omega (arith, v.2))
    (λ a. spelled p x s (t.Sign o ∷ (text y ++ rest)) v.0 a (omega (arith, v.2, v.4, pull_sign o v.4)))
    ∙ left_taken p o s x (text y ++ rest) v.4 h
    ∙ operand p y (o_left o x ∷ s) rest (omega (arith, v.3)) v.3 (λ a. spelled p y (o_left o x ∷ s) rest v.1 a (omega (arith, v.3, v.4)))
    ∙ closed p (o_left o x) s y rest (le-ltb (level o) (pulls rest) (omega (arith, v.4)))
spelled p (choice c x y) s rest v h q =
    ap (read p (want s)) (append_assoc (text c) (t.Question ∷ (text x ++ (t.Divider d.Colon ∷ text y))) rest)
    ∙ operand p c s (t.Question ∷ ((text x ++ (t.Divider d.Colon ∷ text y)) ++ rest)) (omega (arith, v.3)) (omega (arith, v.3))
    (λ a. spelled p c s (t.Question ∷ ((text x ++ (t.Divider d.Colon ∷ text y)) ++ rest)) v.0 a (omega (arith, v.3)))
    ∙ question_taken p s c ((text x ++ (t.Divider d.Colon ∷ text y)) ++ rest) h
    ∙ ap (read p (want (o_question c ∷ s))) (append_assoc (text x) (t.Divider d.Colon ∷ text y) rest)
    ∙ operand p x (o_question c ∷ s) (t.Divider d.Colon ∷ (text y ++ rest)) v.4 v.4
    (λ a. spelled p x (o_question c ∷ s) (t.Divider d.Colon ∷ (text y ++ rest)) v.1 a (omega arith))
    ∙ operand p y (o_colon c x ∷ s) rest v.5 v.5 (λ a. spelled p y (o_colon c x ∷ s) rest v.2 a (omega (arith, v.5)))
    ∙ closed p (o_colon c x) s y rest (le-ltb 1 (pulls rest) (omega arith))
spelled p (paren x) s rest v h q =
    ap (read p (want (o_paren ∷ s))) (append_assoc (text x) (t.RightParen ∷ []) rest)
    ∙ operand p x (o_paren ∷ s) (t.RightParen ∷ rest) v.1 v.1 (λ a. spelled p x (o_paren ∷ s) (t.RightParen ∷ rest) v.0 a (omega arith))
spelled p (cast b x) s rest v h q =
    ap (read p (want (o_cast b ∷ s))) (append_assoc (text x) (t.RightParen ∷ []) rest)
    ∙ operand p x (o_cast b ∷ s) (t.RightParen ∷ rest) v.1 v.1 (λ a. spelled p x (o_cast b ∷ s) (t.RightParen ∷ rest) v.0 a (omega arith))
spelled p (pair x y) (o_brace ∷ s) rest v h q =
    ap (read p (want (o_brace ∷ s))) (append_assoc (text x) (t.Comma ∷ text y) rest)
    ∙ spelled p x (o_brace ∷ s) (t.Comma ∷ (text y ++ rest)) v.0 (room_brace p x s v.0) (omega arith)
    ∙ comma_brace p x s (text y ++ rest)
    ∙ operand p y (o_braces x ∷ s) rest v.2 v.2 (λ a. spelled p y (o_braces x ∷ s) rest v.1 a (omega (arith, v.2)))
spelled p (pair x y) (o_repeat c ∷ s) rest v h q =
    ap (read p (want (o_repeat c ∷ s))) (append_assoc (text x) (t.Comma ∷ text y) rest)
    ∙ spelled p x (o_repeat c ∷ s) (t.Comma ∷ (text y ++ rest)) v.0 (room_repeat p c x s v.0) (omega arith)
    ∙ comma_repeat p c x s (text y ++ rest)
    ∙ operand p y (o_repeats c x ∷ s) rest v.2 v.2 (λ a. spelled p y (o_repeats c x ∷ s) rest v.1 a (omega (arith, v.2)))
spelled p (pair x y) [] rest v h q = absurd h
spelled p (pair x y) (_ ∷ s) rest v h q = absurd h
spelled p (brace x) s rest v h q =
    ap (read p (want (o_brace ∷ s))) (append_assoc (text x) (t.RightBrace ∷ []) rest)
    ∙ spelled p x (o_brace ∷ s) (t.RightBrace ∷ rest) v (room_brace p x s v) (omega arith)
    ∙ brace_closed p x s rest
spelled p (repeat c x) s rest v h q =
    ap (read p (want (o_brace ∷ s))) (append_assoc (text c) (t.LeftBrace ∷ (text x ++ (t.RightBrace ∷ t.RightBrace ∷ []))) rest)
    ∙ operand p c (o_brace ∷ s) (t.LeftBrace ∷ ((text x ++ (t.RightBrace ∷ t.RightBrace ∷ [])) ++ rest)) v.1 v.1
    (λ a. spelled p c (o_brace ∷ s) (t.LeftBrace ∷ ((text x ++ (t.RightBrace ∷ t.RightBrace ∷ [])) ++ rest)) v.0 a (omega arith))
    ∙ ap (read p (want (o_repeat c ∷ s))) (append_assoc (text x) (t.RightBrace ∷ t.RightBrace ∷ []) rest)
    ∙ spelled p x (o_repeat c ∷ s) (t.RightBrace ∷ t.RightBrace ∷ rest) v.2 (room_repeat p c x s v.2) (omega arith)
    ∙ repeat_closed p c x s rest

-- a literal with free bits, alone
free_found : (p : Bool) (x : Form) → is_free x ≡ true → read p start (text x) ≡ done x []
free_found p (based b) e = ap (λ o. elim o as (λ _. Outcome) [ Some z ↦ read p z [] | None ↦ stop (t.Based b ∷ []) ]) (put (based b) e)
  where
    put : (x : Form) → is_free x ≡ true → put_literal [] x ≡ Some (alone x)
    put x e = rw e refl
free_found p (sized n b) e = ap (λ o. elim o as (λ _. Outcome) [ Some z ↦ read p z [] | None ↦ stop (t.Based b ∷ []) ]) (put (sized n b) e)
  where
    put : (x : Form) → is_free x ≡ true → put_literal [] x ≡ Some (alone x)
    put x e = rw e refl
free_found p _ e = absurd (let q : false ≡ true = e in cc)

-- What is spelled is read.
pub found : (p : Bool) (x : Form) → IsExpr p x → read p start (text x) ≡ done x []
found p x (inl v) = ap (read p start) (sym (append-nil (text x))) ∙ operand p x [] [] v.1 v.1 (λ a. spelled p x [] [] v.0 a (omega (arith, v.1))) ∙ refl
found p x (inr e) = free_found p x e

done_form : Outcome → Form → Form
done_form (done x r) y = x
done_form (stop r) y = y

-- Each list of tokens is spelled by one form.
pub one_form : (p : Bool) (x y : Form) → IsExpr p x → IsExpr p y → text x ≡ text y → x ≡ y
unfolding done_form
one_form p x y v w e = ap (λ o. done_form o x) (sym (found p x v) ∙ ap (read p start) e ∙ found p y w)
