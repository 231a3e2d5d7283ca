-- A machine that reads an expression token by token, with what is open on a stack: the proofs' means, and no part of the promise.
use Rattle.std.specs.Prelude.{◌≡◌, ℕ, ◌+◌, ◌≤◌, nat_lt, List, [], ◌∷◌, ◌++◌, Option, Some, None, Bool, true, ◌&&◌, cond}
use Rattle.lv_exprs.specs.declared.symbol.Sign.{Sign}
use Rattle.lv_exprs.specs.declared.symbol.Divider.{Divider}
use Rattle.lv_exprs.specs.declared.symbol.Divider.TheVariants as d
use Rattle.lv_exprs.specs.declared.symbol.Based.{Based}
use Rattle.lv_exprs.specs.declared.symbol.Symbol.{Symbol}
use Rattle.lv_exprs.specs.declared.symbol.Symbol.TheVariants as t
use Rattle.lv_exprs.specs.Levels.{level, leads}
use Rattle.lv_exprs.specs.Forms.{Form, plain, based, sized, name, dot, bit, part, prefix, binary, choice, paren, cast, pair, brace, repeat, text, rank, is_step, is_free, Valid}

pub data Open : Type 0 where
  o_prefix : Sign → Open
  o_left : Sign → Form → Open
  o_question : Form → Open
  o_colon : Form → Form → Open
  o_paren : Open
  o_cast : Bool → Open
  -- a brace, without and with expressions before a comma; the same in a replication
  o_brace : Open
  o_braces : Form → Open
  o_repeat : Form → Open
  o_repeats : Form → Form → Open
  o_index : Form → Open
  o_part : Divider → Form → Form → Open

-- an operand has to follow; one stands there; `(` has to follow `$signed`; the outer brace of a replication; a name; or a literal
-- with free bits stands there, and nothing follows
pub data State : Type 0 where
  want : List Open → State
  have : List Open → Form → State
  casts : List Open → Bool → State
  shut : List Open → Form → Form → State
  dotted : List Open → Form → State
  alone : Form → State

-- the loosest operand that may stand inside
abbrev pub asks : List Open → ℕ
asks [] = 1
asks (o_prefix s ∷ fs) = 12
asks (o_left s x ∷ fs) = level s + 1
asks (_ ∷ fs) = 1

-- whether a token that pulls so strongly takes the operand away from what is open
abbrev pub stops : ℕ → Open → Bool
stops q (o_prefix s) = nat_lt 12 q
stops q (o_left s x) = nat_lt (level s) q
stops q (o_colon c a) = nat_lt 1 q
stops q _ = true

abbrev pub close : Open → Form → Form
close (o_prefix s) x = prefix s x
close (o_left s y) x = binary s y x
close (o_colon c a) x = choice c a x
close _ x = x

abbrev pub reduce : ℕ → List Open → Form → State
reduce q [] x = have [] x
reduce q (g ∷ fs) x = cond (stops q g) (have (g ∷ fs) x) (reduce q fs (close g x))

abbrev pub settle : ℕ → State → State
settle q (have fs x) = reduce q fs x
settle q s = s

abbrev pub pull : Symbol → ℕ
pull (t.Sign s) = cond (nat_lt (level s) 2) 1 (level s)
pull t.Question = 2
pull t.LeftBracket = 13
pull t.Dot = 13
pull (t.Based b) = 13
pull _ = 1

abbrev pub pulls : List Symbol → ℕ
pulls [] = 1
pulls (k ∷ ks) = pull k

abbrev pub put_alone : List Open → Form → Option State
put_alone [] x = Some (alone x)
put_alone (g ∷ fs) x = None

abbrev pub put_literal : List Open → Form → Option State
put_literal fs x = cond (is_free x) (put_alone fs x) (Some (have fs x))

abbrev pub want_shift : List Open → Symbol → Option State
want_shift fs (t.Name n) = Some (have fs (name n))
want_shift fs (t.Number n) = Some (have fs (plain n))
want_shift fs (t.Based b) = put_literal fs (based b)
want_shift fs (t.Cast b) = Some (casts fs b)
want_shift fs (t.Sign s) = cond (leads s) (Some (want (o_prefix s ∷ fs))) None
want_shift fs t.LeftParen = Some (want (o_paren ∷ fs))
want_shift fs t.LeftBrace = Some (want (o_brace ∷ fs))
want_shift fs _ = None

abbrev pub put_comma : List Open → Form → Option State
put_comma (o_brace ∷ fs) x = Some (want (o_braces x ∷ fs))
put_comma (o_braces y ∷ fs) x = Some (want (o_braces (pair y x) ∷ fs))
put_comma (o_repeat c ∷ fs) x = Some (want (o_repeats c x ∷ fs))
put_comma (o_repeats c y ∷ fs) x = Some (want (o_repeats c (pair y x) ∷ fs))
put_comma _ x = None

abbrev pub put_divider : Divider → List Open → Form → Option State
put_divider r (o_index y ∷ fs) x = Some (want (o_part r y x ∷ fs))
put_divider d.Colon (o_question c ∷ fs) x = Some (want (o_colon c x ∷ fs))
put_divider _ _ x = None

abbrev pub put_right_paren : List Open → Form → Option State
put_right_paren (o_paren ∷ fs) x = Some (have fs (paren x))
put_right_paren (o_cast b ∷ fs) x = Some (have fs (cast b x))
put_right_paren _ x = None

abbrev pub put_right_brace : List Open → Form → Option State
put_right_brace (o_brace ∷ fs) x = Some (have fs (brace x))
put_right_brace (o_braces y ∷ fs) x = Some (have fs (brace (pair y x)))
put_right_brace (o_repeat c ∷ fs) x = Some (shut fs c x)
put_right_brace (o_repeats c y ∷ fs) x = Some (shut fs c (pair y x))
put_right_brace _ x = None

abbrev pub put_right_bracket : List Open → Form → Option State
put_right_bracket (o_index y ∷ fs) x = Some (have fs (bit y x))
put_right_bracket (o_part r y z ∷ fs) x = Some (have fs (part r y z x))
put_right_bracket _ x = None

-- the first expression in braces may be a count
abbrev pub put_left_brace : List Open → Form → Option State
put_left_brace (o_brace ∷ fs) x = Some (want (o_repeat x ∷ fs))
put_left_brace _ x = None

abbrev pub put_based : Based → List Open → Form → Option State
put_based b fs (plain n) = put_literal fs (sized n b)
put_based b fs _ = None

abbrev pub have_shift : Bool → List Open → Form → Symbol → Option State
have_shift p fs x (t.Sign s) = cond (nat_lt (level s) 2) None (Some (want (o_left s x ∷ fs)))
have_shift p fs x t.Question = Some (want (o_question x ∷ fs))
have_shift p fs x (t.Divider r) = put_divider r fs x
have_shift p fs x t.Comma = put_comma fs x
have_shift p fs x t.RightParen = put_right_paren fs x
have_shift p fs x t.RightBrace = put_right_brace fs x
have_shift p fs x t.RightBracket = put_right_bracket fs x
have_shift p fs x t.LeftBrace = put_left_brace fs x
have_shift p fs x t.LeftBracket = cond (nat_lt (rank x) 14) None (Some (want (o_index x ∷ fs)))
have_shift p fs x t.Dot = cond (p && is_step x) (Some (dotted fs x)) None
have_shift p fs x (t.Based b) = put_based b fs x
have_shift p fs x _ = None

abbrev pub shift : Bool → State → Symbol → Option State
shift p (want fs) k = want_shift fs k
shift p (have fs x) k = have_shift p fs x k
shift p (casts fs b) t.LeftParen = Some (want (o_cast b ∷ fs))
shift p (casts fs b) _ = None
shift p (shut fs c x) t.RightBrace = Some (have fs (repeat c x))
shift p (shut fs c x) _ = None
shift p (dotted fs x) (t.Name n) = Some (have fs (dot x n))
shift p (dotted fs x) _ = None
shift p (alone x) k = None

pub data Outcome : Type 0 where
  done : Form → List Symbol → Outcome
  stop : List Symbol → Outcome

abbrev pub finish : State → List Symbol → Outcome
finish (have [] x) r = done x r
finish (alone x) r = done x r
finish _ r = stop r

abbrev pub step : Bool → State → Symbol → Option State
step p s k = shift p (settle (pull k) s) k

-- one token on: the next state, or the end
abbrev pub turn : Bool → State → Symbol → List Symbol → (State → Outcome) → Outcome
turn p m k ks next = elim (shift p m k) as (λ _. Outcome) [ Some m' ↦ next m' | None ↦ stop (k ∷ ks) ]

abbrev pub read : Bool → State → List Symbol → Outcome
read p s [] = finish (settle 1 s) []
read p s (k ∷ ks) = turn p (settle (pull k) s) k ks (λ s'. read p s' ks)

-- what has been read
abbrev pub before : Open → List Symbol
before (o_prefix s) = t.Sign s ∷ []
before (o_left s x) = text x ++ (t.Sign s ∷ [])
before (o_question c) = text c ++ (t.Question ∷ [])
before (o_colon c a) = text c ++ (t.Question ∷ (text a ++ (t.Divider d.Colon ∷ [])))
before o_paren = t.LeftParen ∷ []
before (o_cast b) = t.Cast b ∷ t.LeftParen ∷ []
before o_brace = t.LeftBrace ∷ []
before (o_braces x) = t.LeftBrace ∷ (text x ++ (t.Comma ∷ []))
before (o_repeat c) = t.LeftBrace ∷ (text c ++ (t.LeftBrace ∷ []))
before (o_repeats c x) = t.LeftBrace ∷ (text c ++ (t.LeftBrace ∷ (text x ++ (t.Comma ∷ []))))
before (o_index x) = text x ++ (t.LeftBracket ∷ [])
before (o_part r x i) = text x ++ (t.LeftBracket ∷ (text i ++ (t.Divider r ∷ [])))

abbrev pub texts : List Open → List Symbol
texts [] = []
texts (g ∷ fs) = texts fs ++ before g

abbrev pub told : State → List Symbol
told (want fs) = texts fs
told (have fs x) = texts fs ++ text x
told (casts fs b) = texts fs ++ (t.Cast b ∷ [])
told (shut fs c x) = texts fs ++ (t.LeftBrace ∷ (text c ++ (t.LeftBrace ∷ (text x ++ (t.RightBrace ∷ [])))))
told (dotted fs x) = texts fs ++ (text x ++ (t.Dot ∷ []))
told (alone x) = text x

-- something open that may stand where n is asked
abbrev pub Fits : Bool → Open → ℕ → Type 0
Fits p (o_prefix s) n = (n ≤ 12) × (leads s ≡ true)
Fits p (o_left s x) n = Valid p x × (level s ≤ rank x) × (n ≤ level s) × (2 ≤ level s)
Fits p (o_question c) n = Valid p c × (2 ≤ rank c) × (n ≤ 1)
Fits p (o_colon c a) n = Valid p c × (2 ≤ rank c) × Valid p a × (1 ≤ rank a) × (n ≤ 1)
Fits p (o_braces x) n = Valid p x
Fits p (o_repeat c) n = Valid p c × (1 ≤ rank c)
Fits p (o_repeats c x) n = Valid p c × (1 ≤ rank c) × Valid p x
Fits p (o_index x) n = Valid p x × (14 ≤ rank x)
Fits p (o_part r x i) n = Valid p x × (14 ≤ rank x) × Valid p i × (1 ≤ rank i)
Fits p _ n = Unit {0}

abbrev pub Nested : Bool → List Open → Type 0
Nested p [] = Unit {0}
Nested p (g ∷ fs) = Fits p g (asks fs) × Nested p fs

abbrev pub Sound : Bool → State → Type 0
Sound p (want fs) = Nested p fs
Sound p (have fs x) = Nested p fs × Valid p x × (asks fs ≤ rank x)
Sound p (casts fs b) = Nested p fs
Sound p (shut fs c x) = Nested p fs × Valid p c × (1 ≤ rank c) × Valid p x
Sound p (dotted fs x) = Nested p fs × Valid p x × (is_step x ≡ true) × (p ≡ true)
Sound p (alone x) = is_free x ≡ true

abbrev pub start : State
start = want []

-- all the tokens taken, and the state then
abbrev pub then_run : Option State → (State → Option State) → Option State
then_run None next = None
then_run (Some s) next = next s

abbrev pub run : Bool → State → List Symbol → Option State
run p s [] = Some s
run p s (k ∷ ks) = then_run (step p s k) (λ s'. run p s' ks)
