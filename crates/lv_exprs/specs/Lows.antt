-- How high an expression is at least that begins with what a state has read: the proofs' means.
use Rattle.std.specs.Prelude.{ℕ, ◌+◌, max, List, [], ◌∷◌, Bool, ◌&&◌, cond}
use Rattle.lv_exprs.specs.Levels.{weight}
use Rattle.lv_exprs.specs.Forms.{Form, plain, bit, is_path}
use Rattle.lv_exprs.specs.Heights.{height}
use Rattle.lv_exprs.specs.Machine.{Open, o_prefix, o_left, o_question, o_colon, o_paren, o_cast, o_brace, o_braces, o_repeat, o_repeats, o_index, o_part, State, want, have, casts, shut, dotted, alone}

-- how high something open is once it holds an operand of height h, at least
abbrev pub over : Open → ℕ → ℕ
over (o_prefix s) h = weight s + h
over (o_left s x) h = 1 + max (height x) h
over (o_question c) h = 1 + max (height c) h
over (o_colon c a) h = 1 + max (max (height c) (height a)) h
over o_paren h = h
over (o_cast b) h = 1 + h
over o_brace h = 1 + h
over (o_braces x) h = 1 + max (height x) h
over (o_repeat c) h = 1 + max (height c) h
over (o_repeats c x) h = 1 + max (height c) (max (height x) h)
over (o_index x) h = max (height x) (1 + h)
over (o_part r x i) h = max (height x) (1 + max (height i) h)

abbrev pub over_all : List Open → ℕ → ℕ
over_all [] h = h
over_all (g ∷ s) h = over_all s (over g h)

-- what it is if no dot comes
abbrev pub low : State → ℕ
low (want s) = over_all s 1
low (have s x) = over_all s (height x)
low (casts s b) = over_all s 2
low (shut s c x) = over_all s (1 + max (height c) (height x))
low (dotted s x) = over_all s 1
low (alone x) = 1

-- a name and one number in brackets, of which a dot makes a leaf
abbrev pub index_base : Bool → Form → ℕ
index_base p y = cond (p && is_path y) 1 (max (height y) 2)

-- where a number may be the one in brackets
abbrev pub number_base : Bool → List Open → ℕ
number_base p (o_index y ∷ s) = over_all s (index_base p y)
number_base p s = over_all s 1

abbrev pub bit_base : Bool → Form → Form → ℕ
bit_base p y (plain n) = index_base p y
bit_base p y i = max (height y) (1 + height i)

-- what it is whether a dot comes or not
abbrev pub base : Bool → State → ℕ
base p (want s) = number_base p s
base p (have s (plain n)) = number_base p s
base p (have s (bit y i)) = over_all s (bit_base p y i)
base p s = low s
