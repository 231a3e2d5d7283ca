-- Reading only ever raises what the tree's height is at least.
use Rattle.std.proofs.Common.{◌≡◌, ℕ, ◌+◌, ◌≤◌, List, [], ◌∷◌, ◌++◌, Option, Some, None, Bool, true, false, cond, nat_lt, refl, ap, sym, ◌∙◌, arith, IfSome, max, ◌&&◌}
use Rattle.lv_exprs.specs.declared.symbol.Based.{Based}
use Rattle.lv_exprs.specs.declared.symbol.Divider.{Divider}
use Rattle.lv_exprs.specs.declared.symbol.Divider.TheVariants as d
use Rattle.lv_exprs.specs.declared.symbol.Symbol.{Symbol}
use Rattle.lv_exprs.specs.declared.symbol.Symbol.TheVariants as t
use Rattle.lv_exprs.specs.Levels.{level, leads, weight}
use Rattle.lv_exprs.specs.Forms.{Form, plain, based, sized, name, dot, bit, prefix, binary, choice, text, rank, is_path, is_step, is_free, IsExpr}
use Rattle.lv_exprs.specs.Heights.{height}
use Rattle.lv_exprs.specs.Machine.{Open, o_prefix, o_left, o_question, o_colon, o_paren, o_cast, o_brace, o_braces, o_repeat, o_repeats, o_index, o_part, State, want, have, casts, shut, dotted, alone, reduce, settle, pull, put_alone, want_shift, put_comma, put_divider, put_right_paren, put_right_brace, put_right_bracket, put_left_brace, put_based, have_shift, shift, Outcome, done, stop, finish, step, read, start, run}
use Rattle.lv_exprs.specs.Lows.{over, over_all, low, index_base, number_base, bit_base, base}
use Rattle.lv_exprs.proofs.Unique.{found}
use Rattle.lv_exprs.proofs.Overs.{height_pos, all_up}
use Rattle.lv_exprs.proofs.Ends.{of_some, carried}

over_near : (g : Open) (a b : ℕ) → a ≤ b + 1 → over g a ≤ over g b + 1
over_near (o_prefix s) a b h = omega arith
over_near o_paren a b h = h
over_near _ a b h = omega arith

all_near : (s : List Open) (a b : ℕ) → a ≤ b + 1 → over_all s a ≤ over_all s b + 1
all_near [] a b h = h
all_near (g ∷ s) a b h = all_near s (over g a) (over g b) (over_near g a b h)

chosen_le : (b : Bool) (n : ℕ) → 1 ≤ n → cond b 1 n ≤ n
chosen_le true n h = h
chosen_le false n h = omega arith

index_le : (p : Bool) (y : Form) → index_base p y ≤ max (height y) 2
index_le p y = chosen_le (p && is_path y) (max (height y) 2) (omega arith)

path_le : (p : Bool) (x : Form) → height x ≤ index_base p x
path_le false x = omega arith
path_le true (name n) = omega arith
path_le true (dot x n) = omega arith
path_le true _ = omega arith

index_near : (p : Bool) (y : Form) → max (height y) 2 ≤ index_base p y + 1
index_near false y = omega arith
index_near true (name n) = omega arith
index_near true (dot x n) = omega arith
index_near true _ = omega arith

number_le : (p : Bool) (s : List Open) → number_base p s ≤ over_all s 1
number_le p [] = omega arith
number_le p (o_index y ∷ s) = all_up s (index_base p y) (max (height y) 2) (index_le p y)
number_le p (_ ∷ s) = omega arith

number_near : (p : Bool) (s : List Open) → over_all s 1 ≤ number_base p s + 1
number_near p [] = omega arith
number_near p (o_index y ∷ s) = all_near s (max (height y) 2) (index_base p y) (index_near p y)
number_near p (_ ∷ s) = omega arith

bit_le : (p : Bool) (y i : Form) → bit_base p y i ≤ max (height y) (1 + height i)
bit_le p y (plain n) = index_le p y
bit_le p y _ = omega arith

bit_near : (p : Bool) (y i : Form) → max (height y) (1 + height i) ≤ bit_base p y i + 1
bit_near p y (plain n) = index_near p y
bit_near p y _ = omega arith

pub base_low : (p : Bool) (s : State) → base p s ≤ low s
base_low p (want s) = number_le p s
base_low p (have s (plain n)) = number_le p s
base_low p (have s (bit y i)) = all_up s (bit_base p y i) (max (height y) (1 + height i)) (bit_le p y i)
base_low p (have s _) = omega arith
base_low p _ = omega arith

-- a dot takes one away at most
pub base_near : (p : Bool) (s : State) → low s ≤ base p s + 1
base_near p (want s) = number_near p s
base_near p (have s (plain n)) = number_near p s
base_near p (have s (bit y i)) = all_near s (max (height y) (1 + height i)) (bit_base p y i) (bit_near p y i)
base_near p (have s _) = omega arith
base_near p _ = omega arith

number_same : (s : List Open) → number_base false s ≡ over_all s 1
number_same [] = refl
number_same (o_index y ∷ s) = refl
number_same (_ ∷ s) = refl

bit_same : (y i : Form) → bit_base false y i ≡ max (height y) (1 + height i)
bit_same y (plain n) = refl
bit_same y _ = refl

-- without paths no dot comes
pub base_same : (s : State) → base false s ≡ low s
base_same (want s) = number_same s
base_same (have s (plain n)) = number_same s
base_same (have s (bit y i)) = ap (over_all s) (bit_same y i)
base_same (have s _) = refl
base_same _ = refl

held_base : (b : Bool) (p : Bool) (n : ℕ) (s s' : State) → n ≤ base p s → n ≤ base p s' → n ≤ base p (cond b s s')
held_base true p n s s' h h' = h
held_base false p n s s' h h' = h'

≤_then : (a b c : ℕ) → a ≤ b → b ≤ c → a ≤ c
≤_then a b c h k = omega arith

-- closing keeps it
reduce_base : (p : Bool) (q : ℕ) (s : List Open) (x : Form) → base p (have s x) ≤ base p (reduce q s x)
reduce_base p q [] x = omega arith
reduce_base p q (o_prefix o ∷ s) x =
    held_base (nat_lt 12 q) p _ _ _ (omega arith) (≤_then _ _ _ (base_low p (have (o_prefix o ∷ s) x)) (reduce_base p q s (prefix o x)))
reduce_base p q (o_left o y ∷ s) x =
    held_base (nat_lt (level o) q) p _ _ _ (omega arith) (≤_then _ _ _ (base_low p (have (o_left o y ∷ s) x)) (reduce_base p q s (binary o y x)))
reduce_base p q (o_colon c a ∷ s) x =
    held_base (nat_lt 1 q) p _ _ _ (omega arith) (≤_then _ _ _ (base_low p (have (o_colon c a ∷ s) x)) (reduce_base p q s (choice c a x)))
reduce_base p q (_ ∷ s) x = omega arith

settle_base : (p : Bool) (q : ℕ) (s : State) → base p s ≤ base p (settle q s)
settle_base p q (have s x) = reduce_base p q s x
settle_base p q (want s) = omega arith
settle_base p q _ = omega arith

-- what goes up from the state's low goes up from its base
from_low : (p : Bool) (s : State) (n : ℕ) → low s ≤ n → base p s ≤ n
from_low p s n h = omega (arith, base_low p s)

literal_up : (b p : Bool) (s : List Open) (x : Form) (n : ℕ) → n ≤ over_all s 1 → n ≤ base p (have s x) → IfSome (cond b (put_alone s x) (Some (have s x))) (λ s'. n ≤ base p s')
literal_up true p [] x n h k = h
literal_up true p (g ∷ s) x n h k = tt
literal_up false p s x n h k = k

led_up : (b p : Bool) (s : List Open) (o : _) (n : ℕ) → n ≤ over_all s 1 → IfSome (cond b (Some (want (o_prefix o ∷ s))) None) (λ s'. n ≤ base p s')
led_up true p s o n h = ≤_then _ _ _ h (all_up s 1 (weight o + 1) (omega arith))
led_up false p s o n h = tt

want_up : (p : Bool) (s : List Open) (k : Symbol) → IfSome (want_shift s k) (λ s'. base p (want s) ≤ base p s')
want_up p s (t.Name n) = number_le p s
want_up p s (t.Number n) = omega arith
want_up p s (t.Based b) = literal_up (is_free (based b)) p s (based b) _ (number_le p s) (number_le p s)
want_up p s (t.Cast b) = ≤_then _ _ _ (number_le p s) (all_up s 1 2 (omega arith))
want_up p s (t.Sign o) = led_up (leads o) p s o _ (number_le p s)
want_up p s t.LeftParen = number_le p s
want_up p s t.LeftBrace = ≤_then _ _ _ (number_le p s) (all_up s 1 (1 + 1) (omega arith))
want_up p s _ = tt

comma_up : (p : Bool) (s : List Open) (x : Form) → IfSome (put_comma s x) (λ s'. low (have s x) ≤ base p s')
comma_up p (o_brace ∷ s) x = all_up s (1 + height x) (1 + max (height x) 1) (omega arith)
comma_up p (o_braces y ∷ s) x = all_up s (1 + max (height y) (height x)) (1 + max (max (height y) (height x)) 1) (omega arith)
comma_up p (o_repeat c ∷ s) x = all_up s (1 + max (height c) (height x)) (1 + max (height c) (max (height x) 1)) (omega arith)
comma_up p (o_repeats c y ∷ s) x = all_up s (1 + max (height c) (max (height y) (height x))) (1 + max (height c) (max (max (height y) (height x)) 1)) (omega arith)
comma_up p [] x = tt
comma_up p (_ ∷ s) x = tt

divider_up : (p : Bool) (r : Divider) (s : List Open) (x : Form) → IfSome (put_divider r s x) (λ s'. low (have s x) ≤ base p s')
divider_up p r (o_index y ∷ s) x = all_up s (max (height y) (1 + height x)) (max (height y) (1 + max (height x) 1)) (omega arith)
divider_up p d.Colon (o_question c ∷ s) x = all_up s (1 + max (height c) (height x)) (1 + max (max (height c) (height x)) 1) (omega arith)
divider_up p _ [] x = tt
divider_up p _ (_ ∷ s) x = tt

right_paren_up : (p : Bool) (s : List Open) (x : Form) → IfSome (put_right_paren s x) (λ s'. low (have s x) ≤ base p s')
right_paren_up p (o_paren ∷ s) x = omega arith
right_paren_up p (o_cast b ∷ s) x = omega arith
right_paren_up p [] x = tt
right_paren_up p (_ ∷ s) x = tt

right_brace_up : (p : Bool) (s : List Open) (x : Form) → IfSome (put_right_brace s x) (λ s'. low (have s x) ≤ base p s')
right_brace_up p (o_brace ∷ s) x = omega arith
right_brace_up p (o_braces y ∷ s) x = omega arith
right_brace_up p (o_repeat c ∷ s) x = omega arith
right_brace_up p (o_repeats c y ∷ s) x = omega arith
right_brace_up p [] x = tt
right_brace_up p (_ ∷ s) x = tt

index_up : (p : Bool) (s : List Open) (y x : Form) → base p (have (o_index y ∷ s) x) ≤ over_all s (bit_base p y x)
index_up p s y (plain n) = omega arith
index_up p s y (bit z i) = base_low p (have (o_index y ∷ s) (bit z i))
index_up p s y _ = omega arith

right_bracket_up : (p : Bool) (s : List Open) (x : Form) → IfSome (put_right_bracket s x) (λ s'. base p (have s x) ≤ base p s')
right_bracket_up p (o_index y ∷ s) x = index_up p s y x
right_bracket_up p (o_part r y z ∷ s) x = base_low p (have (o_part r y z ∷ s) x)
right_bracket_up p [] x = tt
right_bracket_up p (_ ∷ s) x = tt

left_brace_up : (p : Bool) (s : List Open) (x : Form) → IfSome (put_left_brace s x) (λ s'. low (have s x) ≤ base p s')
left_brace_up p (o_brace ∷ s) x = all_up s (1 + height x) (1 + max (height x) 1) (omega arith)
left_brace_up p [] x = tt
left_brace_up p (_ ∷ s) x = tt

taken_up : (b p : Bool) (s : List Open) (x : Form) (o : _) → IfSome (cond b None (Some (want (o_left o x ∷ s)))) (λ s'. low (have s x) ≤ base p s')
taken_up true p s x o = tt
taken_up false p s x o = all_up s (height x) (1 + max (height x) 1) (omega arith)

bracket_up : (b p : Bool) (s : List Open) (x : Form) → IfSome (cond b None (Some (want (o_index x ∷ s)))) (λ s'. low (have s x) ≤ base p s')
bracket_up true p s x = tt
bracket_up false p s x = all_up s (height x) (index_base p x) (path_le p x)

step_base : (s : List Open) (x : Form) → is_step x ≡ true → base true (have s x) ≤ over_all s 1
step_base s (name n) e = omega arith
step_base s (dot x n) e = omega arith
step_base s (bit y (plain n)) e = rw (path_of (is_path y) e) (omega arith)
  where
    path_of : (b : Bool) → (b && true) ≡ true → b ≡ true
    path_of true e = refl
    path_of false e = e
step_base s (bit y _) e = absurd (let q : (is_path y && false) ≡ true = e in none (is_path y) q)
  where
    none : (b : Bool) → (b && false) ≡ true → ⊥
    none true e = cc
    none false e = cc
step_base s _ e = absurd (let q : false ≡ true = e in cc)

dot_up : (p b : Bool) (s : List Open) (x : Form) → is_step x ≡ b → IfSome (cond (p && b) (Some (dotted s x)) None) (λ s'. base p (have s x) ≤ base p s')
dot_up true true s x e = step_base s x e
dot_up true false s x e = tt
dot_up false b s x e = tt

based_up : (p : Bool) (b : Based) (s : List Open) (x : Form) → IfSome (put_based b s x) (λ s'. base p (have s x) ≤ base p s')
based_up p b s (plain n) = literal_up (is_free (sized n b)) p s (sized n b) _ (number_le p s) (number_le p s)
based_up p b s _ = tt

lift : (p : Bool) (s : List Open) (x : Form) (o : Option State) → IfSome o (λ s'. low (have s x) ≤ base p s') → IfSome o (λ s'. base p (have s x) ≤ base p s')
lift p s x None h = tt
lift p s x (Some m) h = ≤_then _ _ _ (base_low p (have s x)) h

have_up : (p : Bool) (s : List Open) (x : Form) (k : Symbol) → IfSome (have_shift p s x k) (λ s'. base p (have s x) ≤ base p s')
have_up p s x (t.Sign o) = lift p s x _ (taken_up (nat_lt (level o) 2) p s x o)
have_up p s x t.Question = ≤_then _ _ _ (base_low p (have s x)) (all_up s (height x) (1 + max (height x) 1) (omega arith))
have_up p s x (t.Divider r) = lift p s x _ (divider_up p r s x)
have_up p s x t.Comma = lift p s x _ (comma_up p s x)
have_up p s x t.RightParen = lift p s x _ (right_paren_up p s x)
have_up p s x t.RightBrace = lift p s x _ (right_brace_up p s x)
have_up p s x t.RightBracket = right_bracket_up p s x
have_up p s x t.LeftBrace = lift p s x _ (left_brace_up p s x)
have_up p s x t.LeftBracket = lift p s x _ (bracket_up (nat_lt (rank x) 14) p s x)
have_up p s x t.Dot = dot_up p (is_step x) s x refl
have_up p s x (t.Based b) = based_up p b s x
have_up p s x _ = tt

shift_up : (p : Bool) (m : State) (k : Symbol) → IfSome (shift p m k) (λ s'. base p m ≤ base p s')
shift_up p (want s) k = want_up p s k
shift_up p (have s x) k = have_up p s x k
shift_up p (casts s b) t.LeftParen = all_up s 2 (1 + 1) (omega arith)
shift_up p (casts s b) _ = tt
shift_up p (shut s c x) t.RightBrace = omega arith
shift_up p (shut s c x) _ = tt
shift_up p (dotted s x) (t.Name n) = omega arith
shift_up p (dotted s x) _ = tt
shift_up p (alone x) k = tt

raised : (p : Bool) (n : ℕ) (m : State) (o : Option State) → n ≤ base p m → IfSome o (λ s'. base p m ≤ base p s') → IfSome o (λ s'. n ≤ base p s')
raised p n m None h k = tt
raised p n m (Some s') h k = ≤_then _ _ _ h k

pub step_up : (p : Bool) (s : State) (k : Symbol) → IfSome (step p s k) (λ s'. base p s ≤ base p s')
step_up p s k = raised p (base p s) (settle (pull k) s) (step p s k) (settle_base p (pull k) s) (shift_up p (settle (pull k) s) k)

finish_base : (p : Bool) (m : State) (r r' : List Symbol) (x : Form) → finish m r ≡ done x r' → base p m ≤ height x
finish_base p (want s) r r' x e = cc
finish_base p (casts s b) r r' x e = cc
finish_base p (shut s c y) r r' x e = cc
finish_base p (dotted s y) r r' x e = cc
finish_base p (alone y) r r' x e = height_pos x
finish_base p (have [] y) r r' x e = let q : y ≡ x = cc in ≤_then _ _ _ (base_low p (have [] y)) (rw q (omega arith))
finish_base p (have (g ∷ s) y) r r' x e = cc

read_base : (p : Bool) (ts : List Symbol) (s : State) (x : Form) (r : List Symbol) → read p s ts ≡ done x r → base p s ≤ height x
read_base p [] s x r e = ≤_then _ _ _ (settle_base p 1 s) (finish_base p (settle 1 s) [] r x e)
read_base p (k ∷ ks) s x r e =
    (elim (step p s k) as (λ o. IfSome o (λ s'. base p s ≤ base p s') → (elim o as (λ _. Outcome) [ Some m' ↦ read p m' ks | None ↦ stop (k ∷ ks) ]) ≡ done x r → base p s ≤ height x) [
      | None ↦ (λ u h. absurd (stopped (k ∷ ks) x r h))
      | Some s' ↦ (λ u h. ≤_then _ _ _ u (read_base p ks s' x r h))
    ]) (step_up p s k) e
  where
    stopped : (v : List Symbol) (x : Form) (r : List Symbol) → stop v ≡ done x r → ⊥
    stopped v x r e = cc

-- An expression that begins so is as high as the state says.
pub as_high : (p : Bool) (ts more : List Symbol) (s : State) (x : Form) → run p start ts ≡ Some s → IsExpr p x → text x ≡ ts ++ more → base p s ≤ height x
as_high p ts more s x e v w =
    let c : read p start (ts ++ more) ≡ read p s more = of_some (λ z. read p start (ts ++ more) ≡ read p z more) (run p start ts) s e (carried p ts more start) in
    read_base p more s x [] (sym c ∙ ap (read p start) (sym w) ∙ found p x v)
