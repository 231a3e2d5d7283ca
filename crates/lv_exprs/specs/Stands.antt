-- What the code has where the machine has these forms.
use Rattle.std.specs.Prelude.{◌≡◌, ℕ, ◌+◌, max, List, [], ◌∷◌, ◌++◌, take, Option, Some, None, Bool}
use Rattle.lv_exprs.specs.declared.symbol.Symbol.{Symbol}
use Rattle.lv_exprs.specs.declared.operand.Content.{Content}
use Rattle.lv_exprs.specs.declared.operand.Content.TheVariants as c
use Rattle.lv_exprs.specs.declared.operand.Operand.{Operand}
use Rattle.lv_exprs.specs.declared.operand.Frame.{Frame}
use Rattle.lv_exprs.specs.declared.operand.Frame.TheVariants as fr
use Rattle.lv_exprs.specs.declared.operand.Standing.{Standing}
use Rattle.lv_exprs.specs.declared.operand.Standing.TheVariants as st
use Rattle.lv_exprs.specs.Levels.{weight}
use Rattle.lv_exprs.specs.Forms.{Form, plain, name, dot, bit, part}
use Rattle.lv_exprs.specs.Heights.{height}
use Rattle.lv_exprs.specs.Trees.{made, tree, trees, path, index_of, steps_behind, part_select}
use Rattle.lv_exprs.specs.Machine.{Open, o_prefix, o_left, o_question, o_colon, o_paren, o_cast, o_brace, o_braces, o_repeat, o_repeats, o_index, o_part, State, want, have, casts, shut, dotted, alone, run, start}
use Rattle.lv_exprs.specs.Steps.{operand, indexed}

-- how many nodes something open will be
abbrev pub open_weight : Open → ℕ
open_weight (o_prefix k) = weight k
open_weight o_paren = 0
open_weight _ = 1

abbrev pub depth : List Open → ℕ
depth [] = 0
depth (g ∷ s) = open_weight g + depth s

-- a frame's number is how far below the root its parts reach
abbrev pub show : List ℕ → ℕ → Open → Frame
show text n (o_prefix k) = fr.Prefix k
show text n (o_left k x) = fr.Left k (tree text x) (1 + n + height x)
show text n (o_question x) = fr.Question (tree text x) (1 + n + height x)
show text n (o_colon x y) = fr.Colon (tree text x) (tree text y) (1 + n + max (height x) (height y))
show text n o_paren = fr.Paren
show text n (o_cast b) = fr.Cast b
show text n o_brace = fr.Brace [] 0
show text n (o_braces x) = fr.Brace (trees text x) (1 + n + height x)
show text n (o_repeat x) = fr.Repeat (tree text x) [] (1 + n + height x)
show text n (o_repeats x y) = fr.Repeat (tree text x) (trees text y) (1 + n + max (height x) (height y))
show text n (o_index x) = fr.Index (path text x) (made text x).selects (n + height x)
show text n (o_part r x i) = fr.Part r (path text x) (made text x).selects (tree text i) (max (n + height x) (1 + n + height i))

abbrev pub shown : List ℕ → List Open → List Frame
shown text [] = []
shown text (g ∷ s) = show text (depth s) g ∷ shown text s

abbrev pub content : List ℕ → Form → Content
content text (plain n) = c.Number n
content text (name n) = c.Name (path text (name n)) []
content text (dot x n) = c.Name (path text (dot x n)) []
content text (bit x i) = indexed (path text x) (made text x).selects (content text i)
content text (part r x i j) = c.Name (path text x) ((made text x).selects ++ (part_select r (tree text i) (tree text j) ∷ []))
content text x = c.Tree (tree text x)

abbrev pub placed : List ℕ → List Open → Form → Operand
placed text s x = operand (content text x) (depth s + height x)

abbrev pub both : List Frame → Standing → List Frame × Standing
both fs x = (fs, x)

abbrev pub at : List Frame → Standing → Option (List Frame × Standing)
at fs x = Some (both fs x)

abbrev pub seen : List ℕ → State → Option (List Frame × Standing)
seen text (want s) = at (shown text s) st.Want
seen text (have s x) = at (shown text s) (st.Have (placed text s x))
seen text (casts s b) = at (shown text s) (st.Cast b)
seen text (shut s x y) = at (shown text s) (st.Shut (tree text x) (trees text y) (1 + depth s + max (height x) (height y)))
seen text (dotted s x) = at (shown text s) (st.Dotted (steps_behind (path text x) (index_of x)) (path text x).place)
seen text (alone x) = None

-- the machine has run over n tokens, and is seen like this
pub record Stands (text : List ℕ) (p : Bool) (ts : List Symbol) (n : ℕ) (fs : List Frame) (x : Standing) : Type 0 where
  pub state : State
  pub ran : run p start (take n ts) ≡ Some state
  pub looks : seen text state ≡ (at fs x)
