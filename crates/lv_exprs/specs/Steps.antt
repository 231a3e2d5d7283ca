-- The machine as the code runs it: on trees, with numbers that say how far below the root they reach.
use Rattle.std.specs.Prelude.{ℕ, List, [], ◌∷◌, ◌++◌, Option, Some, None, Bool, true, false, cond, nat_lt, ◌+◌, ◌≤◌, max}
use Rattle.lv_ast.specs.declared.expr.Literal.{Literal}
use Rattle.lv_ast.specs.declared.expr.Path.{Path}
use Rattle.lv_ast.specs.declared.expr.PathStep.{PathStep}
use Rattle.lv_ast.specs.declared.expr.Select.{Select}
use Rattle.lv_ast.specs.declared.expr.Select.TheVariants as s
use Rattle.lv_ast.specs.declared.expr.Expr.{Expr}
use Rattle.lv_ast.specs.declared.expr.Expr.TheVariants as e
use Rattle.lv_exprs.specs.declared.symbol.Divider.{Divider}
use Rattle.lv_exprs.specs.declared.symbol.Divider.TheVariants as d
use Rattle.lv_exprs.specs.declared.symbol.Based.{Based}
use Rattle.lv_exprs.specs.declared.symbol.Symbol.{Symbol}
use Rattle.lv_exprs.specs.declared.symbol.Symbol.TheVariants as t
use Rattle.lv_exprs.specs.declared.operand.Content.{Content}
use Rattle.lv_exprs.specs.declared.operand.Content.TheVariants as c
use Rattle.lv_exprs.specs.declared.operand.Operand.{Operand}
use Rattle.lv_exprs.specs.declared.operand.Frame.{Frame}
use Rattle.lv_exprs.specs.declared.operand.Frame.TheVariants as fr
use Rattle.lv_exprs.specs.declared.operand.Standing.{Standing}
use Rattle.lv_exprs.specs.declared.operand.Standing.TheVariants as st
use Rattle.lv_exprs.specs.declared.operand.Step.{Step}
use Rattle.lv_exprs.specs.declared.operand.Step.TheVariants as sp
use Rattle.lv_exprs.specs.Levels.{level, leads, weight}
use Rattle.lv_exprs.specs.Trees.{plain_literal, based_literal, sized_literal, simple_path, bytes_of, steps_behind, unary, infix_tree, part_select}

-- ---- operands

abbrev pub tree_of : Content → Expr
tree_of (c.Number n) = e.Lit (plain_literal n)
tree_of (c.Name path ss) = e.Name path ss
tree_of (c.Element path n) = e.Name path (s.Bit (e.Lit (plain_literal n)) ∷ [])
tree_of (c.Tree x) = x

abbrev pub operand : Content → ℕ → Operand
operand content reach = record { content = content; reach = reach }

abbrev pub whole_operand : Expr → ℕ → Operand
whole_operand x reach = operand (c.Tree x) reach

-- ---- frames

-- how many nodes a frame will be
abbrev pub frame_weight : Frame → ℕ
frame_weight (fr.Prefix k) = weight k
frame_weight fr.Paren = 0
frame_weight _ = 1

abbrev pub nodes : List Frame → ℕ
nodes [] = 0
nodes (g ∷ fs) = frame_weight g + nodes fs

abbrev pub mark : Frame → ℕ
mark (fr.Left k x n) = n
mark (fr.Question x n) = n
mark (fr.Colon x y n) = n
mark (fr.Brace xs n) = n
mark (fr.Repeat x xs n) = n
mark (fr.Index path ss n) = n
mark (fr.Part r path ss x n) = n
mark _ = 0

-- how far below the root what is open reaches
abbrev pub marks : List Frame → ℕ
marks [] = 0
marks (g ∷ fs) = max (marks fs) (mark g)

abbrev pub top_mark : List Frame → ℕ
top_mark [] = 0
top_mark (g ∷ fs) = mark g

-- the same below the top
abbrev pub below : List Frame → ℕ
below [] = 0
below (g ∷ fs) = marks fs

abbrev pub stops : ℕ → Frame → Bool
stops q (fr.Prefix k) = nat_lt 12 q
stops q (fr.Left k x n) = nat_lt (level k) q
stops q (fr.Colon x y n) = nat_lt 1 q
stops q _ = true

abbrev pub close : Frame → Operand → Operand
close (fr.Prefix k) x = whole_operand (unary k (tree_of x.content)) x.reach
close (fr.Left k y n) x = whole_operand (infix_tree k y (tree_of x.content)) (max n x.reach)
close (fr.Colon y z n) x = whole_operand (e.Cond y z (tree_of x.content)) (max n x.reach)
close _ x = x

abbrev pub lower : ℕ → List Frame → Operand → List Frame × Operand
lower q [] x = ([], x)
lower q (g ∷ fs) x = cond (stops q g) (g ∷ fs, x) (lower q fs (close g x))

-- ---- steps

pub data Next : Type 0 where
  on : List Frame → Standing → Next
  whole : Literal → Next
  ended : Operand → Next
  bad : Next

abbrev pub is_none : {A : Type 0} → List A → Bool
is_none [] = true
is_none (x ∷ xs) = false

-- one select by a number without a base may be a step
abbrev pub indexed : Path → List Select → Content → Content
indexed path ss (c.Number n) = cond (is_none ss) (c.Element path n) (c.Name path (ss ++ (s.Bit (e.Lit (plain_literal n)) ∷ [])))
indexed path ss x = c.Name path (ss ++ (s.Bit (tree_of x) ∷ []))

-- a token that closes what it can, and is then taken or not
abbrev pub close_question : Symbol → List Frame → Expr → ℕ → Operand → Next
close_question (t.Divider d.Colon) fs y n x = on (fr.Colon y (tree_of x.content) (max n x.reach) ∷ fs) st.Want
close_question _ fs y n x = bad

abbrev pub close_paren : Symbol → List Frame → Operand → Next
close_paren t.RightParen fs x = on fs (st.Have (whole_operand (tree_of x.content) x.reach))
close_paren _ fs x = bad

abbrev pub close_cast : Symbol → List Frame → Bool → Operand → Next
close_cast t.RightParen fs signed x = on fs (st.Have (whole_operand (e.Cast signed (tree_of x.content)) x.reach))
close_cast _ fs signed x = bad

abbrev pub close_brace : Symbol → List Frame → List Expr → ℕ → Operand → Next
close_brace t.Comma fs xs n x = on (fr.Brace (xs ++ (tree_of x.content ∷ [])) (max n x.reach) ∷ fs) st.Want
close_brace t.RightBrace fs xs n x = on fs (st.Have (whole_operand (e.Cat (xs ++ (tree_of x.content ∷ []))) (max n x.reach)))
close_brace t.LeftBrace fs xs n x = cond (is_none xs) (on (fr.Repeat (tree_of x.content) [] x.reach ∷ fs) st.Want) bad
close_brace _ fs xs n x = bad

abbrev pub close_repeat : Symbol → List Frame → Expr → List Expr → ℕ → Operand → Next
close_repeat t.Comma fs y xs n x = on (fr.Repeat y (xs ++ (tree_of x.content ∷ [])) (max n x.reach) ∷ fs) st.Want
close_repeat t.RightBrace fs y xs n x = on fs (st.Shut y (xs ++ (tree_of x.content ∷ [])) (max n x.reach))
close_repeat _ fs y xs n x = bad

abbrev pub close_index : Symbol → List Frame → Path → List Select → ℕ → Operand → Next
close_index t.RightBracket fs path ss n x = on fs (st.Have (operand (indexed path ss x.content) (max n x.reach)))
close_index (t.Divider r) fs path ss n x = on (fr.Part r path ss (tree_of x.content) (max n x.reach) ∷ fs) st.Want
close_index _ fs path ss n x = bad

abbrev pub close_part : Symbol → List Frame → Divider → Path → List Select → Expr → ℕ → Operand → Next
close_part t.RightBracket fs r path ss y n x = on fs (st.Have (operand (c.Name path (ss ++ (part_select r y (tree_of x.content) ∷ []))) (max n x.reach)))
close_part _ fs r path ss y n x = bad

abbrev pub closed_by : Symbol → List Frame → Frame → Operand → Next
closed_by k fs (fr.Question y n) x = close_question k fs y n x
closed_by k fs fr.Paren x = close_paren k fs x
closed_by k fs (fr.Cast signed) x = close_cast k fs signed x
closed_by k fs (fr.Brace xs n) x = close_brace k fs xs n x
closed_by k fs (fr.Repeat y xs n) x = close_repeat k fs y xs n x
closed_by k fs (fr.Index path ss n) x = close_index k fs path ss n x
closed_by k fs (fr.Part r path ss y n) x = close_part k fs r path ss y n x
closed_by k fs _ x = bad

abbrev pub closing : Symbol → List Frame → Operand → Next
closing k [] x = ended x
closing k (g ∷ fs) x = closed_by k fs g x

-- the token closes all that it can, and is then taken or not
abbrev pub closes : Symbol → List Frame → Operand → Next
closes k fs x = let l = lower 1 fs x in closing k l.0 l.1

abbrev pub left_of : Symbol → List Frame → Operand → Next
left_of (t.Sign k) fs x = let l = lower (level k) fs x in on (fr.Left k (tree_of l.1.content) (l.1.reach + 1) ∷ l.0) st.Want
left_of _ fs x = bad

abbrev pub question_of : List Frame → Operand → Next
question_of fs x = let l = lower 2 fs x in on (fr.Question (tree_of l.1.content) (l.1.reach + 1) ∷ l.0) st.Want

-- a literal with free bits stands alone
abbrev pub alone_or : List Frame → Literal → Next → Next
alone_or fs l otherwise = cond (is_none fs) (whole l) otherwise

abbrev pub literal_or : List Frame → Literal → ℕ → Next → Next
literal_or fs l reach otherwise = cond (nat_lt 0 l.wild) (alone_or fs l otherwise) (on fs (st.Have (whole_operand (e.Lit l) reach)))

abbrev pub based_on : Based → List Frame → Operand → Content → Next
based_on b fs x (c.Number n) = literal_or fs (sized_literal n b) x.reach (closes (t.Based b) fs x)
based_on b fs x _ = closes (t.Based b) fs x

abbrev pub indexes : List Frame → Operand → Content → Next
indexes fs x (c.Name path ss) = on (fr.Index path ss x.reach ∷ fs) st.Want
indexes fs x (c.Element path n) = on (fr.Index path (s.Bit (e.Lit (plain_literal n)) ∷ []) x.reach ∷ fs) st.Want
indexes fs x _ = closes t.LeftBracket fs x

-- a dot behind a step of a path
abbrev pub dotted_on : List Frame → Path → Option ℕ → Next
dotted_on fs path index = on fs (st.Dotted (steps_behind path index) path.place)

abbrev pub dots : Bool → List Frame → Operand → Content → Next
dots true fs x (c.Name path ss) = cond (is_none ss) (dotted_on fs path None) (closes t.Dot fs x)
dots true fs x (c.Element path n) = dotted_on fs path (Some n.value)
dots p fs x _ = closes t.Dot fs x

abbrev pub after : Bool → Symbol → List Frame → Operand → Next
after p (t.Sign k) fs x = cond (nat_lt (level k) 2) (closes (t.Sign k) fs x) (left_of (t.Sign k) fs x)
after p t.Question fs x = question_of fs x
after p t.LeftBracket fs x = indexes fs x x.content
after p t.Dot fs x = dots p fs x x.content
after p (t.Based b) fs x = based_on b fs x x.content
after p k fs x = closes k fs x

abbrev pub before : List ℕ → Symbol → List Frame → Next
before text (t.Name n) fs = on fs (st.Have (operand (c.Name (simple_path text n) []) (nodes fs + 1)))
before text (t.Number n) fs = on fs (st.Have (operand (c.Number n) (nodes fs + 1)))
before text (t.Based b) fs = literal_or fs (based_literal b) (nodes fs + 1) bad
before text (t.Cast signed) fs = on fs (st.Cast signed)
before text (t.Sign k) fs = cond (leads k) (on (fr.Prefix k ∷ fs) st.Want) bad
before text t.LeftParen fs = on (fr.Paren ∷ fs) st.Want
before text t.LeftBrace fs = on (fr.Brace [] 0 ∷ fs) st.Want
before text _ fs = bad

abbrev pub casts : Symbol → List Frame → Bool → Next
casts t.LeftParen fs signed = on (fr.Cast signed ∷ fs) st.Want
casts _ fs signed = bad

abbrev pub shuts : Symbol → List Frame → Expr → List Expr → ℕ → Next
shuts t.RightBrace fs y xs n = on fs (st.Have (whole_operand (e.Rep y xs) n))
shuts _ fs y xs n = bad

abbrev pub named : List ℕ → List PathStep → ℕ → Symbol → List Frame → Next
named text steps place (t.Name n) fs =
    on fs (st.Have (operand (c.Name (record { steps = steps; name = bytes_of text n; place = place }) []) (nodes fs + 1)))
named text steps place _ fs = bad

abbrev pub next : List ℕ → Bool → Symbol → List Frame → Standing → Next
next text p k fs st.Want = before text k fs
next text p k fs (st.Have x) = after p k fs x
next text p k fs (st.Cast signed) = casts k fs signed
next text p k fs (st.Shut y xs n) = shuts k fs y xs n
next text p k fs (st.Dotted steps place) = named text steps place k fs

abbrev pub alone : List Frame × Operand → Option Operand
alone ([], x) = Some x
alone (g ∷ fs, x) = None

-- what is read at the end of the tokens
abbrev pub ending : List Frame → Standing → Option Operand
ending fs (st.Have x) = alone (lower 1 fs x)
ending fs _ = None

-- what a step of the code says, over the stack that it left
abbrev pub seen_step : Step → List Frame → Next
seen_step (sp.Next standing) fs = on fs standing
seen_step (sp.Whole l) fs = whole l
seen_step (sp.Done x) fs = ended x
seen_step sp.Bad fs = bad

-- ---- limits

-- the least height of an expression that begins so, if no dot comes
abbrev pub reached : List Frame → Standing → ℕ
reached fs (st.Have x) = max (marks fs) x.reach
reached fs (st.Shut y xs n) = max (marks fs) n
reached fs (st.Cast signed) = max (marks fs) (nodes fs + 2)
reached fs _ = max (marks fs) (nodes fs + 1)

-- what a step may leave: the top alone is still to be looked at
abbrev pub Raised : ℕ → ℕ → List Frame → Standing → Type 0
Raised n m fs (st.Have x) = (marks fs ≤ n) × (nodes fs ≤ m)
Raised n m fs (st.Shut y xs k) = (marks fs ≤ n) × (nodes fs ≤ m)
Raised n m fs _ = (below fs ≤ n) × (nodes fs ≤ m + 2)
