-- One step raises only the top's number, the operand's, or the count of nodes.
use Rattle.std.proofs.Common.{◌≡◌, ℕ, ◌+◌, ◌≤◌, List, [], ◌∷◌, Some, None, Bool, true, false, cond, nat_lt, refl, subst, arith, max}
use Rattle.lv_ast.specs.declared.expr.Literal.{Literal}
use Rattle.lv_ast.specs.declared.expr.Path.{Path}
use Rattle.lv_ast.specs.declared.expr.Select.{Select}
use Rattle.lv_ast.specs.declared.expr.Expr.{Expr}
use Rattle.lv_exprs.specs.declared.symbol.Sign.{Sign}
use Rattle.lv_exprs.specs.declared.symbol.Sign.TheVariants as g
use Rattle.lv_exprs.specs.declared.symbol.Based.{Based}
use Rattle.lv_exprs.specs.declared.symbol.Divider.TheVariants as d
use Rattle.lv_exprs.specs.declared.symbol.Symbol.{Symbol}
use Rattle.lv_exprs.specs.declared.symbol.Symbol.TheVariants as t
use Rattle.lv_exprs.specs.declared.operand.Content.{Content}
use Rattle.lv_exprs.specs.declared.operand.Content.TheVariants as c
use Rattle.lv_exprs.specs.declared.operand.Operand.{Operand}
use Rattle.lv_exprs.specs.declared.operand.Frame.{Frame}
use Rattle.lv_exprs.specs.declared.operand.Frame.TheVariants as fr
use Rattle.lv_exprs.specs.declared.operand.Standing.{Standing}
use Rattle.lv_exprs.specs.declared.operand.Standing.TheVariants as st
use Rattle.lv_exprs.specs.Levels.{level, leads, weight}
use Rattle.lv_exprs.specs.Trees.{based_literal, sized_literal}
use Rattle.lv_exprs.specs.Steps as z
use Rattle.lv_exprs.specs.Steps.{nodes, marks, mark, top_mark, below, frame_weight, reached, lower, stops, close, Raised, Next, on, whole, ended, bad, next}

picked : {limit n : ℕ} (b : Bool) (s : List Frame) (x : Operand) (l : List Frame × Operand) → marks s ≤ limit → x.reach ≤ limit → n ≤ nodes s →
    (marks l.0 ≤ limit) × (l.1.reach ≤ limit) × (nodes l.0 ≤ n) →
    (marks (cond b (s, x) l).0 ≤ limit) × ((cond b (s, x) l).1.reach ≤ limit) × (nodes (cond b (s, x) l).0 ≤ nodes s)
picked true s x l a b e h = (a, b, omega arith)
picked false s x l a b e h = (h.0, h.1, (let c : nodes l.0 ≤ _ = h.2 in omega arith))

close_reach : (limit : ℕ) (g : Frame) (x : Operand) → mark g ≤ limit → x.reach ≤ limit → (close g x).reach ≤ limit
close_reach limit (fr.Prefix k) x a b = b
close_reach limit (fr.Left k y n) x a b = omega arith
close_reach limit (fr.Colon y z n) x a b = omega arith
close_reach limit _ x a b = b

-- closing keeps within the limit
pub lower_within : (limit q : ℕ) (s : List Frame) (x : Operand) → marks s ≤ limit → x.reach ≤ limit →
    (marks (lower q s x).0 ≤ limit) × ((lower q s x).1.reach ≤ limit) × (nodes (lower q s x).0 ≤ nodes s)
lower_within limit q [] x a b = (a, b, omega arith)
lower_within limit q (g ∷ s) x a b =
    picked (stops q g) (g ∷ s) x (lower q s (close g x)) a b (omega arith)
    (lower_within limit q s (close g x) (omega arith) (close_reach limit g x (omega arith) b))

pub lower_reach : (n q : ℕ) (s s' : List Frame) (x y : Operand) → reached s (st.Have x) ≤ n → lower q s x ≡ (s', y) → (reached s' (st.Have y) ≤ n) × (nodes s' ≤ nodes s)
lower_reach n q s s' x y r e =
    let w : (marks (lower q s x).0 ≤ n) × ((lower q s x).1.reach ≤ n) × (nodes (lower q s x).0 ≤ nodes s) = lower_within n q s x (omega arith) (omega arith) in
    subst (λ (v : List Frame × Operand). (reached v.0 (st.Have v.1) ≤ n) × (nodes v.0 ≤ nodes s)) e ((let a = w.0 in let b = w.1 in omega arith), w.2)

-- ---- a step

abbrev pub RaisedNext : ℕ → ℕ → Next → Type 0
RaisedNext n m (on fs x) = Raised n m fs x
RaisedNext n m (ended x) = x.reach ≤ n
RaisedNext n m _ = Unit {0}

pub marks_top : (s : List Frame) → marks s ≡ max (below s) (top_mark s)
marks_top [] = refl
marks_top (g ∷ s) = refl

below_le : (s : List Frame) → below s ≤ marks s
below_le [] = omega arith
below_le (g ∷ s) = omega arith

weight_le : (k : Sign) → weight k ≤ 2
weight_le g.Plus = omega arith
weight_le g.TildeAmp = omega arith
weight_le g.TildeBar = omega arith
weight_le g.TildeCaret = omega arith
weight_le g.CaretTilde = omega arith
weight_le _ = omega arith

question_raised : (n m : ℕ) (k : Symbol) (s : List Frame) (y : Expr) (j : ℕ) (x : Operand) → marks s ≤ n → x.reach ≤ n → 1 + nodes s ≤ m → RaisedNext n m (z.close_question k s y j x)
question_raised n m (t.Divider d.Colon) s y j x a b e = (a, omega arith)
question_raised n m (t.Divider _) s y j x a b e = tt
question_raised n m _ s y j x a b e = tt

paren_raised : (n m : ℕ) (k : Symbol) (s : List Frame) (x : Operand) → marks s ≤ n → x.reach ≤ n → nodes s ≤ m → RaisedNext n m (z.close_paren k s x)
paren_raised n m t.RightParen s x a b e = (a, e)
paren_raised n m _ s x a b e = tt

cast_raised : (n m : ℕ) (k : Symbol) (s : List Frame) (c : Bool) (x : Operand) → marks s ≤ n → x.reach ≤ n → 1 + nodes s ≤ m → RaisedNext n m (z.close_cast k s c x)
cast_raised n m t.RightParen s c x a b e = (a, omega arith)
cast_raised n m _ s c x a b e = tt

repeat_begun : (n m : ℕ) (c : Bool) (s : List Frame) (y : Expr) (r : ℕ) → marks s ≤ n → 1 + nodes s ≤ m → RaisedNext n m (cond c (on (fr.Repeat y [] r ∷ s) st.Want) bad)
repeat_begun n m true s y r a e = (a, omega arith)
repeat_begun n m false s y r a e = tt

brace_raised : (n m : ℕ) (k : Symbol) (s : List Frame) (xs : List Expr) (j : ℕ) (x : Operand) → marks s ≤ n → x.reach ≤ n → 1 + nodes s ≤ m → RaisedNext n m (z.close_brace k s xs j x)
brace_raised n m t.Comma s xs j x a b e = (a, omega arith)
brace_raised n m t.RightBrace s xs j x a b e = (a, omega arith)
brace_raised n m t.LeftBrace s xs j x a b e = repeat_begun n m (z.is_none xs) s (z.tree_of x.content) x.reach a e
brace_raised n m _ s xs j x a b e = tt

repeat_raised : (n m : ℕ) (k : Symbol) (s : List Frame) (y : Expr) (xs : List Expr) (j : ℕ) (x : Operand) → marks s ≤ n → x.reach ≤ n → 1 + nodes s ≤ m → RaisedNext n m (z.close_repeat k s y xs j x)
repeat_raised n m t.Comma s y xs j x a b e = (a, omega arith)
repeat_raised n m t.RightBrace s y xs j x a b e = (a, omega arith)
repeat_raised n m _ s y xs j x a b e = tt

index_raised : (n m : ℕ) (k : Symbol) (s : List Frame) (y : Path) (ss : List Select) (j : ℕ) (x : Operand) → marks s ≤ n → x.reach ≤ n → 1 + nodes s ≤ m → RaisedNext n m (z.close_index k s y ss j x)
index_raised n m t.RightBracket s y ss j x a b e = (a, omega arith)
index_raised n m (t.Divider r) s y ss j x a b e = (a, omega arith)
index_raised n m _ s y ss j x a b e = tt

part_raised : (n m : ℕ) (k : Symbol) (s : List Frame) (r : _) (y : Path) (ss : List Select) (v : Expr) (j : ℕ) (x : Operand) → marks s ≤ n → x.reach ≤ n → 1 + nodes s ≤ m → RaisedNext n m (z.close_part k s r y ss v j x)
part_raised n m t.RightBracket s r y ss v j x a b e = (a, omega arith)
part_raised n m _ s r y ss v j x a b e = tt

closing_raised : (n m : ℕ) (k : Symbol) (s : List Frame) (x : Operand) → marks s ≤ n → x.reach ≤ n → nodes s ≤ m → RaisedNext n m (z.closing k s x)
closing_raised n m k [] x a b e = b
closing_raised n m k (fr.Question y j ∷ s) x a b e = question_raised n m k s y j x (omega arith) b e
closing_raised n m k (fr.Paren ∷ s) x a b e = paren_raised n m k s x (omega arith) b (omega arith)
closing_raised n m k (fr.Cast c ∷ s) x a b e = cast_raised n m k s c x (omega arith) b e
closing_raised n m k (fr.Brace xs j ∷ s) x a b e = brace_raised n m k s xs j x (omega arith) b e
closing_raised n m k (fr.Repeat y xs j ∷ s) x a b e = repeat_raised n m k s y xs j x (omega arith) b e
closing_raised n m k (fr.Index y ss j ∷ s) x a b e = index_raised n m k s y ss j x (omega arith) b e
closing_raised n m k (fr.Part r y ss v j ∷ s) x a b e = part_raised n m k s r y ss v j x (omega arith) b e
closing_raised n m k (fr.Prefix j ∷ s) x a b e = tt
closing_raised n m k (fr.Left j y i ∷ s) x a b e = tt
closing_raised n m k (fr.Colon y v i ∷ s) x a b e = tt

closes_raised : (n m : ℕ) (k : Symbol) (s : List Frame) (x : Operand) → marks s ≤ n → x.reach ≤ n → nodes s ≤ m → RaisedNext n m (z.closes k s x)
closes_raised n m k s x a b e =
    let w : (marks (lower 1 s x).0 ≤ n) × ((lower 1 s x).1.reach ≤ n) × (nodes (lower 1 s x).0 ≤ nodes s) = lower_within n 1 s x a b in
    closing_raised n m k (lower 1 s x).0 (lower 1 s x).1 w.0 w.1 (let c = w.2 in omega arith)

picked_raised : (n m : ℕ) (c : Bool) (w v : Next) → RaisedNext n m w → RaisedNext n m v → RaisedNext n m (cond c w v)
picked_raised n m true w v a b = a
picked_raised n m false w v a b = b

left_raised : (n m q : ℕ) (k : Sign) (s : List Frame) (x : Operand) → marks s ≤ n → x.reach ≤ n → nodes s ≤ m →
    RaisedNext n m (let l = lower q s x in on (fr.Left k (z.tree_of l.1.content) (l.1.reach + 1) ∷ l.0) st.Want)
left_raised n m q k s x a b e =
    let w : (marks (lower q s x).0 ≤ n) × ((lower q s x).1.reach ≤ n) × (nodes (lower q s x).0 ≤ nodes s) = lower_within n q s x a b in (w.0, (let c = w.2 in omega arith))

asked_raised : (n m : ℕ) (s : List Frame) (x : Operand) → marks s ≤ n → x.reach ≤ n → nodes s ≤ m → RaisedNext n m (z.question_of s x)
asked_raised n m s x a b e =
    let w : (marks (lower 2 s x).0 ≤ n) × ((lower 2 s x).1.reach ≤ n) × (nodes (lower 2 s x).0 ≤ nodes s) = lower_within n 2 s x a b in (w.0, (let c = w.2 in omega arith))

bracket_raised : (n m : ℕ) (s : List Frame) (x : Operand) (w : Content) → marks s ≤ n → x.reach ≤ n → nodes s ≤ m → RaisedNext n m (z.indexes s x w)
bracket_raised n m s x (c.Name y ss) a b e = (a, omega arith)
bracket_raised n m s x (c.Element y i) a b e = (a, omega arith)
bracket_raised n m s x (c.Number i) a b e = closes_raised n m t.LeftBracket s x a b e
bracket_raised n m s x (c.Tree y) a b e = closes_raised n m t.LeftBracket s x a b e

dotted_raised : (n m : ℕ) (s : List Frame) → marks s ≤ n → nodes s ≤ m → (below s ≤ n) × (nodes s ≤ m + 2)
dotted_raised n m s a e = (omega (arith, below_le s), omega arith)

dot_raised : (n m : ℕ) (p : Bool) (s : List Frame) (x : Operand) (w : Content) → marks s ≤ n → x.reach ≤ n → nodes s ≤ m → RaisedNext n m (z.dots p s x w)
dot_raised n m false s x w a b e = closes_raised n m t.Dot s x a b e
dot_raised n m true s x (c.Name y ss) a b e = picked_raised n m (z.is_none ss) _ _ (dotted_raised n m s a e) (closes_raised n m t.Dot s x a b e)
dot_raised n m true s x (c.Element y i) a b e = dotted_raised n m s a e
dot_raised n m true s x (c.Number i) a b e = closes_raised n m t.Dot s x a b e
dot_raised n m true s x (c.Tree y) a b e = closes_raised n m t.Dot s x a b e

literal_raised : (n m : ℕ) (s : List Frame) (l : Literal) (r : ℕ) (w : Next) → marks s ≤ n → nodes s ≤ m → RaisedNext n m w → RaisedNext n m (z.literal_or s l r w)
literal_raised n m s l r w a e h = picked_raised n m (nat_lt 0 l.wild) _ _ (picked_raised n m (z.is_none s) _ _ tt h) (a, e)

based_raised : (n m : ℕ) (b : Based) (s : List Frame) (x : Operand) (w : Content) → marks s ≤ n → x.reach ≤ n → nodes s ≤ m → RaisedNext n m (z.based_on b s x w)
based_raised n m b s x (c.Number i) a h e = literal_raised n m s (sized_literal i b) x.reach _ a e (closes_raised n m (t.Based b) s x a h e)
based_raised n m b s x (c.Name y ss) a h e = closes_raised n m (t.Based b) s x a h e
based_raised n m b s x (c.Element y i) a h e = closes_raised n m (t.Based b) s x a h e
based_raised n m b s x (c.Tree y) a h e = closes_raised n m (t.Based b) s x a h e

after_raised : (n m : ℕ) (p : Bool) (k : Symbol) (s : List Frame) (x : Operand) → marks s ≤ n → x.reach ≤ n → nodes s ≤ m → RaisedNext n m (z.after p k s x)
after_raised n m p (t.Sign k) s x a b e = picked_raised n m (nat_lt (level k) 2) _ _ (closes_raised n m (t.Sign k) s x a b e) (left_raised n m (level k) k s x a b e)
after_raised n m p t.Question s x a b e = asked_raised n m s x a b e
after_raised n m p t.LeftBracket s x a b e = bracket_raised n m s x x.content a b e
after_raised n m p t.Dot s x a b e = dot_raised n m p s x x.content a b e
after_raised n m p (t.Based w) s x a b e = based_raised n m w s x x.content a b e
after_raised n m p k s x a b e = closes_raised n m k s x a b e

before_raised : (n m : ℕ) (text : List ℕ) (k : Symbol) (s : List Frame) → marks s ≤ n → nodes s ≤ m → RaisedNext n m (z.before text k s)
before_raised n m text (t.Name i) s a e = (a, e)
before_raised n m text (t.Number i) s a e = (a, e)
before_raised n m text (t.Based b) s a e = literal_raised n m s (based_literal b) (nodes s + 1) bad a e tt
before_raised n m text (t.Cast b) s a e = dotted_raised n m s a e
before_raised n m text (t.Sign k) s a e = picked_raised n m (leads k) _ _ (a, omega (arith, weight_le k)) tt
before_raised n m text t.LeftParen s a e = (a, omega arith)
before_raised n m text t.LeftBrace s a e = (a, omega arith)
before_raised n m text _ s a e = tt

casts_raised : (n m : ℕ) (k : Symbol) (s : List Frame) (b : Bool) → marks s ≤ n → nodes s ≤ m → RaisedNext n m (z.casts k s b)
casts_raised n m t.LeftParen s b a e = (a, omega arith)
casts_raised n m _ s b a e = tt

shuts_raised : (n m : ℕ) (k : Symbol) (s : List Frame) (y : Expr) (xs : List Expr) (j : ℕ) → marks s ≤ n → nodes s ≤ m → RaisedNext n m (z.shuts k s y xs j)
shuts_raised n m t.RightBrace s y xs j a e = (a, e)
shuts_raised n m _ s y xs j a e = tt

named_raised : (n m : ℕ) (text : List ℕ) (steps : _) (place : ℕ) (k : Symbol) (s : List Frame) → marks s ≤ n → nodes s ≤ m → RaisedNext n m (z.named text steps place k s)
named_raised n m text steps place (t.Name i) s a e = (a, e)
named_raised n m text steps place _ s a e = tt

step_raised : (n m : ℕ) (text : List ℕ) (p : Bool) (k : Symbol) (s : List Frame) (x : Standing) → reached s x ≤ n → nodes s ≤ m → RaisedNext n m (next text p k s x)
step_raised n m text p k s st.Want r e = before_raised n m text k s (omega arith) e
step_raised n m text p k s (st.Have x) r e = after_raised n m p k s x (omega arith) (omega arith) e
step_raised n m text p k s (st.Cast b) r e = casts_raised n m k s b (omega arith) e
step_raised n m text p k s (st.Shut y xs j) r e = shuts_raised n m k s y xs j (omega arith) e
step_raised n m text p k s (st.Dotted steps place) r e = named_raised n m text steps place k s (omega arith) e

pub next_raised : (n m : ℕ) (text : List ℕ) (p : Bool) (k : Symbol) (s : List Frame) (x : Standing) (w : Next) → reached s x ≤ n → nodes s ≤ m → next text p k s x ≡ w → RaisedNext n m w
next_raised n m text p k s x w r e h = subst (λ (v : Next). RaisedNext n m v) h (step_raised n m text p k s x r e)

none_some : (y : Operand) → None ≡ Some y → ⊥
none_some y e = cc

alone_within : (n : ℕ) (l : List Frame × Operand) (y : Operand) → l.1.reach ≤ n → z.alone l ≡ Some y → y.reach ≤ n
alone_within n ([], x) y h e = let q : x ≡ y = cc in subst (λ (v : Operand). v.reach ≤ n) q h
alone_within n (g ∷ fs, x) y h e = absurd (none_some y e)

pub ending_within : (n : ℕ) (s : List Frame) (o : Standing) (y : Operand) → reached s o ≤ n → z.ending s o ≡ Some y → y.reach ≤ n
ending_within n s (st.Have x) y h e = alone_within n (lower 1 s x) y (lower_within n 1 s x (omega arith) (omega arith)).1 e
ending_within n s _ y h e = absurd (none_some y e)

pub raised_nodes : (n m : ℕ) (s : List Frame) (o : Standing) → Raised n m s o → nodes s ≤ m + 2
raised_nodes n m s (st.Have x) r = let a : nodes s ≤ m = r.1 in omega arith
raised_nodes n m s (st.Shut y xs j) r = let a : nodes s ≤ m = r.1 in omega arith
raised_nodes n m s st.Want r = r.1
raised_nodes n m s (st.Cast b) r = r.1
raised_nodes n m s (st.Dotted steps place) r = r.1

pub reached_nodes : (n : ℕ) (s : List Frame) (o : Standing) → Raised n n s o → reached s o ≤ n → nodes s ≤ n
reached_nodes n s (st.Have x) r h = r.1
reached_nodes n s (st.Shut y xs j) r h = r.1
reached_nodes n s st.Want r h = omega arith
reached_nodes n s (st.Cast b) r h = omega arith
reached_nodes n s (st.Dotted steps place) r h = omega arith
