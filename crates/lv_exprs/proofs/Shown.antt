-- What the code does on trees shows what the machine does on forms.
use Rattle.std.proofs.Common.{◌≡◌, ℕ, ◌+◌, ◌≤◌, List, [], ◌∷◌, ◌++◌, Option, Some, None, Bool, true, false, cond, nat_lt, max, refl, ap, sym, subst, ◌∙◌, arith}
use Rattle.std.proofs.lemmas.Bool.{ltb-true}
use Rattle.lv_ast.specs.declared.expr.Select.{Select}
use Rattle.lv_ast.specs.declared.expr.Select.TheVariants as s
use Rattle.lv_ast.specs.declared.expr.Path.{Path}
use Rattle.lv_ast.specs.declared.expr.Literal.{Literal}
use Rattle.lv_ast.specs.declared.expr.Expr.{Expr}
use Rattle.lv_ast.specs.declared.expr.Expr.TheVariants as e
use Rattle.lv_exprs.specs.declared.symbol.Divider.TheVariants as d
use Rattle.lv_exprs.specs.declared.symbol.Symbol.{Symbol}
use Rattle.lv_exprs.specs.declared.symbol.Symbol.TheVariants as t
use Rattle.lv_exprs.specs.declared.operand.Content.{Content}
use Rattle.lv_exprs.specs.declared.operand.Content.TheVariants as c
use Rattle.lv_exprs.specs.declared.operand.Operand.{Operand}
use Rattle.lv_exprs.specs.declared.operand.Frame.{Frame}
use Rattle.lv_exprs.specs.declared.operand.Frame.TheVariants as fr
use Rattle.lv_exprs.specs.declared.operand.Standing.{Standing}
use Rattle.lv_exprs.specs.declared.operand.Standing.TheVariants as st
use Rattle.lv_exprs.specs.Levels.{level, weight}
use Rattle.lv_exprs.specs.Forms.{Form, plain, bit, prefix, binary, choice, pair, rank}
use Rattle.lv_exprs.specs.Heights.{height}
use Rattle.lv_exprs.specs.Trees.{made, tree, trees, path, part_select, unary, infix_tree}
use Rattle.lv_exprs.specs.Machine.{Open, o_prefix, o_left, o_question, o_colon, o_paren, o_cast, o_brace, o_braces, o_repeat, o_repeats, o_index, o_part, State, have, alone, reduce, put_comma, put_divider, put_right_paren, put_right_brace, put_right_bracket, put_left_brace, Nested, Sound}
use Rattle.lv_exprs.specs.Steps.{tree_of, operand, whole_operand, lower, Next, on, whole, ended, bad, is_none, indexed, closing, closes}
use Rattle.lv_exprs.specs.Stands.{depth, shown, content, placed, both, at, seen}
use Rattle.lv_exprs.proofs.Kept.{Kept, Loose, Tight, settled}

pub two : {A B : Type 0} (f : A → ℕ → B) {v w : A} {a b : ℕ} → v ≡ w → a ≡ b → f v a ≡ f w b
two {A} {B} f {v} {w} {a} {b} h k = ap (λ z. f z a) h ∙ ap (λ n. f w n) k

pub same_both : (fs gs : List Frame) (x y : Standing) → at fs x ≡ at gs y → both fs x ≡ both gs y
same_both fs gs x y e = cc

indexed_tree : (y : Path) (ss : List Select) (x : Content) → tree_of (indexed y ss x) ≡ e.Name y (ss ++ (s.Bit (tree_of x) ∷ []))
indexed_tree y [] (c.Number n) = refl
indexed_tree y (a ∷ bs) (c.Number n) = refl
indexed_tree y ss (c.Name z bs) = refl
indexed_tree y ss (c.Element z n) = refl
indexed_tree y ss (c.Tree x) = refl

pub content_tree : (text : List ℕ) (x : Form) → tree_of (content text x) ≡ tree text x
content_tree text (bit x i) =
    indexed_tree (path text x) (made text x).selects (content text i)
    ∙ ap (λ z. e.Name (path text x) ((made text x).selects ++ (s.Bit z ∷ []))) (content_tree text i)
content_tree text _ = refl

-- an operand is one tree
single : (text : List ℕ) (x : Form) → 1 ≤ rank x → trees text x ≡ tree text x ∷ []
single text (pair x y) h = absurd (omega arith)
single text _ h = refl

pub none_more : {A : Type 0} (xs : List A) (x : A) → is_none (xs ++ (x ∷ [])) ≡ false
none_more [] x = refl
none_more (y ∷ ys) x = refl

trees_some : (text : List ℕ) (x : Form) → is_none (trees text x) ≡ false
trees_some text (pair x y) = none_more (trees text x) (tree text y)
trees_some text _ = refl

-- ---- closing

abbrev pub Seen : List ℕ → State → List Frame × Operand → Type 0
Seen text (have s x) l = (shown text s ≡ l.0) × (placed text s x ≡ l.1)
Seen text _ l = ⊥

seen_cond : (text : List ℕ) (b : Bool) (m m' : State) (l l' : List Frame × Operand) → Seen text m l → Seen text m' l' → Seen text (cond b m m') (cond b l l')
seen_cond text true m m' l l' h h' = h
seen_cond text false m m' l l' h h' = h'

under : (text : List ℕ) (q : ℕ) (s : List Open) (x : Form) (o : Operand) → placed text s x ≡ o → Seen text (reduce q s x) (lower q (shown text s) (placed text s x)) →
    Seen text (reduce q s x) (lower q (shown text s) o)
under text q s x o h k = subst (λ (v : Operand). Seen text (reduce q s x) (lower q (shown text s) v)) h k

pub lowered : (text : List ℕ) (q : ℕ) (s : List Open) (x : Form) → Seen text (reduce q s x) (lower q (shown text s) (placed text s x))
lowered text q [] x = (refl, refl)
lowered text q (o_prefix k ∷ s) x =
    seen_cond text (nat_lt 12 q) _ _ _ _ (refl, refl)
    (under text q s (prefix k x) _ (two (λ v n. whole_operand v n) (ap (unary k) (sym (content_tree text x))) (let h : depth s + (weight k + height x) ≡ weight k + depth s + height x = omega arith in h))
    (lowered text q s (prefix k x)))
lowered text q (o_left k y ∷ s) x =
    seen_cond text (nat_lt (level k) q) _ _ _ _ (refl, refl)
    (under text q s (binary k y x) _ (two (λ v n. whole_operand v n) (ap (infix_tree k (tree text y)) (sym (content_tree text x))) (let h : depth s + (1 + max (height y) (height x)) ≡ max (1 + depth s + height y) (1 + depth s + height x) = omega arith in h))
    (lowered text q s (binary k y x)))
lowered text q (o_colon a y ∷ s) x =
    seen_cond text (nat_lt 1 q) _ _ _ _ (refl, refl)
    (under text q s (choice a y x) _ (two (λ v n. whole_operand v n) (ap (λ v. e.Cond (tree text a) (tree text y) v) (sym (content_tree text x))) (let h : depth s + (1 + max (max (height a) (height y)) (height x)) ≡ max (1 + depth s + max (height a) (height y)) (1 + depth s + height x) = omega arith in h))
    (lowered text q s (choice a y x)))
lowered text q (o_question a ∷ s) x = (refl, refl)
lowered text q (o_paren ∷ s) x = (refl, refl)
lowered text q (o_cast b ∷ s) x = (refl, refl)
lowered text q (o_brace ∷ s) x = (refl, refl)
lowered text q (o_braces y ∷ s) x = (refl, refl)
lowered text q (o_repeat a ∷ s) x = (refl, refl)
lowered text q (o_repeats a y ∷ s) x = (refl, refl)
lowered text q (o_index y ∷ s) x = (refl, refl)
lowered text q (o_part r y i ∷ s) x = (refl, refl)

-- ---- what a step shows

abbrev pub IsWhole : List ℕ → State → Literal → Type 0
IsWhole text (alone x) l = tree text x ≡ e.Lit l
IsWhole text _ l = ⊥

-- what the code finds is what a step of the machine gives, or says how reading ends
abbrev pub Follows : List ℕ → Option State → State → Next → Type 0
Follows text (Some s) m (on fs x) = seen text s ≡ at fs x
Follows text (Some s) m (whole l) = IsWhole text s l
Follows text None m (ended x) = (y : Form) × (m ≡ have [] y) × (tree text y ≡ tree_of x.content) × (height y ≡ x.reach)
Follows text None m bad = (y : Form) → m ≡ have [] y → ⊥
Follows text _ m _ = ⊥

-- what stands on top once all is closed that a bracket closes
data Top : State → Type 0 where
  t_empty : (x : Form) → Top (have [] x)
  t_question : (a : Form) (s : List Open) (x : Form) → Top (have (o_question a ∷ s) x)
  t_paren : (s : List Open) (x : Form) → Top (have (o_paren ∷ s) x)
  t_cast : (b : Bool) (s : List Open) (x : Form) → Top (have (o_cast b ∷ s) x)
  t_brace : (s : List Open) (x : Form) → Top (have (o_brace ∷ s) x)
  t_braces : (y : Form) (s : List Open) (x : Form) → Top (have (o_braces y ∷ s) x)
  t_repeat : (a : Form) (s : List Open) (x : Form) → Top (have (o_repeat a ∷ s) x)
  t_repeats : (a y : Form) (s : List Open) (x : Form) → Top (have (o_repeats a y ∷ s) x)
  t_index : (y : Form) (s : List Open) (x : Form) → Top (have (o_index y ∷ s) x)
  t_part : (r : _) (y i : Form) (s : List Open) (x : Form) → Top (have (o_part r y i ∷ s) x)

top : (p : Bool) (s : List Open) (x : Form) → Nested p s → Loose 1 (have s x) → Top (have s x)
top p [] x n l = t_empty x
top p (o_prefix k ∷ s) x n l = absurd (omega (arith, ltb-true 12 1 l))
top p (o_left k y ∷ s) x n l = absurd (omega (arith, ltb-true (level k) 1 l, n.0.3))
top p (o_colon a y ∷ s) x n l = absurd (omega (arith, ltb-true 1 1 l))
top p (o_question a ∷ s) x n l = t_question a s x
top p (o_paren ∷ s) x n l = t_paren s x
top p (o_cast b ∷ s) x n l = t_cast b s x
top p (o_brace ∷ s) x n l = t_brace s x
top p (o_braces y ∷ s) x n l = t_braces y s x
top p (o_repeat a ∷ s) x n l = t_repeat a s x
top p (o_repeats a y ∷ s) x n l = t_repeats a y s x
top p (o_index y ∷ s) x n l = t_index y s x
top p (o_part r y i ∷ s) x n l = t_part r y i s x

-- what a token does that only closes
abbrev pub shut_shift : List Open → Form → Symbol → Option State
shut_shift fs x (t.Divider r) = put_divider r fs x
shut_shift fs x t.Comma = put_comma fs x
shut_shift fs x t.RightParen = put_right_paren fs x
shut_shift fs x t.RightBrace = put_right_brace fs x
shut_shift fs x t.RightBracket = put_right_bracket fs x
shut_shift fs x t.LeftBrace = put_left_brace fs x
shut_shift fs x _ = None

abbrev pub shuts : State → Symbol → Option State
shuts (have s x) k = shut_shift s x k
shuts _ k = None

abbrev frames_of : State → List Open
frames_of (have s x) = s
frames_of _ = []

abbrev form_of : State → Form
form_of (have s x) = x
form_of _ = plain (record { place = 0; value = 0 })

have_on : (text : List ℕ) (s : List Open) {v w : Expr} {a b : ℕ} → v ≡ w → a ≡ b → (at (shown text s) (st.Have (whole_operand v a))) ≡ (at (shown text s) (st.Have (whole_operand w b)))
have_on text s h k = two (λ v n. (at (shown text s) (st.Have (whole_operand v n)))) h k

nothing : (g : Open) (s : List Open) (x y : Form) → have (g ∷ s) x ≡ have [] y → ⊥
nothing g s x y h = cc

-- the list with one more tree
longer : (text : List ℕ) (x : Form) → 1 ≤ rank x → trees text x ≡ [] ++ (tree_of (content text x) ∷ [])
longer text x h = single text x h ∙ ap (λ v. v ∷ []) (sym (content_tree text x))

longer_on : (text : List ℕ) (y x : Form) → trees text (pair y x) ≡ trees text y ++ (tree_of (content text x) ∷ [])
longer_on text y x = ap (λ v. trees text y ++ (v ∷ [])) (sym (content_tree text x))

closers : (text : List ℕ) {m : State} → Top m → 1 ≤ rank (form_of m) → (k : Symbol) →
    Follows text (shuts m k) m (closing k (shown text (frames_of m)) (placed text (frames_of m) (form_of m)))
closers text (t_empty x) h k = empty k
  where
    none : (k : Symbol) → shut_shift [] x k ≡ None
    none t.Comma = refl
    none t.RightParen = refl
    none t.RightBrace = refl
    none t.RightBracket = refl
    none t.LeftBrace = refl
    none (t.Divider d.Colon) = refl
    none (t.Divider _) = refl
    none _ = refl

    empty : (k : Symbol) → Follows text (shut_shift [] x k) (have [] x) (ended (placed text [] x))
    empty k = subst (λ (v : Option State). Follows text v (have [] x) (ended (placed text [] x))) (sym (none k)) (x, refl, sym (content_tree text x), omega arith)
closers text (t_question a s x) h (t.Divider d.Colon) =
    two (λ v n. (at (fr.Colon (tree text a) v n ∷ shown text s) st.Want)) (sym (content_tree text x))
    (let q : 1 + depth s + max (height a) (height x) ≡ max (1 + depth s + height a) (1 + depth s + height x) = omega arith in q)
closers text (t_question a s x) h (t.Divider _) = nothing _ _ _
closers text (t_question a s x) h _ = nothing _ _ _
closers text (t_paren s x) h t.RightParen = have_on text s (sym (content_tree text x)) (let q : depth s + height x ≡ 0 + depth s + height x = omega arith in q)
closers text (t_paren s x) h (t.Divider d.Colon) = nothing _ _ _
closers text (t_paren s x) h (t.Divider _) = nothing _ _ _
closers text (t_paren s x) h _ = nothing _ _ _
closers text (t_cast b s x) h t.RightParen = have_on text s (ap (e.Cast b) (sym (content_tree text x))) (let q : depth s + (1 + height x) ≡ 1 + depth s + height x = omega arith in q)
closers text (t_cast b s x) h (t.Divider d.Colon) = nothing _ _ _
closers text (t_cast b s x) h (t.Divider _) = nothing _ _ _
closers text (t_cast b s x) h _ = nothing _ _ _
closers text (t_brace s x) h t.Comma =
    two (λ v n. (at (fr.Brace v n ∷ shown text s) st.Want)) (longer text x h) (let q : 1 + depth s + height x ≡ max 0 (1 + depth s + height x) = omega arith in q)
closers text (t_brace s x) h t.RightBrace =
    have_on text s (ap e.Cat (longer text x h)) (let q : depth s + (1 + height x) ≡ max 0 (1 + depth s + height x) = omega arith in q)
closers text (t_brace s x) h t.LeftBrace =
    two (λ v n. (at (fr.Repeat v [] n ∷ shown text s) st.Want)) (sym (content_tree text x)) refl
closers text (t_brace s x) h (t.Divider d.Colon) = nothing _ _ _
closers text (t_brace s x) h (t.Divider _) = nothing _ _ _
closers text (t_brace s x) h _ = nothing _ _ _
closers text (t_braces y s x) h t.Comma =
    two (λ v n. (at (fr.Brace v n ∷ shown text s) st.Want)) (longer_on text y x)
    (let q : 1 + depth s + max (height y) (height x) ≡ max (1 + depth s + height y) (1 + depth s + height x) = omega arith in q)
closers text (t_braces y s x) h t.RightBrace =
    have_on text s (ap e.Cat (longer_on text y x))
    (let q : depth s + (1 + max (height y) (height x)) ≡ max (1 + depth s + height y) (1 + depth s + height x) = omega arith in q)
closers text (t_braces y s x) h t.LeftBrace = rw (trees_some text y) (nothing _ _ _)
closers text (t_braces y s x) h (t.Divider d.Colon) = nothing _ _ _
closers text (t_braces y s x) h (t.Divider _) = nothing _ _ _
closers text (t_braces y s x) h _ = nothing _ _ _
closers text (t_repeat a s x) h t.Comma =
    two (λ v n. (at (fr.Repeat (tree text a) v n ∷ shown text s) st.Want)) (longer text x h)
    (let q : 1 + depth s + max (height a) (height x) ≡ max (1 + depth s + height a) (1 + depth s + height x) = omega arith in q)
closers text (t_repeat a s x) h t.RightBrace =
    two (λ v n. (at (shown text s) (st.Shut (tree text a) v n))) (longer text x h)
    (let q : 1 + depth s + max (height a) (height x) ≡ max (1 + depth s + height a) (1 + depth s + height x) = omega arith in q)
closers text (t_repeat a s x) h (t.Divider d.Colon) = nothing _ _ _
closers text (t_repeat a s x) h (t.Divider _) = nothing _ _ _
closers text (t_repeat a s x) h _ = nothing _ _ _
closers text (t_repeats a y s x) h t.Comma =
    two (λ v n. (at (fr.Repeat (tree text a) v n ∷ shown text s) st.Want)) (longer_on text y x)
    (let q : 1 + depth s + max (height a) (max (height y) (height x)) ≡ max (1 + depth s + max (height a) (height y)) (1 + depth s + height x) = omega arith in q)
closers text (t_repeats a y s x) h t.RightBrace =
    two (λ v n. (at (shown text s) (st.Shut (tree text a) v n))) (longer_on text y x)
    (let q : 1 + depth s + max (height a) (max (height y) (height x)) ≡ max (1 + depth s + max (height a) (height y)) (1 + depth s + height x) = omega arith in q)
closers text (t_repeats a y s x) h (t.Divider d.Colon) = nothing _ _ _
closers text (t_repeats a y s x) h (t.Divider _) = nothing _ _ _
closers text (t_repeats a y s x) h _ = nothing _ _ _
closers text (t_index y s x) h t.RightBracket =
    ap (λ n. (at (shown text s) (st.Have (operand (content text (bit y x)) n))))
    (let q : depth s + max (height y) (1 + height x) ≡ max (depth s + height y) (1 + depth s + height x) = omega arith in q)
closers text (t_index y s x) h (t.Divider r) =
    ap (λ v. (at (fr.Part r (path text y) (made text y).selects v (max (depth s + height y) (1 + depth s + height x)) ∷ shown text s) st.Want)) (sym (content_tree text x))
closers text (t_index y s x) h _ = nothing _ _ _
closers text (t_part r y i s x) h t.RightBracket =
    two (λ v n. (at (shown text s) (st.Have (operand (c.Name (path text y) ((made text y).selects ++ (part_select r (tree text i) v ∷ []))) n)))) (sym (content_tree text x))
    (let q : depth s + max (height y) (1 + max (height i) (height x)) ≡ max (max (depth s + height y) (1 + depth s + height i)) (1 + depth s + height x) = omega arith in q)
closers text (t_part r y i s x) h (t.Divider d.Colon) = nothing _ _ _
closers text (t_part r y i s x) h (t.Divider _) = nothing _ _ _
closers text (t_part r y i s x) h _ = nothing _ _ _

closed : (text : List ℕ) (p : Bool) (m : State) (l : List Frame × Operand) → Seen text m l → Sound p m → Loose 1 m → Tight 1 m → (k : Symbol) →
    Follows text (shuts m k) m (closing k l.0 l.1)
closed text p (have s x) l h n o q k =
    let a : Follows text (shut_shift s x k) (have s x) (closing k (shown text s) (placed text s x)) = closers text (top p s x n.0 o) q k in
    let b : Follows text (shut_shift s x k) (have s x) (closing k l.0 (placed text s x)) =
    subst (λ (v : List Frame). Follows text (shut_shift s x k) (have s x) (closing k v (placed text s x))) h.0 a in
    subst (λ (v : Operand). Follows text (shut_shift s x k) (have s x) (closing k l.0 v)) h.1 b
closed text p _ l h n o q k = absurd h

-- a token that only closes
pub closing_follows : (text : List ℕ) (p : Bool) (s : List Open) (x : Form) (k : Symbol) → Sound p (have s x) → Tight 13 (have s x) →
    Follows text (shuts (reduce 1 s x) k) (reduce 1 s x) (closes k (shown text s) (placed text s x))
closing_follows text p s x k n q =
    let m : Kept p 1 _ (reduce 1 s x) = settled p 1 (have s x) (omega arith) n q in
    closed text p (reduce 1 s x) (lower 1 (shown text s) (placed text s x)) (lowered text 1 s x) m.sound m.loose m.tight k
