-- Each token does in the code what it does in the machine.
use Rattle.std.proofs.Common.{◌≡◌, ℕ, ◌+◌, ◌≤◌, List, [], ◌∷◌, ◌++◌, Option, Some, None, Bool, true, false, cond, nat_lt, max, refl, ap, sym, subst, ◌∙◌, arith, ◌&&◌}
use Rattle.lv_ast.specs.declared.expr.Select.{Select}
use Rattle.lv_ast.specs.declared.expr.Select.TheVariants as sel
use Rattle.lv_ast.specs.declared.expr.Path.{Path}
use Rattle.lv_ast.specs.declared.expr.Literal.{Literal}
use Rattle.lv_ast.specs.declared.expr.Expr.TheVariants as e
use Rattle.lv_exprs.specs.declared.symbol.Sign.{Sign}
use Rattle.lv_exprs.specs.declared.symbol.Based.{Based}
use Rattle.lv_exprs.specs.declared.symbol.Symbol.{Symbol}
use Rattle.lv_exprs.specs.declared.symbol.Symbol.TheVariants as t
use Rattle.lv_exprs.specs.declared.operand.Content.{Content}
use Rattle.lv_exprs.specs.declared.operand.Content.TheVariants as c
use Rattle.lv_exprs.specs.declared.operand.Operand.{Operand}
use Rattle.lv_exprs.specs.declared.operand.Frame.{Frame}
use Rattle.lv_exprs.specs.declared.operand.Frame.TheVariants as fr
use Rattle.lv_exprs.specs.declared.operand.Standing.{Standing}
use Rattle.lv_exprs.specs.declared.operand.Standing.TheVariants as st
use Rattle.lv_exprs.specs.Levels.{level, leads}
use Rattle.lv_exprs.specs.Forms.{Form, plain, based, sized, name, dot, bit, part, binary, rank, is_path, is_plain, is_free}
use Rattle.lv_exprs.specs.Heights.{height}
use Rattle.lv_exprs.specs.Trees.{made, tree, trees, path, index_of, steps_behind, part_select, based_literal, sized_literal}
use Rattle.lv_exprs.specs.Machine.{Open, o_prefix, o_paren, o_index, State, want, have, casts, shut, dotted, alone, reduce, settle, put_alone, want_shift, put_based, have_shift, shift, step, Sound}
use Rattle.lv_exprs.specs.Steps as z
use Rattle.lv_exprs.specs.Steps.{tree_of, operand, whole_operand, lower, Next, on, whole, ended, bad, is_none, indexed, closing, closes, next, nodes}
use Rattle.lv_exprs.specs.Stands.{open_weight, depth, show, shown, content, placed, at, seen}
use Rattle.lv_exprs.proofs.Unique.{stays_tight, level_le}
use Rattle.lv_exprs.proofs.Kept.{Tight}
use Rattle.lv_exprs.proofs.Shown.{two, content_tree, none_more, Seen, lowered, Follows, shut_shift, shuts, closing_follows, same_both}

weight_shown : (text : List ℕ) (n : ℕ) (g : Open) → z.frame_weight (show text n g) ≡ open_weight g
weight_shown text n (o_prefix k) = refl
weight_shown text n o_paren = refl
weight_shown text n _ = refl

pub nodes_shown : (text : List ℕ) (s : List Open) → nodes (shown text s) ≡ depth s
nodes_shown text [] = refl
nodes_shown text (g ∷ s) = omega (arith, weight_shown text (depth s) g, nodes_shown text s)

-- ---- literals

literal_follows : (text : List ℕ) (b : Bool) (s : List Open) (x : Form) (l : Literal) (n : ℕ) (m : State) (other : Next) → tree text x ≡ e.Lit l →
    Follows text None m other → seen text (have s x) ≡ (at (shown text s) (st.Have (whole_operand (e.Lit l) n))) →
    Follows text (cond b (put_alone s x) (Some (have s x))) m (cond b (z.alone_or (shown text s) l other) (on (shown text s) (st.Have (whole_operand (e.Lit l) n))))
literal_follows text true [] x l n m other h f w = h
literal_follows text true (g ∷ s) x l n m other h f w = f
literal_follows text false s x l n m other h f w = w

-- ---- a token where an operand has to follow

led_follows : (text : List ℕ) (b : Bool) (s : List Open) (k : Sign) →
    Follows text (cond b (Some (want (o_prefix k ∷ s))) None) (want s) (cond b (on (fr.Prefix k ∷ shown text s) st.Want) bad)
led_follows text true s k = refl
led_follows text false s k = λ y h. cc

reach_one : (text : List ℕ) (s : List Open) → depth s + 1 ≡ nodes (shown text s) + 1
reach_one text s = omega (arith, nodes_shown text s)

want_follows : (text : List ℕ) (p : Bool) (s : List Open) (k : Symbol) → Follows text (want_shift s k) (want s) (z.before text k (shown text s))
want_follows text p s (t.Name n) = ap (λ v. (at (shown text s) (st.Have (operand (c.Name (path text (name n)) []) v)))) (reach_one text s)
want_follows text p s (t.Number n) = ap (λ v. (at (shown text s) (st.Have (operand (c.Number n) v)))) (reach_one text s)
want_follows text p s (t.Based b) =
    literal_follows text (is_free (based b)) s (based b) (based_literal b) (nodes (shown text s) + 1) (want s) bad refl (λ y h. cc)
    (ap (λ v. (at (shown text s) (st.Have (whole_operand (e.Lit (based_literal b)) v)))) (reach_one text s))
want_follows text p s (t.Cast b) = refl
want_follows text p s (t.Sign k) = led_follows text (leads k) s k
want_follows text p s t.LeftParen = refl
want_follows text p s t.LeftBrace = refl
want_follows text p s _ = λ y h. cc

-- ---- a token behind an operand

along : (P : List Frame → Operand → Type 0) (fs gs : List Frame) (x y : Operand) → fs ≡ gs → x ≡ y → P fs x → P gs y
along P fs gs x y h k w = subst (λ (v : Operand). P gs v) k (subst (λ (v : List Frame). P v x) h w)

-- a token that only closes, and one that is not taken
shuts_none : (m : State) (k : Symbol) → ((fs : List Open) (x : Form) → shut_shift fs x k ≡ None) → shuts m k ≡ None
shuts_none (have s x) k h = h s x
shuts_none (want s) k h = refl
shuts_none _ k h = refl

refused : (text : List ℕ) (p : Bool) (s : List Open) (x : Form) (k : Symbol) → Sound p (have s x) → Tight 13 (have s x) → ((fs : List Open) (y : Form) → shut_shift fs y k ≡ None) →
    Follows text None (reduce 1 s x) (closes k (shown text s) (placed text s x))
refused text p s x k n q h =
    subst (λ (v : Option State). Follows text v (reduce 1 s x) (closes k (shown text s) (placed text s x))) (shuts_none (reduce 1 s x) k h) (closing_follows text p s x k n q)

same_shift : (text : List ℕ) (p : Bool) (m : State) (l : List Frame × Operand) (k : Symbol) → Seen text m l → ((fs : List Open) (x : Form) → shut_shift fs x k ≡ have_shift p fs x k) →
    shuts m k ≡ shift p m k
same_shift text p (have s x) l k h f = f s x
same_shift text p _ l k h f = absurd h

plainly : (text : List ℕ) (p : Bool) (s : List Open) (x : Form) (k : Symbol) → Sound p (have s x) → Tight 13 (have s x) → ((fs : List Open) (y : Form) → shut_shift fs y k ≡ have_shift p fs y k) →
    Follows text (shift p (reduce 1 s x) k) (reduce 1 s x) (closes k (shown text s) (placed text s x))
plainly text p s x k n q f =
    subst (λ (v : Option State). Follows text v (reduce 1 s x) (closes k (shown text s) (placed text s x)))
    (same_shift text p (reduce 1 s x) (lower 1 (shown text s) (placed text s x)) k (lowered text 1 s x) f) (closing_follows text p s x k n q)

sign_taken : (text : List ℕ) (p : Bool) (m w : State) (l : List Frame × Operand) (k : Sign) → nat_lt (level k) 2 ≡ false → Seen text m l →
    Follows text (shift p m (t.Sign k)) w (on (fr.Left k (tree_of l.1.content) (l.1.reach + 1) ∷ l.0) st.Want)
sign_taken text p (have s x) w l k f h =
    rw f (along (λ fs o. (at (fr.Left k (tree text x) (1 + depth s + height x) ∷ shown text s) st.Want) ≡ (at (fr.Left k (tree_of o.content) (o.reach + 1) ∷ fs) st.Want)) (shown text s) l.0 (placed text s x) l.1 h.0 h.1
    (two (λ v n. (at (fr.Left k v n ∷ shown text s) st.Want)) (sym (content_tree text x)) (let q : 1 + depth s + height x ≡ depth s + height x + 1 = omega arith in q)))
sign_taken text p _ w l k f h = absurd h

question_taken : (text : List ℕ) (p : Bool) (m w : State) (l : List Frame × Operand) → Seen text m l →
    Follows text (shift p m t.Question) w (on (fr.Question (tree_of l.1.content) (l.1.reach + 1) ∷ l.0) st.Want)
question_taken text p (have s x) w l h =
    along (λ fs o. (at (fr.Question (tree text x) (1 + depth s + height x) ∷ shown text s) st.Want) ≡ (at (fr.Question (tree_of o.content) (o.reach + 1) ∷ fs) st.Want)) (shown text s) l.0 (placed text s x) l.1 h.0 h.1
    (two (λ v n. (at (fr.Question v n ∷ shown text s) st.Want)) (sym (content_tree text x)) (let q : 1 + depth s + height x ≡ depth s + height x + 1 = omega arith in q))
question_taken text p _ w l h = absurd h

sign_refused : (text : List ℕ) (p : Bool) (m : State) (l : List Frame × Operand) (k : Sign) → nat_lt (level k) 2 ≡ true → Seen text m l → shift p m (t.Sign k) ≡ None
sign_refused text p (have s x) l k f h = rw f refl
sign_refused text p _ l k f h = absurd h

sign_follows : (text : List ℕ) (p b : Bool) (s : List Open) (x : Form) (k : Sign) → nat_lt (level k) 2 ≡ b → Sound p (have s x) → Tight 13 (have s x) →
    Follows text (shift p (reduce (cond b 1 (level k)) s x) (t.Sign k)) (reduce 1 s x)
    (cond b (closes (t.Sign k) (shown text s) (placed text s x)) (z.left_of (t.Sign k) (shown text s) (placed text s x)))
sign_follows text p true s x k f n q =
    subst (λ (v : Option State). Follows text v (reduce 1 s x) (closes (t.Sign k) (shown text s) (placed text s x)))
    (sym (sign_refused text p (reduce 1 s x) (lower 1 (shown text s) (placed text s x)) k f (lowered text 1 s x)))
    (refused text p s x (t.Sign k) n q (λ fs y. refl))
sign_follows text p false s x k f n q =
    sign_taken text p (reduce (level k) s x) (reduce 1 s x) (lower (level k) (shown text s) (placed text s x)) k f (lowered text (level k) s x)

-- ---- selects

indexes_indexed : (fs : List Frame) (o : Operand) (y : Path) (ss : List Select) (w : Content) →
    z.indexes fs o (indexed y ss w) ≡ on (fr.Index y (ss ++ (sel.Bit (tree_of w) ∷ [])) o.reach ∷ fs) st.Want
indexes_indexed fs o y [] (c.Number n) = refl
indexes_indexed fs o y (a ∷ bs) (c.Number n) = refl
indexes_indexed fs o y ss (c.Name v bs) = refl
indexes_indexed fs o y ss (c.Element v n) = refl
indexes_indexed fs o y ss (c.Tree x) = refl

bracket_follows : (text : List ℕ) (p : Bool) (s : List Open) (x : Form) → Sound p (have s x) → Tight 13 (have s x) →
    Follows text (have_shift p s x t.LeftBracket) (reduce 1 s x) (z.indexes (shown text s) (placed text s x) (content text x))
bracket_follows text p s (name m) n q = refl
bracket_follows text p s (dot x m) n q = refl
bracket_follows text p s (bit y i) n q =
    subst (λ (v : Next). Follows text (Some (want (o_index (bit y i) ∷ s))) (reduce 1 s (bit y i)) v)
    (sym (indexes_indexed (shown text s) (placed text s (bit y i)) (path text y) (made text y).selects (content text i)
    ∙ ap (λ v. on (fr.Index (path text y) ((made text y).selects ++ (sel.Bit v ∷ [])) (placed text s (bit y i)).reach ∷ shown text s) st.Want) (content_tree text i))) refl
bracket_follows text p s (part r y i j) n q = refl
bracket_follows text p s (binary k x y) n q = absurd (let h : 13 ≤ level k = q in omega (arith, level_le k))
bracket_follows text p s x n q = refused text p s x t.LeftBracket n q (λ fs w. refl)

-- ---- paths

abbrev NotNumber : Content → Type 0
NotNumber (c.Number n) = ⊥
NotNumber _ = Unit {0}

indexed_other : (y : Path) (ss : List Select) (w : Content) → NotNumber (indexed y ss w)
indexed_other y [] (c.Number n) = tt
indexed_other y (a ∷ bs) (c.Number n) = tt
indexed_other y ss _ = tt

not_number : (text : List ℕ) (x : Form) → is_plain x ≡ false → NotNumber (content text x)
not_number text (plain n) h = absurd (let q : true ≡ false = h in cc)
not_number text (bit y i) h = indexed_other (path text y) (made text y).selects (content text i)
not_number text _ h = tt

based_other : (b : Based) (fs : List Frame) (o : Operand) (w : Content) → NotNumber w → z.based_on b fs o w ≡ closes (t.Based b) fs o
based_other b fs o (c.Number n) h = absurd h
based_other b fs o _ h = refl

dots_other : (fs : List Frame) (o : Operand) (y : Path) (ss : List Select) (w : Content) → NotNumber w → z.dots true fs o (indexed y ss w) ≡ closes t.Dot fs o
dots_other fs o y ss (c.Number n) h = absurd h
dots_other fs o y ss (c.Name v bs) h = rw (none_more ss (sel.Bit (tree_of (c.Name v bs)))) refl
dots_other fs o y ss (c.Element v n) h = rw (none_more ss (sel.Bit (tree_of (c.Element v n)))) refl
dots_other fs o y ss (c.Tree x) h = rw (none_more ss (sel.Bit (tree_of (c.Tree x)))) refl

dots_some : (fs : List Frame) (o : Operand) (y : Path) (a : Select) (bs : List Select) (w : Content) → z.dots true fs o (indexed y (a ∷ bs) w) ≡ closes t.Dot fs o
dots_some fs o y a bs (c.Number n) = refl
dots_some fs o y a bs _ = refl

dots_more : (fs : List Frame) (o : Operand) (y : Path) (ss : List Select) (w : Content) → is_none ss ≡ false → z.dots true fs o (indexed y ss w) ≡ closes t.Dot fs o
dots_more fs o y [] w h = absurd (let q : true ≡ false = h in cc)
dots_more fs o y (a ∷ bs) w h = dots_some fs o y a bs w

-- a name with selects, or without
some_selects : (text : List ℕ) (y : Form) → 14 ≤ rank y → is_path y ≡ false → is_none (made text y).selects ≡ false
some_selects text (bit y i) h f = none_more (made text y).selects _
some_selects text (part r y i j) h f = none_more (made text y).selects _
some_selects text (name m) h f = absurd (let q : true ≡ false = f in cc)
some_selects text (dot y m) h f = absurd (let q : true ≡ false = f in cc)
some_selects text (binary k y w) h f = absurd (omega (arith, level_le k))
some_selects text _ h f = absurd (omega arith)

dot_refused : (text : List ℕ) (p : Bool) (s : List Open) (x : Form) (w : Next) → Sound p (have s x) → Tight 13 (have s x) → w ≡ closes t.Dot (shown text s) (placed text s x) →
    Follows text None (reduce 1 s x) w
dot_refused text p s x w n q h = subst (λ (v : Next). Follows text None (reduce 1 s x) v) (sym h) (refused text p s x t.Dot n q (λ fs y. refl))

-- a name with one select, behind it a dot
index_dot : (text : List ℕ) (s : List Open) (y i : Form) (b d : Bool) → is_path y ≡ b → is_plain i ≡ d → Sound true (have s (bit y i)) → Tight 13 (have s (bit y i)) →
    Follows text (cond (b && d) (Some (dotted s (bit y i))) None) (reduce 1 s (bit y i)) (z.dots true (shown text s) (placed text s (bit y i)) (content text (bit y i)))
index_dot text s (name m) (plain k) true true f g n q = refl
index_dot text s (dot v m) (plain k) true true f g n q = refl
index_dot text s y i false d f g n q =
    dot_refused text true s (bit y i) _ n q (dots_more (shown text s) (placed text s (bit y i)) (path text y) (made text y).selects (content text i) (some_selects text y n.1.1 f))
index_dot text s y i true false f g n q =
    dot_refused text true s (bit y i) _ n q (dots_other (shown text s) (placed text s (bit y i)) (path text y) (made text y).selects (content text i) (not_number text i g))
index_dot text s (name m) _ true true f g n q = absurd (let h : false ≡ true = g in cc)
index_dot text s (dot v m) _ true true f g n q = absurd (let h : false ≡ true = g in cc)
index_dot text s _ i true true f g n q = absurd (let h : false ≡ true = f in cc)

dot_follows : (text : List ℕ) (p : Bool) (s : List Open) (x : Form) → Sound p (have s x) → Tight 13 (have s x) →
    Follows text (have_shift p s x t.Dot) (reduce 1 s x) (z.dots p (shown text s) (placed text s x) (content text x))
dot_follows text false s x n q = refused text false s x t.Dot n q (λ fs y. refl)
dot_follows text true s (name m) n q = refl
dot_follows text true s (dot x m) n q = refl
dot_follows text true s (bit y i) n q = index_dot text s y i (is_path y) (is_plain i) refl refl n q
dot_follows text true s (part r y i j) n q =
    dot_refused text true s (part r y i j) _ n q (rw (none_more (made text y).selects (part_select r (tree text i) (tree text j))) refl)
dot_follows text true s x n q = refused text true s x t.Dot n q (λ fs y. refl)

-- ---- literals with a size

based_refused : (text : List ℕ) (p : Bool) (s : List Open) (x : Form) (b : Based) → Sound p (have s x) → Tight 13 (have s x) → is_plain x ≡ false →
    Follows text None (reduce 1 s x) (z.based_on b (shown text s) (placed text s x) (content text x))
based_refused text p s x b n q h =
    subst (λ (v : Next). Follows text None (reduce 1 s x) v) (sym (based_other b (shown text s) (placed text s x) (content text x) (not_number text x h)))
    (refused text p s x (t.Based b) n q (λ fs y. refl))

based_follows : (text : List ℕ) (p : Bool) (s : List Open) (x : Form) (b : Based) → Sound p (have s x) → Tight 13 (have s x) →
    Follows text (put_based b s x) (reduce 1 s x) (z.based_on b (shown text s) (placed text s x) (content text x))
based_follows text p s (plain m) b n q =
    literal_follows text (is_free (sized m b)) s (sized m b) (sized_literal m b) (depth s + 1) (reduce 1 s (plain m)) (closes (t.Based b) (shown text s) (placed text s (plain m))) refl
    (refused text p s (plain m) (t.Based b) n q (λ fs y. refl)) refl
based_follows text p s x b n q = based_refused text p s x b n q refl

tightly : (text : List ℕ) (p : Bool) (s : List Open) (x : Form) (k : Symbol) (w : Next) → Follows text (have_shift p s x k) (reduce 1 s x) w → Follows text (shift p (reduce 13 s x) k) (reduce 1 s x) w
tightly text p s x k w h = subst (λ (m : State). Follows text (shift p m k) (reduce 1 s x) w) (sym (stays_tight s x)) h

have_follows : (text : List ℕ) (p : Bool) (s : List Open) (x : Form) (k : Symbol) → Sound p (have s x) → Tight 13 (have s x) →
    Follows text (step p (have s x) k) (reduce 1 s x) (z.after p k (shown text s) (placed text s x))
have_follows text p s x (t.Sign k) n q = sign_follows text p (nat_lt (level k) 2) s x k refl n q
have_follows text p s x t.Question n q = question_taken text p (reduce 2 s x) (reduce 1 s x) (lower 2 (shown text s) (placed text s x)) (lowered text 2 s x)
have_follows text p s x t.LeftBracket n q = tightly text p s x t.LeftBracket _ (bracket_follows text p s x n q)
have_follows text p s x t.Dot n q = tightly text p s x t.Dot _ (dot_follows text p s x n q)
have_follows text p s x (t.Based b) n q = tightly text p s x (t.Based b) _ (based_follows text p s x b n q)
have_follows text p s x (t.Divider r) n q = plainly text p s x (t.Divider r) n q (λ fs y. refl)
have_follows text p s x t.Comma n q = plainly text p s x t.Comma n q (λ fs y. refl)
have_follows text p s x t.RightParen n q = plainly text p s x t.RightParen n q (λ fs y. refl)
have_follows text p s x t.RightBrace n q = plainly text p s x t.RightBrace n q (λ fs y. refl)
have_follows text p s x t.RightBracket n q = plainly text p s x t.RightBracket n q (λ fs y. refl)
have_follows text p s x t.LeftBrace n q = plainly text p s x t.LeftBrace n q (λ fs y. refl)
have_follows text p s x k n q = plainly text p s x k n q (λ fs y. refl)

-- ---- each state

casts_follow : (text : List ℕ) (p : Bool) (s : List Open) (b : Bool) (k : Symbol) → Follows text (shift p (casts s b) k) (casts s b) (z.casts k (shown text s) b)
casts_follow text p s b t.LeftParen = refl
casts_follow text p s b _ = λ y h. cc

shuts_follow : (text : List ℕ) (p : Bool) (s : List Open) (x y : Form) (k : Symbol) →
    Follows text (shift p (shut s x y) k) (shut s x y) (z.shuts k (shown text s) (tree text x) (trees text y) (1 + depth s + max (height x) (height y)))
shuts_follow text p s x y t.RightBrace =
    ap (λ n. (at (shown text s) (st.Have (whole_operand (e.Rep (tree text x) (trees text y)) n)))) (let q : depth s + (1 + max (height x) (height y)) ≡ 1 + depth s + max (height x) (height y) = omega arith in q)
shuts_follow text p s x y _ = λ w h. cc

dotted_follows : (text : List ℕ) (p : Bool) (s : List Open) (x : Form) (k : Symbol) →
    Follows text (shift p (dotted s x) k) (dotted s x) (z.named text (steps_behind (path text x) (index_of x)) (path text x).place k (shown text s))
dotted_follows text p s x (t.Name m) = ap (λ v. (at (shown text s) (st.Have (operand (c.Name (path text (dot x m)) []) v)))) (reach_one text s)
dotted_follows text p s x _ = λ w h. cc

none_some : {A : Type 0} {x : A} → None ≡ Some x → ⊥
none_some e = cc

carry : (text : List ℕ) (p : Bool) (o : Option State) (m : State) (k : Symbol) (fs gs : List Frame) (x y : Standing) → at fs x ≡ at gs y →
    Follows text o m (next text p k fs x) → Follows text o m (next text p k gs y)
carry text p o m k fs gs x y h w = subst (λ (v : List Frame × Standing). Follows text o m (next text p k v.0 v.1)) (same_both fs gs x y h) w

pub follows : (text : List ℕ) (p : Bool) (s : State) (k : Symbol) (fs : List Frame) (x : Standing) → Sound p s → Tight 13 s → seen text s ≡ at fs x →
    Follows text (step p s k) (settle 1 s) (next text p k fs x)
follows text p (want s) k fs x n q h = carry text p _ _ k _ fs _ x h (want_follows text p s k)
follows text p (have s y) k fs x n q h = carry text p _ _ k _ fs _ x h (have_follows text p s y k n q)
follows text p (casts s b) k fs x n q h = carry text p _ _ k _ fs _ x h (casts_follow text p s b k)
follows text p (shut s v w) k fs x n q h = carry text p _ _ k _ fs _ x h (shuts_follow text p s v w k)
follows text p (dotted s y) k fs x n q h = carry text p _ _ k _ fs _ x h (dotted_follows text p s y k)
follows text p (alone y) k fs x n q h = absurd (none_some h)
