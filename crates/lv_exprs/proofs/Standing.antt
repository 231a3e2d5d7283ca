-- From where the reader stands to what its answers say.
use Rattle.std.proofs.Common.{◌≡◌, ℕ, ◌+◌, ◌≤◌, ◌<◌, List, [], ◌∷◌, max, cond, Option, Some, None, Bool, true, false, refl, ap, sym, subst, ◌∙◌, arith, length, take, get_or}
use Rattle.std.proofs.lemmas.List.{take_more}
use Rattle.lv_ast.specs.declared.expr.Literal.{Literal}
use Rattle.lv_ast.specs.declared.expr.Expr.TheVariants as tr
use Rattle.lv_exprs.specs.declared.symbol.Symbol.{Symbol}
use Rattle.lv_exprs.specs.declared.symbol.Symbol.TheVariants as t
use Rattle.lv_exprs.specs.declared.operand.Operand.{Operand}
use Rattle.lv_exprs.specs.declared.operand.Frame.{Frame}
use Rattle.lv_exprs.specs.declared.operand.Standing.{Standing}
use Rattle.lv_exprs.specs.declared.operand.Standing.TheVariants as st
use Rattle.lv_exprs.specs.Forms.{Form, based, sized, is_free}
use Rattle.lv_exprs.specs.Heights.{height}
use Rattle.lv_exprs.specs.Trees.{tree}
use Rattle.lv_exprs.specs.Lows.{over, over_all, low, base}
use Rattle.lv_exprs.specs.Machine.{Open, o_prefix, o_paren, State, want, have, casts, shut, dotted, alone, reduce, settle, done, finish, step, run, start}
use Rattle.lv_exprs.specs.Steps as z
use Rattle.lv_exprs.specs.Steps.{tree_of, operand, nodes, marks, mark, reached, lower, ending, Next, on, whole, ended, bad, next}
use Rattle.lv_exprs.specs.Stands.{Stands, open_weight, depth, show, shown, placed, at, seen}
use Rattle.lv_exprs.specs.Reading.{Fails, IsTooHigh, ReadsTree}
use Rattle.lv_exprs.proofs.Kept.{Spells}
use Rattle.lv_exprs.proofs.Heights.{base_near, base_same}
use Rattle.lv_exprs.proofs.Answers.{spelled_by, reads, reads_alone, fails, too_high, run_more}
use Rattle.lv_exprs.proofs.Shown.{content_tree, Seen, lowered, Follows, same_both}
use Rattle.lv_exprs.proofs.Followed.{follows, nodes_shown}

pub begin : (text : List ℕ) (p : Bool) (ts : List Symbol) → Stands text p ts 0 [] st.Want
begin text p ts = record { state = start; ran = refl; looks = refl }

-- a token that is not there takes nothing
stuck : (ts : List Symbol) (n : ℕ) → n ≡ length ts → n < length ts → ⊥
stuck ts n e l = omega arith

-- what the next token does, told of the machine
next_of : (text : List ℕ) (p : Bool) (ts : List Symbol) (n : ℕ) (fs : List Frame) (x : Standing) (k : Symbol) (w : Next) (h : Stands text p ts n fs x) → next text p k fs x ≡ w →
    Follows text (step p h.state k) (settle 1 h.state) w
next_of text p ts n fs x k w h e =
    let v : Spells p (take n ts) h.state = spelled_by p ts n h.state h.ran in
    subst (λ (u : Next). Follows text (step p h.state k) (settle 1 h.state) u) e (follows text p h.state k fs x v.sound v.fresh h.looks)

on_some : (text : List ℕ) (o : Option State) (m : State) (fs : List Frame) (x : Standing) → Follows text o m (on fs x) → (s : State) × (o ≡ Some s) × (seen text s ≡ at fs x)
on_some text None m fs x h = absurd h
on_some text (Some s) m fs x h = (s, refl, h)

pub goes_on : (text : List ℕ) (p : Bool) (ts : List Symbol) (n : ℕ) (fs gs : List Frame) (x y : Standing) → Stands text p ts n fs x → n < length ts →
    next text p (get_or ts n t.Other) fs x ≡ on gs y → Stands text p ts (n + 1) gs y
goes_on text p ts n fs gs x y h l e =
    let f : (s : State) × (step p h.state (get_or ts n t.Other) ≡ Some s) × (seen text s ≡ at gs y) = on_some text _ _ gs y (next_of text p ts n fs x (get_or ts n t.Other) (on gs y) h e) in
    record { state = f.0; ran = ap (run p start) (take_more ts n t.Other l) ∙ run_more p (take n ts) (get_or ts n t.Other) start h.state f.0 h.ran f.1; looks = f.2 }

ended_none : (text : List ℕ) (o : Option State) (m : State) (x : Operand) → Follows text o m (ended x) → (o ≡ None) × ((y : Form) × (m ≡ have [] y) × (tree text y ≡ tree_of x.content) × (height y ≡ x.reach))
ended_none text None m x h = (refl, h)
ended_none text (Some s) m x h = absurd h

pub is_done : (text : List ℕ) (p : Bool) (ts : List Symbol) (n : ℕ) (fs : List Frame) (x : Standing) (o : Operand) → Stands text p ts n fs x → n < length ts →
    next text p (get_or ts n t.Other) fs x ≡ ended o → ReadsTree text p ts n (tree_of o.content) o.reach
is_done text p ts n fs x o h l e =
    let f : (step p h.state (get_or ts n t.Other) ≡ None) × ((y : Form) × (settle 1 h.state ≡ have [] y) × (tree text y ≡ tree_of o.content) × (height y ≡ o.reach)) =
    ended_none text _ _ o (next_of text p ts n fs x (get_or ts n t.Other) (ended o) h e) in
    (f.1.0, reads p ts n h.state f.1.0 (omega arith) h.ran f.1.1 (λ _. f.0), f.1.2, f.1.3)

free_height : (x : Form) → is_free x ≡ true → height x ≡ 1
free_height (based b) e = refl
free_height (sized n b) e = refl
free_height _ e = absurd (let q : false ≡ true = e in cc)

whole_some : (text : List ℕ) (o : Option State) (m : State) (l : Literal) → Follows text o m (whole l) → (x : Form) × (o ≡ Some (alone x)) × (tree text x ≡ tr.Lit l)
whole_some text (Some (alone x)) m l h = (x, refl, h)
whole_some text (Some (want s)) m l h = absurd h
whole_some text (Some (have s x)) m l h = absurd h
whole_some text (Some (casts s b)) m l h = absurd h
whole_some text (Some (shut s x y)) m l h = absurd h
whole_some text (Some (dotted s x)) m l h = absurd h
whole_some text None m l h = absurd h

pub is_whole : (text : List ℕ) (p : Bool) (ts : List Symbol) (n : ℕ) (fs : List Frame) (x : Standing) (l : Literal) → Stands text p ts n fs x → n < length ts →
    next text p (get_or ts n t.Other) fs x ≡ whole l → ReadsTree text p ts (n + 1) (tr.Lit l) 1
is_whole text p ts n fs x l h w e =
    let f : (y : Form) × (step p h.state (get_or ts n t.Other) ≡ Some (alone y)) × (tree text y ≡ tr.Lit l) =
    whole_some text _ _ l (next_of text p ts n fs x (get_or ts n t.Other) (whole l) h e) in
    let r : run p start (take (n + 1) ts) ≡ Some (alone f.0) =
    ap (run p start) (take_more ts n t.Other w) ∙ run_more p (take n ts) (get_or ts n t.Other) start h.state (alone f.0) h.ran f.1 in
    let v : Spells p (take (n + 1) ts) (alone f.0) = spelled_by p ts (n + 1) (alone f.0) r in
    (f.0, reads_alone p ts (n + 1) f.0 (omega arith) r, f.2, free_height f.0 v.sound)

bad_none : (text : List ℕ) (o : Option State) (m : State) → Follows text o m bad → (o ≡ None) × ((y : Form) → m ≡ have [] y → ⊥)
bad_none text None m h = (refl, h)
bad_none text (Some s) m h = absurd h

-- what is still open is no expression
never : (text : List ℕ) (m : State) (l : List Frame × Operand) → Seen text m l → ((y : Form) → m ≡ have [] y → ⊥) → (y : Form) → finish m [] ≡ done y [] → ⊥
never text (have [] z) l h f y e = f z refl
never text (have (g ∷ s) z) l h f y e = cc
never text _ l h f y e = absurd h

none_some : {A : Type 0} {x : A} → None ≡ Some x → ⊥
none_some e = cc

never_ends : (text : List ℕ) (s : State) (fs : List Frame) (x : Standing) → seen text s ≡ at fs x → ((y : Form) → settle 1 s ≡ have [] y → ⊥) → (y : Form) → finish (settle 1 s) [] ≡ done y [] → ⊥
never_ends text (want s) fs x h f y e = cc
never_ends text (casts s b) fs x h f y e = cc
never_ends text (shut s v w) fs x h f y e = cc
never_ends text (dotted s v) fs x h f y e = cc
never_ends text (alone v) fs x h f y e = none_some h
never_ends text (have s v) fs x h f y e = never text (reduce 1 s v) (lower 1 (shown text s) (placed text s v)) (lowered text 1 s v) f y e

pub is_bad : (text : List ℕ) (p : Bool) (ts : List Symbol) (n : ℕ) (fs : List Frame) (x : Standing) → Stands text p ts n fs x → n < length ts →
    next text p (get_or ts n t.Other) fs x ≡ bad → Fails p ts n
is_bad text p ts n fs x h l e =
    let f : (step p h.state (get_or ts n t.Other) ≡ None) × ((y : Form) → settle 1 h.state ≡ have [] y → ⊥) = bad_none text _ _ (next_of text p ts n fs x (get_or ts n t.Other) bad h e) in
    fails p ts n h.state (omega arith) h.ran (never_ends text h.state fs x h.looks f.1) (λ _. f.0)

-- ---- at the end

not_want : (text : List ℕ) (s : State) (fs : List Frame) (x : Standing) → seen text s ≡ at fs x → ending fs x ≡ None → (y : Form) → settle 1 s ≡ have [] y → ⊥
not_want text (want s) fs x h e y f = cc
not_want text (casts s b) fs x h e y f = cc
not_want text (shut s v w) fs x h e y f = cc
not_want text (dotted s v) fs x h e y f = cc
not_want text (alone v) fs x h e y f = none_some h
not_want text (have s v) fs x h e y f = left (reduce 1 s v) (lower 1 (shown text s) (placed text s v)) (lowered text 1 s v) (end_of h e) f
  where
    end_of : (at (shown text s) (st.Have (placed text s v))) ≡ at fs x → ending fs x ≡ None → z.alone (lower 1 (shown text s) (placed text s v)) ≡ None
    end_of h e = ap (λ (u : List Frame × Standing). ending u.0 u.1) (same_both (shown text s) fs (st.Have (placed text s v)) x h) ∙ e

    left : (m : State) (l : List Frame × Operand) → Seen text m l → z.alone l ≡ None → m ≡ have [] y → ⊥
    left m ([], o) k w g = none_some (sym w)
    left m (g ∷ gs, o) k w u = let q : Seen text (have [] y) (g ∷ gs, o) = subst (λ (m' : State). Seen text m' (g ∷ gs, o)) u k in let r : [] ≡ g ∷ gs = q.0 in cc

pub ends_fail : (text : List ℕ) (p : Bool) (ts : List Symbol) (n : ℕ) (fs : List Frame) (x : Standing) → Stands text p ts n fs x → n ≡ length ts → ending fs x ≡ None → Fails p ts n
ends_fail text p ts n fs x h e l =
    fails p ts n h.state (omega arith) h.ran (never_ends text h.state fs x h.looks (not_want text h.state fs x h.looks l)) (λ q. absurd (stuck ts n e q))

emptied : (text : List ℕ) (m : State) (o : Operand) → Seen text m ([], o) → (x : Form) × (m ≡ have [] x) × (tree text x ≡ tree_of o.content) × (height x ≡ o.reach)
emptied text (have [] x) o h = (x, refl, sym (content_tree text x) ∙ ap (λ (u : Operand). tree_of u.content) h.1, (let q : 0 + height x ≡ o.reach = ap (λ (u : Operand). u.reach) h.1 in omega arith))
emptied text (have (g ∷ s) x) o h = absurd (let q : show text (depth s) g ∷ shown text s ≡ [] = h.0 in cc)
emptied text _ o h = absurd h

-- what is left once all is closed
left_alone : (text : List ℕ) (m : State) (l : List Frame × Operand) (o : Operand) → Seen text m l → z.alone l ≡ Some o → (x : Form) × (m ≡ have [] x) × (tree text x ≡ tree_of o.content) × (height x ≡ o.reach)
left_alone text m ([], u) o h e = let q : u ≡ o = cc in emptied text m o (subst (λ (v : Operand). Seen text m ([], v)) q h)
left_alone text m (g ∷ gs, u) o h e = absurd (none_some e)

-- only an operand is left at the end
no_operand : (fs gs : List Frame) (x y : Standing) (o : Operand) → at fs x ≡ at gs y → ending fs x ≡ None → ending gs y ≡ Some o → ⊥
no_operand fs gs x y o h e f = none_some (sym e ∙ ap (λ (u : List Frame × Standing). ending u.0 u.1) (same_both fs gs x y h) ∙ f)

is_left : (text : List ℕ) (s : State) (fs : List Frame) (x : Standing) (o : Operand) → seen text s ≡ at fs x → ending fs x ≡ Some o →
    (y : Form) × (settle 1 s ≡ have [] y) × (tree text y ≡ tree_of o.content) × (height y ≡ o.reach)
is_left text (have s v) fs x o h e =
    left_alone text (reduce 1 s v) (lower 1 (shown text s) (placed text s v)) o (lowered text 1 s v)
    (ap (λ (u : List Frame × Standing). ending u.0 u.1) (same_both (shown text s) fs (st.Have (placed text s v)) x h) ∙ e)
is_left text (want s) fs x o h e = absurd (no_operand _ fs _ x o h refl e)
is_left text (casts s b) fs x o h e = absurd (no_operand _ fs _ x o h refl e)
is_left text (shut s v w) fs x o h e = absurd (no_operand _ fs _ x o h refl e)
is_left text (dotted s v) fs x o h e = absurd (no_operand _ fs _ x o h refl e)
is_left text (alone v) fs x o h e = absurd (none_some h)

pub ends_read : (text : List ℕ) (p : Bool) (ts : List Symbol) (n : ℕ) (fs : List Frame) (x : Standing) (o : Operand) → Stands text p ts n fs x → n ≡ length ts → ending fs x ≡ Some o →
    ReadsTree text p ts n (tree_of o.content) o.reach
ends_read text p ts n fs x o h e l =
    let f : (y : Form) × (settle 1 h.state ≡ have [] y) × (tree text y ≡ tree_of o.content) × (height y ≡ o.reach) = is_left text h.state fs x o h.looks l in
    (f.0, reads p ts n h.state f.0 (omega arith) h.ran f.1 (λ q. absurd (stuck ts n e q)), f.2, f.3)

-- ---- heights

-- what has been read is at least as high as the numbers say
mark_over : (text : List ℕ) (n : ℕ) (g : Open) (h : ℕ) → max (mark (show text n g)) (open_weight g + n + h) ≡ n + over g h
mark_over text n (o_prefix k) h = omega arith
mark_over text n o_paren h = omega arith
mark_over text n _ h = omega arith

marked : (text : List ℕ) (s : List Open) (h : ℕ) → over_all s h ≡ max (marks (shown text s)) (depth s + h)
marked text [] h = omega arith
marked text (g ∷ s) h = omega (arith, marked text s (over g h), mark_over text (depth s) g h)

-- the least height of what begins so, by the numbers that the code has
low_seen : (text : List ℕ) (s : State) (fs : List Frame) (x : Standing) → seen text s ≡ at fs x → low s ≡ reached fs x
low_seen text (want s) fs x e =
    (let a : over_all s 1 ≡ max (marks (shown text s)) (depth s + 1) = marked text s 1 in let b : nodes (shown text s) ≡ depth s = nodes_shown text s in
    let c : over_all s 1 ≡ reached (shown text s) st.Want = omega arith in c) ∙ ap (λ (u : List Frame × Standing). reached u.0 u.1) (same_both _ fs _ x e)
low_seen text (have s v) fs x e = marked text s (height v) ∙ ap (λ (u : List Frame × Standing). reached u.0 u.1) (same_both _ fs _ x e)
low_seen text (casts s v) fs x e =
    (let a : over_all s 2 ≡ max (marks (shown text s)) (depth s + 2) = marked text s 2 in let b : nodes (shown text s) ≡ depth s = nodes_shown text s in
    let c : over_all s 2 ≡ reached (shown text s) (st.Cast v) = omega arith in c) ∙ ap (λ (u : List Frame × Standing). reached u.0 u.1) (same_both _ fs _ x e)
low_seen text (shut s v w) fs x e =
    (let a : over_all s (1 + max (height v) (height w)) ≡ max (marks (shown text s)) (depth s + (1 + max (height v) (height w))) = marked text s (1 + max (height v) (height w)) in
    let c : over_all s (1 + max (height v) (height w)) ≡ max (marks (shown text s)) (1 + depth s + max (height v) (height w)) = omega arith in c)
    ∙ ap (λ (u : List Frame × Standing). reached u.0 u.1) (same_both _ fs _ x e)
low_seen text (dotted s v) fs x e =
    (let a : over_all s 1 ≡ max (marks (shown text s)) (depth s + 1) = marked text s 1 in let b : nodes (shown text s) ≡ depth s = nodes_shown text s in
    let c : over_all s 1 ≡ max (marks (shown text s)) (nodes (shown text s) + 1) = omega arith in c) ∙ ap (λ (u : List Frame × Standing). reached u.0 u.1) (same_both _ fs _ x e)
low_seen text (alone v) fs x e = absurd (none_some e)

over_base : (p : Bool) (s : State) (n : ℕ) → low s ≡ n → cond p 201 200 < n → 200 < base p s
over_base true s n e l = omega (arith, base_near true s)
over_base false s n e l = omega (arith, base_same s)

-- the token that makes it too high
pub is_deep : (text : List ℕ) (p : Bool) (ts : List Symbol) (n : ℕ) (fs gs : List Frame) (x y : Standing) → Stands text p ts n fs x → n < length ts →
    next text p (get_or ts n t.Other) fs x ≡ on gs y → reached fs x ≤ cond p 201 200 → cond p 201 200 < reached gs y → IsTooHigh 200 p ts n
is_deep text p ts n fs gs x y h l e b w =
    let f : (s : State) × (step p h.state (get_or ts n t.Other) ≡ Some s) × (seen text s ≡ at gs y) = on_some text _ _ gs y (next_of text p ts n fs x (get_or ts n t.Other) (on gs y) h e) in
    too_high 200 p ts n h.state f.0 l h.ran f.1 (subst (λ m. m ≤ cond p 201 200) (sym (low_seen text h.state fs x h.looks)) b) (over_base p f.0 (reached gs y) (low_seen text f.0 gs y f.2) w)
