-- Expressions are as the table says.
use Rattle.std.proofs.Common.{◌≡◌, ℕ, List, [], ◌∷◌, ◌++◌, Bool, true, false, not, ◌||◌, inl, inr, refl, sym, ◌∙◌, ap, append_assoc, arith}
use Rattle.std.proofs.lemmas.List.{map-append}
use Rattle.lv_ast.specs.TokenLists.{kind_number}
use Rattle.lv_ast.specs.declared.tokens.Kind.{Kind}
use Rattle.lv_ast.specs.declared.tokens.Kind.TheVariants as k
use Rattle.lv_ast.specs.declared.expr.Expr.{Expr}
use Rattle.lv_exprs.specs.declared.symbol.Symbol.{Symbol}
use Rattle.lv_exprs.specs.declared.symbol.Symbol.TheVariants as t
use Rattle.lv_exprs.specs.Symbols.{kind_symbol, mark_symbol}
use Rattle.lv_exprs.specs.Levels.{leads}
use Rattle.lv_exprs.specs.Forms.{Form, plain, based, sized, name, dot, bit, part, prefix, binary, choice, paren, cast, pair, brace, repeat, text, is_free, Valid, IsExpr, Begins}
use Rattle.lv_exprs.specs.Trees as trees
use Rattle.lv_exprs.specs.Laws.{goes_on}
use Rattle.lv_exprs.proofs.Continued as laws
use Rattle.lv_grammars.specs.Facts.{AreLeaves}
use Rattle.lv_grammars.specs.Sets.{is_in, some_of, all_of, others}
use Rattle.lv_grammars.proofs.Lists.{and_left, and_right, true_false, nil_cons, same_head}
use Rattle.lv_grammar.specs.Lexemes.{Lexeme}
use Rattle.lv_grammar.specs.Shapes.{Shape, word, mark, fits, base, table, Leaf, value, label, Placed, never_leads, never_follows}
use Rattle.lv_grammar.specs.Shapes as shapes
use Rattle.lv_grammar.specs.Leaves.{symbol_of, symbols_of, ValidAt, IsExpression, IsLowExpression}
use Rattle.lv_grammar.proofs.Shaped.{same_bytes, word_number, mark_number}

-- ---- what a token of a shape is to an expression

word_kind : (n : Kind) (bytes : List ℕ) (start end : ℕ) → kind_number n ≡ 2 → kind_symbol n bytes start end ≡ t.Other
word_kind k.Word bytes start end e = refl
word_kind k.Tick bytes start end e = refl
word_kind k.Line bytes start end e = refl
word_kind k.Join bytes start end e = refl
word_kind k.Name bytes start end e = absurd (omega (arith, e))
word_kind k.Escaped bytes start end e = absurd (omega (arith, e))
word_kind k.System bytes start end e = absurd (omega (arith, e))
word_kind k.Number bytes start end e = absurd (omega (arith, e))
word_kind k.Based bytes start end e = absurd (omega (arith, e))
word_kind k.Mark bytes start end e = absurd (omega (arith, e))

mark_kind : (n : Kind) (bytes : List ℕ) (start end : ℕ) → kind_number n ≡ 7 → kind_symbol n bytes start end ≡ mark_symbol bytes
mark_kind k.Mark bytes start end e = refl
mark_kind k.Word bytes start end e = absurd (omega (arith, e))
mark_kind k.Tick bytes start end e = absurd (omega (arith, e))
mark_kind k.Line bytes start end e = absurd (omega (arith, e))
mark_kind k.Join bytes start end e = absurd (omega (arith, e))
mark_kind k.Name bytes start end e = absurd (omega (arith, e))
mark_kind k.Escaped bytes start end e = absurd (omega (arith, e))
mark_kind k.System bytes start end e = absurd (omega (arith, e))
mark_kind k.Number bytes start end e = absurd (omega (arith, e))
mark_kind k.Based bytes start end e = absurd (omega (arith, e))

word_symbol : (s : List ℕ) (m : Lexeme) → fits (word s) m ≡ true → symbol_of m ≡ t.Other
word_symbol s m f = word_kind m.kind m.bytes m.start m.end (word_number s m f)

mark_symbol_of : (s : List ℕ) (m : Lexeme) → fits (mark s) m ≡ true → symbol_of m ≡ mark_symbol s
mark_symbol_of s m f = mark_kind m.kind m.bytes m.start m.end (mark_number s m f) ∙ ap mark_symbol (sym (same_bytes s m.bytes (and_right _ _ f)))

-- a test of symbols that no token of the shape passes
abbrev bars : (Symbol → Bool) → Shape → Bool
bars f (word s) = not (f t.Other)
bars f (mark s) = not (f (mark_symbol s))
bars f shapes.name = false

not_true : (b : Bool) → not b ≡ true → b ≡ false
not_true false e = refl
not_true true e = true_false _ refl (sym e)

barred : (f : Symbol → Bool) (p : Shape) (m : Lexeme) → bars f p ≡ true → f (symbol_of m) ≡ true → fits p m ≡ true → ⊥
barred f (word s) m b h g = true_false _ h (ap f (word_symbol s m g) ∙ not_true _ b)
barred f (mark s) m b h g = true_false _ h (ap f (mark_symbol_of s m g) ∙ not_true _ b)
barred f shapes.name m b h g = true_false _ b refl

none_fits : (b : Bool) → (b ≡ true → ⊥) → b ≡ false
none_fits true h = absurd (h refl)
none_fits false h = refl

or_false : (a b : Bool) → a ≡ false → b ≡ false → a || b ≡ false
or_false false b e f = f
or_false true b e f = true_false _ refl e

all_barred : (f : Symbol → Bool) (ps : List Shape) (m : Lexeme) → all_of (bars f) ps ≡ true → f (symbol_of m) ≡ true → some_of (λ p. fits p m) ps ≡ false
all_barred f [] m b h = refl
all_barred f (p ∷ ps) m b h = or_false _ _ (none_fits (fits p m) (barred f p m (and_left _ _ b) h)) (all_barred f ps m (and_right _ _ b) h)

none_of : (f : Symbol → Bool) (ps : List Shape) (m : Lexeme) → all_of (bars f) ps ≡ true → f (symbol_of m) ≡ true → is_in base (others ps) m ≡ true
none_of f ps m b h = ap not (all_barred f ps m b h)

-- ---- how an expression begins

behind : {s : Symbol} {ts : List Symbol} (us : List Symbol) → (ss : List Symbol) × (ts ≡ s ∷ ss) → (ss : List Symbol) × (ts ++ us ≡ s ∷ ss)
behind us b = (b.0 ++ us, ap (λ l. l ++ us) b.1)

abbrev can_lead : Symbol → Bool
can_lead (t.Name n) = true
can_lead (t.Number n) = true
can_lead (t.Based b) = true
can_lead (t.Cast b) = true
can_lead (t.Sign s) = leads s
can_lead t.LeftParen = true
can_lead t.LeftBrace = true
can_lead _ = false

abbrev lead : Form → Symbol
lead (plain n) = t.Number n
lead (based b) = t.Based b
lead (sized n b) = t.Number n
lead (name n) = t.Name n
lead (dot x n) = lead x
lead (bit x i) = lead x
lead (part r x i j) = lead x
lead (prefix s x) = t.Sign s
lead (binary s x y) = lead x
lead (choice c x y) = lead c
lead (paren x) = t.LeftParen
lead (cast b x) = t.Cast b
lead (pair x y) = lead x
lead (brace x) = t.LeftBrace
lead (repeat c x) = t.LeftBrace

-- the first symbol is apart from the others
pub begins : (x : Form) → (ss : List Symbol) × (text x ≡ lead x ∷ ss)
begins (plain n) = ([], refl)
begins (based b) = ([], refl)
begins (sized n b) = (t.Based b ∷ [], refl)
begins (name n) = ([], refl)
begins (dot x n) = behind _ (begins x)
begins (bit x i) = behind _ (begins x)
begins (part r x i j) = behind _ (begins x)
begins (prefix s x) = (text x, refl)
begins (binary s x y) = behind _ (begins x)
begins (choice c x y) = behind _ (begins c)
begins (paren x) = (text x ++ (t.RightParen ∷ []), refl)
begins (cast b x) = (t.LeftParen ∷ (text x ++ (t.RightParen ∷ [])), refl)
begins (pair x y) = behind _ (begins x)
begins (brace x) = (text x ++ (t.RightBrace ∷ []), refl)
begins (repeat c x) = (text c ++ (t.LeftBrace ∷ (text x ++ (t.RightBrace ∷ t.RightBrace ∷ []))), refl)

lead_leads : (p : Bool) (x : Form) → Valid p x → can_lead (lead x) ≡ true
lead_leads p (plain n) v = refl
lead_leads p (based b) v = refl
lead_leads p (sized n b) v = refl
lead_leads p (name n) v = refl
lead_leads p (dot x n) v = lead_leads p x v.0
lead_leads p (bit x i) v = lead_leads p x v.0
lead_leads p (part r x i j) v = lead_leads p x v.0
lead_leads p (prefix s x) v = v.2
lead_leads p (binary s x y) v = lead_leads p x v.0
lead_leads p (choice c x y) v = lead_leads p c v.0
lead_leads p (paren x) v = refl
lead_leads p (cast b x) v = refl
lead_leads p (pair x y) v = lead_leads p x v.0
lead_leads p (brace x) v = refl
lead_leads p (repeat c x) v = refl

free_leads : (x : Form) → is_free x ≡ true → can_lead (lead x) ≡ true
free_leads (based b) e = refl
free_leads (sized n b) e = refl
free_leads _ e = true_false _ e refl

expr_leads : (x : Form) → IsExpr false x → can_lead (lead x) ≡ true
expr_leads x (inl v) = lead_leads false x v.0
expr_leads x (inr e) = free_leads x e

-- ---- the leaves

is_expr : (l : Leaf) (x : Form) → ValidAt l x → IsExpr false x
is_expr value x v = inl v
is_expr label x v = v

starts : (bytes : List ℕ) (l : Leaf) (m : Lexeme) (us : List Lexeme) (x : Placed Expr) → IsExpression bytes l (m ∷ us) x → is_in base (others never_leads) m ≡ true
starts bytes l m us x i =
    let h : symbol_of m ≡ lead i.form = same_head _ _ _ _ (sym i.spells ∙ (begins i.form).1) in
    none_of can_lead never_leads m refl (ap can_lead h ∙ expr_leads i.form (is_expr l i.form i.valid))

some : (bytes : List ℕ) (l : Leaf) (x : Placed Expr) → IsExpression bytes l [] x → ⊥
some bytes l x i = nil_cons _ _ (sym (begins i.form).1 ∙ i.spells)

goes : (bytes : List ℕ) (l : Leaf) (us more : List Lexeme) (m : Lexeme) (x y : Placed Expr) → IsExpression bytes l us x → IsExpression bytes l (us ++ (m ∷ more)) y →
    is_in base (others never_follows) m ≡ true
goes bytes l us more m x y i j = none_of goes_on never_follows m refl (from_no (goes_on (symbol_of m)) (λ e. laws.nothing_goes_on false i.form (symbol_of m) e (is_expr l i.form i.valid) beginning))
  where
    from_no : (b : Bool) → (b ≡ false → ⊥) → b ≡ true
    from_no true h = refl
    from_no false h = absurd (h refl)

    spelled : text j.form ≡ (text i.form ++ (symbol_of m ∷ [])) ++ symbols_of more
    spelled =
        j.spells ∙ map-append symbol_of us (m ∷ more) ∙ ap (λ ss. ss ++ (symbol_of m ∷ symbols_of more)) (sym i.spells) ∙
        sym (append_assoc (text i.form) (symbol_of m ∷ []) (symbols_of more))

    beginning : Begins false (text i.form ++ (symbol_of m ∷ []))
    beginning = (symbols_of more, j.form, is_expr l j.form j.valid, spelled)

one_tree : (bytes : List ℕ) (l : Leaf) (us : List Lexeme) (x y : Placed Expr) → IsExpression bytes l us x → IsExpression bytes l us y → x ≡ y
one_tree bytes l us x y i j =
    let e : i.form ≡ j.form = laws.has_one_form false i.form j.form (is_expr l i.form i.valid) (is_expr l j.form j.valid) (i.spells ∙ sym j.spells) in
    let f : x.tree ≡ y.tree = sym i.tree ∙ ap (trees.tree bytes) e ∙ j.tree in
    let g : x.place ≡ y.place = sym i.place ∙ j.place in
    λ n. record { tree = f n; place = g n }

abbrev zero_token : Lexeme
zero_token = record { kind = k.Name; bytes = []; start = 0; end = 0 }

abbrev zero_form : Form
zero_form = name (record { place = 0; start = 0; end = 0 })

valid_zero : (l : Leaf) → ValidAt l zero_form
valid_zero value = (tt, omega arith)
valid_zero label = inl (tt, omega arith)

witness : (bytes : List ℕ) (l : Leaf) → (us : List Lexeme) × (x : Placed Expr) × IsExpression bytes l us x
witness bytes l = (
  zero_token ∷ [],
  record { tree = trees.tree bytes zero_form; place = 0 },
  record { form = zero_form; valid = valid_zero l; spells = refl; tree = refl; place = refl },
)

-- one within the limits
pub low_witness : (bytes : List ℕ) (l : Leaf) → (us : List Lexeme) × (x : Placed Expr) × IsLowExpression bytes l us x
low_witness bytes l = (
  zero_token ∷ [],
  record { tree = trees.tree bytes zero_form; place = 0 },
  record { expression = record { form = zero_form; valid = valid_zero l; spells = refl; tree = refl; place = refl }; low = omega arith },
)

pub expressions : (bytes : List ℕ) → AreLeaves base table (IsExpression bytes)
expressions bytes = record { starts = starts bytes; some = some bytes; goes = goes bytes; one = one_tree bytes; witness = witness bytes }
