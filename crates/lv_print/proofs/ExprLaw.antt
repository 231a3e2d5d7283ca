-- The canonical text of an expression reads back to it.
use Rattle.std.proofs.Common.{◌≡◌, ℕ, ◌^◌, ◌<◌, ◌≤◌, arith, true≢false, Bool, true, List, length, inl, inr, sym, ◌∙◌, subst}
use Rattle.std.specs.Prelude.{◌++◌, Result, Ok, Err, IfOk}
use Rattle.lv_bits.specs.declared.text.NoMemory.{NoMemory}
use Rattle.lv_print.specs.declared.paper.Paper.{Paper}
use Rattle.lv_print.specs.Paper.{with_tokens, end_gap, empty}
use Rattle.lv_print.proofs.Finished.{finished}
use Rattle.lv_ast.specs.declared.tokens.Token.{Token}
use Rattle.lv_ast.specs.declared.expr.Expr.{Expr}
use Rattle.lv_exprs.specs.Symbols.{symbols}
use Rattle.lv_exprs.specs.Forms.{Form, plain, based, sized, name, dot, bit, part, prefix, binary, choice, paren, cast, pair, brace, repeat, IsExpr, is_free, Valid, rank}
use Rattle.lv_exprs.specs.Forms as forms
use Rattle.lv_exprs.specs.Trees.{tree}
use Rattle.lv_print.specs.Written.{text_of}
use Rattle.lv_print.specs.Expressions.{expr_tokens}
use Rattle.lv_print.specs.Unplaced as unplaced
use Rattle.lv_print.specs.Reads.{IsSpelledExpr, ReadsBackExpr, ExprsReadBack}
use Rattle.lv_print.proofs.Tokenized.{AreWhole, Are, plain_at, folded, are}
use Rattle.lv_print.proofs.TreeBack.{TreeAgain, TreeBack}
use Rattle.lv_print.proofs.ExprBack.{AllGood, LiteralAgain, LiteralBack, literal_back, back}
use Rattle.lv_print.proofs.GoodTokens.{good_symbols}

-- of an expression, or of a literal with free bits
pub record ExprAgain (p : Bool) (bytes : List ℕ) (ts : List Token) (x : Expr) : Type 0 where
  pub form : Form
  pub spells : symbols bytes ts ≡ forms.text form
  pub valid : IsExpr p form
  pub same : unplaced.expr (tree bytes form) ≡ unplaced.expr x

pub record ExprBack (p : Bool) (x : Expr) : Type 0 where
  pub whole : AreWhole (expr_tokens x)
  pub again : (bytes : List ℕ) (ts : List Token) → Are bytes ts (expr_tokens x) → ExprAgain p bytes ts x

pub tree_of : (p : Bool) (x : Expr) → TreeBack p x → ExprBack p x
tree_of p x h = record {
  whole = h.whole;
  again = λ bytes ts a.
      let q : TreeAgain p bytes ts x = h.again bytes ts a in
      let tight : 13 ≤ rank q.form = q.tight in
      record { form = q.form; spells = q.spells; valid = inl (q.valid, omega (arith, tight)); same = q.same };
}

of-literal : (old : List ℕ) (p : Bool) (x : Form) → is_free x ≡ true → LiteralBack old p x → ExprBack p (tree old x)
of-literal old p x f h = record {
  whole = h.whole;
  again = λ bytes ts a.
      let q : LiteralAgain old p bytes ts x = h.again bytes ts a in
      record { form = q.form; spells = q.spells; valid = inr (q.free ∙ f); same = q.same };
}

free-back : (old : List ℕ) (p : Bool) (x : Form) → is_free x ≡ true → AllGood old (forms.text x) → ExprBack p (tree old x)
free-back old p (based b) f h = of-literal old p (based b) f (literal_back old p (based b) f h)
free-back old p (sized n b) f h = of-literal old p (sized n b) f (literal_back old p (sized n b) f h)
free-back old p _ f h = absurd (true≢false (sym f))

pub expr_back : (old : List ℕ) (p : Bool) (x : Form) → IsExpr p x → AllGood old (forms.text x) → ExprBack p (tree old x)
expr_back old p x (inl v) h = tree_of p (tree old x) ((back old p x v.0 h).as_tree v.1)
expr_back old p x (inr f) h = free-back old p x f h

pub exprs_read_back : ExprsReadBack
exprs_read_back p x s small =
    let good : AllGood s.text (forms.text s.form) = subst (AllGood s.text) (sym s.spells) (good_symbols s.text s.tokens s.small s.whole) in
    let b : ExprBack p x = subst (ExprBack p) s.tree (expr_back s.text p s.form s.valid good) in
    let q : ExprAgain p (text_of (expr_tokens x)) (plain_at 0 (expr_tokens x)) x = b.again (text_of (expr_tokens x)) (plain_at 0 (expr_tokens x)) (are (expr_tokens x) small) in
    record { tokens = plain_at 0 (expr_tokens x); folded = folded (expr_tokens x) b.whole; form = q.form; valid = q.valid; spells = sym q.spells; same = q.same }

pub printed_expr : (x : Expr) (r : Result (List ℕ) NoMemory) (p q : Paper) → p ≡ empty → q ≡ with_tokens p (expr_tokens x) → IfOk r (λ t. t ≡ q.bytes ++ end_gap q.last) →
    IfOk r (λ t. length t < 2 ^ 64) →
    IfOk r (λ t. (b : Bool) → IsSpelledExpr b x → ReadsBackExpr b x t)
printed_expr x (Ok t) p q e f g h = λ b s.
    let i : t ≡ text_of (expr_tokens x) = finished (expr_tokens x) p q t e f g in
    subst (ReadsBackExpr b x) (sym i) (exprs_read_back b x s (subst (λ z. length z < 2 ^ 64) i h))
printed_expr x (Err n) p q e f g h = tt
