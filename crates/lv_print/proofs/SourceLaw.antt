-- The canonical text of a source reads back to it.
use Rattle.std.proofs.Common.{◌≡◌, ℕ, zero, suc, ◌^◌, ◌<◌, ◌≤◌, Bool, true, false, List, [], ◌∷◌, length, refl, sym, ap, ◌∙◌, subst, arith}
use Rattle.std.specs.Prelude.{◌++◌, Result, Ok, Err, IfOk}
use Rattle.lv_bits.specs.declared.text.NoMemory.{NoMemory}
use Rattle.lv_ast.specs.TokenLists.{is_token, are_tokens}
use Rattle.lv_ast.specs.declared.tokens.Token.{Token}
use Rattle.lv_ast.specs.declared.expr.Expr.{Expr}
use Rattle.lv_ast.specs.declared.item.Source.{Source}
use Rattle.lv_exprs.specs.Symbols.{symbols}
use Rattle.lv_exprs.specs.Forms.{Form, IsExpr, Valid, rank}
use Rattle.lv_exprs.specs.Forms as forms
use Rattle.lv_exprs.specs.Trees as trees
use Rattle.lv_exprs.proofs.FreeBits.{some_text}
use Rattle.lv_grammars.specs.Grammar.{Gram, leaf, call}
use Rattle.lv_grammars.specs.Spelling.{Calls, Limit, any, inside, Level, called}
use Rattle.lv_grammar.specs.Lexemes.{Lexeme, lexeme, lexemes, place_of}
use Rattle.lv_grammar.specs.Shapes.{Placed, Rule, tree_of, count_of, base}
use Rattle.lv_grammar.specs.Shapes as shapes
use Rattle.lv_grammar.specs.Leaves.{symbol_of, symbols_of, IsExpression, all}
use Rattle.lv_grammar.specs.Rules.{rules, source_rule}
use Rattle.lv_print.specs.declared.paper.Paper.{Paper}
use Rattle.lv_print.specs.Paper.{with_tokens, end_gap, empty}
use Rattle.lv_print.specs.Written.{Written, text_of}
use Rattle.lv_print.specs.Expressions.{expr_tokens}
use Rattle.lv_print.specs.Sources.{stmt_tokens, item_tokens, source_tokens}
use Rattle.lv_print.specs.UnplacedSources as bare_source
use Rattle.lv_print.specs.Reads.{IsSpelledSource, ReadsBackSource, SourcesReadBack}
use Rattle.lv_print.proofs.Finished.{finished}
use Rattle.lv_print.proofs.Tokenized.{Are, plain_at, folded, are}
use Rattle.lv_print.proofs.TreeBack.{TreeAgain, TreeBack}
use Rattle.lv_print.proofs.ExprBack.{AllGood, back}
use Rattle.lv_print.proofs.GoodTokens.{whole_token, good_symbols}
use Rattle.lv_print.proofs.ExprLaw.{ExprAgain, ExprBack, expr_back}
use Rattle.lv_print.proofs.ExprLaw as law
use Rattle.lv_print.proofs.Prints.{is_nil, AreGood, Prints}
use Rattle.lv_print.proofs.Inside.{placed_expr, placed_target, expr_printed, target_printed}
use Rattle.lv_print.proofs.Productions.{Parts}
use Rattle.lv_print.proofs.Productions as productions

-- ---- expressions

symbols-same : (bytes : List ℕ) (ts : List Token) → symbols bytes ts ≡ symbols_of (lexemes bytes ts)
symbols-same bytes [] = refl
symbols-same bytes (t ∷ ts) = ap (λ z. symbol_of (lexeme bytes t) ∷ z) (symbols-same bytes ts)

goods : (old : List ℕ) (us : List Lexeme) → AreGood old us → AllGood old (symbols_of us)
goods old [] h = tt
goods old (t ∷ us) h = (h.0.good, goods old us h.1)

some-tokens : (us : List Lexeme) (f : Form) → forms.text f ≡ symbols_of us → is_nil us ≡ false
some-tokens [] f h = absurd (some_text f h)
some-tokens (t ∷ us) f h = refl

-- an expression has tokens, since it would else be spelled by none
some-written : (p : Bool) (x : Expr) (ws : List Written) → expr_tokens x ≡ ws → ExprBack p x → is_nil ws ≡ false
some-written p x [] e h = (let q : ExprAgain p [] [] x = h.again [] [] (subst (Are [] []) (sym e) refl) in absurd (some_text q.form (sym q.spells)))
some-written p x (v ∷ ws) e h = refl

definite-back : (p : Bool) (x : Expr) → TreeBack p x → ExprBack p x
definite-back p x h = law.tree_of p x h

module _ (old : List ℕ) (C : Calls base) (C' : List ℕ → Calls base) where
  abbrev P : {A : Type 0} → Gram base A → (A → List Written) → (A → A) → Type 0
  P g c u = Prints old (IsExpression old) C IsExpression C' g c u

  value-leaf : P (leaf shapes.value) expr_printed placed_expr
  value-leaf = record {
    prints = λ us o x good s.
        let e : IsExpression old shapes.value us x = s.0 in
        let b : TreeBack false (trees.tree old e.form) = (back old false e.form e.valid.0 (subst (AllGood old) (sym e.spells) (goods old us good))).as_tree e.valid.1 in
        let h : TreeBack false x.tree = subst (TreeBack false) e.tree b in
        record {
          whole = h.whole;
          empty = some-tokens us e.form e.spells ∙ sym (some-written false x.tree (expr_tokens x.tree) refl (definite-back false x.tree h));
          again = λ bytes ts a.
              let q : TreeAgain false bytes ts x.tree = h.again bytes ts a in
              let tight : 13 ≤ rank q.form = q.tight in
              record {
                tree = record { tree = trees.tree bytes q.form; place = place_of (lexemes bytes ts) };
                spelled = (record { form = q.form; valid = (q.valid, omega (arith, tight)); spells = sym q.spells ∙ symbols-same bytes ts; tree = refl; place = refl }, s.1);
                same = λ i. record { tree = q.same i; place = 0 };
              };
        };
  }

  label-leaf : P (leaf shapes.label) expr_printed placed_expr
  label-leaf = record {
    prints = λ us o x good s.
        let e : IsExpression old shapes.label us x = s.0 in
        let b : ExprBack false (trees.tree old e.form) = expr_back old false e.form e.valid (subst (AllGood old) (sym e.spells) (goods old us good)) in
        let h : ExprBack false x.tree = subst (ExprBack false) e.tree b in
        record {
          whole = h.whole;
          empty = some-tokens us e.form e.spells ∙ sym (some-written false x.tree (expr_tokens x.tree) refl h);
          again = λ bytes ts a.
              let q : ExprAgain false bytes ts x.tree = h.again bytes ts a in
              record {
                tree = record { tree = trees.tree bytes q.form; place = place_of (lexemes bytes ts) };
                spelled = (record { form = q.form; valid = q.valid; spells = sym q.spells ∙ symbols-same bytes ts; tree = refl; place = refl }, s.1);
                same = λ i. record { tree = q.same i; place = 0 };
              };
        };
  }

-- ---- rules, as deep as they nest

module _ (old : List ℕ) where
  abbrev At : ℕ → (ℕ → Limit) → {A : Type 0} → Gram base A → (A → List Written) → (A → A) → Type 0
  At n d g c u = Prints old (IsExpression old) (Level base (IsExpression old) rules n d) IsExpression (λ bytes. Level base (IsExpression bytes) rules n d) g c u

  abbrev PartsAt : ℕ → (ℕ → Limit) → Type 0
  PartsAt n d = Parts old (IsExpression old) (Level base (IsExpression old) rules n d) IsExpression (λ bytes. Level base (IsExpression bytes) rules n d)

  none-at : (d : ℕ → Limit) (r : Rule) (c : tree_of r → List Written) (u : tree_of r → tree_of r) → At zero d (call r) c u
  none-at d r c u = record { prints = λ us o x good s. absurd s }

  one-deeper : (n : ℕ) (d : ℕ → Limit) (r : Rule) (c : tree_of r → List Written) (u : tree_of r → tree_of r) → At n (inside (count_of r) d) (rules r) c u → At (suc n) d (call r) c u
  one-deeper n d r c u h = record {
    prints = λ us o x good s.
        let q = h.prints us o x good s.1 in
        record {
          whole = q.whole;
          empty = q.empty;
          again = λ bytes ts a. (let m = q.again bytes ts a in record { tree = m.tree; spelled = (s.0, m.spelled); same = m.same });
        };
  }

  parts-at : (n : ℕ) (d : ℕ → Limit) → PartsAt n d
  parts-at zero d = record {
    value = value-leaf old _ _;
    label = label-leaf old _ _;
    target = none-at d shapes.target target_printed placed_target;
    stmt = none-at d shapes.stmt stmt_tokens bare_source.stmt;
    item = none-at d shapes.item item_tokens bare_source.item;
    block_item = none-at d shapes.block_item item_tokens bare_source.item;
  }
  parts-at (suc n) d = record {
    value = value-leaf old _ _;
    label = label-leaf old _ _;
    target = one-deeper n d shapes.target target_printed placed_target (productions.target_rule old _ _ _ _ (parts-at n (inside 0 d)));
    stmt = one-deeper n d shapes.stmt stmt_tokens bare_source.stmt (productions.stmt_rule old _ _ _ _ (parts-at n (inside 1 d)));
    item = one-deeper n d shapes.item item_tokens bare_source.item (productions.item_rule old _ _ _ _ (parts-at n (inside 2 d)));
    block_item = one-deeper n d shapes.block_item item_tokens bare_source.item (productions.block_item_rule old _ _ _ _ (parts-at n (inside 2 d)));
  }

  -- ---- the whole language

  abbrev Whole : {A : Type 0} → Gram base A → (A → List Written) → (A → A) → Type 0
  Whole g c u = Prints old (IsExpression old) (called base (all old)) IsExpression (λ bytes. called base (all bytes)) g c u

  at-some-depth : (r : Rule) (c : tree_of r → List Written) (u : tree_of r → tree_of r) → ((n : ℕ) → At n (λ k. any) (call r) c u) → Whole (call r) c u
  at-some-depth r c u h = record {
    prints = λ us o x good s.
        let q = (h s.0).prints us o x good s.1 in
        record {
          whole = q.whole;
          empty = q.empty;
          again = λ bytes ts a. (let m = q.again bytes ts a in record { tree = m.tree; spelled = (s.0, m.spelled); same = m.same });
        };
  }

  whole-parts : Parts old (IsExpression old) (called base (all old)) IsExpression (λ bytes. called base (all bytes))
  whole-parts = record {
    value = value-leaf old _ _;
    label = label-leaf old _ _;
    target = at-some-depth shapes.target target_printed placed_target (λ n. (parts-at n (λ k. any)).target);
    stmt = at-some-depth shapes.stmt stmt_tokens bare_source.stmt (λ n. (parts-at n (λ k. any)).stmt);
    item = at-some-depth shapes.item item_tokens bare_source.item (λ n. (parts-at n (λ k. any)).item);
    block_item = at-some-depth shapes.block_item item_tokens bare_source.item (λ n. (parts-at n (λ k. any)).block_item);
  }

  pub source_prints : Whole source_rule source_tokens bare_source.source
  source_prints = productions.source_rule old _ _ _ _ whole-parts

-- ---- the law

all-good : (old : List ℕ) (ts : List Token) → are_tokens old ts ≡ true → AllGood old (symbols old ts) → AreGood old (lexemes old ts)
all-good old [] h g = tt
all-good old (t ∷ ts) h g =
    let q = productions.both_true (is_token old t) (are_tokens old ts) h in
    (record { kind = (whole_token old t q.0).kind; good = g.0 }, all-good old ts q.1 g.1)

pub sources_read_back : SourcesReadBack
sources_read_back x s small =
    let good : AreGood s.text (lexemes s.text s.tokens) = all-good s.text s.tokens s.whole (good_symbols s.text s.tokens s.small s.whole) in
    let b = (source_prints s.text).prints (lexemes s.text s.tokens) s.ending x good s.spelled in
    let q = b.again (text_of (source_tokens x)) (plain_at 0 (source_tokens x)) (are (source_tokens x) small) in
    record { tokens = plain_at 0 (source_tokens x); folded = folded (source_tokens x) b.whole; tree = q.tree; ending = s.ending; spelled = q.spelled; same = q.same }

pub printed_source : (x : Source) (r : Result (List ℕ) NoMemory) (p q : Paper) → p ≡ empty → q ≡ with_tokens p (source_tokens x) → IfOk r (λ t. t ≡ q.bytes ++ end_gap q.last) →
    IfOk r (λ t. length t < 2 ^ 64) →
    IfOk r (λ t. IsSpelledSource x → ReadsBackSource x t)
printed_source x (Ok t) p q e f g h = λ s.
    let i : t ≡ text_of (source_tokens x) = finished (source_tokens x) p q t e f g in
    subst (ReadsBackSource x) (sym i) (sources_read_back x s (subst (λ z. length z < 2 ^ 64) i h))
printed_source x (Err n) p q e f g h = tt
