-- What is written of an expression that tokens spell is read as that expression: by induction on its form.
use Rattle.std.proofs.Common.{◌≡◌, ℕ, ◌+◌, ◌%◌, ◌^◌, ◌<◌, ◌≤◌, nat_lt, Bool, true, false, ◌&&◌, List, [], ◌∷◌, ◌++◌, map, Some, None, refl, sym, ap, ◌∙◌, subst, arith, append_assoc, append-nil, true≢false}
use Rattle.std.specs.Prelude.{codes}
use Rattle.std.proofs.Math.Nat.{mod-mod, mod-le}
use Rattle.lv_bits.specs.declared.op.Op.{Op}
use Rattle.lv_bits.specs.declared.op.Op.TheVariants as o
use Rattle.lv_ast.specs.Tokens.{kind_of, is_mark, is_digit}
use Rattle.lv_ast.specs.declared.tokens.Kind.TheVariants as kinds
use Rattle.lv_ast.specs.declared.tokens.Token.{Token}
use Rattle.lv_ast.specs.declared.expr.PathStep.{PathStep}
use Rattle.lv_ast.specs.declared.expr.Expr.{Expr}
use Rattle.lv_ast.specs.declared.expr.Expr.TheVariants as e
use Rattle.lv_ast.specs.declared.expr.Select.{Select}
use Rattle.lv_ast.specs.declared.expr.Select.TheVariants as s
use Rattle.lv_exprs.specs.declared.symbol.Sign.{Sign}
use Rattle.lv_exprs.specs.declared.symbol.Sign.TheVariants as g
use Rattle.lv_exprs.specs.declared.symbol.Divider.{Divider}
use Rattle.lv_exprs.specs.declared.symbol.Divider.TheVariants as d
use Rattle.lv_exprs.specs.declared.symbol.Name.{Name}
use Rattle.lv_exprs.specs.declared.symbol.Number.{Number}
use Rattle.lv_exprs.specs.declared.symbol.Based.{Based}
use Rattle.lv_exprs.specs.declared.symbol.Symbol.{Symbol}
use Rattle.lv_exprs.specs.declared.symbol.Symbol.TheVariants as t
use Rattle.lv_exprs.specs.Levels.{level, leads}
use Rattle.lv_exprs.specs.Literals.{based_of}
use Rattle.lv_exprs.specs.Symbols.{symbols, mark_symbol}
use Rattle.lv_exprs.specs.Forms.{Form, plain, based, sized, name, dot, bit, part, prefix, binary, choice, paren, cast, pair, brace, repeat, text, rank, Valid, is_plain, is_path, is_step, is_free, cut}
use Rattle.lv_exprs.specs.Trees.{made, trees, tree, path, simple_path, bytes_of, number_in, index_of, unary, infix_tree, part_select, plain_literal, based_literal, sized_literal}
use Rattle.lv_print.specs.Written as w
use Rattle.lv_print.specs.Written.{Written, mark, joined}
use Rattle.lv_print.specs.Literals.{number_token, based_token, literal_tokens}
use Rattle.lv_print.specs.Expressions.{brackets, span_tokens, op_bytes, index_tokens, step_tokens, path_tokens, expr_tokens, select_tokens}
use Rattle.lv_print.specs.Unplaced as unplaced
use Rattle.lv_print.proofs.UnplacedRules.{unplaced-Lit, unplaced-Name, unplaced-Bin, unplaced-Div, unplaced-Rem, unplaced-Bit, unplaced-Part, unplaced-Up, unplaced-Down}
use Rattle.lv_print.proofs.Papers.{tokens-Lit, tokens-Name, tokens-Bin, tokens-Div, tokens-Rem, tokens-Bit, tokens-Part, tokens-Up, tokens-Down, joined-none, joined-more}
use Rattle.lv_print.proofs.Tokenized.{IsWhole, AreWhole, Are}
use Rattle.lv_print.proofs.FreeBack.{Apart}
use Rattle.lv_print.proofs.LiteralBack.{IsGiven, GivesBack, apart_cut, number_whole, number_back, based_whole, based_back}
use Rattle.lv_print.proofs.Spelled.{IsWritable, whole_mark, whole_name, whole_append, Behind, behind_of, Cut, cut_of, Enclosed, enclosed, Middle, middle, IsNamed, name_at, at_written, spells_cons, spells_append}
use Rattle.lv_print.proofs.TreeBack.{is_number, number, middle_whole, brackets_whole, TreeAgain, TreeBack, ListBack, one_tree, list_of_one, list_snoc, unary_back, infix_back, choice_back, brace_back, repeat_back, cast_back}

-- ---- what good tokens give

pub record AreGivenBits (b : Based) : Type 0 where
  pub value : b.value < 2 ^ 128
  pub wild : b.wild < 2 ^ 128
  pub apart : Apart b.value b.wild

abbrev pub Good : List ℕ → Symbol → Type 0
Good bytes (t.Name n) = IsWritable (bytes_of bytes n)
Good bytes (t.Number n) = n.value < 2 ^ 128
Good bytes (t.Based b) = AreGivenBits b
Good bytes _ = Unit {0}

abbrev pub AllGood : List ℕ → List Symbol → Type 0
AllGood bytes [] = Unit {0}
AllGood bytes (k ∷ ks) = Good bytes k × AllGood bytes ks

good-cut : (bytes : List ℕ) (a b : List Symbol) → AllGood bytes (a ++ b) → AllGood bytes a × AllGood bytes b
good-cut bytes [] b h = (tt, h)
good-cut bytes (k ∷ a) b h = let q = good-cut bytes a b h.1 in ((h.0, q.0), q.1)

good-front : (bytes : List ℕ) (a b : List Symbol) → AllGood bytes (a ++ b) → AllGood bytes a
good-front bytes a b h = (good-cut bytes a b h).0

good-back : (bytes : List ℕ) (a : List Symbol) (k : Symbol) (b : List Symbol) → AllGood bytes (a ++ (k ∷ b)) → AllGood bytes b
good-back bytes a k b h = (good-cut bytes a (k ∷ b) h).1.1

-- ---- signs

level-high : (s : Sign) → level s ≤ 11
level-high g.BarBar = omega arith
level-high g.AmpAmp = omega arith
level-high g.Bar = omega arith
level-high g.Caret = omega arith
level-high g.TildeCaret = omega arith
level-high g.CaretTilde = omega arith
level-high g.Amp = omega arith
level-high g.EqualEqual = omega arith
level-high g.BangEqual = omega arith
level-high g.Less = omega arith
level-high g.LessEqual = omega arith
level-high g.Greater = omega arith
level-high g.GreaterEqual = omega arith
level-high g.LessLess = omega arith
level-high g.LessLessLess = omega arith
level-high g.GreaterGreater = omega arith
level-high g.GreaterGreaterGreater = omega arith
level-high g.Plus = omega arith
level-high g.Minus = omega arith
level-high g.Star = omega arith
level-high g.Slash = omega arith
level-high g.Percent = omega arith
level-high _ = omega arith

module _ (p : Bool) where
  un : (op : Op) (s : Sign) → mark_symbol (op_bytes op) ≡ t.Sign s → leads s ≡ true → ((x : Expr) → unary s x ≡ e.Un op x) → kind_of (op_bytes op) ≡ Some kinds.Mark → (x : Expr) →
      TreeBack p x → TreeBack p (e.Un op x)
  un op s f l u k x h = unary_back p op s f l u (whole_mark (op_bytes op) k) x h

  prefix-back : (s : Sign) → leads s ≡ true → (x : Expr) → TreeBack p x → TreeBack p (unary s x)
  unfolding kind_of is_mark is_digit
  prefix-back g.Plus l x h = h
  prefix-back g.Minus l x h = un o.Neg g.Minus refl refl (λ y. refl) refl x h
  prefix-back g.Tilde l x h = un o.Not g.Tilde refl refl (λ y. refl) refl x h
  prefix-back g.Bang l x h = un o.LogNot g.Bang refl refl (λ y. refl) refl x h
  prefix-back g.Amp l x h = un o.RedAnd g.Amp refl refl (λ y. refl) refl x h
  prefix-back g.Bar l x h = un o.RedOr g.Bar refl refl (λ y. refl) refl x h
  prefix-back g.Caret l x h = un o.RedXor g.Caret refl refl (λ y. refl) refl x h
  prefix-back g.TildeAmp l x h = un o.LogNot g.Bang refl refl (λ y. refl) refl _ (un o.RedAnd g.Amp refl refl (λ y. refl) refl x h)
  prefix-back g.TildeBar l x h = un o.LogNot g.Bang refl refl (λ y. refl) refl _ (un o.RedOr g.Bar refl refl (λ y. refl) refl x h)
  prefix-back g.TildeCaret l x h = un o.LogNot g.Bang refl refl (λ y. refl) refl _ (un o.RedXor g.Caret refl refl (λ y. refl) refl x h)
  prefix-back g.CaretTilde l x h = un o.LogNot g.Bang refl refl (λ y. refl) refl _ (un o.RedXor g.Caret refl refl (λ y. refl) refl x h)
  prefix-back _ l x h = absurd (true≢false (sym l))

  bin : (op : Op) (s : Sign) → mark_symbol (op_bytes op) ≡ t.Sign s → 2 ≤ level s → kind_of (op_bytes op) ≡ Some kinds.Mark → ((a b : Expr) → infix_tree s a b ≡ e.Bin op a b) →
      (x y : Expr) → TreeBack p x → TreeBack p y → TreeBack p (e.Bin op x y)
  bin op s f low k built x y h i = infix_back p (op_bytes op) s (e.Bin op) f low (level-high s) (whole_mark (op_bytes op) k) (tokens-Bin op) built (unplaced-Bin op) (λ a b. refl) x y h i

  infix-back : (s : Sign) → 2 ≤ level s → (x y : Expr) → TreeBack p x → TreeBack p y → TreeBack p (infix_tree s x y)
  unfolding kind_of is_mark is_digit
  infix-back g.BarBar l x y h i = bin o.LogOr g.BarBar refl (omega arith) refl (λ a b. refl) x y h i
  infix-back g.AmpAmp l x y h i = bin o.LogAnd g.AmpAmp refl (omega arith) refl (λ a b. refl) x y h i
  infix-back g.Bar l x y h i = bin o.Or g.Bar refl (omega arith) refl (λ a b. refl) x y h i
  infix-back g.Caret l x y h i = bin o.Xor g.Caret refl (omega arith) refl (λ a b. refl) x y h i
  infix-back g.TildeCaret l x y h i = bin o.Xnor g.TildeCaret refl (omega arith) refl (λ a b. refl) x y h i
  infix-back g.CaretTilde l x y h i = bin o.Xnor g.TildeCaret refl (omega arith) refl (λ a b. refl) x y h i
  infix-back g.Amp l x y h i = bin o.And g.Amp refl (omega arith) refl (λ a b. refl) x y h i
  infix-back g.EqualEqual l x y h i = bin o.Eq g.EqualEqual refl (omega arith) refl (λ a b. refl) x y h i
  infix-back g.BangEqual l x y h i = bin o.Ne g.BangEqual refl (omega arith) refl (λ a b. refl) x y h i
  infix-back g.Less l x y h i = bin o.Lt g.Less refl (omega arith) refl (λ a b. refl) x y h i
  infix-back g.LessEqual l x y h i = bin o.Le g.LessEqual refl (omega arith) refl (λ a b. refl) x y h i
  infix-back g.Greater l x y h i = bin o.Gt g.Greater refl (omega arith) refl (λ a b. refl) x y h i
  infix-back g.GreaterEqual l x y h i = bin o.Ge g.GreaterEqual refl (omega arith) refl (λ a b. refl) x y h i
  infix-back g.LessLess l x y h i = bin o.Shl g.LessLess refl (omega arith) refl (λ a b. refl) x y h i
  infix-back g.LessLessLess l x y h i = bin o.Shl g.LessLess refl (omega arith) refl (λ a b. refl) x y h i
  infix-back g.GreaterGreater l x y h i = bin o.Shr g.GreaterGreater refl (omega arith) refl (λ a b. refl) x y h i
  infix-back g.GreaterGreaterGreater l x y h i = bin o.Sar g.GreaterGreaterGreater refl (omega arith) refl (λ a b. refl) x y h i
  infix-back g.Plus l x y h i = bin o.Add g.Plus refl (omega arith) refl (λ a b. refl) x y h i
  infix-back g.Minus l x y h i = bin o.Sub g.Minus refl (omega arith) refl (λ a b. refl) x y h i
  infix-back g.Star l x y h i = bin o.Mul g.Star refl (omega arith) refl (λ a b. refl) x y h i
  infix-back g.Slash l x y h i = infix_back p (codes "/") g.Slash e.Div refl (omega arith) (omega arith) (whole_mark (codes "/") refl) tokens-Div (λ a b. refl) unplaced-Div (λ a b. refl) x y h i
  infix-back g.Percent l x y h i = infix_back p (codes "%") g.Percent e.Rem refl (omega arith) (omega arith) (whole_mark (codes "%") refl) tokens-Rem (λ a b. refl) unplaced-Rem (λ a b. refl) x y h i
  infix-back _ l x y h i = absurd (omega (arith, l))

-- ---- literals

module _ (old : List ℕ) (p : Bool) where
  -- a literal, which may have free bits
  pub record LiteralAgain (bytes : List ℕ) (ts : List Token) (x : Form) : Type 0 where
    pub form : Form
    pub spells : symbols bytes ts ≡ text form
    pub valid : is_free x ≡ false → Valid p form
    pub free : is_free form ≡ is_free x
    pub tight : 13 ≤ rank form
    pub same : unplaced.expr (tree bytes form) ≡ unplaced.expr (tree old x)

  pub record LiteralBack (x : Form) : Type 0 where
    pub whole : AreWhole (expr_tokens (tree old x))
    pub again : (bytes : List ℕ) (ts : List Token) → Are bytes ts (expr_tokens (tree old x)) → LiteralAgain bytes ts x

  plain-tokens : (n : Number) → expr_tokens (e.Lit (plain_literal n)) ≡ number_token n.value ∷ []
  unfolding literal_tokens
  plain-tokens n = tokens-Lit (plain_literal n)

  plain-back : (n : Number) → n.value < 2 ^ 128 → TreeBack p (e.Lit (plain_literal n))
  plain-back n h = record {
    whole = subst AreWhole (sym (plain-tokens n)) (number_whole n.value h, tt);
    again = λ bytes ts a.
        let b : Behind bytes ts (number_token n.value) [] = behind_of bytes ts _ _ (subst (Are bytes ts) (plain-tokens n) a) in
        record {
          form = plain (record { place = b.token.start; value = n.value });
          spells =
              spells_cons bytes b.token ts b.rest _ [] b.cut
              (at_written bytes b.token (number_token n.value) _ (ap t.Number (number_back n.value b.token.start h)) b.at) (ap (symbols bytes) b.are);
          valid = tt;
          tight = omega arith;
          same = unplaced-Lit _ ∙ sym (unplaced-Lit (plain_literal n));
          plain = λ _. (refl, refl);
        };
  }

  given-based : (b : Based) → AreGivenBits b → IsGiven (based_literal b)
  given-based b h = record { value = h.value; wild = h.wild; apart = h.apart; value_cut = refl; wild_cut = refl }

  cut-small : (n x : ℕ) → x < 2 ^ 128 → cut n x < 2 ^ 128
  cut-small n x h = let l : x % 2 ^ n ≤ x = mod-le x (2 ^ n) in omega (arith, h, l)

  given-sized : (n : Number) (b : Based) → AreGivenBits b → IsGiven (sized_literal n b)
  given-sized n b h = record {
    value = cut-small n.value b.value h.value;
    wild = cut-small n.value b.wild h.wild;
    apart = apart_cut n.value b.value b.wild h.apart;
    value_cut = mod-mod b.value (2 ^ n.value);
    wild_cut = mod-mod b.wild (2 ^ n.value);
  }

  based-tokens : (b : Based) → expr_tokens (e.Lit (based_literal b)) ≡ based_token (based_literal b) ∷ []
  unfolding literal_tokens
  based-tokens b = tokens-Lit (based_literal b)

  sized-tokens : (n : Number) (b : Based) → expr_tokens (e.Lit (sized_literal n b)) ≡ number_token n.value ∷ based_token (sized_literal n b) ∷ []
  unfolding literal_tokens
  sized-tokens n b = tokens-Lit (sized_literal n b)

  based-literal-back : (b : Based) → AreGivenBits b → LiteralBack (based b)
  based-literal-back b h = record {
    whole = subst AreWhole (sym (based-tokens b)) (based_whole (based_literal b) (given-based b h), tt);
    again = λ bytes ts a.
        let q : Behind bytes ts (based_token (based_literal b)) [] = behind_of bytes ts _ _ (subst (Are bytes ts) (based-tokens b) a) in
        let c : Based = based_of q.token.start (based_token (based_literal b)).bytes in
        let back : GivesBack (based_literal b) c = based_back (based_literal b) q.token.start (given-based b h) in
        let free : is_free (based c) ≡ is_free (based b) = ap (nat_lt 0) back.wild in
        record {
          form = based c;
          spells = spells_cons bytes q.token ts q.rest (t.Based c) [] q.cut (at_written bytes q.token (based_token (based_literal b)) (t.Based c) refl q.at) (ap (symbols bytes) q.are);
          valid = λ f. free ∙ f;
          free = free;
          tight = omega arith;
          same =
              unplaced-Lit (based_literal c) ∙
              ap e.Lit (λ i. record { size = None; plain = false; signed = back.signed i; value = back.value i; wild = back.wild i; place = 0 }) ∙ sym (unplaced-Lit (based_literal b));
        };
  }

  sized-literal-back : (n : Number) (b : Based) → n.value < 2 ^ 128 → AreGivenBits b → LiteralBack (sized n b)
  sized-literal-back n b m h = record {
    whole = subst AreWhole (sym (sized-tokens n b)) (number_whole n.value m, (based_whole (sized_literal n b) (given-sized n b h), tt));
    again = λ bytes ts a.
        let r : Behind bytes ts (number_token n.value) (based_token (sized_literal n b) ∷ []) = behind_of bytes ts _ _ (subst (Are bytes ts) (sized-tokens n b) a) in
        let q : Behind bytes r.rest (based_token (sized_literal n b)) [] = behind_of bytes r.rest _ _ r.are in
        let k : Number = record { place = r.token.start; value = n.value } in
        let c : Based = based_of q.token.start (based_token (sized_literal n b)).bytes in
        let back : GivesBack (sized_literal n b) c = based_back (sized_literal n b) q.token.start (given-sized n b h) in
        let free : is_free (sized k c) ≡ is_free (sized n b) = ap (nat_lt 0) back.wild in
        record {
          form = sized k c;
          spells =
              spells_cons bytes r.token ts r.rest (t.Number k) (t.Based c ∷ []) r.cut (at_written bytes r.token (number_token n.value) (t.Number k)
              (ap t.Number (number_back n.value r.token.start m)) r.at)
              (spells_cons bytes q.token r.rest q.rest (t.Based c) [] q.cut (at_written bytes q.token (based_token (sized_literal n b)) (t.Based c) refl q.at) (ap (symbols bytes) q.are));
          valid = λ f. free ∙ f;
          free = free;
          tight = omega arith;
          same =
              unplaced-Lit (sized_literal k c) ∙
              ap e.Lit (λ i. record { size = Some n.value; plain = false; signed = back.signed i; value = back.value i; wild = back.wild i; place = 0 }) ∙ sym (unplaced-Lit (sized_literal n b));
        };
  }

  tree_of_literal : (x : Form) → is_number (tree old x) ≡ false → is_free x ≡ false → LiteralBack x → TreeBack p (tree old x)
  tree_of_literal x n f h = record {
    whole = h.whole;
    again = λ bytes ts a.
        let q : LiteralAgain bytes ts x = h.again bytes ts a in
        record { form = q.form; spells = q.spells; valid = q.valid f; tight = q.tight; same = q.same; plain = λ i. absurd (true≢false (sym i ∙ n)) };
  }

  -- ---- names

  pub record NameAgain (bytes : List ℕ) (ts : List Token) (x : Form) : Type 0 where
    pub form : Form
    pub spells : symbols bytes ts ≡ text form
    pub valid : Valid p form
    pub tight : 14 ≤ rank form
    pub path : unplaced.path (path bytes form) ≡ unplaced.path (path old x)
    pub selects : map unplaced.select (made bytes form).selects ≡ map unplaced.select (made old x).selects
    pub is_path : is_path x ≡ true → is_path form ≡ true
    pub step : is_step x ≡ true → (is_step form ≡ true) × (index_of form ≡ index_of x)

  pub record NameBack (x : Form) : Type 0 where
    pub whole : AreWhole (expr_tokens (tree old x))
    pub again : (bytes : List ℕ) (ts : List Token) → Are bytes ts (expr_tokens (tree old x)) → NameAgain bytes ts x

  named-tree : (bytes : List ℕ) (f : Form) → 14 ≤ rank f → tree bytes f ≡ e.Name (path bytes f) (made bytes f).selects
  named-tree bytes (plain n) h = absurd (omega (arith, h))
  named-tree bytes (based b) h = absurd (omega (arith, h))
  named-tree bytes (sized n b) h = absurd (omega (arith, h))
  named-tree bytes (name n) h = refl
  named-tree bytes (dot x n) h = refl
  named-tree bytes (bit x i) h = refl
  named-tree bytes (part r x i j) h = refl
  named-tree bytes (prefix s x) h = absurd (omega (arith, h))
  named-tree bytes (binary s x y) h = absurd (let l : level s ≤ 11 = level-high s in omega (arith, h, l))
  named-tree bytes (choice c x y) h = absurd (omega (arith, h))
  named-tree bytes (paren x) h = absurd (omega (arith, h))
  named-tree bytes (cast b x) h = absurd (omega (arith, h))
  named-tree bytes (pair x y) h = absurd (omega (arith, h))
  named-tree bytes (brace x) h = absurd (omega (arith, h))
  named-tree bytes (repeat c x) h = absurd (omega (arith, h))

  tree_of_name : (x : Form) → 14 ≤ rank x → NameBack x → TreeBack p (tree old x)
  tree_of_name x r h = record {
    whole = h.whole;
    again = λ bytes ts a.
        let q : NameAgain bytes ts x = h.again bytes ts a in
        let qt : 14 ≤ rank q.form = q.tight in
        record {
          form = q.form;
          spells = q.spells;
          valid = q.valid;
          tight = omega (arith, qt);
          same =
              ap unplaced.expr (named-tree bytes q.form qt) ∙ unplaced-Name (path bytes q.form) (made bytes q.form).selects ∙
              ap (λ z. e.Name z (map unplaced.select (made bytes q.form).selects)) q.path ∙ ap (e.Name (unplaced.path (path old x))) q.selects ∙
              sym (unplaced-Name (path old x) (made old x).selects) ∙ ap unplaced.expr (sym (named-tree old x r));
          plain = λ i. absurd (true≢false (sym i ∙ ap is_number (named-tree old x r)));
        };
  }

  simple-tokens : (s : List ℕ) (place : ℕ) → path_tokens (record { steps = []; name = s; place = place }) ++ joined [] ≡ w.name s ∷ []
  unfolding path_tokens joined
  simple-tokens s place = refl

  name-back : (n : Name) → IsWritable (bytes_of old n) → NameBack (name n)
  name-back n h =
      let same : expr_tokens (tree old (name n)) ≡ w.name (bytes_of old n) ∷ [] = tokens-Name (simple_path old n) [] ∙ simple-tokens (bytes_of old n) n.place in
      record {
        whole = subst AreWhole (sym same) (whole_name (bytes_of old n) h, tt);
        again = λ bytes ts a.
            let b : Behind bytes ts (w.name (bytes_of old n)) [] = behind_of bytes ts _ _ (subst (Are bytes ts) same a) in
            let q : IsNamed bytes b.token (bytes_of old n) = name_at bytes b.token (bytes_of old n) b.at in
            record {
              form = name q.name;
              spells = spells_cons bytes b.token ts b.rest (t.Name q.name) [] b.cut q.symbol (ap (symbols bytes) b.are);
              valid = tt;
              tight = omega arith;
              path = λ i. record { steps = []; name = q.bytes i; place = 0 };
              selects = refl;
              is_path = λ _. refl;
              step = λ _. (refl, refl);
            };
      }

  joined-snoc : (xs : List (List Written)) (y : List Written) → joined (xs ++ (y ∷ [])) ≡ joined xs ++ y
  joined-snoc [] y = joined-more y [] ∙ ap (λ z. y ++ z) joined-none ∙ append-nil y ∙ ap (λ z. z ++ y) (sym joined-none)
  joined-snoc (x ∷ xs) y = joined-more x (xs ++ (y ∷ [])) ∙ ap (λ z. x ++ z) (joined-snoc xs y) ∙ sym (append_assoc x (joined xs) y) ∙ ap (λ z. z ++ y) (sym (joined-more x xs))

  map-snoc : {A B : Type 0} (f : A → B) (xs : List A) (y : A) → map f (xs ++ (y ∷ [])) ≡ map f xs ++ (f y ∷ [])
  map-snoc f [] y = refl
  map-snoc f (x ∷ xs) y = ap (λ z. f x ∷ z) (map-snoc f xs y)

  both : (a b : Bool) → (a && b) ≡ true → (a ≡ true) × (b ≡ true)
  both true b h = (refl, h)
  both false b h = absurd (true≢false (sym h))

  -- ---- steps of paths

  plain-index : (i : Form) → is_plain i ≡ true → index_tokens (number_in i) ≡ brackets (expr_tokens (tree old i))
  plain-index (plain n) h = ap brackets (sym (plain-tokens n))
  plain-index _ h = absurd (true≢false (sym h))

  plain-number : (i : Form) → is_plain i ≡ true → (is_number (tree old i) ≡ true) × (number (tree old i) ≡ number_in i)
  plain-number (plain n) h = (refl, refl)
  plain-number _ h = absurd (true≢false (sym h))

  path-selects : (x : Form) → is_path x ≡ true → (made old x).selects ≡ []
  path-selects (name n) h = refl
  path-selects (dot x n) h = refl
  path-selects _ h = absurd (true≢false (sym h))

  one-select : (a : Expr) → joined (map select_tokens (s.Bit a ∷ [])) ≡ brackets (expr_tokens a)
  one-select a = joined-more (select_tokens (s.Bit a)) [] ∙ ap (λ z. select_tokens (s.Bit a) ++ z) joined-none ∙ append-nil (select_tokens (s.Bit a)) ∙ tokens-Bit a

  step-index : (x : Form) → is_step x ≡ true → index_tokens (index_of x) ≡ joined (map select_tokens (made old x).selects)
  step-index (name n) h = sym joined-none
  step-index (dot x n) h = sym joined-none
  step-index (bit x i) h =
      let q = both (is_path x) (is_plain i) h in
      plain-index i q.1 ∙ sym (one-select (tree old i)) ∙ ap (λ z. joined (map select_tokens (z ++ (s.Bit (tree old i) ∷ [])))) (sym (path-selects x q.0))
  step-index _ h = absurd (true≢false (sym h))

  step-rank : (x : Form) → is_step x ≡ true → 14 ≤ rank x
  step-rank (name n) h = omega arith
  step-rank (dot x n) h = omega arith
  step-rank (bit x i) h = omega arith
  step-rank _ h = absurd (true≢false (sym h))

  -- the tokens of a path that goes on
  steps-more : (ps : List PathStep) (q : PathStep) (n : List ℕ) (place : ℕ) (i : List Written) → index_tokens q.index ≡ i →
      path_tokens (record { steps = ps ++ (q ∷ []); name = n; place = place }) ++ joined [] ≡ ((path_tokens (record {
        steps = ps;
        name = q.name;
        place = place;
      })) ++ i) ++ (mark (codes ".") ∷ w.name n ∷ [])
  unfolding path_tokens
  steps-more ps q n place i h =
      let j : List Written = joined (map step_tokens ps) in
      ap (λ z. (joined (map step_tokens (ps ++ (q ∷ []))) ++ (w.name n ∷ [])) ++ z) joined-none ∙ append-nil (joined (map step_tokens (ps ++ (q ∷ []))) ++ (w.name n ∷ [])) ∙
      ap (λ z. joined z ++ (w.name n ∷ [])) (map-snoc step_tokens ps q) ∙ ap (λ z. z ++ (w.name n ∷ [])) (joined-snoc (map step_tokens ps) (step_tokens q)) ∙
      append_assoc j (step_tokens q) (w.name n ∷ []) ∙ ap (λ z. j ++ (w.name q.name ∷ z)) (append_assoc (index_tokens q.index) (mark (codes ".") ∷ []) (w.name n ∷ [])) ∙
      ap (λ z. j ++ (w.name q.name ∷ (z ++ (mark (codes ".") ∷ w.name n ∷ [])))) h ∙
      sym (append_assoc (j ++ (w.name q.name ∷ [])) i (mark (codes ".") ∷ w.name n ∷ []) ∙ append_assoc j (w.name q.name ∷ []) (i ++ (mark (codes ".") ∷ w.name n ∷ [])))

  dot-tokens : (x : Form) (n : Name) → is_step x ≡ true → expr_tokens (tree old (dot x n)) ≡ expr_tokens (tree old x) ++ (mark (codes ".") ∷ w.name (bytes_of old n) ∷ [])
  dot-tokens x n h =
      tokens-Name (path old (dot x n)) [] ∙
      steps-more (path old x).steps (record { name = (path old x).name; index = index_of x }) (bytes_of old n) (path old x).place (joined (map select_tokens (made old x).selects)) (step-index x h) ∙
      ap (λ z. z ++ (mark (codes ".") ∷ w.name (bytes_of old n) ∷ [])) (sym (tokens-Name (path old x) (made old x).selects) ∙ ap expr_tokens (sym (named-tree old x (step-rank x h))))

  dot-whole : IsWhole (mark (codes "."))
  unfolding kind_of is_mark is_digit
  dot-whole = whole_mark _ refl

  dot-back : (x : Form) (n : Name) → is_step x ≡ true → p ≡ true → IsWritable (bytes_of old n) → NameBack x → NameBack (dot x n)
  dot-back x n st pt good h = record {
    whole = subst AreWhole (sym (dot-tokens x n st)) (whole_append (expr_tokens (tree old x)) _ h.whole (dot-whole, (whole_name (bytes_of old n) good, tt)));
    again = λ bytes ts a.
        let m : Middle bytes ts (expr_tokens (tree old x)) (w.name (bytes_of old n) ∷ []) t.Dot = middle bytes ts (codes ".") _ _ t.Dot refl (subst (Are bytes ts) (dot-tokens x n st) a) in
        let q : NameAgain bytes m.left x = h.again bytes m.left m.left_are in
        let b : Behind bytes m.right (w.name (bytes_of old n)) [] = behind_of bytes m.right _ _ m.right_are in
        let r : IsNamed bytes b.token (bytes_of old n) = name_at bytes b.token (bytes_of old n) b.at in
        let s : (is_step q.form ≡ true) × (index_of q.form ≡ index_of x) = q.step st in
        record {
          form = dot q.form r.name;
          spells = m.spells (text q.form) (t.Name r.name ∷ []) q.spells (spells_cons bytes b.token m.right b.rest (t.Name r.name) [] b.cut r.symbol (ap (symbols bytes) b.are));
          valid = (q.valid, s.0, pt);
          tight = omega arith;
          path = λ i. record { steps = (q.path i).steps ++ (record { name = (q.path i).name; index = s.1 i } ∷ []); name = r.bytes i; place = 0 };
          selects = refl;
          is_path = λ _. refl;
          step = λ _. (refl, refl);
        };
  }

  -- ---- selects

  select-tokens : (x : Form) (y : Select) → 14 ≤ rank x → expr_tokens (e.Name (path old x) ((made old x).selects ++ (y ∷ []))) ≡ expr_tokens (tree old x) ++ select_tokens y
  select-tokens x y r =
      tokens-Name (path old x) ((made old x).selects ++ (y ∷ [])) ∙ ap (λ z. path_tokens (path old x) ++ joined z) (map-snoc select_tokens (made old x).selects y) ∙
      ap (λ z. path_tokens (path old x) ++ z) (joined-snoc (map select_tokens (made old x).selects) (select_tokens y)) ∙
      sym (append_assoc (path_tokens (path old x)) (joined (map select_tokens (made old x).selects)) (select_tokens y)) ∙
      ap (λ z. z ++ select_tokens y) (sym (tokens-Name (path old x) (made old x).selects) ∙ ap expr_tokens (sym (named-tree old x r)))

  bit-back : (x i : Form) → 14 ≤ rank x → NameBack x → TreeBack p (tree old i) → NameBack (bit x i)
  bit-back x i xr h j =
      let same : expr_tokens (tree old (bit x i)) ≡ expr_tokens (tree old x) ++ brackets (expr_tokens (tree old i)) =
      select-tokens x (s.Bit (tree old i)) xr ∙ ap (λ z. expr_tokens (tree old x) ++ z) (tokens-Bit (tree old i)) in
      record {
        whole = subst AreWhole (sym same) (whole_append _ _ h.whole (brackets_whole _ j.whole));
        again = λ bytes ts a.
            let c : Cut bytes ts (expr_tokens (tree old x)) (brackets (expr_tokens (tree old i))) = cut_of bytes ts _ _ (subst (Are bytes ts) same a) in
            let n : Enclosed bytes c.back (expr_tokens (tree old i)) t.LeftBracket t.RightBracket = enclosed bytes c.back (codes "[") (codes "]") _ t.LeftBracket t.RightBracket refl refl c.back_are in
            let q : NameAgain bytes c.front x = h.again bytes c.front c.front_are in
            let r : TreeAgain p bytes n.inside (tree old i) = j.again bytes n.inside n.are in
            let rt : 13 ≤ rank r.form = r.tight in
            record {
              form = bit q.form r.form;
              spells = spells_append bytes ts c.front c.back (text q.form) _ c.cut q.spells (n.spells (text r.form) r.spells);
              valid = (q.valid, q.tight, r.valid, omega (arith, rt));
              tight = omega arith;
              path = q.path;
              selects =
                  map-snoc unplaced.select (made bytes q.form).selects (s.Bit (tree bytes r.form)) ∙ ap (λ z. z ++ (unplaced.select (s.Bit (tree bytes r.form)) ∷ [])) q.selects ∙
                  ap (λ z. map unplaced.select (made old x).selects ++ (z ∷ [])) (unplaced-Bit (tree bytes r.form) ∙ ap s.Bit r.same ∙ sym (unplaced-Bit (tree old i))) ∙
                  sym (map-snoc unplaced.select (made old x).selects (s.Bit (tree old i)));
              is_path = λ f. absurd (true≢false (sym f));
              step = λ f.
                  let z = both (is_path x) (is_plain i) f in
                  let k = plain-number i z.1 in
                  let l = r.plain k.0 in
                  (ap (λ b. b && is_plain r.form) (q.is_path z.0) ∙ l.0, l.1 ∙ k.1);
            };
      }

  abbrev divider_bytes : Divider → List ℕ
  divider_bytes d.Colon = codes ":"
  divider_bytes d.Up = codes "+:"
  divider_bytes d.Down = codes "-:"

  divider-symbol : (r : Divider) → mark_symbol (divider_bytes r) ≡ t.Divider r
  divider-symbol d.Colon = refl
  divider-symbol d.Up = refl
  divider-symbol d.Down = refl

  divider-whole : (r : Divider) → IsWhole (mark (divider_bytes r))
  unfolding kind_of is_mark is_digit
  divider-whole d.Colon = whole_mark _ refl
  divider-whole d.Up = whole_mark _ refl
  divider-whole d.Down = whole_mark _ refl

  span-tokens : (r : Divider) (a b : Expr) → select_tokens (part_select r a b) ≡ span_tokens (divider_bytes r) (expr_tokens a) (expr_tokens b)
  span-tokens d.Colon a b = tokens-Part a b
  span-tokens d.Up a b = tokens-Up a b
  span-tokens d.Down a b = tokens-Down a b

  span-unplaced : (r : Divider) (a b : Expr) → unplaced.select (part_select r a b) ≡ part_select r (unplaced.expr a) (unplaced.expr b)
  span-unplaced d.Colon a b = unplaced-Part a b
  span-unplaced d.Up a b = unplaced-Up a b
  span-unplaced d.Down a b = unplaced-Down a b

  part-back : (d : Divider) (x i j : Form) → 14 ≤ rank x → NameBack x → TreeBack p (tree old i) → TreeBack p (tree old j) → NameBack (part d x i j)
  part-back v x i j xr h k l =
      let sel : Select = part_select v (tree old i) (tree old j) in
      let same : expr_tokens (tree old (part v x i j)) ≡ expr_tokens (tree old x) ++ span_tokens (divider_bytes v) (expr_tokens (tree old i)) (expr_tokens (tree old j)) =
      select-tokens x sel xr ∙ ap (λ z. expr_tokens (tree old x) ++ z) (span-tokens v (tree old i) (tree old j)) in
      record {
        whole = subst AreWhole (sym same) (whole_append _ _ h.whole (brackets_whole _ (middle_whole (divider_bytes v) _ _ (divider-whole v) k.whole l.whole)));
        again = λ bytes ts a.
            let c : Cut bytes ts (expr_tokens (tree old x)) (span_tokens (divider_bytes v) (expr_tokens (tree old i)) (expr_tokens (tree old j))) = cut_of bytes ts _ _ (subst (Are bytes ts) same a) in
            let n : Enclosed bytes c.back (expr_tokens (tree old i) ++ (mark (divider_bytes v) ∷ expr_tokens (tree old j))) t.LeftBracket t.RightBracket =
            enclosed bytes c.back (codes "[") (codes "]") _ t.LeftBracket t.RightBracket refl refl c.back_are in
            let m : Middle bytes n.inside (expr_tokens (tree old i)) (expr_tokens (tree old j)) (t.Divider v) = middle bytes n.inside (divider_bytes v) _ _ (t.Divider v) (divider-symbol v) n.are in
            let q : NameAgain bytes c.front x = h.again bytes c.front c.front_are in
            let r : TreeAgain p bytes m.left (tree old i) = k.again bytes m.left m.left_are in
            let u : TreeAgain p bytes m.right (tree old j) = l.again bytes m.right m.right_are in
            let rt : 13 ≤ rank r.form = r.tight in
            let ut : 13 ≤ rank u.form = u.tight in
            let new : Select = part_select v (tree bytes r.form) (tree bytes u.form) in
            record {
              form = part v q.form r.form u.form;
              spells =
                  spells_append bytes ts c.front c.back (text q.form) _ c.cut q.spells
                  (n.spells _ (m.spells (text r.form) (text u.form) r.spells u.spells) ∙ ap (λ z. t.LeftBracket ∷ z) (append_assoc (text r.form) (t.Divider v ∷ text u.form) (t.RightBracket ∷ [])));
              valid = (q.valid, q.tight, r.valid, omega (arith, rt), u.valid, omega (arith, ut));
              tight = omega arith;
              path = q.path;
              selects =
                  map-snoc unplaced.select (made bytes q.form).selects new ∙ ap (λ z. z ++ (unplaced.select new ∷ [])) q.selects ∙
                  ap (λ z. map unplaced.select (made old x).selects ++ (z ∷ []))
                  (span-unplaced v (tree bytes r.form) (tree bytes u.form) ∙ ap (λ z. part_select v z (unplaced.expr (tree bytes u.form))) r.same ∙
                  ap (part_select v (unplaced.expr (tree old i))) u.same ∙
                  sym (span-unplaced v (tree old i) (tree old j))) ∙
                  sym (map-snoc unplaced.select (made old x).selects sel);
              is_path = λ f. absurd (true≢false (sym f));
              step = λ f. absurd (true≢false (sym f));
            };
      }

  -- ---- literals with free bits

  pub literal_back : (x : Form) → is_free x ≡ true → AllGood old (text x) → LiteralBack x
  literal_back (based b) f h = based-literal-back b h.0
  literal_back (sized n b) f h = sized-literal-back n b h.0 h.1.0
  literal_back _ f h = absurd (true≢false (sym f))

  -- ---- all forms

  pub record Back (x : Form) : Type 0 where
    pub as_tree : 1 ≤ rank x → TreeBack p (tree old x)
    pub as_list : ListBack p (trees old x)
    pub some : (y : Expr) × (ys : List Expr) × (trees old x ≡ y ∷ ys)
    pub as_name : 14 ≤ rank x → NameBack x

  of-tree : (x : Form) → 1 ≤ rank x → (14 ≤ rank x → ⊥) → TreeBack p (tree old x) → Back x
  of-tree x r n h = record {
    as_tree = λ _. h;
    as_list = subst (ListBack p) (sym (one_tree p old x r)) (list_of_one p (tree old x) h);
    some = (tree old x, [], one_tree p old x r);
    as_name = λ m. absurd (n m);
  }

  of-name : (x : Form) → 14 ≤ rank x → NameBack x → Back x
  of-name x r h = record {
    as_tree = λ _. tree_of_name x r h;
    as_list = subst (ListBack p) (sym (one_tree p old x (omega (arith, r)))) (list_of_one p (tree old x) (tree_of_name x r h));
    some = (tree old x, [], one_tree p old x (omega (arith, r)));
    as_name = λ _. h;
  }

  pair-list : (y : Expr) (ys : List Expr) (zs : List Expr) (x : Expr) → zs ≡ y ∷ ys → ListBack p zs → TreeBack p x → ListBack p (zs ++ (x ∷ []))
  pair-list y ys zs x f h i = subst (λ z. ListBack p (z ++ (x ∷ []))) (sym f) (list_snoc p y ys x (subst (ListBack p) f h) i)

  of-pair : (x y : Form) → Back x → TreeBack p (tree old y) → Back (pair x y)
  of-pair x y h i = record {
    as_tree = λ r. absurd (omega (arith, r));
    as_list = pair-list h.some.0 h.some.1 (trees old x) (tree old y) h.some.2 h.as_list i;
    some = (h.some.0, h.some.1 ++ (tree old y ∷ []), ap (λ z. z ++ (tree old y ∷ [])) h.some.2);
    as_name = λ r. absurd (omega (arith, r));
  }

  pub back : (x : Form) → Valid p x → AllGood old (text x) → Back x
  back (plain n) v h = of-tree (plain n) (omega arith) (λ r. omega (arith, r)) (plain-back n h.0)
  back (based b) v h = of-tree (based b) (omega arith) (λ r. omega (arith, r)) (tree_of_literal (based b) refl v (based-literal-back b h.0))
  back (sized n b) v h = of-tree (sized n b) (omega arith) (λ r. omega (arith, r)) (tree_of_literal (sized n b) refl v (sized-literal-back n b h.0 h.1.0))
  back (name n) v h = of-name (name n) (omega arith) (name-back n h.0)
  back (dot x n) v h =
      let i : Back x = back x v.0 (good-front old (text x) _ h) in
      let c = good-cut old (text x) (t.Dot ∷ t.Name n ∷ []) h in
      of-name (dot x n) (omega arith) (dot-back x n v.1 v.2 c.1.1.0 (i.as_name (step-rank x v.1)))
  back (bit x i) v h =
      let c = good-cut old (text x) (t.LeftBracket ∷ (text i ++ (t.RightBracket ∷ []))) h in
      of-name (bit x i) (omega arith) (bit-back x i v.1 ((back x v.0 c.0).as_name v.1) ((back i v.2 (good-front old (text i) _ c.1.1)).as_tree v.3))
  back (part r x i j) v h =
      let c = good-cut old (text x) (t.LeftBracket ∷ (text i ++ (t.Divider r ∷ (text j ++ (t.RightBracket ∷ []))))) h in
      let k = good-cut old (text i) (t.Divider r ∷ (text j ++ (t.RightBracket ∷ []))) c.1.1 in
      of-name (part r x i j) (omega arith) (part-back r x i j v.1 ((back x v.0 c.0).as_name v.1) ((back i v.2 k.0).as_tree v.3) ((back j v.4 (good-front old (text j) _ k.1.1)).as_tree v.5))
  back (prefix s x) v h =
      let xr : 12 ≤ rank x = v.1 in
      of-tree (prefix s x) (omega arith) (λ r. omega (arith, r)) (prefix-back p s v.2 (tree old x) ((back x v.0 h.1).as_tree (omega (arith, xr))))
  back (binary s x y) v h =
      let c = good-cut old (text x) (t.Sign s ∷ text y) h in
      let l : 2 ≤ level s = v.4 in
      let lx : level s ≤ rank x = v.2 in
      let ly : level s + 1 ≤ rank y = v.3 in
      let high : level s ≤ 11 = level-high s in
      of-tree (binary s x y) (omega (arith, l)) (λ r. omega (arith, r, high)) (infix-back p s l (tree old x) (tree old y) ((back x v.0 c.0).as_tree (omega (arith, l, lx)))
      ((back y v.1 c.1.1).as_tree (omega (arith, ly))))
  back (choice k x y) v h =
      let c = good-cut old (text k) (t.Question ∷ (text x ++ (t.Divider d.Colon ∷ text y))) h in
      let i = good-cut old (text x) (t.Divider d.Colon ∷ text y) c.1.1 in
      let kr : 2 ≤ rank k = v.3 in
      of-tree (choice k x y) (omega arith) (λ r. omega (arith, r))
      (choice_back p (tree old k) (tree old x) (tree old y) ((back k v.0 c.0).as_tree (omega (arith, kr))) ((back x v.1 i.0).as_tree v.4) ((back y v.2 i.1.1).as_tree v.5))
  back (paren x) v h = of-tree (paren x) (omega arith) (λ r. omega (arith, r)) ((back x v.0 (good-front old (text x) _ h.1)).as_tree v.1)
  back (cast b x) v h = of-tree (cast b x) (omega arith) (λ r. omega (arith, r)) (cast_back p b (tree old x) ((back x v.0 (good-front old (text x) _ h.1.1)).as_tree v.1))
  back (pair x y) v h =
      let c = good-cut old (text x) (t.Comma ∷ text y) h in
      of-pair x y (back x v.0 c.0) ((back y v.1 c.1.1).as_tree v.2)
  back (brace x) v h = of-tree (brace x) (omega arith) (λ r. omega (arith, r)) (brace_back p (trees old x) (back x v (good-front old (text x) _ h.1)).as_list)
  back (repeat k x) v h =
      let c = good-cut old (text k) (t.LeftBrace ∷ (text x ++ (t.RightBrace ∷ t.RightBrace ∷ []))) h.1 in
      of-tree (repeat k x) (omega arith) (λ r. omega (arith, r)) (repeat_back p (tree old k) (trees old x) ((back k v.0 c.0).as_tree v.1) (back x v.2 (good-front old (text x) _ c.1.1)).as_list)
