-- The tokens of a tree are whole, and where they stand in a text they spell a tree that is the same but for places: from its parts.
use Rattle.std.proofs.Common.{◌≡◌, ℕ, ◌≤◌, Bool, true, false, List, [], ◌∷◌, ◌++◌, map, Option, Some, None, refl, sym, ap, ◌∙◌, subst, arith, append_assoc, append-nil, true≢false}
use Rattle.std.specs.Prelude.{codes}
use Rattle.lv_bits.specs.declared.op.Op.{Op}
use Rattle.lv_ast.specs.Tokens.{kind_of, is_word, is_mark, is_digit}
use Rattle.lv_ast.specs.declared.tokens.Token.{Token}
use Rattle.lv_ast.specs.declared.expr.Expr.{Expr}
use Rattle.lv_ast.specs.declared.expr.Expr.TheVariants as e
use Rattle.lv_exprs.specs.declared.symbol.Sign.{Sign}
use Rattle.lv_exprs.specs.declared.symbol.Divider.TheVariants as d
use Rattle.lv_exprs.specs.declared.symbol.Symbol.{Symbol}
use Rattle.lv_exprs.specs.declared.symbol.Symbol.TheVariants as t
use Rattle.lv_exprs.specs.Levels.{level, leads}
use Rattle.lv_exprs.specs.Symbols.{symbols, mark_symbol, kind_symbol}
use Rattle.lv_exprs.specs.Forms.{Form, plain, based, sized, name, dot, bit, part, prefix, binary, choice, paren, cast, pair, brace, repeat, text, rank, Valid, is_plain}
use Rattle.lv_exprs.specs.Trees.{trees, tree, number_in, unary, infix_tree}
use Rattle.lv_print.specs.Written.{Written, mark, others, commas}
use Rattle.lv_print.specs.Expressions.{parens, braces, between_tokens, cast_word, op_bytes, expr_tokens}
use Rattle.lv_print.specs.Unplaced as unplaced
use Rattle.lv_print.proofs.UnplacedRules.{unplaced-Un, unplaced-Cond, unplaced-Cat, unplaced-Rep, unplaced-Cast}
use Rattle.lv_print.proofs.Papers.{tokens-Un, tokens-Cond, tokens-Cat, tokens-Rep, tokens-Cast, others-more, others-none}
use Rattle.lv_print.proofs.Tokenized.{IsWhole, AreWhole, Are}
use Rattle.lv_print.proofs.Spelled.{whole_mark, whole_append, Enclosed, enclosed, Middle, middle, Behind, behind_of, at_mark, at_written, spells_cons}

-- a plain literal and its number
abbrev pub is_number : Expr → Bool
is_number (e.Lit l) = l.plain
is_number _ = false

abbrev pub number : Expr → Option ℕ
number (e.Lit l) = Some l.value
number _ = None

-- the marks that are written
marks-whole : IsWhole (mark (codes "(")) × IsWhole (mark (codes ")")) × IsWhole (mark (codes "{")) × IsWhole (mark (codes "}")) × IsWhole (mark (codes "[")) × IsWhole (mark (codes "]")) ×
    IsWhole (mark (codes ",")) × IsWhole (mark (codes ":")) × IsWhole (mark (codes "?"))
unfolding kind_of is_mark is_digit
marks-whole = (whole_mark _ refl, whole_mark _ refl, whole_mark _ refl, whole_mark _ refl, whole_mark _ refl, whole_mark _ refl, whole_mark _ refl, whole_mark _ refl, whole_mark _ refl)

pub comma_whole : IsWhole (mark (codes ","))
comma_whole = marks-whole.6

pub enclosed_whole : (m n : List ℕ) (a : List Written) → IsWhole (mark m) → IsWhole (mark n) → AreWhole a → AreWhole (mark m ∷ (a ++ (mark n ∷ [])))
enclosed_whole m n a h i j = (h, whole_append a (mark n ∷ []) j (i, tt))

pub parens_whole : (a : List Written) → AreWhole a → AreWhole (parens a)
parens_whole a h = enclosed_whole _ _ a marks-whole.0 marks-whole.1 h

pub braces_whole : (a : List Written) → AreWhole a → AreWhole (braces a)
braces_whole a h = enclosed_whole _ _ a marks-whole.2 marks-whole.3 h

pub brackets_whole : (a : List Written) → AreWhole a → AreWhole (mark (codes "[") ∷ (a ++ (mark (codes "]") ∷ [])))
brackets_whole a h = enclosed_whole _ _ a marks-whole.4 marks-whole.5 h

pub middle_whole : (m : List ℕ) (a b : List Written) → IsWhole (mark m) → AreWhole a → AreWhole b → AreWhole (a ++ (mark m ∷ b))
middle_whole m a b h i j = whole_append a (mark m ∷ b) i (h, j)

module _ (p : Bool) where
  -- these tokens spell a tree like x by a form that binds as tightly as an operand
  pub record TreeAgain (bytes : List ℕ) (ts : List Token) (x : Expr) : Type 0 where
    pub form : Form
    pub spells : symbols bytes ts ≡ text form
    pub valid : Valid p form
    pub tight : 13 ≤ rank form
    pub same : unplaced.expr (tree bytes form) ≡ unplaced.expr x
    pub plain : is_number x ≡ true → (is_plain form ≡ true) × (number_in form ≡ number x)

  pub record TreeBack (x : Expr) : Type 0 where
    pub whole : AreWhole (expr_tokens x)
    pub again : (bytes : List ℕ) (ts : List Token) → Are bytes ts (expr_tokens x) → TreeAgain bytes ts x

  pub record ListAgain (bytes : List ℕ) (ts : List Token) (xs : List Expr) : Type 0 where
    pub form : Form
    pub spells : symbols bytes ts ≡ text form
    pub valid : Valid p form
    pub same : map unplaced.expr (trees bytes form) ≡ map unplaced.expr xs

  pub record ListBack (xs : List Expr) : Type 0 where
    pub whole : AreWhole (commas (map expr_tokens xs))
    pub again : (bytes : List ℕ) (ts : List Token) → Are bytes ts (commas (map expr_tokens xs)) → ListAgain bytes ts xs

  -- no plain literal
  never : (x : Expr) (f : Form) → is_number x ≡ false → is_number x ≡ true → (is_plain f ≡ true) × (number_in f ≡ number x)
  never x f h e = absurd (true≢false (sym e ∙ h))

  -- a form that is no list has one tree
  pub one_tree : (bytes : List ℕ) (f : Form) → 1 ≤ rank f → trees bytes f ≡ tree bytes f ∷ []
  one_tree bytes (plain n) h = refl
  one_tree bytes (based b) h = refl
  one_tree bytes (sized n b) h = refl
  one_tree bytes (name n) h = refl
  one_tree bytes (dot x n) h = refl
  one_tree bytes (bit x i) h = refl
  one_tree bytes (part r x i j) h = refl
  one_tree bytes (prefix s x) h = refl
  one_tree bytes (binary s x y) h = refl
  one_tree bytes (choice c x y) h = refl
  one_tree bytes (paren x) h = refl
  one_tree bytes (cast b x) h = refl
  one_tree bytes (pair x y) h = absurd (omega (arith, h))
  one_tree bytes (brace x) h = refl
  one_tree bytes (repeat c x) h = refl

  one-commas : (x : List Written) → commas (x ∷ []) ≡ x
  one-commas x = ap (λ z. x ++ z) others-none ∙ append-nil x

  -- ---- lists

  pub list_of_one : (x : Expr) → TreeBack x → ListBack (x ∷ [])
  list_of_one x h = record {
    whole = subst AreWhole (sym (one-commas (expr_tokens x))) h.whole;
    again = λ bytes ts a.
        let q : TreeAgain bytes ts x = h.again bytes ts (subst (Are bytes ts) (one-commas (expr_tokens x)) a) in
        record {
          form = q.form;
          spells = q.spells;
          valid = q.valid;
          same = (let tight : 13 ≤ rank q.form = q.tight in ap (map unplaced.expr) (one_tree bytes q.form (omega (arith, tight))) ∙ ap (λ z. z ∷ []) q.same);
        };
  }

  others-snoc : (xs : List (List Written)) (y : List Written) → others (xs ++ (y ∷ [])) ≡ others xs ++ (mark (codes ",") ∷ y)
  others-snoc [] y = others-more y [] ∙ ap (λ z. mark (codes ",") ∷ (y ++ z)) others-none ∙ ap (λ z. mark (codes ",") ∷ z) (append-nil y) ∙ ap (λ z. z ++ (mark (codes ",") ∷ y)) (sym others-none)
  others-snoc (x ∷ xs) y =
      others-more x (xs ++ (y ∷ [])) ∙ ap (λ z. mark (codes ",") ∷ (x ++ z)) (others-snoc xs y) ∙
      ap (λ z. mark (codes ",") ∷ z) (sym (append_assoc x (others xs) (mark (codes ",") ∷ y))) ∙ ap (λ z. z ++ (mark (codes ",") ∷ y)) (sym (others-more x xs))

  map-snoc : {A B : Type 0} (f : A → B) (xs : List A) (y : A) → map f (xs ++ (y ∷ [])) ≡ map f xs ++ (f y ∷ [])
  map-snoc f [] y = refl
  map-snoc f (x ∷ xs) y = ap (λ z. f x ∷ z) (map-snoc f xs y)

  commas-snoc : (x : Expr) (xs : List Expr) (y : Expr) → commas (map expr_tokens ((x ∷ xs) ++ (y ∷ []))) ≡ commas (map expr_tokens (x ∷ xs)) ++ (mark (codes ",") ∷ expr_tokens y)
  commas-snoc x xs y =
      ap (λ z. expr_tokens x ++ others z) (map-snoc expr_tokens xs y) ∙ ap (λ z. expr_tokens x ++ z) (others-snoc (map expr_tokens xs) (expr_tokens y)) ∙
      sym (append_assoc (expr_tokens x) (others (map expr_tokens xs)) (mark (codes ",") ∷ expr_tokens y))

  pub list_snoc : (x : Expr) (xs : List Expr) (y : Expr) → ListBack (x ∷ xs) → TreeBack y → ListBack ((x ∷ xs) ++ (y ∷ []))
  list_snoc x xs y h i = record {
    whole = subst AreWhole (sym (commas-snoc x xs y)) (middle_whole (codes ",") _ _ comma_whole h.whole i.whole);
    again = λ bytes ts a.
        let m : Middle bytes ts (commas (map expr_tokens (x ∷ xs))) (expr_tokens y) t.Comma = middle bytes ts (codes ",") _ _ t.Comma refl (subst (Are bytes ts) (commas-snoc x xs y) a) in
        let l : ListAgain bytes m.left (x ∷ xs) = h.again bytes m.left m.left_are in
        let r : TreeAgain bytes m.right y = i.again bytes m.right m.right_are in
        let tight : 13 ≤ rank r.form = r.tight in
        record {
          form = pair l.form r.form;
          spells = m.spells (text l.form) (text r.form) l.spells r.spells;
          valid = (l.valid, r.valid, omega (arith, tight));
          same =
              map-snoc unplaced.expr (trees bytes l.form) (tree bytes r.form) ∙ ap (λ z. z ++ (unplaced.expr (tree bytes r.form) ∷ [])) l.same ∙
              ap (λ z. map unplaced.expr (x ∷ xs) ++ (z ∷ [])) r.same ∙ sym (map-snoc unplaced.expr (x ∷ xs) y);
        };
  }

  -- ---- operators

  pub unary_back : (op : Op) (s : Sign) → mark_symbol (op_bytes op) ≡ t.Sign s → leads s ≡ true → ((x : Expr) → unary s x ≡ e.Un op x) → IsWhole (mark (op_bytes op)) →
      (x : Expr) → TreeBack x → TreeBack (e.Un op x)
  unary_back op s f l u w x h = record {
    whole = subst AreWhole (sym (tokens-Un op x)) (parens_whole (mark (op_bytes op) ∷ expr_tokens x) (w, h.whole));
    again = λ bytes ts a.
        let c : Enclosed bytes ts (mark (op_bytes op) ∷ expr_tokens x) t.LeftParen t.RightParen = enclosed bytes ts (codes "(")
        (codes ")") _ t.LeftParen t.RightParen refl refl (subst (Are bytes ts) (tokens-Un op x) a) in
        let b : Behind bytes c.inside (mark (op_bytes op)) (expr_tokens x) = behind_of bytes c.inside _ _ c.are in
        let q : TreeAgain bytes b.rest x = h.again bytes b.rest b.are in
        let tight : 13 ≤ rank q.form = q.tight in
        record {
          form = paren (prefix s q.form);
          spells = c.spells (t.Sign s ∷ text q.form) (spells_cons bytes b.token c.inside b.rest (t.Sign s) (text q.form) b.cut (at_mark bytes b.token (op_bytes op) (t.Sign s) f b.at) q.spells);
          valid = ((q.valid, omega (arith, tight), l), omega arith);
          tight = omega arith;
          same = ap unplaced.expr (u (tree bytes q.form)) ∙ unplaced-Un op (tree bytes q.form) ∙ ap (e.Un op) q.same ∙ sym (unplaced-Un op x);
          plain = never (e.Un op x) (paren (prefix s q.form)) refl;
        };
  }

  pub infix_back : (m : List ℕ) (s : Sign) (build : Expr → Expr → Expr) → mark_symbol m ≡ t.Sign s → 2 ≤ level s → level s ≤ 11 → IsWhole (mark m) →
      ((a b : Expr) → expr_tokens (build a b) ≡ between_tokens m (expr_tokens a) (expr_tokens b)) → ((a b : Expr) → infix_tree s a b ≡ build a b) →
      ((a b : Expr) → unplaced.expr (build a b) ≡ build (unplaced.expr a) (unplaced.expr b)) → ((a b : Expr) → is_number (build a b) ≡ false) →
      (x y : Expr) → TreeBack x → TreeBack y → TreeBack (build x y)
  infix_back m s build f low high w tokens built un np x y h i = record {
    whole = subst AreWhole (sym (tokens x y)) (parens_whole _ (middle_whole m _ _ w h.whole i.whole));
    again = λ bytes ts a.
        let c : Enclosed bytes ts (expr_tokens x ++ (mark m ∷ expr_tokens y)) t.LeftParen t.RightParen = enclosed bytes ts (codes "(")
        (codes ")") _ t.LeftParen t.RightParen refl refl (subst (Are bytes ts) (tokens x y) a) in
        let b : Middle bytes c.inside (expr_tokens x) (expr_tokens y) (t.Sign s) = middle bytes c.inside m _ _ (t.Sign s) f c.are in
        let q : TreeAgain bytes b.left x = h.again bytes b.left b.left_are in
        let r : TreeAgain bytes b.right y = i.again bytes b.right b.right_are in
        let qt : 13 ≤ rank q.form = q.tight in
        let rt : 13 ≤ rank r.form = r.tight in
        record {
          form = paren (binary s q.form r.form);
          spells = c.spells (text q.form ++ (t.Sign s ∷ text r.form)) (b.spells (text q.form) (text r.form) q.spells r.spells);
          valid = ((q.valid, r.valid, omega (arith, qt, high), omega (arith, rt, high), low), omega (arith, low));
          tight = omega arith;
          same = ap unplaced.expr (built (tree bytes q.form) (tree bytes r.form)) ∙ un _ _ ∙ ap (λ z. build z (unplaced.expr (tree bytes r.form))) q.same ∙
              ap (build (unplaced.expr x)) r.same ∙ sym (un x y);
          plain = never (build x y) (paren (binary s q.form r.form)) (np x y);
        };
  }

  pub choice_back : (c x y : Expr) → TreeBack c → TreeBack x → TreeBack y → TreeBack (e.Cond c x y)
  choice_back c x y h i j = record {
    whole = subst AreWhole (sym (tokens-Cond c x y)) (parens_whole _ (middle_whole (codes "?") _ _ marks-whole.8 h.whole (middle_whole (codes ":") _ _ marks-whole.7 i.whole j.whole)));
    again = λ bytes ts a.
        let n : Enclosed bytes ts (expr_tokens c ++ (mark (codes "?") ∷ (expr_tokens x ++ (mark (codes ":") ∷ expr_tokens y)))) t.LeftParen t.RightParen =
        enclosed bytes ts (codes "(") (codes ")") _ t.LeftParen t.RightParen refl refl (subst (Are bytes ts) (tokens-Cond c x y) a) in
        let m : Middle bytes n.inside (expr_tokens c) (expr_tokens x ++ (mark (codes ":") ∷ expr_tokens y)) t.Question = middle bytes n.inside (codes "?") _ _ t.Question refl n.are in
        let l : Middle bytes m.right (expr_tokens x) (expr_tokens y) (t.Divider d.Colon) = middle bytes m.right (codes ":") _ _ (t.Divider d.Colon) refl m.right_are in
        let q : TreeAgain bytes m.left c = h.again bytes m.left m.left_are in
        let r : TreeAgain bytes l.left x = i.again bytes l.left l.left_are in
        let s : TreeAgain bytes l.right y = j.again bytes l.right l.right_are in
        let qt : 13 ≤ rank q.form = q.tight in
        let rt : 13 ≤ rank r.form = r.tight in
        let st : 13 ≤ rank s.form = s.tight in
        record {
          form = paren (choice q.form r.form s.form);
          spells = n.spells _ (m.spells (text q.form) _ q.spells (l.spells (text r.form) (text s.form) r.spells s.spells));
          valid = ((q.valid, r.valid, s.valid, omega (arith, qt), omega (arith, rt), omega (arith, st)), omega arith);
          tight = omega arith;
          same =
              unplaced-Cond (tree bytes q.form) (tree bytes r.form) (tree bytes s.form) ∙ ap (λ z. e.Cond z (unplaced.expr (tree bytes r.form)) (unplaced.expr (tree bytes s.form))) q.same ∙
              ap (λ z. e.Cond (unplaced.expr c) z (unplaced.expr (tree bytes s.form))) r.same ∙ ap (e.Cond (unplaced.expr c) (unplaced.expr x)) s.same ∙ sym (unplaced-Cond c x y);
          plain = never (e.Cond c x y) (paren (choice q.form r.form s.form)) refl;
        };
  }

  -- ---- concatenations and casts

  pub brace_back : (xs : List Expr) → ListBack xs → TreeBack (e.Cat xs)
  brace_back xs h = record {
    whole = subst AreWhole (sym (tokens-Cat xs)) (braces_whole _ h.whole);
    again = λ bytes ts a.
        let c : Enclosed bytes ts (commas (map expr_tokens xs)) t.LeftBrace t.RightBrace = enclosed bytes ts (codes "{")
        (codes "}") _ t.LeftBrace t.RightBrace refl refl (subst (Are bytes ts) (tokens-Cat xs) a) in
        let q : ListAgain bytes c.inside xs = h.again bytes c.inside c.are in
        record {
          form = brace q.form;
          spells = c.spells (text q.form) q.spells;
          valid = q.valid;
          tight = omega arith;
          same = unplaced-Cat (trees bytes q.form) ∙ ap e.Cat q.same ∙ sym (unplaced-Cat xs);
          plain = never (e.Cat xs) (brace q.form) refl;
        };
  }

  two-ends : (a b : List Symbol) (l r : Symbol) → l ∷ ((a ++ (l ∷ (b ++ (r ∷ [])))) ++ (r ∷ [])) ≡ l ∷ (a ++ (l ∷ (b ++ (r ∷ r ∷ []))))
  two-ends a b l r = ap (λ z. l ∷ z) (append_assoc a (l ∷ (b ++ (r ∷ []))) (r ∷ []) ∙ ap (λ z. a ++ (l ∷ z)) (append_assoc b (r ∷ []) (r ∷ [])))

  pub repeat_back : (n : Expr) (xs : List Expr) → TreeBack n → ListBack xs → TreeBack (e.Rep n xs)
  repeat_back n xs h i = record {
    whole = subst AreWhole (sym (tokens-Rep n xs)) (braces_whole _ (whole_append (expr_tokens n) _ h.whole (braces_whole _ i.whole)));
    again = λ bytes ts a.
        let c : Enclosed bytes ts (expr_tokens n ++ braces (commas (map expr_tokens xs))) t.LeftBrace t.RightBrace =
        enclosed bytes ts (codes "{") (codes "}") _ t.LeftBrace t.RightBrace refl refl (subst (Are bytes ts) (tokens-Rep n xs) a) in
        let m : Middle bytes c.inside (expr_tokens n) (commas (map expr_tokens xs) ++ (mark (codes "}") ∷ [])) t.LeftBrace = middle bytes c.inside (codes "{") _ _ t.LeftBrace refl c.are in
        let l : Middle bytes m.right (commas (map expr_tokens xs)) [] t.RightBrace = middle bytes m.right (codes "}") _ [] t.RightBrace refl m.right_are in
        let q : TreeAgain bytes m.left n = h.again bytes m.left m.left_are in
        let r : ListAgain bytes l.left xs = i.again bytes l.left l.left_are in
        let qt : 13 ≤ rank q.form = q.tight in
        record {
          form = repeat q.form r.form;
          spells =
              c.spells _ (m.spells (text q.form) _ q.spells (l.spells (text r.form) [] r.spells (ap (symbols bytes) l.right_are))) ∙
              two-ends (text q.form) (text r.form) t.LeftBrace t.RightBrace;
          valid = (q.valid, omega (arith, qt), r.valid);
          tight = omega arith;
          same =
              unplaced-Rep (tree bytes q.form) (trees bytes r.form) ∙ ap (λ z. e.Rep z (map unplaced.expr (trees bytes r.form))) q.same ∙ ap (e.Rep (unplaced.expr n)) r.same ∙ sym (unplaced-Rep n xs);
          plain = never (e.Rep n xs) (repeat q.form r.form) refl;
        };
  }

  cast-whole : (b : Bool) → IsWhole (cast_word b)
  unfolding kind_of is_word is_mark is_digit
  cast-whole true = record { ordinary = refl; kind = refl; apostrophe = λ h. absurd (true≢false (sym h)) }
  cast-whole false = record { ordinary = refl; kind = refl; apostrophe = λ h. absurd (true≢false (sym h)) }

  cast-symbol : (b : Bool) (start end : ℕ) → kind_symbol (cast_word b).kind (cast_word b).bytes start end ≡ t.Cast b
  cast-symbol true start end = refl
  cast-symbol false start end = refl

  pub cast_back : (b : Bool) (x : Expr) → TreeBack x → TreeBack (e.Cast b x)
  cast_back b x h = record {
    whole = subst AreWhole (sym (tokens-Cast b x)) (cast-whole b, parens_whole _ h.whole);
    again = λ bytes ts a.
        let w : Behind bytes ts (cast_word b) (parens (expr_tokens x)) = behind_of bytes ts _ _ (subst (Are bytes ts) (tokens-Cast b x) a) in
        let c : Enclosed bytes w.rest (expr_tokens x) t.LeftParen t.RightParen = enclosed bytes w.rest (codes "(") (codes ")") _ t.LeftParen t.RightParen refl refl w.are in
        let q : TreeAgain bytes c.inside x = h.again bytes c.inside c.are in
        let qt : 13 ≤ rank q.form = q.tight in
        record {
          form = cast b q.form;
          spells = spells_cons bytes w.token ts w.rest (t.Cast b) _ w.cut (at_written bytes w.token (cast_word b) (t.Cast b) (cast-symbol b w.token.start w.token.end) w.at)
              (c.spells (text q.form) q.spells);
          valid = (q.valid, omega (arith, qt));
          tight = omega arith;
          same = unplaced-Cast b (tree bytes q.form) ∙ ap (e.Cast b) q.same ∙ sym (unplaced-Cast b x);
          plain = never (e.Cast b x) (cast b q.form) refl;
        };
  }
