-- What is written of a tree of a grammar spells it again, but for places: from what is so of the grammar's parts. A printer c of a
-- grammar's trees goes with the function u that takes their places away.
use Rattle.std.proofs.Common.{◌≡◌, ℕ, Bool, true, false, ◌&&◌, ◌||◌, if◌then◌else◌, List, [], ◌∷◌, ◌++◌, map, Option, Some, None, bytes_eq, refl, sym, ap, ◌∙◌, subst, append-nil, true≢false}
use Rattle.std.specs.Prelude.{option_map, codes}
use Rattle.std.proofs.lemmas.Slice.Eq.{bytes_eq-Decides}
use Rattle.lv_ast.specs.Names.{is_simple}
use Rattle.lv_ast.specs.Tokens.{kind_of, is_mark, is_digit, token_bytes, tail}
use Rattle.lv_ast.specs.declared.tokens.Kind.{Kind}
use Rattle.lv_ast.specs.declared.tokens.Kind.TheVariants as k
use Rattle.lv_ast.specs.declared.tokens.Token.{Token}
use Rattle.lv_grammars.specs.Grammar.{Gram, OneOf, left, right, none, one, call, act, both, either, perhaps, many, until, tail as tailed}
use Rattle.lv_grammars.specs.Spelling.{last_open, SpellsAll, SpellsPerhaps, SpellsTail, Leaves, Calls, Spells}
use Rattle.lv_grammar.specs.Lexemes.{Lexeme, lexeme, lexemes, name_by, ident_of}
use Rattle.lv_grammar.specs.Shapes.{Shape, word, mark, name, Rule, tree_of, base}
use Rattle.lv_grammar.specs.Rules.{comma, colon, list, first_and_others, behind, ident, default_words}
use Rattle.lv_print.specs.Written as w
use Rattle.lv_print.specs.Written.{Written, others, commas, joined}
use Rattle.lv_print.specs.Sources.{ident_tokens}
use Rattle.lv_print.specs.Sources as sources
use Rattle.lv_print.specs.UnplacedSources as unplaced
use Rattle.lv_print.proofs.Papers.{others-none, others-more, joined-none, joined-more}
use Rattle.lv_print.proofs.Tokenized.{IsWhole, AreWhole, IsAt, Are}
use Rattle.lv_print.proofs.Spelled.{whole_mark, whole_name, whole_append, IsWritable, Behind, behind_of, Cut, cut_of}
use Rattle.lv_grammar.specs.Leaves.{symbol_of}
use Rattle.lv_print.proofs.ExprBack.{Good}
use Rattle.lv_print.proofs.GoodTokens.{name_writable, escaped_writable}

abbrev pub is_nil : {A : Type 0} → List A → Bool
is_nil [] = true
is_nil (x ∷ xs) = false

-- a token that is whole, and good for an expression
pub record IsGood (old : List ℕ) (t : Lexeme) : Type 0 where
  pub kind : kind_of t.bytes ≡ Some t.kind
  pub good : Good old (symbol_of t)

abbrev pub AreGood : List ℕ → List Lexeme → Type 0
AreGood old [] = Unit {0}
AreGood old (t ∷ ts) = IsGood old t × AreGood old ts

good-cut : (old : List ℕ) (a b : List Lexeme) → AreGood old (a ++ b) → AreGood old a × AreGood old b
good-cut old [] b h = (tt, h)
good-cut old (t ∷ a) b h = let q = good-cut old a b h.1 in ((h.0, q.0), q.1)

lexemes-append : (bytes : List ℕ) (a b : List Token) → lexemes bytes (a ++ b) ≡ lexemes bytes a ++ lexemes bytes b
lexemes-append bytes [] b = refl
lexemes-append bytes (t ∷ a) b = ap (λ z. lexeme bytes t ∷ z) (lexemes-append bytes a b)

nil-append : {A B : Type 0} (a b : List A) (c d : List B) → is_nil a ≡ is_nil c → is_nil b ≡ is_nil d → is_nil (a ++ b) ≡ is_nil (c ++ d)
nil-append [] b [] d h i = i
nil-append [] b (x ∷ c) d h i = absurd (true≢false h)
nil-append (x ∷ a) b [] d h i = absurd (true≢false (sym h))
nil-append (x ∷ a) b (y ∷ c) d h i = refl

last-open : {A B : Type 0} (a : List A) (b : List B) (p q : Bool) → is_nil a ≡ is_nil b → last_open a p q ≡ last_open b p q
last-open [] [] p q h = refl
last-open [] (x ∷ b) p q h = absurd (true≢false h)
last-open (x ∷ a) [] p q h = absurd (true≢false (sym h))
last-open (x ∷ a) (y ∷ b) p q h = refl

are-nil : (bytes : List ℕ) (ts : List Token) (ws : List Written) → Are bytes ts ws → is_nil ws ≡ is_nil (lexemes bytes ts)
are-nil bytes ts [] h = ap (λ z. is_nil (lexemes bytes z)) (sym h)
are-nil bytes ts (v ∷ ws) h = ap (λ z. is_nil (lexemes bytes z)) (sym h.2)

-- a word or a mark, of which only its being there is told
abbrev pub plain : Lexeme → Lexeme
plain t = record { kind = k.Line; bytes = []; start = 0; end = 0 }

-- a name, which is its bytes
abbrev pub name_bytes : Lexeme → List ℕ
name_bytes t = name_by t.kind t.bytes

abbrev pub bare : Lexeme → Lexeme
bare t = record { kind = k.Name; bytes = name_bytes t; start = 0; end = 0 }

abbrev pub on_left_or_right : {A B C : Type 0} → (A → C) → (B → C) → OneOf A B → C
on_left_or_right f g (left x) = f x
on_left_or_right f g (right y) = g y

abbrev pub each_side : {A B : Type 0} → (A → A) → (B → B) → OneOf A B → OneOf A B
each_side f g (left x) = left (f x)
each_side f g (right y) = right (g y)

module _ (old : List ℕ) (L : Leaves base) (C : Calls base) (L' : List ℕ → Leaves base) (C' : List ℕ → Calls base) where
  pub record Again {A : Type 0} (g : Gram base A) (u : A → A) (o : Bool) (x : A) (bytes : List ℕ) (ts : List Token) : Type 0 where
    pub tree : A
    pub spelled : Spells base (L' bytes) (C' bytes) g (lexemes bytes ts) o tree
    pub same : u tree ≡ u x

  -- the tokens of x, where it was spelled by us, are whole, and spell it again
  pub record IsPrinted {A : Type 0} (g : Gram base A) (c : A → List Written) (u : A → A) (us : List Lexeme) (o : Bool) (x : A) : Type 0 where
    pub whole : AreWhole (c x)
    pub empty : is_nil us ≡ is_nil (c x)
    pub again : (bytes : List ℕ) (ts : List Token) → Are bytes ts (c x) → Again g u o x bytes ts

  pub record Prints {A : Type 0} (g : Gram base A) (c : A → List Written) (u : A → A) : Type 0 where
    pub prints : (us : List Lexeme) (o : Bool) (x : A) → AreGood old us → Spells base L C g us o x → IsPrinted g c u us o x

  -- ---- one token

  -- the token of fixed bytes
  fixed : (p : Shape) (v : Written) → IsWhole v → ((t : Lexeme) → t.kind ≡ v.kind → t.bytes ≡ v.bytes → base.fits p t ≡ true) → Prints (one p) (λ t. v ∷ []) plain
  fixed p v whole fit = record {
    prints = λ us o x good s. record {
      whole = (whole, tt);
      empty = ap is_nil s.0;
      again = λ bytes ts a.
          let b : Behind bytes ts v [] = behind_of bytes ts v [] a in
          record {
            tree = lexeme bytes b.token;
            spelled = (ap (lexemes bytes) b.cut ∙ ap (λ z. lexeme bytes b.token ∷ lexemes bytes z) b.are, fit (lexeme bytes b.token) b.at.kind b.at.bytes, s.2);
            same = refl;
          };
    };
  }

  same-bytes : (s : List ℕ) (t : List ℕ) → t ≡ s → bytes_eq s t ≡ true
  same-bytes s t e = (bytes_eq-Decides s t).1 (sym e)

  pub prints_word : (s : List ℕ) → kind_of s ≡ Some k.Word → Prints (one (word s)) (λ t. w.word s ∷ []) plain
  prints_word s h = fixed (word s) (w.word s) (record { ordinary = refl; kind = h; apostrophe = λ e. absurd (true≢false (sym e)) })
      (λ t e f. ap (λ j. w.is_kind k.Word j && bytes_eq s t.bytes) e ∙ same-bytes s t.bytes f)

  pub prints_mark : (s : List ℕ) → kind_of s ≡ Some k.Mark → Prints (one (mark s)) (λ t. w.mark s ∷ []) plain
  prints_mark s h = fixed (mark s) (w.mark s) (whole_mark s h) (λ t e f. ap (λ j. w.is_kind k.Mark j && bytes_eq s t.bytes) e ∙ same-bytes s t.bytes f)

  -- a name, simple or escaped
  name-kinds : (t : Lexeme) (j : Kind) → t.kind ≡ j → (w.is_kind k.Name j || w.is_kind k.Escaped j) ≡ true → kind_of t.bytes ≡ Some j → IsWritable (name_by j t.bytes)
  name-kinds t k.Name e f h = name_writable t.bytes h
  name-kinds t k.Escaped e f h = escaped_writable t.bytes h
  name-kinds t k.Word e f h = absurd (true≢false (sym f))
  name-kinds t k.System e f h = absurd (true≢false (sym f))
  name-kinds t k.Tick e f h = absurd (true≢false (sym f))
  name-kinds t k.Number e f h = absurd (true≢false (sym f))
  name-kinds t k.Based e f h = absurd (true≢false (sym f))
  name-kinds t k.Mark e f h = absurd (true≢false (sym f))
  name-kinds t k.Line e f h = absurd (true≢false (sym f))
  name-kinds t k.Join e f h = absurd (true≢false (sym f))

  -- a token that is written for a name is one, with its bytes
  named-at : (bytes : List ℕ) (t : Token) (s : List ℕ) (b : Bool) → IsAt bytes t (if b then w.written k.Name s else w.written k.Escaped (92 ∷ s)) →
      (base.fits name (lexeme bytes t) ≡ true) × (name_bytes (lexeme bytes t) ≡ s)
  named-at bytes t s true a = (ap (λ j. w.is_kind k.Name j || w.is_kind k.Escaped j) a.kind, ap (λ j. name_by j (token_bytes bytes t)) a.kind ∙ a.bytes)
  named-at bytes t s false a = (ap (λ j. w.is_kind k.Name j || w.is_kind k.Escaped j) a.kind, ap (λ j. name_by j (token_bytes bytes t)) a.kind ∙ ap tail a.bytes)

  pub prints_name : Prints (one name) (λ t. w.name (name_bytes t) ∷ []) bare
  prints_name = record {
    prints = λ us o x good s.
        let g : AreGood old (x ∷ []) = subst (AreGood old) s.0 good in
        let i : IsWritable (name_bytes x) = name-kinds x x.kind refl s.1 g.0.kind in
        record {
          whole = (whole_name (name_bytes x) i, tt);
          empty = ap is_nil s.0;
          again = λ bytes ts a.
              let b : Behind bytes ts (w.name (name_bytes x)) [] = behind_of bytes ts _ [] a in
              let q = named-at bytes b.token (name_bytes x) (is_simple (name_bytes x)) b.at in
              record {
                tree = lexeme bytes b.token;
                spelled = (ap (lexemes bytes) b.cut ∙ ap (λ z. lexeme bytes b.token ∷ lexemes bytes z) b.are, q.0, s.2);
                same = λ j. record { kind = k.Name; bytes = q.1 j; start = 0; end = 0 };
              };
        };
  }

  -- ---- ways of joining

  pub prints_none : Prints none (λ x. []) (λ x. x)
  prints_none = record {
    prints = λ us o x good s. record {
      whole = tt;
      empty = ap is_nil s.0;
      again = λ bytes ts a. record { tree = x; spelled = (ap (lexemes bytes) a, s.1); same = refl };
    };
  }

  pub prints_act : {A B : Type 0} (f : A → B) (g : Gram base A) (c : A → List Written) (u : A → A) (d : B → List Written) (v : B → B) →
      ((x : A) → d (f x) ≡ c x) → ((x : A) → v (f x) ≡ f (u x)) → Prints g c u → Prints (act f g) d v
  prints_act f g c u d v e n h = record {
    prints = λ us o x good s.
        let q : IsPrinted g c u us o s.0 = h.prints us o s.0 good s.1 in
        let same : d x ≡ c s.0 = ap d (sym s.2) ∙ e s.0 in
        record {
          whole = subst AreWhole (sym same) q.whole;
          empty = q.empty ∙ ap is_nil (sym same);
          again = λ bytes ts a.
              let r : Again g u o s.0 bytes ts = q.again bytes ts (subst (Are bytes ts) same a) in
              record { tree = f r.tree; spelled = (r.tree, r.spelled, refl); same = n r.tree ∙ ap f r.same ∙ sym (n s.0) ∙ ap v s.2 };
        };
  }

  -- where more is known of a tree that is spelled
  pub prints_where : {A B : Type 0} (f : A → B) (g : Gram base A) (c : A → List Written) (u : A → A) (d : B → List Written) (v : B → B) →
      ((us : List Lexeme) (o : Bool) (x : A) → Spells base L C g us o x → d (f x) ≡ c x) → ((x : A) → v (f x) ≡ f (u x)) → Prints g c u → Prints (act f g) d v
  prints_where f g c u d v e n h = record {
    prints = λ us o x good s.
        let q : IsPrinted g c u us o s.0 = h.prints us o s.0 good s.1 in
        let same : d x ≡ c s.0 = ap d (sym s.2) ∙ e us o s.0 s.1 in
        record {
          whole = subst AreWhole (sym same) q.whole;
          empty = q.empty ∙ ap is_nil (sym same);
          again = λ bytes ts a.
              let r : Again g u o s.0 bytes ts = q.again bytes ts (subst (Are bytes ts) same a) in
              record { tree = f r.tree; spelled = (r.tree, r.spelled, refl); same = n r.tree ∙ ap f r.same ∙ sym (n s.0) ∙ ap v s.2 };
        };
  }

  pub prints_both : {A B : Type 0} (g : Gram base A) (h : Gram base B) (c : A → List Written) (d : B → List Written) (u : A → A) (v : B → B) →
      Prints g c u → Prints h d v → Prints (both g h) (λ p. c p.0 ++ d p.1) (λ p. (u p.0, v p.1))
  prints_both g h c d u v i j = record {
    prints = λ ts o x good s.
        let split = good-cut old s.0 s.1 (subst (AreGood old) s.4 good) in
        let q : IsPrinted g c u s.0 s.2 x.0 = i.prints s.0 s.2 x.0 split.0 s.5 in
        let r : IsPrinted h d v s.1 s.3 x.1 = j.prints s.1 s.3 x.1 split.1 s.6 in
        record {
          whole = whole_append (c x.0) (d x.1) q.whole r.whole;
          empty = ap is_nil s.4 ∙ nil-append s.0 s.1 (c x.0) (d x.1) q.empty r.empty;
          again = λ bytes us a.
              let b : Cut bytes us (c x.0) (d x.1) = cut_of bytes us (c x.0) (d x.1) a in
              let m : Again g u s.2 x.0 bytes b.front = q.again bytes b.front b.front_are in
              let n : Again h v s.3 x.1 bytes b.back = r.again bytes b.back b.back_are in
              record {
                tree = (m.tree, n.tree);
                spelled = (
                  lexemes bytes b.front,
                  lexemes bytes b.back,
                  s.2,
                  s.3,
                  ap (lexemes bytes) b.cut ∙ lexemes-append bytes b.front b.back,
                  m.spelled,
                  n.spelled,
                  s.7 ∙ last-open s.1 (lexemes bytes b.back) s.2 s.3 (r.empty ∙ are-nil bytes b.back (d x.1) b.back_are),
                );
                same = λ z. (m.same z, n.same z);
              };
        };
  }

  prints-either : {A B : Type 0} (g : Gram base A) (h : Gram base B) (c : A → List Written) (d : B → List Written) (u : A → A) (v : B → B) → Prints g c u → Prints h d v →
      (us : List Lexeme) (o : Bool) (x : OneOf A B) → AreGood old us → Spells base L C (either g h) us o x → IsPrinted (either g h) (on_left_or_right c d) (each_side u v) us o x
  prints-either g h c d u v i j us o (left x) good s =
      let q : IsPrinted g c u us o x = i.prints us o x good s in
      record {
        whole = q.whole;
        empty = q.empty;
        again = λ bytes ts a.
            let r : Again g u o x bytes ts = q.again bytes ts a in record { tree = left r.tree; spelled = r.spelled; same = ap left r.same };
      }
  prints-either g h c d u v i j us o (right y) good s =
      let q : IsPrinted h d v us o y = j.prints us o y good s in
      record {
        whole = q.whole;
        empty = q.empty;
        again = λ bytes ts a.
            let r : Again h v o y bytes ts = q.again bytes ts a in record { tree = right r.tree; spelled = r.spelled; same = ap right r.same };
      }

  pub prints_either : {A B : Type 0} (g : Gram base A) (h : Gram base B) (c : A → List Written) (d : B → List Written) (u : A → A) (v : B → B) → Prints g c u → Prints h d v →
      Prints (either g h) (on_left_or_right c d) (each_side u v)
  prints_either g h c d u v i j = record { prints = prints-either g h c d u v i j }

  prints-perhaps : {A : Type 0} (g : Gram base A) (c : A → List Written) (u : A → A) → Prints g c u →
      (us : List Lexeme) (o : Bool) (x : Option A) → AreGood old us → Spells base L C (perhaps g) us o x → IsPrinted (perhaps g) (sources.perhaps c) (option_map u) us o x
  prints-perhaps g c u i us o None good s = record { whole = tt; empty = ap is_nil s.0; again = λ bytes ts a. record { tree = None; spelled = (ap (lexemes bytes) a, s.1); same = refl } }
  prints-perhaps g c u i us o (Some x) good s =
      let q : IsPrinted g c u us o x = i.prints us o x good s in
      record {
        whole = q.whole;
        empty = q.empty;
        again = λ bytes ts a.
            let r : Again g u o x bytes ts = q.again bytes ts a in record { tree = Some r.tree; spelled = r.spelled; same = ap (λ z. Some z) r.same };
      }

  pub prints_perhaps : {A : Type 0} (g : Gram base A) (c : A → List Written) (u : A → A) → Prints g c u → Prints (perhaps g) (sources.perhaps c) (option_map u)
  prints_perhaps g c u i = record { prints = prints-perhaps g c u i }

  -- trees one after the other
  pub record IsPrintedAll {A : Type 0} (g : Gram base A) (c : A → List Written) (u : A → A) (us : List Lexeme) (o : Bool) (xs : List A) : Type 0 where
    pub whole : AreWhole (joined (map c xs))
    pub empty : is_nil us ≡ is_nil (joined (map c xs))
    pub again : (bytes : List ℕ) (ts : List Token) → Are bytes ts (joined (map c xs)) →
        (ys : List A) × SpellsAll (Spells base (L' bytes) (C' bytes) g) (lexemes bytes ts) o ys × (map u ys ≡ map u xs)

  all : {A : Type 0} (g : Gram base A) (c : A → List Written) (u : A → A) → Prints g c u →
      (us : List Lexeme) (o : Bool) (xs : List A) → AreGood old us → SpellsAll (Spells base L C g) us o xs → IsPrintedAll g c u us o xs
  all g c u i us o [] good s = record {
    whole = subst AreWhole (sym joined-none) tt;
    empty = ap is_nil s.0 ∙ ap is_nil (sym joined-none);
    again = λ bytes ts a. ([], (ap (lexemes bytes) (subst (Are bytes ts) joined-none a), s.1), refl);
  }
  all g c u i us o (x ∷ xs) good s =
      let split = good-cut old s.0 s.1 (subst (AreGood old) s.4 good) in
      let q : IsPrinted g c u s.0 s.2 x = i.prints s.0 s.2 x split.0 s.5 in
      let r : IsPrintedAll g c u s.1 s.3 xs = all g c u i s.1 s.3 xs split.1 s.6 in
      let e : joined (map c (x ∷ xs)) ≡ c x ++ joined (map c xs) = joined-more (c x) (map c xs) in
      record {
        whole = subst AreWhole (sym e) (whole_append (c x) (joined (map c xs)) q.whole r.whole);
        empty = ap is_nil s.4 ∙ nil-append s.0 s.1 (c x) (joined (map c xs)) q.empty r.empty ∙ ap is_nil (sym e);
        again = λ bytes ts a.
            let b : Cut bytes ts (c x) (joined (map c xs)) = cut_of bytes ts (c x) (joined (map c xs)) (subst (Are bytes ts) e a) in
            let m : Again g u s.2 x bytes b.front = q.again bytes b.front b.front_are in
            let n = r.again bytes b.back b.back_are in (
              m.tree ∷ n.0,
              (
                lexemes bytes b.front,
                lexemes bytes b.back,
                s.2,
                s.3,
                ap (lexemes bytes) b.cut ∙ lexemes-append bytes b.front b.back,
                m.spelled,
                n.1,
                s.7 ∙ last-open s.1 (lexemes bytes b.back) s.2 s.3 (r.empty ∙ are-nil bytes b.back (joined (map c xs)) b.back_are),
              ),
              ap (λ z. z ∷ map u n.0) m.same ∙ ap (λ z. u x ∷ z) n.2,
            );
      }

  pub prints_many : {A : Type 0} (g : Gram base A) (c : A → List Written) (u : A → A) → Prints g c u → Prints (many g) (λ xs. joined (map c xs)) (map u)
  prints_many g c u i = record {
    prints = λ us o xs good s.
        let q : IsPrintedAll g c u us o xs = all g c u i us o xs good s in
        record { whole = q.whole; empty = q.empty; again = λ bytes ts a. (let r = q.again bytes ts a in record { tree = r.0; spelled = r.1; same = r.2 }) };
  }

  pub prints_until : {A B : Type 0} (g : Gram base A) (h : Gram base B) (c : A → List Written) (d : B → List Written) (u : A → A) (v : B → B) → Prints g c u → Prints h d v →
      Prints (until g h) (λ p. joined (map c p.0) ++ d p.1) (λ p. (map u p.0, v p.1))
  prints_until g h c d u v i j = record {
    prints = λ ts o x good s.
        let split = good-cut old s.0 s.1 (subst (AreGood old) s.3 good) in
        let q : IsPrintedAll g c u s.0 s.2 x.0 = all g c u i s.0 s.2 x.0 split.0 s.4 in
        let r : IsPrinted h d v s.1 o x.1 = j.prints s.1 o x.1 split.1 s.5 in
        record {
          whole = whole_append (joined (map c x.0)) (d x.1) q.whole r.whole;
          empty = ap is_nil s.3 ∙ nil-append s.0 s.1 (joined (map c x.0)) (d x.1) q.empty r.empty;
          again = λ bytes us a.
              let b : Cut bytes us (joined (map c x.0)) (d x.1) = cut_of bytes us (joined (map c x.0)) (d x.1) a in
              let m = q.again bytes b.front b.front_are in
              let n : Again h v o x.1 bytes b.back = r.again bytes b.back b.back_are in
              record {
                tree = (m.0, n.tree);
                spelled = (lexemes bytes b.front, lexemes bytes b.back, s.2, ap (lexemes bytes) b.cut ∙ lexemes-append bytes b.front b.back, m.1, n.spelled);
                same = λ z. (m.2 z, n.same z);
              };
        };
  }

  -- a tail behind a mark of a fixed token
  prints-tail : {B : Type 0} (r : Rule) (s : List ℕ) (h : Gram base B) (c : tree_of r → List Written) (d : B → List Written) (u : tree_of r → tree_of r) (v : B → B) → kind_of s ≡ Some k.Word →
      Prints (call r) c u → Prints h d v → (us : List Lexeme) (o : Bool) (x : tree_of r) (y : Option B) → AreGood old us → SpellsTail (C r) (base.fits (word s)) (Spells base L C h) us o x y →
      IsPrinted (tailed r (word s) h) (λ p. c p.0 ++ sources.perhaps (λ z. w.word s ∷ d z) p.1) (λ p. (u p.0, option_map v p.1)) us o (x, y)
  prints-tail r s h c d u v e i j us o x None good z =
      let q : IsPrinted (call r) c u us z.0 x = i.prints us z.0 x good z.1 in
      let same : c x ++ [] ≡ c x = append-nil (c x) in
      record {
        whole = subst AreWhole (sym same) q.whole;
        empty = q.empty ∙ ap is_nil (sym same);
        again = λ bytes ts a. (let m : Again (call r) u z.0 x bytes ts = q.again bytes ts (subst (Are bytes ts) same a) in record {
          tree = (m.tree, None);
          spelled = (z.0, m.spelled, z.2);
          same = λ l. (m.same l, None);
        });
      }
  prints-tail r s h c d u v e i j us o x (Some y) good z =
      let split = good-cut old z.0 (z.1 ∷ z.2) (subst (AreGood old) z.3 good) in
      let q : IsPrinted (call r) c u z.0 false x = i.prints z.0 false x split.0 z.4 in
      let n : IsPrinted h d v z.2 o y = j.prints z.2 o y split.1.1 z.6 in
      record {
        whole = whole_append (c x) (w.word s ∷ d y) q.whole (record { ordinary = refl; kind = e; apostrophe = λ f. absurd (true≢false (sym f)) }, n.whole);
        empty = ap is_nil z.3 ∙ nil-append z.0 (z.1 ∷ z.2) (c x) (w.word s ∷ d y) q.empty refl;
        again = λ bytes ts a.
            let b : Cut bytes ts (c x) (w.word s ∷ d y) = cut_of bytes ts (c x) (w.word s ∷ d y) a in
            let t : Behind bytes b.back (w.word s) (d y) = behind_of bytes b.back _ _ b.back_are in
            let m : Again (call r) u false x bytes b.front = q.again bytes b.front b.front_are in
            let l : Again h v o y bytes t.rest = n.again bytes t.rest t.are in
            record {
              tree = (m.tree, Some l.tree);
              spelled = (
                lexemes bytes b.front,
                lexeme bytes t.token,
                lexemes bytes t.rest,
                ap (lexemes bytes) b.cut ∙ lexemes-append bytes b.front b.back ∙ ap (λ f. lexemes bytes b.front ++ lexemes bytes f) t.cut,
                m.spelled,
                ap (λ f. w.is_kind k.Word f && bytes_eq s (token_bytes bytes t.token)) t.at.kind ∙ same-bytes s (token_bytes bytes t.token) t.at.bytes,
                l.spelled,
              );
              same = λ f. (m.same f, Some (l.same f));
            };
      }

  pub prints_tail : {B : Type 0} (r : Rule) (s : List ℕ) (h : Gram base B) (c : tree_of r → List Written) (d : B → List Written) (u : tree_of r → tree_of r) (v : B → B) → kind_of s ≡ Some k.Word →
      Prints (call r) c u → Prints h d v → Prints (tailed r (word s) h) (λ p. c p.0 ++ sources.perhaps (λ z. w.word s ∷ d z) p.1) (λ p. (u p.0, option_map v p.1))
  prints_tail r s h c d u v e i j = record { prints = λ us o x good z. prints-tail r s h c d u v e i j us o x.0 x.1 good z }

  -- ---- lists with commas

  comma-kind : kind_of (codes ",") ≡ Some k.Mark
  unfolding kind_of is_mark is_digit
  comma-kind = refl

  commas-each : {A : Type 0} (c : A → List Written) (es : List (Lexeme × A)) → others (map c (map behind es)) ≡ joined (map (λ e. (w.mark (codes ",") ∷ []) ++ c e.1) es)
  commas-each c [] = others-none ∙ sym joined-none
  commas-each c (e ∷ es) = others-more (c e.1) (map c (map behind es)) ∙ ap (λ z. w.mark (codes ",") ∷ (c e.1 ++ z)) (commas-each c es) ∙ sym (joined-more ((w.mark (codes ",") ∷ []) ++ c e.1) _)

  map-behind : {A : Type 0} (u : A → A) (es : List (Lexeme × A)) → map u (map behind es) ≡ map behind (map (λ e. (plain e.0, u e.1)) es)
  map-behind u [] = refl
  map-behind u (e ∷ es) = ap (λ z. u e.1 ∷ z) (map-behind u es)

  pub prints_list : {A : Type 0} (g : Gram base A) (c : A → List Written) (u : A → A) → Prints g c u → Prints (list g) (λ xs. commas (map c xs)) (map u)
  prints_list g c u i =
      prints_act first_and_others (both g (many (both comma g))) _ _ _ _ (λ p. ap (λ z. c p.0 ++ z) (commas-each c p.1)) (λ p. ap (λ z. u p.0 ∷ z) (map-behind u p.1))
      (prints_both _ _ _ _ _ _ i (prints_many _ _ _ (prints_both _ _ _ _ _ _ (prints_mark (codes ",") comma-kind) i)))

  -- the same by a printer that is this one for lists that are not empty
  pub prints_list_as : {A : Type 0} (g : Gram base A) (c : A → List Written) (u : A → A) (d : List A → List Written) → ((x : A) (xs : List A) → d (x ∷ xs) ≡ commas (map c (x ∷ xs))) →
      Prints g c u → Prints (list g) d (map u)
  prints_list_as g c u d e i =
      prints_act first_and_others (both g (many (both comma g))) _ _ _ _ (λ p. e p.0 (map behind p.1) ∙ ap (λ z. c p.0 ++ z) (commas-each c p.1)) (λ p. ap (λ z. u p.0 ∷ z) (map-behind u p.1))
      (prints_both _ _ _ _ _ _ i (prints_many _ _ _ (prints_both _ _ _ _ _ _ (prints_mark (codes ",") comma-kind) i)))

  -- `default`, whose colon is written even where it was left out
  closed-tail : (vs : List Lexeme) (p q : Bool) → p ≡ false → q ≡ false → last_open vs p q ≡ false
  closed-tail [] p q h i = h
  closed-tail (t ∷ vs) p q h i = i

  closed-colon : (vs : List Lexeme) (q : Bool) (x : Option Lexeme) → SpellsPerhaps (Spells base L C colon) vs q x → q ≡ false
  closed-colon vs q None h = h.1
  closed-colon vs q (Some t) h = h.2

  pub prints_default : kind_of (codes "default") ≡ Some k.Word → kind_of (codes ":") ≡ Some k.Mark →
      Prints default_words (λ p. w.word (codes "default") ∷ w.mark (codes ":") ∷ []) (λ p. (plain p.0, None))
  prints_default kd kc = record {
    prints = λ us o x good s. record {
      whole = (record { ordinary = refl; kind = kd; apostrophe = λ e. absurd (true≢false (sym e)) }, (whole_mark (codes ":") kc, tt));
      empty = ap is_nil (s.4 ∙ ap (λ z. z ++ s.1) s.5.0);
      again = λ bytes ts a.
          let b : Behind bytes ts (w.word (codes "default")) (w.mark (codes ":") ∷ []) = behind_of bytes ts _ _ a in
          let m : Behind bytes b.rest (w.mark (codes ":")) [] = behind_of bytes b.rest _ _ b.are in
          record {
            tree = (lexeme bytes b.token, Some (lexeme bytes m.token));
            spelled = (
              lexeme bytes b.token ∷ [],
              lexeme bytes m.token ∷ [],
              false,
              false,
              ap (lexemes bytes) b.cut ∙ ap (λ z. lexeme bytes b.token ∷ lexemes bytes z) m.cut ∙ ap (λ z. lexeme bytes b.token ∷ lexeme bytes m.token ∷ lexemes bytes z) m.are,
              (refl, ap (λ j. w.is_kind k.Word j && bytes_eq (codes "default") (token_bytes bytes b.token)) b.at.kind ∙ same-bytes (codes "default") (token_bytes bytes b.token) b.at.bytes, refl),
              (refl, ap (λ j. w.is_kind k.Mark j && bytes_eq (codes ":") (token_bytes bytes m.token)) m.at.kind ∙ same-bytes (codes ":") (token_bytes bytes m.token) m.at.bytes, refl),
              s.7 ∙ closed-tail s.1 s.2 s.3 s.5.2 (closed-colon s.1 s.3 x.1 s.6),
            );
            same = refl;
          };
    };
  }

  pub prints_ident : Prints ident ident_tokens unplaced.ident
  prints_ident = prints_act ident_of (one name) _ _ _ _ (λ t. refl) (λ t. refl) prints_name
