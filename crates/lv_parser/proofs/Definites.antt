-- What a reader of expressions answers, of tokens with their bytes.
use Rattle.std.proofs.Common.{◌≡◌, ℕ, zero, suc, ◌+◌, ◌-◌, ◌≤◌, ◌<◌, List, [], ◌∷◌, ◌++◌, take, drop, length, true, false, Result, Ok, Err, MatchResult, IfOk, inl, inr, refl, sym, ◌∙◌, ap, subst, take-add, arith}
use Rattle.std.proofs.Math.Seq.{take-append_seam, drop-append_seam}
use Rattle.std.proofs.lemmas.List.{take-append-drop, take-map, drop-map, drop-drop, length-drop, length-append, map-append}
use Rattle.lv_ast.specs.declared.tokens.Token.{Token}
use Rattle.lv_ast.specs.declared.expr.Expr.{Expr}
use Rattle.lv_exprs.specs.declared.error.SyntaxError.{SyntaxError}
use Rattle.lv_exprs.specs.declared.error.SyntaxError.TheVariants as error
use Rattle.lv_exprs.specs.declared.symbol.Symbol.{Symbol}
use Rattle.lv_exprs.specs.Symbols.{symbol, symbols}
use Rattle.lv_exprs.specs.Forms.{Form, text}
use Rattle.lv_exprs.specs.Heights.{height}
use Rattle.lv_exprs.specs.Trees.{tree}
use Rattle.lv_exprs.specs.Reading as exprs
use Rattle.lv_exprs.specs.Answers.{tokens_from, IsDeep}
use Rattle.lv_exprs.specs.Answers as exprs_answers
use Rattle.lv_exprs.specs.Definite.{ReadsDefinite, FailsDefinite, IsTooHighDefinite, IsDefiniteRead, IsDefiniteRefused}
use Rattle.lv_grammars.specs.Grammar.{Gram, leaf, act}
use Rattle.lv_grammars.specs.Sets.{is_good}
use Rattle.lv_grammars.specs.Spelling.{Limit}
use Rattle.lv_grammars.specs.Reading.{Reads, Fails, Passes, Within, PassesLimit, Begins}
use Rattle.lv_grammar.specs.Lexemes.{Lexeme, lexeme, lexemes, place_of}
use Rattle.lv_grammar.specs.Shapes.{Leaf, value, label, Placed, base, table}
use Rattle.lv_grammar.specs.Rules as rules
use Rattle.lv_grammar.specs.Leaves.{symbol_of, symbols_of, ValidAt, IsExpression, all, within}
use Rattle.lv_parser.specs.Answers.{from, placed, placed_result, IsRead, IsRefused, Answer, GoesOn}
use Rattle.lv_grammars.proofs.Lists.{true_false, nil_cons}
use Rattle.lv_grammar.proofs.Expressions.{begins}
use Rattle.lv_parser.proofs.Paths.{begin, through, last, refuse_last}
use Rattle.lv_grammar.proofs.Completions.{Completed, completed, CompletedLow, completed_low}

-- ---- the tokens as symbols

pub same_symbols : (bytes : List ℕ) (ts : List Token) → symbols_of (lexemes bytes ts) ≡ symbols bytes ts
same_symbols bytes [] = refl
same_symbols bytes (t ∷ ts) = ap (λ ss. symbol bytes t ∷ ss) (same_symbols bytes ts)

pub from_symbols : (bytes : List ℕ) (tokens : List Token) (at : ℕ) → symbols_of (from bytes tokens at) ≡ tokens_from bytes tokens at
from_symbols bytes tokens at = ap symbols_of (drop-map (lexeme bytes) at tokens) ∙ same_symbols bytes (drop at tokens)

-- the same, some tokens further
further : (bytes : List ℕ) (tokens : List Token) (at end : ℕ) → at ≤ end → drop (end - at) (from bytes tokens at) ≡ from bytes tokens end
further bytes tokens at end w = drop-drop (end - at) at (lexemes bytes tokens) ∙ ap (λ n. drop n (lexemes bytes tokens)) (let e : at + (end - at) ≡ end = omega arith in e)

-- ---- a leaf, by what is said of symbols

-- ---- what is said of symbols, said of a leaf

place_of_front : (n : ℕ) (ls : List Lexeme) (s : Symbol) (ss : List Symbol) → symbols_of (take n ls) ≡ s ∷ ss → place_of (take n ls) ≡ place_of ls
place_of_front zero ls s ss e = absurd (nil_cons s ss (sym e))
place_of_front (suc n) [] s ss e = refl
place_of_front (suc n) (t ∷ ls) s ss e = refl

-- one more token
one_further : {T : Type 0} (n : ℕ) (xs : List T) (t : T) (us : List T) → drop n xs ≡ t ∷ us → take n xs ++ (t ∷ []) ≡ take (n + 1) xs
one_further n xs t us e = ap (λ ys. take n xs ++ ys) (ap (take 1) (sym e)) ∙ sym (take-add n 1 xs)

symbols_length : (ls : List Lexeme) → length (symbols_of ls) ≡ length ls
symbols_length [] = refl
symbols_length (t ∷ ls) = ap suc (symbols_length ls)

lexemes_length : (bytes : List ℕ) (ts : List Token) → length (lexemes bytes ts) ≡ length ts
lexemes_length bytes [] = refl
lexemes_length bytes (t ∷ ts) = ap suc (lexemes_length bytes ts)

one_left : {T : Type 0} (n : ℕ) (xs : List T) → n < length xs → (t : T) × (us : List T) × (drop n xs ≡ t ∷ us)
one_left n [] w = absurd (omega (arith, w))
one_left zero (x ∷ xs) w = (x, xs, refl)
one_left (suc n) (x ∷ xs) w = one_left n xs (omega (arith, w))

below_length : {T : Type 0} (n : ℕ) (xs : List T) (t : T) (us : List T) → drop n xs ≡ t ∷ us → n < length xs
below_length zero [] t us e = absurd (nil_cons t us (sym e))
below_length (suc n) [] t us e = absurd (nil_cons t us (sym e))
below_length zero (x ∷ xs) t us e = omega arith
below_length (suc n) (x ∷ xs) t us e = let h : n < length xs = below_length n xs t us e in omega (arith, h)

module _ (bytes : List ℕ) (d : ℕ → Limit) (l : Leaf) (ls : List Lexeme) (n : ℕ) where
  -- what is said of what begins with one more symbol
  abbrev NothingBegins : ℕ → Type 0
  NothingBegins m = m < length (symbols_of ls) → (more : List Symbol) (y : Form) → ValidAt l y → text y ≡ take (m + 1) (symbols_of ls) ++ more → ⊥

  in_symbols : (t : Lexeme) (us more : List Lexeme) (y : Form) → drop n ls ≡ t ∷ us → text y ≡ symbols_of ((take n ls ++ (t ∷ [])) ++ more) → text y ≡ take (n + 1) (symbols_of ls) ++ symbols_of more
  in_symbols t us more y f e =
      e ∙ map-append symbol_of (take n ls ++ (t ∷ [])) more ∙ ap (λ xs. symbols_of xs ++ symbols_of more) (one_further n ls t us f) ∙
      ap (λ ss. ss ++ symbols_of more) (sym (take-map symbol_of (n + 1) ls))

  not_begun : NothingBegins n → (t : Lexeme) (us : List Lexeme) → drop n ls ≡ t ∷ us → Begins base (all bytes) (leaf l) (take n ls ++ (t ∷ [])) → ⊥
  not_begun h t us f b =
      h (subst (λ k. n < k) (sym (symbols_length ls)) (below_length n ls t us f)) (symbols_of b.more) b.spelled.0.form b.spelled.0.valid (in_symbols t us b.more b.spelled.0.form f b.spelled.0.spells)

  pub reads_leaf : (x : Form) → ValidAt l x → text x ≡ take n (symbols_of ls) → NothingBegins n → height x ≤ 200 →
      Reads base (all bytes) (within bytes d) (leaf l) ls (record { tree = tree bytes x; place = place_of ls }) (drop n ls)
  reads_leaf x v e h low = record {
    front = take n ls;
    ending = false;
    cut = sym (take-append-drop n ls);
    spelled = (
      record {
        expression = record {
          form = x;
          valid = v;
          spells = e ∙ take-map symbol_of n ls;
          tree = refl;
          place = place_of_front n ls _ _ (sym (take-map symbol_of n ls) ∙ sym e ∙ (begins x).1);
        };
        low = low;
      },
      refl,
    );
    ends = λ t us f. not_begun h t us f;
  }

  -- what a beginning says of tokens
  begun : (m : ℕ) (more : List Symbol) (y : Form) → ValidAt l y → text y ≡ take m (symbols_of ls) ++ more → Begins base (all bytes) (leaf l) (take m ls)
  begun m more y v e =
      let c : Completed l (take m ls) = completed l y (take m ls) more v (e ∙ ap (λ ss. ss ++ more) (take-map symbol_of m ls)) in
      record {
        more = c.more;
        ending = false;
        tree = record { tree = tree bytes c.form; place = place_of (take m ls ++ c.more) };
        spelled = (record { form = c.form; valid = c.valid; spells = c.spells; tree = refl; place = refl }, refl);
      }

  begun_further : (m : ℕ) (t : Lexeme) (us : List Lexeme) (more : List Symbol) (y : Form) → drop m ls ≡ t ∷ us → ValidAt l y → text y ≡ take (m + 1) (symbols_of ls) ++ more →
      Begins base (all bytes) (leaf l) (take m ls ++ (t ∷ []))
  begun_further m t us more y f v e = subst (λ xs. Begins base (all bytes) (leaf l) xs) (sym (one_further m ls t us f)) (begun (m + 1) more y v e)

  read_symbols : ((m : ℕ) (x : Form) → m ≤ length (symbols_of ls) → ValidAt l x → text x ≡ take m (symbols_of ls) → NothingBegins m → ⊥) →
      (x : Placed Expr) (fs others : List Lexeme) → ls ≡ fs ++ others → IsExpression bytes l fs x →
      ((t : Lexeme) (us : List Lexeme) → others ≡ t ∷ us → Begins base (all bytes) (leaf l) (fs ++ (t ∷ [])) → ⊥) → ⊥
  read_symbols none x fs others e i ends =
      none (length fs) i.form
      (let h : length ls ≡ length fs + length others = ap length e ∙ length-append fs others in let g : length (symbols_of ls) ≡ length ls = symbols_length ls in omega (arith, h, g)) i.valid
      (i.spells ∙ ap symbols_of (sym front_is) ∙ sym (take-map symbol_of (length fs) ls)) dead
    where
      front_is : take (length fs) ls ≡ fs
      front_is = ap (take (length fs)) e ∙ take-append_seam fs others

      rest_is : drop (length fs) ls ≡ others
      rest_is = ap (drop (length fs)) e ∙ drop-append_seam fs others

      dead : NothingBegins (length fs)
      dead w more y v f =
          let o : (t : Lexeme) × (us : List Lexeme) × (drop (length fs) ls ≡ t ∷ us) = one_left (length fs) ls (subst (λ k. length fs < k) (symbols_length ls) w) in
          ends o.0 o.1 (sym rest_is ∙ o.2)
          (subst (λ xs. Begins base (all bytes) (leaf l) (xs ++ (o.0 ∷ []))) front_is (begun_further (length fs) o.0 o.1 more y o.2 v f))

  pub fails_leaf : (more : List Symbol) (y : Form) → ValidAt l y → text y ≡ take n (symbols_of ls) ++ more → NothingBegins n → ((m : ℕ) (x : Form) → m ≤ length (symbols_of ls) → ValidAt l x → text x ≡ take m (symbols_of ls) → NothingBegins m → ⊥) →
      Fails base (all bytes) (leaf l) ls (drop n ls)
  fails_leaf more y v e h none = record {
    front = take n ls;
    cut = sym (take-append-drop n ls);
    alive = begun n more y v e;
    dead = λ t us f. not_begun h t us f;
    none = λ x others r. read_symbols none x r.front others r.cut r.spelled.0 r.ends;
  }

  pub passes_leaf : n < length (symbols_of ls) → (more : List Symbol) (x : Form) → ValidAt l x → text x ≡ take (n + 1) (symbols_of ls) ++ more →
      ((more : List Symbol) (y : Form) → ValidAt l y → text y ≡ take (n + 1) (symbols_of ls) ++ more → 200 < height y) →
      Passes base (all bytes) (within bytes d) (leaf l) ls (drop n ls)
  passes_leaf w more x v e high =
      let o : (t : Lexeme) × (us : List Lexeme) × (drop n ls ≡ t ∷ us) = one_left n ls (subst (λ k. n < k) (symbols_length ls) w) in
      record {
        front = take n ls;
        token = o.0;
        others = o.1;
        cut = sym (take-append-drop n ls) ∙ ap (λ xs. take n ls ++ xs) o.2;
        at = o.2;
        alive = begun_further n o.0 o.1 more x o.2 v e;
        high = λ b. low_high b.spelled.0.low (high (symbols_of b.more) _ b.spelled.0.expression.valid (in_symbols o.0 o.1 b.more b.spelled.0.expression.form o.2 b.spelled.0.expression.spells));
      }
    where
      low_high : {h : ℕ} → h ≤ 200 → 200 < h → ⊥
      low_high p q = omega (arith, p, q)

  pub within_leaf : exprs.BeginsLow 200 false (take n (symbols_of ls)) → Within base (within bytes d) (leaf l) ls (drop n ls)
  within_leaf b =
      let c : CompletedLow l (take n ls) = completed_low l b.1 (take n ls) b.0 b.2 b.3 b.4 (b.5 ∙ ap (λ ss. ss ++ b.0) (take-map symbol_of n ls)) in
      record {
        front = take n ls;
        cut = sym (take-append-drop n ls);
        alive = record {
          more = c.more;
          ending = false;
          tree = record { tree = tree bytes c.form; place = place_of (take n ls ++ c.more) };
          spelled = (record { expression = record { form = c.form; valid = c.valid; spells = c.spells; tree = refl; place = refl }; low = c.low }, refl);
        };
      }

-- ---- the answers of readers

module _ (bytes : List ℕ) (tokens : List Token) (at : ℕ) (d : ℕ → Limit) where
  symbols_are : tokens_from bytes tokens at ≡ symbols_of (from bytes tokens at)
  symbols_are = sym (from_symbols bytes tokens at)

  in_tokens : (k : ℕ) → at ≤ length tokens → at ≤ k → k - at ≤ length (symbols_of (from bytes tokens at)) → k ≤ length tokens
  in_tokens k w v h =
      let e : length (symbols_of (from bytes tokens at)) ≡ length tokens - at =
      symbols_length (from bytes tokens at) ∙ length-drop at (lexemes bytes tokens) ∙ ap (λ m. m - at) (lexemes_length bytes tokens) in
      omega (arith, w, v, h, e)

  read_leaf : (l : Leaf) (x : Expr) (end : ℕ) (f : Form) → at ≤ end → ValidAt l f → text f ≡ take (end - at) (symbols_of (from bytes tokens at)) →
      NothingBegins bytes d l (from bytes tokens at) (end - at) (end - at) → tree bytes f ≡ x → height f ≤ 200 → IsRead bytes tokens d (leaf l) at (placed bytes tokens at x) end
  read_leaf l x end f w v e h t low = record {
    reads = subst (λ y. Reads base (all bytes) (within bytes d) (leaf l) (from bytes tokens at) (placed bytes tokens at y) (from bytes tokens end)) t
        (subst (λ rest. Reads base (all bytes) (within bytes d) (leaf l) (from bytes tokens at) (placed bytes tokens at (tree bytes f)) rest) (further bytes tokens at end w)
        (reads_leaf bytes d l (from bytes tokens at) (end - at) f v e h low));
  }

  refused_leaf : (l : Leaf) (k : ℕ) → at ≤ length tokens → at ≤ k → k - at ≤ length (symbols_of (from bytes tokens at)) →
      (more : List Symbol) (x : Form) → ValidAt l x → text x ≡ take (k - at) (symbols_of (from bytes tokens at)) ++ more → NothingBegins bytes d l (from bytes tokens at) (k - at) (k - at) →
      ((m : ℕ) (x : Form) → m ≤ length (symbols_of (from bytes tokens at)) → ValidAt l x → text x ≡ take m (symbols_of (from bytes tokens at)) → NothingBegins bytes d l (from bytes tokens at) (k - at) m → ⊥) →
      IsRefused bytes tokens d (leaf l) at (error.Syntax k)
  refused_leaf l k r w h more x v e dead none = record {
    why = (
      in_tokens k r w h,
      subst (λ rest. Fails base (all bytes) (leaf l) (from bytes tokens at) rest) (further bytes tokens at k w) (fails_leaf bytes d l (from bytes tokens at) (k - at) more x v e dead none),
    );
  }

  deep_leaf : (l : Leaf) (k : ℕ) → at ≤ k → k - at < length (symbols_of (from bytes tokens at)) → (more : List Symbol) (x : Form) → ValidAt l x →
      text x ≡ take (k - at + 1) (symbols_of (from bytes tokens at)) ++ more →
      ((more : List Symbol) (y : Form) → ValidAt l y → text y ≡ take (k - at + 1) (symbols_of (from bytes tokens at)) ++ more → 200 < height y) →
      exprs.BeginsLow 200 false (take (k - at) (symbols_of (from bytes tokens at))) → IsRefused bytes tokens d (leaf l) at (error.Depth k)
  deep_leaf l k w h more x v e high before = record {
    why = subst (λ rest. PassesLimit base (all bytes) (within bytes d) (leaf l) (from bytes tokens at) rest) (further bytes tokens at k w)
        (record { passes = passes_leaf bytes d l (from bytes tokens at) (k - at) h more x v e high; within = within_leaf bytes d l (from bytes tokens at) (k - at) before });
  }

  definite_read : (x : Expr) (end : ℕ) (f : Form) → at ≤ end → ReadsDefinite (symbols_of (from bytes tokens at)) (end - at) f → tree bytes f ≡ x → height f ≤ 200 →
      IsRead bytes tokens d (leaf value) at (placed bytes tokens at x) end
  definite_read x end f w r t low = read_leaf value x end f w r.definite r.spells (λ h more y v e. r.ends h (more, y, v, e)) t low

  definite_wrong : (k : ℕ) → at ≤ length tokens → at ≤ k → FailsDefinite (symbols_of (from bytes tokens at)) (k - at) → IsRefused bytes tokens d (leaf value) at (error.Syntax k)
  definite_wrong k r w f =
      refused_leaf value k r w f.within f.alive.0 f.alive.1 f.alive.2 f.alive.3 (λ h more y v e. f.dead h (more, y, v, e))
      (λ m x h v e ends. f.none m x (record { within = h; definite = v; spells = e; ends = λ h' b. ends h' b.0 b.1 b.2 b.3 }))

  definite_deep : (k : ℕ) → at ≤ k → IsTooHighDefinite 200 (symbols_of (from bytes tokens at)) (k - at) → IsRefused bytes tokens d (leaf value) at (error.Depth k)
  definite_deep k w f = deep_leaf value k w f.within f.alive.0 f.alive.1 f.alive.2 f.alive.3 f.high f.before

  pub definite_placed : at ≤ length tokens → (r : Result (Expr × ℕ) SyntaxError) →
      MatchResult r (λ r. IsDefiniteRead bytes tokens at r.0 r.1) (λ e. IsDefiniteRefused bytes tokens at e) → Answer bytes tokens d (leaf value) at (placed_result bytes tokens at r)
  definite_placed w (Ok r) m = definite_read r.0 r.1 m.1 m.0 (subst (λ ss. ReadsDefinite ss (r.1 - at) m.1) symbols_are m.2) m.3 m.4
  definite_placed w (Err error.NoMemory) m = record { why = tt }
  definite_placed w (Err (error.Syntax k)) m = definite_wrong k w m.0 (subst (λ ss. FailsDefinite ss (k - at)) symbols_are m.1)
  definite_placed w (Err (error.Depth k)) m = definite_deep k m.0 (subst (λ ss. IsTooHighDefinite 200 ss (k - at)) symbols_are m.1)

  expr_read : (x : Expr) (end : ℕ) (f : Form) → at ≤ end → exprs.Reads false (symbols_of (from bytes tokens at)) (end - at) f → tree bytes f ≡ x → height f ≤ 200 →
      IsRead bytes tokens d (leaf label) at (placed bytes tokens at x) end
  expr_read x end f w r t low = read_leaf label x end f w r.expr r.spells (λ h more y v e. r.ends h (more, y, v, e)) t low

  expr_wrong : (k : ℕ) → at ≤ length tokens → at ≤ k → exprs.Fails false (symbols_of (from bytes tokens at)) (k - at) → IsRefused bytes tokens d (leaf label) at (error.Syntax k)
  expr_wrong k r w f =
      refused_leaf label k r w f.within f.alive.0 f.alive.1 f.alive.2 f.alive.3 (λ h more y v e. f.dead h (more, y, v, e))
      (λ m x h v e ends. f.none m x (record { within = h; expr = v; spells = e; ends = λ h' b. ends h' b.0 b.1 b.2 b.3 }))

  expr_deep : (k : ℕ) → at ≤ k → exprs.IsTooHigh 200 false (symbols_of (from bytes tokens at)) (k - at) → IsRefused bytes tokens d (leaf label) at (error.Depth k)
  expr_deep k w f = deep_leaf label k w f.within f.alive.0 f.alive.1 f.alive.2 f.alive.3 f.high f.before

  deep_one : (k : ℕ) → at ≤ k → IsDeep bytes false (symbols_of (from bytes tokens at)) (k - at) → IsRefused bytes tokens d (leaf label) at (error.Depth k)
  deep_one k w (inl f) = expr_deep k w f
  deep_one k w (inr f) = true_false false f.0 refl

  pub expr_placed : at ≤ length tokens → (r : Result (Expr × ℕ) SyntaxError) →
      MatchResult r (λ r. exprs_answers.IsRead bytes tokens false at r.0 r.1) (λ e. exprs_answers.IsRefused bytes tokens false at e) → Answer bytes tokens d (leaf label) at (placed_result bytes tokens at r)
  expr_placed w (Ok r) m =
      expr_read r.0 r.1 m.1.1.0 m.0 (subst (λ ss. exprs.Reads false ss (r.1 - at) m.1.1.0) symbols_are m.1.1.1) m.1.1.2 (subst (λ h. h ≤ 200) (sym m.1.1.3) m.1.2)
  expr_placed w (Err error.NoMemory) m = record { why = tt }
  expr_placed w (Err (error.Syntax k)) m = expr_wrong k w m.0 (subst (λ ss. exprs.Fails false ss (k - at)) symbols_are m.1)
  expr_placed w (Err (error.Depth k)) m = deep_one k m.0 (subst (λ ss. IsDeep bytes false ss (k - at)) symbols_are m.1)

-- ---- without places

goes_by : (bytes : List ℕ) (tokens : List Token) (at end : ℕ) → at ≤ length tokens → (f : Form) → at ≤ end → end - at ≤ length (tokens_from bytes tokens at) →
    text f ≡ take (end - at) (tokens_from bytes tokens at) → (at < end) × (end ≤ length tokens)
goes_by bytes tokens at end w f v h e = (not_here (end - at) refl, ends)
  where
    none_read : (n : ℕ) → n ≡ 0 → text f ≡ take n (tokens_from bytes tokens at) → ⊥
    none_read n z e = nil_cons _ _ (sym (begins f).1 ∙ e ∙ ap (λ m. take m (tokens_from bytes tokens at)) z)

    not_here : (n : ℕ) → n ≡ end - at → at < end
    not_here zero z = absurd (none_read (end - at) (sym z) e)
    not_here (suc n) z = omega (arith, z)

    ends : end ≤ length tokens
    ends =
        let g : length (tokens_from bytes tokens at) ≡ length tokens - at =
        ap length (sym (from_symbols bytes tokens at)) ∙ symbols_length (from bytes tokens at) ∙ length-drop at (lexemes bytes tokens) ∙ ap (λ m. m - at) (lexemes_length bytes tokens) in
        omega (arith, w, v, h, g)

-- the tree of a placed one
pub tree_answer : (bytes : List ℕ) (tokens : List Token) (at : ℕ) (d : ℕ → Limit) {A : Type 0} (g : Gram base (Placed A)) → is_good base table g ≡ true → (r : Result (A × ℕ) SyntaxError) →
    Answer bytes tokens d g at (placed_result bytes tokens at r) → Answer bytes tokens d (act rules.tree g) at r
tree_answer bytes tokens at d g z (Ok r) a = last (through (begin (act rules.tree g) at z)) a
tree_answer bytes tokens at d g z (Err e) a = refuse_last (through (begin (act rules.tree g) at z)) a

-- an expression has tokens
pub definite_goes : (bytes : List ℕ) (tokens : List Token) (at : ℕ) (r : Result (Expr × ℕ) SyntaxError) → at ≤ length tokens →
    MatchResult r (λ r. IsDefiniteRead bytes tokens at r.0 r.1) (λ e. IsDefiniteRefused bytes tokens at e) → IfOk r (λ r. GoesOn tokens at r)
definite_goes bytes tokens at (Ok r) w m = goes_by bytes tokens at r.1 w m.1 m.0 m.2.within m.2.spells
definite_goes bytes tokens at (Err e) w m = tt

pub expr_goes : (bytes : List ℕ) (tokens : List Token) (at : ℕ) (r : Result (Expr × ℕ) SyntaxError) → at ≤ length tokens →
    MatchResult r (λ r. exprs_answers.IsRead bytes tokens false at r.0 r.1) (λ e. exprs_answers.IsRefused bytes tokens false at e) → IfOk r (λ r. GoesOn tokens at r)
expr_goes bytes tokens at (Ok r) w m = goes_by bytes tokens at r.1 w m.1.1.0 m.0 m.1.1.1.within m.1.1.1.spells
expr_goes bytes tokens at (Err e) w m = tt
