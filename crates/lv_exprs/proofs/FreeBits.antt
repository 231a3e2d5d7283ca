-- A literal with free bits begins no expression that has a value.
use Rattle.std.proofs.Common.{◌≡◌, ℕ, zero, suc, ◌+◌, ◌≤◌, ◌<◌, List, [], ◌∷◌, ◌++◌, Bool, true, false, length, take, refl, ap, sym, subst, ◌∙◌, arith, append-nil, inl, inr}
use Rattle.lv_exprs.specs.declared.symbol.Number.{Number}
use Rattle.lv_exprs.specs.declared.symbol.Based.{Based}
use Rattle.lv_exprs.specs.declared.symbol.Symbol.{Symbol}
use Rattle.lv_exprs.specs.declared.symbol.Symbol.TheVariants as t
use Rattle.lv_ast.specs.declared.expr.Expr.{Expr}
use Rattle.lv_exprs.specs.declared.symbol.Sign.{Sign}
use Rattle.lv_exprs.specs.declared.symbol.Sign.TheVariants as g
use Rattle.lv_exprs.specs.Heights.{height}
use Rattle.lv_exprs.specs.Trees.{tree, unary, infix_tree}
use Rattle.lv_ast.specs.declared.tokens.Token.{Token}
use Rattle.lv_exprs.specs.declared.error.SyntaxError.{SyntaxError}
use Rattle.lv_exprs.specs.declared.error.SyntaxError.TheVariants as error
use Rattle.lv_exprs.specs.Symbols.{symbols}
use Rattle.lv_exprs.specs.Answers.{ReadsLow, Refuses, IsRefused, tokens_from}
use Rattle.lv_exprs.specs.Reading.{Reads, ReadsTree, Fails, IsTooHigh}
use Rattle.lv_exprs.specs.Definite.{is_free_literal, IsDefiniteRefused, IsDefinite, BeginsDefinite, ReadsDefinite, FailsDefinite, IsTooHighDefinite}
use Rattle.lv_exprs.specs.Forms.{Form, plain, based, sized, name, dot, bit, part, prefix, binary, choice, paren, cast, pair, brace, repeat, text, rank, is_free, Valid, IsExpr, Begins}

-- whether a token is a based one
abbrev is_based : Symbol → Bool
is_based (t.Based b) = true
is_based _ = false

-- a list that begins with a based token, and what stands in front of another token
based_front : (v w more : List Symbol) (k : Symbol) (b : Based) → is_based k ≡ false → v ++ (k ∷ w) ≡ t.Based b ∷ more → (u : List Symbol) × (v ≡ t.Based b ∷ u)
based_front [] w more k b n e = absurd (let q : k ≡ t.Based b = cc in let r : false ≡ true = sym n ∙ ap is_based q in cc)
based_front (x ∷ v) w more k b n e = (v, (let q : x ≡ t.Based b = cc in ap (λ z. z ∷ v) q))

-- a based token in front of an expression has no free bits
pub begins_based : (p : Bool) (x : Form) (b : Based) (more : List Symbol) → Valid p x → text x ≡ t.Based b ∷ more → is_free (based b) ≡ false
begins_based p (plain n) b more v e = cc
begins_based p (based c) b more v e = (let q : c ≡ b = cc in subst (λ z. is_free (based z) ≡ false) q v)
begins_based p (sized n c) b more v e = cc
begins_based p (name n) b more v e = cc
begins_based p (dot x n) b more v e = let q = based_front (text x) (t.Name n ∷ []) more t.Dot b refl e in begins_based p x b q.0 v.0 q.1
begins_based p (bit x i) b more v e = let q = based_front (text x) (text i ++ (t.RightBracket ∷ [])) more t.LeftBracket b refl e in begins_based p x b q.0 v.0 q.1
begins_based p (part r x i j) b more v e =
    let q = based_front (text x) (text i ++ (t.Divider r ∷ (text j ++ (t.RightBracket ∷ [])))) more t.LeftBracket b refl e in begins_based p x b q.0 v.0 q.1
begins_based p (prefix s x) b more v e = cc
begins_based p (binary s x y) b more v e = let q = based_front (text x) (text y) more (t.Sign s) b refl e in begins_based p x b q.0 v.0 q.1
begins_based p (choice c x y) b more v e =
    let q = based_front (text c) (text x ++ (t.Divider _ ∷ text y)) more t.Question b refl e in begins_based p c b q.0 v.0 q.1
begins_based p (paren x) b more v e = cc
begins_based p (cast c x) b more v e = cc
begins_based p (pair x y) b more v e = let q = based_front (text x) (text y) more t.Comma b refl e in begins_based p x b q.0 v.0 q.1
begins_based p (brace x) b more v e = cc
begins_based p (repeat c x) b more v e = cc

behind_some : (v w : List Symbol) (k : Symbol) → v ++ (k ∷ w) ≡ [] → ⊥
behind_some [] w k e = cc
behind_some (x ∷ v) w k e = cc

pub some_text : (x : Form) → text x ≡ [] → ⊥
some_text (plain n) e = cc
some_text (based b) e = cc
some_text (sized n b) e = cc
some_text (name n) e = cc
some_text (dot x n) e = behind_some (text x) _ _ e
some_text (bit x i) e = behind_some (text x) _ _ e
some_text (part r x i j) e = behind_some (text x) _ _ e
some_text (prefix s x) e = cc
some_text (binary s x y) e = behind_some (text x) _ _ e
some_text (choice c x y) e = behind_some (text c) _ _ e
some_text (paren x) e = cc
some_text (cast b x) e = cc
some_text (pair x y) e = behind_some (text x) _ _ e
some_text (brace x) e = cc
some_text (repeat c x) e = cc

-- a list that begins with a number and a based token, and what stands in front of another token
sized_front : (v w more : List Symbol) (k : Symbol) (n : Number) (b : Based) → is_based k ≡ false → (v ≡ [] → ⊥) → v ++ (k ∷ w) ≡ t.Number n ∷ t.Based b ∷ more →
    (u : List Symbol) × (v ≡ t.Number n ∷ t.Based b ∷ u)
sized_front [] w more k n b h s e = absurd (s refl)
sized_front (x ∷ []) w more k n b h s e = absurd (let q : k ≡ t.Based b = cc in let r : false ≡ true = sym h ∙ ap is_based q in cc)
sized_front (x ∷ y ∷ v) w more k n b h s e = (v, (let q : x ≡ t.Number n = cc in let r : y ≡ t.Based b = cc in ap (λ z. z ∷ y ∷ v) q ∙ ap (λ z. t.Number n ∷ z ∷ v) r))

-- a number and a based token in front of an expression are a literal without free bits
pub begins_sized : (p : Bool) (x : Form) (n : Number) (b : Based) (more : List Symbol) → Valid p x → text x ≡ t.Number n ∷ t.Based b ∷ more → is_free (sized n b) ≡ false
begins_sized p (plain m) n b more v e = cc
begins_sized p (based c) n b more v e = cc
begins_sized p (sized m c) n b more v e = (let q : m ≡ n = cc in let r : c ≡ b = cc in subst (λ z. is_free (sized z b) ≡ false) q (subst (λ z. is_free (sized m z) ≡ false) r v))
begins_sized p (name m) n b more v e = cc
begins_sized p (dot x m) n b more v e = let q = sized_front (text x) _ more t.Dot n b refl (some_text x) e in begins_sized p x n b q.0 v.0 q.1
begins_sized p (bit x i) n b more v e = let q = sized_front (text x) _ more t.LeftBracket n b refl (some_text x) e in begins_sized p x n b q.0 v.0 q.1
begins_sized p (part r x i j) n b more v e = let q = sized_front (text x) _ more t.LeftBracket n b refl (some_text x) e in begins_sized p x n b q.0 v.0 q.1
begins_sized p (prefix s x) n b more v e = cc
begins_sized p (binary s x y) n b more v e = let q = sized_front (text x) _ more (t.Sign s) n b refl (some_text x) e in begins_sized p x n b q.0 v.0 q.1
begins_sized p (choice c x y) n b more v e = let q = sized_front (text c) _ more t.Question n b refl (some_text c) e in begins_sized p c n b q.0 v.0 q.1
begins_sized p (paren x) n b more v e = cc
begins_sized p (cast c x) n b more v e = cc
begins_sized p (pair x y) n b more v e = let q = sized_front (text x) _ more t.Comma n b refl (some_text x) e in begins_sized p x n b q.0 v.0 q.1
begins_sized p (brace x) n b more v e = cc
begins_sized p (repeat c x) n b more v e = cc

-- ---- the tree tells

unary_free : (s : Sign) (x : Expr) → is_free_literal x ≡ false → is_free_literal (unary s x) ≡ false
unary_free g.Minus x h = refl
unary_free g.Tilde x h = refl
unary_free g.Bang x h = refl
unary_free g.Amp x h = refl
unary_free g.Bar x h = refl
unary_free g.Caret x h = refl
unary_free g.TildeAmp x h = refl
unary_free g.TildeBar x h = refl
unary_free g.TildeCaret x h = refl
unary_free g.CaretTilde x h = refl
unary_free _ x h = h

infix_free : (s : Sign) (x y : Expr) → is_free_literal (infix_tree s x y) ≡ false
infix_free g.Slash x y = refl
infix_free g.Percent x y = refl
infix_free _ x y = refl

pub definite_tree : (bytes : List ℕ) (x : Form) → Valid false x → 1 ≤ rank x → is_free_literal (tree bytes x) ≡ false
definite_tree bytes (plain n) v r = refl
definite_tree bytes (based b) v r = v
definite_tree bytes (sized n b) v r = v
definite_tree bytes (name n) v r = refl
definite_tree bytes (dot x n) v r = refl
definite_tree bytes (bit x i) v r = refl
definite_tree bytes (part d x i j) v r = refl
definite_tree bytes (prefix s x) v r = unary_free s (tree bytes x) (definite_tree bytes x v.0 (omega (arith, v.1)))
definite_tree bytes (binary s x y) v r = infix_free s (tree bytes x) (tree bytes y)
definite_tree bytes (choice c x y) v r = refl
definite_tree bytes (paren x) v r = definite_tree bytes x v.0 v.1
definite_tree bytes (cast b x) v r = refl
definite_tree bytes (pair x y) v r = absurd (omega arith)
definite_tree bytes (brace x) v r = refl
definite_tree bytes (repeat c x) v r = refl

pub free_tree : (bytes : List ℕ) (x : Form) → is_free x ≡ true → is_free_literal (tree bytes x) ≡ true
free_tree bytes (based b) h = h
free_tree bytes (sized n b) h = h
free_tree bytes _ h = cc

-- an expression whose tree is no literal with free bits has a value
pub definite_of : (bytes : List ℕ) (x : Form) → IsExpr false x → is_free_literal (tree bytes x) ≡ false → IsDefinite x
definite_of bytes x (inl d) h = d
definite_of bytes x (inr f) h = absurd (let q : true ≡ false = sym (free_tree bytes x f) ∙ h in cc)

pub free_of : (bytes : List ℕ) (x : Form) → IsExpr false x → is_free_literal (tree bytes x) ≡ true → is_free x ≡ true
free_of bytes x (inl d) h = absurd (let q : true ≡ false = sym h ∙ definite_tree bytes x d.0 d.1 in cc)
free_of bytes x (inr f) h = f

-- ---- answers

pub begins_expr : (ts : List Symbol) → BeginsDefinite ts → Begins false ts
begins_expr ts b = (b.0, b.1, inl b.2, b.3)

pub reads_definite : (ts : List Symbol) (n : ℕ) (x : Form) → Reads false ts n x → IsDefinite x → ReadsDefinite ts n x
reads_definite ts n x r d = record { within = r.within; definite = d; spells = r.spells; ends = λ l b. r.ends l (begins_expr _ b) }

free_low : (x : Form) → is_free x ≡ true → 200 < height x → ⊥
free_low (based b) f h = omega arith
free_low (sized n b) f h = omega arith
free_low _ f h = cc

pub too_high_definite : (ts : List Symbol) (k : ℕ) → IsTooHigh 200 false ts k → IsTooHighDefinite 200 ts k
too_high_definite ts k h = record {
  within = h.within;
  alive = elim h.alive.2 [
    | inl d ↦ (h.alive.0, h.alive.1, d, h.alive.3)
    | inr f ↦ absurd (free_low h.alive.1 f (h.high h.alive.0 h.alive.1 (inr f) h.alive.3))
  ];
  high = λ more x d e. h.high more x (inl d) e;
  before = h.before;
}

-- nothing goes on behind a literal with free bits
past_sized : (n : Number) (b : Based) (k : Symbol) (more : List Symbol) (z : Form) → is_free (sized n b) ≡ true → IsExpr false z → text z ≡ t.Number n ∷ t.Based b ∷ k ∷ more → ⊥
past_sized n b k more z f (inl d) e = (let q : true ≡ false = sym f ∙ begins_sized false z n b (k ∷ more) d.0 e in cc)
past_sized n b k more (based c) f (inr g) e = cc
past_sized n b k more (sized m c) f (inr g) e = cc
past_sized n b k more _ f (inr g) e = cc

sized_ends : (n : Number) (b : Based) (rest : List Symbol) → is_free (sized n b) ≡ true → 2 < length (t.Number n ∷ t.Based b ∷ rest) →
    Begins false (take 3 (t.Number n ∷ t.Based b ∷ rest)) → ⊥
sized_ends n b [] f l z = omega (arith, l)
sized_ends n b (k ∷ rest) f l z = past_sized n b k _ z.1 f z.2 z.3

-- of tokens that begin with a literal with free bits, that literal is read
sized_reads : (n : Number) (b : Based) (rest : List Symbol) → is_free (sized n b) ≡ true → Reads false (t.Number n ∷ t.Based b ∷ rest) 2 (sized n b)
sized_reads n b rest f = record { within = omega arith; expr = inr f; spells = refl; ends = sized_ends n b rest f }

-- where a literal with free bits goes on with more than one token, it is read
free_longer : (ts : List Symbol) (y : Form) (more : List Symbol) (m : ℕ) → is_free y ≡ true → text y ≡ take (suc (suc m)) ts ++ more → suc m < length ts → Reads false ts 2 y
free_longer [] y more m f e l = absurd (omega (arith, l))
free_longer (a ∷ []) y more m f e l = absurd (omega (arith, l))
free_longer (a ∷ c ∷ rest) (based b) more m f e l = cc
free_longer (a ∷ c ∷ rest) (sized n b) more m f e l =
    let q : t.Number n ≡ a = cc in let r : t.Based b ≡ c = cc in
    subst (λ z. Reads false (z ∷ c ∷ rest) 2 (sized n b)) q (subst (λ z. Reads false (t.Number n ∷ z ∷ rest) 2 (sized n b)) r (sized_reads n b rest f))
free_longer (a ∷ c ∷ rest) _ more m f e l = cc

-- what is read as an expression with a value is read as an expression, or a literal with free bits is
pub reads_either : (ts : List Symbol) (k : ℕ) → Fails false ts k → (m : ℕ) (x : Form) → ReadsDefinite ts m x → ⊥
reads_either ts k h zero x r = some_text x r.spells
reads_either ts k h (suc m) x r = h.none (suc m) x (record {
  within = r.within;
  expr = inl r.definite;
  spells = r.spells;
  ends = λ l b. elim b.2 [
    | inl d ↦ r.ends l (b.0, b.1, d, b.3)
    | inr f ↦ h.none 2 b.1 (free_longer ts b.1 b.0 m f (b.3 ∙ ap (λ v. take v ts ++ b.0) (let w : suc m + 1 ≡ suc (suc m) = omega arith in w)) l)
  ];
})

-- what begins a literal with free bits, and is not all of it, begins an expression that has a value
abbrev any_name : Form
any_name = name (record { place = 0; start = 0; end = 0 })

nothing_begun : BeginsDefinite []
nothing_begun = (text any_name, any_name, (tt, omega arith), refl)

begins_definite : (us more : List Symbol) (x : Form) → is_free x ≡ true → text x ≡ us ++ more → (more ≡ [] → ⊥) → BeginsDefinite us
begins_definite [] more x f e g = nothing_begun
begins_definite (a ∷ []) more (based b) f e g = absurd (g (let q : more ≡ [] = cc in q))
begins_definite (a ∷ []) more (sized n b) f e g = ([], plain n, (tt, omega arith), (let q : t.Number n ≡ a = cc in ap (λ z. z ∷ []) q))
begins_definite (a ∷ c ∷ us) more (based b) f e g = cc
begins_definite (a ∷ c ∷ []) more (sized n b) f e g = absurd (g (let q : more ≡ [] = cc in q))
begins_definite (a ∷ c ∷ d ∷ us) more (sized n b) f e g = cc
begins_definite (a ∷ us) more _ f e g = cc

pub fails_definite : (ts : List Symbol) (k : ℕ) → Fails false ts k → FailsDefinite ts k
fails_definite ts k h = record { within = h.within; alive = begun; dead = λ l b. h.dead l (begins_expr _ b); none = reads_either ts k h }
  where
    read : (x : Form) → is_free x ≡ true → text x ≡ take k ts ++ [] → ⊥
    read x f e = h.none k x (record { within = h.within; expr = inr f; spells = e ∙ append-nil (take k ts); ends = h.dead })

    begun : BeginsDefinite (take k ts)
    begun = elim h.alive.2 [
      | inl d ↦ (h.alive.0, h.alive.1, d, h.alive.3)
      | inr f ↦ begins_definite (take k ts) h.alive.0 h.alive.1 f h.alive.3 (λ q. read h.alive.1 f (h.alive.3 ∙ ap (λ v. take k ts ++ v) q))
    ]

-- ---- a literal with free bits

based_fails : (b : Based) (rest : List Symbol) → is_free (based b) ≡ true → FailsDefinite (t.Based b ∷ rest) 0
based_fails b rest f = record {
  within = omega arith;
  alive = nothing_begun;
  dead = λ l z. never z.1 z.0 z.2.0 z.3;
  none = λ m x r. nothing m x r;
}
  where
    never : (z : Form) (more : List Symbol) → Valid false z → text z ≡ t.Based b ∷ more → ⊥
    never z more v e = let q : true ≡ false = sym f ∙ begins_based false z b more v e in cc

    nothing : (m : ℕ) (x : Form) → ReadsDefinite (t.Based b ∷ rest) m x → ⊥
    nothing zero x r = some_text x r.spells
    nothing (suc m) x r = never x (take m rest) r.definite.0 r.spells

-- one with a size or without: where it is read, and what is left of it
pub data FreeRead (ts : List Symbol) : ℕ → Type 0 where
  unsized : FailsDefinite ts 0 → FreeRead ts 1
  behind_size : (n : Number) (b : Based) (rest : List Symbol) → ts ≡ t.Number n ∷ t.Based b ∷ rest → is_free (sized n b) ≡ true → FreeRead ts 2

one_only : (ts : List Symbol) (b : Based) (n : ℕ) → is_free (based b) ≡ true → n ≤ length ts → text (based b) ≡ take n ts → FreeRead ts n
one_only ts b zero f w e = cc
one_only [] b (suc n) f w e = cc
one_only (a ∷ ts) b (suc zero) f w e = let q : t.Based b ≡ a = cc in unsized (subst (λ z. FailsDefinite (z ∷ ts) 0) q (based_fails b ts f))
one_only (a ∷ []) b (suc (suc n)) f w e = absurd (omega (arith, w))
one_only (a ∷ c ∷ ts) b (suc (suc n)) f w e = cc

two_only : (ts : List Symbol) (m : Number) (b : Based) (n : ℕ) → is_free (sized m b) ≡ true → n ≤ length ts → text (sized m b) ≡ take n ts → FreeRead ts n
two_only ts m b zero f w e = cc
two_only [] m b (suc n) f w e = cc
two_only (a ∷ ts) m b (suc zero) f w e = cc
two_only (a ∷ []) m b (suc (suc n)) f w e = cc
two_only (a ∷ c ∷ ts) m b (suc (suc zero)) f w e =
    let q : a ≡ t.Number m = cc in let r : c ≡ t.Based b = cc in behind_size m b ts (ap (λ z. z ∷ c ∷ ts) q ∙ ap (λ z. t.Number m ∷ z ∷ ts) r) f
two_only (a ∷ c ∷ []) m b (suc (suc (suc n))) f w e = absurd (omega (arith, w))
two_only (a ∷ c ∷ d ∷ ts) m b (suc (suc (suc n))) f w e = cc

pub free_read : (ts : List Symbol) (n : ℕ) (x : Form) → Reads false ts n x → is_free x ≡ true → FreeRead ts n
free_read ts n (based b) r f = one_only ts b n f r.within r.spells
free_read ts n (sized m b) r f = two_only ts m b n f r.within r.spells
free_read ts n _ r f = cc

-- ---- the size alone

alone_definite : (x : Form) (n : Number) → IsExpr false x → text x ≡ t.Number n ∷ [] → IsDefinite x
alone_definite x n (inl d) e = d
alone_definite (based b) n (inr f) e = cc
alone_definite (sized m b) n (inr f) e = cc
alone_definite _ n (inr f) e = cc

size_ends : (n : Number) (b : Based) (rest : List Symbol) → is_free (sized n b) ≡ true → BeginsDefinite (take 2 (t.Number n ∷ t.Based b ∷ rest)) → ⊥
size_ends n b rest f z = let q : true ≡ false = sym f ∙ begins_sized false z.1 n b z.0 z.2.0 z.3 in cc

pub size_reads : (n : Number) (b : Based) (rest : List Symbol) (k : ℕ) (x : Form) → is_free (sized n b) ≡ true → Reads false (t.Number n ∷ []) k x →
    (k ≡ 1) × ReadsDefinite (t.Number n ∷ t.Based b ∷ rest) 1 x
size_reads n b rest zero x f r = absurd (some_text x r.spells)
size_reads n b rest (suc zero) x f r =
    (refl, record { within = omega arith; definite = alone_definite x n r.expr r.spells; spells = r.spells; ends = λ l z. size_ends n b rest f z })
size_reads n b rest (suc (suc k)) x f r = absurd (omega (arith, r.within))

pub size_fails : (n : Number) (k : ℕ) → Fails false (t.Number n ∷ []) k → ⊥
size_fails n k h = h.none 1 (plain n) (record { within = omega arith; expr = inl (tt, omega arith); spells = refl; ends = λ l b. omega (arith, l) })

pub size_low : (n : Number) (k : ℕ) → IsTooHigh 200 false (t.Number n ∷ []) k → ⊥
size_low n zero h = (let q : 200 < 1 = h.high [] (plain n) (inl (tt, omega arith)) refl in omega (arith, q))
size_low n (suc k) h = omega (arith, h.within)

-- ---- what the code reads

form_read : (bytes : List ℕ) (ts : List Symbol) (n : ℕ) (x : Expr) (h : ℕ) → ReadsTree bytes false ts n x h → is_free_literal x ≡ true → FreeRead ts n
form_read bytes ts n x h r f = free_read ts n r.0 r.1 (free_of bytes r.0 r.1.expr (ap is_free_literal r.2 ∙ f))

low_read : (bytes : List ℕ) (ts : List Symbol) (n : ℕ) (x : Expr) → ReadsLow bytes false ts n x → is_free_literal x ≡ true → FreeRead ts n
low_read bytes ts n x r f = form_read bytes ts n x r.0 r.1 f

pub refused_definite : (bytes : List ℕ) (tokens : List Token) (from : ℕ) (e : SyntaxError) → IsRefused bytes tokens false from e → IsDefiniteRefused bytes tokens from e
refused_definite bytes tokens from error.NoMemory q = tt
refused_definite bytes tokens from (error.Syntax k) q = (q.0, fails_definite _ _ q.1)
refused_definite bytes tokens from (error.Depth k) q = (q.0, elim q.1 [ inl h ↦ too_high_definite _ _ h | inr h ↦ absurd (let r : false ≡ true = h.0 in cc) ])

pub unsized_fails : (bytes : List ℕ) (ts : List Symbol) (n : ℕ) (x : Expr) → ReadsLow bytes false ts n x → is_free_literal x ≡ true → n ≡ 1 → FailsDefinite ts 0
unsized_fails bytes ts n x r f e = go n (low_read bytes ts n x r f) e
  where
    go : (n : ℕ) → FreeRead ts n → n ≡ 1 → FailsDefinite ts 0
    go _ (unsized h) e = h
    go _ (behind_size m b rest q g) e = cc

pub size_read : (bytes : List ℕ) (ts : List Symbol) (n : ℕ) (x : Expr) → ReadsLow bytes false ts n x → is_free_literal x ≡ true → (n ≡ 1 → ⊥) →
    (k : ℕ) (y : Expr) → ReadsLow bytes false (take 1 ts) k y → (f : Form) × ReadsDefinite ts k f × (tree bytes f ≡ y) × (height f ≤ 200)
size_read bytes ts n x r f e k y s = go n (low_read bytes ts n x r f) e
  where
    size : (m : Number) (b : Based) (rest : List Symbol) → is_free (sized m b) ≡ true → (h : ℕ) → ReadsTree bytes false (t.Number m ∷ []) k y h → h ≤ 200 →
        (f : Form) × ReadsDefinite (t.Number m ∷ t.Based b ∷ rest) k f × (tree bytes f ≡ y) × (height f ≤ 200)
    size m b rest g h w l =
        let q : (k ≡ 1) × ReadsDefinite (t.Number m ∷ t.Based b ∷ rest) 1 w.0 = size_reads m b rest k w.0 g w.1 in
        (w.0, subst (λ (z : ℕ). ReadsDefinite (t.Number m ∷ t.Based b ∷ rest) z w.0) (sym q.0) q.1, w.2, omega (arith, w.3, l))

    go : (n : ℕ) → FreeRead ts n → (n ≡ 1 → ⊥) → (f : Form) × ReadsDefinite ts k f × (tree bytes f ≡ y) × (height f ≤ 200)
    go _ (unsized h) e = absurd (e refl)
    go _ (behind_size m b rest q g) e =
        subst (λ (v : List Symbol). (f : Form) × ReadsDefinite v k f × (tree bytes f ≡ y) × (height f ≤ 200)) (sym q)
        (size m b rest g s.0 (subst (λ (v : List Symbol). ReadsTree bytes false (take 1 v) k y s.0) q s.1) s.2)

-- a size is always read, but for want of memory
pub size_refused : (bytes : List ℕ) (tokens : List Token) (from n : ℕ) (x : Expr) → ReadsLow bytes false (tokens_from bytes tokens from) n x → is_free_literal x ≡ true → (n ≡ 1 → ⊥) →
    (e : SyntaxError) → Refuses bytes false (take 1 (tokens_from bytes tokens from)) e → IsDefiniteRefused bytes tokens from e
size_refused bytes tokens from n x r f e w s = go (tokens_from bytes tokens from) n (low_read bytes (tokens_from bytes tokens from) n x r f) e s
  where
    never : (k : Number) (w : SyntaxError) → Refuses bytes false (t.Number k ∷ []) w → IsDefiniteRefused bytes tokens from w
    never k error.NoMemory s = tt
    never k (error.Syntax i) s = absurd (size_fails k i s)
    never k (error.Depth i) s = absurd (elim s [ inl h ↦ size_low k i h | inr h ↦ (let r : false ≡ true = h.0 in cc) ])

    go : (ts : List Symbol) (n : ℕ) → FreeRead ts n → (n ≡ 1 → ⊥) → Refuses bytes false (take 1 ts) w → IsDefiniteRefused bytes tokens from w
    go ts _ (unsized h) e s = absurd (e refl)
    go ts _ (behind_size k b rest q g) e s = never k w (subst (λ (v : List Symbol). Refuses bytes false (take 1 v) w) q s)

pub first_symbol : (bytes : List ℕ) (tokens : List Token) → symbols bytes (take 1 tokens) ≡ take 1 (symbols bytes tokens)
first_symbol bytes [] = refl
first_symbol bytes (k ∷ ks) = refl
