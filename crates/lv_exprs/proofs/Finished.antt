-- What is answered where reading ends.
use Rattle.std.proofs.Common.{◌≡◌, ℕ, ◌+◌, ◌≤◌, ◌<◌, List, Bool, true, false, cond, Result, Ok, Err, MatchResult, ◌⊎◌, inl, inr, refl, sym, subst, arith, length, drop, ◌-◌}
use Rattle.std.proofs.lemmas.List.{length-map}
use Rattle.lv_ast.specs.declared.expr.Expr.{Expr}
use Rattle.lv_exprs.specs.declared.symbol.Symbol.{Symbol}
use Rattle.lv_exprs.specs.declared.error.SyntaxError.{SyntaxError}
use Rattle.lv_exprs.specs.declared.error.SyntaxError.TheVariants as error
use Rattle.lv_ast.specs.declared.tokens.Token.{Token}
use Rattle.lv_exprs.specs.Symbols.{symbol, symbols}
use Rattle.lv_exprs.specs.Reading.{ReadsTree, Fails}
use Rattle.lv_exprs.specs.Answers.{ReadsLow, IsDeep, Refuses, IsRead, IsRefused}

pub limit_le : (p : Bool) → cond p 201 200 ≤ 201
limit_le true = omega arith
limit_le false = omega arith

pub limit_ge : (p : Bool) → 1 ≤ cond p 201 200
limit_ge true = omega arith
limit_ge false = omega arith

-- higher than 200 only with paths
with_paths : (p : Bool) (n : ℕ) → n ≤ cond p 201 200 → 200 < n → p ≡ true
with_paths true n h w = refl
with_paths false n h w = absurd (omega arith)

pub finished : (text : List ℕ) (p : Bool) (ts : List Symbol) (n : ℕ) (x : Expr) (reach : ℕ) (r : Result (Expr × ℕ) SyntaxError) → ReadsTree text p ts n x reach → reach ≤ cond p 201 200 →
    MatchResult r (λ v. (v ≡ (x, n)) × (reach ≤ 200)) (λ e. (e ≡ error.NoMemory) ⊎ ((e ≡ error.Depth n) × (200 < reach))) →
    MatchResult r (λ v. ReadsLow text p ts v.1 v.0) (λ e. Refuses text p ts e)
finished text p ts n x reach (Ok v) t l (q, w) = subst (λ (u : Expr × ℕ). ReadsLow text p ts u.1 u.0) (sym q) (reach, t, w)
finished text p ts n x reach (Err e) t l (inl q) = subst (λ (u : SyntaxError). Refuses text p ts u) (sym q) tt
finished text p ts n x reach (Err e) t l (inr (q, w)) =
    subst (λ (u : SyntaxError). Refuses text p ts u) (sym q) (let d : IsDeep text p ts n = inr (with_paths p reach l w, (x, reach, t, w)) in d)

-- a token is one symbol
pub fewer : (text : List ℕ) (tokens : List Token) (n : ℕ) → n < length tokens → n < length (symbols text tokens)
fewer text tokens n h = omega (arith, length-map tokens (symbol text))

pub all_read : (text : List ℕ) (tokens : List Token) (n : ℕ) → n ≤ length tokens → length tokens ≤ n → n ≡ length (symbols text tokens)
all_read text tokens n h k = omega (arith, length-map tokens (symbol text))

-- ---- from a token on

back : (a n : ℕ) → n ≡ (a + n) - a
back a n = omega arith

pub read_from : (text : List ℕ) (tokens rest : List Token) (p : Bool) (from n : ℕ) (x : Expr) → rest ≡ drop from tokens → ReadsLow text p (symbols text rest) n x → IsRead text tokens p from x (from + n)
read_from text tokens rest p from n x e r = (omega arith, subst (λ (m : ℕ). ReadsLow text p (symbols text (drop from tokens)) m x) (back from n) (subst (λ (us : List Token). ReadsLow text p (symbols text us) n x) e r))

pub syntax_from : (text : List ℕ) (tokens rest : List Token) (p : Bool) (from n : ℕ) → rest ≡ drop from tokens → Fails p (symbols text rest) n → IsRefused text tokens p from (error.Syntax (from + n))
syntax_from text tokens rest p from n e r = (omega arith, subst (λ (m : ℕ). Fails p (symbols text (drop from tokens)) m) (back from n) (subst (λ (us : List Token). Fails p (symbols text us) n) e r))

pub depth_from : (text : List ℕ) (tokens rest : List Token) (p : Bool) (from n : ℕ) → rest ≡ drop from tokens → IsDeep text p (symbols text rest) n → IsRefused text tokens p from (error.Depth (from + n))
depth_from text tokens rest p from n e r = (omega arith, subst (λ (m : ℕ). IsDeep text p (symbols text (drop from tokens)) m) (back from n) (subst (λ (us : List Token). IsDeep text p (symbols text us) n) e r))

pub read_within : (text : List ℕ) (rest : List Token) (p : Bool) (n : ℕ) (x : Expr) → ReadsLow text p (symbols text rest) n x → n ≤ length rest
read_within text rest p n x r = let h : n ≤ length (symbols text rest) = r.1.1.within in omega (arith, length-map rest (symbol text))

pub syntax_within : (text : List ℕ) (rest : List Token) (p : Bool) (n : ℕ) → Fails p (symbols text rest) n → n ≤ length rest
syntax_within text rest p n r = let h : n ≤ length (symbols text rest) = r.within in omega (arith, length-map rest (symbol text))

pub depth_within : (text : List ℕ) (rest : List Token) (p : Bool) (n : ℕ) → IsDeep text p (symbols text rest) n → n ≤ length rest
depth_within text rest p n (inl r) = let h : n < length (symbols text rest) = r.within in omega (arith, length-map rest (symbol text))
depth_within text rest p n (inr (e, r)) = let h : n ≤ length (symbols text rest) = r.2.1.within in omega (arith, length-map rest (symbol text))
