-- Tokens that stand where some were written, cut where those are.
use Rattle.std.proofs.Common.{◌≡◌, ℕ, zero, suc, ◌+◌, ◌-◌, ◌^◌, ◌<◌, Bool, true, false, if◌then◌else◌, List, [], ◌∷◌, ◌++◌, take, drop, Some, refl, sym, ap, ◌∙◌, arith, true≢false}
use Rattle.std.specs.Prelude.{slice_range}
use Rattle.lv_ast.specs.Names.{is_simple}
use Rattle.lv_ast.specs.Tokens.{kind_of}
use Rattle.lv_ast.specs.declared.tokens.Kind.TheVariants as k
use Rattle.lv_ast.specs.declared.tokens.Token.{Token}
use Rattle.lv_exprs.specs.declared.symbol.Symbol.{Symbol}
use Rattle.lv_exprs.specs.declared.symbol.Symbol.TheVariants as t
use Rattle.lv_exprs.specs.declared.symbol.Name.{Name}
use Rattle.lv_exprs.specs.Symbols.{kind_symbol, mark_symbol, behind, symbol, symbols}
use Rattle.lv_exprs.specs.Trees.{bytes_of}
use Rattle.lv_print.specs.Written.{Written, written, mark, name}
use Rattle.lv_print.proofs.Tokenized.{IsWhole, AreWhole, IsAt, Are}

-- ---- whole tokens

pub whole_mark : (s : List ℕ) → kind_of s ≡ Some k.Mark → IsWhole (mark s)
whole_mark s h = record { ordinary = refl; kind = h; apostrophe = λ e. absurd (true≢false (sym e)) }

pub whole_append : (a b : List Written) → AreWhole a → AreWhole b → AreWhole (a ++ b)
whole_append [] b h e = e
whole_append (w ∷ a) b h e = (h.0, whole_append a b h.1 e)

-- a name can be written
pub record IsWritable (s : List ℕ) : Type 0 where
  pub kind : kind_of (name s).bytes ≡ Some (name s).kind

named-whole : (s : List ℕ) (b : Bool) → kind_of (if b then written k.Name s else written k.Escaped (92 ∷ s)).bytes ≡ Some (if b then written k.Name s else written k.Escaped (92 ∷ s)).kind →
    IsWhole (if b then written k.Name s else written k.Escaped (92 ∷ s))
named-whole s true h = record { ordinary = refl; kind = h; apostrophe = λ e. absurd (true≢false (sym e)) }
named-whole s false h = record { ordinary = refl; kind = h; apostrophe = λ e. absurd (true≢false (sym e)) }

pub whole_name : (s : List ℕ) → IsWritable s → IsWhole (name s)
whole_name s h = named-whole s (is_simple s) h.kind

tail-take : (n c : ℕ) (d s : List ℕ) → take n d ≡ c ∷ s → take (n - 1) (drop 1 d) ≡ s
tail-take zero c d s h = absurd (cc)
tail-take (suc n) c [] s h = absurd (cc)
tail-take (suc n) c (x ∷ d) s h = let e : suc n - 1 ≡ n = omega arith in ap (λ z. take z d) e ∙ (cc)

some-take : (n c : ℕ) (d s : List ℕ) → take n d ≡ c ∷ s → 0 < n
some-take zero c d s h = absurd (cc)
some-take (suc n) c d s h = omega arith

drop-one : (a : ℕ) (xs : List ℕ) → drop 1 (drop a xs) ≡ drop (a + 1) xs
drop-one zero xs = refl
drop-one (suc a) [] = (let e : suc a + 1 ≡ suc (a + 1) = omega arith in ap (λ n. drop n []) (sym e))
drop-one (suc a) (x ∷ xs) = drop-one a xs ∙ (let e : suc a + 1 ≡ suc (a + 1) = omega arith in ap (λ n. drop n (x ∷ xs)) (sym e))

-- ---- tokens in a text

module _ (text : List ℕ) where
  -- a token and those behind it
  pub record Behind (ts : List Token) (w : Written) (ws : List Written) : Type 0 where
    pub token : Token
    pub rest : List Token
    pub cut : ts ≡ token ∷ rest
    pub at : IsAt text token w
    pub are : Are text rest ws

  pub behind_of : (ts : List Token) (w : Written) (ws : List Written) → Are text ts (w ∷ ws) → Behind ts w ws
  behind_of ts w ws a = record { token = a.0; rest = a.1; cut = a.2; at = a.3; are = a.4 }

  pub record Cut (ts : List Token) (a b : List Written) : Type 0 where
    pub front : List Token
    pub back : List Token
    pub cut : ts ≡ front ++ back
    pub front_are : Are text front a
    pub back_are : Are text back b

  pub cut_of : (ts : List Token) (a b : List Written) → Are text ts (a ++ b) → Cut ts a b
  cut_of ts [] b h = record { front = []; back = ts; cut = refl; front_are = refl; back_are = h }
  cut_of ts (w ∷ a) b h =
      let q : Cut h.1 a b = cut_of h.1 a b h.4 in
      record { front = h.0 ∷ q.front; back = q.back; cut = h.2 ∙ ap (λ z. h.0 ∷ z) q.cut; front_are = (h.0, q.front, refl, h.3, q.front_are); back_are = q.back_are }

  at-symbol : (t : Token) (w : Written) → IsAt text t w → symbol text t ≡ kind_symbol w.kind w.bytes t.start t.end
  at-symbol t w h = ap (λ j. kind_symbol j (slice_range text t.start t.end) t.start t.end) h.kind ∙ ap (λ z. kind_symbol w.kind z t.start t.end) h.bytes

  pub at_mark : (t : Token) (m : List ℕ) (s : Symbol) → mark_symbol m ≡ s → IsAt text t (mark m) → symbol text t ≡ s
  at_mark t m s e h = at-symbol t (mark m) h ∙ e

  pub at_written : (t : Token) (w : Written) (s : Symbol) → kind_symbol w.kind w.bytes t.start t.end ≡ s → IsAt text t w → symbol text t ≡ s
  at_written t w s e h = at-symbol t w h ∙ e

  pub spells_cons : (t : Token) (ts us : List Token) (s : Symbol) (ss : List Symbol) → ts ≡ t ∷ us → symbol text t ≡ s → symbols text us ≡ ss → symbols text ts ≡ s ∷ ss
  spells_cons t ts us s ss e f g = ap (symbols text) e ∙ ap (λ z. z ∷ symbols text us) f ∙ ap (λ z. s ∷ z) g

  symbols-append : (us vs : List Token) → symbols text (us ++ vs) ≡ symbols text us ++ symbols text vs
  symbols-append [] vs = refl
  symbols-append (t ∷ us) vs = ap (λ z. symbol text t ∷ z) (symbols-append us vs)

  pub spells_append : (ts us vs : List Token) (a b : List Symbol) → ts ≡ us ++ vs → symbols text us ≡ a → symbols text vs ≡ b → symbols text ts ≡ a ++ b
  spells_append ts us vs a b e f g = ap (symbols text) e ∙ symbols-append us vs ∙ ap (λ z. z ++ symbols text vs) f ∙ ap (λ z. a ++ z) g

  -- tokens between two marks
  pub record Enclosed (ts : List Token) (a : List Written) (s r : Symbol) : Type 0 where
    pub inside : List Token
    pub are : Are text inside a
    pub spells : (ss : List Symbol) → symbols text inside ≡ ss → symbols text ts ≡ s ∷ (ss ++ (r ∷ []))

  pub enclosed : (ts : List Token) (m n : List ℕ) (a : List Written) (s r : Symbol) → mark_symbol m ≡ s → mark_symbol n ≡ r → Are text ts (mark m ∷ (a ++ (mark n ∷ []))) → Enclosed ts a s r
  enclosed ts m n a s r e f h =
      let first = behind_of ts (mark m) (a ++ (mark n ∷ [])) h in
      let c = cut_of first.rest a (mark n ∷ []) first.are in
      let end = behind_of c.back (mark n) [] c.back_are in
      record {
        inside = c.front;
        are = c.front_are;
        spells = λ ss g. spells_cons first.token ts first.rest s (ss ++ (r ∷ [])) first.cut (at_mark first.token m s e first.at)
            (spells_append first.rest c.front c.back ss (r ∷ []) c.cut g (spells_cons end.token c.back end.rest r [] end.cut (at_mark end.token n r f end.at) (ap (symbols text) end.are)));
      }

  -- tokens before and behind a mark
  pub record Middle (ts : List Token) (a b : List Written) (s : Symbol) : Type 0 where
    pub left : List Token
    pub right : List Token
    pub left_are : Are text left a
    pub right_are : Are text right b
    pub spells : (ss rs : List Symbol) → symbols text left ≡ ss → symbols text right ≡ rs → symbols text ts ≡ ss ++ (s ∷ rs)

  pub middle : (ts : List Token) (m : List ℕ) (a b : List Written) (s : Symbol) → mark_symbol m ≡ s → Are text ts (a ++ (mark m ∷ b)) → Middle ts a b s
  middle ts m a b s e h =
      let c = cut_of ts a (mark m ∷ b) h in
      let q = behind_of c.back (mark m) b c.back_are in
      record {
        left = c.front;
        right = q.rest;
        left_are = c.front_are;
        right_are = q.are;
        spells = λ ss rs f g. spells_append ts c.front c.back ss (s ∷ rs) c.cut f (spells_cons q.token c.back q.rest s rs q.cut (at_mark q.token m s e q.at) g);
      }

  -- ---- names

  -- a name as it is read
  pub record IsNamed (u : Token) (s : List ℕ) : Type 0 where
    pub name : Name
    pub symbol : symbol text u ≡ t.Name name
    pub bytes : bytes_of text name ≡ s

  -- the bytes behind the first
  pub slice_behind : (xs : List ℕ) (a b c : ℕ) (s : List ℕ) → slice_range xs a b ≡ c ∷ s → slice_range xs (a + 1) b ≡ s
  slice_behind xs a b c s h =
      let n : b - (a + 1) ≡ (b - a) - 1 = omega arith in
      ap (λ z. take z (drop (a + 1) xs)) n ∙ ap (take ((b - a) - 1)) (sym (drop-one a xs)) ∙ tail-take (b - a) c (drop a xs) s h

  pub slice_long : (xs : List ℕ) (a b c : ℕ) (s : List ℕ) → slice_range xs a b ≡ c ∷ s → a < b
  slice_long xs a b c s h = let k : 0 < b - a = some-take (b - a) c (drop a xs) s h in omega (arith, k)

  name-at : (t : Token) (s : List ℕ) (b : Bool) → IsAt text t (if b then written k.Name s else written k.Escaped (92 ∷ s)) → IsNamed t s
  name-at t s true h = record {
    name = record { place = t.start; start = t.start; end = t.end };
    symbol = at-symbol t (written k.Name s) h;
    bytes = h.bytes;
  }
  name-at t s false h = record {
    name = record { place = t.start; start = behind t.start; end = t.end };
    symbol = at-symbol t (written k.Escaped (92 ∷ s)) h;
    bytes =
        let less : t.start < t.end = slice_long text t.start t.end 92 s h.bytes in
        let small : t.end < 2 ^ 64 = h.small in
        let e : behind t.start ≡ t.start + 1 = omega (arith, less, small) in
        ap (λ z. slice_range text z t.end) e ∙ slice_behind text t.start t.end 92 s h.bytes;
  }

  pub name_at : (t : Token) (s : List ℕ) → IsAt text t (name s) → IsNamed t s
  name_at t s h = name-at t s (is_simple s) h
