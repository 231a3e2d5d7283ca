-- Readers of a rule's tree and perhaps a tail.
use Rattle.std.proofs.Common.{◌≡◌, List, [], ◌∷◌, ◌++◌, Bool, true, false, Option, Some, None, refl, ap, sym, subst, ◌∙◌, append_assoc}
use Rattle.lv_grammars.specs.Grammar.{Base, Gram, call, tail}
use Rattle.lv_grammars.specs.Spelling.{Language, IsSpelled}
use Rattle.lv_grammars.specs.Nexts.{Next, Lacks}
use Rattle.lv_grammars.specs.Reading.{Begins, Reads, Fails, Passes, Within}
use Rattle.lv_grammars.specs.At.{At}
use Rattle.lv_grammars.proofs.Lists.{Cuts, cuts, longer, same, shorter, true_false}
use Rattle.lv_grammars.proofs.Readers.{Spelled, begun}
use Rattle.lv_grammars.proofs.Pairs.{past, whole}

-- A rule whose open trees go on with the token before a tail, and whose other trees don't.
pub record Tail (b : Base) (all low : Language b) {B : Type 0} (r : b.Rule) (p : b.Shape) (h : Gram b B) : Type 0 where
  pub closed : (us : List b.Token) (t : b.Token) (x : b.RuleTree r) → IsSpelled b all (call r) us false x → b.fits p t ≡ true → Begins b all (call r) (us ++ (t ∷ [])) → ⊥
  pub hangs : (us : List b.Token) (t : b.Token) (x : b.RuleTree r) → IsSpelled b all (call r) us true x → b.fits p t ≡ true → Begins b all (call r) (us ++ (t ∷ []))
  pub left : (us : List b.Token) (o : Bool) (x : b.RuleTree r) → IsSpelled b low (call r) us o x → IsSpelled b all (call r) us o x
  pub right : (us : List b.Token) → Spelled b low h us → Spelled b all h us
  pub witness : (us : List b.Token) × Spelled b all h us

-- a rule's tree alone, or one that is not open and a tail
pub data Tailed (b : Base) (l : Language b) {B : Type 0} (r : b.Rule) (p : b.Shape) (h : Gram b B) (ts : List b.Token) : Type 0 where
  bare : Spelled b l (call r) ts → Tailed b l r p h ts
  tailed : (us : List b.Token) (t : b.Token) (vs : List b.Token) (x : b.RuleTree r) → ts ≡ us ++ (t ∷ vs) → IsSpelled b l (call r) us false x → b.fits p t ≡ true → Spelled b l h vs → Tailed b l r p h ts

is_tailed : (b : Base) (l : Language b) {B : Type 0} (r : b.Rule) (p : b.Shape) (h : Gram b B) (ts : List b.Token) → Spelled b l (tail r p h) ts → Tailed b l r p h ts
is_tailed b l {B} r p h ts c = go c.0 c.1.0 c.1.1 c.2
  where
    go : (o : Bool) (x : b.RuleTree r) (z : Option B) → IsSpelled b l (tail r p h) ts o (x, z) → Tailed b l r p h ts
    go o x None s = bare (s.0, x, s.1)
    go o x (Some y) s = tailed s.0 s.1 s.2 x s.3 s.4 s.5 (o, y, s.6)

bared : (b : Base) (l : Language b) {B : Type 0} (r : b.Rule) (p : b.Shape) (h : Gram b B) (ts : List b.Token) → Begins b l (call r) ts → Begins b l (tail r p h) ts
bared b l r p h ts c = record { more = c.more; ending = true; tree = (c.tree, None); spelled = (c.ending, c.spelled, refl) }

with_tail : (b : Base) (l : Language b) {B : Type 0} (r : b.Rule) (p : b.Shape) (h : Gram b B) (us : List b.Token) (t : b.Token) (vs : List b.Token) (x : b.RuleTree r) →
    IsSpelled b l (call r) us false x → b.fits p t ≡ true → Begins b l h vs → Begins b l (tail r p h) (us ++ (t ∷ vs))
with_tail b l r p h us t vs x s f c = record {
  more = c.more;
  ending = c.ending;
  tree = (x, Some c.tree);
  spelled = (us, t, vs ++ c.more, append_assoc us (t ∷ vs) c.more, s, f, c.spelled);
}

-- the rule's tree begins within the limits
pub within_tail : {b : Base} {low : Language b} {B : Type 0} {r : b.Rule} {p : b.Shape} {h : Gram b B} {ts rest : List b.Token} → Within b low (call r) ts rest → Within b low (tail r p h) ts rest
within_tail {b} {low} {r = r} {p = p} {h = h} a = record { front = a.front; cut = a.cut; alive = bared b low r p h a.front a.alive }

module _ (b : Base) (all low : Language b) {B : Type 0} (r : b.Rule) (p : b.Shape) (h : Gram b B) (k : Tail b all low r p h) where
  -- a tree with a tail, where a tree ends that goes on with no next token
  meets : (us : List b.Token) (s : b.Token) (vs f : List b.Token) (t : b.Token) (w : List b.Token) (x : b.RuleTree r) → IsSpelled b all (call r) us false x → b.fits p s ≡ true → Spelled b all (call r) f →
      (Begins b all (call r) (f ++ (t ∷ [])) → ⊥) → us ++ (s ∷ vs) ≡ f ++ (t ∷ w) → (us ≡ f) × (s ≡ t) × (vs ≡ w)
  meets us s vs f t w x c g i e q = go (cuts us (s ∷ vs) f (t ∷ w) q)
    where
      go : Cuts us (s ∷ vs) f (t ∷ w) → (us ≡ f) × (s ≡ t) × (vs ≡ w)
      go (longer n m a d) = absurd (e (past us f m t (a ∙ ap (λ v. f ++ (v ∷ m)) (let j : n ≡ t = cc in j)) (whole us (false, x, c))))
      go (same a d) = (a, (let j : s ≡ t = cc in j), (let j : vs ≡ w = cc in j))
      go (shorter n m a d) = absurd (k.closed us s x c g (past f us m s (a ∙ ap (λ v. us ++ (v ∷ m)) (let j : n ≡ s = cc in j)) (whole f i)))

  -- a tree that is not open, before a token that begins a tail, is read
  stands : (ts us : List b.Token) (t : b.Token) (more : List b.Token) (x : b.RuleTree r) → IsSpelled b all (call r) us false x → b.fits p t ≡ true → ts ≡ us ++ (t ∷ more) → Reads b all all (call r) ts x (t ∷ more)
  stands ts us t more x c f e = record {
    front = us;
    ending = false;
    cut = e;
    spelled = c;
    ends = λ s ws g w. k.closed us t x c f (subst (λ (v : b.Token). Begins b all (call r) (us ++ (v ∷ []))) (let j : s ≡ t = cc in j) w);
  }

  -- the rule's tree is read, and a tail begins
  pub behind : (ts us : List b.Token) (t : b.Token) (x : b.RuleTree r) → Reads b all low (call r) ts x (t ∷ us) → b.fits p t ≡ true → At b all low (tail r p h) ts low h us (λ y. (x, Some y))
  behind ts us t x q f = record {
    reads = λ y rest a. record {
      front = q.front ++ (t ∷ a.front);
      ending = a.ending;
      cut = q.cut ∙ ap (λ v. q.front ++ (t ∷ v)) a.cut ∙ sym (append_assoc q.front (t ∷ a.front) rest);
      spelled = (q.front, t, a.front, refl, shut q.ending q.spelled, f, a.spelled);
      ends = λ s vs e c. a.ends s vs e (second all a.front s (λ v o z d. d) (λ v d. d) c);
    };
    fails = λ rest a. record {
      front = q.front ++ (t ∷ a.front);
      cut = q.cut ∙ ap (λ v. q.front ++ (t ∷ v)) a.cut ∙ sym (append_assoc q.front (t ∷ a.front) rest);
      alive = with_tail b all r p h q.front t a.front x first f a.alive;
      dead = λ s vs e c. a.dead s vs e (second all a.front s (λ v o z d. d) (λ v d. d) c);
      none = λ z others w. nothing rest others a z w (is_tailed b all r p h w.front (w.ending, z, w.spelled));
    };
    passes = λ rest a. record {
      front = q.front ++ (t ∷ a.front);
      token = a.token;
      others = a.others;
      cut = q.cut ∙ ap (λ v. q.front ++ (t ∷ v)) a.cut ∙ sym (append_assoc q.front (t ∷ a.front) (a.token ∷ a.others));
      at = a.at;
      alive = subst (λ (v : List b.Token). Begins b all (tail r p h) v) (sym (append_assoc q.front (t ∷ a.front) (a.token ∷ []))) (with_tail b all r p h q.front t (a.front ++ (a.token ∷ [])) x first f a.alive);
      high = λ c. a.high (second low a.front a.token k.left k.right c);
    };
    within = λ rest a. record {
      front = q.front ++ (t ∷ a.front);
      cut = q.cut ∙ ap (λ v. q.front ++ (t ∷ v)) a.cut ∙ sym (append_assoc q.front (t ∷ a.front) rest);
      alive = with_tail b low r p h q.front t a.front x (shut q.ending q.spelled) f a.alive;
    };
  }
    where
      shut : (o : Bool) → IsSpelled b low (call r) q.front o x → IsSpelled b low (call r) q.front false x
      shut true s = absurd (q.ends t us refl (k.hangs q.front t x (k.left q.front true x s) f))
      shut false s = s

      first : IsSpelled b all (call r) q.front false x
      first = k.left q.front false x (shut q.ending q.spelled)

      second : (l : Language b) (front : List b.Token) (s : b.Token) → ((ws : List b.Token) (o : Bool) (z : b.RuleTree r) → IsSpelled b l (call r) ws o z → IsSpelled b all (call r) ws o z) →
          ((ws : List b.Token) → Spelled b l h ws → Spelled b all h ws) → Begins b l (tail r p h) ((q.front ++ (t ∷ front)) ++ (s ∷ [])) → Begins b l h (front ++ (s ∷ []))
      second l front s up_left up_right c =
          let w : ((q.front ++ (t ∷ front)) ++ (s ∷ [])) ++ c.more ≡ q.front ++ (t ∷ (front ++ (s ∷ c.more))) = simp append_assoc in
          go w (is_tailed b l r p h (((q.front ++ (t ∷ front)) ++ (s ∷ [])) ++ c.more) (c.ending, c.tree, c.spelled))
        where
          go : ((q.front ++ (t ∷ front)) ++ (s ∷ [])) ++ c.more ≡ q.front ++ (t ∷ (front ++ (s ∷ c.more))) → Tailed b l r p h (((q.front ++ (t ∷ front)) ++ (s ∷ [])) ++ c.more) → Begins b l h (front ++ (s ∷ []))
          go w (bare d) = absurd (q.ends t us refl (begun (q.front ++ (t ∷ [])) (front ++ (s ∷ c.more))
              (subst (λ (v : List b.Token). Spelled b all (call r) v) (w ∙ sym (append_assoc q.front (t ∷ []) (front ++ (s ∷ c.more)))) (d.0, d.1, up_left (((q.front ++ (t ∷ front)) ++ (s ∷ [])) ++ c.more) d.0 d.1 d.2))))
          go w (tailed us' n vs' z e d g i) =
              let j : (us' ≡ q.front) × (n ≡ t) × (vs' ≡ front ++ (s ∷ c.more)) =
              meets us' n vs' q.front t (front ++ (s ∷ c.more)) z (up_left us' false z d) g (false, x, first) (λ a. q.ends t us refl a) (sym e ∙ w) in
              begun (front ++ (s ∷ [])) c.more (subst (λ (v : List b.Token). Spelled b l h v) (j.2 ∙ sym (append_assoc front (s ∷ []) c.more)) i)

      nothing : (rest others : List b.Token) → Fails b all h us rest → (z : b.RuleTree r × Option B) → (w : Reads b all all (tail r p h) ts z others) → Tailed b all r p h w.front → ⊥
      nothing rest others a z w (bare d) = go (cuts w.front others q.front (t ∷ us) (sym w.cut ∙ q.cut))
        where
          go : Cuts w.front others q.front (t ∷ us) → ⊥
          go (longer n m e g) = q.ends t us refl (past w.front q.front m t (e ∙ ap (λ v. q.front ++ (v ∷ m)) (let j : n ≡ t = cc in j)) (whole w.front d))
          go (same e g) = w.ends t us g (subst (λ (v : List b.Token). Begins b all (tail r p h) (v ++ (t ∷ []))) (sym e)
              (with_tail b all r p h q.front t [] x first f (begun [] k.witness.0 k.witness.1)))
          go (shorter n m e g) = w.ends n (m ++ (t ∷ us)) g (bared b all r p h (w.front ++ (n ∷ [])) (past q.front w.front m n e (whole q.front (false, x, first))))
      nothing rest others a z w (tailed us' n vs' x' e d g i) =
          let j : (us' ≡ q.front) × (n ≡ t) × (vs' ++ others ≡ us) =
          meets us' n (vs' ++ others) q.front t us x' d g (false, x, first) (λ c. q.ends t us refl c) (sym (append_assoc us' (n ∷ vs') others) ∙ ap (λ v. v ++ others) (sym e) ∙ sym w.cut ∙ q.cut) in
          a.none i.1 others (record {
            front = vs';
            ending = i.0;
            cut = sym j.2;
            spelled = i.2;
            ends = λ s ws c v. w.ends s ws c (subst (λ (u : List b.Token). Begins b all (tail r p h) u) (sym (append_assoc us' (n ∷ vs') (s ∷ [])) ∙ ap (λ u. u ++ (s ∷ [])) (sym e))
                (with_tail b all r p h us' n (vs' ++ (s ∷ [])) x' d g v));
          })

  pub behind_next : (ts us vs : List b.Token) (m : b.Token) (x : b.RuleTree r) → Reads b all low (call r) ts x us → Next b p us m vs → At b all low (tail r p h) ts low h vs (λ y. (x, Some y))
  behind_next ts us vs m x q n = behind ts vs m x (subst (λ w. Reads b all low (call r) ts x w) n.cut q) n.fits

  -- the rule's tree is read, and no tail begins
  pub without : (ts us : List b.Token) (x : b.RuleTree r) → Reads b all low (call r) ts x us → Lacks b p us → Reads b all low (tail r p h) ts (x, None) us
  without ts us x q f = record {
    front = q.front;
    ending = true;
    cut = q.cut;
    spelled = (q.ending, q.spelled, refl);
    ends = λ t vs e c. stuck t vs c.more e (is_tailed b all r p h ((q.front ++ (t ∷ [])) ++ c.more) (c.ending, c.tree, c.spelled));
  }
    where
      stuck : (t : b.Token) (vs more : List b.Token) → us ≡ t ∷ vs → Tailed b all r p h ((q.front ++ (t ∷ [])) ++ more) → ⊥
      stuck t vs more e (bare d) = q.ends t vs e (begun (q.front ++ (t ∷ [])) more d)
      stuck t vs more e (tailed us' n vs' z g d i j) =
          let m : (us' ≡ q.front) × (n ≡ t) × (vs' ≡ more) =
          meets us' n vs' q.front t more z d i (q.ending, x, k.left q.front q.ending x q.spelled) (λ c. q.ends t vs e c) (sym g ∙ append_assoc q.front (t ∷ []) more) in
          true_false (b.fits p n) i (ap (b.fits p) m.1 ∙ f.out t vs e)

  -- the rule's tree is not read
  pub fails : (ts rest : List b.Token) → Fails b all (call r) ts rest → Fails b all (tail r p h) ts rest
  fails ts rest a = record {
    front = a.front;
    cut = a.cut;
    alive = bared b all r p h a.front a.alive;
    dead = λ t us e c. stuck t us c.more e (is_tailed b all r p h ((a.front ++ (t ∷ [])) ++ c.more) (c.ending, c.tree, c.spelled));
    none = λ z others w. nothing others z w (is_tailed b all r p h w.front (w.ending, z, w.spelled));
  }
    where
      stuck : (t : b.Token) (us more : List b.Token) → rest ≡ t ∷ us → Tailed b all r p h ((a.front ++ (t ∷ [])) ++ more) → ⊥
      stuck t us more e (bare d) = a.dead t us e (begun (a.front ++ (t ∷ [])) more d)
      stuck t us more e (tailed us' n vs' x g d i j) = go (cuts us' (n ∷ vs') a.front (t ∷ more) (sym g ∙ append_assoc a.front (t ∷ []) more))
        where
          go : Cuts us' (n ∷ vs') a.front (t ∷ more) → ⊥
          go (longer s m c v) = a.dead t us e (past us' a.front m t (c ∙ ap (λ u. a.front ++ (u ∷ m)) (let q : s ≡ t = cc in q)) (whole us' (false, x, d)))
          go (same c v) = a.none x (n ∷ us) (stands ts us' n us x d i (a.cut ∙ ap (λ u. u ++ rest) (sym c) ∙ ap (λ u. us' ++ u) (e ∙ ap (λ u. u ∷ us) (let q : t ≡ n = cc in q))))
          go (shorter s m c v) = a.none x (n ∷ (m ++ rest)) (stands ts us' n (m ++ rest) x d i
              (a.cut ∙ ap (λ u. u ++ rest) (c ∙ ap (λ u. us' ++ (u ∷ m)) (let q : s ≡ n = cc in q)) ∙ append_assoc us' (n ∷ m) rest))

      nothing : (others : List b.Token) (z : b.RuleTree r × Option B) → (w : Reads b all all (tail r p h) ts z others) → Tailed b all r p h w.front → ⊥
      nothing others z w (bare d) = a.none d.1 others (record {
        front = w.front;
        ending = d.0;
        cut = w.cut;
        spelled = d.2;
        ends = λ t ws e c. w.ends t ws e (bared b all r p h (w.front ++ (t ∷ [])) c);
      })
      nothing others z w (tailed us' n vs' x e d i j) = a.none x (n ∷ (vs' ++ others)) (stands ts us' n (vs' ++ others) x d i (w.cut ∙ ap (λ u. u ++ others) e ∙ append_assoc us' (n ∷ vs') others))

  -- the rule's tree passes a limit
  pub passes : (ts rest : List b.Token) → Passes b all low (call r) ts rest → Passes b all low (tail r p h) ts rest
  passes ts rest a = record {
    front = a.front;
    token = a.token;
    others = a.others;
    cut = a.cut;
    at = a.at;
    alive = bared b all r p h (a.front ++ (a.token ∷ [])) a.alive;
    high = λ c. a.high (low_left c.more (is_tailed b low r p h ((a.front ++ (a.token ∷ [])) ++ c.more) (c.ending, c.tree, c.spelled)));
  }
    where
      low_left : (more : List b.Token) → Tailed b low r p h ((a.front ++ (a.token ∷ [])) ++ more) → Begins b low (call r) (a.front ++ (a.token ∷ []))
      low_left more (bare d) = begun (a.front ++ (a.token ∷ [])) more d
      low_left more (tailed us' n vs' x g d i j) = go (cuts us' (n ∷ vs') (a.front ++ (a.token ∷ [])) more (sym g))
        where
          go : Cuts us' (n ∷ vs') (a.front ++ (a.token ∷ [])) more → Begins b low (call r) (a.front ++ (a.token ∷ []))
          go (longer s m c v) = begun (a.front ++ (a.token ∷ [])) (s ∷ m) (subst (λ (u : List b.Token). Spelled b low (call r) u) c (false, x, d))
          go (same c v) = whole (a.front ++ (a.token ∷ [])) (subst (λ (u : List b.Token). Spelled b low (call r) u) c (false, x, d))
          go (shorter s m c v) = absurd (k.closed us' n x (k.left us' false x d) i (past (a.front ++ (a.token ∷ [])) us' m n (c ∙ ap (λ u. us' ++ (u ∷ m)) (let q : s ≡ n = cc in q)) a.alive))
