-- Readers of one grammar after the other.
use Rattle.std.proofs.Common.{◌≡◌, List, [], ◌∷◌, ◌++◌, refl, ap, sym, subst, ◌∙◌, append_assoc, append-nil}
use Rattle.lv_grammars.specs.Grammar.{Base, Gram, both}
use Rattle.lv_grammars.specs.Spelling.{Language, last_open}
use Rattle.lv_grammars.specs.Reading.{Begins, Reads, Fails, Passes, Within}
use Rattle.lv_grammars.specs.At.{At}
use Rattle.lv_grammars.proofs.Lists.{Cuts, cuts, longer, same, shorter}
use Rattle.lv_grammars.proofs.Readers.{Spelled, begun}

-- Two grammars of which the second begins with no token that a tree of the first goes on with.
pub record Both (b : Base) (all low : Language b) {A B : Type 0} (g : Gram b A) (h : Gram b B) : Type 0 where
  pub apart : (us : List b.Token) (k : b.Token) (vs : List b.Token) → Spelled b all g us → Begins b all g (us ++ (k ∷ [])) → Spelled b all h (k ∷ vs) → ⊥
  pub left : (us : List b.Token) → Spelled b low g us → Spelled b all g us
  pub right : (us : List b.Token) → Spelled b low h us → Spelled b all h us
  pub witness : (us : List b.Token) × Spelled b all h us

-- two trees one after the other
pub record Split (b : Base) (l : Language b) {A B : Type 0} (g : Gram b A) (h : Gram b B) (ts : List b.Token) : Type 0 where
  pub fore : List b.Token
  pub behind : List b.Token
  pub cut : ts ≡ fore ++ behind
  pub first : Spelled b l g fore
  pub second : Spelled b l h behind

pub split : {b : Base} {l : Language b} {A B : Type 0} {g : Gram b A} {h : Gram b B} (ts : List b.Token) → Spelled b l (both g h) ts → Split b l g h ts
split ts c = record { fore = c.2.0; behind = c.2.1; cut = c.2.4; first = (c.2.2, c.1.0, c.2.5); second = (c.2.3, c.1.1, c.2.6) }

pub join : (b : Base) (l : Language b) {A B : Type 0} (g : Gram b A) (h : Gram b B) (us vs : List b.Token) → Spelled b l g us → Spelled b l h vs → Spelled b l (both g h) (us ++ vs)
join b l g h us vs c d = (last_open vs c.0 d.0, (c.1, d.1), (us, vs, c.0, d.0, refl, c.2, d.2, refl))

pub begins_left : {b : Base} {l : Language b} {A B : Type 0} {g : Gram b A} {h : Gram b B} (ts vs : List b.Token) → Spelled b l h vs → Begins b l g ts → Begins b l (both g h) ts
begins_left {b} {l} {A} {B} {g} {h} ts vs d c =
    begun ts (c.more ++ vs) (subst (λ (v : List b.Token). Spelled b l (both g h) v) (append_assoc ts c.more vs) (join b l g h (ts ++ c.more) vs (c.ending, c.tree, c.spelled) d))

pub begins_right : {b : Base} {l : Language b} {A B : Type 0} {g : Gram b A} {h : Gram b B} (us ts : List b.Token) → Spelled b l g us → Begins b l h ts → Begins b l (both g h) (us ++ ts)
begins_right {b} {l} {A} {B} {g} {h} us ts d c =
    begun (us ++ ts) c.more (subst (λ (v : List b.Token). Spelled b l (both g h) v) (sym (append_assoc us ts c.more)) (join b l g h us (ts ++ c.more) d (c.ending, c.tree, c.spelled)))

-- a token behind a beginning
step_in : {T : Type 0} (us m more : List T) (t : T) → (us ++ (t ∷ m)) ++ more ≡ (us ++ (t ∷ [])) ++ (m ++ more)
step_in us m more t = simp append_assoc

-- a beginning of g that goes on past us with t
pub past : {b : Base} {l : Language b} {A : Type 0} {g : Gram b A} (ts us m : List b.Token) (t : b.Token) → ts ≡ us ++ (t ∷ m) → Begins b l g ts → Begins b l g (us ++ (t ∷ []))
past {b} {l} {A} {g} ts us m t e c =
    begun (us ++ (t ∷ [])) (m ++ c.more) (subst (λ (v : List b.Token). Spelled b l g v) (ap (λ v. v ++ c.more) e ∙ step_in us m c.more t) (c.ending, c.tree, c.spelled))

pub whole : {b : Base} {l : Language b} {A : Type 0} {g : Gram b A} (ts : List b.Token) → Spelled b l g ts → Begins b l g ts
whole {b} {l} {A} {g} ts c = begun ts [] (subst (λ (v : List b.Token). Spelled b l g v) (sym (append-nil ts)) c)

-- the first begins within the limits, and the second has a tree within them
pub within_both : {b : Base} {low : Language b} {A B : Type 0} {g : Gram b A} {h : Gram b B} {ts rest : List b.Token} → (us : List b.Token) × Spelled b low h us → Within b low g ts rest → Within b low (both g h) ts rest
within_both w r = record { front = r.front; cut = r.cut; alive = begins_left r.front w.0 w.1 r.alive }

-- Where a tree of g ends, and goes on with no next token, the second of two trees begins.
module _ (b : Base) (all low : Language b) {A B : Type 0} (g : Gram b A) (h : Gram b B) (k : Both b all low g h) where
  -- what stands behind the first tree, or goes on behind the second
  met : (us vs others f w : List b.Token) → Spelled b all g us → Spelled b all h vs → Spelled b all g f →
      ((t : b.Token) (ws : List b.Token) → w ≡ t ∷ ws → Begins b all g (f ++ (t ∷ [])) → ⊥) →
      ((t : b.Token) (ws : List b.Token) → others ≡ t ∷ ws → Begins b all (both g h) ((us ++ vs) ++ (t ∷ [])) → ⊥) →
      us ++ (vs ++ others) ≡ f ++ w → (us ≡ f) × (vs ++ others ≡ w)
  met us vs others f w c d i e j q = go (cuts us (vs ++ others) f w q)
    where
      before : (vs : List b.Token) (t : b.Token) (m : List b.Token) → Spelled b all h vs → f ≡ us ++ (t ∷ m) → vs ++ others ≡ t ∷ (m ++ w) →
          ((t : b.Token) (ws : List b.Token) → others ≡ t ∷ ws → Begins b all (both g h) ((us ++ vs) ++ (t ∷ [])) → ⊥) → ⊥
      before [] t m d' p r j' =
          j' t (m ++ w) r (begins_left ((us ++ []) ++ (t ∷ [])) [] d' (subst (λ (v : List b.Token). Begins b all g (v ++ (t ∷ []))) (sym (append-nil us)) (past f us m t p (whole f i))))
      before (s ∷ vs) t m d' p r j' =
          let h' : s ≡ t = cc in
          k.apart us t vs c (past f us m t p (whole f i)) (subst (λ (v : b.Token). Spelled b all h (v ∷ vs)) h' d')

      go : Cuts us (vs ++ others) f w → (us ≡ f) × (vs ++ others ≡ w)
      go (longer t m p r) = absurd (e t (m ++ (vs ++ others)) r (past us f m t p (whole us c)))
      go (same p r) = (p, r)
      go (shorter t m p r) = absurd (before vs t m d p r j)

  -- the same, with nothing behind
  meets : (us vs f w : List b.Token) → Spelled b all g us → Spelled b all h vs → Spelled b all g f →
      ((t : b.Token) (ws : List b.Token) → w ≡ t ∷ ws → Begins b all g (f ++ (t ∷ [])) → ⊥) → us ++ vs ≡ f ++ w → (us ≡ f) × (vs ≡ w)
  meets us vs f w c d i e q = go (cuts us vs f w q)
    where
      before : (vs : List b.Token) (t : b.Token) (m : List b.Token) → Spelled b all h vs → f ≡ us ++ (t ∷ m) → vs ≡ t ∷ (m ++ w) → ⊥
      before vs t m d' p r = k.apart us t (m ++ w) c (past f us m t p (whole f i)) (subst (λ (v : List b.Token). Spelled b all h v) r d')

      go : Cuts us vs f w → (us ≡ f) × (vs ≡ w)
      go (longer t m p r) = absurd (e t (m ++ vs) r (past us f m t p (whole us c)))
      go (same p r) = (p, r)
      go (shorter t m p r) = absurd (before vs t m d p r)

  -- the first is read: what is answered for the second is answered for both
  pub after : (ts us : List b.Token) (x : A) → Reads b all low g ts x us → At b all low (both g h) ts low h us (λ y. (x, y))
  after ts us x p = record {
    reads = λ y rest r. record {
      front = p.front ++ r.front;
      ending = last_open r.front p.ending r.ending;
      cut = p.cut ∙ ap (λ v. p.front ++ v) r.cut ∙ sym (append_assoc p.front r.front rest);
      spelled = (p.front, r.front, p.ending, r.ending, refl, p.spelled, r.spelled, refl);
      ends = λ t vs e c. r.ends t vs e (second all r.front rest t vs r.cut e (λ v d. d) (λ v d. d) c);
    };
    fails = λ rest r. record {
      front = p.front ++ r.front;
      cut = p.cut ∙ ap (λ v. p.front ++ v) r.cut ∙ sym (append_assoc p.front r.front rest);
      alive = begins_right p.front r.front first r.alive;
      dead = λ t vs e c. r.dead t vs e (second all r.front rest t vs r.cut e (λ v d. d) (λ v d. d) c);
      none = λ z others q. nothing rest others r z.0 z.1 q;
    };
    passes = λ rest r. record {
      front = p.front ++ r.front;
      token = r.token;
      others = r.others;
      cut = p.cut ∙ ap (λ v. p.front ++ v) r.cut ∙ sym (append_assoc p.front r.front (r.token ∷ r.others));
      at = r.at;
      alive = subst (λ (v : List b.Token). Begins b all (both g h) v) (sym (append_assoc p.front r.front (r.token ∷ []))) (begins_right p.front (r.front ++ (r.token ∷ [])) first r.alive);
      high = λ c. r.high (second low r.front (r.token ∷ r.others) r.token r.others r.cut refl k.left k.right c);
    };
    within = λ rest r. record {
      front = p.front ++ r.front;
      cut = p.cut ∙ ap (λ v. p.front ++ v) r.cut ∙ sym (append_assoc p.front r.front rest);
      alive = begins_right p.front r.front (p.ending, x, p.spelled) r.alive;
    };
  }
    where
      first : Spelled b all g p.front
      first = k.left p.front (p.ending, x, p.spelled)

      -- the token behind what stands in us
      stuck : (front rest : List b.Token) (t : b.Token) (vs more : List b.Token) → us ≡ front ++ rest → rest ≡ t ∷ vs →
          (s : b.Token) (ws : List b.Token) → front ++ (t ∷ more) ≡ s ∷ ws → Begins b all g (p.front ++ (s ∷ [])) → ⊥
      stuck [] rest t vs more e f s ws j c = p.ends s vs (e ∙ f ∙ ap (λ v. v ∷ vs) (let h' : t ≡ s = cc in h')) c
      stuck (m ∷ front) rest t vs more e f s ws j c = p.ends s (front ++ rest) (e ∙ ap (λ v. v ∷ (front ++ rest)) (let h' : m ≡ s = cc in h')) c

      -- what begins both goes on in the second
      second : (l : Language b) (front rest : List b.Token) (t : b.Token) (vs : List b.Token) → us ≡ front ++ rest → rest ≡ t ∷ vs →
          ((ws : List b.Token) → Spelled b l g ws → Spelled b all g ws) → ((ws : List b.Token) → Spelled b l h ws → Spelled b all h ws) →
          Begins b l (both g h) ((p.front ++ front) ++ (t ∷ [])) → Begins b l h (front ++ (t ∷ []))
      second l front rest t vs e f up_left up_right c =
          let w : ((p.front ++ front) ++ (t ∷ [])) ++ c.more ≡ p.front ++ (front ++ (t ∷ c.more)) = simp append_assoc in
          let s : Split b l g h (((p.front ++ front) ++ (t ∷ [])) ++ c.more) = split (((p.front ++ front) ++ (t ∷ [])) ++ c.more) (c.ending, c.tree, c.spelled) in
          let j : (s.fore ≡ p.front) × (s.behind ≡ front ++ (t ∷ c.more)) =
          meets s.fore s.behind p.front (front ++ (t ∷ c.more)) (up_left s.fore s.first) (up_right s.behind s.second) first (stuck front rest t vs c.more e f) (sym s.cut ∙ w) in
          begun (front ++ (t ∷ [])) c.more (subst (λ (v : List b.Token). Spelled b l h v) (j.1 ∙ sym (append_assoc front (t ∷ []) c.more)) s.second)

      nothing : (rest others : List b.Token) → Fails b all h us rest → (x' : A) (y' : B) → Reads b all all (both g h) ts (x', y') others → ⊥
      nothing rest others r x' y' q = read q.spelled.0 q.spelled.1 (q.spelled.2, x', q.spelled.5) (q.spelled.3, y', q.spelled.6) q.spelled.4
        where
          read : (us' vs' : List b.Token) → Spelled b all g us' → (d : Spelled b all h vs') → q.front ≡ us' ++ vs' → ⊥
          read us' vs' c d e =
              let j : (us' ≡ p.front) × (vs' ++ others ≡ us) =
              met us' vs' others p.front us c d first p.ends (λ t ws f w. q.ends t ws f (subst (λ (v : List b.Token). Begins b all (both g h) (v ++ (t ∷ []))) (sym e) w))
              (sym (append_assoc us' vs' others) ∙ ap (λ v. v ++ others) (sym e) ∙ sym q.cut ∙ p.cut) in
              r.none d.1 others (record {
                front = vs';
                ending = d.0;
                cut = sym j.1;
                spelled = d.2;
                ends = λ t ws f w. q.ends t ws f (subst (λ (v : List b.Token). Begins b all (both g h) v) (sym (append_assoc us' vs' (t ∷ [])) ∙ ap (λ v. v ++ (t ∷ [])) (sym e)) (begins_right us' (vs' ++ (t ∷ [])) c w));
              })

  -- nothing is read of the first
  pub fails : (ts rest : List b.Token) → Fails b all g ts rest → Fails b all (both g h) ts rest
  fails ts rest p = record {
    front = p.front;
    cut = p.cut;
    alive = begins_left p.front k.witness.0 k.witness.1 p.alive;
    dead = λ t us e c. stuck t us c.more e (split ((p.front ++ (t ∷ [])) ++ c.more) (c.ending, c.tree, c.spelled));
    none = λ z others q. nothing others z.0 z.1 q;
  }
    where
      -- a tree of g before a token of h is read of g
      read : (us' vs' : List b.Token) (t : b.Token) → Spelled b all g us' → Spelled b all h (t ∷ vs') → (more : List b.Token) → ts ≡ us' ++ (t ∷ more) → ⊥
      read us' vs' t c d more e = p.none c.1 (t ∷ more) (record {
        front = us';
        ending = c.0;
        cut = e;
        spelled = c.2;
        ends = λ s ws f w. k.apart us' s vs' c w (subst (λ (v : b.Token). Spelled b all h (v ∷ vs')) (let f' : t ≡ s = cc in f') d);
      })

      stuck : (t : b.Token) (us more : List b.Token) → rest ≡ t ∷ us → Split b all g h ((p.front ++ (t ∷ [])) ++ more) → ⊥
      stuck t us more e s = go (cuts s.fore s.behind p.front (t ∷ more) (sym s.cut ∙ append_assoc p.front (t ∷ []) more))
        where
          go : Cuts s.fore s.behind p.front (t ∷ more) → ⊥
          go (longer r m f j) = p.dead t us e (past s.fore p.front m t (f ∙ ap (λ v. p.front ++ (v ∷ m)) (let j' : r ≡ t = cc in j')) (whole s.fore s.first))
          go (same f j) = p.none s.first.1 rest (record {
            front = s.fore;
            ending = s.first.0;
            cut = p.cut ∙ ap (λ v. v ++ rest) (sym f);
            spelled = s.first.2;
            ends = λ r ws j' w. p.dead r ws j' (subst (λ (v : List b.Token). Begins b all g (v ++ (r ∷ []))) f w);
          })
          go (shorter r m f j) =
              read s.fore (m ++ (t ∷ more)) r s.first (subst (λ (v : List b.Token). Spelled b all h v) j s.second) (m ++ rest) (p.cut ∙ ap (λ v. v ++ rest) f ∙ append_assoc s.fore (r ∷ m) rest)

      nothing : (others : List b.Token) (x' : A) (y' : B) → Reads b all all (both g h) ts (x', y') others → ⊥
      nothing others x' y' q = go q.spelled.0 q.spelled.1 (q.spelled.2, x', q.spelled.5) (q.spelled.3, y', q.spelled.6) q.spelled.4
        where
          go : (us' vs' : List b.Token) → Spelled b all g us' → Spelled b all h vs' → q.front ≡ us' ++ vs' → ⊥
          go us' [] c d e = p.none c.1 others (record {
            front = us';
            ending = c.0;
            cut = q.cut ∙ ap (λ v. v ++ others) (e ∙ append-nil us');
            spelled = c.2;
            ends = λ t ws f w. q.ends t ws f (subst (λ (v : List b.Token). Begins b all (both g h) (v ++ (t ∷ []))) (sym (e ∙ append-nil us')) (begins_left (us' ++ (t ∷ [])) [] d w));
          })
          go us' (t ∷ vs') c d e = read us' vs' t c d (vs' ++ others) (q.cut ∙ ap (λ v. v ++ others) e ∙ append_assoc us' (t ∷ vs') others)

  -- the first passes a limit
  pub passes : (ts rest : List b.Token) → Passes b all low g ts rest → Passes b all low (both g h) ts rest
  passes ts rest p = record {
    front = p.front;
    token = p.token;
    others = p.others;
    cut = p.cut;
    at = p.at;
    alive = begins_left (p.front ++ (p.token ∷ [])) k.witness.0 k.witness.1 p.alive;
    high = λ c. p.high (low_left c.more (split ((p.front ++ (p.token ∷ [])) ++ c.more) (c.ending, c.tree, c.spelled)));
  }
    where
      low_left : (more : List b.Token) → Split b low g h ((p.front ++ (p.token ∷ [])) ++ more) → Begins b low g (p.front ++ (p.token ∷ []))
      low_left more s = go (cuts s.fore s.behind (p.front ++ (p.token ∷ [])) more (sym s.cut))
        where
          go : Cuts s.fore s.behind (p.front ++ (p.token ∷ [])) more → Begins b low g (p.front ++ (p.token ∷ []))
          go (longer r m f j) = begun (p.front ++ (p.token ∷ [])) (r ∷ m) (subst (λ (v : List b.Token). Spelled b low g v) f s.first)
          go (same f j) = whole (p.front ++ (p.token ∷ [])) (subst (λ (v : List b.Token). Spelled b low g v) f s.first)
          go (shorter r m f j) = absurd (k.apart s.fore r (m ++ more) (k.left s.fore s.first) (past (p.front ++ (p.token ∷ [])) s.fore m r f p.alive)
              (k.right (r ∷ (m ++ more)) (subst (λ (v : List b.Token). Spelled b low h v) j s.second)))
