-- Readers of nothing, of one token, and of a grammar whose trees are another's.
use Rattle.std.proofs.Common.{◌≡◌, List, [], ◌∷◌, ◌++◌, Bool, true, false, refl, ap, sym, subst, ◌∙◌}
use Rattle.lv_grammars.specs.Grammar.{Base, Gram, none, one, act}
use Rattle.lv_grammars.specs.Spelling.{Language, IsSpelled}
use Rattle.lv_grammars.specs.Nexts.{Next, Lacks}
use Rattle.lv_grammars.specs.Reading.{Begins, Reads, Fails}
use Rattle.lv_grammars.specs.At.{At}
use Rattle.lv_grammars.specs.Facts.{IsBase}
use Rattle.lv_grammars.proofs.Lists.{nil_cons, same_head, true_false}

-- the head of what a front and a token of its rest begin
pub head_of : {T : Type 0} (ts front rest : List T) (t : T) (us more : List T) → ts ≡ front ++ rest → rest ≡ t ∷ us →
    (m : T) × (vs : List T) × (ws : List T) × (ts ≡ m ∷ vs) × ((front ++ (t ∷ [])) ++ more ≡ m ∷ ws)
head_of ts [] rest t us more e f = (t, us, more, e ∙ f, refl)
head_of ts (m ∷ front) rest t us more e f = (m, front ++ rest, (front ++ (t ∷ [])) ++ more, e, refl)

-- some tree is spelled so
abbrev pub Spelled : (b : Base) (l : Language b) {A : Type 0} → Gram b A → List b.Token → Type 0
Spelled b l {A} g ts = (o : Bool) × (x : A) × IsSpelled b l g ts o x

-- no tree begins with the next token, or is spelled by nothing; and those within limits are among the others
pub record Absent (b : Base) (all low : Language b) {A : Type 0} (g : Gram b A) (ts : List b.Token) : Type 0 where
  pub off : (m : b.Token) (us vs : List b.Token) → ts ≡ m ∷ us → Spelled b all g (m ∷ vs) → ⊥
  pub some : Spelled b all g [] → ⊥
  pub within : (us : List b.Token) → Spelled b low g us → Spelled b all g us

pub lacks_nothing : {b : Base} {p : b.Shape} → Lacks b p []
lacks_nothing = record { out = λ m us e. absurd (nil_cons m us (sym e)) }

pub lacks_token : {b : Base} {p : b.Shape} {m : b.Token} {us : List b.Token} → b.fits p m ≡ false → Lacks b p (m ∷ us)
lacks_token {b} {p} {m} {us} f = record { out = λ n vs e. subst (λ (v : b.Token). b.fits p v ≡ false) (same_head m n us vs e) f }

-- where no tree begins with the next token, or there is none, nothing is read there; but there is a tree
pub absent_fails : {b : Base} {all low : Language b} {A : Type 0} {g : Gram b A} {ts : List b.Token} (us : List b.Token) → Spelled b all g us → Absent b all low g ts → Fails b all g ts ts
absent_fails {b} {all} {low} {A} {g} {ts} us d f = record {
  front = [];
  cut = refl;
  alive = record { more = us; ending = d.0; tree = d.1; spelled = d.2 };
  dead = λ t us e c. f.off t us c.more e (c.ending, c.tree, c.spelled);
  none = λ x others r. nothing r.front others r.cut (r.ending, x, r.spelled);
}
  where
    nothing : (front others : List b.Token) → ts ≡ front ++ others → Spelled b all g front → ⊥
    nothing [] others e c = f.some c
    nothing (m ∷ front) others e c = f.off m (front ++ others) front e c

-- ---- nothing

pub none_reads : {b : Base} {all low : Language b} (ts : List b.Token) → Reads b all low none ts tt ts
none_reads {b} {all} {low} ts = record {
  front = [];
  ending = false;
  cut = refl;
  spelled = (refl, refl);
  ends = λ t us e c. nil_cons t c.more c.spelled.0;
}

-- ---- one token

pub one_reads : {b : Base} {all low : Language b} (p : b.Shape) (t : b.Token) (us : List b.Token) → b.fits p t ≡ true → Reads b all low (one p) (t ∷ us) t us
one_reads {b} {all} {low} p t us f = record {
  front = t ∷ [];
  ending = false;
  cut = refl;
  spelled = (refl, f, refl);
  ends = λ m vs e c. longer m c.more c.tree c.spelled.0;
}
  where
    longer : (m : b.Token) (ms : List b.Token) (x : b.Token) → t ∷ (m ∷ ms) ≡ x ∷ [] → ⊥
    longer m ms x e = cc

pub next_here : {b : Base} {p : b.Shape} {m : b.Token} {us : List b.Token} → b.fits p m ≡ true → Next b p (m ∷ us) m us
next_here f = record { cut = refl; fits = f }

pub next_read : {b : Base} {all low : Language b} {p : b.Shape} {ts : List b.Token} {m : b.Token} {us : List b.Token} → Next b p ts m us → Reads b all low (one p) ts m us
next_read {b} {all} {low} {p} {ts} {m} {us} n = subst (λ v. Reads b all low (one p) v m us) (sym n.cut) (one_reads p m us n.fits)

pub read_next : {b : Base} {all low : Language b} {p : b.Shape} {ts : List b.Token} {m : b.Token} {us : List b.Token} → Reads b all low (one p) ts m us → Next b p ts m us
read_next {us = us} r = record { cut = r.cut ∙ ap (λ v. v ++ us) r.spelled.0; fits = r.spelled.1 }

pub one_absent : {b : Base} {all low : Language b} {p : b.Shape} {ts : List b.Token} → Lacks b p ts → Absent b all low (one p) ts
one_absent {b} {all} {low} {p} {ts} f = record {
  off = λ m us vs e c. clash m vs c.1 c.2.0 c.2.1 (f.out m us e);
  some = λ c. nil_cons c.1 [] (sym c.2.0);
  within = λ us c. c;
}
  where
    clash : (m : b.Token) (vs : List b.Token) (x : b.Token) → m ∷ vs ≡ x ∷ [] → b.fits p x ≡ true → b.fits p m ≡ false → ⊥
    clash m vs x g h k = let q : x ≡ m = cc in true_false (b.fits p x) h (ap (b.fits p) q ∙ k)

pub one_fails : {b : Base} {all : Language b} {p : b.Shape} {ts : List b.Token} → IsBase b → Lacks b p ts → Fails b all (one p) ts ts
one_fails {b} {all} {p} i f =
    let w : (t : b.Token) × (b.fits p t ≡ true) = i.witness p in
    absent_fails (w.0 ∷ []) (false, w.0, (refl, w.1, refl)) (one_absent {low = all} f)

pub one_opens : {b : Base} {l : Language b} (p : b.Shape) (t : b.Token) → b.fits p t ≡ true → Begins b l (one p) (t ∷ [])
one_opens p t f = record { more = []; ending = false; tree = t; spelled = (refl, f, refl) }

-- ---- a grammar whose trees are another's

-- The trees of h that begin as ts does are those of g, seen by `see`.
pub record Case (b : Base) (all low : Language b) {A : Type 0} (h : Gram b A) (ts : List b.Token) (inner : Language b) {B : Type 0} (g : Gram b B) (see : B → A) : Type 0 where
  pub into_all : (us : List b.Token) → Spelled b all g us → Spelled b all h us
  pub into_low : (us : List b.Token) (o : Bool) (x : B) → IsSpelled b inner g us o x → (p : Bool) × IsSpelled b low h us p (see x)
  pub back_all : (m : b.Token) (us vs : List b.Token) → ts ≡ m ∷ us → Spelled b all h (m ∷ vs) → Spelled b all g (m ∷ vs)
  pub back_low : (m : b.Token) (us vs : List b.Token) → ts ≡ m ∷ us → Spelled b low h (m ∷ vs) → Spelled b inner g (m ∷ vs)
  -- nothing spells a tree of h, where no tree of h begins with the next token
  pub back_none : Spelled b all h [] → ((m : b.Token) (us : List b.Token) → ts ≡ m ∷ us → Begins b all h (m ∷ []) → ⊥) → Spelled b all g []

pub begun : {b : Base} {l : Language b} {A : Type 0} {g : Gram b A} (ts more : List b.Token) → Spelled b l g (ts ++ more) → Begins b l g ts
begun ts more c = record { more = more; ending = c.0; tree = c.1; spelled = c.2 }

pub at_case : {b : Base} {all low inner : Language b} {A B : Type 0} {h : Gram b A} {g : Gram b B} {see : B → A} {ts : List b.Token} →
    Case b all low h ts inner g see → At b all low h ts inner g ts see
at_case {b} {all} {low} {inner} {A} {B} {h} {g} {see} {ts} k = record {
  reads = λ y rest r. let p : (p : Bool) × IsSpelled b low h r.front p (see y) = k.into_low r.front r.ending y r.spelled in record {
    front = r.front;
    ending = p.0;
    cut = r.cut;
    spelled = p.1;
    ends = λ t us e c. r.ends t us e (from_all r.front rest t us r.cut e c);
  };
  fails = λ rest r. record {
    front = r.front;
    cut = r.cut;
    alive = begun r.front r.alive.more (k.into_all (r.front ++ r.alive.more) (r.alive.ending, r.alive.tree, r.alive.spelled));
    dead = λ t us e c. r.dead t us e (from_all r.front rest t us r.cut e c);
    none = λ x others q. nothing rest others x r q.front q.cut q.ending q.spelled q.ends;
  };
  passes = λ rest r. record {
    front = r.front;
    token = r.token;
    others = r.others;
    cut = r.cut;
    at = r.at;
    alive = begun (r.front ++ (r.token ∷ [])) r.alive.more (k.into_all ((r.front ++ (r.token ∷ [])) ++ r.alive.more) (r.alive.ending, r.alive.tree, r.alive.spelled));
    high = λ c. r.high (from_low r.front (r.token ∷ r.others) r.token r.others r.cut refl c);
  };
  within = λ rest r.
      let p : (p : Bool) × IsSpelled b low h (r.front ++ r.alive.more) p (see r.alive.tree) = k.into_low (r.front ++ r.alive.more) r.alive.ending r.alive.tree r.alive.spelled in
      record { front = r.front; cut = r.cut; alive = begun r.front r.alive.more (p.0, see r.alive.tree, p.1) };
}
  where
    from_all : (front rest : List b.Token) (t : b.Token) (us : List b.Token) → ts ≡ front ++ rest → rest ≡ t ∷ us → Begins b all h (front ++ (t ∷ [])) → Begins b all g (front ++ (t ∷ []))
    from_all front rest t us e f c =
        let q : (m : b.Token) × (vs : List b.Token) × (ws : List b.Token) × (ts ≡ m ∷ vs) × ((front ++ (t ∷ [])) ++ c.more ≡ m ∷ ws) = head_of ts front rest t us c.more e f in
        begun (front ++ (t ∷ [])) c.more (subst (λ (v : List b.Token). Spelled b all g v) (sym q.4)
        (k.back_all q.0 q.1 q.2 q.3 (subst (λ (v : List b.Token). Spelled b all h v) q.4 (c.ending, c.tree, c.spelled))))

    from_low : (front rest : List b.Token) (t : b.Token) (us : List b.Token) → ts ≡ front ++ rest → rest ≡ t ∷ us → Begins b low h (front ++ (t ∷ [])) → Begins b inner g (front ++ (t ∷ []))
    from_low front rest t us e f c =
        let q : (m : b.Token) × (vs : List b.Token) × (ws : List b.Token) × (ts ≡ m ∷ vs) × ((front ++ (t ∷ [])) ++ c.more ≡ m ∷ ws) = head_of ts front rest t us c.more e f in
        begun (front ++ (t ∷ [])) c.more (subst (λ (v : List b.Token). Spelled b inner g v) (sym q.4)
        (k.back_low q.0 q.1 q.2 q.3 (subst (λ (v : List b.Token). Spelled b low h v) q.4 (c.ending, c.tree, c.spelled))))

    -- what is read of h is read of g
    nothing : (rest others : List b.Token) (x : A) → Fails b all g ts rest → (front : List b.Token) → ts ≡ front ++ others → (o : Bool) → IsSpelled b all h front o x →
        ((t : b.Token) (us : List b.Token) → others ≡ t ∷ us → Begins b all h (front ++ (t ∷ [])) → ⊥) → ⊥
    nothing rest others x r [] e o s f =
        let q : Spelled b all g [] = k.back_none (o, x, s) (λ m us i. f m us (sym e ∙ i)) in
        r.none q.1 others (record { front = []; ending = q.0; cut = e; spelled = q.2; ends = λ t us i c. f t us i (into t [] c) })
      where
        into : (t : b.Token) (front : List b.Token) → Begins b all g (front ++ (t ∷ [])) → Begins b all h (front ++ (t ∷ []))
        into t front c = begun (front ++ (t ∷ [])) c.more (k.into_all ((front ++ (t ∷ [])) ++ c.more) (c.ending, c.tree, c.spelled))
    nothing rest others x r (m ∷ front) e o s f =
        let q : Spelled b all g (m ∷ front) = k.back_all m (front ++ others) front e (o, x, s) in
        r.none q.1 others (record { front = m ∷ front; ending = q.0; cut = e; spelled = q.2; ends = λ t us i c. f t us i (into t (m ∷ front) c) })
      where
        into : (t : b.Token) (front : List b.Token) → Begins b all g (front ++ (t ∷ [])) → Begins b all h (front ++ (t ∷ []))
        into t front c = begun (front ++ (t ∷ [])) c.more (k.into_all ((front ++ (t ∷ [])) ++ c.more) (c.ending, c.tree, c.spelled))

-- what a grammar spells, seen as another tree
pub act_at : {b : Base} {all low : Language b} {A B : Type 0} (f : A → B) (g : Gram b A) (ts : List b.Token) → At b all low (act f g) ts low g ts f
act_at {b} {all} {low} {A} {B} f g ts = at_case (record {
  into_all = λ us c. (c.0, f c.1, (c.1, c.2, refl));
  into_low = λ us o x s. (o, (x, s, refl));
  back_all = λ m us vs e c. (c.0, c.2.0, c.2.1);
  back_low = λ m us vs e c. (c.0, c.2.0, c.2.1);
  back_none = λ c e. (c.0, c.2.0, c.2.1);
})
