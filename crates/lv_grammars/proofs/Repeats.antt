-- Readers of any number of a grammar's trees, and of any number up to what ends them.
use Rattle.std.proofs.Common.{◌≡◌, List, [], ◌∷◌, ◌++◌, Bool, false, refl, ap, sym, subst, ◌∙◌, append_assoc, append-nil}
use Rattle.lv_grammars.specs.Grammar.{Base, Gram, both, many, until}
use Rattle.lv_grammars.specs.Spelling.{Language, IsSpelled, SpellsAll, last_open}
use Rattle.lv_grammars.specs.Nexts.{Opens}
use Rattle.lv_grammars.specs.Reading.{Begins, Reads}
use Rattle.lv_grammars.specs.At.{At}
use Rattle.lv_grammars.proofs.Lists.{nil_cons}
use Rattle.lv_grammars.proofs.Readers.{Spelled, Absent, at_case, begun}

-- ---- any number

-- some tokens are those of one and of more
one_more : (b : Base) (l : Language b) {A : Type 0} (g : Gram b A) (m : b.Token) (ts : List b.Token) → Spelled b l (many g) (m ∷ ts) → Spelled b l (both g (many g)) (m ∷ ts)
one_more b l {A} g m ts c = go c.0 c.1 c.2
  where
    go : (o : Bool) (z : List A) → IsSpelled b l (many g) (m ∷ ts) o z → Spelled b l (both g (many g)) (m ∷ ts)
    go o [] s = absurd (nil_cons m ts s.0)
    go o (x ∷ xs) s = (o, (x, xs), s)

pub alone : (b : Base) (l : Language b) {A : Type 0} (g : Gram b A) (ts : List b.Token) → Spelled b l g ts → Spelled b l (many g) ts
alone b l g ts c = (c.0, c.1 ∷ [], (ts, [], c.0, false, sym (append-nil ts), c.2, (refl, refl), refl))

-- one more is there
pub many_more : {b : Base} {all : Language b} {A : Type 0} {g : Gram b A} {ts : List b.Token} (low : Language b) → Opens b all g ts →
    At b all low (many g) ts low (both g (many g)) ts (λ p. p.0 ∷ p.1)
many_more {b} {all} {A} {g} {ts} low k = at_case (record {
  into_all = λ us c. (c.0, c.1.0 ∷ c.1.1, c.2);
  into_low = λ us o x s. (o, s);
  back_all = λ m us vs e c. one_more b all g m vs c;
  back_low = λ m us vs e c. one_more b low g m vs c;
  back_none = λ c e. nothing c.0 c.1 c.2 e;
})
  where
    nothing : (o : Bool) (z : List A) → IsSpelled b all (many g) [] o z → ((m : b.Token) (us : List b.Token) → ts ≡ m ∷ us → Begins b all (many g) (m ∷ []) → ⊥) → Spelled b all (both g (many g)) []
    nothing o [] s e = absurd (e k.token k.others k.cut (begun (k.token ∷ []) k.alive.more (alone b all g ((k.token ∷ []) ++ k.alive.more) (k.alive.ending, k.alive.tree, k.alive.spelled))))
    nothing o (x ∷ xs) s e = (o, (x, xs), s)

-- no more is there
pub many_none : {b : Base} {all low : Language b} {A : Type 0} {g : Gram b A} {ts : List b.Token} → Absent b all low g ts → Reads b all low (many g) ts [] ts
many_none {b} {all} {low} {A} {g} {ts} k = record {
  front = [];
  ending = false;
  cut = refl;
  spelled = (refl, refl);
  ends = λ t us e c. stuck t us c.more e (one_more b all g t c.more (c.ending, c.tree, c.spelled));
}
  where
    stuck : (t : b.Token) (us more : List b.Token) → ts ≡ t ∷ us → Spelled b all (both g (many g)) (t ∷ more) → ⊥
    stuck t us more e c = go c.2.0 c.2.1 (c.2.2, c.1.0, c.2.5) c.2.4
      where
        go : (fore behind : List b.Token) → Spelled b all g fore → t ∷ more ≡ fore ++ behind → ⊥
        go [] behind d f = k.some d
        go (s ∷ fore) behind d f = k.off t us fore e (subst (λ (v : b.Token). Spelled b all g (v ∷ fore)) (let q : s ≡ t = cc in q) d)

-- ---- any number, up to what ends them

-- what is spelled by none and by what ends them, or by one and more
pub data Turn (b : Base) (l : Language b) {A B : Type 0} (g : Gram b A) (h : Gram b B) (ts : List b.Token) : Type 0 where
  last : Spelled b l h ts → Turn b l g h ts
  more : Spelled b l (both g (until g h)) ts → Turn b l g h ts

pub turn : (b : Base) (l : Language b) {A B : Type 0} (g : Gram b A) (h : Gram b B) (ts : List b.Token) → Spelled b l (until g h) ts → Turn b l g h ts
turn b l {A} {B} g h ts c = go c.0 c.1.0 c.1.1 c.2
  where
    go : (o : Bool) (xs : List A) (y : B) → IsSpelled b l (until g h) ts o (xs, y) → Turn b l g h ts
    go o [] y s = last (o, y, subst (λ (v : List b.Token). IsSpelled b l h v o y) (sym (s.3 ∙ ap (λ v. v ++ s.1) s.4.0)) s.5)
    go o (x ∷ xs) y s = let a : SpellsAll (λ us p z. IsSpelled b l g us p z) s.0 s.2 (x ∷ xs) = s.4 in
        more (last_open (a.1 ++ s.1) a.2 o, (x, (xs, y)), (a.0, a.1 ++ s.1, a.2, o, s.3 ∙ ap (λ v. v ++ s.1) a.4 ∙ append_assoc a.0 a.1 s.1, a.5, (a.1, s.1, a.3, refl, a.6, s.5), refl))

one_before : (b : Base) (l : Language b) {A B : Type 0} (g : Gram b A) (h : Gram b B) (ts : List b.Token) (o : Bool) (x : A) (xs : List A) (y : B) →
    IsSpelled b l (both g (until g h)) ts o (x, (xs, y)) → (p : Bool) × IsSpelled b l (until g h) ts p (x ∷ xs, y)
one_before b l {A} {B} g h ts o x xs y s =
    let u : IsSpelled b l (until g h) s.1 s.3 (xs, y) = s.6 in
    (s.3, (s.0 ++ u.0, u.1, last_open u.0 s.2 u.2, s.4 ∙ ap (λ v. s.0 ++ v) u.3 ∙ sym (append_assoc s.0 u.0 u.1), (s.0, u.0, s.2, u.2, refl, s.5, u.4, refl), u.5))

pub begins_more : (b : Base) (l : Language b) {A B : Type 0} (g : Gram b A) (h : Gram b B) (ts vs : List b.Token) → Spelled b l h vs → Begins b l g ts → Begins b l (until g h) ts
begins_more b l {A} {B} g h ts vs d c = record {
  more = c.more ++ vs;
  ending = d.0;
  tree = (c.tree ∷ [], d.1);
  spelled = (ts ++ c.more, vs, c.ending, sym (append_assoc ts c.more vs), (ts ++ c.more, [], c.ending, false, sym (append-nil (ts ++ c.more)), c.spelled, (refl, refl), refl), d.2);
}

-- what ends them is not there
pub until_more : {b : Base} {all low : Language b} {A B : Type 0} {h : Gram b B} {ts : List b.Token} (g : Gram b A) → Absent b all low h ts →
    At b all low (until g h) ts low (both g (until g h)) ts (λ p. (p.0 ∷ p.1.0, p.1.1))
until_more {b} {all} {low} {A} {B} {h} {ts} g k = at_case (record {
  into_all = λ us c. into us c.0 c.1.0 c.1.1.0 c.1.1.1 c.2;
  into_low = λ us o x s. one_before b low g h us o x.0 x.1.0 x.1.1 s;
  back_all = λ m us vs e c. back all (m ∷ vs) (k.off m us vs e) c;
  back_low = λ m us vs e c. back low (m ∷ vs) (λ d. k.off m us vs e (k.within (m ∷ vs) d)) c;
  back_none = λ c e. back all [] k.some c;
})
  where
    into : (us : List b.Token) (o : Bool) (x : A) (xs : List A) (y : B) → IsSpelled b all (both g (until g h)) us o (x, (xs, y)) → Spelled b all (until g h) us
    into us o x xs y s = let q : (p : Bool) × IsSpelled b all (until g h) us p (x ∷ xs, y) = one_before b all g h us o x xs y s in (q.0, (x ∷ xs, y), q.1)

    back : (l : Language b) (us : List b.Token) → (Spelled b l h us → ⊥) → Spelled b l (until g h) us → Spelled b l (both g (until g h)) us
    back l us f c = elim (turn b l g h us c) [ last d ↦ absurd (f d) | more d ↦ d ]

-- no more is there
pub until_end : {b : Base} {all low : Language b} {A B : Type 0} {g : Gram b A} {ts : List b.Token} (h : Gram b B) → Absent b all low g ts →
    At b all low (until g h) ts low h ts (λ y. ([], y))
until_end {b} {all} {low} {A} {B} {g} {ts} h k = at_case (record {
  into_all = λ us c. (c.0, ([], c.1), ([], us, false, refl, (refl, refl), c.2));
  into_low = λ us o x s. (o, ([], us, false, refl, (refl, refl), s));
  back_all = λ m us vs e c. back all (m ∷ vs) (λ w d f. stuck m us vs w e d f) c;
  back_low = λ m us vs e c. back low (m ∷ vs) (λ w d f. stuck m us vs w e (k.within w d) f) c;
  back_none = λ c e. back all [] (λ w d f. empty w d f) c;
})
  where
    back : (l : Language b) (us : List b.Token) → ((fore : List b.Token) → Spelled b l g fore → ((behind : List b.Token) × (us ≡ fore ++ behind)) → ⊥) → Spelled b l (until g h) us → Spelled b l h us
    back l us f c = elim (turn b l g h us c) [ last d ↦ d | more d ↦ absurd (f d.2.0 (d.2.2, d.1.0, d.2.5) (d.2.1, d.2.4)) ]

    stuck : (m : b.Token) (us vs fore : List b.Token) → ts ≡ m ∷ us → Spelled b all g fore → ((behind : List b.Token) × (m ∷ vs ≡ fore ++ behind)) → ⊥
    stuck m us vs [] e d f = k.some d
    stuck m us vs (s ∷ fore) e d f = let j : m ∷ vs ≡ s ∷ (fore ++ f.0) = f.1 in
        k.off m us fore e (subst (λ (v : b.Token). Spelled b all g (v ∷ fore)) (let q : s ≡ m = cc in q) d)

    empty : (fore : List b.Token) → Spelled b all g fore → ((behind : List b.Token) × ([] ≡ fore ++ behind)) → ⊥
    empty [] d f = k.some d
    empty (s ∷ fore) d f = nil_cons s (fore ++ f.0) (sym f.1)
