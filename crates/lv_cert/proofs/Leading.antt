-- What is left to read of a part.
use Rattle.std.proofs.Common.{◌≡◌, ◌+◌, List, [], ◌∷◌, ◌++◌, Result, Ok, Err, refl, sym, ap, ◌∙◌, subst, ◌⊎◌, inl, inr, append_assoc, arith}
use Rattle.std.proofs.lemmas.List.{append-nil}
use Rattle.lv_cert.specs.Words.{Word}
use Rattle.lv_cert.specs.Parts.{Part, State, Moves, IsStuck, Fails, Reads, line_count}
use Rattle.lv_cert.specs.declared.error.CertError.{CertError}
use Rattle.lv_cert.specs.declared.error.CertError.TheVariants.{Line, NoMemory}

-- ---- lists

pub cancel : {A : Type 0} (xs ys zs : List A) → xs ++ ys ≡ xs ++ zs → ys ≡ zs
cancel [] ys zs e = e
cancel (x ∷ xs) ys zs e = cancel xs ys zs (cc)

pub levi : (xs ys zs : List Word) (w : Word) (ws : List Word) → xs ++ ys ≡ zs ++ w ∷ ws →
    ((t : List Word) × (xs ≡ zs ++ w ∷ t)) ⊎ ((t : List Word) × (zs ≡ xs ++ t))
levi [] ys zs w ws e = inr (zs, refl)
levi (x ∷ xs) ys [] w ws e = let h : x ≡ w = cc in inl (xs, ap (λ z. z ∷ xs) h)
levi (x ∷ xs) ys (z ∷ zs) w ws e =
    let h : x ≡ z = cc in
    let t : xs ++ ys ≡ zs ++ w ∷ ws = cc in
    elim (levi xs ys zs w ws t) [
      | inl l ↦ let k : xs ≡ zs ++ w ∷ l.0 = l.1 in inl (l.0, (cc))
      | inr l ↦ let k : zs ≡ xs ++ l.0 = l.1 in inr (l.0, (cc))
    ]

pub split : (xs ys zs ws : List Word) → xs ++ ys ≡ zs ++ ws →
    ((t : List Word) × (zs ≡ xs ++ t)) ⊎ ((t : List Word) × (xs ≡ zs ++ t) × (ws ≡ t ++ ys))
split [] ys zs ws e = inl (zs, refl)
split (x ∷ xs) ys [] ws e = inr (x ∷ xs, refl, sym e)
split (x ∷ xs) ys (z ∷ zs) ws e =
    let h : x ≡ z = cc in
    let t : xs ++ ys ≡ zs ++ ws = cc in
    elim (split xs ys zs ws t) [
      | inl l ↦ let k : zs ≡ xs ++ l.0 = l.1 in inl (l.0, (cc))
      | inr l ↦ let k : xs ≡ zs ++ l.0 = l.1 in inr (l.0, (cc), l.2)
    ]

pub line_count-append : (xs ys : List Word) → line_count (xs ++ ys) ≡ line_count xs + line_count ys
line_count-append [] ys = omega arith
line_count-append (x ∷ xs) ys = let h : line_count (xs ++ ys) ≡ line_count xs + line_count ys = line_count-append xs ys in omega (arith, h)

-- ---- moves

pub moves_none : (old : State) → Moves old old []
moves_none old = record { words = refl; rest = refl; line = omega arith }

pub moves_trans : {a b c : State} {f g : List Word} → Moves a b f → Moves b c g → Moves a c (f ++ g)
moves_trans {a} {b} {c} {f} {g} m n = record {
  words = m.words ∙ ap (λ ws. f ++ ws) n.words ∙ sym (append_assoc f g c.words);
  rest = n.rest ∙ m.rest;
  line = omega (arith, m.line, n.line, line_count-append f g);
}

-- ---- what is left of p is q

pub record Rests {A B : Type 0} (p : Part A) (q : Part B) (join : B → A) (front : List Word) : Type 0 where
  pub fits : (b : B) → q.fits b → p.fits (join b)
  pub words : (b : B) → q.fits b → p.words (join b) ≡ front ++ q.words b
  pub only : (a : A) (others : List Word) → p.fits a → p.words a ≡ front ++ others → (b : B) × q.fits b × (q.words b ≡ others)

pub record Leads {A B : Type 0} (p : Part A) (q : Part B) (join : B → A) (old now : State) : Type 0 where
  pub front : List Word
  pub moves : Moves old now front
  pub rests : Rests p q join front

stuck_on : {A B : Type 0} (p : Part A) (q : Part B) (join : B → A) (front ws f : List Word) → Rests p q join front → IsStuck q ws f → IsStuck p (front ++ ws) (front ++ f)
stuck_on p q join front ws f r h = record {
  value = join h.value;
  next = h.next;
  more = h.more;
  rest = h.rest;
  fits = r.fits h.value h.fits;
  begins = r.words h.value h.fits ∙ ap (λ l. front ++ l) h.begins ∙ sym (append_assoc front f (h.next ∷ h.more));
  is = ap (λ l. front ++ l) h.is ∙ sym (append_assoc front f h.rest);
  ends = λ x behind e a others fa wa.
      let k = r.only a (f ++ x ∷ others) fa (wa ∙ append_assoc front f (x ∷ others)) in
      h.ends x behind e k.0 others k.1 k.2;
}

pub fails_on : {A B : Type 0} {p : Part A} {q : Part B} {join : B → A} {old now : State} → Leads p q join old now → (e : CertError) → Fails q now e → Fails p old e
fails_on {p = p} {q = q} {join = join} {old = old} {now = now} l (Line n) h = (
  l.front ++ h.0,
  subst (λ ws. IsStuck p ws (l.front ++ h.0)) (sym l.moves.words) (stuck_on p q join l.front now.words h.0 l.rests h.1),
  omega (arith, h.2, l.moves.line, line_count-append l.front h.0),
)
fails_on l NoMemory h = tt

pub reads_on : {A B R : Type 0} {p : Part A} {q : Part B} {join : B → A} {old now : State} (new : State) → Leads p q join old now →
    (shows : R → A → Type 0) (other : R → B → Type 0) → ((r : R) (b : B) → other r b → shows r (join b)) →
    (result : Result R CertError) → Reads q other now new result → Reads p shows old new result
reads_on {p = p} {q = q} {join = join} {old = old} {now = now} new l shows other f (Ok r) h =
    (join h.0, f r h.0 h.1, l.rests.fits h.0 h.2, subst (Moves old new) (sym (l.rests.words h.0 h.2)) (moves_trans l.moves h.3))
reads_on new l shows other f (Err e) h = fails_on l e h

pub leads_none : {A : Type 0} (p : Part A) (old : State) → Leads p p (λ a. a) old old
leads_none p old = record {
  front = [];
  moves = moves_none old;
  rests = record { fits = λ b h. h; words = λ b h. refl; only = λ a others h e. (a, h, e) };
}

pub leads_trans : {A B C : Type 0} {p : Part A} {q : Part B} {r : Part C} {j : B → A} {k : C → B} {a b c : State} → Leads p q j a b → Leads q r k b c → Leads p r (λ x. j (k x)) a c
leads_trans {p = p} {q = q} {r = r} {j = j} {k = k} l m = record {
  front = l.front ++ m.front;
  moves = moves_trans l.moves m.moves;
  rests = record {
    fits = λ x h. l.rests.fits (k x) (m.rests.fits x h);
    words = λ x h. l.rests.words (k x) (m.rests.fits x h) ∙ ap (λ w. l.front ++ w) (m.rests.words x h) ∙ sym (append_assoc l.front m.front (r.words x));
    only = λ a others fa e.
        let u = l.rests.only a (m.front ++ others) fa (e ∙ append_assoc l.front m.front others) in
        m.rests.only u.0 others u.1 u.2;
  };
}

-- ---- what comes first in g is p

-- words tell which value they are of, whatever comes behind them
abbrev pub IsUnique : {A : Type 0} → Part A → Type 0
IsUnique {A} p = (a b : A) (r s : List Word) → p.fits a → p.fits b → p.words a ++ r ≡ p.words b ++ s → a ≡ b

abbrev pub Has : {A : Type 0} → Part A → Type 0
Has {A} p = (a : A) × p.fits a

pub record Heads {A G : Type 0} (p : Part A) (g : Part G) : Type 0 where
  pub make : (a : A) → p.fits a → (b : G) × (m : List Word) × g.fits b × (g.words b ≡ p.words a ++ m)
  pub split : (b : G) → g.fits b → (a : A) × (m : List Word) × p.fits a × (g.words b ≡ p.words a ++ m)

pub nothing_more : (xs ys : List Word) (w : Word) (ws : List Word) → xs ≡ xs ++ (ys ++ w ∷ ws) → ⊥
nothing_more [] [] w ws e = cc
nothing_more [] (y ∷ ys) w ws e = cc
nothing_more (x ∷ xs) ys w ws e = nothing_more xs ys w ws (cc)

stuck_head : {A G : Type 0} (p : Part A) (g : Part G) (ws f : List Word) → Heads p g → IsUnique p → IsStuck p ws f → IsStuck g ws f
stuck_head {A} {G} p g ws f t u h =
    let made = t.make h.value h.fits in
    record {
      value = made.0;
      next = h.next;
      more = h.more ++ made.1;
      rest = h.rest;
      fits = made.2;
      begins = made.3 ∙ ap (λ l. l ++ made.1) h.begins ∙ append_assoc f (h.next ∷ h.more) made.1;
      is = h.is;
      ends = λ x behind e b others fb wb.
          let parts = t.split b fb in
          by x behind e others (parts.0) (parts.1) parts.2 (levi (p.words parts.0) parts.1 f x others (sym parts.3 ∙ wb));
    }
  where
    by : (x : Word) (behind : List Word) → h.rest ≡ x ∷ behind → (others : List Word) (a : A) (m : List Word) → p.fits a →
        ((s : List Word) × (p.words a ≡ f ++ x ∷ s)) ⊎ ((s : List Word) × (f ≡ p.words a ++ s)) → ⊥
    by x behind e others a m fa (inl l) = h.ends x behind e a l.0 fa l.1
    by x behind e others a m fa (inr l) =
        let whole : p.words h.value ≡ p.words a ++ (l.0 ++ h.next ∷ h.more) = h.begins ∙ ap (λ z. z ++ h.next ∷ h.more) l.1 ∙ append_assoc (p.words a) l.0 (h.next ∷ h.more) in
        let same : h.value ≡ a = u h.value a [] (l.0 ++ h.next ∷ h.more) h.fits fa (append-nil (p.words h.value) ∙ whole) in
        nothing_more (p.words a) l.0 h.next h.more (ap (λ v. p.words v) (sym same) ∙ whole)

pub fails_head : {A G : Type 0} {p : Part A} {g : Part G} (old : State) → Heads p g → IsUnique p → (e : CertError) → Fails p old e → Fails g old e
fails_head {p = p} {g = g} old t u (Line n) h = (h.0, stuck_head p g old.words h.0 t u h.1, h.2)
fails_head old t u NoMemory h = tt
