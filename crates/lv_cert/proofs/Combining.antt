-- Parts that are made of others.
use Rattle.std.proofs.Common.{◌≡◌, ℕ, zero, suc, ◌+◌, ◌-◌, ◌≤◌, Bool, List, [], ◌∷◌, ◌++◌, codes, refl, sym, ap, ◌∙◌, subst, append_assoc, arith}
use Rattle.lv_cert.specs.Words.{Word, word}
use Rattle.lv_cert.specs.Parts.{Part, State, Moves, IsStuck, one, fixed, after, both, turns, turns_fit, turns_words, until, until_fit, until_words}
use Rattle.lv_cert.proofs.Leading.{cancel, Leads, IsUnique, Has, Heads}

-- ---- one word

pub unique_one : {A : Type 0} (fits : A → Type 0) (letters : A → List ℕ) (last : Bool) →
    ((a b : A) → fits a → fits b → letters a ≡ letters b → a ≡ b) → IsUnique (one fits letters last)
unique_one fits letters last f a b r s fa fb e =
    let w : word (letters a) last ≡ word (letters b) last = cc in
    f a b fa fb (ap (λ x. x.letters) w)

pub stuck_one : {A : Type 0} (fits : A → Type 0) (letters : A → List ℕ) (last : Bool) (ws : List Word) → Has (one fits letters last) →
    ((x : Word) (behind : List Word) → ws ≡ x ∷ behind → (a : A) → fits a → word (letters a) last ≡ x → ⊥) → IsStuck (one fits letters last) ws []
stuck_one fits letters last ws h f = record {
  value = h.0;
  next = word (letters h.0) last;
  more = [];
  rest = ws;
  fits = h.1;
  begins = refl;
  is = refl;
  ends = λ x behind e a others fa wa. f x behind e a fa (cc);
}

pub unique_fixed : (letters : List ℕ) (last : Bool) → IsUnique (fixed letters last)
unique_fixed letters last a b r s fa fb e = refl

pub has_fixed : (letters : List ℕ) (last : Bool) → Has (fixed letters last)
has_fixed letters last = (tt, tt)

-- ---- behind a fixed word

module _ {A : Type 0} (letters : List ℕ) (last : Bool) (p : Part A) where
  pub unique_after : IsUnique p → IsUnique (after letters last p)
  unique_after u a b r s fa fb e = u a b r s fa fb (cc)

  pub has_after : Has p → Has (after letters last p)
  has_after h = h

  pub heads_after : Has p → Heads (fixed letters last) (after letters last p)
  heads_after h = record {
    make = λ a fa. (h.0, p.words h.0, h.1, refl);
    split = λ b fb. (tt, p.words b, tt, refl);
  }

  pub lead_after : {old now : State} → Moves old now (word letters last ∷ []) → Leads (after letters last p) p (λ a. a) old now
  lead_after m = record {
    front = word letters last ∷ [];
    moves = m;
    rests = record { fits = λ b h. h; words = λ b h. refl; only = λ a others fa e. (a, fa, (cc)) };
  }

-- ---- one part and another

module _ {A B : Type 0} (p : Part A) (q : A → Part B) where
  tail_of : (u : IsUnique p) (a b : A) (c : B) (others : List Word) → p.fits a → p.fits b → p.words a ++ (q a).words c ≡ p.words b ++ others → (q a).fits c →
      (d : B) × (q b).fits d × ((q b).words d ≡ others)
  tail_of u a b c others fa fb e fc =
      let same : a ≡ b = u a b ((q a).words c) others fa fb e in
      let P : A → Type 0 = λ x. (p.words x ++ (q x).words c ≡ p.words b ++ others) × (q x).fits c in
      let moved : P b = subst P same (e, fc) in
      (c, moved.1, cancel (p.words b) ((q b).words c) others moved.0)

  pub has_both : Has p → ((a : A) → p.fits a → Has (q a)) → Has (both p q)
  has_both h f = let k = f h.0 h.1 in ((h.0, k.0), (h.1, k.1))

  pub heads_both : ((a : A) → p.fits a → Has (q a)) → Heads p (both p q)
  heads_both f = record {
    make = λ a fa. let k = f a fa in ((a, k.0), (q a).words k.0, (fa, k.1), refl);
    split = λ b fb. (b.0, (q b.0).words b.1, fb.0, refl);
  }

  pub lead_both : IsUnique p → (a : A) → p.fits a → {old now : State} → Moves old now (p.words a) → Leads (both p q) (q a) (λ b. (a, b)) old now
  lead_both u a fa m = record {
    front = p.words a;
    moves = m;
    rests = record {
      fits = λ b h. (fa, h);
      words = λ b h. refl;
      only = λ v others fv e. tail_of u v.0 a v.1 others fv.0 fa e fv.1;
    };
  }

  pub unique_both : IsUnique p → ((a : A) → p.fits a → IsUnique (q a)) → IsUnique (both p q)
  unique_both u f a b r s fa fb e =
      let e1 : p.words a.0 ++ ((q a.0).words a.1 ++ r) ≡ p.words b.0 ++ ((q b.0).words b.1 ++ s) =
      sym (append_assoc (p.words a.0) ((q a.0).words a.1) r) ∙ e ∙ append_assoc (p.words b.0) ((q b.0).words b.1) s in
      let same : a.0 ≡ b.0 = u a.0 b.0 _ _ fa.0 fb.0 e1 in
      let P : A → Type 0 = λ x. (p.words x ++ ((q x).words a.1 ++ r) ≡ p.words b.0 ++ ((q b.0).words b.1 ++ s)) × (q x).fits a.1 in
      let moved : P b.0 = subst P same (e1, fa.1) in
      let rest : a.1 ≡ b.1 = f b.0 fb.0 a.1 b.1 r s moved.1 fb.1 (cancel (p.words b.0) _ _ moved.0) in
      λ i. (same i, rest i)

-- ---- turns

module _ {A : Type 0} (p : ℕ → ℕ → Part A) (next : ℕ → A → ℕ) where
  pub heads_turn : (count s : ℕ) → 1 ≤ count → ((a : A) → (p (count - 1) s).fits a → Has (turns p next (count - 1) (next s a))) → Heads (p (count - 1) s) (turns p next count s)
  heads_turn count s some f = record {
    make = λ a fa. let k = f a fa in (a ∷ k.0, turns_words p next (count - 1) (next s a) k.0, (some, fa, k.1), refl);
    split = λ b fb. by b fb;
  }
    where
      by : (b : List A) → turns_fit p next count s b → (a : A) × (m : List Word) × (p (count - 1) s).fits a × (turns_words p next count s b ≡ (p (count - 1) s).words a ++ m)
      by [] fb = absurd (omega (arith, fb))
      by (a ∷ xs) fb = (a, turns_words p next (count - 1) (next s a) xs, fb.1, refl)

  pub lead_turn : (count s : ℕ) → 1 ≤ count → IsUnique (p (count - 1) s) → (a : A) → (p (count - 1) s).fits a → {old now : State} → Moves old now ((p (count - 1) s).words a) →
      Leads (turns p next count s) (turns p next (count - 1) (next s a)) (λ xs. a ∷ xs) old now
  lead_turn count s some u a fa m = record {
    front = (p (count - 1) s).words a;
    moves = m;
    rests = record {
      fits = λ b h. (some, fa, h);
      words = λ b h. refl;
      only = λ v others fv e. by v others fv e;
    };
  }
    where
      by : (v : List A) (others : List Word) → turns_fit p next count s v → turns_words p next count s v ≡ (p (count - 1) s).words a ++ others →
          (xs : List A) × turns_fit p next (count - 1) (next s a) xs × (turns_words p next (count - 1) (next s a) xs ≡ others)
      by [] others fv e = absurd (omega (arith, fv))
      by (b ∷ bs) others fv e =
          let same : b ≡ a = u b a (turns_words p next (count - 1) (next s b) bs) others fv.1 fa e in
          let P : A → Type 0 = λ x. ((p (count - 1) s).words x ++ turns_words p next (count - 1) (next s x) bs ≡ (p (count - 1) s).words a ++ others) × turns_fit p next (count - 1) (next s x) bs in
          let moved : P a = subst P same (e, fv.2) in
          (bs, moved.1, cancel ((p (count - 1) s).words a) (turns_words p next (count - 1) (next s a) bs) others moved.0)

  -- a fact of the count and the number that each part hands on
  pub unique_turns : (P : ℕ → ℕ → Type 0) → ((c s : ℕ) → 1 ≤ c → P c s → IsUnique (p (c - 1) s)) →
      ((c s : ℕ) (a : A) → 1 ≤ c → P c s → (p (c - 1) s).fits a → P (c - 1) (next s a)) → (count s : ℕ) → P count s → IsUnique (turns p next count s)
  unique_turns P u v count s h [] [] r t fa fb e = refl
  unique_turns P u v count s h [] (b ∷ bs) r t fa fb e = absurd (omega (arith, fa, fb.0))
  unique_turns P u v count s h (a ∷ xs) [] r t fa fb e = absurd (omega (arith, fb, fa.0))
  unique_turns P u v count s h (a ∷ xs) (b ∷ bs) r t fa fb e =
      let w = (p (count - 1) s).words in
      let e1 : w a ++ (turns_words p next (count - 1) (next s a) xs ++ r) ≡ w b ++ (turns_words p next (count - 1) (next s b) bs ++ t) =
      sym (append_assoc (w a) (turns_words p next (count - 1) (next s a) xs) r) ∙ e ∙ append_assoc (w b) (turns_words p next (count - 1) (next s b) bs) t in
      let same : a ≡ b = u count s fa.0 h a b _ _ fa.1 fb.1 e1 in
      let Q : A → Type 0 = λ x. (w x ++ (turns_words p next (count - 1) (next s x) xs ++ r) ≡ w b ++ (turns_words p next (count - 1) (next s b) bs ++ t)) × turns_fit p next (count - 1) (next s x) xs in
      let moved : Q b = subst Q same (e1, fa.2) in
      let rest : xs ≡ bs = unique_turns P u v (count - 1) (next s b) (v count s b fb.0 h fb.1) xs bs r t moved.1 fb.2 (cancel (w b) _ _ moved.0) in
      λ i. same i ∷ rest i

  -- a fact with which there is a next part
  pub has_turns : (P : ℕ → ℕ → Type 0) → ((c s : ℕ) → P (c + 1) s → (a : A) × (p c s).fits a × P c (next s a)) → (count s : ℕ) → P count s → Has (turns p next count s)
  has_turns P f zero s h = ([], refl)
  has_turns P f (suc c) s h =
      let k = f c s (subst (λ n. P n s) (omega arith) h) in
      let rest = has_turns P f c (next s k.0) k.2 in
      let e : c ≡ suc c - 1 = omega arith in
      let Q : ℕ → Type 0 = λ n. (p n s).fits k.0 × turns_fit p next n (next s k.0) rest.0 in
      let moved : Q (suc c - 1) = subst Q e (k.1, rest.1) in
      (k.0 ∷ rest.0, (omega arith, moved.0, moved.1))

-- ---- up to a zero

-- a value's word isn't the zero
abbrev pub IsApart : {A : Type 0} → Part A → Bool → Type 0
IsApart {A} p last = (a : A) (r s : List Word) → p.fits a → p.words a ++ r ≡ word (codes "0") last ∷ s → ⊥

module _ {A : Type 0} (p : ℕ → Part A) (next : ℕ → A → ℕ) (last : Bool) where
  pub has_until : (s : ℕ) → Has (until p next last s)
  has_until s = ([], tt)

  pub lead_until : (s : ℕ) → IsUnique (p s) → IsApart (p s) last → (a : A) → (p s).fits a → {old now : State} → Moves old now ((p s).words a) →
      Leads (until p next last s) (until p next last (next s a)) (λ xs. a ∷ xs) old now
  lead_until s u z a fa m = record {
    front = (p s).words a;
    moves = m;
    rests = record {
      fits = λ b h. (fa, h);
      words = λ b h. refl;
      only = λ v others fv e. by v others fv e;
    };
  }
    where
      by : (v : List A) (others : List Word) → until_fit p next s v → until_words p next last s v ≡ (p s).words a ++ others →
          (xs : List A) × until_fit p next (next s a) xs × (until_words p next last (next s a) xs ≡ others)
      by [] others fv e = absurd (z a others [] fa (sym e))
      by (b ∷ bs) others fv e =
          let same : b ≡ a = u b a (until_words p next last (next s b) bs) others fv.0 fa e in
          let P : A → Type 0 = λ x. ((p s).words x ++ until_words p next last (next s x) bs ≡ (p s).words a ++ others) × until_fit p next (next s x) bs in
          let moved : P a = subst P same (e, fv.1) in
          (bs, moved.1, cancel ((p s).words a) (until_words p next last (next s a) bs) others moved.0)

  pub unique_until : ((s : ℕ) → IsUnique (p s)) → ((s : ℕ) → IsApart (p s) last) → (s : ℕ) → IsUnique (until p next last s)
  unique_until u z s [] [] r t fa fb e = refl
  unique_until u z s [] (b ∷ bs) r t fa fb e =
      absurd (z s b (until_words p next last (next s b) bs ++ t) r fb.0 (sym (append_assoc ((p s).words b) (until_words p next last (next s b) bs) t) ∙ sym e))
  unique_until u z s (a ∷ xs) [] r t fa fb e =
      absurd (z s a (until_words p next last (next s a) xs ++ r) t fa.0 (sym (append_assoc ((p s).words a) (until_words p next last (next s a) xs) r) ∙ e))
  unique_until u z s (a ∷ xs) (b ∷ bs) r t fa fb e =
      let w = (p s).words in
      let e1 : w a ++ (until_words p next last (next s a) xs ++ r) ≡ w b ++ (until_words p next last (next s b) bs ++ t) =
      sym (append_assoc (w a) (until_words p next last (next s a) xs) r) ∙ e ∙ append_assoc (w b) (until_words p next last (next s b) bs) t in
      let same : a ≡ b = u s a b _ _ fa.0 fb.0 e1 in
      let P : A → Type 0 = λ x. (w x ++ (until_words p next last (next s x) xs ++ r) ≡ w b ++ (until_words p next last (next s b) bs ++ t)) × until_fit p next (next s x) xs in
      let moved : P b = subst P same (e1, fa.1) in
      let rest : xs ≡ bs = unique_until u z (next s b) xs bs r t moved.1 fb.1 (cancel (w b) _ _ moved.0) in
      λ i. same i ∷ rest i

  -- neither the zero nor a value comes next
  pub stuck_until : (s : ℕ) (ws : List Word) →
      ((x : Word) (behind : List Word) → ws ≡ x ∷ behind → x ≡ word (codes "0") last → ⊥) →
      ((x : Word) (behind : List Word) → ws ≡ x ∷ behind → (a : A) (r s2 : List Word) → (p s).fits a → (p s).words a ++ r ≡ x ∷ s2 → ⊥) →
      IsStuck (until p next last s) ws []
  stuck_until s ws f g = record {
    value = [];
    next = word (codes "0") last;
    more = [];
    rest = ws;
    fits = tt;
    begins = refl;
    is = refl;
    ends = λ x behind e v others fv wv. by x behind e v others fv wv;
  }
    where
      by : (x : Word) (behind : List Word) → ws ≡ x ∷ behind → (v : List A) (others : List Word) → until_fit p next s v → until_words p next last s v ≡ x ∷ others → ⊥
      by x behind e [] others fv wv = f x behind e (cc)
      by x behind e (a ∷ xs) others fv wv = g x behind e a (until_words p next last (next s a) xs) others fv.0 wv
