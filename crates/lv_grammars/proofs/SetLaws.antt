-- What is computed of sets of shapes is right of the tokens in them.
use Rattle.std.specs.Prelude.{◌≡◌, List, [], ◌∷◌, ◌++◌, Bool, true, false, not, if◌then◌else◌}
use Rattle.std.proofs.Common.{refl, subst, inl, inr}
use Rattle.lv_grammars.specs.Grammar.{Base}
use Rattle.lv_grammars.specs.Sets.{Set, these, others, some_of, all_of, kept, is_in, among, union, apart, within}
use Rattle.lv_grammars.specs.Facts.{IsBase}
use Rattle.lv_grammars.proofs.Lists.{true_false, and_left, and_right, of_not, to_not, or_cases, or_left, or_right, not_or_left, not_or_right, not_or}

-- ---- some and all of a list

some_append_left : {P : Type 0} (f : P → Bool) (ps qs : List P) → some_of f ps ≡ true → some_of f (ps ++ qs) ≡ true
some_append_left f [] qs e = true_false false e refl
some_append_left f (p ∷ ps) qs e = elim (or_cases (f p) (some_of f ps) e) [
  | inl h ↦ or_left (f p) (some_of f (ps ++ qs)) h
  | inr h ↦ or_right (f p) (some_of f (ps ++ qs)) (some_append_left f ps qs h)
]

some_append_right : {P : Type 0} (f : P → Bool) (ps qs : List P) → some_of f qs ≡ true → some_of f (ps ++ qs) ≡ true
some_append_right f [] qs e = e
some_append_right f (p ∷ ps) qs e = or_right (f p) (some_of f (ps ++ qs)) (some_append_right f ps qs e)

-- none of a list is such where none of it is both kept and such
none_kept : {P : Type 0} (f k : P → Bool) (ps : List P) → ((p : P) → k p ≡ true → f p ≡ false) → some_of f (kept k ps) ≡ false
none_kept f k [] h = refl
none_kept {P} f k (p ∷ ps) h = go (k p) refl (none_kept f k ps h)
  where
    go : (c : Bool) → k p ≡ c → some_of f (kept k ps) ≡ false → some_of f (if c then p ∷ kept k ps else kept k ps) ≡ false
    go true e n = not_or (f p) (some_of f (kept k ps)) (h p e) n
    go false e n = n

none_of_kept : {P : Type 0} (f k : P → Bool) (ps : List P) → some_of f ps ≡ false → some_of f (kept k ps) ≡ false
none_of_kept f k [] h = refl
none_of_kept {P} f k (p ∷ ps) h = go (k p) (none_of_kept f k ps (not_or_right (f p) (some_of f ps) h))
  where
    go : (c : Bool) → some_of f (kept k ps) ≡ false → some_of f (if c then p ∷ kept k ps else kept k ps) ≡ false
    go true n = not_or (f p) (some_of f (kept k ps)) (not_or_left (f p) (some_of f ps) h) n
    go false n = n

-- one that is such, of a list of which some is
pub record Chosen {P : Type 0} (f : P → Bool) (ps : List P) : Type 0 where
  pub one : P
  pub such : f one ≡ true
  pub all : (g : P → Bool) → all_of g ps ≡ true → g one ≡ true
  pub none : (g : P → Bool) → some_of g ps ≡ false → g one ≡ false

choose : {P : Type 0} (f : P → Bool) (ps : List P) → some_of f ps ≡ true → Chosen f ps
choose f [] e = true_false false e refl
choose f (p ∷ ps) e = elim (or_cases (f p) (some_of f ps) e) [
  | inl h ↦ record {
    one = p;
    such = h;
    all = λ g i. and_left (g p) (all_of g ps) i;
    none = λ g i. not_or_left (g p) (some_of g ps) i;
  }
  | inr h ↦ behind (choose f ps h)
]
  where
    behind : Chosen f ps → Chosen f (p ∷ ps)
    behind c = record {
      one = c.one;
      such = c.such;
      all = λ g i. c.all g (and_right (g p) (all_of g ps) i);
      none = λ g i. c.none g (not_or_right (g p) (some_of g ps) i);
    }

-- none of a list is such where each that is isn't in it
none_such : {P : Type 0} (f : P → Bool) (ps : List P) → (Chosen f ps → ⊥) → some_of f ps ≡ false
none_such {P} f ps h = go (some_of f ps) refl
  where
    go : (c : Bool) → some_of f ps ≡ c → some_of f ps ≡ false
    go true e = absurd (h (choose f ps e))
    go false e = e

-- ---- sets

-- a token fits one of the shapes that a shape is among exactly if it fits that
fits_among : (b : Base) → IsBase b → (t : b.Token) (ps : List b.Shape) (p : b.Shape) → among b ps p ≡ true → b.fits p t ≡ true → some_of (λ q. b.fits q t) ps ≡ true
fits_among b i t [] p e f = true_false false e refl
fits_among b i t (q ∷ ps) p e f = elim (or_cases (b.same p q) (some_of (b.same p) ps) e) [
  | inl h ↦ or_left (b.fits q t) (some_of (λ q. b.fits q t) ps) (subst (λ (z : b.Shape). b.fits z t ≡ true) (i.one p q h) f)
  | inr h ↦ or_right (b.fits q t) (some_of (λ q. b.fits q t) ps) (fits_among b i t ps p h f)
]

fits_not_among : (b : Base) → IsBase b → (t : b.Token) (ps : List b.Shape) (p : b.Shape) → among b ps p ≡ false → b.fits p t ≡ true → some_of (λ q. b.fits q t) ps ≡ false
fits_not_among b i t [] p e f = refl
fits_not_among b i t (q ∷ ps) p e f =
    not_or (b.fits q t) (some_of (λ q. b.fits q t) ps) (go (b.fits q t) refl) (fits_not_among b i t ps p (not_or_right (b.same p q) (some_of (b.same p) ps) e) f)
  where
    go : (c : Bool) → b.fits q t ≡ c → b.fits q t ≡ false
    go true h = absurd (i.apart p q t (not_or_left (b.same p q) (some_of (b.same p) ps) e) f h)
    go false h = h

-- a shape that isn't a token's, told by the shapes that aren't
not_fits : (b : Base) → IsBase b → (t : b.Token) (ps : List b.Shape) (p : b.Shape) → among b ps p ≡ true → some_of (λ q. b.fits q t) ps ≡ false → b.fits p t ≡ false
not_fits b i t ps p e n = go (b.fits p t) refl
  where
    go : (c : Bool) → b.fits p t ≡ c → b.fits p t ≡ false
    go true h = true_false (some_of (λ q. b.fits q t) ps) (fits_among b i t ps p e h) n
    go false h = h

not_fits_any : (b : Base) → IsBase b → (t : b.Token) (ps : List b.Shape) (p : b.Shape) → among b ps p ≡ false → some_of (λ q. b.fits q t) ps ≡ true → b.fits p t ≡ false
not_fits_any b i t ps p e n = go (b.fits p t) refl
  where
    go : (c : Bool) → b.fits p t ≡ c → b.fits p t ≡ false
    go true h = true_false (some_of (λ q. b.fits q t) ps) n (fits_not_among b i t ps p e h)
    go false h = h

pub union_left : (b : Base) → IsBase b → (s u : Set b.Shape) (t : b.Token) → is_in b s t ≡ true → is_in b (union b s u) t ≡ true
union_left b i (these ps) (these qs) t e = some_append_left (λ q. b.fits q t) ps qs e
union_left b i (these ps) (others qs) t e =
    to_not _ (none_kept (λ q. b.fits q t) (λ q. not (among b ps q)) qs (λ p h. not_fits_any b i t ps p (of_not (among b ps p) h) e))
union_left b i (others ps) (these qs) t e = to_not _ (none_of_kept (λ q. b.fits q t) (λ q. not (among b qs q)) ps (of_not (some_of (λ p. b.fits p t) ps) e))
union_left b i (others ps) (others qs) t e = to_not _ (none_of_kept (λ q. b.fits q t) (among b qs) ps (of_not (some_of (λ p. b.fits p t) ps) e))

pub union_right : (b : Base) → IsBase b → (s u : Set b.Shape) (t : b.Token) → is_in b u t ≡ true → is_in b (union b s u) t ≡ true
union_right b i (these ps) (these qs) t e = some_append_right (λ q. b.fits q t) ps qs e
union_right b i (these ps) (others qs) t e = to_not _ (none_of_kept (λ q. b.fits q t) (λ q. not (among b ps q)) qs (of_not (some_of (λ p. b.fits p t) qs) e))
union_right b i (others ps) (these qs) t e =
    to_not _ (none_kept (λ q. b.fits q t) (λ q. not (among b qs q)) ps (λ p h. not_fits_any b i t qs p (of_not (among b qs p) h) e))
union_right b i (others ps) (others qs) t e =
    to_not _ (none_kept (λ q. b.fits q t) (among b qs) ps (λ p h. not_fits b i t qs p h (of_not (some_of (λ p. b.fits p t) qs) e)))

-- no token is in two sets that are apart
pub apart_is : (b : Base) → IsBase b → (s u : Set b.Shape) (t : b.Token) → apart b s u ≡ true → is_in b s t ≡ true → is_in b u t ≡ true → ⊥
apart_is b i (these ps) (these qs) t a e f =
    let c : Chosen (λ q. b.fits q t) ps = choose _ ps e in
    true_false (some_of (λ q. b.fits q t) qs) f (fits_not_among b i t qs c.one (of_not (among b qs c.one) (c.all (λ p. not (among b qs p)) a)) c.such)
apart_is b i (these ps) (others qs) t a e f =
    let c : Chosen (λ q. b.fits q t) ps = choose _ ps e in
    true_false (some_of (λ q. b.fits q t) qs) (fits_among b i t qs c.one (c.all (among b qs) a) c.such) (of_not _ f)
apart_is b i (others ps) (these qs) t a e f =
    let c : Chosen (λ q. b.fits q t) qs = choose _ qs f in
    true_false (some_of (λ q. b.fits q t) ps) (fits_among b i t ps c.one (c.all (among b ps) a) c.such) (of_not _ e)
apart_is b i (others ps) (others qs) t a e f = true_false false a refl

-- each token of a set is in one that it is within
pub within_is : (b : Base) → IsBase b → (s u : Set b.Shape) (t : b.Token) → within b s u ≡ true → is_in b s t ≡ true → is_in b u t ≡ true
within_is b i (these ps) (these qs) t w e =
    let c : Chosen (λ q. b.fits q t) ps = choose _ ps e in
    fits_among b i t qs c.one (c.all (among b qs) w) c.such
within_is b i (these ps) (others qs) t w e =
    let c : Chosen (λ q. b.fits q t) ps = choose _ ps e in
    to_not _ (fits_not_among b i t qs c.one (of_not (among b qs c.one) (c.all (λ p. not (among b qs p)) w)) c.such)
within_is b i (others ps) (these qs) t w e = true_false false w refl
within_is b i (others ps) (others qs) t w e =
    to_not _ (none_such (λ q. b.fits q t) qs (λ c. true_false (some_of (λ q. b.fits q t) ps) (fits_among b i t ps c.one (c.all (among b ps) w) c.such) (of_not _ e)))

-- a set of one shape
pub in_one : (b : Base) (p : b.Shape) (t : b.Token) → is_in b (these (p ∷ [])) t ≡ true → b.fits p t ≡ true
in_one b p t e = elim (or_cases (b.fits p t) false e) [ inl h ↦ h | inr h ↦ true_false false h refl ]

pub of_one : (b : Base) (p : b.Shape) (t : b.Token) → b.fits p t ≡ true → is_in b (these (p ∷ [])) t ≡ true
of_one b p t e = or_left (b.fits p t) false e
