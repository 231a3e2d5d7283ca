-- Spellings over more calls and leaves are more spellings, and the trees of a rule are those that its grammar spells over them.
use Rattle.std.specs.Prelude.{◌≡◌, ℕ, zero, suc, ◌+◌, ◌≤◌, List, [], ◌∷◌, Bool, true, false, Option, Some, None, ◌==◌, if◌then◌else◌}
use Rattle.std.proofs.Common.{ap, subst, arith}
use Rattle.lv_grammars.specs.Grammar.{Base, Gram, OneOf, left, right, none, one, leaf, call, act, both, either, perhaps, many, until, tail}
use Rattle.lv_grammars.specs.Spelling.{SpellsAll, SpellsEither, SpellsPerhaps, SpellsTail, Leaves, Calls, Spells, Limit, any, allows, lowered, inside, Rules, Level, Language, called, IsSpelled, inner}
use Rattle.lv_grammars.specs.Facts.{IsWithin}

-- what the one spells the other does
abbrev pub AreAmong : (b : Base) → Calls b → Calls b → Type 0
AreAmong b c d = (r : b.Rule) (ts : List b.Token) (o : Bool) (x : b.RuleTree r) → c r ts o x → d r ts o x

abbrev pub LeavesAreAmong : (b : Base) → Leaves b → Leaves b → Type 0
LeavesAreAmong b l m = (k : b.Leaf) (ts : List b.Token) (x : b.LeafTree k) → l k ts x → m k ts x

abbrev pub IsAmong : {T A : Type 0} → (List T → Bool → A → Type 0) → (List T → Bool → A → Type 0) → Type 0
IsAmong {T} {A} s s' = (ts : List T) (o : Bool) (x : A) → s ts o x → s' ts o x

pub all_among : {T A : Type 0} (s s' : List T → Bool → A → Type 0) → IsAmong s s' → (xs : List A) (ts : List T) (o : Bool) → SpellsAll s ts o xs → SpellsAll s' ts o xs
all_among s s' j [] ts o h = h
all_among s s' j (x ∷ xs) ts o h = (h.0, h.1, h.2, h.3, h.4, j h.0 h.2 x h.5, all_among s s' j xs h.1 h.3 h.6, h.7)

pub either_among : {T A B : Type 0} (s s' : List T → Bool → A → Type 0) (q q' : List T → Bool → B → Type 0) → IsAmong s s' → IsAmong q q' →
    (x : OneOf A B) (ts : List T) (o : Bool) → SpellsEither s q ts o x → SpellsEither s' q' ts o x
either_among s s' q q' j k (left x) ts o h = j ts o x h
either_among s s' q q' j k (right x) ts o h = k ts o x h

pub perhaps_among : {T A : Type 0} (s s' : List T → Bool → A → Type 0) → IsAmong s s' → (x : Option A) (ts : List T) (o : Bool) → SpellsPerhaps s ts o x → SpellsPerhaps s' ts o x
perhaps_among s s' j None ts o h = h
perhaps_among s s' j (Some x) ts o h = j ts o x h

pub tail_among : {T A B : Type 0} (s s' : List T → Bool → A → Type 0) (f : T → Bool) (q q' : List T → Bool → B → Type 0) → IsAmong s s' → IsAmong q q' →
    (x : A) (y : Option B) (ts : List T) (o : Bool) → SpellsTail s f q ts o x y → SpellsTail s' f q' ts o x y
tail_among s s' f q q' j k x None ts o h = (h.0, j ts h.0 x h.1, h.2)
tail_among s s' f q q' j k x (Some y) ts o h = (h.0, h.1, h.2, h.3, j h.0 false x h.4, h.5, k h.2 o y h.6)

pub spells_among : (b : Base) (l m : Leaves b) (c d : Calls b) → LeavesAreAmong b l m → AreAmong b c d →
    {A : Type 0} (g : Gram b A) (ts : List b.Token) (o : Bool) (x : A) → Spells b l c g ts o x → Spells b m d g ts o x
spells_among b l m c d i j none ts o x h = h
spells_among b l m c d i j (one p) ts o x h = h
spells_among b l m c d i j (leaf k) ts o x h = (i k ts x h.0, h.1)
spells_among b l m c d i j (call r) ts o x h = j r ts o x h
spells_among b l m c d i j (act f g) ts o x h = (h.0, spells_among b l m c d i j g ts o h.0 h.1, h.2)
spells_among b l m c d i j (both g h) ts o x s =
    (s.0, s.1, s.2, s.3, s.4, spells_among b l m c d i j g s.0 s.2 x.0 s.5, spells_among b l m c d i j h s.1 s.3 x.1 s.6, s.7)
spells_among b l m c d i j (either g h) ts o x s =
    either_among (Spells b l c g) (Spells b m d g) (Spells b l c h) (Spells b m d h) (spells_among b l m c d i j g) (spells_among b l m c d i j h) x ts o s
spells_among b l m c d i j (perhaps g) ts o x s = perhaps_among (Spells b l c g) (Spells b m d g) (spells_among b l m c d i j g) x ts o s
spells_among b l m c d i j (many g) ts o x s = all_among (Spells b l c g) (Spells b m d g) (spells_among b l m c d i j g) x ts o s
spells_among b l m c d i j (until g h) ts o x s = (
  s.0,
  s.1,
  s.2,
  s.3,
  all_among (Spells b l c g) (Spells b m d g) (spells_among b l m c d i j g) x.0 s.0 s.2 s.4,
  spells_among b l m c d i j h s.1 o x.1 s.5,
)
spells_among b l m c d i j (tail r p h) ts o x s =
    tail_among (c r) (d r) (b.fits p) (Spells b l c h) (Spells b m d h) (j r) (spells_among b l m c d i j h) x.0 x.1 ts o s

-- ---- levels

level_below : (b : Base) (l m : Leaves b) (g : Rules b) → LeavesAreAmong b l m → (n k : ℕ) (d : ℕ → Limit) → n ≤ k → AreAmong b (Level b l g n d) (Level b m g k d)
level_below b l m g i zero k d e r ts o x h = absurd h
level_below b l m g i (suc n) zero d e r ts o x h = absurd (omega arith)
level_below b l m g i (suc n) (suc k) d e r ts o x h =
    (h.0, spells_among b l m (Level b l g n (inside (b.count r) d)) (Level b m g k (inside (b.count r) d)) i (level_below b l m g i n k (inside (b.count r) d) (omega arith)) (g r) ts o x h.1)

pub same_leaves : (b : Base) (l : Leaves b) → LeavesAreAmong b l l
same_leaves b l k ts x h = h

pub level_grows : (b : Base) (l : Leaves b) (g : Rules b) (n k : ℕ) (d : ℕ → Limit) → n ≤ k → AreAmong b (Level b l g n d) (Level b l g k d)
level_grows b l g n k d e = level_below b l l g (same_leaves b l) n k d e

-- without limits there are as many trees as under any
pub inside_free : (k : ℕ) (d : ℕ → Limit) → ((j : ℕ) → d j ≡ any) → (j : ℕ) → inside k d j ≡ any
inside_free k d f j = go (j == k)
  where
    go : (c : Bool) → (if c then lowered (d j) else d j) ≡ any
    go true = ap lowered (f j)
    go false = f j

pub level_free : (b : Base) (l m : Leaves b) (g : Rules b) → LeavesAreAmong b l m → (n : ℕ) (d e : ℕ → Limit) → ((j : ℕ) → e j ≡ any) → AreAmong b (Level b l g n d) (Level b m g n e)
level_free b l m g i zero d e f r ts o x h = absurd h
level_free b l m g i (suc n) d e f r ts o x h = (
  ap allows (f (b.count r)),
  spells_among b l m (Level b l g n (inside (b.count r) d)) (Level b m g n (inside (b.count r) e)) i
      (level_free b l m g i n (inside (b.count r) d) (inside (b.count r) e) (inside_free (b.count r) e f)) (g r) ts o x h.1,
)

-- ---- a spelling over growing calls is one over some of them

abbrev pub Grows : (b : Base) → (ℕ → Calls b) → Type 0
Grows b c = (n k : ℕ) → n ≤ k → AreAmong b (c n) (c k)

abbrev pub some_call : (b : Base) → (ℕ → Calls b) → Calls b
some_call b c r ts o x = (n : ℕ) × c n r ts o x

abbrev pub SomeLevel : {T A : Type 0} → (ℕ → List T → Bool → A → Type 0) → List T → Bool → A → Type 0
SomeLevel s ts o x = (n : ℕ) × s n ts o x

abbrev pub Rises : {T A : Type 0} → (ℕ → List T → Bool → A → Type 0) → Type 0
Rises s = (n k : ℕ) → n ≤ k → IsAmong (s n) (s k)

abbrev pub HasLevel : {T A : Type 0} → (List T → Bool → A → Type 0) → (ℕ → List T → Bool → A → Type 0) → Type 0
HasLevel {T} {A} s q = (ts : List T) (o : Bool) (x : A) → s ts o x → SomeLevel q ts o x

all_level : {T A : Type 0} (s : List T → Bool → A → Type 0) (q : ℕ → List T → Bool → A → Type 0) → Rises q → HasLevel s q →
    (xs : List A) (ts : List T) (o : Bool) → SpellsAll s ts o xs → (n : ℕ) × SpellsAll (q n) ts o xs
all_level s q i j [] ts o h = (zero, h)
all_level {T} {A} s q i j (x ∷ xs) ts o h = go (j h.0 h.2 x h.5) (all_level s q i j xs h.1 h.3 h.6)
  where
    go : SomeLevel q h.0 h.2 x → (n : ℕ) × SpellsAll (q n) h.1 h.3 xs → (n : ℕ) × SpellsAll (q n) ts o (x ∷ xs)
    go u v = (
      u.0 + v.0,
      (
        h.0,
        h.1,
        h.2,
        h.3,
        h.4,
        i u.0 (u.0 + v.0) (omega arith) h.0 h.2 x u.1,
        all_among (q v.0) (q (u.0 + v.0)) (i v.0 (u.0 + v.0) (omega arith)) xs h.1 h.3 v.1,
        h.7,
      ),
    )

either_level : {T A B : Type 0} (s : List T → Bool → A → Type 0) (q : ℕ → List T → Bool → A → Type 0) (s' : List T → Bool → B → Type 0) (q' : ℕ → List T → Bool → B → Type 0) →
    HasLevel s q → HasLevel s' q' → (x : OneOf A B) (ts : List T) (o : Bool) → SpellsEither s s' ts o x → (n : ℕ) × SpellsEither (q n) (q' n) ts o x
either_level s q s' q' j k (left x) ts o h = j ts o x h
either_level s q s' q' j k (right x) ts o h = k ts o x h

perhaps_level : {T A : Type 0} (s : List T → Bool → A → Type 0) (q : ℕ → List T → Bool → A → Type 0) → HasLevel s q →
    (x : Option A) (ts : List T) (o : Bool) → SpellsPerhaps s ts o x → (n : ℕ) × SpellsPerhaps (q n) ts o x
perhaps_level s q j None ts o h = (zero, h)
perhaps_level s q j (Some x) ts o h = j ts o x h

tail_level : {T A B : Type 0} (c : ℕ → List T → Bool → A → Type 0) (f : T → Bool) (s : List T → Bool → B → Type 0) (q : ℕ → List T → Bool → B → Type 0) →
    Rises c → Rises q → HasLevel s q → (x : A) (y : Option B) (ts : List T) (o : Bool) → SpellsTail (SomeLevel c) f s ts o x y → (n : ℕ) × SpellsTail (c n) f (q n) ts o x y
tail_level c f s q i i' j x None ts o h = (h.1.0, (h.0, h.1.1, h.2))
tail_level {T} {A} {B} c f s q i i' j x (Some y) ts o h = go (j h.2 o y h.6)
  where
    go : SomeLevel q h.2 o y → (n : ℕ) × SpellsTail (c n) f (q n) ts o x (Some y)
    go v = (
      h.4.0 + v.0,
      (
        h.0,
        h.1,
        h.2,
        h.3,
        i h.4.0 (h.4.0 + v.0) (omega arith) h.0 false x h.4.1,
        h.5,
        i' v.0 (h.4.0 + v.0) (omega arith) h.2 o y v.1,
      ),
    )

spells_rise : (b : Base) (l : Leaves b) (c : ℕ → Calls b) → Grows b c → {A : Type 0} (g : Gram b A) → Rises (λ n. Spells b l (c n) g)
spells_rise b l c i g n k e = spells_among b l l (c n) (c k) (same_leaves b l) (i n k e) g

pub spells_level : (b : Base) (l : Leaves b) (c : ℕ → Calls b) → Grows b c →
    {A : Type 0} (g : Gram b A) (ts : List b.Token) (o : Bool) (x : A) → Spells b l (some_call b c) g ts o x → (n : ℕ) × Spells b l (c n) g ts o x
spells_level b l c i none ts o x h = (zero, h)
spells_level b l c i (one p) ts o x h = (zero, h)
spells_level b l c i (leaf k) ts o x h = (zero, h)
spells_level b l c i (call r) ts o x h = h
spells_level b l c i (act f g) ts o x h = let u : (n : ℕ) × Spells b l (c n) g ts o h.0 = spells_level b l c i g ts o h.0 h.1 in (u.0, (h.0, u.1, h.2))
spells_level b l c i (both g h) ts o x s =
    let u : (n : ℕ) × Spells b l (c n) g s.0 s.2 x.0 = spells_level b l c i g s.0 s.2 x.0 s.5 in
    let v : (n : ℕ) × Spells b l (c n) h s.1 s.3 x.1 = spells_level b l c i h s.1 s.3 x.1 s.6 in (
      u.0 + v.0,
      (
        s.0,
        s.1,
        s.2,
        s.3,
        s.4,
        spells_rise b l c i g u.0 (u.0 + v.0) (omega arith) s.0 s.2 x.0 u.1,
        spells_rise b l c i h v.0 (u.0 + v.0) (omega arith) s.1 s.3 x.1 v.1,
        s.7,
      ),
    )
spells_level b l c i (either g h) ts o x s =
    either_level (Spells b l (some_call b c) g) (λ n. Spells b l (c n) g) (Spells b l (some_call b c) h) (λ n. Spells b l (c n) h) (spells_level b l c i g) (spells_level b l c i h) x ts o s
spells_level b l c i (perhaps g) ts o x s = perhaps_level (Spells b l (some_call b c) g) (λ n. Spells b l (c n) g) (spells_level b l c i g) x ts o s
spells_level b l c i (many g) ts o x s = all_level (Spells b l (some_call b c) g) (λ n. Spells b l (c n) g) (spells_rise b l c i g) (spells_level b l c i g) x ts o s
spells_level b l c i (until g h) ts o x s =
    let u : (n : ℕ) × SpellsAll (Spells b l (c n) g) s.0 s.2 x.0 =
    all_level (Spells b l (some_call b c) g) (λ n. Spells b l (c n) g) (spells_rise b l c i g) (spells_level b l c i g) x.0 s.0 s.2 s.4 in
    let v : (n : ℕ) × Spells b l (c n) h s.1 o x.1 = spells_level b l c i h s.1 o x.1 s.5 in (
      u.0 + v.0,
      (
        s.0,
        s.1,
        s.2,
        s.3,
        all_among (Spells b l (c u.0) g) (Spells b l (c (u.0 + v.0)) g) (spells_rise b l c i g u.0 (u.0 + v.0) (omega arith)) x.0 s.0 s.2 u.1,
        spells_rise b l c i h v.0 (u.0 + v.0) (omega arith) s.1 o x.1 v.1,
      ),
    )
spells_level b l c i (tail r p h) ts o x s =
    tail_level (λ n. c n r) (b.fits p) (Spells b l (some_call b c) h) (λ n. Spells b l (c n) h) (λ n k e. i n k e r) (spells_rise b l c i h) (spells_level b l c i h) x.0 x.1 ts o s

-- ---- the trees of a rule are those of its grammar

pub called_is : (b : Base) (l : Language b) (r : b.Rule) (ts : List b.Token) (o : Bool) (x : b.RuleTree r) →
    called b l r ts o x → (allows (l.limits (b.count r)) ≡ true) × IsSpelled b (inner b l r) (l.rules r) ts o x
called_is b l r ts o x h = go h.0 h.1
  where
    go : (n : ℕ) → Level b l.leaves l.rules n l.limits r ts o x → (allows (l.limits (b.count r)) ≡ true) × IsSpelled b (inner b l r) (l.rules r) ts o x
    go zero h = absurd h
    go (suc n) h = (
      h.0,
      spells_among b l.leaves l.leaves (Level b l.leaves l.rules n (inside (b.count r) l.limits)) (called b (inner b l r)) (same_leaves b l.leaves) (λ r ts o x j. (n, j)) (l.rules r) ts o x h.1,
    )

pub is_called : (b : Base) (l : Language b) (r : b.Rule) (ts : List b.Token) (o : Bool) (x : b.RuleTree r) →
    allows (l.limits (b.count r)) ≡ true → IsSpelled b (inner b l r) (l.rules r) ts o x → called b l r ts o x
is_called b l r ts o x a s =
    let u : (n : ℕ) × Spells b l.leaves (Level b l.leaves l.rules n (inside (b.count r) l.limits)) (l.rules r) ts o x =
    spells_level b l.leaves (λ n. Level b l.leaves l.rules n (inside (b.count r) l.limits)) (λ n k e. level_grows b l.leaves l.rules n k (inside (b.count r) l.limits) e) (l.rules r) ts o x s in
    (suc u.0, (a, u.1))

-- without limits
pub free_called_is : (b : Base) (l : Language b) → ((k : ℕ) → l.limits k ≡ any) → (r : b.Rule) (ts : List b.Token) (o : Bool) (x : b.RuleTree r) →
    called b l r ts o x → IsSpelled b l (l.rules r) ts o x
free_called_is b l f r ts o x h = spells_among b l.leaves l.leaves (called b (inner b l r)) (called b l) (same_leaves b l.leaves)
    (λ r ts o x j. (j.0, level_free b l.leaves l.leaves l.rules (same_leaves b l.leaves) j.0 _ l.limits f r ts o x j.1)) (l.rules r) ts o x (called_is b l r ts o x h).1

pub free_is_called : (b : Base) (l : Language b) → ((k : ℕ) → l.limits k ≡ any) → (r : b.Rule) (ts : List b.Token) (o : Bool) (x : b.RuleTree r) →
    IsSpelled b l (l.rules r) ts o x → called b l r ts o x
free_is_called b l f r ts o x h = is_called b l r ts o x (ap allows (f (b.count r)))
    (spells_among b l.leaves l.leaves (called b l) (called b (inner b l r)) (same_leaves b l.leaves)
    (λ r' ts o x j. (j.0, level_free b l.leaves l.leaves l.rules (same_leaves b l.leaves) j.0 l.limits _ (inside_free (b.count r) l.limits f) r' ts o x j.1)) (l.rules r) ts o x h)

-- ---- within limits there are fewer trees

called_within : (b : Base) (low all : Language b) → IsWithin b low all → AreAmong b (called b low) (called b all)
called_within b low all w r ts o x h =
    (h.0, subst (λ (g : Rules b). Level b all.leaves g h.0 all.limits r ts o x) w.rules (level_free b low.leaves all.leaves low.rules w.leaves h.0 low.limits all.limits w.free r ts o x h.1))

pub is_within : (b : Base) (low all : Language b) → IsWithin b low all → {A : Type 0} (g : Gram b A) (ts : List b.Token) (o : Bool) (x : A) → IsSpelled b low g ts o x → IsSpelled b all g ts o x
is_within b low all w g = spells_among b low.leaves all.leaves (called b low) (called b all) w.leaves (called_within b low all w) g

pub inner_within : (b : Base) (low all : Language b) (r : b.Rule) → IsWithin b low all → IsWithin b (inner b low r) all
inner_within b low all r w = record { rules = w.rules; leaves = w.leaves; free = w.free }
