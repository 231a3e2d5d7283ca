-- Which tokens spell which tree. The truth value says whether the spelling is open: whether its end could still take a tail.
use Rattle.std.specs.Prelude.{◌≡◌, ℕ, zero, suc, List, [], ◌∷◌, ◌++◌, Bool, true, false, Option, Some, None, ◌==◌, if◌then◌else◌}
use Rattle.lv_grammars.specs.Grammar.{Base, Gram, OneOf, left, right, none, one, leaf, call, act, both, either, perhaps, many, until, tail}

-- of two parts one after the other, the last that has tokens decides
abbrev pub last_open : {T : Type 0} → List T → Bool → Bool → Bool
last_open [] p q = p
last_open (t ∷ ts) p q = q

-- trees one after the other
abbrev pub SpellsAll : {T A : Type 0} → (List T → Bool → A → Type 0) → List T → Bool → List A → Type 0
SpellsAll s ts o [] = (ts ≡ []) × (o ≡ false)
SpellsAll {T} s ts o (x ∷ xs) =
    (us : List T) × (vs : List T) × (p : Bool) × (q : Bool) × (ts ≡ us ++ vs) × s us p x × SpellsAll s vs q xs × (o ≡ last_open vs p q)

abbrev pub SpellsEither : {T A B : Type 0} → (List T → Bool → A → Type 0) → (List T → Bool → B → Type 0) → List T → Bool → OneOf A B → Type 0
SpellsEither s s' ts o (left x) = s ts o x
SpellsEither s s' ts o (right y) = s' ts o y

abbrev pub SpellsPerhaps : {T A : Type 0} → (List T → Bool → A → Type 0) → List T → Bool → Option A → Type 0
SpellsPerhaps s ts o None = (ts ≡ []) × (o ≡ false)
SpellsPerhaps s ts o (Some x) = s ts o x

-- a tail stands behind a tree that is not open
abbrev pub SpellsTail : {T A B : Type 0} → (List T → Bool → A → Type 0) → (T → Bool) → (List T → Bool → B → Type 0) → List T → Bool → A → Option B → Type 0
SpellsTail s f s' ts o x None = (p : Bool) × s ts p x × (o ≡ true)
SpellsTail {T} s f s' ts o x (Some y) = (us : List T) × (t : T) × (vs : List T) × (ts ≡ us ++ (t ∷ vs)) × s us false x × (f t ≡ true) × s' vs o y

-- the trees of leaves, and the trees of rules
abbrev pub Leaves : Base → Type 1
Leaves b = (l : b.Leaf) → List b.Token → b.LeafTree l → Type 0

abbrev pub Calls : Base → Type 1
Calls b = (r : b.Rule) → List b.Token → Bool → b.RuleTree r → Type 0

abbrev pub Spells : (b : Base) → Leaves b → Calls b → {A : Type 0} → Gram b A → List b.Token → Bool → A → Type 0
Spells b l c none ts o x = (ts ≡ []) × (o ≡ false)
Spells b l c (one p) ts o x = (ts ≡ x ∷ []) × (b.fits p x ≡ true) × (o ≡ false)
Spells b l c (leaf k) ts o x = l k ts x × (o ≡ false)
Spells b l c (call r) ts o x = c r ts o x
Spells b l c (act f g) ts o x = (y : _) × Spells b l c g ts o y × (f y ≡ x)
Spells b l c (both g h) ts o x =
    (us : List b.Token) × (vs : List b.Token) × (p : Bool) × (q : Bool) × (ts ≡ us ++ vs) × Spells b l c g us p x.0 × Spells b l c h vs q x.1 × (o ≡ last_open vs p q)
Spells b l c (either g h) ts o x = SpellsEither (Spells b l c g) (Spells b l c h) ts o x
Spells b l c (perhaps g) ts o x = SpellsPerhaps (Spells b l c g) ts o x
Spells b l c (many g) ts o x = SpellsAll (Spells b l c g) ts o x
Spells b l c (until g h) ts o x =
    (us : List b.Token) × (vs : List b.Token) × (p : Bool) × (ts ≡ us ++ vs) × SpellsAll (Spells b l c g) us p x.0 × Spells b l c h vs o x.1
Spells b l c (tail r p h) ts o x = SpellsTail (c r) (b.fits p) (Spells b l c h) ts o x.0 x.1

-- ---- rules

-- a number that may not be passed, or none
pub data Limit : Type 0 where
  any : Limit
  most : ℕ → Limit

abbrev pub allows : Limit → Bool
allows any = true
allows (most zero) = false
allows (most (suc n)) = true

abbrev pub lowered : Limit → Limit
lowered any = any
lowered (most zero) = most zero
lowered (most (suc n)) = most n

-- the limits inside of a rule of this count
abbrev pub inside : ℕ → (ℕ → Limit) → ℕ → Limit
inside k d j = if j == k then lowered (d j) else d j

abbrev pub Rules : Base → Type 1
Rules b = (r : b.Rule) → Gram b (b.RuleTree r)

-- a tree of a rule in which no more than n rules nest, and of no count more than its limit
abbrev pub Level : (b : Base) → Leaves b → Rules b → ℕ → (ℕ → Limit) → (r : b.Rule) → List b.Token → Bool → b.RuleTree r → Type 0
Level b l g zero d r ts o x = ⊥
Level b l g (suc n) d r ts o x = (allows (d (b.count r)) ≡ true) × Spells b l (Level b l g n (inside (b.count r) d)) (g r) ts o x

-- the rules of a grammar, its leaves, and how many rules of each count may nest
pub record Language (b : Base) : Type 1 where
  pub rules : Rules b
  pub leaves : Leaves b
  pub limits : ℕ → Limit

abbrev pub called : (b : Base) → Language b → Calls b
called b l r ts o x = (n : ℕ) × Level b l.leaves l.rules n l.limits r ts o x

-- these tokens spell this tree
abbrev pub IsSpelled : (b : Base) → Language b → {A : Type 0} → Gram b A → List b.Token → Bool → A → Type 0
IsSpelled b l g ts o x = Spells b l.leaves (called b l) g ts o x

-- the language inside of a rule
abbrev pub inner : (b : Base) → Language b → b.Rule → Language b
inner b l r = record { rules = l.rules; leaves = l.leaves; limits = inside (b.count r) l.limits }
