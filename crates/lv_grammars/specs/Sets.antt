-- Which tokens may begin a tree, which may go on behind a whole one, and when a grammar can be read by its next token alone.
use Rattle.std.specs.Prelude.{ℕ, zero, suc, List, [], ◌∷◌, ◌++◌, Bool, true, false, ◌&&◌, ◌||◌, not, if◌then◌else◌}
use Rattle.lv_grammars.specs.Grammar.{Base, Gram, none, one, leaf, call, act, both, either, perhaps, many, until, tail}
use Rattle.lv_grammars.specs.Spelling.{Rules}

-- the tokens of one of these shapes, or of none of them
pub data Set (P : Type 0) : Type 0 where
  these : List P → Set P
  others : List P → Set P

abbrev pub some_of : {P : Type 0} → (P → Bool) → List P → Bool
some_of f [] = false
some_of f (p ∷ ps) = f p || some_of f ps

abbrev pub all_of : {P : Type 0} → (P → Bool) → List P → Bool
all_of f [] = true
all_of f (p ∷ ps) = f p && all_of f ps

abbrev pub kept : {P : Type 0} → (P → Bool) → List P → List P
kept f [] = []
kept f (p ∷ ps) = if f p then p ∷ kept f ps else kept f ps

abbrev pub is_in : (b : Base) → Set b.Shape → b.Token → Bool
is_in b (these ps) t = some_of (λ p. b.fits p t) ps
is_in b (others ps) t = not (some_of (λ p. b.fits p t) ps)

abbrev pub among : (b : Base) → List b.Shape → b.Shape → Bool
among b ps p = some_of (b.same p) ps

-- at least the tokens of both
abbrev pub union : (b : Base) → Set b.Shape → Set b.Shape → Set b.Shape
union b (these ps) (these qs) = these (ps ++ qs)
union b (these ps) (others qs) = others (kept (λ q. not (among b ps q)) qs)
union b (others ps) (these qs) = others (kept (λ p. not (among b qs p)) ps)
union b (others ps) (others qs) = others (kept (among b qs) ps)

-- no token is in both
abbrev pub apart : (b : Base) → Set b.Shape → Set b.Shape → Bool
apart b (these ps) (these qs) = all_of (λ p. not (among b qs p)) ps
apart b (these ps) (others qs) = all_of (among b qs) ps
apart b (others ps) (these qs) = all_of (among b ps) qs
apart b (others ps) (others qs) = false

-- each token of the one is in the other
abbrev pub within : (b : Base) → Set b.Shape → Set b.Shape → Bool
within b (these ps) (these qs) = all_of (among b qs) ps
within b (these ps) (others qs) = all_of (λ p. not (among b qs p)) ps
within b (others ps) (these qs) = false
within b (others ps) (others qs) = all_of (among b ps) qs

-- what is said of leaves and rules: the tokens that may begin a tree, and those that may go on behind a whole one. A tail
-- begins with a token of the shape `tail_mark`
pub record Table (b : Base) : Type 0 where
  pub leaf_first : b.Leaf → Set b.Shape
  pub leaf_next : b.Leaf → Set b.Shape
  pub rule_first : b.Rule → Set b.Shape
  pub rule_next : b.Rule → Set b.Shape
  pub tail_mark : b.Shape

abbrev pub may_be_empty : (b : Base) → {A : Type 0} → Gram b A → Bool
may_be_empty b none = true
may_be_empty b (one p) = false
may_be_empty b (leaf l) = false
may_be_empty b (call r) = false
may_be_empty b (act f g) = may_be_empty b g
may_be_empty b (both g h) = may_be_empty b g && may_be_empty b h
may_be_empty b (either g h) = may_be_empty b g || may_be_empty b h
may_be_empty b (perhaps g) = true
may_be_empty b (many g) = true
may_be_empty b (until g h) = may_be_empty b h
may_be_empty b (tail r p h) = false

-- the tokens that may begin a tree
abbrev pub first : (b : Base) → Table b → {A : Type 0} → Gram b A → Set b.Shape
first b t none = these []
first b t (one p) = these (p ∷ [])
first b t (leaf l) = t.leaf_first l
first b t (call r) = t.rule_first r
first b t (act f g) = first b t g
first b t (both g h) = if may_be_empty b g then union b (first b t g) (first b t h) else first b t g
first b t (either g h) = union b (first b t g) (first b t h)
first b t (perhaps g) = first b t g
first b t (many g) = first b t g
first b t (until g h) = union b (first b t g) (first b t h)
first b t (tail r p h) = t.rule_first r

-- the tokens that may go on behind a whole tree, but for those that begin a tail behind an open one
abbrev pub next : (b : Base) → Table b → {A : Type 0} → Gram b A → Set b.Shape
next b t none = these []
next b t (one p) = these []
next b t (leaf l) = t.leaf_next l
next b t (call r) = t.rule_next r
next b t (act f g) = next b t g
next b t (both g h) = if may_be_empty b h then union b (next b t g) (next b t h) else next b t h
next b t (either g h) = union b (next b t g) (next b t h)
next b t (perhaps g) = union b (first b t g) (next b t g)
next b t (many g) = union b (first b t g) (next b t g)
next b t (until g h) = next b t h
next b t (tail r p h) = union b (t.rule_next r) (next b t h)

-- its next token alone tells how a tree of it goes on
abbrev pub is_good : (b : Base) → Table b → {A : Type 0} → Gram b A → Bool
is_good b t none = true
is_good b t (one p) = true
is_good b t (leaf l) = true
is_good b t (call r) = true
is_good b t (act f g) = is_good b t g
is_good b t (both g h) = is_good b t g && is_good b t h && apart b (next b t g) (first b t h) && apart b (these (t.tail_mark ∷ [])) (first b t h)
is_good b t (either g h) = is_good b t g && is_good b t h && not (may_be_empty b g) && not (may_be_empty b h) && apart b (first b t g) (first b t h)
is_good b t (perhaps g) = is_good b t g && not (may_be_empty b g)
is_good b t (many g) = is_good b t g && not (may_be_empty b g) && apart b (next b t g) (first b t g) && apart b (these (t.tail_mark ∷ [])) (first b t g)
is_good b t (until g h) =
    is_good b t g && is_good b t h && not (may_be_empty b g) && not (may_be_empty b h) && apart b (next b t g) (first b t g) && apart b (next b t g) (first b t h) &&
    apart b (first b t g) (first b t h) && apart b (these (t.tail_mark ∷ [])) (first b t g) && apart b (these (t.tail_mark ∷ [])) (first b t h)
is_good b t (tail r p h) = is_good b t h && not (may_be_empty b h) && b.same p t.tail_mark && apart b (t.rule_next r) (these (t.tail_mark ∷ []))

-- a rule is as the table says of it
abbrev pub rule_fits : (b : Base) → Table b → {A : Type 0} → b.Rule → Gram b A → Bool
rule_fits b t r g = is_good b t g && not (may_be_empty b g) && within b (first b t g) (t.rule_first r) && within b (next b t g) (t.rule_next r) && apart b (t.rule_next r) (these (t.tail_mark ∷ []))

-- shapes that begin trees, from those that begin the rules'
abbrev pub shapes_in : (b : Base) → (b.Rule → List b.Shape) → {A : Type 0} → Gram b A → List b.Shape
shapes_in b c none = []
shapes_in b c (one p) = p ∷ []
shapes_in b c (leaf k) = []
shapes_in b c (call r) = c r
shapes_in b c (act f g) = shapes_in b c g
shapes_in b c (both g h) = shapes_in b c g ++ (if may_be_empty b g then shapes_in b c h else [])
shapes_in b c (either g h) = shapes_in b c g ++ shapes_in b c h
shapes_in b c (perhaps g) = shapes_in b c g
shapes_in b c (many g) = shapes_in b c g
shapes_in b c (until g h) = shapes_in b c g ++ shapes_in b c h
shapes_in b c (tail r p h) = c r

-- the same of rules, n deep
abbrev pub rule_shapes : (b : Base) → Rules b → ℕ → b.Rule → List b.Shape
rule_shapes b g zero r = []
rule_shapes b g (suc n) r = shapes_in b (rule_shapes b g n) (g r)

abbrev pub shapes : (b : Base) → Rules b → ℕ → {A : Type 0} → Gram b A → List b.Shape
shapes b g n h = shapes_in b (rule_shapes b g n) h

-- whether some tree is spelled, from whether one of each rule is
abbrev pub has_tree_in : (b : Base) → (b.Rule → Bool) → {A : Type 0} → Gram b A → Bool
has_tree_in b c none = true
has_tree_in b c (one p) = true
has_tree_in b c (leaf k) = true
has_tree_in b c (call r) = c r
has_tree_in b c (act f g) = has_tree_in b c g
has_tree_in b c (both g h) = has_tree_in b c g && has_tree_in b c h
has_tree_in b c (either g h) = has_tree_in b c g || has_tree_in b c h
has_tree_in b c (perhaps g) = true
has_tree_in b c (many g) = true
has_tree_in b c (until g h) = has_tree_in b c h
has_tree_in b c (tail r p h) = c r

-- the same of rules, n deep
abbrev pub rule_has_tree : (b : Base) → Rules b → ℕ → b.Rule → Bool
rule_has_tree b g zero r = false
rule_has_tree b g (suc n) r = has_tree_in b (rule_has_tree b g n) (g r)
