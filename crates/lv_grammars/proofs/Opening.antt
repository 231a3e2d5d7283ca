-- Tokens of which it is computed that trees begin with them.
use Rattle.std.proofs.Common.{◌≡◌, ℕ, zero, suc, List, [], ◌∷◌, ◌++◌, Bool, true, false, ◌||◌, if◌then◌else◌, Some, None, refl, subst, ◌⊎◌, inl, inr}
use Rattle.lv_grammars.specs.Grammar.{Base, Gram, left, right, none, one, leaf, call, act, both, either, perhaps, many, until, tail}
use Rattle.lv_grammars.specs.Spelling.{Language, called, IsSpelled}
use Rattle.lv_grammars.specs.Sets.{Table, some_of, among, may_be_empty, shapes_in, rule_shapes, shapes}
use Rattle.lv_grammars.specs.Reading.{Begins}
use Rattle.lv_grammars.specs.Facts.{IsBase, IsLanguage}
use Rattle.lv_grammars.proofs.Lists.{true_false, and_left, and_right, or_cases}
use Rattle.lv_grammars.proofs.Calls.{free_is_called}
use Rattle.lv_grammars.proofs.Known.{HasTree}
use Rattle.lv_grammars.proofs.Grammars.{tree_of}
use Rattle.lv_grammars.proofs.Readers.{Spelled, begun, one_opens}
use Rattle.lv_grammars.proofs.Pairs.{join, begins_left, begins_right}
use Rattle.lv_grammars.proofs.Repeats.{alone, begins_more}

some_append : {P : Type 0} (f : P → Bool) (ps qs : List P) → some_of f (ps ++ qs) ≡ true → (some_of f ps ≡ true) ⊎ (some_of f qs ≡ true)
some_append f [] qs e = inr e
some_append f (p ∷ ps) qs e = go (f p) e (some_append f ps qs)
  where
    go : (c : Bool) → (c || some_of f (ps ++ qs)) ≡ true → (some_of f (ps ++ qs) ≡ true → (some_of f ps ≡ true) ⊎ (some_of f qs ≡ true)) → ((c || some_of f ps) ≡ true) ⊎ (some_of f qs ≡ true)
    go true e k = inl refl
    go false e k = k e

module _ (b : Base) (t : Table b) (l : Language b) (i : IsBase b) (a : IsLanguage b t l) where
  pub tree : {A : Type 0} (g : Gram b A) → (us : List b.Token) × Spelled b l g us
  tree g = let w : HasTree (IsSpelled b l g) = tree_of b i t l.leaves (called b l) a.leaves a.witness g in (w.0, (w.1, w.2, w.3))

  empty : {A : Type 0} (g : Gram b A) → may_be_empty b g ≡ true → Spelled b l g []
  empty none e = (false, tt, (refl, refl))
  empty (one p) e = true_false false e refl
  empty (leaf k) e = true_false false e refl
  empty (call r) e = true_false false e refl
  empty (act f g) e = let c : Spelled b l g [] = empty g e in (c.0, f c.1, (c.1, c.2, refl))
  empty (both g h) e = join b l g h [] [] (empty g (and_left (may_be_empty b g) (may_be_empty b h) e)) (empty h (and_right (may_be_empty b g) (may_be_empty b h) e))
  empty (either g h) e = elim (or_cases (may_be_empty b g) (may_be_empty b h) e) [
    | inl d ↦ (let c : Spelled b l g [] = empty g d in (c.0, left c.1, c.2))
    | inr d ↦ (let c : Spelled b l h [] = empty h d in (c.0, right c.1, c.2))
  ]
  empty (perhaps g) e = (false, None, (refl, refl))
  empty (many g) e = (false, [], (refl, refl))
  empty (until g h) e = let c : Spelled b l h [] = empty h e in (c.0, ([], c.1), ([], [], false, refl, (refl, refl), c.2))
  empty (tail r p h) e = true_false false e refl

  module _ (c : b.Rule → List b.Shape) (p : b.Shape) (m : b.Token) (f : b.fits p m ≡ true) (k : (r : b.Rule) → among b (c r) p ≡ true → Begins b l (call r) (m ∷ [])) where
    opens_in : {A : Type 0} (g : Gram b A) → among b (shapes_in b c g) p ≡ true → Begins b l g (m ∷ [])
    opens_in none e = true_false false e refl
    opens_in (one q) e = one_opens q m (subst (λ (s : b.Shape). b.fits s m ≡ true) (i.one p q (same_one (b.same p q) e)) f)
      where
        same_one : (v : Bool) → (v || false) ≡ true → v ≡ true
        same_one true e = refl
        same_one false e = e
    opens_in (leaf j) e = true_false false e refl
    opens_in (call r) e = k r e
    opens_in (act v g) e = let w : Begins b l g (m ∷ []) = opens_in g e in begun (m ∷ []) w.more (w.ending, v w.tree, (w.tree, w.spelled, refl))
    opens_in (both g h) e = elim (some_append (b.same p) (shapes_in b c g) (if may_be_empty b g then shapes_in b c h else []) e) [
      | inl d ↦ begins_left (m ∷ []) (tree h).0 (tree h).1 (opens_in g d)
      | inr d ↦ second (may_be_empty b g) refl d (λ d. opens_in h d)
    ]
      where
        second : (v : Bool) → may_be_empty b g ≡ v → among b (if v then shapes_in b c h else []) p ≡ true → (among b (shapes_in b c h) p ≡ true → Begins b l h (m ∷ [])) → Begins b l (both g h) (m ∷ [])
        second true q d o = begins_right [] (m ∷ []) (empty g q) (o d)
        second false q d o = true_false false d refl
    opens_in (either g h) e = elim (some_append (b.same p) (shapes_in b c g) (shapes_in b c h) e) [
      | inl d ↦ (let w : Begins b l g (m ∷ []) = opens_in g d in begun (m ∷ []) w.more (w.ending, left w.tree, w.spelled))
      | inr d ↦ (let w : Begins b l h (m ∷ []) = opens_in h d in begun (m ∷ []) w.more (w.ending, right w.tree, w.spelled))
    ]
    opens_in (perhaps g) e = let w : Begins b l g (m ∷ []) = opens_in g e in begun (m ∷ []) w.more (w.ending, Some w.tree, w.spelled)
    opens_in (many g) e = let w : Begins b l g (m ∷ []) = opens_in g e in begun (m ∷ []) w.more (alone b l g ((m ∷ []) ++ w.more) (w.ending, w.tree, w.spelled))
    opens_in (until g h) e = elim (some_append (b.same p) (shapes_in b c g) (shapes_in b c h) e) [
      | inl d ↦ (let w : Begins b l g (m ∷ []) = opens_in g d in begins_more b l g h (m ∷ []) (tree h).0 (tree h).1 w)
      | inr d ↦ (let w : Begins b l h (m ∷ []) = opens_in h d in begun (m ∷ []) w.more (w.ending, ([], w.tree), ([], (m ∷ []) ++ w.more, false, refl, (refl, refl), w.spelled)))
    ]
    opens_in (tail r q h) e = let w : Begins b l (call r) (m ∷ []) = k r e in begun (m ∷ []) w.more (true, (w.tree, None), (w.ending, w.spelled, refl))

  opens_rule : (p : b.Shape) (m : b.Token) → b.fits p m ≡ true → (n : ℕ) (r : b.Rule) → among b (rule_shapes b l.rules n r) p ≡ true → Begins b l (call r) (m ∷ [])
  opens_rule p m f zero r e = true_false false e refl
  opens_rule p m f (suc n) r e =
      let w : Begins b l (l.rules r) (m ∷ []) = opens_in (rule_shapes b l.rules n) p m f (opens_rule p m f n) (l.rules r) e in
      begun (m ∷ []) w.more (w.ending, w.tree, free_is_called b l a.free r ((m ∷ []) ++ w.more) w.ending w.tree w.spelled)

  -- a token of a shape that begins trees, n rules deep
  pub opens_with : (n : ℕ) (p : b.Shape) {A : Type 0} {g : Gram b A} (m : b.Token) → among b (shapes b l.rules n g) p ≡ true → b.fits p m ≡ true → Begins b l g (m ∷ [])
  opens_with n p {g = g} m e f = opens_in (rule_shapes b l.rules n) p m f (opens_rule p m f n) g e
