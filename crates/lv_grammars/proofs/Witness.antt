-- Each rule of which it is computed has a tree.
use Rattle.std.proofs.Common.{◌≡◌, ℕ, zero, suc, List, [], ◌∷◌, ◌++◌, Bool, true, false, None, refl, ap, inl, inr}
use Rattle.lv_grammars.specs.Grammar.{Base, Gram, left, right, none, one, leaf, call, act, both, either, perhaps, many, until, tail}
use Rattle.lv_grammars.specs.Spelling.{any, Leaves, Calls, Spells, Rules, Level, Language, last_open, called, inside, allows, Limit}
use Rattle.lv_grammars.specs.Sets.{has_tree_in, rule_has_tree}
use Rattle.lv_grammars.specs.Facts.{IsBase}
use Rattle.lv_grammars.proofs.Lists.{true_false, and_left, and_right, or_cases}
use Rattle.lv_grammars.proofs.Calls.{inside_free}
use Rattle.lv_grammars.proofs.Known.{HasTree}
use Rattle.lv_grammars.proofs.Readers.{Spelled}

module _ (b : Base) (l : Leaves b) (i : IsBase b) (a : (k : b.Leaf) → (us : List b.Token) × (x : b.LeafTree k) × l k us x) where
  pub tree_in : (c : Calls b) (f : b.Rule → Bool) → ((r : b.Rule) → f r ≡ true → HasTree (c r)) → {A : Type 0} (g : Gram b A) → has_tree_in b f g ≡ true → HasTree (Spells b l c g)
  tree_in c f k none e = ([], false, tt, (refl, refl))
  tree_in c f k (one p) e = let w : (m : b.Token) × (b.fits p m ≡ true) = i.witness p in (w.0 ∷ [], false, w.0, (refl, w.1, refl))
  tree_in c f k (leaf j) e = let w : (us : List b.Token) × (x : b.LeafTree j) × l j us x = a j in (w.0, false, w.1, (w.2, refl))
  tree_in c f k (call r) e = k r e
  tree_in c f k (act v g) e = let w : HasTree (Spells b l c g) = tree_in c f k g e in (w.0, w.1, v w.2, (w.2, w.3, refl))
  tree_in c f k (both g h) e =
      let w : HasTree (Spells b l c g) = tree_in c f k g (and_left (has_tree_in b f g) (has_tree_in b f h) e) in
      let v : HasTree (Spells b l c h) = tree_in c f k h (and_right (has_tree_in b f g) (has_tree_in b f h) e) in
      (w.0 ++ v.0, last_open v.0 w.1 v.1, (w.2, v.2), (w.0, v.0, w.1, v.1, refl, w.3, v.3, refl))
  tree_in c f k (either g h) e = elim (or_cases (has_tree_in b f g) (has_tree_in b f h) e) [
    | inl d ↦ (let w : HasTree (Spells b l c g) = tree_in c f k g d in (w.0, w.1, left w.2, w.3))
    | inr d ↦ (let w : HasTree (Spells b l c h) = tree_in c f k h d in (w.0, w.1, right w.2, w.3))
  ]
  tree_in c f k (perhaps g) e = ([], false, None, (refl, refl))
  tree_in c f k (many g) e = ([], false, [], (refl, refl))
  tree_in c f k (until g h) e = let v : HasTree (Spells b l c h) = tree_in c f k h e in (v.0, v.1, ([], v.2), ([], v.0, false, refl, (refl, refl), v.3))
  tree_in c f k (tail r p h) e = let w : HasTree (c r) = k r e in (w.0, true, (w.2, None), (w.1, w.3, refl))

  tree_level : (g : Rules b) (n : ℕ) (d : ℕ → Limit) → ((j : ℕ) → d j ≡ any) → (r : b.Rule) → rule_has_tree b g n r ≡ true → HasTree (Level b l g n d r)
  tree_level g zero d f r e = true_false false e refl
  tree_level g (suc n) d f r e =
      let w : HasTree (Spells b l (Level b l g n (inside (b.count r) d)) (g r)) =
      tree_in (Level b l g n (inside (b.count r) d)) (rule_has_tree b g n) (tree_level g n (inside (b.count r) d) (inside_free (b.count r) d f)) (g r) e in
      (w.0, w.1, w.2, (ap allows (f (b.count r)), w.3))

-- as a language is asked for, from what is computed n rules deep
pub witness_of : (b : Base) (l : Language b) → IsBase b → ((k : b.Leaf) → (us : List b.Token) × (x : b.LeafTree k) × l.leaves k us x) → ((j : ℕ) → l.limits j ≡ any) →
    (n : ℕ) (r : b.Rule) → rule_has_tree b l.rules n r ≡ true → (us : List b.Token) × (o : Bool) × (x : b.RuleTree r) × called b l r us o x
witness_of b l i a f n r e = let w : HasTree (Level b l.leaves l.rules n l.limits r) = tree_level b l.leaves i a l.rules n l.limits f r e in (w.0, w.1, w.2, (n, w.3))

-- ---- within limits

module _ (b : Base) (l : Language b) (i : IsBase b) (a : (k : b.Leaf) → (us : List b.Token) × (x : b.LeafTree k) × l.leaves k us x) where
  -- from the rules of which each has a tree
  pub has_tree : (f : b.Rule → Bool) → ((r : b.Rule) → f r ≡ true → (us : List b.Token) × Spelled b l (call r) us) → {A : Type 0} (g : Gram b A) → has_tree_in b f g ≡ true → (us : List b.Token) × Spelled b l g us
  has_tree f k g e =
      let w : HasTree (Spells b l.leaves (called b l) g) = tree_in b l.leaves i a (called b l) f (λ r z. some r (k r z)) g e in
      (w.0, (w.1, w.2, w.3))
    where
      some : (r : b.Rule) → (us : List b.Token) × Spelled b l (call r) us → HasTree (called b l r)
      some r w = (w.0, w.1.0, w.1.1, w.1.2)

  -- a rule that the limits allow, and that has a tree without others
  pub rule_tree : (r : b.Rule) → allows (l.limits (b.count r)) ≡ true → has_tree_in b (λ q. false) (l.rules r) ≡ true → (us : List b.Token) × Spelled b l (call r) us
  rule_tree r z e =
      let w : HasTree (Spells b l.leaves (Level b l.leaves l.rules zero (inside (b.count r) l.limits)) (l.rules r)) =
      tree_in b l.leaves i a (Level b l.leaves l.rules zero (inside (b.count r) l.limits)) (λ q. false) (λ q n. true_false false n refl) (l.rules r) e in
      (w.0, (w.1, w.2, (suc zero, (z, w.3))))
