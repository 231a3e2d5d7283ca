-- Behind an open tree the mark of a tail goes on.
use Rattle.std.specs.Prelude.{◌≡◌, ℕ, zero, suc, List, [], ◌∷◌, ◌++◌, Bool, true, false, not, Option, Some, None}
use Rattle.std.proofs.Common.{refl, ap, sym, ◌∙◌, subst, append_assoc, append-nil}
use Rattle.lv_grammars.specs.Grammar.{Base, Gram, left, right, none, one, leaf, call, act, both, either, perhaps, many, until, tail}
use Rattle.lv_grammars.specs.Spelling.{last_open, SpellsAll, SpellsEither, SpellsPerhaps, SpellsTail, Leaves, Calls, Spells, Limit, inside, Level, Language, called, IsSpelled}
use Rattle.lv_grammars.specs.Sets.{these, Table, apart, within, may_be_empty, first, next, is_good}
use Rattle.lv_grammars.specs.Facts.{IsBase, AreLeaves, IsLanguage}
use Rattle.lv_grammars.proofs.Lists.{true_false, and_left}
use Rattle.lv_grammars.proofs.Calls.{AreAmong, IsAmong, spells_among, all_among, same_leaves, level_free, free_is_called}
use Rattle.lv_grammars.proofs.Known.{Goes, HasTree}
use Rattle.lv_grammars.proofs.Grammars.{four_true, five_true, nine_true, tree_of}

-- behind the open trees of the one, trees of the other go on with m
abbrev pub Hangs : {T A : Type 0} → (List T → Bool → A → Type 0) → (List T → Bool → A → Type 0) → T → Type 0
Hangs {T} {A} s s' m = (us : List T) (x : A) → s us true x → Goes s' us m

module _ {T : Type 0} (m : T) where
  hangs_both : {A B : Type 0} (s s' : List T → Bool → A → Type 0) (q q' : List T → Bool → B → Type 0) → IsAmong s s' → Hangs s s' m → HasTree q' → Hangs q q' m →
      Hangs
      (λ ts o (x : A × B). (us : List T) × (vs : List T) × (p : Bool) × (r : Bool) × (ts ≡ us ++ vs) × s us p x.0 × q vs r x.1 × (o ≡ last_open vs p r))
      (λ ts o (x : A × B). (us : List T) × (vs : List T) × (p : Bool) × (r : Bool) × (ts ≡ us ++ vs) × s' us p x.0 × q' vs r x.1 × (o ≡ last_open vs p r)) m
  hangs_both {A} {B} s s' q q' j g w h ts x e = go e.0 e.1 e.2 e.3 e.4 e.5 e.6 e.7
    where
      go : (us vs : List T) (p r : Bool) → ts ≡ us ++ vs → s us p x.0 → q vs r x.1 → true ≡ last_open vs p r →
          Goes (λ ts o (x : A × B). (us : List T) × (vs : List T) × (p : Bool) × (r : Bool) × (ts ≡ us ++ vs) × s' us p x.0 × q' vs r x.1 × (o ≡ last_open vs p r)) ts m
      go us [] p r c a d f =
          let u : Goes s' us m = g us x.0 (subst (λ (z : Bool). s us z x.0) (sym f) a) in (
            u.0 ++ w.0,
            last_open w.0 u.1 w.1,
            (u.2, w.2),
            (us ++ (m ∷ u.0), w.0, u.1, w.1, ap (λ z. z ++ (m ∷ (u.0 ++ w.0))) (c ∙ append-nil us) ∙ sym (append_assoc us (m ∷ u.0) w.0), u.3, w.3, refl),
          )
      go us (v ∷ vs) p r c a d f =
          let u : Goes q' (v ∷ vs) m = h (v ∷ vs) x.1 (subst (λ (z : Bool). q (v ∷ vs) z x.1) (sym f) d) in (
            u.0,
            u.1,
            (x.0, u.2),
            (us, (v ∷ vs) ++ (m ∷ u.0), p, u.1, ap (λ z. z ++ (m ∷ u.0)) c ∙ append_assoc us (v ∷ vs) (m ∷ u.0), j us p x.0 a, u.3, refl),
          )

  hangs_either : {A B : Type 0} (s s' : List T → Bool → A → Type 0) (q q' : List T → Bool → B → Type 0) → Hangs s s' m → Hangs q q' m → Hangs (SpellsEither s q) (SpellsEither s' q') m
  hangs_either s s' q q' g h ts (left x) e = let u : Goes s' ts m = g ts x e in (u.0, u.1, left u.2, u.3)
  hangs_either s s' q q' g h ts (right x) e = let u : Goes q' ts m = h ts x e in (u.0, u.1, right u.2, u.3)

  hangs_perhaps : {A : Type 0} (s s' : List T → Bool → A → Type 0) → Hangs s s' m → Hangs (SpellsPerhaps s) (SpellsPerhaps s') m
  hangs_perhaps s s' g ts None e = true_false true refl e.1
  hangs_perhaps s s' g ts (Some x) e = let u : Goes s' ts m = g ts x e in (u.0, u.1, Some u.2, u.3)

  hangs_many : {A : Type 0} (s s' : List T → Bool → A → Type 0) → IsAmong s s' → Hangs s s' m → (xs : List A) (ts : List T) → SpellsAll s ts true xs → Goes (SpellsAll s') ts m
  hangs_many s s' j g [] ts e = true_false true refl e.1
  hangs_many {A} s s' j g (x ∷ xs) ts e = go e.0 e.1 e.2 e.3 e.4 e.5 (hangs_many s s' j g xs) e.6 e.7
    where
      go : (us vs : List T) (p r : Bool) → ts ≡ us ++ vs → s us p x → ((ts : List T) → SpellsAll s ts true xs → Goes (SpellsAll s') ts m) → SpellsAll s vs r xs → true ≡ last_open vs p r → Goes (SpellsAll s') ts m
      go us [] p r c a h d f =
          let u : Goes s' us m = g us x (subst (λ (z : Bool). s us z x) (sym f) a) in
          (u.0, u.1, u.2 ∷ [], (us ++ (m ∷ u.0), [], u.1, false, ap (λ z. z ++ (m ∷ u.0)) (c ∙ append-nil us) ∙ sym (append-nil (us ++ (m ∷ u.0))), u.3, (refl, refl), refl))
      go us (v ∷ vs) p r c a h d f =
          let u : Goes (SpellsAll s') (v ∷ vs) m = h (v ∷ vs) (subst (λ (z : Bool). SpellsAll s (v ∷ vs) z xs) (sym f) d) in (
            u.0,
            u.1,
            x ∷ u.2,
            (us, (v ∷ vs) ++ (m ∷ u.0), p, u.1, ap (λ z. z ++ (m ∷ u.0)) c ∙ append_assoc us (v ∷ vs) (m ∷ u.0), j us p x a, u.3, refl),
          )

  hangs_tail : {A B : Type 0} (s s' : List T → Bool → A → Type 0) (w : T → Bool) (q q' : List T → Bool → B → Type 0) → IsAmong s s' → Hangs s s' m → HasTree q' → Hangs q q' m → w m ≡ true →
      (x : A) (y : Option B) (ts : List T) → SpellsTail s w q ts true x y → Goes (λ ts o (x : A × Option B). SpellsTail s' w q' ts o x.0 x.1) ts m
  hangs_tail {A} {B} s s' w q q' j g v h a x None ts e = go e.0 e.1
    where
      go : (p : Bool) → s ts p x → Goes (λ ts o (x : A × Option B). SpellsTail s' w q' ts o x.0 x.1) ts m
      go false d = (v.0, v.1, (x, Some v.2), (ts, m, v.0, refl, j ts false x d, a, v.3))
      go true d = let u : Goes s' ts m = g ts x d in (u.0, true, (u.2, None), (u.1, u.3, refl))
  hangs_tail {A} {B} s s' w q q' j g v h a x (Some y) ts e =
      let u : Goes q' e.2 m = h e.2 y e.6 in (
        u.0,
        u.1,
        (x, Some u.2),
        (e.0, e.1, e.2 ++ (m ∷ u.0), ap (λ z. z ++ (m ∷ u.0)) e.3 ∙ append_assoc e.0 (e.1 ∷ e.2) (m ∷ u.0), j e.0 false x e.4, e.5, u.3),
      )

module _ (b : Base) (i : IsBase b) (t : Table b) where
  -- ---- of grammars, from what is so of the calls in them

  hangs_of : (l : Leaves b) (c d : Calls b) (m : b.Token) → AreLeaves b t l → AreAmong b c d → ((r : b.Rule) → HasTree (d r)) → ((r : b.Rule) → Hangs (c r) (d r) m) → b.fits t.tail_mark m ≡ true →
      {A : Type 0} (g : Gram b A) → is_good b t g ≡ true → Hangs (Spells b l c g) (Spells b l d g) m
  hangs_of l c d m a j k w f none z ts x e = true_false true refl e.1
  hangs_of l c d m a j k w f (one p) z ts x e = true_false true refl e.2
  hangs_of l c d m a j k w f (leaf q) z ts x e = true_false true refl e.1
  hangs_of l c d m a j k w f (call r) z ts x e = w r ts x e
  hangs_of l c d m a j k w f (act v g) z ts x e = let u : Goes (Spells b l d g) ts m = hangs_of l c d m a j k w f g z ts e.0 e.1 in (u.0, u.1, v u.2, (u.2, u.3, refl))
  hangs_of l c d m a j k w f (both g h) z ts x e =
      let y : (is_good b t g ≡ true) × (is_good b t h ≡ true) × (apart b (next b t g) (first b t h) ≡ true) × (apart b (these (t.tail_mark ∷ [])) (first b t h) ≡ true) = four_true _ _ _ _ z in
      hangs_both m (Spells b l c g) (Spells b l d g) (Spells b l c h) (Spells b l d h) (spells_among b l l c d (same_leaves b l) j g)
      (hangs_of l c d m a j k w f g y.0) (tree_of b i t l d a k h) (hangs_of l c d m a j k w f h y.1) ts x e
  hangs_of l c d m a j k w f (either g h) z ts x e =
      let y : (is_good b t g ≡ true) × (is_good b t h ≡ true) × (not (may_be_empty b g) ≡ true) × (not (may_be_empty b h) ≡ true) × (apart b (first b t g) (first b t h) ≡ true) = five_true _ _ _ _ _ z in
      hangs_either m (Spells b l c g) (Spells b l d g) (Spells b l c h) (Spells b l d h) (hangs_of l c d m a j k w f g y.0) (hangs_of l c d m a j k w f h y.1) ts x e
  hangs_of l c d m a j k w f (perhaps g) z ts x e = hangs_perhaps m (Spells b l c g) (Spells b l d g) (hangs_of l c d m a j k w f g (and_left _ _ z)) ts x e
  hangs_of l c d m a j k w f (many g) z ts x e =
      let y : (is_good b t g ≡ true) × (not (may_be_empty b g) ≡ true) × (apart b (next b t g) (first b t g) ≡ true) × (apart b (these (t.tail_mark ∷ [])) (first b t g) ≡ true) = four_true _ _ _ _ z in
      hangs_many m (Spells b l c g) (Spells b l d g) (spells_among b l l c d (same_leaves b l) j g) (hangs_of l c d m a j k w f g y.0) x ts e
  hangs_of l c d m a j k w f (until g h) z ts x e =
      let y : (is_good b t g ≡ true) × (is_good b t h ≡ true) × (not (may_be_empty b g) ≡ true) × (not (may_be_empty b h) ≡ true) × (apart b (next b t g) (first b t g) ≡ true) ×
      (apart b (next b t g) (first b t h) ≡ true) × (apart b (first b t g) (first b t h) ≡ true) × (apart b (these (t.tail_mark ∷ [])) (first b t g) ≡ true) × (apart b (these (t.tail_mark ∷ [])) (first b t h) ≡ true) =
      nine_true _ _ _ _ _ _ _ _ _ z in
      let u : Goes (Spells b l d h) e.1 m = hangs_of l c d m a j k w f h y.1 e.1 x.1 e.5 in (
        u.0,
        u.1,
        (x.0, u.2),
        (
          e.0,
          e.1 ++ (m ∷ u.0),
          e.2,
          ap (λ s. s ++ (m ∷ u.0)) e.3 ∙ append_assoc e.0 e.1 (m ∷ u.0),
          all_among (Spells b l c g) (Spells b l d g) (spells_among b l l c d (same_leaves b l) j g) x.0 e.0 e.2 e.4,
          u.3,
        ),
      )
  hangs_of l c d m a j k w f (tail r p h) z ts x e =
      let y : (is_good b t h ≡ true) × (not (may_be_empty b h) ≡ true) × (b.same p t.tail_mark ≡ true) × (apart b (t.rule_next r) (these (t.tail_mark ∷ [])) ≡ true) = four_true _ _ _ _ z in
      hangs_tail m (c r) (d r) (b.fits p) (Spells b l c h) (Spells b l d h) (j r) (w r) (tree_of b i t l d a k h) (hangs_of l c d m a j k w f h y.0)
      (subst (λ (s : b.Shape). b.fits s m ≡ true) (sym (i.one p t.tail_mark y.2)) f) x.0 x.1 ts e

  -- ---- of the calls

  hangs_level : (l : Language b) → IsLanguage b t l → (m : b.Token) → b.fits t.tail_mark m ≡ true → (n : ℕ) (d : ℕ → Limit) (r : b.Rule) → Hangs (Level b l.leaves l.rules n d r) (called b l r) m
  hangs_level l a m f zero d r ts x e = absurd e
  hangs_level l a m f (suc n) d r ts x e =
      let y : (is_good b t (l.rules r) ≡ true) × (not (may_be_empty b (l.rules r)) ≡ true) × (within b (first b t (l.rules r)) (t.rule_first r) ≡ true) ×
      (within b (next b t (l.rules r)) (t.rule_next r) ≡ true) × (apart b (t.rule_next r) (these (t.tail_mark ∷ [])) ≡ true) = five_true _ _ _ _ _ (a.rules r) in
      let u : Goes (IsSpelled b l (l.rules r)) ts m =
      hangs_of l.leaves (Level b l.leaves l.rules n (inside (b.count r) d)) (called b l) m a.leaves
      (λ r' ts o x h. (n, level_free b l.leaves l.leaves l.rules (same_leaves b l.leaves) n (inside (b.count r) d) l.limits a.free r' ts o x h))
      a.witness (hangs_level l a m f n (inside (b.count r) d)) f (l.rules r) y.0 ts x e.1 in
      (u.0, u.1, u.2, free_is_called b l a.free r (ts ++ (m ∷ u.0)) u.1 u.2 u.3)

  pub hangs_called : (l : Language b) → IsLanguage b t l → (m : b.Token) → b.fits t.tail_mark m ≡ true → (r : b.Rule) → Hangs (called b l r) (called b l r) m
  hangs_called l a m f r ts x e = hangs_level l a m f e.0 l.limits r ts x e.1

  pub hangs_spelled : (l : Language b) → IsLanguage b t l → (m : b.Token) → b.fits t.tail_mark m ≡ true → {A : Type 0} (g : Gram b A) → is_good b t g ≡ true → Hangs (IsSpelled b l g) (IsSpelled b l g) m
  hangs_spelled l a m f g z = hangs_of l.leaves (called b l) (called b l) m a.leaves (λ r ts o x h. h) a.witness (hangs_called l a m f) f g z
