-- What is known of a grammar, from what is known of its leaves and calls, and what is known of the calls of a language.
use Rattle.std.specs.Prelude.{◌≡◌, ℕ, zero, suc, ◌+◌, ◌≤◌, List, [], ◌∷◌, ◌++◌, Bool, true, false, ◌&&◌, not, None, ◌⊎◌}
use Rattle.std.proofs.Common.{refl, ap, sym, ◌∙◌, subst, arith, inl, inr}
use Rattle.lv_grammars.specs.Grammar.{Base, Gram, left, none, one, leaf, call, act, both, either, perhaps, many, until, tail}
use Rattle.lv_grammars.specs.Spelling.{last_open, Leaves, Calls, Spells, Limit, inside, Rules, Level, Language, called}
use Rattle.lv_grammars.specs.Sets.{Set, these, Table, is_in, apart, within, may_be_empty, first, next, is_good, rule_fits}
use Rattle.lv_grammars.specs.Facts.{IsBase, AreLeaves, IsLanguage}
use Rattle.lv_grammars.proofs.Lists.{nil_cons, nil_behind, same_head, same_tail, true_false, and_left, and_right, of_not}
use Rattle.lv_grammars.proofs.SetLaws.{apart_is, within_is, of_one}
use Rattle.lv_grammars.proofs.Calls.{level_grows}
use Rattle.lv_grammars.proofs.Known.{Known, Stops, HasTree, known_both, known_either, known_perhaps, known_many, known_until, known_tail}

-- truth values that are all true
pub four_true : (a c d e : Bool) → (a && c && d && e) ≡ true → (a ≡ true) × (c ≡ true) × (d ≡ true) × (e ≡ true)
four_true a c d e h =
    let h' : (a && c && d) ≡ true = and_left (a && c && d) e h in
    let h'' : (a && c) ≡ true = and_left (a && c) d h' in
    (and_left a c h'', and_right a c h'', and_right (a && c) d h', and_right (a && c && d) e h)

pub five_true : (a c d e f : Bool) → (a && c && d && e && f) ≡ true → (a ≡ true) × (c ≡ true) × (d ≡ true) × (e ≡ true) × (f ≡ true)
five_true a c d e f h =
    let k : (a ≡ true) × (c ≡ true) × (d ≡ true) × (e ≡ true) = four_true a c d e (and_left (a && c && d && e) f h) in
    (k.0, k.1, k.2, k.3, and_right (a && c && d && e) f h)

pub nine_true : (a c d e f u v w x : Bool) → (a && c && d && e && f && u && v && w && x) ≡ true →
    (a ≡ true) × (c ≡ true) × (d ≡ true) × (e ≡ true) × (f ≡ true) × (u ≡ true) × (v ≡ true) × (w ≡ true) × (x ≡ true)
nine_true a c d e f u v w x h =
    let k : ((a && c && d && e && f && u) ≡ true) × (v ≡ true) × (w ≡ true) × (x ≡ true) = four_true (a && c && d && e && f && u) v w x h in
    let j : (a ≡ true) × (c ≡ true) × (d ≡ true) × (e ≡ true) × (f ≡ true) = five_true a c d e f (and_left (a && c && d && e && f) u k.0) in
    (j.0, j.1, j.2, j.3, j.4, and_right (a && c && d && e && f) u k.0, k.1, k.2, k.3)

module _ (b : Base) (i : IsBase b) (t : Table b) where
  stops : (n f : Set b.Shape) → apart b n f ≡ true → apart b (these (t.tail_mark ∷ [])) f ≡ true → Stops b t n (λ m. is_in b f m ≡ true)
  stops n f h j = record { next = λ m e g. apart_is b i n f m h e g; mark = λ m e g. apart_is b i (these (t.tail_mark ∷ [])) f m j (of_one b t.tail_mark m e) g }

  stops_two : (n f f' : Set b.Shape) → apart b n f ≡ true → apart b n f' ≡ true → apart b (these (t.tail_mark ∷ [])) f ≡ true → apart b (these (t.tail_mark ∷ [])) f' ≡ true →
      Stops b t n (λ m. (is_in b f m ≡ true) ⊎ (is_in b f' m ≡ true))
  stops_two n f f' h h' j j' = record {
    next = λ m e g. elim g [ inl g ↦ apart_is b i n f m h e g | inr g ↦ apart_is b i n f' m h' e g ];
    mark = λ m e g. elim g [ inl g ↦ (stops n f h j).mark m e g | inr g ↦ (stops n f' h' j').mark m e g ];
  }

  -- ---- of grammars, from what is known of the calls in them

  abbrev pub CallsAreKnown : Calls b → Type 0
  CallsAreKnown c = (r : b.Rule) → Known b t (c r) (t.rule_first r) (t.rule_next r) false

  known_none : Known b t (λ ts o (x : Unit {0}). (ts ≡ []) × (o ≡ false)) (these []) (these []) true
  known_none = record {
    starts = λ m us ts o x q h. absurd (nil_cons m us (sym q ∙ h.0));
    some = λ w. true_false true refl w;
    goes = λ us vs more m o p x y q h j. absurd (nil_behind us m more (sym q ∙ j.0));
    one = λ us vs o p x y q h j. refl;
  }

  known_token : (p : b.Shape) → Known b t (λ ts o x. (ts ≡ x ∷ []) × (b.fits p x ≡ true) × (o ≡ false)) (these (p ∷ [])) (these []) false
  known_token p = record {
    starts = λ m us ts o x q h. of_one b p m (subst (λ (z : b.Token). b.fits p z ≡ true) (same_head x m [] us (sym h.0 ∙ q)) h.1);
    some = λ w ts o x q h. nil_cons x [] (sym h.0 ∙ q);
    goes = λ us vs more m o p x y q h j. absurd (nil_cons m more (sym (same_tail y x [] (m ∷ more) (sym j.0 ∙ q ∙ ap (λ w. w ++ (m ∷ more)) h.0))));
    one = λ us vs o p x y q h j. same_head x y [] [] (sym h.0 ∙ q ∙ j.0);
  }

  known_leaf : (l : Leaves b) → AreLeaves b t l → (k : b.Leaf) → Known b t (λ ts o x. l k ts x × (o ≡ false)) (t.leaf_first k) (t.leaf_next k) false
  known_leaf l a k = record {
    starts = λ m us ts o x q h. a.starts k m us x (subst (λ (w : List b.Token). l k w x) q h.0);
    some = λ z ts o x q h. a.some k x (subst (λ (w : List b.Token). l k w x) q h.0);
    goes = λ us vs more m o p x y q h j. inl (a.goes k us more m x y h.0 (subst (λ (w : List b.Token). l k w y) q j.0));
    one = λ us vs o p x y q h j. a.one k us x y h.0 (subst (λ (w : List b.Token). l k w y) (sym q) j.0);
  }

  known_act : {A B : Type 0} (v : A → B) (s : List b.Token → Bool → A → Type 0) (f n : Set b.Shape) (e : Bool) → Known b t s f n e → Known b t (λ ts o x. (y : A) × s ts o y × (v y ≡ x)) f n e
  known_act v s f n e k = record {
    starts = λ m us ts o x q h. k.starts m us ts o h.0 q h.1;
    some = λ z ts o x q h. k.some z ts o h.0 q h.1;
    goes = λ us vs more m o p x y q h j. k.goes us vs more m o p h.0 j.0 q h.1 j.1;
    one = λ us vs o p x y q h j. sym h.2 ∙ ap v (k.one us vs o p h.0 j.0 q h.1 j.1) ∙ j.2;
  }

  pub known_of : (l : Leaves b) (c : Calls b) → AreLeaves b t l → CallsAreKnown c → {A : Type 0} (g : Gram b A) → is_good b t g ≡ true → Known b t (Spells b l c g) (first b t g) (next b t g) (may_be_empty b g)
  known_of l c a k none z = known_none
  known_of l c a k (one p) z = known_token p
  known_of l c a k (leaf j) z = known_leaf l a j
  known_of l c a k (call r) z = k r
  known_of l c a k (act f g) z = known_act f (Spells b l c g) (first b t g) (next b t g) (may_be_empty b g) (known_of l c a k g z)
  known_of l c a k (both g h) z =
      let w : (is_good b t g ≡ true) × (is_good b t h ≡ true) × (apart b (next b t g) (first b t h) ≡ true) × (apart b (these (t.tail_mark ∷ [])) (first b t h) ≡ true) = four_true _ _ _ _ z in
      known_both b i t (Spells b l c g) (Spells b l c h) (first b t g) (next b t g) (first b t h) (next b t h) (may_be_empty b g) (may_be_empty b h)
      (known_of l c a k g w.0) (known_of l c a k h w.1) (stops (next b t g) (first b t h) w.2 w.3)
  known_of l c a k (either g h) z =
      let w : (is_good b t g ≡ true) × (is_good b t h ≡ true) × (not (may_be_empty b g) ≡ true) × (not (may_be_empty b h) ≡ true) × (apart b (first b t g) (first b t h) ≡ true) = five_true _ _ _ _ _ z in
      known_either b i t (Spells b l c g) (Spells b l c h) (first b t g) (next b t g) (first b t h) (next b t h) (may_be_empty b g) (may_be_empty b h)
      (known_of l c a k g w.0) (known_of l c a k h w.1) (of_not _ w.2) (of_not _ w.3) w.4
  known_of l c a k (perhaps g) z =
      known_perhaps b i t (Spells b l c g) (first b t g) (next b t g) (may_be_empty b g) (known_of l c a k g (and_left _ _ z)) (of_not _ (and_right _ _ z))
  known_of l c a k (many g) z =
      let w : (is_good b t g ≡ true) × (not (may_be_empty b g) ≡ true) × (apart b (next b t g) (first b t g) ≡ true) × (apart b (these (t.tail_mark ∷ [])) (first b t g) ≡ true) = four_true _ _ _ _ z in
      known_many b i t (Spells b l c g) (first b t g) (next b t g) (may_be_empty b g) (known_of l c a k g w.0) (of_not _ w.1) (stops (next b t g) (first b t g) w.2 w.3)
  known_of l c a k (until g h) z =
      let w : (is_good b t g ≡ true) × (is_good b t h ≡ true) × (not (may_be_empty b g) ≡ true) × (not (may_be_empty b h) ≡ true) × (apart b (next b t g) (first b t g) ≡ true) ×
      (apart b (next b t g) (first b t h) ≡ true) × (apart b (first b t g) (first b t h) ≡ true) × (apart b (these (t.tail_mark ∷ [])) (first b t g) ≡ true) × (apart b (these (t.tail_mark ∷ [])) (first b t h) ≡ true) =
      nine_true _ _ _ _ _ _ _ _ _ z in
      known_until b i t (Spells b l c g) (Spells b l c h) (first b t g) (next b t g) (first b t h) (next b t h) (may_be_empty b g) (may_be_empty b h)
      (known_of l c a k g w.0) (known_of l c a k h w.1) (of_not _ w.2) (of_not _ w.3) (stops_two (next b t g) (first b t g) (first b t h) w.4 w.5 w.7 w.8) w.6
  known_of l c a k (tail r p h) z =
      let w : (is_good b t h ≡ true) × (not (may_be_empty b h) ≡ true) × (b.same p t.tail_mark ≡ true) × (apart b (t.rule_next r) (these (t.tail_mark ∷ [])) ≡ true) = four_true _ _ _ _ z in
      known_tail b i t (c r) (b.fits p) (Spells b l c h) (t.rule_first r) (t.rule_next r) (first b t h) (next b t h) (may_be_empty b h) (k r) (known_of l c a k h w.0)
      (λ m e. subst (λ (s : b.Shape). b.fits s m ≡ true) (i.one p t.tail_mark w.2) e) (λ m e g. apart_is b i (t.rule_next r) (these (t.tail_mark ∷ [])) m w.3 e (of_one b t.tail_mark m g))

  -- ---- of the calls

  pub known_level : (l : Leaves b) (g : Rules b) → AreLeaves b t l → ((r : b.Rule) → rule_fits b t r (g r) ≡ true) → (n : ℕ) (d : ℕ → Limit) → CallsAreKnown (Level b l g n d)
  known_level l g a z zero d r = record { starts = λ m us ts o x q h. absurd h; some = λ w ts o x q h. h; goes = λ us vs more m o p x y q h j. absurd h; one = λ us vs o p x y q h j. absurd h }
  known_level l g a z (suc n) d r = go (known_of l (Level b l g n (inside (b.count r) d)) a (known_level l g a z n (inside (b.count r) d)) (g r) w.0)
    where
      w : (is_good b t (g r) ≡ true) × (not (may_be_empty b (g r)) ≡ true) × (within b (first b t (g r)) (t.rule_first r) ≡ true) × (within b (next b t (g r)) (t.rule_next r) ≡ true) × (apart b (t.rule_next r) (these (t.tail_mark ∷ [])) ≡ true)
      w = five_true _ _ _ _ _ (z r)

      go : Known b t (Spells b l (Level b l g n (inside (b.count r) d)) (g r)) (first b t (g r)) (next b t (g r)) (may_be_empty b (g r)) → Known b t (Level b l g (suc n) d r) (t.rule_first r) (t.rule_next r) false
      go k = record {
        starts = λ m us ts o x q h. within_is b i (first b t (g r)) (t.rule_first r) m w.2 (k.starts m us ts o x q h.1);
        some = λ e ts o x q h. k.some (of_not _ w.1) ts o x q h.1;
        goes = λ us vs more m o p x y q h j. elim (k.goes us vs more m o p x y q h.1 j.1) [ inl e ↦ inl (within_is b i (next b t (g r)) (t.rule_next r) m w.3 e) | inr e ↦ inr e ];
        one = λ us vs o p x y q h j. k.one us vs o p x y q h.1 j.1;
      }

  -- two trees are of one level
  pub known_called : (l : Language b) → IsLanguage b t l → CallsAreKnown (called b l)
  known_called l a r = record {
    starts = λ m us ts o x q h. (at h.0).starts m us ts o x q h.1;
    some = λ e ts o x q h. (at h.0).some e ts o x q h.1;
    goes = λ us vs more m o p x y q h j. (at (h.0 + j.0)).goes us vs more m o p x y q (up h.0 (h.0 + j.0) (omega arith) us o x h.1) (up j.0 (h.0 + j.0) (omega arith) vs p y j.1);
    one = λ us vs o p x y q h j. (at (h.0 + j.0)).one us vs o p x y q (up h.0 (h.0 + j.0) (omega arith) us o x h.1) (up j.0 (h.0 + j.0) (omega arith) vs p y j.1);
  }
    where
      at : (n : ℕ) → Known b t (Level b l.leaves l.rules n l.limits r) (t.rule_first r) (t.rule_next r) false
      at n = known_level l.leaves l.rules a.leaves a.rules n l.limits r

      up : (n k : ℕ) → n ≤ k → (ts : List b.Token) (o : Bool) (x : b.RuleTree r) → Level b l.leaves l.rules n l.limits r ts o x → Level b l.leaves l.rules k l.limits r ts o x
      up n k e = level_grows b l.leaves l.rules n k l.limits e r

  -- ---- each grammar has a tree

  pub tree_of : (l : Leaves b) (c : Calls b) → AreLeaves b t l → ((r : b.Rule) → HasTree (c r)) → {A : Type 0} (g : Gram b A) → HasTree (Spells b l c g)
  tree_of l c a k none = ([], false, tt, (refl, refl))
  tree_of l c a k (one p) = let w : (m : b.Token) × (b.fits p m ≡ true) = i.witness p in (w.0 ∷ [], false, w.0, (refl, w.1, refl))
  tree_of l c a k (leaf j) = let w : (us : List b.Token) × (x : b.LeafTree j) × l j us x = a.witness j in (w.0, false, w.1, (w.2, refl))
  tree_of l c a k (call r) = k r
  tree_of l c a k (act f g) = let w : HasTree (Spells b l c g) = tree_of l c a k g in (w.0, w.1, f w.2, (w.2, w.3, refl))
  tree_of l c a k (both g h) =
      let w : HasTree (Spells b l c g) = tree_of l c a k g in
      let v : HasTree (Spells b l c h) = tree_of l c a k h in
      (w.0 ++ v.0, last_open v.0 w.1 v.1, (w.2, v.2), (w.0, v.0, w.1, v.1, refl, w.3, v.3, refl))
  tree_of l c a k (either g h) = let w : HasTree (Spells b l c g) = tree_of l c a k g in (w.0, w.1, left w.2, w.3)
  tree_of l c a k (perhaps g) = ([], false, None, (refl, refl))
  tree_of l c a k (many g) = ([], false, [], (refl, refl))
  tree_of l c a k (until g h) = let v : HasTree (Spells b l c h) = tree_of l c a k h in (v.0, v.1, ([], v.2), ([], v.0, false, refl, (refl, refl), v.3))
  tree_of l c a k (tail r p h) = let w : HasTree (c r) = k r in (w.0, true, (w.2, None), (w.1, w.3, refl))
