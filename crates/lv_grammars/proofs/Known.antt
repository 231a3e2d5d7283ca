-- What the next token may be, of each grammar that can be read by its next token alone.
use Rattle.std.specs.Prelude.{◌≡◌, List, [], ◌∷◌, ◌++◌, Bool, true, false, ◌&&◌, ◌||◌, Option, Some, None, ◌⊎◌, if◌then◌else◌}
use Rattle.std.proofs.Common.{refl, ap, sym, ◌∙◌, subst, append_assoc, append-nil, inl, inr}
use Rattle.lv_grammars.specs.Grammar.{Base, OneOf, left, right}
use Rattle.lv_grammars.specs.Spelling.{last_open, SpellsAll, SpellsEither, SpellsPerhaps, SpellsTail}
use Rattle.lv_grammars.specs.Sets.{Set, Table, is_in, union, apart}
use Rattle.lv_grammars.specs.Facts.{IsBase}
use Rattle.lv_grammars.proofs.Lists.{same, longer, shorter, cuts, nil_cons, nil_behind, left_nil, right_nil, same_head, same_tail, true_false}
use Rattle.lv_grammars.proofs.SetLaws.{union_left, union_right, apart_is}

-- what a language's trees begin with, what goes on behind them, and that a list of tokens spells at most one
pub record Known (b : Base) (t : Table b) {A : Type 0} (s : List b.Token → Bool → A → Type 0) (f n : Set b.Shape) (e : Bool) : Type 0 where
  pub starts : (m : b.Token) (us ts : List b.Token) (o : Bool) (x : A) → ts ≡ m ∷ us → s ts o x → is_in b f m ≡ true
  pub some : e ≡ false → (ts : List b.Token) (o : Bool) (x : A) → ts ≡ [] → s ts o x → ⊥
  pub goes : (us vs more : List b.Token) (m : b.Token) (o p : Bool) (x y : A) → vs ≡ us ++ (m ∷ more) → s us o x → s vs p y →
      (is_in b n m ≡ true) ⊎ ((b.fits t.tail_mark m ≡ true) × (o ≡ true))
  pub one : (us vs : List b.Token) (o p : Bool) (x y : A) → us ≡ vs → s us o x → s vs p y → x ≡ y

-- what stands behind a tree begins with none of the tokens that go on with it
pub record Stops (b : Base) (t : Table b) (n : Set b.Shape) (F : b.Token → Type 0) : Type 0 where
  pub next : (m : b.Token) → is_in b n m ≡ true → F m → ⊥
  pub mark : (m : b.Token) → b.fits t.tail_mark m ≡ true → F m → ⊥

abbrev pub Begun : {T : Type 0} → (T → Type 0) → List T → Type 0
Begun {T} F ts = (m : T) (us : List T) → ts ≡ m ∷ us → F m

abbrev pub Goes : {T A : Type 0} → (List T → Bool → A → Type 0) → List T → T → Type 0
Goes {T} {A} s us m = (more : List T) × (p : Bool) × (y : A) × s (us ++ (m ∷ more)) p y

abbrev pub HasTree : {T A : Type 0} → (List T → Bool → A → Type 0) → Type 0
HasTree {T} {A} s = (us : List T) × (o : Bool) × (x : A) × s us o x

pub last_open_some : {T : Type 0} (w : List T) (p q : Bool) → (w ≡ [] → ⊥) → last_open w p q ≡ q
last_open_some [] p q h = absurd (h refl)
last_open_some (m ∷ w) p q h = refl

pub last_open_none : {T : Type 0} (w : List T) (p q : Bool) → w ≡ [] → last_open w p q ≡ p
last_open_none w p q e = ap (λ v. last_open v p q) e

module _ (b : Base) (i : IsBase b) (t : Table b) where
  -- ---- where two trees are cut

  stuck : {A : Type 0} (s : List b.Token → Bool → A → Type 0) (f n : Set b.Shape) (e : Bool) (F : b.Token → Type 0) → Known b t s f n e → Stops b t n F →
      (us vs more : List b.Token) (m : b.Token) (o p : Bool) (x y : A) → vs ≡ us ++ (m ∷ more) → s us o x → s vs p y → F m → ⊥
  stuck s f n e F k d us vs more m o p x y q h j g = elim (k.goes us vs more m o p x y q h j) [
    | inl a ↦ d.next m a g
    | inr a ↦ d.mark m a.0 g
  ]

  cut_one : {A : Type 0} (s : List b.Token → Bool → A → Type 0) (f n : Set b.Shape) (e : Bool) (F : b.Token → Type 0) → Known b t s f n e → Stops b t n F →
      (u w u' w' : List b.Token) (o p : Bool) (x y : A) → u ++ w ≡ u' ++ w' → s u o x → s u' p y → Begun F w → Begun F w' → (u ≡ u') × (w ≡ w')
  cut_one s f n e F k d u w u' w' o p x y q h j g g' = elim (cuts u w u' w' q) [
    | same a c ↦ (a, c)
    | longer m v a c ↦ absurd (stuck s f n e F k d u' u v m p o y x a j h (g' m (v ++ w) c))
    | shorter m v a c ↦ absurd (stuck s f n e F k d u u' v m o p x y a h j (g m (v ++ w') c))
  ]

  cut_goes : {A : Type 0} (s : List b.Token → Bool → A → Type 0) (f n : Set b.Shape) (e : Bool) (F : b.Token → Type 0) → Known b t s f n e → Stops b t n F →
      (u w u' w' more : List b.Token) (m : b.Token) (o p : Bool) (x y : A) → u' ++ w' ≡ (u ++ w) ++ (m ∷ more) → s u o x → s u' p y → Begun F w → Begun F w' →
      ((u ≡ u') × (w' ≡ w ++ (m ∷ more))) ⊎ ((w ≡ []) × ((is_in b n m ≡ true) ⊎ ((b.fits t.tail_mark m ≡ true) × (o ≡ true))))
  cut_goes {A} s f n e F k d u w u' w' more m o p x y q h j g g' = elim (cuts u (w ++ (m ∷ more)) u' w' (sym (q ∙ append_assoc u w (m ∷ more)))) [
    | same a c ↦ inl (a, sym c)
    | longer z v a c ↦ absurd (stuck s f n e F k d u' u v z p o y x a j h (g' z (v ++ (w ++ (m ∷ more))) c))
    | shorter z v a c ↦ behind w g z v a c
  ]
    where
      behind : (w : List b.Token) → Begun F w → (z : b.Token) (v : List b.Token) → u' ≡ u ++ (z ∷ v) → w ++ (m ∷ more) ≡ z ∷ (v ++ w') →
          ((u ≡ u') × (w' ≡ w ++ (m ∷ more))) ⊎ ((w ≡ []) × ((is_in b n m ≡ true) ⊎ ((b.fits t.tail_mark m ≡ true) × (o ≡ true))))
      behind [] g z v a c = inr (refl, k.goes u u' v m o p x y (a ∙ ap (λ a. u ++ (a ∷ v)) (sym (same_head m z more (v ++ w') c))) h j)
      behind (a' ∷ w) g z v a c = absurd (stuck s f n e F k d u u' v z o p x y a h j (subst F (same_head a' z (w ++ (m ∷ more)) (v ++ w') c) (g a' w refl)))

  -- ---- one after the other

  abbrev pub SpellsBoth : {A B : Type 0} → (List b.Token → Bool → A → Type 0) → (List b.Token → Bool → B → Type 0) → List b.Token → Bool → A × B → Type 0
  SpellsBoth s s' ts o x = (us : List b.Token) × (vs : List b.Token) × (p : Bool) × (q : Bool) × (ts ≡ us ++ vs) × s us p x.0 × s' vs q x.1 × (o ≡ last_open vs p q)

  in_left : (e : Bool) (s u : Set b.Shape) (m : b.Token) → is_in b s m ≡ true → is_in b (if e then union b s u else s) m ≡ true
  in_left true s u m h = union_left b i s u m h
  in_left false s u m h = h

  in_right : (e : Bool) (s u : Set b.Shape) (m : b.Token) → is_in b u m ≡ true → is_in b (if e then union b s u else u) m ≡ true
  in_right true s u m h = union_right b i s u m h
  in_right false s u m h = h

  pub known_both : {A B : Type 0} (s : List b.Token → Bool → A → Type 0) (s' : List b.Token → Bool → B → Type 0) (f n f' n' : Set b.Shape) (e e' : Bool) →
      Known b t s f n e → Known b t s' f' n' e' → Stops b t n (λ m. is_in b f' m ≡ true) →
      Known b t (SpellsBoth s s') (if e then union b f f' else f) (if e' then union b n n' else n') (e && e')
  known_both {A} {B} s s' f n f' n' e e' k k' d = record {
    starts = λ m us ts o x q h. starts h.0 m us h.1 h.2 h.3 x.0 x.1 (sym h.4 ∙ q) h.5 h.6;
    some = λ z ts o x q h. some e k z h.2 h.3 x.0 x.1 h.0 h.1 (sym h.4 ∙ q) h.5 h.6;
    goes = λ us vs more m o p x y q h j. goes us vs more m o p x y q h j;
    one = λ us vs o p x y q h j. alike x y h j (cut_one s f n e (λ m. is_in b f' m ≡ true) k d h.0 h.1 j.0 j.1 h.2 j.2 x.0 y.0 (sym h.4 ∙ q ∙ j.4) h.5 j.5 (begun h.1 h.3 x.1 h.6) (begun j.1 j.3 y.1 j.6));
  }
    where
      begun : (vs : List b.Token) (q : Bool) (x : B) → s' vs q x → Begun (λ m. is_in b f' m ≡ true) vs
      begun vs q x h m us c = k'.starts m us vs q x c h

      of_empty : (e : Bool) → (e ≡ false → ⊥) → (m : b.Token) → is_in b f' m ≡ true → is_in b (if e then union b f f' else f) m ≡ true
      of_empty true z m h = union_right b i f f' m h
      of_empty false z m h = absurd (z refl)

      of_empty' : (e : Bool) → (e ≡ false → ⊥) → (m : b.Token) → is_in b n m ≡ true → is_in b (if e then union b n n' else n') m ≡ true
      of_empty' true z m h = union_left b i n n' m h
      of_empty' false z m h = absurd (z refl)

      starts : (w : List b.Token) (m : b.Token) (us vs : List b.Token) (p q : Bool) (x : A) (y : B) → w ++ vs ≡ m ∷ us → s w p x → s' vs q y → is_in b (if e then union b f f' else f) m ≡ true
      starts [] m us vs p q x y c h j = of_empty e (λ z. k.some z [] p x refl h) m (k'.starts m us vs q y c j)
      starts (a ∷ w) m us vs p q x y c h j = in_left e f f' m (k.starts m w (a ∷ w) p x (ap (λ z. z ∷ w) (same_head a m (w ++ vs) us c)) h)

      some : (e : Bool) → Known b t s f n e → (e && e') ≡ false → (p q : Bool) (x : A) (y : B) (us vs : List b.Token) → us ++ vs ≡ [] → s us p x → s' vs q y → ⊥
      some true k z p q x y us vs c h j = k'.some z vs q y (right_nil us vs c) j
      some false k z p q x y us vs c h j = k.some refl us p x (left_nil us vs c) h

      goes : (us vs more : List b.Token) (m : b.Token) (o p : Bool) (x y : A × B) → vs ≡ us ++ (m ∷ more) → SpellsBoth s s' us o x → SpellsBoth s s' vs p y →
          (is_in b (if e' then union b n n' else n') m ≡ true) ⊎ ((b.fits t.tail_mark m ≡ true) × (o ≡ true))
      goes us vs more m o p x y q h j =
          elim (cut_goes s f n e (λ m. is_in b f' m ≡ true) k d h.0 h.1 j.0 j.1 more m h.2 j.2 x.0 y.0 (sym j.4 ∙ q ∙ ap (λ z. z ++ (m ∷ more)) h.4) h.5 j.5 (begun h.1 h.3 x.1 h.6) (begun j.1 j.3 y.1 j.6)) [
            | inl c ↦ second c.1
            | inr c ↦ first c.0 c.1
          ]
        where
          second : j.1 ≡ h.1 ++ (m ∷ more) → (is_in b (if e' then union b n n' else n') m ≡ true) ⊎ ((b.fits t.tail_mark m ≡ true) × (o ≡ true))
          second c = elim (k'.goes h.1 j.1 more m h.3 j.3 x.1 y.1 c h.6 j.6) [
            | inl a ↦ inl (in_right e' n n' m a)
            | inr a ↦ inr (a.0, h.7 ∙ last_open_some h.1 h.2 h.3 (λ z. d.mark m a.0 (begun j.1 j.3 y.1 j.6 m more (c ∙ ap (λ w. w ++ (m ∷ more)) z))) ∙ a.1)
          ]

          first : h.1 ≡ [] → ((is_in b n m ≡ true) ⊎ ((b.fits t.tail_mark m ≡ true) × (h.2 ≡ true))) →
              (is_in b (if e' then union b n n' else n') m ≡ true) ⊎ ((b.fits t.tail_mark m ≡ true) × (o ≡ true))
          first c a = elim a [
            | inl a ↦ inl (of_empty' e' (λ z. k'.some z h.1 h.3 x.1 c h.6) m a)
            | inr a ↦ inr (a.0, h.7 ∙ last_open_none h.1 h.2 h.3 c ∙ a.1)
          ]

      alike : (x y : A × B) {us vs : List b.Token} {o p : Bool} → (h : SpellsBoth s s' us o x) (j : SpellsBoth s s' vs p y) → (h.0 ≡ j.0) × (h.1 ≡ j.1) → x ≡ y
      alike x y h j c = pair x y (k.one h.0 j.0 h.2 j.2 x.0 y.0 c.0 h.5 j.5) (k'.one h.1 j.1 h.3 j.3 x.1 y.1 c.1 h.6 j.6)
        where
          pair : (x y : A × B) → x.0 ≡ y.0 → x.1 ≡ y.1 → x ≡ y
          pair x y e f = λ i. (e i, f i)

  -- ---- a choice

  pub known_either : {A B : Type 0} (s : List b.Token → Bool → A → Type 0) (s' : List b.Token → Bool → B → Type 0) (f n f' n' : Set b.Shape) (e e' : Bool) →
      Known b t s f n e → Known b t s' f' n' e' → e ≡ false → e' ≡ false → apart b f f' ≡ true →
      Known b t (SpellsEither s s') (union b f f') (union b n n') (e || e')
  known_either {A} {B} s s' f n f' n' e e' k k' z z' d = record {
    starts = λ m us ts o x q h. starts m us ts o x q h;
    some = λ w ts o x q h. some ts o x q h;
    goes = λ us vs more m o p x y q h j. goes us vs more m o p x y q h j;
    one = λ us vs o p x y q h j. alike us vs o p x y q h j;
  }
    where
      starts : (m : b.Token) (us ts : List b.Token) (o : Bool) (x : OneOf A B) → ts ≡ m ∷ us → SpellsEither s s' ts o x → is_in b (union b f f') m ≡ true
      starts m us ts o (left x) q h = union_left b i f f' m (k.starts m us ts o x q h)
      starts m us ts o (right x) q h = union_right b i f f' m (k'.starts m us ts o x q h)

      some : (ts : List b.Token) (o : Bool) (x : OneOf A B) → ts ≡ [] → SpellsEither s s' ts o x → ⊥
      some ts o (left x) q h = k.some z ts o x q h
      some ts o (right x) q h = k'.some z' ts o x q h

      -- no tree of the one begins as a tree of the other
      never : (us vs more : List b.Token) (o p : Bool) (x : A) (y : B) → s us o x → s' vs p y → (us ++ more ≡ vs) ⊎ (us ≡ vs ++ more) → ⊥
      never [] vs more o p x y h j q = k.some z [] o x refl h
      never (a ∷ us) [] more o p x y h j q = k'.some z' [] p y refl j
      never (a ∷ us) (c ∷ vs) more o p x y h j q =
          apart_is b i f f' c d (k.starts c us (a ∷ us) o x (ap (λ w. w ∷ us) (alike q)) h) (k'.starts c vs (c ∷ vs) p y refl j)
        where
          alike : ((a ∷ us) ++ more ≡ c ∷ vs) ⊎ (a ∷ us ≡ (c ∷ vs) ++ more) → a ≡ c
          alike (inl q) = same_head a c (us ++ more) vs q
          alike (inr q) = same_head a c us (vs ++ more) q

      goes : (us vs more : List b.Token) (m : b.Token) (o p : Bool) (x y : OneOf A B) → vs ≡ us ++ (m ∷ more) → SpellsEither s s' us o x → SpellsEither s s' vs p y →
          (is_in b (union b n n') m ≡ true) ⊎ ((b.fits t.tail_mark m ≡ true) × (o ≡ true))
      goes us vs more m o p (left x) (left y) q h j = elim (k.goes us vs more m o p x y q h j) [ inl a ↦ inl (union_left b i n n' m a) | inr a ↦ inr a ]
      goes us vs more m o p (left x) (right y) q h j = absurd (never us vs (m ∷ more) o p x y h j (inl (sym q)))
      goes us vs more m o p (right x) (left y) q h j = absurd (never vs us (m ∷ more) p o y x j h (inr q))
      goes us vs more m o p (right x) (right y) q h j = elim (k'.goes us vs more m o p x y q h j) [ inl a ↦ inl (union_right b i n n' m a) | inr a ↦ inr a ]

      alike : (us vs : List b.Token) (o p : Bool) (x y : OneOf A B) → us ≡ vs → SpellsEither s s' us o x → SpellsEither s s' vs p y → x ≡ y
      alike us vs o p (left x) (left y) q h j = ap left (k.one us vs o p x y q h j)
      alike us vs o p (left x) (right y) q h j = absurd (never us vs [] o p x y h j (inl (append-nil us ∙ q)))
      alike us vs o p (right x) (left y) q h j = absurd (never vs us [] p o y x j h (inr (sym (append-nil us ∙ q))))
      alike us vs o p (right x) (right y) q h j = ap right (k'.one us vs o p x y q h j)

  pub known_perhaps : {A : Type 0} (s : List b.Token → Bool → A → Type 0) (f n : Set b.Shape) (e : Bool) → Known b t s f n e → e ≡ false → Known b t (SpellsPerhaps s) f (union b f n) true
  known_perhaps {A} s f n e k z = record {
    starts = λ m us ts o x q h. starts m us ts o x q h;
    some = λ w. true_false true refl w;
    goes = λ us vs more m o p x y q h j. goes us vs more m o p x y q h j;
    one = λ us vs o p x y q h j. alike us vs o p x y q h j;
  }
    where
      starts : (m : b.Token) (us ts : List b.Token) (o : Bool) (x : Option A) → ts ≡ m ∷ us → SpellsPerhaps s ts o x → is_in b f m ≡ true
      starts m us ts o None q h = absurd (nil_cons m us (sym q ∙ h.0))
      starts m us ts o (Some x) q h = k.starts m us ts o x q h

      goes : (us vs more : List b.Token) (m : b.Token) (o p : Bool) (x y : Option A) → vs ≡ us ++ (m ∷ more) → SpellsPerhaps s us o x → SpellsPerhaps s vs p y →
          (is_in b (union b f n) m ≡ true) ⊎ ((b.fits t.tail_mark m ≡ true) × (o ≡ true))
      goes us vs more m o p x None q h j = absurd (nil_behind us m more (sym q ∙ j.0))
      goes us vs more m o p None (Some y) q h j = inl (union_left b i f n m (k.starts m more vs p y (q ∙ ap (λ w. w ++ (m ∷ more)) h.0) j))
      goes us vs more m o p (Some x) (Some y) q h j = elim (k.goes us vs more m o p x y q h j) [ inl a ↦ inl (union_right b i f n m a) | inr a ↦ inr a ]

      alike : (us vs : List b.Token) (o p : Bool) (x y : Option A) → us ≡ vs → SpellsPerhaps s us o x → SpellsPerhaps s vs p y → x ≡ y
      alike us vs o p None None q h j = refl
      alike us vs o p None (Some y) q h j = absurd (k.some z vs p y (sym q ∙ h.0) j)
      alike us vs o p (Some x) None q h j = absurd (k.some z us o x (q ∙ j.0) h)
      alike us vs o p (Some x) (Some y) q h j = ap Some (k.one us vs o p x y q h j)

  -- ---- any number

  module _ {A : Type 0} (s : List b.Token → Bool → A → Type 0) (f n : Set b.Shape) (e : Bool) (k : Known b t s f n e) (z : e ≡ false) where
    many_starts : (xs : List A) (m : b.Token) (us ts : List b.Token) (o : Bool) → ts ≡ m ∷ us → SpellsAll s ts o xs → is_in b f m ≡ true
    many_starts [] m us ts o q h = absurd (nil_cons m us (sym q ∙ h.0))
    many_starts (x ∷ xs) m us ts o q h = go h.0 (sym h.4 ∙ q) h.5
      where
        go : (w : List b.Token) → w ++ h.1 ≡ m ∷ us → s w h.2 x → is_in b f m ≡ true
        go [] q g = absurd (k.some z [] h.2 x refl g)
        go (a ∷ w) q g = k.starts m w (a ∷ w) h.2 x (ap (λ v. v ∷ w) (same_head a m (w ++ h.1) us q)) g

    many_goes : Stops b t n (λ m. is_in b f m ≡ true) → (xs ys : List A) (us vs more : List b.Token) (m : b.Token) (o p : Bool) → vs ≡ us ++ (m ∷ more) → SpellsAll s us o xs → SpellsAll s vs p ys →
        (is_in b (union b f n) m ≡ true) ⊎ ((b.fits t.tail_mark m ≡ true) × (o ≡ true))
    many_goes d xs [] us vs more m o p q h j = absurd (nil_behind us m more (sym q ∙ j.0))
    many_goes d [] (y ∷ ys) us vs more m o p q h j = inl (union_left b i f n m (many_starts (y ∷ ys) m more vs p (q ∙ ap (λ w. w ++ (m ∷ more)) h.0) j))
    many_goes d (x ∷ xs) (y ∷ ys) us vs more m o p q h j =
        elim (cut_goes s f n e (λ m. is_in b f m ≡ true) k d h.0 h.1 j.0 j.1 more m h.2 j.2 x y (sym j.4 ∙ q ∙ ap (λ w. w ++ (m ∷ more)) h.4) h.5 j.5
        (λ a v c. many_starts xs a v h.1 h.3 c h.6) (λ a v c. many_starts ys a v j.1 j.3 c j.6)) [
          | inl c ↦ second c.1 (many_goes d xs ys h.1 j.1 more m h.3 j.3 c.1 h.6 j.6)
          | inr c ↦ first c.0 c.1
        ]
      where
        second : j.1 ≡ h.1 ++ (m ∷ more) → ((is_in b (union b f n) m ≡ true) ⊎ ((b.fits t.tail_mark m ≡ true) × (h.3 ≡ true))) →
            (is_in b (union b f n) m ≡ true) ⊎ ((b.fits t.tail_mark m ≡ true) × (o ≡ true))
        second c a = elim a [
          | inl a ↦ inl a
          | inr a ↦ inr (a.0, h.7 ∙ last_open_some h.1 h.2 h.3 (λ w. d.mark m a.0 (many_starts ys m more j.1 j.3 (c ∙ ap (λ v. v ++ (m ∷ more)) w) j.6)) ∙ a.1)
        ]

        first : h.1 ≡ [] → ((is_in b n m ≡ true) ⊎ ((b.fits t.tail_mark m ≡ true) × (h.2 ≡ true))) →
            (is_in b (union b f n) m ≡ true) ⊎ ((b.fits t.tail_mark m ≡ true) × (o ≡ true))
        first c a = elim a [
          | inl a ↦ inl (union_right b i f n m a)
          | inr a ↦ inr (a.0, h.7 ∙ last_open_none h.1 h.2 h.3 c ∙ a.1)
        ]

    many_one : Stops b t n (λ m. is_in b f m ≡ true) → (xs ys : List A) (us vs : List b.Token) (o p : Bool) → us ≡ vs → SpellsAll s us o xs → SpellsAll s vs p ys → xs ≡ ys
    many_one d [] [] us vs o p q h j = refl
    many_one d [] (y ∷ ys) us vs o p q h j = absurd (k.some z j.0 j.2 y (left_nil j.0 j.1 (sym j.4 ∙ sym q ∙ h.0)) j.5)
    many_one d (x ∷ xs) [] us vs o p q h j = absurd (k.some z h.0 h.2 x (left_nil h.0 h.1 (sym h.4 ∙ q ∙ j.0)) h.5)
    many_one d (x ∷ xs) (y ∷ ys) us vs o p q h j =
        let c : (h.0 ≡ j.0) × (h.1 ≡ j.1) =
        cut_one s f n e (λ m. is_in b f m ≡ true) k d h.0 h.1 j.0 j.1 h.2 j.2 x y (sym h.4 ∙ q ∙ j.4) h.5 j.5 (λ a v c. many_starts xs a v h.1 h.3 c h.6) (λ a v c. many_starts ys a v j.1 j.3 c j.6) in
        let a : x ≡ y = k.one h.0 j.0 h.2 j.2 x y c.0 h.5 j.5 in
        let r : xs ≡ ys = many_one d xs ys h.1 j.1 h.3 j.3 c.1 h.6 j.6 in
        cc

    pub known_many : Stops b t n (λ m. is_in b f m ≡ true) → Known b t (SpellsAll s) f (union b f n) true
    known_many d = record {
      starts = λ m us ts o x q h. many_starts x m us ts o q h;
      some = λ w. true_false true refl w;
      goes = λ us vs more m o p x y q h j. many_goes d x y us vs more m o p q h j;
      one = λ us vs o p x y q h j. many_one d x y us vs o p q h j;
    }

  -- ---- any number up to what ends them

  abbrev pub SpellsEnded : {A B : Type 0} → (List b.Token → Bool → A → Type 0) → (List b.Token → Bool → B → Type 0) → List A → List b.Token → Bool → B → Type 0
  SpellsEnded s s' [] ts o y = s' ts o y
  SpellsEnded s s' (x ∷ xs) ts o y = (us : List b.Token) × (vs : List b.Token) × (p : Bool) × (ts ≡ us ++ vs) × s us p x × SpellsEnded s s' xs vs o y

  abbrev pub SpellsUntil : {A B : Type 0} → (List b.Token → Bool → A → Type 0) → (List b.Token → Bool → B → Type 0) → List b.Token → Bool → List A × B → Type 0
  SpellsUntil s s' ts o x = (us : List b.Token) × (vs : List b.Token) × (p : Bool) × (ts ≡ us ++ vs) × SpellsAll s us p x.0 × s' vs o x.1

  ended : {A B : Type 0} (s : List b.Token → Bool → A → Type 0) (s' : List b.Token → Bool → B → Type 0) (xs : List A) (y : B) (us vs : List b.Token) (p o : Bool) →
      SpellsAll s us p xs → s' vs o y → SpellsEnded s s' xs (us ++ vs) o y
  ended s s' [] y us vs p o h j = subst (λ (w : List b.Token). s' (w ++ vs) o y) (sym h.0) j
  ended s s' (x ∷ xs) y us vs p o h j = (h.0, h.1 ++ vs, h.2, ap (λ w. w ++ vs) h.4 ∙ append_assoc h.0 h.1 vs, h.5, ended s s' xs y h.1 vs h.3 o h.6 j)

  is_ended : {A B : Type 0} (s : List b.Token → Bool → A → Type 0) (s' : List b.Token → Bool → B → Type 0) (ts : List b.Token) (o : Bool) (x : List A × B) → SpellsUntil s s' ts o x → SpellsEnded s s' x.0 ts o x.1
  is_ended s s' ts o x h = subst (λ (w : List b.Token). SpellsEnded s s' x.0 w o x.1) (sym h.3) (ended s s' x.0 x.1 h.0 h.1 h.2 o h.4 h.5)

  module _ {A B : Type 0} (s : List b.Token → Bool → A → Type 0) (s' : List b.Token → Bool → B → Type 0) (f n f' n' : Set b.Shape) (e e' : Bool)
      (k : Known b t s f n e) (k' : Known b t s' f' n' e') (z : e ≡ false) (z' : e' ≡ false) (d : Stops b t n (λ m. (is_in b f m ≡ true) ⊎ (is_in b f' m ≡ true)))
      (apt : apart b f f' ≡ true) where
    until_some : (xs : List A) (y : B) (ts : List b.Token) (o : Bool) → ts ≡ [] → SpellsEnded s s' xs ts o y → ⊥
    until_some [] y ts o q h = k'.some z' ts o y q h
    until_some (x ∷ xs) y ts o q h = until_some xs y h.1 o (right_nil h.0 h.1 (sym h.3 ∙ q)) h.5

    until_starts : (xs : List A) (y : B) (m : b.Token) (us ts : List b.Token) (o : Bool) → ts ≡ m ∷ us → SpellsEnded s s' xs ts o y → (is_in b f m ≡ true) ⊎ (is_in b f' m ≡ true)
    until_starts [] y m us ts o q h = inr (k'.starts m us ts o y q h)
    until_starts (x ∷ xs) y m us ts o q h = inl (go h.0 (sym h.3 ∙ q) h.4)
      where
        go : (w : List b.Token) → w ++ h.1 ≡ m ∷ us → s w h.2 x → is_in b f m ≡ true
        go [] q g = absurd (k.some z [] h.2 x refl g)
        go (a ∷ w) q g = k.starts m w (a ∷ w) h.2 x (ap (λ v. v ∷ w) (same_head a m (w ++ h.1) us q)) g

    -- what begins with one of them doesn't begin with what ends them
    until_never : (us vs : List b.Token) (o p : Bool) (x : A) (xs : List A) (y y' : B) (w : List b.Token) → (us ++ w ≡ vs) ⊎ (us ≡ vs ++ w) → s' us o y → SpellsEnded s s' (x ∷ xs) vs p y' → ⊥
    until_never [] vs o p x xs y y' w q h j = k'.some z' [] o y refl h
    until_never (a ∷ us) vs o p x xs y y' w q h j = go j.0 (both q j.3) j.4
      where
        both : ((a ∷ us) ++ w ≡ vs) ⊎ (a ∷ us ≡ vs ++ w) → vs ≡ j.0 ++ j.1 → ((a ∷ us) ++ w ≡ j.0 ++ j.1) ⊎ (a ∷ us ≡ j.0 ++ (j.1 ++ w))
        both (inl q) c = inl (q ∙ c)
        both (inr q) c = inr (q ∙ ap (λ v. v ++ w) c ∙ append_assoc j.0 j.1 w)

        go : (v : List b.Token) → ((a ∷ us) ++ w ≡ v ++ j.1) ⊎ (a ∷ us ≡ v ++ (j.1 ++ w)) → s v j.2 x → ⊥
        go [] c g = k.some z [] j.2 x refl g
        go (m ∷ v) c g = apart_is b i f f' a apt (k.starts a v (m ∷ v) j.2 x (ap (λ u. u ∷ v) (sym (alike c))) g) (k'.starts a us (a ∷ us) o y refl h)
          where
            alike : ((a ∷ us) ++ w ≡ (m ∷ v) ++ j.1) ⊎ (a ∷ us ≡ (m ∷ v) ++ (j.1 ++ w)) → a ≡ m
            alike (inl c) = same_head a m (us ++ w) (v ++ j.1) c
            alike (inr c) = same_head a m us (v ++ (j.1 ++ w)) c

    until_goes : (xs ys : List A) (x' y' : B) (us vs more : List b.Token) (m : b.Token) (o p : Bool) → vs ≡ us ++ (m ∷ more) → SpellsEnded s s' xs us o x' → SpellsEnded s s' ys vs p y' →
        (is_in b n' m ≡ true) ⊎ ((b.fits t.tail_mark m ≡ true) × (o ≡ true))
    until_goes [] [] x' y' us vs more m o p q h j = k'.goes us vs more m o p x' y' q h j
    until_goes [] (y ∷ ys) x' y' us vs more m o p q h j = absurd (until_never us vs o p y ys x' y' (m ∷ more) (inl (sym q)) h j)
    until_goes (x ∷ xs) [] x' y' us vs more m o p q h j = absurd (until_never vs us p o x xs y' x' (m ∷ more) (inr q) j h)
    until_goes (x ∷ xs) (y ∷ ys) x' y' us vs more m o p q h j =
        elim (cut_goes s f n e (λ m. (is_in b f m ≡ true) ⊎ (is_in b f' m ≡ true)) k d h.0 h.1 j.0 j.1 more m h.2 j.2 x y (sym j.3 ∙ q ∙ ap (λ w. w ++ (m ∷ more)) h.3) h.4 j.4
        (λ a v c. until_starts xs x' a v h.1 o c h.5) (λ a v c. until_starts ys y' a v j.1 p c j.5)) [
          | inl c ↦ until_goes xs ys x' y' h.1 j.1 more m o p c.1 h.5 j.5
          | inr c ↦ absurd (until_some xs x' h.1 o c.0 h.5)
        ]

    until_one : (xs ys : List A) (x' y' : B) (us vs : List b.Token) (o p : Bool) → us ≡ vs → SpellsEnded s s' xs us o x' → SpellsEnded s s' ys vs p y' → (xs ≡ ys) × (x' ≡ y')
    until_one [] [] x' y' us vs o p q h j = (refl, k'.one us vs o p x' y' q h j)
    until_one [] (y ∷ ys) x' y' us vs o p q h j = absurd (until_never us vs o p y ys x' y' [] (inl (append-nil us ∙ q)) h j)
    until_one (x ∷ xs) [] x' y' us vs o p q h j = absurd (until_never vs us p o x xs y' x' [] (inr (sym (append-nil us ∙ q))) j h)
    until_one (x ∷ xs) (y ∷ ys) x' y' us vs o p q h j =
        let c : (h.0 ≡ j.0) × (h.1 ≡ j.1) =
        cut_one s f n e (λ m. (is_in b f m ≡ true) ⊎ (is_in b f' m ≡ true)) k d h.0 h.1 j.0 j.1 h.2 j.2 x y (sym h.3 ∙ q ∙ j.3) h.4 j.4
        (λ a v c. until_starts xs x' a v h.1 o c h.5) (λ a v c. until_starts ys y' a v j.1 p c j.5) in
        let a : x ≡ y = k.one h.0 j.0 h.2 j.2 x y c.0 h.4 j.4 in
        let r : (xs ≡ ys) × (x' ≡ y') = until_one xs ys x' y' h.1 j.1 o p c.1 h.5 j.5 in
        ((let r0 : xs ≡ ys = r.0 in cc), r.1)

    pub known_until : Known b t (SpellsUntil s s') (union b f f') n' e'
    known_until = record {
      starts = λ m us ts o x q h. elim (until_starts x.0 x.1 m us ts o q (is_ended s s' ts o x h)) [ inl a ↦ union_left b i f f' m a | inr a ↦ union_right b i f f' m a ];
      some = λ w ts o x q h. until_some x.0 x.1 ts o q (is_ended s s' ts o x h);
      goes = λ us vs more m o p x y q h j. until_goes x.0 y.0 x.1 y.1 us vs more m o p q (is_ended s s' us o x h) (is_ended s s' vs p y j);
      one = λ us vs o p x y q h j. pair x y (until_one x.0 y.0 x.1 y.1 us vs o p q (is_ended s s' us o x h) (is_ended s s' vs p y j));
    }
      where
        pair : (x y : List A × B) → (x.0 ≡ y.0) × (x.1 ≡ y.1) → x ≡ y
        pair x y e = λ i. (e.0 i, e.1 i)

  -- ---- a tail

  pub known_tail : {A B : Type 0} (s : List b.Token → Bool → A → Type 0) (w : b.Token → Bool) (s' : List b.Token → Bool → B → Type 0) (f n f' n' : Set b.Shape) (e' : Bool) →
      Known b t s f n false → Known b t s' f' n' e' → ((m : b.Token) → w m ≡ true → b.fits t.tail_mark m ≡ true) → ((m : b.Token) → is_in b n m ≡ true → b.fits t.tail_mark m ≡ true → ⊥) →
      Known b t (λ ts o (x : A × Option B). SpellsTail s w s' ts o x.0 x.1) f (union b n n') false
  known_tail {A} {B} s w s' f n f' n' e' k k' a d = record {
    starts = λ m us ts o x q h. starts x.0 x.1 m us ts o q h;
    some = λ c ts o x q h. some x.0 x.1 ts o q h;
    goes = λ us vs more m o p x y q h j. goes x.0 y.0 x.1 y.1 us vs more m o p q h j;
    one = λ us vs o p x y q h j. pair x y (alike x.0 y.0 x.1 y.1 us vs o p q h j);
  }
    where
      pair : (x y : A × Option B) → (x.0 ≡ y.0) × (x.1 ≡ y.1) → x ≡ y
      pair x y e = λ i. (e.0 i, e.1 i)

      starts : (x : A) (y : Option B) (m : b.Token) (us ts : List b.Token) (o : Bool) → ts ≡ m ∷ us → SpellsTail s w s' ts o x y → is_in b f m ≡ true
      starts x None m us ts o q h = k.starts m us ts h.0 x q h.1
      starts x (Some y) m us ts o q h = go h.0 (sym h.3 ∙ q) h.4
        where
          go : (v : List b.Token) → v ++ (h.1 ∷ h.2) ≡ m ∷ us → s v false x → is_in b f m ≡ true
          go [] q g = absurd (k.some refl [] false x refl g)
          go (c ∷ v) q g = k.starts m v (c ∷ v) false x (ap (λ z. z ∷ v) (same_head c m (v ++ (h.1 ∷ h.2)) us q)) g

      some : (x : A) (y : Option B) (ts : List b.Token) (o : Bool) → ts ≡ [] → SpellsTail s w s' ts o x y → ⊥
      some x None ts o q h = k.some refl ts h.0 x q h.1
      some x (Some y) ts o q h = nil_behind h.0 h.1 h.2 (sym h.3 ∙ q)

      -- behind a tree that isn't open no tree goes on with the mark of a tail
      never : (x y : A) (us vs more : List b.Token) (m : b.Token) (p : Bool) → vs ≡ us ++ (m ∷ more) → s us false x → s vs p y → w m ≡ true → ⊥
      never x y us vs more m p q h j g = elim (k.goes us vs more m false p x y q h j) [ inl c ↦ d m c (a m g) | inr c ↦ true_false false c.1 refl ]

      -- trees with tails are cut at one place
      cut : (x y : A) (us vs us' vs' : List b.Token) (m m' : b.Token) → us ++ (m ∷ vs) ≡ us' ++ (m' ∷ vs') → s us false x → s us' false y → w m ≡ true → w m' ≡ true → (us ≡ us') × (vs ≡ vs')
      cut x y us vs us' vs' m m' q h j g g' = elim (cuts us (m ∷ vs) us' (m' ∷ vs') q) [
        | same c e ↦ (c, same_tail m m' vs vs' e)
        | longer z v c e ↦ absurd (never y x us' us v z false c j h (subst (λ (r : b.Token). w r ≡ true) (same_head m' z vs' (v ++ (m ∷ vs)) e) g'))
        | shorter z v c e ↦ absurd (never x y us us' v z false c h j (subst (λ (r : b.Token). w r ≡ true) (same_head m z vs (v ++ (m' ∷ vs')) e) g))
      ]

      alike : (x x' : A) (y y' : Option B) (us vs : List b.Token) (o p : Bool) → us ≡ vs → SpellsTail s w s' us o x y → SpellsTail s w s' vs p x' y' → (x ≡ x') × (y ≡ y')
      alike x x' None None us vs o p q h j = (k.one us vs h.0 j.0 x x' q h.1 j.1, refl)
      alike x x' None (Some y') us vs o p q h j = absurd (never x' x j.0 us j.2 j.1 h.0 (q ∙ j.3) j.4 h.1 j.5)
      alike x x' (Some y) None us vs o p q h j = absurd (never x x' h.0 vs h.2 h.1 j.0 (sym q ∙ h.3) h.4 j.1 h.5)
      alike x x' (Some y) (Some y') us vs o p q h j =
          let c : (h.0 ≡ j.0) × (h.2 ≡ j.2) = cut x x' h.0 h.2 j.0 j.2 h.1 j.1 (sym h.3 ∙ q ∙ j.3) h.4 j.4 h.5 j.5 in
          (k.one h.0 j.0 false false x x' c.0 h.4 j.4, ap Some (k'.one h.2 j.2 o p y y' c.1 h.6 j.6))

      goes : (x x' : A) (y y' : Option B) (us vs more : List b.Token) (m : b.Token) (o p : Bool) → vs ≡ us ++ (m ∷ more) → SpellsTail s w s' us o x y → SpellsTail s w s' vs p x' y' →
          (is_in b (union b n n') m ≡ true) ⊎ ((b.fits t.tail_mark m ≡ true) × (o ≡ true))
      goes x x' None None us vs more m o p q h j = elim (k.goes us vs more m h.0 j.0 x x' q h.1 j.1) [ inl c ↦ inl (union_left b i n n' m c) | inr c ↦ inr (c.0, h.2) ]
      goes x x' None (Some y') us vs more m o p q h j = elim (cuts us (m ∷ more) j.0 (j.1 ∷ j.2) (sym q ∙ j.3)) [
        | same c e ↦ inr (subst (λ (r : b.Token). b.fits t.tail_mark r ≡ true) (sym (same_head m j.1 more j.2 e)) (a j.1 j.5), h.2)
        | longer z v c e ↦ absurd (never x' x j.0 us v z h.0 c j.4 h.1 (subst (λ (r : b.Token). w r ≡ true) (same_head j.1 z j.2 (v ++ (m ∷ more)) e) j.5))
        | shorter z v c e ↦ before z v c e
      ]
        where
          before : (z : b.Token) (v : List b.Token) → j.0 ≡ us ++ (z ∷ v) → m ∷ more ≡ z ∷ (v ++ (j.1 ∷ j.2)) → (is_in b (union b n n') m ≡ true) ⊎ ((b.fits t.tail_mark m ≡ true) × (o ≡ true))
          before z v c e = elim (k.goes us j.0 v m h.0 false x x' (c ∙ ap (λ r. us ++ (r ∷ v)) (sym (same_head m z more (v ++ (j.1 ∷ j.2)) e))) h.1 j.4) [
            | inl c ↦ inl (union_left b i n n' m c)
            | inr c ↦ inr (c.0, h.2)
          ]
      goes x x' (Some y) None us vs more m o p q h j =
          absurd (never x x' h.0 vs (h.2 ++ (m ∷ more)) h.1 j.0 (q ∙ ap (λ r. r ++ (m ∷ more)) h.3 ∙ append_assoc h.0 (h.1 ∷ h.2) (m ∷ more)) h.4 j.1 h.5)
      goes x x' (Some y) (Some y') us vs more m o p q h j =
          let c : (h.0 ≡ j.0) × (h.2 ++ (m ∷ more) ≡ j.2) =
          cut x x' h.0 (h.2 ++ (m ∷ more)) j.0 j.2 h.1 j.1 (sym (append_assoc h.0 (h.1 ∷ h.2) (m ∷ more)) ∙ ap (λ r. r ++ (m ∷ more)) (sym h.3) ∙ sym q ∙ j.3) h.4 j.4 h.5 j.5 in
          elim (k'.goes h.2 j.2 more m o p y y' (sym c.1) h.6 j.6) [ inl c ↦ inl (union_right b i n n' m c) | inr c ↦ inr c ]
