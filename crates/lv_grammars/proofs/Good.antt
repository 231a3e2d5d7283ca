-- What readers ask of grammars, computed.
use Rattle.std.proofs.Common.{◌≡◌, ℕ, List, [], ◌∷◌, ◌++◌, Bool, true, false, ◌&&◌, not, refl, ap, sym, subst, ◌∙◌, inl, inr}
use Rattle.lv_grammars.specs.Grammar.{Base, Gram, call, both, many, until, tail}
use Rattle.lv_grammars.specs.Spelling.{allows, Rules, Language, inner}
use Rattle.lv_grammars.specs.Sets.{some_of, among, shapes, these, Table, is_in, apart, may_be_empty, first, next, is_good}
use Rattle.lv_grammars.specs.Nexts.{Next, LacksAll, lacks_none, lacks_also, Lacks, Opens, Outside}
use Rattle.lv_grammars.specs.Reading.{Fails, Passes}
use Rattle.lv_grammars.specs.Facts.{IsBase, IsLanguage, IsWithin, Facts}
use Rattle.lv_grammars.proofs.Lists.{true_false, of_not, not_or, same_head, nil_cons}
use Rattle.lv_grammars.proofs.SetLaws.{apart_is, of_one}
use Rattle.lv_grammars.proofs.Calls.{is_within, inner_within}
use Rattle.lv_grammars.proofs.Grammars.{four_true, five_true, nine_true}
use Rattle.lv_grammars.proofs.FactsOf.{facts_of}
use Rattle.lv_grammars.proofs.Readers.{Spelled, Absent, absent_fails}
use Rattle.lv_grammars.proofs.Pairs.{Both}
use Rattle.lv_grammars.proofs.Repeats.{Turn, turn, last, more}
use Rattle.lv_grammars.proofs.Tails.{Tail}
use Rattle.lv_grammars.proofs.Rules.{call_high}
use Rattle.lv_grammars.proofs.Opening.{opens_with, tree}

-- a language without limits that is as its table says, and the same within limits
pub record Setting (b : Base) (t : Table b) (all low : Language b) : Type 1 where
  pub base : IsBase b
  pub language : IsLanguage b t all
  pub within : IsWithin b low all

pub inner_setting : {b : Base} {t : Table b} {all low : Language b} (r : b.Rule) → Setting b t all low → Setting b t all (inner b low r)
inner_setting {b} {t} {all} {low} r s = record { base = s.base; language = s.language; within = inner_within b low all r s.within }

pub outside_nothing : {b : Base} {t : Table b} {A : Type 0} {g : Gram b A} → Outside b t g []
outside_nothing = record { out = λ m us e. absurd (nil_cons m us (sym e)) }

pub outside_token : {b : Base} {t : Table b} {A : Type 0} {g : Gram b A} {m : b.Token} {us : List b.Token} → is_in b (first b t g) m ≡ false → Outside b t g (m ∷ us)
outside_token {b} {t} {g = g} {m = m} {us = us} f = record { out = λ n vs e. subst (λ (v : b.Token). is_in b (first b t g) v ≡ false) (same_head m n us vs e) f }

none_in : (b : Base) (ps : List b.Shape) (ts : List b.Token) → LacksAll b ts ps → (m : b.Token) (us : List b.Token) → ts ≡ m ∷ us → some_of (λ p. b.fits p m) ps ≡ false
none_in b [] ts lacks_none m us e = refl
none_in b (p ∷ ps) ts (lacks_also f k) m us e = not_or (b.fits p m) (some_of (λ p. b.fits p m) ps) (f.out m us e) (none_in b ps ts k m us e)

-- of grammars that begin with a token of these shapes
pub outside_these : {b : Base} {t : Table b} {A : Type 0} {g : Gram b A} {ts : List b.Token} {ps : List b.Shape} → first b t g ≡ these ps → LacksAll b ts ps → Outside b t g ts
outside_these {b} {ts = ts} {ps = ps} q f = record { out = λ m us e. ap (λ v. is_in b v m) q ∙ none_in b ps ts f m us e }

-- of grammars that begin with a token of one shape alone
pub outside_one : {b : Base} {t : Table b} {A : Type 0} {g : Gram b A} {ts : List b.Token} {p : b.Shape} → first b t g ≡ these (p ∷ []) → Lacks b p ts → Outside b t g ts
outside_one {b} {p = p} q f = record { out = λ m us e. ap (λ v. is_in b v m) q ∙ not_or (b.fits p m) false (f.out m us e) refl }

module _ {b : Base} {t : Table b} {all low : Language b} (s : Setting b t all low) where
  facts : {A : Type 0} (g : Gram b A) → is_good b t g ≡ true → Facts b t all g
  facts g z = facts_of b t all s.base s.language g z

  up : {A : Type 0} (g : Gram b A) (us : List b.Token) → Spelled b low g us → Spelled b all g us
  up g us c = (c.0, c.1, is_within b low all s.within g us c.0 c.1 c.2)

  pub absent_of : {A : Type 0} {g : Gram b A} {ts : List b.Token} → is_good b t g ≡ true → may_be_empty b g ≡ false → Outside b t g ts → Absent b all low g ts
  absent_of {g = g} z e f = record {
    off = λ m us vs q c. true_false (is_in b (first b t g) m) ((facts g z).starts m vs c.0 c.1 c.2) (f.out m us q);
    some = λ c. (facts g z).some e c.0 c.1 c.2;
    within = up g;
  }

  -- the next token is of a shape that begins no tree
  pub outside_next : {A : Type 0} {g : Gram b A} {p : b.Shape} {ts us : List b.Token} {m : b.Token} → apart b (these (p ∷ [])) (first b t g) ≡ true → Next b p ts m us → Outside b t g ts
  outside_next {g = g} {p = p} {ts = ts} {us = us} {m = m} z n = record { out = λ k vs e. go (is_in b (first b t g) k) refl (same_head m k us vs (sym n.cut ∙ e)) }
    where
      go : {k : b.Token} (v : Bool) → is_in b (first b t g) k ≡ v → m ≡ k → is_in b (first b t g) k ≡ false
      go false q e = q
      go {k} true q e = absurd (apart_is b s.base (these (p ∷ [])) (first b t g) m z (of_one b p m n.fits) (subst (λ v. is_in b (first b t g) v ≡ true) (sym e) q))

  -- where no tree begins with the next token nothing is read
  pub fails_outside : {A : Type 0} {g : Gram b A} {ts : List b.Token} → is_good b t g ≡ true → may_be_empty b g ≡ false → Outside b t g ts → Fails b all g ts ts
  fails_outside {g = g} z e f = let w : (us : List b.Token) × Spelled b all g us = tree b t all s.base s.language g in absent_fails w.0 w.1 (absent_of z e f)

  pub call_outside : (r : b.Rule) {ts : List b.Token} → Outside b t (call r) ts → Fails b all (call r) ts ts
  call_outside r f = fails_outside refl refl f

  -- where one does, in a rule that the limits don't allow, a limit is passed
  pub call_passes : (r : b.Rule) {ts : List b.Token} → allows (low.limits (b.count r)) ≡ false → Opens b all (call r) ts → Passes b all low (call r) ts ts
  call_passes r {ts} a o = call_high s.within r ts a o

  -- the next token is of a shape of which it is computed, n rules deep, that trees begin with it
  pub opens : (n : ℕ) {p : b.Shape} {A : Type 0} {g : Gram b A} {ts us : List b.Token} {m : b.Token} → among b (shapes b all.rules n g) p ≡ true → Next b p ts m us → Opens b all g ts
  opens n {p} {us = us} {m = m} e f = record { token = m; others = us; cut = f.cut; alive = opens_with b t all s.base s.language n p m e f.fits }

  pub call_absent : {r : b.Rule} {ts : List b.Token} → Outside b t (call r) ts → Absent b all low (call r) ts
  call_absent f = absent_of refl refl f

  -- the second begins with no token with which the first goes on
  apart_both : {A B : Type 0} (g : Gram b A) (h : Gram b B) → is_good b t g ≡ true →
      ((m : b.Token) (vs : List b.Token) → Spelled b all h (m ∷ vs) → (is_in b (next b t g) m ≡ true → ⊥) × (is_in b (these (t.tail_mark ∷ [])) m ≡ true → ⊥)) → Both b all low g h
  apart_both g h z f = record {
    apart = λ us k vs c w d. elim ((facts g z).goes us c.0 c.1 k c.2 w) [ inl n ↦ (f k vs d).0 n | inr n ↦ (f k vs d).1 (of_one b t.tail_mark k n.0) ];
    left = up g;
    right = up h;
    witness = tree b t all s.base s.language h;
  }

  apart_first : {A B C : Type 0} (g : Gram b A) (h : Gram b B) (k : Gram b C) → is_good b t g ≡ true → is_good b t k ≡ true → apart b (next b t g) (first b t k) ≡ true → apart b (these (t.tail_mark ∷ [])) (first b t k) ≡ true →
      ((m : b.Token) (vs : List b.Token) → Spelled b all h (m ∷ vs) → is_in b (first b t k) m ≡ true) → Both b all low g h
  apart_first g h k z y n j f = apart_both g h z (λ m vs d. (
    (λ e. apart_is b s.base (next b t g) (first b t k) m n e (f m vs d)),
    (λ e. apart_is b s.base (these (t.tail_mark ∷ [])) (first b t k) m j e (f m vs d)),
  ))

  pub both_of : {A B : Type 0} {g : Gram b A} {h : Gram b B} → is_good b t (both g h) ≡ true → Both b all low g h
  both_of {g = g} {h = h} z =
      let w : (is_good b t g ≡ true) × (is_good b t h ≡ true) × (apart b (next b t g) (first b t h) ≡ true) × (apart b (these (t.tail_mark ∷ [])) (first b t h) ≡ true) = four_true _ _ _ _ z in
      apart_first g h h w.0 w.1 w.2 w.3 (λ m vs d. (facts h w.1).starts m vs d.0 d.1 d.2)

  pub many_both : {A : Type 0} {g : Gram b A} → is_good b t (many g) ≡ true → Both b all low g (many g)
  many_both {g = g} z =
      let w : (is_good b t g ≡ true) × (not (may_be_empty b g) ≡ true) × (apart b (next b t g) (first b t g) ≡ true) × (apart b (these (t.tail_mark ∷ [])) (first b t g) ≡ true) = four_true _ _ _ _ z in
      apart_first g (many g) g w.0 w.0 w.2 w.3 (λ m vs d. (facts (many g) z).starts m vs d.0 d.1 d.2)

  -- the parts of what is asked of any number up to what ends them
  record Until {A B : Type 0} (g : Gram b A) (h : Gram b B) : Type 0 where
    good_g : is_good b t g ≡ true
    good_h : is_good b t h ≡ true
    some_g : may_be_empty b g ≡ false
    some_h : may_be_empty b h ≡ false
    next_g : apart b (next b t g) (first b t g) ≡ true
    next_h : apart b (next b t g) (first b t h) ≡ true
    mark_g : apart b (these (t.tail_mark ∷ [])) (first b t g) ≡ true
    mark_h : apart b (these (t.tail_mark ∷ [])) (first b t h) ≡ true

  parts : {A B : Type 0} (g : Gram b A) (h : Gram b B) → is_good b t (until g h) ≡ true → Until g h
  parts g h z =
      let w : (is_good b t g ≡ true) × (is_good b t h ≡ true) × (not (may_be_empty b g) ≡ true) × (not (may_be_empty b h) ≡ true) × (apart b (next b t g) (first b t g) ≡ true) ×
      (apart b (next b t g) (first b t h) ≡ true) × (apart b (first b t g) (first b t h) ≡ true) × (apart b (these (t.tail_mark ∷ [])) (first b t g) ≡ true) × (apart b (these (t.tail_mark ∷ [])) (first b t h) ≡ true) =
      nine_true _ _ _ _ _ _ _ _ _ z in
      record {
        good_g = w.0;
        good_h = w.1;
        some_g = of_not _ w.2;
        some_h = of_not _ w.3;
        next_g = w.4;
        next_h = w.5;
        mark_g = w.7;
        mark_h = w.8;
      }

  pub until_both : {A B : Type 0} {g : Gram b A} {h : Gram b B} → is_good b t (until g h) ≡ true → Both b all low g (until g h)
  until_both {g = g} {h = h} z = apart_both g (until g h) k.good_g (λ m vs d. go m vs (turn b all g h (m ∷ vs) d))
    where
      k : Until g h
      k = parts g h z

      by_g : (m : b.Token) → is_in b (first b t g) m ≡ true → (is_in b (next b t g) m ≡ true → ⊥) × (is_in b (these (t.tail_mark ∷ [])) m ≡ true → ⊥)
      by_g m q = ((λ n. apart_is b s.base (next b t g) (first b t g) m k.next_g n q), (λ n. apart_is b s.base (these (t.tail_mark ∷ [])) (first b t g) m k.mark_g n q))

      by_h : (m : b.Token) → is_in b (first b t h) m ≡ true → (is_in b (next b t g) m ≡ true → ⊥) × (is_in b (these (t.tail_mark ∷ [])) m ≡ true → ⊥)
      by_h m q = ((λ n. apart_is b s.base (next b t g) (first b t h) m k.next_h n q), (λ n. apart_is b s.base (these (t.tail_mark ∷ [])) (first b t h) m k.mark_h n q))

      head : (m : b.Token) (vs fore behind : List b.Token) → m ∷ vs ≡ fore ++ behind → Spelled b all g fore → is_in b (first b t g) m ≡ true
      head m vs [] behind q d = absurd ((facts g k.good_g).some k.some_g d.0 d.1 d.2)
      head m vs (n ∷ fore) behind q d = subst (λ (v : b.Token). is_in b (first b t g) v ≡ true) (sym (same_head m n vs (fore ++ behind) q)) ((facts g k.good_g).starts n fore d.0 d.1 d.2)

      go : (m : b.Token) (vs : List b.Token) → Turn b all g h (m ∷ vs) → (is_in b (next b t g) m ≡ true → ⊥) × (is_in b (these (t.tail_mark ∷ [])) m ≡ true → ⊥)
      go m vs (last d) = by_h m ((facts h k.good_h).starts m vs d.0 d.1 d.2)
      go m vs (more d) = by_g m (head m vs d.2.0 d.2.1 d.2.4 (d.2.2, d.1.0, d.2.5))

  pub tail_of : {B : Type 0} {r : b.Rule} {p : b.Shape} {h : Gram b B} → is_good b t (tail r p h) ≡ true → Tail b all low r p h
  tail_of {r = r} {p = p} {h = h} z =
      let w : (is_good b t h ≡ true) × (not (may_be_empty b h) ≡ true) × (b.same p t.tail_mark ≡ true) × (apart b (t.rule_next r) (these (t.tail_mark ∷ [])) ≡ true) = four_true _ _ _ _ z in
      go w.2 w.3
    where
      go : b.same p t.tail_mark ≡ true → apart b (t.rule_next r) (these (t.tail_mark ∷ [])) ≡ true → Tail b all low r p h
      go e n = record {
        closed = λ us m x c f w. elim ((facts (call r) refl).goes us false x m c w) [
          | inl k ↦ apart_is b s.base (t.rule_next r) (these (t.tail_mark ∷ [])) m n k (of_one b t.tail_mark m (mark m f))
          | inr k ↦ true_false false k.1 refl
        ];
        hangs = λ us m x c f. (facts (call r) refl).hangs us x m c (mark m f);
        left = λ us o x c. is_within b low all s.within (call r) us o x c;
        right = up h;
        witness = tree b t all s.base s.language h;
      }
        where
          mark : (m : b.Token) → b.fits p m ≡ true → b.fits t.tail_mark m ≡ true
          mark m f = subst (λ (q : b.Shape). b.fits q m ≡ true) (s.base.one p t.tail_mark e) f

  -- a rule's grammar can be read by its next token alone
  pub rule_good : (r : b.Rule) → is_good b t (low.rules r) ≡ true
  rule_good r = subst (λ (rs : Rules b). is_good b t (rs r) ≡ true) (sym s.within.rules) (first_of_five _ _ _ _ _ (s.language.rules r))
    where
      first_of_five : (a c d e f : Bool) → (a && c && d && e && f) ≡ true → a ≡ true
      first_of_five a c d e f z = (five_true a c d e f z).0
