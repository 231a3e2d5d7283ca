-- Targets that name a bit twice, aim by aim.
use Rattle.std.proofs.Common.{◌≡◌, ℕ, zero, suc, ◌+◌, ◌<◌, ◌≤◌, Bool, true, false, ◌&&◌, ◌||◌, List, [], ◌∷◌, ◌++◌, map, flat_map, length, take, drop, get_or, refl, sym, ◌∙◌, ap, subst, arith}
use Rattle.std.specs.Prelude.{All}
use Rattle.std.specs.List.{list_any}
use Rattle.std.proofs.lemmas.Grind.{flat_map-append}
use Rattle.lv_source.specs.Names.{known}
use Rattle.lv_source.specs.Places.{Bit, has_bit}
use Rattle.lv_source.specs.Meaning.{bits_named}
use Rattle.lv_source.specs.Effect.{Piece}
use Rattle.lv_source.specs.Flow.{writes_of}
use Rattle.lv_source.specs.PartRules.{has_twice}
use Rattle.lv_source.specs.Views as views
use Rattle.lv_source.specs.Views.{aim_of}
use Rattle.lv_source.proofs.Tests.{and-both, or-left, or-right}
use Rattle.lv_source.proofs.Summaries.{append-none, some_bit_of, bit_is_some}
use Rattle.lv_flat.specs.Signals.{Signals}
use Rattle.lv_spans.specs.declared.span.Span.{Span}
use Rattle.lv_spans.specs.Sets.{Cell, Masks, has, is_set, is_under}
use Rattle.lv_spans.specs.Domain.{is_bit, bit_of, spans_have, IsSpan, IsWithin, IsSetOf, Meets}
use Rattle.lv_extents.specs.declared.extent.Aim.{Aim}
use Rattle.lv_extents.specs.Extents.{Each, IsAim}
use Rattle.lv_extents.proofs.Once.{twice-append}
use Rattle.lv_paths.specs.Bits.{MeetsSome}
use Rattle.lv_paths.proofs.Lists.{no-way, any-at}
use Rattle.lv_paths.proofs.Sequences.{set-more}

pub meets-some : (S : Signals) (set : Masks) (xs : List Span) (k : ℕ) (s : Span) → k < length xs → s ≡ get_or xs k s → Meets S set s → MeetsSome S set xs
meets-some S set xs k s lt e m = record {
  cell = m.0;
  at = m.1;
  there = m.2;
  under = any-at (λ (x : Span). is_under x.signal x.element m.0 && is_set x.mask m.1) xs k s lt e (and-both (is_under s.signal s.element m.0) (is_set s.mask m.1) m.3 m.4);
  inside = m.5;
}

both-false : (a u m g : Bool) → (a && g) ≡ false → (u && (m && g)) ≡ false → ((a || (u && m)) && g) ≡ false
both-false true u m g h k = h
both-false false true true g h k = k
both-false false true false g h k = refl
both-false false false m g h k = refl

-- what is apart from some spans, and from one more
pub apart-more : (a u m g t : Bool) → t ≡ (a || (u && m)) → (a && g) ≡ false → (u && (m && g)) ≡ false → (t && g) ≡ false
apart-more a u m g t e h k = ap (λ v. v && g) e ∙ both-false a u m g h k

-- ---- aims side by side

record Beside (S : Signals) (as' : List views.Aim) (k : ℕ) (x : Aim) : Type 0 where
  aim : views.Aim
  next : take (k + 1) as' ≡ take k as' ++ aim ∷ []
  all : as' ≡ take (k + 1) as' ++ drop (k + 1) as'
  is : IsAim S aim x

beside : (S : Signals) (as' : List views.Aim) (xs : List Aim) (k : ℕ) (x : Aim) → Each (IsAim S) as' xs → k < length xs → x ≡ get_or xs k x → Beside S as' k x
beside S [] [] k x h lt e = absurd (omega arith)
beside S [] (y ∷ ys) k x h lt e = absurd h
beside S (a ∷ as') [] k x h lt e = absurd h
beside S (a ∷ as') (y ∷ ys) zero x h lt e = record { aim = a; next = refl; all = refl; is = subst (λ (z : Aim). IsAim S a z) (sym e) h.0 }
beside S (a ∷ as') (y ∷ ys) (suc k) x h lt e =
    let r : Beside S as' k x = beside S as' ys k x h.1 (omega arith) e in
    let n : suc k + 1 ≡ suc (k + 1) = omega arith in
    record {
      aim = r.aim;
      next = ap (λ m. take m (a ∷ as')) n ∙ ap (λ zs. a ∷ zs) r.next;
      all = ap (λ zs. a ∷ zs) r.all ∙ ap (λ m. take m (a ∷ as') ++ drop m (a ∷ as')) (sym n);
      is = r.is;
    }

abbrev pub aim_bits : List views.Aim → List Bit
aim_bits as' = flat_map (λ (a : views.Aim). a.bits) as'

-- the set has the bits of the first aims, none of them twice
pub record IsOnce (S : Signals) (as' : List views.Aim) (m : Masks) (k : ℕ) : Type 0 where
  pub set : IsSetOf S (aim_bits (take k as')) (has m)
  pub within : IsWithin S m
  pub once : has_twice (aim_bits (take k as')) ≡ false

pub once-none : (S : Signals) (as' : List views.Aim) (set : Masks) → ((q : Cell) (i : ℕ) → has set q i ≡ false) → IsWithin S set → IsOnce S as' set 0
once-none S as' set h w = record { set = record { same = λ q i t. h q i; inside = λ b t. cc }; within = w; once = refl }

module _ (S : Signals) (as' : List views.Aim) (xs : List Aim) (k : ℕ) (x : Aim) (set : Masks) (h : Each (IsAim S) as' xs) (lt : k < length xs) (e : x ≡ get_or xs k x) (o : IsOnce S as' set k) where
  abbrev r : Beside S as' k x
  r = beside S as' xs k x h lt e

  abbrev before : List Bit
  before = aim_bits (take k as')

  bits-next : (b : Beside S as' k x) → aim_bits (take (k + 1) as') ≡ before ++ b.aim.bits
  bits-next b =
      ap aim_bits b.next ∙ (flat_map-append (λ (a : views.Aim). a.bits) (take k as') (b.aim ∷ []) ∙ ap (λ bs. before ++ bs) (append-none b.aim.bits))

  -- a bit of the aim that the set has
  found : (b : Beside S as' k x) → MeetsSome S set x.bits → has_twice (aim_bits as') ≡ true
  found b m =
      let bit : Bit = bit_of S m.cell m.at in
      let one : has_bit before bit ≡ true = sym (o.set.same m.cell m.at m.there) ∙ m.inside in
      let other : has_bit b.aim.bits bit ≡ true = sym (b.is.bits.set.same m.cell m.at m.there) ∙ m.under in
      let shared : list_any (has_bit b.aim.bits) before ≡ true = bit_is_some (has_bit b.aim.bits) before bit one other in
      let next : has_twice (before ++ b.aim.bits) ≡ true =
      twice-append before b.aim.bits ∙ or-right (has_twice before) _ (or-right (has_twice b.aim.bits) (list_any (has_bit b.aim.bits) before) shared) in
      let rest : List Bit = aim_bits (drop (k + 1) as') in
      let cut : aim_bits as' ≡ (before ++ b.aim.bits) ++ rest =
      ap aim_bits b.all ∙ (flat_map-append (λ (a : views.Aim). a.bits) (take (k + 1) as') (drop (k + 1) as') ∙ ap (λ bs. bs ++ rest) (bits-next b)) in
      ap has_twice cut ∙ (twice-append (before ++ b.aim.bits) rest ∙ or-left (has_twice (before ++ b.aim.bits)) _ next)

  pub twice-found : (IsWithin S set → All (IsSpan S) x.bits → MeetsSome S set x.bits) → true ≡ has_twice (aim_bits as')
  twice-found f = sym (found r (f o.within r.is.bits.each))

  module _ (new : Masks) (apart : (q : Cell) (i : ℕ) → (spans_have x.bits q i && has set q i) ≡ false) (added : (q : Cell) (i : ℕ) → has new q i ≡ (has set q i || spans_have x.bits q i))
      (within : IsWithin S set → All (IsSpan S) x.bits → IsWithin S new) where
    none-shared : (b : Beside S as' k x) (u : Bool) → list_any (has_bit b.aim.bits) before ≡ u → u ≡ false
    none-shared b false f = refl
    none-shared b true f =
        let z : (d : Bit) × (has_bit before d ≡ true) × (has_bit b.aim.bits d ≡ true) = some_bit_of (has_bit b.aim.bits) before f in
        let c : (q : Cell) × (i : ℕ) × (is_bit S q i ≡ true) × (bit_of S q i ≡ z.0) = b.is.bits.set.inside z.0 z.2 in
        let one : has set c.0 c.1 ≡ true = o.set.same c.0 c.1 c.2 ∙ (ap (has_bit before) c.3 ∙ z.1) in
        let other : spans_have x.bits c.0 c.1 ≡ true = b.is.bits.set.same c.0 c.1 c.2 ∙ (ap (has_bit b.aim.bits) c.3 ∙ z.2) in
        absurd (no-way (spans_have x.bits c.0 c.1 && has set c.0 c.1) (and-both (spans_have x.bits c.0 c.1) (has set c.0 c.1) other one) (apart c.0 c.1))

    grown : (b : Beside S as' k x) → IsOnce S as' new (k + 1)
    grown b = record {
      set = subst (λ (bs : List Bit). IsSetOf S bs (has new)) (sym (bits-next b))
          (set-more S before b.aim.bits (has set) (has new) (λ q i t. added q i ∙ ap (λ u. has set q i || u) (b.is.bits.set.same q i t)) b.is.bits.set.inside o.set);
      within = within o.within b.is.bits.each;
      once = ap has_twice (bits-next b) ∙ (twice-append before b.aim.bits ∙ (ap (λ u. u || (has_twice b.aim.bits || list_any (has_bit b.aim.bits) before)) o.once ∙
          (ap (λ u. u || list_any (has_bit b.aim.bits) before) b.is.once ∙ none-shared b (list_any (has_bit b.aim.bits) before) refl)));
    }

    pub once-more : IsOnce S as' new (k + 1)
    once-more = grown r

each-length : {A B : Type 0} (R : A → B → Type 0) (xs : List A) (ys : List B) → Each R xs ys → length xs ≡ length ys
each-length R [] [] h = refl
each-length R [] (y ∷ ys) h = absurd h
each-length R (x ∷ xs) [] h = absurd h
each-length R (x ∷ xs) (y ∷ ys) h = omega (arith, each-length R xs ys h.1)

all-taken : {A : Type 0} (xs : List A) (n : ℕ) → length xs ≤ n → take n xs ≡ xs
all-taken [] zero h = refl
all-taken [] (suc n) h = refl
all-taken (x ∷ xs) zero h = absurd (omega (arith, h))
all-taken (x ∷ xs) (suc n) h = ap (λ ys. x ∷ ys) (all-taken xs n (omega (arith, h)))

pub once-all : (S : Signals) (as' : List views.Aim) (xs : List Aim) (k : ℕ) (set : Masks) → Each (IsAim S) as' xs → length xs ≤ k → IsOnce S as' set k → false ≡ has_twice (aim_bits as')
once-all S as' xs k set h le o =
    let n : length as' ≡ length xs = each-length (IsAim S) as' xs h in
    sym (ap (λ ys. has_twice (aim_bits ys)) (sym (all-taken as' k (omega (arith, n, le)))) ∙ o.once)

pub pieces-bits : (ps : List Piece) → aim_bits (map aim_of ps) ≡ writes_of ps
pieces-bits [] = refl
pieces-bits (p ∷ ps) = ap (λ bs. bits_named (known p.declared) p.choices ++ bs) (pieces-bits ps)
