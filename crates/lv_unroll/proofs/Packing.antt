-- Places that are packed, and the lists that they stand for.
use Rattle.std.proofs.Common.{◌≡◌, ℕ, ◌+◌, ◌==◌, Bool, true, false, not, ◌&&◌, ◌||◌, if◌then◌else◌, nat_eq, List, [], ◌∷◌, ◌++◌, length, ◌≤◌, take, refl}
use Rattle.std.proofs.Common.{sym, ◌∙◌}
use Rattle.std.proofs.Common.{ap, subst, arith}
use Rattle.std.proofs.Math.Dec.{eqb-suc-suc, eqb-suc-zero, eqb-zero-suc}
use Rattle.std.proofs.lemmas.Bool.{eq-eqb, eqb-true}
use Rattle.std.specs.List.{AllByRecursion}
use Rattle.std.proofs.lemmas.List.{length-map, take_all}
use Rattle.lv_bits.specs.Words.{Bits}
use Rattle.lv_bits.specs.Values.{bit}
use Rattle.lv_model.specs.Machine.{Agree}
use Rattle.lv_netlist.specs.Net.{Net}
use Rattle.lv_unroll.specs.declared.slots.Slot.{Slot}
use Rattle.lv_unroll.specs.Wires.{GivesTest}
use Rattle.lv_unroll.specs.Slots.{Place, place_in, places_in, appended, same_values, same_flag, same_places}
use Rattle.lv_unroll.specs.Entries.{entries_of, equally_many, IsPacked, ArePacked}
use Rattle.lv_unroll.proofs.Slotting.{same_flags, flags_so_far}

no_true : (b : Bool) → b ≡ false → b ≡ true → ⊥
no_true true e h = cc
no_true false e h = cc

packed_more : (a b : Bool) (ps : List Place) → (a ≡ true → b ≡ true) → IsPacked a ps → IsPacked b ps
packed_more a b [] h g = tt
packed_more a b (p ∷ ps) h g = (λ t. h (g.0 t), g.1)

or_left : (t b o : Bool) → t ≡ true → (t || (b && o)) ≡ true
or_left true b o h = refl
or_left false b o h = cc

or_needs : (t b o : Bool) → (t ≡ true → b ≡ true) → (t || (b && o)) ≡ true → b ≡ true
or_needs true b o h e = h refl
or_needs false true o h e = refl
or_needs false false o h e = e

pub packed_appended : (before on : Bool) (vs : List ℕ) (ps : List Place) → IsPacked before ps → IsPacked before (appended before on vs ps)
packed_appended before on vs [] h = (or_needs false before on (λ t. absurd (no_true false refl t)), tt)
packed_appended before on vs (p ∷ ps) h = (
  or_needs p.there before on h.0,
  packed_more p.there (p.there || (before && on)) (appended p.there on vs ps) (or_left p.there before on) (packed_appended p.there on vs ps h.1),
)

abbrev pub one_if : Bool → List ℕ → List (List ℕ)
one_if on vs = if on then vs ∷ [] else []

cut : (t : Bool) (vs : List ℕ) (rest : List (List ℕ)) → (t ≡ true → rest ≡ []) → (if t then vs ∷ rest else []) ≡ one_if t vs
cut true vs rest h = ap (λ (r : List (List ℕ)). vs ∷ r) (h refl)
cut false vs rest h = refl

-- nothing is put behind a free place
off_if : (t on : Bool) (rest : List (List ℕ)) → (t ≡ true → false ≡ true) → (if t || (false && on) then rest else []) ≡ []
off_if true on rest h = absurd (no_true false refl (h refl))
off_if false on rest h = refl

none_behind : (on : Bool) (vs : List ℕ) (ps : List Place) → IsPacked false ps → entries_of (appended false on vs ps) ≡ []
none_behind on vs [] h = refl
none_behind on vs (p ∷ ps) h = off_if p.there on ((if p.there then p.values else vs) ∷ entries_of (appended p.there on vs ps)) h.0

entries_step :
    (t on : Bool) (xs vs : List ℕ) (ps : List Place) → IsPacked t ps → (IsPacked true ps →
    entries_of (appended true on vs ps) ≡ entries_of ps ++ one_if on vs) →
    (if t || (true && on) then (if t then xs else vs) ∷ entries_of (appended t on vs ps) else []) ≡ (if t then xs ∷ entries_of ps else []) ++ one_if on vs
entries_step true on xs vs ps h ih = ap (λ (r : List (List ℕ)). xs ∷ r) (ih h)
entries_step false on xs vs ps h ih = cut on vs (entries_of (appended false on vs ps)) (λ t. none_behind on vs ps h)

pub entries_appended : (on : Bool) (vs : List ℕ) (ps : List Place) → IsPacked true ps → entries_of (appended true on vs ps) ≡ entries_of ps ++ one_if on vs
entries_appended true vs [] h = refl
entries_appended false vs [] h = refl
entries_appended on vs (p ∷ ps) h = entries_step p.there on p.values vs ps h.1 (entries_appended on vs ps)

pub length_appended : (before on : Bool) (vs : List ℕ) (ps : List Place) → length (appended before on vs ps) ≡ length ps + 1
length_appended before on vs [] = refl
length_appended before on vs (p ∷ ps) = omega (arith, length_appended p.there on vs ps)

-- ---- agreement

abbrev pub HaveValues : ℕ → List Place → Type 0
HaveValues n ps = AllByRecursion (λ (p : Place). length p.values ≡ n) ps

and_both : (a b : Bool) → a ≡ true → b ≡ true → (a && b) ≡ true
and_both true b p q = q
and_both false b p q = p

and_first : (a b : Bool) → (a && b) ≡ true → a ≡ true
and_first true b h = refl
and_first false b h = h

and_second : (a b : Bool) → (a && b) ≡ true → b ≡ true
and_second true b h = h
and_second false b h = cc

values_same : (xs ys : List ℕ) → length xs ≡ length ys → same_values xs ys ≡ true → xs ≡ ys
values_same [] [] h e = refl
values_same [] (y ∷ ys) h e = absurd (omega arith)
values_same (x ∷ xs) [] h e = absurd (omega arith)
values_same (x ∷ xs) (y ∷ ys) h e =
    let p : x ≡ y = eqb-true x y (and_first (x == y) (same_values xs ys) e) in
    rw (p, values_same xs ys (omega arith) (and_second (x == y) (same_values xs ys) e)) refl

values_are_same : (xs : List ℕ) → same_values xs xs ≡ true
values_are_same [] = refl
values_are_same (x ∷ xs) = and_both (x == x) (same_values xs xs) (eq-eqb x x refl) (values_are_same xs)

-- all places are free
left_off : (t u s r : Bool) → (t ≡ true → false ≡ true) → (t ≡ false → r ≡ true) → ((not (t && u) || s) && r) ≡ true
left_off true u s r h g = absurd (no_true false refl (h refl))
left_off false u s r h g = g refl

free_left : (ps qs : List Place) → IsPacked false ps → same_places ps qs ≡ true
free_left [] qs h = refl
free_left (p ∷ ps) [] h = refl
free_left (p ∷ ps) (q ∷ qs) h = left_off p.there q.there (same_values p.values q.values) (same_places ps qs) h.0 (λ e. free_left ps qs
    (subst (λ (t : Bool). IsPacked t ps) e h.1))

right_off : (t u s r : Bool) → (u ≡ true → false ≡ true) → (u ≡ false → r ≡ true) → ((not (t && u) || s) && r) ≡ true
right_off t true s r h g = absurd (no_true false refl (h refl))
right_off true false s r h g = g refl
right_off false false s r h g = g refl

free_right : (ps qs : List Place) → IsPacked false qs → same_places ps qs ≡ true
free_right [] qs h = refl
free_right (p ∷ ps) [] h = refl
free_right (p ∷ ps) (q ∷ qs) h = right_off p.there q.there (same_values p.values q.values) (same_places ps qs) h.0 (λ e. free_right ps qs
    (subst (λ (t : Bool). IsPacked t qs) e h.1))

agree_one :
    (n : ℕ) (t u : Bool) (xs ys : List ℕ) (ps qs : List Place) → length xs ≡ n → length ys ≡ n → IsPacked t ps → IsPacked u qs →
    ((not (t && u) || same_values xs ys) && same_places ps qs) ≡ true → (IsPacked true ps → IsPacked true qs → same_places ps qs ≡ true →
    Agree (entries_of ps) (entries_of qs)) → Agree (if t then xs ∷ entries_of ps else []) (if u then ys ∷ entries_of qs else [])
agree_one n false u xs ys ps qs lx ly hp hq e ih = tt
agree_one n true false xs ys ps qs lx ly hp hq e ih = tt
agree_one n true true xs ys ps qs lx ly hp hq e ih = (
  values_same xs ys (lx ∙ sym ly) (and_first (same_values xs ys) (same_places ps qs) e),
  ih hp hq (and_second (same_values xs ys) (same_places ps qs) e),
)

pub same_agree :
    (n : ℕ) (ps qs : List Place) → IsPacked true ps → IsPacked true qs → HaveValues n ps → HaveValues n qs → length ps ≡ length qs →
    same_places ps qs ≡ true → Agree (entries_of ps) (entries_of qs)
same_agree n [] qs hp hq vp vq len e = tt
same_agree n (p ∷ ps) [] hp hq vp vq len e = absurd (omega arith)
same_agree n (p ∷ ps) (q ∷ qs) hp hq vp vq len e =
    agree_one n p.there q.there p.values q.values ps qs vp.0 vq.0 hp.1 hq.1 e (λ a b. same_agree n ps qs a b vp.1 vq.1 (omega arith))

same_one :
    (t u : Bool) (xs ys : List ℕ) (ps qs : List Place) → IsPacked t ps → IsPacked u qs → (IsPacked true ps → IsPacked true qs →
    Agree (entries_of ps) (entries_of qs) → same_places ps qs ≡ true) → Agree (if t then xs ∷ entries_of ps else []) (if u then ys ∷ entries_of qs else []) →
    ((not (t && u) || same_values xs ys) && same_places ps qs) ≡ true
same_one false u xs ys ps qs hp hq ih e = free_left ps qs hp
same_one true false xs ys ps qs hp hq ih e = free_right ps qs hq
same_one true true xs ys ps qs hp hq ih e =
    and_both (same_values xs ys) (same_places ps qs) (subst (λ (zs : List ℕ). same_values xs zs ≡ true) e.0 (values_are_same xs)) (ih hp hq e.1)

pub agree_same :
    (ps qs : List Place) → IsPacked true ps → IsPacked true qs → length ps ≡ length qs → Agree (entries_of ps) (entries_of qs) → same_places ps qs ≡ true
agree_same [] qs hp hq len e = refl
agree_same (p ∷ ps) [] hp hq len e = absurd (omega arith)
agree_same (p ∷ ps) (q ∷ qs) hp hq len e = same_one p.there q.there p.values q.values ps qs hp.1 hq.1 (λ a b. agree_same ps qs a b (omega arith)) e

-- ---- equally many

both_free : (t u s : Bool) → (t ≡ true → false ≡ true) → (u ≡ true → false ≡ true) → (t ≡ false → u ≡ false → s ≡ true) → (same_flag t u && s) ≡ true
both_free true u s h g r = absurd (no_true false refl (h refl))
both_free false true s h g r = absurd (no_true false refl (g refl))
both_free false false s h g r = r refl refl

free_flags : (ps qs : List Place) → IsPacked false ps → IsPacked false qs → same_flags ps qs ≡ true
free_flags [] qs hp hq = refl
free_flags (p ∷ ps) [] hp hq = refl
free_flags (p ∷ ps) (q ∷ qs) hp hq = both_free p.there q.there (same_flags ps qs) hp.0 hq.0 (λ e f.
    free_flags ps qs (subst (λ (t : Bool). IsPacked t ps) e hp.1) (subst (λ (t : Bool). IsPacked t qs) f hq.1))

flags_one :
    (t u : Bool) (xs ys : List ℕ) (ps qs : List Place) → IsPacked t ps → IsPacked u qs →
    (IsPacked true ps → IsPacked true qs → same_flags ps qs ≡ nat_eq (length (entries_of ps)) (length (entries_of qs))) →
    (same_flag t u && same_flags ps qs) ≡ nat_eq (length (if t then xs ∷ entries_of ps else [])) (length (if u then ys ∷ entries_of qs else []))
flags_one true true xs ys ps qs hp hq ih = ih hp hq ∙ sym (eqb-suc-suc (length (entries_of ps)) (length (entries_of qs)))
flags_one true false xs ys ps qs hp hq ih = sym (eqb-suc-zero (length (entries_of ps)))
flags_one false true xs ys ps qs hp hq ih = sym (eqb-zero-suc (length (entries_of qs)))
flags_one false false xs ys ps qs hp hq ih = free_flags ps qs hp hq

pub flags_count :
    (ps qs : List Place) → IsPacked true ps → IsPacked true qs → length ps ≡ length qs →
    same_flags ps qs ≡ nat_eq (length (entries_of ps)) (length (entries_of qs))
flags_count [] [] hp hq len = refl
flags_count [] (q ∷ qs) hp hq len = absurd (omega arith)
flags_count (p ∷ ps) [] hp hq len = absurd (omega arith)
flags_count (p ∷ ps) (q ∷ qs) hp hq len = flags_one p.there q.there p.values q.values ps qs hp.1 hq.1 (λ a b. flags_count ps qs a b (omega arith))

pub flags_done :
    (old new : Net) (k at : ℕ) (xs ys : List Slot) → length xs ≤ k → length xs ≡ length ys → ArePacked old xs → ArePacked old ys →
    GivesTest old new at (flags_so_far old xs ys k) → GivesTest old new at (equally_many old xs ys)
flags_done old new k at xs ys le len hx hy g =
    let is : (ws : List Bits) → flags_so_far old xs ys k ws ≡ equally_many old xs ys ws = λ ws.
    ap (λ (ss : List Slot). same_flags (places_in old ws ss) (places_in old ws (take k ys))) (take_all k xs le) ∙
    (ap (λ (ss : List Slot). same_flags (places_in old ws xs) (places_in old ws ss)) (take_all k ys (omega arith)) ∙
    flags_count (places_in old ws xs) (places_in old ws ys) (hx ws) (hy ws) (omega (
      arith,
      length-map xs (place_in old ws),
      length-map ys (place_in old ws),
    ))) in
    record {
      extends = g.extends;
      within = g.within;
      width = g.width;
      is = λ ws. g.is ws ∙ ap bit (is ws);
      on = λ ws. g.on ws ∙ is ws;
    }
