-- The places of a target, name after name.
use Rattle.std.proofs.Common.{◌≡◌, ℕ, ◌+◌, ◌-◌, ◌<◌, ◌≤◌, Bool, true, List, [], ◌∷◌, ◌++◌, length, map, take, drop, get_or, add-one, refl, sym, ◌∙◌, ap, subst, arith, append_assoc, Option, Some}
use Rattle.std.proofs.Common.{None, ℤ, pos}
use Rattle.std.specs.Prelude.{zero, suc, sum_by, ◌-ℤ◌}
use Rattle.std.proofs.Math.Seq.{take-suc}
use Rattle.std.proofs.lemmas.List.{map-append, append-nil}
use Rattle.std.proofs.lemmas.List.Sums.{sum-map, sum_by_push, sum_by-append}
use Rattle.std.proofs.lemmas.List.Elements.{All-push, All-weaker}
use Rattle.lv_netlist.specs.Net.{Net}
use Rattle.lv_source.specs.Names.{Bounds, Declared, Valuation, width_of, is_signal_sort}
use Rattle.lv_source.specs.Values.{Chosen, Meaning, nowhere, number_of, own_value}
use Rattle.lv_source.specs.Places.{Place, place_of, bit_selects, lowest, count_of}
use Rattle.lv_source.specs.Effect.{Piece, aimed, piece_place, places, bits_in}
use Rattle.lv_source.specs.Parts.{is_declared_sort}
use Rattle.lv_flat.specs.Cells.{Cell}
use Rattle.lv_flat.specs.Signals.{Signals, signal_at}
use Rattle.lv_flat.specs.Executing.{pieces}
use Rattle.lv_flat.specs.declared.expr.FlatSelect.{FlatSelect}
use Rattle.lv_flat.specs.declared.stmt.FlatName.{FlatName}
use Rattle.lv_flat.specs.declared.stmt.FlatTarget.{FlatTarget}
use Rattle.lv_flat.proofs.Targets.{piece_of}
use Rattle.lv_values.specs.Worlds.{World, Obeys, Grows, width_of as wide_of, number}
use Rattle.lv_values.specs.Picked.{code_number}
use Rattle.lv_values.proofs.Growth.{grows-refl, grows-trans, obeys-before, in-later}
use Rattle.lv_lower_exprs.specs.Tables.{Shows, Means}
use Rattle.lv_lower_exprs.specs.Named.{chosen_by}
use Rattle.lv_lower_exprs.proofs.Naming.{chosen-map}
use Rattle.lv_lower_blocks.specs.declared.aims.Spot.{Spot}
use Rattle.lv_lower_blocks.specs.declared.aims.Aim.{Aim}
use Rattle.lv_lower_blocks.specs.Aimed.{Span, spot_number, span_of, first_span, aim_place, spot_width, chosen_width, aim_width, IsSpotIn, IsSpot, IsElement, IsAim, AreAims, Begins, Spots, Names}
use Rattle.lv_lower_blocks.specs.Aimed.{Aims, pieces_all}
use Rattle.lv_lower_blocks.proofs.Spans.{SameElement, place-is, named-count, chosen-some, chosen-most}

-- ---- a longer graph

spot-in-later : {old new : Net} {s : Spot} → Grows old new → IsSpotIn old s → IsSpotIn new s
spot-in-later {old} {new} {s} g h = record { index_in = in-later old new s.index g h.index_in; some = h.some; most = h.most; near = h.near }

spot-later : {old new : Net} (o : Option Spot) → Grows old new → IsSpot old o → IsSpot new o
spot-later None g h = tt
spot-later (Some s) g h = spot-in-later g h

pub aim-later : {old new : Net} {S : Signals} (a : Aim) → Grows old new → IsAim old S a → IsAim new S a
aim-later a g h = record { sort = h.sort; array = h.array; element = spot-later a.element g h.element; bits = spot-later a.bits g h.bits; some = h.some; most = h.most }

pub aims-later : {old new : Net} {S : Signals} (as' : List Aim) → Grows old new → AreAims old S as' → AreAims new S as'
aims-later {old} {new} {S} as' g h = All-weaker (IsAim old S) (IsAim new S) (λ a i. aim-later a g i) as' h

-- ---- lists

pub take-past : {A : Type 0} (xs : List A) (n : ℕ) → length xs ≤ n → take n xs ≡ xs
take-past [] zero h = refl
take-past [] (suc n) h = refl
take-past (x ∷ xs) zero h = absurd (omega arith)
take-past (x ∷ xs) (suc n) h = ap (λ ys. x ∷ ys) (take-past xs n (omega arith))

-- all behind the first
pub rest-all : {A : Type 0} (xs : List A) → take (length xs - 1) (drop 1 xs) ≡ drop 1 xs
rest-all {A} [] = take-past [] (length {A = A} [] - 1) (omega arith)
rest-all (x ∷ xs) = take-past xs (length (x ∷ xs) - 1) (omega arith)

-- ---- selects of arrays, and others

plain_element : (o : Option Bounds) → o ≡ None → IsElement o None
plain_element None h = tt
plain_element (Some b) h = cc

plain_same : (d : Declared) (o : Option Bounds) (v : Valuation) (e f : Option Span) → o ≡ None → SameElement d v o e f
plain_same d None v e f h = tt
plain_same d (Some b) v e f h = cc

plain_rest : (o : Option Bounds) (xs : List Chosen) → o ≡ None → bit_selects o xs ≡ xs
plain_rest None xs h = refl
plain_rest (Some b) xs h = cc

array_element : (o : Option Bounds) (b : Bounds) (s : Spot) → o ≡ Some b → s.down ≡ 0 → IsElement o (Some s)
array_element None b s h i = cc
array_element (Some c) b s h i = i

array_same : (d : Declared) (o : Option Bounds) (v : Valuation) (e f : Option Span) → e ≡ f → SameElement d v o e f
array_same d None v e f h = tt
array_same d (Some b) v e f h = h

array_rest : (o : Option Bounds) (b : Bounds) (x : Chosen) (ys : List Chosen) → o ≡ Some b → bit_selects o (x ∷ ys) ≡ ys
array_rest None b x ys h = cc
array_rest (Some c) b x ys h = refl

bits-append : (ps qs : List Place) → bits_in (ps ++ qs) ≡ bits_in ps + bits_in qs
bits-append ps qs =
    let f = λ (p : Place). length p.bits in
    sum-map f (ps ++ qs) ∙ (sum_by-append f ps qs ∙ (ap (λ n. n + sum_by f qs) (sym (sum-map f ps)) ∙ ap (λ n. bits_in ps + n) (sym (sum-map f qs))))

module _ {cells : List Cell} {table : List ℕ} where
  -- ---- selects

  -- the value of an index
  pub begins-at : {old new : Net} {s : Spot} (n : ℕ) (m : Meaning) (of : ℕ × Bool) → of ≡ (m.width, m.signed) → 1 ≤ m.width → m.width ≤ 128 → s.down ≤ 128 → s.signed ≡ of.1 → s.count ≡ n →
      Means old new s.index cells table of.0 (λ v. m.value of.0 of.1 v) → Begins old new cells table s (λ v. number_of m v -ℤ pos s.down) n
  begins-at {old} {new} {s} n m of e some most near f c a =
      let e0 : of.0 ≡ m.width = ap (λ (p : ℕ × Bool). p.0) e in
      let e1 : of.1 ≡ m.signed = ap (λ (p : ℕ × Bool). p.1) e in
      let wide : wide_of s.index ≡ m.width = a.width ∙ e0 in
      record {
        grows = a.grows;
        good = record { index_in = a.in_new; some = omega (arith, wide, some); most = omega (arith, wide, most); near = near };
        many = c;
        is = λ w v o t.
            let n : number w s.index ≡ own_value m v = a.is w v o t ∙ ap (λ (p : ℕ × Bool). m.value p.0 p.1 v) e in
            ap (λ z. z -ℤ pos s.down)
            (ap (λ (k : Bool). code_number k (wide_of s.index) (number w s.index)) (f ∙ e1) ∙ (ap (λ k. code_number m.signed k (number w s.index)) wide ∙ ap (code_number m.signed m.width) n));
      }

  pub begins-same : {old new : Net} {s : Spot} {y z : Valuation → ℤ} {m n : ℕ} → Begins old new cells table s y m → ((v : Valuation) → y v ≡ z v) → m ≡ n → Begins old new cells table s z n
  begins-same a e i = record { grows = a.grows; good = a.good; many = a.many ∙ i; is = λ w v o t. a.is w v o t ∙ e v }

  pub begins-given : {net : Net} {s : Spot} {z : Valuation → ℤ} {n : ℕ} → IsSpotIn net s → s.count ≡ n → ((w : World) (v : Valuation) → spot_number w s ≡ z v) → Begins net net cells table s z n
  begins-given {net} h c e = record { grows = grows-refl net; good = h; many = c; is = λ w v o t. e w v }

  pub spots-none : (net : Net) → Spots net net cells table None []
  spots-none net = record { grows = grows-refl net; good = tt; wide = λ W. refl; is = λ w v o t. refl }

  pub spots-some : {old new : Net} {s : Spot} (x : Chosen) (xs : List Chosen) → Begins old new cells table s (lowest x) (count_of x) → Spots old new cells table (Some s) (x ∷ xs)
  spots-some x xs a = record {
    grows = a.grows;
    good = a.good;
    wide = λ W. a.many;
    is = λ w v o t. same_span (a.is w v o t) a.many;
  }
    where
      same_span : {y z : ℤ} {m n : ℕ} → y ≡ z → m ≡ n → (let o : Option Span = Some (y, m) in o) ≡ Some (z, n)
      same_span {y} {z} {m} {n} h i = ap (λ (k : ℤ). let o : Option Span = Some (k, m) in o) h ∙ ap (λ (k : ℕ). let o : Option Span = Some (z, k) in o) i

  -- ---- names

  module _ (S : Signals) (k : ℕ) (xs : List Chosen) (sort : is_declared_sort (signal_at S k).sort ≡ true) (some : 1 ≤ width_of (signal_at S k)) (most : width_of (signal_at S k) ≤ 128)
      (least : 1 ≤ chosen_width 1 (bit_selects (signal_at S k).array xs)) (fits : chosen_width 1 (bit_selects (signal_at S k).array xs) ≤ 128) where
    -- an aim from its selects
    names-of : {old new : Net} (element bits : Option Spot) → Grows old new → IsElement (signal_at S k).array element → IsSpot new element → IsSpot new bits → ((W : ℕ) →
        spot_width W bits ≡ chosen_width W (bit_selects (signal_at S k).array xs)) →
        ((w : World) (v : Valuation) → Obeys new w → Shows w cells table v → SameElement (signal_at S k) v (signal_at S k).array (span_of w element) (first_span v xs)) →
        ((w : World) (v : Valuation) → Obeys new w → Shows w cells table v → span_of w bits ≡ first_span v (bit_selects (signal_at S k).array xs)) →
        Names old new S cells table k xs (record { signal = k; element = element; bits = bits })
    names-of element bits g array e b wide p q =
        let wd : spot_width (width_of (signal_at S k)) bits ≡ chosen_width (width_of (signal_at S k)) (bit_selects (signal_at S k).array xs) = wide (width_of (signal_at S k)) in
        let lo : 1 ≤ chosen_width (width_of (signal_at S k)) (bit_selects (signal_at S k).array xs) = chosen-some (width_of (signal_at S k)) (bit_selects (signal_at S k).array xs) some least in
        let hi : chosen_width (width_of (signal_at S k)) (bit_selects (signal_at S k).array xs) ≤ 128 = chosen-most (width_of (signal_at S k)) (bit_selects (signal_at S k).array xs) most fits in
        record {
          grows = g;
          good = record { sort = sort; array = array; element = e; bits = b; some = omega (arith, wd, lo); most = omega (arith, wd, hi) };
          wide = wd;
          is = λ w v o t. ap (aimed (is_signal_sort (signal_at S k).sort)) (place-is (signal_at S k) v (signal_at S k).array xs (span_of w element) (span_of w bits) (p w v o t) (q w v o t));
        }

    -- that is no array
    pub names-plain : {old new : Net} {bits : Option Spot} → (signal_at S k).array ≡ None → Spots old new cells table bits xs →
        Names old new S cells table k xs (record { signal = k; element = None; bits = bits })
    names-plain {bits = bits} h a =
        let r : bit_selects (signal_at S k).array xs ≡ xs = plain_rest (signal_at S k).array xs h in
        names-of None bits a.grows (plain_element (signal_at S k).array h) tt a.good (λ W. a.wide W ∙ ap (chosen_width W) (sym r)) (λ w v o t. plain_same (signal_at S k)
        (signal_at S k).array v None (first_span v xs) h)
        (λ w v o t. a.is w v o t ∙ ap (first_span v) (sym r))

  -- of an array
  pub names-element : {old mid new : Net} {s : Spot} {bits : Option Spot} (S : Signals) (k : ℕ) (x : Chosen) (ys : List Chosen) (b : Bounds) → is_declared_sort (signal_at S k).sort ≡ true →
      1 ≤ width_of (signal_at S k) → width_of (signal_at S k) ≤ 128 → 1 ≤ chosen_width 1 ys → chosen_width 1 ys ≤ 128 → (signal_at S k).array ≡ Some b → s.down ≡ 0 →
      Begins old mid cells table s (lowest x) (count_of x) → Spots mid new cells table bits ys → Names old new S cells table k (x ∷ ys) (record { signal = k; element = Some s; bits = bits })
  names-element {old} {mid} {new} {s} {bits} S k x ys b sort some most least fits h down a c =
      let d : Declared = signal_at S k in
      let r : bit_selects d.array (x ∷ ys) ≡ ys = array_rest d.array b x ys h in
      let e : Spots old mid cells table (Some s) (x ∷ ys) = spots-some x ys a in
      names-of S k (x ∷ ys) sort some most (subst (λ (z : List Chosen). 1 ≤ chosen_width 1 z) (sym r) least) (subst (λ (z : List Chosen). chosen_width 1 z ≤ 128) (sym r) fits)
      (Some s) bits (grows-trans old mid new a.grows c.grows) (array_element d.array b s h down) (spot-in-later c.grows a.good) c.good (λ W. c.wide W ∙ ap (chosen_width W) (sym r))
      (λ w v o t. array_same d d.array v (span_of w (Some s)) (first_span v (x ∷ ys)) (e.is w v (obeys-before mid new w c.grows o) t))
      (λ w v o t. c.is w v o t ∙ ap (first_span v) (sym r))

  -- ---- targets

  pub aims-none : (net : Net) (S : Signals) (as' : List Aim) → AreAims net S as' → Aims net net S cells table [] as' as'
  aims-none net S as' h = record { grows = grows-refl net; good = h; width = omega arith; is = λ w v o t. sym (append-nil (map (aim_place w S) as')) }

  pub aims-then : {old mid new : Net} {S : Signals} {ps qs : List Piece} {as' bs cs : List Aim} → Aims old mid S cells table ps as' bs → Aims mid new S cells table qs bs cs →
      Aims old new S cells table (ps ++ qs) as' cs
  aims-then {old} {mid} {new} {S} {ps} {qs} {as'} {bs} {cs} a c =
      let n : bits_in (places nowhere (ps ++ qs)) ≡ bits_in (places nowhere ps) + bits_in (places nowhere qs) =
      ap bits_in (map-append (piece_place nowhere) ps qs) ∙ bits-append (places nowhere ps) (places nowhere qs) in
      record {
        grows = grows-trans old mid new a.grows c.grows;
        good = c.good;
        width = omega (arith, a.width, c.width, n);
        is = λ w v o t.
            c.is w v o t ∙ (ap (λ xs. xs ++ places v qs) (a.is w v (obeys-before mid new w c.grows o) t) ∙
            (append_assoc (map (aim_place w S) as') (places v ps) (places v qs) ∙ ap (λ xs. map (aim_place w S) as' ++ xs) (sym (map-append (piece_place v) ps qs))));
      }

  pub aims-same : {old new : Net} {S : Signals} {ps qs : List Piece} {as' bs : List Aim} → Aims old new S cells table ps as' bs → ps ≡ qs → Aims old new S cells table qs as' bs
  aims-same {old} {new} {S} {as' = as'} {bs = bs} a e = subst (λ (z : List Piece). Aims old new S cells table z as' bs) e a

  -- a name more
  pub aims-more : {old new : Net} (S : Signals) (name : FlatName) (ss : List FlatSelect) (as' : List Aim) (a : Aim) → AreAims old S as' →
      Names old new S cells table name.signal (map (chosen_by S) ss) a →
      Aims old new S cells table (piece_of S name ss ∷ []) as' (as' ++ a ∷ [])
  aims-more {old} {new} S name ss as' a good h =
      let d : Declared = signal_at S name.signal in
      let p : (v : Valuation) → piece_place v (piece_of S name ss) ≡ aimed (is_signal_sort d.sort) (place_of d (map (chosen_by S) ss) v) =
      λ v. ap (λ xs. aimed (is_signal_sort d.sort) (place_of d xs v)) (chosen-map S ss) in
      let l : length (piece_place nowhere (piece_of S name ss)).bits ≡ chosen_width (width_of d) (bit_selects d.array (map (chosen_by S) ss)) =
      ap (λ (q : Place). length q.bits) (p nowhere) ∙ named-count d (map (chosen_by S) ss) nowhere in
      record {
        grows = h.grows;
        good = All-push (IsAim new S) as' a (aims-later as' h.grows good) h.good;
        width = sum_by_push (aim_width S) as' a ∙ (let b : bits_in (places nowhere (piece_of S name ss ∷ [])) ≡ length (piece_place nowhere (piece_of S name ss)).bits = omega arith in omega
            (arith, b, l, h.wide));
        is = λ w v o t. map-append (aim_place w S) as' (a ∷ []) ∙ ap (λ (q : Place). map (aim_place w S) as' ++ q ∷ []) (h.is w v o t ∙ sym (p v));
      }

-- ---- targets in a list

module _ (S : Signals) where
  pieces-append : (xs ys : List FlatTarget) → pieces_all S (xs ++ ys) ≡ pieces_all S xs ++ pieces_all S ys
  pieces-append [] ys = refl
  pieces-append (x ∷ xs) ys = ap (λ ps. pieces S x ++ ps) (pieces-append xs ys) ∙ sym (append_assoc (pieces S x) (pieces_all S xs) (pieces_all S ys))

  pub pieces-more : (ts : List FlatTarget) (i : ℕ) (t : FlatTarget) → i < length ts → t ≡ get_or ts i t → pieces_all S (take i ts) ++ pieces S t ≡ pieces_all S (take (i + 1) ts)
  pieces-more ts i t lt e =
      let one : pieces_all S (t ∷ []) ≡ pieces S t = append-nil (pieces S t) in
      let k : take (i + 1) ts ≡ take i ts ++ get_or ts i t ∷ [] = rw add-one (take-suc ts i t lt) in
      ap (λ ps. pieces_all S (take i ts) ++ ps) (sym one) ∙ (sym (pieces-append (take i ts) (t ∷ [])) ∙ (ap (λ (z : FlatTarget). pieces_all S (take i ts ++ z ∷ [])) e ∙ ap (pieces_all S) (sym k)))
