-- One place that is written, cell after cell.
use Rattle.std.proofs.Common.{◌≡◌, ℕ, ◌+◌, ◌-◌, ◌<◌, ◌≤◌, ◌==◌, ◌^◌, inl, inr, Bool, true, false, List, [], ◌∷◌, length, take, refl, sym, ◌∙◌, ap, subst, arith, Option, Some, None, ℤ, pos, negsuc}
use Rattle.std.specs.Prelude.{if◌then◌else◌, slice_index, slice_set, bytes_eq, decimal, ◌/◌}
use Rattle.std.proofs.Math.Nat.{mod-eq_of_lt}
use Rattle.lv_bits.specs.Values.{bit}
use Rattle.std.proofs.lemmas.Bool.{cases_lt}
use Rattle.std.proofs.lemmas.Bool.Decides.{nat_tests}
use Rattle.std.proofs.lemmas.Slice.Eq.{bytes_eq-Decides}
use Rattle.lv_ast.specs.Names.{Name, at_index}
use Rattle.lv_netlist.specs.Net.{Net, width_at}
use Rattle.lv_source.specs.Names.{Bounds, Declared, Valuation, Sort, Input, Variable, Clock, Constant, Index, Other, low, high, size, width_of, is_signal_sort, is_clock_sort}
use Rattle.lv_source.specs.Names.{Net as Net'}
use Rattle.lv_source.specs.Places.{Place, within, nowhere_place, write, write_bits}
use Rattle.lv_source.specs.Effect.{aimed}
use Rattle.lv_flat.specs.Cells.{Cell, cell_at, all_cells, AreDistinct}
use Rattle.lv_flat.specs.Signals.{Signals, signal_at}
use Rattle.lv_values.specs.declared.value.Value.{Value}
use Rattle.lv_values.specs.declared.value.Value.TheVariants.{Node}
use Rattle.lv_values.specs.Worlds.{World, Obeys, Gives, IsIn, number, width_of as wide_of}
use Rattle.lv_values.proofs.Growth.{grows-refl, grows-trans, obeys-before, gives-is, gives-same, number-lt}
use Rattle.lv_lower_exprs.specs.Tables.{IsTable, Shows, AreFirsts, value_at}
use Rattle.lv_lower_exprs.proofs.Wholes.{signal_in, cell_is, element_is, write_whole}
use Rattle.lv_lower_blocks.specs.declared.aims.Spot.{Spot}
use Rattle.lv_lower_blocks.specs.declared.aims.Aim.{Aim}
use Rattle.lv_lower_blocks.specs.Aimed.{span_of, spot_number, bits_at, element_at, place_at, aim_place, IsElement, is_number, is_hit, put_value, put_at, first_number, cell_count, spot_width}
use Rattle.lv_lower_blocks.specs.Aimed.{IsZero, Puts}
use Rattle.lv_lower_blocks.specs.Rewritten.{Rewrites}
use Rattle.lv_lower_blocks.proofs.Rewriting.{rewrites-next, rewritten-table, width-later}

-- ---- one name

pub write-at : (v : Valuation) (p : Place) (x : ℕ) (name : Name) → name ≡ p.name → write v p x name ≡ write_bits (v name) p.bits x
write-at v p x name e = ap (λ (c : Bool). if c then write_bits (v name) p.bits x else v name) ((bytes_eq-Decides name p.name).1 e)

pub write-off : (v : Valuation) (p : Place) (x : ℕ) (name : Name) → (name ≡ p.name → ⊥) → write v p x name ≡ v name
write-off v p x name ne = elim (bytes_eq name p.name) as (λ c. bytes_eq name p.name ≡ c → (if c then write_bits (v name) p.bits x else v name) ≡ v name) [
  | true ↦ λ e. absurd (ne ((bytes_eq-Decides name p.name).0 e))
  | false ↦ λ e. refl
] refl

nothing-written : (a : ℕ) (bits : List (Option ℕ)) (x : ℕ) → write_bits a (nowhere_place bits).bits x ≡ a
nothing-written a [] x = refl
nothing-written a (k ∷ ks) x = nothing-written a ks (x / 2)

pub write-nowhere : (v : Valuation) (bits : List (Option ℕ)) (x : ℕ) (name : Name) → write v (nowhere_place bits) x name ≡ v name
write-nowhere v bits x name = elim (bytes_eq name []) as (λ c. (if c then write_bits (v name) (nowhere_place bits).bits x else v name) ≡ v name) [
  | true ↦ nothing-written (v name) bits x
  | false ↦ refl
]

-- ---- the cells of a signal

-- the cell at j has this name
abbrev cell_name : Option Bounds → Declared → ℕ → Name
cell_name None d j = d.path
cell_name (Some b) d j = at_index d.path (decimal (low b + j))

pub cell-named : (S : Signals) (k : ℕ) (o : Option Bounds) (j : ℕ) → is_signal_sort (signal_at S k).sort ≡ true → (signal_at S k).array ≡ o → j < cell_count o →
    (length (all_cells (take k S)) + j < length (all_cells S)) × ((cell_at (all_cells S) (length (all_cells (take k S)) + j)).name ≡ cell_name o (signal_at S k) j) ×
    ((cell_at (all_cells S) (length (all_cells (take k S)) + j)).width ≡ width_of (signal_at S k))
cell-named S k None j h e lt =
    let c = cell_is S k h e in
    let z : length (all_cells (take k S)) + j ≡ length (all_cells (take k S)) = omega arith in
    (omega (arith, z, c.within), ap (λ i. (cell_at (all_cells S) i).name) z ∙ ap (λ (x : Cell). x.name) c.same, ap (λ i. (cell_at (all_cells S) i).width) z ∙ ap (λ (x : Cell). x.width) c.same)
cell-named S k (Some b) j h e lt =
    let c = element_is S k b j h e lt in
    (c.within, ap (λ (x : Cell). x.name) c.same, ap (λ (x : Cell). x.width) c.same)

-- ---- which cell is meant

is-number : (z : ℤ) (n : ℕ) → is_number z n ≡ true → z ≡ pos n
is-number (pos i) n h = ap pos (grind (arith, nat_tests))
is-number (negsuc i) n h = cc

not-number : (z : ℤ) (n : ℕ) → is_number z n ≡ false → z ≡ pos n → ⊥
not-number (pos i) n h e = grind (arith, nat_tests)
not-number (negsuc i) n h e = cc

inside : (l h i : ℕ) → within l h i ≡ true → (l ≤ i) × (i ≤ h)
inside l h i e = (grind (arith, nat_tests), grind (arith, nat_tests))

within-true : (l h i : ℕ) → l ≤ i → i ≤ h → within l h i ≡ true
within-true l h i e f = grind (arith, nat_tests)

number-is : (i n : ℕ) → i ≡ n → (i == n) ≡ true
number-is i n e = grind (arith, nat_tests)

module _ (S : Signals) (a : Aim) (w : World) where
  abbrev d : Declared
  d = signal_at S a.signal

  abbrev bits : List (Option ℕ)
  bits = bits_at d (span_of w a.bits)

  abbrev at : ℕ
  at = length (all_cells (take a.signal S))

  -- the cell that is meant
  hit-place : (o : Option Bounds) (e : Option Spot) (j : ℕ) → IsElement o e → j < cell_count o → is_hit w e (first_number o + j) ≡ true →
      place_at o d (span_of w e) (span_of w a.bits) ≡ (let p : Place = record { name = cell_name o d j; bits = bits } in p)
  hit-place None None j h lt i = refl
  hit-place None (Some s) j h lt i = absurd h
  hit-place (Some b) None j h lt i = absurd h
  hit-place (Some b) (Some s) j h lt i =
      let z : spot_number w s ≡ pos (low b + j) = is-number (spot_number w s) (low b + j) i in
      let c : within (low b) (high b) (low b + j) ≡ true = within-true (low b) (high b) (low b + j) (omega arith) (omega (arith, lt)) in
      ap (λ (y : ℤ). element_at d b y bits) z ∙ ap (λ (u : Bool). if u then (let p : Place = record { name = at_index d.path (decimal (low b + j)); bits = bits } in p) else nowhere_place bits) c

  module _ (sort : is_signal_sort d.sort ≡ true) (distinct : AreDistinct (all_cells S)) (v : Valuation) (x i : ℕ) (lt : i < length (all_cells S)) where
    abbrev name : Name
    name = (cell_at (all_cells S) i).name

    missed : (b : Bounds) → d.array ≡ Some b → (z : ℤ) → ((j : ℕ) → j < size b → i ≡ at + j → is_number z (low b + j) ≡ true → ⊥) → write v (element_at d b z bits) x name ≡ v name
    missed b e (negsuc m) never = write-nowhere v bits x name
    missed b e (pos m) never =
        elim (within (low b) (high b) m) as (λ c. within (low b) (high b) m ≡ c →
        write v (if c then (let p : Place = record { name = at_index d.path (decimal m); bits = bits } in p) else nowhere_place bits) x name ≡ v name) [
          | true ↦ λ h. write-off v (record { name = at_index d.path (decimal m); bits = bits }) x name (λ eq.
              let r = inside (low b) (high b) m h in
              let j : ℕ = m - low b in
              let l : j < size b = omega (arith, r.0, r.1) in
              let back : low b + j ≡ m = omega (arith, r.0) in
              let c = cell-named S a.signal (Some b) j sort e l in
              let same : i ≡ at + j = distinct i (at + j) lt c.0 (eq ∙ sym (c.1 ∙ ap (λ q. at_index d.path (decimal q)) back)) in
              never j l same (number-is m (low b + j) (sym back)))
          | false ↦ λ h. write-nowhere v bits x name
        ] refl

    -- a cell that is not meant
    miss-place : (o : Option Bounds) (e : Option Spot) → IsElement o e → d.array ≡ o → ((j : ℕ) → j < cell_count o → i ≡ at + j → is_hit w e (first_number o + j) ≡ true → ⊥) →
        write v (place_at o d (span_of w e) (span_of w a.bits)) x name ≡ v name
    miss-place None None h e never =
        write-off v (record { name = d.path; bits = bits }) x name (λ eq.
        let z : 0 < cell_count None = omega arith in
        let c = cell-named S a.signal None 0 sort e z in
        never 0 z (distinct i (at + 0) lt c.0 (eq ∙ sym c.1)) refl)
    miss-place None (Some s) h e never = absurd h
    miss-place (Some b) None h e never = absurd h
    miss-place (Some b) (Some s) h e never = missed b e (spot_number w s) never

-- all cells of the signal
module _ {old new : Net} (S : Signals) (a : Aim) (t u : List ℕ) (x : Value) (at hi : ℕ) (f : World → ℕ → ℕ) where
  pub puts-shown : is_signal_sort (signal_at S a.signal).sort ≡ true → IsElement (signal_at S a.signal).array a.element → AreDistinct (all_cells S) → IsTable old (all_cells S) t →
      at ≡ length (all_cells (take a.signal S)) → hi ≡ at + cell_count (signal_at S a.signal).array → Rewrites old new t u at hi f →
      ((w : World) (j : ℕ) → f w (at + j) ≡ put_value w S a (first_number (signal_at S a.signal).array + j) (value_at w (slice_index t (at + j))) (number w x)) → Puts old new S (all_cells S) t u a x
  puts-shown sort array distinct table start end r is =
      let d : Declared = signal_at S a.signal in
      record {
        grows = r.grows;
        table = rewritten-table r table;
        is = λ w v o s.
            let p : Place = place_at d.array d (span_of w a.element) (span_of w a.bits) in
            let aim : aim_place w S a ≡ p = ap (λ (c : Bool). aimed c p) sort in
            record {
              is = λ i lt.
                  let name : Name = (cell_at (all_cells S) i).name in
                  let was : value_at w (slice_index t i) ≡ v name = s.is i lt in
                  let off : ((j : ℕ) → j < cell_count d.array → i ≡ length (all_cells (take a.signal S)) + j → is_hit w a.element (first_number d.array + j) ≡ true → ⊥) →
                  v name ≡ write v (aim_place w S a) (number w x) name =
                  λ never. sym (ap (λ (q : Place). write v q (number w x) name) aim ∙ miss-place S a w sort distinct v (number w x) i lt d.array a.element array refl never) in
                  elim (cases_lt i at) [
                    | inl less ↦ ap (value_at w) (r.below i less) ∙ (was ∙ off (λ j l e k. omega (arith, e, start, less)))
                    | inr more ↦ elim (cases_lt i hi) [
                      | inr past ↦ ap (value_at w) (r.above i past) ∙ (was ∙ off (λ j l e k. omega (arith, e, start, end, l, past)))
                      | inl among ↦ inner w v o s i lt more among was off aim
                    ]
                  ];
            };
      }
    where
      inner : (w : World) (v : Valuation) → Obeys new w → Shows w (all_cells S) t v → (i : ℕ) → i < length (all_cells S) → at ≤ i → i < hi →
          value_at w (slice_index t i) ≡ v (cell_at (all_cells S) i).name →
          (((j : ℕ) → j < cell_count (signal_at S a.signal).array → i ≡ length (all_cells (take a.signal S)) + j → is_hit w a.element (first_number (signal_at S a.signal).array + j) ≡ true → ⊥) →
          v (cell_at (all_cells S) i).name ≡ write v (aim_place w S a) (number w x) (cell_at (all_cells S) i).name) →
          aim_place w S a ≡ place_at (signal_at S a.signal).array (signal_at S a.signal) (span_of w a.element) (span_of w a.bits) →
          value_at w (slice_index u i) ≡ write v (aim_place w S a) (number w x) (cell_at (all_cells S) i).name
      inner w v o s i lt more among was off aim =
          let d : Declared = signal_at S a.signal in
          let name : Name = (cell_at (all_cells S) i).name in
          let j : ℕ = i - at in
          let at_j : at + j ≡ i = omega (arith, more) in
          let l : j < cell_count d.array = omega (arith, end, among, more) in
          let here : length (all_cells (take a.signal S)) + j ≡ i = omega (arith, start, at_j) in
          let n : ℕ = first_number d.array + j in
          let bits : List (Option ℕ) = bits_at d (span_of w a.bits) in
          let value : value_at w (slice_index u i) ≡ put_value w S a n (value_at w (slice_index t i)) (number w x) =
          r.is w o i more among ∙ (ap (f w) (sym at_j) ∙ (is w j ∙ ap (λ (q : ℕ). put_value w S a n (value_at w (slice_index t q)) (number w x)) at_j)) in
          value ∙ (elim (is_hit w a.element n) as (λ c. is_hit w a.element n ≡ c →
          (if c then write_bits (value_at w (slice_index t i)) bits (number w x) else value_at w (slice_index t i)) ≡ write v (aim_place w S a) (number w x) name) [
            | true ↦ λ h.
                let p : aim_place w S a ≡ (let q : Place = record { name = cell_name d.array d j; bits = bits } in q) = aim ∙ hit-place S a w d.array a.element j array l h in
                let named : name ≡ cell_name d.array d j = ap (λ (q : ℕ). (cell_at (all_cells S) q).name) (sym here) ∙ (cell-named S a.signal d.array j sort refl l).1 in
                ap (λ (q : ℕ). write_bits q bits (number w x)) was ∙ sym (ap (λ (q : Place). write v q (number w x) name) p ∙
                write-at v (record { name = cell_name d.array d j; bits = bits }) (number w x) name named)
            | false ↦ λ h. was ∙ off (λ m k e g. differ h (let y : m ≡ j = omega (arith, e, here) in subst (λ (q : ℕ). is_hit w a.element (first_number d.array + q) ≡ true) y g))
          ] refl)
        where
          differ : {c : Bool} → c ≡ false → c ≡ true → ⊥
          differ h k = cc

-- ---- what the calls give

signal-off : (k : Sort) → is_clock_sort k ≡ true → is_signal_sort k ≡ false
signal-off Input h = cc
signal-off Net' h = cc
signal-off Variable h = cc
signal-off Clock h = refl
signal-off (Constant y) h = refl
signal-off (Index g) h = refl
signal-off Other h = refl

-- a clock
pub puts-nowhere : {net : Net} {t : List ℕ} (S : Signals) (a : Aim) (x : Value) → is_clock_sort (signal_at S a.signal).sort ≡ true → IsTable net (all_cells S) t → Puts net net S (all_cells S) t t a x
puts-nowhere {net} S a x h t = record {
  grows = grows-refl net;
  table = t;
  is = λ w v o s.
      let d : Declared = signal_at S a.signal in
      let p : Place = place_at d.array d (span_of w a.element) (span_of w a.bits) in
      let e : aim_place w S a ≡ nowhere_place p.bits = ap (λ (c : Bool). aimed c p) (signal-off d.sort h) in
      record { is = λ i lt. s.is i lt ∙ sym (ap (λ (q : Place). write v q (number w x) (cell_at (all_cells S) i).name) e ∙ write-nowhere v p.bits (number w x) (cell_at (all_cells S) i).name) };
}

-- a whole word
pub rewritten-whole : (net : Net) (d : Declared) (o : Option Spot) (x : Value) (old : ℕ) → o ≡ None → old < length net.nodes → width_at net.nodes old ≡ width_of d → IsIn net x →
    wide_of x ≡ spot_width (width_of d) o →
    Gives net net x (width_of d) (λ w. write_bits (value_at w old) (bits_at d (span_of w o)) (number w x))
rewritten-whole net d None x old h lt e i g =
    gives-is (gives-same net x i) g (λ w o.
    let fit : value_at w old < 2 ^ width_of d = subst (λ (n : ℕ). value_at w old < 2 ^ n) e (o.fits old lt) in
    let less : number w x < 2 ^ width_of d = subst (λ (n : ℕ). number w x < 2 ^ n) g (number-lt net x w i o) in
    sym (write_whole (value_at w old) (width_of d) (number w x) fit ∙ mod-eq_of_lt less))
rewritten-whole net d (Some s) x old h lt e i g = cc

bit-value : (c : Bool) (p q : ℕ) → (if bit c == 0 then q else p) ≡ (if c then p else q)
bit-value true p q = refl
bit-value false p q = refl

bit-zero : (c : Bool) (p q : ℕ) → bit c ≡ 0 → q ≡ (if c then p else q)
bit-zero true p q h = cc
bit-zero false p q h = refl

-- the value of a node
gives-node-of : {old mid new : Net} {r : Value} {k V W : ℕ} {f : World → ℕ} → Gives old mid r W f → V ≡ wide_of r → Gives mid new (Node k V) V (λ w. number w r) → Gives old new (Node k W) W f
gives-node-of {old} {mid} {new} {r} {k} {V} {W} {f} a e g =
    let wide : V ≡ W = e ∙ a.width in
    let n : Gives mid new (Node k W) W (λ w. number w r) = subst (λ (z : ℕ). Gives mid new (Node k z) z (λ w. number w r)) wide g in
    record { grows = grows-trans old mid new a.grows n.grows; in_new = n.in_new; width = refl; is = λ w o. n.is w o ∙ a.is w (obeys-before mid new w n.grows o) }

module _ (S : Signals) (a : Aim) (d : Declared) (e : signal_at S a.signal ≡ d) (n o k : ℕ) (x : Value) where
  abbrev cell_of' : World → ℕ
  cell_of' w = put_value w S a n (value_at w o) (number w x)

  element-goal : {old new : Net} {f : World → ℕ} → Gives old new (Node k (width_of d)) (width_of d) f → ((w : World) → Obeys new w → f w ≡ cell_of' w) →
      Gives old new (Node k (width_of (signal_at S a.signal))) (width_of (signal_at S a.signal)) cell_of'
  element-goal {old} {new} {f} g i = subst (λ (z : Declared). Gives old new (Node k (width_of z)) (width_of z) cell_of') (sym e) (gives-is g refl i)

  at-bits : World → (z : Declared) → ℕ
  at-bits w z = write_bits (value_at w o) (bits_at z (span_of w a.bits)) (number w x)

  -- of no array
  pub element-plain : {old mid new : Net} {r : Value} → a.element ≡ None → Gives old mid r (width_of d) (λ w. write_bits (value_at w o) (bits_at d (span_of w a.bits)) (number w x)) →
      Gives mid new (Node k (wide_of r)) (wide_of r) (λ w. number w r) → Gives old new (Node k (width_of (signal_at S a.signal))) (width_of (signal_at S a.signal)) cell_of'
  element-plain h g m =
      element-goal (gives-node-of g refl m) (λ w o'.
      ap (λ (z : Declared). write_bits (value_at w o) (bits_at z (span_of w a.bits)) (number w x)) (sym e) ∙
      ap (λ (z : Option Spot). if is_hit w z n then write_bits (value_at w o) (bits_at (signal_at S a.signal) (span_of w a.bits)) (number w x) else value_at w o) (sym h))

  -- of an array, where the index may be this number
  pub element-hit : {b0 b1 b2 b3 b4 : Net} {t r y : Value} (V : ℕ) (s : Spot) → a.element ≡ Some s → Gives b0 b1 t 1 (λ w. bit (is_number (spot_number w s) n)) →
      Gives b1 b2 r (width_of d) (λ w. write_bits (value_at w o) (bits_at d (span_of w a.bits)) (number w x)) →
      Gives b2 b3 y (wide_of r) (λ w. if number w t == 0 then number w (Node o V) else number w r) →
      Gives b3 b4 (Node k (wide_of y)) (wide_of y) (λ w. number w y) → Gives b0 b4 (Node k (width_of (signal_at S a.signal))) (width_of (signal_at S a.signal)) cell_of'
  element-hit {b0} {b1} {b2} {b3} {b4} {t} {r} {y} V s h p q g m =
      let c : Gives b0 b3 y (width_of d) (λ w. if is_number (spot_number w s) n then write_bits (value_at w o) (bits_at d (span_of w a.bits)) (number w x) else value_at w o) = record {
        grows = grows-trans b0 b1 b3 p.grows (grows-trans b1 b2 b3 q.grows g.grows);
        in_new = g.in_new;
        width = g.width ∙ q.width;
        is = λ w o'.
            let o2 = obeys-before b2 b3 w g.grows o' in
            let o1 = obeys-before b1 b2 w q.grows o2 in
            g.is w o' ∙ (ap (λ z. if z == 0 then value_at w o else number w r) (p.is w o1) ∙ (ap (λ z. if bit (is_number (spot_number w s) n) == 0 then value_at w o else z) (q.is w o2) ∙
            bit-value (is_number (spot_number w s) n) (write_bits (value_at w o) (bits_at d (span_of w a.bits)) (number w x)) (value_at w o)));
      } in
      element-goal (gives-node-of c refl m) (λ w o'.
      ap (λ (z : Declared). if is_number (spot_number w s) n then write_bits (value_at w o) (bits_at z (span_of w a.bits)) (number w x) else value_at w o) (sym e) ∙
      ap (λ (z : Option Spot). if is_hit w z n then write_bits (value_at w o) (bits_at (signal_at S a.signal) (span_of w a.bits)) (number w x) else value_at w o) (sym h))

-- where it never is
pub element-miss : {old new : Net} {t : Value} (S : Signals) (a : Aim) (n o : ℕ) (x : Value) (s : Spot) → a.element ≡ Some s → o < length old.nodes →
    width_at old.nodes o ≡ width_of (signal_at S a.signal) →
    Gives old new t 1 (λ w. bit (is_number (spot_number w s) n)) → IsZero t →
    Gives old new (Node o (width_of (signal_at S a.signal))) (width_of (signal_at S a.signal)) (λ w. put_value w S a n (value_at w o) (number w x))
element-miss {old} {new} {t} S a n o x s h lt e g z = record {
  grows = g.grows;
  in_new = (omega (arith, lt, g.grows.more), width-later old new o g.grows lt ∙ e);
  width = refl;
  is = λ w o'.
      bit-zero (is_number (spot_number w s) n) (write_bits (value_at w o) (bits_at (signal_at S a.signal) (span_of w a.bits)) (number w x)) (value_at w o) (sym (g.is w o') ∙ z.is w) ∙
      ap (λ (y : Option Spot). if is_hit w y n then write_bits (value_at w o) (bits_at (signal_at S a.signal) (span_of w a.bits)) (number w x) else value_at w o) (sym h);
}

-- the cells of a signal stand in the table
pub cells-inside : (S : Signals) (k at n i : ℕ) (d : Declared) (first : List ℕ) → signal_at S k ≡ d → is_signal_sort (signal_at S k).sort ≡ true → AreFirsts S first → at ≡ slice_index first k →
    n ≡ cell_count d.array → at ≤ i → i < at + n →
    (i < length (all_cells S)) × ((cell_at (all_cells S) i).width ≡ width_of (signal_at S k))
cells-inside S k at n i d first e sort f a m le lt =
    let at_is : at ≡ length (all_cells (take k S)) = a ∙ f.is k (signal_in S k sort) in
    let n_is : n ≡ cell_count (signal_at S k).array = m ∙ sym (ap (λ (z : Declared). cell_count z.array) e) in
    let j : ℕ = i - at in
    let c = cell-named S k (signal_at S k).array j sort refl (omega (arith, le, lt, n_is)) in
    let here : length (all_cells (take k S)) + j ≡ i = omega (arith, at_is, le) in
    (omega (arith, here, c.0), sym (ap (λ (q : ℕ). (cell_at (all_cells S) q).width) here) ∙ c.2)

-- all of them
pub cells-end : (S : Signals) (k at n : ℕ) (d : Declared) (first : List ℕ) → signal_at S k ≡ d → is_signal_sort (signal_at S k).sort ≡ true → AreFirsts S first → at ≡ slice_index first k →
    n ≡ cell_count d.array → 1 ≤ n →
    at + n ≤ length (all_cells S)
cells-end S k at n d first e sort f a m some =
    let h = (cells-inside S k at n (at + n - 1) d first e sort f a m (omega (arith, some)) (omega (arith, some))).0 in
    omega (arith, h, some)

pub count-some : (o : Option Bounds) → 1 ≤ cell_count o
count-some None = omega arith
count-some (Some b) = omega arith

-- a cell more
module _ {old mid new : Net} (S : Signals) (a : Aim) (x : Value) (t u : List ℕ) (y : Value) (at i from m k o n : ℕ) where
  pub puts-more : y ≡ x → Rewrites old mid t u at i (put_at S a x t at from) → IsTable old (all_cells S) t → at ≤ i → i < length (all_cells S) →
      (cell_at (all_cells S) i).width ≡ width_of (signal_at S a.signal) →
      o ≡ slice_index u i → n ≡ from + (i - at) → m ≡ i + 1 →
      Gives mid new (Node k (width_of (signal_at S a.signal))) (width_of (signal_at S a.signal)) (λ w. put_value w S a n (value_at w o) (number w y)) →
      Rewrites old new t (slice_set u i k) at m (put_at S a x t at from)
  puts-more f r h le lt wide e j l g =
      let here : o ≡ slice_index t i = e ∙ r.above i (omega arith) in
      rewrites-next old mid new t u at i m k (put_at S a x t at from) r g.grows le (omega (arith, h.count)) l g.in_new.0
      (g.in_new.1 ∙ sym (h.widths i lt ∙ wide))
      (λ w o'. g.is w o' ∙ (ap (λ (z : Value). put_value w S a n (value_at w o) (number w z)) f ∙ (ap (λ (q : ℕ). put_value w S a q (value_at w o) (number w x)) j ∙
      ap (λ (q : ℕ). put_value w S a (from + (i - at)) (value_at w q) (number w x)) here)))

pub put-at-is : (S : Signals) (a : Aim) (x : Value) (t : List ℕ) (at from : ℕ) (w : World) (j : ℕ) →
    put_at S a x t at from w (at + j) ≡ put_value w S a (from + j) (value_at w (slice_index t (at + j))) (number w x)
put-at-is S a x t at from w j =
    let e : from + (at + j - at) ≡ from + j = omega arith in
    ap (λ (q : ℕ). put_value w S a q (value_at w (slice_index t (at + j))) (number w x)) e
