-- A choice by the bits of an index, one level of a tree after another.
use Rattle.std.proofs.Common.{◌≡◌, ℕ, zero, suc, ◌+◌, ◌-◌, ◌*◌, ◌/◌, ◌%◌, ◌^◌, ◌<◌, ◌≤◌, ◌==◌, ◌⊎◌, inl, inr, Bool, true, false, List, [], ◌∷◌, ◌++◌, length, map, refl, sym, ◌∙◌, ap, subst, arith, None, ℤ, pos, negsuc, length-append}
use Rattle.std.specs.Prelude.{if◌then◌else◌, nat_lt, ◌-ℤ◌, slice_get, slice_index_or}
use Rattle.std.proofs.lemmas.Nat.{pow_pos, mod-pow-add, one_shl}
use Rattle.lv_bits.proofs.Shifts.{pow_le}
use Rattle.std.proofs.lemmas.Bool.Decides.{nat_tests}
use Rattle.std.proofs.lemmas.Bool.{cases_lt}
use Rattle.std.proofs.lemmas.List.{append-nil, get_or_append_left, get_or_at}
use Rattle.std.proofs.Math.Nat.{mod-lt, pow-suc}
use Rattle.lv_netlist.specs.Net.{Net}
use Rattle.lv_source.specs.Names.{Bounds, low, high}
use Rattle.lv_source.specs.Places.{falls, rising, bits_from, read_bits, write_bits}
use Rattle.lv_values.specs.declared.value.Value.{Value}
use Rattle.lv_values.specs.declared.index.Choices.TheVariants.{Elements, Read, Write}
use Rattle.lv_values.specs.Worlds.{World, Obeys, Grows, Gives, IsIn, width_of, number}
use Rattle.lv_values.specs.Windows.{nones, number_in}
use Rattle.lv_values.specs.Picked.{code_number, node_value, element_value, MissesFrom, Misses, AreOutside, AreBits}
use Rattle.lv_values.proofs.Bits.{read_nones, write_nones}
use Rattle.lv_values.proofs.Growth.{grows-trans, obeys-before, in-later, gives-is}
use Rattle.lv_values.proofs.Windows.{above, below, negative, through, falling_bits, rising_bits}

-- ---- a level of the tree

one_bit : (t x y : ℕ) (F : ℕ → ℕ) (m p lower : ℕ) → t < 2 → x ≡ F lower → y ≡ F (p + lower) → m ≡ t * p + lower → (if t == 0 then x else y) ≡ F m
one_bit zero x y F m p lower h e f g = e ∙ ap F (let s : m ≡ lower = omega (arith, g) in sym s)
one_bit (suc zero) x y F m p lower h e f g = f ∙ ap F (let s : m ≡ p + lower = omega (arith, g) in sym s)
one_bit (suc (suc t)) x y F m p lower h e f g = absurd (omega arith)

pub level : {old mid last new : Net} {x y r : Value} (t index : Value) {V : ℕ} (F : World → ℕ → ℕ) (base k j half : ℕ) → k ≡ j + 1 → half ≡ 2 ^ j →
    Gives old mid x V (λ w. F w (base + number w index % 2 ^ j)) → Gives mid last y V (λ w. F w ((base + half) + number w index % 2 ^ j)) →
    Gives last new r V (λ w. if number w t == 0 then number w x else number w y) → ((w : World) → Obeys old w → number w t ≡ number w index / 2 ^ j % 2) →
    Gives old new r V (λ w. F w (base + number w index % 2 ^ k))
level {old} {mid} {last} {new} {x} {y} {r} t index {V} F base k j half e h p q s bit = record {
  grows = grows-trans old mid new p.grows (grows-trans mid last new q.grows s.grows);
  in_new = s.in_new;
  width = s.width;
  is = λ w o.
      let o2 : Obeys last w = obeys-before last new w s.grows o in
      let o1 : Obeys mid w = obeys-before mid last w q.grows o2 in
      let o0 : Obeys old w = obeys-before old mid w p.grows o1 in
      let n : ℕ = number w index in
      let b = bit w o0 in
      let split : n % 2 ^ k ≡ number w t * 2 ^ j + n % 2 ^ j =
      (let c : k ≡ 1 + j = omega (arith, e) in ap (λ i. n % 2 ^ i) c ∙ (mod-pow-add n 1 j ∙ ap (λ i. i * 2 ^ j + n % 2 ^ j) (sym b))) in
      let lt : number w t < 2 = omega (arith, b) in
      let up : number w y ≡ F w (base + (2 ^ j + n % 2 ^ j)) = q.is w o2 ∙ ap (F w) (omega (arith, h)) in
      s.is w o ∙ one_bit (number w t) (number w x) (number w y) (λ i. F w (base + i)) (n % 2 ^ k) (2 ^ j) (n % 2 ^ j) lt (p.is w o1) up split;
}

pub leaf : {old new : Net} {r : Value} (index : Value) {V : ℕ} (F : World → ℕ → ℕ) (base k : ℕ) → k ≡ 0 → Gives old new r V (λ w. F w base) → Gives old new r V (λ w. F w (base + number w index % 2 ^ k))
leaf index F base k e g = gives-is g refl (λ w o. ap (F w) (let p : 2 ^ k ≡ 1 = ap (λ i. 2 ^ i) e in rw p (omega arith)))

pub without : {net : Net} {r : Value} (index : Value) {V : ℕ} {f : World → ℕ} (F : World → ℕ → ℕ) (base k last : ℕ) → last + 1 ≡ base + 2 ^ k → Gives net net r V f → ((w : World) (x : ℕ) → base ≤ x → x ≤ last → F w x ≡ f w) →
    Gives net net r V (λ w. F w (base + number w index % 2 ^ k))
without index F base k last e g h = gives-is g refl (λ w o.
    let m : number w index % 2 ^ k < 2 ^ k = mod-lt (number w index) (pow_pos k) in
    sym (h w (base + number w index % 2 ^ k) (omega arith) (omega (arith, e, m))))

-- ---- what lies outside

missed : (l h n : ℕ) (z : ℤ) → MissesFrom l h n z → map (number_in l h) (rising z n) ≡ nones n
missed l h n (pos i) (inl lt) = above l h i n lt
missed l h n (pos i) (inr le) = below l h i n n 0 (omega arith) (λ t. le) ∙ append-nil (nones n)
missed l h n (negsuc i) m = elim (before n (suc i)) [
  | inl le ↦ negative l h i n le
  | inr gt ↦ let k : ℕ = n - suc i in
      through l h i n k (omega (arith, gt)) ∙ (ap (λ xs. nones (suc i) ++ xs) (missed_zero k (omega (arith, m))) ∙ joins (suc i) k n (omega (arith, gt)))
]
  where
    before : (a b : ℕ) → (a ≤ b) ⊎ (b < a)
    before a b = elim (cases_lt b a) [ inl g ↦ inr g | inr g ↦ inl g ]

    missed_zero : (k : ℕ) → k ≤ l → map (number_in l h) (rising (pos 0) k) ≡ nones k
    missed_zero k le = below l h 0 k k 0 (omega arith) (λ t. omega (arith, le)) ∙ append-nil (nones k)

    joins : (a b c : ℕ) → a + b ≡ c → nones a ++ nones b ≡ nones c
    joins zero b c e = ap nones (let s : b ≡ c = omega (arith, e) in s)
    joins (suc a) b zero e = absurd (omega (arith, e))
    joins (suc a) b (suc c) e = ap (λ xs. None ∷ xs) (joins a b c (omega (arith, e)))

bits_missed : (b : Bounds) (n : ℕ) (z : ℤ) → MissesFrom (low b) (high b) n z → bits_from b z n ≡ nones n
bits_missed b n z m = elim (falls b) as (λ c. falls b ≡ c → bits_from b z n ≡ nones n) [
  | true ↦ λ e. falling_bits b z n 0 b.right 0 n e (missed (low b) (high b) n z m) (omega arith)
  | false ↦ λ e. rising_bits b z n 0 0 0 n e (missed (low b) (high b) n z m) (omega arith) ∙ append-nil (nones n)
] refl

get_none : {A : Type 0} (xs : List A) (i : ℕ) → length xs ≤ i → slice_get xs i ≡ None
get_none [] i le = refl
get_none (x ∷ xs) zero le = absurd (omega arith)
get_none (x ∷ xs) (suc i) le = get_none xs i (omega arith)

element_missed : (w : World) (nodes : List ℕ) (l : ℕ) (z : ℤ) → 1 ≤ length nodes → MissesFrom l (l + (length nodes - 1)) 1 z → element_value w nodes l z ≡ 0
element_missed w nodes l (negsuc i) s m = refl
element_missed w nodes l (pos i) s (inl lt) =
    let t : nat_lt i l ≡ false = (let g : l ≤ i = omega arith in grind (arith, nat_tests)) in
    rw t (ap (node_value w) (get_none nodes (i - l) (omega arith)))
element_missed w nodes l (pos i) s (inr le) =
    let t : nat_lt i l ≡ true = (let g : i < l = omega arith in grind (arith, nat_tests)) in
    rw t refl

pub elements_outside : (nodes : List ℕ) (l width V down first last : ℕ) (signed : Bool) → 1 ≤ length nodes → Misses l (l + (length nodes - 1)) 1 signed width down first last → AreOutside nodes (Elements l V) signed width down first last
elements_outside nodes l width V down first last signed s m = record { are = λ w x f g. element_missed w nodes l (code_number signed width x -ℤ pos down) s (m.misses x f g) }

pub read_outside : (nodes : List ℕ) (word : Value) (left right n width down first last : ℕ) (signed : Bool) (l h : ℕ) → (let b : Bounds = record { left = left; right = right } in l ≡ low b → h ≡ high b →
    Misses l h n signed width down first last → AreOutside nodes (Read word left right n) signed width down first last)
read_outside nodes word left right n width down first last signed l h p q m = record {
  are = λ w x f g.
      let b : Bounds = record { left = left; right = right } in
      let z : ℤ = code_number signed width x -ℤ pos down in
      let k : MissesFrom (low b) (high b) n z = subst (λ i. MissesFrom i (high b) n z) p (subst (λ i. MissesFrom l i n z) q (m.misses x f g)) in
      ap (read_bits (number w word)) (bits_missed b n z k) ∙ read_nones (number w word) n;
}

pub write_outside : (nodes : List ℕ) (word y : Value) (left right n width down first last : ℕ) (signed : Bool) (l h : ℕ) → n ≡ width_of y → (let b : Bounds = record { left = left; right = right } in l ≡ low b → h ≡ high b →
    Misses l h n signed width down first last → AreOutside nodes (Write word left right y) signed width down first last)
write_outside nodes word y left right n width down first last signed l h e p q m = record {
  are = λ w x f g.
      let b : Bounds = record { left = left; right = right } in
      let z : ℤ = code_number signed width x -ℤ pos down in
      let k : MissesFrom (low b) (high b) n z = subst (λ i. MissesFrom i (high b) n z) p (subst (λ i. MissesFrom l i n z) q (m.misses x f g)) in
      ap (λ i. write_bits (number w word) (bits_from b z i) (number w y)) (sym e) ∙ (ap (λ ks. write_bits (number w word) ks (number w y)) (bits_missed b n z k) ∙ write_nones (number w word) n (number w y));
}

-- ---- the bits of an index

pub bits-later : {old new : Net} {index : Value} {bits : List Value} {n : ℕ} → Grows old new → AreBits old index bits n → AreBits new index bits n
bits-later {old} {new} {index} {bits} g h = record {
  count = h.count;
  each = λ i d lt. (in-later old new (slice_index_or bits i d) g (h.each i d lt).0, (h.each i d lt).1);
  is = λ w o i d lt. h.is w (obeys-before old new w g o) i d lt;
}

pub bits-none : (net : Net) (index : Value) → AreBits net index [] 0
bits-none net index = record { count = refl; each = λ i d lt. absurd (omega arith); is = λ w o i d lt. absurd (omega arith) }

pub bits-more : {mid new : Net} {index bit : Value} {bits : List Value} {i n : ℕ} → AreBits mid index bits i → n ≡ i + 1 → Gives mid new bit 1 (λ w. number w index / 2 ^ i % 2 ^ 1) → AreBits new index (bits ++ bit ∷ []) n
bits-more {mid} {new} {index} {bit} {bits} {i} {n} h e g =
    let k = bits-later g.grows h in
    let l : length (bits ++ bit ∷ []) ≡ i + 1 = omega (arith, length-append bits (bit ∷ []), h.count) in
    record {
      count = l ∙ sym e;
      each = λ j d lt. elim (cases_lt j i) [
        | inl below ↦ (let s : slice_index_or (bits ++ bit ∷ []) j d ≡ slice_index_or bits j d = get_or_append_left bits (bit ∷ []) d j (omega (arith, h.count)) in
            subst (λ (v : Value). IsIn new v × (width_of v ≡ 1)) (sym s) (k.each j d (omega (arith, h.count))))
        | inr above ↦ (let s : slice_index_or (bits ++ bit ∷ []) j d ≡ bit = get_or_at bits bit [] d j (omega (arith, h.count, l)) in
            subst (λ (v : Value). IsIn new v × (width_of v ≡ 1)) (sym s) (g.in_new, g.width))
      ];
      is = λ w o j d lt. elim (cases_lt j i) [
        | inl below ↦ ap (number w) (get_or_append_left bits (bit ∷ []) d j (omega (arith, h.count))) ∙ k.is w o j d (omega (arith, h.count))
        | inr above ↦ (let s : i ≡ j = omega (arith, l) in ap (number w) (get_or_at bits bit [] d j (omega (arith, h.count, l))) ∙ (g.is w o ∙ ap (λ m. number w index / 2 ^ m % 2) s))
      ];
    }

-- ---- halves

pub half_is : (k : ℕ) → k ≤ 128 → 1 * 2 ^ (k - 1) % 2 ^ 128 ≡ 2 ^ (k - 1)
half_is k h = one_shl (k - 1) 128 (omega arith)

pub twice : (k : ℕ) → 1 ≤ k → 2 ^ k ≡ 2 ^ (k - 1) + 2 ^ (k - 1)
twice zero h = absurd (omega arith)
twice (suc k) h = let e : suc k - 1 ≡ k = omega arith in rw e (pow-suc 2 k ∙ omega arith)

pub bound : (w : ℕ) → w ≤ 128 → 2 ^ w ≤ 2 ^ 128
bound w h = pow_le w 128 h
