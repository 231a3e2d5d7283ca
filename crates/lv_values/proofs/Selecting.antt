-- What reading and writing the bits of a window give, from the parts of words.
use Rattle.std.proofs.Common.{◌≡◌, ℕ, ◌+◌, ◌-◌, ◌*◌, ◌/◌, ◌%◌, ◌^◌, ◌<◌, ◌≤◌, refl, sym, ◌∙◌, ap, subst, arith}
use Rattle.std.proofs.Math.Nat.{mod-eq_of_lt, div-eq_of_lt, mod-lt}
use Rattle.std.proofs.lemmas.Nat.{pow_pos, shr_below, shr_split}
use Rattle.lv_netlist.specs.Net.{Net}
use Rattle.lv_source.specs.Places.{read_bits, write_bits}
use Rattle.lv_values.specs.declared.value.Value.{Value}
use Rattle.lv_values.specs.declared.value.Value.TheVariants.{Known}
use Rattle.lv_values.specs.Worlds.{Obeys, Gives, IsIn, width_of, number}
use Rattle.lv_values.specs.Windows.{run, replaced}
use Rattle.lv_values.proofs.Bits.{read_run, write_run}
use Rattle.lv_values.proofs.Growth.{grows-refl, grows-trans, obeys-before, number-lt, gives-same, gives-is}

-- ---- nothing inside

pub read_empty : (a below low n above : ℕ) → n ≡ 0 → read_bits a (run below low n above) ≡ 0
read_empty a below low n above e =
    let p : 2 ^ n ≡ 1 = ap (λ k. 2 ^ k) e in
    let z : a / 2 ^ low % 2 ^ n ≡ 0 = rw p (omega arith) in
    read_run a below low n above ∙ rw z (omega arith)

pub replaced_empty : (a low n x : ℕ) → n ≡ 0 → replaced a low n x ≡ a
replaced_empty a low n x e =
    let p : 2 ^ n ≡ 1 = ap (λ k. 2 ^ k) e in
    let s : low + n ≡ low = omega (arith, e) in
    let z : x % 2 ^ n ≡ 0 = rw p (omega arith) in
    rw (z, s) (omega (arith, shr_split a low))

pub write_empty : (a below low n above x : ℕ) → n ≡ 0 → write_bits a (run below low n above) x ≡ a
write_empty a below low n above x e = write_run a below low n above x ∙ replaced_empty a low n (x / 2 ^ below) e

-- ---- parts of a word

one : (z : ℕ) → z ≡ 0 → 2 ^ z ≡ 1
one z e = ap (λ k. 2 ^ k) e

pub raised_none : (net : Net) (x : Value) (zero : ℕ) → IsIn net x → zero ≡ 0 → Gives net net x (width_of x + zero) (λ w. number w x * 2 ^ zero)
raised_none net x z i e = gives-is (gives-same net x i) (omega (arith, e)) (λ w o. let p = one z e in rw p (omega arith))

pub above_none : (net : Net) (word x : Value) (low : ℕ) → IsIn net x → low ≡ 0 → Gives net net x (low + width_of x) (λ w. number w x * 2 ^ low + number w word % 2 ^ low)
above_none net word x low i e = gives-is (gives-same net x i) (omega (arith, e)) (λ w o. let p = one low e in rw p (omega arith))

pub below_none : (net : Net) (word x : Value) → IsIn net word → IsIn net x → width_of x ≡ width_of word →
    Gives net net x (width_of word) (λ w. number w word / 2 ^ width_of x * 2 ^ width_of x + number w x)
below_none net word x j i e = gives-is (gives-same net x i) e (λ w o.
    let l : number w word < 2 ^ width_of x = subst (λ (n : ℕ). number w word < 2 ^ n) (sym e) (number-lt net word w j o) in
    let z : number w word / 2 ^ width_of x ≡ 0 = div-eq_of_lt l in
    rw z (omega arith))

pub high : (a k n w : ℕ) → w ≡ n + k → a < 2 ^ w → a / 2 ^ k % 2 ^ n ≡ a / 2 ^ k
high a k n w e h = mod-eq_of_lt (shr_below a n k (subst (λ (m : ℕ). a < 2 ^ m) e h))

-- what is written, where the inside is not empty
pub write_is : (a below low n above x y : ℕ) → y ≡ x / 2 ^ below % 2 ^ n → replaced a low n y ≡ write_bits a (run below low n above) x
write_is a below low n above x y e =
    let m : y % 2 ^ n ≡ x / 2 ^ below % 2 ^ n = ap (λ k. k % 2 ^ n) e ∙ mod-eq_of_lt (mod-lt (x / 2 ^ below) (pow_pos n)) in
    ap (λ k. a / 2 ^ (low + n) * 2 ^ (low + n) + (k * 2 ^ low + a % 2 ^ low)) m ∙ sym (write_run a below low n above x)

-- ---- the parts put together

pub read_none : (net : Net) (word r : Value) (below low n above : ℕ) → n ≡ 0 → r ≡ Known (record { width = below + above; value = 0 }) → Gives net net r (below + (n + above)) (λ w. read_bits (number w word) (run below low n above))
read_none net word r below low n above e h =
    let z : 0 < 2 ^ (below + above) = pow_pos (below + above) in
    let k : Gives net net (Known (record { width = below + above; value = 0 })) (below + (n + above)) (λ w. read_bits (number w word) (run below low n above)) = record {
      grows = grows-refl net;
      in_new = z;
      width = omega (arith, e);
      is = λ w o. sym (read_empty (number w word) below low n above e);
    } in
    subst (λ (v : Value). Gives net net v (below + (n + above)) (λ w. read_bits (number w word) (run below low n above))) (sym h) k

pub read_some : {old mid last new : Net} (word : Value) {x y r : Value} (below low n above : ℕ) → Gives old mid x n (λ w. number w word / 2 ^ low % 2 ^ n) → Gives mid last y (n + above) (λ w. number w x) →
    Gives last new r (width_of y + below) (λ w. number w y * 2 ^ below) → Gives old new r (below + (n + above)) (λ w. read_bits (number w word) (run below low n above))
read_some {old} {mid} {last} {new} word {x} {y} {r} below low n above f g h = record {
  grows = grows-trans old mid new f.grows (grows-trans mid last new g.grows h.grows);
  in_new = h.in_new;
  width = h.width ∙ omega (arith, g.width);
  is = λ w o.
      let o1 : Obeys last w = obeys-before last new w h.grows o in
      let o0 : Obeys mid w = obeys-before mid last w g.grows o1 in
      h.is w o ∙ (ap (λ k. k * 2 ^ below) (g.is w o1 ∙ f.is w o0) ∙ sym (read_run (number w word) below low n above));
}

pub high_some : {old mid new : Net} (word x : Value) {y r : Value} (low n : ℕ) → low ≡ width_of x → n ≡ width_of word - low → low ≤ width_of word → IsIn old word → Gives old mid y n (λ w. number w word / 2 ^ low % 2 ^ n) →
    Gives mid new r (width_of y + width_of x) (λ w. number w y * 2 ^ width_of x + number w x) → Gives old new r (width_of word) (λ w. number w word / 2 ^ width_of x * 2 ^ width_of x + number w x)
high_some {old} {mid} {new} word x {y} {r} low n e f le i g h = record {
  grows = grows-trans old mid new g.grows h.grows;
  in_new = h.in_new;
  width = h.width ∙ omega (arith, g.width, e, f, le);
  is = λ w o.
      let o1 : Obeys mid w = obeys-before mid new w h.grows o in
      let o0 : Obeys old w = obeys-before old mid w g.grows o1 in
      let s : number w word / 2 ^ low % 2 ^ n ≡ number w word / 2 ^ width_of x = high (number w word) low n (width_of word) (omega (arith, f, le)) (number-lt old word w i o0) ∙ ap (λ k. number w word / 2 ^ k) e in
      h.is w o ∙ ap (λ k. k * 2 ^ width_of x + number w x) (g.is w o1 ∙ s);
}

pub splice_some : {old mid new : Net} (word x : Value) {y r : Value} (low : ℕ) → IsIn old x → Gives old mid y (low + width_of x) (λ w. number w x * 2 ^ low + number w word % 2 ^ low) →
    Gives mid new r (width_of word) (λ w. number w word / 2 ^ width_of y * 2 ^ width_of y + number w y) → Gives old new r (width_of word) (λ w. replaced (number w word) low (width_of x) (number w x))
splice_some {old} {mid} {new} word x {y} {r} low i g h = record {
  grows = grows-trans old mid new g.grows h.grows;
  in_new = h.in_new;
  width = h.width;
  is = λ w o.
      let o1 : Obeys mid w = obeys-before mid new w h.grows o in
      let o0 : Obeys old w = obeys-before old mid w g.grows o1 in
      let m : number w x ≡ number w x % 2 ^ width_of x = sym (mod-eq_of_lt (number-lt old x w i o0)) in
      let a : ℕ = number w word in
      h.is w o ∙ (ap (λ k. a / 2 ^ k * 2 ^ k + number w y) g.width ∙ ap (λ k. a / 2 ^ (low + width_of x) * 2 ^ (low + width_of x) + k) (g.is w o1 ∙ ap (λ k. k * 2 ^ low + a % 2 ^ low) m));
}

pub written_none : (net : Net) (word x : Value) (below low n above : ℕ) → IsIn net word → n ≡ 0 → Gives net net word (width_of word) (λ w. write_bits (number w word) (run below low n above) (number w x))
written_none net word x below low n above i e = gives-is (gives-same net word i) refl (λ w o. sym (write_empty (number w word) below low n above (number w x) e))

pub written_some : {old mid new : Net} (word x : Value) {y r : Value} (below low n above : ℕ) → Gives old mid y n (λ w. number w x / 2 ^ below % 2 ^ n) →
    Gives mid new r (width_of word) (λ w. replaced (number w word) low (width_of y) (number w y)) → Gives old new r (width_of word) (λ w. write_bits (number w word) (run below low n above) (number w x))
written_some {old} {mid} {new} word x {y} {r} below low n above g h = record {
  grows = grows-trans old mid new g.grows h.grows;
  in_new = h.in_new;
  width = h.width;
  is = λ w o.
      let o1 : Obeys mid w = obeys-before mid new w h.grows o in
      h.is w o ∙ (ap (λ k. replaced (number w word) low k (number w y)) g.width ∙ write_is (number w word) below low n above (number w x) (number w y) (g.is w o1));
}
