-- The rows that join circuits.
use Rattle.std.proofs.Common.{◌≡◌, ℕ, ◌+◌, ◌-◌, ◌*◌, ◌/◌, ◌%◌, ◌^◌, ◌<◌, ◌≤◌, Bool, true, false, not, ◌&&◌, ◌||◌, if◌then◌else◌, ◌==◌, nat_lt, List, [], ◌∷◌, ◌++◌, length, map, replicate, refl, sym, ◌∙◌, ap, subst, arith, zero, suc, add-zero, length-append}
use Rattle.std.proofs.lemmas.Nat.{pow-add}
use Rattle.std.proofs.lemmas.List.{length-map, length-replicate, map-append}
use Rattle.lv_bits.specs.declared.op.Op.{Op}
use Rattle.lv_bits.specs.declared.op.Op.TheVariants.{Neg, Not, LogNot, RedAnd, RedOr, RedXor, Add, Sub, Mul, Shl, Shr, Sar, Lt, Le, Gt, Ge, Eq, Ne, And, Or, Xor, Xnor, LogAnd, LogOr}
use Rattle.lv_bits.specs.Words.{Bits}
use Rattle.lv_bits.specs.Values.{bit, unary_of, binary_of, is_unary, is_apart, extended, filled}
use Rattle.lv_aig.specs.declared.edge.Edge.{Edge}
use Rattle.lv_aig.specs.Edges.{Nodes, edge_bit, IsValuation, Grows, Gives, zero_edge}
use Rattle.lv_circuits.specs.declared.gates.Kind.{Kind}
use Rattle.lv_circuits.specs.declared.shifts.Way.TheVariants.{Left, Right}
use Rattle.lv_bits.specs.Digits.{number}
use Rattle.lv_circuits.specs.Words.{edge_bits, word_of, AllBelow, edge_at, GivesBits, GivesWord, sum_bits, fold_bits, kind_bit}
use Rattle.lv_circuits.specs.Moves.{moved}
use Rattle.lv_circuits.specs.Rows.{IsEven, IsApart}
use Rattle.lv_bits.proofs.Digits.{pow_cons}
use Rattle.lv_circuits.proofs.Numbers.{number_not, any_set}
use Rattle.lv_circuits.proofs.RowLaws.{same_word, as_single, bits_length, zero_bit, one_bit, sum_mod}
use Rattle.lv_aig.proofs.Graphs.{grows_refl, grows_trans, valuation_back}
use Rattle.lv_circuits.proofs.Steps.{below_end}
use Rattle.lv_circuits.proofs.Joins.{turn}
use Rattle.lv_circuits.proofs.More.{number_append, number_zeros, number_ones, top_edge}
use Rattle.lv_circuits.proofs.Moves.{bits_replicate, number_left, number_right, below_replicate, below_append, below_same}

pub apart_from : (op : Op) → is_apart op ≡ true → IsApart op
apart_from Neg h = cc
apart_from Not h = cc
apart_from LogNot h = cc
apart_from RedAnd h = cc
apart_from RedOr h = cc
apart_from RedXor h = cc
apart_from Add h = cc
apart_from Sub h = cc
apart_from Mul h = cc
apart_from Shl h = tt
apart_from Shr h = tt
apart_from Sar h = tt
apart_from Lt h = cc
apart_from Le h = cc
apart_from Gt h = cc
apart_from Ge h = cc
apart_from Eq h = cc
apart_from Ne h = cc
apart_from And h = cc
apart_from Or h = cc
apart_from Xor h = cc
apart_from Xnor h = cc
apart_from LogAnd h = tt
apart_from LogOr h = tt

pub even_from : (op : Op) → is_unary op ≡ false → is_apart op ≡ false → IsEven op
even_from Neg u h = cc
even_from Not u h = cc
even_from LogNot u h = cc
even_from RedAnd u h = cc
even_from RedOr u h = cc
even_from RedXor u h = cc
even_from Add u h = tt
even_from Sub u h = tt
even_from Mul u h = tt
even_from Shl u h = cc
even_from Shr u h = cc
even_from Sar u h = cc
even_from Lt u h = tt
even_from Le u h = tt
even_from Gt u h = tt
even_from Ge u h = tt
even_from Eq u h = tt
even_from Ne u h = tt
even_from And u h = tt
even_from Or u h = tt
even_from Xor u h = tt
even_from Xnor u h = tt
even_from LogAnd u h = cc
even_from LogOr u h = cc

-- the negation of a number
neg_mod : (n z a m : ℕ) → n + a + 1 ≡ m → z ≡ 0 → (n + z + 1) % m ≡ (m - a) % m
neg_mod n z a m e f = ap (λ (k : ℕ). k % m) (let g : n + z + 1 ≡ m - a = omega arith in g)

pub gives_neg : (old new : Nodes) (a turned slice zeros slice2 es : List Edge) (z one : Edge) → z ≡ zero_edge → one ≡ turn z → slice ≡ turned → zeros ≡ replicate (length a) z → slice2 ≡ zeros → length turned ≡ length a → length es ≡ length slice → GivesBits old old turned (λ v. map not (edge_bits v a)) → GivesBits old new es (λ v. sum_bits (edge_bit v one) (edge_bits v slice) (edge_bits v slice2)) → GivesWord old new es (λ v. unary_of Neg (word_of v a))
gives_neg old new a turned slice zeros slice2 es z one pz po ps pzs ps2 count count2 g h = record {
  grows = h.grows;
  edges = h.edges;
  is = λ v val.
      let at_old : IsValuation old v = valuation_back old new v h.grows val in
      let x : edge_bits v slice ≡ map not (edge_bits v a) = ap (edge_bits v) ps ∙ g.is v at_old in
      let y : edge_bits v slice2 ≡ replicate (length a) false = ap (edge_bits v) (ps2 ∙ pzs) ∙ (bits_replicate v (length a) z ∙ ap (λ (t : Bool). replicate (length a) t) (zero_bit new v z pz val)) in
      let lx : length (map not (edge_bits v a)) ≡ length a = length-map (edge_bits v a) not ∙ bits_length v a in
      let lens : length (map not (edge_bits v a)) ≡ length (replicate (length a) false) = lx ∙ sym (length-replicate (length a) false) in
      let sum : number (edge_bits v es) ≡ number (sum_bits true (map not (edge_bits v a)) (replicate (length a) false)) =
      ap number (h.is v val ∙ (ap (λ (t : Bool). sum_bits t (edge_bits v slice) (edge_bits v slice2)) (one_bit new v one z pz po val) ∙ (ap (λ (bs : List Bool). sum_bits true bs (edge_bits v slice2)) x ∙ ap (λ (bs : List Bool). sum_bits true (map not (edge_bits v a)) bs) y))) in
      let width : 2 ^ length (map not (edge_bits v a)) ≡ 2 ^ length a = ap (λ (n : ℕ). 2 ^ n) lx in
      let whole : number (map not (edge_bits v a)) + number (edge_bits v a) + 1 ≡ 2 ^ length a = number_not (edge_bits v a) ∙ ap (λ (n : ℕ). 2 ^ n) (bits_length v a) in
      same_word (length es) (length a) (number (edge_bits v es)) ((2 ^ length a - number (edge_bits v a)) % 2 ^ length a)
      (count2 ∙ (ap length ps ∙ count))
      (sum ∙ (sum_mod true (map not (edge_bits v a)) (replicate (length a) false) lens ∙
      (ap (λ (m : ℕ). (number (map not (edge_bits v a)) + number (replicate (length a) false) + 1) % m) width ∙
      neg_mod (number (map not (edge_bits v a))) (number (replicate (length a) false)) (number (edge_bits v a)) (2 ^ length a) whole (number_zeros (length a)))));
}

-- whether words are 0, joined
pub gives_logic : (old m n new : Nodes) (kind : Kind) (a b es : List Edge) (x y e : Edge) → es ≡ e ∷ [] → Gives old m x (λ v. fold_bits (λ p q. p || q) false (edge_bits v a)) → Gives m n y (λ v. fold_bits (λ p q. p || q) false (edge_bits v b)) → Gives n new e (λ v. kind_bit kind (edge_bit v x) (edge_bit v y)) → GivesWord old new es (λ v. record { width = 1; value = bit (kind_bit kind (not (number (edge_bits v a) == 0)) (not (number (edge_bits v b) == 0))) })
gives_logic old m n new kind a b es x y e p f g h =
    let word : (ℕ → Bool) → Bits = λ v. record { width = 1; value = bit (kind_bit kind (not (number (edge_bits v a) == 0)) (not (number (edge_bits v b) == 0))) } in
    as_single old new es e (λ v. kind_bit kind (not (number (edge_bits v a) == 0)) (not (number (edge_bits v b) == 0))) word p
    (record {
      grows = grows_trans old m new f.grows (grows_trans m n new g.grows h.grows);
      edge = h.edge;
      is = λ v val.
          let at_n : IsValuation n v = valuation_back n new v h.grows val in
          let at_m : IsValuation m v = valuation_back m n v g.grows at_n in
          h.is v val ∙ (ap (λ (t : Bool). kind_bit kind t (edge_bit v y)) (f.is v at_m ∙ any_set (edge_bits v a)) ∙ ap (λ (t : Bool). kind_bit kind (not (number (edge_bits v a) == 0)) t) (g.is v at_n ∙ any_set (edge_bits v b)));
    }) (λ v. refl) (λ v val. refl)

pub gives_left : (old new : Nodes) (signed : Bool) (a b es : List Edge) (z : Edge) → z ≡ zero_edge → length es ≡ length a → GivesBits old new es (λ v. moved Left (edge_bit v z) (number (edge_bits v b)) (edge_bits v a)) → GivesWord old new es (λ v. binary_of Shl signed (word_of v a) (word_of v b))
gives_left old new signed a b es z pz count g = record {
  grows = g.grows;
  edges = g.edges;
  is = λ v val. same_word (length es) (length a) (number (edge_bits v es)) (number (edge_bits v a) * 2 ^ number (edge_bits v b) % 2 ^ length a) count
      (ap number (g.is v val ∙ ap (λ (t : Bool). moved Left t (number (edge_bits v b)) (edge_bits v a)) (zero_bit new v z pz val)) ∙
      (number_left (number (edge_bits v b)) (edge_bits v a) ∙ ap (λ (n : ℕ). number (edge_bits v a) * 2 ^ number (edge_bits v b) % 2 ^ n) (bits_length v a)));
}

pub gives_right : (old new : Nodes) (signed : Bool) (a b es : List Edge) (z : Edge) → z ≡ zero_edge → length es ≡ length a → GivesBits old new es (λ v. moved Right (edge_bit v z) (number (edge_bits v b)) (edge_bits v a)) → GivesWord old new es (λ v. binary_of Shr signed (word_of v a) (word_of v b))
gives_right old new signed a b es z pz count g = record {
  grows = g.grows;
  edges = g.edges;
  is = λ v val. same_word (length es) (length a) (number (edge_bits v es)) (number (edge_bits v a) / 2 ^ number (edge_bits v b)) count
      (ap number (g.is v val ∙ ap (λ (t : Bool). moved Right t (number (edge_bits v b)) (edge_bits v a)) (zero_bit new v z pz val)) ∙
      (number_right false (number (edge_bits v b)) (edge_bits v a) ∙ add-zero (number (edge_bits v a) / 2 ^ number (edge_bits v b))));
}

pub gives_arithmetic : (old new : Nodes) (signed : Bool) (a b es : List Edge) (fill : Edge) → ((v : ℕ → Bool) → IsValuation old v → edge_bit v fill ≡ (signed && not (nat_lt (number (edge_bits v a)) (2 ^ (length a - 1))))) → length es ≡ length a → GivesBits old new es (λ v. moved Right (edge_bit v fill) (number (edge_bits v b)) (edge_bits v a)) → GivesWord old new es (λ v. binary_of Sar signed (word_of v a) (word_of v b))
gives_arithmetic old new signed a b es fill pf count g = record {
  grows = g.grows;
  edges = g.edges;
  is = λ v val.
      same_word (length es) (length a) (number (edge_bits v es)) (number (edge_bits v a) / 2 ^ number (edge_bits v b) + filled signed (length a) (number (edge_bits v a)) (number (edge_bits v b))) count
      (ap number (g.is v val ∙ ap (λ (t : Bool). moved Right t (number (edge_bits v b)) (edge_bits v a)) (pf v (valuation_back old new v g.grows val))) ∙
      (number_right (signed && not (nat_lt (number (edge_bits v a)) (2 ^ (length a - 1)))) (number (edge_bits v b)) (edge_bits v a) ∙
      ap (λ (n : ℕ). number (edge_bits v a) / 2 ^ number (edge_bits v b) + (if signed && not (nat_lt (number (edge_bits v a)) (2 ^ (length a - 1))) then 2 ^ n - 2 ^ (n - number (edge_bits v b)) else 0)) (bits_length v a)));
}

-- the bits above a word that is extended
above : (t : Bool) (w W a : ℕ) → w ≤ W → number (replicate (W - w) t) * 2 ^ w + a ≡ (if t then a + (2 ^ W - 2 ^ w) else a)
above false w W a h = ap (λ (k : ℕ). k * 2 ^ w + a) (number_zeros (W - w)) ∙ omega arith
above true w W a h =
    let whole : 2 ^ (W - w) * 2 ^ w ≡ 2 ^ W = sym (pow-add 2 (W - w) w) ∙ ap (λ (n : ℕ). 2 ^ n) (let e : W - w + w ≡ W = omega arith in e) in
    let ones : (number (replicate (W - w) true) + 1) * 2 ^ w ≡ 2 ^ (W - w) * 2 ^ w = ap (λ (k : ℕ). k * 2 ^ w) (number_ones (W - w)) in
    omega (arith, whole, ones)

pub gives_extension : (nodes : Nodes) (signed : Bool) (a high es : List Edge) (fill : Edge) (width : ℕ) → fill.node < length nodes → ((v : ℕ → Bool) → IsValuation nodes v → edge_bit v fill ≡ (signed && not (nat_lt (number (edge_bits v a)) (2 ^ (length a - 1))))) → high ≡ replicate (width - length a) fill → es ≡ a ++ high → length a ≤ width → AllBelow (length nodes) a → GivesWord nodes nodes es (λ v. let w : Bits = word_of v a in record { width = width; value = extended signed w.width width w.value })
gives_extension nodes signed a high es fill width below pf ph pe wide ha = record {
  grows = grows_refl nodes;
  edges = below_same (length nodes) (a ++ high) es pe (below_append (length nodes) a high ha (below_same (length nodes) (replicate (width - length a) fill) high ph (below_replicate (length nodes) (width - length a) fill below)));
  is = λ v val.
      let highs : edge_bits v high ≡ replicate (width - length a) (signed && not (nat_lt (number (edge_bits v a)) (2 ^ (length a - 1)))) = ap (edge_bits v) ph ∙ (bits_replicate v (width - length a) fill ∙ ap (λ (t : Bool). replicate (width - length a) t) (pf v val)) in
      let bits : edge_bits v es ≡ edge_bits v a ++ replicate (width - length a) (signed && not (nat_lt (number (edge_bits v a)) (2 ^ (length a - 1)))) = ap (edge_bits v) pe ∙ (map-append (edge_bit v) a high ∙ ap (λ (bs : List Bool). edge_bits v a ++ bs) highs) in
      same_word (length es) width (number (edge_bits v es)) (extended signed (length a) width (number (edge_bits v a)))
      (ap length pe ∙ (length-append a high ∙ (ap (λ (n : ℕ). length a + n) (ap length ph ∙ length-replicate (width - length a) fill) ∙ omega arith)))
      (ap number bits ∙ (number_append (edge_bits v a) (replicate (width - length a) (signed && not (nat_lt (number (edge_bits v a)) (2 ^ (length a - 1))))) ∙
      (ap (λ (n : ℕ). number (replicate (width - length a) (signed && not (nat_lt (number (edge_bits v a)) (2 ^ (length a - 1))))) * 2 ^ n + number (edge_bits v a)) (bits_length v a) ∙
      above (signed && not (nat_lt (number (edge_bits v a)) (2 ^ (length a - 1)))) (length a) width (number (edge_bits v a)) wide)));
}

pub signed_fill : (v : ℕ → Bool) (nodes : Nodes) (signed : Bool) (a : List Edge) (x : Edge) → signed ≡ true → IsValuation nodes v → 0 < length a → x ≡ edge_at a (length a - 1) → edge_bit v x ≡ (signed && not (nat_lt (number (edge_bits v a)) (2 ^ (length a - 1))))
signed_fill v nodes signed a x s val some p = top_edge v nodes a x val some p ∙ ap (λ (t : Bool). t && not (nat_lt (number (edge_bits v a)) (2 ^ (length a - 1)))) (sym s)

-- a constant, digit by digit
pub record Digits (nodes : Nodes) (out : List Edge) (i rest whole : ℕ) : Type 0 where
  pub below : AllBelow (length nodes) out
  pub count : length out ≡ i
  pub is : (v : ℕ → Bool) → IsValuation nodes v → number (edge_bits v out) + 2 ^ i * rest ≡ whole

pub first_digit : (nodes : Nodes) (out : List Edge) (rest whole : ℕ) → out ≡ [] → rest ≡ whole → Digits nodes out 0 rest whole
first_digit nodes out rest whole p q = subst (λ (es : List Edge). Digits nodes es 0 rest whole) (sym p) (record { below = λ i lt. absurd (omega arith); count = refl; is = λ v val. omega (arith, q) })

digit_by : (n d r q p P whole : ℕ) → n + p * r ≡ whole → P ≡ p * 2 → r ≡ q * 2 + d → (d * p + n) + P * q ≡ whole
digit_by n d r q p P whole e f g =
    let a : p * r ≡ p * (q * 2 + d) = ap (λ (x : ℕ). p * x) g in
    let b : P * q ≡ p * 2 * q = ap (λ (x : ℕ). x * q) f in
    omega arith

pub more_digits : (nodes : Nodes) (out out' : List Edge) (e : Edge) (i rest whole : ℕ) → e.node < length nodes → out' ≡ out ++ e ∷ [] → ((v : ℕ → Bool) → IsValuation nodes v → bit (edge_bit v e) ≡ rest % 2) → Digits nodes out i rest whole → Digits nodes out' (i + 1) (rest / 2) whole
more_digits nodes out out' e i rest whole h p pb d = record {
  below = below_same (length nodes) (out ++ e ∷ []) out' p (below_end (length nodes) out e d.below h);
  count = omega (arith, ap length p, length-append out (e ∷ []), d.count);
  is = λ v val.
      let power : 2 ^ (i + 1) ≡ 2 ^ i * 2 = ap (λ (n : ℕ). 2 ^ n) (let s : i + 1 ≡ suc i = omega arith in s) ∙ pow_cons i in
      let lows : number (edge_bits v out') ≡ bit (edge_bit v e) * 2 ^ i + number (edge_bits v out) =
      ap (λ (es : List Edge). number (edge_bits v es)) p ∙ (ap number (map-append (edge_bit v) out (e ∷ [])) ∙ (number_append (edge_bits v out) (edge_bit v e ∷ []) ∙ (ap (λ (n : ℕ). number (edge_bit v e ∷ []) * 2 ^ n + number (edge_bits v out)) (bits_length v out ∙ d.count) ∙ omega arith))) in
      let halves : rest ≡ rest / 2 * 2 + bit (edge_bit v e) = omega (arith, pb v val) in
      ap (λ (n : ℕ). n + 2 ^ (i + 1) * (rest / 2)) lows ∙ digit_by (number (edge_bits v out)) (bit (edge_bit v e)) rest (rest / 2) (2 ^ i) (2 ^ (i + 1)) whole (d.is v val) power halves;
}

none_left : (n r p whole : ℕ) → n + p * r ≡ whole → whole < p → n ≡ whole
none_left n zero p whole e h = omega arith
none_left n (suc r) p whole e h = absurd (omega (arith, e, h))

pub all_digits : (nodes : Nodes) (out : List Edge) (i rest : ℕ) (word : Bits) → i ≡ word.width → word.value < 2 ^ word.width → Digits nodes out i rest word.value → GivesWord nodes nodes out (λ v. word)
all_digits nodes out i rest word pi h d = record {
  grows = grows_refl nodes;
  edges = d.below;
  is = λ v val. same_word (length out) word.width (number (edge_bits v out)) word.value (d.count ∙ pi)
      (none_left (number (edge_bits v out)) rest (2 ^ word.width) word.value (ap (λ (n : ℕ). number (edge_bits v out) + 2 ^ n * rest) (sym pi) ∙ d.is v val) h);
}

pub gives_product : (old new : Nodes) (signed : Bool) (a b es : List Edge) → Grows old new → AllBelow (length new) es → length es ≡ length a → ((v : ℕ → Bool) → IsValuation new v → number (edge_bits v es) ≡ number (edge_bits v a) * number (edge_bits v b) % 2 ^ length a) → GivesWord old new es (λ v. binary_of Mul signed (word_of v a) (word_of v b))
gives_product old new signed a b es grows below count is = record {
  grows = grows;
  edges = below;
  is = λ v val. same_word (length es) (length a) (number (edge_bits v es)) (number (edge_bits v a) * number (edge_bits v b) % 2 ^ length a) count (is v val);
}

parity : (d : ℕ) → d < 2 → bit (d == 1) ≡ d
parity zero h = refl
parity (suc zero) h = refl
parity (suc (suc d)) h = absurd (omega arith)

pub digit_of : (r : ℕ) (set t : Bool) → t ≡ set → set ≡ (r % 2 == 1) → bit t ≡ r % 2
digit_of r set t p q = ap bit (p ∙ q) ∙ parity (r % 2) (omega arith)
