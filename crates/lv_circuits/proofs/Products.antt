-- Products, row by row.
use Rattle.std.proofs.Common.{◌≡◌, ℕ, ◌+◌, ◌-◌, ◌*◌, ◌%◌, ◌^◌, ◌<◌, ◌≤◌, Bool, true, false, ◌&&◌, List, [], ◌∷◌, ◌++◌, length, take, drop, replicate, get_or, refl, sym, ◌∙◌, ap, subst, arith, zero, suc}
use Rattle.std.proofs.lemmas.Nat.{pow-add}
use Rattle.std.proofs.lemmas.List.{length-take-le, take-map, drop-map, map-append, take_rest}
use Rattle.std.proofs.Math.Seq.{take-length}
use Rattle.lv_aig.specs.declared.edge.Edge.{Edge}
use Rattle.lv_aig.specs.Edges.{Nodes, edge_bit, IsValuation, zero_edge}
use Rattle.lv_bits.specs.Values.{bit}
use Rattle.lv_bits.specs.Digits.{number}
use Rattle.lv_circuits.specs.Words.{edge_bits, edge_at, GivesBits, zip_bits, sum_bits, carry_out}
use Rattle.lv_circuits.specs.Products.{IsMultipleAbove}
use Rattle.lv_bits.proofs.Digits.{number_lt, pow_cons}
use Rattle.lv_circuits.proofs.Numbers.{number_sum}
use Rattle.lv_circuits.proofs.RowLaws.{bits_length, zero_bit, wrapped}
use Rattle.lv_aig.proofs.Graphs.{valuation_back}
use Rattle.lv_circuits.proofs.More.{number_append, number_zeros, parts}
use Rattle.lv_circuits.proofs.Moves.{bits_replicate, number_take_more, bit_of_edge}

-- a word where a bit is 1, else 0
masked : (c : Bool) (xs : List Bool) (n : ℕ) → length xs ≡ n → number (zip_bits (λ a b. a && b) xs (replicate n c)) ≡ bit c * number xs
masked c [] zero h = omega arith
masked c [] (suc n) h = absurd (omega arith)
masked c (x ∷ xs) zero h = absurd (omega arith)
masked true (true ∷ xs) (suc n) h = omega (arith, masked true xs n (omega arith))
masked true (false ∷ xs) (suc n) h = omega (arith, masked true xs n (omega arith))
masked false (true ∷ xs) (suc n) h = omega (arith, masked false xs n (omega arith))
masked false (false ∷ xs) (suc n) h = omega (arith, masked false xs n (omega arith))

split_first : (bs : List Bool) → 0 < length bs → number bs ≡ number (drop 1 bs) * 2 + bit (get_or bs 0 false)
split_first [] h = absurd (omega arith)
split_first (b ∷ bs) h = refl

add_up : (p n s o o' h t z u : ℕ) → n ≡ p → n ≡ s → o ≡ o' → s + o ≡ h + t + z → t ≡ u → z ≡ 0 → p + o' ≡ h + u
add_up p n s o o' h t z u a b c d e f = omega arith

pub row_is : (old m new : Nodes) (high a masks slice terms slice2 bits slice3 tail : List Edge) (c z low : Edge) → masks ≡ replicate (length a) c → slice ≡ masks → slice2 ≡ terms → slice3 ≡ bits → z ≡ zero_edge → length high ≡ length a → 0 < length high → length terms ≡ length a → length bits ≡ length high → tail ≡ take (length slice3 - 1) (drop 1 slice3) → low ≡ edge_at slice3 0 → GivesBits old m terms (λ v. zip_bits (λ x y. x && y) (edge_bits v a) (edge_bits v slice)) → GivesBits m new bits (λ v. sum_bits (edge_bit v z) (edge_bits v high) (edge_bits v slice2)) → (v : ℕ → Bool) → IsValuation new v → IsMultipleAbove (number (edge_bits v high) + bit (edge_bit v c) * number (edge_bits v a)) (number (edge_bits v tail) * 2 + bit (edge_bit v low)) (2 ^ length a)
row_is old m new high a masks slice terms slice2 bits slice3 tail c z low pm ps ps2 ps3 pz same some count2 count pt pl g h v val =
    let mask_bits : edge_bits v slice ≡ replicate (length a) (edge_bit v c) = ap (edge_bits v) (ps ∙ pm) ∙ bits_replicate v (length a) c in
    let term_bits : edge_bits v slice2 ≡ zip_bits (λ x y. x && y) (edge_bits v a) (replicate (length a) (edge_bit v c)) =
    ap (edge_bits v) ps2 ∙ (g.is v (valuation_back m new v h.grows val) ∙ ap (λ (bs : List Bool). zip_bits (λ x y. x && y) (edge_bits v a) bs) mask_bits) in
    let term : number (edge_bits v slice2) ≡ bit (edge_bit v c) * number (edge_bits v a) = ap number term_bits ∙ masked (edge_bit v c) (edge_bits v a) (length a) (bits_length v a) in
    let lens : length (edge_bits v high) ≡ length (edge_bits v slice2) = bits_length v high ∙ (same ∙ sym (bits_length v slice2 ∙ (ap length ps2 ∙ count2))) in
    let sum : number (sum_bits (edge_bit v z) (edge_bits v high) (edge_bits v slice2)) + bit (carry_out (edge_bit v z) (edge_bits v high) (edge_bits v slice2)) * 2 ^ length (edge_bits v high) ≡ number (edge_bits v high) + number (edge_bits v slice2) + bit (edge_bit v z) =
    number_sum (edge_bit v z) (edge_bits v high) (edge_bits v slice2) lens in
    let none : bit (edge_bit v z) ≡ 0 = ap bit (zero_bit new v z pz val) in
    let tail_is : edge_bits v tail ≡ drop 1 (edge_bits v bits) = ap (edge_bits v) (pt ∙ (take_rest slice3 1 ∙ ap (drop 1) ps3)) ∙ sym (drop-map (edge_bit v) 1 bits) in
    let low_is : edge_bit v low ≡ get_or (edge_bits v bits) 0 false = bit_of_edge v new bits 0 low val (pl ∙ ap (λ (es : List Edge). edge_at es 0) ps3) in
    let parts_of : number (edge_bits v bits) ≡ number (edge_bits v tail) * 2 + bit (edge_bit v low) =
    split_first (edge_bits v bits) (omega (arith, bits_length v bits)) ∙ (ap (λ (bs : List Bool). number bs * 2 + bit (get_or (edge_bits v bits) 0 false)) (sym tail_is) ∙ ap (λ (t : Bool). number (edge_bits v tail) * 2 + bit t) (sym low_is)) in
    let width : 2 ^ length (edge_bits v high) ≡ 2 ^ length a = ap (λ (n : ℕ). 2 ^ n) (bits_length v high ∙ same) in
    let total : number (edge_bits v bits) ≡ number (sum_bits (edge_bit v z) (edge_bits v high) (edge_bits v slice2)) = ap number (h.is v val) in
    let over : bit (carry_out (edge_bit v z) (edge_bits v high) (edge_bits v slice2)) * 2 ^ length (edge_bits v high) ≡ bit (carry_out (edge_bit v z) (edge_bits v high) (edge_bits v slice2)) * 2 ^ length a =
    ap (λ (n : ℕ). bit (carry_out (edge_bit v z) (edge_bits v high) (edge_bits v slice2)) * n) width in (
      bit (carry_out (edge_bit v z) (edge_bits v high) (edge_bits v slice2)),
      add_up (number (edge_bits v tail) * 2 + bit (edge_bit v low)) (number (edge_bits v bits)) (number (sum_bits (edge_bit v z) (edge_bits v high) (edge_bits v slice2)))
          (bit (carry_out (edge_bit v z) (edge_bits v high) (edge_bits v slice2)) * 2 ^ length (edge_bits v high)) (bit (carry_out (edge_bit v z) (edge_bits v high) (edge_bits v slice2)) * 2 ^ length a)
          (number (edge_bits v high)) (number (edge_bits v slice2)) (bit (edge_bit v z)) (bit (edge_bit v c) * number (edge_bits v a)) parts_of total over sum term none,
    )

-- one more row
row_more : (P K M A B L H l H' t r c q A' : ℕ) → P * K ≡ M → A ≡ r * K + A' → L + P * H + q * M ≡ A * B → (H' * 2 + l) + c * K ≡ H + t * A' → (L + l * P) + P * 2 * H' + (c + q + t * r) * M ≡ A * (B + t * P)
row_more P K M A B L H l H' t r c q A' e1 e2 e3 e4 =
    let f4 : P * ((H' * 2 + l) + c * K) ≡ P * (H + t * A') = ap (λ (x : ℕ). P * x) e4 in
    let fc : c * (P * K) ≡ c * M = ap (λ (x : ℕ). c * x) e1 in
    let ft : t * r * (P * K) ≡ t * r * M = ap (λ (x : ℕ). t * r * x) e1 in
    let fa : t * P * A ≡ t * P * (r * K + A') = ap (λ (x : ℕ). t * P * x) e2 in
    omega (arith, f4, fc, ft, fa, e3)

pub product_first : (nodes : Nodes) (v : ℕ → Bool) (a b low high : List Edge) (z : Edge) → low ≡ [] → high ≡ replicate (length a) z → z ≡ zero_edge → IsValuation nodes v → IsMultipleAbove (number (edge_bits v a) * number (take 0 (edge_bits v b))) (number (edge_bits v low) + 2 ^ 0 * number (edge_bits v high)) (2 ^ length a)
product_first nodes v a b low high z pl ph pz val =
    let zeros : edge_bits v high ≡ replicate (length a) false = ap (edge_bits v) ph ∙ (bits_replicate v (length a) z ∙ ap (λ (t : Bool). replicate (length a) t) (zero_bit nodes v z pz val)) in
    let none : number (edge_bits v high) ≡ 0 = ap number zeros ∙ number_zeros (length a) in
    let empty : number (edge_bits v low) ≡ 0 = ap (λ (es : List Edge). number (edge_bits v es)) pl in
    (0, omega (arith, none, empty))

one_more : (P Q M A B B' L L' H l H' t q c r T : ℕ) → (L + l * P) + P * 2 * H' + (c + q + t * r) * M ≡ A * (B + t * P) → L' ≡ l * P + L → Q ≡ P * 2 → B' ≡ B + t * P → L' + Q * H' + (c + q + t * r) * M ≡ A * B'
one_more P Q M A B B' L L' H l H' t q c r T e p1 p2 p3 =
    let f2 : Q * H' ≡ P * 2 * H' = ap (λ (x : ℕ). x * H') p2 in
    let f3 : A * B' ≡ A * (B + t * P) = ap (λ (x : ℕ). A * x) p3 in
    omega (arith, e, p1, f2, f3)

pub product_more : (nodes : Nodes) (v : ℕ → Bool) (a b low high slice part low' rest : List Edge) (x digit : Edge) (i : ℕ) → IsValuation nodes v → i < length a → i < length b → length low ≡ i → slice ≡ high → part ≡ take (length a - i) a → x ≡ edge_at b i → low' ≡ low ++ digit ∷ [] → IsMultipleAbove (number (edge_bits v a) * number (take i (edge_bits v b))) (number (edge_bits v low) + 2 ^ i * number (edge_bits v high)) (2 ^ length a) → IsMultipleAbove (number (edge_bits v slice) + bit (edge_bit v x) * number (edge_bits v part)) (number (edge_bits v rest) * 2 + bit (edge_bit v digit)) (2 ^ length part) → IsMultipleAbove (number (edge_bits v a) * number (take (i + 1) (edge_bits v b))) (number (edge_bits v low') + 2 ^ (i + 1) * number (edge_bits v rest)) (2 ^ length a)
product_more nodes v a b low high slice part low' rest x digit i val ha hb count ps pp px pl before row =
    let w : ℕ = length a in
    let len : length part ≡ length a - i = ap length pp ∙ length-take-le (length a - i) a (omega arith) in
    let whole : 2 ^ i * 2 ^ (length a - i) ≡ 2 ^ length a = sym (pow-add 2 i (length a - i)) ∙ ap (λ (n : ℕ). 2 ^ n) (let e : i + (length a - i) ≡ length a = omega arith in e) in
    let inside : length a - i ≤ length (edge_bits v a) = omega (arith, bits_length v a) in
    let part_bits : edge_bits v part ≡ take (length a - i) (edge_bits v a) = ap (edge_bits v) pp ∙ sym (take-map (edge_bit v) (length a - i) a) in
    let a_parts : number (edge_bits v a) ≡ number (drop (length a - i) (edge_bits v a)) * 2 ^ (length a - i) + number (edge_bits v part) =
    parts (length a - i) (edge_bits v a) inside ∙ ap (λ (bs : List Bool). number (drop (length a - i) (edge_bits v a)) * 2 ^ (length a - i) + number bs) (sym part_bits) in
    let row_is' : number (edge_bits v rest) * 2 + bit (edge_bit v digit) + row.0 * 2 ^ (length a - i) ≡ number (edge_bits v high) + bit (edge_bit v x) * number (edge_bits v part) =
    ap (λ (n : ℕ). number (edge_bits v rest) * 2 + bit (edge_bit v digit) + row.0 * 2 ^ n) (sym len) ∙ (row.1 ∙ ap (λ (es : List Edge). number (edge_bits v es) + bit (edge_bit v x) * number (edge_bits v part)) ps) in
    let e = row_more (2 ^ i) (2 ^ (length a - i)) (2 ^ length a) (number (edge_bits v a)) (number (take i (edge_bits v b))) (number (edge_bits v low)) (number (edge_bits v high)) (bit (edge_bit v digit)) (number (edge_bits v rest)) (bit (edge_bit v x)) (number (drop (length a - i) (edge_bits v a))) row.0 before.0 (number (edge_bits v part)) whole a_parts before.1 row_is' in
    let lows : number (edge_bits v low') ≡ bit (edge_bit v digit) * 2 ^ i + number (edge_bits v low) =
    ap (λ (es : List Edge). number (edge_bits v es)) pl ∙ (ap number (map-append (edge_bit v) low (digit ∷ [])) ∙ (number_append (edge_bits v low) (edge_bit v digit ∷ []) ∙ (ap (λ (n : ℕ). number (edge_bit v digit ∷ []) * 2 ^ n + number (edge_bits v low)) (bits_length v low ∙ count) ∙ omega arith))) in
    let power : 2 ^ (i + 1) ≡ 2 ^ i * 2 = ap (λ (n : ℕ). 2 ^ n) (let s : i + 1 ≡ suc i = omega arith in s) ∙ pow_cons i in
    let more : number (take (i + 1) (edge_bits v b)) ≡ number (take i (edge_bits v b)) + bit (edge_bit v x) * 2 ^ i =
    number_take_more i (edge_bits v b) (omega (arith, bits_length v b)) ∙ ap (λ (t : Bool). number (take i (edge_bits v b)) + bit t * 2 ^ i) (sym (bit_of_edge v nodes b i x val px)) in (
      row.0 + before.0 + bit (edge_bit v x) * number (drop (length a - i) (edge_bits v a)),
      one_more (2 ^ i) (2 ^ (i + 1)) (2 ^ length a) (number (edge_bits v a)) (number (take i (edge_bits v b))) (number (take (i + 1) (edge_bits v b))) (number (edge_bits v low)) (number (edge_bits v low')) 0 (bit (edge_bit v digit)) (number (edge_bits v rest)) (bit (edge_bit v x)) before.0 row.0 (number (drop (length a - i) (edge_bits v a))) 0 e lows power more,
    )

none_number : (bs : List Bool) → length bs ≡ 0 → number bs ≡ 0
none_number [] h = refl
none_number (b ∷ bs) h = absurd (omega arith)

last_by : (l p h o t : ℕ) → h ≡ 0 → l + p * h + o ≡ t → l + o ≡ t
last_by l p h o t z e = let f : p * h ≡ 0 = ap (λ (x : ℕ). p * x) z ∙ omega arith in omega arith

pub product_last : (v : ℕ → Bool) (a b low high : List Edge) (i : ℕ) → i ≡ length b → length a ≡ length b → length low ≡ i → length high ≡ 0 → IsMultipleAbove (number (edge_bits v a) * number (take i (edge_bits v b))) (number (edge_bits v low) + 2 ^ i * number (edge_bits v high)) (2 ^ length a) → number (edge_bits v low) ≡ number (edge_bits v a) * number (edge_bits v b) % 2 ^ length a
product_last v a b low high i pi same count none before =
    let all : take i (edge_bits v b) ≡ edge_bits v b = ap (λ (n : ℕ). take n (edge_bits v b)) (pi ∙ sym (bits_length v b)) ∙ take-length (edge_bits v b) in
    let zero_high : number (edge_bits v high) ≡ 0 = none_number (edge_bits v high) (bits_length v high ∙ none) in
    let small : number (edge_bits v low) < 2 ^ length a = subst (λ (n : ℕ). number (edge_bits v low) < 2 ^ n) (bits_length v low ∙ (count ∙ (pi ∙ sym same))) (number_lt (edge_bits v low)) in
    let total : number (edge_bits v low) + before.0 * 2 ^ length a ≡ number (edge_bits v a) * number (edge_bits v b) =
    last_by (number (edge_bits v low)) (2 ^ i) (number (edge_bits v high)) (before.0 * 2 ^ length a) (number (edge_bits v a) * number (take i (edge_bits v b))) zero_high before.1 ∙ ap (λ (bs : List Bool). number (edge_bits v a) * number bs) all in
    wrapped (number (edge_bits v low)) before.0 (2 ^ length a) (number (edge_bits v a) * number (edge_bits v b)) total small
