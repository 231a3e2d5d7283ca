-- Parts, comparisons, shifts and products of lists of bits.
use Rattle.std.proofs.Common.{◌≡◌, ℕ, ◌+◌, ◌-◌, ◌*◌, ◌/◌, ◌%◌, ◌^◌, ◌<◌, ◌≤◌, inl, inr, Bool, true, false, not, ◌||◌, if◌then◌else◌, ◌==◌, List, [], ◌∷◌, ◌++◌, length, map, take, drop, replicate, get_or, pos, negsuc, refl, sym, ◌∙◌, ap, subst, arith, nat_lt, zero, suc, add-zero, length-append}
use Rattle.std.proofs.lemmas.Bool.Decides.{nat_tests}
use Rattle.std.proofs.lemmas.Nat.{pow-add, mod-mul-add, div-mul-add, mul-mod_first}
use Rattle.std.proofs.lemmas.Bool.{le-ltb, lt-ltb}
use Rattle.std.proofs.lemmas.List.{length-map, length-take-le, length-drop, length-replicate, take-append-drop}
use Rattle.std.proofs.Math.Nat.{mul_assoc, mod-eq_of_lt, add-mod, mod-mod}
use Rattle.std.proofs.lemmas.Bool.{cases_lt}
use Rattle.std.proofs.Math.ListN.{get_or-append, get_or-map}
use Rattle.std.proofs.Math.Seq.{get_or-append_right}
use Rattle.std.proofs.lemmas.List.{map-append, get_or-take, get_or-drop}
use Rattle.lv_aig.specs.declared.edge.Edge.{Edge}
use Rattle.lv_aig.specs.Edges.{Nodes, edge_bit, IsValuation, Gives, zero_edge}
use Rattle.lv_bits.specs.Words.{Bits}
use lib.Signed.{lt_z}
use Rattle.std.proofs.Math.Seq.{drop-cons}
use Rattle.std.proofs.lemmas.List.{drop_all}
use Rattle.lv_bits.specs.Values.{bit, is_less}
use Rattle.lv_aig.proofs.Graphs.{grows_refl, grows_trans, valuation_back}
use Rattle.lv_circuits.proofs.Joins.{turn, turn_bit}
use Rattle.lv_circuits.proofs.RowLaws.{same_word, bits_length, both_lengths, one_bit, length_zip}
use Rattle.lv_bits.specs.Digits.{number}
use Rattle.lv_circuits.specs.Words.{edge_bits, word_of, AllBelow, edge_at, GivesBits, GivesWord, sum_bits, carry_out, zip_bits, fold_bits, xor}
use Rattle.lv_bits.proofs.Digits.{number_lt, pow_cons}
use Rattle.lv_circuits.proofs.Numbers.{number_not, number_sum, length_sum, any_set}

-- the bits of ys above those of xs
pub number_append : (xs ys : List Bool) → number (xs ++ ys) ≡ number ys * 2 ^ length xs + number xs
number_append [] ys = omega arith
number_append (x ∷ xs) ys =
    let e : number ys * 2 ^ suc (length xs) ≡ number ys * 2 ^ length xs * 2 = ap (λ (n : ℕ). number ys * n) (pow_cons (length xs)) ∙ sym (mul_assoc (number ys) (2 ^ length xs) 2) in
    omega (arith, number_append xs ys, e)

pub number_zeros : (n : ℕ) → number (replicate n false) ≡ 0
number_zeros zero = refl
number_zeros (suc n) = omega (arith, number_zeros n)

pub number_ones : (n : ℕ) → number (replicate n true) + 1 ≡ 2 ^ n
number_ones zero = refl
number_ones (suc n) = omega (arith, number_ones n, pow_cons n)

less_by : (c : Bool) (s x y n m : ℕ) → s + bit c * m ≡ x + n + 1 → n + y + 1 ≡ m → s < m → not c ≡ nat_lt x y
less_by true s x y n m e f h = let p : y ≤ x = omega (arith, e, f, h) in sym (le-ltb x y p)
less_by false s x y n m e f h = let p : x < y = omega (arith, e, f, h) in sym (lt-ltb x y p)

pub number_less : (xs ys : List Bool) → length xs ≡ length ys → not (carry_out true xs (map not ys)) ≡ nat_lt (number xs) (number ys)
number_less xs ys h =
    let len : length xs ≡ length (map not ys) = h ∙ sym (length-map ys not) in
    let s = number_sum true xs (map not ys) len in
    let n : number (map not ys) + number ys + 1 ≡ 2 ^ length xs = number_not ys ∙ ap (λ (n : ℕ). 2 ^ n) (sym h) in
    let small : number (sum_bits true xs (map not ys)) < 2 ^ length xs = subst (λ (n : ℕ). number (sum_bits true xs (map not ys)) < 2 ^ n) (length_sum true xs (map not ys) len) (number_lt (sum_bits true xs (map not ys))) in
    less_by (carry_out true xs (map not ys)) (number (sum_bits true xs (map not ys))) (number xs) (number ys) (number (map not ys)) (2 ^ length xs) s n small

pub parts : (i : ℕ) (bs : List Bool) → i ≤ length bs → number bs ≡ number (drop i bs) * 2 ^ i + number (take i bs)
parts i bs h =
    let l : length (take i bs) ≡ i = length-take-le i bs h in
    ap number (sym (take-append-drop i bs)) ∙ (number_append (take i bs) (drop i bs) ∙ ap (λ (n : ℕ). number (drop i bs) * 2 ^ n + number (take i bs)) l)

take_lt : (i : ℕ) (bs : List Bool) → i ≤ length bs → number (take i bs) < 2 ^ i
take_lt i bs h = subst (λ (n : ℕ). number (take i bs) < 2 ^ n) (length-take-le i bs h) (number_lt (take i bs))

pub number_take : (i : ℕ) (bs : List Bool) → i ≤ length bs → number (take i bs) ≡ number bs % 2 ^ i
number_take i bs h = sym (ap (λ (n : ℕ). n % 2 ^ i) (parts i bs h) ∙ mod-mul-add (number (drop i bs)) (2 ^ i) (number (take i bs)) (take_lt i bs h))

pub number_drop : (i : ℕ) (bs : List Bool) → i ≤ length bs → number (drop i bs) ≡ number bs / 2 ^ i
number_drop i bs h = sym (ap (λ (n : ℕ). n / 2 ^ i) (parts i bs h) ∙ div-mul-add (number (drop i bs)) (2 ^ i) (number (take i bs)) (take_lt i bs h))

-- a slice
pub number_slice : (low width : ℕ) (bs : List Bool) → low + width ≤ length bs → number (take width (drop low bs)) ≡ number bs / 2 ^ low % 2 ^ width
number_slice low width bs h =
    number_take width (drop low bs) (omega (arith, length-drop low bs)) ∙ ap (λ (n : ℕ). n % 2 ^ width) (number_drop low bs (omega arith))

-- a shift to the left by n places, by as many zeros below and the places that stay
unfoldable pub shifted_left : ℕ → List Bool → List Bool
shifted_left n bs = take (length bs) (replicate n false ++ bs)

pub number_shifted : (n : ℕ) (bs : List Bool) → number (shifted_left n bs) ≡ number bs * 2 ^ n % 2 ^ length bs
unfolding shifted_left
number_shifted n bs =
    let e : number (replicate n false ++ bs) ≡ number bs * 2 ^ n = number_append (replicate n false) bs ∙ (ap (λ (k : ℕ). number bs * 2 ^ k + number (replicate n false)) (length-replicate n false) ∙ (ap (λ (k : ℕ). number bs * 2 ^ n + k) (number_zeros n) ∙ add-zero (number bs * 2 ^ n))) in
    number_take (length bs) (replicate n false ++ bs) (omega (arith, length-append (replicate n false) bs)) ∙ ap (λ (k : ℕ). k % 2 ^ length bs) e

-- one stage of a barrel after another: the control bits from the lowest on, each twice as far
pub barrel_left : ℕ → List Bool → List Bool → List Bool
barrel_left far [] bs = bs
barrel_left far (c ∷ cs) bs = barrel_left (far * 2) cs (if c then shifted_left far bs else bs)

length_shifted : (n : ℕ) (bs : List Bool) → length (shifted_left n bs) ≡ length bs
unfolding shifted_left
length_shifted n bs = length-take-le (length bs) (replicate n false ++ bs) (omega (arith, length-append (replicate n false) bs))

far_more : (x far n m : ℕ) → x * 2 ^ far % m * 2 ^ (far * 2 * n) % m ≡ x * 2 ^ (far * (n * 2 + 1)) % m
far_more x far n m =
    let e : far + far * 2 * n ≡ far * (n * 2 + 1) = grind arith in
    mul-mod_first (x * 2 ^ far) (2 ^ (far * 2 * n)) m ∙
    ap (λ (k : ℕ). k % m) (mul_assoc x (2 ^ far) (2 ^ (far * 2 * n)) ∙ (ap (λ (k : ℕ). x * k) (sym (pow-add 2 far (far * 2 * n))) ∙ ap (λ (k : ℕ). x * 2 ^ k) e))

pub number_barrel : (far : ℕ) (cs bs : List Bool) → number (barrel_left far cs bs) ≡ number bs * 2 ^ (far * number cs) % 2 ^ length bs
unfolding barrel_left
number_barrel far [] bs =
    let z : far * 0 ≡ 0 = omega arith in
    let o : number bs * 2 ^ (far * 0) ≡ number bs = ap (λ (k : ℕ). number bs * 2 ^ k) z ∙ omega arith in
    sym (ap (λ (k : ℕ). k % 2 ^ length bs) o ∙ mod-eq_of_lt (number_lt bs))
number_barrel far (true ∷ cs) bs =
    number_barrel (far * 2) cs (shifted_left far bs) ∙
    (ap (λ (k : ℕ). number (shifted_left far bs) * 2 ^ (far * 2 * number cs) % 2 ^ k) (length_shifted far bs) ∙
    (ap (λ (k : ℕ). k * 2 ^ (far * 2 * number cs) % 2 ^ length bs) (number_shifted far bs) ∙ far_more (number bs) far (number cs) (2 ^ length bs)))
number_barrel far (false ∷ cs) bs =
    let e : far * 2 * number cs ≡ far * (number cs * 2 + 0) = grind arith in
    number_barrel (far * 2) cs bs ∙ ap (λ (k : ℕ). number bs * 2 ^ k % 2 ^ length bs) e

-- a product, from the highest bit on: what is left to double and add
pub product_step : (d b x m : ℕ) → (d * x % m * 2 % m + b * x) % m ≡ (d * 2 + b) * x % m
product_step d b x m =
    let p : d * x % m * 2 % m ≡ d * x * 2 % m = mul-mod_first (d * x) 2 m in
    let q : (d * x * 2 % m + b * x) % m ≡ (d * x * 2 + b * x) % m = add-mod (d * x * 2 % m) (b * x) m ∙ (ap (λ (k : ℕ). (k + b * x % m) % m) (mod-mod (d * x * 2) m) ∙ sym (add-mod (d * x * 2) (b * x) m)) in
    let e : d * x * 2 + b * x ≡ (d * 2 + b) * x = grind arith in
    ap (λ (k : ℕ). (k + b * x) % m) p ∙ (q ∙ ap (λ (k : ℕ). k % m) e)

-- parts of words of edges
bits_take : (v : ℕ → Bool) (i : ℕ) (es : List Edge) → edge_bits v (take i es) ≡ take i (edge_bits v es)
bits_take v zero es = refl
bits_take v (suc i) [] = refl
bits_take v (suc i) (e ∷ es) = ap (λ (bs : List Bool). edge_bit v e ∷ bs) (bits_take v i es)

bits_drop_all : (v : ℕ → Bool) (i : ℕ) (es : List Edge) → edge_bits v (drop i es) ≡ drop i (edge_bits v es)
bits_drop_all v zero es = refl
bits_drop_all v (suc i) [] = refl
bits_drop_all v (suc i) (e ∷ es) = bits_drop_all v i es

pub slice_word : (nodes : Nodes) (a es : List Edge) (low width : ℕ) → es ≡ take width (drop low a) → low + width ≤ length a → AllBelow (length nodes) a → GivesWord nodes nodes es (λ v. let w : Bits = word_of v a in record { width = width; value = w.value / 2 ^ low % 2 ^ width })
slice_word nodes a es low width p h below =
    let len : length (take width (drop low a)) ≡ width = length-take-le width (drop low a) (omega (arith, length-drop low a)) in
    subst (λ (x : List Edge). GivesWord nodes nodes x (λ v. let w : Bits = word_of v a in record { width = width; value = w.value / 2 ^ low % 2 ^ width })) (sym p) (record {
      grows = grows_refl nodes;
      edges = λ i lt. subst (λ (x : Edge). x.node < length nodes) (sym (get_or-take width (drop low a) i zero_edge (omega (arith, len)) ∙ get_or-drop low a i zero_edge)) (below (low + i) (omega (arith, len)));
      is = λ v val.
          let e : edge_bits v (take width (drop low a)) ≡ take width (drop low (edge_bits v a)) = bits_take v width (drop low a) ∙ ap (take width) (bits_drop_all v low a) in
          same_word (length (take width (drop low a))) width (number (edge_bits v (take width (drop low a)))) (number (edge_bits v a) / 2 ^ low % 2 ^ width) len
          (ap number e ∙ number_slice low width (edge_bits v a) (omega (arith, bits_length v a)));
    })

pub concat_word : (nodes : Nodes) (a b es : List Edge) → es ≡ b ++ a → AllBelow (length nodes) a → AllBelow (length nodes) b → GivesWord nodes nodes es (λ v. let x : Bits = word_of v a in let y : Bits = word_of v b in record { width = x.width + y.width; value = x.value * 2 ^ y.width + y.value })
concat_word nodes a b es p ha hb =
    subst (λ (z : List Edge). GivesWord nodes nodes z (λ v. let x : Bits = word_of v a in let y : Bits = word_of v b in record { width = x.width + y.width; value = x.value * 2 ^ y.width + y.value })) (sym p) (record {
      grows = grows_refl nodes;
      edges = λ i lt. elim (cases_lt i (length b)) [
        | inl less ↦ subst (λ (x : Edge). x.node < length nodes) (sym (get_or-append b a zero_edge i less)) (hb i less)
        | inr ge ↦ subst (λ (x : Edge). x.node < length nodes) (sym (get_or-append_right b a i zero_edge ge)) (ha (i - length b) (omega (arith, length-append b a)))
      ];
      is = λ v val.
          same_word (length (b ++ a)) (length a + length b) (number (edge_bits v (b ++ a))) (number (edge_bits v a) * 2 ^ length b + number (edge_bits v b)) (omega (arith, length-append b a))
          (ap number (map-append (edge_bit v) b a) ∙ (number_append (edge_bits v b) (edge_bits v a) ∙ ap (λ (n : ℕ). number (edge_bits v a) * 2 ^ n + number (edge_bits v b)) (bits_length v b)));
    })

pub gives_below : (old new : Nodes) (a b turned slice : List Edge) (one z carry e : Edge) → z ≡ zero_edge → one ≡ turn z → slice ≡ turned → e ≡ turn carry → length a ≡ length b → GivesBits old old turned (λ v. map not (edge_bits v b)) → Gives old new carry (λ v. carry_out (edge_bit v one) (edge_bits v a) (edge_bits v slice)) → Gives old new e (λ v. nat_lt (number (edge_bits v a)) (number (edge_bits v b)))
gives_below old new a b turned slice one z carry e pz po ps pe same h g = record {
  grows = g.grows;
  edge = subst (λ (x : Edge). x.node < length new) (sym pe) g.edge;
  is = λ v val.
      let bits : edge_bits v slice ≡ map not (edge_bits v b) = ap (edge_bits v) ps ∙ h.is v (valuation_back old new v g.grows val) in
      let c : edge_bit v carry ≡ carry_out true (edge_bits v a) (map not (edge_bits v b)) =
      g.is v val ∙ (ap (λ (k : Bool). carry_out k (edge_bits v a) (edge_bits v slice)) (one_bit new v one z pz po val) ∙ ap (λ (ys : List Bool). carry_out true (edge_bits v a) ys) bits) in
      ap (edge_bit v) pe ∙ (turn_bit v carry ∙ (ap not c ∙ number_less (edge_bits v a) (edge_bits v b) (both_lengths v a b same)));
}

pub choice_bits : (k : Bool) (xs ys : List Bool) → length xs ≡ length ys → zip_bits (λ x y. if k then x else y) xs ys ≡ (if k then xs else ys)
choice_bits true [] ys h = refl
choice_bits false [] [] h = refl
choice_bits false [] (y ∷ ys) h = absurd (omega arith)
choice_bits k (x ∷ xs) [] h = absurd (omega arith)
choice_bits true (x ∷ xs) (y ∷ ys) h = ap (λ (bs : List Bool). x ∷ bs) (choice_bits true xs ys (omega arith))
choice_bits false (x ∷ xs) (y ∷ ys) h = ap (λ (bs : List Bool). y ∷ bs) (choice_bits false xs ys (omega arith))

choice_word : (k t : Bool) (wa wb n : ℕ) (xs ys bs : List Bool) → k ≡ not t → wa ≡ wb → n ≡ wa → bs ≡ (if k then xs else ys) → (let e : Bits = record { width = n; value = number bs } in let a : Bits = record { width = wa; value = number xs } in let b : Bits = record { width = wb; value = number ys } in e ≡ (if t then b else a))
choice_word k true wa wb n xs ys bs p q r e =
    let f : bs ≡ ys = e ∙ ap (λ (z : Bool). if z then xs else ys) p in
    same_word n wb (number bs) (number ys) (r ∙ q) (ap number f)
choice_word k false wa wb n xs ys bs p q r e =
    let f : bs ≡ xs = e ∙ ap (λ (z : Bool). if z then xs else ys) p in
    same_word n wa (number bs) (number xs) r (ap number f)

pub gives_choice : (old m new : Nodes) (c a b es : List Edge) (some : Edge) → length a ≡ length b → Gives old m some (λ v. fold_bits (λ x y. x || y) false (edge_bits v c)) → GivesBits m new es (λ v. zip_bits (λ x y. if edge_bit v some then x else y) (edge_bits v a) (edge_bits v b)) → GivesWord old new es (λ v. let k : Bits = word_of v c in if k.value == 0 then word_of v b else word_of v a)
gives_choice old m new c a b es some same g h = record {
  grows = grows_trans old m new g.grows h.grows;
  edges = h.edges;
  is = λ v val.
      let k : edge_bit v some ≡ not (number (edge_bits v c) == 0) = g.is v (valuation_back m new v h.grows val) ∙ any_set (edge_bits v c) in
      let bits : edge_bits v es ≡ (if edge_bit v some then edge_bits v a else edge_bits v b) = h.is v val ∙ choice_bits (edge_bit v some) (edge_bits v a) (edge_bits v b) (both_lengths v a b same) in
      let len : length es ≡ length a = sym (bits_length v es) ∙ (ap length (h.is v val) ∙ (length_zip (λ x y. if edge_bit v some then x else y) (edge_bits v a) (edge_bits v b) (both_lengths v a b same) ∙ bits_length v a)) in
      choice_word (edge_bit v some) (number (edge_bits v c) == 0) (length a) (length b) (length es) (edge_bits v a) (edge_bits v b) (edge_bits v es) k same len bits;
}

top_by : (t : Bool) (x r m : ℕ) → x ≡ number (t ∷ []) * m + r → r < m → t ≡ not (nat_lt x m)
top_by true x r m e h = sym (ap not (le-ltb x m (omega (arith, e, h))))
top_by false x r m e h = sym (ap not (lt-ltb x m (omega (arith, e, h))))

-- the top bit of a word
pub top_bit : (w : ℕ) (xs : List Bool) → length xs ≡ suc w → get_or xs w false ≡ not (nat_lt (number xs) (2 ^ w))
top_bit w xs h =
    let d : drop w xs ≡ get_or xs w false ∷ [] = drop-cons xs w false (omega arith) ∙ ap (λ (bs : List Bool). get_or xs w false ∷ bs) (drop_all (suc w) xs (omega arith)) in
    let e : number xs ≡ number (get_or xs w false ∷ []) * 2 ^ w + number (take w xs) = parts w xs (omega arith) ∙ ap (λ (bs : List Bool). number bs * 2 ^ w + number (take w xs)) d in
    top_by (get_or xs w false) (number xs) (number (take w xs)) (2 ^ w) e (take_lt w xs (omega arith))

-- a less than b as signed numbers, by their top bits
sign_by : (a b m n : ℕ) → n ≡ m * 2 → a < n → b < n → (if xor (not (nat_lt a m)) (not (nat_lt b m)) then not (nat_lt a m) else nat_lt a b) ≡ lt_z (if nat_lt a m then pos a else negsuc (n - suc a)) (if nat_lt b m then pos b else negsuc (n - suc b))
sign_by a b m n e ha hb = grind (arith, nat_tests)

pub top_edge : (v : ℕ → Bool) (nodes : Nodes) (a : List Edge) (x : Edge) → IsValuation nodes v → 0 < length a → x ≡ edge_at a (length a - 1) → edge_bit v x ≡ not (nat_lt (number (edge_bits v a)) (2 ^ (length a - 1)))
top_edge v nodes a x val some p =
    let w : ℕ = length a - 1 in
    let len : length (edge_bits v a) ≡ suc w = bits_length v a ∙ omega arith in
    ap (edge_bit v) p ∙ (sym (get_or-map (edge_bit v) a w zero_edge) ∙ (ap (λ (d : Bool). get_or (edge_bits v a) w d) val.zero ∙ top_bit w (edge_bits v a) len))

pub gives_signed : (old m n new : Nodes) (a b : List Edge) (x y plain apart e : Edge) → 0 < length a → length a ≡ length b → x ≡ edge_at a (length a - 1) → y ≡ edge_at b (length a - 1) → Gives old m plain (λ v. nat_lt (number (edge_bits v a)) (number (edge_bits v b))) → Gives m n apart (λ v. xor (edge_bit v x) (edge_bit v y)) → Gives n new e (λ v. if edge_bit v apart then edge_bit v x else edge_bit v plain) → Gives old new e (λ v. is_less true (length a) (number (edge_bits v a)) (number (edge_bits v b)))
gives_signed old m n new a b x y plain apart e some same px py g h k = record {
  grows = grows_trans old m new g.grows (grows_trans m n new h.grows k.grows);
  edge = k.edge;
  is = λ v val.
      let at_n : IsValuation n v = valuation_back n new v k.grows val in
      let at_m : IsValuation m v = valuation_back m n v h.grows at_n in
      let na : ℕ = number (edge_bits v a) in
      let nb : ℕ = number (edge_bits v b) in
      let half : ℕ = 2 ^ (length a - 1) in
      let back : suc (length a - 1) ≡ length a = omega arith in
      let twice : 2 ^ length a ≡ 2 ^ (length a - 1) * 2 = ap (λ (n : ℕ). 2 ^ n) (sym back) ∙ pow_cons (length a - 1) in
      let fa : na < 2 ^ length a = subst (λ (n : ℕ). na < 2 ^ n) (bits_length v a) (number_lt (edge_bits v a)) in
      let fb : nb < 2 ^ length a = subst (λ (n : ℕ). nb < 2 ^ n) (bits_length v b ∙ sym same) (number_lt (edge_bits v b)) in
      let tx : edge_bit v x ≡ not (nat_lt na half) = top_edge v new a x val some px in
      let yb : y ≡ edge_at b (length b - 1) = py ∙ ap (λ (n : ℕ). edge_at b (n - 1)) same in
      let ty : edge_bit v y ≡ not (nat_lt nb half) = top_edge v new b y val (omega arith) yb ∙ ap (λ (n : ℕ). not (nat_lt nb (2 ^ (n - 1)))) (sym same) in
      k.is v val ∙
      (ap (λ (t : Bool). if t then edge_bit v x else edge_bit v plain) (h.is v at_n) ∙
      (ap (λ (t : Bool). if xor (edge_bit v x) (edge_bit v y) then edge_bit v x else t) (g.is v at_m) ∙
      (ap (λ (t : Bool). if xor t (edge_bit v y) then t else nat_lt na nb) tx ∙
      (ap (λ (t : Bool). if xor (not (nat_lt na half)) t then not (nat_lt na half) else nat_lt na nb) ty ∙
      sign_by na nb half (2 ^ length a) twice fa fb))));
}
