-- The rows of the table, by bits.
use Rattle.std.proofs.Common.{◌≡◌, ℕ, ◌+◌, ◌-◌, ◌*◌, ◌%◌, ◌^◌, ◌<◌, Bool, true, false, not, ◌&&◌, ◌||◌, ◌==◌, List, [], ◌∷◌, length, map, refl, sym, ◌∙◌, ap, subst, arith, bit_and, bit_or, bit_xor, count_ones, suc, zero-add, add-zero}
use Rattle.std.proofs.lemmas.Bool.Decides.{nat_tests}
use Rattle.std.proofs.lemmas.List.{length-map}
use Rattle.std.proofs.lemmas.Nat.{and_le_l, and_le_r}
use Rattle.std.proofs.Math.Nat.{mod-eq_of_lt, add-mul-mod_self_right}
use Rattle.std.proofs.lemmas.Bool.{eqb-true, eq-eqb}
use Rattle.std.specs.Int.Bits.{xor_self, xor_add_and}
use Rattle.lv_bits.specs.Words.{Bits}
use Rattle.lv_bits.specs.Values.{bit}
use Rattle.lv_aig.specs.declared.edge.Edge.{Edge}
use Rattle.lv_aig.specs.Edges.{Nodes, edge_bit, IsValuation, Gives, zero_edge}
use Rattle.lv_bits.specs.Digits.{number}
use Rattle.lv_circuits.specs.Words.{edge_at, edge_bits, GivesBits, GivesWord, zip_bits, fold_bits, xor, sum_bits, carry_out}
use Rattle.lv_bits.proofs.Digits.{number_lt}
use Rattle.lv_circuits.proofs.Numbers.{number_and, number_or, number_xor, number_not, any_set, odd_set, number_sum, length_sum}
use Rattle.lv_aig.proofs.Graphs.{grows_trans, valuation_back}
use Rattle.lv_circuits.proofs.Joins.{turn, turn_bit}

pub same_word : (w w' n n' : ℕ) → w ≡ w' → n ≡ n' → (let a : Bits = record { width = w; value = n } in let b : Bits = record { width = w'; value = n' } in a ≡ b)
same_word w w' n n' p q = rw (p, q) refl

pub bits_length : (v : ℕ → Bool) (es : List Edge) → length (edge_bits v es) ≡ length es
bits_length v es = length-map es (edge_bit v)

pub length_zip : (f : Bool → Bool → Bool) (xs ys : List Bool) → length xs ≡ length ys → length (zip_bits f xs ys) ≡ length xs
length_zip f [] ys h = refl
length_zip f (x ∷ xs) [] h = absurd (omega arith)
length_zip f (x ∷ xs) (y ∷ ys) h = ap suc (length_zip f xs ys (omega arith))

-- a word by its bits
pub as_word : (old new : Nodes) (es : List Edge) (f : (ℕ → Bool) → List Bool) (word : (ℕ → Bool) → Bits) → GivesBits old new es f → ((v : ℕ → Bool) → IsValuation new v → length (f v) ≡ (word v).width) → ((v : ℕ → Bool) → IsValuation new v → number (f v) ≡ (word v).value) → GivesWord old new es word
as_word old new es f word g w n = record {
  grows = g.grows;
  edges = g.edges;
  is = λ v h. same_word (length es) (word v).width (number (edge_bits v es)) (word v).value
      (sym (bits_length v es) ∙ (ap length (g.is v h) ∙ w v h))
      (ap number (g.is v h) ∙ n v h);
}

-- a word of one bit
pub as_single : (old new : Nodes) (es : List Edge) (e : Edge) (f : (ℕ → Bool) → Bool) (word : (ℕ → Bool) → Bits) → es ≡ e ∷ [] → Gives old new e f → ((v : ℕ → Bool) → (word v).width ≡ 1) → ((v : ℕ → Bool) → IsValuation new v → bit (f v) ≡ (word v).value) → GivesWord old new es word
as_single old new es e f word p g w n =
    subst (λ (es : List Edge). GivesWord old new es word) (sym p) (record {
      grows = g.grows;
      edges = λ i lt. let z : 0 ≡ i = omega arith in subst (λ (i : ℕ). (edge_at (e ∷ []) i).node < length new) z g.edge;
      is = λ v h. same_word 1 (word v).width (number (edge_bits v (e ∷ []))) (word v).value (sym (w v))
          (zero-add (bit (edge_bit v e)) ∙ (ap bit (g.is v h) ∙ n v h));
    })

pub gives_turn : (old new : Nodes) (e e' : Edge) (f : (ℕ → Bool) → Bool) → e' ≡ turn e → Gives old new e f → Gives old new e' (λ v. not (f v))
gives_turn old new e e' f p g = record {
  grows = g.grows;
  edge = subst (λ (x : Edge). x.node < length new) (sym p) g.edge;
  is = λ v h. ap (edge_bit v) p ∙ (turn_bit v e ∙ ap not (g.is v h));
}

-- a fold over a word that was made before
pub gives_after : (old m new : Nodes) (es es' : List Edge) (bits : (ℕ → Bool) → List Bool) (e : Edge) (f : List Bool → Bool) → es' ≡ es → GivesBits old m es bits → Gives m new e (λ v. f (edge_bits v es')) → Gives old new e (λ v. f (bits v))
gives_after old m new es es' bits e f same p q = record {
  grows = grows_trans old m new p.grows q.grows;
  edge = q.edge;
  is = λ v h. q.is v h ∙ (ap (λ (x : List Edge). f (edge_bits v x)) same ∙ ap f (p.is v (valuation_back m new v q.grows h)));
}

pub bits_after : (old m new : Nodes) (es es' out : List Edge) (bits : (ℕ → Bool) → List Bool) (f : (ℕ → Bool) → List Bool → List Bool) → es' ≡ es → GivesBits old m es bits → GivesBits m new out (λ v. f v (edge_bits v es')) → GivesBits old new out (λ v. f v (bits v))
bits_after old m new es es' out bits f same p q = record {
  grows = grows_trans old m new p.grows q.grows;
  edges = q.edges;
  is = λ v h. q.is v h ∙ (ap (λ (x : List Edge). f v (edge_bits v x)) same ∙ ap (f v) (p.is v (valuation_back m new v q.grows h)));
}

pub twice : (b : Bool) → not (not b) ≡ b
twice true = refl
twice false = refl

pub zero_test : (n : ℕ) → not (not (n == 0)) ≡ (n == 0)
zero_test n = twice (n == 0)

pub not_length : (v : ℕ → Bool) (a : List Edge) → length (map not (edge_bits v a)) ≡ length a
not_length v a = length-map (edge_bits v a) not ∙ bits_length v a

pub not_number : (bs : List Bool) → number (map not bs) ≡ 2 ^ length bs - 1 - number bs
not_number bs = omega (arith, number_not bs)

pub not_value : (v : ℕ → Bool) (a : List Edge) → number (map not (edge_bits v a)) ≡ 2 ^ length a - 1 - number (edge_bits v a)
not_value v a = not_number (edge_bits v a) ∙ ap (λ (n : ℕ). 2 ^ n - 1 - number (edge_bits v a)) (bits_length v a)

pub no_bit : (bs : List Bool) → bit (not (fold_bits (λ a b. a || b) false bs)) ≡ bit (number bs == 0)
no_bit bs = ap (λ (b : Bool). bit (not b)) (any_set bs) ∙ ap bit (zero_test (number bs))

pub some_bit : (bs : List Bool) → bit (fold_bits (λ a b. a || b) false bs) ≡ bit (not (number bs == 0))
some_bit bs = ap bit (any_set bs)

pub odd_bits : (bs : List Bool) → bit (fold_bits xor false bs) ≡ count_ones (number bs) % 2
odd_bits bs = odd_set bs

pub full_test : (n m top : ℕ) → n + m + 1 ≡ top → (n == 0) ≡ (m == top - 1)
full_test n m top h = grind (arith, nat_tests)

pub all_bits : (v : ℕ → Bool) (a : List Edge) → bit (not (fold_bits (λ a b. a || b) false (map not (edge_bits v a)))) ≡ bit (number (edge_bits v a) == 2 ^ length a - 1)
all_bits v a =
    let e : number (map not (edge_bits v a)) + number (edge_bits v a) + 1 ≡ 2 ^ length a = number_not (edge_bits v a) ∙ ap (λ (n : ℕ). 2 ^ n) (bits_length v a) in
    no_bit (map not (edge_bits v a)) ∙ ap bit (full_test (number (map not (edge_bits v a))) (number (edge_bits v a)) (2 ^ length a) e)

pub both_lengths : (v : ℕ → Bool) (a b : List Edge) → length a ≡ length b → length (edge_bits v a) ≡ length (edge_bits v b)
both_lengths v a b h = bits_length v a ∙ (h ∙ sym (bits_length v b))

pub zip_length : (f : Bool → Bool → Bool) (v : ℕ → Bool) (a b : List Edge) → length a ≡ length b → length (zip_bits f (edge_bits v a) (edge_bits v b)) ≡ length a
zip_length f v a b h = length_zip f (edge_bits v a) (edge_bits v b) (both_lengths v a b h) ∙ bits_length v a

pub and_value : (v : ℕ → Bool) (a b : List Edge) → length a ≡ length b → number (zip_bits (λ a b. a && b) (edge_bits v a) (edge_bits v b)) ≡ bit_and (number (edge_bits v a)) (number (edge_bits v b))
and_value v a b h = number_and (edge_bits v a) (edge_bits v b) (both_lengths v a b h)

pub or_value : (v : ℕ → Bool) (a b : List Edge) → length a ≡ length b → number (zip_bits (λ a b. a || b) (edge_bits v a) (edge_bits v b)) ≡ bit_or (number (edge_bits v a)) (number (edge_bits v b))
or_value v a b h = number_or (edge_bits v a) (edge_bits v b) (both_lengths v a b h)

pub xor_value : (v : ℕ → Bool) (a b : List Edge) → length a ≡ length b → number (zip_bits xor (edge_bits v a) (edge_bits v b)) ≡ bit_xor (number (edge_bits v a)) (number (edge_bits v b))
xor_value v a b h = number_xor (edge_bits v a) (edge_bits v b) (both_lengths v a b h)

pub xnor_length : (v : ℕ → Bool) (a b : List Edge) → length a ≡ length b → length (map not (zip_bits xor (edge_bits v a) (edge_bits v b))) ≡ length a
xnor_length v a b h = length-map (zip_bits xor (edge_bits v a) (edge_bits v b)) not ∙ zip_length xor v a b h

pub xnor_value : (v : ℕ → Bool) (a b : List Edge) → length a ≡ length b → number (map not (zip_bits xor (edge_bits v a) (edge_bits v b))) ≡ 2 ^ length a - 1 - bit_xor (number (edge_bits v a)) (number (edge_bits v b))
xnor_value v a b h =
    not_number (zip_bits xor (edge_bits v a) (edge_bits v b)) ∙
    (ap (λ (n : ℕ). 2 ^ n - 1 - number (zip_bits xor (edge_bits v a) (edge_bits v b))) (zip_length xor v a b h) ∙ ap (λ (n : ℕ). 2 ^ length a - 1 - n) (xor_value v a b h))

pub bool_same : (a b : Bool) → (a ≡ true → b ≡ true) → (b ≡ true → a ≡ true) → a ≡ b
bool_same true b f g = sym (f refl)
bool_same false true f g = g refl
bool_same false false f g = refl

-- the exclusive or is 0 exactly at equal numbers
pub apart_test : (m n : ℕ) → (bit_xor m n == 0) ≡ (m == n)
apart_test m n =
    bool_same (bit_xor m n == 0) (m == n)
    (λ h. let z : bit_xor m n ≡ 0 = eqb-true (bit_xor m n) 0 h in eq-eqb m n (omega (arith, xor_add_and m n, and_le_l m n, and_le_r m n)))
    (λ h. let e : m ≡ n = eqb-true m n h in eq-eqb (bit_xor m n) 0 (ap (λ (k : ℕ). bit_xor k n) e ∙ xor_self n))

pub same_bits : (v : ℕ → Bool) (a b : List Edge) → length a ≡ length b → bit (not (fold_bits (λ a b. a || b) false (zip_bits xor (edge_bits v a) (edge_bits v b)))) ≡ bit (number (edge_bits v a) == number (edge_bits v b))
same_bits v a b h =
    no_bit (zip_bits xor (edge_bits v a) (edge_bits v b)) ∙
    (ap (λ (n : ℕ). bit (n == 0)) (xor_value v a b h) ∙ ap bit (apart_test (number (edge_bits v a)) (number (edge_bits v b))))

pub other_bits : (v : ℕ → Bool) (a b : List Edge) → length a ≡ length b → bit (fold_bits (λ a b. a || b) false (zip_bits xor (edge_bits v a) (edge_bits v b))) ≡ bit (not (number (edge_bits v a) == number (edge_bits v b)))
other_bits v a b h =
    some_bit (zip_bits xor (edge_bits v a) (edge_bits v b)) ∙
    (ap (λ (n : ℕ). bit (not (n == 0))) (xor_value v a b h) ∙ ap (λ (b : Bool). bit (not b)) (apart_test (number (edge_bits v a)) (number (edge_bits v b))))

-- what a sum is, where its carry is dropped
pub wrapped : (s c m t : ℕ) → s + c * m ≡ t → s < m → s ≡ t % m
wrapped s c m t e h = sym (ap (λ (n : ℕ). n % m) (sym e) ∙ (add-mul-mod_self_right s c m ∙ mod-eq_of_lt h))

pub sum_length : (k : Bool) (v : ℕ → Bool) (a b : List Edge) → length a ≡ length b → length (sum_bits k (edge_bits v a) (edge_bits v b)) ≡ length a
sum_length k v a b h = length_sum k (edge_bits v a) (edge_bits v b) (both_lengths v a b h) ∙ bits_length v a

pub sum_mod : (k : Bool) (xs ys : List Bool) → length xs ≡ length ys → number (sum_bits k xs ys) ≡ (number xs + number ys + bit k) % 2 ^ length xs
sum_mod k xs ys h =
    let small : number (sum_bits k xs ys) < 2 ^ length xs = subst (λ (n : ℕ). number (sum_bits k xs ys) < 2 ^ n) (length_sum k xs ys h) (number_lt (sum_bits k xs ys)) in
    wrapped (number (sum_bits k xs ys)) (bit (carry_out k xs ys)) (2 ^ length xs) (number xs + number ys + bit k) (number_sum k xs ys h) small

pub add_mod : (k : Bool) (xs ys : List Bool) → k ≡ false → length xs ≡ length ys → number (sum_bits k xs ys) ≡ (number xs + number ys) % 2 ^ length xs
add_mod k xs ys z h = sum_mod k xs ys h ∙ ap (λ (n : ℕ). n % 2 ^ length xs) (ap (λ (b : Bool). number xs + number ys + bit b) z ∙ add-zero (number xs + number ys))

pub sub_mod : (k : Bool) (xs ys : List Bool) → k ≡ true → length xs ≡ length ys → number (sum_bits k xs (map not ys)) ≡ (number xs + (2 ^ length xs - number ys)) % 2 ^ length xs
sub_mod k xs ys z h =
    let e : number (map not ys) + number ys + 1 ≡ 2 ^ length xs = number_not ys ∙ ap (λ (n : ℕ). 2 ^ n) (sym h) in
    let f : number xs + number (map not ys) + 1 ≡ number xs + (2 ^ length xs - number ys) = omega (arith, e) in
    sum_mod k xs (map not ys) (h ∙ sym (length-map ys not)) ∙ ap (λ (n : ℕ). n % 2 ^ length xs) (ap (λ (b : Bool). number xs + number (map not ys) + bit b) z ∙ f)

pub add_value : (k : Bool) (v : ℕ → Bool) (a b : List Edge) → k ≡ false → length a ≡ length b → number (sum_bits k (edge_bits v a) (edge_bits v b)) ≡ (number (edge_bits v a) + number (edge_bits v b)) % 2 ^ length a
add_value k v a b z h = add_mod k (edge_bits v a) (edge_bits v b) z (both_lengths v a b h) ∙ ap (λ (n : ℕ). (number (edge_bits v a) + number (edge_bits v b)) % 2 ^ n) (bits_length v a)

pub sub_value : (k : Bool) (v : ℕ → Bool) (a b : List Edge) → k ≡ true → length a ≡ length b → number (sum_bits k (edge_bits v a) (map not (edge_bits v b))) ≡ (number (edge_bits v a) + (2 ^ length a - number (edge_bits v b))) % 2 ^ length a
sub_value k v a b z h = sub_mod k (edge_bits v a) (edge_bits v b) z (both_lengths v a b h) ∙ ap (λ (n : ℕ). (number (edge_bits v a) + (2 ^ n - number (edge_bits v b))) % 2 ^ n) (bits_length v a)

pub sub_length : (k : Bool) (v : ℕ → Bool) (a b : List Edge) → length a ≡ length b → length (sum_bits k (edge_bits v a) (map not (edge_bits v b))) ≡ length a
sub_length k v a b h = length_sum k (edge_bits v a) (map not (edge_bits v b)) (both_lengths v a b h ∙ sym (length-map (edge_bits v b) not)) ∙ bits_length v a

-- the constants
pub zero_bit : (nodes : Nodes) (v : ℕ → Bool) (e : Edge) → e ≡ zero_edge → IsValuation nodes v → edge_bit v e ≡ false
zero_bit nodes v e p h = ap (edge_bit v) p ∙ h.zero

pub one_bit : (nodes : Nodes) (v : ℕ → Bool) (e z : Edge) → z ≡ zero_edge → e ≡ turn z → IsValuation nodes v → edge_bit v e ≡ true
one_bit nodes v e z p q h = ap (edge_bit v) q ∙ (turn_bit v z ∙ ap not (zero_bit nodes v z p h))
