-- Lists that are moved, and what they mean as numbers.
use Rattle.std.proofs.Common.{◌≡◌, ℕ, ◌+◌, ◌-◌, ◌*◌, ◌/◌, ◌%◌, ◌^◌, ◌<◌, ◌≤◌, inl, inr, min, Bool, true, false, not, ◌||◌, if◌then◌else◌, ◌==◌, List, [], ◌∷◌, ◌++◌, length, take, drop, replicate, get_or, refl, sym, ◌∙◌, ap, subst, arith, zero, suc, zero-add, length-append, append_assoc, append-nil}
use Rattle.std.proofs.lemmas.Bool.{cases_lt}
use Rattle.std.proofs.lemmas.Nat.{pow-add}
use Rattle.std.proofs.lemmas.List.{length-take-le, length-take, length-drop, length-replicate, replicate-append-replicate, drop-replicate, take-replicate, drop-append-le, take-append-le, map-append, take-map, drop-map, drop_all}
use Rattle.std.proofs.Math.ListN.{get_or-map, get_or-append}
use Rattle.std.proofs.lemmas.Bool.Decides.{nat_tests}
use Rattle.std.proofs.lemmas.List.{get_or-take, get_or-drop}
use Rattle.std.proofs.Math.Seq.{get_or-append_right, take-append-add, drop-append-add, take-length, take-suc}
use Rattle.std.proofs.Math.Nat.{mul-le-mul_left, div-eq_of_lt, pow-le-pow_right}
use Rattle.lv_aig.specs.declared.edge.Edge.{Edge}
use Rattle.lv_aig.specs.Edges.{Nodes, edge_bit, IsValuation, Gives, zero_edge}
use Rattle.lv_bits.specs.Values.{bit}
use Rattle.lv_circuits.specs.declared.shifts.Way.{Way}
use Rattle.lv_circuits.specs.declared.shifts.Way.TheVariants.{Left, Right}
use Rattle.lv_bits.specs.Digits.{number}
use Rattle.lv_circuits.specs.Words.{edge_bits, AllBelow, edge_at, GivesBits, zip_bits, fold_bits}
use Rattle.lv_circuits.specs.Moves.{moved}
use Rattle.lv_bits.proofs.Digits.{number_lt}
use Rattle.lv_circuits.proofs.Numbers.{any_set}
use Rattle.lv_circuits.proofs.RowLaws.{bits_length}
use Rattle.lv_aig.proofs.Graphs.{grows_refl, grows_trans, valuation_back}
use Rattle.lv_circuits.proofs.More.{number_append, number_zeros, number_ones, number_drop, number_shifted, shifted_left, choice_bits, parts}

-- ---- parts of parts
drop_drop : {A : Type 0} (n m : ℕ) (xs : List A) → drop m (drop n xs) ≡ drop (n + m) xs
drop_drop zero m xs = ap (λ (k : ℕ). drop k xs) (sym (zero-add m))
drop_drop {A} (suc n) m [] = let none : List A = [] in drop_all m none (omega arith) ∙ sym (drop_all (suc n + m) none (omega arith))
drop_drop (suc n) m (x ∷ xs) = let e : suc n + m ≡ suc (n + m) = omega arith in drop_drop n m xs ∙ ap (λ (k : ℕ). drop k (x ∷ xs)) (sym e)

take_take : {A : Type 0} (n m : ℕ) (xs : List A) → n ≤ m → take n (take m xs) ≡ take n xs
take_take zero m xs h = refl
take_take (suc n) zero xs h = absurd (omega arith)
take_take (suc n) (suc m) [] h = refl
take_take (suc n) (suc m) (x ∷ xs) h = ap (λ (ys : List _). x ∷ ys) (take_take n m xs (omega arith))

pub length_moved : {A : Type 0} (w : Way) (f : A) (n : ℕ) (xs : List A) → length (moved w f n xs) ≡ length xs
length_moved Left f n xs = omega (arith, length-append (replicate (min n (length xs)) f) (take (length xs - n) xs), length-replicate (min n (length xs)) f, length-take (length xs - n) xs)
length_moved Right f n xs = omega (arith, length-append (drop n xs) (replicate (min n (length xs)) f), length-replicate (min n (length xs)) f, length-drop n xs)

pub moved_none : {A : Type 0} (w : Way) (f : A) (xs : List A) → moved w f 0 xs ≡ xs
moved_none Left f xs =
    let z : min 0 (length xs) ≡ 0 = omega arith in
    let l : length xs - 0 ≡ length xs = omega arith in
    ap (λ (k : ℕ). replicate k f ++ take (length xs - 0) xs) z ∙ (ap (λ (k : ℕ). take k xs) l ∙ take-length xs)
moved_none Right f xs =
    let z : min 0 (length xs) ≡ 0 = omega arith in
    ap (λ (k : ℕ). xs ++ replicate k f) z ∙ append-nil xs

pub moved_far : {A : Type 0} (w : Way) (f : A) (n : ℕ) (xs : List A) → length xs ≤ n → moved w f n xs ≡ replicate (length xs) f
moved_far Left f n xs h =
    let z : min n (length xs) ≡ length xs = omega arith in
    let l : length xs - n ≡ 0 = omega arith in
    ap (λ (k : ℕ). replicate k f ++ take (length xs - n) xs) z ∙ (ap (λ (k : ℕ). replicate (length xs) f ++ take k xs) l ∙ append-nil (replicate (length xs) f))
moved_far Right f n xs h =
    let z : min n (length xs) ≡ length xs = omega arith in
    ap (λ (ys : List _). ys ++ replicate (min n (length xs)) f) (drop_all n xs h) ∙ ap (λ (k : ℕ). replicate k f) z

twice_right : {A : Type 0} (f : A) (n m : ℕ) (xs : List A) → drop m (drop n xs ++ replicate (min n (length xs)) f) ++ replicate (min m (length xs)) f ≡ moved Right f (n + m) xs
twice_right {A} f n m xs =
    let L : ℕ = length xs in
    let front : List A = drop n xs in
    let back : List A = replicate (min n (length xs)) f in
    let len : length (drop n xs) ≡ length xs - n = length-drop n xs in
    elim (cases_lt (length xs - n) m) [
      | inl far ↦
          let k : ℕ = m - (length xs - n) in
          let e : m ≡ length (drop n xs) + (m - (length xs - n)) = omega (arith, len) in
          let d : drop m (drop n xs ++ replicate (min n (length xs)) f) ≡ replicate (min n (length xs) - (m - (length xs - n))) f =
          ap (λ (j : ℕ). drop j (drop n xs ++ replicate (min n (length xs)) f)) e ∙ (drop-append-add (drop n xs) (replicate (min n (length xs)) f) (m - (length xs - n)) ∙ drop-replicate (m - (length xs - n)) (min n (length xs)) f) in
          let c : (min n (length xs) - (m - (length xs - n))) + min m (length xs) ≡ min (n + m) (length xs) = omega arith in
          ap (λ (ys : List A). ys ++ replicate (min m (length xs)) f) d ∙
          (replicate-append-replicate (min n (length xs) - (m - (length xs - n))) (min m (length xs)) f ∙
          (ap (λ (j : ℕ). replicate j f) c ∙ ap (λ (ys : List A). ys ++ replicate (min (n + m) (length xs)) f) (sym (drop_all (n + m) xs (omega arith)))))
      | inr near ↦
          let d : drop m (drop n xs ++ replicate (min n (length xs)) f) ≡ drop (n + m) xs ++ replicate (min n (length xs)) f =
          drop-append-le m (drop n xs) (replicate (min n (length xs)) f) (omega (arith, len)) ∙ ap (λ (ys : List A). ys ++ replicate (min n (length xs)) f) (drop_drop n m xs) in
          let c : min n (length xs) + min m (length xs) ≡ min (n + m) (length xs) = omega arith in
          ap (λ (ys : List A). ys ++ replicate (min m (length xs)) f) d ∙
          (append_assoc (drop (n + m) xs) (replicate (min n (length xs)) f) (replicate (min m (length xs)) f) ∙
          ap (λ (ys : List A). drop (n + m) xs ++ ys) (replicate-append-replicate (min n (length xs)) (min m (length xs)) f ∙ ap (λ (j : ℕ). replicate j f) c))
    ]

twice_left : {A : Type 0} (f : A) (n m : ℕ) (xs : List A) → replicate (min m (length xs)) f ++ take (length xs - m) (replicate (min n (length xs)) f ++ take (length xs - n) xs) ≡ moved Left f (n + m) xs
twice_left {A} f n m xs =
    let len : length (replicate (min n (length xs)) f) ≡ min n (length xs) = length-replicate (min n (length xs)) f in
    elim (cases_lt (min n (length xs)) (length xs - m)) [
      | inl near ↦
          let j : ℕ = length xs - (n + m) in
          let e : length xs - m ≡ length (replicate (min n (length xs)) f) + (length xs - (n + m)) = omega (arith, len) in
          let d : take (length xs - m) (replicate (min n (length xs)) f ++ take (length xs - n) xs) ≡ replicate (min n (length xs)) f ++ take (length xs - (n + m)) xs =
          ap (λ (k : ℕ). take k (replicate (min n (length xs)) f ++ take (length xs - n) xs)) e ∙
          (take-append-add (replicate (min n (length xs)) f) (take (length xs - n) xs) (length xs - (n + m)) ∙
          ap (λ (ys : List A). replicate (min n (length xs)) f ++ ys) (take_take (length xs - (n + m)) (length xs - n) xs (omega arith))) in
          let c : min m (length xs) + min n (length xs) ≡ min (n + m) (length xs) = omega arith in
          ap (λ (ys : List A). replicate (min m (length xs)) f ++ ys) d ∙
          (sym (append_assoc (replicate (min m (length xs)) f) (replicate (min n (length xs)) f) (take (length xs - (n + m)) xs)) ∙
          ap (λ (ys : List A). ys ++ take (length xs - (n + m)) xs) (replicate-append-replicate (min m (length xs)) (min n (length xs)) f ∙ ap (λ (k : ℕ). replicate k f) c))
      | inr far ↦
          let d : take (length xs - m) (replicate (min n (length xs)) f ++ take (length xs - n) xs) ≡ replicate (length xs - m) f =
          take-append-le (length xs - m) (replicate (min n (length xs)) f) (take (length xs - n) xs) (omega (arith, len)) ∙ take-replicate (length xs - m) (min n (length xs)) f far in
          let c : min m (length xs) + (length xs - m) ≡ min (n + m) (length xs) = omega arith in
          let z : 0 ≡ length xs - (n + m) = omega arith in
          ap (λ (ys : List A). replicate (min m (length xs)) f ++ ys) d ∙
          (replicate-append-replicate (min m (length xs)) (length xs - m) f ∙
          (ap (λ (k : ℕ). replicate k f) c ∙ (sym (append-nil (replicate (min (n + m) (length xs)) f)) ∙ ap (λ (k : ℕ). replicate (min (n + m) (length xs)) f ++ take k xs) z)))
    ]

-- a move by n and then by m is one by n + m
pub moved_twice : {A : Type 0} (w : Way) (f : A) (n m : ℕ) (xs : List A) → moved w f m (moved w f n xs) ≡ moved w f (n + m) xs
moved_twice {A} Left f n m xs =
    let e : length (moved Left f n xs) ≡ length xs = length_moved Left f n xs in
    ap (λ (k : ℕ). replicate (min m k) f ++ take (k - m) (moved Left f n xs)) e ∙ twice_left f n m xs
moved_twice {A} Right f n m xs =
    let e : length (moved Right f n xs) ≡ length xs = length_moved Right f n xs in
    ap (λ (k : ℕ). drop m (moved Right f n xs) ++ replicate (min m k) f) e ∙ twice_right f n m xs

-- ---- edges and their bits
pub bits_replicate : (v : ℕ → Bool) (n : ℕ) (e : Edge) → edge_bits v (replicate n e) ≡ replicate n (edge_bit v e)
bits_replicate v zero e = refl
bits_replicate v (suc n) e = ap (λ (bs : List Bool). edge_bit v e ∷ bs) (bits_replicate v n e)

pub bits_moved : (v : ℕ → Bool) (w : Way) (f : Edge) (n : ℕ) (es : List Edge) → edge_bits v (moved w f n es) ≡ moved w (edge_bit v f) n (edge_bits v es)
bits_moved v Left f n es =
    map-append (edge_bit v) (replicate (min n (length es)) f) (take (length es - n) es) ∙
    (ap (λ (bs : List Bool). bs ++ edge_bits v (take (length es - n) es)) (bits_replicate v (min n (length es)) f) ∙
    (ap (λ (bs : List Bool). replicate (min n (length es)) (edge_bit v f) ++ bs) (sym (take-map (edge_bit v) (length es - n) es)) ∙
    ap (λ (k : ℕ). replicate (min n k) (edge_bit v f) ++ take (k - n) (edge_bits v es)) (sym (bits_length v es))))
bits_moved v Right f n es =
    map-append (edge_bit v) (drop n es) (replicate (min n (length es)) f) ∙
    (ap (λ (bs : List Bool). edge_bits v (drop n es) ++ bs) (bits_replicate v (min n (length es)) f) ∙
    (ap (λ (bs : List Bool). bs ++ replicate (min n (length es)) (edge_bit v f)) (sym (drop-map (edge_bit v) n es)) ∙
    ap (λ (k : ℕ). drop n (edge_bits v es) ++ replicate (min n k) (edge_bit v f)) (sym (bits_length v es))))

-- ---- as numbers
same_left : (n : ℕ) (bs : List Bool) → moved Left false n bs ≡ shifted_left n bs
unfolding shifted_left
same_left n bs =
    let len : length (replicate n false) ≡ n = length-replicate n false in
    elim (cases_lt n (length bs)) [
      | inl less ↦
          let e : length bs ≡ length (replicate n false) + (length bs - n) = omega (arith, len) in
          let z : min n (length bs) ≡ n = omega arith in
          ap (λ (k : ℕ). replicate k false ++ take (length bs - n) bs) z ∙
          sym (ap (λ (k : ℕ). take k (replicate n false ++ bs)) e ∙ take-append-add (replicate n false) bs (length bs - n))
      | inr ge ↦
          moved_far Left false n bs ge ∙
          sym (take-append-le (length bs) (replicate n false) bs (omega (arith, len)) ∙ take-replicate (length bs) n false ge)
    ]

pub number_left : (n : ℕ) (bs : List Bool) → number (moved Left false n bs) ≡ number bs * 2 ^ n % 2 ^ length bs
number_left n bs = ap number (same_left n bs) ∙ number_shifted n bs

quotient : (n : ℕ) (bs : List Bool) → number (drop n bs) ≡ number bs / 2 ^ n
quotient n bs = elim (cases_lt n (length bs)) [
  | inl less ↦ number_drop n bs (omega arith)
  | inr ge ↦
      let small : number bs < 2 ^ n = omega (arith, number_lt bs, pow-le-pow_right {n = 2} (omega arith) ge) in
      ap number (drop_all n bs ge) ∙ sym (div-eq_of_lt small)
]

swap_sum : (a b : ℕ) → a + b ≡ b + a
swap_sum a b = omega arith

-- the places that become free, above those that stay
filled_by : (f : Bool) (n w : ℕ) → number (replicate (min n w) f) * 2 ^ (w - n) ≡ (if f then 2 ^ w - 2 ^ (w - n) else 0)
filled_by false n w = ap (λ (k : ℕ). k * 2 ^ (w - n)) (number_zeros (min n w)) ∙ omega arith
filled_by true n w =
    let whole : 2 ^ (min n w) * 2 ^ (w - n) ≡ 2 ^ w = sym (pow-add 2 (min n w) (w - n)) ∙ ap (λ (k : ℕ). 2 ^ k) (let e : min n w + (w - n) ≡ w = omega arith in e) in
    let ones : (number (replicate (min n w) true) + 1) * 2 ^ (w - n) ≡ 2 ^ (min n w) * 2 ^ (w - n) = ap (λ (k : ℕ). k * 2 ^ (w - n)) (number_ones (min n w)) in
    omega (arith, whole, ones)

pub number_right : (f : Bool) (n : ℕ) (bs : List Bool) → number (moved Right f n bs) ≡ number bs / 2 ^ n + (if f then 2 ^ length bs - 2 ^ (length bs - n) else 0)
number_right f n bs =
    let front : number (drop n bs) ≡ number bs / 2 ^ n = quotient n bs in
    number_append (drop n bs) (replicate (min n (length bs)) f) ∙
    (ap (λ (k : ℕ). number (replicate (min n (length bs)) f) * 2 ^ k + number (drop n bs)) (length-drop n bs) ∙
    (ap (λ (k : ℕ). number (replicate (min n (length bs)) f) * 2 ^ (length bs - n) + k) front ∙
    (ap (λ (k : ℕ). k + number bs / 2 ^ n) (filled_by f n (length bs)) ∙ swap_sum (if f then 2 ^ length bs - 2 ^ (length bs - n) else 0) (number bs / 2 ^ n))))

-- ---- stages of a shifter
pub number_take_more : (i : ℕ) (bs : List Bool) → i < length bs → number (take (i + 1) bs) ≡ number (take i bs) + bit (get_or bs i false) * 2 ^ i
number_take_more i bs h =
    let e : i + 1 ≡ suc i = omega arith in
    let l : length (take i bs) ≡ i = length-take-le i bs (omega arith) in
    ap (λ (k : ℕ). number (take k bs)) e ∙
    (ap number (take-suc bs i false h) ∙
    (number_append (take i bs) (get_or bs i false ∷ []) ∙
    (ap (λ (k : ℕ). number (get_or bs i false ∷ []) * 2 ^ k + number (take i bs)) l ∙ omega arith)))

pub bit_of_edge : (v : ℕ → Bool) (nodes : Nodes) (b : List Edge) (i : ℕ) (x : Edge) → IsValuation nodes v → x ≡ edge_at b i → edge_bit v x ≡ get_or (edge_bits v b) i false
bit_of_edge v nodes b i x val p = ap (edge_bit v) p ∙ (sym (get_or-map (edge_bit v) b i zero_edge) ∙ ap (λ (d : Bool). get_or (edge_bits v b) i d) val.zero)

stage_by : (w : Way) (c f : Bool) (n far m : ℕ) (xs : List Bool) → m ≡ n + bit c * far → (if c then moved w f far (moved w f n xs) else moved w f n xs) ≡ moved w f m xs
stage_by w true f n far m xs e = moved_twice w f n far xs ∙ ap (λ (k : ℕ). moved w f k xs) (let g : n + far ≡ m = omega (arith, e) in g)
stage_by w false f n far m xs e = ap (λ (k : ℕ). moved w f k xs) (let g : n ≡ m = omega (arith, e) in g)

pub stage_moves : (old now new : Nodes) (w : Way) (fill x : Edge) (a b word slice next : List Edge) (i far : ℕ) → i < length b → x ≡ edge_at b i → far ≡ 2 ^ i → slice ≡ word → GivesBits old now word (λ v. moved w (edge_bit v fill) (number (take i (edge_bits v b))) (edge_bits v a)) → GivesBits now new next (λ v. if edge_bit v x then moved w (edge_bit v fill) far (edge_bits v slice) else edge_bits v slice) → GivesBits old new next (λ v. moved w (edge_bit v fill) (number (take (i + 1) (edge_bits v b))) (edge_bits v a))
stage_moves old now new w fill x a b word slice next i far h px pf ps g k = record {
  grows = grows_trans old now new g.grows k.grows;
  edges = k.edges;
  is = λ v val.
      let before : edge_bits v slice ≡ moved w (edge_bit v fill) (number (take i (edge_bits v b))) (edge_bits v a) = ap (edge_bits v) ps ∙ g.is v (valuation_back now new v k.grows val) in
      let c : edge_bit v x ≡ get_or (edge_bits v b) i false = bit_of_edge v new b i x val px in
      let m : number (take (i + 1) (edge_bits v b)) ≡ number (take i (edge_bits v b)) + bit (edge_bit v x) * far =
      number_take_more i (edge_bits v b) (omega (arith, bits_length v b)) ∙ ap (λ (k : ℕ). number (take i (edge_bits v b)) + k) (ap (λ (t : Bool). bit t * 2 ^ i) (sym c) ∙ ap (λ (k : ℕ). bit (edge_bit v x) * k) (sym pf)) in
      k.is v val ∙
      (ap (λ (bs : List Bool). if edge_bit v x then moved w (edge_bit v fill) far bs else bs) before ∙
      stage_by w (edge_bit v x) (edge_bit v fill) (number (take i (edge_bits v b))) far (number (take (i + 1) (edge_bits v b))) (edge_bits v a) m);
}

pub first_stage : (nodes : Nodes) (w : Way) (fill : Edge) (a b word : List Edge) → word ≡ a → AllBelow (length nodes) a → GivesBits nodes nodes word (λ v. moved w (edge_bit v fill) (number (take 0 (edge_bits v b))) (edge_bits v a))
first_stage nodes w fill a b word p below = record {
  grows = grows_refl nodes;
  edges = subst (λ (es : List Edge). AllBelow (length nodes) es) (sym p) below;
  is = λ v val. ap (edge_bits v) p ∙ sym (moved_none w (edge_bit v fill) (edge_bits v a));
}

-- the choice of one stage
pub gives_stage : (old new : Nodes) (w : Way) (fill c : Edge) (a far_edges slice es : List Edge) (far : ℕ) → far_edges ≡ moved w fill far a → slice ≡ far_edges → GivesBits old new es (λ v. zip_bits (λ x y. if edge_bit v c then x else y) (edge_bits v slice) (edge_bits v a)) → GivesBits old new es (λ v. if edge_bit v c then moved w (edge_bit v fill) far (edge_bits v a) else edge_bits v a)
gives_stage old new w fill c a far_edges slice es far p q g = record {
  grows = g.grows;
  edges = g.edges;
  is = λ v val.
      let m : edge_bits v slice ≡ moved w (edge_bit v fill) far (edge_bits v a) = ap (edge_bits v) (q ∙ p) ∙ bits_moved v w fill far a in
      let len : length (moved w (edge_bit v fill) far (edge_bits v a)) ≡ length (edge_bits v a) = length_moved w (edge_bit v fill) far (edge_bits v a) in
      g.is v val ∙
      (ap (λ (bs : List Bool). zip_bits (λ x y. if edge_bit v c then x else y) bs (edge_bits v a)) m ∙
      choice_bits (edge_bit v c) (moved w (edge_bit v fill) far (edge_bits v a)) (edge_bits v a) len);
}

all_by : (w : Way) (k f : Bool) (n low high s : ℕ) (xs ys : List Bool) → k ≡ not (high == 0) → n ≡ high * 2 ^ s + low → ys ≡ moved w f low xs → (0 < high → length xs ≤ 2 ^ s) → (if k then replicate (length xs) f else ys) ≡ moved w f n xs
all_by w k f n low high s xs ys pk pn py far = elim (cases_lt 0 high) [
  | inl some ↦
      let t : not (high == 0) ≡ true = grind (arith, nat_tests) in
      let m : 2 ^ s * 1 ≤ 2 ^ s * high = mul-le-mul_left (2 ^ s) some in
      ap (λ (b : Bool). if b then replicate (length xs) f else ys) (pk ∙ t) ∙ sym (moved_far w f n xs (omega (arith, far some, m, pn)))
  | inr none ↦
      let z : high ≡ 0 = omega arith in
      let t : not (high == 0) ≡ false = ap (λ (h : ℕ). not (h == 0)) z in
      let e : low ≡ n = omega (arith, pn, ap (λ (h : ℕ). h * 2 ^ s) z) in
      ap (λ (b : Bool). if b then replicate (length xs) f else ys) (pk ∙ t) ∙ (py ∙ ap (λ (j : ℕ). moved w f j xs) e)
]

-- all stages, and the bits that move everything out
pub gives_shift : (old m n new : Nodes) (w : Way) (fill any : Edge) (a b low high near slice_near gone slice_gone es : List Edge) (s : ℕ) → low ≡ take s b → high ≡ drop s b → s ≤ length b → gone ≡ replicate (length a) fill → slice_gone ≡ gone → slice_near ≡ near → (s < length b → length a ≤ 2 ^ s) → GivesBits old m near (λ v. moved w (edge_bit v fill) (number (edge_bits v low)) (edge_bits v a)) → Gives m n any (λ v. fold_bits (λ x y. x || y) false (edge_bits v high)) → GivesBits n new es (λ v. zip_bits (λ x y. if edge_bit v any then x else y) (edge_bits v slice_gone) (edge_bits v slice_near)) → GivesBits old new es (λ v. moved w (edge_bit v fill) (number (edge_bits v b)) (edge_bits v a))
gives_shift old m n new w fill any a b low high near slice_near gone slice_gone es s pl ph within pg psg psn far g h k = record {
  grows = grows_trans old m new g.grows (grows_trans m n new h.grows k.grows);
  edges = k.edges;
  is = λ v val.
      let at_n : IsValuation n v = valuation_back n new v k.grows val in
      let at_m : IsValuation m v = valuation_back m n v h.grows at_n in
      let inside : s ≤ length (edge_bits v b) = omega (arith, bits_length v b) in
      let low_bits : edge_bits v low ≡ take s (edge_bits v b) = ap (edge_bits v) pl ∙ sym (take-map (edge_bit v) s b) in
      let high_bits : edge_bits v high ≡ drop s (edge_bits v b) = ap (edge_bits v) ph ∙ sym (drop-map (edge_bit v) s b) in
      let near_bits : edge_bits v slice_near ≡ moved w (edge_bit v fill) (number (take s (edge_bits v b))) (edge_bits v a) =
      ap (edge_bits v) psn ∙ (g.is v at_m ∙ ap (λ (bs : List Bool). moved w (edge_bit v fill) (number bs) (edge_bits v a)) low_bits) in
      let gone_bits : edge_bits v slice_gone ≡ replicate (length (edge_bits v a)) (edge_bit v fill) =
      ap (edge_bits v) (psg ∙ pg) ∙ (bits_replicate v (length a) fill ∙ ap (λ (j : ℕ). replicate j (edge_bit v fill)) (sym (bits_length v a))) in
      let any_bit : edge_bit v any ≡ not (number (drop s (edge_bits v b)) == 0) = h.is v at_n ∙ (any_set (edge_bits v high) ∙ ap (λ (bs : List Bool). not (number bs == 0)) high_bits) in
      let reach : 0 < number (drop s (edge_bits v b)) → length (edge_bits v a) ≤ 2 ^ s = λ some. elim (cases_lt s (length b)) [
        | inl less ↦ omega (arith, far less, bits_length v a)
        | inr ge ↦ let z : number (drop s (edge_bits v b)) ≡ 0 = ap number (drop_all s (edge_bits v b) (omega (arith, bits_length v b))) in absurd (omega arith)
      ] in
      let len : length (replicate (length (edge_bits v a)) (edge_bit v fill)) ≡ length (moved w (edge_bit v fill) (number (take s (edge_bits v b))) (edge_bits v a)) =
      length-replicate (length (edge_bits v a)) (edge_bit v fill) ∙ sym (length_moved w (edge_bit v fill) (number (take s (edge_bits v b))) (edge_bits v a)) in
      k.is v val ∙
      (ap (λ (bs : List Bool). zip_bits (λ x y. if edge_bit v any then x else y) bs (edge_bits v slice_near)) gone_bits ∙
      (ap (λ (bs : List Bool). zip_bits (λ x y. if edge_bit v any then x else y) (replicate (length (edge_bits v a)) (edge_bit v fill)) bs) near_bits ∙
      (choice_bits (edge_bit v any) (replicate (length (edge_bits v a)) (edge_bit v fill)) (moved w (edge_bit v fill) (number (take s (edge_bits v b))) (edge_bits v a)) len ∙
      all_by w (edge_bit v any) (edge_bit v fill) (number (edge_bits v b)) (number (take s (edge_bits v b))) (number (drop s (edge_bits v b))) s (edge_bits v a) (moved w (edge_bit v fill) (number (take s (edge_bits v b))) (edge_bits v a)) any_bit (parts s (edge_bits v b) inside) refl reach)));
}

pub replicate_more : (n : ℕ) (e : Edge) → replicate n e ++ e ∷ [] ≡ replicate (n + 1) e
replicate_more n e = replicate-append-replicate n 1 e

pub below_replicate : (bound n : ℕ) (e : Edge) → e.node < bound → AllBelow bound (replicate n e)
below_replicate bound zero e h i lt = absurd (omega arith)
below_replicate bound (suc n) e h zero lt = h
below_replicate bound (suc n) e h (suc i) lt = below_replicate bound n e h i (omega arith)

pub below_take : (bound n : ℕ) (es : List Edge) → n ≤ length es → AllBelow bound es → AllBelow bound (take n es)
below_take bound n es h below i lt =
    let len : length (take n es) ≡ n = length-take-le n es h in
    subst (λ (x : Edge). x.node < bound) (sym (get_or-take n es i zero_edge (omega (arith, len)))) (below i (omega (arith, len)))

pub below_drop : (bound n : ℕ) (es : List Edge) → AllBelow bound es → AllBelow bound (drop n es)
below_drop bound n es below i lt = subst (λ (x : Edge). x.node < bound) (sym (get_or-drop n es i zero_edge)) (below (n + i) (omega (arith, length-drop n es)))

pub below_same : (bound : ℕ) (es es' : List Edge) → es' ≡ es → AllBelow bound es → AllBelow bound es'
below_same bound es es' p below = subst (λ (xs : List Edge). AllBelow bound xs) (sym p) below

pub below_append : (bound : ℕ) (xs ys : List Edge) → AllBelow bound xs → AllBelow bound ys → AllBelow bound (xs ++ ys)
below_append bound xs ys hx hy i lt = elim (cases_lt i (length xs)) [
  | inl less ↦ subst (λ (x : Edge). x.node < bound) (sym (get_or-append xs ys zero_edge i less)) (hx i less)
  | inr ge ↦ subst (λ (x : Edge). x.node < bound) (sym (get_or-append_right xs ys i zero_edge ge)) (hy (i - length xs) (omega (arith, length-append xs ys)))
]
