-- Words of two states, of the inputs of some cycles and of a truth value, joined and taken apart.
use Rattle.std.proofs.Common.{◌≡◌, ℕ, zero, suc, ◌+◌, ◌*◌, ◌<◌, ◌^◌, ◌==◌, not, Bool, true, false, List, [], ◌∷◌, ◌++◌, length, map, take, drop, get_or, refl, sym, ◌∙◌, ap, subst, arith}
use Rattle.std.specs.List.{AllByRecursion}
use Rattle.std.specs.Prelude.{None}
use Rattle.std.proofs.Math.ListN.{get_or-map}
use Rattle.std.proofs.Math.Nat.{suc-mul}
use Rattle.std.proofs.Math.Seq.{get_or-append_seam, take-append_seam, drop-append_seam}
use Rattle.std.proofs.lemmas.List.{append_assoc, length-append, length-map, map-append, drop-drop, ext_get_or}
use Rattle.lv_bits.specs.Words.{Bits}
use Rattle.lv_bits.specs.Values.{bit}
use Rattle.lv_netlist.specs.Net.{Net, register_width}
use Rattle.lv_netlist.specs.Run.{bits_at, no_bits}
use Rattle.lv_netlist.specs.Fits.{FitsInputs, FitsState, AreWords}
use Rattle.lv_netlist.specs.declared.node.Register.{Register}
use Rattle.lv_netlist.specs.Queries.{register_widths, port_widths, repeated, product_widths, left_of, right_of, pieces, cycles_in, aligned_in}
use Rattle.lv_bits.specs.Digits.{widths_of}
use Rattle.lv_bits.proofs.Digits.{HoldWords, hold_append}
use Rattle.lv_blast.proofs.Words.{hold_from, widths_are}

-- words of one state, of one cycle's inputs
abbrev pub IsStateOf : Net → List Bits → Type 0
IsStateOf net state = FitsState net state × AreWords state

abbrev pub IsInputOf : Net → List Bits → Type 0
IsInputOf net inputs = FitsInputs net inputs × AreWords inputs

pub state_widths : (net : Net) (xs : List Bits) → FitsState net xs → widths_of xs ≡ register_widths net
state_widths net xs h =
    ext_get_or 0 (widths_of xs) (register_widths net)
    (length-map xs (λ (x : Bits). x.width) ∙ (h.count ∙ sym (length-map net.registers (λ (r : List ℕ × Register). r.1.width))))
    (λ i lt.
    let same : length (widths_of xs) ≡ length xs = length-map xs (λ (x : Bits). x.width) in
    let l : get_or (widths_of xs) i 0 ≡ (bits_at xs i).width = get_or-map (λ (x : Bits). x.width) xs i no_bits in
    let r : get_or (register_widths net) i 0 ≡ register_width net i = get_or-map (λ (r : List ℕ × Register). r.1.width) net.registers i ([], record { width = 0; next = None }) in
    l ∙ (h.widths i (omega (arith, same, h.count)) ∙ sym r))

abbrev pub flat : List (List Bits) → List Bits
flat [] = []
flat (i ∷ is) = i ++ flat is

abbrev pub truth_word : Bool → Bits
truth_word a = record { width = 1; value = bit a }

-- the words, joined
abbrev pub joined : List Bits → List Bits → List (List Bits) → Bool → List Bits
joined l r is a = l ++ (r ++ (flat is ++ truth_word a ∷ []))

flat_widths : (net : Net) (is : List (List Bits)) → AllByRecursion (IsInputOf net) is → widths_of (flat is) ≡ repeated (length is) (port_widths net)
flat_widths net [] h = refl
flat_widths net (i ∷ is) h =
    let e : widths_of i ≡ port_widths net = widths_are net i h.0.0 in
    let f : widths_of (flat is) ≡ repeated (length is) (port_widths net) = flat_widths net is h.1 in
    map-append (λ (x : Bits). x.width) i (flat is) ∙ (ap (λ (ws : List ℕ). ws ++ widths_of (flat is)) e ∙ ap (λ (ws : List ℕ). port_widths net ++ ws) f)

hold_flat : (net : Net) (is : List (List Bits)) → AllByRecursion (IsInputOf net) is → HoldWords (flat is)
hold_flat net [] h = tt
hold_flat net (i ∷ is) h = hold_append i (flat is) (hold_from i h.0.1) (hold_flat net is h.1)

bit_fits : (a : Bool) → bit a < 2
bit_fits true = omega arith
bit_fits false = omega arith

pub joined_holds : (net : Net) (l r : List Bits) (is : List (List Bits)) (a : Bool) → IsStateOf net l → IsStateOf net r → AllByRecursion (IsInputOf net) is → HoldWords (joined l r is a)
joined_holds net l r is a hl hr hi =
    hold_append l (r ++ (flat is ++ truth_word a ∷ [])) (hold_from l hl.1)
    (hold_append r (flat is ++ truth_word a ∷ []) (hold_from r hr.1)
    (hold_append (flat is) (truth_word a ∷ []) (hold_flat net is hi) (bit_fits a, tt)))

pub joined_widths : (net : Net) (l r : List Bits) (is : List (List Bits)) (a : Bool) (n : ℕ) → IsStateOf net l → IsStateOf net r → AllByRecursion (IsInputOf net) is → length is ≡ n →
    widths_of (joined l r is a) ≡ product_widths net n
joined_widths net l r is a n hl hr hi count =
    let w : Bits → ℕ = λ x. x.width in
    let rest : List Bits = flat is ++ truth_word a ∷ [] in
    let el : widths_of l ≡ register_widths net = state_widths net l hl.0 in
    let er : widths_of r ≡ register_widths net = state_widths net r hr.0 in
    let ei : widths_of (flat is) ≡ repeated n (port_widths net) = flat_widths net is hi ∙ ap (λ (m : ℕ). repeated m (port_widths net)) count in
    let a1 : widths_of (joined l r is a) ≡ widths_of l ++ widths_of (r ++ rest) = map-append w l (r ++ rest) in
    let a2 : widths_of (r ++ rest) ≡ widths_of r ++ widths_of rest = map-append w r rest in
    let a3 : widths_of rest ≡ widths_of (flat is) ++ 1 ∷ [] = map-append w (flat is) (truth_word a ∷ []) in
    let g1 : register_widths net ++ register_widths net ++ repeated n (port_widths net) ++ 1 ∷ [] ≡ register_widths net ++ register_widths net ++ (repeated n (port_widths net) ++ 1 ∷ []) = append_assoc (register_widths net ++ register_widths net) (repeated n (port_widths net)) (1 ∷ []) in
    let g2 : register_widths net ++ register_widths net ++ (repeated n (port_widths net) ++ 1 ∷ []) ≡ register_widths net ++ (register_widths net ++ (repeated n (port_widths net) ++ 1 ∷ [])) = append_assoc (register_widths net) (register_widths net) (repeated n (port_widths net) ++ 1 ∷ []) in
    cc

pub left_part : (net : Net) (l rest : List Bits) → length l ≡ length net.registers → left_of net (l ++ rest) ≡ l
left_part net l rest e = subst (λ (k : ℕ). take k (l ++ rest) ≡ l) e (take-append_seam l rest)

rest_part : (n : ℕ) (l rest : List Bits) → length l ≡ n → drop n (l ++ rest) ≡ rest
rest_part n l rest e = subst (λ (k : ℕ). drop k (l ++ rest) ≡ rest) e (drop-append_seam l rest)

pub right_part : (net : Net) (l r rest : List Bits) → length l ≡ length net.registers → length r ≡ length net.registers → right_of net (l ++ (r ++ rest)) ≡ r
right_part net l r rest el er = ap (λ (xs : List Bits). take (length net.registers) xs) (rest_part (length net.registers) l (r ++ rest) el) ∙ left_part net r rest er

two_parts : (n : ℕ) (l r rest : List Bits) → length l ≡ n → length r ≡ n → drop (n + n) (l ++ (r ++ rest)) ≡ rest
two_parts n l r rest el er = sym (drop-drop n n (l ++ (r ++ rest))) ∙ (ap (drop n) (rest_part n l (r ++ rest) el) ∙ rest_part n r rest er)

pieces_part : (n : ℕ) (is : List (List Bits)) (rest : List Bits) → AllByRecursion (λ (i : List Bits). length i ≡ n) is → pieces n (length is) (flat is ++ rest) ≡ is
pieces_part n [] rest h = refl
pieces_part n (i ∷ is) rest h =
    let g : i ++ flat is ++ rest ≡ i ++ (flat is ++ rest) = append_assoc i (flat is) rest in
    let t : take n (i ++ (flat is ++ rest)) ≡ i = subst (λ (k : ℕ). take k (i ++ (flat is ++ rest)) ≡ i) h.0 (take-append_seam i (flat is ++ rest)) in
    let d : drop n (i ++ (flat is ++ rest)) ≡ flat is ++ rest = rest_part n i (flat is ++ rest) h.0 in
    let ih : pieces n (length is) (flat is ++ rest) ≡ is = pieces_part n is rest h.1 in
    ap (λ (xs : List Bits). take n xs ∷ pieces n (length is) (drop n xs)) g ∙
    (ap (λ (x : List Bits). x ∷ pieces n (length is) (drop n (i ++ (flat is ++ rest)))) t ∙ ap (λ (xs : List (List Bits)). i ∷ xs) (ap (pieces n (length is)) d ∙ ih))

flat_length : (n : ℕ) (is : List (List Bits)) → AllByRecursion (λ (i : List Bits). length i ≡ n) is → length (flat is) ≡ length is * n
flat_length n [] h = omega arith
flat_length n (i ∷ is) h = omega (arith, length-append i (flat is), h.0, flat_length n is h.1, suc-mul (length is) n)

counts : (net : Net) (is : List (List Bits)) → AllByRecursion (IsInputOf net) is → AllByRecursion (λ (i : List Bits). length i ≡ length net.inputs) is
counts net [] h = tt
counts net (i ∷ is) h = (h.0.0.count, counts net is h.1)

pub cycles_part : (net : Net) (l r : List Bits) (is : List (List Bits)) (a : Bool) (n : ℕ) → IsStateOf net l → IsStateOf net r → AllByRecursion (IsInputOf net) is → length is ≡ n →
    cycles_in net n (joined l r is a) ≡ is
cycles_part net l r is a n hl hr hi count =
    let m : ℕ = length net.inputs in
    let rest : List Bits = flat is ++ truth_word a ∷ [] in
    ap (pieces m n) (two_parts (length net.registers) l r rest hl.0.count hr.0.count) ∙
    subst (λ (k : ℕ). pieces m k rest ≡ is) count (pieces_part m is (truth_word a ∷ []) (counts net is hi))

bit_back : (a : Bool) → not (bit a == 0) ≡ a
bit_back true = refl
bit_back false = refl

pub aligned_part : (net : Net) (l r : List Bits) (is : List (List Bits)) (a : Bool) (n : ℕ) → IsStateOf net l → IsStateOf net r → AllByRecursion (IsInputOf net) is → length is ≡ n →
    aligned_in net n (joined l r is a) ≡ a
aligned_part net l r is a n hl hr hi count =
    let m : ℕ = length net.inputs in
    let s : ℕ = length net.registers in
    let pre : List Bits = l ++ (r ++ flat is) in
    let fl : length (flat is) ≡ length is * m = flat_length m is (counts net is hi) in
    let k : length (flat is) ≡ n * m = fl ∙ ap (λ (x : ℕ). x * m) count in
    let len : s + s + n * m ≡ length pre = omega (arith, k, length-append l (r ++ flat is), length-append r (flat is), hl.0.count, hr.0.count) in
    let g : joined l r is a ≡ pre ++ truth_word a ∷ [] =
    ap (λ (xs : List Bits). l ++ xs) (sym (append_assoc r (flat is) (truth_word a ∷ []))) ∙ sym (append_assoc l (r ++ flat is) (truth_word a ∷ [])) in
    let at : bits_at (joined l r is a) (s + s + n * m) ≡ truth_word a =
    ap (λ (xs : List Bits). bits_at xs (s + s + n * m)) g ∙ (ap (λ (j : ℕ). bits_at (pre ++ truth_word a ∷ []) j) len ∙ get_or-append_seam pre (truth_word a) [] no_bits) in
    ap (λ (x : Bits). not (x.value == 0)) at ∙ bit_back a
