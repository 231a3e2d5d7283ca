-- The value of an expression depends on the bits that it reads alone, and that of a constant one on nothing.
use Rattle.std.proofs.Common.{◌≡◌, ℕ, ◌+◌, ◌*◌, ◌^◌, ◌-◌, max, Bool, true, false, ◌&&◌, ◌==◌, List, [], ◌∷◌, ◌++◌, map, refl, ap, ◌∙◌, Option, Some, None}
use Rattle.std.specs.Prelude.{pos, negsuc, ◌-ℤ◌, decimal}
use Rattle.lv_bits.specs.Values.{signed_of}
use Rattle.lv_ast.specs.Names.{Name, at_index}
use Rattle.lv_source.specs.Names.{low, high}
use Rattle.lv_source.specs.Places.{within}
use Rattle.std.specs.Prelude.{flat_map, if◌then◌else◌, ℤ}
use Rattle.std.specs.List.{list_all}
use Rattle.lv_bits.specs.declared.op.Op.{Op}
use Rattle.lv_bits.specs.Values.{extended, unary_value, binary_value}
use Rattle.lv_ast.specs.declared.expr.Expr.TheOpen.{Select-F}
use Rattle.lv_source.specs.Names.{Declared, Bounds, Valuation}
use Rattle.lv_source.specs.Values.{Meaning, own_value, nowhere, plain, one_bit, shift, arithmetic, logical, compared, chosen, replicated, divided, joined, repeated, widths, number_of}
use Rattle.lv_source.specs.Places.{Bit, Place, bit_at, has_bit, place_bits, some_bit, place_of, place_by, element, bits_of, bits_from, lowest, count_of, read, read_bits, nowhere_place}
use Rattle.lv_source.specs.Meaning.{Reading, Choice, reading, index_reads, all_constant, meant, parts_of}
use Rattle.lv_source.proofs.Tests.{and-left, and-right, any-left, any-right, has-head}
use Rattle.lv_source.proofs.Each.{Each}

-- ---- bits that two valuations share

abbrev pub Same : (Bit → Bool) → Valuation → Valuation → Type 0
Same A v w = (b : Bit) → A b ≡ true → bit_at v b ≡ bit_at w b

pub same-left : (xs ys : List Bit) (v w : Valuation) → Same (has_bit (xs ++ ys)) v w → Same (has_bit xs) v w
same-left xs ys v w h b k = h b (any-left _ xs ys k)

pub same-right : (xs ys : List Bit) (v w : Valuation) → Same (has_bit (xs ++ ys)) v w → Same (has_bit ys) v w
same-right xs ys v w h b k = h b (any-right _ xs ys k)

-- ---- faithful readings

-- the value is the same in both, at each width and sign
abbrev pub Equal : Valuation → Valuation → Meaning → Type 0
Equal v w m = (W : ℕ) (T : Bool) → m.value W T v ≡ m.value W T w

pub record Faithful (r : Reading) : Type 0 where
  pub same : (v w : Valuation) → Same (has_bit r.reads) v w → Equal v w r.meaning
  pub fixed : r.constant ≡ true → (v w : Valuation) → Equal v w r.meaning

abbrev pub FaithfulChoice : Choice → Type 0
FaithfulChoice c = Each Faithful (parts_of c)

-- ---- nodes

pub unary_equal : (v w : Valuation) (op : Op) (a : Meaning) (k : Bool) → Equal v w a → (W : ℕ) (T : Bool) →
    (if k then (let m : Meaning = record { width = a.width; signed = a.signed; value = λ W T v. unary_value op W (a.value W T v) } in m) else one_bit (λ v. unary_value op a.width (own_value a v))).value W T v ≡
    (if k then (let m : Meaning = record { width = a.width; signed = a.signed; value = λ W T v. unary_value op W (a.value W T v) } in m) else one_bit (λ v. unary_value op a.width (own_value a v))).value W T w
unary_equal v w op a true h W T = ap (λ x. unary_value op W x) (h W T)
unary_equal v w op a false h W T = ap (λ x. extended T 1 W (unary_value op a.width x)) (h a.width a.signed)

two_equal : (f : ℕ → ℕ → ℕ) (x y x' y' : ℕ) → x ≡ x' → y ≡ y' → f x y ≡ f x' y'
two_equal f x y x' y' h k = ap (λ z. f z y) h ∙ ap (λ z. f x' z) k

pub binary_equal : (v w : Valuation) (op : Op) (a b : Meaning) (k j : Bool) → Equal v w a → Equal v w b → (W : ℕ) (T : Bool) →
    (if k then (if j then shift op a b else arithmetic op a b) else (if j then logical op a b else compared op a b)).value W T v ≡
    (if k then (if j then shift op a b else arithmetic op a b) else (if j then logical op a b else compared op a b)).value W T w
binary_equal v w op a b true true h i W T = two_equal (binary_value op T W) _ _ _ _ (h W T) (i b.width b.signed)
binary_equal v w op a b true false h i W T = two_equal (binary_value op T W) _ _ _ _ (h W T) (i W T)
binary_equal v w op a b false true h i W T = two_equal (λ x y. extended T 1 W (binary_value op false a.width x y)) _ _ _ _ (h a.width a.signed) (i b.width b.signed)
binary_equal v w op a b false false h i W T =
    two_equal (λ x y. extended T 1 W (binary_value op (a.signed && b.signed) (max a.width b.width) x y)) _ _ _ _ (h (max a.width b.width) (a.signed && b.signed)) (i (max a.width b.width) (a.signed && b.signed))

pub divided_equal : (v w : Valuation) (f : Bool → ℕ → ℕ → ℕ → ℕ) (a b : Meaning) → Equal v w a → Equal v w b → Equal v w (divided f a b)
divided_equal v w f a b h i W T = two_equal (f T W) _ _ _ _ (h W T) (i W T)

if_equal : (x x' a a' b b' : ℕ) → x ≡ x' → a ≡ a' → b ≡ b' → (if x == 0 then b else a) ≡ (if x' == 0 then b' else a')
if_equal x x' a a' b b' h i j = ap (λ z. if z == 0 then b else a) h ∙ (ap (λ z. if x' == 0 then b else z) i ∙ ap (λ z. if x' == 0 then z else a') j)

pub chosen_equal : (v w : Valuation) (c a b : Meaning) → Equal v w c → Equal v w a → Equal v w b → Equal v w (chosen c a b)
chosen_equal v w c a b h i j W T = if_equal _ _ _ _ _ _ (h c.width c.signed) (i W T) (j W T)

pub joined_equal : (v w : Valuation) (ms : List Meaning) → Each (Equal v w) ms → joined v ms ≡ joined w ms
joined_equal v w [] h = refl
joined_equal v w (m ∷ ms) h = two_equal (λ x y. x * 2 ^ widths ms + y) _ _ _ _ (h.0 m.width m.signed) (joined_equal v w ms h.1)

pub replicated_equal : (v w : Valuation) (n : Meaning) (ms : List Meaning) → Each (Equal v w) ms → Equal v w (replicated n ms)
replicated_equal v w n ms h W T = ap (λ x. extended T (own_value n nowhere * widths ms) W (repeated (own_value n nowhere) (widths ms) x)) (joined_equal v w ms h)

pub plain_equal : (v w : Valuation) (n : ℕ) (signed : Bool) (f : Valuation → ℕ) → f v ≡ f w → Equal v w (plain n signed f)
plain_equal v w n signed f h W T = ap (λ x. extended T n W x) h

-- ---- what stands below a node

abbrev pub all_reads : List Reading → List Bit
all_reads rs = flat_map (λ r. r.reads) rs

each_equal : (v w : Valuation) (rs : List Reading) → Each Faithful rs → Same (has_bit (all_reads rs)) v w → Each (λ (r : Reading). Equal v w r.meaning) rs
each_equal v w [] h s = tt
each_equal v w (r ∷ rs) h s = (h.0.same v w (same-left r.reads (all_reads rs) v w s), each_equal v w rs h.1 (same-right r.reads (all_reads rs) v w s))

each_fixed : (v w : Valuation) (rs : List Reading) → Each Faithful rs → list_all (λ (r : Reading). r.constant) rs ≡ true → Each (λ (r : Reading). Equal v w r.meaning) rs
each_fixed v w [] h k = tt
each_fixed v w (r ∷ rs) h k =
    (h.0.fixed (and-left r.constant (list_all (λ (r : Reading). r.constant) rs) k) v w, each_fixed v w rs h.1 (and-right r.constant (list_all (λ (r : Reading). r.constant) rs) k))

pub reading_faithful : (m : Meaning) (rs : List Reading) → Each Faithful rs → ((v w : Valuation) → Each (λ (r : Reading). Equal v w r.meaning) rs → Equal v w m) → Faithful (reading m rs)
reading_faithful m rs h f = record { same = λ v w s. f v w (each_equal v w rs h s); fixed = λ k v w. f v w (each_fixed v w rs h k) }

-- ---- names

abbrev pub EqualChoice : Valuation → Valuation → Choice → Type 0
EqualChoice v w c = Each (λ (r : Reading). Equal v w r.meaning) (parts_of c)

number_equal : (v w : Valuation) (m : Meaning) → Equal v w m → number_of m v ≡ number_of m w
number_equal v w m h = ap (λ x. if m.signed then signed_of m.width x else pos x) (h m.width m.signed)

lowest_equal : (v w : Valuation) (c : Choice) → EqualChoice v w c → lowest (meant c) v ≡ lowest (meant c) w
lowest_equal v w (Select-F.Bit a) h = number_equal v w a.meaning h.0
lowest_equal v w (Select-F.Part a b) h = refl
lowest_equal v w (Select-F.Up a b) h = number_equal v w a.meaning h.0
lowest_equal v w (Select-F.Down a b) h = ap (λ z. z -ℤ pos (own_value b.meaning nowhere - 1)) (number_equal v w a.meaning h.0)

bits_equal : (v w : Valuation) (d : Declared) (cs : List Choice) → Each (EqualChoice v w) cs → bits_of d (map meant cs) v ≡ bits_of d (map meant cs) w
bits_equal v w d [] h = refl
bits_equal v w d (c ∷ cs) h = ap (λ z. bits_from d.bounds z (count_of (meant c))) (lowest_equal v w c h.0)

element_equal : (v w : Valuation) (d : Declared) (b : Bounds) (z : ℤ) (cs : List Choice) → Each (EqualChoice v w) cs →
    element d b z (map meant cs) v ≡ element d b z (map meant cs) w
element_equal v w d b (negsuc i) cs h = ap nowhere_place (bits_equal v w d cs h)
element_equal v w d b (pos i) cs h =
    ap (λ (bits : List (Option ℕ)). if within (low b) (high b) i then (let p : Place = record { name = at_index d.path (decimal i); bits = bits } in p) else nowhere_place bits) (bits_equal v w d cs h)

place_by_equal : (v w : Valuation) (o : Option Bounds) (d : Declared) (cs : List Choice) → Each (EqualChoice v w) cs → place_by o d (map meant cs) v ≡ place_by o d (map meant cs) w
place_by_equal v w None d cs h = ap (λ (bits : List (Option ℕ)). let p : Place = record { name = d.path; bits = bits } in p) (bits_equal v w d cs h)
place_by_equal v w (Some b) d [] h = refl
place_by_equal v w (Some b) d (c ∷ cs) h =
    ap (λ z. element d b z (map meant cs) v) (lowest_equal v w c h.0) ∙ element_equal v w d b (lowest (meant c) w) cs h.1

-- a name with selects stands for the same bits in both
pub place_equal : (v w : Valuation) (d : Declared) (cs : List Choice) → Each (EqualChoice v w) cs → place_of d (map meant cs) v ≡ place_of d (map meant cs) w
place_equal v w d cs h = place_by_equal v w d.array d cs h

-- where all is constant
pub choices_fixed : (v w : Valuation) (cs : List Choice) → Each FaithfulChoice cs → all_constant cs ≡ true → Each (EqualChoice v w) cs
choices_fixed v w [] h k = tt
choices_fixed v w (c ∷ cs) h k = (
  each_fixed v w (parts_of c) h.0 (and-left (list_all (λ (r : Reading). r.constant) (parts_of c)) (all_constant cs) k),
  choices_fixed v w cs h.1 (and-right (list_all (λ (r : Reading). r.constant) (parts_of c)) (all_constant cs) k),
)

-- where the bits that the indices read are the same
pub choices_equal : (v w : Valuation) (cs : List Choice) → Each FaithfulChoice cs → Same (has_bit (index_reads cs)) v w → Each (EqualChoice v w) cs
choices_equal v w [] h s = tt
choices_equal v w (c ∷ cs) h s =
    (each_equal v w (parts_of c) h.0 (same-left (all_reads (parts_of c)) (index_reads cs) v w s), choices_equal v w cs h.1 (same-right (all_reads (parts_of c)) (index_reads cs) v w s))

read_bits_equal : (v w : Valuation) (name : Name) (bits : List (Option ℕ)) → Same (has_bit (flat_map (some_bit name) bits)) v w → read_bits (v name) bits ≡ read_bits (w name) bits
read_bits_equal v w name [] s = refl
read_bits_equal v w name (None ∷ ks) s = ap (λ x. 2 * x) (read_bits_equal v w name ks s)
read_bits_equal v w name (Some k ∷ ks) s =
    let b : Bit = record { name = name; place = k } in
    two_equal (λ x y. x + 2 * y) _ _ _ _ (s b (has-head b (flat_map (some_bit name) ks))) (read_bits_equal v w name ks (same-right (b ∷ []) (flat_map (some_bit name) ks) v w s))

pub read_equal : (v w : Valuation) (p : Place) → Same (has_bit (place_bits p)) v w → read v p ≡ read w p
read_equal v w p s = read_bits_equal v w p.name p.bits s
