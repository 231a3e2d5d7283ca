-- A value at a width is below the power of that width, and what can't carry is its own value, extended.
use Rattle.std.proofs.Common.{◌≡◌, ℕ, zero, suc, ◌+◌, ◌-◌, ◌*◌, ◌/◌, ◌%◌, ◌^◌, ◌<◌, ◌≤◌, max, Bool, true, false, ◌&&◌, not, ◌==◌, List, [], ◌∷◌, map, length, refl, sym, ap, ◌∙◌, arith, subst, Option, Some, None}
use Rattle.std.specs.Prelude.{if◌then◌else◌, ℤ, pos, negsuc, nat_lt, int_div, int_rem}
use Rattle.std.proofs.lemmas.Nat.{pow_pos, or_lt, xor_lt}
use Rattle.std.specs.Int.Bits.{and_lt}
use Rattle.std.proofs.Math.Nat.{div-le_self}
use Rattle.std.proofs.lemmas.Bool.Decides.{nat_tests}
use Rattle.std.proofs.lemmas.List.Sums.{sum_by-cons}
use Rattle.lv_bits.specs.declared.op.Op.{Op}
use Rattle.lv_bits.specs.declared.op.Op.TheVariants.{Neg, Not, LogNot, RedAnd, RedOr, RedXor, Add, Sub, Mul, Shl, Shr, Sar, Lt, Le, Gt, Ge, Eq, Ne, And, Or, Xor, Xnor, LogAnd, LogOr}
use Rattle.lv_bits.specs.Values.{bit, signed_of, extended, unary_value, binary_value, keeps_width, is_apart}
use Rattle.lv_bits.proofs.Shifts.{filled_fits, pow_le, join_lt}
use Rattle.lv_ast.specs.declared.expr.Expr.{Expr}
use Rattle.lv_ast.specs.declared.expr.Expr.TheVariants as x
use Rattle.lv_ast.specs.Trees.{fold_one}
use Rattle.lv_source.specs.Flow.{is_extended}
use Rattle.std.proofs.Common.{pow-suc}
use Rattle.std.specs.Prelude.{reverse, ◌+ℤ◌, decimal}
use Rattle.std.proofs.lemmas.List.{length-map, length-reverse}
use Rattle.lv_ast.specs.Names.{at_index}
use Rattle.lv_source.specs.Names.{Bounds, low, high, width_of}
use Rattle.lv_source.specs.Values.{Chosen}
use Rattle.lv_source.specs.Places.{rising, falls, bit_place, lowest, count_of, nowhere_place, element, within, place_by}
use Rattle.lv_ast.specs.declared.expr.Expr.TheOpen.{Expr-F}
use Rattle.lv_source.specs.Names.{Names, Declared, Valuation, known}
use Rattle.lv_source.specs.Values.{Meaning, nowhere, size_of, plain, one_bit, shift, arithmetic, logical, compared, chosen, quotient, remainder, wrapped, own_value, joined, repeated, widths}
use Rattle.lv_source.specs.Places.{Place, place_of, bits_of, read_bits, held, read, bit_selects, all_bits, bits_from}
use Rattle.lv_source.specs.Meaning.{Reading, Choice, meanings, named, meant, read_step, choice, read_expr}
use Rattle.lv_source.proofs.Each.{Each}
use Rattle.lv_source.proofs.Induction.{Below, of_expr}

pub record Fits (m : Meaning) : Type 0 where
  pub fits : (W : ℕ) (T : Bool) (v : Valuation) → m.width ≤ W → m.value W T v < 2 ^ W

-- ---- operators

wrap : (x w : ℕ) → x % 2 ^ w < 2 ^ w
wrap x w = omega (arith, pow_pos w)

bit_lt : (b : Bool) → bit b < 2
bit_lt true = omega arith
bit_lt false = omega arith

unary_kept : (op : Op) (W a : ℕ) → a < 2 ^ W → keeps_width op ≡ true → unary_value op W a < 2 ^ W
unary_kept Neg W a h k = wrap (2 ^ W - a) W
unary_kept Not W a h k = omega (arith, pow_pos W)
unary_kept LogNot W a h k = cc
unary_kept RedAnd W a h k = cc
unary_kept RedOr W a h k = cc
unary_kept RedXor W a h k = cc
unary_kept _ W a h k = pow_pos W

unary_bit : (op : Op) (w a : ℕ) → keeps_width op ≡ false → unary_value op w a < 2
unary_bit Neg w a k = cc
unary_bit Not w a k = cc
unary_bit LogNot w a k = bit_lt (a == 0)
unary_bit RedAnd w a k = bit_lt (a == 2 ^ w - 1)
unary_bit RedOr w a k = bit_lt (not (a == 0))
unary_bit RedXor w a k = omega arith
unary_bit _ w a k = omega arith

binary_kept : (op : Op) (signed : Bool) (W a b : ℕ) → a < 2 ^ W → (is_apart op ≡ false → b < 2 ^ W) → keeps_width op ≡ true → binary_value op signed W a b < 2 ^ W
binary_kept Add s W a b h i k = wrap (a + b) W
binary_kept Sub s W a b h i k = wrap (a + (2 ^ W - b)) W
binary_kept Mul s W a b h i k = wrap (a * b) W
binary_kept Shl s W a b h i k = wrap (a * 2 ^ b) W
binary_kept Shr s W a b h i k = omega (arith, div-le_self a (2 ^ b))
binary_kept Sar s W a b h i k = filled_fits s W a b h
binary_kept And s W a b h i k = and_lt W a b h (i refl)
binary_kept Or s W a b h i k = or_lt W a b h (i refl)
binary_kept Xor s W a b h i k = xor_lt W a b h (i refl)
binary_kept Xnor s W a b h i k = omega (arith, pow_pos W)
binary_kept Lt s W a b h i k = cc
binary_kept Le s W a b h i k = cc
binary_kept Gt s W a b h i k = cc
binary_kept Ge s W a b h i k = cc
binary_kept Eq s W a b h i k = cc
binary_kept Ne s W a b h i k = cc
binary_kept LogAnd s W a b h i k = cc
binary_kept LogOr s W a b h i k = cc
binary_kept _ s W a b h i k = pow_pos W

binary_bit : (op : Op) (signed : Bool) (w a b : ℕ) → keeps_width op ≡ false → binary_value op signed w a b < 2
binary_bit Add s w a b k = cc
binary_bit Sub s w a b k = cc
binary_bit Mul s w a b k = cc
binary_bit Shl s w a b k = cc
binary_bit Shr s w a b k = cc
binary_bit Sar s w a b k = cc
binary_bit And s w a b k = cc
binary_bit Or s w a b k = cc
binary_bit Xor s w a b k = cc
binary_bit Xnor s w a b k = cc
binary_bit Lt s w a b k = bit_lt _
binary_bit Le s w a b k = bit_lt _
binary_bit Gt s w a b k = bit_lt _
binary_bit Ge s w a b k = bit_lt _
binary_bit Eq s w a b k = bit_lt _
binary_bit Ne s w a b k = bit_lt _
binary_bit LogAnd s w a b k = bit_lt _
binary_bit LogOr s w a b k = bit_lt _
binary_bit _ s w a b k = omega arith

-- ---- nodes

extended_lt : (T : Bool) (w W x : ℕ) → w ≤ W → x < 2 ^ w → extended T w W x < 2 ^ W
extended_lt T w W x h k = grind (arith, pow_le w W h, nat_tests)

plain_fits : (w : ℕ) (signed : Bool) (f : Valuation → ℕ) → ((v : Valuation) → f v < 2 ^ w) → Fits (plain w signed f)
plain_fits w signed f h = record { fits = λ W T v k. extended_lt T w W (f v) k (h v) }

bit_fits : (f : Valuation → ℕ) → ((v : Valuation) → f v < 2) → Fits (one_bit f)
bit_fits f h = plain_fits 1 false f (λ v. (let x : f v < 2 = h v in omega arith))

pub own_fits : (m : Meaning) → Fits m → (v : Valuation) → own_value m v < 2 ^ m.width
own_fits m h v = h.fits m.width m.signed v (let e : m.width ≤ m.width = omega arith in e)

unary_fits : (op : Op) (a : Meaning) → Fits a → (k : Bool) → keeps_width op ≡ k →
    Fits (if k then (let m : Meaning = record { width = a.width; signed = a.signed; value = λ W T v. unary_value op W (a.value W T v) } in m) else one_bit (λ v. unary_value op a.width (own_value a v)))
unary_fits op a h true e = record { fits = λ W T v k. unary_kept op W (a.value W T v) (h.fits W T v k) e }
unary_fits op a h false e = bit_fits (λ v. unary_value op a.width (own_value a v)) (λ v. unary_bit op a.width (own_value a v) e)

binary_fits : (op : Op) (a b : Meaning) → Fits a → Fits b → (k j : Bool) → keeps_width op ≡ k → is_apart op ≡ j →
    Fits (if k then (if j then shift op a b else arithmetic op a b) else (if j then logical op a b else compared op a b))
binary_fits op a b h i true true e f = record { fits = λ W T v k. binary_kept op T W (a.value W T v) (own_value b v) (h.fits W T v k) (λ g. absurd (cc)) e }
binary_fits op a b h i true false e f =
    record { fits = λ W T v k. binary_kept op T W (a.value W T v) (b.value W T v) (h.fits W T v (omega arith)) (λ g. i.fits W T v (omega arith)) e }
binary_fits op a b h i false true e f = bit_fits _ (λ v. binary_bit op false a.width (own_value a v) (own_value b v) e)
binary_fits op a b h i false false e f =
    let w : ℕ = max a.width b.width in
    let s : Bool = a.signed && b.signed in
    bit_fits _ (λ v. binary_bit op s w (a.value w s v) (b.value w s v) e)

wrapped_lt : (w : ℕ) (z : ℤ) → wrapped w z < 2 ^ w
wrapped_lt w (pos n) = wrap n w
wrapped_lt w (negsuc n) = wrap (2 ^ w - suc n % 2 ^ w) w

mod_le : (a b : ℕ) → a % b ≤ a
mod_le a b = elim b [ zero ↦ omega arith | suc n ↦ omega arith ]

quotient_lt : (s : Bool) (w a b : ℕ) → a < 2 ^ w → quotient s w a b < 2 ^ w
quotient_lt s w a b h = elim (b == 0) as (λ (c : Bool). (if c then 0 else if s then wrapped w (int_div (signed_of w a) (signed_of w b)) else a / b) < 2 ^ w) [
  | true ↦ pow_pos w
  | false ↦ elim s as (λ (c : Bool). (if c then wrapped w (int_div (signed_of w a) (signed_of w b)) else a / b) < 2 ^ w) [
    | true ↦ wrapped_lt w (int_div (signed_of w a) (signed_of w b))
    | false ↦ omega (arith, div-le_self a b)
  ]
]

remainder_lt : (s : Bool) (w a b : ℕ) → a < 2 ^ w → remainder s w a b < 2 ^ w
remainder_lt s w a b h = elim (b == 0) as (λ (c : Bool). (if c then 0 else if s then wrapped w (int_rem (signed_of w a) (signed_of w b)) else a % b) < 2 ^ w) [
  | true ↦ pow_pos w
  | false ↦ elim s as (λ (c : Bool). (if c then wrapped w (int_rem (signed_of w a) (signed_of w b)) else a % b) < 2 ^ w) [
    | true ↦ wrapped_lt w (int_rem (signed_of w a) (signed_of w b))
    | false ↦ omega (arith, mod_le a b)
  ]
]

if_lt : (c : Bool) (a b n : ℕ) → a < n → b < n → (if c then b else a) < n
if_lt true a b n h k = k
if_lt false a b n h k = h

chosen_fits : (c a b : Meaning) → Fits a → Fits b → Fits (chosen c a b)
chosen_fits c a b h i =
    record { fits = λ W T v k. if_lt (own_value c v == 0) (a.value W T v) (b.value W T v) (2 ^ W) (h.fits W T v (omega arith)) (i.fits W T v (omega arith)) }

widths-cons : (m : Meaning) (ms : List Meaning) → widths (m ∷ ms) ≡ m.width + widths ms
widths-cons m ms = sum_by-cons (λ (k : ℕ). k) m.width (map (λ m. m.width) ms)

joined_lt : (ms : List Meaning) → Each Fits ms → (v : Valuation) → joined v ms < 2 ^ widths ms
joined_lt [] h v = omega (arith, pow_pos 0)
joined_lt (m ∷ ms) h v =
    subst (λ (k : ℕ). own_value m v * 2 ^ widths ms + joined v ms < 2 ^ k) (sym (widths-cons m ms))
    (join_lt (own_value m v) (joined v ms) m.width (widths ms) (own_fits m h.0 v) (joined_lt ms h.1 v))

repeated_lt : (n w a : ℕ) → a < 2 ^ w → repeated n w a < 2 ^ (n * w)
repeated_lt zero w a h = pow_pos (zero * w)
repeated_lt (suc n) w a h =
    let e : n * w + w ≡ suc n * w = grind arith in
    subst (λ (k : ℕ). repeated n w a * 2 ^ w + a < 2 ^ k) e (join_lt (repeated n w a) a (n * w) w (repeated_lt n w a h) h)

at_more : (x w W : ℕ) → x < 2 ^ w → w ≤ W → x < 2 ^ W
at_more x w W h k = omega (arith, pow_le w W k)

read_bits_lt : (a : ℕ) (bits : List (Option ℕ)) → read_bits a bits < 2 ^ length bits
read_bits_lt a [] = omega (arith, pow_pos 0)
read_bits_lt a (None ∷ ks) = let h : read_bits a ks < 2 ^ length ks = read_bits_lt a ks in rw pow-suc (omega arith)
read_bits_lt a (Some k ∷ ks) = let h : read_bits a ks < 2 ^ length ks = read_bits_lt a ks in rw pow-suc (omega arith)

-- ---- names

rising_length : (z : ℤ) (n : ℕ) → length (rising z n) ≡ n
rising_length z zero = refl
rising_length z (suc n) = ap suc (rising_length (z +ℤ pos 1) n)

from_length : (b : Bounds) (z : ℤ) (n : ℕ) → length (bits_from b z n) ≡ n
from_length b z n = elim (falls b) as (λ c. length (map (bit_place b) (if c then rising z n else reverse (rising z n))) ≡ n) [
  | true ↦ length-map (rising z n) (bit_place b) ∙ rising_length z n
  | false ↦ length-map (reverse (rising z n)) (bit_place b) ∙ (length-reverse (rising z n) ∙ rising_length z n)
]

bits_length : (d : Declared) (ss : List Chosen) (v w : Valuation) → length (bits_of d ss v) ≡ length (bits_of d ss w)
bits_length d [] v w = refl
bits_length d (s ∷ ss) v w = from_length d.bounds (lowest s v) (count_of s) ∙ sym (from_length d.bounds (lowest s w) (count_of s))

none_length : (bits : List (Option ℕ)) → length (nowhere_place bits).bits ≡ length bits
none_length bits = length-map bits (λ k. None)

element_length : (d : Declared) (b : Bounds) (z : ℤ) (ss : List Chosen) (v w : Valuation) → length (element d b z ss v).bits ≡ length (bits_of d ss w)
element_length d b (negsuc i) ss v w = none_length (bits_of d ss v) ∙ bits_length d ss v w
element_length d b (pos i) ss v w =
    elim (within (low b) (high b) i) as (λ c. length (if c then (let p : Place = record { name = at_index d.path (decimal i); bits = bits_of d ss v } in p) else nowhere_place (bits_of d ss v)).bits ≡ length (bits_of d ss w)) [
      | true ↦ bits_length d ss v w
      | false ↦ none_length (bits_of d ss v) ∙ bits_length d ss v w
    ]

place_by_length : (o : Option Bounds) (d : Declared) (ss : List Chosen) (v w : Valuation) → length (place_by o d ss v).bits ≡ length (bits_of d (bit_selects o ss) w)
place_by_length None d ss v w = bits_length d ss v w
place_by_length (Some b) d [] v w = none_length (all_bits (width_of d))
place_by_length (Some b) d (s ∷ ss) v w = element_length d b (lowest s v) ss v w

named_fits : (d : Declared) (cs : List Choice) → Fits (named d cs).meaning
named_fits d cs =
    plain_fits (named d cs).meaning.width (named d cs).meaning.signed (λ v. read (held d.sort v) (place_of d (map meant cs) v))
    (λ v. subst (λ (k : ℕ). read (held d.sort v) (place_of d (map meant cs) v) < 2 ^ k) (place_by_length d.array d (map meant cs) v nowhere)
    (read_bits_lt (held d.sort v (place_of d (map meant cs) v).name) (place_of d (map meant cs) v).bits))

-- ---- expressions

abbrev FitsReading : Reading → Type 0
FitsReading r = Fits r.meaning

abbrev NoDemand : Choice → Type 0
NoDemand c = Unit {0}

meanings_fit : (rs : List Reading) → Each FitsReading rs → Each Fits (meanings rs)
meanings_fit [] h = tt
meanings_fit (r ∷ rs) h = (h.0, meanings_fit rs h.1)

node_fits : (names : Names) (x : Expr-F Reading Choice) → Below FitsReading NoDemand x → FitsReading (read_step names x)
node_fits names (Expr-F.Lit l) h = plain_fits (size_of l.size) l.signed (λ v. l.value % 2 ^ size_of l.size) (λ v. wrap l.value (size_of l.size))
node_fits names (Expr-F.Name path cs) h = named_fits (known (names path)) cs
node_fits names (Expr-F.Un op a) h = unary_fits op a.meaning h (keeps_width op) refl
node_fits names (Expr-F.Bin op a b) h = binary_fits op a.meaning b.meaning h.0 h.1 (keeps_width op) (is_apart op) refl refl
node_fits names (Expr-F.Div a b) h = record { fits = λ W T v k. quotient_lt T W (a.meaning.value W T v) (b.meaning.value W T v) (h.0.fits W T v (omega arith)) }
node_fits names (Expr-F.Rem a b) h = record { fits = λ W T v k. remainder_lt T W (a.meaning.value W T v) (b.meaning.value W T v) (h.0.fits W T v (omega arith)) }
node_fits names (Expr-F.Cond c a b) h = chosen_fits c.meaning a.meaning b.meaning h.1 h.2
node_fits names (Expr-F.Cat rs) h = plain_fits (widths (meanings rs)) false (λ v. joined v (meanings rs)) (λ v. joined_lt (meanings rs) (meanings_fit rs h) v)
node_fits names (Expr-F.Rep n rs) h =
    let count : ℕ = own_value n.meaning nowhere in
    plain_fits (count * widths (meanings rs)) false (λ v. repeated count (widths (meanings rs)) (joined v (meanings rs)))
    (λ v. repeated_lt count (widths (meanings rs)) (joined v (meanings rs)) (joined_lt (meanings rs) (meanings_fit rs h.1) v))
node_fits names (Expr-F.Cast signed a) h = plain_fits a.meaning.width signed (own_value a.meaning) (own_fits a.meaning h)

pub fits : (names : Names) (e : Expr) → Fits (read_expr names e).meaning
unfolding read_expr
fits names e = of_expr Reading Choice (read_step names) choice FitsReading NoDemand (node_fits names) (λ s h. tt) e

-- ---- what can't carry

pub record Extends (m : Meaning) : Type 0 where
  pub extends : (W : ℕ) (T : Bool) (v : Valuation) → (T ≡ true → m.signed ≡ true) → m.value W T v ≡ extended T m.width W (own_value m v)

pub at_own : (T : Bool) (w x : ℕ) → extended T w w x ≡ x
at_own T w x = elim (T && not (nat_lt x (2 ^ (w - 1)))) as (λ c. (if c then x + (2 ^ w - 2 ^ w) else x) ≡ x) [ true ↦ omega arith | false ↦ refl ]

plain_extends : (w : ℕ) (signed : Bool) (f : Valuation → ℕ) → Extends (plain w signed f)
plain_extends w signed f = record { extends = λ W T v k. ap (λ x. extended T w W x) (sym (at_own signed w (f v))) }

unsigned_extends : (w W x : ℕ) (T : Bool) → (T ≡ true → false ≡ true) → x ≡ extended T w W x
unsigned_extends w W x true h = absurd (let e : false ≡ true = h refl in cc)
unsigned_extends w W x false h = refl

bit_extends : (f : Valuation → ℕ) → Extends (one_bit f)
bit_extends f = plain_extends 1 false f

unary_extends : (op : Op) (a : Meaning) (k : Bool) → not k ≡ true →
    Extends (if k then (let m : Meaning = record { width = a.width; signed = a.signed; value = λ W T v. unary_value op W (a.value W T v) } in m) else one_bit (λ v. unary_value op a.width (own_value a v)))
unary_extends op a true h = absurd (cc)
unary_extends op a false h = bit_extends (λ v. unary_value op a.width (own_value a v))

binary_extends : (op : Op) (a b : Meaning) (k j : Bool) → not k ≡ true →
    Extends (if k then (if j then shift op a b else arithmetic op a b) else (if j then logical op a b else compared op a b))
binary_extends op a b true j h = absurd (cc)
binary_extends op a b false true h = bit_extends (λ v. binary_value op false a.width (own_value a v) (own_value b v))
binary_extends op a b false false h = bit_extends _

-- a literal, name, concatenation, replication, cast, comparison, logical operator or reduction
pub extends : (names : Names) (e : Expr) → is_extended e ≡ true → Extends (read_expr names e).meaning
unfolding read_expr
extends names (x.Lit l) h = plain_extends (size_of l.size) l.signed (λ v. l.value % 2 ^ size_of l.size)
extends names (x.Name' path n ss) h = plain_extends _ _ _
extends names (x.Cat' n es) h = plain_extends _ _ _
extends names (x.Rep' n a m es) h = plain_extends _ _ _
extends names (x.Cast' signed n a) h = plain_extends _ _ _
extends names (x.Un' op n a) h = unary_extends op (fold_one Reading Choice (read_step names) choice a).meaning (keeps_width op) h
extends names (x.Bin' op n a m b) h = binary_extends op (fold_one Reading Choice (read_step names) choice a).meaning (fold_one Reading Choice (read_step names) choice b).meaning (keeps_width op) (is_apart op) h
extends names (x.Div' n a m b) h = absurd (cc)
extends names (x.Rem' n a m b) h = absurd (cc)
extends names (x.Cond' n c m a k b) h = absurd (cc)
