-- What writing the same bits leaves of two valuations.
use Rattle.std.proofs.Common.{◌≡◌, ◌⊎◌, inl, inr, ℕ, suc, ◌+◌, ◌-◌, ◌*◌, ◌/◌, ◌%◌, ◌^◌, ◌<◌, ◌≤◌, true, false, ◌==◌, List, [], ◌∷◌, length, refl, sym, ap, ◌∙◌, arith, subst, Option, Some, None}
use Rattle.std.specs.Prelude.{flat_map, bytes_eq, if◌then◌else◌}
use Rattle.std.proofs.lemmas.Bool.{eqb-true, eq-eqb, cases_lt}
use Rattle.std.proofs.lemmas.Nat.{pow_pos, shr_split}
use Rattle.std.proofs.lemmas.Nat.Bits.{bit_at_cat_low, bit_at_cat_high, bit_at-suc}
use Rattle.std.proofs.lemmas.Nat.{pow-add}
use Rattle.lv_ast.specs.Names.{Name}
use Rattle.lv_source.specs.Names.{Valuation}
use Rattle.lv_source.specs.Places.{Bit, Place, bit_at, has_bit, same_bit, some_bit, place_bits, set_bit, write_bits, write}
use Rattle.lv_source.specs.Effect.{write_all, bits_in}
use Rattle.lv_source.proofs.Tests.{or-split, and-left, and-right, any-split, same_name, name-itself}

abbrev pub bit_of : ℕ → ℕ → ℕ
bit_of a j = a / 2 ^ j % 2

-- ---- one bit of a number

above : ℕ → ℕ → ℕ → ℕ
above a k x = a / 2 ^ (k + 1) * 2 + x

set_as_cat : (a k x : ℕ) → set_bit a k x ≡ above a k x * 2 ^ k + a % 2 ^ k
unfolding above
set_as_cat a k x =
    let e : 2 ^ (k + 1) ≡ 2 ^ k * 2 = pow-add 2 k 1 in
    rw e (grind arith)

low_mod : (a k j : ℕ) → j < k → bit_of (a % 2 ^ k) j ≡ bit_of a j
low_mod a k j h = sym (bit_at_cat_low (a / 2 ^ k) k (a % 2 ^ k) j h) ∙ ap (λ n. bit_of n j) (shr_split a k)

high_div : (a k j : ℕ) → k ≤ j → bit_of (a / 2 ^ k) (j - k) ≡ bit_of a j
high_div a k j h = sym (bit_at_cat_high (a / 2 ^ k) k (a % 2 ^ k) j (omega (arith, pow_pos k)) h) ∙ ap (λ n. bit_of n j) (shr_split a k)

set_low : (a k x j : ℕ) → j < k → bit_of (set_bit a k x) j ≡ bit_of a j
set_low a k x j h = ap (λ n. bit_of n j) (set_as_cat a k x) ∙ (bit_at_cat_low (above a k x) k (a % 2 ^ k) j h ∙ low_mod a k j h)

set_from : (a k x j : ℕ) → k ≤ j → bit_of (set_bit a k x) j ≡ bit_of (above a k x) (j - k)
set_from a k x j h = ap (λ n. bit_of n j) (set_as_cat a k x) ∙ bit_at_cat_high (above a k x) k (a % 2 ^ k) j (omega (arith, pow_pos k)) h

lowest_is : (a k x : ℕ) → x < 2 → bit_of (above a k x) 0 ≡ x
unfolding above
lowest_is a k x h = omega arith

set_same : (a k x : ℕ) → x < 2 → bit_of (set_bit a k x) k ≡ x
set_same a k x h = set_from a k x k (omega arith) ∙ (let e : k - k ≡ 0 = omega arith in ap (bit_of (above a k x)) e ∙ lowest_is a k x h)

half_above : (a k x : ℕ) → x < 2 → above a k x / 2 ≡ a / 2 ^ (k + 1)
unfolding above
half_above a k x h = omega arith

set_high : (a k x j : ℕ) → x < 2 → k < j → bit_of (set_bit a k x) j ≡ bit_of a j
set_high a k x j h g =
    let e : j - k ≡ suc (j - (k + 1)) = omega arith in
    set_from a k x j (omega arith) ∙ (ap (bit_of (above a k x)) e ∙ (bit_at-suc (above a k x) (j - (k + 1)) ∙
    (ap (λ n. bit_of n (j - (k + 1))) (half_above a k x h) ∙ high_div a (k + 1) j (omega arith))))

pub set_other : (a k x j : ℕ) → x < 2 → (j < k) ⊎ (k < j) → bit_of (set_bit a k x) j ≡ bit_of a j
set_other a k x j h (inl g) = set_low a k x j g
set_other a k x j h (inr g) = set_high a k x j h g

pub apart : (j k : ℕ) → (j ≡ k) ⊎ ((j < k) ⊎ (k < j))
apart j k = elim (j == k) as (λ c. (j == k) ≡ c → (j ≡ k) ⊎ ((j < k) ⊎ (k < j))) [
  | true ↦ λ e. inl (eqb-true j k e)
  | false ↦ λ e. elim (cases_lt j k) [
    | inl h ↦ inr (inl h)
    | inr h ↦ elim (cases_lt k j) [ inl g ↦ inr (inr g) | inr g ↦ absurd (let s : (j == k) ≡ true = eq-eqb j k (omega arith) in cc) ]
  ]
] refl

not_apart : (j k : ℕ) → j ≡ k → (j < k) ⊎ (k < j) → ⊥
not_apart j k e (inl h) = omega arith
not_apart j k e (inr h) = omega arith

-- both have the same bit, or it is written
abbrev pub Settles : List Bit → Bit → ℕ → ℕ → Type 0
Settles bs b x y = (x ≡ y) ⊎ (has_bit bs b ≡ true)

bits_settle : (name : Name) (j : ℕ) (bits : List (Option ℕ)) (x a a' : ℕ) →
    Settles (flat_map (some_bit name) bits) (record { name = name; place = j }) (bit_of a j) (bit_of a' j) →
    bit_of (write_bits a bits x) j ≡ bit_of (write_bits a' bits x) j
bits_settle name j [] x a a' (inl h) = h
bits_settle name j [] x a a' (inr h) = cc
bits_settle name j (None ∷ ks) x a a' h = bits_settle name j ks (x / 2) a a' h
bits_settle name j (Some k ∷ ks) x a a' h =
    let b : Bit = record { name = name; place = j } in
    let c : Bit = record { name = name; place = k } in
    let y : x % 2 < 2 = omega arith in
    bits_settle name j ks (x / 2) (set_bit a k (x % 2)) (set_bit a' k (x % 2)) (elim (apart j k) [
      | inl e ↦ inl (subst (λ (i : ℕ). bit_of (set_bit a k (x % 2)) i ≡ bit_of (set_bit a' k (x % 2)) i) (sym e) (set_same a k (x % 2) y ∙ sym (set_same a' k (x % 2) y)))
      | inr o ↦ elim h [
        | inl e ↦ inl (set_other a k (x % 2) j y o ∙ (e ∙ sym (set_other a' k (x % 2) j y o)))
        | inr m ↦ elim (or-split (same_bit b c) (has_bit (flat_map (some_bit name) ks) b) m) [
          | inl s ↦ absurd (not_apart j k (eqb-true j k (and-left (j == k) (bytes_eq name name) s)) o)
          | inr s ↦ inr s
        ]
      ]
    ])

-- ---- names

named_by : (name : Name) (bits : List (Option ℕ)) (b : Bit) → has_bit (flat_map (some_bit name) bits) b ≡ true → b.name ≡ name
named_by name [] b h = cc
named_by name (None ∷ ks) b h = named_by name ks b h
named_by name (Some k ∷ ks) b h =
    let c : Bit = record { name = name; place = k } in
    elim (or-split (same_bit b c) (has_bit (flat_map (some_bit name) ks) b) h) [
      | inl s ↦ same_name b.name name (and-right (b.place == k) (bytes_eq b.name name) s)
      | inr s ↦ named_by name ks b s
    ]

write_settles : (v w : Valuation) (p : Place) (x : ℕ) (b : Bit) → Settles (place_bits p) b (bit_at v b) (bit_at w b) → bit_at (write v p x) b ≡ bit_at (write w p x) b
write_settles v w p x b h =
    elim (bytes_eq b.name p.name) as (λ c. bytes_eq b.name p.name ≡ c →
    bit_of (if c then write_bits (v b.name) p.bits x else v b.name) b.place ≡ bit_of (if c then write_bits (w b.name) p.bits x else w b.name) b.place) [
      | true ↦ λ e. bits_settle b.name b.place p.bits x (v b.name) (w b.name)
          (elim h [ inl k ↦ inl k | inr k ↦ inr (ap (λ n. has_bit (flat_map (some_bit n) p.bits) b) (same_name b.name p.name e) ∙ k) ])
      | false ↦ λ e. elim h [
        | inl k ↦ k
        | inr k ↦ absurd (
            let s : bytes_eq b.name p.name ≡ true = ap (λ n. bytes_eq b.name n) (sym (named_by p.name p.bits b k)) ∙ name-itself b.name in cc)
      ]
    ] refl

abbrev pub all_bits_of : List Place → List Bit
all_bits_of ps = flat_map place_bits ps

pub writes_settle : (ps : List Place) (x : ℕ) (v w : Valuation) (b : Bit) → Settles (all_bits_of ps) b (bit_at v b) (bit_at w b) →
    bit_at (write_all v ps x) b ≡ bit_at (write_all w ps x) b
writes_settle [] x v w b (inl h) = h
writes_settle [] x v w b (inr h) = cc
writes_settle (p ∷ ps) x v w b h =
    let y : ℕ = x / 2 ^ bits_in ps % 2 ^ length p.bits in
    writes_settle ps x (write v p y) (write w p y) b (elim h [
      | inl e ↦ inl (write_settles v w p y b (inl e))
      | inr m ↦ elim (any-split (same_bit b) (place_bits p) (all_bits_of ps) m) [ inl k ↦ inl (write_settles v w p y b (inr k)) | inr k ↦ inr k ]
    ])
