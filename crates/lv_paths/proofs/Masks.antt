-- Tables in which one mask changes, and logs of what is new.
use Rattle.std.proofs.Common.{◌≡◌, ℕ, zero, suc, ◌+◌, ◌%◌, ◌<◌, Bool, true, false, not, cond, ◌&&◌, ◌||◌, ◌==◌, List, [], ◌∷◌, ◌++◌, Option, Some, unwrap_or, bit_and, bit_or, bit_xor, refl, sym, ◌∙◌, ap, arith, append_assoc}
use Rattle.std.specs.Prelude.{if◌then◌else◌}
use Rattle.std.specs.Int.{bit_at}
use Rattle.std.proofs.lemmas.Bool.Decides.{nat_tests}
use Rattle.std.proofs.lemmas.Nat.Bits.{bit_at_xor, bit_at-lt}
use Rattle.lv_source.proofs.Summaries.{any-join, append-none}
use Rattle.lv_spans.specs.declared.span.Span.{Span}
use Rattle.lv_spans.specs.Sets.{Cell, Masks, entry_at, own_at, is_set}
use Rattle.lv_spans.proofs.Bits.{is_set-and, is_set-or, is_set-zero}
use Rattle.lv_spans.proofs.Cells.{same-cell}
use Rattle.lv_spans.proofs.Added.{hits}
use Rattle.lv_paths.specs.Bits.{holds, is_of, cells_have, some_span, IsLogged}
use Rattle.lv_paths.proofs.Lists.{or-false, or-shift, and-false}

-- ---- masks

xor-bits : (x y : ℕ) → x < 2 → y < 2 → ((x + y) % 2 == 1) ≡ (if x == 1 then not (y == 1) else (y == 1))
xor-bits zero zero p q = refl
xor-bits zero (suc zero) p q = refl
xor-bits (suc zero) zero p q = refl
xor-bits (suc zero) (suc zero) p q = refl
xor-bits (suc (suc x)) y p q = absurd (omega arith)
xor-bits x (suc (suc y)) p q = absurd (omega arith)

is_set-xor : (a b i : ℕ) → is_set (bit_xor a b) i ≡ (if is_set a i then not (is_set b i) else is_set b i)
is_set-xor a b i = ap (λ x. x == 1) (bit_at_xor a b i) ∙ xor-bits (bit_at a i) (bit_at b i) (bit_at-lt a i) (bit_at-lt b i)

taken : (a b : Bool) → (if a then not (a && b) else (a && b)) ≡ (a && not b)
taken true b = refl
taken false b = refl

fresh : (a b : Bool) → (if (a || b) then not a else a) ≡ (b && not a)
fresh true true = refl
fresh true false = refl
fresh false true = refl
fresh false false = refl

-- the bits of a that b lacks
pub bits-left : (a b i : ℕ) → is_set (bit_xor a (bit_and a b)) i ≡ (is_set a i && not (is_set b i))
bits-left a b i = is_set-xor a (bit_and a b) i ∙ (ap (λ u. if is_set a i then not u else u) (is_set-and a b i) ∙ taken (is_set a i) (is_set b i))

-- the bits of b that a lacks
pub bits-new : (a b i : ℕ) → is_set (bit_xor (bit_or a b) a) i ≡ (is_set b i && not (is_set a i))
bits-new a b i = is_set-xor (bit_or a b) a i ∙ (ap (λ u. if u then not (is_set a i) else is_set a i) (is_set-or a b i) ∙ fresh (is_set a i) (is_set b i))

-- ---- tables

abbrev pub Puts : Masks → Masks → Cell → ℕ → Type 0
Puts m n k v = (q : Cell) → entry_at n q ≡ cond (hits k q) (Some v) (entry_at m q)

last : (a : Bool) → a ≡ (a && true)
last true = refl
last false = refl

module _ (m n : Masks) (s : ℕ) (el : Option ℕ) (mask v : ℕ) (w : v ≡ bit_xor (own_at m (s, el)) (bit_and (own_at m (s, el)) mask)) (u : Puts m n (s, el) v) where
  one : (q : Cell) (i : ℕ) (t : Bool) → hits (s, el) q ≡ t → holds n q i ≡ (holds m q i && not (t && is_set mask i))
  one q i true h =
      ap (λ o. is_set (unwrap_or o 0) i) (u q ∙ ap (λ c. cond c (Some v) (entry_at m q)) h) ∙
      (ap (λ x. is_set x i) w ∙ (bits-left (own_at m (s, el)) mask i ∙ ap (λ (c : Cell). holds m c i && not (is_set mask i)) (same-cell (s, el) q h)))
  one q i false h = ap (λ o. is_set (unwrap_or o 0) i) (u q ∙ ap (λ c. cond c (Some v) (entry_at m q)) h) ∙ last (holds m q i)

  pub taken-holds : (q : Cell) (i : ℕ) → holds n q i ≡ (holds m q i && not (hits (s, el) q && is_set mask i))
  taken-holds q i = one q i (hits (s, el) q) refl

-- ---- what is new

zero-of : (n : ℕ) → (n == 0) ≡ true → n ≡ 0
zero-of n h = grind (arith, nat_tests)

-- a span without a bit is left out
some-has : (s : Span) (q : Cell) (i : ℕ) → cells_have (some_span s) q i ≡ is_of s q i
some-has s q i = by (s.mask == 0) refl
  where
    by : (u : Bool) → (s.mask == 0) ≡ u → cells_have (some_span s) q i ≡ is_of s q i
    by true e =
        ap (λ u. cells_have (if u then [] else s ∷ []) q i) e ∙
        sym (ap (λ n. hits (s.signal, s.element) q && is_set n i) (zero-of s.mask e) ∙ (ap (λ u. hits (s.signal, s.element) q && u) (is_set-zero i) ∙ and-false (hits (s.signal, s.element) q)))
    by false e = ap (λ u. cells_have (if u then [] else s ∷ []) q i) e ∙ or-false (is_of s q i)

new-bit : (h b t : Bool) → (h || (t && b)) ≡ (h || (t && (b && not h)))
new-bit true b t = refl
new-bit false true true = refl
new-bit false false true = refl
new-bit false b false = refl

new-apart : (h b t : Bool) → (h && (t && (b && not h))) ≡ false
new-apart true true true = refl
new-apart true false true = refl
new-apart true b false = refl
new-apart false b t = refl

module _ (m : Masks) (s : Span) (new : ℕ) (e : new ≡ bit_xor (bit_or (own_at m (s.signal, s.element)) s.mask) (own_at m (s.signal, s.element))) where
  abbrev fresh_span : Span
  fresh_span = record { signal = s.signal; element = s.element; mask = new }

  abbrev k : Cell
  k = (s.signal, s.element)

  under : (q : Cell) (i : ℕ) (t : Bool) → hits k q ≡ t → (t && is_set new i) ≡ (t && (is_set s.mask i && not (holds m q i)))
  under q i true h =
      ap (λ x. is_set x i) e ∙ (bits-new (own_at m k) s.mask i ∙ ap (λ (c : Cell). is_set s.mask i && not (holds m c i)) (same-cell k q h))
  under q i false h = refl

  of-new : (q : Cell) (i : ℕ) → cells_have (some_span fresh_span) q i ≡ (hits k q && (is_set s.mask i && not (holds m q i)))
  of-new q i = some-has fresh_span q i ∙ under q i (hits k q) refl

  pub logged-one : (n : Masks) (old log : List Span) → ((q : Cell) (i : ℕ) → holds n q i ≡ (holds m q i || is_of s q i)) → log ≡ old ++ some_span fresh_span → IsLogged m n old log
  logged-one n old log h l = record {
    more = some_span fresh_span;
    same = l;
    all = λ q i. h q i ∙ (new-bit (holds m q i) (is_set s.mask i) (hits k q) ∙ ap (λ u. holds m q i || u) (sym (of-new q i)));
    apart = λ q i. ap (λ u. holds m q i && u) (of-new q i) ∙ new-apart (holds m q i) (is_set s.mask i) (hits k q);
  }

pub logged-none : (m : Masks) (x : List Span) → IsLogged m m x x
logged-none m x = record { more = []; same = sym (append-none x); all = λ q i. sym (or-false (holds m q i)); apart = λ q i. and-false (holds m q i) }

apart-both : (a b c d : Bool) → b ≡ (a || c) → (a && c) ≡ false → (b && d) ≡ false → (a && (c || d)) ≡ false
apart-both true true true d e f g = cc
apart-both true true false d e f g = g
apart-both true false c d e f g = cc
apart-both false b c d e f g = refl

pub logged-then : {a b c : Masks} {x y z : List Span} → IsLogged a b x y → IsLogged b c y z → IsLogged a c x z
logged-then {a} {b} {c} {x} {y} {z} p r = record {
  more = p.more ++ r.more;
  same = r.same ∙ (ap (λ l. l ++ r.more) p.same ∙ append_assoc x p.more r.more);
  all = λ q i.
      r.all q i ∙ (ap (λ u. u || cells_have r.more q i) (p.all q i) ∙
      (or-shift (holds a q i) (cells_have p.more q i) (cells_have r.more q i) ∙ ap (λ u. holds a q i || u) (sym (any-join (λ (s : Span). is_of s q i) p.more r.more))));
  apart = λ q i.
      ap (λ u. holds a q i && u) (any-join (λ (s : Span). is_of s q i) p.more r.more) ∙
      apart-both (holds a q i) (holds b q i) (cells_have p.more q i) (cells_have r.more q i) (p.all q i) (p.apart q i) (r.apart q i);
}

-- ---- bits taken away, span by span

taken-bits : (h t b g : Bool) → g ≡ (h && not t) → (g && not b) ≡ (h && not (t || b))
taken-bits true true b g e = ap (λ u. u && not b) e
taken-bits true false b g e = ap (λ u. u && not b) e
taken-bits false t b g e = ap (λ u. u && not b) e

pub taken-step : (h t b g n a : Bool) → n ≡ (g && not b) → a ≡ (t || b) → g ≡ (h && not t) → n ≡ (h && not a)
taken-step h t b g n a e f k = e ∙ (taken-bits h t b g k ∙ ap (λ u. h && not u) (sym f))

pub taken-start : (h : Bool) → h ≡ (h && not false)
taken-start true = refl
taken-start false = refl

-- ---- the bits of spans that are done

kept-bits : (c h t b : Bool) → ((c && h) || (t && (b && h))) ≡ ((c || (t && b)) && h)
kept-bits true true t b = refl
kept-bits true false true true = refl
kept-bits true false true false = refl
kept-bits true false false b = refl
kept-bits false true true true = refl
kept-bits false true true false = refl
kept-bits false true false b = refl
kept-bits false false true true = refl
kept-bits false false true false = refl
kept-bits false false false b = refl

module _ (m : Masks) (s : Span) (mask : ℕ) (e : mask ≡ bit_and s.mask (own_at m (s.signal, s.element))) where
  under-kept : (q : Cell) (i : ℕ) (t : Bool) → hits (s.signal, s.element) q ≡ t → (t && is_set mask i) ≡ (t && (is_set s.mask i && holds m q i))
  under-kept q i true h =
      ap (λ x. is_set x i) e ∙ (is_set-and s.mask (own_at m (s.signal, s.element)) i ∙ ap (λ (c : Cell). is_set s.mask i && holds m c i) (same-cell (s.signal, s.element) q h))
  under-kept q i false h = refl

  -- with one span more
  pub kept-step : (old new : List Span) (q : Cell) (i : ℕ) (c a : Bool) → new ≡ old ++ some_span (record { signal = s.signal; element = s.element; mask = mask }) → a ≡ (c || is_of s q i) →
      cells_have old q i ≡ (c && holds m q i) → cells_have new q i ≡ (a && holds m q i)
  kept-step old new q i c a f g h =
      let rest : Span = record { signal = s.signal; element = s.element; mask = mask } in
      ap (λ xs. cells_have xs q i) f ∙ (any-join (λ (x : Span). is_of x q i) old (some_span rest) ∙
      (ap (λ u. u || cells_have (some_span rest) q i) h ∙ (ap (λ u. (c && holds m q i) || u) (some-has rest q i ∙ under-kept q i (hits (s.signal, s.element) q) refl) ∙
      (kept-bits c (holds m q i) (hits (s.signal, s.element) q) (is_set s.mask i) ∙ ap (λ u. u && holds m q i) (sym g)))))
