-- Tables by cells: what is found under a key.
use Rattle.std.proofs.Common.{◌≡◌, ℕ, Bool, true, false, ◌&&◌, ◌||◌, ◌==◌, cond, List, [], ◌∷◌, ◌++◌, refl, ap, sym, subst, ◌∙◌, inl, inr, arith, not, bit_and, Option, Some, None}
use Rattle.std.specs.Prelude.{Vec, nat_lt}
use Rattle.std.specs.List.{list_any}
use Rattle.std.specs.declared.cmp.Ordering.{Ordering}
use Rattle.std.specs.declared.cmp.Ordering.TheVariants.{Less, Equal, Greater}
use Rattle.std.specs.Ordering.{nat_cmp, is_eq}
use Rattle.std.specs.Option.{option_cmp}
use Rattle.std.specs.BTreeMap.{is_at}
use Rattle.std.specs.Map.{lookup}
use Rattle.std.proofs.lemmas.Bool.{true≢false, eqb-true, eq-eqb, cases_Bool}
use Rattle.std.proofs.lemmas.Bool.Decides.{nat_tests}
use Rattle.std.proofs.lemmas.Map.Lookups.{CmpEqualImpliesEq, exact_unsigned, exact_pairs}
use Rattle.lv_source.proofs.Tests.{and-left, and-right, or-left, or-right}
use Rattle.lv_spans.specs.declared.span.Span.{Span}
use Rattle.lv_spans.specs.Sets.{Cell, order}
use Rattle.lv_schedule.specs.declared.drivers.Driver.{Driver}
use Rattle.lv_schedule.specs.Drivers.{is_element_of_both, shares, is_met}
use Rattle.lv_schedule.specs.Tables.{items_of, listed, is_live, is_live_at}
use Rattle.lv_schedule.proofs.Lists.{same_tests, not_both, any_alike, any_push}
use Rattle.lv_schedule.proofs.Shares.{shares_signal}

-- ---- equal keys

lt_self : (a : ℕ) → nat_lt a a ≡ false
lt_self a = grind (arith, nat_tests)

eq_self : (a : ℕ) → (a == a) ≡ true
eq_self a = eq-eqb a a refl

exact_options : CmpEqualImpliesEq (option_cmp nat_cmp)
exact_options None None h = refl
exact_options None (Some y) h = absurd (true≢false (sym (ap is_eq h)))
exact_options (Some x) None h = absurd (true≢false (sym (ap is_eq h)))
exact_options (Some x) (Some y) h = ap Some (exact_unsigned x y h)

is_equal : (o : Ordering) → is_eq o ≡ true → o ≡ Equal
is_equal Less h = absurd (true≢false (sym h))
is_equal Equal h = refl
is_equal Greater h = absurd (true≢false (sym h))

pub same_cell : (x y : Cell) → is_at (order x) y ≡ true → x ≡ y
same_cell x y h = exact_pairs nat_cmp (option_cmp nat_cmp) exact_unsigned exact_options x y (is_equal (order x y) h)

pub at_self : (q : Cell) → is_at (order q) q ≡ true
at_self (s, None) = rw (lt_self s) (rw (eq_self s) refl)
at_self (s, Some k) = rw (lt_self s) (rw (eq_self s) (rw (lt_self k) (rw (eq_self k) refl)))

pub at_equal : (x y : Cell) → x ≡ y → is_at (order x) y ≡ true
at_equal x y e = subst (λ (z : Cell). is_at (order x) z ≡ true) e (at_self x)

-- ---- one more

pub added : {Z : Type 0} (m n : List (Cell × Vec Driver Z)) (cell : Cell) (old new : Option (Vec Driver Z)) (d : Driver) → items_of old ≡ listed m cell
    → items_of new ≡ items_of old ++ d ∷ [] → ((q : Cell) → lookup (is_at (order q)) n ≡ cond (is_at (order cell) q) new (lookup (is_at (order q)) m))
    → (q : Cell) (P : Driver → Bool) → list_any P (listed n q) ≡ (list_any P (listed m q) || (is_at (order q) cell && P d))
added m n cell old new d e f h q P = by (is_at (order cell) q) refl
  where
    other : (b : Bool) → b ≡ false → (a c : Bool) → a ≡ (a || (b && c))
    other true k a c = cc
    other false k true c = refl
    other false k false c = refl

    by : (b : Bool) → is_at (order cell) q ≡ b → list_any P (listed n q) ≡ (list_any P (listed m q) || (is_at (order q) cell && P d))
    by true k =
        let s : cell ≡ q = same_cell cell q k in
        ap (λ o. list_any P (items_of o)) (h q ∙ ap (λ b. cond b new (lookup (is_at (order q)) m)) k) ∙
        (ap (list_any P) (f ∙ ap (λ ds. ds ++ d ∷ []) e) ∙ (any_push P (listed m cell) d ∙
        (ap (λ (c : Cell). list_any P (listed m c) || P d) s ∙
        ap (λ b. list_any P (listed m q) || (b && P d)) (sym (at_equal q cell (sym s))))))
    by false k =
        ap (λ o. list_any P (items_of o)) (h q ∙ ap (λ b. cond b new (lookup (is_at (order q)) m)) k) ∙
        other (is_at (order q) cell) (elim (cases_Bool (is_at (order q) cell)) [
          | inl t ↦ absurd (not_both (is_at (order cell) q) (at_equal cell q (sym (same_cell q cell t))) k)
          | inr t ↦ t
        ]) (list_any P (listed m q)) (P d)

-- an entry that is taken out and put back with one more
pub put_back : {Z : Type 0} (m mid n : List (Cell × Vec Driver Z)) (cell : Cell) (old new : Option (Vec Driver Z)) (d : Driver) → items_of old ≡ listed m cell
    → items_of new ≡ items_of old ++ d ∷ [] → ((q : Cell) → lookup (is_at (order q)) mid ≡ cond (is_at (order cell) q) None (lookup (is_at (order q)) m))
    → ((q : Cell) → lookup (is_at (order q)) n ≡ cond (is_at (order cell) q) new (lookup (is_at (order q)) mid))
    → (q : Cell) (P : Driver → Bool) → list_any P (listed n q) ≡ (list_any P (listed m q) || (is_at (order q) cell && P d))
put_back {Z} m mid n cell old new d e f g h = added m n cell old new d e f
    (λ q. h q ∙ (ap (λ o. cond (is_at (order cell) q) new o) (g q) ∙ twice (is_at (order cell) q) (lookup (is_at (order q)) m)))
  where
    twice : (b : Bool) (o : Option (Vec Driver Z)) → cond b new (cond b None o) ≡ cond b new o
    twice true o = refl
    twice false o = refl

-- ---- what is read under a key

swallow : (a b c : Bool) → (b ≡ true → a ≡ true) → (a && (b && c)) ≡ (b && c)
swallow true b c f = refl
swallow false true c f = absurd (true≢false (sym (f refl)))
swallow false false c f = refl

shares_of : (part : ℕ) (alone : Bool) (r : Span) (d : Driver) → is_met part alone r d ≡ true → shares r d.span ≡ true
shares_of part alone r d h = and-left (shares r d.span) (not (alone && (d.part == part))) h

-- of all drivers of the signal
pub met_signal : (D : List Driver) (part : ℕ) (alone : Bool) (r : Span) (P : ℕ → Bool)
    → list_any (λ d. is_at (order (r.signal, None)) (d.span.signal, None) && (is_met part alone r d && P d.part)) D ≡ list_any (λ d. is_met part alone r d && P d.part) D
met_signal D part alone r P =
    any_alike (λ (d : Driver). is_at (order (r.signal, None)) (d.span.signal, None) && (is_met part alone r d && P d.part)) (λ d. is_met part alone r d && P d.part) D
    (λ k d e. swallow (is_at (order (r.signal, None)) (d.span.signal, None)) (is_met part alone r d) (P d.part)
    (λ h. at_equal (r.signal, None) (d.span.signal, None) (ap (λ n. (n, None)) (shares_signal r d.span (shares_of part alone r d h)))))

-- of the drivers of an element and those of all elements
either : (a b m c : Bool) → (m ≡ true → (a || b) ≡ true) → ((a && (m && c)) || (b && (m && c))) ≡ (m && c)
either a b false c f = none a b
  where
    none : (a b : Bool) → ((a && false) || (b && false)) ≡ false
    none true true = refl
    none true false = refl
    none false true = refl
    none false false = refl
either true b true true f = refl
either true true true false f = refl
either true false true false f = refl
either false true true c f = refl
either false false true c f = absurd (true≢false (sym (f refl)))

any_either : {X : Type 0} (p q : X → Bool) (xs : List X) → list_any (λ x. p x || q x) xs ≡ (list_any p xs || list_any q xs)
any_either p q [] = refl
any_either p q (x ∷ xs) = ap (λ b. (p x || q x) || b) (any_either p q xs) ∙ regroup (p x) (q x) (list_any p xs) (list_any q xs)
  where
    regroup : (a b c d : Bool) → ((a || b) || (c || d)) ≡ ((a || c) || (b || d))
    regroup true b c d = refl
    regroup false true true d = refl
    regroup false true false d = refl
    regroup false false c d = refl

key_of : (r t : Span) (k : ℕ) (e : Option ℕ) → r.element ≡ Some k → t.element ≡ e → shares r t ≡ true
    → (is_at (order (r.signal, Some k)) (t.signal, e) || is_at (order (r.signal, None)) (t.signal, e)) ≡ true
key_of r t k None f g h =
    or-right (is_at (order (r.signal, Some k)) (t.signal, None)) (is_at (order (r.signal, None)) (t.signal, None))
    (at_equal (r.signal, None) (t.signal, None) (ap (λ n. (n, None)) (shares_signal r t h)))
key_of r t k (Some j) f g h =
    let b : is_element_of_both r.element t.element ≡ true = and-left (is_element_of_both r.element t.element) (not (bit_and r.mask t.mask == 0))
    (and-right (r.signal == t.signal) (is_element_of_both r.element t.element && not (bit_and r.mask t.mask == 0)) h) in
    let c : is_element_of_both (Some k) (Some j) ≡ true = subst (λ z. is_element_of_both (Some k) z ≡ true) g (subst (λ z. is_element_of_both z t.element ≡ true) f b) in
    let e : k ≡ j = eqb-true k j c in
    or-left (is_at (order (r.signal, Some k)) (t.signal, Some j)) (is_at (order (r.signal, None)) (t.signal, Some j))
    (at_equal (r.signal, Some k) (t.signal, Some j) (ap (λ n. (n, Some k)) (shares_signal r t h) ∙ ap (λ n. (t.signal, Some n)) e))

pub met_element : (D : List Driver) (part : ℕ) (alone : Bool) (r : Span) (k : ℕ) (P : ℕ → Bool) → r.element ≡ Some k
    → (list_any (λ d. is_at (order (r.signal, Some k)) (d.span.signal, d.span.element) && (is_met part alone r d && P d.part)) D
    || list_any (λ d. is_at (order (r.signal, None)) (d.span.signal, d.span.element) && (is_met part alone r d && P d.part)) D)
    ≡ list_any (λ d. is_met part alone r d && P d.part) D
met_element D part alone r k P f =
    let p : Driver → Bool = λ d. is_at (order (r.signal, Some k)) (d.span.signal, d.span.element) && (is_met part alone r d && P d.part) in
    let q : Driver → Bool = λ d. is_at (order (r.signal, None)) (d.span.signal, d.span.element) && (is_met part alone r d && P d.part) in
    sym (any_either p q D) ∙ any_alike (λ d. p d || q d) (λ d. is_met part alone r d && P d.part) D
    (λ n d e. either (is_at (order (r.signal, Some k)) (d.span.signal, d.span.element)) (is_at (order (r.signal, None)) (d.span.signal, d.span.element))
    (is_met part alone r d) (P d.part) (λ h. key_of r d.span k d.span.element f refl (shares_of part alone r d h)))

-- the hub of a signal
pub live_signal : (D : List Driver) (s : ℕ) (P : ℕ → Bool)
    → list_any (λ d. is_at (order (s, None)) (d.span.signal, None) && (is_live d && P d.part)) D ≡ list_any (λ d. is_live_at s d && P d.part) D
live_signal D s P =
    any_alike (λ (d : Driver). is_at (order (s, None)) (d.span.signal, None) && (is_live d && P d.part)) (λ d. is_live_at s d && P d.part) D
    (λ k d e. ap (λ b. b && (is_live d && P d.part)) (same_tests (is_at (order (s, None)) (d.span.signal, None)) (d.span.signal == s)
    (λ h. eq-eqb d.span.signal s (ap (λ (c : Cell). c.0) (sym (same_cell (s, None) (d.span.signal, None) h))))
    (λ h. at_equal (s, None) (d.span.signal, None) (ap (λ n. (n, None)) (sym (eqb-true d.span.signal s h))))) ∙
    sym (grouped (d.span.signal == s) (is_live d) (P d.part)))
  where
    grouped : (a b c : Bool) → ((a && b) && c) ≡ (a && (b && c))
    grouped true b c = refl
    grouped false b c = refl

or_shift : (a b c : Bool) → ((a || b) || c) ≡ (a || (b || c))
or_shift true b c = refl
or_shift false b c = refl

-- both lists, one after the other
pub met_both : (D : List Driver) (cells : Cell → List Driver) (part : ℕ) (alone : Bool) (r : Span) (k : ℕ) (P : ℕ → Bool) (a b c : Bool)
    → b ≡ (a || list_any (λ d. is_met part alone r d && P d.part) (cells (r.signal, Some k)))
    → c ≡ (b || list_any (λ d. is_met part alone r d && P d.part) (cells (r.signal, None)))
    → ((q : Cell) (Q : Driver → Bool) → list_any Q (cells q) ≡ list_any (λ d. is_at (order q) (d.span.signal, d.span.element) && Q d) D) → r.element ≡ Some k
    → c ≡ (a || list_any (λ d. is_met part alone r d && P d.part) D)
met_both D cells part alone r k P a b c f g h e =
    let Q : Driver → Bool = λ d. is_met part alone r d && P d.part in
    g ∙ (ap (λ z. z || list_any Q (cells (r.signal, None))) f ∙ (or_shift a (list_any Q (cells (r.signal, Some k))) (list_any Q (cells (r.signal, None))) ∙
    ap (λ z. a || z) (ap (λ z. z || list_any Q (cells (r.signal, None))) (h (r.signal, Some k) Q) ∙
    (ap (λ z. list_any (λ d. is_at (order (r.signal, Some k)) (d.span.signal, d.span.element) && Q d) D || z) (h (r.signal, None) Q) ∙ met_element D part alone r k P e))))
