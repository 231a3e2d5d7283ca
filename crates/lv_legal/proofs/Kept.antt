-- What is told of parts by their numbers is told at paths; and what holds where nothing is told.
use Rattle.std.proofs.Common.{◌≡◌, ℕ, zero, suc, ◌<◌, Bool, true, false, not, length, get_or, inl, inr, ◌+◌, List, [], ◌∷◌, ◌++◌, refl, ap, sym, subst, ◌∙◌, arith, Option, Some, None}
use Rattle.std.specs.Prelude.{slice_get, Contains}
use Rattle.std.proofs.lemmas.Bool.{cases_eq}
use Rattle.std.proofs.lemmas.Option.{slice_get_read}
use Rattle.std.proofs.lemmas.List.Elements.{Contains-append_left, Contains-append_right}
use Rattle.lv_ast.specs.Names.{Name}
use Rattle.lv_source.specs.Parts.{At}
use Rattle.lv_source.specs.PartRules.{told_if}
use Rattle.lv_source.specs.Views.{View, lists_clock, clock_views, named_clocks}
use Rattle.lv_flat.specs.Signals.{Signals}
use Rattle.lv_extents.specs.declared.extent.Extent.{Extent}
use Rattle.lv_extents.specs.Extents.{AreExtents}
use Rattle.lv_rules.specs.declared.told.Told.{Told}
use Rattle.lv_rules.specs.Rules.{path_of, IsAnswer, IsToldBy}
use Rattle.lv_schedule.specs.Plans.{IsPlanned}
use Rattle.lv_legal.specs.declared.rule.Rule.{Rule}
use Rattle.lv_legal.specs.declared.rule.Rule.TheVariants.{NotConstant, WrongKind, ClockUse, Blocking, Nonblocking, TwoDrivers, Undriven, Latch, ReadFirst}
use Rattle.lv_legal.specs.declared.spot.Spot.{Spot}
use Rattle.lv_legal.specs.Legal.{clock_uses, told_parts, lacks_clock, told_of, extent_path, IsSpotAt, IsSpotOf, AreKept, IsLegal}

path_alike : (S : Signals) (vs : List View) (xs : List Extent) (k : ℕ) → AreExtents S vs xs → path_of vs k ≡ extent_path xs k
path_alike S [] [] k h = refl
path_alike S [] (x ∷ xs) k h = absurd h
path_alike S (v ∷ vs) [] k h = absurd h
path_alike S (v ∷ vs) (x ∷ xs) zero h = sym h.0.path
path_alike S (v ∷ vs) (x ∷ xs) (suc k) h = path_alike S vs xs k h.1

pub spot_none : (S : Signals) (xs : List Extent) (rule : List View → List At) → IsToldBy S xs rule None → IsSpotOf S xs rule None
spot_none S xs rule h vs e = h vs e

pub spot_some : (S : Signals) (xs : List Extent) (rule : List View → List At) (t : Told) (s : Spot) → s.path ≡ extent_path xs t.part → s.place ≡ t.place
    → IsToldBy S xs rule (Some t) → IsSpotOf S xs rule (Some s)
spot_some S xs rule t s p q h vs e =
    subst (λ (n : ℕ). Contains (rule vs) (record { path = s.path; place = n })) (sym q)
    (subst (λ (path : Name). Contains (rule vs) (record { path = path; place = t.place })) (path_alike S vs xs t.part e ∙ sym p) (h vs e).1)

-- ---- two rules

pub first_of_two : (S : Signals) (xs : List Extent) (f g : List View → List At) (t : Told) → IsToldBy S xs f (Some t) → IsToldBy S xs (λ vs. f vs ++ g vs) (Some t)
first_of_two S xs f g t h vs e = let r : IsAnswer vs (f vs) (Some t) = h vs e in (r.0, Contains-append_left (f vs) (g vs) _ r.1)

pub second_of_two : (S : Signals) (xs : List Extent) (f g : List View → List At) (o : Option Told) → IsToldBy S xs f None → IsToldBy S xs g o → IsToldBy S xs (λ vs. f vs ++ g vs) o
second_of_two S xs f g None h k vs e = ap (λ z. z ++ g vs) (h vs e) ∙ k vs e
second_of_two S xs f g (Some t) h k vs e = let r : IsAnswer vs (g vs) (Some t) = k vs e in (r.0, Contains-append_right (f vs) (g vs) _ r.1)

-- ---- the clock of the top

told_all : (b : Bool) (ats : List At) → b ≡ true → told_if b ats ≡ ats
told_all true ats h = refl
told_all false ats h = cc

told_none : (b : Bool) (ats : List At) → b ≡ false → told_if b ats ≡ []
told_none true ats h = cc
told_none false ats h = refl

pub spot_top : (S : Signals) (xs : List Extent) (rule : Rule) (clock : Name) (s : Spot) → lacks_clock rule clock S ≡ true → s.path ≡ [] → s.place ≡ 0
    → IsSpotOf S xs (told_of rule clock S) (Some s)
spot_top S xs rule clock s h p q vs e =
    let top : At = record { path = []; place = 0 } in
    Contains-append_left (told_if (lacks_clock rule clock S) (top ∷ [])) (told_parts rule S vs) (record { path = s.path; place = s.place })
    (subst (λ ats. Contains ats (record { path = s.path; place = s.place })) (sym (told_all (lacks_clock rule clock S) (top ∷ []) h))
    (0, omega arith, (ap (λ (n : Name). record { path = n; place = 0 }) (sym p) ∙ ap (λ (n : ℕ). record { path = s.path; place = n }) (sym q))))

spot_by : (ats bs : List At) (o : Option Spot) → ats ≡ [] → IsSpotAt bs o → IsSpotAt (ats ++ bs) o
spot_by ats bs None h k = ap (λ z. z ++ bs) h ∙ k
spot_by ats bs (Some s) h k = Contains-append_right ats bs _ k

pub spot_parts : (S : Signals) (xs : List Extent) (rule : Rule) (clock : Name) (o : Option Spot) → lacks_clock rule clock S ≡ false → IsSpotOf S xs (told_parts rule S) o
    → IsSpotOf S xs (told_of rule clock S) o
spot_parts S xs rule clock o h k vs e =
    spot_by (told_if (lacks_clock rule clock S) (record { path = []; place = 0 } ∷ [])) (told_parts rule S vs) o
    (told_none (lacks_clock rule clock S) (record { path = []; place = 0 } ∷ []) h) (k vs e)

-- ---- all rules

none_left : {X : Type 0} (xs ys : List X) → xs ++ ys ≡ [] → xs ≡ []
none_left [] ys h = refl
none_left (x ∷ xs) ys h = cc

none_right : {X : Type 0} (xs ys : List X) → xs ++ ys ≡ [] → ys ≡ []
none_right [] ys h = h
none_right (x ∷ xs) ys h = cc

clock_listed : (b : Bool) (at : At) → told_if (not b) (at ∷ []) ≡ [] → b ≡ true
clock_listed true at h = refl
clock_listed false at h = cc

pub legal : (clock : Name) (S : Signals) (vs : List View) (order : List ℕ) → AreKept clock S vs → IsPlanned vs order → IsLegal clock S vs order
legal clock S vs order h p =
    let top : List At = told_if (not (lists_clock clock S)) (record { path = []; place = 0 } ∷ []) in
    let uses : clock_uses vs ≡ [] = none_right top (clock_uses vs) (h ClockUse) in
    record {
      right = record {
        unfixed = h NotConstant;
        wrong = h WrongKind;
        nonblocking = h Nonblocking;
        blocking = h Blocking;
        two = h TwoDrivers;
        undriven = h Undriven;
        latch = h Latch;
        first = h ReadFirst;
      };
      edges = none_left (clock_views vs) (named_clocks vs) uses;
      named = none_right (clock_views vs) (named_clocks vs) uses;
      top = clock_listed (lists_clock clock S) (record { path = []; place = 0 }) (none_left top (clock_uses vs) (h ClockUse));
      planned = p;
    }

-- ---- rule by rule

abbrev pub all_rules : List Rule
all_rules = NotConstant ∷ WrongKind ∷ ClockUse ∷ Blocking ∷ Nonblocking ∷ TwoDrivers ∷ Undriven ∷ Latch ∷ ReadFirst ∷ []

-- the first n rules are told of nothing
pub record AreKeptSo (clock : Name) (S : Signals) (xs : List Extent) (n : ℕ) : Type 0 where
  pub each : (k : ℕ) (rule : Rule) → k < n → slice_get all_rules k ≡ Some rule → IsSpotOf S xs (told_of rule clock S) None

pub kept_none : (clock : Name) (S : Signals) (xs : List Extent) → AreKeptSo clock S xs 0
kept_none clock S xs = record { each = λ k rule l e. absurd (omega arith) }

pub kept_more : (clock : Name) (S : Signals) (xs : List Extent) (n : ℕ) (rule : Rule) → n < length all_rules → rule ≡ get_or all_rules n rule
    → IsSpotOf S xs (told_of rule clock S) None → AreKeptSo clock S xs n → AreKeptSo clock S xs (n + 1)
kept_more clock S xs n rule l e h a = record {
  each = λ k r m f. elim (cases_eq k n) [
    | inl g ↦
        let q : Some rule ≡ Some r = sym (slice_get_read all_rules (length all_rules) n rule refl l e) ∙ (ap (slice_get all_rules) (sym g) ∙ f) in
        let s : rule ≡ r = cc in
        subst (λ z. IsSpotOf S xs (told_of z clock S) None) s h
    | inr g ↦ a.each k r (omega arith) f
  ];
}

pub kept_all : (clock : Name) (S : Signals) (xs : List Extent) (n : ℕ) → 8 < n → AreKeptSo clock S xs n → (vs : List View) → AreExtents S vs xs → AreKept clock S vs
kept_all clock S xs n l h vs e NotConstant = h.each 0 NotConstant (omega arith) refl vs e
kept_all clock S xs n l h vs e WrongKind = h.each 1 WrongKind (omega arith) refl vs e
kept_all clock S xs n l h vs e ClockUse = h.each 2 ClockUse (omega arith) refl vs e
kept_all clock S xs n l h vs e Blocking = h.each 3 Blocking (omega arith) refl vs e
kept_all clock S xs n l h vs e Nonblocking = h.each 4 Nonblocking (omega arith) refl vs e
kept_all clock S xs n l h vs e TwoDrivers = h.each 5 TwoDrivers (omega arith) refl vs e
kept_all clock S xs n l h vs e Undriven = h.each 6 Undriven (omega arith) refl vs e
kept_all clock S xs n l h vs e Latch = h.each 7 Latch (omega arith) refl vs e
kept_all clock S xs n l h vs e ReadFirst = h.each 8 ReadFirst (omega arith) refl vs e
