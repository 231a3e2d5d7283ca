-- A walk along hints, one at a time.
use Rattle.std.proofs.Common.{◌≡◌, ℕ, suc, zero, ◌<◌, false, eqb, List, [], ◌∷◌, length, drop, refl, sym, ◌∙◌, arith, inl, inr}
use Rattle.std.specs.Prelude.{Some}
use Rattle.std.proofs.lemmas.Bool.{cases_eq, eq-eqb, ne_eqb}
use Rattle.lv_clauses.specs.Sets.{numbered}
use Rattle.lv_clauses.specs.Units.{remaining}
use Rattle.lv_clauses.specs.Derivations.{walks, is_nil}
use Rattle.lv_clauses.specs.Literals.{Lit}

pub walks-nothing : (known : List (List Lit)) (h : ℕ) (hs : List ℕ) (u c : List Lit) → numbered known h ≡ Some c → remaining u c ≡ [] → walks known (h ∷ hs) u ≡ is_nil hs
walks-nothing known h hs u c e f = rw e (rw f refl)

pub walks-one : (known : List (List Lit)) (h : ℕ) (hs : List ℕ) (u c : List Lit) (l : Lit) → numbered known h ≡ Some c → remaining u c ≡ l ∷ [] → walks known (h ∷ hs) u ≡ walks known hs (l ∷ u)
walks-one known h hs u c l e f = rw e (rw f refl)

pub walks-more : (known : List (List Lit)) (h : ℕ) (hs : List ℕ) (u c d : List Lit) (l k : Lit) → numbered known h ≡ Some c → remaining u c ≡ l ∷ k ∷ d → walks known (h ∷ hs) u ≡ false
walks-more known h hs u c d l k e f = rw e (rw f refl)

same : (a b : ℕ) → eqb a b ≡ eqb (suc a) (suc b)
same a b = elim (cases_eq a b) [ inl e ↦ eq-eqb a b e ∙ sym (eq-eqb (suc a) (suc b) (omega arith)) | inr n ↦ ne_eqb a b n ∙ sym (ne_eqb (suc a) (suc b) (λ e. n (omega arith))) ]

pub is_nil-drop : (hs : List ℕ) (i : ℕ) → i < length hs → is_nil (drop (suc i) hs) ≡ eqb (suc i) (length hs)
is_nil-drop [] i h = absurd (omega arith)
is_nil-drop (x ∷ []) zero h = refl
is_nil-drop (x ∷ y ∷ hs) zero h = sym (ne_eqb 1 (length (x ∷ y ∷ hs)) (λ e. omega arith))
is_nil-drop (x ∷ hs) (suc i) h = is_nil-drop hs i (omega arith) ∙ same (suc i) (length hs)
