-- Lists of expressions with their formulas or registers, one more at the end.
use Rattle.std.proofs.Common.{◌≡◌, ℕ, zero, ◌<◌, ◌≤◌, Bool, true, false, List, [], ◌∷◌, ◌++◌, length, drop, take, ◌-◌, suc, get_or, refl, sym, ◌∙◌, ap, subst, arith}
use Rattle.std.specs.Prelude.{Option, Some, None, MatchOption, slice_get, bytes_eq, All, filter, cond, not}
use Rattle.std.specs.List.{IsDistinct, AllByRecursion, AllZip}
use Rattle.std.proofs.lemmas.Bool.{false≢true}
use Rattle.std.proofs.lemmas.List.{take_all}
use Rattle.std.proofs.lemmas.List.Elements.{All-push}
use Rattle.std.proofs.lemmas.Map.Keys.{IsDistinct-head, IsDistinct-tail, IsDistinct-cons}
use Rattle.lv_ast.specs.declared.expr.Path.{Path}
use Rattle.lv_ast.specs.declared.expr.Expr.{Expr}
use Rattle.lv_ast.specs.declared.expr.Expr.TheVariants as e
use Rattle.lv_ast.specs.Names.{Name}
use Rattle.lv_source.specs.Names.{Names}
use Rattle.lv_first.specs.declared.formula.Formula.{Formula}
use Rattle.lv_first.specs.FirstForm.{is_in, scope_of, IsRegisterName, register}
use Rattle.lv_first.specs.Formulas.{truth, variable}
use Rattle.lv_first.specs.Signals.{IsBitOf, AreBitsOf, AreVariablesOf, IsRegister}
use Rattle.lv_first.proofs.Truths.{truth-Variable}
use Rattle.lv_first.proofs.Numbering.{or_parts, bytes_same, same_bytes, distinct-later}
use Rattle.lv_first.proofs.Joins.{in-at, register_signal, name_is_bit}
use Rattle.lv_first.proofs.Others.{register_parts}

pub all_more : {A : Type 0} (P : A → Type 0) (xs : List A) (x : A) → All P xs → P x → All P (xs ++ x ∷ [])
all_more P xs x all h = All-push P xs x all h

module _ (names : Names) (S : List Name) where
  pub bits_more : (xs : List Expr) (fs : List Formula) (x : Expr) (f : Formula) → AreBitsOf names S xs fs → IsBitOf names S x (truth f) → AreBitsOf names S (xs ++ x ∷ []) (fs ++ f ∷ [])
  bits_more [] [] x f all h = (h, tt)
  bits_more [] (g ∷ fs) x f all h = absurd all
  bits_more (y ∷ xs) [] x f all h = absurd all
  bits_more (y ∷ xs) (g ∷ fs) x f all h = (all.0, bits_more xs fs x f all.1 h)

  pub variables_more : (xs : List Expr) (ks : List ℕ) (x : Expr) (k : ℕ) → AreVariablesOf names S xs ks → IsBitOf names S x (variable k) → AreVariablesOf names S (xs ++ x ∷ []) (ks ++ k ∷ [])
  variables_more [] [] x k all h = (h, tt)
  variables_more [] (j ∷ ks) x k all h = absurd all
  variables_more (y ∷ xs) [] x k all h = absurd all
  variables_more (y ∷ xs) (j ∷ ks) x k all h = (all.0, variables_more xs ks x k all.1 h)

register_at : (Rs Is : List Name) (x : Expr) (path : Path) (k : ℕ) → x ≡ e.Name path [] → path.steps ≡ [] → slice_get Rs k ≡ Some path.name → IsRegister Rs Is x k
register_at Rs Is x path k is plain at =
    subst (λ (z : Expr). IsRegister Rs Is z k) (sym is) (record {
      legal = register path plain (in-at Rs k path.name at);
      meant = subst (IsBitOf (scope_of Rs Is) (Rs ++ Is) (e.Name path [])) (truth-Variable k) (name_is_bit Rs Is path k (register_signal Rs Is path k plain at)).1;
    })

pub register_found : (Rs Is names : List Name) (x : Expr) (path : Path) (o : Option ℕ) → x ≡ e.Name path [] → path.steps ≡ [] → names ≡ Rs →
    MatchOption o (is_in names path.name ≡ false) (λ k. slice_get names k ≡ Some path.name) → MatchOption o (IsRegisterName Rs x → ⊥) (λ k. IsRegister Rs Is x k)
register_found Rs Is names x path None is plain e h = λ r. false≢true (sym (subst (λ z. is_in z path.name ≡ false) e h) ∙ (register_parts Rs x path [] r is).2)
register_found Rs Is names x path (Some k) is plain e h = register_at Rs Is x path k is plain (subst (λ z. slice_get z k ≡ Some path.name) e h)

-- what is left of distinct names is distinct
kept_all : (P : Name → Type 0) (p : Name → Bool) (xs ys : List Name) → AllByRecursion P (xs ++ ys) → AllByRecursion P (xs ++ filter p ys)
kept_all P p (x ∷ xs) ys all = (all.0, kept_all P p xs ys all.1)
kept_all P p [] [] all = tt
kept_all P p [] (y ∷ ys) all = elim (p y) as (λ b. AllByRecursion P (cond b (y ∷ filter p ys) (filter p ys))) [
  | true ↦ (all.0, kept_all P p [] ys all.1)
  | false ↦ kept_all P p [] ys all.1
]

pub distinct_filter : (p : Name → Bool) (xs ys : List Name) → IsDistinct bytes_eq (xs ++ ys) → IsDistinct bytes_eq (xs ++ filter p ys)
distinct_filter p (x ∷ xs) ys d =
    IsDistinct-cons bytes_eq x (xs ++ filter p ys) (kept_all (λ y. bytes_eq x y ≡ false) p xs ys (IsDistinct-head bytes_eq x (xs ++ ys) d)) (distinct_filter p xs ys (IsDistinct-tail bytes_eq x (xs ++ ys) d))
distinct_filter p [] [] d = d
distinct_filter p [] (y ∷ ys) d = elim (p y) as (λ b. IsDistinct bytes_eq (cond b (y ∷ filter p ys) (filter p ys))) [
  | true ↦ IsDistinct-cons bytes_eq y (filter p ys) (kept_all (λ z. bytes_eq y z ≡ false) p [] ys (IsDistinct-head bytes_eq y ys d)) (distinct_filter p [] ys (IsDistinct-tail bytes_eq y ys d))
  | false ↦ distinct_filter p [] ys (IsDistinct-tail bytes_eq y ys d)
]

-- a name that stands at no place of a list differs from each of them
pub apart_from_all : (x : Name) (ys : List Name) → is_in ys x ≡ false → AllByRecursion (λ y. bytes_eq x y ≡ false) ys
apart_from_all x [] h = tt
apart_from_all x (y ∷ ys) h = let parts = or_parts (bytes_eq x y) (is_in ys x) h in (parts.0, apart_from_all x ys parts.1)

pub distinct_none : (xs : List Name) → length xs < 1 → IsDistinct bytes_eq xs
unfolding IsDistinct
distinct_none [] h = tt
distinct_none (x ∷ xs) h = absurd (omega arith)

pub distinct_first : (xs : List Name) (x : Name) → 1 ≤ length xs → x ≡ get_or xs 0 x → is_in (take (length xs - 1) (drop 1 xs)) x ≡ false →
    IsDistinct bytes_eq (take (length xs - 1) (drop 1 xs)) → IsDistinct bytes_eq xs
distinct_first [] x some is none rest = absurd (omega arith)
distinct_first (y ∷ ys) x some is none rest =
    let e : take (suc (length ys) - 1) ys ≡ ys = let n : suc (length ys) - 1 ≡ length ys = omega arith in ap (λ k. take k ys) n ∙ take_all (length ys) ys (omega arith) in
    let apart : is_in ys y ≡ false = subst (λ z. is_in ys z ≡ false) is (subst (λ z. is_in z x ≡ false) e none) in
    IsDistinct-cons bytes_eq y ys (apart_from_all y ys apart) (subst (IsDistinct bytes_eq) e rest)

pub zip_more : {A B : Type 0} (P : A → B → Type 0) (xs : List A) (ys : List B) (x : A) (y : B) → AllZip P xs ys → P x y → AllZip P (xs ++ x ∷ []) (ys ++ y ∷ [])
zip_more P [] [] x y all h = (h, tt)
zip_more P [] (z ∷ ys) x y all h = absurd all
zip_more P (z ∷ xs) [] x y all h = absurd all
zip_more P (w ∷ xs) (z ∷ ys) x y all h = (all.0, zip_more P xs ys x y all.1 h)

-- one of them is with none
pub none_zip : {A B : Type 0} (P : A → B → Type 0) (xs : List A) (k : ℕ) (x : A) → k < length xs → x ≡ get_or xs k x → ((y : B) → P x y → ⊥) → (ys : List B) → AllZip P xs ys → ⊥
none_zip P [] k x within at none ys all = omega arith
none_zip P (z ∷ xs) k x within at none [] all = all
none_zip P (z ∷ xs) zero x within at none (y ∷ ys) all = none y (subst (λ w. P w y) (sym at) all.0)
none_zip P (z ∷ xs) (suc k) x within at none (y ∷ ys) all = none_zip P xs k x (omega arith) at none ys all.1

-- ---- names that stand once

pub distinct_right : (xs ys : List Name) → IsDistinct bytes_eq (xs ++ ys) → IsDistinct bytes_eq ys
distinct_right [] ys d = d
distinct_right (x ∷ xs) ys d = distinct_right xs ys (IsDistinct-tail bytes_eq x (xs ++ ys) d)

other_way : (x y : Name) → bytes_eq x y ≡ false → bytes_eq y x ≡ false
other_way x y h = (elim (bytes_eq y x) as (λ b. bytes_eq y x ≡ b → b ≡ false) [
  | true ↦ λ e. absurd (false≢true (sym h ∙ ap (λ z. bytes_eq z y) (sym (bytes_same y x e)) ∙ same_bytes y))
  | false ↦ λ e. refl
]) refl

kept_others : (x : Name) (ys : List Name) → AllByRecursion (λ y. bytes_eq x y ≡ false) ys → length (filter (λ y. not (bytes_eq y x)) ys) ≡ length ys
kept_others x [] all = refl
kept_others x (y ∷ ys) all = rw (other_way x y all.0) (ap suc (kept_others x ys all.1))

-- without one of them, one is missing at most
pub kept_count : (x : Name) (ys : List Name) → IsDistinct bytes_eq ys → length ys ≤ suc (length (filter (λ y. not (bytes_eq y x)) ys))
kept_count x [] d = omega arith
kept_count x (y ∷ ys) d = (elim (bytes_eq y x) as (λ b. bytes_eq y x ≡ b → suc (length ys) ≤ suc (length (cond (not b) (y ∷ filter (λ z. not (bytes_eq z x)) ys) (filter (λ z. not (bytes_eq z x)) ys)))) [
  | true ↦ λ e.
      let same : y ≡ x = bytes_same y x e in
      let all : AllByRecursion (λ z. bytes_eq x z ≡ false) ys = subst (λ w. AllByRecursion (λ z. bytes_eq w z ≡ false) ys) same (IsDistinct-head bytes_eq y ys d) in
      omega (arith, kept_others x ys all)
  | false ↦ λ e. omega (arith, kept_count x ys (IsDistinct-tail bytes_eq y ys d))
]) refl

pub first_again : (xs : List Name) (x : Name) (k : ℕ) → 1 ≤ length xs → x ≡ get_or xs 0 x → slice_get (take (length xs - 1) (drop 1 xs)) k ≡ Some x → IsDistinct bytes_eq xs → ⊥
first_again [] x k some is at d = omega arith
first_again (y ∷ ys) x k some is at d =
    let e : take (suc (length ys) - 1) ys ≡ ys = let n : suc (length ys) - 1 ≡ length ys = omega arith in ap (λ k. take k ys) n ∙ take_all (length ys) ys (omega arith) in
    let at' : slice_get ys k ≡ Some y = subst (λ z. slice_get ys k ≡ Some z) is (subst (λ z. slice_get z k ≡ Some x) e at) in
    false≢true (sym (distinct-later y ys (IsDistinct-head bytes_eq y ys d) k y at') ∙ same_bytes y)

pub distinct_rest : (xs : List Name) → 1 ≤ length xs → IsDistinct bytes_eq xs → IsDistinct bytes_eq (take (length xs - 1) (drop 1 xs))
distinct_rest [] some d = absurd (omega arith)
distinct_rest (y ∷ ys) some d =
    let e : take (suc (length ys) - 1) ys ≡ ys = let n : suc (length ys) - 1 ≡ length ys = omega arith in ap (λ k. take k ys) n ∙ take_all (length ys) ys (omega arith) in
    subst (IsDistinct bytes_eq) (sym e) (IsDistinct-tail bytes_eq y ys d)
