-- Names in targets, of a part and step by step.
use Rattle.std.proofs.Common.{◌≡◌, ℕ, Bool, true, false, ◌&&◌, ◌||◌, ◌==◌, List, [], ◌∷◌, take, length, get_or, refl, ap, sym, subst, ◌∙◌, ◌<◌, ◌≤◌, Option, Some, None}
use Rattle.std.specs.List.{list_any}
use Rattle.std.proofs.lemmas.Bool.{eq-eqb}
use Rattle.std.proofs.lemmas.List.{take_all}
use Rattle.std.proofs.lemmas.List.Folds.{list_any-append}
use Rattle.std.proofs.lemmas.Option.{slice_get_read}
use Rattle.lv_source.proofs.Tests.{and-both}
use Rattle.lv_extents.specs.declared.extent.Aim.{Aim}
use Rattle.lv_extents.specs.declared.extent.Step.{Step}
use Rattle.lv_extents.specs.declared.extent.Extent.{Extent}
use Rattle.lv_extents.specs.Extents.{all_aims}
use Rattle.lv_rules.specs.Rules.{IsFound, step_aims}
use Rattle.lv_rules.proofs.Lists.{any_of, any_flat}

pub aims_any : (p : Aim → Bool) (x : Extent) → list_any p (all_aims x) ≡ (list_any p x.aims || list_any (λ s. list_any p s.aims) x.steps)
aims_any p x = list_any-append p x.aims (step_aims x.steps) ∙ ap (λ b. list_any p x.aims || b) (any_flat p (λ s. s.aims) x.steps)

-- where the aims of no step count
pub later_aims : (p : Aim → Bool) (x : Extent) (as' : List Aim) (steps : List Step) → as' ≡ x.aims → steps ≡ x.steps → list_any p as' ≡ false
    → list_any (λ s. list_any p s.aims) steps ≡ list_any p (all_aims x)
later_aims p x as' steps e f h =
    ap (list_any (λ (s : Step). list_any p s.aims)) f ∙ sym (aims_any p x ∙ ap (λ b. b || list_any (λ (s : Step). list_any p s.aims) x.steps) (ap (list_any p) (sym e) ∙ h))

or_last : (a b : Bool) → b ≡ true → (a || b) ≡ true
or_last true b h = refl
or_last false b h = h

-- ---- what is found

pub found_none : {X : Type 0} (p : X → Bool) (place : X → ℕ) (xs : List X) (n : ℕ) → length xs ≤ n → list_any p (take n xs) ≡ false → IsFound p place xs None
found_none p place xs n l h = ap (list_any p) (sym (take_all n xs l)) ∙ h

pub found_at : {X : Type 0} (p : X → Bool) (place : X → ℕ) (xs : List X) (k : ℕ) (x : X) → k < length xs → x ≡ get_or xs k x → p x ≡ true → IsFound p place xs (Some (place x))
found_at p place xs k x l e h =
    any_of (λ y. p y && (place y == place x)) xs k x (slice_get_read xs (length xs) k x refl l e) (and-both (p x) (place x == place x) h (eq-eqb (place x) (place x) refl))

-- a place that one of the steps has
pub found_step : (p : Aim → Bool) (place : Aim → ℕ) (steps : List Step) (k : ℕ) (s : Step) (n : ℕ) → k < length steps → s ≡ get_or steps k s
    → IsFound p place s.aims (Some n) → IsFound p place (step_aims steps) (Some n)
found_step p place steps k s n l e h =
    any_flat (λ a. p a && (place a == n)) (λ s. s.aims) steps ∙
    any_of (λ s. list_any (λ a. p a && (place a == n)) s.aims) steps k s (slice_get_read steps (length steps) k s refl l e) h

pub found_steps_none : (p : Aim → Bool) (place : Aim → ℕ) (steps : List Step) (n : ℕ) → length steps ≤ n → list_any (λ s. list_any p s.aims) (take n steps) ≡ false
    → IsFound p place (step_aims steps) None
found_steps_none p place steps n l h = any_flat p (λ s. s.aims) steps ∙ (ap (list_any (λ (s : Step). list_any p s.aims)) (sym (take_all n steps l)) ∙ h)

-- a place that the part's own target has, or one of its steps
pub found_first : (p : Aim → Bool) (place : Aim → ℕ) (x : Extent) (as' : List Aim) (n : ℕ) → as' ≡ x.aims → IsFound p place as' (Some n) → IsFound p place (all_aims x) (Some n)
found_first p place x as' n e h =
    aims_any (λ a. p a && (place a == n)) x ∙
    ap (λ b. b || list_any (λ (s : Step). list_any (λ a. p a && (place a == n)) s.aims) x.steps) (ap (list_any (λ a. p a && (place a == n))) (sym e) ∙ h)

pub found_later : (p : Aim → Bool) (place : Aim → ℕ) (x : Extent) (as' : List Aim) (steps : List Step) (o : Option ℕ) → as' ≡ x.aims → steps ≡ x.steps
    → IsFound p place as' None → IsFound p place (step_aims steps) o → IsFound p place (all_aims x) o
found_later p place x as' steps None e f h k =
    sym (later_aims p x as' steps e f h) ∙ (sym (any_flat p (λ s. s.aims) steps) ∙ k)
found_later p place x as' steps (Some n) e f h k =
    list_any-append (λ a. p a && (place a == n)) x.aims (step_aims x.steps) ∙
    or_last (list_any (λ a. p a && (place a == n)) x.aims) (list_any (λ a. p a && (place a == n)) (step_aims x.steps))
    (ap (λ z. list_any (λ a. p a && (place a == n)) (step_aims z)) (sym f) ∙ k)

-- ---- under a condition

pub found_if : {X : Type 0} (p : X → Bool) (place : X → ℕ) (b : Bool) (xs ys : List X) (o : Option ℕ) → b ≡ true → ys ≡ xs → IsFound p place ys o
    → IsFound (λ x. b && p x) place xs o
found_if p place b xs ys o e f h = subst (λ c. IsFound (λ x. c && p x) place xs o) (sym e) (subst (λ zs. IsFound p place zs o) f h)

any_false : {X : Type 0} (xs : List X) → list_any (λ x. false) xs ≡ false
any_false [] = refl
any_false (x ∷ xs) = any_false xs

pub none_if : {X : Type 0} (p : X → Bool) (b : Bool) (xs : List X) → b ≡ false → list_any (λ x. b && p x) xs ≡ false
none_if p b xs e = subst (λ c. list_any (λ x. c && p x) xs ≡ false) (sym e) (any_false xs)
