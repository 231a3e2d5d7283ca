-- Macros as the table keeps them.
use Rattle.std.proofs.Common.{◌≡◌, ℕ, Bool, true, false, not, if◌then◌else◌, List, [], ◌∷◌, Option, Some, None, refl, sym, ap, ◌∙◌, subst, true≢false}
use Rattle.std.specs.List.{filter}
use Rattle.std.specs.Str.{bytes_eq}
use Rattle.std.specs.Map.{lookup}
use Rattle.indexmap.specs.IndexMap.{insert_entry}
use Rattle.std.proofs.lemmas.Bool.{false_from_ne_true}
use lib.Pointwise.{bytes_decides}
use Rattle.lv_lexer.specs.Tables.{flat}
use Rattle.lv_ast.specs.Folds.{Macro, body_of, without}

body-none : (q : List ℕ) → body_of [] q ≡ None
unfolding body_of
body-none q = refl

pub body-cons : (m : Macro) (ms : List Macro) (q : List ℕ) → body_of (m ∷ ms) q ≡ (if bytes_eq m.name q then Some m.body else body_of ms q)
unfolding body_of
body-cons m ms q = refl

without-cons : (m : Macro) (ms : List Macro) (n : List ℕ) → without (m ∷ ms) n ≡ (if not (bytes_eq m.name n) then m ∷ without ms n else without ms n)
unfolding without
without-cons m ms n = elim (bytes_eq m.name n) as (λ b. (if not b then m ∷ filter (λ m. not (bytes_eq m.name n)) ms else filter (λ m. not (bytes_eq m.name n)) ms) ≡ (if not b then m ∷ filter (λ m. not (bytes_eq m.name n)) ms else filter (λ m. not (bytes_eq m.name n)) ms)) [ true ↦ refl | false ↦ refl ]

without-none : (n : List ℕ) → without [] n ≡ []
unfolding without
without-none n = refl

-- two equal texts are equal to the same ones
same-test : (a b q : List ℕ) → bytes_eq a b ≡ true → bytes_eq a q ≡ bytes_eq b q
same-test a b q h = ap (λ x. bytes_eq x q) ((bytes_decides a b).0 h)

one-only : (a n q : List ℕ) → bytes_eq a n ≡ false → bytes_eq n q ≡ true → bytes_eq a q ≡ false
one-only a n q h k = subst (λ x. bytes_eq a x ≡ false) ((bytes_decides n q).0 k) h

pub body_without : (ms : List Macro) (n q : List ℕ) → body_of (without ms n) q ≡ (if bytes_eq n q then None else body_of ms q)
body_without [] n q =
    ap (λ l. body_of l q) (without-none n) ∙ (body-none q ∙ elim (bytes_eq n q) as (λ b. None ≡ (if b then None else body_of [] q)) [ true ↦ refl | false ↦ sym (body-none q) ])
body_without (m ∷ ms) n q =
    ap (λ l. body_of l q) (without-cons m ms n)
    ∙ (elim (bytes_eq m.name n) as (λ b. bytes_eq m.name n ≡ b → body_of (if not b then m ∷ without ms n else without ms n) q ≡ (if bytes_eq n q then None else body_of (m ∷ ms) q)) [
      | true ↦ λ e.
          body_without ms n q
          ∙ (elim (bytes_eq n q) as (λ t. bytes_eq n q ≡ t → (if t then None else body_of ms q) ≡ (if t then None else body_of (m ∷ ms) q)) [
            | true ↦ λ _. refl
            | false ↦ λ f. sym (body-cons m ms q ∙ ap (λ b. if b then Some m.body else body_of ms q) (same-test m.name n q e ∙ f))
          ] refl)
      | false ↦ λ e.
          body-cons m (without ms n) q
          ∙ (ap (λ x. if bytes_eq m.name q then Some m.body else x) (body_without ms n q)
          ∙ (elim (bytes_eq n q) as (λ t. bytes_eq n q ≡ t → (if bytes_eq m.name q then Some m.body else (if t then None else body_of ms q)) ≡ (if t then None else body_of (m ∷ ms) q)) [
            | true ↦ λ f. ap (λ b. if b then Some m.body else None) (one-only m.name n q e f)
            | false ↦ λ _. sym (body-cons m ms q)
          ] refl))
    ] refl)

-- ---- the table after a name is set

joins : (a b q : List ℕ) → bytes_eq a b ≡ true → bytes_eq a q ≡ true → bytes_eq q b ≡ true
joins a b q h j = (bytes_decides q b).1 (sym ((bytes_decides a q).0 j) ∙ (bytes_decides a b).0 h)

parts : (a b q : List ℕ) → bytes_eq a b ≡ true → bytes_eq a q ≡ false → bytes_eq q b ≡ false
parts a b q h j = false_from_ne_true _ (λ t. true≢false (sym ((bytes_decides a q).1 ((bytes_decides a b).0 h ∙ sym ((bytes_decides q b).0 t))) ∙ j))

other : (a b q : List ℕ) → bytes_eq a b ≡ false → bytes_eq a q ≡ true → bytes_eq q b ≡ false
other a b q h j = false_from_ne_true _ (λ t. true≢false (sym ((bytes_decides a b).1 ((bytes_decides a q).0 j ∙ (bytes_decides q b).0 t)) ∙ h))

turned : (a b : List ℕ) → bytes_eq a b ≡ true → bytes_eq b a ≡ true
turned a b h = (bytes_decides b a).1 (sym ((bytes_decides a b).0 h))

apart : (a b : List ℕ) → bytes_eq a b ≡ false → bytes_eq b a ≡ false
apart a b h = false_from_ne_true _ (λ t. true≢false (sym (turned b a t) ∙ h))

module _ {K X : Type 0} (items : K → List ℕ) where
  abbrev pub set_entry : List (K × X) → K → X → List (K × X)
  set_entry es k v = insert_entry (λ a b. bytes_eq (items a) (items b)) es k v

  abbrev pub found : List ℕ → List (K × X) → Option X
  found q es = lookup (λ k. bytes_eq q (items k)) es

  pub found-set : (es : List (K × X)) (k : K) (v : X) (q : List ℕ) → found q (set_entry es k v) ≡ (if bytes_eq (items k) q then Some v else found q es)
  found-set [] k v q =
      elim (bytes_eq (items k) q) as (λ b. bytes_eq (items k) q ≡ b → (if bytes_eq q (items k) then Some v else None) ≡ (if b then Some v else None)) [
        | true ↦ λ e. ap (λ b. if b then Some v else None) (turned (items k) q e)
        | false ↦ λ e. ap (λ b. if b then Some v else None) (apart (items k) q e)
      ] refl
  found-set (e ∷ es) k v q =
      elim (bytes_eq (items k) (items e.0)) as (λ b. bytes_eq (items k) (items e.0) ≡ b → found q (if b then (e.0, v) ∷ es else e ∷ set_entry es k v) ≡ (if bytes_eq (items k) q then Some v else (if bytes_eq q (items e.0) then Some e.1 else found q es))) [
        | true ↦ λ h.
            elim (bytes_eq (items k) q) as (λ c. bytes_eq (items k) q ≡ c → (if bytes_eq q (items e.0) then Some v else found q es) ≡ (if c then Some v else (if bytes_eq q (items e.0) then Some e.1 else found q es))) [
              | true ↦ λ j. ap (λ b. if b then Some v else found q es) (joins (items k) (items e.0) q h j)
              | false ↦ λ j. ap (λ b. if b then Some v else found q es) (parts (items k) (items e.0) q h j) ∙ sym (ap (λ b. if b then Some e.1 else found q es) (parts (items k) (items e.0) q h j))
            ] refl
        | false ↦ λ h.
            ap (λ x. if bytes_eq q (items e.0) then Some e.1 else x) (found-set es k v q)
            ∙ (elim (bytes_eq (items k) q) as (λ c. bytes_eq (items k) q ≡ c → (if bytes_eq q (items e.0) then Some e.1 else (if c then Some v else found q es)) ≡ (if c then Some v else (if bytes_eq q (items e.0) then Some e.1 else found q es))) [
              | true ↦ λ j. ap (λ b. if b then Some e.1 else Some v) (other (items k) (items e.0) q h j)
              | false ↦ λ _. refl
            ] refl)
      ] refl

pub flat_if : {X : Type 0} (b : Bool) (x : Option X) (r : Option (Option X)) → flat (if b then Some x else r) ≡ (if b then x else flat r)
flat_if true x r = refl
flat_if false x r = refl
