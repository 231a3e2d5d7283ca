-- Texts taken apart piece by piece are those of paths.
use Rattle.std.proofs.Common.{◌≡◌, inl, inr, ℕ, zero, suc, ◌+◌, ◌<◌, ◌≤◌, ◌==◌, eqb, Bool, true, false, cond, List, [], ◌∷◌, ◌++◌, length, take, drop, get_or, refl, sym, ap, ◌∙◌, arith, subst, Option, Some, None, append_assoc}
use Rattle.std.specs.Prelude.{bytes_eq, codes, decimal, if◌then◌else◌, nat_eq}
use Rattle.std.proofs.lemmas.Bool.{eqb-true, eq-eqb, ne_eqb}
use Rattle.std.proofs.lemmas.List.{length-append}
use Rattle.lv_ast.specs.Names.{Name, at_index, spelled, is_simple, step_text, steps_text}
use Rattle.lv_ast.specs.declared.expr.PathStep.{PathStep}
use Rattle.lv_source.proofs.Tests.{decide, same_name, name-itself}
use Rattle.lv_source.proofs.Unique.{clash}
use Rattle.std.proofs.Math.Seq.{take-suc}
use Rattle.lv_top_names.specs.Walking.{behind, behind_some, is_end}

behind-own : (p r : Name) → behind p (p ++ r) ≡ Some r
behind-own [] r = refl
behind-own (b ∷ bs) r = ap (λ t. if t then behind bs (bs ++ r) else None) (eq-eqb b b refl) ∙ behind-own bs r

behind-is : (p t r : Name) → behind p t ≡ Some r → t ≡ p ++ r
behind-is [] t r h = let e : t ≡ r = cc in e
behind-is (b ∷ bs) [] r h = cc
behind-is (b ∷ bs) (c ∷ cs) r h = elim (b == c) as (λ x. (b == c) ≡ x → (if x then behind bs cs else None) ≡ Some r → c ∷ cs ≡ b ∷ (bs ++ r)) [
  | true ↦ λ e k. ap (λ x. x ∷ cs) (sym (eqb-true b c e)) ∙ ap (λ xs. b ∷ xs) (behind-is bs cs r k)
  | false ↦ λ e k. cc
] refl h

pub behind-append : (a b t : Name) → behind (a ++ b) t ≡ behind_some b (behind a t)
behind-append [] b t = refl
behind-append (x ∷ xs) b [] = refl
behind-append (x ∷ xs) b (c ∷ cs) = elim (x == c) as (λ e. (if e then behind (xs ++ b) cs else None) ≡ behind_some b (if e then behind xs cs else None)) [
  | true ↦ behind-append xs b cs
  | false ↦ refl
]

pub some-append : (a b : Name) (t : Option Name) → behind_some (a ++ b) t ≡ behind_some b (behind_some a t)
some-append a b None = refl
some-append a b (Some t) = behind-append a b t

-- ---- what `strip_prefix` answers

take-drop : (n : ℕ) (t : Name) → take n t ++ drop n t ≡ t
take-drop zero t = refl
take-drop (suc n) [] = refl
take-drop (suc n) (x ∷ xs) = ap (λ ys. x ∷ ys) (take-drop n xs)

take-own : (p r : Name) → take (length p) (p ++ r) ≡ p
take-own [] r = refl
take-own (x ∷ xs) r = ap (λ ys. x ∷ ys) (take-own xs r)

pub stripped : (p t r : Name) → bytes_eq (take (length p) t) p ≡ true → r ≡ drop (length p) t → Some r ≡ behind p t
stripped p t r h e =
    let same : take (length p) t ≡ p = same_name (take (length p) t) p h in
    let whole : p ++ drop (length p) t ≡ t = ap (λ x. x ++ drop (length p) t) (sym same) ∙ take-drop (length p) t in
    ap (λ x. Some x) e ∙ (sym (behind-own p (drop (length p) t)) ∙ ap (behind p) whole)

pub not-stripped : (p t : Name) → bytes_eq (take (length p) t) p ≡ false → None ≡ behind p t
not-stripped p t h = go (behind p t) refl
  where
    go : (o : Option Name) → behind p t ≡ o → None ≡ behind p t
    go None e = sym e
    go (Some r) e =
        let whole : t ≡ p ++ r = behind-is p t r e in
        clash (bytes_eq (take (length p) t) p) (ap (λ x. bytes_eq (take (length p) x) p) whole ∙ (ap (λ x. bytes_eq x p) (take-own p r) ∙ name-itself p)) h

-- ---- pieces of paths

taken-more : (xs : List PathStep) (i : ℕ) (x : PathStep) → i < length xs → x ≡ get_or xs i x → take (i + 1) xs ≡ take i xs ++ x ∷ []
taken-more xs i x lt h = let n : i + 1 ≡ suc i = omega arith in ap (λ k. take k xs) n ∙ (take-suc xs i x lt ∙ ap (λ y. take i xs ++ y ∷ []) (sym h))

pub escaped : (name : Name) (t : Option Name) → behind_some (codes " ") (behind_some name (behind_some (codes "\\") t)) ≡ behind_some (codes "\\" ++ name ++ codes " ") t
escaped name t = ap (behind_some (codes " ")) (sym (some-append (codes "\\") name t)) ∙ sym (some-append (codes "\\" ++ name) (codes " ") t)

pub indexed : (name d : Name) (t o : Option Name) → o ≡ behind_some name t →
    behind_some (codes "]") (behind_some d (behind_some (codes "[") o)) ≡ behind_some (at_index name d) t
indexed name d t o e =
    ap (λ x. behind_some (codes "]") (behind_some d (behind_some (codes "[") x))) e ∙
    (ap (λ x. behind_some (codes "]") (behind_some d x)) (sym (some-append name (codes "[") t)) ∙
    (ap (behind_some (codes "]")) (sym (some-append (name ++ codes "[") d t)) ∙ sym (some-append (name ++ codes "[" ++ d) (codes "]") t)))

pub step-none : (s : PathStep) (t : Option Name) → s.index ≡ None → behind_some (spelled s.name) t ≡ behind_some (step_text s) t
step-none s t e = ap (λ (o : Option ℕ). behind_some (elim o [ None ↦ spelled s.name | Some i ↦ at_index (spelled s.name) (decimal i) ]) t) (sym e)

pub step-some : (s : PathStep) (i : ℕ) (t o : Option Name) → s.index ≡ Some i → o ≡ behind_some (spelled s.name) t →
    behind_some (codes "]") (behind_some (decimal i) (behind_some (codes "[") o)) ≡ behind_some (step_text s) t
step-some s i t o e h =
    indexed (spelled s.name) (decimal i) t o h ∙
    ap (λ (o : Option ℕ). behind_some (elim o [ None ↦ spelled s.name | Some i ↦ at_index (spelled s.name) (decimal i) ]) t) (sym e)

pub take-all : (xs : List PathStep) (n : ℕ) → length xs ≤ n → take n xs ≡ xs
take-all [] zero h = refl
take-all [] (suc n) h = refl
take-all (x ∷ xs) zero h = absurd (omega arith)
take-all (x ∷ xs) (suc n) h = ap (λ ys. x ∷ ys) (take-all xs n (omega arith))

pub simple-name : (name : Name) (b : Bool) (t : Option Name) → is_simple name ≡ b → behind_some (if b then name else codes "\\" ++ name ++ codes " ") t ≡ behind_some (spelled name) t
simple-name name b t e = ap (λ c. behind_some (if c then name else codes "\\" ++ name ++ codes " ") t) (sym e)

steps-join : (xs : List PathStep) (s : PathStep) → steps_text (xs ++ s ∷ []) ≡ steps_text xs ++ (step_text s ++ codes ".")
steps-join [] s = none (step_text s ++ codes ".")
  where
    none : (t : Name) → t ++ [] ≡ t
    none [] = refl
    none (x ∷ xs) = ap (λ ys. x ∷ ys) (none xs)
steps-join (x ∷ xs) s =
    ap (λ t. (step_text x ++ codes ".") ++ t) (steps-join xs s) ∙ sym (append_assoc (step_text x ++ codes ".") (steps_text xs) (step_text s ++ codes "."))

pub steps-more : (xs : List PathStep) (i : ℕ) (s : PathStep) (t : Name) (o a b : Option Name) → i < length xs → s ≡ get_or xs i s → o ≡ behind (steps_text (take i xs)) t →
    a ≡ behind_some (step_text s) o → b ≡ behind_some (codes ".") a → b ≡ behind (steps_text (take (i + 1) xs)) t
steps-more xs i s t o a b l e h p q =
    q ∙ (ap (behind_some (codes ".")) (p ∙ ap (behind_some (step_text s)) h) ∙
    (sym (some-append (step_text s) (codes ".") (behind (steps_text (take i xs)) t)) ∙
    (sym (behind-append (steps_text (take i xs)) (step_text s ++ codes ".") t) ∙
    ap (λ x. behind x t) (sym (steps-join (take i xs) s) ∙ ap steps_text (sym (taken-more xs i s l e))))))

pub ended : (p t : Name) (o : Option Name) → o ≡ behind p t → is_end o ≡ bytes_eq t p
ended p t None e = elim (decide (bytes_eq t p)) [
  | inr n ↦ sym n
  | inl y ↦ (let same : t ≡ p = same_name t p y in absurd (let w : None ≡ Some [] = e ∙ (ap (behind p) (same ∙ plain p) ∙ behind-own p []) in cc))
]
  where
    plain : (p : Name) → p ≡ p ++ []
    plain [] = refl
    plain (x ∷ xs) = ap (λ ys. x ∷ ys) (plain xs)
ended p t (Some []) e = sym (ap (λ x. bytes_eq x p) (behind-is p t [] (sym e) ∙ plain p) ∙ name-itself p)
  where
    plain : (p : Name) → p ++ [] ≡ p
    plain [] = refl
    plain (x ∷ xs) = ap (λ ys. x ∷ ys) (plain xs)
ended p t (Some (x ∷ xs)) e = elim (decide (bytes_eq t p)) [
  | inr n ↦ ne_eqb (length (x ∷ xs)) 0 (λ z. omega arith) ∙ sym n
  | inl y ↦ absurd (
      let same : p ≡ p ++ x ∷ xs = sym (same_name t p y) ∙ behind-is p t (x ∷ xs) (sym e) in
      let count : length p ≡ length (p ++ x ∷ xs) = ap (λ z. length z) same in
      omega (arith, count, length-append p (x ∷ xs)))
]
