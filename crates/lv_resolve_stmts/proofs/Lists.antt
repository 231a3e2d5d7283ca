-- Statements where they stand, in lists.
use Rattle.std.proofs.Common.{◌≡◌, inl, inr, Bool, true, ◌&&◌, List, [], ◌∷◌, ◌++◌, ap, subst, refl, map, arith}
use Rattle.std.specs.List.{Contains, list_all}
use Rattle.std.proofs.lemmas.List.Elements.{Contains-append_left, Contains-append_right, Contains-append_cases}
use Rattle.lv_source.specs.Standing.{Standing}
use Rattle.lv_resolve.proofs.Nodes.{and-left, and-right, and-both}
use Rattle.lv_resolve.proofs.Covers.{nowhere-in}
use Rattle.lv_resolve.proofs.Zeros.{single}
use Rattle.lv_resolve_stmts.specs.declared.error.StmtError.{StmtError}
use Rattle.lv_resolve_stmts.specs.declared.error.StmtError.TheVariants as x
use Rattle.lv_resolve_stmts.specs.Statements.{IsSound, AreSound, IsFaultOf, IsToldAt, memory, found}

pub sound-none : AreSound []
sound-none = record { each = λ k c. absurd (nowhere-in k c) }

pub sound-one : (k : Standing) → IsSound k → AreSound (k ∷ [])
sound-one k h = record { each = λ m c. subst IsSound (single k m c) h }

pub sound-both : (ks ms : List Standing) → AreSound ks → AreSound ms → AreSound (ks ++ ms)
sound-both ks ms h i = record {
  each = λ k c. elim (Contains-append_cases ks ms k c) [
    | inl a ↦ h.each k a
    | inr a ↦ i.each k a
  ];
}

-- ---- errors

pub within : (ks ms : List Standing) (e : StmtError) → ((k : Standing) → Contains ks k → Contains ms k) → IsFaultOf ks e → IsFaultOf ms e
within ks ms e f (memory h) = memory h
within ks ms e f (found k c t) = found k (f k c) t

pub fault-left : (ks ms : List Standing) (e : StmtError) → IsFaultOf ks e → IsFaultOf (ks ++ ms) e
fault-left ks ms e h = within ks (ks ++ ms) e (λ k c. Contains-append_left ks ms k c) h

pub fault-right : (ks ms : List Standing) (e : StmtError) → IsFaultOf ms e → IsFaultOf (ks ++ ms) e
fault-right ks ms e h = within ms (ks ++ ms) e (λ k c. Contains-append_right ks ms k c) h

pub fault-one : (k : Standing) (e : StmtError) → IsToldAt k e → IsFaultOf (k ∷ []) e
fault-one k e h = found k (0, omega arith, refl) h

pub no-memory : (ks : List Standing) (e : StmtError) → e ≡ x.NoMemory → IsFaultOf ks e
no-memory ks e h = memory h

-- ---- lists

pub append-nil : {A : Type 0} (xs : List A) → xs ++ [] ≡ xs
append-nil [] = refl
append-nil (z ∷ xs) = ap (λ ys. z ∷ ys) (append-nil xs)

pub all-mapped : {A : Type 0} (f : A → Bool) (xs : List A) → list_all (λ (b : Bool). b) (map f xs) ≡ list_all f xs
all-mapped f [] = refl
all-mapped f (z ∷ xs) = ap (λ b. f z && b) (all-mapped f xs)

pub all-joined : {A : Type 0} (f : A → Bool) (xs ys : List A) → list_all f xs ≡ true → list_all f ys ≡ true → list_all f (xs ++ ys) ≡ true
all-joined f [] ys h k = k
all-joined f (z ∷ xs) ys h k = and-both (f z) (list_all f (xs ++ ys)) (and-left (f z) (list_all f xs) h) (all-joined f xs ys (and-right (f z) (list_all f xs) h) k)
