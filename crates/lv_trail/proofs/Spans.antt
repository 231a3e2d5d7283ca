-- Clauses whose literals stand in one list.
use Rattle.std.proofs.Common.{◌≡◌, ℕ, suc, zero, ◌+◌, ◌≤◌, List, [], ◌∷◌, ◌++◌, map, length, take, drop, ◌∙◌, ap, subst, arith, length-drop}
use Rattle.std.specs.Prelude.{Some, slice_get}
use Rattle.std.proofs.Math.Seq.{drop-append_seam}
use Rattle.std.proofs.lemmas.List.{take-append-le, drop-append-le, take_all}
use Rattle.lv_clauses.specs.Literals.{Lit}
use Rattle.lv_trail.specs.declared.arena.Span.{Span}
use Rattle.lv_trail.specs.Arena.{part, AreSpans}

part-kept : (lits more : List Lit) (s : Span) → s.start + s.len ≤ length lits → part (lits ++ more) s ≡ part lits s
part-kept lits more s h =
    ap (take s.len) (drop-append-le s.start lits more (omega arith)) ∙ take-append-le s.len (drop s.start lits) more (omega (arith, length-drop s.start lits))

part-new : (lits more : List Lit) (s : Span) → s.start ≡ length lits → s.len ≡ length more → part (lits ++ more) s ≡ more
part-new lits more s a b = rw (a, b) (rw (drop-append_seam lits more) (grind (arith, take_all)))

pub parts-push : (lits more : List Lit) (ss : List Span) (s : Span) → AreSpans (length lits) ss → s.start ≡ length lits → s.len ≡ length more → map (part (lits ++ more)) (ss ++ s ∷ []) ≡ map (part lits) ss ++ more ∷ []
parts-push lits more [] s h a b = ap (λ z. z ∷ []) (part-new lits more s a b)
parts-push lits more (x ∷ ss) s h a b =
    ap (λ z. z ∷ map (part (lits ++ more)) (ss ++ s ∷ [])) (part-kept lits more x h.0) ∙ ap (λ z. part lits x ∷ z) (parts-push lits more ss s h.1 a b)

pub spans-push : (n m : ℕ) (ss : List Span) (s : Span) → AreSpans n ss → n ≤ m → s.start + s.len ≤ m → AreSpans m (ss ++ s ∷ [])
spans-push n m [] s h le b = (b, tt)
spans-push n m (x ∷ ss) s h le b = (omega (arith, h.0), spans-push n m ss s h.1 le b)

some_same : (a b : Span) → Some a ≡ Some b → a ≡ b
some_same a b e = cc

pub span-within : (n : ℕ) (ss : List Span) (k : ℕ) (s : Span) → AreSpans n ss → slice_get ss k ≡ Some s → s.start + s.len ≤ n
span-within n [] k s h e = cc
span-within n (x ∷ ss) zero s h e = subst (λ z. z.start + z.len ≤ n) (some_same x s e) h.0
span-within n (x ∷ ss) (suc k) s h e = span-within n ss k s h.1 e

pub part-at : (lits : List Lit) (ss : List Span) (k : ℕ) (s : Span) → slice_get ss k ≡ Some s → slice_get (map (part lits) ss) k ≡ Some (part lits s)
part-at lits [] k s e = cc
part-at lits (x ∷ ss) zero s e = ap (λ z. Some (part lits z)) (some_same x s e)
part-at lits (x ∷ ss) (suc k) s e = part-at lits ss k s e
