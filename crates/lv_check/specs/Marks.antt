-- Marks, which tell the true literals of a line.
use Rattle.std.specs.Prelude.{◌≡◌, ℕ, ◌-◌, ◌<◌, ◌≤◌, Bool, true, false, ◌&&◌, eqb, List, [], ◌∷◌, map, length, get_or, slice_get, Some}
use Rattle.std.proofs.Math.Bool.{beq}
use Rattle.lv_clauses.specs.Literals.{Lit, has, negated, IsWithin}
use Rattle.lv_clauses.specs.Derivations.{Step}
use Rattle.lv_check.specs.declared.marks.Mark.{Mark}
use Rattle.lv_check.specs.declared.marks.Rest.{Rest}
use Rattle.lv_check.specs.declared.marks.Rest.TheVariants.{Nothing, One, More}

abbrev pub no_mark : Mark
no_mark = record { line = 0; neg = false }

abbrev pub mark_of : ℕ → Lit → Mark
mark_of n l = record { line = n; neg = l.neg }

abbrev pub tells : Mark → ℕ → Lit → Bool
tells m n l = eqb m.line n && beq m.neg l.neg

-- whether the literal is true in line n
abbrev pub marked : List Mark → ℕ → Lit → Bool
marked ms n l = tells (get_or ms (l.var - 1) no_mark) n l

-- the literals that are true in line n are those of t
abbrev pub Tells : List Mark → ℕ → List Lit → Type 0
Tells ms n t = (l : Lit) → 1 ≤ l.var → l.var ≤ length ms → marked ms n l ≡ has t l

-- each mark is of a line before n
abbrev pub AreBelow : List Mark → ℕ → Type 0
AreBelow ms n = (i : ℕ) → i < length ms → (get_or ms i no_mark).line < n

abbrev pub IsRest : List Lit → Rest → Type 0
IsRest [] r = r ≡ Nothing
IsRest (l ∷ []) r = r ≡ One l
IsRest (l ∷ k ∷ c) r = r ≡ More

-- the lines before k are over the first n variables
abbrev pub AreEarlierWithin : List Step → ℕ → ℕ → Type 0
AreEarlierWithin lines k n = (j : ℕ) (s : Step) → j < k → slice_get lines j ≡ Some s → IsWithin s.clause n

-- the negations of the literals are true, if they are over the variables that have marks
abbrev pub Assumed : List Mark → ℕ → List Lit → Bool → Type 0
Assumed ms n c true = Tells ms n (map negated c) × IsWithin c (length ms)
Assumed ms n c false = IsWithin c (length ms) → ⊥

abbrev pub IsRestWithin : ℕ → Rest → Type 0
IsRestWithin n (One l) = (1 ≤ l.var) × (l.var ≤ n)
IsRestWithin n _ = Unit {0}

abbrev pub so_far : Rest → List Lit
so_far (One l) = l ∷ []
so_far _ = []
