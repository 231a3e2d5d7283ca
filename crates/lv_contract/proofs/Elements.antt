-- Elements of lists, and what a test of all says of one.
use Rattle.std.proofs.Common.{◌≡◌, ℕ, zero, suc, ◌<◌, Bool, true, List, [], ◌∷◌, length, get_or, Contains, Some, slice_get, refl, sym, ◌∙◌, subst, arith}
use Rattle.std.specs.List.{list_all}
use Rattle.std.proofs.lemmas.Bool.{and_parts}
use Rattle.std.proofs.lemmas.Option.{none-some}

get_or-itself : {X : Type 0} (xs : List X) (i : ℕ) (d : X) → i < length xs → get_or xs i (get_or xs i d) ≡ get_or xs i d
get_or-itself [] i d h = absurd (omega arith)
get_or-itself (x ∷ xs) zero d h = refl
get_or-itself (x ∷ xs) (suc i) d h = get_or-itself xs i d (omega arith)

pub contains_at : {X : Type 0} (xs ys : List X) (i : ℕ) (d : X) → xs ≡ ys → i < length xs → Contains ys (get_or xs i d)
contains_at xs ys i d e h = subst (λ zs. Contains zs (get_or xs i d)) e (i, h, get_or-itself xs i d h)

some-is : {X : Type 0} (x y : X) → Some x ≡ Some y → x ≡ y
some-is x y h = cc

pub passes_at : {X : Type 0} (p : X → Bool) (xs : List X) (i : ℕ) (x : X) → list_all p xs ≡ true → slice_get xs i ≡ Some x → p x ≡ true
passes_at p [] i x h e = absurd (none-some x e)
passes_at p (y ∷ ys) zero x h e = subst (λ z. p z ≡ true) (some-is y x e) (and_parts (p y) (list_all p ys) h).0
passes_at p (y ∷ ys) (suc i) x h e = passes_at p ys i x (and_parts (p y) (list_all p ys) h).1 e

pub contains_get : {X : Type 0} (xs : List X) (i : ℕ) (x y : X) → slice_get xs i ≡ Some x → y ≡ x → Contains xs y
contains_get [] i x y h e = absurd (none-some x h)
contains_get (z ∷ xs) zero x y h e = (0, omega arith, some-is z x h ∙ sym e)
contains_get (z ∷ xs) (suc i) x y h e = let c = contains_get xs i x y h e in (suc c.0, omega (arith, c.1), c.2)
