-- What is said of an option, weakened.
use Rattle.std.proofs.Common.{◌≡◌, subst}
use Rattle.std.specs.Prelude.{Option, Some, None, MatchOption}

pub match_weaker : {A : Type 0} (r : Option A) (P Q : Type 0) (R S : A → Type 0) → (P → Q) → ((x : A) → R x → S x) → MatchOption r P R → MatchOption r Q S
match_weaker None P Q R S f g h = f h
match_weaker (Some x) P Q R S f g h = g x h

pub none_in : {A : Type 0} (r : Option A) (P : Type 0) (R : A → Type 0) → r ≡ None → MatchOption r P R → P
none_in r P R e h = subst (λ o. MatchOption o P R) e h

pub some_in : {A : Type 0} (r : Option A) (x : A) (P : Type 0) (R : A → Type 0) → r ≡ Some x → MatchOption r P R → R x
some_in r x P R e h = subst (λ o. MatchOption o P R) e h
