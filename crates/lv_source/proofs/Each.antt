-- What holds of each, or of some, element of a list.
use Rattle.std.proofs.Common.{◌⊎◌, inl, inr, List, [], ◌∷◌, ◌++◌, map}

abbrev pub Each : {A : Type 0} → (A → Type 0) → List A → Type 0
Each P [] = Unit {0}
Each P (x ∷ xs) = P x × Each P xs

abbrev pub Some' : {A : Type 0} → (A → Type 0) → List A → Type 0
Some' P [] = ⊥
Some' P (x ∷ xs) = P x ⊎ Some' P xs

-- of two lists, one element by one
abbrev pub Pairs : {A B : Type 0} → (A → B → Type 0) → List A → List B → Type 0
Pairs R [] [] = Unit {0}
Pairs R (x ∷ xs) (y ∷ ys) = R x y × Pairs R xs ys
Pairs R _ _ = ⊥

pub each-left : {A : Type 0} (P : A → Type 0) (xs ys : List A) → Each P (xs ++ ys) → Each P xs
each-left P [] ys h = tt
each-left P (x ∷ xs) ys h = (h.0, each-left P xs ys h.1)

pub each-right : {A : Type 0} (P : A → Type 0) (xs ys : List A) → Each P (xs ++ ys) → Each P ys
each-right P [] ys h = h
each-right P (x ∷ xs) ys h = each-right P xs ys h.1

pub each-join : {A : Type 0} (P : A → Type 0) (xs ys : List A) → Each P xs → Each P ys → Each P (xs ++ ys)
each-join P [] ys h k = k
each-join P (x ∷ xs) ys h k = (h.0, each-join P xs ys h.1 k)

pub each-map : {A B : Type 0} (f : A → B) (P : B → Type 0) (xs : List A) → Each (λ x. P (f x)) xs → Each P (map f xs)
each-map f P [] h = tt
each-map f P (x ∷ xs) h = (h.0, each-map f P xs h.1)

pub each-unmap : {A B : Type 0} (f : A → B) (P : B → Type 0) (xs : List A) → Each P (map f xs) → Each (λ x. P (f x)) xs
each-unmap f P [] h = tt
each-unmap f P (x ∷ xs) h = (h.0, each-unmap f P xs h.1)

pub each-imp : {A : Type 0} (P Q : A → Type 0) (xs : List A) → ((x : A) → P x → Q x) → Each P xs → Each Q xs
each-imp P Q [] f h = tt
each-imp P Q (x ∷ xs) f h = (f x h.0, each-imp P Q xs f h.1)

pub some-left : {A : Type 0} (P : A → Type 0) (xs ys : List A) → Some' P xs → Some' P (xs ++ ys)
some-left P [] ys h = absurd h
some-left P (x ∷ xs) ys (inl h) = inl h
some-left P (x ∷ xs) ys (inr h) = inr (some-left P xs ys h)

pub some-right : {A : Type 0} (P : A → Type 0) (xs ys : List A) → Some' P ys → Some' P (xs ++ ys)
some-right P [] ys h = h
some-right P (x ∷ xs) ys h = inr (some-right P xs ys h)

-- in a part, or in the other
pub some-split : {A : Type 0} (P : A → Type 0) (xs ys : List A) → Some' P (xs ++ ys) → Some' P xs ⊎ Some' P ys
some-split P [] ys h = inr h
some-split P (x ∷ xs) ys (inl h) = inl (inl h)
some-split P (x ∷ xs) ys (inr h) = elim (some-split P xs ys h) [ inl k ↦ inl (inr k) | inr k ↦ inr k ]

pub some-map : {A B : Type 0} (f : A → B) (P : B → Type 0) (xs : List A) → Some' (λ x. P (f x)) xs → Some' P (map f xs)
some-map f P [] h = absurd h
some-map f P (x ∷ xs) (inl h) = inl h
some-map f P (x ∷ xs) (inr h) = inr (some-map f P xs h)

pub some-imp : {A : Type 0} (P Q : A → Type 0) (xs : List A) → ((x : A) → P x → Q x) → Some' P xs → Some' Q xs
some-imp P Q [] f h = absurd h
some-imp P Q (x ∷ xs) f (inl h) = inl (f x h)
some-imp P Q (x ∷ xs) f (inr h) = inr (some-imp P Q xs f h)
