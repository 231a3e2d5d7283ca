-- Two cuts of one list, and lists that can't be one.
use Rattle.std.specs.Prelude.{◌≡◌, List, [], ◌∷◌, ◌++◌, Bool, true, false, not, ◌&&◌, ◌||◌}
use Rattle.std.proofs.Common.{refl, sym, ◌∙◌, append_assoc, append-nil, ◌⊎◌, inl, inr}

-- of two cuts of one list the one is within the other
pub compare : {T : Type 0} (a b c d : List T) → a ++ b ≡ c ++ d → ((m : List T) × (a ≡ c ++ m) × (d ≡ m ++ b)) ⊎ ((m : List T) × (c ≡ a ++ m) × (b ≡ m ++ d))
compare [] b c d e = inr (c, refl, e)
compare (x ∷ a) b [] d e = inl (x ∷ a, refl, sym e)
compare (x ∷ a) b (y ∷ c) d e =
    let h : x ≡ y = cc in
    let q : a ++ b ≡ c ++ d = cc in
    elim (compare a b c d q) [
      | inl p ↦ inl (p.0, (let f : a ≡ c ++ p.0 = p.1 in cc), p.2)
      | inr p ↦ inr (p.0, (let f : c ≡ a ++ p.0 = p.1 in cc), p.2)
    ]

-- how two cuts of one list stand to each other: at one place, or one of them behind the other by some tokens
pub data Cuts {T : Type 0} (a b c d : List T) : Type 0 where
  same : a ≡ c → b ≡ d → Cuts a b c d
  longer : (t : T) (m : List T) → a ≡ c ++ (t ∷ m) → d ≡ t ∷ (m ++ b) → Cuts a b c d
  shorter : (t : T) (m : List T) → c ≡ a ++ (t ∷ m) → b ≡ t ∷ (m ++ d) → Cuts a b c d

pub cuts : {T : Type 0} (a b c d : List T) → a ++ b ≡ c ++ d → Cuts a b c d
cuts {T} a b c d e = elim (compare a b c d e) [ inl p ↦ left p.0 p.1 p.2 | inr p ↦ right p.0 p.1 p.2 ]
  where
    left : (m : List T) → a ≡ c ++ m → d ≡ m ++ b → Cuts a b c d
    left [] f g = same (f ∙ append-nil c) (sym g)
    left (t ∷ m) f g = longer t m f g

    right : (m : List T) → c ≡ a ++ m → b ≡ m ++ d → Cuts a b c d
    right [] f g = same (sym (f ∙ append-nil a)) g
    right (t ∷ m) f g = shorter t m f g

pub nil_cons : {T : Type 0} (x : T) (xs : List T) → x ∷ xs ≡ [] → ⊥
nil_cons x xs e = cc

pub nil_behind : {T : Type 0} (us : List T) (x : T) (xs : List T) → us ++ (x ∷ xs) ≡ [] → ⊥
nil_behind [] x xs e = nil_cons x xs e
nil_behind (u ∷ us) x xs e = nil_cons u (us ++ (x ∷ xs)) e

pub left_nil : {T : Type 0} (us vs : List T) → us ++ vs ≡ [] → us ≡ []
left_nil [] vs e = refl
left_nil (u ∷ us) vs e = absurd (nil_cons u (us ++ vs) e)

pub right_nil : {T : Type 0} (us vs : List T) → us ++ vs ≡ [] → vs ≡ []
right_nil [] vs e = e
right_nil (u ∷ us) vs e = absurd (nil_cons u (us ++ vs) e)

pub same_head : {T : Type 0} (x y : T) (xs ys : List T) → x ∷ xs ≡ y ∷ ys → x ≡ y
same_head x y xs ys e = cc

pub same_tail : {T : Type 0} (x y : T) (xs ys : List T) → x ∷ xs ≡ y ∷ ys → xs ≡ ys
same_tail x y xs ys e = cc

-- a cut that stands behind a token
pub cut_once_more : {T : Type 0} (us : List T) (t : T) (more : List T) → us ++ (t ∷ more) ≡ (us ++ (t ∷ [])) ++ more
cut_once_more us t more = sym (append_assoc us (t ∷ []) more)

-- ---- the parts of truth values
pub true_false : {P : Type 0} (b : Bool) → b ≡ true → b ≡ false → P
true_false b e f = absurd cc

pub and_left : (a b : Bool) → (a && b) ≡ true → a ≡ true
and_left true b e = refl
and_left false b e = e

pub and_right : (a b : Bool) → (a && b) ≡ true → b ≡ true
and_right true b e = e
and_right false b e = true_false false e refl

pub of_not : (a : Bool) → not a ≡ true → a ≡ false
of_not true e = sym e
of_not false e = refl

pub to_not : (a : Bool) → a ≡ false → not a ≡ true
to_not true e = sym e
to_not false e = refl

pub or_cases : (a b : Bool) → (a || b) ≡ true → (a ≡ true) ⊎ (b ≡ true)
or_cases true b e = inl refl
or_cases false b e = inr e

pub or_left : (a b : Bool) → a ≡ true → (a || b) ≡ true
or_left true b e = refl
or_left false b e = true_false false e refl

pub or_right : (a b : Bool) → b ≡ true → (a || b) ≡ true
or_right true b e = refl
or_right false b e = e

pub not_or_left : (a b : Bool) → (a || b) ≡ false → a ≡ false
not_or_left true b e = e
not_or_left false b e = refl

pub not_or_right : (a b : Bool) → (a || b) ≡ false → b ≡ false
not_or_right true b e = true_false true refl e
not_or_right false b e = e

pub not_or : (a b : Bool) → a ≡ false → b ≡ false → (a || b) ≡ false
not_or true b e f = e
not_or false b e f = f
