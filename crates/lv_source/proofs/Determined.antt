-- Next states are one, and runs are determined by their first state and their inputs.
use Rattle.std.proofs.Common.{◌≡◌, inl, inr, true, List, [], ◌∷◌, ◌++◌, refl, sym, ap, ◌∙◌, subst}
use Rattle.std.specs.Prelude.{flat_map, All}
use Rattle.std.specs.List.{AllZip}
use Rattle.std.proofs.lemmas.Bool.{cases_lt}
use Rattle.std.proofs.lemmas.List.Elements.{All-nil, All-cons, All-head, All-tail}
use Rattle.std.proofs.lemmas.Nat.Bits.{same_from_bits, bit_at_above}
use Rattle.lv_ast.specs.Names.{Name}
use Rattle.lv_source.specs.Names.{Valuation}
use Rattle.lv_source.specs.Places.{Bit, bit_at, has_bit, bits_below}
use Rattle.lv_source.specs.Parts.{Design, registers_of, width_at}
use Rattle.lv_source.specs.Settled.{IsSettled, Follows, SameOn, SameInputs, NextFollows, IsRun, StartAlike, next_bit}
use Rattle.lv_source.specs.Legal.{IsLegal}
use Rattle.lv_source.proofs.Within.{below_has}
use Rattle.lv_source.proofs.Facts.{all_bits_in}
use Rattle.lv_source.proofs.Unique.{unique}

all-left : {A : Type 0} (P : A → Type 0) (xs ys : List A) → All P (xs ++ ys) → All P xs
all-left P [] ys h = All-nil P
all-left P (x ∷ xs) ys h = All-cons P x xs (All-head P x (xs ++ ys) h) (all-left P xs ys (All-tail P x (xs ++ ys) h))

all-right : {A : Type 0} (P : A → Type 0) (xs ys : List A) → All P (xs ++ ys) → All P ys
all-right P [] ys h = h
all-right P (x ∷ xs) ys h = all-right P xs ys (All-tail P x (xs ++ ys) h)

module _ (d : Design) (v w u : Valuation) (sw : IsSettled d w) (su : IsSettled d u) where
  name_same : (name : Name) → All (λ b. bit_at w b ≡ next_bit d v b) (bits_below (width_at d name) name) → All (λ b. bit_at u b ≡ next_bit d v b) (bits_below (width_at d name) name) → w name ≡ u name
  name_same name h k = same_from_bits (w name) (u name) (λ i.
      elim (cases_lt i (width_at d name)) [
        | inl below ↦ (let b : Bit = record { name = name; place = i } in
            let at : has_bit (bits_below (width_at d name) name) b ≡ true = below_has (width_at d name) i name below in
            all_bits_in (λ b. bit_at w b ≡ next_bit d v b) (bits_below (width_at d name) name) h b at ∙ sym (all_bits_in (λ b. bit_at u b ≡ next_bit d v b) (bits_below (width_at d name) name) k b at))
        | inr above ↦ bit_at_above (w name) (width_at d name) i (sw.fits name) above ∙ sym (bit_at_above (u name) (width_at d name) i (su.fits name) above)
      ])

  names_same : (names : List Name) → All (λ b. bit_at w b ≡ next_bit d v b) (flat_map (λ name. bits_below (width_at d name) name) names) →
      All (λ b. bit_at u b ≡ next_bit d v b) (flat_map (λ name. bits_below (width_at d name) name) names) → SameOn names w u
  names_same [] h k = All-nil (λ name. w name ≡ u name)
  names_same (n ∷ ns) h k =
      let rest : List Bit = flat_map (λ name. bits_below (width_at d name) name) ns in
      All-cons (λ name. w name ≡ u name) n ns
      (name_same n (all-left (λ b. bit_at w b ≡ next_bit d v b) (bits_below (width_at d n) n) rest h) (all-left (λ b. bit_at u b ≡ next_bit d v b) (bits_below (width_at d n) n) rest k))
      (names_same ns (all-right (λ b. bit_at w b ≡ next_bit d v b) (bits_below (width_at d n) n) rest h) (all-right (λ b. bit_at u b ≡ next_bit d v b) (bits_below (width_at d n) n) rest k))

pub next_unique : (d : Design) (v w u : Valuation) → IsSettled d w → IsSettled d u → Follows d v w → Follows d v u → SameOn (registers_of d) w u
next_unique d v w u sw su h k = names_same d v w u sw su (registers_of d) h k

module _ (d : Design) (legal : IsLegal d) where
  next_alike : (v w : Valuation) (vs ws : List Valuation) → v ≡ w → NextFollows d v vs → NextFollows d w ws → IsRun d vs → IsRun d ws → StartAlike d vs ws
  next_alike v w [] ws e f g h k = tt
  next_alike v w (v' ∷ vs) [] e f g h k = tt
  next_alike v w (v' ∷ vs) (w' ∷ ws) e f g h k = next_unique d v v' w' h.0 k.0 f (subst (λ (x : Valuation). Follows d x w') (sym e) g)

  pub runs_same : (vs ws : List Valuation) → IsRun d vs → IsRun d ws → StartAlike d vs ws → AllZip (SameInputs d) vs ws → vs ≡ ws
  runs_same [] [] h k f i = refl
  runs_same [] (w ∷ ws) h k f i = absurd i
  runs_same (v ∷ vs) [] h k f i = absurd i
  runs_same (v ∷ vs) (w ∷ ws) h k f i =
      let same : v ≡ w = unique d legal v w h.0 k.0 f i.0 in
      let rest : vs ≡ ws = runs_same vs ws h.2 k.2 (next_alike v w vs ws same h.1 k.1 h.2 k.2) i.1 in
      ap (λ (x : Valuation). x ∷ vs) same ∙ ap (λ (xs : List Valuation). w ∷ xs) rest
