-- A piece that is given to a sink bit by bit.
use Rattle.std.proofs.lemmas.List.{take_rest, take-append-drop}
use Rattle.std.proofs.Common.{◌≡◌, ◌<◌, ◌≤◌, ℕ, ◌-◌, List, [], ◌∷◌, ◌++◌, length, take, drop, Option, Some, None, refl, sym, ◌∙◌, ap, append_assoc, arith}
use Rattle.lv_io.specs.Given.{Gains, GainsPart}

-- the piece is what was given so far and the rest
pub record Put {D : Type 0} (given : D → Option (List ℕ)) (faults : D → ℕ) (before now : D) (piece rest : List ℕ) : Type 0 where
  pub done : List ℕ
  pub whole : piece ≡ done ++ rest
  pub gains : Gains (given before) (given now) done
  pub later : faults before ≤ faults now
  pub unmoved : piece ≡ [] → now ≡ before

append_nil : (xs : List ℕ) → xs ++ [] ≡ xs
append_nil [] = refl
append_nil (x ∷ xs) = ap (λ ys. x ∷ ys) (append_nil xs)

gains_nothing : (given : Option (List ℕ)) → Gains given given []
gains_nothing None = refl
gains_nothing (Some bytes) = ap Some (sym (append_nil bytes))

gains_twice : (before now after : Option (List ℕ)) (first second : List ℕ) → Gains before now first → Gains now after second → Gains before after (first ++ second)
gains_twice None now after first second e f = rw e at f
gains_twice (Some bytes) now after first second e f = (rw e at f) ∙ ap Some (append_assoc bytes first second)

tail_whole : (count : ℕ) (xs : List ℕ) → take (length xs - count) (drop count xs) ≡ drop count xs
tail_whole count xs = take_rest xs count

no_piece : {P : Type 0} (done rest piece : List ℕ) → piece ≡ done ++ rest → 0 < length rest → piece ≡ [] → P
no_piece [] [] piece e f g = absurd (omega arith)
no_piece [] (x ∷ xs) piece e f g = let h : x ∷ xs ≡ [] = sym e ∙ g in cc
no_piece (y ∷ ys) rest piece e f g = let h : y ∷ (ys ++ rest) ≡ [] = sym e ∙ g in cc

pub starts : {D : Type 0} (given : D → Option (List ℕ)) (faults : D → ℕ) (sink : D) (piece : List ℕ) → Put given faults sink sink piece piece
starts given faults sink piece = record { done = []; whole = refl; gains = gains_nothing (given sink); later = omega arith; unmoved = λ _. refl }

pub goes_on : {D : Type 0} (given : D → Option (List ℕ)) (faults : D → ℕ) (before now next : D) (piece rest : List ℕ) (count : ℕ) → Put given faults before now piece rest → 0 < length rest → Gains (given now) (given next) (take count rest) → faults now ≤ faults next → Put given faults before next piece (take (length rest - count) (drop count rest))
goes_on given faults before now next piece rest count put some takes later =
    rw tail_whole
    record {
      done = put.done ++ take count rest;
      whole = put.whole ∙ ap (λ ys. put.done ++ ys) (sym (take-append-drop count rest)) ∙ sym (append_assoc put.done (take count rest) (drop count rest));
      gains = gains_twice (given before) (given now) (given next) put.done (take count rest) put.gains takes;
      later = omega (arith, put.later);
      unmoved = no_piece put.done rest piece put.whole some;
    }

pub ends : {D : Type 0} (given : D → Option (List ℕ)) (faults : D → ℕ) (before now : D) (piece rest : List ℕ) → Put given faults before now piece rest → rest ≡ [] → Gains (given before) (given now) piece
ends given faults before now piece rest put none =
    let e : piece ≡ put.done = put.whole ∙ ap (λ ys. put.done ++ ys) none ∙ append_nil put.done in rw e put.gains

pub fails : {D : Type 0} (given : D → Option (List ℕ)) (faults : D → ℕ) (before now next : D) (piece rest : List ℕ) → Put given faults before now piece rest → 0 < length rest → given next ≡ given now → GainsPart (given before) (given next) piece
fails given faults before now next piece rest put some same =
    record { part = put.done; rest = rest; whole = put.whole; some_left = some; gains = same ∙ put.gains }
