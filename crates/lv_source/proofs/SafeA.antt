-- Design A, read as Verilog, is safe.
use Rattle.std.specs.Fmt.{digits}
use Rattle.lv_source.specs.Meaning.{read_expr, read_select}
use Rattle.lv_source.specs.Effect.{pieces, executes, turns, turns_from}
use Rattle.lv_source.specs.Flow.{flow}
use Rattle.lv_source.specs.Declarations.{labels}
use Rattle.lv_source.specs.Parts.{as_target, parts, scopes_of, signals_of}
use Rattle.lv_source.specs.Sites.{walk, walk_select, target_sites}
use Rattle.lv_source.specs.Standing.{standing}
use Rattle.std.proofs.Common.{◌≡◌, ℕ, zero, suc, ◌+◌, ◌<◌, Bool, true, List, [], ◌∷◌, length, refl, ap, arith, nat_eq, sym, ◌∙◌}
use Rattle.std.specs.Prelude.{if◌then◌else◌, slice_index, codes, bytes_eq, bit_xor, ◌/◌, ◌%◌}
use Rattle.std.proofs.lemmas.Bool.{eq-eqb, and_from}
use Rattle.std.proofs.lemmas.List.Elements.{All-nil, All-cons, All-head, All-tail}
use Rattle.lv_model.specs.Machine.{Machine, AllHold, AreCandidates, IsInductive, Implies, aligned_after}
use Rattle.lv_source.specs.Names.{Valuation}
use Rattle.lv_source.specs.Places.{Bit, bit_at}
use Rattle.lv_source.specs.Settled.{next_bit, IsSettled, Follows}
use Rattle.lv_source.specs.Observe.{Contract, machine, observed}
use Rattle.lv_ast.proofs.Build.{name}
use Rattle.lv_source.proofs.DesignA.{design}
use Rattle.lv_source.specs.Legal.{places_of}

abbrev q : List ℕ
q = codes "q"

abbrev d : List ℕ
d = codes "d"

abbrev contract : Contract
contract = record {
  ports = record { retire = name q; contract = name q ∷ [] } ∷ [];
  attacker = name q ∷ [];
  assume = [];
  initial_equal = name q ∷ [];
  initial_each = [];
  registers = true;
  equal = [];
  guarded = [];
  each = [];
  aligned = true;
}

abbrev m : Machine Valuation
m = machine design contract

abbrev q0 : Bit
q0 = record { name = q; place = 0 }

abbrev two : ℕ → ℕ → Valuation
two x y name = if bytes_eq name q then x else y

table : (x y : ℕ) → x < 2 → y < 2 → next_bit design (two x y) q0 ≡ bit_xor x y
unfolding read_expr read_select pieces executes turns turns_from flow labels as_target walk walk_select target_sites standing digits parts scopes_of signals_of places_of
table zero zero h k = refl
table zero (suc zero) h k = refl
table (suc zero) zero h k = refl
table (suc zero) (suc zero) h k = refl
table (suc (suc x)) y h k = absurd (omega arith)
table zero (suc (suc y)) h k = absurd (omega arith)
table (suc zero) (suc (suc y)) h k = absurd (omega arith)

next_q : (v : Valuation) → IsSettled design v → next_bit design v q0 ≡ bit_xor (v q) (v d)
unfolding read_expr read_select pieces executes turns turns_from flow labels as_target walk walk_select target_sites standing digits parts scopes_of signals_of places_of
next_q v s = table (v q) (v d) (s.fits q) (s.fits d)

low : (x : ℕ) → x < 2 → x / 1 % 2 ≡ x
low x h = omega arith

-- the register of a settled valuation that follows
becomes : (v w : Valuation) → IsSettled design v → IsSettled design w → Follows design v w → w q ≡ bit_xor (v q) (v d)
unfolding read_expr read_select pieces executes turns turns_from flow labels as_target walk walk_select target_sites standing digits parts scopes_of signals_of places_of
becomes v w s t f =
    sym (low (w q) (t.fits q)) ∙ All-head (λ b. bit_at w b ≡ next_bit design v b) q0 [] f ∙ next_q v s

abbrev both : List ℕ
both = 0 ∷ 1 ∷ []

all_hold : (l r : Valuation) (a : Bool) → l q ≡ r q → a ≡ true → AllHold m both l r a
unfolding read_expr read_select pieces executes turns turns_from flow labels as_target walk walk_select target_sites standing digits parts scopes_of signals_of places_of
all_hold l r a same e =
    let P : ℕ → Type 0 = λ k. m.Holds k l r a in
    All-cons P 0 (1 ∷ []) same (All-cons P 1 [] e (All-nil P))

equal : (l r : Valuation) (a : Bool) → AllHold m both l r a → l q ≡ r q
unfolding read_expr read_select pieces executes turns turns_from flow labels as_target walk walk_select target_sites standing digits parts scopes_of signals_of places_of
equal l r a all = All-head (λ k. m.Holds k l r a) 0 (1 ∷ []) all

aligned : (l r : Valuation) (a : Bool) → AllHold m both l r a → a ≡ true
unfolding read_expr read_select pieces executes turns turns_from flow labels as_target walk walk_select target_sites standing digits parts scopes_of signals_of places_of
aligned l r a all = let P : ℕ → Type 0 = λ k. m.Holds k l r a in All-head P 1 [] (All-tail P 0 (1 ∷ []) all)

seen : (v : Valuation) → v q < 2 → observed design (name q) v ≡ v q
unfolding read_expr read_select pieces executes turns turns_from flow labels as_target walk walk_select target_sites standing digits parts scopes_of signals_of places_of
seen v h = let x : ℕ = v q in let e : x / 1 % 2 ≡ x = omega arith in omega arith

same_length : (l r : Valuation) → l q ≡ r q → length (m.row l) ≡ length (m.row r)
unfolding read_expr read_select pieces executes turns turns_from flow labels as_target walk walk_select target_sites standing digits parts scopes_of signals_of places_of
same_length l r e = ap (λ x. length (m.row (two x 0))) e

numbers : AreCandidates m both
unfolding read_expr read_select pieces executes turns turns_from flow labels as_target walk walk_select target_sites standing digits parts scopes_of signals_of places_of
numbers = record {
  rising = λ k below. elim k as (λ k. k + 1 < 2 → slice_index both k < slice_index both (k + 1)) [ zero ↦ λ h. omega arith | suc j ↦ λ h. absurd (omega arith) ] below;
  in_range = All-cons (λ k. k < 2) 0 (1 ∷ []) (omega arith) (All-cons (λ k. k < 2) 1 [] (omega arith) (All-nil (λ k. k < 2)));
}

pub inductive : IsInductive m 0 both
unfolding read_expr read_select pieces executes turns turns_from flow labels as_target walk walk_select target_sites standing digits parts scopes_of signals_of places_of
inductive = record {
  numbers = numbers;
  base = λ l r h. all_hold l r true
      (sym (seen l (h.left.fits q)) ∙ All-head (λ e. e l ≡ e r) (observed design (name q)) [] h.initial.0 ∙ seen r (h.right.fits q)) refl;
  step = λ l l' ls r r' rs a w all.
      let e : l q ≡ r q = equal l r a all in
      let i : l d ≡ r d = All-head (λ n. l n ≡ r n) d [] w.same_inputs.0 in
      let left : l' q ≡ bit_xor (l q) (l d) = becomes l l' w.left.0 w.left.2.0 w.left.1 in
      let right : r' q ≡ bit_xor (r q) (r d) = becomes r r' w.right.0 w.right.2.0 w.right.1 in
      all_hold l' r' (aligned_after m l r a) (cc)
      (and_from a (nat_eq (length (m.row l)) (length (m.row r))) (aligned l r a all)
      (eq-eqb (length (m.row l)) (length (m.row r)) (same_length l r e)));
}

pub implies : Implies m 0 both
unfolding read_expr read_select pieces executes turns turns_from flow labels as_target walk walk_select target_sites standing digits parts scopes_of signals_of places_of
implies = record { same = λ l ls r rs a w all. ap (λ x. m.attacker (two x 0)) (equal l r a all) }
