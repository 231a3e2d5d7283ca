-- From the clauses of a goal to the query.
use Rattle.std.proofs.Common.{◌≡◌, ℕ, zero, suc, ◌+◌, ◌*◌, ◌^◌, ◌<◌, ◌≤◌, Bool, List, [], ◌∷◌, ◌++◌, sum, refl, sym, ◌∙◌, ap, subst, arith}
use Rattle.std.proofs.Math.Nat.{suc-mul, mul-le-mul_right, pow-le-pow_right}
use Rattle.std.proofs.lemmas.List.Sums.{sum_by-append}
use Rattle.lv_bits.specs.Words.{Bits}
use Rattle.lv_bits.specs.Digits.{words_from}
use Rattle.lv_model.specs.Machine.{Query, Initial, Allowed, Base, Step, Imply, IsMet}
use Rattle.lv_model.specs.Meeting.{cycles_of}
use Rattle.lv_model.specs.Design.{Observers}
use Rattle.lv_netlist.specs.Net.{Net}
use Rattle.lv_netlist.specs.Stepping.{GraphCycle, graph_machine}
use Rattle.lv_netlist.specs.Queries.{AreMeeting, IsGoalOf, product_widths, register_widths, port_widths, repeated, query_bits, free_bits}
use Rattle.lv_clauses.specs.Sets.{SetValue}
use Rattle.lv_clauses.specs.Decided.{IsDecidedBy}
use Rattle.lv_clauses.specs.Derivations.{Step as Line, IsRefutation}
use Rattle.lv_clauses.proofs.Soundness.{refutation-refutes}
use Rattle.lv_blast.specs.Encoding.{count_bits, input_widths, input_words, IsEncoding}
use Rattle.lv_blast.proofs.Assigned.{sum_widths}
use Rattle.lv_blast.proofs.Words.{words_fit, words_are}
use Rattle.lv_stands.specs.Stands.{StandsFor, query_words}
use Rattle.lv_stands.proofs.Spreading.{met_by_bits}

pub stands :
    (net : Net) (o : Observers GraphCycle) (b : ℕ) (s : List ℕ) (q : Query) (product : Net) (goal : ℕ) (set : SetValue) →
    IsGoalOf net o b s q product goal → IsEncoding product goal set → StandsFor set net o b s q
stands net o b s q product goal set p e =
    let widths : input_widths product ≡ product_widths net (cycles_of q b) = p.widths in
    let bits : count_bits product.inputs ≡ query_bits net b q = sym (sum_widths product.inputs) ∙ ap sum widths in
    let words : (v : ℕ → Bool) → input_words product v ≡ query_words net b q v = λ v. ap (words_from v 1) widths in
    record {
      vars = omega (arith, bits, e.vars);
      decided = subst (IsDecidedBy set) bits e.decided;
      meets = λ v sat. subst (AreMeeting net o b s q) (words v) (p.meets (input_words product v) (words_fit product v) (words_are v 1 (input_widths product)) (e.meets v sat));
      met = λ v m.
          let w = e.met v (p.met (input_words product v) (words_fit product v) (words_are v 1 (input_widths product)) (subst (AreMeeting net o b s q) (sym (words v)) m)) in
          (w.0, w.1, λ k some most. w.2 k some (omega (arith, bits)));
    }

-- no query can be met whose set is refuted
pub unmet :
    (set : SetValue) (net : Net) (o : Observers GraphCycle) (b : ℕ) (s : List ℕ) (q : Query) (lines : List Line) →
    StandsFor set net o b s q → IsRefutation set lines → IsMet (graph_machine net o) b s q → ⊥
unmet set net o b s q lines stands refuted can =
    let bits = met_by_bits net o b s q can in
    let whole = stands.met bits.0 bits.1 in
    refutation-refutes set lines whole.0 refuted whole.1

sum_repeated : (n : ℕ) (xs : List ℕ) → sum (repeated n xs) ≡ n * sum xs
sum_repeated zero xs = omega arith
sum_repeated (suc n) xs = omega (arith, sum_by-append (λ (x : ℕ). x) xs (repeated n xs), sum_repeated n xs, suc-mul n (sum xs))

cycles_few : (q : Query) (b : ℕ) → cycles_of q b ≤ b + 2
cycles_few Initial b = omega arith
cycles_few Allowed b = omega arith
cycles_few Base b = omega arith
cycles_few Step b = omega arith
cycles_few Imply b = omega arith

-- a query has no more bits than are free
pub few_bits : (net : Net) (b : ℕ) (q : Query) → query_bits net b q ≤ free_bits net b
few_bits net b q =
    let rw : List ℕ = register_widths net in
    let pw : List ℕ = port_widths net in
    let n : ℕ = cycles_of q b in
    let id : ℕ → ℕ = λ x. x in
    let a : sum (rw ++ rw ++ repeated n pw ++ 1 ∷ []) ≡ sum (rw ++ rw ++ repeated n pw) + sum (1 ∷ []) = sum_by-append id (rw ++ rw ++ repeated n pw) (1 ∷ []) in
    let c : sum (rw ++ rw ++ repeated n pw) ≡ sum (rw ++ rw) + sum (repeated n pw) = sum_by-append id (rw ++ rw) (repeated n pw) in
    let d : sum (rw ++ rw) ≡ sum rw + sum rw = sum_by-append id rw rw in
    let e : sum (repeated n pw) ≡ n * sum pw = sum_repeated n pw in
    let f : n * sum pw ≤ (b + 2) * sum pw = mul-le-mul_right (sum pw) (cycles_few q b) in
    let g : sum (1 ∷ []) ≡ 1 = refl in
    omega (arith, a, c, d, e, f, g)

pub below_enough :
    (set : SetValue) (net : Net) (o : Observers GraphCycle) (b : ℕ) (s : List ℕ) (q : Query) (budget : ℕ) →
    StandsFor set net o b s q → ((d : ℕ) → IsDecidedBy set d → budget < 2 * 3 ^ d) → budget < 2 * 3 ^ free_bits net b
below_enough set net o b s q budget stands low =
    let a : budget < 2 * 3 ^ query_bits net b q = low (query_bits net b q) stands.decided in
    let c : 3 ^ query_bits net b q ≤ 3 ^ free_bits net b = pow-le-pow_right (omega arith) (few_bits net b q) in
    omega (arith, a, c)
