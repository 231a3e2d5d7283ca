-- What is marked reads the registers alone.
use Rattle.std.proofs.Common.{◌≡◌, ℕ, zero, suc, ◌+◌, ◌<◌, ◌≤◌, Bool, true, false, true≢false, ◌&&◌, inl, inr, List, [], ◌∷◌, ◌++◌, length, slice_index, All, refl, sym, ◌∙◌, ap, subst, arith}
use Rattle.std.proofs.lemmas.Bool.{cases_lt}
use Rattle.std.proofs.lemmas.Bool.Decides.{Decides-by_and}
use Rattle.std.proofs.lemmas.List.{get_or_past}
use Rattle.std.proofs.lemmas.List.Elements.{All-weaker, All-cons, All-nil}
use Rattle.std.specs.List.{list_all}
use Rattle.lv_netlist.specs.Net.{Net}
use Rattle.lv_unroll.specs.declared.rows.Port.{Port}
use Rattle.lv_unroll.specs.Entries.{IsPort, entry_length}
use Rattle.lv_product.specs.declared.task.Candidate.{Candidate}
use Rattle.lv_product.specs.declared.task.Candidate.TheVariants.{Eq, When, Each, Aligned}
use Rattle.lv_product.specs.Tasks.{IsStateNode, IsInputNode, IsCandidate, nodes_of}
use Rattle.lv_product.specs.Marks.{marked_at}
use Rattle.lv_test_learning.specs.Marked.{candidate_marked}

abbrev pub Sound : Net → List Bool → Type 0
Sound net marks = (k : ℕ) → k < length net.nodes → marked_at marks k ≡ true → IsStateNode net k

abbrev pub SoundInputs : Net → List Bool → Type 0
SoundInputs net marks = (k : ℕ) → k < length net.nodes → marked_at marks k ≡ true → IsInputNode net k

all_pass : {X : Type 0} (p : X → Bool) (xs : List X) → list_all p xs ≡ true → All (λ x. p x ≡ true) xs
all_pass p xs t = (Decides-by_and p (λ x. p x ≡ true) (list_all p) (λ x. (λ e. e, λ e. e)) refl (λ x ys. refl) xs).0 t

marked_input : (net : Net) (marks : List Bool) → length marks ≡ length net.nodes → SoundInputs net marks → (k : ℕ) → marked_at marks k ≡ true → IsInputNode net k
marked_input net marks count sound k t = elim (cases_lt k (length marks)) [
  | inl lt ↦ sound k (omega arith) t
  | inr ge ↦ absurd (true≢false (sym t ∙ get_or_past marks k false ge))
]

pub inputs_are : (net : Net) (marks : List Bool) → length marks ≡ length net.nodes → SoundInputs net marks → (xs : List ℕ) →
    list_all (marked_at marks) xs ≡ true → All (IsInputNode net) xs
inputs_are net marks count sound xs t =
    All-weaker (λ k. marked_at marks k ≡ true) (IsInputNode net) (marked_input net marks count sound) xs (all_pass (marked_at marks) xs t)

module _ (net : Net) (marks : List Bool) (count : length marks ≡ length net.nodes) (sound : Sound net marks) where
  marked : (k : ℕ) → marked_at marks k ≡ true → IsStateNode net k
  marked k t = elim (cases_lt k (length marks)) [
    | inl lt ↦ sound k (omega arith) t
    | inr ge ↦ absurd (true≢false (sym t ∙ get_or_past marks k false ge))
  ]

  first_true : (x y : Bool) → (x && y) ≡ true → x ≡ true
  first_true true y e = refl
  first_true false y e = e

  second_true : (x y : Bool) → (x && y) ≡ true → y ≡ true
  second_true true y e = e
  second_true false y e = cc

  one : (e : ℕ) → marked_at marks e ≡ true → All (IsStateNode net) (e ∷ [])
  one e t = All-cons (IsStateNode net) e [] (marked e t) (All-nil (IsStateNode net))

  candidate : (c : Candidate) → candidate_marked marks c ≡ true → IsCandidate net c
  candidate (Eq e) t = one e t
  candidate (When guard e) t =
      All-cons (IsStateNode net) guard (e ∷ []) (marked guard (first_true (marked_at marks guard) (marked_at marks e) t))
      (one e (second_true (marked_at marks guard) (marked_at marks e) t))
  candidate (Each p) t = one p t
  candidate Aligned t = All-nil (IsStateNode net)

  pub nodes_are : (xs : List ℕ) → list_all (marked_at marks) xs ≡ true → All (IsStateNode net) xs
  nodes_are xs t = All-weaker (λ k. marked_at marks k ≡ true) (IsStateNode net) marked xs (all_pass (marked_at marks) xs t)

  pub candidates_are : (cs : List Candidate) → list_all (candidate_marked marks) cs ≡ true → All (IsCandidate net) cs
  candidates_are cs t = All-weaker (λ c. candidate_marked marks c ≡ true) (IsCandidate net) candidate cs (all_pass (candidate_marked marks) cs t)

one_node : (n contract i : ℕ) → contract < n → i < length (contract ∷ []) → slice_index (contract ∷ []) i < n
one_node n contract zero h lt = h
one_node n contract (suc i) h lt = absurd (omega arith)

one_place : (P : Port → Type 0) (p : Port) → P p → All P (p ∷ [])
one_place P p h = All-cons P p [] h (All-nil P)

pub one_port : (net : Net) (ports : List Port) (p : Port) (contract : ℕ) → ports ≡ p ∷ [] → p.contract.items ≡ contract ∷ [] →
    p.retire < length net.nodes → contract < length net.nodes → All (IsPort (length net.nodes) (entry_length ports)) ports
one_port net ports p contract e f hr hc =
    subst (λ (l : List Port). All (IsPort (length net.nodes) (entry_length l)) l) (sym e)
    (one_place (IsPort (length net.nodes) (length p.contract.items)) p (record {
      retire = hr;
      count_is = refl;
      contract = subst (λ (l : List ℕ). (i : ℕ) → i < length l → slice_index l i < length net.nodes) (sym f) (λ i lt. one_node (length net.nodes) contract i hc lt);
    }))

pub within_one : (n a : ℕ) (xs : List ℕ) → xs ≡ a ∷ [] → a < n → All (λ k. k < n) xs
within_one n a xs e h = subst (All (λ k. k < n)) (sym e) (All-cons (λ k. k < n) a [] h (All-nil (λ k. k < n)))
