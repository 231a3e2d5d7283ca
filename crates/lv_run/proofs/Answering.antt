-- What the status of an answer says.
use Rattle.std.proofs.Common.{◌≡◌, ℕ, List, [], ◌∷◌, get_or, codes, refl, sym, ◌∙◌, ap, subst, arith, inl, inr}
use Rattle.std.specs.Prelude.{Option, Some, None, ◌⊎◌}
use Rattle.lv_io.specs.Causes.{Rose}
use Rattle.lv_io.specs.Given.{Gains}
use Rattle.lv_io.specs.Outside.{ShelfState, SinkState, Outside, outside, HasFault}
use Rattle.lv_ast.specs.declared.item.Source.{Source}
use Rattle.lv_contract.specs.declared.contract.Contract.{Contract}
use Rattle.lv_first.specs.declared.judging.Verdict.{Verdict}
use Rattle.lv_first.specs.declared.judging.Verdict.TheVariants as v
use Rattle.lv_first.specs.FirstContract.{trees_of}
use Rattle.lv_first.specs.Verdicts.{IsSafe, IsKept, IsJudged, one_module, other, proved, unproved, not_of_form}
use Rattle.lv_steps.specs.declared.ended.Ended.{Ended}
use Rattle.lv_words.specs.declared.modes.Asked.TheVariants as asked
use Rattle.lv_words.proofs.Asking.{one_mode, one_file}
use Rattle.lv_run.specs.declared.answer.Answer.{Answer}
use Rattle.lv_run.specs.declared.answer.Answer.TheVariants as a
use Rattle.lv_run.specs.Texts.{told_of, told_of_verdict, told_of_end}
use Rattle.lv_run.specs.Answers.{Verifies, Prints, IsFor, IsCommandLine, IsInput, IsEnd, IsAnswer, judged, printed, ended, usage, no_memory, IsReported, told, cut, unwritten, printed_text}
use Rattle.lv_run.specs.Promises.{Reports, HoldsTask, IsVerified, IsKeptIn, IsUnproved, IsPrinted}
use Rattle.lv_run.proofs.Codes.{EndCode, three, six, seven, end_code, failed_as}

-- ---- modes

first : List ℕ → ℕ
first word = get_or word 0 0

pub modes_differ : (words : List (List ℕ)) (f g : List ℕ) → Verifies words f → Prints words g → ⊥
unfolding first
modes_differ words f g verifies prints =
    let e : 118 ≡ first (codes "print") = ap first (one_mode words (asked.Verify f None) (asked.Print g) verifies prints) in omega (arith, e)

pub same_verified : (words : List (List ℕ)) (f g : List ℕ) → Verifies words f → Verifies words g → f ≡ g
same_verified words f g p q = one_file words (asked.Verify f None) (asked.Verify g None) p q

pub same_printed : (words : List (List ℕ)) (f g : List ℕ) → Prints words f → Prints words g → f ≡ g
same_printed words f g p q = one_file words (asked.Print f) (asked.Print g) p q

pub printed_by : (words : List (List ℕ)) (before after : ShelfState) (file : List ℕ) (c : Contract) (s : Source) (text : List ℕ) → text ≡ printed_text s → Prints words file → IsInput before file c s →
    IsAnswer words before after (a.Printed text)
printed_by words before after file c s text e asks input = subst (λ z. IsAnswer words before after (a.Printed z)) (sym e) (printed file c s asks input)

-- ---- the verdict

-- all that status 0 says
pub record Proof (before : ShelfState) (file : List ℕ) : Type 0 where
  pub holds : HoldsTask before file
  pub safe : IsSafe holds.tree holds.contract.clock holds.contract.lookahead (trees_of holds.contract holds.port)
  pub kept : IsKept holds.tree holds.contract.clock holds.contract.lookahead (trees_of holds.contract holds.port)

other_code : (verdict : Verdict) (n : ℕ) {P : Type 0} → verdict ≡ v.Other → (told_of_verdict verdict).code ≡ n → (3 ≡ n → ⊥) → P
other_code verdict n e code differ = absurd (differ (subst (λ z. (told_of_verdict z).code ≡ n) e code))

judged_zero : (before : ShelfState) (file : List ℕ) (c : Contract) (s : Source) (verdict : Verdict) → IsInput before file c s → IsJudged c s verdict → (told_of_verdict verdict).code ≡ 0 → Proof before file
judged_zero before file c s verdict input (other cause e) code = other_code verdict 0 e code (λ h. omega (arith, h))
judged_zero before file c s _ input (one_module port m first e (proved form safe kept)) code = record {
  holds = record { contract = c; source = s; input = input; port = port; tree = m; task = record { contract = first; one_module = e; form = form } };
  safe = safe;
  kept = kept;
}
judged_zero before file c s _ input (one_module port m first e (unproved form no_list)) code = absurd (omega (arith, code))
judged_zero before file c s _ input (one_module port m first e (not_of_form none)) code = absurd (omega (arith, code))

judged_one : (before : ShelfState) (file : List ℕ) (c : Contract) (s : Source) (verdict : Verdict) → IsInput before file c s → IsJudged c s verdict → (told_of_verdict verdict).code ≡ 1 → IsUnproved before file
judged_one before file c s verdict input (other cause e) code = other_code verdict 1 e code (λ h. omega (arith, h))
judged_one before file c s _ input (one_module port m first e (proved form safe kept)) code = absurd (omega (arith, code))
judged_one before file c s _ input (one_module port m first e (unproved form no_list)) code = record {
  holds = record { contract = c; source = s; input = input; port = port; tree = m; task = record { contract = first; one_module = e; form = form } };
  unproved = no_list;
}
judged_one before file c s _ input (one_module port m first e (not_of_form none)) code = absurd (omega (arith, code))

-- 0, 1 or 3
data VerdictCode (n : ℕ) : Type 0 where
  below : n ≡ 0 → VerdictCode n
  one : n ≡ 1 → VerdictCode n
  refusal : n ≡ 3 → VerdictCode n

verdict_code : (verdict : Verdict) → VerdictCode (told_of_verdict verdict).code
verdict_code (v.Proved lookahead registers) = below refl
verdict_code v.Unproved = one refl
verdict_code v.Other = refusal refl

not_judged : (verdict : Verdict) (n : ℕ) → (told_of_verdict verdict).code ≡ n → (n ≡ 0 → ⊥) → (n ≡ 1 → ⊥) → (n ≡ 3 → ⊥) → ⊥
not_judged verdict n code p q r = elim (verdict_code verdict) [ below e ↦ p (sym code ∙ e) | one e ↦ q (sym code ∙ e) | refusal e ↦ r (sym code ∙ e) ]

not_ended : (e : Ended) (n : ℕ) → (told_of_end e).code ≡ n → (n ≡ 3 → ⊥) → (n ≡ 6 → ⊥) → (n ≡ 7 → ⊥) → ⊥
not_ended e n code p q r = elim (end_code e) [ three f x y ↦ p (sym code ∙ f) | six name is f x ↦ q (sym code ∙ f) | seven f x ↦ r (sym code ∙ f) ]

module _ (words : List (List ℕ)) (before after : ShelfState) where
  zero_is : (file : List ℕ) → Verifies words file → (answer : Answer) → IsAnswer words before after answer → (told_of answer).code ≡ 0 → Proof before file
  zero_is file asks _ (judged f c s verdict asked input j) code =
      subst (λ z. Proof before z) (same_verified words f file asked asks) (judged_zero before f c s verdict input j code)
  zero_is file asks _ (printed f c s asked input) code = absurd (modes_differ words file f asks asked)
  zero_is file asks _ (ended f e asked h) code = absurd (not_ended e 0 code (λ k. omega (arith, k)) (λ k. omega (arith, k)) (λ k. omega (arith, k)))
  zero_is file asks _ (usage none) code = absurd (omega (arith, code))
  zero_is file asks _ no_memory code = absurd (omega (arith, code))

  one_is : (file : List ℕ) → Verifies words file → (answer : Answer) → IsAnswer words before after answer → (told_of answer).code ≡ 1 → IsUnproved before file
  one_is file asks _ (judged f c s verdict asked input j) code =
      subst (λ z. IsUnproved before z) (same_verified words f file asked asks) (judged_one before f c s verdict input j code)
  one_is file asks _ (printed f c s asked input) code = absurd (modes_differ words file f asks asked)
  one_is file asks _ (ended f e asked h) code = absurd (not_ended e 1 code (λ k. omega (arith, k)) (λ k. omega (arith, k)) (λ k. omega (arith, k)))
  one_is file asks _ (usage none) code = absurd (omega (arith, code))
  one_is file asks _ no_memory code = absurd (omega (arith, code))

  two_is : (answer : Answer) → IsAnswer words before after answer → (told_of answer).code ≡ 2 → IsCommandLine words → ⊥
  two_is _ (judged f c s verdict asked input j) code line = not_judged verdict 2 code (λ k. omega (arith, k)) (λ k. omega (arith, k)) (λ k. omega (arith, k))
  two_is _ (printed f c s asked input) code line = omega (arith, code)
  two_is _ (ended f e asked h) code line = not_ended e 2 code (λ k. omega (arith, k)) (λ k. omega (arith, k)) (λ k. omega (arith, k))
  two_is _ (usage none) code line = none line
  two_is _ no_memory code line = omega (arith, code)

  not_two : (answer : Answer) → IsAnswer words before after answer → (IsCommandLine words → ⊥) → ((told_of answer).code ≡ 2) ⊎ ((told_of answer).code ≡ 7)
  not_two _ (judged f c s verdict asked input j) none = absurd (none (record { file = f; asks = inl asked }))
  not_two _ (printed f c s asked input) none = absurd (none (record { file = f; asks = inr asked }))
  not_two _ (ended f e asked h) none = absurd (none (record { file = f; asks = asked }))
  not_two _ (usage refused) none = inl refl
  not_two _ no_memory none = inr refl

  six_is : (answer : Answer) → IsAnswer words before after answer → (told_of answer).code ≡ 6 → Rose before.faults after.faults
  six_is _ (judged f c s verdict asked input j) code = absurd (not_judged verdict 6 code (λ k. omega (arith, k)) (λ k. omega (arith, k)) (λ k. omega (arith, k)))
  six_is _ (printed f c s asked input) code = absurd (omega (arith, code))
  six_is _ (ended f e asked h) code =
      elim (end_code e) [ three k x y ↦ absurd (omega (arith, k, code)) | six name is k x ↦ failed_as before after f name e is h | seven k x ↦ absurd (omega (arith, k, code)) ]
  six_is _ (usage none) code = absurd (omega (arith, code))
  six_is _ no_memory code = absurd (omega (arith, code))

  printed_is : (file : List ℕ) → Prints words file → (sink later : SinkState) (answer : Answer) → IsAnswer words before after answer → (told_of answer).code ≡ 0 →
      Gains sink.given later.given (told_of answer).text → IsPrinted (outside before sink) (outside after later) file
  printed_is file asks sink later _ (judged f c s verdict asked input j) code gains = absurd (modes_differ words f file asked asks)
  printed_is file asks sink later _ (printed f c s asked input) code gains =
      record { contract = c; source = s; input = subst (λ z. IsInput before z c s) (same_printed words f file asked asks) input; gains = gains }
  printed_is file asks sink later _ (ended f e asked h) code gains = absurd (not_ended e 0 code (λ k. omega (arith, k)) (λ k. omega (arith, k)) (λ k. omega (arith, k)))
  printed_is file asks sink later _ (usage none) code gains = absurd (omega (arith, code))
  printed_is file asks sink later _ no_memory code gains = absurd (omega (arith, code))

  -- ---- statuses

  module _ (sink later : SinkState) where
    pub by_status : (P : ℕ → Type 0) (answer : Answer) (code : ℕ) → IsReported answer sink later code →
        (Gains sink.given later.given (told_of answer).text → P (told_of answer).code) → (Rose sink.faults later.faults → P 6) → P 7 → P code
    by_status P answer _ (told given) all part none = all given
    by_status P answer _ (cut given rose) all part none = part rose
    by_status P answer _ (unwritten given) all part none = none

    abbrev R : ℕ → Type 0
    R code = Reports words (outside before sink) (outside after later) code

    pub proof_of : (code : ℕ) → R code → (file : List ℕ) → Verifies words file → code ≡ 0 → Proof before file
    proof_of code r file asks =
        by_status (λ k. k ≡ 0 → Proof before file) r.answer code r.reported (λ given e. zero_is file asks r.answer r.answers e) (λ rose e. absurd (omega (arith, e))) (λ e. absurd (omega (arith, e)))

    pub unproved_of : (code : ℕ) → R code → (file : List ℕ) → Verifies words file → code ≡ 1 → IsUnproved before file
    unproved_of code r file asks =
        by_status (λ k. k ≡ 1 → IsUnproved before file) r.answer code r.reported (λ given e. one_is file asks r.answer r.answers e) (λ rose e. absurd (omega (arith, e))) (λ e. absurd (omega (arith, e)))

    pub printed_of : (code : ℕ) → R code → (file : List ℕ) → Prints words file → code ≡ 0 → IsPrinted (outside before sink) (outside after later) file
    printed_of code r file asks =
        by_status (λ k. k ≡ 0 → IsPrinted (outside before sink) (outside after later) file) r.answer code r.reported
        (λ given e. printed_is file asks sink later r.answer r.answers e given) (λ rose e. absurd (omega (arith, e))) (λ e. absurd (omega (arith, e)))

    pub usage_of : (code : ℕ) → R code → code ≡ 2 → IsCommandLine words → ⊥
    usage_of code r =
        by_status (λ k. k ≡ 2 → IsCommandLine words → ⊥) r.answer code r.reported (λ given e l. two_is r.answer r.answers e l) (λ rose e l. omega (arith, e)) (λ e l. omega (arith, e))

    pub usage_only_of : (code : ℕ) → R code → (IsCommandLine words → ⊥) → (code ≡ 2) ⊎ (code ≡ 6) ⊎ (code ≡ 7)
    usage_only_of code r none =
        by_status (λ k. (k ≡ 2) ⊎ (k ≡ 6) ⊎ (k ≡ 7)) r.answer code r.reported
        (λ given. elim (not_two r.answer r.answers none) [ inl e ↦ inl e | inr e ↦ inr (inr e) ]) (λ rose. inr (inl refl)) (inr (inr refl))

    pub fault_of : (code : ℕ) → R code → code ≡ 6 → HasFault (outside before sink) (outside after later)
    fault_of code r = by_status (λ k. k ≡ 6 → HasFault (outside before sink) (outside after later)) r.answer code r.reported
        (λ given e. inl (six_is r.answer r.answers e)) (λ rose e. inr rose) (λ e. absurd (omega (arith, e)))
