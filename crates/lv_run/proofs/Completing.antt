-- A run whose design can be printed prints it, or wants memory.
use Rattle.std.proofs.Common.{◌≡◌, ℕ, true, false, List, refl, sym, ◌∙◌, ap, subst, arith, inl, inr}
use Rattle.std.specs.Prelude.{Option, Some, ◌⊎◌}
use Rattle.lv_io.specs.Causes.{Rose}
use Rattle.lv_io.specs.Files.{Files}
use Rattle.lv_io.specs.Given.{Gains}
use Rattle.lv_io.specs.Outside.{ShelfState, SinkState, outside, HasFault}
use Rattle.lv_ast.specs.declared.item.Source.{Source}
use Rattle.lv_contract.specs.declared.contract.Contract.{Contract}
use Rattle.lv_contract.specs.declared.need.Need.TheVariants as need
use Rattle.lv_steps.specs.declared.ended.Ended.{Ended}
use Rattle.lv_steps.specs.declared.ended.Ended.TheVariants as t
use Rattle.lv_steps.specs.declared.ended.Unread.TheVariants as u
use Rattle.lv_steps.specs.Exact.{IsExcused, is_want, is_fault}
use Rattle.lv_steps.proofs.Inputs.{exact}
use Rattle.lv_run.specs.declared.answer.Answer.{Answer}
use Rattle.lv_run.specs.declared.answer.Answer.TheVariants as a
use Rattle.lv_run.specs.Texts.{told_of, told_of_end}
use Rattle.lv_run.specs.Answers.{Prints, IsInput, IsEnd, IsAnswer, judged, printed, ended, usage, no_memory, printed_text, run_limits}
use Rattle.lv_run.specs.Promises.{Reports}
use Rattle.lv_run.proofs.Codes.{EndCode, three, six, seven, end_code}
use Rattle.lv_run.proofs.Answering.{modes_differ, same_printed, by_status}

wanted : (e : Ended) → is_want e ≡ true → (told_of_end e).code ≡ 7
wanted e h = elim (end_code e) [
  | three k x y ↦ absurd (cc)
  | six name is k x ↦ absurd (cc)
  | seven k x ↦ k
]

module _ (words : List (List ℕ)) (before after : ShelfState) (files : Files) (told : before.files ≡ Some files) (file : List ℕ) (c : Contract) (s : Source)
    (asks : Prints words file) (input : IsInput before file c s) where
  one_source : (d : Contract) (z : Source) → IsInput before file d z → z ≡ s
  one_source d z other = ((exact run_limits need.Nothing before after files told).one file file (d, z) (c, s) refl other input).1

  end_wants : (e : Ended) → (Rose before.faults after.faults → ⊥) → IsEnd before after file e → (told_of_end e).code ≡ 7
  end_wants e quiet h =
      elim ((exact run_limits need.Nothing before after files told).apart file file (c, s) e refl input h) [
        | inl want ↦ wanted e want
        | inr fault ↦ absurd (quiet fault.1)
      ]

  module _ (sink later : SinkState) where
    abbrev Done : ℕ → Type 0
    Done code = ((code ≡ 0) × Gains sink.given later.given (printed_text s)) ⊎ (code ≡ 7)

    done_of : (answer : Answer) → (Rose before.faults after.faults → ⊥) → IsAnswer words before after answer → Gains sink.given later.given (told_of answer).text → Done (told_of answer).code
    done_of _ quiet (judged f d z verdict asked other j) gains = absurd (modes_differ words f file asked asks)
    done_of _ quiet (printed f d z asked other) gains =
        let e : z ≡ s = one_source d z (subst (λ w. IsInput before w d z) (same_printed words f file asked asks) other) in
        inl (refl, subst (λ w. Gains sink.given later.given (printed_text w)) e gains)
    done_of _ quiet (ended f e (inl asked) h) gains = absurd (modes_differ words f file asked asks)
    done_of _ quiet (ended f e (inr asked) h) gains = inr (end_wants e quiet (subst (λ w. IsEnd before after w e) (same_printed words f file asked asks) h))
    done_of _ quiet (usage none) gains = absurd (none (record { file = file; asks = inr asks }))
    done_of _ quiet no_memory gains = inr refl

    pub prints_of : (code : ℕ) → Reports words (outside before sink) (outside after later) code → (HasFault (outside before sink) (outside after later) → ⊥) → Done code
    prints_of code r quiet =
        by_status words before after sink later Done r.answer code r.reported
        (λ gains. done_of r.answer (λ rose. quiet (inl rose)) r.answers gains) (λ rose. absurd (quiet (inr rose))) (inr refl)
