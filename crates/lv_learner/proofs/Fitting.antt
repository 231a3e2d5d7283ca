-- Lists whose numbers rise, as a certificate's text has them and as a task has them.
use Rattle.std.proofs.Common.{◌≡◌, ℕ, zero, suc, ◌+◌, ◌<◌, ◌≤◌, List, [], ◌∷◌, length, get_or, subst, arith}
use Rattle.std.specs.Prelude.{All}
use Rattle.std.proofs.lemmas.List.Elements.{All-cons, All-nil}
use Rattle.lv_cert.specs.declared.cert.Cert.{Cert}
use Rattle.lv_cert.specs.Values.{Sets, values_of}
use Rattle.lv_cert.specs.Grammar.{AreRising, IsFor}
use Rattle.lv_product.specs.declared.task.Task.{Task}
use Rattle.lv_product.specs.Queries.{FitsKept}
use Rattle.lv_learner.specs.Confirming.{FitsCert, task_shape}

rising_at : (low count : ℕ) (ns : List ℕ) (k : ℕ) → AreRising low count ns → k + 1 < length ns → get_or ns k 0 < get_or ns (k + 1) 0
rising_at low count [] k h lt = absurd (omega arith)
rising_at low count (n ∷ []) k h lt = absurd (omega arith)
rising_at low count (n ∷ m ∷ ns) zero h lt = omega (arith, h.2.0)
rising_at low count (n ∷ m ∷ ns) (suc k) h lt =
    let e : suc (k + 1) ≡ suc k + 1 = omega arith in
    subst (λ (j : ℕ). get_or (m ∷ ns) k 0 < get_or (n ∷ m ∷ ns) j 0) e (rising_at (n + 1) count (m ∷ ns) k h.2 (omega arith))

below : (low count : ℕ) (ns : List ℕ) → AreRising low count ns → All (λ k. k < count) ns
below low count [] h = All-nil (λ k. k < count)
below low count (n ∷ ns) h = All-cons (λ k. k < count) n ns h.1 (below (n + 1) count ns h.2)

-- a certificate that was read for the task's shape fits the task
pub fits_read : (task : Task) (cert : Cert) (sets : Sets) → IsFor (task_shape task) (values_of cert) sets → FitsCert task cert
fits_read task cert sets h = record {
  kept = record {
    rising = λ k lt. rising_at 0 (length task.candidates.items) cert.kept.items k h.kept lt;
    in_range = below 0 (length task.candidates.items) cert.kept.items h.kept;
  };
  left = h.left_count;
  right = h.right_count;
  input = h.input_count;
}

tail_rises : (n : ℕ) (ns : List ℕ) → ((k : ℕ) → k + 1 < length (n ∷ ns) → get_or (n ∷ ns) k 0 < get_or (n ∷ ns) (k + 1) 0) →
    (k : ℕ) → k + 1 < length ns → get_or ns k 0 < get_or ns (k + 1) 0
tail_rises n ns h k lt =
    let e : suc k + 1 ≡ suc (k + 1) = omega arith in
    subst (λ (j : ℕ). get_or ns k 0 < get_or (n ∷ ns) j 0) e (h (suc k) (omega arith))

starts : (low count n : ℕ) (ns : List ℕ) → low ≤ n → ((k : ℕ) → k + 1 < length (n ∷ ns) → get_or (n ∷ ns) k 0 < get_or (n ∷ ns) (k + 1) 0) →
    ((i : ℕ) → i < length (n ∷ ns) → get_or (n ∷ ns) i 0 < count) → AreRising low count (n ∷ ns)
starts low count n [] first rising range = (first, range 0 (omega arith), tt)
starts low count n (m ∷ ns) first rising range = (
  first,
  range 0 (omega arith),
  starts (n + 1) count m ns (omega (arith, rising 0 (omega arith))) (tail_rises n (m ∷ ns) rising) (λ i lt. range (suc i) (omega arith)),
)

-- a list that fits a task can be written for its candidates
pub rises : (task : Task) (s : List ℕ) → FitsKept task s → AreRising 0 (length task.candidates.items) s
rises task [] h = tt
rises task (n ∷ ns) h = starts 0 (length task.candidates.items) n ns (omega arith) (λ k lt. h.rising k lt) (λ i lt. h.in_range i 0 lt)
