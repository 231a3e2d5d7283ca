use Rattle.std.proofs.Common.{◌≡◌, ℕ, ◌-◌, List, ◌++◌, map}
use Rattle.lv_cert.specs.Parts.{turns}
use Rattle.lv_cert.specs.Sections.{pairs, pair_part, same}
use Rattle.lv_cert.proofs.Leading.{Leads}
use Rattle.lv_cert.proofs.read.read_pairs.Given as goal

abbrev pub invariant-loop-i : goal.invariant-loop-i
invariant-loop-i l = (done : List (ℕ × ℕ)) × (l.left.items ≡ map (λ p. p.0) done) × (l.right.items ≡ map (λ p. p.1) done) ×
    Leads (pairs l.count) (turns pair_part same (l.count - l.i) 0) (λ xs. done ++ xs) l.fn.input l.input
