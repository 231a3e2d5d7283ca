-- Candidates whose nodes are marked.
use Rattle.std.specs.Prelude.{ℕ, Bool, true, ◌&&◌, List}
use Rattle.lv_product.specs.declared.task.Candidate.{Candidate}
use Rattle.lv_product.specs.declared.task.Candidate.TheVariants.{Eq, When, Each, Aligned}
use Rattle.lv_product.specs.Marks.{marked_at}

abbrev pub candidate_marked : List Bool → Candidate → Bool
candidate_marked marks (Eq e) = marked_at marks e
candidate_marked marks (When guard e) = marked_at marks guard && marked_at marks e
candidate_marked marks (Each p) = marked_at marks p
candidate_marked marks Aligned = true
