-- Steps one after another leave no input out.
use Rattle.std.proofs.Common.{inl, inr}
use Rattle.lv_steps.specs.Step.{Step, followed_by, keeping}
use Rattle.lv_steps.specs.Total.{IsTotal}

pub total_then : {A B C : Type 0} (f : Step A B) (g : Step B C) → IsTotal f → IsTotal g → IsTotal (followed_by f g)
total_then f g p q x = elim (p x) [
  | inl h ↦ elim (q h.0) [ inl k ↦ inl (k.0, (h.0, h.1, k.1)) | inr r ↦ inr (r.0, inr (h.0, h.1, r.1), r.2) ]
  | inr r ↦ inr (r.0, inl r.1, r.2)
]

pub total_keeping : {A B C : Type 0} (f : Step A B) (g : Step B C) → IsTotal f → IsTotal g → IsTotal (keeping f g)
total_keeping f g p q x = elim (p x) [
  | inl h ↦ elim (q h.0) [ inl k ↦ inl ((h.0, k.0), (h.1, k.1)) | inr r ↦ inr (r.0, inr (h.0, h.1, r.1), r.2) ]
  | inr r ↦ inr (r.0, inl r.1, r.2)
]
