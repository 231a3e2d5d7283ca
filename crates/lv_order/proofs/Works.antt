-- What is left to do, where one state changes.
use Rattle.std.proofs.Common.{◌≡◌, ℕ, zero, suc, ◌+◌, ◌<◌, List, [], ◌∷◌, length, set, arith}
use Rattle.lv_order.specs.declared.walk.State.{State}
use Rattle.lv_order.specs.Graphs.{Graph, edges_of}
use Rattle.lv_order.specs.Walks.{state_at, left, work}

swapped : (a b c d e : ℕ) → d + a ≡ e + b → (c + d) + a ≡ (c + e) + b
swapped a b c d e h = omega arith

pub work-set : (E : Graph) (ss : List State) (v : ℕ) (x : State) → v < length ss → length ss ≡ length E
    → work E (set ss v x) + left (length (edges_of E v)) (state_at ss v) ≡ work E ss + left (length (edges_of E v)) x
work-set [] [] v x h k = absurd (omega arith)
work-set [] (s ∷ ss) v x h k = absurd (omega arith)
work-set (ws ∷ E) [] v x h k = absurd (omega arith)
work-set (ws ∷ E) (s ∷ ss) zero x h k = omega arith
work-set (ws ∷ E) (s ∷ ss) (suc v) x h k =
    swapped (left (length (edges_of E v)) (state_at ss v)) (left (length (edges_of E v)) x) (left (length ws) s) (work E (set ss v x)) (work E ss)
    (work-set E ss v x (omega arith) (omega arith))
