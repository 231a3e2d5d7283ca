-- The next nodes of registers.
use Rattle.std.specs.Prelude.{ℕ, Bool, true, false, List, [], ◌∷◌, Some}
use Rattle.lv_netlist.specs.declared.node.Register.{Register}
use Rattle.lv_netlist.specs.Net.{Net}
use Rattle.lv_lower.specs.declared.slot.Kind.{Kind}
use Rattle.lv_lower.specs.declared.slot.Kind.TheVariants.{Input, Register as Held, Zero}
use Rattle.lv_lower.specs.declared.slot.Slot.{Slot}

-- the registers with these next nodes, as far as there are some
abbrev pub next_all : List (List ℕ × Register) → List ℕ → List (List ℕ × Register)
next_all [] ms = []
next_all (r ∷ rs) [] = r ∷ rs
next_all (r ∷ rs) (m ∷ ms) = (r.0, record r.1 { next = Some m }) ∷ next_all rs ms

abbrev pub held_by : Kind → ℕ → List ℕ → List ℕ
held_by Input m ms = ms
held_by Held m ms = m ∷ ms
held_by Zero m ms = ms

-- of a node for each cell, those of registers
abbrev pub held_in : List Slot → List ℕ → List ℕ
held_in [] ms = []
held_in (s ∷ ss) [] = []
held_in (s ∷ ss) (m ∷ ms) = held_by s.kind m (held_in ss ms)

abbrev pub with_nexts : Net → List Slot → List ℕ → Net
with_nexts net ss ms = record net { registers = next_all net.registers (held_in ss ms) }

abbrev pub is_held : Kind → Bool
is_held Input = false
is_held Held = true
is_held Zero = false
