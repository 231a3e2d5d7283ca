-- What a graph means: the values of its nodes in a cycle, and the registers of the next cycle.
use Rattle.std.specs.Prelude.{ℕ, ◌+◌, ◌*◌, ◌/◌, ◌%◌, ◌^◌, ◌==◌, if◌then◌else◌, List, [], ◌∷◌, ◌++◌, map, slice_index_or, Some, None}
use Rattle.lv_bits.specs.Words.{Bits}
use Rattle.lv_bits.specs.Values.{unary_of, binary_of, extended}
use Rattle.lv_netlist.specs.declared.node.Node.{Node}
use Rattle.lv_netlist.specs.declared.node.Node.TheVariants.{Input, Reg, Const, Un, Bin, Mux, Slice, Cat, Ext}
use Rattle.lv_netlist.specs.declared.node.Typed.{Typed}
use Rattle.lv_netlist.specs.declared.node.Register.{Register}
use Rattle.lv_netlist.specs.Net.{Net}

abbrev pub no_bits : Bits
no_bits = record { width = 0; value = 0 }

abbrev pub bits_at : List Bits → ℕ → Bits
bits_at words k = slice_index_or words k no_bits

-- the value of a node, over the registers, the inputs and the values of the nodes before it.
-- The conditional is IEEE 1364-2005, 5.1.13, the concatenation 5.1.14, the extension 5.5.2
abbrev pub node_bits : List Bits → List Bits → List Bits → Node → Bits
node_bits state inputs before (Input i) = bits_at inputs i
node_bits state inputs before (Reg i) = bits_at state i
node_bits state inputs before (Const w) = w
node_bits state inputs before (Un op a) = unary_of op (bits_at before a)
node_bits state inputs before (Bin op a b signed) = binary_of op signed (bits_at before a) (bits_at before b)
node_bits state inputs before (Mux c a b) = if (bits_at before c).value == 0 then bits_at before b else bits_at before a
node_bits state inputs before (Slice a low width) = record { width = width; value = (bits_at before a).value / 2 ^ low % 2 ^ width }
node_bits state inputs before (Cat a b) = record { width = (bits_at before a).width + (bits_at before b).width; value = (bits_at before a).value * 2 ^ (bits_at before b).width + (bits_at before b).value }
node_bits state inputs before (Ext a width signed) = record { width = width; value = extended signed (bits_at before a).width width (bits_at before a).value }

-- the values of the nodes before, and then those of the listed nodes
abbrev pub values_from : List Bits → List Bits → List Bits → List Typed → List Bits
values_from state inputs before [] = before
values_from state inputs before (typed ∷ nodes) = values_from state inputs (before ++ node_bits state inputs before typed.node ∷ []) nodes

-- the values of all nodes
abbrev pub values_of : Net → List Bits → List Bits → List Bits
values_of net state inputs = values_from state inputs [] net.nodes

-- the value of a register's next node
abbrev pub next_bits : List Bits → List ℕ × Register → Bits
next_bits values register = elim register.1.next [ Some m ↦ bits_at values m | None ↦ no_bits ]

-- all registers together
abbrev pub next_state : Net → List Bits → List Bits
next_state net values = map (next_bits values) net.registers
