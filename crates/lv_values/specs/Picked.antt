-- What stands at each value of an index.
use Rattle.std.specs.Prelude.{◌≡◌, ℕ, suc, ◌⊎◌, ◌+◌, ◌-◌, ◌/◌, ◌%◌, ◌^◌, ◌<◌, ◌≤◌, nat_lt, Bool, if◌then◌else◌, List, length, slice_index_or, slice_get, Option, Some, None, ℤ, pos, negsuc, ◌-ℤ◌}
use Rattle.lv_bits.specs.Values.{signed_of}
use Rattle.lv_netlist.specs.Net.{Net, width_at}
use Rattle.lv_netlist.specs.Run.{bits_at}
use Rattle.lv_source.specs.Names.{size}
use Rattle.lv_source.specs.Places.{bits_from, read_bits, write_bits}
use Rattle.lv_values.specs.declared.value.Value.{Value}
use Rattle.lv_values.specs.declared.index.Choices.{Choices}
use Rattle.lv_values.specs.declared.index.Choices.TheVariants.{Elements, Read, Write}
use Rattle.lv_values.specs.declared.window.Number.{Number}
use Rattle.lv_values.specs.declared.window.Number.TheVariants.{Above, Below}
use Rattle.lv_values.specs.Worlds.{World, Obeys, IsIn, IsKnown, width_of, number}

-- the number that an index of w bits stands for
abbrev pub code_number : Bool → ℕ → ℕ → ℤ
code_number signed w x = if signed then signed_of w x else pos x

abbrev pub node_value : World → Option ℕ → ℕ
node_value w None = 0
node_value w (Some k) = (bits_at w.values k).value

-- the element with this number, where the first has the number `low`
abbrev pub element_value : World → List ℕ → ℕ → ℤ → ℕ
element_value w nodes low (negsuc i) = 0
element_value w nodes low (pos i) = if nat_lt i low then 0 else node_value w (slice_get nodes (i - low))

-- what stands at a number
abbrev pub item_value : World → List ℕ → Choices → ℤ → ℕ
item_value w nodes (Elements low width) z = element_value w nodes low z
item_value w nodes (Read word left right n) z = read_bits (number w word) (bits_from (record { left = left; right = right }) z n)
item_value w nodes (Write word left right x) z = write_bits (number w word) (bits_from (record { left = left; right = right }) z (width_of x)) (number w x)

-- what stands at the numbers that are outside
abbrev pub other_value : World → Choices → ℕ
other_value w (Elements low width) = 0
other_value w (Read word left right n) = 0
other_value w (Write word left right x) = number w word

abbrev pub item_width : Choices → ℕ
item_width (Elements low width) = width
item_width (Read word left right n) = n
item_width (Write word left right x) = width_of word

pub record AreElements (net : Net) (width : ℕ) (nodes : List ℕ) : Type 0 where
  pub within : (i : ℕ) → i < length nodes → slice_index_or nodes i 0 < length net.nodes
  pub widths : (i : ℕ) → i < length nodes → width_at net.nodes (slice_index_or nodes i 0) ≡ width

pub record IsVector (net : Net) (word : Value) (left right n : ℕ) : Type 0 where
  pub word_in : IsIn net word
  pub width : width_of word ≡ size (record { left = left; right = right })
  pub most : size (record { left = left; right = right }) ≤ 128
  pub some : 1 ≤ n
  pub count : n ≤ 128

-- choices of a graph
abbrev pub AreChoices : Net → List ℕ → Choices → Type 0
AreChoices net nodes (Elements low width) = AreElements net width nodes × (1 ≤ width) × (width ≤ 128)
AreChoices net nodes (Read word left right n) = IsVector net word left right n
AreChoices net nodes (Write word left right x) = IsVector net word left right (width_of x) × IsIn net x

-- the n lowest bits of an index, the lowest first
pub record AreBits (net : Net) (index : Value) (bits : List Value) (n : ℕ) : Type 0 where
  pub count : length bits ≡ n
  pub each : (i : ℕ) (d : Value) → i < length bits → IsIn net (slice_index_or bits i d) × (width_of (slice_index_or bits i d) ≡ 1)
  pub is : (w : World) → Obeys net w → (i : ℕ) (d : Value) → i < length bits → number w (slice_index_or bits i d) ≡ number w index / 2 ^ i % 2

-- there is room for further 128
abbrev pub IsNear : Number → Type 0
IsNear (Above n) = Unit {0}
IsNear (Below n) = n < 2 ^ 127

-- no number of the n from z on lies between the bounds
abbrev pub MissesFrom : ℕ → ℕ → ℕ → ℤ → Type 0
MissesFrom l h n (pos i) = (h < i) ⊎ (i + n ≤ l)
MissesFrom l h n (negsuc i) = n ≤ suc i + l

pub record Misses (l h n : ℕ) (signed : Bool) (width down first last : ℕ) : Type 0 where
  pub misses : (x : ℕ) → first ≤ x → x ≤ last → MissesFrom l h n (code_number signed width x -ℤ pos down)

-- what stands there stands outside
pub record AreOutside (nodes : List ℕ) (choices : Choices) (signed : Bool) (width down first last : ℕ) : Type 0 where
  pub are : (w : World) (x : ℕ) → first ≤ x → x ≤ last → item_value w nodes choices (code_number signed width x -ℤ pos down) ≡ other_value w choices

-- elements have numbers of 32 bits
abbrev pub HasElements : List ℕ → Choices → Type 0
HasElements nodes (Elements low width) = (1 ≤ length nodes) × (low + length nodes ≤ 2 ^ 32)
HasElements nodes _ = Unit {0}

-- the node of the element, or 0
pub record IsElement (nodes : List ℕ) (low width : ℕ) (z : ℤ) (r : Value) : Type 0 where
  pub in_all : (net : Net) → AreElements net width nodes → IsIn net r
  pub wide : width_of r ≡ width
  pub is : (w : World) → number w r ≡ element_value w nodes low z

-- what is read needs no node
abbrev pub AreKnown : Choices → Type 0
AreKnown (Read word left right n) = IsKnown word
AreKnown _ = ⊥
