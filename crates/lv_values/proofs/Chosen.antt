-- Choices of a graph that grows.
use Rattle.std.proofs.Common.{ℕ, List, ◌∙◌, ap, arith}
use Rattle.lv_netlist.specs.Net.{Net}
use Rattle.lv_netlist.specs.declared.node.Typed.{Typed}
use Rattle.lv_values.specs.declared.value.Value.{Value}
use Rattle.lv_values.specs.declared.index.Choices.{Choices}
use Rattle.lv_values.specs.declared.index.Choices.TheVariants.{Elements, Read, Write}
use Rattle.lv_values.specs.Worlds.{Grows}
use Rattle.lv_values.specs.Picked.{AreElements, IsVector, AreChoices}
use Rattle.lv_values.proofs.Growth.{in-later}

vector-later : {old new : Net} {word : Value} {left right n : ℕ} → Grows old new → IsVector old word left right n → IsVector new word left right n
vector-later {old} {new} {word} g h = record { word_in = in-later old new word g h.word_in; width = h.width; most = h.most; some = h.some; count = h.count }

elements-later : {old new : Net} {width : ℕ} {nodes : List ℕ} → Grows old new → AreElements old width nodes → AreElements new width nodes
elements-later g h = record {
  within = λ i lt. omega (arith, h.within i lt, g.more);
  widths = λ i lt. ap (λ (x : Typed). x.width) (g.same _ (h.within i lt)) ∙ h.widths i lt;
}

pub choices-later : (old new : Net) (nodes : List ℕ) (choices : Choices) → Grows old new → AreChoices old nodes choices → AreChoices new nodes choices
choices-later old new nodes (Elements low width) g h = (elements-later g h.0, h.1, h.2)
choices-later old new nodes (Read word left right n) g h = vector-later g h
choices-later old new nodes (Write word left right x) g h = (vector-later g h.0, in-later old new x g h.1)
