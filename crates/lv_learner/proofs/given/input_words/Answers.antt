use Rattle.std.proofs.Common.{◌≡◌, ℕ, List, length, slice_index, refl, ◌∙◌, ap, arith, [], ◌∷◌, ◌++◌}
use Rattle.lv_bits.specs.Words.{Bits}
use Rattle.lv_netlist.specs.Net.{Net}
use Rattle.lv_netlist.specs.Queries.{port_widths}
use Rattle.lv_learner.proofs.Words.{input_width_is, port_count}
use Rattle.lv_learner.proofs.Testing.{cut_more, low_is}
use Rattle.lv_learner.proofs.given.input_words.Goals as goal

pub loop-k-preserved : goal.loop-k-preserved
loop-k-preserved c =
    let net : Net = c.args.graph.now in
    let k : ℕ = c.loop-k.k in
    let n : length (port_widths net) ≡ length net.inputs = port_count net in
    cut_more (port_widths net) c.args.values.now k c.low-word.result c.loop-k.words.items c.push_reserved.new.self.items
    (omega (arith, n, c.inputs-k-end.ensures, c.loop-k-test.true)) (omega (arith, c.inputs-k-end.ensures, c.loop-k-test.true, c.requires))
    (low_is c.low-word.result c.input_width.result (slice_index c.args.values.now k) (port_widths net) c.args.values.now k c.low-word.ensures
    (c.input_width.ensures.is ∙ input_width_is net k) refl)
    c.loop-k.invariant (c.push_reserved.ensures.items ∙ ap (λ (xs : List Bits). xs ++ c.low-word.result ∷ []) c.reserve.ensures.items)
