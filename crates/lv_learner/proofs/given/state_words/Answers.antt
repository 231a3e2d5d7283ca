use Rattle.std.proofs.Common.{◌≡◌, ℕ, List, length, slice_index, refl, ◌∙◌, ap, arith, [], ◌∷◌, ◌++◌}
use Rattle.lv_bits.specs.Words.{Bits}
use Rattle.lv_netlist.specs.Net.{Net}
use Rattle.lv_netlist.specs.Queries.{register_widths}
use Rattle.lv_learner.proofs.Words.{register_width_is, register_count}
use Rattle.lv_learner.proofs.Testing.{cut_more, low_is}
use Rattle.lv_learner.proofs.given.state_words.Goals as goal

pub loop-k-preserved : goal.loop-k-preserved
loop-k-preserved c =
    let net : Net = c.args.graph.now in
    let k : ℕ = c.loop-k.k in
    let n : length (register_widths net) ≡ length net.registers = register_count net in
    cut_more (register_widths net) c.args.values.now k c.low-word.result c.loop-k.words.items c.push_reserved.new.self.items
    (omega (arith, n, c.registers-k-end.ensures, c.loop-k-test.true)) (omega (arith, c.registers-k-end.ensures, c.loop-k-test.true, c.requires))
    (low_is c.low-word.result c.register_width.result (slice_index c.args.values.now k) (register_widths net) c.args.values.now k c.low-word.ensures
    (c.register_width.ensures.is ∙ register_width_is net k) refl)
    c.loop-k.invariant (c.push_reserved.ensures.items ∙ ap (λ (xs : List Bits). xs ++ c.low-word.result ∷ []) c.reserve.ensures.items)
