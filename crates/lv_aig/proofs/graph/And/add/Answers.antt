use Rattle.std.proofs.Common.{◌≡◌, ◌≢◌, ◌<◌, ◌+◌, ℕ, None, Some, ◌∷◌, [], length, length-append, subst, sym, arith}
use Rattle.lv_aig.specs.Edges.{Nodes, gate_at}
use Rattle.lv_aig.proofs.Graphs.{with_gate}
use Rattle.lv_aig.proofs.Sharing.{agrees_same, agrees_gate}
use Rattle.lv_aig.proofs.graph.And.add.Goals as goal

pub invariant_of-self-in-Ok : goal.invariant_of-self-in-Ok
invariant_of-self-in-Ok c =
    let nodes : Nodes = None ∷ c.self.inside.nodes.items in
    let fresh : (k : ℕ) → k < length nodes → gate_at nodes k ≢ Some c.args.gate =
    subst (λ (xs : Nodes). (k : ℕ) → k < length xs → gate_at xs k ≢ Some c.args.gate) (sym c.self.view_is) c.requires.fresh in
    let within : c.args.gate.right.node < length nodes = subst (λ (xs : Nodes). c.args.gate.right.node < length xs) (sym c.self.view_is) c.requires.within in
    let at : c.len.result + 1 ≡ length nodes = omega (arith, c.in_ok-reserve.ensures.len, c.self.inside.nodes.ok.0) in
    rw (c.push_reserved.ensures.items, c.in_ok-reserve.ensures.items) (
      with_gate nodes c.args.gate c.self.invariant.0 c.requires.some c.requires.rise within fresh,
      agrees_gate nodes c.self.inside.shared c.insert.new.self c.args.gate (c.len.result + 1) at fresh c.in-Ok.ensures.updates c.self.invariant.1,
      omega (arith, length-append c.self.inside.nodes.items (Some c.args.gate ∷ []), c.in_ok-reserve.ensures.capacity, c.reserve.new.self.small, c.self.inside.nodes.ok.0, c.in_ok-reserve.ensures.len),
    )

pub invariant_of-self-in-Err : goal.invariant_of-self-in-Err
invariant_of-self-in-Err c =
    rw c.in_ok-reserve.ensures.items
    (c.self.invariant.0, agrees_same (None ∷ c.self.inside.nodes.items) c.self.inside.shared c.insert.new.self c.in-Err.ensures.err c.self.invariant.1, c.self.invariant.2)
