use Rattle.std.proofs.Common.{◌≡◌, None, ◌∷◌, [], subst, arith, length-append}
use Rattle.lv_aig.specs.Edges.{Nodes, IsGraph}
use Rattle.lv_aig.specs.Shared.{Agrees}
use Rattle.lv_aig.proofs.Graphs.{with_open}
use Rattle.lv_aig.proofs.Sharing.{agrees_open}
use Rattle.lv_aig.proofs.graph.And.input.Goals as goal

pub invariant_of-self-2 : goal.invariant_of-self-2
invariant_of-self-2 c =
    rw (c.push_reserved.ensures.items, c.in_ok-reserve.ensures.items)
    (with_open (None ∷ c.self.inside.nodes.items) c.self.invariant.0, agrees_open (None ∷ c.self.inside.nodes.items) c.self.inside.shared c.self.invariant.1, omega (arith, length-append c.self.inside.nodes.items (None ∷ []), c.in_ok-reserve.ensures.capacity, c.reserve.new.self.small, c.self.inside.nodes.ok.0, c.in_ok-reserve.ensures.len))
