use Rattle.std.proofs.Common.{◌≡◌, ◌<◌, length, subst, ◌∙◌, ap, sym, Some}
use Rattle.lv_netlist.specs.declared.node.Register.{Register}
use Rattle.lv_netlist.specs.Net.{Net, register_next}
use Rattle.lv_netlist.proofs.graph.Graph.next_of.Goals as goal

pub returns-clause-within : goal.returns-clause-within
returns-clause-within c =
    let net : Net = c.self.inside.builder in
    let is : register_next net c.args.k ≡ Some c.in-Some.node = sym (ap (λ (r : Register). r.next) c.register_at.ensures.is) ∙ c.in-Some.is in
    let k_within : c.args.k < length net.registers = subst (λ (n : Net). c.args.k < length n.registers) (sym c.self.view_is) c.requires in
    subst (λ (n : Net). c.in-Some.node < length n.nodes) c.self.view_is ((c.len.ensures.net.registers c.args.k k_within).next c.in-Some.node is).0
