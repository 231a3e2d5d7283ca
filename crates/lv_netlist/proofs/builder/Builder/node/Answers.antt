use Rattle.std.proofs.Common.{length, sym, subst, ◌∙◌, ap}
use Rattle.lv_netlist.specs.Net.{Net, IsRight, IsNode, node_width}
use Rattle.lv_netlist.proofs.Nets.{node_added}
use Rattle.lv_netlist.proofs.builder.Builder.node.Goals as goal

pub invariant_of-self-2 : goal.invariant_of-self-2
invariant_of-self-2 c =
    let old : Net = record { nodes = c.self.inside.nodes.items; inputs = c.self.inside.inputs.items; registers = c.self.inside.registers.items } in
    let is : IsNode old (length old.nodes) (record { node = c.args.node; width = c.node_width-width.result }) = record {
      right = subst (λ (n : Net). IsRight n (length n.nodes) c.args.node) (sym c.self.view_is) c.requires.right;
      word = c.node_width-width.ensures.word;
      same = c.node_width-width.ensures.is ∙ ap (λ (n : Net). node_width n c.args.node) (sym c.self.view_is);
      width = c.node_width-width.ensures.width;
    } in
    rw (c.push_reserved.ensures.items, c.reserve.ensures.items)
    (node_added old c.args.node c.node_width-width.result c.self.invariant c.requires.inner is)
