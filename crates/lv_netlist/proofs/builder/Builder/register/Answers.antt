use Rattle.std.proofs.Common.{◌≡◌, length, sym, subst, ap, arith}
use Rattle.std.proofs.lemmas.Grind.{common_steps}
use Rattle.lv_netlist.specs.Net.{Net, IsNew, with_register}
use Rattle.lv_netlist.proofs.Nets.{register_added}
use Rattle.lv_netlist.proofs.builder.Builder.register.Goals as goal

pub invariant_of-self-2 : goal.invariant_of-self-2
invariant_of-self-2 c =
    let old : Net = record { nodes = c.self.inside.nodes.items; inputs = c.self.inside.inputs.items; registers = c.self.inside.registers.items } in
    let new : IsNew old c.args.name = subst (λ (n : Net). IsNew n c.args.name) (sym c.self.view_is) c.requires.new in
    let count : length c.self.inside.registers.items ≡ c.len.result = grind (arith, common_steps) in
    rw (c.push_reserved-2.ensures.items, c.push_reserved.ensures.items, c.reserve.ensures.items, c.reserve-2.ensures.items, ← count)
    (register_added old c.args.name c.args.width c.self.invariant new c.requires.width)

pub returns-clause-is : goal.returns-clause-is
returns-clause-is c =
    let count : length c.self.inside.registers.items ≡ c.len.result = grind (arith, common_steps) in
    rw (c.push_reserved-2.ensures.items, c.push_reserved.ensures.items, c.reserve.ensures.items, c.reserve-2.ensures.items, ← count)
    (ap (λ (n : Net). with_register n c.args.name c.args.width) c.self.view_is)
