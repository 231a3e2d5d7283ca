use Rattle.std.proofs.Common.{List, ℕ, sym, subst, ◌∙◌, ap, IsFalse}
use Rattle.std.specs.Prelude.{◌↔◌}
use Rattle.std.specs.Str.{bytes_eq}
use Rattle.std.specs.List.{list_any}
use Rattle.lv_netlist.specs.declared.node.Register.{Register}
use Rattle.lv_netlist.specs.Net.{Net, IsNew}
use Rattle.lv_netlist.proofs.Names.{has_input, has_register}
use Rattle.lv_netlist.proofs.builder.Builder.has.Goals as goal

pub returns-then-is_named : goal.returns-then-is_named
returns-then-is_named c =
    let net : Net = record { nodes = c.self.inside.nodes.items; inputs = c.self.inside.inputs.items; registers = c.self.inside.registers.items } in
    let is = c.is_named.ensures ∙ ap (λ (es : List (List ℕ × ℕ)). list_any (λ e. bytes_eq c.args.name.now e.0) es) c.as_slice.ensures.value in
    subst (λ (n : Net). IsFalse c.is_named.result ↔ IsNew n c.args.name.now) c.self.view_is
    (has_input net c.args.name.now c.is_named.result c.if-is_named.true is)

pub returns-else-is_named : goal.returns-else-is_named
returns-else-is_named c =
    let net : Net = record { nodes = c.self.inside.nodes.items; inputs = c.self.inside.inputs.items; registers = c.self.inside.registers.items } in
    let is = c.is_named.ensures ∙ ap (λ (es : List (List ℕ × ℕ)). list_any (λ e. bytes_eq c.args.name.now e.0) es) c.as_slice.ensures.value in
    let then_is = c.is_named-else-is_named.ensures ∙ ap (λ (es : List (List ℕ × Register)). list_any (λ e. bytes_eq c.args.name.now e.0) es) c.as_slice-else-is_named.ensures.value in
    subst (λ (n : Net). IsFalse c.is_named-else-is_named.result ↔ IsNew n c.args.name.now) c.self.view_is
    (has_register net c.args.name.now c.is_named-else-is_named.result (sym c.if-is_named.false ∙ is) then_is)
