use Rattle.std.proofs.Common.{◌≡◌, ◌<◌, ℕ, zero, suc, List, [], ◌∷◌, length, get_or, arith, sym, subst, ◌∙◌, ap, set, Some}
use Rattle.std.proofs.lemmas.Grind.{common_steps}
use Rattle.lv_netlist.specs.Net.{Net, IsNet, IsNode, IsRight, node_at, width_at, register_at, register_width, register_of, node_width, with_next}
use Rattle.lv_netlist.specs.declared.node.Typed.{Typed}
use Rattle.lv_netlist.specs.declared.node.Node.TheVariants.{Reg}
use Rattle.lv_netlist.specs.declared.node.Register.{Register}
use Rattle.lv_netlist.proofs.Nets.{next_made}
use Rattle.lv_netlist.proofs.builder.Builder.next.Goals as goal

-- what the type keeps of a node that is a register
at_register : (net : Net) (k i : ℕ) (t : Typed) → IsNode net k t → t.node ≡ Reg i → (i < length net.registers) × (register_width net i ≡ t.width)
at_register net k i t h e =
    let r : IsRight net k (Reg i) = subst (IsRight net k) e h.right in
    (r, sym (h.same ∙ ap (node_width net) e))

-- an element is the same whatever stands for those past the end
held : (rs : List (List ℕ × Register)) (i : ℕ) (x d : List ℕ × Register) → i < length rs → x ≡ get_or rs i x → get_or rs i d ≡ x
held [] i x d lt e = absurd (omega arith)
held (r ∷ rs) zero x d lt e = sym e
held (r ∷ rs) (suc i) x d lt e = held rs i x d (omega arith) e

-- what the write makes of the registers
written : (old : Net) (i m : ℕ) (x : List ℕ × Register) → register_at old.registers i ≡ x → set old.registers i (x.0, record { width = x.1.width; next = Some m }) ≡ (with_next old i m).registers
written old i m x e = ap (λ (y : List ℕ × Register). set old.registers i (y.0, record { width = y.1.width; next = Some m })) (sym e)

pub invariant_of-self : goal.invariant_of-self
invariant_of-self c =
    let old : Net = record { nodes = c.self.inside.nodes.items; inputs = c.self.inside.inputs.items; registers = c.self.inside.registers.items } in
    let h : c.args.register < length old.nodes = grind arith in
    let is : (node_at old.nodes c.args.register).node ≡ Reg c.in-Reg.at = grind (arith, common_steps) in
    let r = at_register old c.args.register c.in-Reg.at _ (c.self.invariant.nodes c.args.register h) is in
    let within : c.args.node < length old.nodes = grind arith in
    let asked : width_at old.nodes c.args.register ≡ width_at old.nodes c.args.node = subst (λ (n : Net). width_at n.nodes c.args.register ≡ width_at n.nodes c.args.node) (sym c.self.view_is) c.requires.same in
    let same : width_at old.nodes c.args.node ≡ register_width old c.in-Reg.at = sym (r.1 ∙ asked) in
    let value = held old.registers c.in-Reg.at c.index_mut-entry.result.now _ r.0 c.index_mut-entry.ensures.value in
    subst (λ (rs : List (List ℕ × Register)). IsNet (record old { registers = rs })) (sym (written old c.in-Reg.at c.args.node c.index_mut-entry.result.now value))
    (next_made old c.in-Reg.at c.args.node c.self.invariant r.0 within same)

pub returns : goal.returns
returns c =
    let old : Net = record { nodes = c.self.inside.nodes.items; inputs = c.self.inside.inputs.items; registers = c.self.inside.registers.items } in
    let h : c.args.register < length old.nodes = grind arith in
    let is : (node_at old.nodes c.args.register).node ≡ Reg c.in-Reg.at = grind (arith, common_steps) in
    let r = at_register old c.args.register c.in-Reg.at _ (c.self.invariant.nodes c.args.register h) is in
    let value = held old.registers c.in-Reg.at c.index_mut-entry.result.now _ r.0 c.index_mut-entry.ensures.value in
    let made = ap (λ (rs : List (List ℕ × Register)). record old { registers = rs }) (written old c.in-Reg.at c.args.node c.index_mut-entry.result.now value) in
    let number : register_of (node_at c.args.self.now.nodes c.args.register).node ≡ Some c.in-Reg.at =
    ap (λ (n : Net). register_of (node_at n.nodes c.args.register).node) (sym c.self.view_is) ∙ ap register_of is in
    rw number (made ∙ ap (λ (n : Net). with_next n c.in-Reg.at c.args.node) c.self.view_is)
