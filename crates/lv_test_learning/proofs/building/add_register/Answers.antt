use Rattle.std.proofs.Common.{◌≡◌, ℕ, ◌<◌, ◌≤◌, ◌++◌, ◌∷◌, [], List, length, inl, inr, refl, sym, subst, ◌∙◌, ap, arith, ◌+◌, length-append, Option, Some, None, set}
use Rattle.std.proofs.Math.ListN.{get_or-append}
use Rattle.std.proofs.Math.Seq.{get_or-append_seam}
use Rattle.std.proofs.lemmas.Bool.{cases_eq}
use Rattle.std.proofs.lemmas.List.{get_or-set_same, get_or-set_other, length-set}
use Rattle.std.specs.Option.{IfSome}
use Rattle.lv_netlist.specs.declared.node.Node.TheVariants.{Reg}
use Rattle.lv_netlist.specs.declared.node.Typed.{Typed}
use Rattle.lv_netlist.specs.declared.node.Register.{Register}
use Rattle.lv_netlist.specs.Net.{Net, HasNexts, node_at, register_at, register_of, with_register, with_next}
use Rattle.lv_test_learning.proofs.building.add_register.Goals as goal

abbrev Held : Type 0
Held = List ℕ × Register

-- a new register that is given a next leaves none without
nexts_after : (net : Net) (name : List ℕ) (w m : ℕ) → HasNexts net → HasNexts (with_next (with_register net name w) (length net.registers) m)
nexts_after net name w m h i lt =
    let r : Held = (name, record { width = w; next = None }) in
    let rs : List Held = net.registers ++ r ∷ [] in
    let at : Held = register_at rs (length net.registers) in
    let x : Held = (at.0, record at.1 { next = Some m }) in
    let count : length rs ≡ length net.registers + 1 = omega (arith, length-append net.registers (r ∷ [])) in
    let same_count : length (set rs (length net.registers) x) ≡ length rs = length-set rs (length net.registers) x in
    elim (cases_eq i (length net.registers)) [
      | inl same ↦ λ none.
          let last : register_at (set rs (length net.registers) x) i ≡ x = subst (λ (j : ℕ). register_at (set rs (length net.registers) x) j ≡ x) (sym same) (get_or-set_same rs (length net.registers) x _ (omega arith)) in
          let some : Some m ≡ None = sym (ap (λ (q : Held). q.1.next) last) ∙ none in
          cc
      | inr other ↦ λ none.
          let less : i < length net.registers = omega arith in
          h i less (sym (ap (λ (q : Held). q.1.next) (get_or-set_other rs (length net.registers) i x _ other ∙ get_or-append net.registers (r ∷ []) _ i less)) ∙ none)
    ]

number_is : (net : Net) (name : List ℕ) (w : ℕ) → register_of (node_at (with_register net name w).nodes (length net.nodes)).node ≡ Some (length net.registers)
number_is net name w = ap (λ (t : Typed). register_of t.node) (get_or-append_seam net.nodes (record { node = Reg (length net.registers); width = w }) [] _)

pub finish-requires : goal.finish-requires
finish-requires c =
    let old : Net = c.reopen-builder.result in
    let new : Net = with_register old c.in_ok-name.name c.args.width in
    let e : c.register.new.self ≡ new = c.in_ok-at.ensures.is in
    let at : c.in_ok-at.at ≡ length old.nodes = c.in_ok-at.ensures.number in
    let number : register_of (node_at c.register.new.self.nodes c.in_ok-at.at).node ≡ Some (length old.registers) =
    ap (λ (n : Net). register_of (node_at n.nodes c.in_ok-at.at).node) e ∙ (ap (λ (k : ℕ). register_of (node_at new.nodes k).node) at ∙ number_is old c.in_ok-name.name c.args.width) in
    let is : c.next.new.self ≡ with_next c.register.new.self (length old.registers) c.in_ok-at.at =
    subst (λ (o : Option ℕ). IfSome o (λ (i : ℕ). c.next.new.self ≡ with_next c.register.new.self i c.in_ok-at.at)) number c.next.ensures in
    let nexts : HasNexts old = subst HasNexts (sym c.reopen-builder.ensures.same) c.reopen-builder.ensures.nexts in
    subst HasNexts (sym (is ∙ ap (λ (n : Net). with_next n (length old.registers) c.in_ok-at.at) e)) (nexts_after old c.in_ok-name.name c.args.width c.in_ok-at.at nexts)
