use Rattle.std.proofs.Common.{ℕ, ◌≡◌, ◌+◌, ◌%◌, ◌^◌, sym, ap, arith, ◌∙◌, pos}
use Rattle.std.specs.Prelude.{◌-ℤ◌}
use Rattle.std.proofs.Math.Nat.{mod-eq_of_lt}
use Rattle.lv_values.specs.Worlds.{width_of, number}
use Rattle.lv_values.specs.Picked.{code_number, item_value}
use Rattle.lv_values.proofs.Growth.{grows-trans, obeys-before, number-lt}
use Rattle.lv_values.proofs.index.pick.Goals as goal

pub returns-in_ok-r-in-Node-clause-is : goal.returns-in_ok-r-in-Node-clause-is
returns-in_ok-r-in-Node-clause-is c =
    let k = c.in_ok-bits-in-Node.ensures.grows in
    let g = c.in_ok-r-in-Node.ensures in
    let wide : c.in-Node.width ≡ width_of c.args.index.now = ap width_of (sym c.in-Node.is) in
    record {
      grows = grows-trans c.args.b.now c.bits_of.new.b c.tree.new.b k g.grows;
      in_new = g.in_new;
      width = g.width;
      is = λ w o.
          let o0 = obeys-before c.args.b.now c.tree.new.b w (grows-trans c.args.b.now c.bits_of.new.b c.tree.new.b k g.grows) o in
          let n : ℕ = number w c.args.index.now in
          let e : 0 + n % 2 ^ c.in-Node.width ≡ n =
          (let z : 0 + n % 2 ^ c.in-Node.width ≡ n % 2 ^ c.in-Node.width = omega arith in z ∙ (ap (λ i. n % 2 ^ i) wide ∙ mod-eq_of_lt (number-lt c.args.b.now c.args.index.now w c.requires.index_in o0))) in
          g.is w o ∙ ap (λ i. item_value w c.args.nodes.now c.args.choices.now (code_number c.args.signed (width_of c.args.index.now) i -ℤ pos c.args.down)) e;
    }
