use Rattle.std.proofs.Common.{◌≤◌, sym, subst, ap, ◌∙◌, arith}
use Rattle.lv_netlist.specs.Net.{Net}
use Rattle.lv_source.specs.Values.{nowhere}
use Rattle.lv_flat.specs.Signals.{declared_all}
use Rattle.lv_flat.specs.Judged.{Judged}
use Rattle.lv_values.specs.declared.value.Value.{Value}
use Rattle.lv_values.specs.Worlds.{World, IsKnown, number}
use Rattle.lv_extents.proofs.Constants.{constant-alike}
use Rattle.lv_extents.proofs.Worlds.{world, obeys}
use Rattle.lv_extents.proofs.constant.constant_value.Goals as goal

pub value-requires-clause-good : goal.value-requires-clause-good
value-requires-clause-good c =
    sym (ap (λ (j : Judged). j.good) (constant-alike (declared_all c.args._signals.now) c.args.e.now c.requires.constant c.requires.good)) ∙ c.requires.good

pub value-requires-clause-wide : goal.value-requires-clause-wide
value-requires-clause-wide c =
    subst (λ (j : Judged). j.reading.meaning.width ≤ c.args.width) (constant-alike (declared_all c.args._signals.now) c.args.e.now c.requires.constant c.requires.good) c.requires.wide

pub returns-in-Known-clause-is : goal.returns-in-Known-clause-is
returns-in-Known-clause-is c =
    let same = constant-alike (declared_all c.args._signals.now) c.args.e.now c.requires.constant c.requires.good in
    let m = c.in_ok-r.ensures.is in
    let net : Net = c.value.new.b in
    let noin = m.grows.inputs ∙ ap (λ (n : Net). n.inputs) c.new-b.ensures in
    let noreg = m.grows.registers ∙ ap (λ (n : Net). n.registers) c.new-b.ensures in
    let w : World = world net c.len.ensures.net noin noreg in
    let is = m.is w nowhere (obeys net c.len.ensures.net noin noreg) (record { is = λ i lt. absurd (omega (arith, lt)) }) in
    c.value-in-Known.ensures.is ∙ (sym (ap (number w) c.in-Known.is) ∙ (is ∙ ap (λ (j : Judged). j.reading.meaning.value c.args.width c.args.signed nowhere) (sym same)))

pub returns-clause-is : goal.returns-clause-is
returns-clause-is c =
    let same = constant-alike (declared_all c.args._signals.now) c.args.e.now c.requires.constant c.requires.good in
    absurd (subst (λ (v : Value). IsKnown v) c.in-Node.is (c.in_ok-r.ensures.known (sym (ap (λ (j : Judged). j.reading.constant) same) ∙ c.requires.constant)))
