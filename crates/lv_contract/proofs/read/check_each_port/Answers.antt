use Rattle.std.proofs.Common.{◌≡◌, ◌<◌, ◌∙◌, true, sym, length, arith}
use Rattle.lv_contract.specs.declared.key.Level.TheVariants as level
use Rattle.lv_contract.specs.Values.{keeps}
use Rattle.lv_contract.proofs.Ports.{port_in-here, port_within, more_ports}
use Rattle.lv_contract.proofs.read.check_each_port.Goals as goal

pub loop-value-preserved : goal.loop-value-preserved
loop-value-preserved c =
    more_ports (λ port. keeps c.args.need level.Port port ≡ true) c.args.values.now c.loop-value.value-index c.value-item.result c.loop-value-test.true (sym c.value-item.is) c.loop-value.invariant c.in-Ok.ensures

pub returns-in-Err : goal.returns-in-Err
returns-in-Err c =
    let h = c.in-Err.ensures in
    (c.loop-value.value-index, h.0, port_in-here c.args.values.now c.loop-value.value-index c.value-item.result c.loop-value-test.true (sym c.value-item.is) ∙ h.1, h.2 c.loop-value.value-index)

pub returns : goal.returns
returns c = λ i port s.
    let l : i < length c.args.values.now = port_within c.args.values.now i port s in
    c.loop-value.invariant i (omega (arith, l, c.loop-value-test.false)) port s
