use Rattle.std.proofs.Common.{sym, subst, None}
use Rattle.std.specs.Prelude.{IfOk, IfErr}
use Rattle.lv_declared.specs.Listing.{thing_of}
use Rattle.lv_source.specs.Declarations.{Declaration}
use Rattle.lv_symbols.specs.Answers.{IsMade, IsNotMade, given_in}
use Rattle.lv_symbols.proofs.PartLaws.{signal_right, signal_wrong, set_told, is_direction_signal, is_wire_signal, is_reg_signal}
use Rattle.lv_symbols.proofs.symbols.symbol.Goals as goal

pub returns-in-Direction-clause-right : goal.returns-in-Direction-clause-right
returns-in-Direction-clause-right c =
    subst (λ z. let d : Declaration = record { name = c.args.declaration.now.name.now; thing = thing_of z } in
    IfOk c.signal.result (IsMade c.args.consts.now c.args.there.now c.args.consts.now (given_in c.args.givens.now d) d)) (sym c.in-Direction.is)
    (signal_right c.args.consts.now c.args.there.now _ c.in-Direction.signed c.in-Direction.range.now None
    (is_direction_signal c.args.declaration.now.name.now c.in-Direction.field-0 c.in-Direction.field-1 c.in-Direction.signed c.in-Direction.range.now)
    c.signal.result c.signal.ensures)

pub returns-in-Direction-clause-wrong : goal.returns-in-Direction-clause-wrong
returns-in-Direction-clause-wrong c =
    subst (λ z. let d : Declaration = record { name = c.args.declaration.now.name.now; thing = thing_of z } in
    IfErr c.signal.result (IsNotMade c.args.consts.now c.args.there.now (given_in c.args.givens.now d) d)) (sym c.in-Direction.is)
    (signal_wrong c.args.consts.now c.args.there.now _ c.in-Direction.signed c.in-Direction.range.now None
    (is_direction_signal c.args.declaration.now.name.now c.in-Direction.field-0 c.in-Direction.field-1 c.in-Direction.signed c.in-Direction.range.now)
    c.signal.result c.signal.ensures)

pub returns-in-Wire-clause-right : goal.returns-in-Wire-clause-right
returns-in-Wire-clause-right c =
    subst (λ z. let d : Declaration = record { name = c.args.declaration.now.name.now; thing = thing_of z } in
    IfOk c.signal-in-Wire.result (IsMade c.args.consts.now c.args.there.now c.args.consts.now (given_in c.args.givens.now d) d)) (sym c.in-Wire.is)
    (signal_right c.args.consts.now c.args.there.now _ c.in-Wire.signed c.in-Wire.range.now None
    (is_wire_signal c.args.declaration.now.name.now c.in-Wire.signed c.in-Wire.range.now) c.signal-in-Wire.result c.signal-in-Wire.ensures)

pub returns-in-Wire-clause-wrong : goal.returns-in-Wire-clause-wrong
returns-in-Wire-clause-wrong c =
    subst (λ z. let d : Declaration = record { name = c.args.declaration.now.name.now; thing = thing_of z } in
    IfErr c.signal-in-Wire.result (IsNotMade c.args.consts.now c.args.there.now (given_in c.args.givens.now d) d)) (sym c.in-Wire.is)
    (signal_wrong c.args.consts.now c.args.there.now _ c.in-Wire.signed c.in-Wire.range.now None
    (is_wire_signal c.args.declaration.now.name.now c.in-Wire.signed c.in-Wire.range.now) c.signal-in-Wire.result c.signal-in-Wire.ensures)

pub returns-in-Reg-clause-right : goal.returns-in-Reg-clause-right
returns-in-Reg-clause-right c =
    subst (λ z. let d : Declaration = record { name = c.args.declaration.now.name.now; thing = thing_of z } in
    IfOk c.signal-in-Reg.result (IsMade c.args.consts.now c.args.there.now c.args.consts.now (given_in c.args.givens.now d) d)) (sym c.in-Reg.is)
    (signal_right c.args.consts.now c.args.there.now _ c.in-Reg.signed c.in-Reg.range.now c.in-Reg.array.now
    (is_reg_signal c.args.declaration.now.name.now c.in-Reg.signed c.in-Reg.range.now c.in-Reg.array.now) c.signal-in-Reg.result c.signal-in-Reg.ensures)

pub returns-in-Reg-clause-wrong : goal.returns-in-Reg-clause-wrong
returns-in-Reg-clause-wrong c =
    subst (λ z. let d : Declaration = record { name = c.args.declaration.now.name.now; thing = thing_of z } in
    IfErr c.signal-in-Reg.result (IsNotMade c.args.consts.now c.args.there.now (given_in c.args.givens.now d) d)) (sym c.in-Reg.is)
    (signal_wrong c.args.consts.now c.args.there.now _ c.in-Reg.signed c.in-Reg.range.now c.in-Reg.array.now
    (is_reg_signal c.args.declaration.now.name.now c.in-Reg.signed c.in-Reg.range.now c.in-Reg.array.now) c.signal-in-Reg.result c.signal-in-Reg.ensures)

pub returns-in-Err-clause-wrong : goal.returns-in-Err-clause-wrong
returns-in-Err-clause-wrong c =
    subst (λ z. let d : Declaration = record { name = c.args.declaration.now.name.now; thing = thing_of z } in
    IsNotMade c.args.consts.now c.args.there.now (given_in c.args.givens.now d) d c.in-Err.error) (sym c.in-Parameter.is)
    (set_told c.args.consts.now c.args.there.now c.args.declaration.now.name.now c.in-Parameter.local c.in-Parameter.signed c.in-Parameter.range.now
    c.in-Parameter.value.now _ c.in-Err.error c.in-Err.ensures.wrong)
