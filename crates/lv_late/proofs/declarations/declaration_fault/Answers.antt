use Rattle.std.proofs.Common.{subst, sym}
use Rattle.lv_late.specs.Outers.{said_of}
use Rattle.lv_late.specs.Standing.{IsDeclarationFaultIn}
use Rattle.lv_late.proofs.LateFaults.{declared-range, declared-zero, declared-never, declared-late}
use Rattle.lv_late.proofs.declarations.declaration_fault.Goals as goal

pub returns-in-Range : goal.returns-in-Range
returns-in-Range g c = λ f i t.
    declared-range (said_of g.B.Bindings.numbers c.args.declarations.now c.args.base.now c.args.around) f i c.args.error t c.in-Range.place c.in-Range.is

pub returns-in-ZeroDivisor : goal.returns-in-ZeroDivisor
returns-in-ZeroDivisor g c = λ f i t.
    declared-zero (said_of g.B.Bindings.numbers c.args.declarations.now c.args.base.now c.args.around) f i c.args.error t c.in-ZeroDivisor.place c.in-ZeroDivisor.is

pub returns-in-None : goal.returns-in-None
returns-in-None g c = λ f i t.
    absurd (declared-never (said_of g.B.Bindings.numbers c.args.declarations.now c.args.base.now c.args.around) f i c.args.error t c.in-NoValue.place c.in-NoValue.is
    c.in-None.ensures)

pub returns-in-Some : goal.returns-in-Some
returns-in-Some g c = λ f i t.
    subst (IsDeclarationFaultIn f.scope) (sym c.of_node.ensures)
    (declared-late (said_of g.B.Bindings.numbers c.args.declarations.now c.args.base.now c.args.around) f i c.in-Some.error c.in-Some.ensures)
