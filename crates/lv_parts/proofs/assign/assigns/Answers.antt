use Rattle.std.proofs.Common.{sym}
use Rattle.lv_flat.specs.Signals.{declared_all}
use Rattle.lv_parts.specs.Assigns.{assign_parts, IsWellAssign, IsCleanAssign, IsToldAssign}
use Rattle.lv_parts.proofs.AddLaws.{told-there, added-more}
use Rattle.lv_parts.proofs.assign.assigns.Goals as goal

pub returns-in-Err : goal.returns-in-Err
returns-in-Err g c = record {
  at = λ here ok. told-there (declared_all c.args.place.now.signals.now) (assign_parts here.names c.args.path.now) IsWellAssign (IsCleanAssign here) (λ z. IsToldAssign here z)
      c.args.list.now c.loop-one.one-index c.one-item.result c.loop-one-test.true (sym c.one-item.is) c.args.into.now.items c.assign.new.into.items c.in-Err.error
      (c.in-Err.ensures.at here ok).wrong;
}

pub loop-one-preserved : goal.loop-one-preserved
loop-one-preserved g c = record {
  at = λ here ok. added-more (declared_all c.args.place.now.signals.now) (assign_parts here.names c.args.path.now) IsWellAssign (IsCleanAssign here) (λ z. IsToldAssign here z)
      c.args.list.now c.loop-one.one-index c.one-item.result c.loop-one-test.true (sym c.one-item.is) c.args.into.now.items c.loop-one.into.items c.assign.new.into.items
      (c.loop-one.invariant.at here ok) (c.in-Ok.ensures.at here ok).right;
}
