use Rattle.std.proofs.Common.{sym}
use Rattle.lv_flat.specs.Signals.{declared_all}
use Rattle.lv_parts.specs.Nets.{net_parts, IsWellNet, IsCleanNet, IsToldNet}
use Rattle.lv_parts.proofs.AddLaws.{told-there, added-more}
use Rattle.lv_parts.proofs.net.nets.Goals as goal

pub returns-in-Err : goal.returns-in-Err
returns-in-Err g c = record {
  at = λ here ok. record {
    at = λ n. told-there (declared_all c.args.place.now.signals.now) (net_parts here.names c.args.path.now) (IsWellNet here.names) (IsCleanNet here) (λ z. IsToldNet here z)
        c.args.list.now c.loop-one.one-index c.one-item.result c.loop-one-test.true (sym c.one-item.is) c.args.into.now.items c.net.new.into.items c.in-Err.error
        (c.in-Err.ensures.at here ok (n.each c.one-item.result (c.loop-one.one-index, c.loop-one-test.true, sym c.one-item.is))).wrong;
  };
}

pub loop-one-preserved : goal.loop-one-preserved
loop-one-preserved g c = record {
  at = λ here ok n. added-more (declared_all c.args.place.now.signals.now) (net_parts here.names c.args.path.now) (IsWellNet here.names) (IsCleanNet here)
      (λ z. IsToldNet here z) c.args.list.now c.loop-one.one-index c.one-item.result c.loop-one-test.true (sym c.one-item.is) c.args.into.now.items c.loop-one.into.items
      c.net.new.into.items (c.loop-one.invariant.at here ok n)
      (c.in-Ok.ensures.at here ok (n.each c.one-item.result (c.loop-one.one-index, c.loop-one-test.true, sym c.one-item.is))).right;
}
