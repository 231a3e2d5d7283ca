use Rattle.lv_resolve.proofs.TargetArms.{target-absent, target-no_number, target-index, target-none, target-right}
use Rattle.lv_resolve.proofs.target.target_name.Goals as goal

pub returns-in-None : goal.returns-in-None
returns-in-None g c = record {
  at = λ here ok. target-absent c.args.place.now.signals.now (g.B.Bindings.numbers c.args.place.now.bindings.now) c.args.place.now.all.now c.args.place.now.early.now here ok c.args.driven c.args.path.now c.args.selects.now c.in-None.ensures;
}

pub returns-in-None-signal_at : goal.returns-in-None-signal_at
returns-in-None-signal_at g c = record {
  at = λ here ok. target-no_number c.args.place.now.signals.now (g.B.Bindings.numbers c.args.place.now.bindings.now) c.args.place.now.all.now c.args.place.now.early.now here ok c.args.driven c.args.path.now c.args.selects.now c.in-Some.number _ c.in-Some.ensures c.in-None-signal_at.ensures;
}

pub returns-in-Err : goal.returns-in-Err
returns-in-Err g c = record {
  at = λ here ok. target-index c.args.place.now.signals.now (g.B.Bindings.numbers c.args.place.now.bindings.now) c.args.place.now.all.now c.args.place.now.early.now here ok
      c.args.driven c.args.path.now c.args.selects.now c.in-Some.number c.in-Some-signal_at.signal.now c.in-Some.ensures c.in-Some-signal_at.ensures c.in-Err.error
      (c.in-Err.ensures.at here ok).wrong;
}

pub returns-in-Err-picks : goal.returns-in-Err-picks
returns-in-Err-picks g c = record {
  at = λ here ok. target-none c.args.place.now.signals.now (g.B.Bindings.numbers c.args.place.now.bindings.now) c.args.place.now.all.now c.args.place.now.early.now here ok
      c.args.driven c.args.path.now c.args.selects.now c.in-Some.number c.in-Some-signal_at.signal.now c.in-Some.ensures c.in-Some-signal_at.ensures
      c.signal_head-head.result c.in-Err-picks.error c.signal_head-head.ensures (c.in-Err-picks.ensures.at here ok);
}

pub returns-in-Ok-picks : goal.returns-in-Ok-picks
returns-in-Ok-picks g c = record {
  at = λ here ok. target-right c.args.place.now.signals.now (g.B.Bindings.numbers c.args.place.now.bindings.now) c.args.place.now.all.now c.args.place.now.early.now here ok
      c.args.driven c.args.path.now c.args.selects.now c.in-Some.number c.in-Some-signal_at.signal.now c.in-Some.ensures c.in-Some-signal_at.ensures
      c.signal_head-head.result c.in-Ok-picks.found c.aimed.result c.signal_head-head.ensures (c.in-Ok.ensures.at here ok).right (c.in-Ok-picks.ensures.at here ok)
      c.aimed.ensures.ok c.aimed.ensures.err;
}
