use Rattle.std.proofs.Common.{false, refl}
use Rattle.lv_source.specs.Sites.{walk}
use Rattle.lv_flat.specs.Signals.{declared_all}
use Rattle.lv_resolve.specs.Forms.{read_sites, has_operands}
use Rattle.lv_resolve.proofs.Answered.{typed, untyped}
use Rattle.lv_resolve.proofs.resolve.own_type.Goals as goal

pub returns-in-Err : goal.returns-in-Err
returns-in-Err g c = record {
  at = λ here ok. untyped here c.args.expr.now c.in-Err.error (c.in-Err.ensures.at here ok).wrong;
}

pub returns-in-Ok : goal.returns-in-Ok
returns-in-Ok g c = record {
  at = λ here ok. typed here (declared_all c.args.place.now.signals.now) (read_sites false (walk here.names c.args.expr.now)) c.args.expr.now (has_operands c.args.expr.now)
      c.in-Ok.found _ (c.in-Ok.ensures.at here ok).right refl refl;
}
