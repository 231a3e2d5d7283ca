use Rattle.std.proofs.Common.{◌≡◌, sym, ◌∙◌, subst, Some}
use Rattle.lv_const.specs.Constants.{names_of}
use Rattle.lv_const.specs.declared.error.ConstError.TheVariants as y
use Rattle.lv_flat.specs.Signals.{declared_all}
use Rattle.lv_resolve.proofs.LateLaws.{are-bound}
use Rattle.lv_headers.specs.Headers.{IsFaulty}
use Rattle.lv_headers.proofs.TurnPlaces.{hidden-index}
use Rattle.lv_headers.proofs.LateTurns.{where-told, late-header-told, late-header-never}
use Rattle.lv_headers.proofs.HeaderLaws.{header-range, header-zero}
use Rattle.lv_headers.proofs.fault.fault_of.Goals as goal

pub returns-in-Range-clause-right : goal.returns-in-Range-clause-right
returns-in-Range-clause-right g c genvar = record {
  at = λ here ok i h. header-range here c.args.index.now c.args.start.now c.args.test.now c.args.next.now c.in-Range.at c.args.error c.in-Range.is h;
}

pub returns-in-ZeroDivisor-clause-right : goal.returns-in-ZeroDivisor-clause-right
returns-in-ZeroDivisor-clause-right g c genvar = record {
  at = λ here ok i h. header-zero here c.args.index.now c.args.start.now c.args.test.now c.args.next.now c.in-ZeroDivisor.at c.args.error c.in-ZeroDivisor.is h;
}

pub returns-in-Ok-Some-clause-right : goal.returns-in-Ok-Some-clause-right
returns-in-Ok-Some-clause-right g c genvar = record {
  at = λ here ok i h. late-header-told (declared_all c.args.signals.now) (g.B.Bindings.numbers c.args.bindings.now) (names_of c.args.all.now) (names_of c.args.early.now)
      here (are-bound (declared_all c.args.signals.now) (g.B.Bindings.numbers c.args.bindings.now) c.args.all.now c.args.early.now here ok.names) c.args.index.now
      (hidden-index (g.B.Indices.indices c.args.bindings.now) c.args.all.now here ok.indexed c.args.index.now.name genvar i)
      c.args.start.now c.args.test.now c.args.next.now c.in-NoValue.at c.in-Ok-Some.error (sym c.in-Ok-Some.field-0-is ∙ c.in-Ok-Some.ensures.right)
      (where-told here c.args.index.now c.args.start.now c.args.test.now c.args.next.now (y.NoValue c.in-NoValue.at)
      (subst (IsFaulty here c.args.index.now.name c.args.start.now c.args.test.now c.args.next.now) c.in-NoValue.is h));
}

pub returns-in-Ok-None-clause-right : goal.returns-in-Ok-None-clause-right
returns-in-Ok-None-clause-right g c genvar = record {
  at = λ here ok i h. absurd (late-header-never (declared_all c.args.signals.now) (g.B.Bindings.numbers c.args.bindings.now) (names_of c.args.all.now)
      (names_of c.args.early.now) here
      (are-bound (declared_all c.args.signals.now) (g.B.Bindings.numbers c.args.bindings.now) c.args.all.now c.args.early.now here ok.names) c.args.index.now
      (hidden-index (g.B.Indices.indices c.args.bindings.now) c.args.all.now here ok.indexed c.args.index.now.name genvar i)
      c.args.start.now c.args.test.now c.args.next.now c.in-NoValue.at (sym c.in-Ok-None.field-0-is ∙ c.in-Ok-None.ensures.right)
      (where-told here c.args.index.now c.args.start.now c.args.test.now c.args.next.now (y.NoValue c.in-NoValue.at)
      (subst (IsFaulty here c.args.index.now.name c.args.start.now c.args.test.now c.args.next.now) c.in-NoValue.is h)));
}
