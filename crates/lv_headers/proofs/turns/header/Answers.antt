use Rattle.std.proofs.Common.{◌≡◌, inl, sym, subst}
use Rattle.lv_const.specs.Constants.{entries_here}
use Rattle.lv_flat.specs.Signals.{declared_all}
use Rattle.lv_resolve.specs.Indices.{IsAt}
use Rattle.lv_scopes.specs.Headers.{AreNoTurns, AreTurns}
use Rattle.lv_headers.proofs.HeaderLaws.{turns-faultless, index-found}
use Rattle.lv_const.proofs.Declared.{entries-declared}
use Rattle.lv_headers.proofs.turns.header.Goals as goal

pub returns-in-Ok-clause-few : goal.returns-in-Ok-clause-few
returns-in-Ok-clause-few g c = (c.in-Ok.ensures.right.at (entries_here c.args.early.now) (entries-declared c.args.early.now)).right.few

pub returns-in-Ok-clause-right : goal.returns-in-Ok-clause-right
returns-in-Ok-clause-right g c = record {
  at = λ here ok.
      let a : AreTurns here c.args.index.now.name c.args.start.now c.args.test.now c.args.next.now c.args.most c.in-Ok.turns = (c.in-Ok.ensures.right.at here ok.names.ahead).right in
      record {
        right = record {
          turns = a.are;
          few = a.few;
          faultless = turns-faultless here c.args.index.now c.args.start.now c.args.test.now c.args.next.now c.args.most c.in-Ok.turns a;
          named = (c.in_default.ensures here ok.indexed).right;
        };
        wrong = tt;
      };
}

pub returns-in-Err-Const-clause-right : goal.returns-in-Err-Const-clause-right
returns-in-Err-Const-clause-right g c = record {
  at = λ here ok. record {
    right = tt;
    wrong = inl ((c.fault_of.ensures.right c.args.genvar).at here
        (subst (λ es. IsAt (declared_all c.args.signals.now) (g.B.Bindings.numbers c.args.bindings.now) (g.B.Indices.indices c.args.bindings.now) c.args.all.now es here)
        (sym c.in-Err-Const.ensures.same) ok)
        (index-found c.args.genvar here.names c.args.index.now c.args.again.now (c.in_default.ensures here ok.indexed).right)
        (subst (AreNoTurns here c.args.index.now.name c.args.start.now c.args.test.now c.args.next.now c.args.most) c.in-Err-Const.field-0-is
        (c.in-Err-Const.ensures.right.at here ok.names.ahead).wrong));
  };
}
