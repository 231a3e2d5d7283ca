use Rattle.std.proofs.Common.{subst}
use Rattle.lv_scopes.specs.Parameters.{IsUnset}
use Rattle.lv_symbols.proofs.PartLaws.{given_told}
use Rattle.lv_symbols.proofs.parameter.given_parameter.Goals as goal

pub returns-in-Err-Const-clause-wrong : goal.returns-in-Err-Const-clause-wrong
returns-in-Err-Const-clause-wrong c = record {
  told = record {
    at = λ here near. record {
      at = λ outside far. given_told here outside c.args.range.now c.args.own.now c.args.value.now c.args.name.now.place c.in-Err-Const.error
          ((c.in-Ok.ensures.at here near).at here near).right.sound
          (subst (λ w. IsUnset here outside c.args.range.now c.args.value.now c.args.name.now.place w) c.in-Err-Const.field-0-is
          ((c.in-Err-Const.ensures.wrong.at here near).at outside far));
    };
  };
}
