use Rattle.std.proofs.Common.{ap, ◌∙◌, Some}
use Rattle.lv_source.specs.Names.{with_name}
use Rattle.lv_const.specs.Constants.{names_of}
use Rattle.lv_scopes.proofs.setting.set_own.Goals as goal

pub returns-in-Ok-put_constant-clause-named : goal.returns-in-Ok-put_constant-clause-named
returns-in-Ok-put_constant-clause-named c = record {
  at = λ here ok. c.in-Ok-put_constant.ensures.named ∙ ap (λ d. with_name (names_of c.args.consts.now) c.args.name.now.name (Some d))
      (((c.in-Ok.ensures.at here ok).at here ok).right.is c.args.name.now);
}

pub returns-in-Ok-put_constant-clause-sound : goal.returns-in-Ok-put_constant-clause-sound
returns-in-Ok-put_constant-clause-sound c = record { at = λ here ok. ((c.in-Ok.ensures.at here ok).at here ok).right.sound }

pub returns-in-Err-clause-wrong : goal.returns-in-Err-clause-wrong
returns-in-Err-clause-wrong c = record { at = λ here ok. ((c.in-Err.ensures.at here ok).at here ok).wrong }
