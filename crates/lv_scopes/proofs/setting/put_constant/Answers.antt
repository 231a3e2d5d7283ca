use Rattle.std.proofs.Common.{◌≡◌, ◌++◌, ◌∷◌, [], Some, refl, ap, ◌∙◌}
use Rattle.lv_source.specs.Names.{with_name}
use Rattle.lv_const.specs.Constants.{names_of, constant_of}
use Rattle.lv_scopes.proofs.Indexed.{indexed, with_ok}
use Rattle.lv_scopes.proofs.setting.put_constant.Goals as goal

pub returns-clause-named : goal.returns-clause-named
returns-clause-named c =
    with_ok c.put.result (c.put.new.self ≡ c.args.consts.now ++ record { name = c.args.name.now; value = Some c.args.constant } ∷ [])
    (names_of c.put.new.self ≡ with_name (names_of c.args.consts.now) c.args.name.now (Some (constant_of c.args.name.now c.args.constant)))
    (λ e. ap names_of e ∙ indexed c.args.consts.now c.args.name.now c.args.constant (constant_of c.args.name.now c.args.constant) refl) c.put.ensures.added
