use Rattle.std.proofs.Common.{◌≡◌, ◌++◌, ◌∷◌, [], Some, ap, ◌∙◌}
use Rattle.lv_source.specs.Effect.{with_index}
use Rattle.lv_const.specs.Constants.{names_of}
use Rattle.lv_scopes.proofs.Indexed.{with_ok}
use Rattle.lv_scopes.proofs.turns.set_index.Goals as goal

pub returns-clause-named : goal.returns-clause-named
returns-clause-named c =
    with_ok c.put.result (c.put.new.self ≡ c.args.consts.now ++ record { name = c.args.index.now; value = Some c.index_const-constant.result } ∷ [])
    (names_of c.put.new.self ≡ with_index (names_of c.args.consts.now) c.args.index.now c.args.value)
    (λ e. ap names_of e ∙ c.index_const-constant.ensures c.args.consts.now c.args.index.now) c.put.ensures.added
