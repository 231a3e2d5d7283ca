use Rattle.std.proofs.Common.{◌≡◌, ◌<◌, ◌≤◌, length, get_or, subst, Some}
use Rattle.lv_ast.specs.declared.item.Setting.{Setting}
use Rattle.lv_source.specs.Names.{with_name}
use Rattle.lv_source.specs.Scopes.{parameter}
use Rattle.lv_const.specs.Constants.{names_of, entries_here}
use Rattle.lv_const.specs.Wherever.{Wherever}
use Rattle.lv_const.proofs.Declared.{entries-declared}
use Rattle.lv_scopes.specs.Parameters.{IsSound, IsUnset}
use Rattle.lv_scopes.proofs.ParamLaws.{set_first, set_more, set_none, set_named, set_sound}
use Rattle.lv_scopes.proofs.params.set_params.Goals as goal

pub loop-setting-init : goal.loop-setting-init
loop-setting-init c = set_first c.args.consts.now c.args.params.now

pub loop-setting-preserved : goal.loop-setting-preserved
loop-setting-preserved c =
    let s : Setting = c.setting-item.result in
    set_more c.args.consts.now c.loop-setting.consts c.args.params.now c.loop-setting.setting-index s c.loop-setting.invariant
    (subst (λ xs. c.loop-setting.setting-index < length xs) c.as_slice-setting-items.ensures c.loop-setting-test.true)
    (subst (λ xs. s ≡ get_or xs c.loop-setting.setting-index s) c.as_slice-setting-items.ensures c.setting-item.is)
    c.set_own.new.consts c.in-Ok.ensures.added
    (subst (λ v. names_of c.set_own.new.consts ≡
    with_name (names_of c.loop-setting.consts) s.name.name
    (Some (parameter (names_of c.loop-setting.consts) s.name c.args.params.now.signed c.args.params.now.range (names_of c.loop-setting.consts) v)))
    c.get.ensures (c.in-Ok.ensures.named.at (entries_here c.loop-setting.consts) (entries-declared c.loop-setting.consts)))
    (subst (λ v. Wherever (names_of c.loop-setting.consts) (λ here. IsSound here here c.args.params.now.range v)) c.get.ensures c.in-Ok.ensures.sound)

pub returns-in-Err-clause-wrong : goal.returns-in-Err-clause-wrong
returns-in-Err-clause-wrong c =
    let s : Setting = c.setting-item.result in
    set_none c.args.consts.now c.loop-setting.consts c.args.params.now c.loop-setting.setting-index s c.loop-setting.invariant
    (subst (λ xs. c.loop-setting.setting-index < length xs) c.as_slice-setting-items.ensures c.loop-setting-test.true)
    (subst (λ xs. s ≡ get_or xs c.loop-setting.setting-index s) c.as_slice-setting-items.ensures c.setting-item.is)
    c.in-Err.error
    (subst (λ v. Wherever (names_of c.loop-setting.consts) (λ here. IsUnset here here c.args.params.now.range v s.name.place c.in-Err.error))
    c.get.ensures c.in-Err.ensures.wrong)

pub returns-clause-named : goal.returns-clause-named
returns-clause-named c =
    set_named c.args.consts.now c.loop-setting.consts c.args.params.now c.loop-setting.setting-index c.loop-setting.invariant
    (subst (λ xs. length xs ≤ c.loop-setting.setting-index) c.as_slice-setting-items.ensures c.loop-setting-test.false)

pub returns-clause-sound : goal.returns-clause-sound
returns-clause-sound c =
    set_sound c.args.consts.now c.loop-setting.consts c.args.params.now c.loop-setting.setting-index c.loop-setting.invariant
    (subst (λ xs. length xs ≤ c.loop-setting.setting-index) c.as_slice-setting-items.ensures c.loop-setting-test.false)

pub returns-clause-added : goal.returns-clause-added
returns-clause-added c = c.loop-setting.invariant.longer
