use Rattle.std.proofs.Common.{flat_map, ap, ◌∙◌, subst, arith}
use Rattle.std.proofs.lemmas.Result.{IfOk-weaker}
use Rattle.lv_const.proofs.Lists.{take-whole}
use Rattle.lv_source.specs.Scopes.{override_by}
use Rattle.lv_symbols.specs.Giving.{AreGiven}
use Rattle.lv_links.specs.Linking.{all_links}
use Rattle.lv_links.proofs.GivenLaws.{overrides-given}
use Rattle.lv_links.proofs.given.givens_of.Goals as goal

pub returns : goal.returns
returns c = IfOk-weaker c.new.result _ _ (λ g h there.
    overrides-given there c.loop-setting.list.items g (flat_map (override_by there) (all_links c.args.settings.now)) (subst (λ xs. AreGiven xs g) c.deref.ensures.value h)
    (c.loop-setting.invariant there ∙ ap (λ xs. flat_map (override_by there) (all_links xs)) (take-whole c.args.settings.now c.loop-setting.setting-index (omega arith))))
    c.new.ensures
