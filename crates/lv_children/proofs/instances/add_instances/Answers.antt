use Rattle.std.proofs.Common.{List, sym, ap, ◌∙◌, subst}
use Rattle.std.specs.Prelude.{bytes_eq}
use Rattle.std.specs.Borrow.{Bor}
use Rattle.std.specs.Option.{option_copied}
use Rattle.lv_ast.specs.Names.{Name}
use Rattle.lv_source.proofs.Tests.{any-map}
use Rattle.lv_ast.specs.declared.item.Conn.{Conn}
use Rattle.lv_source.specs.Scopes.{settable_in, is_among}
use Rattle.lv_scopes.specs.Modules.{module_in}
use Rattle.lv_links.specs.Linking.{AreLinked, IsLinkError}
use Rattle.lv_children.specs.Children.{AreNoInstances}
use Rattle.lv_children.proofs.Answering.{are_none, are_instances, recurs}
use Rattle.lv_children.proofs.instances.add_instances.Goals as goal

pub returns-in-Err-clause-wrong : goal.returns-in-Err-clause-wrong
returns-in-Err-clause-wrong c = λ source s w.
    subst (λ y. AreNoInstances source s c.args.kind.now c.args.settings.now c.args.insts.now y) (sym c.told.ensures)
    (are_none source s c.args.kind.now c.args.settings.now c.args.insts.now c.in-Some.module.now
    (ap (λ ms. module_in ms c.args.kind.now.name) w.modules_are ∙
    (ap (λ n. module_in c.args.modules.now n) (sym c.bytes.ensures) ∙ (sym c.find.ensures ∙ ap option_copied c.in-Some.is)))
    c.in-Err.error (subst (λ (ss : List Conn). IsLinkError (settable_in c.in-Some.module.now) ss c.in-Err.error) c.as_slice.ensures c.in-Err.ensures.wrong))

pub returns-then-is_around-clause-wrong : goal.returns-then-is_around-clause-wrong
returns-then-is_around-clause-wrong c = λ source s w.
    recurs source s c.args.kind.now c.args.settings.now c.args.insts.now c.in-Some.module.now
    (ap (λ ms. module_in ms c.args.kind.now.name) w.modules_are ∙
    (ap (λ n. module_in c.args.modules.now n) (sym c.bytes.ensures) ∙ (sym c.find.ensures ∙ ap option_copied c.in-Some.is)))
    (ap (λ ns. is_among ns c.in-Some.module.now.name.name) w.around_are ∙
    (sym (any-map (bytes_eq c.in-Some.module.now.name.name) (λ (b : Bor Name). b.now) c.args.around.now) ∙ (sym c.is_around.ensures ∙ c.if-is_around.true)))

pub returns-in-Ok-clause-right : goal.returns-in-Ok-clause-right
returns-in-Ok-clause-right c = λ source s w.
    are_instances source s c.args.kind.now c.args.settings.now c.args.insts.now c.in-Some.module.now
    (ap (λ ms. module_in ms c.args.kind.now.name) w.modules_are ∙
    (ap (λ n. module_in c.args.modules.now n) (sym c.bytes.ensures) ∙ (sym c.find.ensures ∙ ap option_copied c.in-Some.is)))
    (ap (λ ns. is_among ns c.in-Some.module.now.name.name) w.around_are ∙ (sym (any-map (bytes_eq c.in-Some.module.now.name.name) (λ (b : Bor Name). b.now) c.args.around.now) ∙ (sym c.is_around.ensures ∙ c.if-is_around.false)))
    c.in_default-link_settings.field-0.items
    (subst (λ (ss : List Conn). AreLinked (settable_in c.in-Some.module.now) ss c.in_default-link_settings.field-0.items) c.as_slice.ensures c.in_default-link_settings.ensures.right)
    c.args.into.now.items c.add.new.into.items c.in-Ok.ensures
