use Rattle.std.proofs.Common.{rules, ◌≡◌, [], ◌∙◌, ap, IsTrue}
use Rattle.lv_ast.specs.declared.expr.Expr.TheVariants as e
use Rattle.lv_first.proofs.Gathers.{register_found}
use Rattle.lv_first.proofs.prepare.register_of.Goals as goal

pub returns-else-not-is_empty-2 : goal.returns-else-not-is_empty-2
returns-else-not-is_empty-2 c =
    let bare : IsTrue c.is_empty.result = search rules in
    let plain : IsTrue c.is_empty-in-Name.result = search rules in
    let is : c.args.expr.now ≡ e.Name c.in-Name.path [] = c.in-Name.is ∙ ap (λ z. e.Name c.in-Name.path z) (c.is_empty.ensures.0 bare) in
    register_found c.args.signals.now.registers c.args.signals.now.inputs c.as_slice.result.now c.args.expr.now c.in-Name.path c.find.result
    is (c.is_empty-in-Name.ensures.0 plain) c.as_slice.ensures c.find.ensures
