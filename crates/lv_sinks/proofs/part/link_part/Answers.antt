use Rattle.std.proofs.Common.{Some, refl, ap, sym, ◌∙◌}
use Rattle.lv_ast.specs.declared.expr.Expr.{Expr}
use Rattle.lv_links.specs.Linking.{link_of}
use Rattle.lv_sinks.proofs.part.link_part.Goals as goal

pub returns-in-Some : goal.returns-in-Some
returns-in-Some g c = record {
  at = λ here ok s child n q p.
      (c.value_part.ensures.at here ok).at s child (link_of c.args.link.now) n q p (c.in-Some.is ∙ ap (λ (x : Expr). Some x) (sym c.get.ensures)) refl;
}
