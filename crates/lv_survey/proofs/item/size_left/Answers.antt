use Rattle.std.proofs.Common.{sym, subst, Err}
use Rattle.lv_declared.specs.Listing.{counted}
use Rattle.lv_survey.specs.Items.{SizeAnswer}
use Rattle.lv_survey.proofs.Telling.{size_refused}
use Rattle.lv_survey.proofs.item.size_left.Goals as goal

pub returns-in-Err-clause-right : goal.returns-in-Err-clause-right
returns-in-Err-clause-right g c = record {
  at = λ here w. subst (λ y. SizeAnswer here (counted c.args.item.now) c.args.turns c.args.nodes (Err y)) (sym c.too_much.ensures)
      (size_refused (counted c.args.item.now) c.args.turns c.args.nodes here c.in-Err.error (c.in-Err.ensures.right.at here w));
}
