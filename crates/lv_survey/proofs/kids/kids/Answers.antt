use Rattle.std.proofs.Common.{sym, subst}
use Rattle.lv_declared.specs.Listing.{counted}
use Rattle.lv_survey.specs.Items.{AreNoKids}
use Rattle.lv_survey.proofs.Growing.{from_none}
use Rattle.lv_survey.proofs.kids.kids.Goals as goal

pub returns-in-Err-clause-wrong : goal.returns-in-Err-clause-wrong
returns-in-Err-clause-wrong g c = record {
  at = λ source s w p. subst (AreNoKids c.args.most source s (counted c.args.item.now)) (sym c.told.ensures) (c.in-Err.ensures.wrong.at source s w p);
}

pub returns-clause-right : goal.returns-clause-right
returns-clause-right g c = record {
  at = λ source s w p. from_none source s (counted c.args.item.now) c.new-found.result.items c.add_kids.new.into.items c.new-found.ensures.items
      (c.in-Ok.ensures.right.at source s w p);
}
