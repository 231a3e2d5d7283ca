use Rattle.std.proofs.Common.{◌≡◌, ◌-◌, ◌≤◌, List, length, sym, subst, refl, arith, rules}
use Rattle.std.proofs.lemmas.Grind.{common_steps}
use Rattle.std.proofs.lemmas.Result.{on_ok_weaker}
use Rattle.lv_declared.specs.Listing.{counted}
use Rattle.lv_flat.specs.Signals.{declared_all}
use Rattle.lv_source.specs.Scopes.{here_at}
use Rattle.lv_sizes.proofs.LeftLaws.{moved-at}
use Rattle.lv_children.specs.declared.child.Child.{Child}
use Rattle.lv_survey.specs.Items.{AreNoKids, AreKids}
use Rattle.lv_survey.proofs.Growing.{grows, is_grown, size_not_grown, kids_not_grown}
use Rattle.lv_survey.proofs.item.survey_item.Goals as goal

pub returns-in-Err-clause-wrong : goal.returns-in-Err-clause-wrong
returns-in-Err-clause-wrong g c = record {
  at = λ source s w p. size_not_grown source s (counted c.args.item.now) c.args.found.now c.args.room c.in-Err.error
      ((c.in-Err.ensures.right.at (here_at s c.args.item.now.before) p).wrong source s refl);
}

pub returns-in-Err-kids-clause-wrong : goal.returns-in-Err-kids-clause-wrong
returns-in-Err-kids-clause-wrong g c =
    let most : c.saturating_sub-most.result ≡ c.args.room - length c.args.found.now.children.items = first_of (search rules, grind (arith, common_steps)) in
    record {
      at = λ source s w p. kids_not_grown source s (counted c.args.item.now) c.args.found.now c.args.room c.in-Err-kids.error
          (subst (λ n. AreNoKids n source s (counted c.args.item.now) c.in-Err-kids.error) most
          (c.in-Err-kids.ensures.wrong.at source s w (moved-at (declared_all c.args.signals.now) (g.B.Bindings.numbers c.args.bindings.now)
          (g.B.Indices.indices c.args.bindings.now) c.args.all.now c.args.early.now c.size_left.new.all c.size_left.new.early (here_at s c.args.item.now.before) c.in-Ok.ensures.all c.in-Ok.ensures.early p)));
    }

pub returns-in-Ok-kids-clause-list : goal.returns-in-Ok-kids-clause-list
returns-in-Ok-kids-clause-list g c =
    let most : c.saturating_sub-most.result ≡ c.args.room - length c.args.found.now.children.items = first_of (search rules, grind (arith, common_steps)) in
    let few : length c.as_slice.result.now ≤ c.args.room - length c.args.found.now.children.items =
    subst (λ (ks : List Child). length ks ≤ c.args.room - length c.args.found.now.children.items) (sym c.as_slice.ensures.value)
    (subst (λ n. length c.in-Ok-kids.kids.items ≤ n) most c.in-Ok-kids.ensures.few) in
    on_ok_weaker c.put_item.result
    (λ p. grows c.args.number c.args.item.now.before c.as_slice.result.now c.in-Ok.left c.args.found.now c.put_item.new.found p c.args.room few
    c.in-Ok.ensures.turns c.in-Ok.ensures.nodes)
    c.put_item.ensures.right

pub returns-in-Ok-kids-clause-right : goal.returns-in-Ok-kids-clause-right
returns-in-Ok-kids-clause-right g c = on_ok_weaker c.put_item.result
    (λ h. record {
      at = λ source s w p.
          is_grown c.args.number c.args.item.now.before c.as_slice.result.now c.in-Ok.left c.args.found.now c.put_item.new.found h source s c.args.item.now.item.now
          ((c.in-Ok.ensures.right.at (here_at s c.args.item.now.before) p).right s refl)
          (subst (AreKids source s (counted c.args.item.now)) (sym c.as_slice.ensures.value)
          (c.in-Ok-kids.ensures.right.at source s w (moved-at (declared_all c.args.signals.now) (g.B.Bindings.numbers c.args.bindings.now)
          (g.B.Indices.indices c.args.bindings.now) c.args.all.now c.args.early.now c.size_left.new.all c.size_left.new.early (here_at s c.args.item.now.before) c.in-Ok.ensures.all c.in-Ok.ensures.early p)));
    })
    c.put_item.ensures.right
