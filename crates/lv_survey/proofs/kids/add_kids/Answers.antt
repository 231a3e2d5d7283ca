use Rattle.std.proofs.lemmas.Result.{on_ok_weaker, IfErr-weaker}
use Rattle.lv_ast.specs.declared.item.Source.{Source}
use Rattle.lv_declared.specs.Listing.{counted}
use Rattle.lv_flat.specs.Signals.{declared_all}
use Rattle.lv_resolve.specs.Indices.{Throughout}
use Rattle.lv_children.specs.Children.{IsWithin, AreNoInstances, names_in}
use Rattle.lv_children.specs.Turns.{AreNoTurns}
use Rattle.lv_source.specs.Scopes.{Scope, here_at}
use Rattle.lv_survey.proofs.Telling.{instances_added, instances_refused, turns_added, turns_refused}
use Rattle.lv_survey.proofs.kids.add_kids.Goals as goal

pub returns-in-Instance-clause-right : goal.returns-in-Instance-clause-right
returns-in-Instance-clause-right g c = on_ok_weaker c.add_instances.result
    (λ h. record {
      at = λ source s w p.
          instances_added source s (counted c.args.item.now) c.in-Instance.kind c.in-Instance.settings c.in-Instance.insts c.as_slice.result.now
          c.args.into.now.items c.add_instances.new.into.items c.in-Instance.is c.as_slice.ensures (h source s w);
    })
    c.add_instances.ensures.right

pub returns-in-Instance-clause-wrong : goal.returns-in-Instance-clause-wrong
returns-in-Instance-clause-wrong g c = IfErr-weaker c.add_instances.result
    (λ y. (source : Source) (s : Scope) → IsWithin c.args.modules.now (names_in c.args.around.now) source s →
    AreNoInstances source s c.in-Instance.kind c.in-Instance.settings c.as_slice.result.now y)
    _
    (λ y h. record {
      at = λ source s w p.
          instances_refused source s (counted c.args.item.now) c.in-Instance.kind c.in-Instance.settings c.in-Instance.insts c.as_slice.result.now
          c.args.most y c.in-Instance.is c.as_slice.ensures (h source s w);
    })
    c.add_instances.ensures.wrong

pub returns-in-Loop-clause-right : goal.returns-in-Loop-clause-right
returns-in-Loop-clause-right g c = on_ok_weaker c.add_turns.result
    (λ h. record {
      at = λ source s w p.
          turns_added source s (counted c.args.item.now) c.in-Loop.index c.in-Loop.again c.in-Loop.label c.in-Loop.start c.in-Loop.test c.in-Loop.next
          c.get.result.now c.get-in-Loop.result.now c.get-in-Loop-2.result.now c.in-Loop.items c.in-Loop.is c.get.ensures c.get-in-Loop.ensures
          c.get-in-Loop-2.ensures c.args.most c.args.into.now.items c.add_turns.new.into.items (h.at (here_at s c.args.item.now.before) p);
    })
    c.add_turns.ensures.right

pub returns-in-Loop-clause-wrong : goal.returns-in-Loop-clause-wrong
returns-in-Loop-clause-wrong g c = IfErr-weaker c.add_turns.result
    (λ y. Throughout (declared_all c.args.signals.now) (g.B.Bindings.numbers c.args.bindings.now) (g.B.Indices.indices c.args.bindings.now) c.args.all.now
    c.args.early.now (λ here. AreNoTurns here c.in-Loop.index c.get.result.now c.get-in-Loop.result.now c.in-Loop.again c.get-in-Loop-2.result.now
    c.args.most y))
    _
    (λ y h. record {
      at = λ source s w p.
          turns_refused source s (counted c.args.item.now) c.in-Loop.index c.in-Loop.again c.in-Loop.label c.in-Loop.start c.in-Loop.test c.in-Loop.next
          c.get.result.now c.get-in-Loop.result.now c.get-in-Loop-2.result.now c.in-Loop.items c.in-Loop.is c.get.ensures c.get-in-Loop.ensures
          c.get-in-Loop-2.ensures c.args.most y (h.at (here_at s c.args.item.now.before) p);
    })
    c.add_turns.ensures.wrong
