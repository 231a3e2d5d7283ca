use Rattle.std.proofs.Common.{sym, subst}
use Rattle.lv_order.specs.Graphs.{graph, IsSorted}
use Rattle.lv_order.specs.Walks.{IsEnd, IsOver, IsMet}
use Rattle.lv_order.proofs.Steps.{over-sorted}
use Rattle.lv_order.proofs.Rings.{ring-cycle}
use Rattle.lv_order.proofs.sorting.order.Goals as goal

pub returns-in-None : goal.returns-in-None
returns-in-None c =
    let o : IsOver (graph c.args.edges.now) c.run.new.self = subst (IsEnd (graph c.args.edges.now) c.run.new.self) c.in-None.is c.in_ok-run.ensures in
    subst (λ z. IsSorted (graph c.args.edges.now) z.items) (sym c.into_list.ensures)
    (over-sorted (graph c.args.edges.now) c.run.new.self.states.items c.run.new.self.path.items c.run.new.self.list.items c.run.new.self.root o.walk o.empty o.root)

pub returns-in_ok-list-in-Some : goal.returns-in_ok-list-in-Some
returns-in_ok-list-in-Some c =
    let m : IsMet (graph c.args.edges.now) c.run.new.self.path.items c.in-Some.v =
    subst (IsEnd (graph c.args.edges.now) c.run.new.self) c.in-Some.is c.in_ok-run.ensures in
    ring-cycle (graph c.args.edges.now) c.path.result.now c.in-Some.v c.in_ok-list-in-Some.list.items
    (subst (λ z. IsMet (graph c.args.edges.now) z c.in-Some.v) (sym c.path.ensures) m) c.in_ok-list-in-Some.ensures
