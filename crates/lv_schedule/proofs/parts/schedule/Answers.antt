use Rattle.std.proofs.Common.{length, ap, sym, subst, ◌∙◌}
use Rattle.std.specs.Prelude.{filter, nat_lt}
use Rattle.lv_flat.specs.Signals.{declared_all}
use Rattle.lv_order.specs.Graphs.{graph, IsGraph, IsSorting, IsSorted, IsCycle}
use Rattle.lv_schedule.specs.Drivers.{is_unclocked}
use Rattle.lv_schedule.specs.Hubs.{IsHubGraph}
use Rattle.lv_schedule.specs.Tables.{hubs_of}
use Rattle.lv_schedule.specs.Plans.{IsPlanned, IsCircle}
use Rattle.lv_schedule.proofs.Planned.{planned, circle}
use Rattle.lv_schedule.proofs.parts.schedule.Goals as goal

pub order-requires : goal.order-requires
order-requires c = subst (λ z. IsGraph (graph z)) (sym c.as_slice-2.ensures.value) c.in_ok-edges.ensures.graph

pub returns-in-Sorted : goal.returns-in-Sorted
returns-in-Sorted c = λ vs a.
    let g : IsHubGraph (hubs_of c.args.extents.now (length c.args.signals.now)) (graph c.as_slice-2.result.now) =
    subst (λ z. IsHubGraph (hubs_of c.args.extents.now (length c.args.signals.now)) (graph z)) (sym c.as_slice-2.ensures.value) c.in_ok-edges.ensures in
    let s : IsSorted (graph c.as_slice-2.result.now) c.in-Sorted.list.items = subst (IsSorting (graph c.as_slice-2.result.now)) c.in-Sorted.is c.in_ok-list.ensures in
    subst (IsPlanned vs) (sym (c.in_ok-parts-in-Sorted.ensures ∙ ap (filter (is_unclocked c.args.extents.now)) c.as_slice-in-Sorted.ensures.value))
    (planned (declared_all c.args.signals.now) vs c.args.extents.now (length c.args.signals.now) (graph c.as_slice-2.result.now) a g c.in-Sorted.list.items s)

pub returns : goal.returns
returns c = λ vs a.
    let g : IsHubGraph (hubs_of c.args.extents.now (length c.args.signals.now)) (graph c.as_slice-2.result.now) =
    subst (λ z. IsHubGraph (hubs_of c.args.extents.now (length c.args.signals.now)) (graph z)) (sym c.as_slice-2.ensures.value) c.in_ok-edges.ensures in
    let s : IsCycle (graph c.as_slice-2.result.now) c.in-Cycle.list.items = subst (IsSorting (graph c.as_slice-2.result.now)) c.in-Cycle.is c.in_ok-list.ensures in
    subst (IsCircle vs) (sym (c.in_ok-parts-in-Cycle.ensures ∙ ap (filter (λ v. nat_lt v (length c.args.extents.now))) c.as_slice-in-Cycle.ensures.value))
    (circle (declared_all c.args.signals.now) vs c.args.extents.now (length c.args.signals.now) (graph c.as_slice-2.result.now) a g c.in-Cycle.list.items s)
