use Rattle.std.proofs.Common.{sym, subst}
use Rattle.lv_source.specs.Views.{View}
use Rattle.lv_flat.specs.Signals.{declared_all}
use Rattle.lv_extents.specs.Extents.{IsExtent}
use Rattle.lv_rules.specs.Rules.{IsPlace, local_at, unclocked}
use Rattle.lv_rules.proofs.Parts.{unfixed_place, wrong_place, clock_use_place, named_clock_place, late_step_place}
use Rattle.lv_rules.proofs.local.place_in.Goals as goal

pub returns-in-Unfixed : goal.returns-in-Unfixed
returns-in-Unfixed c = subst (λ r. (v : View) → IsExtent (declared_all c.args.signals.now) v c.args.x.now → IsPlace v (local_at r (unclocked (declared_all c.args.signals.now)) v)
    c.told.result) (sym c.in-Unfixed.is)
    (λ v h. unfixed_place (declared_all c.args.signals.now) v c.args.x.now c.is_unfixed.result c.told.result h c.is_unfixed.ensures c.told.ensures)

pub returns-in-WrongKind : goal.returns-in-WrongKind
returns-in-WrongKind c = subst (λ r. (v : View) → IsExtent (declared_all c.args.signals.now) v c.args.x.now → IsPlace v (local_at r (unclocked (declared_all c.args.signals.now)) v)
    c.told-in-WrongKind.result) (sym c.in-WrongKind.is)
    (λ v h. wrong_place (declared_all c.args.signals.now) v c.args.x.now c.is_wrong.result c.told-in-WrongKind.result c.requires h c.is_wrong.ensures c.told-in-WrongKind.ensures)

pub returns-in-ClockUse : goal.returns-in-ClockUse
returns-in-ClockUse c = subst (λ r. (v : View) → IsExtent (declared_all c.args.signals.now) v c.args.x.now → IsPlace v (local_at r (unclocked (declared_all c.args.signals.now)) v)
    c.clock_place.result) (sym c.in-ClockUse.is)
    (λ v h. clock_use_place (declared_all c.args.signals.now) v c.args.x.now c.clock_place.result h c.clock_place.ensures)

pub returns-in-NamedClock : goal.returns-in-NamedClock
returns-in-NamedClock c = subst (λ r. (v : View) → IsExtent (declared_all c.args.signals.now) v c.args.x.now → IsPlace v (local_at r (unclocked (declared_all c.args.signals.now)) v)
    c.named_place.result) (sym c.in-NamedClock.is)
    (λ v h. named_clock_place (declared_all c.args.signals.now) v c.args.x.now c.named_place.result h c.named_place.ensures)

pub returns-in-Nonblocking : goal.returns-in-Nonblocking
returns-in-Nonblocking c = subst (λ r. (v : View) → IsExtent (declared_all c.args.signals.now) v c.args.x.now → IsPlace v (local_at r (unclocked (declared_all c.args.signals.now)) v)
    c.late_place.result) (sym c.in-Nonblocking.is)
    (λ v h. late_step_place (declared_all c.args.signals.now) v c.args.x.now c.late_place.result h c.late_place.ensures)
