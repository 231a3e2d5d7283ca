use Rattle.std.proofs.Common.{refl, subst}
use Rattle.lv_rules.specs.Rules.{IsToldBy}
use Rattle.lv_legal.proofs.Kept.{spot_some}
use Rattle.lv_legal.proofs.spot.placed.Goals as goal

pub returns-in_ok-path-in-Some : goal.returns-in_ok-path-in-Some
returns-in_ok-path-in-Some c = λ S rule h.
    spot_some S c.args.extents.now rule c.in-Some.t (record { path = c.in_ok-path-in-Some.path; place = c.in-Some.t.place }) c.in_ok-path-in-Some.ensures refl
    (subst (IsToldBy S c.args.extents.now rule) c.in-Some.is h)
